use Rattle.conf_tree.specs.Document.{IsDocument}
use Rattle.conf_tree.specs.View.{data_of}
use Rattle.conf_tree.proofs.tests.removes_by_path.Given as goal

abbrev pub invariant-loop-first : goal.invariant-loop-first
invariant-loop-first g l = IsDocument (data_of l.tree)
