use Rattle.std.proofs.Common.{◌≡◌, drop}
use Rattle.conf_tree.specs.Document.{IsDocument}
use Rattle.conf_tree.specs.Paths.{get}
use Rattle.conf_tree.specs.View.{data_of}
use Rattle.conf_tree.proofs.lookup.get.Given as goal

abbrev pub invariant-loop-key : goal.invariant-loop-key
invariant-loop-key l = record {
  document : IsDocument (data_of l.here);
  found : get (drop l.key-index l.key-items) (data_of l.here) ≡ get l.path (data_of l.tree);
}
