use Rattle.std.proofs.Common.{rules}
use Rattle.conf_tree.proofs.Views.{data_of-Object}
use Rattle.conf_tree.proofs.+copy.Goals as goal

pub tree::Tree::copy-returns-in_ok-copy-in-Object : goal.tree::Tree::copy-returns-in_ok-copy-in-Object
tree::Tree::copy-returns-in_ok-copy-in-Object t c = search (rules, data_of-Object)
