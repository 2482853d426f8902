use Rattle.conf_tree.proofs.LawLemmas.{remove_kept, removed}
use Rattle.conf_tree.proofs.laws.removed_is_gone.Goals as goal

pub returns : goal.returns
returns c = record {
  gone = λ path k before after document is. removed path k before after document is;
  others = λ path other k before after is part. remove_kept path other k before after is part;
}
