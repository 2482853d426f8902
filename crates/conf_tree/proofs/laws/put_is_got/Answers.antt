use Rattle.conf_tree.proofs.LawLemmas.{put_got, put_kept}
use Rattle.conf_tree.proofs.laws.put_is_got.Goals as goal

pub returns : goal.returns
returns c = record {
  got = λ path value before after is. put_got path value before after is;
  others = λ path other value before after is part. put_kept path other value before after is part;
}
