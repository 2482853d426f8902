use Rattle.conf_tree.proofs.LawLemmas.{append_kept, append_stays, appended}
use Rattle.conf_tree.proofs.laws.appended_is_got.Goals as goal

pub returns : goal.returns
returns c = record {
  longer = λ path value before after is. appended path value before after is;
  items = λ path rest k value before after found is had. append_stays path rest k value before after found is had;
  others = λ path other value before after is part. append_kept path other value before after is part;
}
