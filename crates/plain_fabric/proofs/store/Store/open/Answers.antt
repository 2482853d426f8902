use Rattle.std.proofs.Common.{refl, subst}
use Rattle.unit_model.proofs.SoundRuns.{sound_at_first}
use Rattle.unit_model.specs.Opening.{opened_core}
use Rattle.unit_model.specs.declared.shape.Shape.{Shape}
use Rattle.fabric_words.specs.Offsets.{word_in}
use Rattle.fabric_words.specs.Shown.{Shows}
use Rattle.plain_fabric.proofs.store.Store.open.Goals as goal

pub returns-clause-shown : goal.returns-clause-shown
returns-clause-shown g c = record {
  shape_is = refl;
  sound = sound_at_first c.args.shape c.requires.valid;
  shows = subst (λ (s : Shape). Shows (word_in s c.in_ok-words.words.items) (opened_core s)) c.of-layout.ensures c.in_ok-words.ensures.shows;
}
