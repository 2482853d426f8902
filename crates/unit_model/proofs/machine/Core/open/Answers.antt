use Rattle.std.proofs.Common.{rules, ◌≡◌, sym, subst}
use Rattle.unit_model.specs.Opening.{opened_core}
use Rattle.unit_model.specs.Soundness.{IsSound}
use Rattle.unit_model.specs.declared.machine.Core.{Core}
use Rattle.unit_model.proofs.SoundRuns.{sound_at_first}
use Rattle.unit_model.proofs.machine.Core.open.Goals as goal

pub returns-clause-sound : goal.returns-clause-sound
returns-clause-sound c =
    let core : Core = record { shape = c.args.shape.now; next = 1; opened = record { out = 1; back = 1 }; owners = c.in_ok-free_chunks.field-0; queues = c.of.result; seats = c.in_ok-fresh_seats.field-0 } in
    let same : core ≡ opened_core c.args.shape.now = search rules in
    subst IsSound (sym same) (sound_at_first c.args.shape.now c.requires)
