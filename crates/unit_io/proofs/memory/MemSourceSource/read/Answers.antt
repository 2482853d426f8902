use Rattle.std.proofs.Common.{rules, refl, sym, ap, ◌∙◌, ◌+◌, drop}
use Rattle.std.proofs.lemmas.Option.{same_Some}
use Rattle.unit_io.specs.Memory.{Script}
use Rattle.unit_io.proofs.Moves.{moved}
use Rattle.unit_io.proofs.memory.MemSourceSource.read.Goals as goal

-- src/memory.rt
pub returns-clause-bytes : goal.returns-clause-bytes
returns-clause-bytes c left is = (
  drop (c.self.inside.at + c.min-n.result) c.self.inside.content,
  sym (same_Some _ left is) ∙ ap (λ (s : Script). s.left) (sym c.self.view_is)
      ∙ moved c.self.inside.content _ c.self.inside.at c.min-n.result (search rules),
  refl,
)
