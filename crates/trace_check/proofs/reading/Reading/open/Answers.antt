use Rattle.std.proofs.Common.{refl, subst}
use Rattle.trace_check.specs.Shows.{Shows}
use Rattle.trace_check.proofs.reading.Reading.open.Goals as goal
use Rattle.unit_model.specs.Opening.{opened_core}
use Rattle.unit_model.specs.declared.shape.Shape.{Shape}

pub returns-clause-follows : goal.returns-clause-follows
returns-clause-follows c = record {
  core = let P : Shape → Type 0 = λ shape. Shows (opened_core shape) c.in_ok-open.field-0 in subst P c.plain_shape-shape.ensures.value c.in_ok-open.ensures;
  steps = refl;
  lines = refl;
  place = refl;
  text = c.new.ensures.items;
}
