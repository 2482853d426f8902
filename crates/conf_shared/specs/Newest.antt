-- What the operations of a writer leave.
use Rattle.std.specs.Prelude.{List, fold}
use Rattle.conf_shared.specs.declared.edition.Edition.{Edition}

-- each edition takes the place of what was there before
abbrev pub newest : {B : Type 0} → (Edition → B) → B → List Edition → B
newest of first pending = fold (λ before next. of next) first pending
