-- The answers of validation.
use Rattle.std.specs.Prelude.{◌≡◌, ℕ, List, Some, None, ⊤}
use Rattle.serde_json.specs.Data.{Data}
use Rattle.conf_validate.specs.Configuration.{Configuration, configuration_of}
use Rattle.conf_validate.specs.Valid.{fault_of}
use Rattle.conf_validate.specs.declared.fault.ConfFault.{ConfFault}
use Rattle.conf_validate.specs.declared.fault.ConfFault.TheVariants.{Invalid, Memory}

-- no rule is broken, and the configuration is what the document says
pub record IsConfiguration (document : Data) (handlers : List (List ℕ)) (conf : Configuration) : Type 0 where
  pub valid : fault_of document handlers ≡ None
  pub said : conf ≡ configuration_of document

-- the first broken rule, or want of memory
abbrev pub IsRefusal : Data → List (List ℕ) → ConfFault → Type 0
IsRefusal document handlers (Invalid fault) = fault_of document handlers ≡ Some fault
IsRefusal document handlers Memory = ⊤
