use Rattle.std.proofs.Common.{◌≡◌, drop, option_map}
use Rattle.std.specs.Option.{option_or}
use Rattle.conf_validate.specs.Ports.{port_text}
use Rattle.conf_validate.proofs.ports.port_text.Given as goal

abbrev pub invariant-loop-at : goal.invariant-loop-at
invariant-loop-at l = port_text l.name ≡ option_or (port_text (drop l.at l.name)) (option_map (λ port. port.now) l.behind)
