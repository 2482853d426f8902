use Rattle.std.proofs.Common.{ℕ, List, map, take}
use Rattle.std.specs.Borrow.{Bor}
use Rattle.unit_serve.specs.Serve.{EachReadsAs}
use Rattle.unit_serve.proofs.words.ports_in.Given as goal

abbrev pub invariant-loop-text : goal.invariant-loop-text
invariant-loop-text l = EachReadsAs 16 (map (λ (t : Bor (List ℕ)). t.now) (take l.text-index l.texts)) l.ports.items
