use Rattle.std.proofs.Common.{ℕ, ◌<◌, List, [], ◌∷◌, ◌++◌, length, map, take, sym, subst, arith, get_or}
use Rattle.std.specs.Borrow.{Bor}
use Rattle.std.proofs.lemmas.List.{map_more, take_all}
use Rattle.unit_serve.specs.Serve.{EachReadsAs}
use Rattle.unit_serve.proofs.Values.{numbers_more}
use Rattle.unit_serve.proofs.words.ports_in.Goals as goal

pub loop-text-preserved : goal.loop-text-preserved
loop-text-preserved c =
    let texts : List (Bor (List ℕ)) = c.args.texts.now in
    let at : ℕ = c.loop-text.text-index in
    let lt : at < length texts = omega (arith, c.loop-text-test.true) in
    let now : Bor (List ℕ) → List ℕ = λ t. t.now in
    let none : Bor (List ℕ) = record { ref_ptr = (0, 0); now = [] } in
    let text : List ℕ = now (get_or texts at none) in
    subst (λ (ts : List (List ℕ)). EachReadsAs 16 ts c.push.new.self.items) (sym (map_more now texts at none lt))
    (subst (EachReadsAs 16 (map now (take at texts) ++ text ∷ [])) (sym c.in_ok-push.ensures.items)
    (numbers_more 16 (map now (take at texts)) c.loop-text.ports.items text c.port_in.result c.loop-text.invariant c.port_in.ensures))

pub returns : goal.returns
returns c =
    subst (λ (ts : List (Bor (List ℕ))). EachReadsAs 16 (map (λ (t : Bor (List ℕ)). t.now) ts) c.loop-text.ports.items)
    (take_all c.loop-text.text-index c.args.texts.now c.loop-text-test.false) c.loop-text.invariant
