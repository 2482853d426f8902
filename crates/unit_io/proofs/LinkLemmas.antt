-- A link over memory, event by event.
use Rattle.std.proofs.Common.{◌≡◌, ℕ, suc, ◌+◌, List, ◌∷◌, [], ◌++◌, length, All, sym, ap, ◌∙◌, subst, arith}
use Rattle.std.proofs.lemmas.List.Elements.{All-tail}
use Rattle.unit_io.specs.MemLink.{numbers_below}

-- what holds of each event holds of each behind the first
pub tail_kept : {X : Type 0} (P : X → Type 0) (old : List X) (e : X) (rest : List X) → old ≡ e ∷ rest → All P old → All P rest
tail_kept P old e rest is all = All-tail P e rest (subst (All P) is all)

pub tail_shorter : {X : Type 0} (old : List X) (e : X) (rest : List X) → old ≡ e ∷ rest → length old ≡ length rest + 1
tail_shorter old e rest is = omega (arith, ap length is)

-- one connection more was handed out
pub handed_more : (n number : ℕ) (contents : List ℕ) → numbers_below n ≡ contents → number ≡ n → numbers_below (n + 1) ≡ contents ++ number ∷ []
handed_more n number contents told is =
    let one : n + 1 ≡ suc n = omega arith in
    ap numbers_below one ∙ ap (λ (xs : List ℕ). xs ++ n ∷ []) told ∙ ap (λ (k : ℕ). contents ++ k ∷ []) (sym is)
