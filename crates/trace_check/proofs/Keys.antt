-- Numbers as keys of a map.
use Rattle.std.proofs.Common.{◌≡◌, ◌≢◌, ℕ, ◌<◌, ⊎_elim, false, ◌==◌, arith, refl, sym}
use Rattle.std.proofs.lemmas.Bool.{cases_order, eq-eqb, ne_eqb}
use Rattle.std.specs.Cmp.{nat_cmp_is}
use Rattle.std.specs.Ordering.{nat_cmp, is_eq}
use Rattle.std.specs.declared.cmp.Ordering.TheVariants.{Less, Equal, Greater}

pub same_keys : (i k : ℕ) → is_eq (nat_cmp k i) ≡ (i == k)
same_keys i k =
    ⊎_elim
    (λ (e : i ≡ k). rw (← nat_cmp_is k i Equal (sym e), eq-eqb i k e) refl)
    (λ s. ⊎_elim
    (λ (l : i < k). let ne : i ≢ k = omega arith in rw (← nat_cmp_is k i Greater l, ne_eqb i k ne) refl)
    (λ (g : k < i). let ne : i ≢ k = omega arith in rw (← nat_cmp_is k i Less g, ne_eqb i k ne) refl)
    s)
    (cases_order i k)

pub apart_keys : (i k : ℕ) → i ≢ k → is_eq (nat_cmp k i) ≡ false
apart_keys i k ne = rw (same_keys i k, ne_eqb i k ne) refl
