-- What each step of a call adds to what a machine holds.
use Rattle.std.proofs.Common.{ℕ, ◌≡◌, ◌≤◌, ◌⊎◌, inl, inr, arith, refl, sym, ap, ◌∙◌, subst, List, [], ◌∷◌, ◌++◌, append-nil, length, drop, Bool, true, false, if◌then◌else◌, Option, Some, None, Result, Ok, Err, OnOk, OnErr}
use Rattle.std.proofs.lemmas.List.{drop-append-le}
use Rattle.std.proofs.lemmas.Bool.Decides.{Decides-eqb}
use Rattle.std.specs.Option.{option_or}
use Rattle.conn_machine.specs.declared.pending.Pending.{Pending}
use Rattle.conn_machine.specs.declared.receipt.Kind.{Kind}
use Rattle.conn_machine.specs.Settling.{Grows, IsBehind, has_met, recovered, taken_up_in}
use Rattle.conn_machine.specs.Shows.{Held, IsAfter, ended_with}
use Rattle.conn_machine.specs.States.{Numbered}
use Rattle.conn_machine.specs.Turns.{receipt_of}
use Rattle.conn_machine.proofs.BackLemmas.{behind_same, grows_both}

pub met_same : (met : Option Numbered) (current : Numbered) → IsAfter met current → has_met current.0 met ≡ true → met ≡ Some current
met_same None current after is = absurd (cc is)
met_same (Some m) current after is = ap Some ((after m refl).1 ((Decides-eqb m.0 current.0).0 is))

pub grows_lines : (m : Held) (more : List ℕ) → Grows m (record m { lines = m.lines ++ more })
grows_lines m more = record {
  listener = refl;
  from = refl;
  to = refl;
  ended = refl;
  given_up = refl;
  reader = refl;
  met = λ bound is. is;
  out = behind_same m.out;
  lines = (more, refl);
  receipts = behind_same m.receipts;
}

pub grows_pending : (m : Held) (p : Option Pending) → Grows m (record m { pending = p })
grows_pending m p = record {
  listener = refl;
  from = refl;
  to = refl;
  ended = refl;
  given_up = refl;
  reader = refl;
  met = λ bound is. is;
  out = behind_same m.out;
  lines = behind_same m.lines;
  receipts = behind_same m.receipts;
}

pub grows_ended : (m : Held) (number stream : ℕ) (kind : Kind) → Grows m (ended_with number stream kind m)
grows_ended m number stream kind = record {
  listener = refl;
  from = refl;
  to = refl;
  ended = refl;
  given_up = refl;
  reader = refl;
  met = λ bound is. is;
  out = behind_same m.out;
  lines = behind_same m.lines;
  receipts = (receipt_of number stream kind ∷ [], refl);
}

pub grows_taken : (m : Held) (current : Numbered) → IsAfter m.met current → Grows m (taken_up_in current m)
grows_taken m current after = record {
  listener = refl;
  from = refl;
  to = refl;
  ended = refl;
  given_up = refl;
  reader = refl;
  met = λ bound is. by bound is (has_met current.0 m.met) refl;
  out = behind_same m.out;
  lines = behind_same m.lines;
  receipts = behind_same m.receipts;
}
  where
    by : (bound : Numbered) → recovered m ≡ Some bound → (b : Bool) → has_met current.0 m.met ≡ b
        → option_or (if has_met current.0 m.met then m.former else recovered m) (Some current) ≡ Some bound
    by bound is true met =
        ap (λ b. option_or (if b then m.former else recovered m) (Some current)) met
        ∙ ap (option_or m.former) (sym (met_same m.met current after met)) ∙ is
    by bound is false met =
        ap (λ b. option_or (if b then m.former else recovered m) (Some current)) met
        ∙ ap (λ o. option_or o (Some current)) is

-- what the reader has read is taken up
pub grows_up : (old mid up : Held) (current : Numbered) → Grows old mid → mid.met ≡ old.met → IsAfter old.met current
    → up ≡ taken_up_in current mid → Grows old up
grows_up old mid up current grows same after is =
    subst (λ (m : Held). Grows old m) (sym is)
    (grows_both old mid (taken_up_in current mid) grows (grows_taken mid current (subst (λ o. IsAfter o current) (sym same) after)))

-- ---- as calls tell it

-- what a reply adds, where it is written and where it isn't
pub behind_result : {A T E : Type 0} (r : Result T E) (xs more ys : List A) → OnOk r (ys ≡ xs ++ more) → OnErr r (ys ≡ xs) → IsBehind xs ys
behind_result (Ok x) xs more ys is same = (more, is)
behind_result (Err e) xs more ys is same = ([], same ∙ sym (append-nil xs))

-- of what is held, the bytes that aren't written
pub grows_behind : (m : Held) (old new : List ℕ) (n : ℕ) → m.out ≡ drop n old → n ≤ length old → IsBehind old new
    → Grows m (record m { out = drop n new })
grows_behind m old new n is within behind = record {
  listener = refl;
  from = refl;
  to = refl;
  ended = refl;
  given_up = refl;
  reader = refl;
  met = λ bound is. is;
  out = (behind.0, ap (drop n) behind.1 ∙ drop-append-le n old behind.0 within ∙ ap (λ front. front ++ behind.0) (sym is));
  lines = behind_same m.lines;
  receipts = behind_same m.receipts;
}

-- ---- a configuration that may come next

pub after_self : (current : Numbered) → IsAfter (Some current) current
after_self current m is =
    let same : current ≡ m = cc is in (subst (λ (x : Numbered). x.0 ≤ current.0) same (omega arith), λ e. sym same)

pub after_either : (old new : Option Numbered) (current next : Numbered) → (new ≡ old) ⊎ (new ≡ Some current)
    → IsAfter old next → IsAfter (Some current) next → IsAfter new next
after_either old new current next (inl same) after later = subst (λ o. IsAfter o next) (sym same) after
after_either old new current next (inr same) after later = subst (λ o. IsAfter o next) (sym same) later

pub either_on : (first old new : Option Numbered) (current : Numbered) → (old ≡ first) ⊎ (old ≡ Some current) → (new ≡ old) ⊎ (new ≡ Some current)
    → (new ≡ first) ⊎ (new ≡ Some current)
either_on first old new current before (inr same) = inr same
either_on first old new current (inl before) (inl same) = inl (same ∙ before)
either_on first old new current (inr before) (inl same) = inr (same ∙ before)
