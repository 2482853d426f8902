-- What stays true of a seat.
use Rattle.std.proofs.Common.{ℕ, ◌≡◌, ◌+◌, ◌*◌, ◌<◌, ⊎_elim, List, [], ◌∷◌, refl, sym, ap, ◌∙◌, subst, arith}
use Rattle.std.specs.Prelude.{Option, Some, None}
use Rattle.std.proofs.lemmas.Bool.{cases_eq}
use Rattle.std.proofs.lemmas.Option.{none-some}
use Rattle.atomic_table.specs.Table.{Me, rest}
use Rattle.carried_slots.specs.Carried.{content, numbers}
use Rattle.carried_slots.specs.EmptySlots.{without_empty}
use Rattle.carried_slots.proofs.EmptySlots.{empty_is_but}
use Rattle.carried_slots.proofs.Lookups.{content_here, some_content, but_weighs}
use Rattle.unit_model.specs.Sharing.{Holds}
use Rattle.unit_model.specs.Weights.{weigh, is_number, times}
use Rattle.unit_model.proofs.Weights.{is_number_same, is_number_other}
use Rattle.chunk_map.specs.Views.{held_by, open_noted, frees_one}
use Rattle.chunk_map.specs.declared.view.MapEvent.TheVariants.{SawOpen, SawWord, Gained, Missed, Released}
use Rattle.chunk_map.specs.declared.view.MapView.{MapView}
use Rattle.segment_table.specs.Events.{did}
use Rattle.segment_table.specs.Seats.{IsSeat}

module _ {T : Type 0} (me : Me (Option T) MapView) (seat : IsSeat me) where
  pub after_open : (found : ℕ) → found ≡ me.0.segments → IsSeat (did (SawOpen found) me)
  after_open found is = record { weighs = seat.weighs; distinct = seat.distinct; within = seat.within; noted = omega (arith, is) }

  pub after_word : (number found : ℕ) → IsSeat (did (SawWord number found) me)
  after_word number found = record { weighs = seat.weighs; distinct = seat.distinct; within = seat.within; noted = seat.noted }

  pub after_miss : (chunk : ℕ) → IsSeat (did (Missed chunk) me)
  after_miss chunk = record { weighs = seat.weighs; distinct = seat.distinct; within = seat.within; noted = seat.noted }

  pub after_gain : (chunk : ℕ) → chunk < 640 * me.0.segments → times chunk (numbers me.1) ≡ 0 → IsSeat (did (Gained chunk) me)
  after_gain chunk lt none_there = record {
    weighs = λ f. ap (λ (n : ℕ). f chunk + n) (seat.weighs f);
    distinct = λ k. ⊎_elim
        (λ same. omega (arith, ap (is_number k) same, is_number_same k, ap (λ (j : ℕ). times j (numbers me.1)) same, none_there))
        (λ ne. omega (arith, is_number_other k chunk ne, seat.distinct k))
        (cases_eq chunk k);
    within = λ k mine. ⊎_elim
        (λ same. omega (arith, lt, same))
        (λ ne. seat.within k (omega (arith, mine, is_number_other k chunk ne)))
        (cases_eq chunk k);
    noted = seat.noted;
  }

  pub holds_empty : (chunk : ℕ) → content me.1 chunk ≡ Some None → Holds held_by chunk me.0
  holds_empty chunk is = omega (arith, some_content me.1 chunk None is, seat.weighs (is_number chunk))

  pub after_release : (chunk : ℕ) → content me.1 chunk ≡ Some None → IsSeat (did (Released chunk) me)
  after_release chunk is =
      let carried : 0 < times chunk (numbers me.1) = some_content me.1 chunk None is in
      let mine : 0 < weigh (is_number chunk) me.0.held = omega (arith, carried, seat.weighs (is_number chunk)) in
      let less : (f : ℕ → ℕ) → weigh f (numbers (without_empty chunk me.1)) + f chunk ≡ weigh f (numbers me.1) = λ f.
      ap (λ (l : List (ℕ × Option T)). weigh f (numbers l) + f chunk) (empty_is_but chunk me.1 is) ∙ but_weighs f me.1 chunk carried in
      record {
        weighs = λ f. omega (arith, less f, frees_one f chunk me.0.held mine, seat.weighs f);
        distinct = λ k. omega (arith, less (is_number k), seat.distinct k);
        within = λ k still. seat.within k (omega (arith, still, frees_one (is_number k) chunk me.0.held mine));
        noted = seat.noted;
      }

  -- its slots are changed or come into another order
  pub same_numbers : (me' : Me (Option T) MapView) → me'.0 ≡ me.0 → ((f : ℕ → ℕ) → weigh f (numbers me'.1) ≡ weigh f (numbers me.1)) → IsSeat me'
  same_numbers me' view same = record {
    weighs = λ f. same f ∙ seat.weighs f ∙ ap (λ (u : MapView). held_by f u) (sym view);
    distinct = λ k. omega (arith, same (is_number k), seat.distinct k);
    within = λ k mine. omega (arith, seat.within k (subst (λ (u : MapView). Holds held_by k u) view mine), ap (λ (u : MapView). u.segments) view);
    noted = omega (arith, seat.noted, ap open_noted view, ap (λ (u : MapView). u.segments) view);
  }

  pub after_exchange : (me' : Me (Option T) MapView) (chunk : ℕ) (old new : Option T) → me.1 ≡ (chunk, old) ∷ rest me.1 → me' ≡ (me.0, (chunk, new) ∷ rest me.1) → IsSeat me'
  after_exchange me' chunk old new front_is is =
      same_numbers me' (ap (λ (m : Me (Option T) MapView). m.0) is)
      (λ f. ap (λ (m : Me (Option T) MapView). weigh f (numbers m.1)) is ∙ sym (ap (λ (l : List (ℕ × Option T)). weigh f (numbers l)) front_is))

-- where no slot has anything, none is carried
pub nothing_carried : {S : Type 0} (c : List (ℕ × S)) → ((k : ℕ) → content c k ≡ None) → c ≡ []
nothing_carried [] none_there = refl
nothing_carried (x ∷ xs) none_there = absurd (none-some x.1 (sym (none_there x.0) ∙ content_here x xs x.0 refl))
