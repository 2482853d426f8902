-- One parcel of a request in the chunk that a test claims.
use Rattle.std.proofs.Common.{ℕ, ◌+◌, ◌≡◌, List, [], ◌∷◌, length, slice_get, Some, refl, sym, ap, ◌∙◌, subst, arith}
use Rattle.std.specs.Prelude.{Option}
use Rattle.std.proofs.lemmas.List.{append-nil}
use Rattle.carried_slots.specs.Carried.{content}
use Rattle.carried_slots.specs.RunSlots.{HasValues}
use Rattle.port_message.specs.Words.{numbers_of}
use Rattle.request_context.specs.Parcels.{joined}
use Rattle.request_context.specs.Record.{HasRecord, request_record}
use Rattle.request_context.specs.declared.asked.Asked.{Asked}
use Rattle.request_context.specs.declared.piece.Parcel.{Parcel}
use Rattle.request_context.specs.declared.piece.Parcel.TheVariants.{Ask}
use Rattle.fabric_rule.specs.Told.{CarriesRequest}

module _ {H : Type 0} (text : List ℕ) where
  abbrev one_slot : List (ℕ × Option (Parcel H))
  one_slot = (0, Some (Ask text)) ∷ []

  pub one_piece : (carried : List (ℕ × Option (Parcel H))) → carried ≡ one_slot → (asked : Asked) × HasRecord asked × (asked.stream ≡ 1) × (text ≡ request_record asked) → CarriesRequest 1 (numbers_of 77) carried
  one_piece carried is (asked, has, under, whole) =
      subst (CarriesRequest 1 (numbers_of 77)) (sym is)
      (record {
        parcels = Ask text ∷ [];
        long = refl;
        values = λ i lt. let first : i ≡ 0 = omega (arith, lt) in subst (λ (k : ℕ). content one_slot (0 + k) ≡ Some (slice_get (Ask text ∷ []) k)) (sym first) refl;
        request = record { asks = ((text, refl), tt); posted = refl; asked = asked; has = has; under = under; whole = append-nil text ∙ whole };
      })

  only_text : (parcels : List (Parcel H)) → length parcels ≡ 1 → HasValues 0 parcels one_slot → joined parcels ≡ text
  only_text [] one values = absurd (omega (arith, one))
  only_text (p ∷ []) one values =
      let found : Some (Some (Ask text)) ≡ Some (Some p) = values 0 (omega arith) in
      let is : Ask text ≡ p = cc found in
      ap (λ (q : Parcel H). joined (q ∷ [])) (sym is) ∙ append-nil text
  only_text (p ∷ q ∷ ps) one values = absurd (omega (arith, one))

  -- what is carried is this text
  pub its_text : (carried : List (ℕ × Option (Parcel H))) → carried ≡ one_slot → (m : CarriesRequest 1 (numbers_of 77) carried) → joined m.parcels ≡ text
  its_text carried is m = only_text m.parcels m.long (subst (HasValues 0 m.parcels) is m.values)
