-- The change of one bit of a map word by a seat of the chunk's side, or by the seat that has the
-- chunk.
use Rattle.std.proofs.Common.{ℕ, ◌*◌, ◌%◌, ◌^◌, ◌≡◌, ◌≢◌, ◌<◌, ◌==◌, inl, inr, true, false, List, length, slice_index, set, refl, sym, ap, ◌∙◌, subst, arith}
use Rattle.std.specs.Prelude.{Option, Some, None, bit_and, bit_or}
use Rattle.std.specs.Int.{bit_at, bit_not, w64}
use Rattle.std.proofs.lemmas.Bool.{cases_Bool, cases_eq, eq-eqb}
use Rattle.std.proofs.lemmas.List.{set-get_or}
use Rattle.std.proofs.lemmas.Nat.{and_le_l}
use Rattle.std.proofs.lemmas.Nat.Bits.{bit_at-lt, bit_at_clear_other, bit_at_clear_same, same_from_bits_below}
use mathlib.Core.Option.{some}
use lib.ListN.{get_elem?}
use Rattle.atomic_table.specs.Table.{State, Act, keeps, stepped, takes, Valid, carried_after}
use Rattle.atomic_table.proofs.Lists.{set_else, set_here}
use Rattle.app_queue.proofs.ArmFrames.{is_there}
use Rattle.carried_slots.specs.Acts.{becomes}
use Rattle.carried_slots.specs.Carried.{but, content}
use Rattle.chunk_map.specs.declared.view.MapEvent.TheVariants.{Missed}
use Rattle.chunk_map.proofs.Bits.{clears_bit, sets_bit}
use Rattle.request_context.specs.declared.piece.Parcel.{Parcel}
use Rattle.unit_model.specs.Limits.{segment_chunks}
use Rattle.unit_model.specs.declared.shape.Shape.{Shape}
use Rattle.unit_types.specs.declared.message.Reply.{Reply}
use Rattle.unit_types.specs.declared.message.Request.{Request}
use Rattle.fabric_words.specs.Offsets.{offset_of, word_in}
use Rattle.fabric_words.specs.Places.{segments_of}
use Rattle.fabric_words.specs.declared.place.Place.TheVariants.{Chunks}
use Rattle.fabric_rule.specs.Claiming.{ChunkComes, ChunkGoes, Claims, MayClaim, Releases, chunk_in, is_free_now, with_chunk, without_chunk, word_of_chunk}
use Rattle.fabric_rule.specs.Contents.{CarriesSlots}
use Rattle.fabric_rule.specs.Parts.{OpensNoted}
use Rattle.fabric_rule.specs.Rule.{FabricHolds}
use Rattle.fabric_rule.specs.Steps.{IsNoStep}
use Rattle.fabric_rule.specs.Told.{Moment}
use Rattle.fabric_rule.specs.Views.{logged}
use Rattle.fabric_rule.specs.declared.event.FabricEvent.{FabricEvent}
use Rattle.fabric_rule.specs.declared.event.FabricEvent.TheVariants.{AtMap}
use Rattle.fabric_rule.specs.declared.event.Segments.{Segments}
use Rattle.fabric_rule.specs.declared.event.Segments.TheVariants.{Out, Back}
use Rattle.fabric_rule.specs.declared.view.FabricView.{FabricView}
use Rattle.fabric_rule.proofs.BitSteps.{bit_is, noted_same, word_number_is}
use Rattle.fabric_rule.proofs.ClaimSteps.{claim}
use Rattle.fabric_rule.proofs.Logged.{logs, other_notes}
use Rattle.fabric_rule.proofs.ReleaseSteps.{release}

-- the bit was clear, and the word stays
cleared_same : (found bit : ℕ) → bit < 64 → found < 2 ^ 64 → bit_at found bit ≡ 0 → bit_and found (bit_not w64 (1 * 2 ^ bit % 2 ^ 64)) ≡ found
cleared_same found bit within low none =
    let x : ℕ = bit_and found (bit_not w64 (1 * 2 ^ bit % 2 ^ 64)) in
    same_from_bits_below 64 x found (omega (arith, and_le_l found (bit_not w64 (1 * 2 ^ bit % 2 ^ 64)), low)) low
    (λ i lt. elim (cases_eq i bit) [
      | inl is ↦ ap (bit_at x) is ∙ bit_at_clear_same w64 found bit within ∙ sym none ∙ ap (bit_at found) (sym is)
      | inr ne ↦ bit_at_clear_other w64 found bit within i lt ne
    ])

module _ {H : Type 0} (reply_of : List ℕ → Request → Reply) (shape : Shape) (id : ℕ) (v : FabricView) (carried : List (ℕ × Option (Parcel H))) (s : State (Option (Parcel H)) FabricView) (holds : FabricHolds reply_of shape s) (at : get_elem? s.views id ≡ some v)
    (carries : CarriesSlots (v, carried)) (segments : Segments) (chunk : ℕ) where
  abbrev pub index : ℕ
  index = offset_of shape (word_of_chunk shape segments chunk)

  abbrev pub found : ℕ
  found = slice_index s.words index

  abbrev bit : ℕ
  bit = chunk % 64

  abbrev mask : ℕ
  mask = bit_not w64 (1 * 2 ^ bit % 2 ^ 64)

  abbrev number : ℕ
  number = chunk_in shape segments chunk

  bit_found : is_free_now shape s segments chunk ≡ (bit_at found bit == 1)
  bit_found = ap (λ (k : ℕ). bit_at (word_in shape s.words (Chunks k)) (number % 64) == 1) (sym (word_number_is shape segments chunk)) ∙ ap (λ (b : ℕ). bit_at found b == 1) (sym (bit_is shape segments chunk))

  -- right before the change and right after it
  abbrev moment : (new : ℕ) (u : FabricView) → Act (Option (Parcel H)) → Moment H reply_of shape id v u
  moment new u a = record { before = s; holds = holds; was = at; after = stepped s index new id carried u a; is = set_here s.views id u (is_there s.views id v at); others = λ k ne. set_else s.views id k u ne }

  -- ---- it is cleared

  abbrev pub Cleared : Type 0
  Cleared = (u : FabricView) × (a : Act (Option (Parcel H))) × Valid s.homes carried a × FabricHolds reply_of shape (stepped s index (bit_and found mask) id carried u a)
      × (CarriesSlots (u, carried_after carried a) × Claims H reply_of shape id segments chunk (v, carried) (bit_at found bit == 1) (u, carried_after carried a))

  hit : MayClaim shape v segments chunk → (bit_at found bit == 1) ≡ true → Cleared
  hit may is =
      let comes : ChunkComes reply_of shape s holds id v carried segments chunk (bit_and found mask) = claim H reply_of shape s holds id v carried at segments chunk may (bit_found ∙ is) (bit_and found mask) (clears_bit found bit (omega arith)) in
      let u : FabricView = with_chunk shape segments chunk v in
      let a : Act (Option (Parcel H)) = takes number None in (
        u,
        a,
        comes.valid,
        comes.step.after,
        (
          comes.carries carries,
          record {
            moment = moment (bit_and found mask) u a;
            was = bit_found;
            won = λ set. refl;
            slot = λ set. refl;
            step = λ set. comes.step;
            missed = λ clear. absurd (cc (is, clear));
            same_slots = λ clear. absurd (cc (is, clear));
            none = λ clear. absurd (cc (is, clear));
          },
        ),
      )

  miss : found < 2 ^ 64 → (bit_at found bit == 1) ≡ false → Cleared
  miss low is =
      let e : FabricEvent = AtMap segments (Missed chunk) in
      let u : FabricView = logged e v in
      let not_one : bit_at found bit ≢ 1 = λ one. absurd (cc (is, eq-eqb (bit_at found bit) 1 one)) in
      let clear_bit : bit_at found bit ≡ 0 = omega (arith, bit_at-lt found bit, not_one) in
      let words : set s.words index (bit_and found mask) ≡ s.words = ap (set s.words index) (cleared_same found bit (omega arith) low clear_bit) ∙ set-get_or s.words index 0 in
      let old : OpensNoted holds.core v = holds.views.opens id v at in
      let opens : OpensNoted holds.core u = record {
        out = omega (arith, old.out, noted_same (Missed chunk) (λ es. refl) segments Out v.log);
        back = omega (arith, old.back, noted_same (Missed chunk) (λ es. refl) segments Back v.log);
      } in
      let none : IsNoStep reply_of shape s holds (stepped s index (bit_and found mask) id carried u keeps) =
      subst (λ (ws : List ℕ). IsNoStep reply_of shape s holds (record { words = ws; homes = s.homes; views = set s.views id u })) (sym words)
      (logs reply_of shape s holds id v at e (other_notes reply_of shape s holds id v at e (λ q side. refl) (λ q. refl)) opens) in (
        u,
        keeps,
        tt,
        none.after,
        (
          carries,
          record {
            moment = moment (bit_and found mask) u keeps;
            was = bit_found;
            won = λ set. absurd (cc (is, set));
            slot = λ set. absurd (cc (is, set));
            step = λ set. absurd (cc (is, set));
            missed = λ clear. refl;
            same_slots = λ clear. refl;
            none = λ clear. none;
          },
        ),
      )

  pub clears : MayClaim shape v segments chunk → found < 2 ^ 64 → Cleared
  clears may low = elim (cases_Bool (bit_at found bit == 1)) [
    | inl is ↦ hit may is
    | inr is ↦ miss low is
  ]

  -- ---- it is set

  pub frees : length s.homes ≡ segment_chunks * segments_of shape → content carried number ≡ Some None → (u : FabricView) × (a : Act (Option (Parcel H))) × Valid s.homes carried a × FabricHolds reply_of shape (stepped s index (bit_or found (1 * 2 ^ bit % 2 ^ 64)) id carried u a)
      × (CarriesSlots (u, carried_after carried a) × Releases H reply_of shape id segments chunk (v, carried) (u, carried_after carried a))
  frees homes_are is_empty =
      let goes : ChunkGoes reply_of shape s holds id v carried segments chunk (bit_or found (1 * 2 ^ bit % 2 ^ 64)) = release H reply_of shape s holds id v carried homes_are at carries segments chunk is_empty (bit_or found (1 * 2 ^ bit % 2 ^ 64)) (sets_bit found bit (omega arith)) in
      let u : FabricView = without_chunk shape segments chunk v in
      let a : Act (Option (Parcel H)) = becomes carried (but number carried) in (
        u,
        a,
        goes.valid,
        goes.step.after,
        (
          subst (λ (l : List (ℕ × Option (Parcel H))). CarriesSlots (u, l)) (sym goes.given) goes.carries,
          record { moment = moment (bit_or found (1 * 2 ^ bit % 2 ^ 64)) u a; given = refl; slots = goes.given; step = goes.step },
        ),
      )
