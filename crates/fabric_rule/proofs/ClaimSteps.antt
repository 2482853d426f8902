-- A seat claims a chunk.
use Rattle.std.proofs.Common.{ℕ, ◌+◌, ◌*◌, ◌/◌, ◌%◌, ◌≡◌, ◌≢◌, ◌<◌, true, List, ◌∷◌, set, refl, sym, ap, ◌∙◌, subst, arith}
use Rattle.std.specs.Prelude.{Option, None}
use Rattle.std.specs.Int.{bit_at}
use Rattle.std.proofs.lemmas.Bool.{eqb-true}
use mathlib.Core.Option.{some}
use lib.ListN.{get_elem?}
use Rattle.atomic_table.specs.Table.{State, homes_after, takes}
use Rattle.carried_slots.specs.FreeSlots.{SlotGained}
use Rattle.carried_slots.proofs.FreeSlots.{slot_gained}
use Rattle.chunk_map.specs.Words.{SetsBit, Takes, is_free}
use Rattle.chunk_map.specs.declared.view.MapEvent.TheVariants.{Gained}
use Rattle.chunk_map.proofs.Bits.{bit_takes}
use Rattle.request_context.specs.declared.piece.Parcel.{Parcel}
use Rattle.unit_model.specs.Core.{item_of, owner_of, side_start}
use Rattle.unit_model.specs.Effects.{after_step}
use Rattle.unit_model.specs.Limits.{segment_chunks}
use Rattle.unit_model.specs.Shapes.{side_start_in}
use Rattle.unit_model.specs.declared.machine.Core.{Core}
use Rattle.unit_model.specs.declared.machine.Item.{Item}
use Rattle.unit_model.specs.declared.machine.Owner.{Owner}
use Rattle.unit_model.specs.declared.machine.Owner.TheVariants.{Free as Unowned, Seat as OfSeat, Message as OfMessage}
use Rattle.unit_model.specs.declared.machine.Step.{Step}
use Rattle.unit_model.specs.declared.machine.Step.TheVariants.{Claim}
use Rattle.unit_model.specs.declared.shape.Shape.{Shape}
use Rattle.unit_types.specs.declared.message.Reply.{Reply}
use Rattle.unit_types.specs.declared.message.Request.{Request}
use Rattle.fabric_words.specs.Needs.{NeedsClaim}
use Rattle.fabric_words.specs.Offsets.{offset_of, word_in}
use Rattle.fabric_words.specs.Places.{map_of, segments_of}
use Rattle.fabric_words.specs.Shown.{IsStep}
use Rattle.fabric_words.specs.declared.place.Place.{Place}
use Rattle.fabric_words.specs.declared.place.Place.TheVariants.{Chunks}
use Rattle.fabric_words.proofs.EachStep.{made_step}
use Rattle.fabric_rule.specs.Claiming.{ChunkComes, ClaimLaw, MayClaim, chunk_in, own_segments, segment_in, with_chunk, word_of_chunk}
use Rattle.fabric_rule.specs.Contents.{ArmedFilled}
use Rattle.fabric_rule.specs.FrameLaws.{SameLists}
use Rattle.fabric_rule.specs.Parts.{ChunksHeld, owner_weight}
use Rattle.fabric_rule.specs.Rule.{FabricHolds}
use Rattle.fabric_rule.specs.declared.event.Segments.{Segments}
use Rattle.fabric_rule.specs.declared.view.FabricView.{FabricView}
use Rattle.fabric_rule.proofs.Contents.{filled_stay}
use Rattle.fabric_rule.proofs.BitSteps.{bit_made, bits_there, chunk_is_there, claim_else, claim_here, claim_items, claim_lists, claim_opened, inside, makes, map_set, noted_of, number_is, one_moves, segment_is, unowned}

module _ {H : Type 0} (reply_of : List ℕ → Request → Reply) (shape : Shape) (s : State (Option (Parcel H)) FabricView) (holds : FabricHolds reply_of shape s) (id : ℕ) (v : FabricView) (carried : List (ℕ × Option (Parcel H))) (at : get_elem? s.views id ≡ some v)
    (segments : Segments) (chunk : ℕ) (may : MayClaim shape v segments chunk) (free : is_free (map_of (word_in shape s.words)) (chunk_in shape segments chunk) ≡ true) (x : ℕ) (bits : SetsBit (word_in shape s.words (word_of_chunk shape segments chunk)) x (chunk % 64) 0) where
  abbrev word : Place → ℕ
  word = word_in shape s.words

  abbrev word' : Place → ℕ
  word' = word_in shape (set s.words (offset_of shape (word_of_chunk shape segments chunk)) x)

  abbrev core : Core
  core = holds.core

  abbrev number : ℕ
  number = chunk_in shape segments chunk

  abbrev step : Step
  step = Claim v.seat (segment_in shape segments (chunk / segment_chunks)) (chunk % segment_chunks)

  abbrev u : FabricView
  u = with_chunk shape segments chunk v

  within : number < segment_chunks * segments_of shape
  within = chunk_is_there shape segments chunk may.there

  own : segments ≡ own_segments core.shape v.seat
  own = may.own ∙ sym (ap (λ (sh : Shape). own_segments sh v.seat) holds.shaped)

  start_is : segment_in shape segments (chunk / segment_chunks) ≡ side_start core v.seat + chunk / segment_chunks
  start_is = segment_is shape v.seat segments (chunk / segment_chunks) may.own ∙ sym (ap (λ (sh : Shape). side_start_in sh v.seat + chunk / segment_chunks) holds.shaped)

  needs : NeedsClaim word core v.seat (segment_in shape segments (chunk / segment_chunks)) (chunk % segment_chunks)
  needs = record {
    role = (holds.views.there id v at).role;
    in_segment = omega arith;
    on_side = omega (arith, start_is);
    opened = omega (arith, start_is, may.opened, noted_of core word v holds.shows.out holds.shows.back (holds.views.opens id v at) segments own);
    was_free = subst (λ (k : ℕ). is_free (map_of word) k ≡ true) (sym (number_is shape segments chunk)) free;
  }

  link : IsStep word' core step
  link = made_step shape word word' step (makes reply_of shape s holds id v at segments chunk x within 0 bits) core holds.shaped holds.keeps.sound holds.shows needs

  was_unowned : owner_of core number ≡ Unowned
  was_unowned = unowned (owner_of core number) (sym (holds.shows.chunks number (subst (λ (sh : Shape). number < segment_chunks * segments_of sh) (sym holds.shaped) within)) ∙ free)

  takes_it : Takes (segment_chunks * segments_of shape) (map_of word) (map_of word') number
  takes_it = bit_takes (segment_chunks * segments_of shape) (map_of word) (map_of word') number x (map_set reply_of shape s holds id v at segments chunk x within)
      (eqb-true (bit_at (word (Chunks (number / 64))) (number % 64)) 1 free) (bits_there reply_of shape s holds id v at segments chunk x within 0 bits)

  gained : SlotGained (segment_chunks * segments_of shape) (map_of word') s.homes carried number
  gained = slot_gained (segment_chunks * segments_of shape) (map_of word) (map_of word') s.homes carried number within takes_it holds.free

  now_owner : owner_of (after_step core step) number ≡ OfSeat v.seat
  now_owner = subst (λ (k : ℕ). owner_of (after_step core step) k ≡ OfSeat v.seat) (number_is shape segments chunk)
      (claim_here core v.seat (segment_in shape segments (chunk / segment_chunks)) (chunk % segment_chunks) (omega (arith, inside reply_of shape s holds id v at segments chunk x within, number_is shape segments chunk)))

  others_own : (other : ℕ) → other ≢ number → owner_of (after_step core step) other ≡ owner_of core other
  others_own other ne = claim_else core v.seat (segment_in shape segments (chunk / segment_chunks)) (chunk % segment_chunks) other (λ is. ne (is ∙ number_is shape segments chunk))

  filled : ArmedFilled reply_of holds.records (after_step core step) (homes_after s.homes carried (takes number None))
  filled = filled_stay H reply_of holds.records holds.records core (after_step core step) s.homes (homes_after s.homes carried (takes number None)) (claim_lists core v.seat (segment_in shape segments (chunk / segment_chunks)) (chunk % segment_chunks)).shape
      (λ q i has armed.
      let is = claim_items core v.seat (segment_in shape segments (chunk / segment_chunks)) (chunk % segment_chunks) q i in
      let was_armed : (item_of core q i).tag ≢ 0 = λ none. armed (ap (λ (y : Item). y.tag) is ∙ none) in (
        ap (λ (y : Item). y.tag) is,
        ap (λ (y : Item). y.run) is,
        ap (λ (y : Item). y.part) is,
        refl,
        λ other in_run. gained.others other (λ same. let both : OfMessage q i ≡ Unowned = sym (holds.keeps.sound.held.owners.runs other q i was_armed in_run) ∙ ap (owner_of core) same ∙ was_unowned in absurd (cc both)),
      ))
      holds.filled

  pub claims : ChunkComes reply_of shape s holds id v carried segments chunk x
  claims =
      let segment : ℕ = segment_in shape segments (chunk / segment_chunks) in
      let in_segment : ℕ = chunk % segment_chunks in
      let same : SameLists core (after_step core step) = claim_lists core v.seat segment in_segment in
      let items : (q i : ℕ) → item_of (after_step core step) q i ≡ item_of core q i = claim_items core v.seat segment in_segment in
      let opened : (after_step core step).opened ≡ core.opened = claim_opened core v.seat segment in_segment in
      let held : ChunksHeld (after_step core step) (set s.views id u) = one_moves reply_of shape s holds id v at segments chunk x within step tt link same items opened (number ∷ v.chunks) (Gained chunk) (λ es. refl) others_own
      (λ f. omega (arith, ap (λ (o : Owner). owner_weight f o number) was_unowned, ap (λ (o : Owner). owner_weight f o number) now_owner)) in
      record {
        valid = gained.valid;
        carries = λ old f. ap (λ (n : ℕ). f number + n) (old f);
        step = bit_made reply_of shape s holds id v at segments chunk x within step tt link same items opened (number ∷ v.chunks) (Gained chunk) (λ es. refl) (homes_after s.homes carried (takes number None)) held (λ none. absurd (may.busy none)) gained.free filled;
      }

pub claim : (H : Type 0) → ClaimLaw H
claim H reply_of shape s holds id v carried at segments chunk may free x bits = claims reply_of shape s holds id v carried at segments chunk may free x bits
