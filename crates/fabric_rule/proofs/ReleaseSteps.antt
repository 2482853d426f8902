-- A seat gives a chunk back.
use Rattle.std.proofs.Common.{ℕ, ◌*◌, ◌/◌, ◌%◌, ◌≡◌, ◌≢◌, ◌<◌, false, List, length, set, refl, ap, ◌∙◌, subst, arith}
use Rattle.std.specs.Prelude.{Option, Some, None}
use Rattle.std.specs.Int.{bit_at}
use Rattle.std.proofs.lemmas.Bool.{eq-eqb}
use Rattle.std.proofs.lemmas.Nat.Bits.{bit_at-lt}
use mathlib.Core.Option.{some}
use lib.ListN.{get_elem?}
use Rattle.atomic_table.specs.Table.{State, homes_after}
use Rattle.carried_slots.specs.Acts.{becomes}
use Rattle.carried_slots.specs.Carried.{but, content, numbers}
use Rattle.carried_slots.specs.FreeSlots.{FreeUncarried, SlotGiven}
use Rattle.carried_slots.proofs.FreeSlots.{slot_given}
use Rattle.carried_slots.proofs.Lookups.{but_weighs, some_content}
use Rattle.chunk_map.specs.Words.{Frees, SetsBit, is_free}
use Rattle.chunk_map.specs.declared.view.MapEvent.TheVariants.{Released}
use Rattle.chunk_map.specs.Views.{frees_one}
use Rattle.chunk_map.proofs.Bits.{bit_frees}
use Rattle.request_context.specs.declared.piece.Parcel.{Parcel}
use Rattle.unit_model.specs.Core.{item_of, owner_of}
use Rattle.unit_model.specs.Effects.{after_step}
use Rattle.unit_model.specs.Limits.{segment_chunks}
use Rattle.unit_model.specs.Weights.{is_number, times, weigh}
use Rattle.unit_model.specs.declared.machine.Core.{Core}
use Rattle.unit_model.specs.declared.machine.Owner.{Owner}
use Rattle.unit_model.specs.declared.machine.Owner.TheVariants.{Free as Unowned}
use Rattle.unit_model.specs.declared.machine.Step.{Step}
use Rattle.unit_model.specs.declared.machine.Step.TheVariants.{Release}
use Rattle.unit_model.specs.declared.shape.Shape.{Shape}
use Rattle.unit_types.specs.declared.message.Reply.{Reply}
use Rattle.unit_types.specs.declared.message.Request.{Request}
use Rattle.fabric_words.specs.Needs.{NeedsRelease}
use Rattle.fabric_words.specs.Offsets.{offset_of, word_in}
use Rattle.fabric_words.specs.Places.{map_of, segments_of}
use Rattle.fabric_words.specs.Shown.{IsStep, is_owned_by_none}
use Rattle.fabric_words.specs.declared.place.Place.{Place}
use Rattle.fabric_words.specs.declared.place.Place.TheVariants.{Chunks}
use Rattle.fabric_words.proofs.EachStep.{made_step}
use Rattle.fabric_rule.specs.Claiming.{ChunkGoes, ReleaseLaw, chunk_in, segment_in, without_chunk, word_of_chunk}
use Rattle.fabric_rule.specs.Contents.{ArmedFilled, CarriesSlots}
use Rattle.fabric_rule.specs.FrameLaws.{SameLists}
use Rattle.fabric_rule.specs.Hands.{IsChunkInHand}
use Rattle.fabric_rule.specs.Parts.{ChunksHeld, owner_weight}
use Rattle.fabric_rule.specs.Rule.{FabricHolds}
use Rattle.fabric_rule.specs.declared.event.Segments.{Segments}
use Rattle.fabric_rule.specs.declared.view.FabricView.{FabricView}
use Rattle.fabric_rule.proofs.CarriedSlots.{carried_once, filled_become, free_uncarried, mine_of}
use Rattle.fabric_rule.proofs.BitSteps.{bit_made, bits_there, inside, makes, map_set, number_is, one_moves, release_else, release_here, release_items, release_lists, release_opened}

module _ {H : Type 0} (reply_of : List ℕ → Request → Reply) (shape : Shape) (s : State (Option (Parcel H)) FabricView) (holds : FabricHolds reply_of shape s) (id : ℕ) (v : FabricView) (carried : List (ℕ × Option (Parcel H)))
    (homes_are : length s.homes ≡ segment_chunks * segments_of shape) (at : get_elem? s.views id ≡ some v) (carries : CarriesSlots (v, carried))
    (segments : Segments) (chunk : ℕ) (is_empty : content carried (chunk_in shape segments chunk) ≡ Some None) (x : ℕ) (bits : SetsBit (word_in shape s.words (word_of_chunk shape segments chunk)) x (chunk % 64) 1) where
  abbrev word : Place → ℕ
  word = word_in shape s.words

  abbrev word' : Place → ℕ
  word' = word_in shape (set s.words (offset_of shape (word_of_chunk shape segments chunk)) x)

  abbrev core : Core
  core = holds.core

  abbrev number : ℕ
  number = chunk_in shape segments chunk

  abbrev step : Step
  step = Release v.seat (segment_in shape segments (chunk / segment_chunks)) (chunk % segment_chunks)

  abbrev u : FabricView
  u = without_chunk shape segments chunk v

  abbrev left : List (ℕ × Option (Parcel H))
  left = but number carried

  some_slot : 0 < times number (numbers carried)
  some_slot = some_content carried number None is_empty

  mine : IsChunkInHand core s.views v number
  mine = mine_of core s.views id v at holds.views.chunks carried carries number some_slot

  within : number < segment_chunks * segments_of shape
  within = subst (λ (sh : Shape). number < segment_chunks * segments_of sh) holds.shaped mine.within

  needs : NeedsRelease core v.seat (segment_in shape segments (chunk / segment_chunks)) (chunk % segment_chunks)
  needs = record {
    role = (holds.views.there id v at).role;
    in_segment = omega arith;
    own = ap (owner_of core) (number_is shape segments chunk) ∙ mine.owner;
  }

  link : IsStep word' core step
  link = made_step shape word word' step (makes reply_of shape s holds id v at segments chunk x within 1 bits) core holds.shaped holds.keeps.sound holds.shows needs

  -- the bit was clear
  was_clear : bit_at (word (Chunks (number / 64))) (number % 64) ≡ 0
  was_clear =
      let held : is_free (map_of word) number ≡ false = holds.shows.chunks number mine.within ∙ ap is_owned_by_none mine.owner in
      let ne : bit_at (word (Chunks (number / 64))) (number % 64) ≢ 1 = λ one. absurd (cc (held, eq-eqb (bit_at (word (Chunks (number / 64))) (number % 64)) 1 one)) in
      omega (arith, bit_at-lt (word (Chunks (number / 64))) (number % 64), ne)

  frees_it : Frees (segment_chunks * segments_of shape) (map_of word) (map_of word') number
  frees_it = bit_frees (segment_chunks * segments_of shape) (map_of word) (map_of word') number x (map_set reply_of shape s holds id v at segments chunk x within) was_clear (bits_there reply_of shape s holds id v at segments chunk x within 1 bits)

  given : SlotGiven (segment_chunks * segments_of shape) (map_of word') s.homes carried number
  given = slot_given (segment_chunks * segments_of shape) (map_of word) (map_of word') s.homes carried number frees_it
      (carried_once core s.views id v at holds.views.chunks carried carries)
      (λ k some_there. omega (arith, homes_are, ap segments_of holds.shaped, (mine_of core s.views id v at holds.views.chunks carried carries k some_there).within))
      is_empty
      (subst (λ (sh : Shape). FreeUncarried (segment_chunks * segments_of sh) (map_of word) carried) holds.shaped (free_uncarried core s.views id v at holds.views.chunks carried carries word holds.shows))
      holds.free

  now_owner : owner_of (after_step core step) number ≡ Unowned
  now_owner = subst (λ (k : ℕ). owner_of (after_step core step) k ≡ Unowned) (number_is shape segments chunk)
      (release_here core v.seat (segment_in shape segments (chunk / segment_chunks)) (chunk % segment_chunks) (omega (arith, inside reply_of shape s holds id v at segments chunk x within, number_is shape segments chunk)))

  others_own : (other : ℕ) → other ≢ number → owner_of (after_step core step) other ≡ owner_of core other
  others_own other ne = release_else core v.seat (segment_in shape segments (chunk / segment_chunks)) (chunk % segment_chunks) other (λ is. ne (is ∙ number_is shape segments chunk))

  mine_in_view : 0 < weigh (is_number number) v.chunks
  mine_in_view = omega (arith, some_slot, carries (is_number number))

  pub releases : ChunkGoes reply_of shape s holds id v carried segments chunk x
  releases =
      let segment : ℕ = segment_in shape segments (chunk / segment_chunks) in
      let in_segment : ℕ = chunk % segment_chunks in
      let same : SameLists core (after_step core step) = release_lists core v.seat segment in_segment in
      let items : (q i : ℕ) → item_of (after_step core step) q i ≡ item_of core q i = release_items core v.seat segment in_segment in
      let opened : (after_step core step).opened ≡ core.opened = release_opened core v.seat segment in_segment in
      let held : ChunksHeld (after_step core step) (set s.views id u) = one_moves reply_of shape s holds id v at segments chunk x within step tt link same items opened u.chunks (Released chunk) (λ es. refl) others_own
      (λ f. omega (arith, ap (λ (o : Owner). owner_weight f o number) mine.owner, ap (λ (o : Owner). owner_weight f o number) now_owner, frees_one (f v.seat) number v.chunks mine_in_view)) in
      let filled : ArmedFilled reply_of holds.records (after_step core step) (homes_after s.homes carried (becomes carried left)) = filled_become reply_of holds.records core (after_step core step) s.views id v at holds.views.chunks holds.keeps.sound same.shape items s.homes carried left carries
      (λ k. omega (arith, but_weighs (is_number k) carried number some_slot)) given.turned holds.filled in
      record {
        valid = given.turned.valid;
        given = given.turned.carried;
        carries = λ f. omega (arith, carries f, but_weighs f carried number some_slot, frees_one f number v.chunks mine_in_view);
        step = bit_made reply_of shape s holds id v at segments chunk x within step tt link same items opened u.chunks (Released chunk) (λ es. refl) (homes_after s.homes carried (becomes carried left)) held
            (λ none. absurd (omega (arith, mine_in_view, ap (weigh (is_number number)) (holds.views.idle id v at none).chunks))) given.free filled;
      }

pub release : (H : Type 0) → ReleaseLaw H
release H reply_of shape s holds id v carried homes_are at carries segments chunk is_empty x bits = releases reply_of shape s holds id v carried homes_are at carries segments chunk is_empty x bits
