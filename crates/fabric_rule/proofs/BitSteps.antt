-- One bit of the map changes, and with it who has the chunk.
use Rattle.std.proofs.Common.{ℕ, ◌+◌, ◌*◌, ◌/◌, ◌%◌, ◌≡◌, ◌≢◌, ◌≤◌, ◌<◌, ◌==◌, ⊎_elim, Bool, true, false, cond, if◌then◌else◌, List, [], ◌∷◌, length, set, refl, sym, ap, ◌∙◌, subst, arith, length-set, get_or-set_same, get_or-set_other}
use Rattle.std.specs.Prelude.{Option}
use mathlib.Core.Option.{some}
use lib.ListN.{get_elem?}
use Rattle.atomic_table.specs.Table.{State}
use Rattle.carried_slots.specs.FreeSlots.{FreeSlots}
use Rattle.chunk_map.specs.Looks.{open_seen}
use Rattle.chunk_map.specs.Words.{SetsBit, SetsWord}
use Rattle.chunk_map.specs.declared.view.MapEvent.{MapEvent}
use Rattle.request_context.specs.declared.piece.Parcel.{Parcel}
use Rattle.unit_model.specs.Core.{chunk_number, item_of, owner_of}
use Rattle.unit_model.specs.Effects.{after_step, with_owner}
use Rattle.unit_model.specs.Limits.{segment_chunks}
use Rattle.unit_model.specs.PartOrder.{IsOther}
use Rattle.unit_model.specs.Shapes.{role_in, side_start_in}
use Rattle.unit_model.specs.declared.machine.Core.{Core}
use Rattle.unit_model.specs.declared.machine.Owner.{Owner}
use Rattle.unit_model.specs.declared.machine.Owner.TheVariants.{Free as Unowned, Seat as OfSeat, Message as OfMessage}
use Rattle.unit_model.specs.declared.machine.Step.{Step}
use Rattle.unit_model.specs.declared.machine.Step.TheVariants.{Claim, Release}
use Rattle.unit_model.specs.declared.shape.Shape.{Shape}
use Rattle.unit_types.specs.declared.message.Reply.{Reply}
use Rattle.unit_types.specs.declared.message.Request.{Request}
use Rattle.fabric_words.specs.Offsets.{offset_of, word_in}
use Rattle.fabric_words.specs.Places.{Sets, SetsChunk, map_of, opened_place, segments_of}
use Rattle.fabric_words.specs.Shown.{IsStep, is_owned_by_none}
use Rattle.fabric_words.specs.declared.place.Place.{Place}
use Rattle.fabric_words.specs.declared.place.Place.TheVariants.{Chunks, OpenedBack, OpenedOut}
use Rattle.fabric_words.proofs.EachStep.{chunk_set}
use Rattle.fabric_words.proofs.Standing.{set_word}
use Rattle.fabric_rule.specs.Claiming.{chunk_in, own_segments, segment_in, side_segments, word_of_chunk}
use Rattle.fabric_rule.specs.Contents.{ArmedFilled}
use Rattle.fabric_rule.specs.FrameLaws.{SameLists}
use Rattle.fabric_rule.specs.Looks.{map_word}
use Rattle.fabric_rule.specs.Parts.{ChunksHeld, OpensNoted, owner_weight}
use Rattle.fabric_rule.specs.Rule.{FabricHolds}
use Rattle.fabric_rule.specs.Steps.{IsMachineStep}
use Rattle.fabric_rule.specs.Views.{chunks_at, is_same_segments, map_log, open_noted}
use Rattle.fabric_rule.specs.declared.event.FabricEvent.{FabricEvent}
use Rattle.fabric_rule.specs.declared.event.FabricEvent.TheVariants.{AtMap}
use Rattle.fabric_rule.specs.declared.event.Segments.{Segments}
use Rattle.fabric_rule.specs.declared.event.Segments.TheVariants.{Out, Back}
use Rattle.fabric_rule.specs.declared.view.FabricView.{FabricView}
use Rattle.fabric_rule.proofs.Beside.{IsWhereItWas, notes_beside, rings_beside, tails_same, views_beside}
use Rattle.fabric_rule.proofs.RuleSteps.{step_made}
use Rattle.fabric_rule.proofs.Frames.{chunks_move, opens_stay}
use Rattle.unit_model.proofs.PartOrderOthers.{others_in_order}

-- ---- chunks by their numbers

pub number_is : (shape : Shape) (segments : Segments) (chunk : ℕ) → chunk_number (segment_in shape segments (chunk / segment_chunks)) (chunk % segment_chunks) ≡ chunk_in shape segments chunk
number_is shape Out chunk = omega arith
number_is shape Back chunk = omega arith

pub word_number_is : (shape : Shape) (segments : Segments) (chunk : ℕ) → map_word shape segments (chunk / 64) ≡ chunk_in shape segments chunk / 64
word_number_is shape Out chunk = refl
word_number_is shape Back chunk = omega arith

pub bit_is : (shape : Shape) (segments : Segments) (chunk : ℕ) → chunk % 64 ≡ chunk_in shape segments chunk % 64
bit_is shape Out chunk = refl
bit_is shape Back chunk = omega arith

pub chunk_is_there : (shape : Shape) (segments : Segments) (chunk : ℕ) → chunk < segment_chunks * side_segments shape segments → chunk_in shape segments chunk < segment_chunks * segments_of shape
chunk_is_there shape Out chunk lt = omega (arith, lt)
chunk_is_there shape Back chunk lt = omega (arith, lt)

-- a segment of a seat's side
pub segment_is : (shape : Shape) (seat : ℕ) (segments : Segments) (n : ℕ) → segments ≡ own_segments shape seat → segment_in shape segments n ≡ side_start_in shape seat + n
segment_is shape seat segments n own = subst (λ (g : Segments). segment_in shape g n ≡ side_start_in shape seat + n) (sym own) (by (role_in shape seat == 0))
  where
    by : (b : Bool) → segment_in shape (if b then Out else Back) n ≡ (if b then 0 else shape.out_segments) + n
    by true = omega arith
    by false = omega arith

-- what a seat noted of its side's open segments
pub noted_of : (core : Core) (word : Place → ℕ) (v : FabricView) → word OpenedOut ≡ core.opened.out → word OpenedBack ≡ core.opened.back → OpensNoted core v → (segments : Segments) → segments ≡ own_segments core.shape v.seat → open_noted segments v ≤ word (opened_place core.shape v.seat)
noted_of core word v out back noted segments own = subst (λ (g : Segments). open_noted g v ≤ word (opened_place core.shape v.seat)) (sym own) (by (role_in core.shape v.seat == 0))
  where
    by : (b : Bool) → open_noted (if b then Out else Back) v ≤ word (if b then OpenedOut else OpenedBack)
    by true = omega (arith, noted.out, out)
    by false = omega (arith, noted.back, back)

-- an event that says nothing of open segments
pub noted_same : (e : MapEvent) → ((es : List MapEvent) → open_seen (e ∷ es) ≡ open_seen es) → (segments g : Segments) (es : List FabricEvent) → open_seen (map_log g (AtMap segments e ∷ es)) ≡ open_seen (map_log g es)
noted_same e quiet segments g es = by (is_same_segments segments g)
  where
    by : (b : Bool) → open_seen (cond b (e ∷ map_log g es) (map_log g es)) ≡ open_seen (map_log g es)
    by true = quiet (map_log g es)
    by false = refl

pub unowned : (owner : Owner) → is_owned_by_none owner ≡ true → owner ≡ Unowned
unowned Unowned is = refl
unowned (OfSeat seat) is = absurd (cc is)
unowned (OfMessage queue item) is = absurd (cc is)

-- ---- what Claim and Release leave of a core

module _ (core : Core) (seat segment chunk : ℕ) where
  pub claim_lists : SameLists core (after_step core (Claim seat segment chunk))
  unfolding after_step with_owner
  claim_lists = record { shape = refl; seats = refl }

  pub claim_items : (q i : ℕ) → item_of (after_step core (Claim seat segment chunk)) q i ≡ item_of core q i
  unfolding after_step with_owner
  claim_items q i = refl

  pub claim_opened : (after_step core (Claim seat segment chunk)).opened ≡ core.opened
  unfolding after_step with_owner
  claim_opened = refl

  pub claim_here : chunk_number segment chunk < length core.owners → owner_of (after_step core (Claim seat segment chunk)) (chunk_number segment chunk) ≡ OfSeat seat
  unfolding after_step with_owner
  claim_here inside = get_or-set_same core.owners (chunk_number segment chunk) (OfSeat seat) Unowned inside

  pub claim_else : (other : ℕ) → other ≢ chunk_number segment chunk → owner_of (after_step core (Claim seat segment chunk)) other ≡ owner_of core other
  unfolding after_step with_owner
  claim_else other ne = get_or-set_other core.owners (chunk_number segment chunk) other (OfSeat seat) Unowned ne

  pub release_lists : SameLists core (after_step core (Release seat segment chunk))
  unfolding after_step with_owner
  release_lists = record { shape = refl; seats = refl }

  pub release_items : (q i : ℕ) → item_of (after_step core (Release seat segment chunk)) q i ≡ item_of core q i
  unfolding after_step with_owner
  release_items q i = refl

  pub release_opened : (after_step core (Release seat segment chunk)).opened ≡ core.opened
  unfolding after_step with_owner
  release_opened = refl

  pub release_here : chunk_number segment chunk < length core.owners → owner_of (after_step core (Release seat segment chunk)) (chunk_number segment chunk) ≡ Unowned
  unfolding after_step with_owner
  release_here inside = get_or-set_same core.owners (chunk_number segment chunk) Unowned Unowned inside

  pub release_else : (other : ℕ) → other ≢ chunk_number segment chunk → owner_of (after_step core (Release seat segment chunk)) other ≡ owner_of core other
  unfolding after_step with_owner
  release_else other ne = get_or-set_other core.owners (chunk_number segment chunk) other Unowned Unowned ne

-- ---- one bit changes

module _ {H : Type 0} (reply_of : List ℕ → Request → Reply) (shape : Shape) (s : State (Option (Parcel H)) FabricView) (holds : FabricHolds reply_of shape s) (id : ℕ) (v : FabricView) (at : get_elem? s.views id ≡ some v)
    (segments : Segments) (chunk x : ℕ) (within : chunk_in shape segments chunk < segment_chunks * segments_of shape) where
  abbrev word : Place → ℕ
  word = word_in shape s.words

  abbrev place : Place
  place = word_of_chunk shape segments chunk

  abbrev word' : Place → ℕ
  word' = word_in shape (set s.words (offset_of shape place) x)

  abbrev core : Core
  core = holds.core

  abbrev number : ℕ
  number = chunk_in shape segments chunk

  abbrev segment : ℕ
  segment = segment_in shape segments (chunk / segment_chunks)

  abbrev in_segment : ℕ
  in_segment = chunk % segment_chunks

  sets : Sets shape word word' place x
  sets = set_word shape s.words place x holds.wide (omega (arith, within, word_number_is shape segments chunk))

  sets_word : Sets shape word word' (Chunks (number / 64)) x
  sets_word = subst (λ (k : ℕ). Sets shape word word' (Chunks k) x) (word_number_is shape segments chunk) sets

  pub map_set : SetsWord (segment_chunks * segments_of shape) (map_of word) (map_of word') (number / 64) x
  map_set = record { here = sets_word.here; others = λ other lt ne. sets_word.others (Chunks other) (omega (arith, lt)) (λ is. ne (cc is)) }

  pub inside : number < length core.owners
  inside = omega (arith, within, holds.keeps.sound.held.shape.chunks, ap segments_of holds.shaped)

  named : chunk_number segment in_segment ≡ number
  named = number_is shape segments chunk

  module _ (value : ℕ) (bits : SetsBit (word place) x (chunk % 64) value) where
    pub bits_there : SetsBit (word (Chunks (number / 64))) x (number % 64) value
    bits_there = subst (λ (b : ℕ). SetsBit (word (Chunks (number / 64))) x b value) (bit_is shape segments chunk) (subst (λ (k : ℕ). SetsBit (word (Chunks k)) x (chunk % 64) value) (word_number_is shape segments chunk) bits)

    pub makes : SetsChunk shape word word' (chunk_number segment in_segment) value
    makes = subst (λ (k : ℕ). SetsChunk shape word word' k value) (sym named) (chunk_set shape word word' number value x sets_word bits_there)

  -- the step, where the seat has these chunks then and the homes are these
  module _ (step : Step) (other_step : IsOther step) (link : IsStep word' core step) (same : SameLists core (after_step core step)) (items : (q i : ℕ) → item_of (after_step core step) q i ≡ item_of core q i) (opened : (after_step core step).opened ≡ core.opened)
      (chunks : List ℕ) (e : MapEvent) (quiet : (es : List MapEvent) → open_seen (e ∷ es) ≡ open_seen es) where
    abbrev core' : Core
    core' = after_step core step

    abbrev u : FabricView
    u = record v { chunks = chunks; log = AtMap segments e ∷ v.log }

    pub bit_made : (homes' : List (mathlib.Core.Option.Option (Option (Parcel H)))) → ChunksHeld core' (set s.views id u) → (v.works ≡ [] → chunks ≡ []) → FreeSlots (segment_chunks * segments_of shape) (map_of word') homes' → ArmedFilled reply_of holds.records core' homes'
        → IsMachineStep reply_of shape s holds step (record { words = set s.words (offset_of shape place) x; homes = homes'; views = set s.views id u })
    bit_made homes' chunks' idle free filled =
        step_made reply_of shape s holds step (set s.words (offset_of shape place) x) homes' (set s.views id u) holds.popped holds.armed
        (omega (arith, holds.wide, length-set s.words (offset_of shape place) x)) link (same.shape ∙ holds.shaped)
        (others_in_order holds.popped holds.armed core step holds.keeps.sound holds.keeps.order other_step link.enabled)
        (notes_beside shape word word' place x sets refl (λ q side. refl) s.views id v at v.ledgers v.works chunks (AtMap segments e) (λ q side. refl) (λ q. refl) holds.notes)
        (views_beside shape word word' holds.popped holds.armed holds.records core core' s.views id v at chunks (AtMap segments e) same
        (λ q i. subst (IsWhereItWas (item_of core q i)) (sym (items q i)) (record { tag = refl; place = refl; last = refl }))
        (tails_same core shape word word' holds.shaped (rings_beside shape word word' place x sets refl (λ q side. refl))) chunks'
        (opens_stay core core' s.views id v u at opened (noted_same e quiet segments Out v.log) (noted_same e quiet segments Back v.log) holds.views.opens) idle holds.views)
        free filled

    -- one chunk changes its owner, and weighs as much more or less with the seat
    pub one_moves : ((other : ℕ) → other ≢ number → owner_of core' other ≡ owner_of core other) → ((f : ℕ → ℕ → ℕ) → chunks_at f u + owner_weight f (owner_of core number) number ≡ chunks_at f v + owner_weight f (owner_of core' number) number) → ChunksHeld core' (set s.views id u)
    one_moves others moves = chunks_move core core' s.views id v u at same.shape number 1 (omega (arith, within, ap segments_of holds.shaped))
        (λ other off. others other (⊎_elim (λ lt is. absurd (omega (arith, lt, is))) (λ le is. absurd (omega (arith, le, is))) off))
        (λ f. omega (arith, moves f)) holds.views.chunks
