-- A seat opens one more segment of its side.
use Rattle.std.proofs.Common.{ℕ, ◌+◌, ◌-◌, ◌≡◌, ◌≢◌, ◌<◌, ◌==◌, ◌&&◌, nat_le, nat_lt, Bool, true, false, if◌then◌else◌, List, set, refl, sym, ap, ◌∙◌, subst, arith, length-set}
use Rattle.std.specs.Prelude.{Option}
use Rattle.std.proofs.lemmas.Bool.{le-ltb, lt-leb}
use mathlib.Core.Option.{some}
use lib.ListN.{get_elem?}
use Rattle.atomic_table.specs.Table.{State, keeps, stepped}
use Rattle.chunk_map.specs.declared.view.MapEvent.TheVariants.{OpenedTo}
use Rattle.request_context.specs.declared.piece.Parcel.{Parcel}
use Rattle.unit_model.specs.Core.{chunk_number, item_of, owner_of}
use Rattle.unit_model.specs.Effects.{after_step, with_opened as core_opened}
use Rattle.unit_model.specs.Holding.{is_opened}
use Rattle.unit_model.specs.Shapes.{role_in, side_end_in, side_start_in}
use Rattle.unit_model.specs.Soundness.{IsSound}
use Rattle.unit_model.specs.declared.machine.Core.{Core}
use Rattle.unit_model.specs.declared.machine.Item.{Item}
use Rattle.unit_model.specs.declared.machine.Step.TheVariants.{Open}
use Rattle.unit_model.specs.declared.shape.Shape.{Shape}
use Rattle.unit_types.specs.declared.message.Reply.{Reply}
use Rattle.unit_types.specs.declared.message.Request.{Request}
use Rattle.fabric_words.specs.Needs.{NeedsOpen}
use Rattle.fabric_words.specs.Offsets.{offset_of, word_in}
use Rattle.fabric_words.specs.Places.{IsThere, Sets, is_of_ring, opened_place}
use Rattle.fabric_words.specs.Shown.{IsStep, Shows}
use Rattle.fabric_words.specs.declared.place.Place.{Place}
use Rattle.fabric_words.specs.declared.place.Place.TheVariants.{Chunks, OpenedBack, OpenedOut}
use Rattle.fabric_words.specs.declared.place.Side.{Side as WordSide}
use Rattle.fabric_words.proofs.EachStep.{made_step}
use Rattle.fabric_words.proofs.Frames.{chunk_stays}
use Rattle.fabric_words.proofs.OtherSteps.{is_of_queues}
use Rattle.fabric_words.proofs.Standing.{set_word}
use Rattle.fabric_rule.specs.Claiming.{own_segments, segment_in, side_segments}
use Rattle.fabric_rule.specs.FrameLaws.{SameLists}
use Rattle.fabric_rule.specs.Looks.{opened_word}
use Rattle.fabric_rule.specs.Parts.{OpensNoted}
use Rattle.fabric_rule.specs.Rule.{FabricHolds}
use Rattle.fabric_rule.specs.Segmenting.{IsAllFree, OpenLaw, SegmentOpens, with_opened}
use Rattle.fabric_rule.specs.Steps.{IsMachineStep}
use Rattle.fabric_rule.specs.declared.event.FabricEvent.TheVariants.{AtMap}
use Rattle.fabric_rule.specs.declared.event.Segments.{Segments}
use Rattle.fabric_rule.specs.declared.event.Segments.TheVariants.{Out, Back}
use Rattle.fabric_rule.specs.declared.view.FabricView.{FabricView}
use Rattle.fabric_rule.proofs.Beside.{IsWhereItWas, notes_beside, rings_beside, tails_same, views_beside}
use Rattle.fabric_rule.proofs.RuleSteps.{step_made}
use Rattle.fabric_rule.proofs.Contents.{filled_stay}
use Rattle.fabric_rule.proofs.Frames.{chunks_stay, of_each}
use Rattle.unit_model.proofs.PartOrderOthers.{others_in_order}

-- ---- what Open leaves of a core

module _ (core : Core) (seat count : ℕ) where
  opening_lists : SameLists core (after_step core (Open seat count))
  unfolding after_step core_opened
  opening_lists = record { shape = refl; seats = refl }

  opening_items : (q i : ℕ) → item_of (after_step core (Open seat count)) q i ≡ item_of core q i
  unfolding after_step core_opened
  opening_items q i = refl

  opening_owner : (chunk : ℕ) → owner_of (after_step core (Open seat count)) chunk ≡ owner_of core chunk
  unfolding after_step core_opened
  opening_owner chunk = refl

-- ---- the word of a side

abbrev pub opened_of : Core → Segments → ℕ
opened_of core Out = core.opened.out
opened_of core Back = core.opened.back

pub word_shows : (word : Place → ℕ) (core : Core) → Shows word core → (segments : Segments) → word (opened_word segments) ≡ opened_of core segments
word_shows word core shows Out = shows.out
word_shows word core shows Back = shows.back

word_off : (segments : Segments) → is_of_queues (opened_word segments) ≡ false
word_off Out = refl
word_off Back = refl

word_off_rings : (segments : Segments) (q : ℕ) (side : WordSide) → is_of_ring q side (opened_word segments) ≡ false
word_off_rings Out q side = refl
word_off_rings Back q side = refl

word_off_map : (segments : Segments) (k : ℕ) → Chunks k ≢ opened_word segments
word_off_map Out k is = absurd (cc is)
word_off_map Back k is = absurd (cc is)

pub word_there : (shape : Shape) (segments : Segments) → IsThere shape (opened_word segments)
word_there shape Out = tt
word_there shape Back = tt

word_of_side : (shape : Shape) (seat : ℕ) (segments : Segments) → segments ≡ own_segments shape seat → opened_place shape seat ≡ opened_word segments
word_of_side shape seat segments own = subst (λ (g : Segments). opened_place shape seat ≡ opened_word g) (sym own) (by (role_in shape seat == 0))
  where
    by : (b : Bool) → (if b then OpenedOut else OpenedBack) ≡ opened_word (if b then Out else Back)
    by true = refl
    by false = refl

-- so many segments has a side
segments_of_side : (shape : Shape) (seat : ℕ) (segments : Segments) → segments ≡ own_segments shape seat → side_end_in shape seat - side_start_in shape seat ≡ side_segments shape segments
segments_of_side shape seat segments own = subst (λ (g : Segments). side_end_in shape seat - side_start_in shape seat ≡ side_segments shape g) (sym own) (by (role_in shape seat == 0))
  where
    by : (b : Bool) → (if b then shape.out_segments else shape.out_segments + shape.back_segments) - (if b then 0 else shape.out_segments) ≡ side_segments shape (if b then Out else Back)
    by true = omega arith
    by false = omega arith

-- the first segment of a side that isn't open
closed_of : (core : Core) (segments : Segments) (count : ℕ) → IsSound core → count < side_segments core.shape segments → opened_of core segments ≡ count → is_opened core (segment_in core.shape segments count) ≡ false
closed_of core Out count sound more is =
    let no_out : nat_lt count core.opened.out ≡ false = le-ltb count core.opened.out (omega (arith, is)) in
    let no_back : nat_le core.shape.out_segments count ≡ false = lt-leb core.shape.out_segments count more in
    rw (no_out, no_back) refl
closed_of core Back count sound more is =
    let segment : ℕ = core.shape.out_segments + count in
    let no_out : nat_lt segment core.opened.out ≡ false = le-ltb segment core.opened.out (omega (arith, sound.held.segments.out.1)) in
    let no_back : nat_lt segment (core.shape.out_segments + core.opened.back) ≡ false = le-ltb segment (core.shape.out_segments + core.opened.back) (omega (arith, is)) in
    rw (no_out, no_back) (neither (nat_le core.shape.out_segments segment))
  where
    neither : (b : Bool) → (b && false) ≡ false
    neither true = refl
    neither false = refl

-- ---- the step

module _ {H : Type 0} (reply_of : List ℕ → Request → Reply) (shape : Shape) (s : State (Option (Parcel H)) FabricView) (holds : FabricHolds reply_of shape s) (id : ℕ) (v : FabricView) (carried : List (ℕ × Option (Parcel H))) (at : get_elem? s.views id ≡ some v)
    (segments : Segments) (count : ℕ) (own : segments ≡ own_segments shape v.seat) (more : count < side_segments shape segments) (found : word_in shape s.words (opened_word segments) ≡ count) where
  abbrev word : Place → ℕ
  word = word_in shape s.words

  abbrev place : Place
  place = opened_word segments

  abbrev word' : Place → ℕ
  word' = word_in shape (set s.words (offset_of shape place) (count + 1))

  abbrev core : Core
  core = holds.core

  abbrev core' : Core
  core' = after_step core (Open v.seat count)

  abbrev u : FabricView
  u = with_opened segments (count + 1) v

  sets : Sets shape word word' place (count + 1)
  sets = set_word shape s.words place (count + 1) holds.wide (word_there shape segments)

  needs : NeedsOpen word core v.seat count
  needs = record {
    role = (holds.views.there id v at).role;
    opened = ap word (word_of_side core.shape v.seat segments own') ∙ found;
    more = omega (arith, more', segments_of_side core.shape v.seat segments own');
  }
    where
      own' : segments ≡ own_segments core.shape v.seat
      own' = own ∙ sym (ap (λ (sh : Shape). own_segments sh v.seat) holds.shaped)

      more' : count < side_segments core.shape segments
      more' = subst (λ (sh : Shape). count < side_segments sh segments) (sym holds.shaped) more

  link : IsStep word' core (Open v.seat count)
  link = made_step shape word word' (Open v.seat count) (subst (λ (p : Place). Sets shape word word' p (count + 1)) (sym (word_of_side shape v.seat segments own)) sets) core holds.shaped holds.keeps.sound holds.shows needs

  same : SameLists core core'
  same = opening_lists core v.seat count

  -- no number of open segments falls, and the one that the seat notes is that of now
  opens_same : (y : FabricView) → OpensNoted core y → OpensNoted core' y
  opens_same y old = by segments (found) sets
    where
      by : (g : Segments) → word (opened_word g) ≡ count → Sets shape word (word_in shape (set s.words (offset_of shape place) (count + 1))) (opened_word g) (count + 1) → OpensNoted core' y
      by Out was changed = record {
        out = omega (arith, old.out, was, changed.here, holds.shows.out, link.shows.out);
        back = omega (arith, old.back, changed.others OpenedBack tt (λ is. absurd (cc is)), holds.shows.back, link.shows.back);
      }
      by Back was changed = record {
        out = omega (arith, old.out, changed.others OpenedOut tt (λ is. absurd (cc is)), holds.shows.out, link.shows.out);
        back = omega (arith, old.back, was, changed.here, holds.shows.back, link.shows.back);
      }

  opens_mine : OpensNoted core' u
  opens_mine = by segments sets
    where
      by : (g : Segments) → Sets shape word (word_in shape (set s.words (offset_of shape place) (count + 1))) (opened_word g) (count + 1) → OpensNoted core' (with_opened g (count + 1) v)
      by Out changed = record {
        out = omega (arith, changed.here, link.shows.out);
        back = omega (arith, (opens_same v (holds.views.opens id v at)).back);
      }
      by Back changed = record {
        out = omega (arith, (opens_same v (holds.views.opens id v at)).out);
        back = omega (arith, changed.here, link.shows.back);
      }

  opened_more : IsMachineStep reply_of shape s holds (Open v.seat count) (stepped s (offset_of shape place) (count + 1) id carried u keeps)
  opened_more =
      let items : (q i : ℕ) → item_of core' q i ≡ item_of core q i = opening_items core v.seat count in
      step_made reply_of shape s holds (Open v.seat count) (set s.words (offset_of shape place) (count + 1)) s.homes (set s.views id u) holds.popped holds.armed
      (omega (arith, holds.wide, length-set s.words (offset_of shape place) (count + 1))) link (same.shape ∙ holds.shaped)
      (others_in_order holds.popped holds.armed core (Open v.seat count) holds.keeps.sound holds.keeps.order tt link.enabled)
      (notes_beside shape word word' place (count + 1) sets (word_off segments) (word_off_rings segments) s.views id v at v.ledgers v.works v.chunks (AtMap segments (OpenedTo (count + 1))) (λ q side. refl) (λ q. refl) holds.notes)
      (views_beside shape word word' holds.popped holds.armed holds.records core core' s.views id v at v.chunks (AtMap segments (OpenedTo (count + 1))) same
      (λ q i. subst (IsWhereItWas (item_of core q i)) (sym (items q i)) (record { tag = refl; place = refl; last = refl }))
      (tails_same core shape word word' holds.shaped (rings_beside shape word word' place (count + 1) sets (word_off segments) (word_off_rings segments)))
      (chunks_stay core core' s.views id v u at same.shape (opening_owner core v.seat count) (λ f. refl) holds.views.chunks)
      (of_each (OpensNoted core) (OpensNoted core') s.views id u opens_mine opens_same holds.views.opens) (λ none. (holds.views.idle id v at none).chunks) holds.views)
      (λ chunk lt is_set. holds.free chunk lt (sym (chunk_stays shape word word' place (count + 1) sets (word_off_map segments) chunk lt) ∙ is_set))
      (filled_stay H reply_of holds.records holds.records core core' s.homes s.homes same.shape
      (λ q i has armed. let is = items q i in (ap (λ (y : Item). y.tag) is, ap (λ (y : Item). y.run) is, ap (λ (y : Item). y.part) is, refl, λ chunk in_run. refl)) holds.filled)

  all_free : IsAllFree shape core' segments count
  all_free chunk lt =
      let more' : count < side_segments core.shape segments = subst (λ (sh : Shape). count < side_segments sh segments) (sym holds.shaped) more in
      let closed : is_opened core (segment_in core.shape segments count) ≡ false = closed_of core segments count holds.keeps.sound more' (sym (word_shows word core holds.shows segments) ∙ found) in
      opening_owner core v.seat count (chunk_number (segment_in shape segments count) chunk)
      ∙ ap (λ (sh : Shape). owner_of core (chunk_number (segment_in sh segments count) chunk)) (sym holds.shaped)
      ∙ holds.keeps.sound.held.segments.unopened (segment_in core.shape segments count) chunk lt closed

  pub opens : SegmentOpens reply_of shape s holds id v carried segments count
  unfolding opened_more step_made
  opens = record { step = opened_more; free = all_free }

pub open_more : (H : Type 0) → OpenLaw H
open_more H reply_of shape s holds id v carried at segments count own more found = opens reply_of shape s holds id v carried at segments count own more found
