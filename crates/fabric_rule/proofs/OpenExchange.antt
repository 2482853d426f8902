-- The exchange of the number of open segments of a seat's side.
use Rattle.std.proofs.Common.{ℕ, ◌+◌, ◌≡◌, ◌≢◌, ◌≤◌, ◌<◌, eqb, List, slice_index, set, refl, sym, subst, arith}
use Rattle.std.specs.Prelude.{Option}
use Rattle.std.proofs.lemmas.List.{set-get_or}
use mathlib.Core.Option.{some}
use prog.Atomic.{either}
use lib.ListN.{get_elem?}
use Rattle.atomic_table.specs.Table.{State, Act, keeps, stepped, Valid, carried_after}
use Rattle.atomic_table.proofs.Lists.{exchanged, set_else, set_here}
use Rattle.app_queue.proofs.ArmFrames.{is_there}
use Rattle.chunk_map.specs.declared.view.MapEvent.TheVariants.{FoundOpen}
use Rattle.request_context.specs.declared.piece.Parcel.{Parcel}
use Rattle.unit_model.specs.declared.shape.Shape.{Shape}
use Rattle.unit_types.specs.declared.message.Reply.{Reply}
use Rattle.unit_types.specs.declared.message.Request.{Request}
use Rattle.fabric_words.specs.Offsets.{offset_of, word_in}
use Rattle.fabric_rule.specs.Claiming.{own_segments, side_segments}
use Rattle.fabric_rule.specs.Looks.{opened_word}
use Rattle.fabric_rule.specs.Parts.{OpensNoted}
use Rattle.fabric_rule.specs.Rule.{FabricHolds}
use Rattle.fabric_rule.specs.Segmenting.{Opens, SegmentOpens, with_opened}
use Rattle.fabric_rule.specs.Steps.{IsNoStep}
use Rattle.fabric_rule.specs.Told.{Moment}
use Rattle.fabric_rule.specs.Views.{logged, open_noted}
use Rattle.fabric_rule.specs.declared.event.FabricEvent.{FabricEvent}
use Rattle.fabric_rule.specs.declared.event.FabricEvent.TheVariants.{AtMap}
use Rattle.fabric_rule.specs.declared.event.Segments.{Segments}
use Rattle.fabric_rule.specs.declared.event.Segments.TheVariants.{Out, Back}
use Rattle.fabric_rule.specs.declared.view.FabricView.{FabricView}
use Rattle.fabric_rule.proofs.Logged.{logs, other_notes}
use Rattle.fabric_rule.proofs.OpenSteps.{open_more, opened_of, word_shows}
use Rattle.fabric_rule.proofs.OpenWords.{open_between}

module _ {H : Type 0} (reply_of : List ℕ → Request → Reply) (shape : Shape) (id : ℕ) (v : FabricView) (carried : List (ℕ × Option (Parcel H))) (s : State (Option (Parcel H)) FabricView) (holds : FabricHolds reply_of shape s) (at : get_elem? s.views id ≡ some v)
    (segments : Segments) (count : ℕ) (own : segments ≡ own_segments shape v.seat) (more : count < side_segments shape segments) where
  abbrev pub index : ℕ
  index = offset_of shape (opened_word segments)

  abbrev pub found : ℕ
  found = slice_index s.words index

  abbrev pub After : ℕ → Type 0
  After new = (u : FabricView) × (a : Act (Option (Parcel H))) × Valid s.homes carried a × FabricHolds reply_of shape (stepped s index new id carried u a)
      × ((carried_after carried a ≡ carried) × (u.chunks ≡ v.chunks) × Opens H reply_of shape id segments count v found u)

  -- right before the exchange and right after it
  abbrev moment : (new : ℕ) (u : FabricView) → Moment H reply_of shape id v u
  moment new u = record { before = s; holds = holds; was = at; after = stepped s index new id carried u keeps; is = set_here s.views id u (is_there s.views id v at); others = λ k ne. set_else s.views id k u ne }

  open_now : (1 ≤ found) × (open_noted segments v ≤ found) × (found ≤ side_segments shape segments)
  open_now = open_between reply_of shape s holds id v at segments

  hit : found ≡ count → After (count + 1)
  hit is =
      let u : FabricView = with_opened segments (count + 1) v in
      let opens : SegmentOpens reply_of shape s holds id v carried segments count = open_more H reply_of shape s holds id v carried at segments count own more is in (
        u,
        keeps,
        tt,
        opens.step.after,
        (
          refl,
          refl,
          record {
            moment = moment (count + 1) u;
            was = refl;
            noted = open_now.1;
            most = open_now.2;
            won = λ same. refl;
            step = λ same. opens.step;
            free = λ same. opens.free;
            missed = λ ne. absurd (ne is);
            none = λ ne. absurd (ne is);
          },
        ),
      )

  miss : found ≢ count → After found
  miss ne =
      let e : FabricEvent = AtMap segments (FoundOpen found) in
      let u : FabricView = logged e v in
      let words : set s.words index found ≡ s.words = set-get_or s.words index 0 in
      let none : IsNoStep reply_of shape s holds (stepped s index found id carried u keeps) =
      subst (λ (ws : List ℕ). IsNoStep reply_of shape s holds (record { words = ws; homes = s.homes; views = set s.views id u })) (sym words)
      (logs reply_of shape s holds id v at e (other_notes reply_of shape s holds id v at e (λ q side. refl) (λ q. refl)) (opens_found segments (word_shows (word_in shape s.words) holds.core holds.shows segments))) in (
        u,
        keeps,
        tt,
        none.after,
        (
          refl,
          refl,
          record {
            moment = moment found u;
            was = refl;
            noted = open_now.1;
            most = open_now.2;
            won = λ same. absurd (ne same);
            step = λ same. absurd (ne same);
            free = λ same. absurd (ne same);
            missed = λ other. refl;
            none = λ other. none;
          },
        ),
      )
    where
      opens_found : (g : Segments) → found ≡ opened_of holds.core g → OpensNoted holds.core (logged (AtMap g (FoundOpen found)) v)
      opens_found Out is = record { out = omega (arith, is); back = (holds.views.opens id v at).back }
      opens_found Back is = record { out = (holds.views.opens id v at).out; back = omega (arith, is) }

  pub exchanges : After (either (eqb found count) (count + 1) found)
  exchanges = exchanged found count (count + 1) After hit miss
