-- The exchange of a line item's tag by the worker that holds it.
use Rattle.std.proofs.Common.{ℕ, ◌≡◌, ◌≢◌, ⊎_elim, eqb, List, [], ◌∷◌, slice_index, set, refl, sym, subst}
use Rattle.std.specs.Prelude.{Option}
use Rattle.std.proofs.lemmas.List.{set-get_or}
use mathlib.Core.Option.{some}
use prog.Atomic.{either}
use lib.ListN.{get_elem?}
use Rattle.atomic_table.specs.Table.{State, Act, keeps, stepped, Valid, carried_after}
use Rattle.atomic_table.proofs.Lists.{exchanged, set_else, set_here}
use Rattle.app_queue.specs.declared.view.ItemEvent.TheVariants.{Gone}
use Rattle.app_queue.proofs.ArmFrames.{is_there}
use Rattle.carried_slots.specs.Acts.{takes_all}
use Rattle.carried_slots.specs.RunLaws.{full_run}
use Rattle.port_message.specs.Words.{numbers_of}
use Rattle.request_context.specs.Parcels.{joined}
use Rattle.request_context.specs.declared.piece.Parcel.{Parcel}
use Rattle.unit_model.specs.Shapes.{role_in}
use Rattle.unit_model.specs.Sharing.{Holds}
use Rattle.unit_model.specs.declared.runs.Run.{Run}
use Rattle.unit_model.specs.declared.shape.Shape.{Shape}
use Rattle.unit_types.specs.declared.message.Reply.{Reply}
use Rattle.unit_types.specs.declared.message.Request.{Request}
use Rattle.fabric_words.specs.Offsets.{offset_of}
use Rattle.fabric_words.specs.Places.{HasItem}
use Rattle.fabric_words.specs.declared.place.Place.TheVariants.{Tag}
use Rattle.fabric_rule.specs.Contents.{CarriesSlots}
use Rattle.fabric_rule.specs.Opening.{ledger_of}
use Rattle.fabric_rule.specs.Passing.{first_of}
use Rattle.fabric_rule.specs.Rule.{FabricHolds}
use Rattle.fabric_rule.specs.Steps.{HasLists, IsNoStep, RequestComes, with_request}
use Rattle.fabric_rule.specs.Told.{Moment, Takes}
use Rattle.fabric_rule.specs.Views.{held_at, logged, part_said, run_said}
use Rattle.fabric_rule.specs.declared.event.FabricEvent.TheVariants.{AtItem}
use Rattle.fabric_rule.specs.declared.view.FabricView.{FabricView}
use Rattle.fabric_rule.specs.declared.view.Work.TheVariants.{Holding}
use Rattle.fabric_rule.proofs.ItemLooks.{look_at_item}
use Rattle.fabric_rule.proofs.TakeSteps.{take}

module _ {H : Type 0} (reply_of : List ℕ → Request → Reply) (shape : Shape) (id : ℕ) (v : FabricView) (carried : List (ℕ × Option (Parcel H))) (s : State (Option (Parcel H)) FabricView) (holds : FabricHolds reply_of shape s) (at : get_elem? s.views id ≡ some v)
    (slots : CarriesSlots (v, carried)) (main : HasLists v (ledger_of v) (Holding ∷ [])) (worker : role_in shape v.seat ≡ 1)
    (item run_word poster stream : ℕ) (there : HasItem shape 0 item) (mine : Holds (held_at 0) item v) (said : run_said 0 v item run_word) (said_part : part_said 0 v item poster) (some_stream : stream ≢ 0) where
  abbrev pub index : ℕ
  index = offset_of shape (Tag 0 item)

  abbrev pub found : ℕ
  found = slice_index s.words index

  abbrev pub run : Run
  run = numbers_of run_word

  abbrev pub After : ℕ → Type 0
  After new = (u : FabricView) × (a : Act (Option (Parcel H))) × Valid s.homes carried a × FabricHolds reply_of shape (stepped s index new id carried u a)
      × (CarriesSlots (u, carried_after carried a) × Takes H reply_of shape id item stream poster run (v, carried) found (u, carried_after carried a))

  -- right before the exchange and right after it
  abbrev moment : (new : ℕ) (u : FabricView) → Act (Option (Parcel H)) → Moment H reply_of shape id v u
  moment new u a = record { before = s; holds = holds; was = at; after = stepped s index new id carried u a; is = set_here s.views id u (is_there s.views id v at); others = λ k ne. set_else s.views id k u ne }

  hit : found ≡ stream → After 0
  hit is =
      let comes : RequestComes reply_of shape s holds id v (ledger_of v) carried item stream poster run = take H reply_of shape s holds id v (ledger_of v) carried at main worker item stream run_word poster there mine said said_part some_stream is in
      let a : Act (Option (Parcel H)) = takes_all (full_run (first_of run) comes.parcels) in
      let u : FabricView = with_request item stream poster run (joined comes.parcels) (ledger_of v) v in (
        u,
        a,
        comes.valid,
        comes.step.after,
        (
          subst (λ (l : List (ℕ × Option (Parcel H))). CarriesSlots (u, l)) (sym comes.taken) (comes.carries slots),
          record {
            moment = moment 0 u a;
            was = refl;
            parcels = comes.parcels;
            long = λ same. comes.long;
            request = λ same. comes.request;
            engine = λ same. comes.engine;
            fits = λ same. comes.fits;
            slots = λ same. comes.taken;
            won = λ same. refl;
            step = λ same. comes.step;
            same_slots = λ ne. absurd (ne is);
            cancelled = λ ne. absurd (ne is);
            missed = λ ne. absurd (ne is);
            none = λ ne. absurd (ne is);
          },
        ),
      )

  miss : found ≢ stream → After found
  miss ne =
      let u : FabricView = logged (AtItem 0 (Gone item stream found)) v in
      let words : set s.words index found ≡ s.words = set-get_or s.words index 0 in
      let none : IsNoStep reply_of shape s holds (stepped s index found id carried u keeps) =
      subst (λ (ws : List ℕ). IsNoStep reply_of shape s holds (record { words = ws; homes = s.homes; views = set s.views id u })) (sym words)
      (look_at_item H reply_of shape s holds id v at 0 (Gone item stream found) there.in_queues refl) in (
        u,
        keeps,
        tt,
        none.after,
        (
          slots,
          record {
            moment = moment found u keeps;
            was = refl;
            parcels = [];
            long = λ same. absurd (ne same);
            request = λ same. absurd (ne same);
            engine = λ same. absurd (ne same);
            fits = λ same. absurd (ne same);
            slots = λ same. absurd (ne same);
            won = λ same. absurd (ne same);
            step = λ same. absurd (ne same);
            same_slots = λ other. refl;
            cancelled = λ other told. ⊎_elim (λ is. absurd (ne is)) (λ zero. zero) (holds.notes.tags 0 there.in_queues id v at item there.in_items mine stream told);
            missed = λ other. refl;
            none = λ other. none;
          },
        ),
      )

  pub exchanges : After (either (eqb found stream) 0 found)
  exchanges = exchanged found stream 0 After hit miss
