-- Records that views have of streams.
use Rattle.std.proofs.Common.{ℕ, zero, suc, ◌≡◌, ◌≢◌, ◌≤◌, List, [], ◌∷◌, refl, sym, ap, ◌∙◌, subst, arith}
use Rattle.std.specs.Prelude.{Option}
use mathlib.Core.Option.{some, some-injective, some-ne-none}
use lib.ListN.{get_elem?}
use Rattle.atomic_table.specs.Table.{State}
use Rattle.app_queue.proofs.ArmFrames.{some_weighs}
use Rattle.request_context.specs.declared.piece.Parcel.{Parcel}
use Rattle.unit_model.specs.Core.{item_of}
use Rattle.unit_model.specs.PartOrder.{Each}
use Rattle.unit_model.specs.StreamCounts.{by_all, posted}
use Rattle.unit_model.specs.Weights.{is_number}
use Rattle.unit_model.specs.declared.machine.Core.{Core}
use Rattle.unit_model.specs.declared.machine.Item.{Item}
use Rattle.unit_model.specs.declared.shape.Shape.{Shape}
use Rattle.unit_model.proofs.SeatNotes.{seat_in_all}
use Rattle.unit_model.proofs.Weights.{is_number_some}
use Rattle.unit_types.specs.declared.message.Reply.{Reply}
use Rattle.unit_types.specs.declared.message.Request.{Request}
use Rattle.fabric_words.specs.Places.{HasItem}
use Rattle.fabric_rule.specs.Consequences.{ArmedRecordLaw, HasItsRecord, HasRecordOf, OneRecordLaw, PostedRecordLaw}
use Rattle.fabric_rule.specs.Contents.{IsFilled, IsRequest}
use Rattle.fabric_rule.specs.Parts.{IsPosting}
use Rattle.fabric_rule.specs.Rule.{FabricHolds}
use Rattle.fabric_rule.specs.Views.{records_at}
use Rattle.fabric_rule.specs.declared.view.FabricView.{FabricView}
use Rattle.fabric_rule.specs.declared.view.Posting.{Posting}
use Rattle.fabric_rule.proofs.TakeSteps.{request_of}

-- what holds of each element holds of this one
each_at : {X : Type 0} (P : X → Type 0) (xs : List X) (i : ℕ) (x : X) → get_elem? xs i ≡ some x → Each P xs → P x
each_at P [] i x at each = absurd (some-ne-none x (sym at))
each_at P (y ∷ ys) zero x at each = subst P (some-injective y x at) each.0
each_at P (y ∷ ys) (suc i) x at each = each_at P ys i x at each.1

module _ {H : Type 0} (reply_of : List ℕ → Request → Reply) (shape : Shape) (s : State (Option (Parcel H)) FabricView) (holds : FabricHolds reply_of shape s) where
  abbrev core : Core
  core = holds.core

  record_of : (stream : ℕ) → 1 ≤ by_all posted core stream → HasRecordOf s.views stream (holds.records stream)
  record_of stream was =
      let found = some_weighs (records_at stream) s.views (omega (arith, holds.views.records_there stream was)) in
      let mine = some_weighs (λ (p : Posting). is_number stream p.stream) found.1.records found.3 in
      let p : Posting = mine.1 in
      let stream_is : p.stream ≡ stream = is_number_some stream p.stream (omega (arith, mine.3)) in
      let bytes_are : holds.records p.stream ≡ p.bytes = (each_at (IsPosting core holds.records) found.1.records mine.0 p mine.2 (holds.views.records_known found.0 found.1 found.2)).same in
      let is : p ≡ record { stream = stream; bytes = holds.records stream } = ap (λ (b : List ℕ). record { stream = p.stream; bytes = b }) (sym bytes_are) ∙ ap (λ (n : ℕ). record { stream = n; bytes = holds.records n }) stream_is in
      record { id = found.0; view = found.1; at = found.2; index = mine.0; has = mine.2 ∙ ap some is }

  known : (stream : ℕ) (bytes : List ℕ) → HasRecordOf s.views stream bytes → bytes ≡ holds.records stream
  known stream bytes has = sym (each_at (IsPosting core holds.records) has.view.records has.index (record { stream = stream; bytes = bytes }) has.has (holds.views.records_known has.id has.view has.at)).same

  armed : (item : ℕ) → HasItem shape 0 item → (item_of core 0 item).tag ≢ 0 → HasItsRecord s.homes s.views (item_of core 0 item)
  armed item there tagged =
      let it : Item = item_of core 0 item in
      let there' : HasItem core.shape 0 item = subst (λ (sh : Shape). HasItem sh 0 item) (sym holds.shaped) there in
      let filled : IsFilled reply_of holds.records s.homes 0 it = holds.filled 0 item there' tagged in
      let request : IsRequest holds.records it.tag filled.parcels = request_of reply_of holds.records it.tag it.part filled.parcels filled.carries in
      let was : 1 ≤ by_all posted core it.tag = omega (arith, holds.keeps.sound.streams.part_is_poster item tagged, seat_in_all posted core it.part it.tag refl) in
      record { parcels = filled.parcels; long = filled.long; home = filled.home; has = subst (HasRecordOf s.views it.tag) (sym request.posted) (record_of it.tag was) }

pub posted_record : (H : Type 0) → PostedRecordLaw H
posted_record H reply_of shape s holds stream was = record_of reply_of shape s holds stream was

pub one_record : (H : Type 0) → OneRecordLaw H
one_record H reply_of shape s holds stream bytes has = known reply_of shape s holds stream bytes has

pub armed_record : (H : Type 0) → ArmedRecordLaw H
armed_record H reply_of shape s holds item there tagged = armed reply_of shape s holds item there tagged
