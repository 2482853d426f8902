-- What a step leaves of the parcels of messages, and of items that are kept.
use Rattle.unit_types.specs.declared.message.Reply.{Reply}
use Rattle.unit_types.specs.declared.message.Request.{Request}
use Rattle.std.proofs.Common.{ℕ, ◌+◌, ◌≡◌, ◌≢◌, ◌<◌, List, sym, ap, ◌∙◌, subst, arith}
use Rattle.std.specs.Prelude.{Option}
use mathlib.Core.Option.{some}
use lib.ListN.{get_elem?}
use Rattle.carried_slots.specs.RunLaws.{HaveValuesAtHome}
use Rattle.request_context.specs.declared.piece.Parcel.{Parcel}
use Rattle.unit_model.specs.Core.{chunk_number, item_of}
use Rattle.unit_model.specs.Holding.{IsInRun}
use Rattle.unit_model.specs.PartOrder.{Each}
use Rattle.unit_model.specs.Runs.{chunks_for}
use Rattle.unit_model.specs.declared.machine.Item.{Item}
use Rattle.unit_model.specs.declared.runs.Run.{Run}
use Rattle.unit_model.specs.declared.shape.Shape.{Shape}
use Rattle.fabric_words.specs.Places.{HasItem, queues_of}
use Rattle.fabric_rule.specs.Contents.{Carries, OfRequest, OfReply, IsFilled, IsReplyPart}
use Rattle.fabric_rule.specs.FrameLaws.{FilledStayLaw, KeptStayLaw, StaysUntagged}
use Rattle.fabric_rule.specs.Parts.{IsWornOut}
use Rattle.unit_model.specs.declared.machine.Core.{Core}
use Rattle.fabric_rule.specs.declared.view.FabricView.{FabricView}
use Rattle.fabric_rule.specs.declared.view.KeptItem.{KeptItem}
use Rattle.fabric_rule.proofs.Sums.{each_all, each_both}

pub kept_stay : KeptStayLaw
kept_stay core core' ring ring' v u shape tails untagged kept old =
    subst (λ (l : List KeptItem). Each (IsWornOut core' ring') l) (sym kept)
    (each_both (IsWornOut core ring) (StaysUntagged core core') (IsWornOut core' ring') v.kept
    (λ k is stays. record {
      there = subst (λ (s : Shape). k.queue < queues_of s) (sym shape) is.there;
      worn = omega (arith, is.worn, tails k.queue is.there);
      untagged = stays is.untagged;
    })
    old untagged)

-- where no item gets a tag
pub kept_untagged : (core core' : Core) → ((queue item : ℕ) → (item_of core queue item).tag ≡ 0 → (item_of core' queue item).tag ≡ 0) → (v : FabricView) → Each (StaysUntagged core core') v.kept
kept_untagged core core' stays v = each_all (StaysUntagged core core') v.kept (λ k. stays k.queue k.item)

module _ {H : Type 0} (reply_of : List ℕ → Request → Reply) (records records' : ℕ → List ℕ) (homes homes' : List (mathlib.Core.Option.Option (Option (Parcel H)))) where
  carries_same : (queue tag tag' part part' : ℕ) (parcels : List (Parcel H)) → tag' ≡ tag → part' ≡ part → records' tag ≡ records tag → Carries reply_of records queue tag part parcels → Carries reply_of records' queue tag' part' parcels
  carries_same queue tag tag' part part' parcels tags parts same (OfRequest line is) = OfRequest line (record {
    asks = is.asks;
    posted = is.posted ∙ sym same ∙ sym (ap records' tags);
    asked = is.asked;
    has = is.has;
    under = is.under ∙ sym tags;
    whole = ap records' tags ∙ same ∙ is.whole;
  })
  carries_same queue tag tag' part part' parcels tags parts same (OfReply back is) = OfReply back (subst (λ (n : ℕ). IsReplyPart reply_of n part' parcels) (sym tags) (subst (λ (n : ℕ). IsReplyPart reply_of tag n parcels) (sym parts) is))

  pub filled_same : (queue : ℕ) (item item' : Item) → item'.tag ≡ item.tag → item'.run ≡ item.run → item'.part ≡ item.part → records' item.tag ≡ records item.tag → ((chunk : ℕ) → IsInRun item.run chunk → get_elem? homes' chunk ≡ get_elem? homes chunk)
      → IsFilled reply_of records homes queue item → IsFilled reply_of records' homes' queue item'
  filled_same queue item item' tags runs parts same at_home old =
      let first : ℕ = chunk_number item.run.segment item.run.chunk in
      let here : HaveValuesAtHome first old.parcels homes' = λ i lt. at_home (first + i) (omega arith, omega (arith, lt, old.long)) ∙ old.home i lt in
      record {
        parcels = old.parcels;
        long = old.long ∙ sym (ap (λ (r : Run). chunks_for r.size) runs);
        home = subst (λ (r : Run). HaveValuesAtHome (chunk_number r.segment r.chunk) old.parcels homes') (sym runs) here;
        carries = carries_same queue item.tag item'.tag item.part item'.part old.parcels tags parts same old.carries;
      }

pub filled_stay : (H : Type 0) → FilledStayLaw H
filled_stay H reply_of records records' core core' homes homes' shape same old queue item there armed =
    let there_old : HasItem core.shape queue item = subst (λ (s : Shape). HasItem s queue item) shape there in
    let is = same queue item there_old armed in
    let was_armed : (item_of core queue item).tag ≢ 0 = λ none. armed (is.0 ∙ none) in
    filled_same reply_of records records' homes homes' queue (item_of core queue item) (item_of core' queue item) is.0 is.1 is.2 is.3 is.4 (old queue item there_old was_armed)
