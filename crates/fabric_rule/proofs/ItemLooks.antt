-- A look at an item.
use Rattle.std.proofs.Common.{ℕ, ◌≡◌, ◌<◌, ◌≢◌, ◌⊎◌, ◌==◌, inl, inr, Bool, true, false, cond, List, ◌∷◌, set, Some, refl, sym, ◌∙◌, subst, arith}
use Rattle.std.specs.Prelude.{Option}
use mathlib.Core.Option.{some}
use lib.ListN.{get_elem?}
use Rattle.atomic_table.specs.Table.{State}
use Rattle.app_queue.specs.Views.{last_tag, last_run, last_part, is_armed}
use Rattle.app_queue.specs.declared.view.ItemEvent.{ItemEvent}
use Rattle.app_queue.specs.declared.view.ItemEvent.TheVariants.{Taken, RunNoted, PartNoted, TagNoted, Armed, Won, Gone}
use Rattle.app_queue.specs.Parts.{TagsKnown, WordsKnown}
use Rattle.std.proofs.lemmas.Bool.{eq-eqb, ne_eqb}
use Rattle.app_queue.proofs.ArmFrames.{arms_stay}
use Rattle.app_queue.proofs.KnownFrames.{tags_known, tags_known_one, words_known, words_known_one}
use Rattle.app_queue.proofs.QueueViews.{told_else, told_here}
use Rattle.request_context.specs.declared.piece.Parcel.{Parcel}
use Rattle.unit_model.specs.Holding.{items_of}
use Rattle.unit_model.specs.declared.machine.Core.{Core}
use Rattle.unit_model.specs.declared.shape.Shape.{Shape}
use Rattle.unit_types.specs.declared.message.Reply.{Reply}
use Rattle.unit_types.specs.declared.message.Request.{Request}
use Rattle.fabric_words.specs.Offsets.{word_in}
use Rattle.fabric_words.specs.Places.{queues_of}
use Rattle.fabric_words.specs.declared.place.Place.{Place}
use Rattle.fabric_words.specs.declared.place.Place.TheVariants.{Head, PartWord, RunWord, Tag}
use Rattle.fabric_words.specs.declared.place.Side.TheVariants.{FreeSide}
use Rattle.fabric_rule.specs.Rule.{FabricHolds, NotesAreTrue}
use Rattle.fabric_rule.specs.Steps.{IsItemLook, IsNoStep, ItemLookLaw}
use Rattle.fabric_rule.specs.Views.{arms_at, got_at, held_at, item_log, logged, part_in, part_said, queues_in, run_in, run_said, tag_in, tag_kept, tag_said}
use Rattle.fabric_rule.specs.declared.event.FabricEvent.TheVariants.{AtItem}
use Rattle.fabric_rule.specs.declared.view.FabricView.{FabricView}
use Rattle.fabric_rule.proofs.Logged.{logs}
use Rattle.fabric_rule.proofs.ItemNotes.{rings_kept}

-- what a look at an item notes of other words, and of other items, it noted before
module _ {H : Type 0} (reply_of : List ℕ → Request → Reply) (shape : Shape) (s : State (Option (Parcel H)) FabricView) (holds : FabricHolds reply_of shape s) (id : ℕ) (v : FabricView) (at : get_elem? s.views id ≡ some v)
    (queue : ℕ) (there : queue < queues_of shape) where
  abbrev pub word : Place → ℕ
  word = word_in shape s.words

  abbrev pub core : Core
  core = holds.core

  abbrev pub after : ItemEvent → FabricView
  after e = logged (AtItem queue e) v

  -- what a log says, where it has one event more that doesn't touch it
  abbrev pub Untouched : (X : Type 0) → (ℕ → List ItemEvent → X) → ItemEvent → Type 0
  Untouched X says e = (i : ℕ) (es : List ItemEvent) → says i (e ∷ es) ≡ says i es

  pub said : (X : Type 0) (says : ℕ → List ItemEvent → X) (e : ItemEvent) → Untouched X says e → (q i : ℕ) → says i (item_log q (after e).log) ≡ says i (item_log q v.log)
  said X says e untouched q i = by (queue == q)
    where
      by : (b : Bool) → says i (cond b (e ∷ item_log q v.log) (item_log q v.log)) ≡ says i (item_log q v.log)
      by true = untouched i (item_log q v.log)
      by false = refl

  -- and where it has one that says something of one item: of another one it says what it said
  abbrev pub SaysOf : (ℕ → List ItemEvent → Option ℕ) → ℕ → ℕ → ItemEvent → Type 0
  SaysOf says item x e = (i : ℕ) (es : List ItemEvent) → says i (e ∷ es) ≡ cond (item == i) (Some x) (says i es)

  pub said_else : (says : ℕ → List ItemEvent → Option ℕ) (item x : ℕ) (e : ItemEvent) → SaysOf says item x e → (q i : ℕ) → (q ≢ queue) ⊎ (i ≢ item) → (y : ℕ) → says i (item_log q (after e).log) ≡ Some y → says i (item_log q v.log) ≡ Some y
  said_else says item x e of q i (inl ne) y told = subst (λ (b : Bool). says i (cond b (e ∷ item_log q v.log) (item_log q v.log)) ≡ Some y) (ne_eqb queue q (λ is. ne (sym is))) told
  said_else says item x e of q i (inr ne) y told = by (queue == q) told
    where
      by : (b : Bool) → says i (cond b (e ∷ item_log q v.log) (item_log q v.log)) ≡ Some y → says i (item_log q v.log) ≡ Some y
      by true told = told_else item i (Some x) (says i (item_log q v.log)) y ne (sym (of i (item_log q v.log)) ∙ told)
      by false told = told

  pub said_here : (says : ℕ → List ItemEvent → Option ℕ) (item x : ℕ) (e : ItemEvent) → SaysOf says item x e → (y : ℕ) → says item (item_log queue (after e).log) ≡ Some y → x ≡ y
  said_here says item x e of y told =
      let here : says item (e ∷ item_log queue v.log) ≡ Some y = subst (λ (b : Bool). says item (cond b (e ∷ item_log queue v.log) (item_log queue v.log)) ≡ Some y) (eq-eqb queue queue refl) told in
      let both : Some x ≡ Some y = told_here item (Some x) (says item (item_log queue v.log)) y (sym (of item (item_log queue v.log)) ∙ here) in
      cc both

  -- ---- each part

  tags_same : (e : ItemEvent) → Untouched (Option ℕ) last_tag e → TagsKnown held_at tag_said (queues_in shape) (tag_in word) (set s.views id (after e))
  tags_same e untouched = tags_known FabricView tag_said held_at (queues_in shape) (tag_in word) (tag_in word) s.views id v (after e) at (λ q lt i below_n. refl)
      (λ q i mine. (mine, λ x told. sym (said (Option ℕ) last_tag e untouched q i) ∙ told)) holds.notes.tags

  kept_same : (e : ItemEvent) → Untouched (Option ℕ) last_tag e → WordsKnown held_at (tag_kept shape) (queues_in shape) (tag_in word) (set s.views id (after e))
  kept_same e untouched = words_known FabricView (tag_kept shape) held_at (queues_in shape) (tag_in word) (tag_in word) s.views id v (after e) at (λ q lt i below_n. refl)
      (λ q i mine. (mine, λ x told. (sym (said (Option ℕ) last_tag e untouched q i) ∙ told.0, told.1))) holds.notes.kept_tags

  runs_same : (e : ItemEvent) → Untouched (Option ℕ) last_run e → WordsKnown held_at run_said (queues_in shape) (run_in word) (set s.views id (after e))
  runs_same e untouched = words_known FabricView run_said held_at (queues_in shape) (run_in word) (run_in word) s.views id v (after e) at (λ q lt i below_n. refl)
      (λ q i mine. (mine, λ x told. sym (said (Option ℕ) last_run e untouched q i) ∙ told)) holds.notes.runs

  parts_same : (e : ItemEvent) → Untouched (Option ℕ) last_part e → WordsKnown held_at part_said (queues_in shape) (part_in word) (set s.views id (after e))
  parts_same e untouched = words_known FabricView part_said held_at (queues_in shape) (part_in word) (part_in word) s.views id v (after e) at (λ q lt i below_n. refl)
      (λ q i mine. (mine, λ x told. sym (said (Option ℕ) last_part e untouched q i) ∙ told)) holds.notes.parts

  tags_seen : (item x : ℕ) (e : ItemEvent) → SaysOf last_tag item x e → word (Tag queue item) ≡ x → TagsKnown held_at tag_said (queues_in shape) (tag_in word) (set s.views id (after e))
  tags_seen item x e of is = tags_known_one FabricView tag_said held_at (queues_in shape) (tag_in word) (tag_in word) s.views id v (after e) at (λ q lt i below_n. refl) queue item
      (λ r i lt apart mine. (mine, said_else last_tag item x e of r i apart)) (λ y told. inl (is ∙ said_here last_tag item x e of y told)) holds.notes.tags

  kept_seen : (item x : ℕ) (e : ItemEvent) → SaysOf last_tag item x e → word (Tag queue item) ≡ x → WordsKnown held_at (tag_kept shape) (queues_in shape) (tag_in word) (set s.views id (after e))
  kept_seen item x e of is = words_known_one FabricView (tag_kept shape) held_at (queues_in shape) (tag_in word) (tag_in word) s.views id v (after e) at (λ q lt i below_n. refl) queue item
      (λ r i lt apart mine. (mine, λ y told. (said_else last_tag item x e of r i apart y told.0, told.1))) (λ y told. is ∙ said_here last_tag item x e of y told.0) holds.notes.kept_tags

  runs_seen : (item x : ℕ) (e : ItemEvent) → SaysOf last_run item x e → word (RunWord queue item) ≡ x → WordsKnown held_at run_said (queues_in shape) (run_in word) (set s.views id (after e))
  runs_seen item x e of is = words_known_one FabricView run_said held_at (queues_in shape) (run_in word) (run_in word) s.views id v (after e) at (λ q lt i below_n. refl) queue item
      (λ r i lt apart mine. (mine, said_else last_run item x e of r i apart)) (λ y told. is ∙ said_here last_run item x e of y told) holds.notes.runs

  parts_seen : (item x : ℕ) (e : ItemEvent) → SaysOf last_part item x e → word (PartWord queue item) ≡ x → WordsKnown held_at part_said (queues_in shape) (part_in word) (set s.views id (after e))
  parts_seen item x e of is = words_known_one FabricView part_said held_at (queues_in shape) (part_in word) (part_in word) s.views id v (after e) at (λ q lt i below_n. refl) queue item
      (λ r i lt apart mine. (mine, said_else last_part item x e of r i apart)) (λ y told. is ∙ said_here last_part item x e of y told) holds.notes.parts

  -- ---- all notes

  noted : (e : ItemEvent) → Untouched Bool is_armed e → TagsKnown held_at tag_said (queues_in shape) (tag_in word) (set s.views id (after e)) → WordsKnown held_at (tag_kept shape) (queues_in shape) (tag_in word) (set s.views id (after e))
      → WordsKnown held_at run_said (queues_in shape) (run_in word) (set s.views id (after e)) → WordsKnown held_at part_said (queues_in shape) (part_in word) (set s.views id (after e))
      → NotesAreTrue shape word (set s.views id (after e))
  noted e unarmed tags kept_tags runs parts = record {
    rings = rings_kept shape word s.views id v (after e) at (λ q side. refl) holds.notes.rings;
    tags = tags;
    kept_tags = kept_tags;
    runs = runs;
    parts = parts;
    arms = λ q lt. arms_stay FabricView (got_at q) (arms_at q) (held_at q) (items_of shape q) (word (Head q FreeSide)) (word (Head q FreeSide)) (tag_in word q) (tag_in word q) (run_in word q) (run_in word q) (part_in word q) (part_in word q) s.views id v (after e) at
        (omega arith) (λ i below_n. inr (refl, refl, refl)) refl
        (λ i mine p got. (mine, (got.0, sym (said Bool is_armed e unarmed q i) ∙ got.1))) (holds.notes.arms q lt);
  }

  notes_look : (e : ItemEvent) → IsItemLook word queue e → NotesAreTrue shape word (set s.views id (after e))
  notes_look (Taken side item place) look = absurd look
  notes_look (RunNoted item x) look =
      let e : ItemEvent = RunNoted item x in
      noted e (λ i es. refl) (tags_same e (λ i es. refl)) (kept_same e (λ i es. refl)) (runs_seen item x e (λ i es. refl) look) (parts_same e (λ i es. refl))
  notes_look (PartNoted item x) look =
      let e : ItemEvent = PartNoted item x in
      noted e (λ i es. refl) (tags_same e (λ i es. refl)) (kept_same e (λ i es. refl)) (runs_same e (λ i es. refl)) (parts_seen item x e (λ i es. refl) look)
  notes_look (TagNoted item x) look =
      let e : ItemEvent = TagNoted item x in
      noted e (λ i es. refl) (tags_seen item x e (λ i es. refl) look) (kept_seen item x e (λ i es. refl) look) (runs_same e (λ i es. refl)) (parts_same e (λ i es. refl))
  notes_look (Armed item stream) look = absurd look
  notes_look (Won item stream) look = absurd look
  notes_look (Gone item stream found) look =
      let e : ItemEvent = Gone item stream found in
      noted e (λ i es. refl) (tags_seen item found e (λ i es. refl) look) (kept_seen item found e (λ i es. refl) look) (runs_same e (λ i es. refl)) (parts_same e (λ i es. refl))

  pub looks : (e : ItemEvent) → IsItemLook word queue e → IsNoStep reply_of shape s holds (record s { views = set s.views id (after e) })
  looks e look = logs reply_of shape s holds id v at (AtItem queue e) (notes_look e look) (record { out = (holds.views.opens id v at).out; back = (holds.views.opens id v at).back })

pub look_at_item : (H : Type 0) → ItemLookLaw H
look_at_item H reply_of shape s holds id v at queue e there look = looks reply_of shape s holds id v at queue there e look
