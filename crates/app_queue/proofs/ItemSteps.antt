-- Each step at an item of a queue keeps the rule of its table.
use Rattle.std.proofs.Common.{ℕ, ◌≡◌, ◌≢◌, ◌<◌, ◌≤◌, ◌⊎◌, inl, inr, ⊎_elim, eqb, List, ◌∷◌, set, Some, refl, sym, ap, ◌∙◌, subst, arith, length-set}
use Rattle.std.proofs.lemmas.Bool.{cases_eq}
use Rattle.std.proofs.lemmas.List.{set-get_or}
use prog.Atomic.{either}
use lib.ListN.{get_elem?}
use Rattle.atomic_table.specs.Table.{State, keeps, stepped}
use Rattle.atomic_table.proofs.Lists.{exchanged}
use Rattle.unit_model.specs.Sharing.{Holds}
use Rattle.unit_model.specs.Weights.{weigh, is_number}
use Rattle.nncq_ring.specs.Views.{push_weight, pop_weight}
use Rattle.app_queue.specs.declared.layout.Place.{Place}
use Rattle.app_queue.specs.declared.layout.Place.TheVariants.{InRing, TagOf, RunOf, PartOf}
use Rattle.app_queue.specs.declared.side.Side.{Side}
use Rattle.app_queue.specs.declared.side.Side.TheVariants.{Free, Line}
use Rattle.app_queue.specs.declared.view.ItemEvent.{ItemEvent}
use Rattle.app_queue.specs.declared.view.ItemEvent.TheVariants.{RunNoted, PartNoted, TagNoted, Armed, Won, Gone}
use Rattle.app_queue.specs.declared.view.QueueView.{QueueView}
use Rattle.app_queue.specs.Layout.{word_at, word_of, ring_of, one_queue, queue_words, IsReal}
use Rattle.app_queue.specs.Parts.{lines_weight, FreeUntagged, TagsCounted, TagsKnown, WordsKnown, WordsNoted}
use Rattle.app_queue.specs.Queues.{RingsStay, WordsStay}
use Rattle.app_queue.specs.Rule.{QueueHolds, begun_with, starts_at}
use Rattle.app_queue.specs.Told.{SeesTag, SeesRun, SeesPart, Settles}
use Rattle.app_queue.specs.Views.{last_tag, last_run, last_part, held_by, held_of, log_at, log_of, pushes_of, pops_of, arm_weight, win_weight, arms_of, wins_of, run_notes_of, part_notes_of, tag_said, run_said, part_said, after}
use Rattle.app_queue.proofs.HistoryFrames.{histories_stay}
use Rattle.app_queue.proofs.ItemFrames.{items_stay, free_stay, free_arm, held_is_out}
use Rattle.app_queue.proofs.KnownFrames.{tags_known, tags_known_one, tags_known_set, tags_known_won, words_known, words_known_one, words_known_set}
use Rattle.app_queue.proofs.NotedFrames.{words_noted, words_noted_set, is_pair_same}
use Rattle.app_queue.proofs.Places.{rings_else, tags_else, runs_else, parts_else, tag_set, run_set, part_set}
use Rattle.app_queue.proofs.QueueSteps.{After, words_then, tag_zero}
use Rattle.app_queue.proofs.QueueViews.{told_else, told_here, won_told, gone_told}
use Rattle.app_queue.proofs.RingFrames.{rings_stay}
use Rattle.app_queue.proofs.TagFrames.{tags_counted, tags_armed, tags_won}

after_log : (side : Side) (e : ItemEvent) (v : QueueView) → log_at side (after e v) ≡ log_at side v
after_log Free e v = refl
after_log Line e v = refl

module _ (key : ℕ × ℕ) (id : ℕ) (v : QueueView) (carried : List (ℕ × ℕ)) (s : State ℕ QueueView) (holds : QueueHolds key s) (at : get_elem? s.views id ≡ mathlib.Core.Option.some v) where
  abbrev pub At : Place → ℕ → (QueueView → Type 0) → Type 0
  At p new told = After key id v carried s holds at p new told

  abbrev Then : Place → ℕ → List ℕ
  Then p new = words_then key id v carried s holds at p new

  one : 0 < 1
  one = omega arith

  -- what no seat holds weighs
  abbrev elsewhere : ℕ → (ℕ → ℕ) → ℕ
  elsewhere q f = lines_weight key.0 (ring_of key.0 s.words) f

  -- runs that stay are noted still, and parts
  runs_noted : (run' : ℕ → ℕ → ℕ) (e : ItemEvent) → WordsStay (one_queue key.0) (queue_words key.0 s.words).run run' → WordsNoted run_notes_of (one_queue key.0) run' (set s.views id (after e v))
  runs_noted run' e stays = words_noted QueueView run_notes_of (one_queue key.0) (queue_words key.0 s.words).run run' s.views id v (after e v) at stays (λ q f. omega arith) holds.noted_runs

  parts_noted : (part' : ℕ → ℕ → ℕ) (e : ItemEvent) → WordsStay (one_queue key.0) (queue_words key.0 s.words).part part' → WordsNoted part_notes_of (one_queue key.0) part' (set s.views id (after e v))
  parts_noted part' e stays = words_noted QueueView part_notes_of (one_queue key.0) (queue_words key.0 s.words).part part' s.views id v (after e v) at stays (λ q f. omega arith) holds.noted_parts

  -- ---- a look changes no word

  noted : (p : Place) (e : ItemEvent) → ((f : ℕ → ℕ → ℕ) → arm_weight f e ≡ 0) → ((f : ℕ → ℕ → ℕ) → win_weight f e ≡ 0)
      → TagsKnown held_of tag_said (one_queue key.0) (queue_words key.0 s.words).tag (set s.views id (after e v)) → WordsKnown held_of run_said (one_queue key.0) (queue_words key.0 s.words).run (set s.views id (after e v))
      → WordsKnown held_of part_said (one_queue key.0) (queue_words key.0 s.words).part (set s.views id (after e v))
      → QueueHolds key (stepped s (word_at key.0 p) (word_of key.0 s.words p) id carried (after e v) keeps)
  noted p e armed won tags' runs' parts' =
      let u : QueueView = after e v in
      let w = queue_words key.0 s.words in
      let same_rings : RingsStay (one_queue key.0) w.ring w.ring = λ q lt side. record { head = refl; tail = refl; entries = λ j below_n. refl } in
      let stays : QueueHolds key (record { words = s.words; homes = s.homes; views = set s.views id u }) = record {
        wide = holds.wide;
        rings = rings_stay QueueView log_of (one_queue key.0) w.ring w.ring s.views id v u at same_rings (λ q side. after_log side e v) holds.rings;
        history = histories_stay QueueView pushes_of pops_of (starts_at key.1) (begun_with key.0 key.1) (one_queue key.0) w.ring w.ring s.views id v u at (λ q lt side. (holds.rings.rings q lt side).fine) same_rings
            (λ q side g. ap (weigh (push_weight g)) (after_log side e v)) (λ q side g. ap (weigh (pop_weight g)) (after_log side e v)) holds.history;
        owned = items_stay QueueView held_of (one_queue key.0) w.ring w.ring s.views id v u at (λ q lt side. (holds.rings.rings q lt side).fine) same_rings (λ q f. refl) holds.owned;
        free = holds.free;
        counted = tags_counted QueueView arms_of wins_of (one_queue key.0) w.tag w.tag s.views id v u at (λ q lt i below_n. refl) (λ q f. omega (arith, armed f)) (λ q f. omega (arith, won f)) holds.counted;
        tags = tags';
        runs = runs';
        parts = parts';
        noted_runs = runs_noted w.run e (λ q lt i below_n. refl);
        noted_parts = parts_noted w.part e (λ q lt i below_n. refl);
      } in
      subst (λ (ws : List ℕ). QueueHolds key (record { words = ws; homes = s.homes; views = set s.views id u })) (sym (set-get_or s.words (word_at key.0 p) 0)) stays

  -- what is said of tags after a look at one
  said_tag : (item x : ℕ) (e : ItemEvent) → word_of key.0 s.words (TagOf item) ≡ x → ((i y : ℕ) → i ≢ item → last_tag i (e ∷ v.items) ≡ Some y → last_tag i v.items ≡ Some y) → ((y : ℕ) → last_tag item (e ∷ v.items) ≡ Some y → x ≡ y)
      → TagsKnown held_of tag_said (one_queue key.0) (queue_words key.0 s.words).tag (set s.views id (after e v))
  said_tag item x e is others here =
      let tag = (queue_words key.0 s.words).tag in
      tags_known_one QueueView tag_said held_of (one_queue key.0) tag tag s.views id v (after e v) at (λ q lt i below_n. refl) 0 item
      (λ r i r_lt apart mine. ⊎_elim (λ ne. absurd (ne (omega (arith, r_lt)))) (λ ne. (mine, λ y told. others i y ne told)) apart)
      (λ y told. inl (is ∙ here y told)) holds.tags

  same_tags : (e : ItemEvent) → ((i y : ℕ) → last_tag i (e ∷ v.items) ≡ Some y → last_tag i v.items ≡ Some y) → TagsKnown held_of tag_said (one_queue key.0) (queue_words key.0 s.words).tag (set s.views id (after e v))
  same_tags e less = let tag = (queue_words key.0 s.words).tag in tags_known QueueView tag_said held_of (one_queue key.0) tag tag s.views id v (after e v) at (λ q lt i below_n. refl) (λ q i mine. (mine, less i)) holds.tags

  same_runs : (e : ItemEvent) → ((i y : ℕ) → last_run i (e ∷ v.items) ≡ Some y → last_run i v.items ≡ Some y) → WordsKnown held_of run_said (one_queue key.0) (queue_words key.0 s.words).run (set s.views id (after e v))
  same_runs e less = let run = (queue_words key.0 s.words).run in words_known QueueView run_said held_of (one_queue key.0) run run s.views id v (after e v) at (λ q lt i below_n. refl) (λ q i mine. (mine, less i)) holds.runs

  same_parts : (e : ItemEvent) → ((i y : ℕ) → last_part i (e ∷ v.items) ≡ Some y → last_part i v.items ≡ Some y) → WordsKnown held_of part_said (one_queue key.0) (queue_words key.0 s.words).part (set s.views id (after e v))
  same_parts e less = let part = (queue_words key.0 s.words).part in words_known QueueView part_said held_of (one_queue key.0) part part s.views id v (after e v) at (λ q lt i below_n. refl) (λ q i mine. (mine, less i)) holds.parts

  pub sees_tag : (item : ℕ) → item < key.0 → Holds held_by item v → At (TagOf item) (word_of key.0 s.words (TagOf item)) (SeesTag item v (word_of key.0 s.words (TagOf item)))
  sees_tag item lt mine =
      let found : ℕ = word_of key.0 s.words (TagOf item) in
      let e : ItemEvent = TagNoted item found in (
        after e v,
        keeps,
        tt,
        noted (TagOf item) e (λ f. refl) (λ f. refl)
            (said_tag item found e refl (λ i y ne told. told_else item i (Some found) (last_tag i v.items) y ne told) (λ y told. let is : Some found ≡ Some y = told_here item (Some found) (last_tag item v.items) y told in cc is))
            (same_runs e (λ i y told. told)) (same_parts e (λ i y told. told)),
        (refl, record { view = refl; known = λ x said. holds.tags 0 one id v at item lt mine x said }),
      )

  pub sees_run : (item : ℕ) → item < key.0 → Holds held_by item v → At (RunOf item) (word_of key.0 s.words (RunOf item)) (SeesRun item v (word_of key.0 s.words (RunOf item)))
  sees_run item lt mine =
      let found : ℕ = word_of key.0 s.words (RunOf item) in
      let e : ItemEvent = RunNoted item found in
      let run = (queue_words key.0 s.words).run in (
        after e v,
        keeps,
        tt,
        noted (RunOf item) e (λ f. refl) (λ f. refl) (same_tags e (λ i y told. told))
            (words_known_one QueueView run_said held_of (one_queue key.0) run run s.views id v (after e v) at (λ q q_lt i below_n. refl) 0 item
            (λ r i r_lt apart held. ⊎_elim (λ ne. absurd (ne (omega (arith, r_lt)))) (λ ne. (held, λ y told. told_else item i (Some found) (last_run i v.items) y ne told)) apart)
            (λ y told. let is : Some found ≡ Some y = told_here item (Some found) (last_run item v.items) y told in cc is) holds.runs)
            (same_parts e (λ i y told. told)),
        (refl, record { view = refl; known = λ x said. holds.runs 0 one id v at item lt mine x said }),
      )

  pub sees_part : (item : ℕ) → item < key.0 → Holds held_by item v → At (PartOf item) (word_of key.0 s.words (PartOf item)) (SeesPart item v (word_of key.0 s.words (PartOf item)))
  sees_part item lt mine =
      let found : ℕ = word_of key.0 s.words (PartOf item) in
      let e : ItemEvent = PartNoted item found in
      let part = (queue_words key.0 s.words).part in (
        after e v,
        keeps,
        tt,
        noted (PartOf item) e (λ f. refl) (λ f. refl) (same_tags e (λ i y told. told)) (same_runs e (λ i y told. told))
            (words_known_one QueueView part_said held_of (one_queue key.0) part part s.views id v (after e v) at (λ q q_lt i below_n. refl) 0 item
            (λ r i r_lt apart held. ⊎_elim (λ ne. absurd (ne (omega (arith, r_lt)))) (λ ne. (held, λ y told. told_else item i (Some found) (last_part i v.items) y ne told)) apart)
            (λ y told. let is : Some found ≡ Some y = told_here item (Some found) (last_part item v.items) y told in cc is) holds.parts),
        (refl, record { view = refl; known = λ x said. holds.parts 0 one id v at item lt mine x said }),
      )

  -- ---- a word that is set

  -- the rule after a step that set the word of an item
  kept_item : (p : Place) (new : ℕ) (e : ItemEvent) → IsReal key.0 p → ((side : Side) (o : ℕ) → InRing side o ≢ p)
      → FreeUntagged (one_queue key.0) (queue_words key.0 (Then p new)).ring (queue_words key.0 (Then p new)).tag
      → TagsCounted arms_of wins_of (one_queue key.0) (queue_words key.0 (Then p new)).tag (set s.views id (after e v))
      → TagsKnown held_of tag_said (one_queue key.0) (queue_words key.0 (Then p new)).tag (set s.views id (after e v))
      → WordsKnown held_of run_said (one_queue key.0) (queue_words key.0 (Then p new)).run (set s.views id (after e v))
      → WordsKnown held_of part_said (one_queue key.0) (queue_words key.0 (Then p new)).part (set s.views id (after e v))
      → WordsNoted run_notes_of (one_queue key.0) (queue_words key.0 (Then p new)).run (set s.views id (after e v)) × WordsNoted part_notes_of (one_queue key.0) (queue_words key.0 (Then p new)).part (set s.views id (after e v))
      → QueueHolds key (stepped s (word_at key.0 p) new id carried (after e v) keeps)
  kept_item p new e real no_ring free' counted' tags' runs' parts' noted' =
      let u : QueueView = after e v in
      let w = queue_words key.0 s.words in
      let w' = queue_words key.0 (Then p new) in
      let rings_same = rings_else key.0 s.words holds.wide new p real no_ring in
      record {
        wide = length-set s.words (word_at key.0 p) new ∙ holds.wide;
        rings = rings_stay QueueView log_of (one_queue key.0) w.ring w'.ring s.views id v u at rings_same (λ q side. after_log side e v) holds.rings;
        history = histories_stay QueueView pushes_of pops_of (starts_at key.1) (begun_with key.0 key.1) (one_queue key.0) w.ring w'.ring s.views id v u at (λ q lt side. (holds.rings.rings q lt side).fine) rings_same
            (λ q side g. ap (weigh (push_weight g)) (after_log side e v)) (λ q side g. ap (weigh (pop_weight g)) (after_log side e v)) holds.history;
        owned = items_stay QueueView held_of (one_queue key.0) w.ring w'.ring s.views id v u at (λ q lt side. (holds.rings.rings q lt side).fine) rings_same (λ q f. refl) holds.owned;
        free = free';
        counted = counted';
        tags = tags';
        runs = runs';
        parts = parts';
        noted_runs = noted'.0;
        noted_parts = noted'.1;
      }

  -- free items are untagged then, where tags stay or become 0
  free_item : (p : Place) (new : ℕ) → IsReal key.0 p → ((side : Side) (o : ℕ) → InRing side o ≢ p)
      → ((i : ℕ) → i < key.0 → (word_of key.0 (Then p new) (TagOf i) ≡ word_of key.0 s.words (TagOf i)) ⊎ (word_of key.0 (Then p new) (TagOf i) ≡ 0))
      → FreeUntagged (one_queue key.0) (queue_words key.0 (Then p new)).ring (queue_words key.0 (Then p new)).tag
  free_item p new real no_ring tags =
      free_stay (one_queue key.0) (queue_words key.0 s.words).ring (queue_words key.0 (Then p new)).ring (queue_words key.0 s.words).tag (queue_words key.0 (Then p new)).tag
      (λ q lt side. (holds.rings.rings q lt side).fine) (rings_else key.0 s.words holds.wide new p real no_ring) (λ q lt i below_n. tags i below_n) holds.free

  -- a run or a part is set
  sets_word : (p : Place) (new : ℕ) (e : ItemEvent) → IsReal key.0 p → ((side : Side) (o : ℕ) → InRing side o ≢ p) → ((i : ℕ) → TagOf i ≢ p) → ((f : ℕ → ℕ → ℕ) → arm_weight f e ≡ 0) → ((f : ℕ → ℕ → ℕ) → win_weight f e ≡ 0)
      → ((i y : ℕ) → last_tag i (e ∷ v.items) ≡ Some y → last_tag i v.items ≡ Some y)
      → WordsKnown held_of run_said (one_queue key.0) (queue_words key.0 (Then p new)).run (set s.views id (after e v))
      → WordsKnown held_of part_said (one_queue key.0) (queue_words key.0 (Then p new)).part (set s.views id (after e v))
      → WordsNoted run_notes_of (one_queue key.0) (queue_words key.0 (Then p new)).run (set s.views id (after e v)) × WordsNoted part_notes_of (one_queue key.0) (queue_words key.0 (Then p new)).part (set s.views id (after e v))
      → At p new (λ u. u ≡ after e v)
  sets_word p new e real no_ring no_tag armed won less runs' parts' noted' =
      let u : QueueView = after e v in
      let tag = (queue_words key.0 s.words).tag in
      let tag' = (queue_words key.0 (Then p new)).tag in
      let tags_same = tags_else key.0 s.words holds.wide new p real no_tag in (
        u,
        keeps,
        tt,
        kept_item p new e real no_ring (free_item p new real no_ring (λ i below_n. inl (tags_same 0 one i below_n)))
            (tags_counted QueueView arms_of wins_of (one_queue key.0) tag tag' s.views id v u at tags_same (λ q f. omega (arith, armed f)) (λ q f. omega (arith, won f)) holds.counted)
            (tags_known QueueView tag_said held_of (one_queue key.0) tag tag' s.views id v u at tags_same (λ q i held. (held, less i)) holds.tags)
            runs' parts' noted',
        (refl, refl),
      )

  pub sets_run : (item new : ℕ) → item < key.0 → Holds held_by item v → At (RunOf item) new (λ u. u ≡ after (RunNoted item new) v)
  sets_run item new lt mine =
      let p : Place = RunOf item in
      let e : ItemEvent = RunNoted item new in
      let u : QueueView = after e v in
      let w = queue_words key.0 s.words in
      let w' = queue_words key.0 (Then p new) in
      let sets = run_set key.0 s.words holds.wide new item lt in
      let others = parts_else key.0 s.words holds.wide new p lt (λ i is. cc) in
      sets_word p new e lt (λ side o is. cc) (λ i is. cc) (λ f. refl) (λ f. refl) (λ i y told. told)
      (words_known_set QueueView run_said held_of elsewhere (one_queue key.0) w.run w'.run s.views id v u at 0 item new one lt sets mine (holds.owned 0 one)
      (λ r i r_lt apart held. ⊎_elim (λ ne. absurd (ne (omega (arith, r_lt)))) (λ ne. (held, λ y told. told_else item i (Some new) (last_run i v.items) y ne told)) apart)
      (λ y told. let is : Some new ≡ Some y = told_here item (Some new) (last_run item v.items) y told in cc is) holds.runs)
      (words_known QueueView part_said held_of (one_queue key.0) w.part w'.part s.views id v u at others (λ q i held. (held, λ y told. told)) holds.parts)
      (words_noted_set QueueView run_notes_of (one_queue key.0) w.run w'.run s.views id v u at 0 item new sets (omega (arith, is_pair_same item new)) (λ r f. omega arith) holds.noted_runs, parts_noted w'.part e others)

  pub sets_part : (item new : ℕ) → item < key.0 → Holds held_by item v → At (PartOf item) new (λ u. u ≡ after (PartNoted item new) v)
  sets_part item new lt mine =
      let p : Place = PartOf item in
      let e : ItemEvent = PartNoted item new in
      let u : QueueView = after e v in
      let w = queue_words key.0 s.words in
      let w' = queue_words key.0 (Then p new) in
      let sets = part_set key.0 s.words holds.wide new item lt in
      let others = runs_else key.0 s.words holds.wide new p lt (λ i is. cc) in
      sets_word p new e lt (λ side o is. cc) (λ i is. cc) (λ f. refl) (λ f. refl) (λ i y told. told)
      (words_known QueueView run_said held_of (one_queue key.0) w.run w'.run s.views id v u at others (λ q i held. (held, λ y told. told)) holds.runs)
      (words_known_set QueueView part_said held_of elsewhere (one_queue key.0) w.part w'.part s.views id v u at 0 item new one lt sets mine (holds.owned 0 one)
      (λ r i r_lt apart held. ⊎_elim (λ ne. absurd (ne (omega (arith, r_lt)))) (λ ne. (held, λ y told. told_else item i (Some new) (last_part i v.items) y ne told)) apart)
      (λ y told. let is : Some new ≡ Some y = told_here item (Some new) (last_part item v.items) y told in cc is) holds.parts)
      (runs_noted w'.run e others, words_noted_set QueueView part_notes_of (one_queue key.0) w.part w'.part s.views id v u at 0 item new sets (omega (arith, is_pair_same item new)) (λ r f. omega arith) holds.noted_parts)

  pub arms : (item stream : ℕ) → item < key.0 → Holds held_by item v → last_tag item v.items ≡ Some 0 → 1 ≤ stream → At (TagOf item) stream (λ u. u ≡ after (Armed item stream) v)
  arms item stream lt mine said pos =
      let p : Place = TagOf item in
      let e : ItemEvent = Armed item stream in
      let u : QueueView = after e v in
      let w = queue_words key.0 s.words in
      let w' = queue_words key.0 (Then p stream) in
      let sets = tag_set key.0 s.words holds.wide stream item lt in
      let rings_same = rings_else key.0 s.words holds.wide stream p lt (λ side o is. cc) in
      let is_zero : word_of key.0 s.words p ≡ 0 = tag_zero key id v carried s holds at item lt mine said in (
        u,
        keeps,
        tt,
        kept_item p stream e lt (λ side o is. cc)
            (free_arm (one_queue key.0) w.ring w'.ring w.tag w'.tag (λ q q_lt side. (holds.rings.rings q q_lt side).fine) rings_same 0 item stream
            (held_is_out QueueView held_of (one_queue key.0) w.ring s.views id v at 0 item one lt mine holds.owned Free) sets holds.free)
            (tags_armed QueueView arms_of wins_of (one_queue key.0) w.tag w'.tag s.views id v u at 0 item stream lt sets is_zero (omega (arith, pos)) (λ f. omega arith) (λ r r_lt ne f. absurd (ne (omega (arith, r_lt)))) (λ r f. omega arith) holds.counted)
            (tags_known_set QueueView tag_said held_of elsewhere (one_queue key.0) w.tag w'.tag s.views id v u at 0 item stream one lt sets mine (holds.owned 0 one)
            (λ r i r_lt apart held. ⊎_elim (λ ne. absurd (ne (omega (arith, r_lt)))) (λ ne. (held, λ y told. told_else item i (Some stream) (last_tag i v.items) y ne told)) apart)
            (λ y told. let is : Some stream ≡ Some y = told_here item (Some stream) (last_tag item v.items) y told in cc is) holds.tags)
            (words_known QueueView run_said held_of (one_queue key.0) w.run w'.run s.views id v u at (runs_else key.0 s.words holds.wide stream p lt (λ i is. cc)) (λ q i held. (held, λ y told. told)) holds.runs)
            (words_known QueueView part_said held_of (one_queue key.0) w.part w'.part s.views id v u at (parts_else key.0 s.words holds.wide stream p lt (λ i is. cc)) (λ q i held. (held, λ y told. told)) holds.parts)
            (runs_noted w'.run e (runs_else key.0 s.words holds.wide stream p lt (λ i is. cc)), parts_noted w'.part e (parts_else key.0 s.words holds.wide stream p lt (λ i is. cc))),
        (refl, refl),
      )

  -- ---- a tag exchange, by any seat

  module _ (item stream : ℕ) (lt : item < key.0) (pos : 1 ≤ stream) where
    abbrev pub Settle : ℕ → Type 0
    Settle new = At (TagOf item) new (Settles item stream v (word_of key.0 s.words (TagOf item)))

    hit : word_of key.0 s.words (TagOf item) ≡ stream → Settle 0
    hit is =
        let p : Place = TagOf item in
        let e : ItemEvent = Won item stream in
        let u : QueueView = after e v in
        let w = queue_words key.0 s.words in
        let w' = queue_words key.0 (Then p 0) in
        let sets = tag_set key.0 s.words holds.wide 0 item lt in (
          u,
          keeps,
          tt,
          kept_item p 0 e lt (λ side o same. cc)
              (free_item p 0 lt (λ side o same. cc) (λ i below_n. ⊎_elim (λ same. inr (ap (λ (j : ℕ). word_of key.0 (Then p 0) (TagOf j)) same ∙ sets.here.here)) (λ ne. inl (sets.here.others i below_n ne)) (cases_eq i item)))
              (tags_won QueueView arms_of wins_of (one_queue key.0) w.tag w'.tag s.views id v u at 0 item stream lt sets is (omega (arith, pos)) (λ r f. omega arith) (λ f. omega arith) (λ r r_lt ne f. absurd (ne (omega (arith, r_lt)))) holds.counted)
              (tags_known_won QueueView tag_said held_of (one_queue key.0) w.tag w'.tag s.views id v u at 0 item sets
              (λ r i r_lt apart held. ⊎_elim (λ ne. absurd (ne (omega (arith, r_lt)))) (λ ne. (held, λ y told. told_else item i (Some 0) (last_tag i v.items) y ne told)) apart) holds.tags)
              (words_known QueueView run_said held_of (one_queue key.0) w.run w'.run s.views id v u at (runs_else key.0 s.words holds.wide 0 p lt (λ i same. cc)) (λ q i held. (held, λ y told. told)) holds.runs)
              (words_known QueueView part_said held_of (one_queue key.0) w.part w'.part s.views id v u at (parts_else key.0 s.words holds.wide 0 p lt (λ i same. cc)) (λ q i held. (held, λ y told. told)) holds.parts)
              (runs_noted w'.run e (runs_else key.0 s.words holds.wide 0 p lt (λ i same. cc)), parts_noted w'.part e (parts_else key.0 s.words holds.wide 0 p lt (λ i same. cc))),
          (refl, record { view = ap (λ (a : ItemEvent). after a v) (sym (won_told item stream (word_of key.0 s.words p) is)); known = λ mine x said. holds.tags 0 one id v at item lt mine x said }),
        )

    miss : word_of key.0 s.words (TagOf item) ≢ stream → Settle (word_of key.0 s.words (TagOf item))
    miss ne =
        let found : ℕ = word_of key.0 s.words (TagOf item) in
        let e : ItemEvent = Gone item stream found in (
          after e v,
          keeps,
          tt,
          noted (TagOf item) e (λ f. refl) (λ f. refl)
              (said_tag item found e refl (λ i y other told. told_else item i (Some found) (last_tag i v.items) y other told) (λ y told. let is : Some found ≡ Some y = told_here item (Some found) (last_tag item v.items) y told in cc is))
              (same_runs e (λ i y told. told)) (same_parts e (λ i y told. told)),
          (refl, record { view = ap (λ (a : ItemEvent). after a v) (sym (gone_told item stream found ne)); known = λ mine x said. holds.tags 0 one id v at item lt mine x said }),
        )

    pub settles : Settle (either (eqb (word_of key.0 s.words (TagOf item)) stream) 0 (word_of key.0 s.words (TagOf item)))
    settles = exchanged (word_of key.0 s.words (TagOf item)) stream 0 Settle hit miss
