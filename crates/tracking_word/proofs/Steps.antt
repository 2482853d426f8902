-- Each step on a table of tags keeps its rule.
use Rattle.std.proofs.Common.{ℕ, ◌≡◌, ◌≢◌, ◌+◌, ◌<◌, ◌≤◌, ◌⊎◌, inl, inr, ⊎_elim, eqb, Bool, cond, List, [], ◌++◌, length, slice_index, set, replicate, refl, sym, ap, ◌∙◌, subst, arith, get_or-set_same, get_or-set_other, length-set}
use Rattle.std.specs.List.{range_with_len}
use Rattle.std.proofs.lemmas.List.{set-get_or, length-replicate, get_or-replicate}
use Rattle.std.proofs.lemmas.Bool.{eq-eqb, ne_eqb, cases_eq, cases_lt}
use mathlib.Core.Option.{none}
use prog.Atomic.{either}
use lib.ListN.{get_elem?}
use Rattle.atomic_table.specs.Table.{State, Me, Act, keeps, step, stepped, Valid, carried_after, opening, Splits, Joins}
use Rattle.atomic_table.proofs.Lists.{exchanged, set_else}
use Rattle.unit_model.specs.Weights.{weigh, below, is_number}
use Rattle.unit_model.proofs.Weights.{weigh-append, weigh_range, below_same, below_is_not}
use Rattle.tracking_word.specs.declared.view.TagView.{TagView}
use Rattle.tracking_word.specs.declared.view.TagEvent.{TagEvent}
use Rattle.tracking_word.specs.declared.view.TagEvent.TheVariants.{Armed, Won, Gone}
use Rattle.unit_model.proofs.Sharing.{owned_stays, owned_split, owned_join}
use Rattle.tracking_word.specs.Words.{Sets, Stays}
use Rattle.unit_model.specs.Sharing.{Holds}
use Rattle.tracking_word.specs.Views.{item_of, tag_after, arm_weight, win_weight, last_tag, held_by, arms_of, wins_of, says, whole, empty, after, together, settling}
use Rattle.tracking_word.specs.Rule.{TagsHold, Arms, Settles}
use Rattle.tracking_word.proofs.Words.{standing_none}
use Rattle.tracking_word.proofs.Parts.{counted_stays, counted_arm, counted_win, counted_split, counted_join, known_stays, known_arm, known_win, known_split, known_join}

-- what the log says after one event more
after_says : (e : TagEvent) (v : TagView) (i x : ℕ) → says (after e v) i x → ((i ≡ item_of e) × (x ≡ tag_after e)) ⊎ ((i ≢ item_of e) × says v i x)
after_says e v i x told =
    elim (cases_eq (item_of e) i) [
      | inl same ↦ inl (sym same, sym told ∙ ap (λ (b : Bool). cond b (tag_after e) (last_tag i v.log)) (eq-eqb (item_of e) i same))
      | inr other ↦ inr ((λ is. other (sym is)), sym (ap (λ (b : Bool). cond b (tag_after e) (last_tag i v.log)) (ne_eqb (item_of e) i other)) ∙ told)
    ]

won_told : (item stream found : ℕ) → found ≡ stream → settling item stream found ≡ Won item stream
won_told item stream found is = ap (λ (b : Bool). cond b (Won item stream) (Gone item stream found)) (eq-eqb found stream is)

gone_told : (item stream found : ℕ) → found ≢ stream → settling item stream found ≡ Gone item stream found
gone_told item stream found ne = ap (λ (b : Bool). cond b (Won item stream) (Gone item stream found)) (ne_eqb found stream ne)

module _ (n item x slots id : ℕ) (v : TagView) (carried : List (ℕ × ℕ)) (s : State ℕ TagView) (lt : item < n) (pos : 1 ≤ x) (holds : TagsHold n s) (at : get_elem? s.views id ≡ mathlib.Core.Option.some v) where
  abbrev pub After : ℕ → (Me ℕ TagView → Type 0) → Type 0
  After new told = (w : TagView) × (a : Act ℕ) × Valid s.homes carried a × TagsHold n (stepped s item new id carried w a) × told (w, carried_after carried a)

  sets : (new : ℕ) → Sets n (slice_index s.words) (slice_index (set s.words item new)) item new
  sets new = record {
    here = get_or-set_same s.words item new 0 (subst (λ (m : ℕ). item < m) (sym holds.wide) lt);
    others = λ i below_n ne. get_or-set_other s.words item i new 0 ne;
  }

  pub arms : Holds held_by item v → last_tag item v.log ≡ 0 → After x (Arms (step slots item x 0 none) (v, carried) x)
  arms mine last =
      let is_zero : slice_index s.words item ≡ 0 = ⊎_elim (λ a. a) (λ b. b) (holds.known id v at item lt mine 0 last) in (
        after (Armed item x) v,
        keeps,
        tt,
        record {
          wide = length-set s.words item x ∙ holds.wide;
          counted = counted_arm arms_of wins_of n (slice_index s.words) (slice_index (set s.words item x)) s.views id v (after (Armed item x) v) at item x lt (sets x) is_zero (omega (arith, pos)) (λ f. omega arith) (λ f. omega arith) holds.counted;
          owned = owned_stays held_by (λ f. 0) n s.views id v (after (Armed item x) v) at (λ f. refl) holds.owned;
          known = known_arm held_by (λ f. 0) says n (slice_index s.words) (slice_index (set s.words item x)) s.views id v (after (Armed item x) v) at item x lt (sets x) mine (λ f. refl) (λ i y told. after_says (Armed item x) v i y told) holds.owned holds.known;
        },
        (refl, refl),
      )

  hit : slice_index s.words item ≡ x → After 0 (Settles (step slots item x 0 none) (v, carried) (slice_index s.words item))
  hit is = (
    after (Won item x) v,
    keeps,
    tt,
    record {
      wide = length-set s.words item 0 ∙ holds.wide;
      counted = counted_win arms_of wins_of n (slice_index s.words) (slice_index (set s.words item 0)) s.views id v (after (Won item x) v) at item x lt (sets 0) is (omega (arith, pos)) (λ f. omega arith) (λ f. omega arith) holds.counted;
      owned = owned_stays held_by (λ f. 0) n s.views id v (after (Won item x) v) at (λ f. refl) holds.owned;
      known = known_win held_by says n (slice_index s.words) (slice_index (set s.words item 0)) s.views id v (after (Won item x) v) at item (sets 0) (λ f. refl) (λ i y told. ⊎_elim (λ t. inl t.0) (λ t. inr t.1) (after_says (Won item x) v i y told)) holds.known;
    },
    (refl, ap (λ (e : TagEvent). after e v) (sym (won_told item x (slice_index s.words item) is)), λ mine. holds.known id v at item lt mine (last_tag item v.log) refl),
  )

  miss : slice_index s.words item ≢ x → After (slice_index s.words item) (Settles (step slots item x 0 none) (v, carried) (slice_index s.words item))
  miss ne =
      let found : ℕ = slice_index s.words item in
      let stays : Stays n (slice_index s.words) (slice_index (set s.words item found)) = λ i below_n. ap (λ (ws : List ℕ). slice_index ws i) (set-get_or s.words item 0) in (
        after (Gone item x found) v,
        keeps,
        tt,
        record {
          wide = length-set s.words item found ∙ holds.wide;
          counted = counted_stays arms_of wins_of n (slice_index s.words) (slice_index (set s.words item found)) s.views id v (after (Gone item x found) v) at stays (λ f. omega arith) (λ f. omega arith) holds.counted;
          owned = owned_stays held_by (λ f. 0) n s.views id v (after (Gone item x found) v) at (λ f. refl) holds.owned;
          known = known_stays held_by says n (slice_index s.words) (slice_index (set s.words item found)) s.views id v (after (Gone item x found) v) at stays (λ f. refl) (λ i y told. ⊎_elim (λ t. inl (ap (slice_index s.words) t.0 ∙ sym t.1)) (λ t. inr t.1) (after_says (Gone item x found) v i y told)) holds.known;
        },
        (refl, ap (λ (e : TagEvent). after e v) (sym (gone_told item x found ne)), λ mine. holds.known id v at item lt mine (last_tag item v.log) refl),
      )

  pub settles : After (either (eqb (slice_index s.words item) x) 0 (slice_index s.words item)) (Settles (step slots item x 0 none) (v, carried) (slice_index s.words item))
  settles = exchanged (slice_index s.words item) x 0 (λ new. After new (Settles (step slots item x 0 none) (v, carried) (slice_index s.words item))) hit miss

pub splits : (n id : ℕ) (v : TagView) → Splits {S = ℕ} (TagsHold n) id v v empty
splits n id v s holds at = record {
  wide = holds.wide;
  counted = counted_split arms_of wins_of n (slice_index s.words) s.views id v v empty at (λ f. omega arith) (λ f. omega arith) holds.counted;
  owned = owned_split held_by (λ f. 0) n s.views id v v empty at (λ f. omega arith) holds.owned;
  known = known_split held_by says n (slice_index s.words) s.views id v v empty at (λ i mine. (mine, λ x told. told)) (λ i mine. absurd (omega (arith, mine))) holds.known;
}

-- all that two logs weigh
both_logs : (g : TagEvent → ℕ) (v w : TagView) → weigh g (w.log ++ w.joined ++ v.joined) ≡ weigh g w.log + weigh g w.joined + weigh g v.joined
both_logs g v w = omega (arith, weigh-append g (w.log ++ w.joined) v.joined, weigh-append g w.log w.joined)

pub joins : (n id other : ℕ) (v w : TagView) → w.held ≡ [] → Joins {S = ℕ} (TagsHold n) id v other w (together v w) empty
joins n id other v w nothing s holds at apart there =
    let before : get_elem? s.views other ≡ mathlib.Core.Option.some w = sym (set_else s.views id other (together v w) apart) ∙ there in
    record {
      wide = holds.wide;
      counted = counted_join arms_of wins_of n (slice_index s.words) s.views id other v w (together v w) empty at there (λ f. omega (arith, both_logs (arm_weight f) v w)) (λ f. omega (arith, both_logs (win_weight f) v w)) holds.counted;
      owned = owned_join held_by (λ f. 0) n s.views id other v w (together v w) empty at there (λ f. omega (arith, ap (weigh f) nothing)) holds.owned;
      known = known_join held_by says n (slice_index s.words) s.views id other v w (together v w) empty at before (λ i x mine told. inl (mine, told)) (λ i mine. absurd (omega (arith, mine))) holds.known;
    }

-- ---- the table at first

range_held : (f : ℕ → ℕ) (n : ℕ) → weigh f (range_with_len 0 n) ≡ below f n
range_held f n = weigh_range f 0 n ∙ below_same (λ i. f (0 + i)) f n (λ i lt. let same : 0 + i ≡ i = omega arith in ap f same)

pub opens : (n : ℕ) (words : List ℕ) → words ≡ replicate n 0 → TagsHold {S = ℕ} n (opening words [] (whole n))
opens n words are =
    let all_zero : (i : ℕ) → i < n → slice_index words i ≡ 0 = λ i lt. ap (λ (ws : List ℕ). slice_index ws i) are ∙ get_or-replicate n i 0 0 lt in
    record {
      wide = ap length are ∙ length-replicate n 0;
      counted = λ f. omega (arith, standing_none f n (slice_index words) all_zero);
      owned = λ f. omega (arith, range_held f n);
      known = λ k v at i lt mine x told. inr (all_zero i lt);
    }

-- an item of them all is below their number
pub whole_below : (n item : ℕ) → Holds held_by item (whole n) → item < n
whole_below n item mine =
    elim (cases_lt item n) [
      | inl lt ↦ lt
      | inr le ↦ absurd (omega (arith, mine, range_held (is_number item) n, below_is_not n item le))
    ]
