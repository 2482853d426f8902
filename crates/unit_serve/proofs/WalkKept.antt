-- What each use of an argument keeps of the rows, a parse with no fault keeps.
use Rattle.std.proofs.Common.{◌≡◌, ◌&&◌, ℕ, Bool, cond, true, false, zero, suc, refl, List, [], ◌∷◌, length, drop, Option, Some, None, is_some}
use Rattle.std.specs.Prelude.{IfSome, encode_utf8, slice_get}
use Rattle.std.specs.List.{All, find, fold}
use Rattle.std.specs.Option.{option_map_or}
use Rattle.std.specs.Str.{bytes_eq, chars}
use Rattle.std.proofs.lemmas.List.Elements.{All-head, All-tail}
use Rattle.clap.specs.Kinds.{Kinds, or_else}
use Rattle.clap.specs.Lexer.{long_of, short_of}
use Rattle.clap.specs.Faults.{bundle_fault, bundle_step_fault, check_fault, defaults_fault, flag_word_fault, flags_fault, level_fault, long_fault, option_fault, other_fault, positional_fault, react_fault, settle_fault, short_fault, step_fault, stray_fault, turn_fault, use_fault, walk_fault, word_fault}
use Rattle.clap.specs.Simple.{Shape}
use Rattle.clap.specs.declared.error.kind.ErrorKind.TheVariants.{TooManyValues}
use Rattle.clap.specs.Walk.{Held, Names, Outcome, Row, Rule, Step, Text, Waiting, Walk, done, waits, plain, refused, option, idle, positional, next, trailing, subcommand, value}
use Rattle.clap.specs.Walk.{after_flag, after_step, arg_by_id, arg_by_index, arg_by_long, arg_by_short, attached_value, bundle, bundle_met, bundle_step, flag_met, is_pending, long_met, long_or_other, nothing_held, option_met, option_word, plain_word, positional_held, reacted, rows_after, settled, settled_rows, short_met, short_or_plain, subcommand_met, subcommand_or_other, takes_several, takes_values, to_positional, used, used_by_id, walk, walk_from, walked, walked_from, with_default, word_met}

-- each of two steps in turn has no fault
pub both_pass : (a b : Kinds) → or_else a b ≡ [] → (a ≡ []) × (b ≡ [])
both_pass [] b e = (refl, e)
both_pass (k ∷ ks) b e = cc

pub find_each : {X : Type 0} (R : X → Type 0) (p : X → Bool) (xs : List X) → All R xs → IfSome (find p xs) R
find_each R p [] h = tt
find_each R p (x ∷ xs) h = go (p x) (find_each R p xs (All-tail R x xs h))
  where
    go : (b : Bool) → IfSome (find p xs) R → IfSome (cond b (Some x) (find p xs)) R
    go true rest = All-head R x xs h
    go false rest = rest

-- a use of the argument without a fault keeps P
abbrev pub IsKeptBy : (List Row → Type 0) → Bool → Rule → Type 0
IsKeptBy P again a =
    (values : List Text) (rows : List Row) → use_fault again a values rows ≡ [] → P rows → P (used a values rows)

-- and so does its default
abbrev pub IsDefaultKept : (List Row → Type 0) → Rule → Type 0
IsDefaultKept P a = (rows : List Row) → P rows → P (with_default rows a)

module _ (c : List Rule) (again : Bool) (P : List Row → Type 0) (kept : All (IsKeptBy P again) c) where
  settle_keeps : (p : Option (Text × List Text)) (rows : List Row)
      → option_map_or (λ q. option_map_or (λ a. use_fault again a q.1 rows) (arg_by_id c q.0) []) p [] ≡ []
      → P rows → P (settled_rows c p rows)
  settle_keeps None rows e h = h
  settle_keeps (Some p) rows e h = go (arg_by_id c p.0) (find_each (IsKeptBy P again) _ c kept) e
    where
      go : (o : Option Rule) → IfSome o (IsKeptBy P again) → option_map_or (λ a. use_fault again a p.1 rows) o [] ≡ []
          → P (used_by_id o p.1 rows)
      go None k e = h
      go (Some a) k e = k p.1 rows e h

  react_keeps : (a : Rule) (values : List Text) (h : Held) → IsKeptBy P again a → react_fault c again a values h ≡ [] → P h.rows
      → P (reacted c a values h).rows
  react_keeps a values h k e p =
      let parts = both_pass _ _ e in
      k values (settled c h).rows parts.1 (settle_keeps h.pending h.rows parts.0 p)

  option_keeps : (a : Rule) (v : Option Text) (h : Held) → IsKeptBy P again a → option_fault c again a v h ≡ [] → P h.rows
      → P (option_met c a v h).0.rows
  option_keeps a None h k e p = settle_keeps h.pending h.rows e p
  option_keeps a (Some v) h k e p = react_keeps a (v ∷ []) h k e p

  long_keeps : (o : Option Rule) (v : Option Text) (h : Held) → IfSome o (IsKeptBy P again) → long_fault c again o v h ≡ [] → P h.rows
      → P (long_met c o v h).0.rows
  long_keeps None v h k e p = p
  long_keeps (Some a) v h k e p = go (takes_values a) v e
    where
      go : (b : Bool) (v : Option Text)
          → cond b (option_fault c again a v h) (cond (is_some v) (TooManyValues ∷ []) (react_fault c again a [] h)) ≡ []
          → P (cond b (option_met c a v h) (flag_met c a v h)).0.rows
      go true v e = option_keeps a v h k e p
      go false None e = react_keeps a [] h k e p
      go false (Some v) e = p

  short_keeps : (o : Option Rule) (rest : Text) (h : Held) (then_fault : Held → Kinds) (then : Held → Held × Outcome) → IfSome o (IsKeptBy P again)
      → ((g : Held) → then_fault g ≡ [] → P g.rows → P (then g).0.rows)
      → short_fault c again o rest h then_fault ≡ [] → P h.rows → P (short_met c o rest h then).0.rows
  short_keeps None rest h then_fault then k more e p = p
  short_keeps (Some a) rest h then_fault then k more e p = go (takes_values a) e
    where
      go : (b : Bool)
          → cond b (option_fault c again a (attached_value rest) h) (or_else (react_fault c again a [] h) (then_fault (reacted c a [] h))) ≡ []
          → P (cond b (option_met c a (attached_value rest) h) (then (reacted c a [] h))).0.rows
      go true e = option_keeps a (attached_value rest) h k e p
      go false e =
          let parts = both_pass _ _ e in
          more (reacted c a [] h) parts.1 (react_keeps a [] h k parts.0 p)

  bundle_step_keeps : (o : Option ℕ) (flags : Text) (skip : ℕ) (so_far : Outcome) (h : Held)
      (then_fault : Text → ℕ → Held → Kinds) (then : Text → ℕ → Outcome → Held → Held × Outcome)
      → ((f : Text) (n : ℕ) (s : Outcome) (g : Held) → then_fault f n g ≡ [] → P g.rows → P (then f n s g).0.rows)
      → bundle_step_fault c again o flags skip h then_fault ≡ [] → P h.rows → P (bundle_step c o flags skip so_far h then).0.rows
  bundle_step_keeps None flags skip so_far h then_fault then more e p = p
  bundle_step_keeps (Some x) flags zero so_far h then_fault then more e p =
      let rest = drop (length (encode_utf8 x)) flags in
      short_keeps (arg_by_short c x) rest h (then_fault rest 0) (then rest 0 done) (find_each (IsKeptBy P again) _ c kept)
      (λ g none q. more rest 0 done g none q) e p
  bundle_step_keeps (Some x) flags (suc skip) so_far h then_fault then more e p =
      more (drop (length (encode_utf8 x)) flags) skip so_far h e p

  bundle_keeps : (k : ℕ) (flags : Text) (skip : ℕ) (so_far : Outcome) (h : Held) → flags_fault c again k flags skip h ≡ [] → P h.rows
      → P (bundle_met c k flags skip so_far h).0.rows
  unfolding flags_fault bundle_met
  bundle_keeps zero flags skip so_far h e p = p
  bundle_keeps (suc k) flags skip so_far h e p =
      bundle_step_keeps (slice_get (chars flags) 0) flags skip so_far h (flags_fault c again k) (bundle_met c k) (bundle_keeps k) e p

  plain_keeps : (waiting : Waiting) (word : Text) (h : Held) → P h.rows → P (plain_word c waiting word h).0.rows
  plain_keeps idle word h p = p
  plain_keeps positional word h p = p
  plain_keeps (option id) word h p = go (arg_by_id c id)
    where
      go : (o : Option Rule) → P (option_word o id word h).0.rows
      go None = p
      go (Some a) = p

  after_flag_keeps : (waiting : Waiting) (word : Text) (h : Held) (o : Outcome) → P h.rows → P (after_flag c waiting word h o).0.rows
  after_flag_keeps waiting word h done p = p
  after_flag_keeps waiting word h (waits id) p = p
  after_flag_keeps waiting word h plain p = plain_keeps waiting word h p
  after_flag_keeps waiting word h refused p = plain_keeps waiting word h p

  flag_word_keeps : (waiting : Waiting) (word : Text) (parts : Option (Text × Option Text)) (h : Held) → flag_word_fault c again parts word h ≡ [] → P h.rows
      → P (long_or_other c waiting word parts h).0.rows
  flag_word_keeps waiting word (Some q) h e p =
      let met = long_met c (arg_by_long c q.0) q.1 h in
      after_flag_keeps waiting word met.0 met.1 (long_keeps (arg_by_long c q.0) q.1 h (find_each (IsKeptBy P again) _ c kept) e p)
  flag_word_keeps waiting word None h e p = go (short_of word) e
    where
      go : (flags : Option Text) → option_map_or (λ f. bundle_fault c again f h) flags [] ≡ [] → P (short_or_plain c waiting word flags h).0.rows
      go None e = plain_keeps waiting word h p
      go (Some flags) e =
          let met = bundle c flags h in
          after_flag_keeps waiting word met.0 met.1 (bundle_keeps (length flags) flags h.skip plain (record h { skip = 0 }) e p)

  positional_keeps : (a : Rule) (word : Text) (h : Held) → positional_fault c again a h ≡ [] → P h.rows → P (positional_held c a word h).rows
  positional_keeps a word h e p = go (is_pending a h.pending && takes_several a) e
    where
      go : (b : Bool) → cond b [] (settle_fault c again h) ≡ [] → P (cond b h (settled c h)).rows
      go true e = p
      go false e = settle_keeps h.pending h.rows e p

module _ (s : Shape) (names : Names) (P : List Row → Type 0) (kept : All (IsKeptBy P s.args_override_self) s.rules) where
  word_keeps : (is_trailing : Bool) (waiting : Waiting) (position : ℕ) (word : Text) (h : Held) → word_fault s names is_trailing waiting word h ≡ [] → P h.rows
      → P (word_met s.rules names is_trailing waiting position word h).0.rows
  word_keeps true waiting position word h e p = p
  word_keeps false waiting position word h e p = go (subcommand_met names waiting word) e
    where
      other : (b : Bool) → cond b [] (flag_word_fault s.rules s.args_override_self (long_of word) word h) ≡ []
          → P (cond b (h, trailing position) (long_or_other s.rules waiting word (long_of word) h)).0.rows
      other true e = p
      other false e = flag_word_keeps s.rules s.args_override_self P kept waiting word (long_of word) h e p

      go : (o : Option Text) → other_fault s o word h ≡ [] → P (subcommand_or_other s.rules o waiting position word h).0.rows
      go None e = other (bytes_eq word (45 ∷ 45 ∷ [])) e
      go (Some name) e = p

  step_keeps : (word : Text) (w : Walk) (h : Held) (step : Step) → step_fault s w.position h step ≡ [] → P h.rows → P (after_step s.rules word w h step).held.rows
  step_keeps word w h (next waiting) e p = p
  step_keeps word w h (trailing position) e p = p
  step_keeps word w h (subcommand name) e p = p
  step_keeps word w h value e p = go (arg_by_index s.rules w.position) e
    where
      go : (o : Option Rule) → option_map_or (λ a. positional_fault s.rules s.args_override_self a h) o (stray_fault s) ≡ []
          → P (to_positional s.rules o word w h).held.rows
      go None e = p
      go (Some a) e = positional_keeps s.rules s.args_override_self P kept a word h e p

  turn_keeps : (w : Walk) (word : Text) → turn_fault s names w word ≡ [] → P w.held.rows → P (walked s.rules names w word).held.rows
  unfolding walked
  turn_keeps w word e p = go w.stopped e
    where
      met : Held × Step
      met = word_met s.rules names w.is_trailing w.waiting w.position word w.held

      go : (o : Option (Text × List Text)) → cond (is_some o) [] (or_else (word_fault s names w.is_trailing w.waiting word w.held) (step_fault s w.position (word_met s.rules names w.is_trailing w.waiting w.position word w.held).0 (word_met s.rules names w.is_trailing w.waiting w.position word w.held).1)) ≡ []
          → P (walked_from s.rules names o w word).held.rows
      go (Some q) e = p
      go None e =
          let parts = both_pass _ _ e in
          step_keeps word w _ _ parts.1 (word_keeps w.is_trailing w.waiting w.position word w.held parts.0 p)

  walk_keeps : (w : Walk) (words : List Text) → walk_fault s names w words ≡ [] → P w.held.rows → P (fold (walked s.rules names) w words).held.rows
  unfolding walk_fault
  walk_keeps w [] e p = p
  walk_keeps w (word ∷ rest) e p =
      let parts = both_pass _ _ e in
      walk_keeps (walked s.rules names w word) rest parts.1 (turn_keeps w word parts.0 p)

  defaults_keep : (xs : List Rule) (rows : List Row) → All (IsDefaultKept P) xs → P rows → P (fold with_default rows xs)
  defaults_keep [] rows steps p = p
  defaults_keep (a ∷ xs) rows steps p =
      let here : IsDefaultKept P a = All-head (IsDefaultKept P) a xs steps in
      defaults_keep xs (with_default rows a) (All-tail (IsDefaultKept P) a xs steps) (here rows p)

  -- the rows of one level of a parse
  pub level_keeps : (words : List Text) (has : Bool) (below : Kinds) → level_fault s names nothing_held words has below ≡ []
      → All (IsDefaultKept P) s.rules → P [] → P (rows_after s.rules names words)
  level_keeps words has below e defaults start =
      let end = (walk s.rules names nothing_held words).held in
      let first = both_pass _ _ e in
      let second = both_pass _ _ first.1 in
      let third = both_pass _ _ second.1 in
      defaults_keep s.rules (settled s.rules end).rows defaults
      (settle_keeps s.rules s.args_override_self P kept end.pending end.rows third.0 (walk_keeps (walk_from nothing_held) words first.0 start))

-- and after them the last checks have no fault
pub level_checked : (s : Shape) (names : Names) (words : List Text) (has : Bool) (below : Kinds) → level_fault s names nothing_held words has below ≡ []
    → check_fault s (rows_after s.rules names words) has ≡ []
level_checked s names words has below e =
    let end = (walk s.rules names nothing_held words).held in
    let first = both_pass (walk_fault s names (walk_from nothing_held) words) _ e in
    let second = both_pass below _ first.1 in
    let third = both_pass (settle_fault s.rules s.args_override_self end) _ second.1 in
    let fourth = both_pass (defaults_fault (settled s.rules end).rows s.rules) _ third.1 in
    fourth.1
