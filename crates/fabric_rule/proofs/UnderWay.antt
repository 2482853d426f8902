-- Where armed items of back queues are.
use Rattle.std.proofs.Common.{ℕ, ◌+◌, ◌-◌, ◌≡◌, ◌≢◌, ◌≤◌, ◌<◌, ◌^◌, ◌==◌, ◌&&◌, inl, inr, Bool, true, false, if◌then◌else◌, nat_lt, List, [], ◌∷◌, ◌++◌, filter, get_or, length, map, refl, sym, ap, ◌∙◌, subst, arith}
use Rattle.std.proofs.lemmas.Bool.{and_parts, cases_Bool, cases_eq, cases_lt, eq-eqb, eqb-true}
use Rattle.std.proofs.lemmas.List.{get_or-append_right, length-append}
use Rattle.unit_model.specs.Conditions.{holds_tagged, parts_sent}
use Rattle.unit_model.specs.Core.{blank, item_of, no_seat, number_in, queue_of, role_of, seat_of, whereabouts_code}
use Rattle.unit_model.specs.Holding.{entries_of}
use Rattle.unit_model.specs.PartCounts.{carries, is_of_stream, no_part, of_number, received, sent_parts, times_received, times_under_way, times_withdrawn}
use Rattle.unit_model.specs.PartOrder.{Each, IsOrdered, IsPopped, IsUnpushed, PartsInOrder, all_parts, course, line_parts}
use Rattle.unit_model.specs.Premises.{IsInHand}
use Rattle.unit_model.specs.SoundStreams.{part_in}
use Rattle.unit_model.specs.Soundness.{IsSound}
use Rattle.unit_model.specs.StreamCounts.{by_all, by_seat, closed, posted, taken}
use Rattle.unit_model.specs.Weights.{weigh, below, is_number, one_if, times}
use Rattle.unit_model.specs.declared.machine.Core.{Core}
use Rattle.unit_model.specs.declared.machine.Entry.{Entry}
use Rattle.unit_model.specs.declared.machine.Item.{Item}
use Rattle.unit_model.specs.declared.machine.Part.{Part}
use Rattle.unit_model.proofs.Changes.{any_counts}
use Rattle.unit_model.proofs.ItemChanges.{back_queue_in_all}
use Rattle.unit_model.proofs.Members.{counted_seat, member_counts, part_at_place, place_of}
use Rattle.unit_model.proofs.PartFrames.{carries_this}
use Rattle.unit_model.proofs.PartOrderBack.{hands_differ, not_in_line}
use Rattle.unit_model.proofs.PartPoints.{no_part_twice, numbered, numbered_stream, sender_takes, sent_count, sent_somewhere}
use Rattle.unit_model.proofs.SeatNotes.{is_there_of, seat_in_all}
use Rattle.unit_model.proofs.MetSteps.{role_is_there}
use Rattle.unit_model.proofs.StepFacts.{held_of}
use Rattle.unit_model.proofs.StreamPoints.{armed_inside, posted_some, state_is_posted}
use Rattle.unit_model.proofs.Weights.{below_is, below_is_not, below_le, is_number_other, is_number_same, over_all_at, weigh-append, weigh_at, weigh_below, weigh_some}
use Rattle.fabric_rule.specs.Consequences.{AloneLaw, ArmedBackLaw, ArmedOnceLaw, ClosedGoneLaw}

-- ---- lists

small : (b : Bool) → one_if b ≤ 1
small true = omega arith
small false = omega arith

each_at : (P : ℕ → Type 0) (item : ℕ) (xs : List ℕ) → Each P xs → 1 ≤ times item xs → P item
each_at P item [] each some_there = absurd (omega (arith, some_there))
each_at P item (x ∷ xs) each some_there =
    elim (cases_eq x item) [
      | inl is ↦ subst P is each.0
      | inr ne ↦ each_at P item xs each.1 (omega (arith, some_there, is_number_other item x ne))
    ]

-- what weighs nothing but in a stream weighs in the stream's parts what it weighs in all
filtered : (stream : ℕ) (f : Part → ℕ) → ((p : Part) → is_of_stream stream p ≡ false → f p ≡ 0) → (parts : List Part) → weigh f (filter (is_of_stream stream) parts) ≡ weigh f parts
filtered stream f off [] = refl
filtered stream f off (p ∷ ps) =
    elim (cases_Bool (is_of_stream stream p)) [
      | inl is ↦ rw is (omega (arith, filtered stream f off ps))
      | inr other ↦ rw other (omega (arith, filtered stream f off ps, off p other))
    ]

numbered_number : (stream number : ℕ) (p : Part) → 1 ≤ of_number stream number p → p.number ≡ number
numbered_number stream number p some_there =
    elim (cases_Bool (p.stream == stream && p.number == number)) [
      | inl is ↦ eqb-true p.number number (and_parts (p.stream == stream) (p.number == number) is).1
      | inr off ↦ absurd (omega (arith, some_there, ap one_if off))
    ]

off_stream : (stream number : ℕ) (p : Part) → is_of_stream stream p ≡ false → of_number stream number p ≡ 0
off_stream stream number p off = rw off refl

-- ---- one armed item

module _ (popped armed : ℕ → List ℕ) (core : Core) (sound : IsSound core) (order : PartsInOrder popped armed core) (engine item : ℕ) (tagged : (item_of core (1 + engine) item).tag ≢ 0) where
  abbrev queue : ℕ
  queue = 1 + engine

  abbrev it : Item
  it = item_of core queue item

  abbrev stream : ℕ
  stream = it.tag

  abbrev number : ℕ
  number = number_in it.part

  abbrev f : Part → ℕ
  f = of_number stream number

  abbrev of_item : ℕ → Part
  of_item = part_in core queue

  -- of the items of the queue this one alone has the part
  mine_alone : (j : ℕ) → f (of_item j) ≡ is_number item j
  mine_alone j =
      elim (cases_eq j item) [
        | inl is ↦ subst (λ (i : ℕ). f (of_item i) ≡ is_number item i) (sym is) (numbered stream number (of_item item) refl refl ∙ sym (is_number_same item))
        | inr ne ↦ elim (cases_lt 0 (f (of_item j))) [
          | inl has ↦ absurd (ne (sym (no_part_twice core sound.parts engine item j tagged (sym (numbered_stream stream number (of_item j) (omega (arith, has)))) (sym (numbered_number stream number (of_item j) (omega (arith, has)))))))
          | inr none ↦ omega (arith, none, is_number_other item j ne)
        ]
      ]

  weigh_parts : (xs : List ℕ) → weigh f (map of_item xs) ≡ times item xs
  weigh_parts [] = refl
  weigh_parts (x ∷ xs) = omega (arith, mine_alone x, weigh_parts xs)

  weigh_line : (es : List Entry) → weigh f (map (λ (e : Entry). of_item e.item) es) ≡ entries_of item es
  weigh_line [] = refl
  weigh_line (e ∷ es) = omega (arith, mine_alone e.item, weigh_line es)

  -- it is under way, so it was neither received nor taken back
  state : times_under_way core stream number + times_received core stream number + times_withdrawn core stream number ≡ one_if (nat_lt number (parts_sent core stream))
  state = sound.parts.one_state stream number tagged

  on_way : 1 ≤ times_under_way core stream number
  on_way = omega (arith, back_queue_in_all (carries stream number) core engine, weigh_at (carries stream number) (queue_of core queue).items item blank (armed_inside core queue item tagged), carries_this stream number it refl refl)

  unreceived : times_received core stream number ≡ 0
  unreceived = omega (arith, state, on_way, small (nat_lt number (parts_sent core stream)))

  kept : times_withdrawn core stream number ≡ 0
  kept = omega (arith, state, on_way, small (nat_lt number (parts_sent core stream)))

  was_posted : 1 ≤ by_seat posted core engine stream
  was_posted = sound.parts.to_poster engine item tagged

  none_received : weigh f (seat_of core engine).received ≡ 0
  none_received = omega (arith, unreceived, over_all_at f received core.seats engine no_seat (is_there_of (is_number stream) posted core engine refl was_posted))

  -- of the sent parts of a seat one at most is this one
  sent_once : (seat : ℕ) → weigh f (sent_parts core seat stream) ≤ 1
  sent_once seat =
      let all : List Part = sent_parts core seat stream in
      let n : ℕ = length all in
      let each : (i : ℕ) → i < n → f (get_or all i no_part) ≤ is_number number i = λ i lt. elim (cases_lt 0 (f (get_or all i no_part))) [
        | inl has ↦
            let is : i ≡ number = sym (sound.parts.in_order seat stream i lt) ∙ numbered_number stream number (get_or all i no_part) (omega (arith, has)) in
            omega (arith, small ((get_or all i no_part).stream == stream && (get_or all i no_part).number == number), ap (is_number number) is, is_number_same number)
        | inr none ↦ omega (arith, none)
      ] in
      let most : below (is_number number) n ≤ 1 = elim (cases_lt number n) [
        | inl lt ↦ omega (arith, below_is n number lt)
        | inr le ↦ omega (arith, below_is_not n number le)
      ] in
      omega (arith, weigh_below f all no_part, below_le (λ i. f (get_or all i no_part)) (is_number number) n each, most)

  -- and it isn't the one that was taken back
  gone_none : (seat : ℕ) → parts_sent core stream ≡ length (sent_parts core seat stream) → (before gone : List Part) → length gone ≤ 1 → before ++ gone ≡ sent_parts core seat stream → (by_seat closed core seat stream ≡ 0 → gone ≡ []) → weigh f gone ≡ 0
  gone_none seat many before gone few whole complete =
      elim (cases_lt 0 (weigh f gone)) [
        | inr none ↦ omega (arith, none)
        | inl has ↦
            let found = weigh_some f gone no_part has in
            let first : found.0 ≡ 0 = omega (arith, found.1, few) in
            let m : ℕ = length before in
            let here : get_or (before ++ gone) m no_part ≡ get_or gone 0 no_part =
            get_or-append_right before gone m m no_part refl (omega arith) ∙ (let none_more : m - m ≡ 0 = omega arith in ap (λ (i : ℕ). get_or gone i no_part) none_more) in
            let long : length (sent_parts core seat stream) ≡ m + length gone = sym (ap length whole) ∙ length-append before gone in
            let is : (get_or gone 0 no_part).number ≡ number = numbered_number stream number (get_or gone 0 no_part) (omega (arith, found.2, ap (λ (i : ℕ). f (get_or gone i no_part)) first)) in
            let at_m : (get_or (sent_parts core seat stream) m no_part).number ≡ m = sound.parts.in_order seat stream m (omega (arith, long, found.1)) in
            let last : number + 1 ≡ parts_sent core stream =
            omega (arith, is, at_m, ap (λ (p : Part). p.number) here, ap (λ (ps : List Part). (get_or ps m no_part).number) whole, many, long, found.1, few) in
            let unclosed : by_all closed core stream ≡ 0 = sym (ap (λ (b : Bool). if b then by_all closed core stream else 0) (eq-eqb (number + 1) (parts_sent core stream) last)) ∙ kept in
            absurd (omega (arith, found.1, ap length (complete (omega (arith, unclosed, seat_in_all closed core seat stream refl)))))
      ]

  one_place : times item (popped engine) + entries_of item (queue_of core queue).line + times item (armed stream) ≡ 1
  one_place =
      let p : Part = of_item item in
      let sent_it = sent_somewhere core p (sound.parts.under_way_was_sent engine item tagged) in
      let w : ℕ = sent_it.0 in
      let o : IsOrdered core engine w stream (popped engine) (armed stream) = order.order engine w stream was_posted (sender_takes core sound.parts w p sent_it.1) in
      let at = place_of stream (seat_of core w).sent p sent_it.1 refl in
      let some_sent : 1 ≤ weigh f (sent_parts core w stream) = omega (arith, weigh_at f (sent_parts core w stream) (at.0) no_part at.1, ap f at.2, numbered stream number p refl refl) in
      let before : List Part = course core engine stream (popped engine) (armed stream) in
      let all : List Part = all_parts core engine (popped engine) (armed stream) in
      let on_line : List Part = line_parts core queue in
      omega (
        arith,
        some_sent,
        sent_once w,
        gone_none w (sent_count core sound.streams sound.parts w p sent_it.1) before o.gone o.few o.whole o.complete,
        ap (weigh f) o.whole,
        weigh-append f before o.gone,
        filtered stream f (off_stream stream number) all,
        weigh-append f (seat_of core engine).received (map of_item (popped engine) ++ (on_line ++ map of_item (armed stream))),
        weigh-append f (map of_item (popped engine)) (on_line ++ map of_item (armed stream)),
        weigh-append f on_line (map of_item (armed stream)),
        none_received,
        weigh_parts (popped engine),
        weigh_line (queue_of core queue).line,
        weigh_parts (armed stream),
      )

-- ---- the laws

pub armed_back : ArmedBackLaw
armed_back popped armed core sound order engine item tagged = one_place popped armed core sound order engine item tagged

-- a worker that has no armed part of a stream to push holds none
pub alone : AloneLaw
alone popped armed core sound order seat engine stream worker some_stream nothing =
    elim (cases_Bool (holds_tagged core seat (1 + engine) stream)) [
      | inr none ↦ none
      | inl has ↦
          let queue : ℕ = 1 + engine in
          let test : Item → Bool = λ it. whereabouts_code it.whereabouts == 1 + seat && it.tag == stream in
          let found = weigh_some (λ (it : Item). one_if (test it)) (queue_of core queue).items blank (omega (arith, any_counts test (queue_of core queue).items has)) in
          let item : ℕ = found.0 in
          let passes : test (item_of core queue item) ≡ true = is_true (test (item_of core queue item)) found.2 in
          let parts = and_parts (whereabouts_code (item_of core queue item).whereabouts == 1 + seat) ((item_of core queue item).tag == stream) passes in
          let tag : (item_of core queue item).tag ≡ stream = eqb-true (item_of core queue item).tag stream parts.1 in
          let in_shape : seat < core.shape.engines + core.shape.workers = role_is_there core seat (omega (arith, worker)) in
          let low : seat < 2 ^ 32 - 1 = omega (arith, in_shape, sound.held.shape.shape.engines.1, sound.held.shape.shape.workers.1) in
          let hand : IsInHand core seat queue item = held_of seat (item_of core queue item).whereabouts (eqb-true (whereabouts_code (item_of core queue item).whereabouts) (1 + seat) parts.0) low in
          let place = one_place popped armed core sound order engine item (λ none. some_stream (sym tag ∙ none)) in
          let not_popped : times item (popped engine) ≡ 0 = elim (cases_lt 0 (times item (popped engine))) [
            | inr none ↦ omega (arith, none)
            | inl pops ↦
                let is : IsPopped core engine item = each_at (IsPopped core engine) item (popped engine) (order.pops engine) (omega (arith, pops)) in
                absurd (omega (arith, worker, is.role, ap (role_of core) (hands_differ core queue item engine seat is.hand hand)))
          ] in
          absurd (omega (arith, place, not_popped, not_in_line core seat queue item sound hand, ap (times item) (ap armed tag ∙ nothing)))
    ]
  where
    is_true : (b : Bool) → 0 < one_if b → b ≡ true
    is_true true pos = refl
    is_true false pos = absurd (omega (arith, pos))

-- ---- one armed part

-- two armed parts of a stream would both be its final one
pub armed_once : ArmedOnceLaw
armed_once popped armed core sound order stream =
    elim (cases_lt 0 (by_all taken core stream)) [
      | inr none ↦ omega (arith, ap (length {A = ℕ}) (order.untaken stream (omega (arith, none))))
      | inl some_took ↦
          let was_posted : 1 ≤ by_all posted core stream = omega (arith, some_took, state_is_posted core sound.streams stream) in
          let poster = counted_seat posted core stream was_posted in
          few (poster.0) (posted_some core sound.streams stream was_posted) (armed stream) refl (order.arms (poster.0) stream (member_counts stream (seat_of core (poster.0)).posted poster.1))
    ]
  where
    few : (engine : ℕ) → stream ≢ 0 → (xs : List ℕ) → armed stream ≡ xs → Each (IsUnpushed core engine stream) xs → length xs ≤ 1
    few engine nonzero [] is each = omega arith
    few engine nonzero (x ∷ []) is each = omega arith
    few engine nonzero (x ∷ (y ∷ rest)) is (one, (other, more)) =
        let tagged : (item_of core (1 + engine) x).tag ≢ 0 = λ none. nonzero (sym one.tag ∙ none) in
        let also : (item_of core (1 + engine) y).tag ≢ 0 = λ none. nonzero (sym other.tag ∙ none) in
        let same : x ≡ y = no_part_twice core sound.parts engine x y tagged (one.tag ∙ sym other.tag)
        (let last_x = sound.parts.held_is_final one.seat engine x one.role one.hand tagged in
        let last_y = sound.parts.held_is_final other.seat engine y other.role other.hand also in
        omega (arith, last_x, last_y, ap (parts_sent core) one.tag, ap (parts_sent core) other.tag)) in
        absurd (omega (
          arith,
          one_place popped armed core sound order engine x tagged,
          ap (times x) (ap armed one.tag ∙ is),
          is_number_same x,
          ap (is_number x) same,
        ))

-- ---- a closed stream

none_in_map : {X : Type 0} (f : Part → ℕ) (g : X → Part) (xs : List X) → ((x : X) → f (g x) ≡ 0) → weigh f (map g xs) ≡ 0
none_in_map f g [] none = refl
none_in_map f g (x ∷ xs) none = omega (arith, none x, none_in_map f g xs none)

some_long : {X : Type 0} (f : X → ℕ) (xs : List X) → 1 ≤ weigh f xs → 1 ≤ length xs
some_long f [] has = absurd (omega (arith, has))
some_long f (x ∷ xs) has = omega arith

-- the final part of a closed stream is neither on its way nor received, so it is the one that was taken back
pub closed_gone : ClosedGoneLaw
closed_gone core sound engine worker stream popped armed posts closes long o =
    let sent_all : List Part = sent_parts core worker stream in
    let m : ℕ = length sent_all - 1 in
    let inside : m < length sent_all = omega (arith, long) in
    let final : Part = get_or sent_all m no_part in
    let found = part_at_place stream (seat_of core worker).sent m inside in
    let many : parts_sent core stream ≡ length sent_all =
    subst (λ (n : ℕ). parts_sent core n ≡ length (sent_parts core worker n)) found.1 (sent_count core sound.streams sound.parts worker final found.0) in
    let nonzero : stream ≢ 0 = posted_some core sound.streams stream (omega (arith, posts, seat_in_all posted core engine stream refl)) in
    let f : Part → ℕ = of_number stream m in
    let withdrawn : times_withdrawn core stream m ≡ by_all closed core stream = ap (λ (b : Bool). if b then by_all closed core stream else 0) (eq-eqb (m + 1) (parts_sent core stream) (omega (arith, many, inside))) in
    let state = sound.parts.one_state stream m nonzero in
    let closed_all : 1 ≤ by_all closed core stream = omega (arith, closes, seat_in_all closed core worker stream refl) in
    let off_way : times_under_way core stream m ≡ 0 = omega (arith, state, withdrawn, closed_all, small (nat_lt m (parts_sent core stream))) in
    let unreceived : times_received core stream m ≡ 0 = omega (arith, state, withdrawn, closed_all, small (nat_lt m (parts_sent core stream))) in
    let in_item : (x : ℕ) → f (part_in core (1 + engine) x) ≡ 0 = λ x. elim (cases_lt 0 (f (part_in core (1 + engine) x))) [
      | inr none ↦ omega (arith, none)
      | inl has ↦
          let tag : (item_of core (1 + engine) x).tag ≡ stream = numbered_stream stream m (part_in core (1 + engine) x) (omega (arith, has)) in
          let is : number_in (item_of core (1 + engine) x).part ≡ m = numbered_number stream m (part_in core (1 + engine) x) (omega (arith, has)) in
          absurd (omega (
            arith,
            off_way,
            back_queue_in_all (carries stream m) core engine,
            weigh_at (carries stream m) (queue_of core (1 + engine)).items x blank (armed_inside core (1 + engine) x (λ none. nonzero (sym tag ∙ none))),
            carries_this stream m (item_of core (1 + engine) x) tag is,
          ))
    ] in
    let none_received : weigh f (seat_of core engine).received ≡ 0 = omega (arith, unreceived, over_all_at f received core.seats engine no_seat (is_there_of (is_number stream) posted core engine refl posts)) in
    let got : List Part = (seat_of core engine).received in
    let on_line : List Part = line_parts core (1 + engine) in
    let of_popped : List Part = map (part_in core (1 + engine)) popped in
    let of_armed : List Part = map (part_in core (1 + engine)) armed in
    let before : List Part = course core engine stream popped armed in
    let has_final : 1 ≤ weigh f sent_all = omega (arith, weigh_at f sent_all m no_part inside, numbered stream m final found.1 (sound.parts.in_order worker stream m inside)) in
    let behind : 1 ≤ weigh f o.gone = omega (
      arith,
      has_final,
      ap (weigh f) o.whole,
      weigh-append f before o.gone,
      filtered stream f (off_stream stream m) (all_parts core engine popped armed),
      weigh-append f got (of_popped ++ (on_line ++ of_armed)),
      weigh-append f of_popped (on_line ++ of_armed),
      weigh-append f on_line of_armed,
      none_received,
      none_in_map f (part_in core (1 + engine)) popped in_item,
      none_in_map f (λ (e : Entry). part_in core (1 + engine) e.item) (queue_of core (1 + engine)).line (λ e. in_item e.item),
      none_in_map f (part_in core (1 + engine)) armed in_item,
    ) in
    omega (arith, some_long f o.gone behind, o.few)
