-- What the parcels of a part say was asked.
use Rattle.std.proofs.Common.{◌≡◌, ℕ, zero, suc, ◌+◌, ◌-◌, ◌*◌, ◌/◌, ◌<◌, ◌≤◌, Bool, List, length, take, drop, map, Option, Some, None, refl, sym, ap, ap₂, subst, ◌∙◌, arith}
use Rattle.std.specs.List.{range_with_len}
use Rattle.std.proofs.lemmas.List.{length-take, length-drop}
use Rattle.unit_types.specs.declared.message.Reply.{Reply}
use Rattle.unit_types.specs.declared.message.Request.{Request}
use Rattle.std.specs.Prelude.{◌↔◌, IsTrue}
use Rattle.request_context.specs.declared.accepting.Part.{Part}
use Rattle.request_context.specs.declared.asked.Asked.{Asked}
use Rattle.request_context.specs.declared.piece.Parcel.{Parcel}
use Rattle.request_context.specs.Collecting.{IsPart, IsAwaited, Accepts, carried}
use Rattle.request_context.specs.Cutting.{Collected, PartsValue, record_to, part_count, part_to}
use Rattle.request_context.specs.Parcels.{PiecesValue, NextIs, answer_of, answers_of}
use Rattle.request_context.specs.Parts.{part_size, piece_size, stretch_count, stretch_of}
use Rattle.request_context.proofs.Cuts.{begins_within}
use Rattle.request_context.proofs.Readers.{some_is}

-- what is left behind a place within a list
some_left : (n m : ℕ) (xs : List ℕ) → 0 < n → m < length xs → 0 < length (take n (drop m xs))
some_left n m xs some lt = omega (arith, length-take n (drop m xs), length-drop m xs)

counted : (bytes : List ℕ) → 0 < length bytes → 0 < stretch_count piece_size bytes
unfolding stretch_count
counted bytes lt = omega (arith, lt)

some_size : 0 < part_size
some_size = omega arith

-- a part has a piece
filled : (reply_of : List ℕ → Request → Reply) (asked : Asked) (part : ℕ) → part < part_count reply_of asked → 0 < stretch_count piece_size (part_to reply_of asked part)
unfolding stretch_of
filled reply_of asked part within =
    counted (part_to reply_of asked part) (some_left part_size (part_size * part) (record_to reply_of asked) some_size (begins_within part_size (record_to reply_of asked) part some_size within))

first_says : (H : Type 0) (reply_of : List ℕ → Request → Reply) (asked : Asked) (part n : ℕ) → 0 < n → carried (map (answer_of {H = H} reply_of asked part) (range_with_len 0 n)) ≡ Some asked
first_says H reply_of asked part zero lt = absurd (omega arith)
first_says H reply_of asked part (suc n) lt = refl

pub part_says : {H : Type 0} (reply_of : List ℕ → Request → Reply) (asked : Asked) (stream part : ℕ) (last : Bool) (parcels : List (Parcel H)) → IsPart reply_of asked stream part last parcels → carried parcels ≡ Some asked
part_says {H = H} reply_of asked stream part last parcels is =
    ap (λ (ps : List (Parcel H)). carried ps) is.parcels ∙ first_says H reply_of asked part (stretch_count piece_size (part_to reply_of asked part)) (filled reply_of asked part is.within)

-- so there is only one request of which they are a part
pub only_one : {H : Type 0} (reply_of : List ℕ → Request → Reply) (asked other : Asked) (stream part : ℕ) (last : Bool) (parcels : List (Parcel H))
    → IsPart reply_of asked stream part last parcels → IsPart reply_of other stream part last parcels → other ≡ asked
only_one reply_of asked other stream part last parcels is are =
    some_is other asked (sym (part_says reply_of other stream part last parcels are) ∙ part_says reply_of asked stream part last parcels is)

-- the awaited part, in terms of what the collector has
module _ {H : Type 0} (reply_of : List ℕ → Request → Reply) (old : Collected) (found : Asked) (posted number : ℕ) (mark : Bool) (given : List (Parcel H)) where
  pub awaited_parcels : IsPart reply_of found posted number mark given → IsAwaited old found number → given ≡ answers_of reply_of old.asked old.next
  awaited_parcels is awaited = is.parcels ∙ ap₂ (λ (a : Asked) (n : ℕ). answers_of {H = H} reply_of a n) awaited.0 awaited.1

  pub awaited_within : IsPart reply_of found posted number mark given → IsAwaited old found number → old.next < part_count reply_of old.asked
  awaited_within is awaited = subst (λ (a : Asked). old.next < part_count reply_of a) awaited.0 (subst (λ (n : ℕ). n < part_count reply_of found) awaited.1 is.within)

  pub awaited_last : IsPart reply_of found posted number mark given → IsAwaited old found number → IsTrue mark ↔ (old.next + 1 ≡ part_count reply_of old.asked)
  awaited_last is awaited = subst (λ (a : Asked). IsTrue mark ↔ (old.next + 1 ≡ part_count reply_of a)) awaited.0 (subst (λ (n : ℕ). IsTrue mark ↔ (n + 1 ≡ part_count reply_of found)) awaited.1 is.last)

-- what is said of the awaited part is said of the one that came
pub as_found : (reply_of : List ℕ → Request → Reply) (old new : Collected) (found : Asked) (number : ℕ) (mark : Bool) (answer : Part) → IsAwaited old found number
    → Accepts reply_of old new old.asked old.next mark answer → Accepts reply_of old new found number mark answer
as_found reply_of old new found number mark answer awaited accepts =
    subst (λ (a : Asked). Accepts reply_of old new a number mark answer) (sym awaited.0) (subst (λ (n : ℕ). Accepts reply_of old new old.asked n mark answer) (sym awaited.1) accepts)

-- the part that `next` gives
pub next_part : {H : Type 0} (reply_of : List ℕ → Request → Reply) (old new : PartsValue) (number : ℕ) (mark : Bool) (given : PiecesValue H) (posted : ℕ)
    → NextIs reply_of old new (Some (number, mark, given)) → old.asked.stream ≡ posted → IsPart reply_of old.asked posted number mark given.parcels
next_part {H = H} reply_of old new number mark given posted is under = record {
  stream = under;
  within = subst (λ (n : ℕ). n < part_count reply_of old.asked) (sym is.1) is.0;
  last = subst (λ (n : ℕ). IsTrue mark ↔ (n + 1 ≡ part_count reply_of old.asked)) (sym is.1) is.2;
  parcels = is.3 ∙ ap (λ (n : ℕ). answers_of {H = H} reply_of old.asked n) (sym is.1);
}

-- it is the same part, whichever of two equal requests is named
pub same_part : {H : Type 0} (reply_of : List ℕ → Request → Reply) (asked other : Asked) (posted number : ℕ) (mark : Bool) (given : List (Parcel H))
    → IsPart reply_of asked posted number mark given → other ≡ asked → IsPart reply_of other other.stream number mark given
same_part reply_of asked other posted number mark given is e =
    subst (λ (a : Asked). IsPart reply_of a a.stream number mark given) (sym e) (record { stream = refl; within = is.within; last = is.last; parcels = is.parcels })

-- and so what is said of one is said of each request of which they are a part
pub of_each : {H : Type 0} (reply_of : List ℕ → Request → Reply) (old new : Collected) (asked found : Asked) (posted number : ℕ) (mark : Bool) (given : List (Parcel H)) (answer : Part)
    → IsPart reply_of asked posted number mark given → found ≡ asked → Accepts reply_of old new found number mark answer
    → (other : Asked) → IsPart reply_of other posted number mark given → Accepts reply_of old new other number mark answer
of_each reply_of old new asked found posted number mark given answer is e accepts other are =
    subst (λ (a : Asked). Accepts reply_of old new a number mark answer) (e ∙ sym (only_one reply_of asked other posted number mark given is are)) accepts
