-- What a seat can show of a sound core from its own lists, its own items and words that it has seen.
use Rattle.std.specs.Prelude.{ℕ, ◌-◌, ◌≡◌, ◌≢◌, ◌==◌, ◌&&◌, true, false}
use Rattle.std.specs.List.{list_any}
use Rattle.unit_model.specs.Conditions.{has_stream, holds_tagged, is_taken, part_of, is_same_part}
use Rattle.unit_model.specs.Core.{item_of, number_in, role_of, seat_of}
use Rattle.unit_model.specs.PartCounts.{parts_by_seat, sent}
use Rattle.unit_model.specs.Premises.{IsInHand, MaySend}
use Rattle.unit_model.specs.Soundness.{IsSound}
use Rattle.unit_model.specs.declared.machine.Core.{Core}

-- A stream that the seat posted and didn't cancel, and that is no item's tag any more, was taken.
abbrev pub WasTakenLaw : Type 0
WasTakenLaw = (core : Core) → IsSound core → (seat stream : ℕ)
    → has_stream stream (seat_of core seat).posted ≡ true
    → has_stream stream (seat_of core seat).cancelled ≡ false
    → ((item : ℕ) → (item_of core 0 item).tag ≢ stream)
    → is_taken core stream ≡ true

-- The part word of a tagged item of queue 0 is the seat that posted the tag.
abbrev pub WasPostedLaw : Type 0
WasPostedLaw = (core : Core) → IsSound core → (item stream : ℕ)
    → (item_of core 0 item).tag ≡ stream
    → stream ≢ 0
    → has_stream stream (seat_of core (item_of core 0 item).part).posted ≡ true

-- The worker that took a stream alone sends its parts and closes it: its own lists say how many parts were sent, and that
-- none of them is the last.
abbrev pub OwnSendLaw : Type 0
OwnSendLaw = (core : Core) → IsSound core → (seat queue item stream part : ℕ)
    → queue ≢ 0
    → has_stream stream (seat_of core seat).taken ≡ true
    → has_stream stream (seat_of core (queue - 1)).posted ≡ true
    → list_any (λ part. part.stream == stream && part.last) (seat_of core seat).sent ≡ false
    → has_stream stream (seat_of core seat).closed ≡ false
    → number_in part ≡ parts_by_seat sent core seat stream
    → holds_tagged core seat queue stream ≡ false
    → MaySend core seat queue item stream part

-- A worker that holds an item of a back queue with a tag sent its part.
abbrev pub HolderSentLaw : Type 0
HolderSentLaw = (core : Core) → IsSound core → (seat queue item stream : ℕ)
    → role_of core seat ≡ 1
    → queue ≢ 0
    → IsInHand core seat queue item
    → (item_of core queue item).tag ≡ stream
    → stream ≢ 0
    → list_any (is_same_part (part_of stream (item_of core queue item))) (seat_of core seat).sent
    ≡ true
