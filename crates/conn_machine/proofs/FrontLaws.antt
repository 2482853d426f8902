-- What stands at the front of bytes without a complete head, where the input ended.
use Rattle.std.proofs.Common.{ℕ, ◌≡◌, refl, List, [], drop, length, Bool, true, false, ◌==◌, ◌⊎◌, inl, inr}
use Rattle.unit_types.specs.Limits.{head_limit}
use Rattle.http_front.specs.Front.{Front, unready, too_long, block, blank_len, block_len, front_of, is_ready, head_begun}
use Rattle.http_front.specs.NextUnit.{cut, finished, wait, NextUnit, plainly, end_found, unready_found, front_unit, next_unit}
use Rattle.http_front.specs.Reading.{answer_at, is_request}
use Rattle.unit_types.specs.declared.message.Addr.{Addr}

-- nothing is found, and nothing is due
abbrev pub IsIdle : NextUnit → Type 0
IsIdle unit = (unit.continue_due ≡ false) × ((unit.found ≡ finished) ⊎ (unit.found ≡ cut))

idle_end : (empty : Bool) → IsIdle (plainly (end_found empty))
idle_end true = (refl, inl refl)
idle_end false = (refl, inr refl)

idle_front : (limit blank : ℕ) (bytes : List ℕ) (front : Front) → is_ready front ≡ false → IsIdle (front_unit limit blank bytes true front)
idle_front limit blank bytes unready is = idle_end (length bytes == 0)
idle_front limit blank bytes too_long is = absurd (cc is)
idle_front limit blank bytes (block n) is = absurd (cc is)

pub unbegun_idle : (bytes : List ℕ) (limit : ℕ) → head_begun bytes ≡ false → IsIdle (next_unit bytes true limit)
unfolding next_unit
unbegun_idle bytes limit is =
    let rest = drop (blank_len bytes) bytes in
    idle_front limit (blank_len bytes) rest (front_of head_limit rest) is

-- more bytes are needed where the input goes on
waits_front : (limit blank : ℕ) (bytes : List ℕ) (front : Front) → is_ready front ≡ false → (front_unit limit blank bytes false front).found ≡ wait
waits_front limit blank bytes unready is = refl
waits_front limit blank bytes too_long is = absurd (cc is)
waits_front limit blank bytes (block n) is = absurd (cc is)

pub unbegun_waits : (bytes : List ℕ) (limit : ℕ) → head_begun bytes ≡ false → (next_unit bytes false limit).found ≡ wait
unfolding next_unit
unbegun_waits bytes limit is =
    let rest = drop (blank_len bytes) bytes in
    waits_front limit (blank_len bytes) rest (front_of head_limit rest) is

-- nothing is no complete head
pub nothing_begun : head_begun [] ≡ false
unfolding front_of blank_len block_len
nothing_begun = refl

-- without a complete head nothing is due, and no request is found
plain_end : (from to : Addr) (empty : Bool) → is_request (answer_at from to (end_found empty)) ≡ false
plain_end from to true = refl
plain_end from to false = refl

plain_unready : (from to : Addr) (ended : Bool) (bytes : List ℕ) → is_request (answer_at from to (unready_found ended bytes)) ≡ false
plain_unready from to false bytes = refl
plain_unready from to true bytes = plain_end from to (length bytes == 0)

plain_front : (from to : Addr) (limit blank : ℕ) (bytes : List ℕ) (ended : Bool) (front : Front) → is_ready front ≡ false
    → ((front_unit limit blank bytes ended front).continue_due ≡ false)
    × (is_request (answer_at from to (front_unit limit blank bytes ended front).found) ≡ false)
plain_front from to limit blank bytes ended unready is = (refl, plain_unready from to ended bytes)
plain_front from to limit blank bytes ended too_long is = absurd (cc is)
plain_front from to limit blank bytes ended (block n) is = absurd (cc is)

pub unbegun_plain : (from to : Addr) (bytes : List ℕ) (ended : Bool) (limit : ℕ) → head_begun bytes ≡ false
    → ((next_unit bytes ended limit).continue_due ≡ false) × (is_request (answer_at from to (next_unit bytes ended limit).found) ≡ false)
unfolding next_unit
unbegun_plain from to bytes ended limit is =
    let rest = drop (blank_len bytes) bytes in
    plain_front from to limit (blank_len bytes) rest ended (front_of head_limit rest) is
