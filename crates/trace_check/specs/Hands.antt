-- How many items of a queue are where, with which tag.
use Rattle.std.specs.Prelude.{◌≡◌, ◌≢◌, ℕ, ◌==◌, ◌&&◌, Bool, List, Option, Some, None}
use Rattle.std.specs.BTreeMap.{BTreeMap, get}
use Rattle.std.specs.Ordering.{nat_cmp, ordering_then}
use Rattle.std.specs.declared.cmp.Ordering.{Ordering}
use Rattle.trace_check.specs.declared.items.Hand.{Hand}
use Rattle.unit_model.specs.Core.{whereabouts_code}
use Rattle.unit_model.specs.Weights.{weigh, one_if}
use Rattle.unit_model.specs.declared.machine.Item.{Item}

-- by the place, and then by the tag
abbrev pub hand_cmp : Hand → Hand → Ordering
hand_cmp a b = ordering_then (nat_cmp a.code b.code) (nat_cmp a.tag b.tag)

abbrev pub same_hand : Hand → Hand → Bool
same_hand a b = b.code == a.code && b.tag == a.tag

-- where an item is, and its tag
abbrev pub hand_of : Item → Hand
hand_of item = record { code = whereabouts_code item.whereabouts; tag = item.tag }

abbrev pub or_zero : Option ℕ → ℕ
or_zero None = 0
or_zero (Some n) = n

abbrev pub count_at : BTreeMap Hand ℕ → Hand → ℕ
count_at hands hand = or_zero (get hand_cmp hands hand)

-- the counts of a list of items, of those that aren't free
abbrev pub Counts : BTreeMap Hand ℕ → List Item → Type 0
Counts hands items = (hand : Hand) → hand.code ≢ 0
    → count_at hands hand ≡ weigh (λ item. one_if (same_hand hand (hand_of item))) items
