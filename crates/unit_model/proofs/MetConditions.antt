-- What holds where the conditions of a step are met: its numbers can rise by one.
use Rattle.std.proofs.Common.{◌≡◌, ℕ, zero, suc, ◌+◌, ◌-◌, ◌<◌, ◌≤◌, ◌^◌, ◌==◌, ◌&&◌, nat_lt, Bool, true, false, if◌then◌else◌, List, [], ◌∷◌, get_or, refl, arith}
use Rattle.std.specs.Prelude.{Option, Some, None}
use Rattle.std.specs.Option.{option_or}
use Rattle.std.proofs.lemmas.Bool.{and_parts, ltb-true, eqb-true}
use Rattle.unit_model.specs.Conditions.{unless, first_of, first_unmet_by, conditions_by, is_next_stream, may_open, is_next_line_place, is_next_free_place}
use Rattle.unit_model.specs.Core.{queue_of, role_of, side_start, side_end, side_opened}
use Rattle.unit_model.specs.declared.machine.Core.{Core}
use Rattle.unit_model.specs.declared.machine.Step.{Step}
use Rattle.unit_model.specs.declared.machine.Step.TheVariants.{Draw, Open, Push, GiveItem}
use Rattle.unit_model.specs.declared.machine.Unmet.{Unmet}

pub none_parts : {X : Type 0} (one other : Option X) → option_or one other ≡ None → (one ≡ None) × (other ≡ None)
none_parts None other none = (refl, none)
none_parts (Some x) other none = absurd (cc none)

-- each of the conditions is met
pub each_met : (conditions : List (Option Unmet)) → first_of conditions ≡ None → (n : ℕ) → get_or conditions n None ≡ None
each_met [] met n = refl
each_met (condition ∷ conditions) met zero = (none_parts condition (first_of conditions) met).0
each_met (condition ∷ conditions) met (suc n) = each_met conditions (none_parts condition (first_of conditions) met).1 n

pub test_of : (test : Bool) (rule want found : ℕ) → unless test rule want found ≡ None → test ≡ true
test_of true rule want found met = refl
test_of false rule want found met = absurd (cc met)

pub draw_below : (core : Core) (eleventh : Step → Option Unmet) (seat stream : ℕ) → first_unmet_by core eleventh (Draw seat stream) ≡ None → stream < 2 ^ 62
unfolding conditions_by is_next_stream
draw_below core eleventh seat stream met =
    let next : is_next_stream core stream ≡ None = each_met (conditions_by core eleventh (Draw seat stream)) met 1 in
    let test = test_of (stream == core.next && nat_lt stream (2 ^ 62)) _ _ _ next in
    ltb-true stream (2 ^ 62) (and_parts (stream == core.next) (nat_lt stream (2 ^ 62)) test).1

pub push_below : (core : Core) (eleventh : Step → Option Unmet) (seat queue item place : ℕ) → first_unmet_by core eleventh (Push seat queue item place) ≡ None → place < 2 ^ 63
unfolding conditions_by is_next_line_place
push_below core eleventh seat queue item place met =
    let next : is_next_line_place core queue place ≡ None = each_met (conditions_by core eleventh (Push seat queue item place)) met 4 in
    let test = test_of (place == (queue_of core queue).next_line && nat_lt place (2 ^ 63)) _ _ _ next in
    ltb-true place (2 ^ 63) (and_parts (place == (queue_of core queue).next_line) (nat_lt place (2 ^ 63)) test).1

pub give_below : (core : Core) (eleventh : Step → Option Unmet) (seat queue item place : ℕ) → first_unmet_by core eleventh (GiveItem seat queue item place) ≡ None → place < 2 ^ 63
unfolding conditions_by is_next_free_place
give_below core eleventh seat queue item place met =
    let next : is_next_free_place core queue place ≡ None = each_met (conditions_by core eleventh (GiveItem seat queue item place)) met 4 in
    let test = test_of (place == (queue_of core queue).next_free && nat_lt place (2 ^ 63)) _ _ _ next in
    ltb-true place (2 ^ 63) (and_parts (place == (queue_of core queue).next_free) (nat_lt place (2 ^ 63)) test).1

side_below : (test : Bool) (out back most : ℕ) → out ≤ most → back ≤ most → (if test then out else out + back) - (if test then 0 else out) ≤ most
side_below true out back most a b = omega arith
side_below false out back most a b = omega arith

pub open_below : (core : Core) (eleventh : Step → Option Unmet) (seat count most : ℕ) → first_unmet_by core eleventh (Open seat count) ≡ None → core.shape.out_segments ≤ most → core.shape.back_segments ≤ most → count < most
unfolding conditions_by may_open
open_below core eleventh seat count most met out back =
    let open_met : may_open core seat count ≡ None = each_met (conditions_by core eleventh (Open seat count)) met 1 in
    let left = nat_lt (side_opened core seat) (side_end core seat - side_start core seat) in
    let tests = and_parts left (count == side_opened core seat) (test_of (left && count == side_opened core seat) _ _ _ open_met) in
    let below : side_opened core seat < side_end core seat - side_start core seat = ltb-true _ _ tests.0 in
    let same : count ≡ side_opened core seat = eqb-true _ _ tests.1 in
    let side : side_end core seat - side_start core seat ≤ most = side_below (role_of core seat == 0) core.shape.out_segments core.shape.back_segments most out back in
    omega (arith, below, same, side)
