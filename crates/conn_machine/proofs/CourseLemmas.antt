-- Courses behind what was written before, and the turn of one receipt.
use Rattle.std.proofs.Common.{ℕ, ◌≡◌, ◌-◌, refl, sym, ap, ◌∙◌, List, [], ◌∷◌, ◌++◌, Bool, true, false, not, ◌&&◌, nat_le, if◌then◌else◌, Option, Some, None, slice_get, append_assoc}
use Rattle.conf_validate.specs.Configuration.{Configuration}
use Rattle.http_front.specs.Front.{head_begun}
use Rattle.http_front.specs.NextUnit.{next_unit}
use Rattle.http_front.specs.Written.{continue_bytes}
use Rattle.conn_machine.specs.declared.receipt.Receipt.{Receipt}
use Rattle.conn_machine.specs.Answers.{Connection}
use Rattle.conn_machine.specs.Sessions.{Course, still_open, under_way, behind, stands, receipt_course, unbegun, unit_course, course_from}

pub behind_nothing : (course : Option Course) → course ≡ behind [] [] course
behind_nothing None = refl
behind_nothing (Some course) = refl

pub behind_both : (a b la lb : List ℕ) (course : Option Course) → behind a la (behind b lb course) ≡ behind (a ++ b) (la ++ lb) course
behind_both a b la lb None = refl
behind_both a b la lb (Some course) =
    λ i. Some (record { written = sym (append_assoc a b course.written) i; lines = sym (append_assoc la lb course.lines) i; mark = course.mark })

-- a part that is written before moves in front
pub behind_written : (a b c la lb : List ℕ) (course : Option Course)
    → behind (a ++ b) la (behind c lb course) ≡ behind (a ++ (b ++ c)) (la ++ lb) course
behind_written a b c la lb course =
    behind_both (a ++ b) c la lb course ∙ ap (λ written. behind written (la ++ lb) course) (append_assoc a b c)

-- the turn of a receipt whose configuration is there
pub course_there : (c : Connection) (confs : List Configuration) (conf : Configuration) (ended : Bool) (r : Receipt) (rs : List Receipt)
    (left last : ℕ) (told : Bool) (bytes : List ℕ)
    → nat_le last r.conf ≡ true → slice_get confs r.conf ≡ Some conf → head_begun bytes ≡ true
    → course_from c confs ended (r ∷ rs) left last told bytes
    ≡ unit_course c conf left told bytes r rs (course_from c confs ended rs (left - 1) r.conf false) (next_unit bytes ended conf.max_body)
unfolding course_from
course_there c confs conf ended r rs left last told bytes low there begun =
    let rest : List ℕ → Option Course = course_from c confs ended rs (left - 1) r.conf false in
    ap (λ b. if b then receipt_course c (slice_get confs r.conf) ended left told bytes r rs rest else None) low
    ∙ ap (λ o. receipt_course c o ended left told bytes r rs rest) there
    ∙ ap (λ b. if b then unit_course c conf left told bytes r rs rest (next_unit bytes ended conf.max_body) else unbegun r rs) begun

-- the same between two requests
pub course_between : (c : Connection) (confs : List Configuration) (conf : Configuration) (ended : Bool) (r : Receipt) (rs : List Receipt)
    (left last : ℕ) (told : Bool) (bytes : List ℕ)
    → nat_le last r.conf ≡ true → slice_get confs r.conf ≡ Some conf → head_begun bytes ≡ false
    → course_from c confs ended (r ∷ rs) left last told bytes ≡ unbegun r rs
unfolding course_from
course_between c confs conf ended r rs left last told bytes low there begun =
    let rest : List ℕ → Option Course = course_from c confs ended rs (left - 1) r.conf false in
    ap (λ b. if b then receipt_course c (slice_get confs r.conf) ended left told bytes r rs rest else None) low
    ∙ ap (λ o. receipt_course c o ended left told bytes r rs rest) there
    ∙ ap (λ b. if b then unit_course c conf left told bytes r rs rest (next_unit bytes ended conf.max_body) else unbegun r rs) begun

-- `100 Continue` is told once
pub due_once : (d : Bool) (course : Option Course)
    → behind (continue_bytes (d && not false)) [] course
    ≡ behind (continue_bytes d) [] (behind (continue_bytes (d && not d)) [] course)
due_once true course = ap (behind (continue_bytes true) []) (behind_nothing course)
due_once false course = ap (behind [] []) (behind_nothing course)

-- ---- without a receipt

pub course_begun : (c : Connection) (confs : List Configuration) (ended : Bool) (left last : ℕ) (told : Bool) (bytes : List ℕ)
    → head_begun bytes ≡ true → course_from c confs ended [] left last told bytes ≡ stands under_way
unfolding course_from
course_begun c confs ended left last told bytes begun = ap (λ b. if b then stands under_way else stands still_open) begun

pub course_unbegun : (c : Connection) (confs : List Configuration) (ended : Bool) (left last : ℕ) (told : Bool) (bytes : List ℕ)
    → head_begun bytes ≡ false → course_from c confs ended [] left last told bytes ≡ stands still_open
unfolding course_from
course_unbegun c confs ended left last told bytes begun = ap (λ b. if b then stands under_way else stands still_open) begun
