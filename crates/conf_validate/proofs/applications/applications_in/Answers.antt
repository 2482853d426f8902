use Rattle.std.proofs.Common.{◌≡◌, ◌∙◌, ◌+◌, ◌++◌, ◌<◌, ◌∷◌, [], ℕ, List, length, map, sym, ap, subst, arith}
use Rattle.conf_tree.specs.Document.{AreMembers}
use Rattle.conf_tree.specs.View.{data_of, named}
use Rattle.conf_validate.specs.Configuration.{application_of, members_list}
use Rattle.conf_validate.specs.declared.conf.Application.{Application}
use Rattle.conf_validate.proofs.MemberLemmas.{ended, left, left_more, left_none, member_document, one_more}
use Rattle.conf_validate.proofs.applications.applications_in.Goals as goal

pub loop-member-init : goal.loop-member-init
loop-member-init c =
    ap (λ (xs : List Application). xs ++ map application_of (members_list (left 0 c.members-list.result.now))) c.in_ok-applications.ensures.items
    ∙ ap (λ m. map application_of (members_list m)) (sym c.members-list.ensures)

pub application_of-requires : goal.application_of-requires
application_of-requires c =
    member_document c.members-list.result.now c.loop-member.member-index c.member-item.result (subst AreMembers c.members-list.ensures c.requires) (omega arith) c.member-item.is

pub loop-member-preserved : goal.loop-member-preserved
loop-member-preserved c =
    let ms = c.members-list.result.now in
    let i = c.loop-member.member-index in
    let m = c.member-item.result in
    let within : i < length ms = omega arith in
    let rest = λ (n : ℕ). map application_of (members_list (left n ms)) in
    let made : c.in_ok-application_of.field-0 ≡ application_of (named m) = c.in_ok-application_of.ensures ∙ ap (λ (n : List ℕ). application_of (n, data_of m.value)) c.as_slice.ensures in
    let pushed : c.push.new.self.items ≡ c.loop-member.applications.items ++ application_of (named m) ∷ [] = c.in_ok-push.ensures.items ∙ ap (λ (a : Application). c.loop-member.applications.items ++ a ∷ []) made in
    one_more c.loop-member.applications.items (rest (i + 1)) (rest i) _ c.push.new.self.items (application_of (named m)) pushed
    (ap (λ x. map application_of (members_list x)) (left_more ms i m within c.member-item.is)) c.loop-member.invariant

pub returns : goal.returns
returns c =
    ended _ _ _ (ap (λ x. map application_of (members_list x)) (left_none c.members-list.result.now c.loop-member.member-index (omega (arith, c.loop-member-test.false)))) c.loop-member.invariant
