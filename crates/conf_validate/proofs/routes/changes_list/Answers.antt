use Rattle.std.proofs.Common.{◌≡◌, ◌∙◌, ◌+◌, ◌++◌, ◌<◌, ◌∷◌, [], ℕ, List, Option, length, sym, ap, ap₂, arith}
use Rattle.serde_json.specs.Find.{as_str}
use Rattle.conf_tree.specs.View.{data_of}
use Rattle.conf_validate.specs.Configuration.{changes_list}
use Rattle.conf_validate.proofs.MemberLemmas.{ended, left, left_more, left_none, one_more}
use Rattle.conf_validate.proofs.routes.changes_list.Goals as goal

abbrev Change : Type 0
Change = List ℕ × Option (List ℕ)

pub loop-member-init : goal.loop-member-init
loop-member-init c =
    ap (λ (xs : List Change). xs ++ changes_list (left 0 c.members-list.result.now)) c.in_ok-changes.ensures.items ∙ ap changes_list (sym c.members-list.ensures)

pub loop-member-preserved : goal.loop-member-preserved
loop-member-preserved c =
    let ms = c.members-list.result.now in
    let i = c.loop-member.member-index in
    let m = c.member-item.result in
    let within : i < length ms = omega arith in
    let change : Change = (m.key, as_str (data_of m.value)) in
    let name : c.in_ok-copy_of.field-0 ≡ m.key = c.in_ok-copy_of.ensures ∙ c.as_slice.ensures in
    let text : c.in_ok-text.text ≡ as_str (data_of m.value) = c.in_ok-text.ensures in
    let pushed : c.push.new.self.items ≡ c.loop-member.changes.items ++ change ∷ [] = c.in_ok-push.ensures.items ∙ ap₂ (λ (n : List ℕ) (t : Option (List ℕ)). c.loop-member.changes.items ++ (n, t) ∷ []) name text in
    one_more c.loop-member.changes.items (changes_list (left (i + 1) ms)) (changes_list (left i ms)) _ c.push.new.self.items change pushed
    (ap changes_list (left_more ms i m within c.member-item.is)) c.loop-member.invariant

pub returns : goal.returns
returns c =
    ended _ _ _ (ap changes_list (left_none c.members-list.result.now c.loop-member.member-index (omega (arith, c.loop-member-test.false)))) c.loop-member.invariant
