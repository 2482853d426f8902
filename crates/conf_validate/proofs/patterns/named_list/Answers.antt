use Rattle.std.proofs.Common.{◌≡◌, ◌∙◌, ◌+◌, ◌++◌, ◌<◌, ◌∷◌, [], ℕ, List, length, sym, ap, arith}
use Rattle.conf_tree.specs.View.{data_of}
use Rattle.conf_validate.specs.Configuration.{named, named_list}
use Rattle.conf_validate.specs.declared.matching.NamedPatterns.{NamedPatterns}
use Rattle.conf_validate.proofs.MemberLemmas.{ended, left, left_more, left_none, one_more}
use Rattle.conf_validate.proofs.patterns.named_list.Goals as goal

pub loop-member-init : goal.loop-member-init
loop-member-init c =
    ap (λ (xs : List NamedPatterns). xs ++ named_list c.args.lower (left 0 c.members-list.result.now)) c.in_ok-set.ensures.items ∙ ap (named_list c.args.lower) (sym c.members-list.ensures)

pub loop-member-preserved : goal.loop-member-preserved
loop-member-preserved c =
    let ms = c.members-list.result.now in
    let i = c.loop-member.member-index in
    let m = c.member-item.result in
    let within : i < length ms = omega arith in
    let one : NamedPatterns = named c.args.lower m.key (data_of m.value) in
    let made : c.in_ok-named.field-0 ≡ one = c.in_ok-named.ensures ∙ ap (λ (n : List ℕ). named c.args.lower n (data_of m.value)) c.as_slice.ensures in
    let pushed : c.push.new.self.items ≡ c.loop-member.set.items ++ one ∷ [] = c.in_ok-push.ensures.items ∙ ap (λ (n : NamedPatterns). c.loop-member.set.items ++ n ∷ []) made in
    one_more c.loop-member.set.items (named_list c.args.lower (left (i + 1) ms)) (named_list c.args.lower (left i ms)) _ c.push.new.self.items one pushed
    (ap (named_list c.args.lower) (left_more ms i m within c.member-item.is)) c.loop-member.invariant

pub returns : goal.returns
returns c =
    c.of.ensures ∙ ended _ _ _ (ap (named_list c.args.lower) (left_none c.members-list.result.now c.loop-member.member-index (omega (arith, c.loop-member-test.false)))) c.loop-member.invariant
