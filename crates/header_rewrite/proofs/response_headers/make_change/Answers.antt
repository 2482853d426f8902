use Rattle.std.proofs.Common.{rules, ◌≡◌, ◌++◌, [], ◌∷◌, not, List, ℕ, sym, ap, ◌∙◌, append-nil}
use Rattle.std.proofs.lemmas.Fn.{filter_same}
use Rattle.path_normal.specs.Variables.{escaped_expansion_of}
use Rattle.unit_types.specs.declared.field.Field.{Field}
use Rattle.header_rewrite.specs.ResponseHeaders.{is_named, new_field, without}
use Rattle.header_rewrite.proofs.response_headers.make_change.Goals as goal

pub returns-in_ok-push : goal.returns-in_ok-push
returns-in_ok-push c =
    let old = c.args.list.now.items in
    let request = c.args.request.now in
    let wanted = c.args.change.now.0 in
    let kept : c.retain.new.self.items ≡ without c.as_slice-name.result.now old =
    filter_same _ (λ field. not (is_named c.as_slice-name.result.now field)) _ (λ x b f' k. search rules) _ _ c.retain.ensures.filtered in
    let front = ap (λ n. without n old) c.as_slice-name.ensures in
    let made : List ℕ → List ℕ → Field = λ n v. record { name = n; value = v } in
    let is_name = c.in_ok-name.ensures ∙ c.as_slice-name.ensures in
    let is_value = c.in_ok-value.ensures ∙ ap (λ t. escaped_expansion_of t request) c.as_slice.ensures in
    c.in_ok-push.ensures.items
    ∙ ap (λ t. t ++ made c.in_ok-name.name c.in_ok-value.value ∷ []) (kept ∙ front)
    ∙ ap (λ n. without wanted old ++ made n c.in_ok-value.value ∷ []) is_name
    ∙ ap (λ v. without wanted old ++ made wanted v ∷ []) is_value
    ∙ ap (λ t. without wanted old ++ new_field request wanted t) (sym c.in-Some.is)

pub returns-in_default : goal.returns-in_default
returns-in_default c =
    let old = c.args.list.now.items in
    let wanted = c.args.change.now.0 in
    let kept : c.retain.new.self.items ≡ without c.as_slice-name.result.now old =
    filter_same _ (λ field. not (is_named c.as_slice-name.result.now field)) _ (λ x b f' k. search rules) _ _ c.retain.ensures.filtered in
    kept ∙ ap (λ n. without n old) c.as_slice-name.ensures ∙ sym (append-nil (without wanted old))
    ∙ ap (λ t. without wanted old ++ new_field c.args.request.now wanted t) (sym c.in_default.is)
