use Rattle.std.proofs.Common.{◌≡◌, List, ℕ, [], ◌++◌, IsUtf8, sym, ap, ap₂, ◌∙◌, subst}
use Rattle.json.specs.Lex.{tokens}
use Rattle.json.specs.Print.{print}
use Rattle.json.specs.Token.{Token}
use Rattle.json.specs.Tree.{json_tokens}
use Rattle.serde_json.specs.Written.{outline}
use Rattle.serde_json.proofs.Texts.{print-outline}
use Rattle.conf_tree.specs.View.{data_of}
use Rattle.conf_tree.proofs.Writing.{written_reads}
use Rattle.conf_tree.proofs.write.write_tree.Goals as goal

pub returns-clause-text : goal.returns-clause-text
returns-clause-text c =
    let d = data_of c.args.tree.now in
    let before : c.write.new.out.before ≡ [] = c.in_ok-write.ensures.before ∙ c.new-out.ensures.before ∙ c.in_ok-with_capacity.ensures.items in
    let written : c.write.new.out.tokens ≡ json_tokens (outline d) = c.in_ok-write.ensures.tokens ∙ ap (λ ts. ts ++ json_tokens (outline d)) c.new-out.ensures.tokens in
    c.of.ensures ∙ c.into_inner.ensures.items ∙ ap₂ (λ (bs : List ℕ) (ts : List Token). bs ++ print ts) before written ∙ print-outline d

pub returns-clause-reads_back : goal.returns-clause-reads_back
returns-clause-reads_back c h =
    let d = data_of c.args.tree.now in
    let before : c.write.new.out.before ≡ [] = c.in_ok-write.ensures.before ∙ c.new-out.ensures.before ∙ c.in_ok-with_capacity.ensures.items in
    let written : c.write.new.out.tokens ≡ json_tokens (outline d) = c.in_ok-write.ensures.tokens ∙ ap (λ ts. ts ++ json_tokens (outline d)) c.new-out.ensures.tokens in
    let text : c.of.result ≡ print c.write.new.out.tokens = c.of.ensures ∙ c.into_inner.ensures.items ∙ ap (λ (bs : List ℕ). bs ++ print c.write.new.out.tokens) before in
    written_reads d c.of.result h (subst IsUtf8 (sym text) c.into_inner.ensures.utf8) (ap tokens text ∙ c.into_inner.ensures.reads_back ∙ written)
