use Rattle.std.proofs.Common.{◌≡◌, Option, option_map, sym, ◌∙◌}
use Rattle.std.proofs.lemmas.Result.{IfOk-weaker}
use Rattle.serde_json.specs.View.{view}
use Rattle.serde_json.specs.Errors.{IsMemory}
use Rattle.conf_tree.specs.Text.{IsTreeOf, document_of}
use Rattle.conf_tree.specs.View.{data_of}
use Rattle.conf_tree.specs.declared.tree.Tree.{Tree}
use Rattle.conf_tree.proofs.Reading.{tree_unless_float, document_read, document_refused}
use Rattle.conf_tree.proofs.read.read_tree.Goals as goal

pub returns-in-Ok-clause-value : goal.returns-in-Ok-clause-value
returns-in-Ok-clause-value c =
    let d = view c.in-Ok.value in
    let text = c.in-Ok.ensures.ok in
    IfOk-weaker c.tree_of_value.result (IsTreeOf d) (λ (o : Option Tree). option_map data_of o ≡ document_of c.args.bytes.now)
    (λ (o : Option Tree) h. tree_unless_float d o h ∙ sym (document_read c.args.bytes.now d text.0 text.1)) c.tree_of_value.ensures

pub returns-else-is_memory-clause-value : goal.returns-else-is_memory-clause-value
returns-else-is_memory-clause-value c =
    sym (document_refused c.args.bytes.now (c.in-Err.ensures.err (λ (m : IsMemory c.in-Err.error). cc (c.if-is_memory.ensures.1 m))))
