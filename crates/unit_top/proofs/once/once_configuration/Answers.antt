use Rattle.std.proofs.Common.{◌≡◌, ◌∙◌, ap, None, Some, subst, sym}
use Rattle.serde_json.specs.Data.{Data}
use Rattle.conf_tree.specs.View.{data_of}
use Rattle.conf_validate.specs.Answers.{IsRefusal}
use Rattle.conf_validate.specs.Valid.{fault_of}
use Rattle.unit_top.proofs.OnceLemmas.{once_valid}
use Rattle.unit_top.proofs.once.once_configuration.Goals as goal

pub unreachable-requires : goal.unreachable-requires
unreachable-requires c =
    let document = data_of c.in_ok-document.document in
    let valid : fault_of document c.args.names.now ≡ None =
    ap (λ (d : Data). fault_of d c.args.names.now) c.in_ok-document.ensures.value ∙ once_valid c.args.handler.now c.args.names.now c.requires.listed in
    let refused : fault_of document c.args.names.now ≡ Some c.in-Err-Invalid.field-0-0 =
    subst (IsRefusal document c.args.names.now) c.in-Err-Invalid.field-0-is c.in-Err-Invalid.ensures in
    cc (sym valid ∙ refused)
