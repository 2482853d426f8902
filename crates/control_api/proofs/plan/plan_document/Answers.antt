use Rattle.std.proofs.Common.{◌≡◌, Some, subst}
use Rattle.conf_tree.specs.View.{data_of}
use Rattle.conf_validate.specs.Answers.{IsRefusal}
use Rattle.conf_validate.specs.Valid.{fault_of}
use Rattle.control_api.proofs.plan.plan_document.Goals as goal

pub returns-in-Invalid-clause-sound : goal.returns-in-Invalid-clause-sound
returns-in-Invalid-clause-sound c =
    let document = data_of c.args.document in
    let names = c.names.result.now in
    let is : fault_of document names ≡ Some c.in-Invalid.broken = subst (IsRefusal document names) c.in-Invalid.is c.in-Err.ensures in
    c.paths_of_faults_are_texts.ensures document names c.in-Invalid.broken c.requires is
