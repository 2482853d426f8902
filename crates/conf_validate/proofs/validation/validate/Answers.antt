use Rattle.std.proofs.Common.{◌∙◌, sym}
use Rattle.conf_tree.specs.View.{data_of}
use Rattle.conf_validate.proofs.KeptLemmas.{configuration_kept}
use Rattle.conf_validate.proofs.validation.validate.Goals as goal

pub configuration_of-requires-clause-kept : goal.configuration_of-requires-clause-kept
configuration_of-requires-clause-kept c =
    configuration_kept (data_of c.args.document.now) c.args.handlers.now c.requires.document c.requires.short (sym c.in_ok-fault.ensures ∙ c.in-None.is)
