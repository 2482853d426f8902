use Rattle.std.proofs.Common.{◌∙◌, ap, sym}
use Rattle.control_api.specs.Keys.{are_texts}
use Rattle.control_api.proofs.KeyLemmas.{all_texts}
use Rattle.control_api.proofs.keys.path_of.Goals as goal

pub of-requires : goal.of-requires
of-requires c = all_texts c.args.keys.items (ap are_texts (sym c.deref.ensures.value) ∙ sym c.are_texts.ensures ∙ c.if-are_texts.true)
