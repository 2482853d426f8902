use Rattle.std.proofs.Common.{◌≡◌, List, sym, subst}
use Rattle.unit_model.specs.declared.machine.Step.{Step}
use Rattle.unit_top.specs.Posting.{kept}
use Rattle.unit_top.proofs.ScriptLemmas.{none_kept}
use Rattle.unit_top.proofs.script.write_frame.Goals as goal

pub frame_reply-requires-clause-kept : goal.frame_reply-requires-clause-kept
frame_reply-requires-clause-kept g c =
    subst (λ (trace : List Step). trace ≡ kept c.args.output trace) (sym c.requires.bare) (none_kept c.args.output)
