use Rattle.std.proofs.Common.{ap₂, ◌∙◌}
use Rattle.clap.specs.Words.{with_rule}
use Rattle.unit_serve.proofs.words.serve_command.Goals as goal

pub returns : goal.returns
returns c =
    c.in_ok-command.ensures.shape c.ports_arg.ensures.local
    ∙ ap₂ with_rule (c.in_ok-arg-3.ensures.shape c.control_arg.ensures.local
    ∙ ap₂ with_rule (c.in_ok-arg-2.ensures.shape c.accept_arg.ensures.local
    ∙ ap₂ with_rule (c.in_ok-arg.ensures.shape c.workers_arg.ensures.local
    ∙ ap₂ with_rule c.new.ensures.app c.workers_arg.ensures.rule) c.accept_arg.ensures.rule) c.control_arg.ensures.rule) c.ports_arg.ensures.rule
