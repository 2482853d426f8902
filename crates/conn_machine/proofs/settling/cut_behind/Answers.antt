use Rattle.std.proofs.Common.{ℕ, ◌-◌, ◌∙◌, ap, min, List, length}
use Rattle.conn_machine.proofs.BackLemmas as back
use Rattle.conn_machine.proofs.settling.cut_behind.Goals as goal

pub returns-clause-cut : goal.returns-clause-cut
returns-clause-cut c =
    back.cut_behind c.args.written c.args.len _ c.args.bytes.now c.cut_to.new.bytes c.cut_to.ensures
    (c.min.ensures ∙ ap (λ (xs : List ℕ). min c.args.len (length xs - c.args.written)) c.as_slice.ensures)
