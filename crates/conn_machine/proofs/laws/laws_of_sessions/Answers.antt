use Rattle.conn_machine.proofs.PlainLemmas.{session_plain}
use Rattle.conn_machine.proofs.ReceiptLemmas.{plain_receipts}
use Rattle.conn_machine.proofs.WalkLemmas.{session_longer, lines_longer, session_tells}
use Rattle.conn_machine.proofs.laws.laws_of_sessions.Goals as goal

pub returns-clause-longer : goal.returns-clause-longer
returns-clause-longer c connection confs more receipts bytes ended session is = session_longer connection confs more receipts bytes ended session is

pub returns-clause-lines : goal.returns-clause-lines
returns-clause-lines c connection confs more receipts bytes ended lines is = lines_longer connection confs more receipts bytes ended lines is

pub returns-clause-rises : goal.returns-clause-rises
returns-clause-rises c connection confs receipts bytes ended session is = (session_tells connection confs receipts bytes ended session is).0

pub returns-clause-count : goal.returns-clause-count
returns-clause-count c connection confs receipts bytes ended session is = (session_tells connection confs receipts bytes ended session is).1

pub returns-clause-plain : goal.returns-clause-plain
returns-clause-plain c connection confs conf number receipts bytes session there plainly is =
    session_plain connection confs conf number receipts bytes session there plainly is

pub returns-clause-answered : goal.returns-clause-answered
returns-clause-answered c connection confs conf number stream bytes there drawn =
    plain_receipts c.laws_of_units.ensures.tells c.laws_of_units.ensures.unfinished connection confs conf number stream bytes there drawn
