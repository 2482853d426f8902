use Rattle.std.proofs.Common.{◌∙◌, ap, sym, [], true}
use Rattle.std.proofs.lemmas.List.{append-nil}
use Rattle.http_front.specs.Reading.{Reading, next_answer, next_reading}
use Rattle.http_front.proofs.AnswerLemmas.{ended_awaits_nothing, continue_once, told_now, told_once, told_stays, final_again, final_fed, begun_now}
use Rattle.http_front.proofs.laws.laws_of_answers.Goals as goal

pub returns-clause-needs : goal.returns-clause-needs
returns-clause-needs c r limit ended is = ended_awaits_nothing r limit ended is

pub returns-clause-once : goal.returns-clause-once
returns-clause-once c r limit again is = continue_once r limit again is

pub returns-clause-tells : goal.returns-clause-tells
returns-clause-tells c r limit is = told_now r limit is

pub returns-clause-told : goal.returns-clause-told
returns-clause-told c r limit told is = told_once r limit told is

pub returns-clause-stays : goal.returns-clause-stays
returns-clause-stays c r limit told none = told_stays r limit told none

pub returns-clause-again : goal.returns-clause-again
returns-clause-again c r limit again final = final_again r limit again final

pub returns-clause-fed : goal.returns-clause-fed
returns-clause-fed c r limit again more running final = final_fed r limit again more (next_reading r limit).ended running final

pub returns-clause-over : goal.returns-clause-over
returns-clause-over c r limit again running final =
    let q : Reading = next_reading r limit in
    ap (λ bytes. next_answer (record q { unread = bytes; ended = true }) again) (sym (append-nil q.unread)) ∙ final_fed r limit again [] true running final

pub returns-clause-begun : goal.returns-clause-begun
returns-clause-begun c r limit none = begun_now r limit none
