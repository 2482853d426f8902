use Rattle.http_front.proofs.BoundLemmas.{request_bounded}
use Rattle.http_front.proofs.ReaderLemmas.{request_within, error_status}
use Rattle.http_front.proofs.StayLemmas.{found_stays, ended_tells}
use Rattle.http_front.proofs.UnitLemmas.{due_stays, complete_stays, due_begun, finished_idle, begun_unfinished}
use Rattle.http_front.proofs.laws.laws_of_units.Goals as goal

pub returns-clause-stays : goal.returns-clause-stays
returns-clause-stays c bytes more ended limit told = found_stays bytes more ended limit told

pub returns-clause-begun : goal.returns-clause-begun
returns-clause-begun c bytes more begun = complete_stays bytes more begun

pub returns-clause-due : goal.returns-clause-due
returns-clause-due c bytes more ended limit begun = due_stays bytes more ended limit begun

pub returns-clause-begins : goal.returns-clause-begins
returns-clause-begins c bytes ended limit due = due_begun bytes ended limit due

pub returns-clause-tells : goal.returns-clause-tells
returns-clause-tells c bytes limit = ended_tells bytes limit

pub returns-clause-over : goal.returns-clause-over
returns-clause-over c bytes ended limit is = finished_idle bytes ended limit is

pub returns-clause-unfinished : goal.returns-clause-unfinished
returns-clause-unfinished c bytes ended limit begun is = begun_unfinished bytes ended limit begun is

pub returns-clause-fits : goal.returns-clause-fits
returns-clause-fits c bytes ended limit m used is = request_within bytes ended limit m used is

pub returns-clause-bounded : goal.returns-clause-bounded
returns-clause-bounded c bytes ended limit m used is = request_bounded bytes ended limit m used is

pub returns-clause-status : goal.returns-clause-status
returns-clause-status c bytes ended limit status is = error_status bytes ended limit status is
