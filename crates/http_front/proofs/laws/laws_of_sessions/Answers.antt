use Rattle.http_front.specs.Session.{request_limit}
use Rattle.http_front.proofs.SessionLemmas.{session_begins}
use Rattle.http_front.proofs.laws.laws_of_sessions.Goals as goal

pub returns : goal.returns
returns c connection ended bytes more = session_begins connection request_limit ended bytes more
