use Rattle.std.proofs.Common.{sym, subst}
use Rattle.http_front.specs.Kept.{Kept, HasRead, marked}
use Rattle.http_front.specs.Inside.{kept_of}
use Rattle.http_front.proofs.KeptLemmas.{has_read_end}
use Rattle.http_front.proofs.reader.Reader.end_marked.Goals as goal

pub returns-clause-read : goal.returns-clause-read
returns-clause-read c r is = has_read_end r (kept_of c.self.inside) (subst (λ (k : Kept). HasRead r k) (sym c.self.view_is) (c.mark.ensures.read r is))

pub returns-clause-marked : goal.returns-clause-marked
returns-clause-marked c r is = subst (λ (k : Kept). HasRead r (marked k)) (sym c.self.view_is) (c.mark.ensures.marked r is)
