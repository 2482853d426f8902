use Rattle.std.proofs.Common.{sym, subst}
use Rattle.http_front.specs.Kept.{Kept, HasRead}
use Rattle.http_front.specs.Inside.{kept_of}
use Rattle.http_front.proofs.KeptLemmas.{has_read_end}
use Rattle.http_front.proofs.reader.Reader.end.Goals as goal

pub returns : goal.returns
returns c r is = has_read_end r (kept_of c.self.inside) (subst (λ (k : Kept). HasRead r k) (sym c.self.view_is) is)
