use Rattle.std.proofs.Common.{sym, subst}
use Rattle.http_front.specs.Kept.{Kept, HasRead, fed, marked}
use Rattle.http_front.specs.Reading.{Reading}
use Rattle.http_front.proofs.KeptLemmas.{forgotten, on_ok, on_err, with_err, with_ok}
use Rattle.http_front.proofs.reader.Reader.feed.Goals as goal

pub returns-in_err-forget_used-clause-err : goal.returns-in_err-forget_used-clause-err
returns-in_err-forget_used-clause-err c =
    with_err c.from_residual.result ((r : Reading) → HasRead r c.args.self.now → HasRead r c.forget_used.new.self)
    (λ r is. forgotten r c.drop_blank.new.self c.forget_used.new.self c.forget_used.ensures (c.drop_blank.ensures.read r is))

pub returns-clause-ok : goal.returns-clause-ok
returns-clause-ok c =
    on_ok c.append.result ((r : Reading) → HasRead r c.mark.new.self → HasRead (fed r c.args.piece.now) c.append.new.self)
    ((r : Reading) → HasRead r c.args.self.now → HasRead (fed r c.args.piece.now) c.append.new.self)
    (λ feeds r is. feeds r (c.mark.ensures.read r (forgotten r c.drop_blank.new.self c.forget_used.new.self c.forget_used.ensures (c.drop_blank.ensures.read r is))))
    c.append.ensures.ok

pub returns-clause-err : goal.returns-clause-err
returns-clause-err c =
    on_err c.append.result ((r : Reading) → HasRead r c.mark.new.self → HasRead r c.append.new.self)
    ((r : Reading) → HasRead r c.args.self.now → HasRead r c.append.new.self)
    (λ reads r is. reads r (c.mark.ensures.read r (forgotten r c.drop_blank.new.self c.forget_used.new.self c.forget_used.ensures (c.drop_blank.ensures.read r is))))
    c.append.ensures.err

pub returns-clause-marked : goal.returns-clause-marked
returns-clause-marked c =
    with_ok c.append.result ((r : Reading) → HasRead r c.args.self.now → HasRead r (marked c.append.new.self))
    (λ r is. subst (λ (k : Kept). HasRead r k) (sym c.append.ensures.marked)
    (c.mark.ensures.marked r (forgotten r c.drop_blank.new.self c.forget_used.new.self c.forget_used.ensures (c.drop_blank.ensures.read r is))))
