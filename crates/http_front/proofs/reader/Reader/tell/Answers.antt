use Rattle.std.proofs.Common.{◌≤◌, length}
use Rattle.http_front.specs.Reading.{HasSmallStatus}
use Rattle.http_front.proofs.KeptLemmas.{if_ok}
use Rattle.http_front.proofs.StageLemmas.{told_fits, told_small}
use Rattle.http_front.proofs.reader.Reader.tell.Goals as goal

pub returns-clause-fits : goal.returns-clause-fits
returns-clause-fits c =
    let k = c.args.self.now in
    if_ok c.told.result _ (λ told. told.used ≤ length k.bytes)
    (λ told same. told_fits c.self.inside.from c.self.inside.to c.in-Some.arriving c.args.end c.self.inside.ended k.bytes k.stage told c.requires same) c.told.ensures

pub returns-clause-small : goal.returns-clause-small
returns-clause-small c =
    let k = c.args.self.now in
    if_ok c.told.result _ (λ told. HasSmallStatus told.answer)
    (λ told same. told_small c.self.inside.from c.self.inside.to c.in-Some.arriving c.args.end c.self.inside.ended k.bytes k.stage told c.requires same) c.told.ensures
