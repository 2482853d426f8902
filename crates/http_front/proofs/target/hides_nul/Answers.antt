use Rattle.std.proofs.Common.{rules, tests, ℕ}
use Rattle.std.proofs.lemmas.Iterator.Consumers.{YieldsList-from_first}
use Rattle.std.proofs.lemmas.Iterator.Search.{any_from_yields_List}
use Rattle.percent_encoding.specs.Percent.{percent_decode}
use Rattle.percent_encoding.specs.Iter.{decoded_bytes}
use Rattle.http_front.specs.Target.{is_nul}
use Rattle.http_front.proofs.target.hides_nul.Goals as goal

pub returns : goal.returns
returns c =
    any_from_yields_List is_nul c.any.new.self _ _ c.any.ensures.ran
    (YieldsList-from_first (λ (x : ℕ). x) decoded_bytes (percent_decode c.args.path.now) c.percent_decode.ensures.bytes)
    (λ x b q k. search (rules, tests))
