use Rattle.std.proofs.Common.{◌∙◌, ap, sym}
use Rattle.std.specs.Option.{is_some}
use Rattle.http_front.specs.Kept.{Kept}
use Rattle.http_front.proofs.reader.Reader.has_begun.Goals as goal

pub returns : goal.returns
returns c r is = c.is_some.ensures ∙ ap (λ (k : Kept). is_some k.limit) c.self.view_is ∙ ap is_some (sym is.limit)
