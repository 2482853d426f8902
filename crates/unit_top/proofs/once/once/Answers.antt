use Rattle.std.proofs.Common.{◌≡◌, ◌∙◌, ℕ, List, IfOk, All, ap, codes, sym, subst, true}
use Rattle.unit_types.specs.Limits.{IsShortName}
use Rattle.http_front.specs.Session as plain
use Rattle.http_front.specs.Session.{plain_session_of}
use Rattle.unit_top.specs.Connections.{connection_at, output_of}
use Rattle.unit_top.proofs.OnceLemmas.{once_connection_is}
use Rattle.unit_top.proofs.once.once.Goals as goal

pub once_configuration-requires-clause-short : goal.once_configuration-requires-clause-short
once_configuration-requires-clause-short g c = subst (All IsShortName) (sym c.names.ensures) (g.met.H.Handlers.names_fit c.args.handlers.now).short

pub returns : goal.returns
returns g c =
    let reply_of = g.H.Handlers.reply_of in
    let listener : c.in_ok-copy_of.field-0 ≡ codes "*:8080" = c.in_ok-copy_of.ensures ∙ c.as_bytes.ensures.value in
    subst (λ (x : List ℕ). IfOk c.connection_output.result (λ out. out ≡ x))
    ((λ i. output_of (connection_at reply_of (listener i) 8080) (c.in_ok-conf.ensures i).1 c.args.input)
    ∙ ap (λ (p : plain.Connection). (plain_session_of p true c.args.input).written) (once_connection_is reply_of c.args.name.now))
    c.connection_output.ensures.out
