-- The reply to what is asked can be written.
use Rattle.std.proofs.Common.{ℕ, ◌≡◌, ◌<◌, arith, refl, ap, ◌∙◌, subst, List, true, if◌then◌else◌, Option, Some, None, option_map, IfSome}
use Rattle.std.specs.Option.{is_some}
use Rattle.unit_types.specs.Handlers.{IsReply}
use Rattle.unit_types.specs.declared.message.Reply.{Reply}
use Rattle.unit_types.specs.declared.message.Request.{Request}
use Rattle.conn_machine.specs.declared.pending.Pending.{Pending}
use Rattle.conn_machine.specs.declared.receipt.Need.{Need}
use Rattle.conn_machine.specs.declared.receipt.Need.TheVariants.{Ask}
use Rattle.conn_machine.specs.Shows.{Held, asking_in, need_in}
use Rattle.conn_machine.specs.States.{is_ask}
use Rattle.conn_machine.proofs.ShowsLemmas.{asks_open}

small_status : (reply given : Reply) → reply ≡ given → IsReply given → reply.status < 1000
small_status reply given same fits = omega (arith, fits.final_status, ap (λ (r : Reply). r.status) same)

pub asked_status : (reply_of : List ℕ → Request → Reply) (m : Held) (reply : Reply) → ((name : List ℕ) (request : Request) → IsReply (reply_of name request))
    → need_in m ≡ Ask → IfSome (asking_in m) (λ asked. reply ≡ reply_of asked.0 asked.1) → reply.status < 1000
asked_status reply_of m reply fits asks same = by m.pending refl (asks_open m asks).waits
  where
    by : (o : Option Pending) → m.pending ≡ o → is_some o ≡ true → reply.status < 1000
    by None waits some = absurd (cc some)
    by (Some p) waits some =
        let asking_is : asking_in m ≡ Some p.asks =
        ap (λ (need : Need). if is_ask need then option_map (λ (q : Pending). q.asks) m.pending else None) asks
        ∙ ap (λ (o : Option Pending). option_map (λ (q : Pending). q.asks) o) waits in
        small_status reply (reply_of p.asks.0 p.asks.1)
        (subst (λ (o : Option (List ℕ × Request)). IfSome o (λ asked. reply ≡ reply_of asked.0 asked.1)) asking_is same)
        (fits p.asks.0 p.asks.1)
