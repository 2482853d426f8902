use Rattle.std.proofs.Common.{◌≡◌, ◌++◌, List, ℕ, subst, OnOk}
use Rattle.http_front.specs.Written.{head_text, http_bytes}
use Rattle.http_front.proofs.written.write_http.Goals as goal

pub returns-clause-ok : goal.returns-clause-ok
unfolding http_bytes
returns-clause-ok c =
    subst (λ (content : List ℕ). OnOk c.put_reply.result
    (c.put_reply.new.out ≡ c.args.out.now ++ (head_text c.args.reply.now c.args.close ++ content))) c.content_of.ensures c.put_reply.ensures.ok
