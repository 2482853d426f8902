use Rattle.std.proofs.Common.{◌≡◌, ◌∙◌, ap, refl}
use Rattle.unit_types.specs.declared.message.Request.{Request}
use Rattle.http_front.specs.Head.{head_in}
use Rattle.path_normal.specs.Path.{normal_path_of}
use Rattle.http_front.specs.Target.{raw_path_of, query_of}
use Rattle.http_front.specs.Message.{host_of}
use Rattle.http_front.proofs.RequestLemmas.{request_fields}
use Rattle.http_front.proofs.request.request_of.Goals as goal

same_request : (r q : Request) → r.method ≡ q.method → r.target ≡ q.target → r.path ≡ q.path → r.query ≡ q.query → r.host ≡ q.host
    → r.minor ≡ q.minor → r.fields ≡ q.fields → r.from ≡ q.from → r.to ≡ q.to → r.body ≡ q.body → r ≡ q
same_request r q m t p y h v f a b c = λ i. record { method = m i; target = t i; path = p i; query = y i; host = h i; minor = v i; fields = f i; from = a i; to = b i; body = c i }

pub returns : goal.returns
returns c =
    let fields = c.in_ok-fields.ensures ∙ request_fields c.args.block.now c.args.headers.now c.args.spans.now (head_in c.args.block.now) c.requires.at in
    let target = c.of-target.ensures ∙ c.requires.at.path in
    same_request _ _
    (c.in_ok-copy_of.ensures ∙ c.of.ensures ∙ c.requires.at.method)
    (c.in_ok-copy_of-2.ensures ∙ target)
    (c.in_ok-normal_path.ensures ∙ ap normal_path_of (c.raw_path_of.ensures ∙ ap raw_path_of target))
    (c.in_ok-copy_of-3.ensures ∙ c.query_of.ensures ∙ ap query_of target)
    (c.in_ok-host_of.ensures ∙ (λ i. host_of (target i) ((c.as_slice.ensures ∙ fields) i)))
    c.requires.at.version
    fields
    refl
    refl
    (c.of-2.ensures ∙ c.new.ensures.items)
