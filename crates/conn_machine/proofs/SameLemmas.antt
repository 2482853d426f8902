-- Requests are the same exactly where they are equal.
use Rattle.std.proofs.Common.{ℕ, ◌≡◌, refl, ap, ◌∙◌, subst, List, Bool, true, false, ◌&&◌, ◌==◌}
use Rattle.std.specs.Bool.{Decides}
use Rattle.std.specs.Str.{bytes_eq}
use Rattle.std.specs.Cmp.Lexicographic.{pointwise}
use Rattle.std.proofs.lemmas.Bool.Decides.{Decides-eqb}
use Rattle.std.proofs.lemmas.Slice.Eq.{slice_eq-Decides, bytes_eq-Decides}
use Rattle.unit_types.specs.declared.field.Field.{Field}
use Rattle.unit_types.specs.declared.message.Addr.{Addr}
use Rattle.unit_types.specs.declared.message.Request.{Request}
use Rattle.request_context.specs.declared.asked.Asked.{Asked}
use Rattle.conn_machine.specs.Asking.{is_same_field, is_same_addr, is_same_request, is_same_asked}

and_both : (a b : Bool) → (a && b) ≡ true → (a ≡ true) × (b ≡ true)
and_both true true is = (refl, refl)
and_both true false is = absurd (cc is)
and_both false b is = absurd (cc is)

both_and : (a b : Bool) → a ≡ true → b ≡ true → (a && b) ≡ true
both_and a b first second = ap (λ x. x && b) first ∙ second

field_decides : (a b : Field) → Decides (is_same_field a b) (a ≡ b)
field_decides a b = (
  λ is.
      let both = and_both (bytes_eq a.name b.name) (bytes_eq a.value b.value) is in
      let name = (bytes_eq-Decides a.name b.name).0 both.0 in
      let value = (bytes_eq-Decides a.value b.value).0 both.1 in
      λ i. record { name = name i; value = value i },
  λ same.
      both_and (bytes_eq a.name b.name) (bytes_eq a.value b.value)
      ((bytes_eq-Decides a.name b.name).1 (ap (λ (f : Field). f.name) same))
      ((bytes_eq-Decides a.value b.value).1 (ap (λ (f : Field). f.value) same)),
)

addr_decides : (a b : Addr) → Decides (is_same_addr a b) (a ≡ b)
addr_decides a b = (
  λ is.
      let both = and_both (a.ip == b.ip) (a.port == b.port) is in
      let ip = (Decides-eqb a.ip b.ip).0 both.0 in
      let port = (Decides-eqb a.port b.port).0 both.1 in
      λ i. record { ip = ip i; port = port i },
  λ same.
      both_and (a.ip == b.ip) (a.port == b.port)
      ((Decides-eqb a.ip b.ip).1 (ap (λ (x : Addr). x.ip) same))
      ((Decides-eqb a.port b.port).1 (ap (λ (x : Addr). x.port) same)),
)

fields_decide : (a b : List Field) → Decides (pointwise is_same_field a b) (a ≡ b)
fields_decide a b = slice_eq-Decides field_decides a b (pointwise is_same_field a b) refl

request_decides : (a b : Request) → Decides (is_same_request a b) (a ≡ b)
request_decides a b = (
  λ is.
      let x2 : Bool = bytes_eq a.method b.method && bytes_eq a.target b.target in
      let x3 : Bool = x2 && bytes_eq a.path b.path in
      let x4 : Bool = x3 && bytes_eq a.query b.query in
      let x5 : Bool = x4 && bytes_eq a.host b.host in
      let x6 : Bool = x5 && a.minor == b.minor in
      let x7 : Bool = x6 && pointwise is_same_field a.fields b.fields in
      let x8 : Bool = x7 && is_same_addr a.from b.from in
      let x9 : Bool = x8 && is_same_addr a.to b.to in
      let e10 = and_both x9 (bytes_eq a.body b.body) is in
      let e9 = and_both x8 (is_same_addr a.to b.to) e10.0 in
      let e8 = and_both x7 (is_same_addr a.from b.from) e9.0 in
      let e7 = and_both x6 (pointwise is_same_field a.fields b.fields) e8.0 in
      let e6 = and_both x5 (a.minor == b.minor) e7.0 in
      let e5 = and_both x4 (bytes_eq a.host b.host) e6.0 in
      let e4 = and_both x3 (bytes_eq a.query b.query) e5.0 in
      let e3 = and_both x2 (bytes_eq a.path b.path) e4.0 in
      let e2 = and_both (bytes_eq a.method b.method) (bytes_eq a.target b.target) e3.0 in
      let method = (bytes_eq-Decides a.method b.method).0 e2.0 in
      let target = (bytes_eq-Decides a.target b.target).0 e2.1 in
      let path = (bytes_eq-Decides a.path b.path).0 e3.1 in
      let query = (bytes_eq-Decides a.query b.query).0 e4.1 in
      let host = (bytes_eq-Decides a.host b.host).0 e5.1 in
      let minor = (Decides-eqb a.minor b.minor).0 e6.1 in
      let fields = (fields_decide a.fields b.fields).0 e7.1 in
      let from = (addr_decides a.from b.from).0 e8.1 in
      let to = (addr_decides a.to b.to).0 e9.1 in
      let body = (bytes_eq-Decides a.body b.body).0 e10.1 in
      λ i. record {
        method = method i;
        target = target i;
        path = path i;
        query = query i;
        host = host i;
        minor = minor i;
        fields = fields i;
        from = from i;
        to = to i;
        body = body i;
      },
  λ same. subst (λ (r : Request). is_same_request a r ≡ true) same (self a),
)
  where
    text : (t : List ℕ) → bytes_eq t t ≡ true
    text t = (bytes_eq-Decides t t).1 refl

    self : (r : Request) → is_same_request r r ≡ true
    self r =
        ap (λ v. v && bytes_eq r.target r.target && bytes_eq r.path r.path && bytes_eq r.query r.query && bytes_eq r.host r.host && r.minor == r.minor && pointwise is_same_field r.fields r.fields && is_same_addr r.from r.from && is_same_addr r.to r.to && bytes_eq r.body r.body) (text r.method)
        ∙ ap (λ v. v && bytes_eq r.path r.path && bytes_eq r.query r.query && bytes_eq r.host r.host && r.minor == r.minor && pointwise is_same_field r.fields r.fields && is_same_addr r.from r.from && is_same_addr r.to r.to && bytes_eq r.body r.body) (text r.target)
        ∙ ap (λ v. v && bytes_eq r.query r.query && bytes_eq r.host r.host && r.minor == r.minor && pointwise is_same_field r.fields r.fields && is_same_addr r.from r.from && is_same_addr r.to r.to && bytes_eq r.body r.body) (text r.path)
        ∙ ap (λ v. v && bytes_eq r.host r.host && r.minor == r.minor && pointwise is_same_field r.fields r.fields && is_same_addr r.from r.from && is_same_addr r.to r.to && bytes_eq r.body r.body) (text r.query)
        ∙ ap (λ v. v && r.minor == r.minor && pointwise is_same_field r.fields r.fields && is_same_addr r.from r.from && is_same_addr r.to r.to && bytes_eq r.body r.body) (text r.host)
        ∙ ap (λ v. v && pointwise is_same_field r.fields r.fields && is_same_addr r.from r.from && is_same_addr r.to r.to && bytes_eq r.body r.body) ((Decides-eqb r.minor r.minor).1 refl)
        ∙ ap (λ v. v && is_same_addr r.from r.from && is_same_addr r.to r.to && bytes_eq r.body r.body) ((fields_decide r.fields r.fields).1 refl)
        ∙ ap (λ v. v && is_same_addr r.to r.to && bytes_eq r.body r.body) ((addr_decides r.from r.from).1 refl)
        ∙ ap (λ v. v && bytes_eq r.body r.body) ((addr_decides r.to r.to).1 refl)
        ∙ text r.body

pub asked_decides : (a b : Asked) → Decides (is_same_asked a b) (a ≡ b)
unfolding is_same_asked
asked_decides a b = (
  λ is.
      let e3 = and_both (a.stream == b.stream && bytes_eq a.name b.name) (is_same_request a.request b.request) is in
      let e2 = and_both (a.stream == b.stream) (bytes_eq a.name b.name) e3.0 in
      let stream = (Decides-eqb a.stream b.stream).0 e2.0 in
      let name = (bytes_eq-Decides a.name b.name).0 e2.1 in
      let asked = (request_decides a.request b.request).0 e3.1 in
      λ i. record { stream = stream i; name = name i; request = asked i },
  λ same.
      both_and (a.stream == b.stream && bytes_eq a.name b.name) (is_same_request a.request b.request)
      (both_and (a.stream == b.stream) (bytes_eq a.name b.name)
      ((Decides-eqb a.stream b.stream).1 (ap (λ (x : Asked). x.stream) same))
      ((bytes_eq-Decides a.name b.name).1 (ap (λ (x : Asked). x.name) same)))
      ((request_decides a.request b.request).1 (ap (λ (x : Asked). x.request) same)),
)
