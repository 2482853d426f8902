-- The readers of the two records, from those of their parts.
use Rattle.std.proofs.Common.{◌≡◌, ◌≢◌, ℕ, zero, suc, ◌^◌, ◌<◌, ◌≤◌, List, [], ◌∷◌, ◌++◌, length, Option, Some, None, refl, sym, ap, subst, ◌∙◌, append_assoc, arith}
use Rattle.std.specs.Int.{w8, w16, w32, w64}
use Rattle.std.specs.List.{flat_map, AllByRecursion}
use Rattle.std.proofs.lemmas.List.{append-nil, nil_from_length}
use Rattle.std.proofs.lemmas.List.Elements.{All-from_recursion, recursion_from_All}
use Rattle.std.proofs.lemmas.List.Concat.{flat_map-cons}
use Rattle.unit_types.specs.Record.{number, length_prefixed, field_bytes, field_list_bytes, reply_record}
use Rattle.unit_types.specs.declared.field.Field.{Field}
use Rattle.unit_types.specs.declared.message.Request.{Request}
use Rattle.request_context.specs.declared.reading.Head.{Head}
use Rattle.request_context.specs.Record.{IsShort, IsShortField, AreShortFields, IsAddr, HasRecord, HasReplyRecord, addr_bytes, head_bytes, request_record}
use Rattle.request_context.specs.Reading.{◌>>=◌, both, number_at, text_at, minor_at, addr_at, field_at, fields_at, field_list_at, head_at, asked_at, reply_at, make_addr, make_field, make_head, make_asked, make_reply}
use Rattle.request_context.proofs.Readers.{IsBytes, IsReader, Takes, Takes-then, bind_some, some_is, both_read, made_read, number16_read, number32_read, number64_read, minor_read, text_read}

addr_read : IsReader addr_at addr_bytes IsAddr
unfolding addr_at addr_bytes
addr_read = made_read make_addr (λ addr. (addr.ip, addr.port)) (both (number_at w32) (number_at w16)) (λ x. number w32 x.0 ++ number w16 x.1) addr_bytes (λ x. (x.0 < 2 ^ 32) × (x.1 < 2 ^ 16)) IsAddr
    (λ addr. refl) (λ x. refl) (λ x f. record { ip = f.0; port = f.1 }) (λ addr f. (f.ip, f.port))
    (both_read _ _ _ _ _ _ number32_read number16_read)

field_read : IsReader field_at field_bytes IsShortField
unfolding field_at field_bytes
field_read = made_read make_field (λ field. (field.name, field.value)) (both text_at text_at) (λ x. length_prefixed x.0 ++ length_prefixed x.1) field_bytes (λ x. IsShort x.0 × IsShort x.1) IsShortField
    (λ field. refl) (λ x. refl) (λ x f. record { name = f.0; value = f.1 }) (λ field f. (f.name, f.value))
    (both_read _ _ _ _ _ _ text_read text_read)

fields_take : (n : ℕ) (bytes : List ℕ) (x : List Field × List ℕ) → IsBytes bytes → fields_at n bytes ≡ Some x → Takes bytes (flat_map field_bytes x.0) x.1 × (length x.0 ≡ n) × AllByRecursion IsShortField x.0
unfolding fields_at
fields_take zero bytes x fits e =
    subst (λ (y : List Field × List ℕ). Takes bytes (flat_map field_bytes y.0) y.1 × (length y.0 ≡ 0) × AllByRecursion IsShortField y.0) (some_is ([], bytes) x e) (record { parts = refl; rest_fits = fits }, refl, tt)
fields_take (suc n) bytes x fits e =
    let a = bind_some (field_at bytes) (λ (first : Field × List ℕ). fields_at n first.1 >>= λ others. Some (first.0 ∷ others.0, others.1)) x e in
    let b = bind_some (fields_at n a.0.1) (λ (others : List Field × List ℕ). Some (a.0.0 ∷ others.0, others.1)) x a.2 in
    let first = field_read.takes bytes a.0 fits a.1 in
    let second = fields_take n a.0.1 b.0 first.0.rest_fits b.1 in
    let both = Takes-then bytes (field_bytes a.0.0) a.0.1 (flat_map field_bytes b.0.0) b.0.1 first.0 second.0 in
    let made : List Field × List ℕ = (a.0.0 ∷ b.0.0, b.0.1) in
    subst (λ (y : List Field × List ℕ). Takes bytes (flat_map field_bytes y.0) y.1 × (length y.0 ≡ suc n) × AllByRecursion IsShortField y.0) (some_is made x b.2) (rw flat_map-cons both, ap suc second.1, (first.1, second.2))

fields_again : (fields : List Field) (rest : List ℕ) → AllByRecursion IsShortField fields → fields_at (length fields) (flat_map field_bytes fields ++ rest) ≡ Some (fields, rest)
unfolding fields_at
fields_again [] rest fits = refl
fields_again (field ∷ fields) rest fits =
    let regrouped : flat_map field_bytes (field ∷ fields) ++ rest ≡ field_bytes field ++ (flat_map field_bytes fields ++ rest) = ap (λ (x : List ℕ). x ++ rest) (flat_map-cons field_bytes field fields) ∙ append_assoc (field_bytes field) (flat_map field_bytes fields) rest in
    ap (fields_at (suc (length fields))) regrouped ∙ rw (field_read.again field (flat_map field_bytes fields ++ rest) fits.0, fields_again fields rest fits.1) refl

field_list_takes : (bytes : List ℕ) (x : List Field × List ℕ) → IsBytes bytes → field_list_at bytes ≡ Some x → Takes bytes (field_list_bytes x.0) x.1 × AreShortFields x.0
unfolding field_list_at field_list_bytes
field_list_takes bytes x fits e =
    let a = bind_some (number_at w32 bytes) (λ (n : ℕ × List ℕ). fields_at n.0 n.1) x e in
    let first = number32_read.takes bytes a.0 fits a.1 in
    let second = fields_take a.0.0 a.0.1 x first.0.rest_fits a.2 in
    let joined = Takes-then bytes (number w32 a.0.0) a.0.1 (flat_map field_bytes x.0) x.1 first.0 second.0 in (
      subst (λ (k : ℕ). Takes bytes (number w32 k ++ flat_map field_bytes x.0) x.1) (sym second.1) joined,
      record { count = omega (arith, second.1, first.1); each = All-from_recursion IsShortField x.0 second.2 },
    )

field_list_again : (fields : List Field) (rest : List ℕ) → AreShortFields fields → field_list_at (field_list_bytes fields ++ rest) ≡ Some (fields, rest)
unfolding field_list_at field_list_bytes
field_list_again fields rest fits =
    let regrouped : (number w32 (length fields) ++ flat_map field_bytes fields) ++ rest ≡ number w32 (length fields) ++ (flat_map field_bytes fields ++ rest) = append_assoc (number w32 (length fields)) (flat_map field_bytes fields) rest in
    let each : AllByRecursion IsShortField fields = recursion_from_All IsShortField fields fits.each in
    ap field_list_at regrouped ∙ rw (number32_read.again (length fields) (flat_map field_bytes fields ++ rest) fits.count) (fields_again fields rest each)

field_list_read : IsReader field_list_at field_list_bytes AreShortFields
field_list_read = record { takes = field_list_takes; again = field_list_again }

-- a head whose texts have a length
record IsShortHead (head : Head) : Type 0 where
  pub minor : head.minor ≤ 1
  pub method : IsShort head.method
  pub target : IsShort head.target
  pub path : IsShort head.path
  pub query : IsShort head.query
  pub host : IsShort head.host

head_spelled : Head → List ℕ
head_spelled head =
    number w8 head.minor ++ (length_prefixed head.method ++ (length_prefixed head.target
    ++ (length_prefixed head.path ++ (length_prefixed head.query ++ length_prefixed head.host))))

head_read : IsReader head_at head_spelled IsShortHead
unfolding head_at head_spelled
head_read = made_read make_head (λ head. (head.minor, (head.method, (head.target, (head.path, (head.query, head.host))))))
    (both minor_at (both text_at (both text_at (both text_at (both text_at text_at)))))
    (λ x. number w8 x.0 ++ (length_prefixed x.1.0 ++ (length_prefixed x.1.1.0 ++ (length_prefixed x.1.1.1.0 ++ (length_prefixed x.1.1.1.1.0 ++ length_prefixed x.1.1.1.1.1)))))
    head_spelled
    (λ x. (x.0 ≤ 1) × (IsShort x.1.0 × (IsShort x.1.1.0 × (IsShort x.1.1.1.0 × (IsShort x.1.1.1.1.0 × IsShort x.1.1.1.1.1)))))
    IsShortHead
    (λ head. refl) (λ x. refl)
    (λ x f. record { minor = f.0; method = f.1.0; target = f.1.1.0; path = f.1.1.1.0; query = f.1.1.1.1.0; host = f.1.1.1.1.1 })
    (λ head f. (f.minor, (f.method, (f.target, (f.path, (f.query, f.host))))))
    (both_read _ _ _ _ _ _ minor_read (both_read _ _ _ _ _ _ text_read (both_read _ _ _ _ _ _ text_read (both_read _ _ _ _ _ _ text_read (both_read _ _ _ _ _ _ text_read text_read)))))

head_of : Request → Head
head_of request = record { minor = request.minor; method = request.method; target = request.target; path = request.path; query = request.query; host = request.host }

pub asked_read : IsReader asked_at request_record HasRecord
unfolding asked_at request_record head_bytes head_spelled head_of
asked_read = made_read make_asked
    (λ asked. (asked.stream, (asked.name, (head_of asked.request, (asked.request.from, (asked.request.to, (asked.request.fields, asked.request.body)))))))
    (both (number_at w64) (both text_at (both head_at (both addr_at (both addr_at (both field_list_at text_at))))))
    (λ x. number w64 x.0 ++ (length_prefixed x.1.0 ++ (head_spelled x.1.1.0 ++ (addr_bytes x.1.1.1.0 ++ (addr_bytes x.1.1.1.1.0 ++ (field_list_bytes x.1.1.1.1.1.0 ++ length_prefixed x.1.1.1.1.1.1))))))
    request_record
    (λ x. (x.0 < 2 ^ 64) × (IsShort x.1.0 × (IsShortHead x.1.1.0 × (IsAddr x.1.1.1.0 × (IsAddr x.1.1.1.1.0 × (AreShortFields x.1.1.1.1.1.0 × IsShort x.1.1.1.1.1.1))))))
    HasRecord
    (λ asked. refl) (λ x. refl)
    (λ x f. let h = f.1.1.0 in record {
      stream = f.0;
      from = f.1.1.1.0;
      to = f.1.1.1.1.0;
      parts = record { minor = h.minor; name = f.1.0; method = h.method; target = h.target; path = h.path; query = h.query; host = h.host; fields = f.1.1.1.1.1.0; body = f.1.1.1.1.1.1 };
    })
    (λ asked f. let p = f.parts in
    (f.stream, (p.name, (record { minor = p.minor; method = p.method; target = p.target; path = p.path; query = p.query; host = p.host }, (f.from, (f.to, (p.fields, p.body)))))))
    (both_read _ _ _ _ _ _ number64_read (both_read _ _ _ _ _ _ text_read (both_read _ _ _ _ _ _ head_read (both_read _ _ _ _ _ _ addr_read (both_read _ _ _ _ _ _ addr_read (both_read _ _ _ _ _ _ field_list_read text_read))))))

pub reply_read : IsReader reply_at reply_record HasReplyRecord
unfolding reply_at reply_record
reply_read = made_read make_reply (λ reply. (reply.status, (reply.fields, reply.body))) (both (number_at w16) (both field_list_at text_at))
    (λ x. number w16 x.0 ++ (field_list_bytes x.1.0 ++ length_prefixed x.1.1)) reply_record
    (λ x. (x.0 < 2 ^ 16) × (AreShortFields x.1.0 × IsShort x.1.1)) HasReplyRecord
    (λ reply. refl) (λ x. refl)
    (λ x f. record { status = f.0; parts = record { fields = f.1.0; body = f.1.1 } })
    (λ reply f. (f.status, (f.parts.fields, f.parts.body)))
    (both_read _ _ _ _ _ _ number16_read (both_read _ _ _ _ _ _ field_list_read text_read))

-- ---- the whole of the bytes

-- a reader that takes all of the bytes
pub is_whole : {X : Type 0} (at : List ℕ → Option (X × List ℕ)) (spelled : X → List ℕ) (fits : X → Type 0) → IsReader at spelled fits
    → (bytes : List ℕ) (x : X) (rest : List ℕ) → IsBytes bytes → at bytes ≡ Some (x, rest) → length rest ≡ 0 → fits x × (bytes ≡ spelled x)
is_whole at spelled fits reader bytes x rest ok e empty =
    let t = reader.takes bytes (x, rest) ok e in
    let nothing : rest ≡ [] = nil_from_length rest empty in
    (t.1, t.0.parts ∙ ap (λ (r : List ℕ). spelled x ++ r) nothing ∙ append-nil (spelled x))

-- what it reads of a spelling
pub reads_all : {X : Type 0} (at : List ℕ → Option (X × List ℕ)) (spelled : X → List ℕ) (fits : X → Type 0) → IsReader at spelled fits → (x : X) → fits x → at (spelled x) ≡ Some (x, [])
reads_all at spelled fits reader x f = ap at (sym (append-nil (spelled x))) ∙ reader.again x [] f

-- no spelling, where something is left behind what it reads
pub is_longer : {X : Type 0} (at : List ℕ → Option (X × List ℕ)) (spelled : X → List ℕ) (fits : X → Type 0) → IsReader at spelled fits
    → (bytes : List ℕ) (x : X) (rest : List ℕ) → at bytes ≡ Some (x, rest) → 0 < length rest → (y : X) → fits y → bytes ≢ spelled y
is_longer at spelled fits reader bytes x rest e some y f same =
    let read : at bytes ≡ Some (y, []) = ap at same ∙ reads_all at spelled fits reader y f in
    let left : rest ≡ [] = ap (λ p. p.1) (some_is (x, rest) (y, []) (sym e ∙ read)) in
    omega (arith, ap length left)

-- no spelling, where it reads nothing
pub is_none : {X : Type 0} (at : List ℕ → Option (X × List ℕ)) (spelled : X → List ℕ) (fits : X → Type 0) → IsReader at spelled fits
    → (bytes : List ℕ) → at bytes ≡ None → (y : X) → fits y → bytes ≢ spelled y
is_none at spelled fits reader bytes e y f same =
    let read : at bytes ≡ Some (y, []) = ap at same ∙ reads_all at spelled fits reader y f in
    cc

-- of two spellings none begins the other, and equal ones are of one value
pub is_apart : {X : Type 0} (at : List ℕ → Option (X × List ℕ)) (spelled : X → List ℕ) (fits : X → Type 0) → IsReader at spelled fits
    → (x y : X) (rest : List ℕ) → fits x → fits y → spelled x ++ rest ≡ spelled y → (x ≡ y) × (rest ≡ [])
is_apart {X = X} at spelled fits reader x y rest f g same =
    let read : Some (x, rest) ≡ Some (y, []) = sym (reader.again x rest f) ∙ ap at same ∙ reads_all at spelled fits reader y g in
    let one : (x, rest) ≡ (y, []) = some_is (x, rest) (y, []) read in
    (ap (λ (p : X × List ℕ). p.0) one, ap (λ (p : X × List ℕ). p.1) one)
