-- Comparing bytes with a value goes on exactly where reading them gives that value.
use Rattle.std.proofs.Common.{◌≡◌, ◌↔◌, ℕ, zero, suc, Bool, true, false, cond, eqb, IsTrue, List, [], ◌∷◌, length, Option, Some, None, refl, sym, ap, ap₂, subst, ◌∙◌}
use Rattle.std.specs.Int.{Width, w16, w32, w64}
use Rattle.std.specs.Str.{bytes_eq}
use Rattle.std.proofs.lemmas.Bool.{eqb-true, eq-eqb}
use Rattle.std.proofs.lemmas.List.{nil_from_length}
use Rattle.std.proofs.lemmas.Slice.Eq.{bytes_eq-Decides}
use Rattle.unit_types.specs.declared.field.Field.{Field}
use Rattle.unit_types.specs.declared.message.Addr.{Addr}
use Rattle.unit_types.specs.declared.message.Request.{Request}
use Rattle.request_context.specs.declared.asked.Asked.{Asked}
use Rattle.request_context.specs.declared.kept.Form.TheVariants.{Record}
use Rattle.request_context.specs.declared.reading.Head.{Head}
use Rattle.request_context.specs.Comparing.{after_number, after_minor, after_text, after_addr, after_field, after_fields, after_field_list, after_head, after_asked, asked_in, IsForm}
use Rattle.request_context.specs.Reading.{◌>>=◌, both, made, number_at, text_at, minor_at, addr_at, field_at, fields_at, field_list_at, head_at, asked_at, make_addr, make_field, make_head, make_asked}
use Rattle.request_context.specs.Record.{IsRecordOf, HasRecord, request_record}
use Rattle.request_context.proofs.Readers.{bind_some, some_is}
use Rattle.request_context.proofs.Records.{asked_read, reads_all}

-- what is compared with the value x goes on exactly where a reader gives x
record IsKnown {X : Type 0} (at : List ℕ → Option (X × List ℕ)) (x : X) (after : Option (List ℕ) → Option (List ℕ)) : Type 0 where
  none : after None ≡ None
  found : (bytes rest : List ℕ) → after (Some bytes) ≡ Some rest → at bytes ≡ Some (x, rest)
  again : (bytes rest : List ℕ) → at bytes ≡ Some (x, rest) → after (Some bytes) ≡ Some rest

-- ---- a test of what a reader gives

test_some : {A : Type 0} (b : Bool) (x y : A) → cond b (Some x) None ≡ Some y → (b ≡ true) × (x ≡ y)
test_some true x y e = (refl, cc)
test_some false x y e = absurd cc

test_known : {X : Type 0} (at : List ℕ → Option (X × List ℕ)) (test : X → Bool) (x : X) → ((y : X) → test y ≡ true → y ≡ x) → test x ≡ true
    → IsKnown at x (λ (bytes : Option (List ℕ)). bytes >>= λ given. at given >>= λ found. cond (test found.0) (Some found.1) None)
test_known {X = X} at test x only same = record {
  none = refl;
  found = λ bytes rest e.
      let a = bind_some (at bytes) (λ (found : X × List ℕ). cond (test found.0) (Some found.1) None) rest e in
      let t = test_some (test a.0.0) a.0.1 rest a.2 in
      a.1 ∙ ap₂ (λ (y : X) (r : List ℕ). Some (y, r)) (only a.0.0 t.0) t.1;
  again = λ bytes rest e. rw (e, same) refl;
}

number_known : (w : Width) (n : ℕ) → IsKnown (number_at w) n (after_number w n)
number_known w n = test_known (number_at w) (λ (m : ℕ). eqb m n) n (λ m e. eqb-true m n e) (eq-eqb n n refl)

minor_known : (n : ℕ) → IsKnown minor_at n (after_minor n)
minor_known n = test_known minor_at (λ (m : ℕ). eqb m n) n (λ m e. eqb-true m n e) (eq-eqb n n refl)

text_known : (text : List ℕ) → IsKnown text_at text (after_text text)
text_known text = test_known text_at (λ (t : List ℕ). bytes_eq t text) text (λ t e. (bytes_eq-Decides t text).0 e) ((bytes_eq-Decides text text).1 refl)

-- ---- one after another, and what is made of a value

both_parts : {X Y : Type 0} (first : List ℕ → Option (X × List ℕ)) (second : List ℕ → Option (Y × List ℕ)) (bytes : List ℕ) (x : X) (y : Y) (after : List ℕ)
    → both first second bytes ≡ Some ((x, y), after) → (rest : List ℕ) × (first bytes ≡ Some (x, rest)) × (second rest ≡ Some (y, after))
both_parts {X = X} {Y = Y} first second bytes x y after e =
    let a = bind_some (first bytes) (λ (p : X × List ℕ). second p.1 >>= λ z. Some ((p.0, z.0), z.1)) ((x, y), after) e in
    let b = bind_some (second a.0.1) (λ (z : Y × List ℕ). Some ((a.0.0, z.0), z.1)) ((x, y), after) a.2 in
    let same : ((a.0.0, b.0.0), b.0.1) ≡ ((x, y), after) = some_is _ _ b.2 in (
      a.0.1,
      a.1 ∙ ap (λ (p : (X × Y) × List ℕ). Some (p.0.0, a.0.1)) same,
      b.1 ∙ ap (λ (p : (X × Y) × List ℕ). Some (p.0.1, p.1)) same,
    )

-- what is behind a second value was behind the first one
middle : (g : Option (List ℕ) → Option (List ℕ)) → g None ≡ None → (o : Option (List ℕ)) (rest : List ℕ) → g o ≡ Some rest → (between : List ℕ) × (o ≡ Some between)
middle g none (Some between) rest e = (between, refl)
middle g none None rest e = absurd cc

both_known : {X Y : Type 0} (first : List ℕ → Option (X × List ℕ)) (second : List ℕ → Option (Y × List ℕ)) (x : X) (y : Y) (f g : Option (List ℕ) → Option (List ℕ))
    → IsKnown first x f → IsKnown second y g → IsKnown (both first second) (x, y) (λ (bytes : Option (List ℕ)). g (f bytes))
both_known first second x y f g p q = record {
  none = ap g p.none ∙ q.none;
  found = λ bytes rest e.
      let m = middle g q.none (f (Some bytes)) rest e in
      rw (p.found bytes m.0 m.1, q.found m.0 rest (sym (ap g m.1) ∙ e)) refl;
  again = λ bytes rest e.
      let parts = both_parts first second bytes x y rest e in
      ap g (p.again bytes parts.0 parts.1) ∙ q.again parts.0 rest parts.2;
}

made_known : {X Y : Type 0} (make : X → Y) (split : Y → X) → ((x : X) → split (make x) ≡ x) → (at : List ℕ → Option (X × List ℕ)) (x : X) (f : Option (List ℕ) → Option (List ℕ))
    → IsKnown at x f → IsKnown (made make at) (make x) f
made_known {X = X} {Y = Y} make split inverse at x f p = record {
  none = p.none;
  found = λ bytes rest e. rw (p.found bytes rest e) refl;
  again = λ bytes rest e.
      let a = bind_some (at bytes) (λ (z : X × List ℕ). Some (make z.0, z.1)) (make x, rest) e in
      let same : (make a.0.0, a.0.1) ≡ (make x, rest) = some_is _ _ a.2 in
      let value : a.0.0 ≡ x = sym (inverse a.0.0) ∙ ap (λ (z : Y × List ℕ). split z.0) same ∙ inverse x in
      p.again bytes rest (a.1 ∙ ap₂ (λ (y : X) (r : List ℕ). Some (y, r)) value (ap (λ (z : Y × List ℕ). z.1) same));
}

-- ---- the parts of a record

addr_known : (addr : Addr) → IsKnown addr_at addr (after_addr addr)
unfolding addr_at after_addr
addr_known addr = made_known make_addr (λ a. (a.ip, a.port)) (λ x. refl) (both (number_at w32) (number_at w16)) (addr.ip, addr.port) (after_addr addr)
    (both_known (number_at w32) (number_at w16) addr.ip addr.port (after_number w32 addr.ip) (after_number w16 addr.port) (number_known w32 addr.ip) (number_known w16 addr.port))

field_known : (field : Field) → IsKnown field_at field (after_field field)
unfolding field_at after_field
field_known field = made_known make_field (λ f. (f.name, f.value)) (λ x. refl) (both text_at text_at) (field.name, field.value) (after_field field)
    (both_known text_at text_at field.name field.value (after_text field.name) (after_text field.value) (text_known field.name) (text_known field.value))

same_lists : {X : Type 0} (x y : X) (xs ys : List X) → x ∷ xs ≡ y ∷ ys → (x ≡ y) × (xs ≡ ys)
same_lists x y xs ys e = (cc, cc)

fields_known : (fields : List Field) → IsKnown (fields_at (length fields)) fields (after_fields fields)
unfolding fields_at after_fields
fields_known [] = record {
  none = refl;
  found = λ bytes rest e. ap (λ (r : List ℕ). Some ([], r)) (some_is bytes rest e);
  again = λ bytes rest e. ap (λ (z : List Field × List ℕ). Some z.1) (some_is ([], bytes) ([], rest) e);
}
fields_known (field ∷ fields) =
    let p = field_known field in
    let q = fields_known fields in
    record {
      none = ap (after_fields fields) p.none ∙ q.none;
      found = λ bytes rest e.
          let m = middle (after_fields fields) q.none (after_field field (Some bytes)) rest e in
          rw (p.found bytes m.0 m.1, q.found m.0 rest (sym (ap (after_fields fields) m.1) ∙ e)) refl;
      again = λ bytes rest e.
          let a = bind_some (field_at bytes) (λ (first : Field × List ℕ). fields_at (length fields) first.1 >>= λ others. Some (first.0 ∷ others.0, others.1)) (field ∷ fields, rest) e in
          let b = bind_some (fields_at (length fields) a.0.1) (λ (others : List Field × List ℕ). Some (a.0.0 ∷ others.0, others.1)) (field ∷ fields, rest) a.2 in
          let same : (a.0.0 ∷ b.0.0, b.0.1) ≡ (field ∷ fields, rest) = some_is (a.0.0 ∷ b.0.0, b.0.1) (field ∷ fields, rest) b.2 in
          let lists = same_lists a.0.0 field b.0.0 fields (ap (λ (z : List Field × List ℕ). z.0) same) in
          ap (after_fields fields) (p.again bytes a.0.1 (a.1 ∙ ap (λ (f : Field). Some (f, a.0.1)) lists.0))
          ∙ q.again a.0.1 rest (b.1 ∙ ap₂ (λ (fs : List Field) (r : List ℕ). Some (fs, r)) lists.1 (ap (λ (z : List Field × List ℕ). z.1) same));
    }

fields_counted : (n : ℕ) (bytes : List ℕ) (fields : List Field) (rest : List ℕ) → fields_at n bytes ≡ Some (fields, rest) → length fields ≡ n
unfolding fields_at
fields_counted zero bytes fields rest e = ap (λ (z : List Field × List ℕ). length z.0) (sym (some_is ([], bytes) (fields, rest) e))
fields_counted (suc n) bytes fields rest e =
    let a = bind_some (field_at bytes) (λ (first : Field × List ℕ). fields_at n first.1 >>= λ others. Some (first.0 ∷ others.0, others.1)) (fields, rest) e in
    let b = bind_some (fields_at n a.0.1) (λ (others : List Field × List ℕ). Some (a.0.0 ∷ others.0, others.1)) (fields, rest) a.2 in
    let same : (a.0.0 ∷ b.0.0, b.0.1) ≡ (fields, rest) = some_is _ _ b.2 in
    ap (λ (z : List Field × List ℕ). length z.0) (sym same) ∙ ap suc (fields_counted n a.0.1 b.0.0 b.0.1 b.1)

field_list_known : (fields : List Field) → IsKnown field_list_at fields (after_field_list fields)
unfolding field_list_at after_field_list
field_list_known fields =
    let p = number_known w32 (length fields) in
    let q = fields_known fields in
    record {
      none = ap (after_fields fields) p.none ∙ q.none;
      found = λ bytes rest e.
          let m = middle (after_fields fields) q.none (after_number w32 (length fields) (Some bytes)) rest e in
          rw (p.found bytes m.0 m.1) (q.found m.0 rest (sym (ap (after_fields fields) m.1) ∙ e));
      again = λ bytes rest e.
          let a = bind_some (number_at w32 bytes) (λ (n : ℕ × List ℕ). fields_at n.0 n.1) (fields, rest) e in
          let counted : a.0.0 ≡ length fields = sym (fields_counted a.0.0 a.0.1 fields rest a.2) in
          ap (after_fields fields) (p.again bytes a.0.1 (a.1 ∙ ap (λ (n : ℕ). Some (n, a.0.1)) counted))
          ∙ q.again a.0.1 rest (subst (λ (n : ℕ). fields_at n a.0.1 ≡ Some (fields, rest)) counted a.2);
    }

head_in : Request → Head
head_in request = record { minor = request.minor; method = request.method; target = request.target; path = request.path; query = request.query; host = request.host }

head_known : (request : Request) → IsKnown head_at (head_in request) (after_head request)
unfolding head_at head_in after_head
head_known request = made_known make_head (λ head. (head.minor, (head.method, (head.target, (head.path, (head.query, head.host)))))) (λ x. refl)
    (both minor_at (both text_at (both text_at (both text_at (both text_at text_at)))))
    (request.minor, (request.method, (request.target, (request.path, (request.query, request.host)))))
    (after_head request)
    (both_known _ _ _ _ (after_minor request.minor) _ (minor_known request.minor) (both_known _ _ _ _ (after_text request.method) _ (text_known request.method) (both_known _ _ _ _ (after_text request.target) _ (text_known request.target)
    (both_known _ _ _ _ (after_text request.path) _ (text_known request.path) (both_known _ _ _ _ (after_text request.query) (after_text request.host) (text_known request.query) (text_known request.host))))))

asked_known : (asked : Asked) → IsKnown asked_at asked (after_asked asked)
unfolding asked_at head_in after_asked
asked_known asked = made_known make_asked
    (λ a. (a.stream, (a.name, (head_in a.request, (a.request.from, (a.request.to, (a.request.fields, a.request.body))))))) (λ x. refl)
    (both (number_at w64) (both text_at (both head_at (both addr_at (both addr_at (both field_list_at text_at))))))
    (asked.stream, (asked.name, (head_in asked.request, (asked.request.from, (asked.request.to, (asked.request.fields, asked.request.body))))))
    (after_asked asked)
    (both_known _ _ _ _ (after_number w64 asked.stream) _ (number_known w64 asked.stream) (both_known _ _ _ _ (after_text asked.name) _ (text_known asked.name) (both_known _ _ _ _ (after_head asked.request) _ (head_known asked.request)
    (both_known _ _ _ _ (after_addr asked.request.from) _ (addr_known asked.request.from) (both_known _ _ _ _ (after_addr asked.request.to) _ (addr_known asked.request.to)
    (both_known _ _ _ _ (after_field_list asked.request.fields) (after_text asked.request.body) (field_list_known asked.request.fields) (text_known asked.request.body)))))))

no_some : {A : Type 0} (o : Option A) (x : A) → None ≡ o → o ≡ Some x → ⊥
no_some o x none some = absurd cc

-- ---- the whole of the bytes

pub is_known : (asked : Asked) (bytes rest : List ℕ) (empty : Bool) → Some rest ≡ after_asked asked (Some bytes) → empty ≡ eqb (length rest) 0 → IsTrue empty ↔ (asked_at bytes ≡ Some (asked, []))
is_known asked bytes rest empty behind tested = (
  λ is. (asked_known asked).found bytes [] (sym behind ∙ ap Some (nil_from_length rest (eqb-true (length rest) 0 (sym tested ∙ is)))),
  λ read.
      let none : rest ≡ [] = some_is rest [] (behind ∙ (asked_known asked).again bytes [] read) in
      tested ∙ eq-eqb (length rest) 0 (ap length none),
)

pub is_unknown : (asked : Asked) (bytes : List ℕ) → None ≡ after_asked asked (Some bytes) → IsTrue false ↔ (asked_at bytes ≡ Some (asked, []))
is_unknown asked bytes nothing = (
  λ is. absurd cc,
  λ read. absurd (no_some (after_asked asked (Some bytes)) [] nothing ((asked_known asked).again bytes [] read)),
)

-- ---- a record that is kept

-- a record is read as its request
record_read : (posted : List ℕ) (asked : Asked) → IsRecordOf posted (Some asked) → asked_at posted ≡ Some (asked, [])
record_read posted asked is = ap asked_at is.1 ∙ reads_all asked_at request_record HasRecord asked_read asked is.0

pub kept_is : (posted : List ℕ) (asked : Asked) → IsRecordOf posted (Some asked) → asked_in posted ≡ asked
unfolding asked_in
kept_is posted asked is = rw (record_read posted asked is) refl

pub kept_whole : (posted : List ℕ) (asked : Asked) → IsRecordOf posted (Some asked) → IsForm (Record posted)
kept_whole posted asked is bytes e =
    let same : posted ≡ bytes = cc in
    subst (λ (b : List ℕ). asked_at b ≡ Some (asked_in b, [])) same (record_read posted asked is ∙ ap (λ (a : Asked). Some (a, [])) (sym (kept_is posted asked is)))

-- it begins with its stream
begins_with_stream : (bytes : List ℕ) (asked : Asked) (rest : List ℕ) → asked_at bytes ≡ Some (asked, rest) → (after : List ℕ) × (number_at w64 bytes ≡ Some (asked.stream, after))
unfolding asked_at
begins_with_stream bytes asked rest e =
    let after_stream = both text_at (both head_at (both addr_at (both addr_at (both field_list_at text_at)))) in
    let Parts : Type 0 = ℕ × (List ℕ × (Head × (Addr × (Addr × (List Field × List ℕ))))) in
    let a = bind_some (both (number_at w64) after_stream bytes) (λ (z : Parts × List ℕ). Some (make_asked z.0, z.1)) (asked, rest) e in
    let parts = both_parts (number_at w64) after_stream bytes a.0.0.0 a.0.0.1 a.0.1 a.1 in
    (parts.0, parts.1 ∙ ap (λ (z : Asked × List ℕ). Some (z.0.stream, parts.0)) (some_is (make_asked a.0.0, a.0.1) (asked, rest) a.2))

pub has_stream : (bytes given : List ℕ) (asked : Asked) → given ≡ bytes → asked_at bytes ≡ Some (asked, []) → None ≡ number_at w64 given → ⊥
has_stream bytes given asked same whole nothing =
    let begins = begins_with_stream bytes asked [] whole in
    no_some (number_at w64 bytes) (asked.stream, begins.0) (nothing ∙ ap (number_at w64) same) begins.1

pub is_stream : (bytes given : List ℕ) (asked : Asked) (n : ℕ) (rest : List ℕ) → given ≡ bytes → asked_at bytes ≡ Some (asked, []) → Some (n, rest) ≡ number_at w64 given → n ≡ asked.stream
is_stream bytes given asked n rest same whole read =
    let begins = begins_with_stream bytes asked [] whole in
    ap (λ (z : ℕ × List ℕ). z.0) (some_is (n, rest) (asked.stream, begins.0) (read ∙ ap (number_at w64) same ∙ begins.1))
