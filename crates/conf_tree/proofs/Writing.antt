-- The tokens that are written for a tree, an item or a member at a time, and what they are read as.
use Rattle.std.proofs.Common.{◌≡◌, ℕ, pos, negsuc, suc, ◌≤◌, List, [], ◌∷◌, ◌++◌, Option, Some, IsUtf8, max, option_map, option_and_then, refl, sym, ap, ap₂, ◌∙◌, arith, append_assoc, append-nil}
use Rattle.std.specs.Ordering.{ordering_reverse}
use Rattle.std.specs.Prelude.{⊤}
use Rattle.json.specs.Json as json
use Rattle.json.specs.Lex.{tokens}
use Rattle.json.specs.Token.{Token}
use Rattle.json.specs.Tree as tree
use Rattle.json.specs.Tree.{json_tokens, items_tokens, members_tokens}
use Rattle.json.proofs.Printed.Trees.{value-json_tokens}
use Rattle.serde_json.specs.Data.{Num, unsigned, negative, float, Data, null, boolean, number, string, array, object, Items, no_items, item, Members, no_members, member, put, depth, items_depth, members_depth}
use Rattle.serde_json.specs.Read.{number_of, of_json, of_items, of_members, max_depth, read}
use Rattle.serde_json.specs.Written.{number_text, outline, items_outline, members_outline}
use Rattle.serde_json.proofs.Numbers.{number_of-decimal, number_of-negative}
use Rattle.conf_tree.proofs.Order.{turned}
use Rattle.conf_tree.proofs.Reading.{document_read, no_float}
use Rattle.conf_tree.specs.Document.{ComeAfter, IsDocument, AreDocuments, AreMembers}
use Rattle.conf_tree.specs.Text.{document_of, IsWord, HasWords, ItemsHaveWords, MembersHaveWords, IsReadable}

-- ---- what is read of the outline of a value

number_reads : (n : Num) → IsWord n → number_of (number_text n) ≡ Some n
number_reads (unsigned n) h = number_of-decimal n h
number_reads (negative (pos n)) h = absurd h
number_reads (negative (negsuc n)) h = number_of-negative n h
number_reads (float x) h = absurd h

-- the members ms behind those of the first list
abbrev joined : Members → Members → Members
joined no_members ms = ms
joined (member k d ds) ms = member k d (joined ds ms)

joined_nothing : (ms : Members) → joined ms no_members ≡ ms
joined_nothing no_members = refl
joined_nothing (member k d ms) = ap (member k d) (joined_nothing ms)

-- each name of the first list comes before those of ms
abbrev IsBefore : Members → Members → Type 0
IsBefore no_members ms = ⊤
IsBefore (member k d ds) ms = ComeAfter k ms × IsBefore ds ms

put_last : (k : List ℕ) (d : Data) (found ms : Members) → IsBefore found (member k d ms) → put k d found ≡ joined found (member k d no_members)
put_last k d no_members ms h = refl
put_last k d (member l e ds) ms h = rw (turned k l ∙ ap ordering_reverse h.0.0) (ap (member l e) (put_last k d ds ms h.1))

before_rest : (k : List ℕ) (d : Data) (found ms : Members) → IsBefore found (member k d ms) → ComeAfter k ms → IsBefore (joined found (member k d no_members)) ms
before_rest k d no_members ms h a = (a, tt)
before_rest k d (member l e ds) ms h a = (h.0.1, before_rest k d ds ms h.1 a)

joined_again : (k : List ℕ) (d : Data) (found ms : Members) → joined (joined found (member k d no_members)) ms ≡ joined found (member k d ms)
joined_again k d no_members ms = refl
joined_again k d (member l e ds) ms = ap (member l e) (joined_again k d ds ms)

mutual
  outline_reads : (d : Data) → IsDocument d → HasWords d → of_json (outline d) ≡ Some d
  outline_reads null h w = refl
  outline_reads (boolean b) h w = refl
  outline_reads (number n) h w = ap (option_map number) (number_reads n w)
  outline_reads (string s) h w = refl
  outline_reads (array ds) h w = ap (option_map array) (items_read ds h w)
  outline_reads (object ms) h w = ap (option_map object) (members_read ms no_members h w tt)

  items_read : (ds : Items) → AreDocuments ds → ItemsHaveWords ds → of_items (items_outline ds) ≡ Some ds
  items_read no_items h w = refl
  items_read (item d ds) h w =
      ap (option_and_then (λ e. option_map (item e) (of_items (items_outline ds)))) (outline_reads d h.0 w.0) ∙ ap (option_map (item d)) (items_read ds h.1 w.1)

  members_read : (ms found : Members) → AreMembers ms → MembersHaveWords ms → IsBefore found ms → of_members (members_outline ms) found ≡ Some (joined found ms)
  members_read no_members found h w b = ap Some (sym (joined_nothing found))
  members_read (member k d ms) found h w b =
      ap (option_and_then (λ e. of_members (members_outline ms) (put k e found))) (outline_reads d h.1 w.0)
      ∙ ap (of_members (members_outline ms)) (put_last k d found ms b)
      ∙ members_read ms (joined found (member k d no_members)) h.3 w.1 (before_rest k d found ms b h.2)
      ∙ ap Some (joined_again k d found ms)

-- ---- how deep the outline nests

mutual
  outline_depth : (d : Data) → tree.depth (outline d) ≡ depth d
  outline_depth null = refl
  outline_depth (boolean b) = refl
  outline_depth (number n) = refl
  outline_depth (string s) = refl
  outline_depth (array ds) = ap suc (items_outline_depth ds)
  outline_depth (object ms) = ap suc (members_outline_depth ms)

  items_outline_depth : (ds : Items) → tree.items_depth (items_outline ds) ≡ items_depth ds
  items_outline_depth no_items = refl
  items_outline_depth (item d ds) = ap₂ max (outline_depth d) (items_outline_depth ds)

  members_outline_depth : (ms : Members) → tree.members_depth (members_outline ms) ≡ members_depth ms
  members_outline_depth no_members = refl
  members_outline_depth (member k d ms) = ap₂ max (outline_depth d) (members_outline_depth ms)

-- ---- the round trip

abbrev whole : Option (json.Json × List Token) → Option Data
whole o = option_and_then of_json (option_and_then (λ p. json.if_last p.0 p.1) o)

pub written_reads : (d : Data) (text : List ℕ) → IsReadable d → IsUtf8 text → tokens text ≡ json_tokens (outline d) → document_of text ≡ Some d
written_reads d text h u same =
    let shallow : tree.depth (outline d) ≤ max_depth = omega (arith, outline_depth d, h.shallow) in
    let reads : read text ≡ Some d =
    ap (λ ts. whole (json.value max_depth ts)) (same ∙ sym (append-nil (json_tokens (outline d))))
    ∙ ap whole (value-json_tokens (outline d) max_depth [] shallow)
    ∙ outline_reads d h.document h.numbers in
    document_read text d u reads ∙ rw (no_float d h.numbers) refl

-- ---- an item or a member at a time

pub item_written : (old new : List Token) (j : json.Json) (js : json.Items) (all : List Token) → new ≡ old ++ json_tokens j → old ++ items_tokens (json.item j js) ≡ all → new ++ items_tokens js ≡ all
item_written old new j js all e h = ap (λ ts. ts ++ items_tokens js) e ∙ append_assoc old (json_tokens j) (items_tokens js) ∙ h

pub member_written : (old named new : List Token) (k : List ℕ) (j : json.Json) (ms : json.Members) (all : List Token) → named ≡ old ++ Token.key k ∷ [] → new ≡ named ++ json_tokens j
    → old ++ members_tokens (json.member k j ms) ≡ all → new ++ members_tokens ms ≡ all
member_written old named new k j ms all n e h =
    ap (λ ts. ts ++ members_tokens ms) (e ∙ ap (λ ts. ts ++ json_tokens j) n)
    ∙ append_assoc (old ++ Token.key k ∷ []) (json_tokens j) (members_tokens ms)
    ∙ append_assoc old (Token.key k ∷ []) (json_tokens j ++ members_tokens ms) ∙ h
