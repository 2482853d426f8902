-- What the conditions of a step keep that break no rule.
use Rattle.std.proofs.Common.{◌≡◌, ℕ, Bool, true, false, List, [], codes, Option, Some, None, option_map, IfSome, IsTrue, All, refl}
use Rattle.std.proofs.lemmas.List.Elements.{All-cons, All-head, All-map, All-nil, All-tail}
use Rattle.std.specs.Option.{unwrap_or}
use Rattle.serde_json.specs.Data.{Data, null, boolean, number, string, array, object, Members, no_members, member}
use Rattle.serde_json.specs.Find.{as_str}
use Rattle.conf_tree.specs.View.{Named}
use Rattle.conf_validate.specs.Configuration.{items_list, match_of, members_list, named, named_list, named_of, part, sets_of, text_or_nil, texts_of}
use Rattle.conf_validate.specs.Forms.{is_text_pattern}
use Rattle.conf_validate.specs.Kept.{ArePatterns, AreSets, IsKeptMatch}
use Rattle.conf_validate.specs.Table.{entries_of, place_among, row_of}
use Rattle.conf_validate.specs.Valid.{Context}
use Rattle.conf_validate.specs.declared.matching.NamedPatterns.{NamedPatterns}
use Rattle.conf_validate.specs.declared.place.Form.TheVariants as form
use Rattle.conf_validate.specs.declared.place.Names.TheVariants as names
use Rattle.conf_validate.specs.declared.place.Place.TheVariants as place
use Rattle.conf_validate.proofs.CleanLemmas.{IsClean, NoFault, all_weaker, array_clean, clean_some, form_kept, members_clean, object_clean, part_clean, text_kept}

-- ---- the rows that are used

fixed-Match : (row_of place.Match).members ≡ Some names.Fixed
unfolding row_of
fixed-Match = refl

text-Texts : (row_of place.Texts).text ≡ Some form.TextPattern
unfolding row_of
text-Texts = refl

text-Text : (row_of place.Text).text ≡ Some form.TextPattern
unfolding row_of
text-Text = refl

items-Texts : (row_of place.Texts).items ≡ Some place.Text
unfolding row_of
items-Texts = refl

items-NamedTexts : (row_of place.NamedTexts).items ≡ Some place.NamedTextsItem
unfolding row_of
items-NamedTexts = refl

members-NamedTexts : (row_of place.NamedTexts).members ≡ Some (names.Any place.Texts)
unfolding row_of
members-NamedTexts = refl

members-NamedTextsItem : (row_of place.NamedTextsItem).members ≡ Some (names.Any place.Texts)
unfolding row_of
members-NamedTextsItem = refl

at-Match-uri : place_among (codes "uri") (entries_of place.Match) ≡ Some place.Texts
unfolding entries_of
at-Match-uri = refl

at-Match-host : place_among (codes "host") (entries_of place.Match) ≡ Some place.Texts
unfolding entries_of
at-Match-host = refl

at-Match-method : place_among (codes "method") (entries_of place.Match) ≡ Some place.Texts
unfolding entries_of
at-Match-method = refl

at-Match-scheme : place_among (codes "scheme") (entries_of place.Match) ≡ Some place.Texts
unfolding entries_of
at-Match-scheme = refl

at-Match-query : place_among (codes "query") (entries_of place.Match) ≡ Some place.Texts
unfolding entries_of
at-Match-query = refl

at-Match-arguments : place_among (codes "arguments") (entries_of place.Match) ≡ Some place.NamedTexts
unfolding entries_of
at-Match-arguments = refl

at-Match-cookies : place_among (codes "cookies") (entries_of place.Match) ≡ Some place.NamedTexts
unfolding entries_of
at-Match-cookies = refl

at-Match-headers : place_among (codes "headers") (entries_of place.Match) ≡ Some place.NamedTexts
unfolding entries_of
at-Match-headers = refl

-- ---- patterns

abbrev IsPattern : List ℕ → Type 0
IsPattern text = IsTrue (is_text_pattern text)

pattern_or_nil : (o : Option (List ℕ)) → IfSome o IsPattern → IsPattern (unwrap_or o [])
pattern_or_nil None h = refl
pattern_or_nil (Some s) h = h

item_kept : (c : Context) (d : Data) → NoFault c place.Text d → IsPattern (text_or_nil d)
item_kept c d h =
    pattern_or_nil (as_str d) (text_kept IsPattern c place.Text form.TextPattern (Some d) text-Text (λ s e. form_kept c form.TextPattern s e) (clean_some c place.Text d h))

texts_kept : (c : Context) (d : Data) → NoFault c place.Texts d → ArePatterns (texts_of d)
texts_kept c null h = All-nil IsPattern
texts_kept c (boolean b) h = All-nil IsPattern
texts_kept c (number n) h = All-nil IsPattern
texts_kept c (string s) h =
    All-cons IsPattern s [] (text_kept IsPattern c place.Texts form.TextPattern (Some (string s)) text-Texts (λ t e. form_kept c form.TextPattern t e) (clean_some c place.Texts (string s) h)) (All-nil IsPattern)
texts_kept c (array ds) h =
    All-map IsPattern text_or_nil (items_list ds) (all_weaker (items_list ds) (λ d e. item_kept c d e) (array_clean c place.Texts place.Text ds items-Texts h))
texts_kept c (object ms) h = All-nil IsPattern

texts_in_kept : (c : Context) (o : Option Data) → IsClean c place.Texts o → IfSome (option_map texts_of o) ArePatterns
texts_in_kept c None h = tt
texts_in_kept c (Some d) h = texts_kept c d (h d refl)

-- ---- patterns by name

abbrev IsSet : List NamedPatterns → Type 0
IsSet set = All (λ named. ArePatterns named.patterns) set

abbrev HasPatterns : NamedPatterns → Type 0
HasPatterns n = ArePatterns n.patterns

named_list_kept : (c : Context) (lower : Bool) (ms : Members) → All (λ m. NoFault c place.Texts m.1) (members_list ms) → IsSet (named_list lower ms)
named_list_kept c lower no_members h = All-nil HasPatterns
named_list_kept c lower (member k d ms) h =
    All-cons HasPatterns (named lower k d) (named_list lower ms)
    (texts_kept c d (All-head (λ (m : Named). NoFault c place.Texts m.1) (k, d) (members_list ms) h))
    (named_list_kept c lower ms (All-tail (λ (m : Named). NoFault c place.Texts m.1) (k, d) (members_list ms) h))

set_kept : (c : Context) (lower : Bool) (d : Data) → NoFault c place.NamedTextsItem d → IsSet (named_of lower d)
set_kept c lower null h = All-nil HasPatterns
set_kept c lower (boolean b) h = All-nil HasPatterns
set_kept c lower (number n) h = All-nil HasPatterns
set_kept c lower (string s) h = All-nil HasPatterns
set_kept c lower (array ds) h = All-nil HasPatterns
set_kept c lower (object ms) h =
    named_list_kept c lower ms (members_clean c (entries_of place.NamedTextsItem) (names.Any place.Texts) place.Texts (λ again k d f. f) [] ms (object_clean c place.NamedTextsItem (names.Any place.Texts) ms members-NamedTextsItem h))

sets_kept : (c : Context) (lower : Bool) (d : Data) → NoFault c place.NamedTexts d → AreSets (sets_of lower d)
sets_kept c lower null h = All-nil IsSet
sets_kept c lower (boolean b) h = All-nil IsSet
sets_kept c lower (number n) h = All-nil IsSet
sets_kept c lower (string s) h = All-nil IsSet
sets_kept c lower (array ds) h =
    All-map IsSet (named_of lower) (items_list ds) (all_weaker (items_list ds) (λ d e. set_kept c lower d e) (array_clean c place.NamedTexts place.NamedTextsItem ds items-NamedTexts h))
sets_kept c lower (object ms) h =
    All-cons IsSet (named_list lower ms) []
    (named_list_kept c lower ms (members_clean c (entries_of place.NamedTexts) (names.Any place.Texts) place.Texts (λ again k d f. f) [] ms (object_clean c place.NamedTexts (names.Any place.Texts) ms members-NamedTexts h)))
    (All-nil IsSet)

sets_in_kept : (c : Context) (lower : Bool) (o : Option Data) → IsClean c place.NamedTexts o → IfSome (option_map (sets_of lower) o) AreSets
sets_in_kept c lower None h = tt
sets_in_kept c lower (Some d) h = sets_kept c lower d (h d refl)

-- ---- the whole

pub match_kept : (c : Context) (value : Option Data) → IsClean c place.Match value → IsKeptMatch (match_of value)
match_kept c value h = record {
  uri = texts_in_kept c (part (codes "uri") value) (part_clean c place.Match place.Texts (codes "uri") value fixed-Match at-Match-uri h);
  host = texts_in_kept c (part (codes "host") value) (part_clean c place.Match place.Texts (codes "host") value fixed-Match at-Match-host h);
  method = texts_in_kept c (part (codes "method") value) (part_clean c place.Match place.Texts (codes "method") value fixed-Match at-Match-method h);
  scheme = texts_in_kept c (part (codes "scheme") value) (part_clean c place.Match place.Texts (codes "scheme") value fixed-Match at-Match-scheme h);
  query = texts_in_kept c (part (codes "query") value) (part_clean c place.Match place.Texts (codes "query") value fixed-Match at-Match-query h);
  arguments = sets_in_kept c false (part (codes "arguments") value) (part_clean c place.Match place.NamedTexts (codes "arguments") value fixed-Match at-Match-arguments h);
  cookies = sets_in_kept c false (part (codes "cookies") value) (part_clean c place.Match place.NamedTexts (codes "cookies") value fixed-Match at-Match-cookies h);
  headers = sets_in_kept c true (part (codes "headers") value) (part_clean c place.Match place.NamedTexts (codes "headers") value fixed-Match at-Match-headers h);
}
