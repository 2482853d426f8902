-- A book has a configuration.
use Rattle.std.proofs.Common.{◌≡◌, ℕ, suc, ◌+◌, ◌<◌, List, [], ◌∷◌, length, map, refl, ap, ◌∙◌, arith}
use Rattle.std.proofs.lemmas.List.{length-map}
use Rattle.conf_tree.specs.View.{data_of}
use Rattle.conf_validate.specs.Configuration.{Configuration, configuration_of}
use Rattle.conf_book.specs.Books.{Publications, IsBook, numbered_from, documents_of}

length-numbered_from : (n : ℕ) (cs : List Configuration) → length (numbered_from n cs) ≡ length cs
length-numbered_from n [] = refl
length-numbered_from n (c ∷ cs) = ap suc (length-numbered_from (n + 1) cs)

length-configurations : (book : Publications) → IsBook book → length book.configurations ≡ length book.documents
length-configurations book is =
    ap length is.said
    ∙ (length-numbered_from 0 (map configuration_of (documents_of book))
    ∙ (length-map (documents_of book) configuration_of ∙ length-map book.documents data_of))

-- a list that shows the configurations of a book has an entry
pub some_entry : {A : Type 0} (f : A → ℕ × Configuration) (xs : List A) (book : Publications) → IsBook book → map f xs ≡ book.configurations → 0 < length xs
some_entry f xs book is shows =
    let count : length (map f xs) ≡ length book.documents = ap length shows ∙ length-configurations book is in
    omega (arith, is.begun, length-map xs f)
