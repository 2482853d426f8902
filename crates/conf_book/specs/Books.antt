-- A book of configurations: the documents that were published, and what each of them says.
use Rattle.std.specs.Prelude.{◌≡◌, ℕ, ◌+◌, ◌<◌, List, [], ◌∷◌, length, map, None, All, refl}
use Rattle.std.specs.Coded.{Coded, code_by, coded_list, coded_ℕ, coded×}
use Rattle.serde_json.specs.Data.{Data, object, no_members}
use Rattle.conf_tree.specs.Document.{IsDocument}
use Rattle.conf_tree.specs.View.{data_of}
use Rattle.conf_tree.specs.contracts.tree.Tree as tree
use Rattle.conf_tree.specs.declared.tree.Tree.{Tree}
use Rattle.conf_validate.specs.contracts.conf.Conf as conf
use Rattle.conf_validate.specs.Configuration.{Configuration, configuration_of}
use Rattle.conf_validate.specs.Valid.{fault_of}
use Rattle.unit_types.specs.Limits.{IsShortName}

-- the documents in the order in which they were published, the configuration of each under its number, and the names of
-- the handlers
pub record Publications : Type 0 where
  pub documents : List Tree
  pub configurations : List (ℕ × Configuration)
  pub names : List (List ℕ)

-- the values of the documents
abbrev pub documents_of : Publications → List Data
documents_of book = map data_of book.documents

-- the document with which a book begins: `{}`
abbrev pub first_document : Data
first_document = object no_members

-- the last of these documents, or this one where there are none
abbrev pub last_document : Data → List Data → Data
last_document d [] = d
last_document d (e ∷ es) = last_document e es

-- the newest document of a list of them
abbrev pub newest_document : List Data → Data
newest_document documents = last_document first_document documents

-- each configuration under its number, which says how many stand before it; the first has this number
abbrev pub numbered_from : ℕ → List Configuration → List (ℕ × Configuration)
numbered_from n [] = []
numbered_from n (c ∷ cs) = (n, c) ∷ numbered_from (n + 1) cs

-- what the documents say, in their order
abbrev pub configurations_of : List Data → List (ℕ × Configuration)
configurations_of documents = numbered_from 0 (map configuration_of documents)

-- a document that breaks no rule, where these are the names of the handlers
pub record IsPublishable (names : List (List ℕ)) (d : Data) : Type 0 where
  pub document : IsDocument d
  pub valid : fault_of d names ≡ None

-- what each book keeps: short names, a first document, and documents that break no rule, each with what it says
pub record IsBook (book : Publications) : Type 0 where
  pub short : All IsShortName book.names
  pub begun : 0 < length book.documents
  pub publishable : All (IsPublishable book.names) (documents_of book)
  pub said : book.configurations ≡ configurations_of (documents_of book)

-- the code of its value, by which a proof tells books apart
abbrev pub publications_code : Coded Publications
publications_code =
    code_by (List Tree × (List (ℕ × Configuration) × List (List ℕ)))
    (coded× (coded_list tree.the_row.coded) (coded× (coded_list (coded× coded_ℕ conf.the_row.coded)) (coded_list (coded_list coded_ℕ))))
    (λ book. (book.documents, (book.configurations, book.names)))
    (λ p. record { documents = p.0; configurations = p.1.0; names = p.1.1 })
    (λ _. refl)
