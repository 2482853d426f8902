-- The parts of a document are documents.
use Rattle.std.proofs.Common.{◌≡◌, ℕ, zero, suc, ◌<◌, List, [], ◌∷◌, length, get_or, map, sym, subst, arith}
use Rattle.conf_tree.specs.Document.{IsDocument, AreDocuments, AreMembers}
use Rattle.conf_tree.specs.View.{data_of, list_data, members_of, named}
use Rattle.conf_tree.specs.declared.tree.Tree.{Tree}
use Rattle.conf_tree.specs.declared.tree.Member.{Member}

document_at : (ts : List Tree) (i : ℕ) (d : Tree) → AreDocuments (list_data ts) → i < length ts → IsDocument (data_of (get_or ts i d))
document_at [] i d h lt = absurd (omega arith)
document_at (t ∷ ts) zero d h lt = h.0
document_at (t ∷ ts) (suc i) d h lt = document_at ts i d h.1 (omega arith)

pub item_is_document : (ts : List Tree) (i : ℕ) (t : Tree) → AreDocuments (list_data ts) → i < length ts → t ≡ get_or ts i t → IsDocument (data_of t)
item_is_document ts i t h lt is = subst (λ (x : Tree). IsDocument (data_of x)) (sym is) (document_at ts i t h lt)

value_document_at : (ms : List Member) (i : ℕ) (d : Member) → AreMembers (members_of (map named ms)) → i < length ms → IsDocument (data_of (get_or ms i d).value)
value_document_at [] i d h lt = absurd (omega arith)
value_document_at (m ∷ ms) zero d h lt = h.1
value_document_at (m ∷ ms) (suc i) d h lt = value_document_at ms i d h.3 (omega arith)

pub member_is_document : (ms : List Member) (i : ℕ) (m : Member) → AreMembers (members_of (map named ms)) → i < length ms → m ≡ get_or ms i m → IsDocument (data_of m.value)
member_is_document ms i m h lt is = subst (λ (x : Member). IsDocument (data_of x.value)) (sym is) (value_document_at ms i m h lt)
