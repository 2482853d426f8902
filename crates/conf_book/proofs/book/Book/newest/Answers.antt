use Rattle.std.proofs.Common.{◌≡◌, ◌+◌, ◌-◌, ◌<◌, List, ℕ, Some, length, map, slice_get, ap, subst, arith}
use Rattle.conf_validate.specs.Configuration.{Configuration}
use Rattle.conf_validate.specs.Current.{numbered}
use Rattle.conf_book.specs.Books.{Publications}
use Rattle.conf_book.proofs.BookLemmas.{last_shown, some_current}
use Rattle.conf_book.proofs.book.Book.newest.Goals as goal

pub returns : goal.returns
returns c =
    let xs = c.self.inside.currents.items in
    let confs : map numbered xs ≡ c.args.self.now.configurations = ap (λ (b : Publications). b.configurations) c.self.view_is in
    let some : 0 < length xs = some_current xs c.self.inside.documents.items c.self.invariant.begun c.self.invariant.said in
    let count : c.len.result - 1 + 1 ≡ length xs = omega (arith, c.self.inside.currents.ok.0) in
    subst (λ (cs : List (ℕ × Configuration)). slice_get cs (length cs - 1) ≡ Some (numbered c.index.result.now)) confs
    (last_shown numbered xs (c.len.result - 1) c.index.result.now count c.index.ensures)
