use Rattle.std.proofs.Common.{◌≡◌, ◌<◌, length, refl, [], map}
use Rattle.conf_validate.specs.Current.{numbered}
use Rattle.conf_shared.specs.Lists.{bare_configurations}
use Rattle.conf_shared.proofs.ListLemmas.{some_entry}
use Rattle.conf_shared.proofs.PrefixLemmas.{grown}
use Rattle.conf_shared.proofs.shared.Shared.open.Goals as goal

pub bounds-currents-0 : goal.bounds-currents-0
bounds-currents-0 g c = some_entry numbered _ _ c.is_book.ensures c.currents-currents.ensures

pub follow-requires-clause-begins : goal.follow-requires-clause-begins
follow-requires-clause-begins g c =
    let list = c.currents-currents.result.now in
    let some : 0 < length list = some_entry numbered _ _ c.is_book.ensures c.currents-currents.ensures in
    (grown numbered (λ d. d.1) list [] [] _ c.index-currents-0.result 0 ([], refl) (bare_configurations (map numbered list), refl) refl some c.index-currents-0.is c.in_ok-given.ensures.1).1
