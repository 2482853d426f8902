use Rattle.fabric_words.proofs.OneCore.{each_has_holdings, shown_is_core_of}
use Rattle.fabric_words.proofs.laws.words_and_holdings_are_the_core.Goals as goal

pub returns-clause-shown : goal.returns-clause-shown
returns-clause-shown c = shown_is_core_of

pub returns-clause-own : goal.returns-clause-own
returns-clause-own c = each_has_holdings
