use Rattle.fabric_words.proofs.OwnPremises.{poster_is_shown, taken_is_shown}
use Rattle.fabric_words.proofs.laws.own_words_show_the_rest.Goals as goal

pub returns-clause-taken : goal.returns-clause-taken
returns-clause-taken c = taken_is_shown

pub returns-clause-poster : goal.returns-clause-poster
returns-clause-poster c = poster_is_shown
