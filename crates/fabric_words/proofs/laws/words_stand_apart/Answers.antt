use Rattle.fabric_words.proofs.Standing.{apart_in_list, map_apart, set_word, shared_apart, within}
use Rattle.fabric_words.proofs.laws.words_stand_apart.Goals as goal

pub returns-clause-within : goal.returns-clause-within
returns-clause-within c = within

pub returns-clause-apart : goal.returns-clause-apart
returns-clause-apart c = apart_in_list

pub returns-clause-shared : goal.returns-clause-shared
returns-clause-shared c = shared_apart

pub returns-clause-map : goal.returns-clause-map
returns-clause-map c = map_apart

pub returns-clause-set : goal.returns-clause-set
returns-clause-set c = set_word
