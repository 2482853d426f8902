use Rattle.fabric_words.proofs.Opened.{opened_shows}
use Rattle.fabric_words.proofs.laws.opened_words_show_the_opened_core.Goals as goal

pub returns : goal.returns
returns c = opened_shows
