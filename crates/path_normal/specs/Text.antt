-- What the iterators over names and values have left to give.
use Rattle.std.specs.Prelude.{ℕ, List}
use Rattle.path_normal.specs.declared.text.Spelling.{Spelling}
use Rattle.path_normal.specs.declared.text.Spelling.TheVariants.{Plain, Query}
use Rattle.path_normal.specs.declared.text.TextBytes.{TextBytes}
use Rattle.path_normal.specs.Pairs.{query_text}

-- the text that is spelled so
abbrev pub spelled : Spelling → List ℕ → List ℕ
spelled Plain text = text
spelled Query text = query_text text

-- the bytes that are left to give
abbrev pub text_left : TextBytes → List ℕ
text_left text = spelled text.spelling text.rest.now
