-- What the iterators over arguments and cookies have left to give.
use Rattle.std.specs.Prelude.{List, ◌++◌, map, filter, not, ◌==◌, length}
use Rattle.unit_types.specs.declared.field.Field.{Field}
use Rattle.path_normal.specs.declared.pairs.Pair.{Pair}
use Rattle.path_normal.specs.declared.pairs.QueryArguments.{QueryArguments}
use Rattle.path_normal.specs.declared.pairs.FieldCookies.{FieldCookies}
use Rattle.path_normal.specs.Cut.{parts_behind}
use Rattle.path_normal.specs.Text.{text_left}
use Rattle.path_normal.specs.Pairs.{argument_of, cookie_of, cookies_of}

-- the name and the value that a pair gives
abbrev pub pair_text : Pair → Field
pair_text pair = record { name = text_left pair.name; value = text_left pair.value }

-- the arguments that are left to give
abbrev pub arguments_left : QueryArguments → List Field
arguments_left s = map argument_of (filter (λ piece. not (length piece == 0)) (parts_behind 38 s.rest))

-- the cookies that are left to give
abbrev pub cookies_left : FieldCookies → List Field
cookies_left s = map cookie_of (parts_behind 59 s.rest) ++ cookies_of s.fields.now
