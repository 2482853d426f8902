use Rattle.std.proofs.Common.{◌∙◌, sym, ap, drop}
use Rattle.std.proofs.lemmas.List.{take_rest}
use Rattle.http_front.specs.Chunks.{sized_chunk, line_chunk}
use Rattle.http_front.proofs.chunk.line_chunk.Goals as goal

pub returns-in-Some : goal.returns-in-Some
returns-in-Some c =
    c.sized_chunk.ensures
    ∙ ap (sized_chunk c.args.room c.args.line c.in-Some.size) (take_rest c.args.bytes.now c.args.line)
    ∙ ap (line_chunk c.args.room c.args.line (drop c.args.line c.args.bytes.now)) (sym c.in-Some.is ∙ c.chunk_size.ensures)

pub returns-in-None : goal.returns-in-None
returns-in-None c = ap (line_chunk c.args.room c.args.line (drop c.args.line c.args.bytes.now)) (sym c.in-None.is ∙ c.chunk_size.ensures)
