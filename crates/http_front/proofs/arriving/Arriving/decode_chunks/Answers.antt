use Rattle.std.proofs.Common.{◌∙◌, ◌++◌, refl, sym, ap, drop, take, arith, length-drop}
use Rattle.http_front.specs.declared.chunk.Chunk.TheVariants.{Data, Last, Refused, Open}
use Rattle.http_front.specs.Chunks.{first_chunk}
use Rattle.http_front.specs.Content.{content_by}
use Rattle.http_front.proofs.ArrivingLemmas.{decodes_further, decodes_chunk, chunk_ends}
use Rattle.http_front.proofs.ChunkLemmas.{chunk_fits_as}
use Rattle.http_front.proofs.arriving.Arriving.decode_chunks.Goals as goal

pub overflow_sub-room : goal.overflow_sub-room
overflow_sub-room c = (chunk_fits_as c.loop-line.room (drop c.loop-line.used c.args.bytes.now) (Data c.in-Data.line c.in-Data.size) (sym (c.first_chunk.ensures ∙ ap (first_chunk c.loop-line.room) c.behind-rest.ensures) ∙ c.in-Data.is)).1

pub overflow_add-used : goal.overflow_add-used
overflow_add-used c =
    let fits = chunk_fits_as c.loop-line.room (drop c.loop-line.used c.args.bytes.now) (Data c.in-Data.line c.in-Data.size) (sym (c.first_chunk.ensures ∙ ap (first_chunk c.loop-line.room) c.behind-rest.ensures) ∙ c.in-Data.is) in
    omega (arith, fits.0, length-drop c.loop-line.used c.args.bytes.now)

pub overflow_add-used-in-Data : goal.overflow_add-used-in-Data
overflow_add-used-in-Data c =
    let fits = chunk_fits_as c.loop-line.room (drop c.loop-line.used c.args.bytes.now) (Data c.in-Data.line c.in-Data.size) (sym (c.first_chunk.ensures ∙ ap (first_chunk c.loop-line.room) c.behind-rest.ensures) ∙ c.in-Data.is) in
    omega (arith, fits.0, length-drop c.loop-line.used c.args.bytes.now)

pub overflow_add-used-in-Data-2 : goal.overflow_add-used-in-Data-2
overflow_add-used-in-Data-2 c =
    let fits = chunk_fits_as c.loop-line.room (drop c.loop-line.used c.args.bytes.now) (Data c.in-Data.line c.in-Data.size) (sym (c.first_chunk.ensures ∙ ap (first_chunk c.loop-line.room) c.behind-rest.ensures) ∙ c.in-Data.is) in
    omega (arith, fits.0, length-drop c.loop-line.used c.args.bytes.now)

pub loop-line-smaller : goal.loop-line-smaller
loop-line-smaller c =
    let fits = chunk_fits_as c.loop-line.room (drop c.loop-line.used c.args.bytes.now) (Data c.in-Data.line c.in-Data.size) (sym (c.first_chunk.ensures ∙ ap (first_chunk c.loop-line.room) c.behind-rest.ensures) ∙ c.in-Data.is) in
    omega (arith, fits.0, length-drop c.loop-line.used c.args.bytes.now)

pub loop-line-preserved : goal.loop-line-preserved
loop-line-preserved c =
    let bytes = c.args.bytes.now in
    let at = c.loop-line.used in
    let is = sym (c.first_chunk.ensures ∙ ap (first_chunk c.loop-line.room) c.behind-rest.ensures) ∙ c.in-Data.is in
    let text = c.first_bytes.ensures ∙ ap (take c.in-Data.size) (c.behind.ensures ∙ ap (drop c.in-Data.line) c.behind-rest.ensures) in
    let content = c.in_ok-extend_from_slice-in-Data.ensures.items ∙ ap (λ came. c.loop-line.self.content.items ++ came) text in
    let decodes = c.loop-line.invariant.decodes in
    record {
      framing = refl;
      decodes = decodes_further c.args.self.now c.loop-line.self _ bytes c.args.used.now at _ decodes
          (decodes_chunk c.loop-line.self _ bytes at c.loop-line.room c.in-Data.line c.in-Data.size decodes.within c.loop-line.invariant.framing is refl refl content);
    }

pub returns-in-Last-clause-end : goal.returns-in-Last-clause-end
returns-in-Last-clause-end c =
    ap (λ f. content_by f (drop c.loop-line.used c.args.bytes.now)) c.loop-line.invariant.framing
    ∙ chunk_ends c.loop-line.room (drop c.loop-line.used c.args.bytes.now) (Last c.in-Last.len) (sym (c.first_chunk.ensures ∙ ap (first_chunk c.loop-line.room) c.behind-rest.ensures) ∙ c.in-Last.is)

pub returns-in-Refused-clause-end : goal.returns-in-Refused-clause-end
returns-in-Refused-clause-end c =
    ap (λ f. content_by f (drop c.loop-line.used c.args.bytes.now)) c.loop-line.invariant.framing
    ∙ chunk_ends c.loop-line.room (drop c.loop-line.used c.args.bytes.now) (Refused c.in-Refused.status) (sym (c.first_chunk.ensures ∙ ap (first_chunk c.loop-line.room) c.behind-rest.ensures) ∙ c.in-Refused.is)

pub returns-in-Open-clause-end : goal.returns-in-Open-clause-end
returns-in-Open-clause-end c =
    ap (λ f. content_by f (drop c.loop-line.used c.args.bytes.now)) c.loop-line.invariant.framing
    ∙ chunk_ends c.loop-line.room (drop c.loop-line.used c.args.bytes.now) (Open) (sym (c.first_chunk.ensures ∙ ap (first_chunk c.loop-line.room) c.behind-rest.ensures) ∙ c.in-Open.is)
