use Rattle.std.proofs.Common.{◌∙◌, ap, sym, Some}
use Rattle.http_front.proofs.ChunkLineLemmas.{chunk_size-reads, chunk_size-found, chunk_size-none}
use Rattle.http_front.proofs.laws.laws_of_chunk_lines.Goals as goal

pub returns-clause-some : goal.returns-clause-some
returns-clause-some c line size = (chunk_size-found line size, λ x. chunk_size-reads line x.0 x.1 ∙ ap Some x.2)

pub returns-clause-none : goal.returns-clause-none
returns-clause-none c line = (
  λ none l reads. cc (sym none ∙ chunk_size-reads line l reads),
  chunk_size-none line,
)
