use Rattle.std.proofs.Common.{sym, false, arith, [], None}
use Rattle.http_front.specs.Kept.{head}
use Rattle.http_front.proofs.KeptLemmas.{has_read_whole}
use Rattle.http_front.proofs.SearchLemmas.{search_start}
use Rattle.http_front.proofs.reader.Reader.over.Goals as goal

pub invariant_of-result : goal.invariant_of-result
invariant_of-result c = record { used = omega arith; knows = search_start c.into_vec.result.items; mark_used = omega arith; mark_len = omega arith; there = tt }

pub returns-clause-read : goal.returns-clause-read
returns-clause-read c =
    has_read_whole (record { bytes = []; stage = head; ended = false; limit = None; is_told = false }) c.args.from c.args.to c.args.bytes c.into_vec.result.items false (sym c.into_vec.ensures)
