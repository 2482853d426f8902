use Rattle.std.proofs.Common.{◌≡◌, ◌-◌, length}
use Rattle.http_front.specs.declared.framing.Framing.TheVariants.{Chunks}
use Rattle.http_front.specs.Arriving.{Decodes}
use Rattle.http_front.proofs.arriving.Arriving.decode_chunks.Given as goal

-- the chunks so far are decoded
abbrev pub invariant-loop-line : goal.invariant-loop-line
invariant-loop-line l = record {
  framing : l.self.framing ≡ Chunks l.room;
  decodes : Decodes l.fn.self l.self l.bytes l.fn.used l.used;
}

abbrev pub decreases-loop-line : goal.decreases-loop-line
decreases-loop-line l = length l.bytes - l.used
