use Rattle.std.proofs.Common.{length}
use Rattle.plain_fabric.proofs.schedule.+send_parts.Given as goal

abbrev pub decreases-send_parts : goal.decreases-send_parts
decreases-send_parts l = length l.sizes.now
