use Rattle.port_fabric.proofs.Accounts.{may_be_refused}
use Rattle.port_fabric.proofs.fabric.Fabric.refuse_worn.Goals as goal

pub account-requires-clause-may : goal.account-requires-clause-may
account-requires-clause-may g c = let v = c.args.seat.now.seat.me.0 in may_be_refused c.args.place 0 v.seat v c.requires.main c.requires.worn
