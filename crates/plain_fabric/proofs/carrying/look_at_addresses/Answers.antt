use Rattle.plain_fabric.proofs.carrying.look_at_addresses.Goals as goal

pub returns : goal.returns
returns c = (record { ip = c.look_at.ensures.0; port = c.look_at.ensures.1 }, record { ip = c.look_at-2.ensures.0; port = c.look_at-2.ensures.1 })
