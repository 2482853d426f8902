use Rattle.app_queue.proofs.queue.AppQueue.close.Goals as goal

pub returns-clause-last : goal.returns-clause-last
returns-clause-last c =
    let end = c.close_with.ensures.values.2 in
    record { last = end.0; meets = end.1.0; view = end.1.1; words = end.2 }
