use Rattle.std.proofs.Common.{◌≡◌, ◌++◌, take}
use Rattle.request_context.specs.Collecting.{all_bytes}
use Rattle.request_context.proofs.collector.put_texts.Given as goal

abbrev pub invariant-loop-text : goal.invariant-loop-text
invariant-loop-text l = l.out.items ≡ l.fn.out.items ++ all_bytes (take l.text-index l.texts)
