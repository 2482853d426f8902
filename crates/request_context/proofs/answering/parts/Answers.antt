use Rattle.request_context.proofs.Fits.{is_recordable, few_parts}
use Rattle.request_context.proofs.answering.parts.Goals as goal

pub write_reply-requires : goal.write_reply-requires
write_reply-requires g c = rw c.requires (is_recordable _ (g.met.H.Handlers.replies_fit _ _).short)

pub all_parts-requires-clause-few : goal.all_parts-requires-clause-few
all_parts-requires-clause-few g c = rw (c.as_slice.ensures, c.in_ok-bytes.ensures, c.requires) (few_parts _ (g.met.H.Handlers.replies_fit _ _).short)
