-- What the handlers of the measurements reply: a million letters for each byte of the request's content, of which 20 count.
use Rattle.std.proofs.Common.{ℕ, ◌*◌, lit≤, List, [], min, length, replicate, arith}
use Rattle.std.specs.List.Sorted.{IsStrictlySortedBy}
use Rattle.std.proofs.lemmas.List.{length-replicate}
use Rattle.std.proofs.lemmas.List.Elements.{All-nil}
use Rattle.unit_types.specs.Handlers.{IsNameList, IsReply, IsWritable}
use Rattle.unit_types.specs.Limits.{IsShortName}
use Rattle.unit_types.specs.Record.{number, length_prefixed, field_bytes, field_list_bytes, reply_record}
use Rattle.unit_types.specs.declared.message.Reply.{Reply}
use Rattle.unit_types.specs.declared.message.Request.{Request}

abbrev pub letters_reply : List ℕ → Request → Reply
letters_reply name request = record {
  status = 200;
  fields = [];
  body = replicate (1000000 * min 20 (length request.body)) 120;
}

pub letters_fit : (name : List ℕ) (request : Request) → IsReply (letters_reply name request)
unfolding reply_record field_list_bytes field_bytes length_prefixed number
letters_fit name request = record {
  final_status = (lit≤ tt, lit≤ tt);
  writable = All-nil IsWritable;
  short = omega (arith, length-replicate {A = ℕ} (1000000 * min 20 (length request.body)) 120);
}

pub no_names_fit : IsNameList []
unfolding IsStrictlySortedBy
no_names_fit = record { ascending = tt; short = All-nil IsShortName }
