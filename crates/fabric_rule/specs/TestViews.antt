-- Views that tests name.
use Rattle.std.specs.Prelude.{ℕ, List, []}
use Rattle.app_queue.specs.declared.side.Side.TheVariants.{Free, Line}
use Rattle.app_queue.specs.declared.view.ItemEvent.TheVariants.{PartNoted, RunNoted}
use Rattle.chunk_map.specs.declared.view.MapEvent.TheVariants.{SawOpen}
use Rattle.nncq_ring.specs.declared.view.RingEvent.TheVariants.{SawEntry, SawHead, SawTail}
use Rattle.port_message.specs.Words.{numbers_of}
use Rattle.unit_model.specs.declared.shape.Shape.{Shape}
use Rattle.fabric_rule.specs.Claiming.{with_chunk}
use Rattle.fabric_rule.specs.Drawing.{with_drawn}
use Rattle.fabric_rule.specs.Opening.{fresh_ledger, ledger_of}
use Rattle.fabric_rule.specs.Seats.{fresh_main, handed, together, without_works, works_of}
use Rattle.fabric_rule.specs.Steps.{with_got, with_popped, with_posted, with_put, with_request}
use Rattle.fabric_rule.specs.Storing.{with_part, with_run}
use Rattle.fabric_rule.specs.Views.{logged}
use Rattle.fabric_rule.specs.declared.event.FabricEvent.TheVariants.{AtItem, AtMap, AtRing, SawNext}
use Rattle.fabric_rule.specs.declared.event.Segments.TheVariants.{Out}
use Rattle.fabric_rule.specs.declared.view.FabricView.{FabricView}

-- engine 0 has drawn stream 1, and done nothing else
abbrev pub one_drawn : Shape → FabricView
one_drawn shape = with_drawn 1 (fresh_ledger 0) (fresh_main shape 0)

-- ---- a request of 77 bytes in the plain shape, step by step

abbrev pub plain_shape : Shape
plain_shape = record {
  items = 8;
  back_items = 8;
  out_segments = 1;
  back_segments = 1;
  engines = 1;
  workers = 1;
  start = 8;
}

-- with chunk 0
abbrev pub with_a_chunk : FabricView
with_a_chunk = with_chunk plain_shape Out 0 (logged (AtMap Out (SawOpen 1)) (one_drawn plain_shape))

-- with item 0 of the line
abbrev pub with_an_item : FabricView
with_an_item =
    with_got 0 0 8 (logged (AtRing 0 Free (SawEntry 8 8)) (logged (AtRing 0 Free (SawHead 8)) with_a_chunk))

-- whose run has 77 bytes from chunk 0 on, and whose part is the poster's number
abbrev pub with_words : FabricView
with_words = with_part 0 0 0 (with_run 0 0 77 with_an_item)

-- with the stream posted under this record
abbrev pub with_a_post : List ℕ → FabricView
with_a_post text = with_posted 0 8 1 77 text [] (ledger_of with_words) with_words

-- and in the line
abbrev pub with_a_request : List ℕ → FabricView
with_a_request text =
    with_put 0 Line 0 8 (logged (AtRing 0 Line (SawEntry 8 0)) (logged (AtRing 0 Line (SawTail 8)) (with_a_post text)))

-- ---- two engines, of which the second one's notes are stale

abbrev pub pair_shape : Shape
pair_shape = record {
  items = 8;
  back_items = 8;
  out_segments = 2;
  back_segments = 1;
  engines = 2;
  workers = 1;
  start = 8;
}

-- engine 0 has drawn stream 1, and engine 1 stream 2 after it found that
abbrev pub drawn_first : FabricView
drawn_first = one_drawn pair_shape

abbrev pub drawn_second : FabricView
drawn_second = with_drawn 2 (fresh_ledger 1) (logged (SawNext 2) (fresh_main pair_shape 1))

-- both saw item 0 first in the free ring, and the second one got item 1 after it found the head at 9
abbrev pub with_free_item : FabricView → FabricView
with_free_item v = logged (AtRing 0 Free (SawEntry 8 8)) (logged (AtRing 0 Free (SawHead 8)) v)

abbrev pub got_first : FabricView
got_first = with_got 0 0 8 (with_free_item drawn_first)

abbrev pub got_second : FabricView
got_second =
    with_got 0 1 9 (logged (AtRing 0 Free (SawEntry 9 9)) (logged (AtRing 0 Free (SawHead 9)) (with_free_item drawn_second)))

-- both saw the free ring's end at 16, where the second one found item 0
abbrev pub with_free_end : FabricView → FabricView
with_free_end v = logged (AtRing 0 Free (SawEntry 16 8)) (logged (AtRing 0 Free (SawTail 16)) v)

abbrev pub gave_first : FabricView
gave_first = with_put 0 Free 0 16 (with_free_end got_first)

abbrev pub missed_second : FabricView
missed_second = logged (AtRing 0 Free (SawEntry 16 16)) (with_free_end got_second)

-- ---- a worker takes the request

-- worker 1 has popped item 0
abbrev pub popped_request : FabricView
popped_request =
    with_popped 0 0 8 (fresh_ledger 1) (logged (AtRing 0 Line (SawEntry 8 8)) (logged (AtRing 0 Line (SawHead 8)) (fresh_main plain_shape 1)))

-- and noted its run and its poster
abbrev pub noted_request : FabricView
noted_request = logged (AtItem 0 (PartNoted 0 0)) (logged (AtItem 0 (RunNoted 0 77)) popped_request)

-- the state that has the item, with the lists
abbrev pub held_request : FabricView
held_request = together (works_of (handed noted_request)) (without_works (handed noted_request))

-- the stream is taken with this record, with the chunk and the item
abbrev pub taken_request : List ℕ → FabricView
taken_request text = with_request 0 1 0 (numbers_of 77) text (ledger_of held_request) held_request

-- and the item is given back
abbrev pub given_request : List ℕ → FabricView
given_request text = with_put 0 Free 0 16 (with_free_end (taken_request text))
