-- The core as it begins: all chunks are free, all items are in the free lists in ascending order, and the next stream is 1.
use Rattle.std.specs.Prelude.{ℕ, zero, suc, ◌+◌, ◌*◌, List, [], ◌∷◌, ◌++◌, replicate}
use Rattle.unit_model.specs.Core.{blank, no_seat}
use Rattle.unit_model.specs.Limits.{segment_chunks}
use Rattle.unit_model.specs.declared.machine.Core.{Core}
use Rattle.unit_model.specs.declared.machine.Entry.{Entry}
use Rattle.unit_model.specs.declared.machine.Owner.TheVariants.{Free}
use Rattle.unit_model.specs.declared.machine.Queue.{Queue}
use Rattle.unit_model.specs.declared.shape.Shape.{Shape}

-- the first so many items at the places from start on
abbrev pub first_entries : ℕ → ℕ → List Entry
first_entries start zero = []
first_entries start (suc item) =
    first_entries start item ++ (record { place = start + item; item = item }) ∷ []

abbrev pub fresh_queue : ℕ → ℕ → Queue
fresh_queue start items = record {
  free = first_entries start items;
  next_free = start + items;
  line = [];
  next_line = start;
  items = replicate items blank;
}

abbrev pub opened_core : Shape → Core
opened_core shape = record {
  shape = shape;
  next = 1;
  opened = record { out = 1; back = 1 };
  owners = replicate (segment_chunks * (shape.out_segments + shape.back_segments)) Free;
  queues = fresh_queue shape.start shape.items ∷ replicate shape.engines (fresh_queue shape.start shape.back_items);
  seats = replicate (shape.engines + shape.workers) no_seat;
}
