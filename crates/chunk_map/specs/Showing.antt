-- Words that tell the looks of a search.
use Rattle.std.specs.Prelude.{ℕ, ◌≡◌, ◌-◌, ◌*◌, ◌/◌, ◌<◌, List, slice_index}
use Rattle.unit_model.specs.Limits.{most_segments, segment_chunks}
use Rattle.chunk_map.specs.Looks.{seen_free}
use Rattle.chunk_map.specs.Words.{is_free}
use Rattle.chunk_map.specs.declared.view.MapEvent.{MapEvent}

-- the words are the looks of the search: a bit is set exactly where its chunk was last seen free
abbrev pub Shows : List ℕ → List MapEvent → Type 0
Shows words log =
    (chunk : ℕ) → chunk < most_segments * segment_chunks
    → is_free (slice_index words) chunk ≡ seen_free log chunk

-- the words are the looks of the search at the chunks of this segment
abbrev pub ShowsSegment : ℕ → List ℕ → List MapEvent → Type 0
ShowsSegment segment words log =
    (chunk : ℕ) → chunk / segment_chunks ≡ segment
    → is_free (slice_index words) (chunk - segment_chunks * segment) ≡ seen_free log chunk
