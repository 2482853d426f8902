-- What a reader keeps, by its fields.
use Rattle.std.specs.Prelude.{ℕ, ◌≤◌, List, length, take, drop, Option, Some, None}
use Rattle.std.specs.Bool.{⊤}
use Rattle.http_front.specs.declared.arriving.Arriving.{Arriving}
use Rattle.http_front.specs.declared.arriving.Came.{Came}
use Rattle.http_front.specs.declared.progress.Progress.{Progress}
use Rattle.http_front.specs.declared.progress.Progress.TheVariants as At
use Rattle.http_front.specs.declared.reader.Place.{Place}
use Rattle.http_front.specs.declared.reader.Reader.TheInside.{Inside}
use Rattle.http_front.specs.Arriving.{request_with}
use Rattle.http_front.specs.Progress.{Knows}
use Rattle.http_front.specs.Kept.{Stage, head, content, Mark, Kept}

abbrev pub stage_of : Progress → Option Arriving → Stage
stage_of (At.Head s) arriving = head
stage_of At.Content None = head
stage_of At.Content (Some a) = content (request_with a) a.framing

-- where so much of the content had come
abbrev pub stage_at : Option Came → Option Arriving → Stage
stage_at None arriving = head
stage_at (Some came) None = head
stage_at (Some came) (Some a) = content (record a.request { body = take came.len a.content.items }) came.framing

abbrev pub mark_of : List ℕ → Option Arriving → Place → Mark
mark_of bytes arriving place = record {
  bytes = drop place.used (take place.len bytes);
  stage = stage_at place.came arriving;
  ended = place.ended;
  limit = place.limit;
  is_told = place.is_told;
}

abbrev pub kept_of : Inside → Kept
kept_of r = record {
  from = r.from;
  to = r.to;
  bytes = drop r.used r.bytes.items;
  stage = stage_of r.progress r.arriving;
  ended = r.ended;
  limit = r.limit;
  is_told = r.is_told;
  mark = mark_of r.bytes.items r.arriving r.mark;
}

-- what had come is still there
abbrev pub IsThere : Option Came → Option Arriving → Type 0
IsThere None arriving = ⊤
IsThere (Some came) None = ⊤
IsThere (Some came) (Some a) = came.len ≤ length a.content.items

pub record IsSound (r : Inside) : Type 0 where
  pub used : r.used ≤ length r.bytes.items
  pub knows : Knows r.progress (drop r.used r.bytes.items)
  pub mark_used : r.mark.used ≤ r.mark.len
  pub mark_len : r.mark.len ≤ length r.bytes.items
  pub there : IsThere r.mark.came r.arriving
