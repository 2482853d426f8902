-- What a reader knows of the front of its bytes while it needs more, so that it doesn't read them anew.
use Rattle.std.specs.Prelude.{ℕ, ◌≡◌, ◌≢◌, ◌+◌, ◌<◌, ◌≤◌, Bool, true, false, List, ◌++◌, length, drop}
use Rattle.std.specs.Bool.{⊤}
use Rattle.std.specs.Option.{option_map}
use Rattle.std.specs.List.{AllByRecursion}
use Rattle.http_front.specs.declared.search.Search.{Search}
use Rattle.http_front.specs.declared.arriving.Arriving.{Arriving}
use Rattle.http_front.specs.declared.arriving.End.{End}
use Rattle.http_front.specs.declared.arriving.End.TheVariants as End
use Rattle.http_front.specs.declared.next_unit.Ahead.{Ahead}
use Rattle.http_front.specs.declared.next_unit.Ahead.TheVariants as Ahead
use Rattle.http_front.specs.declared.progress.Progress.{Progress}
use Rattle.http_front.specs.declared.progress.Progress.TheVariants as At
use Rattle.http_front.specs.Head.{is_line_feed}
use Rattle.http_front.specs.Front.{blank_len, block_len, head_begun}
use Rattle.unit_types.specs.Limits.{head_limit}
use Rattle.unit_types.specs.declared.message.Request.{Request}
use Rattle.http_front.specs.Arriving.{arriving_unit}
use Rattle.http_front.specs.Chunks.{content_behind}
use Rattle.http_front.specs.Content.{content_of, content_by}
use Rattle.http_front.specs.NextUnit.{NextUnit, next_unit}
use Rattle.http_front.specs.Stands.{unit_past}

-- ---- the search for the end of a head

-- the bytes are empty lines, then whole lines of which the first is not empty and none ends a block, and then the begin of a
-- line whose LF was not found yet; what follows was not looked at
pub record IsSearched (s : Search) (bytes : List ℕ) : Type 0 where
  pub blank : List ℕ
  pub lines : List ℕ
  pub begun : List ℕ
  pub rest : List ℕ
  pub whole : bytes ≡ blank ++ (lines ++ (begun ++ rest))
  pub blank_at : s.blank ≡ length blank
  pub line_at : s.line ≡ length blank + length lines
  pub searched_at : s.searched ≡ length blank + length lines + length begun
  pub drops : (more : List ℕ) → blank_len (blank ++ more) ≡ length blank + blank_len more
  pub starts : length lines ≢ 0 → (more : List ℕ) → blank_len (lines ++ more) ≡ 0
  pub passes : (more : List ℕ) → block_len (lines ++ more) ≡ option_map (λ n. length lines + n) (block_len more)
  pub lacks : AllByRecursion (λ b. is_line_feed b ≡ false) begun

-- a search that has not begun
abbrev pub start : Search
start = record { blank = 0; line = 0; searched = 0 }

-- all bytes were gone through without news: they hold no whole head, and are too few for one that is too long
abbrev pub SearchedOn : Search → List ℕ → Type 0
SearchedOn s bytes = IsSearched s bytes × (s.searched ≡ length bytes) × (length bytes < s.blank + head_limit)

-- what a reader knows of its bytes
abbrev pub Knows : Progress → List ℕ → Type 0
Knows (At.Head s) bytes = IsSearched s bytes
Knows At.Content bytes = ⊤

-- ---- what a reading of all bytes lets be known

-- behind so many bytes the request arrives whose head stands at their front, however the input goes on
pub record Opens (len : ℕ) (a : Arriving) (bytes : List ℕ) (limit : ℕ) : Type 0 where
  pub within : len ≤ length bytes
  pub complete : head_begun bytes ≡ true
  pub goes_on : (more : List ℕ) (ended : Bool)
      → next_unit (bytes ++ more) ended limit ≡ unit_past len (arriving_unit a (drop len bytes ++ more) ended)

-- given the limit of the content
abbrev pub Tells : Ahead → List ℕ → ℕ → Type 0
Tells (Ahead.Head s) bytes limit = IsSearched s bytes
Tells (Ahead.Content len a) bytes limit = Opens len a bytes limit

-- of a request that was read so far, behind so many bytes
abbrev pub ahead_of : End → ℕ → Arriving → Ahead
ahead_of End.Open used a = Ahead.Content used a
ahead_of _ used a = Ahead.Head start

-- the same of a request whose head has so many bytes with those before it, by its content
pub record OpensContent (len : ℕ) (a : Arriving) (used : ℕ) (rest : List ℕ) (limit : ℕ) (r : Request) : Type 0 where
  pub passed : ℕ
  pub place : len ≡ used + passed
  pub within : passed ≤ length rest
  pub request : a.request ≡ r
  pub goes_on : (more : List ℕ)
      → content_of limit r.fields (rest ++ more) ≡ content_behind a.content.items passed (content_by a.framing (drop passed rest ++ more))

abbrev pub TellsContent : Ahead → ℕ → List ℕ → ℕ → Request → Type 0
TellsContent (Ahead.Head s) used rest limit r = s ≡ start
TellsContent (Ahead.Content len a) used rest limit r = OpensContent len a used rest limit r

-- the same of a head that has so many bytes with those before it, by the unit that it makes with the bytes behind it
pub record OpensBehind (len : ℕ) (a : Arriving) (used : ℕ) (rest : List ℕ) (unit : List ℕ → Bool → NextUnit) : Type 0 where
  pub passed : ℕ
  pub place : len ≡ used + passed
  pub within : passed ≤ length rest
  pub goes_on : (more : List ℕ) (ended : Bool)
      → unit (rest ++ more) ended ≡ unit_past len (arriving_unit a (drop passed rest ++ more) ended)

abbrev pub TellsBehind : Ahead → ℕ → List ℕ → (List ℕ → Bool → NextUnit) → Type 0
TellsBehind (Ahead.Head s) used rest unit = s ≡ start
TellsBehind (Ahead.Content len a) used rest unit = OpensBehind len a used rest unit
