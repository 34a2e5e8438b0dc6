-- What the steps of reading a body answer of the bytes that they look at.
use Rattle.std.specs.Prelude.{◌≡◌, ℕ, ◌+◌, ◌<◌, ◌≤◌, List, [], ◌∷◌, ◌++◌, length, take, ◌-◌, ◌==◌, if◌then◌else◌}
use Rattle.std.specs.List.{AllByRecursion}
use Rattle.httparse.specs.Grammar.{ChunkLine, print_chunk_line, chunk_size, HasNoChunkLine, NeverHasChunkLine}
use Rattle.irl_base.specs.Limits.{max_page, max_robots}
use Rattle.irl_offer.specs.declared.reply.Want.{Want}
use Rattle.irl_offer.specs.declared.reply.Want.TheVariants.{Page, Robots}
use Rattle.irl_http.specs.declared.chunks.Due.{Due}
use Rattle.irl_http.specs.declared.chunks.Due.TheVariants as due
use Rattle.irl_http.specs.declared.chunks.Progress.{Progress}
use Rattle.irl_http.specs.declared.chunks.Progress.TheVariants as progress
use Rattle.irl_http.specs.declared.chunks.Parsed.{Parsed}
use Rattle.irl_http.specs.declared.chunks.Parsed.TheVariants as parsed
use Rattle.irl_http.specs.declared.fields.Plan.{Plan}
use Rattle.irl_http.specs.declared.fields.Plan.TheVariants as plan
use Rattle.irl_http.specs.Chunks.{Chunk, IsChunk, IsShortLine, print_chunks, content_of, EndsChunks, EndsInChunk, BreaksChunks, IsNoLine, max_chunk_line}
use Rattle.irl_http.specs.Reply.{EndsInBody, Takes}

-- as many bytes of a body as are looked at: one more than a page has at most, or as many as are kept of a robots file
abbrev pub most_of : Want → ℕ
most_of Page = max_page + 1
most_of Robots = max_robots

-- behind a head whose body is read so, the bytes show no answer
pub record QuietBody (want : Want) (how : Plan) (rest : List ℕ) : Type 0 where
  pub no_reply : (body : List ℕ) → ¬ Takes want how rest body
  pub unbroken : how ≡ plan.Chunked → ¬ BreaksChunks rest
  pub short : (part : List ℕ) → want ≡ Page → EndsInBody how rest part → length part ≤ max_page

-- fewer than so many of them show none
abbrev pub QuietBelow : Want → Plan → List ℕ → ℕ → Type 0
QuietBelow want how rest n = (m : ℕ) → m < n → QuietBody want how (take m rest)

-- Chunks, and then a chunk's line and bytes of which so many are still to come, and what stands behind them.
pub record InChunk (left : ℕ) (behind body done : List ℕ) : Type 0 where
  pub chunks : List Chunk
  pub line : ChunkLine
  pub part : List ℕ
  pub valid : AllByRecursion IsChunk chunks
  pub short : IsShortLine line
  pub some : 0 < chunk_size line
  pub size : length part + left ≡ chunk_size line
  pub whole : done ≡ print_chunks chunks ++ (print_chunk_line line ++ (part ++ behind))
  pub body_is : body ≡ content_of chunks ++ part

-- whole chunks
pub record AfterChunks (body done : List ℕ) : Type 0 where
  pub chunks : List Chunk
  pub valid : AllByRecursion IsChunk chunks
  pub whole : done ≡ print_chunks chunks
  pub body_is : body ≡ content_of chunks

-- what is due behind the bytes that were taken
abbrev pub IsDue : Due → List ℕ → List ℕ → Type 0
IsDue due.Line body done = AfterChunks body done
IsDue (due.Part left) body done = (0 < left) × InChunk left [] body done
IsDue due.CarriageReturn body done = InChunk 0 [] body done
IsDue due.LineFeed body done = InChunk 0 (13 ∷ []) body done

-- what is due where so many bytes of a chunk were left and so many came
abbrev pub due_after : ℕ → ℕ → Due
due_after left count = if left == count then due.CarriageReturn else due.Part (left - count)

-- with fewer than so many of the bytes ahead those that were taken show no answer
abbrev pub QuietAhead : Want → List ℕ → List ℕ → ℕ → Type 0
QuietAhead want done ahead n = (m : ℕ) → m < n → QuietBody want plan.Chunked (done ++ take m ahead)

-- how far a step moved among so many bytes ahead, and how long the body is then
abbrev pub Moves : Want → ℕ → ℕ → Progress → Type 0
Moves want ahead body (progress.Taken n) = (0 < n) × (n ≤ ahead) × (body < most_of want)
Moves want ahead body progress.Open = body < most_of want
Moves want ahead body (progress.Whole n) = (n ≤ ahead) × (body < most_of want)
Moves want ahead body (progress.Full n) = (n ≤ ahead) × (body ≡ most_of want)
Moves want ahead body (progress.Bad n) = n ≤ ahead

-- what a step came to, by what is due and the body then
abbrev pub StepAs : Want → List ℕ → List ℕ → Due → List ℕ → Progress → Type 0
StepAs want done ahead next body (progress.Taken n) = QuietAhead want done ahead (n + 1)
    × IsDue next body (done ++ take n ahead)
StepAs want done ahead next body progress.Open =
    QuietAhead want done ahead (length ahead + 1) × IsDue next body done × (length ahead < max_chunk_line)
StepAs want done ahead next body (progress.Whole n) = QuietAhead want done ahead n
    × EndsChunks (done ++ take n ahead) body
StepAs want done ahead next body (progress.Full n) = QuietAhead want done ahead n
    × EndsInChunk (done ++ take n ahead) body
StepAs want done ahead next body (progress.Bad n) = QuietAhead want done ahead n × BreaksChunks (done ++ take n ahead)

-- how far it moved after so many bytes were taken
abbrev pub MovesOn : Want → ℕ → ℕ → ℕ → Progress → Type 0
MovesOn want ahead at body (progress.Taken n) = ⊥
MovesOn want ahead at body progress.Open = (at ≤ ahead) × (body < most_of want)
MovesOn want ahead at body (progress.Whole n) = (at + n ≤ ahead) × (body < most_of want)
MovesOn want ahead at body (progress.Full n) = (at + n ≤ ahead) × (body ≡ most_of want)
MovesOn want ahead at body (progress.Bad n) = at + n ≤ ahead

-- so many bytes ahead were taken, and the next step came to this
abbrev pub AdvanceAs : Want → List ℕ → List ℕ → Due → List ℕ → ℕ → Progress → Type 0
AdvanceAs want done ahead next body at (progress.Taken n) = ⊥
AdvanceAs want done ahead next body at progress.Open =
    QuietAhead want done ahead (length ahead + 1) × IsDue next body (done ++ take at ahead)
    × (length ahead < at + max_chunk_line)
AdvanceAs want done ahead next body at (progress.Whole n) = StepAs want done ahead next body (progress.Whole (at + n))
AdvanceAs want done ahead next body at (progress.Full n) = StepAs want done ahead next body (progress.Full (at + n))
AdvanceAs want done ahead next body at (progress.Bad n) = StepAs want done ahead next body (progress.Bad (at + n))

-- what a front of bytes is as a chunk line
abbrev pub ParsesLine : List ℕ → Parsed → Type 0
ParsesLine bytes (parsed.Whole length_of size) =
    (line : ChunkLine) × IsShortLine line × (take length_of bytes ≡ print_chunk_line line)
    × (length_of ≡ length (print_chunk_line line)) × (length_of ≤ length bytes) × (size ≡ chunk_size line)
ParsesLine bytes parsed.Open = (length bytes < max_chunk_line) × HasNoChunkLine bytes × ¬ NeverHasChunkLine bytes
ParsesLine bytes (parsed.Bad n) =
    (0 < n)
    × (n ≤ length bytes)
    × (n ≤ max_chunk_line)
    × (HasNoChunkLine (take (n - 1) bytes) × ¬ NeverHasChunkLine (take (n - 1) bytes))
    × IsNoLine (take n bytes)
