-- A body in chunks (RFC 9112, section 7.1). What a chunk line is, the grammar of `httparse` says.
use Rattle.std.specs.Prelude.{◌≡◌, ◌≢◌, ℕ, ◌<◌, ◌≤◌, ◌⊎◌, List, [], ◌∷◌, ◌++◌, length}
use Rattle.std.specs.List.{flat_map, AllByRecursion}
use Rattle.httparse.specs.Ascii.{carriage_return, line_feed, crlf_bytes}
use Rattle.httparse.specs.Grammar.{ChunkLine, IsChunkLine, print_chunk_line, chunk_size, HasNoChunkLine, NeverHasChunkLine}

-- the most bytes of a chunk line, with its line end
abbrev pub max_chunk_line : ℕ
max_chunk_line = 256

-- a chunk line that is short enough
pub record IsShortLine (line : ChunkLine) : Type 0 where
  pub valid : IsChunkLine line
  pub short : length (print_chunk_line line) ≤ max_chunk_line

-- a chunk: its line, and its bytes
pub record Chunk : Type 0 where
  pub line : ChunkLine
  pub bytes : List ℕ

-- there are as many bytes as the line says, and some
pub record IsChunk (chunk : Chunk) : Type 0 where
  pub line : IsShortLine chunk.line
  pub some : 0 < length chunk.bytes
  pub size : length chunk.bytes ≡ chunk_size chunk.line

-- a line end stands behind the bytes
abbrev pub print_chunk : Chunk → List ℕ
print_chunk chunk = print_chunk_line chunk.line ++ (chunk.bytes ++ crlf_bytes)

abbrev pub print_chunks : List Chunk → List ℕ
print_chunks chunks = flat_map print_chunk chunks

-- what chunks hold
abbrev pub content_of : List Chunk → List ℕ
content_of chunks = flat_map (λ (chunk : Chunk). chunk.bytes) chunks

-- Chunks and then the line of the last chunk, whose size is 0: the body is whole. The trailer behind it is not read.
pub record EndsChunks (bytes content : List ℕ) : Type 0 where
  pub chunks : List Chunk
  pub last : ChunkLine
  pub valid : AllByRecursion IsChunk chunks
  pub line : IsShortLine last
  pub zero : chunk_size last ≡ 0
  pub whole : bytes ≡ print_chunks chunks ++ print_chunk_line last
  pub content_is : content ≡ content_of chunks

-- the bytes end within the bytes of a chunk, or right behind them
pub record EndsInChunk (bytes content : List ℕ) : Type 0 where
  pub chunks : List Chunk
  pub line : ChunkLine
  pub part : List ℕ
  pub valid : AllByRecursion IsChunk chunks
  pub short : IsShortLine line
  pub some : 0 < length part
  pub within : length part ≤ chunk_size line
  pub whole : bytes ≡ print_chunks chunks ++ (print_chunk_line line ++ part)
  pub content_is : content ≡ content_of chunks ++ part

-- this begins no chunk line: no bytes can follow that make it one, or it isn't whole in the bytes that a line may have
abbrev pub IsNoLine : List ℕ → Type 0
IsNoLine bytes = NeverHasChunkLine bytes ⊎ ((max_chunk_line ≤ length bytes) × HasNoChunkLine bytes)

-- the first byte that isn't the one of CR LF due
abbrev pub BreaksLineEnd : List ℕ → Type 0
BreaksLineEnd [] = ⊥
BreaksLineEnd (b ∷ []) = b ≢ carriage_return
BreaksLineEnd (b ∷ c ∷ bytes) = (b ≡ carriage_return) × (c ≢ line_feed) × (bytes ≡ [])

-- a line and as many bytes as it says, and then no line end
pub record HasNoEnd (bytes : List ℕ) : Type 0 where
  pub line : ChunkLine
  pub part : List ℕ
  pub behind : List ℕ
  pub short : IsShortLine line
  pub some : 0 < length part
  pub size : length part ≡ chunk_size line
  pub whole : bytes ≡ print_chunk_line line ++ (part ++ behind)
  pub broken : BreaksLineEnd behind

-- behind chunks stands none
pub record BreaksChunks (bytes : List ℕ) : Type 0 where
  pub chunks : List Chunk
  pub behind : List ℕ
  pub valid : AllByRecursion IsChunk chunks
  pub whole : bytes ≡ print_chunks chunks ++ behind
  pub broken : IsNoLine behind ⊎ HasNoEnd behind
