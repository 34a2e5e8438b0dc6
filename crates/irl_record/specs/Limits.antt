-- The greatest length of a tape's suffixes, in bytes.
use Rattle.std.specs.Prelude.{ℕ}

-- of the names joined by line feeds
abbrev pub max_suffixes : ℕ
max_suffixes = 4194304
