-- The greatest lengths of what is kept of the outside, in bytes.
use Rattle.std.specs.Prelude.{ℕ}

-- of a line, of an auxiliary text and of a URL
abbrev pub max_text : ℕ
max_text = 2048

-- of a page's body
abbrev pub max_page : ℕ
max_page = 1048576

-- of what is kept of a robots file
abbrev pub max_robots : ℕ
max_robots = 512000
