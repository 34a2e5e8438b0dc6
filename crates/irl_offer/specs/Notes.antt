-- How long what a host's robots file said is used (RFC 9309, section 2.4: no longer than 24 hours).
use Rattle.std.specs.Prelude.{ℕ, ◌+◌, ◌<◌, ◌≤◌}

-- how many milliseconds a note is used
abbrev pub note_life : ℕ
note_life = 86400000

-- a note of one moment is used at another, both in milliseconds
abbrev pub IsInUse : ℕ → ℕ → Type 0
IsInUse noted moment = (noted ≤ moment) × (moment < noted + note_life)
