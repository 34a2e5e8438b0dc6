-- Optional white space around a value: spaces and tabs (RFC 9110, section 5.6.3).
use Rattle.std.specs.Prelude.{ℕ, List, [], ◌∷◌, reverse, Bool, ◌||◌, ◌==◌, if◌then◌else◌}

abbrev pub is_blank : ℕ → Bool
is_blank c = (c == 32) || (c == 9)

-- without the white space at the front
abbrev pub trim_start : List ℕ → List ℕ
trim_start [] = []
trim_start (c ∷ cs) = if is_blank c then trim_start cs else c ∷ cs

-- without the white space at the end
abbrev pub trim_end : List ℕ → List ℕ
trim_end cs = reverse (trim_start (reverse cs))

-- without either
abbrev pub trim : List ℕ → List ℕ
trim cs = trim_end (trim_start cs)
