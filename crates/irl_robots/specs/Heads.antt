-- What is looked at of a pattern before the pattern itself.
use Rattle.std.specs.Prelude.{ℕ, ◌+◌, ◌*◌, ◌%◌, List, map, take, length, Bool, ◌||◌, ◌==◌}
use Rattle.std.specs.List.{before_first, fold}
use Rattle.irl_robots.specs.declared.heads.Head.{Head}
use Rattle.irl_robots.specs.declared.rule.PathRule.{PathRule}

-- the octets of a pattern that may not stand for themselves
abbrev pub is_special : ℕ → Bool
is_special c = (c == 42) || (c == 36)

-- at most 64 octets of a pattern, before the first such
abbrev pub front_of : List ℕ → List ℕ
front_of pattern = take 64 (before_first is_special pattern)

abbrev pub sum_after : ℕ → ℕ → ℕ
sum_after sum octet = (sum * 31 + octet) % 4294967296

-- a sum of octets that tells most of them from others
unfoldable pub sum_of : List ℕ → ℕ
sum_of octets = fold sum_after 0 octets

-- their number and their sum
unfoldable pub head_of : List ℕ → Head
head_of pattern = record { len = length (front_of pattern); sum = sum_of (front_of pattern) }

abbrev pub heads_of : List PathRule → List Head
heads_of rules = map (λ (rule : PathRule). head_of rule.pattern) rules
