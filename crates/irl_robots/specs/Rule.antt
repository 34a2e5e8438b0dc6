-- Which rule holds for a path (RFC 9309, section 2.2.2).
use Rattle.std.specs.Prelude.{◌≡◌, ◌⊎◌, ℕ, ◌<◌, List, length, Bool, true, false, not, ◌&&◌, nat_lt, if◌then◌else◌, Option, Some, None, codes}
use Rattle.std.specs.List.{Contains, fold}
use Rattle.std.specs.Option.{option_map}
use Rattle.std.specs.Str.{bytes_eq}
use Rattle.irl_robots.specs.declared.rule.PathRule.{PathRule}
use Rattle.irl_robots.specs.Matching.{matches, Matches}
use Rattle.irl_robots.specs.Normal.{normal}

-- The first rule is obeyed before the second: its pattern has more octets, or as many and it allows where the
-- other doesn't, or neither of these tells them apart and it stands earlier. RFC 9309 asks for the most octets and
-- prefers allow; that the earlier line is the one reported is this profile's choice.
abbrev pub WinsOver : PathRule → PathRule → Type 0
WinsOver x y =
    (length y.pattern < length x.pattern)
    ⊎ ((length x.pattern ≡ length y.pattern) × (((x.allow ≡ true) × (y.allow ≡ false))
    ⊎ ((x.allow ≡ y.allow) × (x.line < y.line))))

-- a matching rule over which no matching rule wins
pub record IsBest (rules : List PathRule) (path : List ℕ) (best : PathRule) : Type 0 where
  pub among : Contains rules best
  pub matching : Matches best.pattern path
  pub unbeaten : (other : PathRule) → Contains rules other → Matches other.pattern path → WinsOver other best → ⊥

-- the line and the verdict of such a rule
abbrev pub IsVerdict : List PathRule → List ℕ → ℕ × Bool → Type 0
IsVerdict rules path answer = (best : PathRule) × IsBest rules path best × (answer ≡ (best.line, best.allow))

abbrev pub NoneMatches : List PathRule → List ℕ → Type 0
NoneMatches rules path = (other : PathRule) → Contains rules other → Matches other.pattern path → ⊥

-- the same as tests: whether the first rule is obeyed before the second
abbrev pub wins_over : PathRule → PathRule → Bool
wins_over x y =
    if nat_lt (length y.pattern) (length x.pattern)
    then true
    else (if nat_lt (length x.pattern) (length y.pattern)
    then false
    else (if x.allow && not y.allow
    then true
    else (if y.allow && not x.allow
    then false
    else nat_lt x.line y.line)))

-- the best rule so far, after one rule more
abbrev pub best_after : List ℕ → Option PathRule → PathRule → Option PathRule
best_after path None x = if matches x.pattern path then Some x else None
best_after path (Some best) x = if wins_over x best && matches x.pattern path then Some x else Some best

-- the best rule for a path in its normal form
abbrev pub best_rule : List PathRule → List ℕ → Option PathRule
best_rule rules path = fold (best_after path) None rules

-- The line of the rule that holds for a target, as it is written, and whether it allows. The robots file itself has
-- none (RFC 9309, section 2.2.2).
unfoldable pub rule : List PathRule → List ℕ → Option (ℕ × Bool)
rule rules target =
    if bytes_eq target (codes "/robots.txt") then None else option_map (λ (x : PathRule). (x.line, x.allow))
    (best_rule rules (normal target))

-- what no rule forbids is allowed
abbrev pub allows : Option (ℕ × Bool) → Bool
allows None = true
allows (Some answer) = answer.1
