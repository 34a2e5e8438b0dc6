-- The groups of a robots file and the rules that an agent obeys (RFC 9309, sections 2.2 and 2.2.1).
use Rattle.std.specs.Prelude.{ℕ, ◌+◌, List, [], ◌∷◌, map, Bool, ◌&&◌, ◌||◌, ◌==◌, not, if◌then◌else◌, codes}
use Rattle.std.specs.Char.{is_ascii_alphabetic}
use Rattle.std.specs.List.{before_first, list_any, filter, flat_map}
use Rattle.std.specs.Str.{bytes_eq, str_eq_ignore_ascii_case}
use Rattle.irl_robots.specs.declared.rule.PathRule.{PathRule}
use Rattle.irl_robots.specs.Lines.{Line, Agent, Access, Other, text_of, lines, line_of}
use Rattle.irl_robots.specs.Matching.{is_empty}
use Rattle.irl_robots.specs.Normal.{normal}

-- an allow (true) or disallow line with its number and its value
pub record RuleLine : Type 0 where
  pub line : ℕ
  pub allow : Bool
  pub value : List ℕ

-- the values of user-agent lines, and the allow and disallow lines for them
pub record Group : Type 0 where
  pub agents : List (List ℕ)
  pub entries : List RuleLine

-- the allow and disallow lines before the first user-agent line, and the groups from there on
pub record Outline : Type 0 where
  pub before : List RuleLine
  pub groups : List Group

-- an allow or disallow line comes before the rest
abbrev pub with_entry : RuleLine → Outline → Outline
with_entry entry rest = record { before = entry ∷ rest.before; groups = rest.groups }

-- A user-agent line comes before the rest. Where allow and disallow lines follow, it begins a group with them; else it
-- joins the group that begins next.
abbrev pub opened : List ℕ → List RuleLine → List Group → List Group
opened agent (entry ∷ entries) groups = record { agents = agent ∷ []; entries = entry ∷ entries } ∷ groups
opened agent [] [] = record { agents = agent ∷ []; entries = [] } ∷ []
opened agent [] (group ∷ groups) = record { agents = agent ∷ group.agents; entries = group.entries } ∷ groups

abbrev pub with_agent : List ℕ → Outline → Outline
with_agent agent rest = record { before = []; groups = opened agent rest.before rest.groups }

-- The outline of lines of which the first has this number. Lines with other fields end nothing.
unfoldable pub outline_of : ℕ → List Line → Outline
outline_of number [] = record { before = []; groups = [] }
outline_of number (Agent value ∷ rest) = with_agent value (outline_of (number + 1) rest)
outline_of number (Access allow value ∷ rest) =
    with_entry (record { line = number; allow = allow; value = value }) (outline_of (number + 1) rest)
outline_of number (Other ∷ rest) = outline_of (number + 1) rest

-- the groups of a file
abbrev pub groups_of : List ℕ → List Group
groups_of file = (outline_of 1 (map line_of (lines (text_of file)))).groups

-- the octets of product tokens
abbrev pub is_token_octet : ℕ → Bool
is_token_octet c = is_ascii_alphabetic c || (c == 45) || (c == 95)

-- The product token of a user-agent value: its longest prefix of letters, `-` and `_`, so what stands before the first
-- other octet.
abbrev pub token : List ℕ → List ℕ
token value = before_first (λ c. not (is_token_octet c)) value

-- the value names the agent, without regard to case; a value without a token names none
abbrev pub is_named : List ℕ → List ℕ → Bool
is_named agent value = not (is_empty (token value)) && str_eq_ignore_ascii_case (token value) agent

-- the value is for all agents
abbrev pub is_star : List ℕ → Bool
is_star value = bytes_eq value (codes "*")

-- some user-agent value of the group passes
abbrev pub is_for : (List ℕ → Bool) → Group → Bool
is_for passes group = list_any passes group.agents

-- The groups that name the agent, or where there are none those for all.
abbrev pub groups_for : List ℕ → List Group → List Group
groups_for agent groups = filter (is_for (if list_any (is_for (is_named agent)) groups then is_named
    agent else is_star)) groups

-- a line with an empty value is no rule
abbrev pub rule_of : RuleLine → List PathRule
rule_of entry =
    if is_empty entry.value then [] else record { line = entry.line; allow = entry.allow; pattern = normal entry.value }
    ∷ []

abbrev pub rules_of : Group → List PathRule
rules_of group = flat_map rule_of group.entries

-- The rules of a file that an agent obeys, in the order of their lines: those of all its groups together.
unfoldable pub obeyed : List ℕ → List ℕ → List PathRule
obeyed file agent = flat_map rules_of (groups_for agent (groups_of file))
