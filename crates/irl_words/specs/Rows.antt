-- What the options' values are, once a command's words are taken. It is cited by private contracts alone.
use Rattle.std.specs.Prelude.{◌≡◌, ℕ, true, false, ⊤, List, Option, Some, None, IfSome}
use Rattle.std.specs.List.{AllByRecursion}
use Rattle.clap.specs.Walk.{is_empty}
use Rattle.clap.specs.Words.{IsUnsignedIn, Row, Rule, fault_of, found_of, matches_of, one_of, rows_of}
use Rattle.clap.specs.declared.builder.value_parser.ValueParser.{ValueParser}
use Rattle.clap.specs.declared.builder.value_parser.ValueParser.TheVariants.{Unsigned}
use Rattle.clap.specs.declared.parser.matches.ArgMatches.{ArgMatches}
use Rattle.irl_words.specs.Options.{options_of, rules_of}
use Rattle.irl_words.specs.declared.name.Name.{Name}

-- a value is one that a parser takes, where that is one of numbers: a number in its range
abbrev pub IsInParser : Option ValueParser → List ℕ → Type 0
IsInParser (Some (Unsigned least most)) text = IsUnsignedIn least most text
IsInParser _ text = ⊤

-- so is the value of each of these options that is named
abbrev pub AreInRange : List Rule → List Row → Type 0
AreInRange rules rows = AllByRecursion (λ rule. IfSome (one_of rule.id rows) (IsInParser rule.parser)) rules

-- the matches are those of the words, where the command's options take them; else there are none
abbrev pub AreMatches : Name → List (List ℕ) → Option ArgMatches → Type 0
AreMatches name words None = is_empty (fault_of (options_of name) words) ≡ false
AreMatches name words (Some matches) =
    (is_empty (fault_of (options_of name) words) ≡ true)
    × (rows_of (found_of matches) ≡ matches_of (options_of name) words)
    × AreInRange (rules_of name) (rows_of (found_of matches))
