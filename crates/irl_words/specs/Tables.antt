-- The arguments of the code's tables, as a reader of command lines is told them. Private contracts alone cite it.
use Rattle.std.specs.Prelude.{ℕ, ◌<◌, ◌^◌, ⊤, true, List, ◌++◌, map, Some}
use Rattle.std.specs.Borrow.{Bor}
use Rattle.std.specs.List.{AllByRecursion, flat_map}
use Rattle.clap.specs.Words.{Rule, new_rule}
use Rattle.clap.specs.declared.builder.value_parser.ValueParser.TheVariants.{Unsigned}
use Rattle.irl_words.specs.declared.commands.Row.{Row}
use Rattle.irl_words.specs.declared.options.Argument.{Argument}
use Rattle.irl_words.specs.declared.options.Form.{Form}
use Rattle.irl_words.specs.declared.options.Form.TheVariants.{Optional, Required, Positional}
use Rattle.irl_words.specs.declared.options.Value.{Value}
use Rattle.irl_words.specs.declared.options.Value.TheVariants.{Number, Word}

-- the argument of a name and what its value may be, as far as that goes
abbrev pub valued : List ℕ → Value → Rule
valued name (Number least most) = record (new_rule name) { value_names = 1; parser = Some (Unsigned least most) }
valued name (Word shown) = record (new_rule name) { value_names = 1 }

-- the same, given so
abbrev pub given_as : Form → List ℕ → Rule → Rule
given_as Optional name rule = record rule { long = Some name }
given_as Required name rule = record rule { long = Some name; required = true }
given_as Positional name rule = record rule { required = true }

abbrev pub rule_of_argument : Argument → Rule
rule_of_argument argument = given_as argument.form argument.name.now (valued argument.name.now argument.value)

-- its numbers lie below those that a reader of signed numbers knows
abbrev pub IsSmallValue : Value → Type 0
IsSmallValue (Number least most) = (least < 2 ^ 63) × (most < 2 ^ 63)
IsSmallValue (Word shown) = ⊤

abbrev pub IsSmall : Argument → Type 0
IsSmall argument = IsSmallValue argument.value

-- ---- the arguments of a row: those of its groups, and then its own
abbrev pub rules_of_group : Bor (List Argument) → List Rule
rules_of_group group = map rule_of_argument group.now

abbrev pub rules_of_row : Row → List Rule
rules_of_row row = flat_map rules_of_group row.groups.now ++ rules_of_group row.own

abbrev pub IsSmallGroup : Bor (List Argument) → Type 0
IsSmallGroup group = AllByRecursion IsSmall group.now

abbrev pub IsSmallRow : Row → Type 0
IsSmallRow row = AllByRecursion IsSmallGroup row.groups.now × IsSmallGroup row.own
