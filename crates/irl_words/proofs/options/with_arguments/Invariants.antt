use Rattle.std.proofs.Common.{◌≡◌, map, take}
use Rattle.std.specs.List.{fold}
use Rattle.clap.specs.Words.{app_of, with_rule}
use Rattle.irl_words.specs.Tables.{rule_of_argument}
use Rattle.irl_words.proofs.options.with_arguments.Given as goal

-- the command has the arguments so far
abbrev pub invariant-loop-argument : goal.invariant-loop-argument
invariant-loop-argument l = app_of l.command ≡ fold with_rule (app_of l.fn.command) (map rule_of_argument (take l.argument-index l.arguments))
