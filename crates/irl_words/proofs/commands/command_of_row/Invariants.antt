use Rattle.std.proofs.Common.{◌≡◌, take}
use Rattle.std.specs.List.{fold, flat_map}
use Rattle.clap.specs.Words.{app_of, new_app, with_rule}
use Rattle.irl_words.specs.Tables.{rules_of_group}
use Rattle.irl_words.proofs.commands.command_of_row.Given as goal

-- the command has the options of the groups so far
abbrev pub invariant-loop-group : goal.invariant-loop-group
invariant-loop-group l =
    app_of l.command ≡ fold with_rule (new_app l.fn.row.word.now) (flat_map rules_of_group (take l.group-index l.fn.row.groups.now))
