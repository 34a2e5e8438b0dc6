use Rattle.irl_words.proofs.Tables.{one_group_more}
use Rattle.irl_words.proofs.commands.command_of_row.Goals as goal

pub loop-group-preserved : goal.loop-group-preserved
loop-group-preserved c =
    one_group_more c.args.row.now.groups.now c.loop-group.group-index _ _ _ _ c.loop-group-test.true c.loop-group.invariant c.in_ok-command.ensures
