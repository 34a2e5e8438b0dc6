use Rattle.std.proofs.Common.{◌∙◌, ap}
use Rattle.clap.specs.Words.{app_of, with_rule}
use Rattle.irl_words.proofs.Tables.{one_more}
use Rattle.irl_words.proofs.options.with_arguments.Goals as goal

pub loop-argument-preserved : goal.loop-argument-preserved
loop-argument-preserved c =
    one_more c.args.arguments.now c.loop-argument.argument-index _ _ _ _ c.loop-argument-test.true c.loop-argument.invariant
    (c.in_ok-command.ensures.shape c.arg.ensures.local ∙ ap (with_rule (app_of c.loop-argument.command)) c.arg.ensures.rule)
