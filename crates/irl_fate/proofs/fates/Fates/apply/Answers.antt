use Rattle.std.proofs.Common.{◌∙◌, rules}
use Rattle.irl_events.specs.Seen.{seen}
use Rattle.irl_fate.proofs.Applying.{progress_more, lawful_more}
use Rattle.irl_fate.proofs.fates.Fates.apply.Goals as goal

pub returns-clause-events : goal.returns-clause-events
returns-clause-events c =
    progress_more c.args.self.now c.commit.new.self (seen c.args.event.now) c.args.places.now (c.commit.ensures ∙ c.in_ok-plan.ensures.after)

pub returns-clause-lawful : goal.returns-clause-lawful
returns-clause-lawful c =
    lawful_more c.args.self.now (seen c.args.event.now) c.args.places.now (search rules)
