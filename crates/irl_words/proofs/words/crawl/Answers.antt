use Rattle.std.proofs.Common.{◌∙◌, ap}
use Rattle.clap.specs.Words.{found_of, rows_of}
use Rattle.irl_words.specs.Words.{with_settings}
use Rattle.irl_words.proofs.Taking.{replay_in_range}
use Rattle.irl_words.proofs.words.crawl.Goals as goal

pub returns-clause-range : goal.returns-clause-range
returns-clause-range c =
    let rows = rows_of (found_of c.args.matches.now) in
    let sized = c.settings-asked.ensures.value ∙ ap (with_settings rows) c.asked_for.ensures in
    let asked = c.in_ok-asked.ensures.same ∙ c.budgets.ensures in
    replay_in_range _ _ _ rows c.requires.budgets sized asked c.in_ok-asked.ensures.buckets c.settings-asked.ensures.range
    c.in_ok-asked.ensures.budgets c.in_ok-run.ensures.range
