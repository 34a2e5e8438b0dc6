use Rattle.std.proofs.Common.{◌≡◌, ◌+◌, rules}
use Rattle.irl_beast.specs.Counts.{count_in}
use Rattle.irl_beast.proofs.TextCounts.{count_in-more}
use Rattle.irl_beast.proofs.counts.counted.Goals as goal

pub returns-clause-after : goal.returns-clause-after
returns-clause-after c = λ q.
    let more : c.in_ok-more.more ≡ count_in c.args.counts.now.entries c.args.pld.now + 1 = search rules in
    count_in-more c.args.counts.now.entries c.insert.new.self.entries c.in_ok-text.text c.args.pld.now c.in_ok-more.more (search rules) more c.in_ok-insert.ensures.entries q
