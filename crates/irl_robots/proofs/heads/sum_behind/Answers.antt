use Rattle.std.proofs.Common.{get_or, sym, ap, ◌∙◌}
use Rattle.irl_robots.specs.Heads.{sum_after}
use Rattle.irl_robots.proofs.HeadsLemmas.{sum-more, sum-same}
use Rattle.irl_robots.proofs.heads.sum_behind.Goals as goal

pub returns-then-octets-path : goal.returns-then-octets-path
returns-then-octets-path c =
    λ is. c.sum_after.ensures ∙ ap (λ sum. sum_after sum (get_or c.args.path.now c.args.octets 0)) is ∙ sym (sum-more c.args.path.now c.args.octets c.if-octets-path.true)

pub returns-else-octets-path : goal.returns-else-octets-path
returns-else-octets-path c = λ is. is ∙ sym (sum-same c.args.path.now c.args.octets c.if-octets-path.false)
