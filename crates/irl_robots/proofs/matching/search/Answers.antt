use Rattle.irl_robots.proofs.SearchLemmas.{search-star, search-next}
use Rattle.irl_robots.proofs.matching.search.Goals as goal

pub loop-next-preserved-in-Star : goal.loop-next-preserved-in-Star
loop-next-preserved-in-Star c =
    search-star c.args.start c.loop-next.place c.in-Star.next c.loop-next.retry c.loop-next.invariant c.in-Star.ensures

pub loop-next-preserved-in-Next : goal.loop-next-preserved-in-Next
loop-next-preserved-in-Next c =
    search-next c.args.start c.loop-next.place c.in-Next.next c.loop-next.retry _ c.loop-next.invariant c.in-Next.ensures.1
