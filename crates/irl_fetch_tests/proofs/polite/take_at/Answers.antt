use Rattle.irl_polite.specs.Schedule.{raised}
use Rattle.irl_polite.specs.Inside.{schedule}
use Rattle.irl_polite.proofs.Awaited.{asked_awaited}
use Rattle.irl_fetch_tests.proofs.polite.take_at.Goals as goal

pub robots_done-requires : goal.robots_done-requires
robots_done-requires c = asked_awaited (raised (schedule c.args.front.now) c.args.now) (schedule c.take.new.self) c.take.result c.in-Robots.host c.take.ensures.step c.in-Robots.is
