use Rattle.irl_polite.specs.Schedule.{raised}
use Rattle.irl_polite.specs.Inside.{schedule}
use Rattle.irl_polite.proofs.Awaited.{asked_awaited, idle_awaited}
use Rattle.irl_fetch_tests.proofs.polite.hear.Goals as goal

pub robots_done-requires : goal.robots_done-requires
robots_done-requires c =
    let awaited = asked_awaited (raised (schedule c.args.front.now) 0) (schedule c.take.new.self) c.take.result c.in-Robots.host c.take.ensures.step c.in-Robots.is in
    idle_awaited (raised (schedule c.take.new.self) 0) (schedule c.take-2.new.self) c.take-2.result c.in-Robots.host c.take-2.ensures.step c.in-Idle.is awaited
