use Rattle.std.proofs.Common.{arith}
use Rattle.irl_disk.specs.SureLaws.{held_none}
use Rattle.irl_disk_tests.proofs.sure.nearly_full.Goals as goal

pub put_surely-requires-clause-room : goal.put_surely-requires-clause-room
put_surely-requires-clause-room g = omega (arith, held_none g.in_ok-store.store g.in_ok-store.ensures.empty, g.in_ok-store.ensures.room)

pub put_surely-requires-2-clause-room : goal.put_surely-requires-2-clause-room
put_surely-requires-2-clause-room g =
    omega (arith, held_none g.in_ok-store.store g.in_ok-store.ensures.empty, g.in_ok-store.ensures.room, g.put_surely.ensures.held, g.put_surely.ensures.room)
