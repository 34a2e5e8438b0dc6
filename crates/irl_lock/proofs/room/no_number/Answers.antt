use Rattle.std.proofs.Common.{arith}
use Rattle.irl_lock.proofs.Rooms.{no_number_left}
use Rattle.irl_lock.proofs.room.no_number.Goals as goal

pub returns : goal.returns
returns g c =
    let yard = c.args.yard.now in
    let bin = c.args.bin.now in
    no_number_left yard c.args.b bin.array (g.met.S.Store.is_consistent yard.store) c.is_sound-is_sound.ensures.drum c.requires.sound c.requires.bucket c.requires.array_is c.requires.none_left.0
    (omega arith) (omega arith) (omega (arith, c.requires.none_left.1, c.requires.first_is))
