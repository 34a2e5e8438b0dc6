use Rattle.std.proofs.Common.{◌<◌, sym, subst}
use Rattle.irl_offer.specs.declared.settings.Settings.{Settings}
use Rattle.irl_lock.proofs.Rooms.{room_settings}
use Rattle.irl_lock.proofs.room.room_behind.Goals as goal

pub durable-bin-requires : goal.durable-bin-requires
durable-bin-requires g c =
    let settings = room_settings c.make_room-made.result c.args.b c.args.bin.now.array c.make_room-made.new.array c.args.yard.now c.make_room-made.new.yard c.make_room-made.ensures in
    subst (λ (s : Settings). c.args.b < s.buckets) (sym settings) c.requires.bucket
