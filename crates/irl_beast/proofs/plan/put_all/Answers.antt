use Rattle.std.proofs.Common.{arith}
use Rattle.std.specs.Prelude.{Vec}
use Rattle.std.proofs.lemmas.List.{length-map}
use Rattle.irl_base.specs.Lists.{items_of}
use Rattle.irl_beast.specs.declared.item.Item.{Item}
use Rattle.irl_beast.proofs.Joining.{joined_end}
use Rattle.irl_beast.proofs.Reserving.{put_start, put_next, room_now}
use Rattle.irl_beast.proofs.plan.put_all.Goals as goal

pub loop-at-init : goal.loop-at-init
loop-at-init c = put_start c.args.lists.now c.args.more.now c.args.rooms.now

pub put_behind-requires : goal.put_behind-requires
put_behind-requires c =
    room_now c.args.lists.now c.args.more.now c.args.rooms.now c.loop-at.lists c.loop-at.more c.loop-at.rooms c.loop-at.at c.index-lists-at.result c.index-more-at.result c.index-rooms-at.result
    c.requires.len c.loop-at-test.true c.requires.room c.loop-at.invariant

pub loop-at-preserved : goal.loop-at-preserved
loop-at-preserved c =
    let many = c.requires.room.more_are in
    put_next c.args.lists.now c.args.more.now c.args.rooms.now c.loop-at.lists c.loop-at.more c.loop-at.rooms c.loop-at.at c.index-lists-at.result c.index-more-at.result c.put_behind.new.list
    c.put_behind.new.more c.put_behind.new.room (omega arith) (omega (arith, many)) c.put_behind.ensures c.loop-at.invariant

pub returns : goal.returns
returns c =
    let lists = c.args.lists.now in
    let more = c.args.more.now in
    let own = length-map lists (λ (v : Vec Item _). v.items) in
    let others = length-map more (λ (v : Vec Item _). v.items) in
    let many = c.requires.room.more_are in
    joined_end (items_of lists) (items_of more) (items_of c.loop-at.lists) c.loop-at.at (omega (arith, own, others, many)) (omega (arith, own)) c.loop-at.invariant.joined
