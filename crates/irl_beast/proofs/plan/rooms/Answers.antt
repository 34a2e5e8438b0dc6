use Rattle.std.proofs.Common.{◌∙◌, length, get_or, ap, subst, arith}
use Rattle.std.specs.Prelude.{Vec}
use Rattle.irl_beast.specs.declared.item.Item.{Item}
use Rattle.irl_beast.specs.Rooms.{IsRoom}
use Rattle.irl_beast.proofs.Reserving.{any_default, rooms_next}
use Rattle.irl_beast.proofs.plan.rooms.Goals as goal

pub loop-at-init : goal.loop-at-init
loop-at-init c = record { count = ap length c.in_ok-rooms.ensures.items; each = λ k d e lt. absurd (omega arith) }

pub loop-at-preserved : goal.loop-at-preserved
loop-at-preserved c =
    let lengths = c.args.lengths.now in
    let more = c.args.more.now in
    let at = c.loop-at.at in
    let made : Vec Item _ = c.in_ok-room.field-0 in
    let here : IsRoom (get_or lengths at 0) c.index-more-at.result made =
    let len = c.len.ensures in
    record { none = c.in_ok-room.ensures.none; fits = λ some. omega (arith, len, c.in_ok-room.ensures.fits (omega (arith, len))) } in
    rooms_next lengths more c.loop-at.rooms.items c.push.new.self.items made at c.in_ok-push.ensures.items
    (λ d. subst (λ (v : Vec Item _). IsRoom (get_or lengths at 0) v made) (c.index-more-at.is ∙ any_default more at c.index-more-at.result d (omega arith)) here)
    c.loop-at.invariant

pub returns : goal.returns
returns c = record {
  lengths_are = c.requires.lengths;
  more_are = c.requires.more;
  rooms_are = omega (arith, c.loop-at.invariant.count);
  each = λ k d e lt. c.loop-at.invariant.each k d e (omega arith);
}
