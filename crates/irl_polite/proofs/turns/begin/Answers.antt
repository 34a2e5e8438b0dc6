use Rattle.std.proofs.Common.{◌≡◌, ◌≤◌, length, Some, refl, arith}
use Rattle.std.specs.Prelude.{slice_get}
use Rattle.std.specs.BinaryHeap.{heap_items}
use Rattle.std.proofs.lemmas.Option.{slice_get_read}
use Rattle.irl_polite.specs.declared.hosts.Host.{Host}
use Rattle.irl_polite.specs.declared.slots.Slot.{Slot}
use Rattle.irl_polite.specs.Inside.{IsOwned, IsReady, IsLeft}
use Rattle.irl_polite.proofs.Lists.{some_value}
use Rattle.irl_polite.proofs.LinkingLemmas.{all_at}
use Rattle.irl_polite.proofs.BeginLemmas.{begun_none, begun_more, begun_all}
use Rattle.irl_polite.proofs.turns.begin.Goals as goal

pub loop-at-init : goal.loop-at-init
loop-at-init c = record {
  begun = begun_none c.args.hosts.now (heap_items c.args.turns.now) c.requires.none;
  heap = c.requires.heap;
  room = omega arith;
}

pub loop-at-preserved : goal.loop-at-preserved
loop-at-preserved c =
    let slot : Slot = c.index-slots-at.result in
    let host : Host = c.index-hosts-slot.result in
    let stands : slice_get c.args.slots.now c.loop-at.at ≡ Some slot = slice_get_read c.args.slots.now (length c.args.slots.now) c.loop-at.at slot refl c.loop-at-test.true c.index-slots-at.is in
    let owned : IsOwned c.args.hosts.now slot = all_at (IsOwned c.args.hosts.now) c.args.slots.now c.loop-at.at slot stands c.requires.owned in
    let held : slice_get c.args.hosts.now slot.host ≡ Some host = slice_get_read c.args.hosts.now (length c.args.hosts.now) slot.host host refl owned.within c.index-hosts-slot.is in
    let work = some_value slot.work owned.holds in
    let left : IsLeft c.args.slots.now c.loop-at.at slot.host = record { slot = slot; work = work.0; stands = stands; left = work.1; owner = refl } in
    let ready : IsReady host = all_at IsReady c.args.hosts.now slot.host host held c.requires.ready in
    let i = c.loop-at.invariant in
    record {
      begun = begun_more c.args.hosts.now c.args.slots.now (heap_items c.loop-at.turns) (heap_items c.begin_one.new.turns) c.loop-at.at slot.host host held ready left c.requires.firsts i.begun
          c.begin_one.ensures.turns;
      heap = c.begin_one.ensures.heap;
      room = let a = i.room in let b = c.begin_one.ensures.room in omega arith;
    }

pub returns-clause-turns : goal.returns-clause-turns
returns-clause-turns c =
    let past : length c.args.slots.now ≤ c.loop-at.at = omega arith in
    begun_all c.args.hosts.now c.args.slots.now (heap_items c.loop-at.turns) c.loop-at.at past c.requires.firsts c.loop-at.invariant.begun
