use Rattle.std.proofs.Common.{◌≤◌, List, [], length, ap, arith}
use Rattle.irl_array.specs.Waiting.{Waiting}
use Rattle.irl_offer.specs.Tuple.{Tuple}
use Rattle.irl_schedule.specs.Feeding.{moment, with_waiting}
use Rattle.irl_schedule.specs.Schedule.{none_more, one_more_at, uneven_flush}
use Rattle.irl_schedule.proofs.Calls.{array_after}
use Rattle.irl_schedule.proofs.Counts.{flush_few}
use Rattle.irl_schedule.proofs.Outcomes.{ok_weaker}
use Rattle.irl_schedule.proofs.Schedules.{flush_counts, flush_schedules, may_flush, schedules_more, schedules_none}
use Rattle.irl_schedule.proofs.schedule.flush_some.Goals as goal

pub flush-requires-clause-offers : goal.flush-requires-clause-offers
flush-requires-clause-offers g c =
    let some : 1 ≤ length c.args.array.now.items = omega arith in
    may_flush c.args.b c.args.array.now c.args.bay.now c.requires.some.bucket c.requires.some.array_is some (c.requires.some.ready some)

pub returns-then-len-eq0-clause-schedules : goal.returns-then-len-eq0-clause-schedules
returns-then-len-eq0-clause-schedules g c = λ others.
    let now = moment (g.S.Store.told c.args.store.now) c.args.bay.now (with_waiting others c.args.b c.args.array.now.items) in
    schedules_more _ 0 0 none_more (one_more_at c.args.b) [] now now (omega arith) (λ n. omega arith)
    (schedules_none tt now (g.met.S.Store.is_consistent c.args.store.now) c.is_sound-is_sound.ensures.drum)

pub returns-clause-schedules : goal.returns-clause-schedules
returns-clause-schedules g c = λ others.
    let b = c.args.b in
    let array = c.args.array.now in
    let flush = c.flush.ensures in
    let some : 1 ≤ length array.items = omega arith in
    schedules_more c.flush.result 0 0 (uneven_flush c.args.bay.now.settings.array b array.items) (one_more_at b) [] _ _ (omega arith) (flush_few c.args.bay.now.settings.array b array.items)
    (flush_schedules g.S.Store.told g.met.S.Store.is_consistent c.flush.result b array c.flush.new.array c.args.bay.now c.flush.new.self c.args.store.now c.flush.new.store others
    c.is_sound-is_sound.ensures.drum (may_flush b array c.args.bay.now c.requires.some.bucket c.requires.some.array_is some (c.requires.some.ready some)) flush.flushes flush.refused flush.leaves
    flush.goes_on)

pub returns-clause-flushes : goal.returns-clause-flushes
returns-clause-flushes g c =
    let b = c.args.b in
    let array = c.args.array.now in
    let flush = c.flush.ensures in
    let some : 1 ≤ length array.items = omega arith in
    let may = may_flush b array c.args.bay.now c.requires.some.bucket c.requires.some.array_is some (c.requires.some.ready some) in
    record {
      array = array_after c.args.bay.now.settings b c.flush.result array c.flush.new.array c.requires.some.array_is flush.flushes.emptied flush.refused.array;
      emptied = ok_weaker c.flush.result flush.flushes.emptied (λ is. ap (λ (a : Waiting). a.items) is);
      kept = flush.refused.array;
      counts = flush_counts g.S.Store.told g.met.S.Store.is_consistent c.flush.result b array c.flush.new.array c.args.bay.now c.flush.new.self c.args.store.now c.flush.new.store (λ n. [])
          c.is_sound-is_sound.ensures.drum may flush.flushes flush.refused flush.leaves flush.goes_on;
      idle = λ none. absurd (omega (arith, some, ap (λ (l : List Tuple). length l) none));
      full = λ n is. let same = flush.refused.full_same n is in (same.1, same.0);
      memory = λ is. let same = flush.refused.memory_same is in (same.1, same.0);
    }
