use Rattle.std.proofs.Common.{rules, ◌≡◌, ◌∙◌, sym, subst, arith, ℕ, ◌<◌}
use Rattle.std.specs.Vec.Iter.{into_iter_items}
use Rattle.irl_schedule.specs.Arrays.{no_array}
use Rattle.irl_lock.specs.Books.{buckets_of}
use Rattle.irl_lock.proofs.Laying.{at_drop, bins_more, more_bins}
use Rattle.irl_lock.proofs.opening.slot_values.Goals as goal

pub loop-b-preserved : goal.loop-b-preserved
loop-b-preserved g c =
    let i = c.loop-b.invariant in
    let next = at_drop c.args.arrays.items c.loop-b.b c.in-Some.array (into_iter_items c.next.new.self) no_array (sym i.left ∙ c.in-Some.ensures.items) in
    record {
      count = search rules;
      room = search rules;
      left = sym next.1;
      long = omega (arith, c.in-Some.ensures.cases.1, i.long);
      are = more_bins c.loop-b.slots.items c.push_reserved.new.self.items (record { first = c.durable-first.result; array = c.in-Some.array }) c.push_reserved.ensures.items i.are;
      bins = bins_more c.args.yard c.args.arrays.items c.loop-b.slots.items c.push_reserved.new.self.items c.loop-b.b c.durable-first.result c.in-Some.array i.count c.push_reserved.ensures.items
          c.durable-first.ensures.value next.0 i.bins;
    }

pub returns : goal.returns
returns g c =
    let i = c.loop-b.invariant in
    let all : c.loop-b.b ≡ buckets_of c.args.yard = search rules in
    record {
      front = c.loop-b.slots.items;
      front_are = i.are;
      slots_are = c.push_reserved-2.ensures.items;
      count = i.count ∙ all;
      bins = λ b inside. i.bins b (subst (λ (n : ℕ). b < n) (sym all) inside);
    }
