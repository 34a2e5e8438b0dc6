use Rattle.std.proofs.Common.{◌≡◌, ◌∙◌, ◌+◌, ◌-◌, ℕ, [], None, refl, ap, arith}
use Rattle.irl_lock.specs.Books.{fresh_known}
use Rattle.irl_lock.specs.Plays.{M}
use Rattle.irl_lock.specs.Rule.{view_of}
use Rattle.irl_lock.specs.Sharing.{IsFreshPass, opening_of, parts_in}
use Rattle.irl_lock.specs.declared.pass.Pass.{Pass}
use Rattle.irl_lock.proofs.SeatSteps.{fresh_more, fresh_pass, part_given, splits}
use Rattle.irl_lock.proofs.opening.deal.Goals as goal

pub split_seat-part-requires : goal.split_seat-part-requires
split_seat-part-requires g c =
    let i = c.loop-number.invariant in
    let shared = c.args.shared.now in
    let parts : c.loop-number.token.me.0.known.parts ≡ 65 - c.loop-number.number = ap (λ (m : M g.S.Store). m.0.known.parts) i.seat in
    (i.own, omega (arith, shared.words), splits (opening_of shared) c.loop-number.token.id c.loop-number.token.me.0 (omega (arith, parts, c.requires.workers, c.loop-number-test.true)))

pub loop-number-preserved : goal.loop-number-preserved
loop-number-preserved g c =
    let i = c.loop-number.invariant in
    let shared = c.args.shared.now in
    let number = c.loop-number.number in
    let split = c.split_seat-part.ensures in
    let pass : Pass g.row.S.Denot g.S.Store = record { token = c.split_seat-part.result; number = c.from.result; last = None } in
    let given = part_given (opening_of shared) c.loop-number.token.me c.split_seat-part.new.seat.me c.split_seat-part.result.me (65 - number) i.seat split.2 split.4 in
    let less : 65 - number - 1 ≡ 65 - (number + 1) = omega arith in
    let fresh : IsFreshPass shared pass × (parts_in pass ≡ 1) =
    fresh_pass shared pass 1 (split.3 ∙ i.own) given.1 (omega arith) (omega (arith, c.from.ensures, c.loop-number-test.true, c.requires.workers)) refl in
    let more = fresh_more shared c.loop-number.passes.items c.push_reserved.new.self.items pass c.push_reserved.ensures.items i.fresh fresh.0 in
    record {
      count = omega (arith, i.count, more.2);
      room = c.push_reserved.ensures.capacity ∙ i.room;
      fresh = more.0;
      parts = omega (arith, i.parts, more.1, fresh.1);
      own = split.0 ∙ i.own;
      seat = given.0 ∙ ap (λ (n : ℕ). (view_of (opening_of shared) [] (fresh_known n), [])) less;
    }

pub returns-clause-fresh : goal.returns-clause-fresh
returns-clause-fresh g c =
    let i = c.loop-number.invariant in
    let shared = c.args.shared.now in
    let pass : Pass g.row.S.Denot g.S.Store = record { token = c.loop-number.token; number = 0; last = None } in
    let fresh : IsFreshPass shared pass × (parts_in pass ≡ 65 - c.loop-number.number) =
    fresh_pass shared pass (65 - c.loop-number.number) i.own i.seat (omega (arith, c.requires.workers, c.loop-number.auto.number-end)) (omega arith) refl in
    (fresh_more shared c.loop-number.passes.items c.push_reserved-2.new.self.items pass c.push_reserved-2.ensures.items i.fresh fresh.0).0

pub returns-clause-parts : goal.returns-clause-parts
returns-clause-parts g c =
    let i = c.loop-number.invariant in
    let shared = c.args.shared.now in
    let pass : Pass g.row.S.Denot g.S.Store = record { token = c.loop-number.token; number = 0; last = None } in
    let fresh : IsFreshPass shared pass × (parts_in pass ≡ 65 - c.loop-number.number) =
    fresh_pass shared pass (65 - c.loop-number.number) i.own i.seat (omega (arith, c.requires.workers, c.loop-number.auto.number-end)) (omega arith) refl in
    let more = fresh_more shared c.loop-number.passes.items c.push_reserved-2.new.self.items pass c.push_reserved-2.ensures.items i.fresh fresh.0 in
    omega (arith, i.parts, more.1, fresh.1, c.requires.workers, c.loop-number.auto.number-end)
