-- What a turn read is a part of the file, and the records that it took stand there.
use Rattle.std.proofs.Common.{◌≡◌, ◌∙◌, ℕ, ◌-◌, length, min, drop, false, subst, arith, rules, inl, inr, refl}
use Rattle.irl_disk.specs.Disk.{Reads}
use Rattle.irl_disk.proofs.Frames.{takes_both, takes_one, takes_none}
use Rattle.irl_disk.proofs.Stretches.{stays, reads_on}
use Rattle.irl_journal.specs.Visiting.{StopsAt}
use Rattle.irl_journal.proofs.Reading.{took-none, took-on, reads-none, piece_read, reads-on, ends-there, breaks-there, refuses-there}
use Rattle.irl_journal.proofs.opening.read_from.Goals as goal

pub loop-at-init : goal.loop-at-init
loop-at-init g c =
    let now = g.S.Store.told c.args.store.now in
    record {
      same = refl;
      stops = stays now now.images (g.met.S.Store.is_consistent c.args.store.now) (λ image left. left);
      taken = takes_none (λ (n : ℕ). n ≡ c.args.f) _ _ refl;
      later = omega arith;
      took = took-none g.V.Visit.takes c.args.visitor.now c.args.from;
      piece = search rules;
      told = λ files tells. reads-none g.V.Visit.takes c.args.visitor.now c.args.from (drop c.args.from (files c.args.f));
    }

pub returns-in_err-taken-clause-damaged : goal.returns-in_err-taken-clause-damaged
returns-in_err-taken-clause-damaged g c = λ at e files tells.
    let told = c.loop-at.invariant.told files tells in
    let file = files c.args.f in
    let long = c.requires.long files tells in
    let read : Reads c.loop-at.at (length c.read.new.into) c.in_ok-count.count c.read.new.into file = rw (c.loop-at.invariant.same ∙ tells) at c.in_ok-count.ensures.bytes in
    let room : c.loop-at.piece.len ≡ min (length file - c.args.from) 16777222 = omega (arith, c.loop-at.invariant.piece, c.saturating_sub-left.ensures, long) in
    let piece = piece_read _ _ _ file _ c.args.from c.loop-at.at told.count _ c.deref.ensures.value (c.read.auto.into ∙ c.deref_mut.ensures.len) read room (omega (arith, long, c.loop-at-test.true))
    told.place in
    inr (refuses-there g.V.Visit.takes g.V.Visit.refuses c.args.visitor.now c.loop-at.visitor c.hand_over.new.visitor c.args.from c.loop-at.at (drop c.args.from file) _ _ at told
    (c.in_err-taken.ensures.refused at (search rules)) piece)

pub returns-then-is_closed-clause-records : goal.returns-then-is_closed-clause-records
returns-then-is_closed-clause-records g c = λ files tells.
    let told = c.loop-at.invariant.told files tells in
    let file = files c.args.f in
    let long = c.requires.long files tells in
    let read : Reads c.loop-at.at (length c.read.new.into) c.in_ok-count.count c.read.new.into file = rw (c.loop-at.invariant.same ∙ tells) at c.in_ok-count.ensures.bytes in
    let room : c.loop-at.piece.len ≡ min (length file - c.args.from) 16777222 = omega (arith, c.loop-at.invariant.piece, c.saturating_sub-left.ensures, long) in
    let piece = piece_read _ _ _ file _ c.args.from c.loop-at.at told.count _ c.deref.ensures.value (c.read.auto.into ∙ c.deref_mut.ensures.len) read room (omega (arith, long, c.loop-at-test.true))
    told.place in
    let handed = rw c.if-is_closed.true at c.in_ok-taken.ensures.records in
    ends-there g.V.Visit.takes c.args.visitor.now c.loop-at.visitor c.hand_over.new.visitor c.args.from c.loop-at.at (drop c.args.from file) _ _ c.in_ok-taken.taken told handed piece

pub returns-then-taken-eq0-clause-damaged : goal.returns-then-taken-eq0-clause-damaged
returns-then-taken-eq0-clause-damaged g c = λ at e files tells.
    let told = c.loop-at.invariant.told files tells in
    let file = files c.args.f in
    let long = c.requires.long files tells in
    let read : Reads c.loop-at.at (length c.read.new.into) c.in_ok-count.count c.read.new.into file = rw (c.loop-at.invariant.same ∙ tells) at c.in_ok-count.ensures.bytes in
    let room : c.loop-at.piece.len ≡ min (length file - c.args.from) 16777222 = omega (arith, c.loop-at.invariant.piece, c.saturating_sub-left.ensures, long) in
    let piece = piece_read _ _ _ file _ c.args.from c.loop-at.at told.count _ c.deref.ensures.value (c.read.auto.into ∙ c.deref_mut.ensures.len) read room (omega (arith, long, c.loop-at-test.true))
    told.place in
    let handed = rw (c.if-is_closed.false, c.if-taken-eq0.true) at c.in_ok-taken.ensures.records in
    let same : c.loop-at.at ≡ at = cc in
    inl (subst (λ (k : ℕ). StopsAt g.V.Visit.takes c.args.visitor.now c.hand_over.new.visitor c.args.from false (drop c.args.from file) k) same
    (breaks-there g.V.Visit.takes c.args.visitor.now c.loop-at.visitor c.hand_over.new.visitor c.args.from c.loop-at.at (drop c.args.from file) _ _ told handed piece))

pub loop-at-preserved : goal.loop-at-preserved
loop-at-preserved g c =
    let store = g.S.Store in
    let before = c.loop-at.invariant in
    let reads = c.in_ok-count.ensures.stops in
    record {
      same = c.in_ok-count.ensures.same ∙ before.same;
      stops = reads_on (store.told c.args.store.now) (store.told c.loop-at.store) (store.told c.read.new.self) _ (g.met.S.Store.is_consistent c.loop-at.store) before.stops reads;
      taken = takes_both (λ (n : ℕ). n ≡ c.args.f) _ _ _ before.taken (takes_one (λ (n : ℕ). n ≡ c.args.f) c.args.f _ _ _ refl c.in_ok-count.ensures.taken);
      later = omega (arith, before.later, c.in_ok-count.ensures.cause.later);
      took = took-on g.V.Visit.takes c.args.visitor.now c.loop-at.visitor c.hand_over.new.visitor c.args.from c.loop-at.at _ c.in_ok-taken.is_closed _ before.took c.in_ok-taken.ensures.records;
      piece = before.piece;
      told = λ files tells.
          let told = before.told files tells in
          let file = files c.args.f in
          let long = c.requires.long files tells in
          let read : Reads c.loop-at.at (length c.read.new.into) c.in_ok-count.count c.read.new.into file = rw (before.same ∙ tells) at c.in_ok-count.ensures.bytes in
          let room : c.loop-at.piece.len ≡ min (length file - c.args.from) 16777222 = omega (arith, before.piece, c.saturating_sub-left.ensures, long) in
          let piece = piece_read _ _ _ file _ c.args.from c.loop-at.at told.count _ c.deref.ensures.value (c.read.auto.into ∙ c.deref_mut.ensures.len) read room
          (omega (arith, long, c.loop-at-test.true)) told.place in
          reads-on g.V.Visit.takes c.args.visitor.now c.loop-at.visitor c.hand_over.new.visitor c.args.from c.loop-at.at (drop c.args.from file) _ _ c.in_ok-taken.taken c.in_ok-taken.is_closed told
          c.in_ok-taken.ensures.records piece;
    }

pub returns-then-is_closed-clause-took : goal.returns-then-is_closed-clause-took
returns-then-is_closed-clause-took g c =
    took-on g.V.Visit.takes c.args.visitor.now c.loop-at.visitor c.hand_over.new.visitor c.args.from c.loop-at.at _ c.in_ok-taken.is_closed _ c.loop-at.invariant.took c.in_ok-taken.ensures.records
