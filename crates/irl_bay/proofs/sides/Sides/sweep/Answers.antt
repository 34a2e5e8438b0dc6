use Rattle.std.proofs.Common.{◌≡◌, ◌∙◌, ℕ, List, Result, Ok, Err, length, refl, sym, ap, subst, arith, rules}
use Rattle.std.proofs.lemmas.List.{length-map}
use Rattle.std.proofs.lemmas.Result.{IfOk-weaker, err_from_is_err_and}
use Rattle.std.specs.Option.{ForSome}
use Rattle.std.specs.Prelude.{IsErrOf}
use Rattle.std.specs.Result.{OnOk}
use Rattle.irl_offer.specs.Tuple.{Tuple}
use Rattle.irl_offer.specs.declared.entry.Entry.{Entry}
use Rattle.irl_base.specs.declared.fault.Fault.TheVariants.{Damaged, Failed}
use Rattle.irl_cache.specs.SortedRun.{IsSpoiltRun}
use Rattle.irl_merge.specs.Queries.{AreEntriesOf, bare, bare_entry}
use Rattle.irl_bay.specs.Sides.{ReadsAndPuts}
use Rattle.irl_bay.proofs.Sweeps.{begins, puts_for, puts_none, puts_of, puts_only, puts_then, reads_both, reads_none, same_both, same_cache, spoilt_before}
use Rattle.irl_bay.proofs.sides.Sides.sweep.Given.{Over}
use Rattle.irl_bay.proofs.sides.Sides.sweep.Goals.{After-feed}
use Rattle.irl_bay.proofs.sides.Sides.sweep.Goals as goal

-- as many offers as entries
as_many : (news : List Tuple) (entries : List Entry) → AreEntriesOf news entries → length news ≡ length entries
as_many news entries are = sym (length-map news bare) ∙ ap (λ (l : List Tuple). length l) (sym are) ∙ length-map entries bare_entry

always : {T E : Type 0} (r : Result T E) (Q : Type 0) → Q → OnOk r Q
always (Ok x) Q q = q
always (Err e) Q q = tt

pub loop-sweep-init : goal.loop-sweep-init
loop-sweep-init g c =
    let tells = g.S.Store.told in
    let now = c.args.self.now in
    let here = tells c.args.store.now in
    record {
      sound = c.in_ok-sweep.ensures.sound;
      same = same_cache now;
      sweeping = λ offers verdicts news has asked. begins c.args.b offers verdicts news here.files c.in_ok-sweep.sweep now has asked.1 (c.in_ok-sweep.ensures.swept news asked.0);
      others = puts_none now here (g.met.S.Store.is_consistent c.args.store.now);
      read = reads_none now.reader now.reader _ _ refl refl;
    }

pub feed-requires-clause-sweeping : goal.feed-requires-clause-sweeping
feed-requires-clause-sweeping g c =
    let m = c.requires.merged in
    let e = c.requires.entries in
    (m.0, m.1, e.0, c.loop-sweep.invariant.sweeping m.0 m.1 e.0 m.2 e.1)

-- what was read and put so far, and then by the feed
fed : (g : Over) (c : After-feed g) → ReadsAndPuts c.args.self.now (IsErrOf c.feed.result Failed) (g.S.Store.told c.args.store.now) (g.S.Store.told c.feed.new.store)
fed g c =
    let tells = g.S.Store.told in
    let now = c.args.self.now in
    puts_then now _ _ (tells c.args.store.now) (tells c.loop-sweep.store) (tells c.feed.new.store) (g.met.S.Store.is_consistent c.loop-sweep.store) c.loop-sweep.invariant.others
    (puts_of now c.loop-sweep.self _ _ _ c.loop-sweep.invariant.same c.feed.ensures.others)

pub returns-in_err-sweep-clause-others : goal.returns-in_err-sweep-clause-others
returns-in_err-sweep-clause-others g c =
    let out = err_from_is_err_and c.from_residual.result c.from_residual.ensures.1 in
    puts_for c.args.self.now ⊥ _ _ _ (λ is. let no = rw (out.1, out.2) at is in absurd (cc)) (puts_none c.args.self.now (g.S.Store.told c.args.store.now)
    (g.met.S.Store.is_consistent c.args.store.now))

pub returns-in_err-feed-clause-passes : goal.returns-in_err-feed-clause-passes
returns-in_err-feed-clause-passes g c =
    let now = c.args.self.now in
    let at_loop = c.loop-sweep.invariant in
    let told = (g.S.Store.told c.args.store.now).files in
    let mid = (g.S.Store.told c.loop-sweep.store).files in
    let out = err_from_is_err_and c.from_residual-in_err-feed.result c.from_residual-in_err-feed.ensures.1 in
    record {
      same = same_both _ _ _ at_loop.same c.feed.ensures.passes.same;
      damaged = λ f at e.
          let same : c.in_err-feed.field-0.0 ≡ Damaged f at = let is = rw (out.1, out.2) at e in cc in
          let spoilt = c.in_err-feed.ensures.passes.damaged f at (rw same refl) in
          let there = subst (λ (n : ℕ). ForSome mid (λ files. (f ≡ now.reader.file) × IsSpoiltRun n (files f) at)) at_loop.same.entries
          (subst (λ (r : ℕ). ForSome mid (λ files. (f ≡ r) × IsSpoiltRun c.loop-sweep.self.reader.entries (files f) at)) at_loop.same.from spoilt) in
          spoilt_before now.writer.out.file now.reader.file now.reader.entries f at _ told mid now.apart at_loop.others.told there;
      full = search rules;
      read = rw out.1 tt;
    }

pub returns-in_err-feed-clause-others : goal.returns-in_err-feed-clause-others
returns-in_err-feed-clause-others g c =
    let out = err_from_is_err_and c.from_residual-in_err-feed.result c.from_residual-in_err-feed.ensures.1 in
    puts_for c.args.self.now _ _ _ _ (λ is. let same = rw (out.1, out.2) at is in cc) (fed g (goal.at.returns-in_err-feed-clause-others g c).After-feed)

pub loop-sweep-smaller : goal.loop-sweep-smaller
loop-sweep-smaller g c =
    let m = c.requires.merged in
    let e = c.requires.entries in
    let is = c.in_ok-feed.ensures.sweeping m.0 m.1 e.0 (c.loop-sweep.invariant.sweeping m.0 m.1 e.0 m.2 e.1) in
    let less = c.in_ok-feed.ensures.more c.if-branch.true in
    omega (arith, less, is.read.within, c.feed.ensures.passes.same.entries)

pub loop-sweep-preserved : goal.loop-sweep-preserved
loop-sweep-preserved g c =
    let now = c.args.self.now in
    let before = c.loop-sweep.invariant in
    record {
      sound = c.in_ok-feed.ensures.sound;
      same = same_both _ _ _ before.same c.feed.ensures.passes.same;
      sweeping = λ offers verdicts news has asked. c.in_ok-feed.ensures.sweeping offers verdicts news (before.sweeping offers verdicts news has asked);
      others = puts_for now _ ⊥ _ _ (λ no. absurd no) (fed g (goal.at.loop-sweep-preserved g c).After-feed);
      read = reads_both now.reader c.loop-sweep.self.reader c.feed.new.self.reader _ _ _ before.same.from before.read c.in_ok-feed.ensures.passes.read;
    }

pub end-requires-clause-sweeping : goal.end-requires-clause-sweeping
end-requires-clause-sweeping g c =
    let m = c.requires.merged in
    let e = c.requires.entries in
    let is = c.in_ok-feed.ensures.sweeping m.0 m.1 e.0 (c.loop-sweep.invariant.sweeping m.0 m.1 e.0 m.2 e.1) in
    (c.args.b, c.in_ok-feed.ensures.done c.if-branch.false, (m.0, m.1, e.0, is))

pub returns-clause-merged : goal.returns-clause-merged
returns-clause-merged g c =
    let before = c.loop-sweep.invariant in
    IfOk-weaker c.end.result _ _ (λ found merged offers verdicts news has asked.
    merged c.args.b offers verdicts news (c.in_ok-feed.ensures.done c.if-branch.false) (c.in_ok-feed.ensures.sweeping offers verdicts news (before.sweeping offers verdicts news has asked)))
    c.end.ensures.merged

pub returns-clause-count : goal.returns-clause-count
returns-clause-count g c =
    let m = c.requires.merged in
    let e = c.requires.entries in
    let is = c.in_ok-feed.ensures.sweeping m.0 m.1 e.0 (c.loop-sweep.invariant.sweeping m.0 m.1 e.0 m.2 e.1) in
    IfOk-weaker c.end.result _ _ (λ found count. count c.args.b m.0 m.1 e.0 is ∙ as_many e.0 c.args.entries.now e.1.0) c.end.ensures.count

pub returns-clause-passes : goal.returns-clause-passes
returns-clause-passes g c =
    let now = c.args.self.now in
    let before = c.loop-sweep.invariant in
    let same = same_both _ _ _ before.same c.feed.ensures.passes.same in
    record {
      same = same_both _ _ _ same c.end.ensures.same;
      damaged = λ f at e. absurd (c.end.ensures.refuses.damaged f at e);
      full = c.end.ensures.refuses.full;
      read = always c.end.result _ (reads_both now.reader c.feed.new.self.reader c.end.new.self.reader _ _ _ same.from
          (reads_both now.reader c.loop-sweep.self.reader c.feed.new.self.reader _ _ _ before.same.from before.read c.in_ok-feed.ensures.passes.read)
          (reads_none c.feed.new.self.reader c.end.new.self.reader _ _ c.end.ensures.reader c.end.ensures.changes.taken));
    }

pub returns-clause-others : goal.returns-clause-others
returns-clause-others g c =
    let tells = g.S.Store.told in
    let now = c.args.self.now in
    let same = same_both _ _ _ c.loop-sweep.invariant.same c.feed.ensures.passes.same in
    puts_then now _ _ (tells c.args.store.now) (tells c.feed.new.store) (tells c.end.new.store) (g.met.S.Store.is_consistent c.feed.new.store)
    (fed g (goal.at.returns-clause-others g c).After-feed) (puts_of now c.feed.new.self _ _ _ same (puts_only c.feed.new.self _ _ _ c.end.ensures.changes))
