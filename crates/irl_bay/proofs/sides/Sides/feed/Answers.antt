use Rattle.std.proofs.Common.{◌≡◌, ap, subst, rules}
use Rattle.std.proofs.lemmas.Result.{IfOk-weaker, on_ok_weaker}
use Rattle.std.specs.Option.{ForSome}
use Rattle.irl_cache.specs.Reading.{Reader}
use Rattle.irl_cache.specs.SortedRun.{IsSpoiltRun}
use Rattle.irl_bay.proofs.Sweeps.{puts_of, puts_only, puts_read, puts_then, reads_both, reads_none, same_both, spoilt_before}
use Rattle.irl_bay.proofs.sides.Sides.feed.Goals as goal

pub next_block-requires-clause-sweeping : goal.next_block-requires-clause-sweeping
next_block-requires-clause-sweeping g c =
    let r = c.requires.sweeping in
    (c.args.b, c.feed_piece.new.sweep, (r.0, r.1, r.2, c.in_ok-feed_piece.ensures.sweeping r.0 r.1 r.2 r.3))

pub returns-then-branch-clause-done : goal.returns-then-branch-clause-done
returns-then-branch-clause-done g c = IfOk-weaker c.next_block.result _ _ (λ more done is. done is c.args.b) c.next_block.ensures.done

pub returns-then-branch-clause-passes : goal.returns-then-branch-clause-passes
returns-then-branch-clause-passes g c =
    let now = c.args.self.now in
    let reader = c.feed_piece.ensures.reader in
    let told = (g.S.Store.told c.args.store.now).files in
    let mid = (g.S.Store.told c.feed_piece.new.store).files in
    record {
      same = same_both _ _ _ c.feed_piece.ensures.same c.next_block.ensures.passes.same;
      damaged = λ f at e.
          let there = subst (λ (r : Reader). ForSome mid (λ files. (f ≡ r.file) × IsSpoiltRun r.entries (files f) at)) reader (c.next_block.ensures.passes.damaged f at e) in
          spoilt_before now.writer.out.file now.reader.file now.reader.entries f at _ told mid now.apart c.feed_piece.ensures.changes.told there;
      full = c.next_block.ensures.passes.full;
      read = on_ok_weaker c.next_block.result (λ more.
          reads_both now.reader c.feed_piece.new.self.reader c.next_block.new.self.reader _ _ _ (ap (λ (r : Reader). r.file) reader)
          (reads_none now.reader c.feed_piece.new.self.reader _ _ reader c.feed_piece.ensures.changes.taken) more) c.next_block.ensures.passes.read;
    }

pub returns-then-branch-clause-others : goal.returns-then-branch-clause-others
returns-then-branch-clause-others g c =
    let tells = g.S.Store.told in
    let now = c.args.self.now in
    let mid = c.feed_piece.new.self in
    puts_then now _ _ (tells c.args.store.now) (tells c.feed_piece.new.store) (tells c.next_block.new.store) (g.met.S.Store.is_consistent c.feed_piece.new.store)
    (puts_only now _ _ _ c.feed_piece.ensures.changes) (puts_of now mid _ _ _ c.feed_piece.ensures.same (puts_read mid _ _ _ c.next_block.ensures.reads))

pub returns-else-branch-clause-passes : goal.returns-else-branch-clause-passes
returns-else-branch-clause-passes g c = record {
  same = search rules;
  damaged = search rules;
  full = search rules;
  read = reads_none c.args.self.now.reader c.feed_piece.new.self.reader _ _ c.feed_piece.ensures.reader c.feed_piece.ensures.changes.taken;
}
