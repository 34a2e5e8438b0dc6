use Rattle.std.proofs.Common.{◌≡◌, ◌+◌, ap, ◌∙◌}
use Rattle.irl_disk.specs.Calls.{History}
use Rattle.irl_disk.proofs.Clones.{files_from_clone}
use Rattle.irl_disk.proofs.Replayed.{item_is, item_within, part_at_rest, shown_more, done_more, failed_more}
use Rattle.irl_disk.proofs.log.Log.image.Goals as goal
use Rattle.irl_disk.proofs.log.Log.image.Goals.{then-entry+in_ok-carry_out, else-entry}

pub loop-entry-init : goal.loop-entry-init
loop-entry-init c = rw (← c.self.view_is) (record {
  shown = λ f. part_at_rest c.args.part _ _ (files_from_clone c.self.inside.first.entries _ c.in_ok-shown.ensures.cases f);
  now = λ f. files_from_clone c.self.inside.first.entries _ c.in_ok-now.ensures.cases f;
})

pub loop-entry-preserved : goal.loop-entry-preserved
loop-entry-preserved c =
    let h = c.args.self.now in
    let i = c.loop-entry.entry-index in
    let entry = c.entry-item.result in
    let same : c.deref.result.now ≡ h.entries = c.deref.ensures.value ∙ ap (λ (log : History). log.entries) c.self.view_is in
    let within = item_within _ h.entries (c.args.call + 1) i same c.loop-entry-test.true in
    let is = item_is _ h.entries (c.args.call + 1) i entry same c.loop-entry-test.true c.entry-item.is in
    record {
      shown = shown_more h i entry within is c.args.part _ _ _ c.in_ok-show_next.ensures c.loop-entry.invariant.shown c.loop-entry.invariant.now;
      now = elim c.if-entry.branch [
        | then-entry+in_ok-carry_out w ↦ rw w.now-is (done_more h i entry within is w.if-entry.true _ _ c.loop-entry.invariant.now w.in_ok-carry_out.ensures.ok)
        | else-entry w ↦ rw w.now-is (failed_more h i entry within is w.if-entry.false _ c.loop-entry.invariant.now)
      ];
    }
