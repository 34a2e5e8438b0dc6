use Rattle.std.proofs.Common.{◌∙◌, List, ap}
use Rattle.irl_offer.specs.declared.place.Place.{Place}
use Rattle.irl_events.specs.declared.plain.Happening.{Happening}
use Rattle.irl_events.specs.Courses.{progress_of}
use Rattle.irl_events.specs.Events.{Progress, after_event}
use Rattle.irl_events.specs.Seen.{seen}
use Rattle.irl_events.proofs.Following.{happened_more}
use Rattle.irl_events.proofs.plain.course_of.Goals as goal

pub loop-happening-preserved : goal.loop-happening-preserved
loop-happening-preserved c =
    let was : Progress = progress_of c.loop-happening.course in
    let h : Happening = c.happening-item.result in
    record {
      value = happened_more c.args.queues c.args.buckets c.args.events.now c.loop-happening.happening-index h was _ c.loop-happening-test.true c.loop-happening.invariant.value
          (c.in_ok-step.ensures.ok ∙ ap (λ (places : List Place). after_event was (seen h.event) places) c.items.ensures
          ∙ ap (λ (x : Happening). after_event was (seen x.event) x.places) c.happening-item.is);
      sizes = c.in_ok-step.ensures.sizes;
    }
