use Rattle.std.proofs.Common.{◌≡◌, take}
use Rattle.irl_events.specs.Courses.{HasSizes, happened, progress_of}
use Rattle.irl_events.specs.Events.{progress}
use Rattle.irl_events.proofs.plain.course_of.Given as goal

-- how far the events so far have led
abbrev pub invariant-loop-happening : goal.invariant-loop-happening
invariant-loop-happening l = record {
  value : progress_of l.course ≡ progress l.queues l.buckets (happened (take l.happening-index l.events));
  sizes : HasSizes l.course.waiting;
}
