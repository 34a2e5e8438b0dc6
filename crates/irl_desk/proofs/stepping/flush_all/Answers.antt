use Rattle.std.proofs.Common.{◌∙◌, [], None, Ok, Err, refl, ap, subst}
use Rattle.std.proofs.lemmas.Result.{err_from_is_err_and}
use Rattle.irl_schedule.specs.Schedule.{none_more, one_more}
use Rattle.irl_schedule.specs.Scheduling.{Schedules}
use Rattle.irl_intake.specs.Advancing.{moment_of, uneven_at}
use Rattle.irl_intake.specs.declared.next.Next.{Next}
use Rattle.irl_intake.specs.declared.next.Next.TheVariants.{Merged, Ready}
use Rattle.irl_intake.proofs.Steps.{sound_on}
use Rattle.irl_desk.proofs.Chaining.{few_wait, next_merged, ordered_on, steps_err, steps_none, steps_ok, steps_one, steps_then}
use Rattle.irl_desk.proofs.stepping.flush_all.Goals as goal

pub steps-init : goal.steps-init
steps-init g c =
    let was = c.args.intake.now in
    record {
      steps = steps_none tt (moment_of was) (g.met.S.Store.is_consistent was.yard.store) c.is_sound-is_sound.ensures.drum (few_wait (moment_of was) was.arrays.items was.arrays_are (λ b. refl));
      sound = c.requires.sound;
      rest = refl;
      waits = λ b. refl;
    }

pub returns-in_err-flush_waiting-clause-steps : goal.returns-in_err-flush_waiting-clause-steps
returns-in_err-flush_waiting-clause-steps g c =
    let now = c.steps.intake in
    let next = c.flush_waiting.new.self in
    let out = err_from_is_err_and c.from_residual.result c.from_residual.ensures.1 in
    let is = out.1 ∙ ap (λ e. Err e) out.2 in
    let few = few_wait (moment_of next) next.arrays.items next.arrays_are (λ b. refl) in
    let one = steps_one (Err c.in_err-flush_waiting.field-0.0) one_more (moment_of now) (moment_of next) few c.in_err-flush_waiting.ensures.schedules in
    steps_then tt c.from_residual.result one_more (moment_of c.args.intake.now) (moment_of now) (moment_of next) (g.met.S.Store.is_consistent now.yard.store) c.steps.invariant.steps
    (steps_err (Err c.in_err-flush_waiting.field-0.0) c.from_residual.result c.in_err-flush_waiting.field-0.0 one_more (moment_of now) (moment_of next) refl is one)

pub returns-in_err-flush_waiting-clause-ordered : goal.returns-in_err-flush_waiting-clause-ordered
returns-in_err-flush_waiting-clause-ordered g c =
    let now = c.steps.intake in
    let next = c.flush_waiting.new.self in
    let out = err_from_is_err_and c.from_residual.result c.from_residual.ensures.1 in
    let is = out.1 ∙ ap (λ e. Err e) out.2 in
    ordered_on c.flush_waiting.result c.from_residual.result _ (moment_of c.args.intake.now) (moment_of now) (moment_of next) c.in_err-flush_waiting.was is c.steps.invariant.steps.stays.settings
    c.steps.invariant.waits c.flush_waiting.ensures.flushes.ordered

pub returns-in_err-flush_waiting-clause-goes_on : goal.returns-in_err-flush_waiting-clause-goes_on
returns-in_err-flush_waiting-clause-goes_on g c =
    let out = err_from_is_err_and c.from_residual.result c.from_residual.ensures.1 in
    sound_on c.flush_waiting.result c.from_residual.result _ c.flush_waiting.new.self.yard.parts c.in_err-flush_waiting.was (out.1 ∙ ap (λ e. Err e) out.2) c.flush_waiting.ensures.goes_on

pub returns-in-Ready-clause-steps : goal.returns-in-Ready-clause-steps
returns-in-Ready-clause-steps g c =
    let was = c.args.intake.now in
    let now = c.steps.intake in
    let next = c.flush_waiting.new.self in
    let few = few_wait (moment_of next) next.arrays.items next.arrays_are (λ b. refl) in
    let does = subst (λ (n : Next). Schedules (Ok n) 0 (uneven_at None (Ok n)) [] (moment_of now) (moment_of next)) c.in-Ready.is c.in_ok-flush_waiting.ensures.schedules in
    steps_then (tt {0}) (Ok (tt {0})) one_more (moment_of was) (moment_of now) (moment_of next) (g.met.S.Store.is_consistent now.yard.store) c.steps.invariant.steps
    (steps_ok Ready (tt {0}) one_more (moment_of now) (moment_of next) (steps_one (Ok Ready) one_more (moment_of now) (moment_of next) few does))

pub steps-preserved : goal.steps-preserved
steps-preserved g c =
    let was = c.args.intake.now in
    let now = c.steps.intake in
    let next = c.flush_waiting.new.self in
    let few = few_wait (moment_of next) next.arrays.items next.arrays_are (λ b. refl) in
    let is = next_merged c.in_ok-flush_waiting.field-0 c.in_default.not-Ready in
    let does = subst (λ (n : Next). Schedules (Ok n) 0 (uneven_at None (Ok n)) [] (moment_of now) (moment_of next)) is c.in_ok-flush_waiting.ensures.schedules in
    record {
      steps = steps_then (tt {0}) (Ok (tt {0})) none_more (moment_of was) (moment_of now) (moment_of next) (g.met.S.Store.is_consistent now.yard.store) c.steps.invariant.steps
          (steps_ok Merged (tt {0}) none_more (moment_of now) (moment_of next) (steps_one (Ok Merged) none_more (moment_of now) (moment_of next) few does));
      sound = c.in_ok-flush_waiting.ensures.goes_on.sound (λ failed. let no : ⊥ = cc in absurd no);
      rest = c.flush_waiting.ensures.rest ∙ c.steps.invariant.rest;
      waits = λ b. c.in_ok-flush_waiting.ensures.flushes.waiting is b ∙ c.steps.invariant.waits b;
    }
