use Rattle.std.proofs.Common.{◌∙◌, ◌<◌, Ok, Err, refl, sym, ap, subst}
use Rattle.std.proofs.lemmas.Result.{err_from_is_err_and}
use Rattle.irl_offer.specs.declared.settings.Settings.{Settings}
use Rattle.irl_schedule.specs.Schedule.{none_more}
use Rattle.irl_intake.specs.Advancing.{moment_of}
use Rattle.irl_intake.proofs.Steps.{sound_on}
use Rattle.irl_desk.proofs.Chaining.{few_wait, steps_err, steps_none, steps_number, steps_ok, steps_one, steps_then}
use Rattle.irl_desk.proofs.stepping.make_room.Goals as goal

pub steps-init : goal.steps-init
steps-init g c =
    let was = c.args.intake.now in
    record {
      steps = steps_none tt (moment_of was) (g.met.S.Store.is_consistent was.yard.store) c.is_sound-is_sound.ensures.drum (few_wait (moment_of was) was.arrays.items was.arrays_are (λ b. refl));
      sound = c.requires.sound;
      rest = refl;
    }

pub returns-in_err-advance-clause-steps : goal.returns-in_err-advance-clause-steps
returns-in_err-advance-clause-steps g c =
    let now = c.steps.intake in
    let next = c.advance.new.self in
    let out = err_from_is_err_and c.from_residual.result c.from_residual.ensures.1 in
    let is = out.1 ∙ ap (λ e. Err e) out.2 in
    let one = steps_one c.advance.result none_more (moment_of now) (moment_of next) (few_wait (moment_of next) next.arrays.items next.arrays_are (λ b. refl)) c.advance.ensures.schedules in
    steps_then tt c.from_residual.result none_more (moment_of c.args.intake.now) (moment_of now) (moment_of next) (g.met.S.Store.is_consistent now.yard.store) c.steps.invariant.steps
    (steps_err c.advance.result c.from_residual.result _ none_more (moment_of now) (moment_of next) c.in_err-advance.was is one)

pub returns-in_err-advance-clause-goes_on : goal.returns-in_err-advance-clause-goes_on
returns-in_err-advance-clause-goes_on g c =
    let out = err_from_is_err_and c.from_residual.result c.from_residual.ensures.1 in
    sound_on c.advance.result c.from_residual.result _ c.advance.new.self.yard.parts c.in_err-advance.was (out.1 ∙ ap (λ e. Err e) out.2) c.advance.ensures.goes_on

pub returns-in-Ready-clause-steps : goal.returns-in-Ready-clause-steps
returns-in-Ready-clause-steps g c =
    let was = c.args.intake.now in
    let now = c.steps.intake in
    let next = c.advance.new.self in
    let few = few_wait (moment_of next) next.arrays.items next.arrays_are (λ b. refl) in
    let one = steps_one (Ok c.in_ok-advance.field-0) none_more (moment_of now) (moment_of next) few c.in_ok-advance.ensures.schedules in
    let both = steps_then (tt {0}) (Ok (tt {0})) none_more (moment_of was) (moment_of now) (moment_of next) (g.met.S.Store.is_consistent now.yard.store) c.steps.invariant.steps
    (steps_ok c.in_ok-advance.field-0 (tt {0}) none_more (moment_of now) (moment_of next) one) in
    let within = subst (λ (s : Settings). c.args.b < s.buckets) (sym both.stays.settings) c.requires.bucket in
    steps_number (tt {0}) c.next_number.result c.args.b none_more (moment_of was) (moment_of next) both within few c.next_number.ensures.full

pub steps-preserved : goal.steps-preserved
steps-preserved g c =
    let was = c.args.intake.now in
    let now = c.steps.intake in
    let next = c.advance.new.self in
    let few = few_wait (moment_of next) next.arrays.items next.arrays_are (λ b. refl) in
    let one = steps_one (Ok c.in_ok-advance.field-0) none_more (moment_of now) (moment_of next) few c.in_ok-advance.ensures.schedules in
    record {
      steps = steps_then (tt {0}) (Ok (tt {0})) none_more (moment_of was) (moment_of now) (moment_of next) (g.met.S.Store.is_consistent now.yard.store) c.steps.invariant.steps
          (steps_ok c.in_ok-advance.field-0 (tt {0}) none_more (moment_of now) (moment_of next) one);
      sound = c.in_ok-advance.ensures.goes_on.sound (λ failed. let no : ⊥ = cc in absurd no);
      rest = c.advance.ensures.rest ∙ c.steps.invariant.rest;
    }
