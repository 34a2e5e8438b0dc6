use Rattle.std.proofs.Common.{[], Ok, refl, ap, subst}
use Rattle.irl_intake.specs.Advancing.{moment_of, early_at, uneven_at}
use Rattle.irl_schedule.specs.Arrays.{waiting_at}
use Rattle.irl_intake.specs.declared.next.Next.{Next}
use Rattle.irl_schedule.specs.Scheduling.{Schedules}
use Rattle.irl_top.specs.Message.{ending_of_store}
use Rattle.irl_top.specs.Session.{place_of}
use Rattle.irl_top.proofs.Calls.{err_is, few_wait}
use Rattle.irl_top.proofs.Stepping.{went_none, advance_refused, print_refused, print_merged, print_ready, next_merged, ready_still}
use Rattle.irl_top.proofs.session.advance_and_print.Goals as goal

pub steps-init : goal.steps-init
steps-init g c =
    let law = g.met.S.Store.is_consistent c.args.intake.now.yard.store in
    let p0 = place_of g.O.Sink.written g.O.Sink.faults c.args.intake.now c.args.output.now c.args.printed.now in
    record { went = went_none c.args.kind p0 law c.is_sound-is_sound.ensures.drum c.requires.whole; sound = c.requires.sound }

pub returns-in_err-next-clause-steps : goal.returns-in_err-next-clause-steps
returns-in_err-next-clause-steps g c =
    let at = place_of g.O.Sink.written g.O.Sink.faults in
    let p0 = at c.args.intake.now c.args.output.now c.args.printed.now in
    let p1 = at c.steps.intake c.steps.output c.steps.printed in
    let p2 = at c.advance.new.self c.steps.output c.steps.printed in
    let h = c.in_err-next.ensures in
    let fault = c.in_err-next.field-0.0 in
    let few = few_wait p1.moment.drum p2.moment.drum c.advance.new.self.arrays.items h.schedules.stays.settings c.advance.new.self.arrays_are in
    rw (err_is c.from_residual.result (ending_of_store fault) c.from_residual.ensures.1)
    (advance_refused c.args.kind c.args.bucket p0 p1 p2 fault (g.met.S.Store.is_consistent c.steps.intake.yard.store) (g.met.S.Store.is_consistent c.advance.new.self.yard.store) h.goes_on.drum few
    (λ fine. c.advance.new.self.yard.long (h.goes_on.sound (λ failed. fine (cc))).0) refl refl c.steps.invariant.went h.schedules)

pub returns-in_err-print_new-clause-steps : goal.returns-in_err-print_new-clause-steps
returns-in_err-print_new-clause-steps g c =
    let at = place_of g.O.Sink.written g.O.Sink.faults in
    let p0 = at c.args.intake.now c.args.output.now c.args.printed.now in
    let p1 = at c.steps.intake c.steps.output c.steps.printed in
    let p2 = at c.advance.new.self c.steps.output c.steps.printed in
    let p3 = at c.print_new.new.intake c.print_new.new.output c.print_new.new.printed in
    let ending = c.in_err-print_new.field-0.0 in
    rw (err_is c.from_residual-in_err-print_new.result ending c.from_residual-in_err-print_new.ensures.1)
    (print_refused c.args.kind c.args.bucket c.in_ok-next.next p0 p1 p2 p3 ending (g.met.S.Store.is_consistent c.steps.intake.yard.store)
    (g.met.S.Store.is_consistent c.advance.new.self.yard.store) refl refl c.steps.invariant.went c.in_ok-next.ensures.schedules c.in_err-print_new.ensures.steps)

pub returns-in-Ready-clause-steps : goal.returns-in-Ready-clause-steps
returns-in-Ready-clause-steps g c =
    let at = place_of g.O.Sink.written g.O.Sink.faults in
    let p0 = at c.args.intake.now c.args.output.now c.args.printed.now in
    let p1 = at c.steps.intake c.steps.output c.steps.printed in
    let p2 = at c.advance.new.self c.steps.output c.steps.printed in
    let p3 = at c.print_new.new.intake c.print_new.new.output c.print_new.new.printed in
    let does = subst (λ (n : Next). Schedules (Ok n) (early_at c.args.bucket (Ok n)) (uneven_at c.args.bucket (Ok n)) [] p1.moment p2.moment) c.in-Ready.is c.in_ok-next.ensures.schedules in
    print_ready c.args.kind c.args.bucket tt p0 p1 p2 p3 (g.met.S.Store.is_consistent c.steps.intake.yard.store) (g.met.S.Store.is_consistent c.advance.new.self.yard.store) refl refl
    c.steps.invariant.went does c.in_ok-print_new.ensures.steps

pub returns-in-Ready-clause-ready : goal.returns-in-Ready-clause-ready
returns-in-Ready-clause-ready g c =
    let k = c.in_ok-print_new.ensures in
    ready_still c.args.bucket (moment_of c.advance.new.self) (moment_of c.print_new.new.intake) k.drum (ap (λ (a : _). waiting_at a.items) k.arrays) (c.in_ok-next.ensures.advances.ready c.in-Ready.is)

pub steps-preserved : goal.steps-preserved
steps-preserved g c =
    let at = place_of g.O.Sink.written g.O.Sink.faults in
    let p0 = at c.args.intake.now c.args.output.now c.args.printed.now in
    let p1 = at c.steps.intake c.steps.output c.steps.printed in
    let p2 = at c.advance.new.self c.steps.output c.steps.printed in
    let p3 = at c.print_new.new.intake c.print_new.new.output c.print_new.new.printed in
    let is = next_merged c.in_ok-next.next c.in_default.not-Ready in
    let does = subst (λ (n : Next). Schedules (Ok n) (early_at c.args.bucket (Ok n)) (uneven_at c.args.bucket (Ok n)) [] p1.moment p2.moment) is c.in_ok-next.ensures.schedules in
    record {
      went = print_merged c.args.kind c.args.bucket tt p0 p1 p2 p3 (g.met.S.Store.is_consistent c.steps.intake.yard.store) (g.met.S.Store.is_consistent c.advance.new.self.yard.store) refl refl
          c.steps.invariant.went does c.in_ok-print_new.ensures.steps;
      sound = c.in_ok-print_new.ensures.sound;
    }
