use Rattle.irl_top.specs.Session.{place_of}
use Rattle.irl_top.proofs.Calls.{few_wait}
use Rattle.irl_top.proofs.Stepping.{ends_input}
use Rattle.irl_top.proofs.session.end_input.Goals as goal

pub returns-clause-ends : goal.returns-clause-ends
returns-clause-ends g c =
    let at = place_of g.O.Sink.written g.O.Sink.faults in
    let p0 = at c.args.intake.now c.args.output.now c.args.printed.now in
    let p1 = at c.advance_and_print-ended.new.intake c.advance_and_print-ended.new.output c.advance_and_print-ended.new.printed in
    let h = c.advance_and_print-ended.ensures in
    ends_input c.args.kind c.advance_and_print-ended.result p0 p1 (g.met.S.Store.is_consistent c.advance_and_print-ended.new.intake.yard.store) c.is_sound-is_sound.ensures.drum
    (few_wait p0.moment.drum p1.moment.drum c.advance_and_print-ended.new.intake.arrays.items h.steps.reason.stays.settings c.advance_and_print-ended.new.intake.arrays_are) h.steps h.ready
