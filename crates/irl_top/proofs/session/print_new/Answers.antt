use Rattle.std.proofs.Common.{◌∙◌, ◌+◌, [], inl, refl, ap, arith}
use Rattle.std.specs.Io.KnownBytes.{Appends}
use Rattle.irl_io.specs.Written.{AppendsPrefix}
use Rattle.irl_bay.specs.Drum.{Drum}
use Rattle.irl_schedule.specs.Schedule.{none_more}
use Rattle.irl_top.specs.Message.{ending_of_store}
use Rattle.irl_top.specs.Printed.{judged_lines}
use Rattle.irl_top.specs.Session.{place_of}
use Rattle.irl_top.specs.declared.ending.Ending.TheVariants.{Done}
use Rattle.irl_top.proofs.Going.{goes_on_both, goes_on_ends, reason_then}
use Rattle.irl_top.proofs.Calls.{goes_same, reason_same, goes_call, ends_on, last_of_store, few_wait, reason_went, reason_piece, goes_on_piece, ends_piece, piece_plain, err_is, store_input}
use Rattle.irl_top.proofs.Stepping.{steps_err, reason_read}
use Rattle.irl_top.proofs.session.print_new.Goals as goal

pub loop-printed-init : goal.loop-printed-init
loop-printed-init g c =
    let law = g.met.S.Store.is_consistent c.args.intake.now.yard.store in
    let p0 = place_of g.O.Sink.written g.O.Sink.faults c.args.intake.now c.args.output.now c.args.printed.now in
    record { goes = goes_same c.args.kind p0 law c.is_sound-is_sound.ensures.drum; sound = c.requires.sound; drum = refl; arrays = refl; reason = reason_same p0 law }

pub returns-in_err-judged-clause-steps : goal.returns-in_err-judged-clause-steps
returns-in_err-judged-clause-steps g c =
    let at = place_of g.O.Sink.written g.O.Sink.faults in
    let p0 = at c.args.intake.now c.args.output.now c.args.printed.now in
    let p1 = at c.loop-printed.intake c.loop-printed.output c.loop-printed.printed in
    let p2 = at c.judged_from.new.self c.loop-printed.output c.loop-printed.printed in
    let i = c.loop-printed.invariant in
    let h = c.in_err-judged.ensures in
    let fault = c.in_err-judged.field-0.0 in
    let few = few_wait p1.moment.drum p2.moment.drum c.judged_from.new.self.arrays.items h.still.stays.settings c.judged_from.new.self.arrays_are in
    let ends = goes_on_ends c.args.kind 0 0 none_more none_more [] [] p0 p1 p2 (ending_of_store fault) i.reason.stays i.goes
    (ends_on c.args.kind 0 none_more [] p1 p2 (ending_of_store fault) (g.met.S.Store.is_consistent c.judged_from.new.self.yard.store) h.goes_on.drum few h.still.stays
    (last_of_store p1 p2 fault (λ n e. absurd (h.reads.full n (rw e refl))) (λ n e. absurd (h.reads.full n (rw e refl))))
    (goes_call c.args.kind 0 none_more [] p1 p2 (inl (ap (λ (d : Drum). d.cuts) h.still.kept)) refl refl h.still.fed)) in
    let reason = reason_then c.args.kind 0 none_more [] p0 p1 p2 Done (ending_of_store fault) (g.met.S.Store.is_consistent c.loop-printed.intake.yard.store) i.goes i.reason
    (reason_read _ p1 p2 fault h.still.stays h.still.kept refl h.reads (λ fine. c.judged_from.new.self.yard.long (h.goes_on.sound (λ failed. fine (cc))).0)) in
    rw (err_is c.from_residual.result (ending_of_store fault) c.from_residual.ensures.1) (steps_err c.args.kind 0 none_more [] p0 p2 (ending_of_store fault) ends (store_input fault) reason)

pub returns-in_err-print_piece-clause-steps : goal.returns-in_err-print_piece-clause-steps
returns-in_err-print_piece-clause-steps g c =
    let at = place_of g.O.Sink.written g.O.Sink.faults in
    let p0 = at c.args.intake.now c.args.output.now c.args.printed.now in
    let p1 = at c.loop-printed.intake c.loop-printed.output c.loop-printed.printed in
    let p2 = at c.judged_from.new.self c.print_piece.new.output c.loop-printed.printed in
    let i = c.loop-printed.invariant in
    let h = c.in_ok-judged.ensures in
    let k = c.in_err-print_piece.ensures in
    let ending = c.in_err-print_piece.field-0.0 in
    let found = c.in_ok-judged.judged in
    let part : AppendsPrefix p1.output.bytes p2.output.bytes (judged_lines c.args.kind found) = k.err in
    let few = few_wait p1.moment.drum p2.moment.drum c.judged_from.new.self.arrays.items h.still.stays.settings c.judged_from.new.self.arrays_are in
    let plain = piece_plain ending k.kinds in
    let ends = goes_on_ends c.args.kind 0 0 none_more none_more [] [] p0 p1 p2 ending i.reason.stays i.goes
    (ends_piece c.args.kind p1 p2 2048 found ending (g.met.S.Store.is_consistent c.judged_from.new.self.yard.store) h.goes_on.drum h.still.stays few plain
    (ap (λ (d : Drum). d.cuts) h.still.kept) h.still.fed h.reads.value part) in
    let reason = reason_then c.args.kind 0 none_more [] p0 p1 p2 Done ending (g.met.S.Store.is_consistent c.loop-printed.intake.yard.store) i.goes i.reason
    (reason_piece p1 p2 ending k.kinds h.still.stays h.reads.reads.cause.later (record { later = k.cause.later; rose = λ e. k.cause.rose (rw e refl) })) in
    rw (err_is c.from_residual-in_err-print_piece.result ending c.from_residual-in_err-print_piece.ensures.1)
    (steps_err c.args.kind 0 none_more [] p0 p2 ending ends (λ is. plain.printed (inl is)) reason)

pub loop-printed-preserved : goal.loop-printed-preserved
loop-printed-preserved g c =
    let at = place_of g.O.Sink.written g.O.Sink.faults in
    let p0 = at c.args.intake.now c.args.output.now c.args.printed.now in
    let p1 = at c.loop-printed.intake c.loop-printed.output c.loop-printed.printed in
    let p2 = at c.judged_from.new.self c.print_piece.new.output (c.loop-printed.printed + c.len.result) in
    let i = c.loop-printed.invariant in
    let h = c.in_ok-judged.ensures in
    let k = c.in_ok-print_piece.ensures in
    let found = c.in_ok-judged.judged in
    let written : Appends p1.output.bytes p2.output.bytes (judged_lines c.args.kind found) = k.ok in
    record {
      goes = goes_on_both c.args.kind 0 0 none_more none_more [] [] p0 p1 p2 i.reason.stays i.goes
          (goes_on_piece c.args.kind p1 p2 2048 found (ap (λ (d : Drum). d.cuts) h.still.kept) h.still.fed h.reads.value (omega (arith, c.len.ensures)) written);
      sound = h.goes_on.sound (λ e. cc);
      drum = h.still.kept ∙ i.drum;
      arrays = h.waiting ∙ i.arrays;
      reason = reason_then c.args.kind 0 none_more [] p0 p1 p2 Done Done (g.met.S.Store.is_consistent c.loop-printed.intake.yard.store) i.goes i.reason
          (reason_went p1 p2 h.still.stays h.reads.reads.cause.later k.cause.later);
    }
