use Rattle.std.proofs.Common.{refl, sym, subst}
use Rattle.irl_yard.specs.Looking.{LooksAs, LooksBlank, LooksMade}
use Rattle.irl_report.specs.Report.{report_of}
use Rattle.irl_top.specs.Outside.{lent_beside, stream}
use Rattle.irl_top.specs.Shown.{no_counts, IsReportOf, Shown}
use Rattle.irl_top.specs.declared.ending.Ending.{Ending}
use Rattle.irl_top.proofs.Shows.{has_report, printed_of, prints_report, shown_blank, shown_made, shown_refused}
use Rattle.irl_top.proofs.showing.show.Goals as goal

pub returns-in-Ok-Blank : goal.returns-in-Ok-Blank
returns-in-Ok-Blank g c = λ input.
    let tells = lent_beside input g.S.Store.told g.O.Sink.written g.O.Sink.faults in
    let sink = stream g.O.Sink.written g.O.Sink.faults in
    let store = c.in-Ok-Blank.store in
    let r = c.print_report-printed.result in
    let h = c.print_report-printed.ensures in
    let out = c.print_report-printed.new.output in
    let before = tells c.args.store c.args.output.now in
    let after = tells store out in
    let blank : LooksBlank (g.S.Store.told c.args.store) (g.S.Store.told store) = subst (λ (x : _). LooksAs (g.S.Store.told c.args.store) x) c.in-Ok-Blank.field-0-is c.in-Ok-Blank.ensures.found in
    subst (λ (e : Ending). Shown IsReportOf before after e) (sym c.of.ensures)
    (shown_blank IsReportOf before after r (report_of no_counts) blank (no_counts, refl, refl)
    (printed_of r (sink c.args.output.now) (sink out) (report_of no_counts) h.ok h.err h.kinds h.cause) refl)

pub returns-in-Ok-Made : goal.returns-in-Ok-Made
returns-in-Ok-Made g c = λ input.
    let tells = lent_beside input g.S.Store.told g.O.Sink.written g.O.Sink.faults in
    let sink = stream g.O.Sink.written g.O.Sink.faults in
    let yard = c.in-Ok-Made.yard in
    let r = c.print_report-printed-in-Ok-Made.result in
    let h = c.print_report-printed-in-Ok-Made.ensures in
    let out = c.print_report-printed-in-Ok-Made.new.output in
    let counts = c.counts.result in
    let before = tells c.args.store c.args.output.now in
    let made : LooksMade yard.parts (g.S.Store.told c.args.store) (g.S.Store.told yard.store) =
    subst (λ (x : _). LooksAs (g.S.Store.told c.args.store) x) c.in-Ok-Made.field-0-is c.in-Ok-Made.ensures.found in
    let prints = prints_report r yard.parts (g.S.Store.told yard.store) (sink c.args.output.now) (sink out) counts (g.met.S.Store.is_consistent yard.store) c.counts.ensures
    (printed_of r (sink c.args.output.now) (sink out) (report_of counts) h.ok h.err h.kinds h.cause) in
    subst (λ (s : g.row.S.Denot). Shown IsReportOf before (tells s out) c.of-in-Ok-Made.result) (sym c.into_store.ensures)
    (subst (λ (e : Ending). Shown IsReportOf before (tells yard.store out) e) (sym c.of-in-Ok-Made.ensures)
    (shown_made IsReportOf before (tells yard.store out) (g.S.Store.told yard.store) yard.parts r (g.met.S.Store.is_consistent yard.store) made prints refl))

pub returns-in-Err : goal.returns-in-Err
returns-in-Err g c = λ input.
    let tells = lent_beside input g.S.Store.told g.O.Sink.written g.O.Sink.faults in
    let before = tells c.args.store c.args.output.now in
    let after = tells c.in-Err.store c.args.output.now in
    subst (λ (e : Ending). Shown IsReportOf before after e) (sym c.into.ensures)
    (shown_refused IsReportOf before after c.in-Err.fault has_report c.in-Err.ensures.refused refl refl)
