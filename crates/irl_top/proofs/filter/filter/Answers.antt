use Rattle.std.proofs.Common.{◌∙◌, ℕ, [], inl, refl, sym, ap, subst, arith}
use Rattle.irl_bay.specs.Drum.{Drum}
use Rattle.irl_schedule.specs.Feeding.{Waits, moment}
use Rattle.irl_schedule.specs.Arrays.{waiting_at}
use Rattle.irl_top.specs.declared.ending.Ending.{Ending}
use Rattle.irl_top.specs.declared.ending.Ending.TheVariants.{NoMemory}
use Rattle.irl_top.specs.Message.{ending_of}
use Rattle.irl_top.specs.Outside.{Lent, lent}
use Rattle.irl_top.specs.Run.{Ran, line_task}
use Rattle.irl_top.specs.Session.{Place}
use Rattle.irl_top.specs.Stream.{Stream}
use Rattle.irl_top.proofs.InputLines.{start, told_none, read_some}
use Rattle.irl_top.proofs.Calls.{reason_input, stop_plain}
use Rattle.irl_top.proofs.Opened.{IsEntered, ran_opened}
use Rattle.irl_top.proofs.Closed.{ran_refused}
use Rattle.irl_top.proofs.filter.filter.Given.{Over}
use Rattle.irl_top.proofs.filter.filter.Goals as goal

-- a place over an open store in front of which these offers wait
abbrev at : (g : Over) → g.row.S.Denot → Drum → Waits → g.row.O.Denot → ℕ → Place
at g store drum waits output printed =
    record { moment = moment (g.S.Store.told store) drum waits; output = record { bytes = g.O.Sink.written output; faults = g.O.Sink.faults output }; printed = printed }

-- what the three objects tell
abbrev told : (g : Over) → g.row.S.Denot → g.row.I.Denot → g.row.O.Denot → Lent
told g store input output = lent g.S.Store.told g.I.Source.left g.I.Source.faults g.O.Sink.written g.O.Sink.faults store input output

pub returns-in-Err : goal.returns-in-Err
returns-in-Err g c =
    let h = c.in-Err.ensures in
    let before = told g c.args.store c.args.input.now c.args.output.now in
    let after = told g c.in-Err.store c.args.input.now c.args.output.now in
    subst (λ (e : Ending). Ran (line_task c.args.kind c.args.asked.now) before after e) (sym c.into.ensures)
    (ran_refused c.args.kind c.args.asked.now before after c.in-Err.fault (g.met.S.Store.is_consistent c.args.store) (g.met.S.Store.is_consistent c.in-Err.store) (record {
      kind = c.requires.lines;
      ground = h.refused.ground;
      whole = h.refused.whole;
      same = h.refused.same;
      same_stops = h.refused.same_stops;
      blank = h.refused.blank;
      blank_stops = h.refused.blank_stops;
      files = h.entered_err.files;
      steps = h.entered_err.steps;
      stops = h.entered_err.stops;
      cause = h.entered_err.cause;
      input = refl;
      output = refl;
    }))

pub returns-in-Err-new : goal.returns-in-Err-new
returns-in-Err-new g c =
    let h = c.in-Ok.ensures in
    let left = g.I.Source.left in
    let asked = c.args.asked.now in
    let before = told g c.args.store c.args.input.now c.args.output.now in
    let here = at g c.in-Ok.yard.store c.in-Ok.yard.parts.urls (λ b. []) c.args.output.now c.judged_len-printed.result in
    let input : Stream = record { bytes = left c.args.input.now; faults = g.I.Source.faults c.args.input.now } in
    let law = g.met.S.Store.is_consistent c.in-Ok.yard.store in
    let entered : IsEntered asked before here = record {
      kind = c.requires.lines;
      holds = λ files told x has. (h.opened.holds files told x has).urls;
      drum = h.opened.drum;
      base = h.opened.base;
      settings = h.opened.settings;
      agrees = h.opened.agrees;
      ours = h.opened.ours;
      undamaged = h.opened.undamaged;
      files = h.entered.files;
      steps = h.entered.steps;
      stops = h.entered.stops;
      disk = h.entered.cause.later;
      output = refl;
      printed = c.judged_len-printed.ensures.value;
      empty = λ b. refl;
    } in
    let ran = ran_opened c.args.kind asked before here here input [] NoMemory (g.met.S.Store.is_consistent c.args.store) law law h.opened.drum entered (reason_input here NoMemory law (inl refl))
    (read_some c.args.kind start (left c.args.input.now) (left c.args.input.now) (left c.args.input.now) [] NoMemory (told_none c.args.kind start (left c.args.input.now)) (λ is. let no : ⊥ = cc in
    absurd no) (λ n is. let no : ⊥ = cc in absurd no))
    (record { later = omega arith; rose = λ is. let no : ⊥ = cc in absurd no }) (stop_plain c.args.kind here law h.opened.drum (λ b within. omega arith)) in
    let back = c.into_store.ensures ∙ ap (λ (y : _). y.store) c.in-Err-new.ensures.refused in
    subst (λ (s : g.row.S.Denot). Ran (line_task c.args.kind asked) before (told g s c.args.input.now c.args.output.now) NoMemory) (sym back) ran

pub returns : goal.returns
returns g c =
    let h = c.in-Ok.ensures in
    let left = g.I.Source.left in
    let asked = c.args.asked.now in
    let ending = ending_of c.take_in-taken.result in
    let intake = c.in-Ok-new.intake in
    let later = c.take_in-taken.new.intake in
    let before = told g c.args.store c.args.input.now c.args.output.now in
    let old = at g intake.yard.store intake.yard.parts.urls (waiting_at intake.arrays.items) c.args.output.now c.judged_len-printed.result in
    let new = at g later.yard.store later.yard.parts.urls (waiting_at later.arrays.items) c.take_in-taken.new.output c.take_in-taken.new.printed in
    let input : Stream = record { bytes = left c.take_in-taken.new.input; faults = g.I.Source.faults c.take_in-taken.new.input } in
    let first : IsEntered asked before (at g c.in-Ok.yard.store c.in-Ok.yard.parts.urls (waiting_at intake.arrays.items) c.args.output.now c.judged_len-printed.result) = record {
      kind = c.requires.lines;
      holds = λ files told x has. (h.opened.holds files told x has).urls;
      drum = h.opened.drum;
      base = h.opened.base;
      settings = h.opened.settings;
      agrees = h.opened.agrees;
      ours = h.opened.ours;
      undamaged = h.opened.undamaged;
      files = h.entered.files;
      steps = h.entered.steps;
      stops = h.entered.stops;
      disk = h.entered.cause.later;
      output = refl;
      printed = c.judged_len-printed.ensures.value;
      empty = c.in-Ok-new.ensures.empty;
    } in
    let entered : IsEntered asked before old = subst (λ (y : _). IsEntered asked before (at g y.store y.parts.urls (waiting_at intake.arrays.items) c.args.output.now c.judged_len-printed.result))
    (sym c.in-Ok-new.ensures.yard) first in
    let taken = c.take_in-taken.ensures in
    let ran = ran_opened c.args.kind asked before old new input taken.ends.0 ending (g.met.S.Store.is_consistent c.args.store) (g.met.S.Store.is_consistent intake.yard.store)
    (g.met.S.Store.is_consistent later.yard.store) c.is_sound-is_sound.ensures.drum entered taken.reason taken.ends.1 taken.cause taken.ends.2 in
    subst (λ (e : Ending). Ran (line_task c.args.kind asked) before (told g c.into_store-2.result c.take_in-taken.new.input c.take_in-taken.new.output) e) (sym c.of.ensures)
    (subst (λ (s : g.row.S.Denot). Ran (line_task c.args.kind asked) before (told g s c.take_in-taken.new.input c.take_in-taken.new.output) ending) (sym c.into_store-2.ensures) ran)
