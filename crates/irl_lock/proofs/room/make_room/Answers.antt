use Rattle.std.proofs.Common.{◌∙◌, ◌<◌, [], length, Result, Ok, Err, OnOk, sym, ap, subst}
use Rattle.std.proofs.lemmas.Result.{err_from_is_err_and}
use Rattle.irl_base.specs.declared.fault.Fault.{Fault}
use Rattle.irl_offer.specs.declared.settings.Settings.{Settings}
use Rattle.irl_schedule.specs.Feeding.{IsArrayOf, with_waiting}
use Rattle.irl_schedule.specs.Schedule.{none_more}
use Rattle.irl_yard.specs.Moments.{moment_at}
use Rattle.irl_intake.proofs.Steps.{sound_on}
use Rattle.irl_desk.proofs.Chaining.{steps_err, steps_ok, steps_one, steps_then}
use Rattle.irl_lock.proofs.Rooms.{few_with}
use Rattle.irl_lock.proofs.room.make_room.Goals as goal

pub returns-in_err-merge_if_due : goal.returns-in_err-merge_if_due
returns-in_err-merge_if_due g c =
    let old = c.args.yard.now in
    let mid = c.merge_if_due.new.self in
    let out = err_from_is_err_and c.from_residual.result c.from_residual.ensures.1 in
    let is = out.1 ∙ ap (λ e. Err e) out.2 in
    let settings = (c.merge_if_due.ensures.schedules (λ b. [])).stays.settings in
    record {
      steps = λ others few.
          let waits = with_waiting others c.args.b c.args.array.now.items in
          let enough = few_with old mid others c.args.b c.args.array.now settings few c.requires.array_is in
          steps_err c.merge_if_due.result c.from_residual.result _ none_more (moment_at old waits) (moment_at mid waits) c.in_err-merge_if_due.was is
          (steps_one c.merge_if_due.result none_more (moment_at old waits) (moment_at mid waits) enough (c.merge_if_due.ensures.schedules waits));
      rest = c.merge_if_due.ensures.rest;
      sound = sound_on c.merge_if_due.result c.from_residual.result _ mid.parts c.in_err-merge_if_due.was is c.merge_if_due.ensures.goes_on;
      array = c.requires.array_is;
      room = subst (λ (r : Result (Unit {0}) Fault). OnOk r (length c.args.array.now.items < old.parts.urls.settings.array)) (sym is) tt;
    }

pub make_room-requires-clause-sound : goal.make_room-requires-clause-sound
make_room-requires-clause-sound g c = c.in_ok-merge_if_due.ensures.goes_on.sound (λ failed. let no : ⊥ = cc in absurd no)

pub make_room-requires-clause-room : goal.make_room-requires-clause-room
make_room-requires-clause-room g c =
    let settings = (c.merge_if_due.ensures.schedules (λ b. [])).stays.settings in
    record {
      bucket = subst (λ (s : Settings). c.args.b < s.buckets) (sym settings) c.requires.bucket;
      array_is = subst (λ (s : Settings). IsArrayOf s c.args.b c.args.array.now) (sym settings) c.requires.array_is;
      ready = λ full. c.in_ok-merge_if_due.ensures.merges.ready;
    }

pub returns : goal.returns
returns g c =
    let old = c.args.yard.now in
    let mid = c.merge_if_due.new.self in
    let new = c.make_room.new.self in
    let was = c.args.array.now in
    let now = c.make_room.new.array in
    let first = (c.merge_if_due.ensures.schedules (λ b. [])).stays.settings in
    let second = (c.make_room.ensures.schedules (λ b. [])).stays.settings in
    let array : IsArrayOf old.parts.urls.settings c.args.b now = subst (λ (s : Settings). IsArrayOf s c.args.b now) first c.make_room.ensures.makes.array in
    record {
      steps = λ others few.
          let m0 = moment_at old (with_waiting others c.args.b was.items) in
          let m1 = moment_at mid (with_waiting others c.args.b was.items) in
          let m2 = moment_at new (with_waiting others c.args.b now.items) in
          let few1 = few_with old mid others c.args.b was first few c.requires.array_is in
          let few2 = few_with old new others c.args.b now (second ∙ first) few array in
          let one = steps_one (Ok c.in_ok-merge_if_due.field-0) none_more m0 m1 few1 (c.in_ok-merge_if_due.ensures.schedules (with_waiting others c.args.b was.items)) in
          steps_then (tt {0}) c.make_room.result none_more m0 m1 m2 (g.met.S.Store.is_consistent mid.store)
          (steps_ok c.in_ok-merge_if_due.field-0 (tt {0}) none_more m0 m1 one)
          (steps_one c.make_room.result none_more m1 m2 few2 (c.make_room.ensures.schedules others));
      rest = c.make_room.ensures.rest ∙ c.merge_if_due.ensures.rest;
      sound = c.make_room.ensures.goes_on;
      array = array;
      room = subst (λ (s : Settings). OnOk c.make_room.result (length now.items < s.array)) first c.make_room.ensures.makes.room;
    }
