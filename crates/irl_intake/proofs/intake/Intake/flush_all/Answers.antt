use Rattle.std.proofs.Common.{◌≡◌, ◌∙◌, ◌<◌, List, [], length, Err, refl, ap, set, arith}
use Rattle.std.proofs.lemmas.List.{get_or_read}
use Rattle.std.proofs.lemmas.Result.{err_from_is_err_and}
use Rattle.irl_offer.specs.declared.settings.Settings.{Settings}
use Rattle.irl_array.specs.Waiting.{Waiting}
use Rattle.irl_schedule.specs.Feeding.{Moment, moment, with_waiting}
use Rattle.irl_schedule.specs.Schedule.{one_more, one_more_at}
use Rattle.irl_schedule.proofs.Counts.{waiting_elsewhere}
use Rattle.irl_schedule.proofs.Finishing.{all_flushed, begins, ends, full_names, goes_on}
use Rattle.irl_schedule.proofs.Outcomes.{err_gives}
use Rattle.irl_schedule.specs.Arrays.{no_array, array_at, waiting_at}
use Rattle.irl_intake.proofs.Steps.{handed_on, refused_stop, stops_here}
use Rattle.irl_schedule.proofs.Waits.{array_here, array_elsewhere, arrays_set, in_arrays, none_waits, set_same}
use Rattle.irl_intake.proofs.intake.Intake.flush_all.Goals as goal

pub loop-b-init : goal.loop-b-init
loop-b-init g c =
    let was = c.args.self.now in
    let now : Moment = moment (g.S.Store.told was.yard.store) was.yard.parts.urls (waiting_at was.arrays.items) in
    (begins now (g.met.S.Store.is_consistent was.yard.store) c.is_sound-is_sound.ensures.drum, c.requires.sound, c.is_sound-is_sound.ensures.drum, refl)

pub invariant_of-self-in-loop-b : goal.invariant_of-self-in-loop-b
invariant_of-self-in-loop-b g c =
    let between = c.loop-b.self in
    let within : c.loop-b.b < length between.arrays.items = omega (
      arith,
      between.arrays_are.count,
      c.loop-b-test.true,
      ap (λ (s : Settings). s.buckets) c.settings-b-end.ensures.value,
      ap (λ (s : Settings). s.buckets) c.loop-b.invariant.0.schedules.stays.settings,
    ) in
    record {
      arrays_are = arrays_set between.yard.parts.urls.settings c.flush_some.new.self.parts.urls.settings between.arrays.items c.loop-b.b c.flush_some.new.array
          (c.flush_some.ensures.schedules (λ n. [])).stays.settings within between.arrays_are c.flush_some.ensures.flushes.array;
    }

pub returns-in_err-flush_some-clause-schedules : goal.returns-in_err-flush_some-clause-schedules
returns-in_err-flush_some-clause-schedules g c =
    let tells = g.S.Store.told in
    let was = c.args.self.now in
    let between = c.loop-b.self in
    let next = c.flush_some.new.self in
    let b = c.loop-b.b in
    let arrays = between.arrays.items in
    let array = c.index_mut.result.now in
    let flushed = c.flush_some.new.array in
    let far = c.loop-b.invariant.0 in
    let within : b < length arrays = omega (
      arith,
      between.arrays_are.count,
      c.loop-b-test.true,
      ap (λ (s : Settings). s.buckets) c.settings-b-end.ensures.value,
      ap (λ (s : Settings). s.buckets) far.schedules.stays.settings,
    ) in
    let is : array ≡ array_at arrays b = get_or_read arrays b array within c.index_mut.ensures.value no_array in
    let old : Moment = moment (tells was.yard.store) was.yard.parts.urls (waiting_at was.arrays.items) in
    let mid : Moment = moment (tells between.yard.store) between.yard.parts.urls (waiting_at arrays) in
    let new : Moment = moment (tells next.store) next.parts.urls (waiting_at (set arrays b flushed)) in
    let one = in_arrays c.flush_some.result 0 (one_more_at b) arrays b array flushed (tells between.yard.store) (tells next.store) between.yard.parts.urls next.parts.urls within is
    c.flush_some.ensures.schedules in
    let out = err_from_is_err_and c.from_residual.result c.from_residual.ensures.1 in
    handed_on c.flush_some.result c.from_residual.result _ 0 one_more [] old new c.in_err-flush_some.was (out.1 ∙ ap (λ e. Err e) out.2)
    (ends b c.flush_some.result old mid new (g.met.S.Store.is_consistent between.yard.store) far one)

pub returns-in_err-flush_some-clause-ordered : goal.returns-in_err-flush_some-clause-ordered
returns-in_err-flush_some-clause-ordered g c =
    let tells = g.S.Store.told in
    let was = c.args.self.now in
    let between = c.loop-b.self in
    let next = c.flush_some.new.self in
    let b = c.loop-b.b in
    let arrays = between.arrays.items in
    let array = c.index_mut.result.now in
    let flushed = c.flush_some.new.array in
    let far = c.loop-b.invariant.0 in
    let within : b < length arrays = omega (
      arith,
      between.arrays_are.count,
      c.loop-b-test.true,
      ap (λ (s : Settings). s.buckets) c.settings-b-end.ensures.value,
      ap (λ (s : Settings). s.buckets) far.schedules.stays.settings,
    ) in
    let is : array ≡ array_at arrays b = get_or_read arrays b array within c.index_mut.ensures.value no_array in
    let old : Moment = moment (tells was.yard.store) was.yard.parts.urls (waiting_at was.arrays.items) in
    let mid : Moment = moment (tells between.yard.store) between.yard.parts.urls (waiting_at arrays) in
    let new : Moment = moment (tells next.store) next.parts.urls (waiting_at (set arrays b flushed)) in
    let one = in_arrays c.flush_some.result 0 (one_more_at b) arrays b array flushed (tells between.yard.store) (tells next.store) between.yard.parts.urls next.parts.urls within is
    c.flush_some.ensures.schedules in
    let out = err_from_is_err_and c.from_residual.result c.from_residual.ensures.1 in
    let kept : flushed ≡ array = err_gives c.flush_some.result _ c.flush_some.ensures.flushes.kept c.in_err-flush_some.was in
    let same : set arrays b flushed ≡ arrays = set_same arrays b array flushed is kept in
    let inside : b < was.yard.parts.urls.settings.buckets = omega (arith, within, between.arrays_are.count, ap (λ (s : Settings). s.buckets) far.schedules.stays.settings) in
    refused_stop c.flush_some.result c.from_residual.result _ b old new c.in_err-flush_some.was (out.1 ∙ ap (λ e. Err e) out.2)
    (stops_here b old mid new inside far (λ n. ap (λ (l : List Waiting). waiting_at l n) same))
    (full_names b c.flush_some.result 0 (one_more_at b) [] (moment (tells between.yard.store) between.yard.parts.urls (with_waiting (λ m. []) b array.items))
    (moment (tells next.store) next.parts.urls (with_waiting (λ m. []) b flushed.items)) (λ n other. waiting_elsewhere (λ m. []) b n flushed.items other) (c.flush_some.ensures.schedules (λ n. [])))

pub loop-b-preserved : goal.loop-b-preserved
loop-b-preserved g c =
    let tells = g.S.Store.told in
    let was = c.args.self.now in
    let between = c.loop-b.self in
    let next = c.flush_some.new.self in
    let b = c.loop-b.b in
    let arrays = between.arrays.items in
    let array = c.index_mut.result.now in
    let flushed = c.flush_some.new.array in
    let far = c.loop-b.invariant.0 in
    let within : b < length arrays = omega (
      arith,
      between.arrays_are.count,
      c.loop-b-test.true,
      ap (λ (s : Settings). s.buckets) c.settings-b-end.ensures.value,
      ap (λ (s : Settings). s.buckets) far.schedules.stays.settings,
    ) in
    let is : array ≡ array_at arrays b = get_or_read arrays b array within c.index_mut.ensures.value no_array in
    let old : Moment = moment (tells was.yard.store) was.yard.parts.urls (waiting_at was.arrays.items) in
    let mid : Moment = moment (tells between.yard.store) between.yard.parts.urls (waiting_at arrays) in
    let new : Moment = moment (tells next.store) next.parts.urls (waiting_at (set arrays b flushed)) in
    let one = in_arrays c.flush_some.result 0 (one_more_at b) arrays b array flushed (tells between.yard.store) (tells next.store) between.yard.parts.urls next.parts.urls within is
    c.flush_some.ensures.schedules in (
      goes_on b c.flush_some.result tt old mid new c.in_ok-flush_some.was (g.met.S.Store.is_consistent between.yard.store) far one c.flush_some.ensures.flushes.counts
          (ap (λ (a : Waiting). a.items) (array_here arrays b flushed within) ∙ c.in_ok-flush_some.ensures.flushes.emptied)
          (λ n other. ap (λ (a : Waiting). a.items) (array_elsewhere arrays b n flushed other)),
      c.in_ok-flush_some.ensures.goes_on.sound (λ failed. let no : ⊥ = cc in absurd no),
      c.flush_some.ensures.goes_on.drum,
      c.flush_some.ensures.rest ∙ c.loop-b.invariant.3,
    )

pub returns-clause-schedules : goal.returns-clause-schedules
returns-clause-schedules g c =
    let tells = g.S.Store.told in
    let was = c.args.self.now in
    let now = c.loop-b.self in
    all_flushed c.loop-b.b (moment (tells was.yard.store) was.yard.parts.urls (waiting_at was.arrays.items)) (moment (tells now.yard.store) now.yard.parts.urls (waiting_at now.arrays.items))
    c.loop-b.invariant.0

pub returns-clause-emptied : goal.returns-clause-emptied
returns-clause-emptied g c = λ b.
    let now = c.loop-b.self in
    none_waits now.arrays.items c.loop-b.b b (omega (
      arith,
      now.arrays_are.count,
      c.loop-b-test.false,
      ap (λ (s : Settings). s.buckets) c.settings-b-end.ensures.value,
      ap (λ (s : Settings). s.buckets) c.loop-b.invariant.0.schedules.stays.settings,
    ))
    c.loop-b.invariant.0.before

pub returns-clause-goes_on : goal.returns-clause-goes_on
returns-clause-goes_on g c = record {
  drum = c.loop-b.invariant.2;
  sound = λ not. c.loop-b.invariant.1;
  unsound = λ failed. let no : ⊥ = cc in absurd no;
}
