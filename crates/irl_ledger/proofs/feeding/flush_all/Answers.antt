use Rattle.std.proofs.Common.{◌≡◌, ◌∙◌, ◌<◌, [], length, slice_index_or, Ok, Err, sym, ap, set, subst, arith}
use Rattle.std.proofs.lemmas.List.{get_or_default}
use Rattle.std.proofs.lemmas.Result.{err_from_is_err_and}
use Rattle.irl_offer.specs.declared.settings.Settings.{Settings}
use Rattle.irl_array.specs.Waiting.{Waiting}
use Rattle.irl_schedule.specs.Feeding.{IsArrayOf, Moment}
use Rattle.irl_schedule.specs.Schedule.{one_more, one_more_at}
use Rattle.irl_schedule.proofs.Finishing.{all_flushed, begins, ends, goes_on}
use Rattle.irl_schedule.specs.Arrays.{array_at, no_array}
use Rattle.irl_ledger.specs.Running.{moment_with, nowhere}
use Rattle.irl_ledger.proofs.Handing.{feeding_err, feeding_once, open_after, still_few}
use Rattle.irl_ledger.proofs.Running.{runs_once}
use Rattle.irl_schedule.proofs.Waits.{array_elsewhere, array_here, arrays_set, in_arrays, none_waits}
use Rattle.irl_ledger.proofs.feeding.flush_all.Goals as goal

pub loop-b-init : goal.loop-b-init
loop-b-init g c =
    let now = moment_with (g.S.Store.told c.args.store.now) c.args.bay.now c.args.arrays.now in (
      begins now (g.met.S.Store.is_consistent c.args.store.now) c.is_sound-is_sound.ensures.drum,
      c.requires.arrays,
      c.requires.sound,
      record { drum = c.is_sound-is_sound.ensures.drum; sound = λ not. c.requires.sound; long = λ is. c.requires.long },
    )

pub flush_some-requires-clause-some : goal.flush_some-requires-clause-some
flush_some-requires-clause-some g c =
    let b = c.loop-b.b in
    let arrays = c.loop-b.arrays in
    let far = c.loop-b.invariant.0 in
    let are = c.loop-b.invariant.1 in
    let settings = far.schedules.stays.settings in
    let before : b < c.args.bay.now.settings.buckets = omega (arith, c.loop-b-test.true, ap (λ (s : Settings). s.buckets) c.settings-b-end.ensures) in
    let inside : b < c.loop-b.bay.settings.buckets = omega (arith, before, ap (λ (s : Settings). s.buckets) settings) in
    let within : b < length arrays = omega (arith, inside, are.count) in
    record {
      bucket = inside;
      array_is = subst (IsArrayOf c.loop-b.bay.settings b) (sym (get_or_default arrays b _ no_array within)) (are.each b inside);
      ready = λ one. still_few c.args.bay.now c.loop-b.bay b c.requires.ready before settings far.last (far.behind b (omega arith)).1;
    }

pub flush_some-requires-clause-sound : goal.flush_some-requires-clause-sound
flush_some-requires-clause-sound g c = c.loop-b.invariant.2

pub flush_some-requires-clause-long : goal.flush_some-requires-clause-long
flush_some-requires-clause-long g c = c.loop-b.invariant.3.long c.loop-b.invariant.2

pub returns-in_err-flush_some-clause-feeds : goal.returns-in_err-flush_some-clause-feeds
returns-in_err-flush_some-clause-feeds g c =
    let told = g.S.Store.told in
    let b = c.loop-b.b in
    let arrays = c.loop-b.arrays in
    let x = c.index-arrays-b.result in
    let far = c.loop-b.invariant.0 in
    let are = c.loop-b.invariant.1 in
    let before : b < c.args.bay.now.settings.buckets = omega (arith, c.loop-b-test.true, ap (λ (s : Settings). s.buckets) c.settings-b-end.ensures) in
    let within : b < length arrays = omega (arith, before, are.count, ap (λ (s : Settings). s.buckets) far.schedules.stays.settings) in
    let is : slice_index_or arrays b x ≡ array_at arrays b = get_or_default arrays b x no_array within in
    let made = c.flush_some.new.array in
    let start = c.args.bay.now in
    let mid = c.loop-b.bay in
    let new = c.flush_some.new.bay in
    let p : Moment = moment_with (told c.args.store.now) start c.args.arrays.now in
    let q : Moment = moment_with (told c.loop-b.store) mid arrays in
    let r : Moment = moment_with (told c.flush_some.new.store) new (set arrays b made) in
    let one = in_arrays c.flush_some.result 0 (one_more_at b) arrays b (slice_index_or arrays b x) made (told c.loop-b.store) (told c.flush_some.new.store) mid new within is
    c.flush_some.ensures.schedules in
    let out = err_from_is_err_and c.from_residual.result c.from_residual.ensures.1 in
    feeding_err c.flush_some.result c.from_residual.result _ nowhere 0 one_more [] c.args.arrays.now (set arrays b made) start new (told c.args.store.now) (told c.flush_some.new.store)
    c.in_err-flush_some.was (out.1 ∙ ap (λ e. Err e) out.2)
    (feeding_once c.flush_some.result 0 one_more c.args.arrays.now (set arrays b made) start new (told c.args.store.now) (told c.flush_some.new.store)
    (arrays_set mid.settings new.settings arrays b made (c.flush_some.ensures.schedules (λ n. [])).stays.settings within are c.flush_some.ensures.flushes.array)
    (ends b c.flush_some.result p q r (g.met.S.Store.is_consistent c.loop-b.store) far one) c.flush_some.ensures.goes_on)

pub loop-b-preserved : goal.loop-b-preserved
loop-b-preserved g c =
    let told = g.S.Store.told in
    let b = c.loop-b.b in
    let arrays = c.loop-b.arrays in
    let x = c.index-arrays-b.result in
    let far = c.loop-b.invariant.0 in
    let are = c.loop-b.invariant.1 in
    let before : b < c.args.bay.now.settings.buckets = omega (arith, c.loop-b-test.true, ap (λ (s : Settings). s.buckets) c.settings-b-end.ensures) in
    let within : b < length arrays = omega (arith, before, are.count, ap (λ (s : Settings). s.buckets) far.schedules.stays.settings) in
    let is : slice_index_or arrays b x ≡ array_at arrays b = get_or_default arrays b x no_array within in
    let made = c.flush_some.new.array in
    let start = c.args.bay.now in
    let mid = c.loop-b.bay in
    let new = c.flush_some.new.bay in
    let p : Moment = moment_with (told c.args.store.now) start c.args.arrays.now in
    let q : Moment = moment_with (told c.loop-b.store) mid arrays in
    let r : Moment = moment_with (told c.flush_some.new.store) new (set arrays b made) in
    let one = in_arrays c.flush_some.result 0 (one_more_at b) arrays b (slice_index_or arrays b x) made (told c.loop-b.store) (told c.flush_some.new.store) mid new within is
    c.flush_some.ensures.schedules in
    let goes = open_after _ new (told c.flush_some.new.store) c.in_ok-flush_some.ensures.goes_on in
    let sound = goes.sound (λ failed. let no : ⊥ = cc in absurd no) in (
      goes_on b c.flush_some.result (tt {0}) p q r c.in_ok-flush_some.was (g.met.S.Store.is_consistent c.loop-b.store) far one c.flush_some.ensures.flushes.counts
          (ap (λ (a : Waiting). a.items) (array_here arrays b made within) ∙ c.in_ok-flush_some.ensures.flushes.emptied)
          (λ n other. ap (λ (a : Waiting). a.items) (array_elsewhere arrays b n made other)),
      arrays_set mid.settings new.settings arrays b made (c.flush_some.ensures.schedules (λ n. [])).stays.settings within are c.flush_some.ensures.flushes.array,
      sound,
      record { drum = goes.drum; sound = λ not. sound; long = goes.long },
    )

pub returns-clause-feeds : goal.returns-clause-feeds
returns-clause-feeds g c =
    let told = g.S.Store.told in
    let p : Moment = moment_with (told c.args.store.now) c.args.bay.now c.args.arrays.now in
    let q : Moment = moment_with (told c.loop-b.store) c.loop-b.bay c.loop-b.arrays in
    record {
      runs = runs_once (Ok (tt {0})) nowhere 0 one_more [] p q (all_flushed c.loop-b.b p q c.loop-b.invariant.0);
      arrays = c.loop-b.invariant.1;
      goes_on = record { drum = c.loop-b.invariant.3.drum; sound = λ not. c.loop-b.invariant.2; long = c.loop-b.invariant.3.long };
    }

pub returns-clause-emptied : goal.returns-clause-emptied
returns-clause-emptied g c = λ b.
    none_waits c.loop-b.arrays c.loop-b.b b
    (omega (
      arith,
      c.loop-b.invariant.1.count,
      c.loop-b-test.false,
      ap (λ (s : Settings). s.buckets) c.settings-b-end.ensures,
      ap (λ (s : Settings). s.buckets) c.loop-b.invariant.0.schedules.stays.settings,
    ))
    c.loop-b.invariant.0.before
