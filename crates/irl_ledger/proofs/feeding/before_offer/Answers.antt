use Rattle.std.proofs.Common.{◌≡◌, ◌∙◌, ◌<◌, [], length, set, slice_index_or, Ok, Err, sym, ap, subst, arith}
use Rattle.std.proofs.lemmas.List.{get_or_default}
use Rattle.std.proofs.lemmas.Result.{err_from_is_err_and}
use Rattle.irl_offer.specs.declared.settings.Settings.{Settings}
use Rattle.irl_schedule.specs.Feeding.{IsArrayOf}
use Rattle.irl_schedule.specs.Schedule.{none_more}
use Rattle.irl_schedule.specs.Arrays.{AreArrays, array_at, no_array}
use Rattle.irl_ledger.specs.Running.{nowhere}
use Rattle.irl_ledger.proofs.Handing.{feeding_at, feeding_both, feeding_err, feeding_merge, feeding_nothing, feeding_ok, open_after}
use Rattle.irl_ledger.proofs.feeding.before_offer.Goals as goal

pub returns-in_err-merge_if_due-clause-feeds : goal.returns-in_err-merge_if_due-clause-feeds
returns-in_err-merge_if_due-clause-feeds g c =
    let told = g.S.Store.told in
    let arrays = c.args.arrays.now in
    let out = err_from_is_err_and c.from_residual.result c.from_residual.ensures.1 in
    feeding_err c.merge_if_due.result c.from_residual.result _ nowhere 0 none_more [] arrays arrays c.args.bay.now c.merge_if_due.new.bay (told c.args.store.now) (told c.merge_if_due.new.store)
    c.in_err-merge_if_due.was (out.1 ∙ ap (λ e. Err e) out.2)
    (feeding_merge c.merge_if_due.result 0 none_more arrays c.args.bay.now c.merge_if_due.new.bay (told c.args.store.now) (told c.merge_if_due.new.store) c.requires.arrays
    c.merge_if_due.ensures.schedules c.merge_if_due.ensures.goes_on)

pub make_room-requires-clause-long : goal.make_room-requires-clause-long
make_room-requires-clause-long g c =
    let goes = open_after _ c.merge_if_due.new.bay (g.S.Store.told c.merge_if_due.new.store) c.in_ok-merge_if_due.ensures.goes_on in
    goes.long (goes.sound (λ failed. let no : ⊥ = cc in absurd no))

pub make_room-requires-clause-room : goal.make_room-requires-clause-room
make_room-requires-clause-room g c =
    let arrays = c.args.arrays.now in
    let b = c.args.b in
    let x = c.index-arrays-b-then-is_full.result in
    let within : b < length arrays = omega (arith, c.requires.arrays.count, c.requires.bucket) in
    let is : slice_index_or arrays b x ≡ array_at arrays b = get_or_default arrays b x no_array within in
    let settings = (c.merge_if_due.ensures.schedules (λ n. [])).stays.settings in
    record {
      bucket = subst (λ (s : Settings). b < s.buckets) (sym settings) c.requires.bucket;
      array_is = subst (λ (s : Settings). IsArrayOf s b (slice_index_or arrays b x)) (sym settings)
          (subst (IsArrayOf c.args.bay.now.settings b) (sym is) (c.requires.arrays.each b c.requires.bucket));
      ready = λ full. c.in_ok-merge_if_due.ensures.merges.ready;
    }

pub returns-in_err-make_room-clause-feeds : goal.returns-in_err-make_room-clause-feeds
returns-in_err-make_room-clause-feeds g c =
    let told = g.S.Store.told in
    let arrays = c.args.arrays.now in
    let b = c.args.b in
    let x = c.index-arrays-b-then-is_full.result in
    let within : b < length arrays = omega (arith, c.requires.arrays.count, c.requires.bucket) in
    let is : slice_index_or arrays b x ≡ array_at arrays b = get_or_default arrays b x no_array within in
    let old = c.args.bay.now in
    let mid = c.merge_if_due.new.bay in
    let new = c.make_room.new.bay in
    let made = c.make_room.new.array in
    let later = set arrays b made in
    let first = feeding_ok c.merge_if_due.result _ (tt {0}) nowhere 0 none_more [] arrays arrays old mid (told c.args.store.now) (told c.merge_if_due.new.store) c.in_ok-merge_if_due.was
    (feeding_merge c.merge_if_due.result 0 none_more arrays old mid (told c.args.store.now) (told c.merge_if_due.new.store) c.requires.arrays c.merge_if_due.ensures.schedules
    c.merge_if_due.ensures.goes_on) in
    let settings = (c.merge_if_due.ensures.schedules (λ n. [])).stays.settings in
    let second = feeding_at c.make_room.result 0 none_more arrays b (slice_index_or arrays b x) made mid new (told c.merge_if_due.new.store) (told c.make_room.new.store) within is
    (subst (λ (s : Settings). AreArrays s arrays) (sym settings) c.requires.arrays) c.make_room.ensures.makes.array c.make_room.ensures.schedules c.make_room.ensures.goes_on in
    let out = err_from_is_err_and c.from_residual-in_err-make_room.result c.from_residual-in_err-make_room.ensures.1 in
    feeding_err c.make_room.result c.from_residual-in_err-make_room.result _ nowhere 0 none_more [] arrays later old new (told c.args.store.now) (told c.make_room.new.store) c.in_err-make_room.was
    (out.1 ∙ ap (λ e. Err e) out.2)
    (feeding_both (tt {0}) c.make_room.result nowhere 0 none_more [] [] arrays arrays later old mid new (told c.args.store.now) (told c.merge_if_due.new.store) (told c.make_room.new.store)
    (g.met.S.Store.is_consistent c.merge_if_due.new.store) first second)

pub returns-in_ok-make_room-clause-feeds : goal.returns-in_ok-make_room-clause-feeds
returns-in_ok-make_room-clause-feeds g c =
    let told = g.S.Store.told in
    let arrays = c.args.arrays.now in
    let b = c.args.b in
    let x = c.index-arrays-b-then-is_full.result in
    let within : b < length arrays = omega (arith, c.requires.arrays.count, c.requires.bucket) in
    let is : slice_index_or arrays b x ≡ array_at arrays b = get_or_default arrays b x no_array within in
    let old = c.args.bay.now in
    let mid = c.merge_if_due.new.bay in
    let new = c.make_room.new.bay in
    let made = c.make_room.new.array in
    let later = set arrays b made in
    let first = feeding_ok c.merge_if_due.result _ (tt {0}) nowhere 0 none_more [] arrays arrays old mid (told c.args.store.now) (told c.merge_if_due.new.store) c.in_ok-merge_if_due.was
    (feeding_merge c.merge_if_due.result 0 none_more arrays old mid (told c.args.store.now) (told c.merge_if_due.new.store) c.requires.arrays c.merge_if_due.ensures.schedules
    c.merge_if_due.ensures.goes_on) in
    let settings = (c.merge_if_due.ensures.schedules (λ n. [])).stays.settings in
    let second = feeding_at c.make_room.result 0 none_more arrays b (slice_index_or arrays b x) made mid new (told c.merge_if_due.new.store) (told c.make_room.new.store) within is
    (subst (λ (s : Settings). AreArrays s arrays) (sym settings) c.requires.arrays) c.make_room.ensures.makes.array c.make_room.ensures.schedules c.make_room.ensures.goes_on in
    feeding_ok c.make_room.result _ (tt {0}) nowhere 0 none_more [] arrays later old new (told c.args.store.now) (told c.make_room.new.store) c.in_ok-make_room.was
    (feeding_both (tt {0}) c.make_room.result nowhere 0 none_more [] [] arrays arrays later old mid new (told c.args.store.now) (told c.merge_if_due.new.store) (told c.make_room.new.store)
    (g.met.S.Store.is_consistent c.merge_if_due.new.store) first second)

pub returns-else-is_full-clause-feeds : goal.returns-else-is_full-clause-feeds
returns-else-is_full-clause-feeds g c =
    feeding_nothing {A = Unit {0}} (Ok (tt {0})) nowhere c.args.arrays.now c.args.bay.now (g.S.Store.told c.args.store.now) (g.met.S.Store.is_consistent c.args.store.now)
    c.is_sound-is_sound.ensures.drum
    c.requires.arrays c.requires.sound c.requires.long (λ is. let no : ⊥ = cc in absurd no) (λ n is. let no : ⊥ = cc in absurd no) (λ f at is. let no : ⊥ = cc in absurd no)
