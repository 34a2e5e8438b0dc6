use Rattle.std.proofs.Common.{◌≡◌, ◌∙◌, ◌<◌, ◌≤◌, [], length, set, Err, refl, sym, ap, rules, subst, arith}
use Rattle.std.proofs.lemmas.List.{get_or_read}
use Rattle.std.proofs.lemmas.Result.{err_from_is_err_and}
use Rattle.irl_offer.specs.declared.settings.Settings.{Settings}
use Rattle.irl_array.specs.Waiting.{Waiting}
use Rattle.irl_schedule.specs.Feeding.{IsArrayOf, Moment, moment, with_waiting}
use Rattle.irl_schedule.specs.Schedule.{IsDue, none_more}
use Rattle.irl_schedule.specs.Scheduling.{Schedules}
use Rattle.irl_schedule.proofs.Counts.{waiting_elsewhere}
use Rattle.irl_schedule.proofs.Finishing.{full_names}
use Rattle.irl_schedule.proofs.Schedules.{answers_ok, schedules_none}
use Rattle.irl_schedule.specs.Arrays.{AreArrays, no_array, array_at, waiting_at}
use Rattle.irl_intake.specs.declared.next.Next.TheVariants.{Merged, Ready}
use Rattle.irl_intake.proofs.Steps.{alone_refused, handed_on, made_room, merged_first, never_full, refused_first, same_answer, same_moment, sound_on}
use Rattle.irl_schedule.proofs.Waits.{array_elsewhere, arrays_set, in_arrays}
use Rattle.irl_intake.proofs.intake.Intake.before_offer.Goals as goal

pub returns-then-not-is_full-clause-schedules : goal.returns-then-not-is_full-clause-schedules
returns-then-not-is_full-clause-schedules g c =
    let was = c.args.self.now in
    schedules_none Ready (moment (g.S.Store.told was.yard.store) was.yard.parts.urls (waiting_at was.arrays.items)) (g.met.S.Store.is_consistent was.yard.store) c.is_sound-is_sound.ensures.drum

pub invariant_of-self-in-Break-1 : goal.invariant_of-self-in-Break-1
invariant_of-self-in-Break-1 g c = record {
  arrays_are = subst (λ (s : Settings). AreArrays s c.args.self.now.arrays.items) (sym (c.merge_if_due.ensures.schedules (λ n. [])).stays.settings) c.args.self.now.arrays_are;
}

pub invariant_of-self-then-branch : goal.invariant_of-self-then-branch
invariant_of-self-then-branch g c = record {
  arrays_are = subst (λ (s : Settings). AreArrays s c.args.self.now.arrays.items) (sym (c.merge_if_due.ensures.schedules (λ n. [])).stays.settings) c.args.self.now.arrays_are;
}

pub invariant_of-self-2 : goal.invariant_of-self-2
invariant_of-self-2 g c =
    let was = c.args.self.now in
    let next = c.merge_if_due.new.self in
    let arrays = was.arrays.items in
    let within : c.args.b < length arrays = omega (arith, was.arrays_are.count, c.requires.bucket) in
    let are = subst (λ (s : Settings). AreArrays s arrays) (sym (c.merge_if_due.ensures.schedules (λ n. [])).stays.settings) was.arrays_are in
    record {
      arrays_are = arrays_set next.parts.urls.settings c.make_room.new.self.parts.urls.settings arrays c.args.b c.make_room.new.array (c.make_room.ensures.schedules (λ n. [])).stays.settings within
          are
          c.make_room.ensures.makes.array;
    }

pub make_room-requires-clause-room : goal.make_room-requires-clause-room
make_room-requires-clause-room g c =
    let was = c.args.self.now in
    let b = c.args.b in
    let arrays = was.arrays.items in
    let within : b < length arrays = omega (arith, was.arrays_are.count, c.requires.bucket) in
    let is : c.index_mut.result.now ≡ array_at arrays b = get_or_read arrays b c.index_mut.result.now within c.index_mut.ensures.value no_array in
    let settings = (c.merge_if_due.ensures.schedules (λ n. [])).stays.settings in
    record {
      bucket = subst (λ (s : Settings). b < s.buckets) (sym settings) c.requires.bucket;
      array_is = subst (λ (s : Settings). IsArrayOf s b c.index_mut.result.now) (sym settings) (subst (IsArrayOf was.yard.parts.urls.settings b) (sym is) (was.arrays_are.each b c.requires.bucket));
      ready = λ full. c.in_ok-merge_if_due.ensures.merges.ready;
    }

pub returns-in_err-merge_if_due-clause-schedules : goal.returns-in_err-merge_if_due-clause-schedules
returns-in_err-merge_if_due-clause-schedules g c =
    let tells = g.S.Store.told in
    let was = c.args.self.now in
    let next = c.merge_if_due.new.self in
    let waits = waiting_at was.arrays.items in
    let old : Moment = moment (tells was.yard.store) was.yard.parts.urls waits in
    let mid : Moment = moment (tells next.store) next.parts.urls waits in
    let out = err_from_is_err_and c.from_residual.result c.from_residual.ensures.1 in
    let is = out.1 ∙ ap (λ e. Err e) out.2 in
    handed_on c.merge_if_due.result c.from_residual.result _ 0 none_more [] old mid c.in_err-merge_if_due.was is (c.merge_if_due.ensures.schedules waits)

pub returns-in_err-merge_if_due-clause-advances : goal.returns-in_err-merge_if_due-clause-advances
returns-in_err-merge_if_due-clause-advances g c =
    let tells = g.S.Store.told in
    let was = c.args.self.now in
    let next = c.merge_if_due.new.self in
    let waits = waiting_at was.arrays.items in
    let old : Moment = moment (tells was.yard.store) was.yard.parts.urls waits in
    let mid : Moment = moment (tells next.store) next.parts.urls waits in
    let out = err_from_is_err_and c.from_residual.result c.from_residual.ensures.1 in
    let is = out.1 ∙ ap (λ e. Err e) out.2 in
    refused_first c.args.b c.from_residual.result _ old mid is
    (λ m named. never_full c.merge_if_due.result c.from_residual.result _ 0 none_more (tells was.yard.store) (tells next.store) was.yard.parts.urls next.parts.urls m c.args.b
    c.in_err-merge_if_due.was is c.merge_if_due.ensures.schedules named)
    (λ due full. alone_refused c.merge_if_due.result _ (tells was.yard.store) (tells next.store) was.yard.parts.urls next.parts.urls waits c.in_err-merge_if_due.was c.merge_if_due.ensures.schedules)
    (λ n other. refl)

pub returns-then-branch-clause-schedules : goal.returns-then-branch-clause-schedules
returns-then-branch-clause-schedules g c =
    let tells = g.S.Store.told in
    let was = c.args.self.now in
    let next = c.merge_if_due.new.self in
    let waits = waiting_at was.arrays.items in
    let old : Moment = moment (tells was.yard.store) was.yard.parts.urls waits in
    let mid : Moment = moment (tells next.store) next.parts.urls waits in
    answers_ok c.merge_if_due.result _ _ 0 none_more [] old mid c.in_ok-merge_if_due.was (c.merge_if_due.ensures.schedules waits)

pub returns-then-branch-clause-advances : goal.returns-then-branch-clause-advances
returns-then-branch-clause-advances g c =
    let tells = g.S.Store.told in
    let was = c.args.self.now in
    let next = c.merge_if_due.new.self in
    let waits = waiting_at was.arrays.items in
    let old : Moment = moment (tells was.yard.store) was.yard.parts.urls waits in
    let mid : Moment = moment (tells next.store) next.parts.urls waits in
    let merges = c.in_ok-merge_if_due.ensures.merges in
    let ran = merges.ran in
    let judged = merges.judged in
    let due : IsDue was.yard.parts.urls = search rules in
    let full : was.yard.parts.urls.settings.array ≤ length (waiting_at was.arrays.items c.args.b) = search rules in
    merged_first c.args.b old mid c.is_sound-is_sound.ensures.drum due full (search rules) merges.ready (λ n. refl)
    (answers_ok c.merge_if_due.result _ Merged 0 none_more [] old mid c.in_ok-merge_if_due.was (c.merge_if_due.ensures.schedules waits))

pub returns-in_err-make_room-clause-schedules : goal.returns-in_err-make_room-clause-schedules
returns-in_err-make_room-clause-schedules g c =
    let tells = g.S.Store.told in
    let was = c.args.self.now in
    let next = c.merge_if_due.new.self in
    let waits = waiting_at was.arrays.items in
    let old : Moment = moment (tells was.yard.store) was.yard.parts.urls waits in
    let mid : Moment = moment (tells next.store) next.parts.urls waits in
    let merges = c.in_ok-merge_if_due.ensures.merges in
    let ran = merges.ran in
    let none : IsDue was.yard.parts.urls → ⊥ = search rules in
    let idle = merges.idle none in
    let same : mid ≡ old = same_moment tells was.yard.store next.store was.yard.parts.urls next.parts.urls waits idle.1 idle.2 in
    let b = c.args.b in
    let arrays = was.arrays.items in
    let array = c.index_mut.result.now in
    let made = c.make_room.new.array in
    let last = c.make_room.new.self in
    let within : b < length arrays = omega (arith, was.arrays_are.count, c.requires.bucket) in
    let is_array : array ≡ array_at arrays b = get_or_read arrays b array within c.index_mut.ensures.value no_array in
    let new : Moment = moment (tells last.store) last.parts.urls (waiting_at (set arrays b made)) in
    let one = in_arrays c.make_room.result 0 none_more arrays b array made (tells next.store) (tells last.store) next.parts.urls last.parts.urls within is_array c.make_room.ensures.schedules in
    let out = err_from_is_err_and c.from_residual-in_err-make_room.result c.from_residual-in_err-make_room.ensures.1 in
    let is = out.1 ∙ ap (λ e. Err e) out.2 in
    handed_on c.make_room.result c.from_residual-in_err-make_room.result _ 0 none_more [] old new c.in_err-make_room.was is
    (subst (λ (m : Moment). Schedules c.make_room.result 0 none_more [] m new) same one)

pub returns-in_err-make_room-clause-advances : goal.returns-in_err-make_room-clause-advances
returns-in_err-make_room-clause-advances g c =
    let tells = g.S.Store.told in
    let was = c.args.self.now in
    let next = c.merge_if_due.new.self in
    let waits = waiting_at was.arrays.items in
    let old : Moment = moment (tells was.yard.store) was.yard.parts.urls waits in
    let mid : Moment = moment (tells next.store) next.parts.urls waits in
    let b = c.args.b in
    let arrays = was.arrays.items in
    let array = c.index_mut.result.now in
    let made = c.make_room.new.array in
    let last = c.make_room.new.self in
    let within : b < length arrays = omega (arith, was.arrays_are.count, c.requires.bucket) in
    let is_array : array ≡ array_at arrays b = get_or_read arrays b array within c.index_mut.ensures.value no_array in
    let new : Moment = moment (tells last.store) last.parts.urls (waiting_at (set arrays b made)) in
    let out = err_from_is_err_and c.from_residual-in_err-make_room.result c.from_residual-in_err-make_room.ensures.1 in
    let is = out.1 ∙ ap (λ e. Err e) out.2 in
    let ran = c.in_ok-merge_if_due.ensures.merges.ran in
    refused_first b c.from_residual-in_err-make_room.result _ old new is
    (λ m named. full_names b c.make_room.result 0 none_more [] (moment (tells next.store) next.parts.urls (with_waiting (λ k. []) b array.items))
    (moment (tells last.store) last.parts.urls (with_waiting (λ k. []) b made.items)) (λ n other. waiting_elsewhere (λ k. []) b n made.items other) (c.make_room.ensures.schedules (λ n. [])) m
    (same_answer c.make_room.result c.from_residual-in_err-make_room.result _ _ c.in_err-make_room.was is named))
    (λ due full. let none : IsDue was.yard.parts.urls → ⊥ = search rules in absurd (none due))
    (λ n other. ap (λ (a : Waiting). a.items) (array_elsewhere arrays b n made other))

pub returns-in_err-make_room-clause-goes_on : goal.returns-in_err-make_room-clause-goes_on
returns-in_err-make_room-clause-goes_on g c =
    let out = err_from_is_err_and c.from_residual-in_err-make_room.result c.from_residual-in_err-make_room.ensures.1 in
    let is = out.1 ∙ ap (λ e. Err e) out.2 in
    sound_on c.make_room.result c.from_residual-in_err-make_room.result _ c.make_room.new.self.parts c.in_err-make_room.was is c.make_room.ensures.goes_on

pub returns-clause-schedules : goal.returns-clause-schedules
returns-clause-schedules g c =
    let tells = g.S.Store.told in
    let was = c.args.self.now in
    let next = c.merge_if_due.new.self in
    let waits = waiting_at was.arrays.items in
    let old : Moment = moment (tells was.yard.store) was.yard.parts.urls waits in
    let mid : Moment = moment (tells next.store) next.parts.urls waits in
    let merges = c.in_ok-merge_if_due.ensures.merges in
    let ran = merges.ran in
    let none : IsDue was.yard.parts.urls → ⊥ = search rules in
    let idle = merges.idle none in
    let same : mid ≡ old = same_moment tells was.yard.store next.store was.yard.parts.urls next.parts.urls waits idle.1 idle.2 in
    let b = c.args.b in
    let arrays = was.arrays.items in
    let array = c.index_mut.result.now in
    let made = c.make_room.new.array in
    let last = c.make_room.new.self in
    let within : b < length arrays = omega (arith, was.arrays_are.count, c.requires.bucket) in
    let is_array : array ≡ array_at arrays b = get_or_read arrays b array within c.index_mut.ensures.value no_array in
    let new : Moment = moment (tells last.store) last.parts.urls (waiting_at (set arrays b made)) in
    let one = in_arrays c.make_room.result 0 none_more arrays b array made (tells next.store) (tells last.store) next.parts.urls last.parts.urls within is_array c.make_room.ensures.schedules in
    answers_ok c.make_room.result tt Ready 0 none_more [] old new c.in_ok-make_room.was (subst (λ (m : Moment). Schedules c.make_room.result 0 none_more [] m new) same one)

pub returns-clause-advances : goal.returns-clause-advances
returns-clause-advances g c =
    let tells = g.S.Store.told in
    let was = c.args.self.now in
    let waits = waiting_at was.arrays.items in
    let old : Moment = moment (tells was.yard.store) was.yard.parts.urls waits in
    let b = c.args.b in
    let arrays = was.arrays.items in
    let made = c.make_room.new.array in
    let last = c.make_room.new.self in
    let new : Moment = moment (tells last.store) last.parts.urls (waiting_at (set arrays b made)) in
    let ran = c.in_ok-merge_if_due.ensures.merges.ran in
    let none : IsDue was.yard.parts.urls → ⊥ = search rules in
    let makes = c.in_ok-make_room.ensures.makes in
    let settings = (c.merge_if_due.ensures.schedules (λ n. [])).stays.settings in
    made_room b old new none (search rules) (search rules) (λ n other. ap (λ (a : Waiting). a.items) (array_elsewhere arrays b n made other))
