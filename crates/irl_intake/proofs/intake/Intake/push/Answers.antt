use Rattle.std.proofs.Common.{◌∙◌, ◌<◌, length, refl, ap, arith}
use Rattle.std.proofs.lemmas.List.{get_or_read}
use Rattle.irl_offer.specs.Buckets.{bucket_of}
use Rattle.irl_offer.specs.declared.settings.Settings.{Settings}
use Rattle.irl_offer.specs.Tuple.{Tuple}
use Rattle.irl_schedule.proofs.Chains.{fed_still}
use Rattle.irl_schedule.specs.Arrays.{no_array}
use Rattle.irl_schedule.proofs.Waits.{push_keeps}
use Rattle.irl_intake.proofs.intake.Intake.push.Goals as goal

pub returns-clause-keeps : goal.returns-clause-keeps
returns-clause-keeps g c = λ x.
    let was = c.args.self.now in
    let settings = was.yard.parts.urls.settings in
    let within : c.bucket_of-b.result < length was.arrays.items = omega (arith, was.arrays_are.count, ap (λ (s : Settings). s.buckets) c.settings.ensures.value, c.bucket_of-b.ensures.within) in
    push_keeps settings x was.arrays.items c.bucket_of-b.result c.index_mut.result.now.room c.args.offer c.index_mut.result.now c.push.new.self within
    (c.bucket_of-b.ensures.value ∙ ap (λ (s : Settings). bucket_of s.buckets c.offer.inside.key) c.settings.ensures.value ∙ ap (λ (o : Tuple). bucket_of settings.buckets o.key) c.offer.view_is)
    (get_or_read was.arrays.items _ _ within c.index_mut.ensures.value no_array) c.push.ensures

pub returns-clause-fed : goal.returns-clause-fed
returns-clause-fed g c = λ files told x holds.
    fed_still _ _ _ x (g.met.S.Store.is_consistent c.args.self.now.yard.store) c.is_sound-is_sound.ensures.drum refl refl (returns-clause-keeps g c x) holds
