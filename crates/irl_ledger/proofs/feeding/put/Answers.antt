use Rattle.std.proofs.Common.{◌∙◌, ◌<◌, length, slice_index_or, ap, arith}
use Rattle.std.proofs.lemmas.List.{get_or_default}
use Rattle.irl_offer.specs.Buckets.{bucket_of}
use Rattle.irl_offer.specs.declared.settings.Settings.{Settings}
use Rattle.irl_offer.specs.Tuple.{Tuple}
use Rattle.irl_schedule.specs.Arrays.{no_array}
use Rattle.irl_ledger.proofs.Handing.{takes_in}
use Rattle.irl_ledger.proofs.feeding.put.Goals as goal

pub returns : goal.returns
returns g c =
    let arrays = c.args.arrays.now in
    let b = c.bucket_of-b.result in
    let within : b < length arrays = omega (arith, c.requires.arrays.count, ap (λ (s : Settings). s.buckets) c.settings.ensures, c.bucket_of-b.ensures.within) in
    takes_in arrays b (slice_index_or arrays b c.index-arrays-b.result) c.push.new.self c.args.offer c.args.bay.now (g.S.Store.told c.args.store.now) (g.met.S.Store.is_consistent c.args.store.now)
    c.is_sound-is_sound.ensures.drum
    c.requires.arrays c.requires.sound c.requires.long within
    (c.bucket_of-b.ensures.value ∙ ap (λ (s : Settings). bucket_of s.buckets c.offer.inside.key) c.settings.ensures
    ∙ ap (λ (o : Tuple). bucket_of c.args.bay.now.settings.buckets o.key) c.offer.view_is)
    (get_or_default arrays b c.index-arrays-b.result no_array within) c.push.ensures c.requires.room
