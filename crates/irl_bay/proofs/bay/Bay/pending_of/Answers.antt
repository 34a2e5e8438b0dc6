use Rattle.std.proofs.Common.{◌≡◌, ◌∙◌, ℕ, length, ap, subst, arith}
use Rattle.irl_offer.specs.declared.settings.Settings.{Settings}
use Rattle.irl_bay.specs.declared.bucket.Bucket.{Bucket}
use Rattle.irl_bay.specs.Drum.{Drum, IsDrum, bucket_at}
use Rattle.irl_bay.specs.Pending.{ReadsPending}
use Rattle.irl_bay.proofs.HeldBuckets.{same_bucket}
use Rattle.irl_bay.proofs.bay.Bay.pending_of.Goals as goal

pub returns : goal.returns
returns g c =
    let drum = c.args.self.now in
    let b = c.args.b in
    let tells = g.S.Store.told in
    let a = tells c.args.store.now in
    let z = tells c.pending-2.new.store in
    let result = c.pending-2.result in
    let drum_is : IsDrum drum = subst IsDrum c.self.view_is c.self.invariant in
    let long : length c.self.inside.buckets.items ≡ length drum.buckets = ap (λ (d : Drum). length d.buckets) c.self.view_is in
    let is : c.index-bucket.result.now ≡ bucket_at drum b = same_bucket c.self.inside.buckets.items b c.index-bucket.result.now (omega (arith, long, drum_is.count, c.requires))
    c.index-bucket.ensures ∙ ap (λ (d : Drum). bucket_at d b) c.self.view_is in
    let settings : c.self.inside.settings ≡ drum.settings = ap (λ (d : Drum). d.settings) c.self.view_is in
    subst (λ (n : ℕ). ReadsPending result drum.settings b (bucket_at drum b) n a z) c.pending.ensures.value
    (subst (λ (bucket : Bucket). ReadsPending result drum.settings b bucket c.pending.result a z) is
    (subst (λ (s : Settings). ReadsPending result s b c.index-bucket.result.now c.pending.result a z) settings c.pending-2.ensures))
