use Rattle.std.proofs.Common.{◌≡◌, ◌∙◌, ◌≤◌, length, sym, ap, subst, arith}
use Rattle.irl_bay.specs.declared.bucket.Bucket.{Bucket}
use Rattle.irl_bay.specs.Drum.{Drum, IsDrum, bucket_at}
use Rattle.irl_bay.specs.Pending.{ReadsTexts}
use Rattle.irl_bay.proofs.HeldBuckets.{same_bucket}
use Rattle.irl_bay.proofs.bay.Bay.pending_texts_of.Goals as goal

pub pending_texts-requires-clause-long : goal.pending_texts-requires-clause-long
pending_texts-requires-clause-long g c = λ files tells.
    let drum = c.args.self.now in
    let drum_is : IsDrum drum = subst IsDrum c.self.view_is c.self.invariant in
    let long : length c.self.inside.buckets.items ≡ length drum.buckets = ap (λ (d : Drum). length d.buckets) c.self.view_is in
    let is : c.index.result.now ≡ bucket_at drum c.args.b = same_bucket c.self.inside.buckets.items c.args.b c.index.result.now (omega (arith, long, drum_is.count, c.requires.bucket)) c.index.ensures
    ∙ ap (λ (d : Drum). bucket_at d c.args.b) c.self.view_is in
    subst (λ (bucket : Bucket). bucket.aux.length ≤ length (files bucket.aux.file)) (sym is) ((c.requires.long files tells).auxes c.args.b c.requires.bucket)

pub returns : goal.returns
returns g c =
    let drum = c.args.self.now in
    let tells = g.S.Store.told in
    let drum_is : IsDrum drum = subst IsDrum c.self.view_is c.self.invariant in
    let long : length c.self.inside.buckets.items ≡ length drum.buckets = ap (λ (d : Drum). length d.buckets) c.self.view_is in
    let is : c.index.result.now ≡ bucket_at drum c.args.b = same_bucket c.self.inside.buckets.items c.args.b c.index.result.now (omega (arith, long, drum_is.count, c.requires.bucket)) c.index.ensures
    ∙ ap (λ (d : Drum). bucket_at d c.args.b) c.self.view_is in
    subst (λ (bucket : Bucket). ReadsTexts c.pending_texts.result bucket (tells c.args.store.now) (tells c.pending_texts.new.store)) is c.pending_texts.ensures
