use Rattle.std.proofs.Common.{◌≡◌, ◌∙◌, ◌+◌, ◌<◌, ◌++◌, ◌∷◌, [], ℕ, List, add-one, length, sum, take, get_or, ap, arith}
use Rattle.std.proofs.Math.Seq.{take-suc}
use Rattle.std.proofs.lemmas.List.{get_or-map, length-map}
use Rattle.std.proofs.lemmas.List.Sums.{sum_by-append}
use Rattle.irl_offer.specs.declared.settings.Settings.{Settings}
use Rattle.irl_bay.specs.declared.bucket.Bucket.{Bucket}
use Rattle.irl_bay.specs.Drum.{Drum, durable_at, durables, no_bucket}
use Rattle.irl_ledger.proofs.pass.offers_len.Goals as goal

more : (drum : Drum) (b : ℕ) → b < length drum.buckets → sum (take (b + 1) (durables drum)) ≡ sum (take b (durables drum)) + durable_at drum b
more drum b lt =
    let own : Bucket → ℕ = λ bucket. bucket.durable in
    let within : b < length (durables drum) = omega (arith, lt, length-map drum.buckets own) in
    let first : List ℕ = take b (durables drum) in
    let there : get_or (durables drum) b 0 ≡ durable_at drum b = get_or-map own drum.buckets b no_bucket 0 lt in
    let one : sum (durable_at drum b ∷ []) ≡ durable_at drum b = omega arith in
    ap sum (ap (λ (m : ℕ). take m (durables drum)) (add-one b) ∙ take-suc (durables drum) b 0 within ∙ ap (λ (d : ℕ). first ++ (d ∷ [])) there)
    ∙ sum_by-append (λ (m : ℕ). m) first (durable_at drum b ∷ []) ∙ ap (λ (m : ℕ). sum first + m) one

pub loop-b-preserved : goal.loop-b-preserved
loop-b-preserved c =
    let same : c.settings-b-end.result ≡ c.args.bay.now.settings = c.settings-b-end.ensures in
    let long = ap (λ (s : Settings). s.buckets) same in
    let step = more c.args.bay.now c.loop-b.b (omega (arith, c.loop-b-test.true, c.is_sound-is_drum.ensures.drum.count, long)) in
    omega (arith, step, c.loop-b.invariant, c.saturating_add-count.ensures, c.durable.ensures.value)
