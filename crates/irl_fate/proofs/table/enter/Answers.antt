use Rattle.std.proofs.Common.{◌∙◌, ℕ, List, ap, arith}
use Rattle.irl_fate.specs.declared.fate.Fate.{Fate}
use Rattle.irl_fate.specs.Kept.{fate_in, numbers_in}
use Rattle.irl_fate.proofs.Entering.{entered_more}
use Rattle.irl_fate.proofs.Entries.{fate_fresh_more}
use Rattle.irl_fate.proofs.table.enter.Goals as goal

pub loop-place-preserved : goal.loop-place-preserved
loop-place-preserved c =
    let so_far = c.loop-place.invariant in
    let pushed = c.push_reserved.ensures.items in
    record {
      fates = λ q. ap (λ (t : List (ℕ × Fate)). fate_in t q) pushed ∙ fate_fresh_more _ _ q ∙ so_far.fates q;
      numbers = ap numbers_in pushed ∙ entered_more c.loop-place.entries.items (numbers_in c.args.entries.now.items) c.args.places.now c.loop-place.place-index _ c.loop-place-test.true so_far.numbers;
      len = omega (arith, c.push_reserved.ensures.len, so_far.len);
      capacity = c.push_reserved.ensures.capacity ∙ so_far.capacity;
    }
