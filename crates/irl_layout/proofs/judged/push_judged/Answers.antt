use Rattle.std.proofs.Common.{◌≡◌, ◌∙◌, List, ℕ, ◌++◌, ap}
use Rattle.byteorder.specs.Endian.{little_bytes}
use Rattle.irl_layout.proofs.JudgedBytes.{entry_put}
use Rattle.irl_layout.proofs.judged.push_judged.Goals as goal

pub returns-clause-ok : goal.returns-clause-ok
returns-clause-ok c =
    let more : (x y b : List ℕ) → x ≡ y → x ++ b ≡ y ++ b = λ x y b e. ap (λ l. l ++ b) e in
    c.in_ok-push_number-5.ensures.ok
    ∙ more _ _ _ (c.in_ok-push_number-4.ensures.ok
    ∙ more _ _ _ (c.in_ok-push_number-3.ensures.ok
    ∙ more _ _ _ (c.in_ok-push_number-2.ensures.ok
    ∙ more _ _ _ (c.in_ok-push_number.ensures.ok
    ∙ more _ _ _ (c.in_ok-extend_from_slice-2.ensures.items
    ∙ more _ _ _ c.in_ok-extend_from_slice.ensures.items)))))
    ∙ entry_put c.args.entries.now.items c.args.place c.args.bucket c.args.entry.now c.args.verdict c.number.result c.verdict_number.result c.known_value.result c.length_bytes-text_len.result
    c.number.ensures c.verdict_number.ensures (c.length_bytes-text_len.ensures ∙ ap (little_bytes 4) c.from.ensures) c.known_value.ensures
