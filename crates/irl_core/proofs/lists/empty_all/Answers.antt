use Rattle.std.proofs.Common.{◌≡◌, ◌<◌, ◌∙◌, ℕ, length, ap, arith, rules}
use Rattle.std.specs.Prelude.{vec_len}
use Rattle.std.proofs.lemmas.List.{length-map}
use Rattle.irl_base.specs.Lists.{items_of}
use Rattle.irl_core.proofs.Arrays.{emptied_first, emptied_more, all_emptied}
use Rattle.irl_core.proofs.lists.empty_all.Goals as goal

pub loop-at-preserved : goal.loop-at-preserved
loop-at-preserved c =
    let old = c.args.lists.now in
    let count : vec_len old ≡ length old.items = search rules in
    let within : c.loop-at.at < length (items_of old.items) = omega (arith, length-map old.items (λ list. list.items)) in (
      emptied_more c.loop-at.at (items_of old.items) (items_of c.loop-at.lists.items) (items_of c.empty_at.new.lists.items) within c.loop-at.invariant.0 c.empty_at.ensures.lists,
      c.empty_at.ensures.len ∙ c.loop-at.invariant.1,
    )

pub returns : goal.returns
returns c =
    let old = c.args.lists.now in
    let count : vec_len old ≡ length old.items = search rules in
    let whole : c.loop-at.at ≡ length (items_of old.items) = omega (arith, length-map old.items (λ list. list.items)) in
    c.loop-at.invariant.0 ∙ ap (λ (n : ℕ). emptied_first n (items_of old.items)) whole ∙ all_emptied (items_of old.items)
