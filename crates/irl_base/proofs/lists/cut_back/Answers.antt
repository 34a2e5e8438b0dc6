use Rattle.std.proofs.Common.{◌≡◌, ◌<◌, ◌∙◌, length, get_or, arith, rules, subst, refl, ℕ}
use Rattle.std.proofs.lemmas.List.{length-map}
use Rattle.std.specs.Prelude.{vec_len}
use Rattle.irl_base.specs.Lists.{items_of}
use Rattle.irl_base.proofs.ListLemmas.{CutBelow, cut_none, cut_more, cut_all}
use Rattle.irl_base.proofs.lists.cut_back.Goals as goal

pub loop-at-init : goal.loop-at-init
loop-at-init g c = (cut_none c.args.lengths.now (items_of c.args.lists.now.items), refl)

pub loop-at-preserved : goal.loop-at-preserved
loop-at-preserved g c =
    let old = c.args.lists.now in
    let count : vec_len old ≡ length old.items = search rules in
    let within : c.loop-at.at < length (items_of old.items) = omega (arith, length-map old.items (λ list. list.items)) in (
      cut_more c.args.lengths.now (items_of old.items) (items_of c.loop-at.lists.items) (items_of c.cut_at.new.lists.items) c.loop-at.at (get_or c.args.lengths.now c.loop-at.at 0) within refl
          c.cut_at.ensures.lists c.loop-at.invariant.0,
      c.cut_at.ensures.len ∙ c.loop-at.invariant.1,
    )

pub returns-clause-lists : goal.returns-clause-lists
returns-clause-lists g c = λ base grown lengths.
    let old = c.args.lists.now in
    let count : vec_len old ≡ length old.items = search rules in
    let whole : c.loop-at.at ≡ length (items_of old.items) = omega (arith, length-map old.items (λ list. list.items)) in
    let P : ℕ → Type 0 = λ n. CutBelow c.args.lengths.now (items_of old.items) (items_of c.loop-at.lists.items) n in
    cut_all c.args.lengths.now (items_of old.items) (items_of c.loop-at.lists.items) base (subst P whole c.loop-at.invariant.0) grown lengths
