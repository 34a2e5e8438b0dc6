use Rattle.std.proofs.Common.{◌≡◌, ◌∙◌, ◌<◌, ◌++◌, [], List, length, take, drop, get_or, ap, sym, arith, append_assoc}
use Rattle.std.specs.Prelude.{replicate}
use Rattle.std.proofs.lemmas.List.{length-map, get_or-map}
use Rattle.irl_offer.specs.Tuple.{Tuple}
use Rattle.irl_model.specs.Book.{stretch}
use Rattle.irl_base.specs.Lists.{items_of}
use Rattle.irl_model.proofs.PlainLemmas.{stretch_more, stretch_ends}
use Rattle.irl_model.proofs.plain.push_stretch.Goals as goal

pub loop-b-preserved : goal.loop-b-preserved
loop-b-preserved c = λ buckets enough.
    let b = c.loop-b.b in
    let from = c.args.from.now in
    let to = c.args.to.now in
    let lists = items_of c.args.lists.now in
    let old = c.args.offers.now.items in
    let before = stretch (replicate buckets 0) from to (take b lists) in
    let part : List Tuple → List Tuple = λ xs. drop (get_or from b 0) (take (get_or to b 0) xs) in
    let many : length lists ≡ length c.args.lists.now = length-map c.args.lists.now (λ v. v.items) in
    let in_from : b < length from = omega (arith, c.min.ensures, c.min-count.ensures) in
    let in_to : b < length to = omega (arith, c.min.ensures, c.min-count.ensures) in
    let in_vectors : b < length c.args.lists.now = omega (arith, c.min.ensures, c.min-count.ensures) in
    let list : c.deref.result.now ≡ get_or lists b [] =
    c.deref.ensures.value ∙ ap (λ v. v.items) c.index-lists-b.is ∙ sym (get_or-map (λ v. v.items) c.args.lists.now b c.index-lists-b.result [] in_vectors) in
    c.in_ok-push_part.ensures ∙ ap (λ (os : List Tuple). os ++ part c.deref.result.now) (c.loop-b.invariant buckets enough)
    ∙ ap (λ (xs : List Tuple). (old ++ before) ++ part xs) list ∙ append_assoc old before (part (get_or lists b []))
    ∙ ap (λ (os : List Tuple). old ++ os) (sym (stretch_more buckets b from to lists (omega arith) in_from in_to (omega (arith, many))))

pub returns : goal.returns
returns c = λ buckets enough.
    let lists = items_of c.args.lists.now in
    let many : length lists ≡ length c.args.lists.now = length-map c.args.lists.now (λ v. v.items) in
    c.loop-b.invariant buckets enough
    ∙ ap (λ (os : List Tuple). c.args.offers.now.items ++ os) (stretch_ends (replicate buckets 0) c.args.from.now c.args.to.now lists c.loop-b.b
    (omega (arith, many, c.min.ensures, c.min-count.ensures)))
