use Rattle.std.proofs.Common.{◌≡◌, ◌∙◌, ◌+◌, ◌≤◌, ◌++◌, ◌∷◌, [], ℕ, List, length, take, min, get_or, ap, sym, arith, rules, take_all, length-take}
use Rattle.std.specs.Prelude.{replicate}
use Rattle.std.proofs.lemmas.List.{length-map, get_or-map, take_more, take-map, take_min}
use Rattle.irl_offer.specs.Tuple.{Tuple}
use Rattle.irl_model.specs.Book.{stretch, stretches, last_cut}
use Rattle.irl_base.specs.Lists.{items_of}
use Rattle.irl_model.proofs.Merges.{last_more}
use Rattle.irl_model.proofs.PlainLemmas.{stretches_more, stretches_buckets}
use Rattle.irl_model.proofs.plain.judged_offers.Goals as goal

pub loop-cut-preserved : goal.loop-cut-preserved
loop-cut-preserved c =
    let zeros : List ℕ = replicate c.args.buckets 0 in
    let i = c.loop-cut.cut-index in
    let cuts : List (List ℕ) = items_of c.args.cuts.now in
    let before : List (List ℕ) = take i cuts in
    let lists : List (List Tuple) = items_of (take c.min.result c.args.lists.now) in
    let cut : List ℕ = c.cut-item.result.items in
    let many : length cuts ≡ length c.args.cuts.now = length-map c.args.cuts.now (λ v. v.items) in
    let next : get_or cuts i [] ≡ cut = get_or-map (λ v. v.items) c.args.cuts.now i c.cut-item.result [] c.loop-cut-test.true ∙ ap (λ v. v.items) (sym c.cut-item.is) in
    let more : take (i + 1) cuts ≡ before ++ cut ∷ [] = take_more cuts i [] (omega (arith, many, c.loop-cut-test.true)) ∙ ap (λ (k : List ℕ). before ++ k ∷ []) next in
    let few : length (take c.min.result c.args.lists.now) ≤ c.args.buckets = omega (arith, length-take c.min.result c.args.lists.now, c.min.ensures) in
    let from : c.deref.result.now ≡ last_cut zeros before = c.deref.ensures.value ∙ c.loop-cut.invariant.from in
    let same : c.in_ok-from-2.from.items ≡ cut = search rules in
    record {
      offers = c.in_ok-push_stretch.ensures c.args.buckets few
          ∙ ap (λ (os : List Tuple). os ++ stretch zeros c.deref.result.now c.deref-in-loop-cut.result.now lists) c.loop-cut.invariant.offers
          ∙ ap (λ (f : List ℕ). stretches zeros zeros before lists ++ stretch zeros f c.deref-in-loop-cut.result.now lists) from
          ∙ ap (λ (t : List ℕ). stretches zeros zeros before lists ++ stretch zeros (last_cut zeros before) t lists) c.deref-in-loop-cut.ensures.value
          ∙ sym (stretches_more zeros zeros before cut lists) ∙ ap (λ (cs : List (List ℕ)). stretches zeros zeros cs lists) (sym more);
      from = same ∙ sym (last_more zeros cut before) ∙ ap (last_cut zeros) (sym more);
    }

pub returns : goal.returns
returns c = λ rule.
    let zeros : List ℕ = replicate c.args.buckets 0 in
    let cuts : List (List ℕ) = items_of c.args.cuts.now in
    let count = c.args.buckets in
    let many : length cuts ≡ length c.args.cuts.now = length-map c.args.cuts.now (λ v. v.items) in
    let all : take c.loop-cut.cut-index cuts ≡ cuts = take_all _ _ (omega (arith, many, c.loop-cut-test.false)) in
    let least : c.min.result ≡ min count (length c.args.lists.now) = omega (arith, c.min.ensures) in
    let lists : items_of (take c.min.result c.args.lists.now) ≡ take count (items_of c.args.lists.now) =
    ap (λ n. items_of (take n c.args.lists.now)) least ∙ ap items_of (take_min count c.args.lists.now) ∙ sym (take-map (λ v. v.items) count c.args.lists.now) in
    c.loop-cut.invariant.offers ∙ ap (λ (cs : List (List ℕ)). stretches zeros zeros cs (items_of (take c.min.result c.args.lists.now))) all
    ∙ ap (λ (ls : List (List Tuple)). stretches zeros zeros cuts ls) lists ∙ stretches_buckets count zeros cuts (items_of c.args.lists.now)
