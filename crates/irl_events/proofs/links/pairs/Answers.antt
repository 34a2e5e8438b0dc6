use Rattle.std.proofs.Common.{◌≡◌, ◌∙◌, ◌-◌, ℕ, List, min, take, sym, ap, subst, arith, length}
use Rattle.std.specs.Prelude.{replicate, IfOk}
use Rattle.std.proofs.lemmas.List.{take-map, take_min}
use Rattle.irl_offer.specs.Tuple.{Tuple}
use Rattle.irl_model.specs.Book.{stretches}
use Rattle.irl_events.specs.Links.{pair_offers}
use Rattle.irl_base.specs.Lists.{items_of}
use Rattle.irl_events.proofs.links.pairs.Goals as goal

pub returns : goal.returns
returns g c = λ rule.
    let zeros : List ℕ = replicate c.args.buckets 0 in
    let pairs_of : List Tuple → List Tuple = pair_offers (g.D.Domains.domain_of c.args.domains.now) (g.D.Domains.key_of c.args.domains.now) in
    let cuts = c.args.cuts.now in
    let count = c.args.count in
    let least : c.min.result ≡ min count (length cuts) = omega (arith, c.min.ensures) in
    let all : count ≡ count - 0 = omega arith in
    let used : items_of (take c.min.result cuts) ≡ take (count - 0) (items_of cuts) =
    ap (λ n. items_of (take n cuts)) least ∙ ap items_of (take_min count cuts) ∙ sym (take-map (λ v. v.items) count cuts)
    ∙ ap (λ n. take n (items_of cuts)) all in
    let lists = items_of c.args.lists.now in
    let told : c.in_ok-judged.judged.items ≡ stretches zeros zeros (items_of (take c.min.result cuts)) lists = c.in_ok-judged.ensures rule in
    let judged : c.deref.result.now ≡ stretches zeros zeros (take (count - 0) (items_of cuts)) lists =
    c.deref.ensures.value ∙ told ∙ ap (λ (cs : List (List ℕ)). stretches zeros zeros cs lists) used in
    subst (λ (ps : List Tuple). IfOk c.pair_offers.result (λ pairs. pairs.items ≡ ps)) (ap pairs_of judged) c.pair_offers.ensures
