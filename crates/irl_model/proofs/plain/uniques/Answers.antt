use Rattle.std.proofs.Common.{◌≡◌, ◌∙◌, ℕ, List, map, ap, sym}
use Rattle.std.specs.List.{filter, enumerate_from}
use Rattle.std.specs.Iterator.Adapters.{enumerate_source, enumerate_count}
use Rattle.std.proofs.lemmas.List.{map-id}
use Rattle.std.proofs.lemmas.Iterator.Consumers.{YieldsList-at, YieldsList-end, YieldsList-from_enumerate}
use Rattle.std.proofs.lemmas.Iterator.Adapters.{YieldsList-from_vec}
use Rattle.irl_offer.specs.declared.receipt.Judged.{Judged}
use Rattle.irl_offer.specs.Tuple.{Tuple}
use Rattle.irl_model.specs.Book.{is_unique, uniques_from}
use Rattle.irl_model.specs.Book.{judged as judged_of}
use Rattle.irl_base.specs.Lists.{items_of}
use Rattle.irl_model.specs.Plain.{whole_book}
use Rattle.irl_model.proofs.PlainLemmas.{no_numbers}
use Rattle.irl_model.proofs.plain.uniques.Goals as goal

pub returns : goal.returns
returns c =
    let judged : List Judged = judged_of (whole_book c.args.buckets c.args.rule (items_of c.args.lists.now) (items_of c.args.cuts.now)) in
    let items : List Judged = c.in_ok-judged.judged.items in
    let source = YieldsList-from_vec {s = c.into_iter.result} items c.into_iter.ensures.rest (c.into_iter.ensures.len ∙ c.in_ok-judged.judged.ok.0) in
    let gives = c.into_iter-number-iterator.ensures.into_iter_gives in
    let road = YieldsList-from_enumerate {s = c.into_iter-number-iterator.result} (YieldsList-at (ap enumerate_source gives ∙ c.enumerate-number-items.ensures.source) source) (ap enumerate_count gives
    ∙ c.enumerate-number-items.ensures.count) in
    let end = YieldsList-end road c.loop-number.yielded c.loop-number.number-iterator c.loop-number.yielded_by c.next.result c.next.new.self c.in-None.is c.next.ensures.steps in
    let told : List (ℕ × Judged) → List (ℕ × Tuple) = λ ps. map (λ p. (p.0, p.1.offer)) (filter (λ p. is_unique p.1.verdict) ps) in
    let all : c.loop-number.yielded ≡ enumerate_from 0 items = sym (map-id c.loop-number.yielded) ∙ end.0 in
    c.loop-number.invariant ∙ ap told all ∙ ap (uniques_from 0) c.in_ok-judged.ensures ∙ ap (λ (n : ℕ). uniques_from n judged) (sym (no_numbers c.args.buckets))
