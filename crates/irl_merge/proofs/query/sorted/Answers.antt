use Rattle.std.proofs.Common.{rules, nat_eq, ◌≡◌, ◌∙◌, ◌<◌, ◌++◌, ◌∷◌, [], get_or, ℕ, List, map, length, take_all, sym, ap, subst}
use Rattle.std.specs.List.{All, filter}
use Rattle.std.proofs.lemmas.List.{length-map}
use Rattle.std.proofs.lemmas.List.Sorted.{IsNonDecreasingBy-from_sort_by_key, All-permutation, answers_always, length_permutation}
use Rattle.irl_offer.specs.declared.entry.Entry.{Entry}
use Rattle.irl_merge.specs.declared.query.Query.{Query}
use Rattle.irl_merge.specs.Queries.{bare_entry, numbered}
use Rattle.irl_merge.proofs.Numbering.{by_key, length-numbered, no_entry, numbered_entry, places_below}
use Rattle.irl_merge.proofs.query.sorted.Goals as goal

pub loop-place-init : goal.loop-place-init
loop-place-init c = c.in_ok-queries.ensures.items

pub loop-place-preserved : goal.loop-place-preserved
loop-place-preserved c =
    let entries = c.args.entries.now in
    let i = c.loop-place.place in
    let e : Entry = get_or entries i no_entry in
    let one : List Query = record { key = e.key; place = i; op = e.op; value = e.value } ∷ [] in
    c.in_ok-push.ensures.items ∙ ap (λ (xs : List Query). xs ++ one) c.loop-place.invariant ∙ numbered_entry entries i no_entry c.loop-place-test.true

pub returns-clause-order : goal.returns-clause-order
returns-clause-order c = IsNonDecreasingBy-from_sort_by_key (λ a. a.key) _ c.in_ok-sort_by_key.ensures.sorted (λ a r q k. search rules)

pub returns-clause-same : goal.returns-clause-same
returns-clause-same c = λ key.
    by_key c.loop-place.queries.items c.sort_by_key.new.self.items (c.sort_by_key.ensures.stable (λ a. a.key) (answers_always _ _ _ (λ f a r g h. search rules))) key
    ∙ ap (filter (λ (a : Query). nat_eq key a.key)) (c.loop-place.invariant ∙ ap (λ (es : List Entry). numbered 0 (map bare_entry es)) (take_all _ _ c.loop-place-test.false))

-- what was sorted
items : (c : goal.In_ok-sort_by_key) → c.loop-place.queries.items ≡ numbered 0 (map bare_entry c.args.entries.now)
items c = c.loop-place.invariant ∙ ap (λ (es : List Entry). numbered 0 (map bare_entry es)) (take_all _ _ c.loop-place-test.false)

count : (c : goal.In_ok-sort_by_key) → length c.sort_by_key.new.self.items ≡ length c.args.entries.now
count c = length_permutation c.loop-place.queries.items c.sort_by_key.new.self.items c.sort_by_key.ensures.permutation ∙ ap length (items c) ∙ length-numbered 0 (map bare_entry c.args.entries.now)
    ∙ length-map c.args.entries.now bare_entry

pub returns-clause-count : goal.returns-clause-count
returns-clause-count c = count c

pub returns-clause-placed : goal.returns-clause-placed
returns-clause-placed c =
    let offers = map bare_entry c.args.entries.now in
    let same : length offers ≡ length c.sort_by_key.new.self.items = length-map c.args.entries.now bare_entry ∙ sym (count c) in
    let below = places_below offers in
    All-permutation (λ (a : Query). a.place < length c.sort_by_key.new.self.items) c.loop-place.queries.items c.sort_by_key.new.self.items c.sort_by_key.ensures.permutation
    (subst (λ (n : ℕ). All (λ (a : Query). a.place < n) c.loop-place.queries.items) same (subst (All (λ (a : Query). a.place < length offers)) (sym (items c)) below))
