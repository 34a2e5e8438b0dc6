-- What a sweep has given.
use Rattle.std.proofs.Common.{◌≡◌, ◌∙◌, ℕ, zero, suc, ◌+◌, List, [], ◌∷◌, ◌++◌, map, take, length, Option, Some, None, Bool, true, refl, sym, ap, subst, arith, inl, inr}
use Rattle.std.specs.Prelude.{nat_eq}
use Rattle.std.specs.List.{AllByRecursion}
use Rattle.std.specs.FinMap.{entries}
use Rattle.std.proofs.lemmas.Bool.Decides.{nat_tests}
use Rattle.irl_offer.specs.declared.offer.Rule.{Rule}
use Rattle.irl_offer.specs.declared.receipt.Pair.{Pair}
use Rattle.irl_offer.specs.Tuple.{Tuple}
use Rattle.irl_model.specs.Judging.{KeyMap, after}
use Rattle.irl_model.proofs.Adding.{Pass, pass_after, pass_insert}
use Rattle.irl_merge.specs.declared.query.Query.{Query}
use Rattle.irl_merge.specs.declared.sweep.Sweep.{Sweep}
use Rattle.irl_merge.specs.Queries.{numbered, tuple_of}
use Rattle.irl_model.specs.Pairs.{IsRising, keys_of, pair_of}
use Rattle.irl_merge.specs.Pairs.{HasGiven}
use Rattle.irl_merge.specs.Sweeping.{HasSwept, judged}
use Rattle.irl_merge.proofs.Keys.{given_rises}
use Rattle.irl_merge.proofs.Asking.{nothing_made}
use Rattle.irl_merge.proofs.Unsorting.{Has, kept, was}

module _ (test : ℕ → Bool) where
  pass_keys : (pairs : List Pair) → AllByRecursion (λ (p : Pair). test p.key ≡ true) pairs → Pass test (entries (keys_of pairs))
  pass_keys [] h = subst (Pass test) (sym nothing_made.1) tt
  pass_keys (p ∷ pairs) h = pass_insert test (keys_of pairs) p.key p.value h.0 (pass_keys pairs h.1)

  pass_front : (given : List Pair) (es : List (ℕ × ℕ)) → Pass test (map pair_of given ++ es) → AllByRecursion (λ (p : Pair). test p.key ≡ true) given
  pass_front [] es h = tt
  pass_front (p ∷ given) es h = (h.0, pass_front given es h.1)

  pass_given : (keys : KeyMap) (given : List Pair) (last : Option Pair) → HasGiven keys given last → Pass test (entries keys) → AllByRecursion (λ (p : Pair). test p.key ≡ true) given
  pass_given keys given None has h = subst (AllByRecursion (λ (p : Pair). test p.key ≡ true)) (sym has.0) tt
  pass_given keys given (Some p) has h = pass_front given (pair_of p ∷ []) (subst (Pass test) has h)

  -- what is asked is offered
  pass_numbered : (place : ℕ) (os : List Tuple) (q : Query) → AllByRecursion (λ (o : Tuple). test o.key ≡ true) os → Has (numbered place os) q → test q.key ≡ true
  pass_numbered place [] q t h = absurd h
  pass_numbered place (o ∷ os) q t (inl e) = ap (λ (x : Query). test x.key) (sym e) ∙ t.0
  pass_numbered place (o ∷ os) q t (inr h) = pass_numbered (place + 1) os q t.1 h

  pass_queries : (queries : List Query) (os : List Tuple) → ((q : Query) → Has queries q → test q.key ≡ true) → (n : ℕ)
      → AllByRecursion (λ (o : Tuple). test o.key ≡ true) (map tuple_of (take n queries))
  pass_queries [] os each zero = tt
  pass_queries [] os each (suc n) = tt
  pass_queries (q ∷ queries) os each zero = tt
  pass_queries (q ∷ queries) os each (suc n) = (each q (inl refl), pass_queries queries os (λ x h. each x (inr h)) n)

  pub given_within : (rule : Rule) (offers : List Tuple) (fed given : List Pair) (sweep : Sweep) → HasSwept rule offers fed given sweep → AllByRecursion (λ (p : Pair). test p.key ≡ true) fed
      → AllByRecursion (λ (o : Tuple). test o.key ≡ true) offers → AllByRecursion (λ (p : Pair). test p.key ≡ true) given
  given_within rule offers fed given sweep has f o =
      let queries = sweep.queries.items in
      let each : (q : Query) → Has queries q → test q.key ≡ true = λ q h.
      let itself : nat_eq q.key q.key ≡ true = grind (arith, nat_tests) in
      pass_numbered 0 offers q o (was (λ (x : Query). nat_eq q.key x.key) (numbered 0 offers) q
      (subst (λ (l : List Query). Has l q) (has.same q.key) (kept (λ (x : Query). nat_eq q.key x.key) queries q itself h))) in
      pass_given (after rule (keys_of fed) (judged sweep)) given sweep.last has.asked.made
      (pass_after test rule (keys_of fed) (judged sweep) (pass_keys fed f) (pass_queries queries offers each (length sweep.verdicts.items)))

pub given_is_rising : (rule : Rule) (offers : List Tuple) (fed given : List Pair) (sweep : Sweep) → HasSwept rule offers fed given sweep → IsRising given
given_is_rising rule offers fed given sweep has = given_rises (after rule (keys_of fed) (judged sweep)) given sweep.last has.asked.made
