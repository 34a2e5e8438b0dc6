-- How far a sweep has come.
use Rattle.std.specs.Prelude.{◌≡◌, ◌<◌, ℕ, nat_eq, List, filter, map, length, take, slice_index, Some}
use Rattle.std.specs.List.{AllByRecursion}
use Rattle.std.specs.List.Sorted.{IsNonDecreasingBy}
use Rattle.irl_offer.specs.declared.offer.Rule.{Rule}
use Rattle.irl_offer.specs.declared.receipt.Pair.{Pair}
use Rattle.irl_offer.specs.Tuple.{Tuple}
use Rattle.irl_model.specs.Judging.{KeyMap, after, judgements}
use Rattle.irl_merge.specs.declared.sweep.Sweep.{Sweep}
use Rattle.irl_merge.specs.Queries.{numbered, tuple_of}
use Rattle.irl_model.specs.Pairs.{IsRising, keys_of}
use Rattle.irl_merge.specs.Pairs.{HasGiven, IsUpTo}

-- what was judged so far, in the order of the keys
abbrev pub judged : Sweep → List Tuple
judged sweep = map tuple_of (take (length sweep.verdicts.items) sweep.queries.items)

-- the key of what is asked next
abbrev pub next_key : Sweep → ℕ
next_key sweep = slice_index (map (λ a. a.key) sweep.queries.items) (length sweep.verdicts.items)

-- a set with these keys was asked what is judged, and the pairs that it then has were given out, but for the last
pub record HasAsked (rule : Rule) (keys : KeyMap) (given : List Pair) (sweep : Sweep) : Type 0 where
  pub rule_is : sweep.rule ≡ rule
  pub told : sweep.verdicts.items ≡ map (λ p. p.1) (judgements rule keys (judged sweep))
  pub made : HasGiven (after rule keys (judged sweep)) given sweep.last
  pub order : IsNonDecreasingBy (λ a. a.key) sweep.queries.items
  -- what is asked next isn't below what is held back
  pub ahead : length sweep.verdicts.items < length sweep.queries.items → IsUpTo sweep.last (next_key sweep)

-- all that was judged and what is held back is below a key
pub record IsBehind (key : ℕ) (sweep : Sweep) : Type 0 where
  pub judged_are : AllByRecursion (λ offer. offer.key < key) (judged sweep)
  pub held : (pair : Pair) → sweep.last ≡ Some pair → pair.key < key

-- Callers need no field of it: `Sweep::new` begins it, `feed` keeps it, and `end` uses it.
-- A sweep by this rule, made of the entries of these offers, was fed these pairs and has given those.
pub record HasSwept (rule : Rule) (offers : List Tuple) (fed given : List Pair) (sweep : Sweep) : Type 0 where
  pub same : (key : ℕ) → filter (λ a. nat_eq key a.key) sweep.queries.items
      ≡ filter (λ a. nat_eq key a.key) (numbered 0 offers)
  pub count : length sweep.queries.items ≡ length offers
  pub rising : IsRising fed
  pub asked : HasAsked rule (keys_of fed) given sweep
  pub behind : (key : ℕ) → AllByRecursion (λ pair. pair.key < key) fed → IsBehind key sweep
