-- One unbounded set of keys that is asked offers one after another: what DRUM's buckets, caches and merges have to
-- equal (Lee, Leonard, Wang, Loguinov, "IRLbot: Scaling to 6 Billion Pages and Beyond", WWW 2008, section 4).
use Rattle.std.specs.Prelude.{◌≡◌, ℕ, ◌+◌, ◌-◌, ◌^◌, ◌<◌, ◌≤◌, min, Bool, true, false, if◌then◌else◌, List, [], ◌∷◌, ◌++◌, map, take, slice_get, Option, None, Some, option_and_then}
use Rattle.std.specs.List.{AllByRecursion, enumerate_from}
use Rattle.std.specs.Ordering.{nat_cmp}
use Rattle.std.specs.FinMap.{FinMap, entries, get, insert}
use Rattle.irl_offer.specs.declared.offer.Op.{Op}
use Rattle.irl_offer.specs.declared.offer.Op.TheVariants.{Check, Update, Both}
use Rattle.irl_offer.specs.declared.offer.Rule.{Rule}
use Rattle.irl_offer.specs.declared.offer.Rule.TheVariants.{Keep, Replace, Add}
use Rattle.irl_offer.specs.declared.offer.Verdict.{Verdict}
use Rattle.irl_offer.specs.declared.offer.Verdict.TheVariants.{Unique, Absent, Known}
use Rattle.irl_offer.specs.Tuple.{Tuple}

-- the keys that were seen, each with its value
abbrev pub KeyMap : Type 0
KeyMap = FinMap nat_cmp ℕ

-- whether an operation enters its key
abbrev pub enters : Op → Bool
enters Check = false
enters Update = true
enters Both = true

-- the value that a key has once another was entered for it
abbrev pub combined : Rule → Option ℕ → ℕ → ℕ
combined rule None new = new
combined Keep (Some old) new = old
combined Replace (Some old) new = new
combined Add (Some old) new = min (old + new) (2 ^ 64 - 1)

-- the set after one offer
abbrev pub entered : Rule → KeyMap → Tuple → KeyMap
entered rule seen offer =
    if enters offer.op then insert seen offer.key (combined rule (get seen offer.key) offer.value) else seen

-- the set after a list of offers
abbrev pub after : Rule → KeyMap → List Tuple → KeyMap
after rule seen [] = seen
after rule seen (offer ∷ offers) = after rule (entered rule seen offer) offers

-- what a set answers that has this value, or none, at the offer's key
abbrev pub answer : Op → Option ℕ → Option Verdict
answer Update known = None
answer Check None = Some Absent
answer Check (Some value) = Some (Known value)
answer Both None = Some Unique
answer Both (Some value) = Some (Known value)

-- the verdict of offer i: the answer of the set that was asked the offers before it
abbrev pub verdict : Rule → KeyMap → List Tuple → ℕ → Option Verdict
verdict rule base offers i =
    option_and_then (λ offer. answer offer.op (get (after rule base (take i offers)) offer.key)) (slice_get offers i)

-- each offer with its verdict, in order
abbrev pub judgements : Rule → KeyMap → List Tuple → List (Tuple × Option Verdict)
judgements rule base offers = map (λ p. (p.1, verdict rule base offers p.0)) (enumerate_from 0 offers)

-- a set's keys below a key are those of the one, and from it on those of the other
pub record AreParts (cut : ℕ) (keys low high : KeyMap) : Type 0 where
  pub joined : entries keys ≡ entries low ++ entries high
  pub below : AllByRecursion (λ p. p.0 < cut) (entries low)
  pub above : AllByRecursion (λ p. cut ≤ p.0) (entries high)
