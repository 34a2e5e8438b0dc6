-- What a fetcher, and the way into a store, tell at one moment, and what goes on from one moment to a later one.
use Rattle.std.specs.Prelude.{◌≡◌, ◌↔◌, ℕ, ◌+◌, ◌-◌, ◌^◌, ◌≤◌, min, List, ◌++◌, Option}
use Rattle.std.specs.Option.{option_map}
use Rattle.irl_base.specs.declared.fault.Fault.{Fault}
use Rattle.irl_offer.specs.Offering.{Entered}
use Rattle.irl_offer.specs.Tuple.{Tuple}
use Rattle.irl_answer.specs.Found.{IsTaken}
use Rattle.irl_record.specs.Widening.{Answers, WidensSince}
use Rattle.irl_record.specs.Wired.{KeepsMade, Made, how_many}

-- ---- a fetcher
pub record Fetcher : Type 1 where
  -- the connections that it made to get answers, where it tells them, and those that it gives since such a count
  pub asked : Made
  pub gives : ℕ → Answers
  -- how often nothing came
  pub faults : ℕ
  -- no moment that is told later is before this one
  pub last : ℕ
  -- what it is aimed at
  pub aim : List ℕ

-- that of a value, by what is told of it
abbrev pub fetcher : {F : Type 0} → (F → Made) → (F → ℕ → Answers) → (F → ℕ) → (F → ℕ) → (F → List ℕ) → F → Fetcher
fetcher asked gives faults last aim x =
    record { asked = asked x; gives = gives x; faults = faults x; last = last x; aim = aim x }

-- the answers since one moment, told at a later one
abbrev pub given_since : Fetcher → Fetcher → Answers
given_since old new = new.gives (how_many old.asked)

-- The connections that it made stay, and others come behind them; what it gave it still gives, it is aimed at the same,
-- and neither its faults nor its moment fall.
pub record GoesOn (old new : Fetcher) : Type 0 where
  pub asked : KeepsMade old.asked new.asked
  pub wider : WidensSince old.gives new.gives
  pub faults : old.faults ≤ new.faults
  pub last : old.last ≤ new.last
  pub aim : new.aim ≡ old.aim

-- so many connections were made at most, where they are told
abbrev pub MakesAtMost : ℕ → Fetcher → Fetcher → Type 0
MakesAtMost n old new = how_many new.asked ≤ how_many old.asked + n

-- a count has risen by so many at least; one that stands at its last value counts as risen by any number
abbrev pub RoseBy : ℕ → ℕ → ℕ → Type 0
RoseBy n before now = min (before + n) (2 ^ 64 - 1) ≤ now

-- ---- the way into a store
pub record Offering (O : Type 0) : Type 1 where
  -- the receipts that were given, each with its offer
  pub entries : Option (List Entered)
  -- the last fault but want of memory that was answered
  pub last_fault : Option Fault
  -- which offers are taken
  pub takes : Tuple → Type 0
  -- the values of which calls made it
  pub follows : O → Type 0

abbrev pub offering : {O : Type 0} → (O → Option (List Entered)) → (O → Option Fault) → (O → Tuple → Type 0)
    → (O → O → Type 0) → O → Offering O
offering entries last_fault takes follows x =
    record {
      entries = entries x;
      last_fault = last_fault x;
      takes = takes x;
      follows = λ value. follows value x;
    }

-- it takes what a crawl offers: each offer that checks and enters a page by its canonical text
abbrev pub TakesPages : (Tuple → Type 0) → Type 0
TakesPages takes = (offer : Tuple) → IsTaken offer → takes offer

-- These were entered behind the others. It takes what it took, and follows each value that it followed, and so the one
-- that it was.
pub record Enters {O : Type 0} (news : List Entered) (old new : Offering O) : Type 0 where
  pub entries : new.entries ≡ option_map (λ list. list ++ news) old.entries
  pub takes : (offer : Tuple) → new.takes offer ↔ old.takes offer
  pub follows : (value : O) → old.follows value → new.follows value
