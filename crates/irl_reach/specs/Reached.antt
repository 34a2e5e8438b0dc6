-- Which URLs a crawl of a tape reaches, by their keys.
use Rattle.std.specs.Prelude.{◌≡◌, ℕ, Bool, true, false, List}
use Rattle.std.specs.List.{Contains}
use Rattle.irl_key.specs.Key.{key_of}
use Rattle.irl_offer.specs.declared.outcome.Outcome.{Outcome}
use Rattle.irl_offer.specs.declared.outcome.Outcome.TheVariants.{Page, Moved, Status, Denied, Shut, Lost, Bad, Large, Coded}
use Rattle.irl_offer.specs.Tuple.{Tuple}
use Rattle.irl_record.specs.Taped.{Taped}
use Rattle.irl_reach.specs.Tapes.{IsDue, found_on}

-- whether the pages are offered that the answer names
abbrev pub is_followed : Outcome → Bool
is_followed Page = true
is_followed Moved = true
is_followed (Status n) = false
is_followed (Denied line) = false
is_followed Shut = false
is_followed Lost = false
is_followed Bad = false
is_followed Large = false
is_followed Coded = false

-- an offer that a URL leads to: one of its page or its redirect, where that is due
pub record LeadsTo (tape : Taped) (agent url : List ℕ) (offer : Tuple) : Type 0 where
  pub outcome : Outcome
  pub due : IsDue tape agent url outcome
  pub followed : is_followed outcome ≡ true
  pub found : Contains (found_on tape url) offer

-- The keys that a crawl reaches: those of the seeds and, with a URL's, those that it leads to. A family holds what its
-- rules give and nothing else, so that it is the least such set (`the_reached_are_least`).
pub data Reached (tape : Taped) (agent : List ℕ) : ℕ → Type 0 where
  Seed : (url : List ℕ) → Contains tape.seeds url → Reached tape agent (key_of url)
  Led : (url : List ℕ) (offer : Tuple) → Reached tape agent (key_of url) → LeadsTo tape agent url offer
      → Reached tape agent offer.key

-- a set of keys holds those of the seeds and, with a URL's, those that it leads to
pub record IsClosed (tape : Taped) (agent : List ℕ) (Holds : ℕ → Type 0) : Type 0 where
  pub seeds : (url : List ℕ) → Contains tape.seeds url → Holds (key_of url)
  pub led : (url : List ℕ) (offer : Tuple) → Holds (key_of url) → LeadsTo tape agent url offer → Holds offer.key
