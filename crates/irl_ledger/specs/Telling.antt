-- Telling the tables the judged pairs, by which they know how many domains link to each.
use Rattle.std.specs.Prelude.{◌≡◌, ℕ, ◌+◌, ◌≤◌, List, ◌++◌, filter, map, take, length, Result, OnOk, IsOk, ⊤}
use Rattle.std.specs.Option.{ForSome}
use Rattle.irl_base.specs.declared.fault.Fault.{Fault}
use Rattle.irl_offer.specs.declared.receipt.Judged.{Judged}
use Rattle.irl_model.specs.Book.{Book, is_unique}
use Rattle.irl_star.specs.Degrees.{Counts}
use Rattle.irl_disk.specs.Images.{Told}
use Rattle.irl_bay.specs.Holding.{Holds}
use Rattle.irl_bay.specs.Merges.{ReadsJudged}
use Rattle.irl_frontier.specs.Frontier.{Frontier}
use Rattle.irl_ledger.specs.declared.ledger.Ledger.{Ledger}
use Rattle.irl_ledger.specs.Holding.{domains_told}

-- the domains that the unique ones of some judged pairs lead to
abbrev pub unique_domains : List Judged → List (List ℕ)
unique_domains found = map (λ one. one.offer.aux) (filter (λ one. is_unique one.verdict) found)

-- only the degrees change, and how many pairs they were told
pub record TellsMore (old new : Frontier) : Type 0 where
  pub settings : new.settings ≡ old.settings
  pub progress : new.progress ≡ old.progress
  pub waiting : new.waiting ≡ old.waiting
  pub more : old.told ≤ new.told

-- Telling some judged pairs, one after the other, by the answer: all of them, or those before one for which there was
-- no memory.
pub record TellsEach {E : Type 0} (result : Result Unit E) (found : List Judged) (old new : Frontier) : Type 0 where
  pub tells : TellsMore old new
  pub count : ℕ
  pub few : count ≤ length found
  pub all : OnOk result (count ≡ length found)
  pub told : new.told ≡ old.told + count
  pub degrees : (adds : List (List ℕ)) → Counts old.degrees adds
      → Counts new.degrees (adds ++ unique_domains (take count found))

-- Telling judged pairs that weren't told yet, by the answer.
pub record TellsPairs (result : Result Unit Fault) (old new : Ledger) (before after : Told) : Type 0 where
  -- nothing else changes
  pub tells : TellsMore old.frontier new.frontier
  pub others : new ≡ record old { frontier = new.frontier }
  pub within : new.frontier.told ≤ old.pairs.last.judged
  -- where all of them were told it answers Ok, changes nothing and reads nothing, and takes no memory for that
  pub idle : old.frontier.told ≡ old.pairs.last.judged → IsOk result × (new ≡ old) × (after.taken ≡ before.taken)
  -- whatever is answered, the degrees are those of what was told
  pub degrees : ForSome before.files (λ _. (book : Book) → Holds before.images old.pairs book
      → Counts old.frontier.degrees (domains_told old.frontier.told book)
      → Counts new.frontier.degrees (domains_told new.frontier.told book))
  pub reads : ReadsJudged result (λ _ _. ⊤) old.pairs before after
