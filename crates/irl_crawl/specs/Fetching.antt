-- The fetches of a turn, and the offers of what was found, over the states of an open store.
use Rattle.std.specs.Prelude.{◌≡◌, ◌≤◌, ℕ, List, [], ◌++◌, map, length, Result, IfOk, IsErrOf, OnOk}
use Rattle.std.specs.List.{All, AllByRecursion, flat_map}
use Rattle.std.specs.List.Sorted.{IsPermutation}
use Rattle.irl_base.specs.declared.fault.Fault.{Fault}
use Rattle.irl_base.specs.declared.fault.Fault.TheVariants.{Failed}
use Rattle.irl_disk.specs.Images.{Told}
use Rattle.irl_key.specs.declared.web.Work.{Work}
use Rattle.irl_ledger.specs.Settling.{IsFlushed}
use Rattle.irl_offer.specs.Offering.{Entered}
use Rattle.irl_polite.specs.Schedule.{Schedule}
use Rattle.irl_yard.specs.declared.parts.Parts.{Parts}
use Rattle.irl_fetch.specs.Handling.{Handled, Noted, answered, done_of, entered_of}
use Rattle.irl_fetch.specs.declared.working.WorkLog.{WorkLog}
use Rattle.irl_crawl.specs.Leading.{Leads}
use Rattle.irl_crawl.specs.Offering.{OffersSome, OnlyOffers}
use Rattle.irl_crawl.specs.Workers.{AreFor, Given}
use Rattle.irl_crawl.specs.Working.{Begun, HaveWorked, IsBegun, KnowAsNoted, begun_entries}

-- what was entered of items that were handled, and of those that were begun
abbrev pub entries_of : List Handled → List Begun → List Entered
entries_of handled begun = flat_map entered_of handled ++ begun_entries begun

-- All was done, and is told: nothing is left, and what was offered is flushed.
pub record FetchesWhole (log : WorkLog) (agent : List ℕ) (handled : List Handled) (noted : List Noted)
    (left : List Work) (begun : List Begun) (befores afters : List Schedule) (now : Parts) : Type 0 where
  pub done : log.done.items ≡ map done_of handled
  pub notes : log.notes.items ≡ map (λ one. one.note) noted
  pub none_left : left ≡ []
  pub none_begun : begun ≡ []
  pub flushed : AllByRecursion (λ d. AllByRecursion (IsFlushed now.urls) d.receipts) log.done.items
  pub known : KnowAsNoted agent noted befores afters
  pub items : All (λ s. s.items ≡ []) afters

-- Items were handled, and some of those that are left begun, by the answer: what they name was offered to the store.
pub record Fetches (result : Result WorkLog Fault) (given : Given) (agent suffixes : List ℕ)
    (befores afters : List Schedule) (was now : Parts) (before after : Told) : Type 0 where
  pub handled : List Handled
  pub noted : List Noted
  pub left : List Work
  pub worked : HaveWorked given agent suffixes handled noted left befores
  pub begun : List Begun
  pub others : List Work
  pub is_left : IsPermutation left (map (λ one. one.work) begun ++ others)
  pub are_begun : All (IsBegun given.gives agent suffixes noted befores) begun
  -- one a worker at most
  pub few : length begun ≤ length befores
  pub whole : IfOk result (λ log. FetchesWhole log agent handled noted left begun befores afters now)
  pub asked : OnOk result (given.made ≤ answered handled noted)
  pub leads : Leads (IsErrOf result Failed) (OnlyOffers was.urls.settings (entries_of handled begun))
      (OffersSome result suffixes was.urls.settings (entries_of handled begun)) was now before after
  -- nothing changes beside the bay of URLs, and the fronts are as many, for the same agent
  pub rest : now.rest ≡ was.rest
  pub count : length afters ≡ length befores
  pub agents : AreFor agent afters
