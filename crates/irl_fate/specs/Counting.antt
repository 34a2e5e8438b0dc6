-- How many of some numbers have each fate, as the report of a crawl counts its URLs.
use Rattle.std.specs.Prelude.{◌≡◌, ℕ, nat_eq, Bool, true, false, List, length}
use Rattle.std.specs.List.{filter}
use Rattle.irl_offer.specs.declared.outcome.Outcome.{Outcome}
use Rattle.irl_offer.specs.declared.outcome.Outcome.TheVariants.{Page, Moved, Status, Denied, Shut, Lost, Bad, Large, Coded}
use Rattle.irl_events.specs.Events.{Progress}
use Rattle.irl_fate.specs.declared.counts.Counts.{Counts}
use Rattle.irl_fate.specs.declared.fate.Fate.{Fate}
use Rattle.irl_fate.specs.declared.fate.Fate.TheVariants.{Fresh, Queue, Last, Front, Done}
use Rattle.irl_fate.specs.Fates.{fate_of}
use Rattle.irl_fate.specs.Kept.{is_front, is_done}

-- how many of the numbers have a fate of which a test holds
abbrev pub count_fate : (Fate → Bool) → Progress → List ℕ → ℕ
count_fate test x numbers = length (filter (λ n. test (fate_of x n)) numbers)

abbrev pub is_fresh : Fate → Bool
is_fresh Fresh = true
is_fresh (Queue i) = false
is_fresh Last = false
is_fresh Front = false
is_fresh (Done outcome) = false

-- in any queue
abbrev pub is_queued : Fate → Bool
is_queued Fresh = false
is_queued (Queue i) = true
is_queued Last = false
is_queued Front = false
is_queued (Done outcome) = false

abbrev pub is_last : Fate → Bool
is_last Fresh = false
is_last (Queue i) = false
is_last Last = true
is_last Front = false
is_last (Done outcome) = false

-- an outcome's kind, by the number that the store's files have for it
abbrev pub kind_of : Outcome → ℕ
kind_of Page = 0
kind_of Moved = 1
kind_of (Status n) = 2
kind_of (Denied n) = 3
kind_of Shut = 4
kind_of Lost = 5
kind_of Bad = 6
kind_of Large = 7
kind_of Coded = 8

-- whether two outcomes are of one kind, whatever their details
abbrev pub are_alike : Outcome → Outcome → Bool
are_alike one other = nat_eq (kind_of one) (kind_of other)

-- done, with an outcome of the kind of this one
abbrev pub came_to : Outcome → Fate → Bool
came_to one Fresh = false
came_to one (Queue i) = false
came_to one Last = false
came_to one Front = false
came_to one (Done outcome) = are_alike one outcome

-- what a report counts by fate, where the URLs have these numbers
-- an outcome here stands for its kind: the detail, the 0 of Status and Denied, doesn't count
pub record CountFates (counts : Counts) (x : Progress) (numbers : List ℕ) : Type 0 where
  pub unique : counts.unique ≡ length numbers
  pub fresh : counts.fresh ≡ count_fate is_fresh x numbers
  pub queued : counts.queued ≡ count_fate is_queued x numbers
  pub last : counts.last ≡ count_fate is_last x numbers
  pub front : counts.front ≡ count_fate is_front x numbers
  pub done : counts.done ≡ count_fate is_done x numbers
  pub page : counts.page ≡ count_fate (came_to Page) x numbers
  pub moved : counts.moved ≡ count_fate (came_to Moved) x numbers
  pub status : counts.status ≡ count_fate (came_to (Status 0)) x numbers
  pub denied : counts.denied ≡ count_fate (came_to (Denied 0)) x numbers
  pub shut : counts.shut ≡ count_fate (came_to Shut) x numbers
  pub lost : counts.lost ≡ count_fate (came_to Lost) x numbers
  pub bad : counts.bad ≡ count_fate (came_to Bad) x numbers
  pub large : counts.large ≡ count_fate (came_to Large) x numbers
  pub coded : counts.coded ≡ count_fate (came_to Coded) x numbers
