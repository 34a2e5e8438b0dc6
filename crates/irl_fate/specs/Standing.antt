-- How often a number stands in the lists of a crawl, and which of the lists are empty.
use Rattle.std.specs.Prelude.{◌≡◌, ℕ, ◌+◌, ◌≤◌, ◌<◌, nat_eq, Bool, true, false, List, [], ◌∷◌, map, length}
use Rattle.irl_events.specs.Events.{Progress}
use Rattle.irl_base.specs.Lists.{list_at}
use Rattle.irl_events.specs.Queues.{Waiting}
use Rattle.irl_fate.specs.declared.fate.Fate.{Fate}
use Rattle.irl_fate.specs.declared.fate.Fate.TheVariants.{Fresh, Queue, Last, Front, Done}

abbrev pub one_if : Bool → ℕ
one_if true = 1
one_if false = 0

-- how often a number stands in a list, and in lists
abbrev pub count : ℕ → List ℕ → ℕ
count n [] = 0
count n (m ∷ numbers) = one_if (nat_eq m n) + count n numbers

abbrev pub count_all : ℕ → List (List ℕ) → ℕ
count_all n [] = 0
count_all n (list ∷ lists) = count n list + count_all n lists

-- how often it stands in the front, in the queues and the last list, and among what is done
abbrev pub stands : Progress → ℕ → ℕ
stands x n = count n x.front + count_all n x.waiting.lists + count n (map (λ d. d.0) x.done)

-- how many numbers wait in lists
abbrev pub total : List (List ℕ) → ℕ
total [] = 0
total (list ∷ lists) = length list + total lists

-- how many numbers stand anywhere: each that was read does, once
abbrev pub read_count : Progress → ℕ
read_count x = length x.front + total x.waiting.lists + length x.done

-- whether a number with this fate stands anywhere
abbrev pub is_placed : Fate → Bool
is_placed Fresh = false
is_placed (Queue i) = true
is_placed Last = true
is_placed Front = true
is_placed (Done outcome) = true

-- the lists in which numbers wait, in any round
pub record IsWaiting (w : Waiting ℕ) : Type 0 where
  pub lists : length w.lists ≡ 65
  pub round : w.passes < w.queues
  pub most : w.queues ≤ 64
  -- the queues that the round has read are empty
  pub spent : (k : ℕ) → k < w.passes → list_at w.lists k ≡ []
  -- and so are those that are not in use
  pub unused : (k : ℕ) → w.queues ≤ k → k < 64 → list_at w.lists k ≡ []
