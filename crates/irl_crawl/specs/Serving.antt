-- Which worker serves a host.
use Rattle.std.specs.Prelude.{◌≡◌, ◌%◌, ℕ, List, Option, Some, slice_get}
use Rattle.std.specs.BTreeMap.{is_at}
use Rattle.std.specs.Cmp.Lexicographic.{slice_cmp}
use Rattle.std.specs.List.{AllByRecursion}
use Rattle.std.specs.Map.{lookup}
use Rattle.std.specs.Option.{option_map}
use Rattle.std.specs.Ordering.{nat_cmp}
use Rattle.irl_key.specs.declared.web.Work.{Work}
use Rattle.irl_polite.specs.Schedule.{Schedule, host}
use Rattle.irl_crawl.specs.declared.hosts.Hosts.{Hosts}

-- the number of a host that was named
abbrev pub number_of : Hosts → List ℕ → Option ℕ
number_of hosts name =
    option_map (λ n. n.number) (lookup (is_at (λ k. slice_cmp nat_cmp name k.items)) hosts.named.entries)

-- numbers stay
abbrev pub KeepsNumbers : Hosts → Hosts → Type 0
KeepsNumbers old new = (name : List ℕ) (n : ℕ) → number_of old name ≡ Some n → number_of new name ≡ Some n

-- the item's host is served by the worker at this place: the host's number modulo the number of workers
abbrev pub IsServedAt : Hosts → ℕ → ℕ → Work → Type 0
IsServedAt hosts workers at work = (n : ℕ) × (number_of hosts (host work) ≡ Some n) × (n % workers ≡ at)

-- each front has only items that its worker serves
abbrev pub AreServed : Hosts → ℕ → List Schedule → Type 0
AreServed hosts workers fronts = (at : ℕ) (front : Schedule) → slice_get fronts at ≡ Some front
    → AllByRecursion (IsServedAt hosts workers at) front.items
