-- What was done with an open store by all passes, behind its turns: one history of what was handed in, of which each
-- pass did its part.
use Rattle.std.specs.Prelude.{◌≡◌, ℕ, ◌+◌, ◌%◌, ◌^◌, ◌<◌, ◌⊎◌, List, [], ◌∷◌, map, Option, None, Some, slice_index, ⊤}
use Rattle.std.specs.List.{AllByRecursion, flat_map}
use Rattle.std.specs.List.Sorted.{IsPermutation}
use Rattle.irl_base.specs.declared.fault.Fault.{Fault}
use Rattle.irl_base.specs.declared.fault.Fault.TheVariants.{Memory}
use Rattle.irl_array.specs.Waiting.{Waiting}
use Rattle.irl_offer.specs.Offering.{Entered}
use Rattle.irl_disk.specs.declared.store.Store.{Ghosts}
use Rattle.irl_bay.specs.Drum.{durable_at}
use Rattle.irl_schedule.specs.Arrays.{array_at}
use Rattle.irl_schedule.specs.Schedule.{none_more}
use Rattle.irl_yard.specs.declared.yard.Yard.{Yard}
use Rattle.irl_desk.specs.Serving.{Serving, Enters, moment_at}
use Rattle.irl_desk.specs.Stepping.{handed_at}
use Rattle.irl_lock.specs.declared.held.Bin.{Bin}
use Rattle.irl_lock.specs.declared.held.Held.{Held}
use Rattle.irl_lock.specs.declared.held.Held.TheVariants.{InBin, InYard}
use Rattle.irl_lock.specs.declared.held.Stand.{Stand}
use Rattle.irl_lock.specs.declared.view.Known.{Known}
use Rattle.irl_lock.specs.declared.view.Share.{Share}
use Rattle.irl_lock.specs.declared.view.Taken.{Taken}

-- ---- what passes did
abbrev pub entered : Taken → Entered
entered taken = record { receipt = taken.receipt; offer = taken.offer }

abbrev pub entries_of : Share → List Entered
entries_of share = map entered share.entries

-- what a seat knows of: its own pass first, and then those that it took in
abbrev pub shares_of : Known → List Share
shares_of known = known.mine ∷ known.joined

abbrev pub known_entries : Known → List Entered
known_entries known = flat_map entries_of (shares_of known)

-- the first stand among the second, in the same order
abbrev pub IsPartOf : {X : Type 0} → List X → List X → Type 0
IsPartOf [] ys = ⊤
IsPartOf (x ∷ xs) [] = ⊥
IsPartOf (x ∷ xs) (y ∷ ys) = ((x ≡ y) × IsPartOf xs ys) ⊎ IsPartOf (x ∷ xs) ys

abbrev pub all_parts : ℕ
all_parts = 64

abbrev pub total_parts : List Known → ℕ
total_parts [] = 0
total_parts (known ∷ more) = known.parts + total_parts more

abbrev pub no_share : Share
no_share = record { entries = []; last = None }

-- so many parts, and nothing done
abbrev pub fresh_known : ℕ → Known
fresh_known parts = record { parts = parts; mine = no_share; joined = [] }

-- The parts of all seats are all parts; each pass did its part of one history, in order, and together they did all of
-- it. The last fault of each is the one by which the store stopped.
pub record AreParts (news : List Entered) (last : Option Fault) (knowns : List Known) : Type 0 where
  pub total : total_parts knowns ≡ all_parts
  pub whole : IsPermutation news (flat_map known_entries knowns)
  pub in_order : AllByRecursion (λ known. AllByRecursion (λ share. IsPartOf (entries_of share) news) (shares_of known))
      knowns
  pub stops : AllByRecursion (λ known. AllByRecursion (λ share. (fault : Fault) → share.last ≡ Some fault
      → last ≡ Some fault) (shares_of known)) knowns
  -- one that has no part left did nothing
  pub idle : AllByRecursion (λ known. known.parts ≡ 0 → known ≡ fresh_known 0) knowns

-- ---- the store
module _ {S : Type 0} {tells : Ghosts S} where
  -- before anything is done
  abbrev pub fresh_of : Yard S tells → Serving S
  fresh_of yard = record { store = yard.store; parts = yard.parts; arrays = []; entries = []; last = None }

  -- with the arrays in front of it, and what was handed in since
  abbrev pub serving_now : Stand S tells → List Waiting → List Entered → Serving S
  serving_now stand arrays news =
      record { store = stand.yard.store; parts = stand.yard.parts; arrays = arrays; entries = news; last = stand.last }

  abbrev pub bin_of : Stand S tells → List Waiting → ℕ → Bin
  bin_of stand arrays b = record { first = durable_at stand.yard.parts.urls b; array = array_at arrays b }

  -- how many buckets there are, and the number of the store's turn, which comes behind theirs
  abbrev pub buckets_of : Yard S tells → ℕ
  buckets_of yard = yard.parts.urls.settings.buckets

  -- the word that counts the offers of a bucket
  abbrev pub count_word : Yard S tells → ℕ → ℕ
  count_word yard b = buckets_of yard + 1 + b

  -- What stands behind the turns is the store and its arrays, as what was handed in since the opening made them. A
  -- count word has 64 bits.
  pub record HasBooks (opening : Yard S tells) (words : List ℕ) (knowns : List Known) (held : ℕ → Held S tells) : Type 0
    where
      pub stand : Stand S tells
      pub arrays : List Waiting
      pub news : List Entered
      pub yard_is : held (buckets_of opening) ≡ InYard stand
      pub bins_are : (b : ℕ) → b < buckets_of opening → held b ≡ InBin (bin_of stand arrays b)
      pub counts : (b : ℕ) → b < buckets_of opening → slice_index words (count_word opening b)
          ≡ handed_at (moment_at tells.told (serving_now stand arrays news)) b % 2 ^ 64
      pub enters : Enters tells.told none_more news (fresh_of opening) (serving_now stand arrays news)
      pub parts : AreParts news stand.last knowns
      -- want of memory stops nothing
      pub memory : stand.last ≡ Some Memory → ⊥
