-- Sending the pairs of the links that judged URLs show.
use Rattle.std.specs.Prelude.{◌≡◌, ◌⊎◌, ℕ, ◌+◌, ◌-◌, ◌*◌, ◌<◌, ◌≤◌, List, [], ◌∷◌, ◌++◌, map, length, take, drop, slice_get, unwrap_or, Option, None, Some, true, Result, IfOk, OnOk, IsErrOf}
use Rattle.std.specs.List.{AllByRecursion}
use Rattle.std.specs.Option.{ForSome}
use Rattle.irl_base.specs.declared.fault.Fault.{Fault}
use Rattle.irl_base.specs.declared.fault.Fault.TheVariants.{Failed}
use Rattle.irl_offer.specs.Tuple.{Tuple}
use Rattle.irl_offer.specs.declared.receipt.Judged.{Judged}
use Rattle.irl_offer.specs.declared.settings.Kind.TheVariants.{Crawl}
use Rattle.irl_offer.specs.declared.settings.Settings.{Settings}
use Rattle.irl_key.specs.Key.{key_of}
use Rattle.irl_key.specs.Links.{IsCanonicalText}
use Rattle.irl_array.specs.Waiting.{Waiting}
use Rattle.irl_model.specs.Book.{Book, IsFront, IsPrefixOf, gone, judged, judged_cut, lengths_of, part}
use Rattle.irl_events.specs.Events.{Event, Pairs, Happened, progress}
use Rattle.irl_events.specs.Links.{pair_offers}
use Rattle.irl_disk.specs.Disk.{Files}
use Rattle.irl_disk.specs.Images.{Told}
use Rattle.irl_layout.specs.BayFiles.{file_of}
use Rattle.irl_layout.specs.declared.files.BayFile.TheVariants.{Judged as JudgedFile}
use Rattle.irl_bay.specs.Drum.{Drum, pending_at}
use Rattle.irl_bay.specs.Holding.{Holds, IsLong}
use Rattle.irl_head.specs.StoreFiles.{pairs_base, urls_base}
use Rattle.irl_bay.specs.JudgedSpoilt.{IsJudgedSpoiltAt}
use Rattle.irl_bay.specs.Standing.{IsBookOf}
use Rattle.irl_core.specs.States.{begun_with}
use Rattle.irl_schedule.specs.Feeding.{Grows, Waits, list_at, moment}
use Rattle.irl_schedule.specs.Schedule.{none_more, one_more}
use Rattle.irl_ledger.specs.Crawling.{AreTaken, domain_of, pair_settings}
use Rattle.irl_ledger.specs.Reading.{IsStrangeTextAt}
use Rattle.irl_ledger.specs.Running.{Feeding, RunsSchedule, StaysOpen}

-- ---- links
-- what an option has
abbrev pub option_items : {X : Type 0} → Option X → List X
option_items None = []
option_items (Some x) = x ∷ []

-- the pairs of those of some judged offers that link two domains, by a text of suffixes
abbrev pub links_of : List ℕ → List Judged → List Tuple
links_of suffixes found = pair_offers (domain_of suffixes) key_of (map (λ one. one.offer) found)

-- what a book judged from a place of the judged order on, and before another
abbrev pub judged_after : ℕ → Book → List Judged
judged_after from book = drop (from - gone book) (judged book)

abbrev pub judged_between : ℕ → ℕ → Book → List Judged
judged_between from to book = take (to - from) (judged_after from book)

-- ---- damage
-- an offer of these has no canonical text, and its entry stands at this place of the judged file
pub record IsStrangeIn (from : ℕ) (found : List Judged) (f at : ℕ) : Type 0 where
  pub file : f ≡ file_of urls_base 0 JudgedFile
  pub i : ℕ
  pub one : Judged
  pub found_at : slice_get found i ≡ Some one
  pub place : at ≡ 48 * (from + i)
  pub strange : IsCanonicalText one.offer.aux → ⊥

-- damage of the URLs is named where it is, and never where they are a book with offers that a crawl takes
pub record IsSpoiltUrl (store : Told) (urls : Drum) (f at : ℕ) : Type 0 where
  pub spoilt : ForSome store.files (λ files. IsJudgedSpoiltAt urls files f at ⊎ IsStrangeTextAt store.images urls f at)
  pub whole : ForSome store.files (λ _. (book : Book) → Holds store.images urls book
      → AllByRecursion (AreTaken Crawl) book.lists → ⊥)

-- ---- the pairs that are offered
-- What is asked: the URLs are open, beside the pairs in other files, over files that are told as these.
pub record MayReadUrls (urls pairs : Drum) (told : Option Files) : Type 0 where
  pub sound : urls.is_sound ≡ true
  pub long : ForSome told (λ files. IsLong urls files)
  pub base : urls.base ≡ urls_base
  pub pairs_at : pairs.base ≡ pairs_base
  pub settings : pairs.settings ≡ pair_settings urls.settings

-- Handing in the links of the judged URLs from a place on and before another, which a call answers.
pub record OffersPiece (result : Result ℕ Fault) (suffixes : List ℕ) (from : ℕ) (urls : Drum)
    (was now : List Waiting) (old new : Drum) (before after : Told) : Type 0 where
  pub news : List Tuple
  pub front : ForSome before.files (λ _. (book : Book) → Holds before.images urls book
      → IsPrefixOf news (links_of suffixes (judged_after from book)))
  pub all : IfOk result (λ to. ForSome before.files (λ _. (book : Book) → Holds before.images urls book
      → news ≡ links_of suffixes (judged_between from to book)))
  pub feeding : Feeding result (IsSpoiltUrl before urls) 0 none_more news was now old new before after

-- nothing waits in front of any bucket
abbrev pub no_waiting : Waits
no_waiting b = []

-- Offering the bay of pairs the links of what the URLs judged from a place on, by the answer.
pub record OffersPairs (result : Result Unit Fault) (suffixes : List ℕ) (from : ℕ) (urls old new : Drum)
    (before after : Told) : Type 0 where
  -- those that were handed in, in order: some at the front of the links, or all
  pub news : List Tuple
  pub front : ForSome before.files (λ _. (book : Book) → Holds before.images urls book
      → IsPrefixOf news (links_of suffixes (judged_after from book)))
  pub all : OnOk result (ForSome before.files (λ _. (book : Book) → Holds before.images urls book
      → news ≡ links_of suffixes (judged_after from book)))
  -- those of them that were in no list when it ended are gone, an array of a bucket at most
  pub waits : Waits
  pub few : (b : ℕ) → b < new.settings.buckets → length (waits b) ≤ new.settings.array
  pub runs : RunsSchedule result (IsSpoiltUrl before urls) 1 one_more news (moment before old no_waiting)
      (moment after new waits)
  pub emptied : OnOk result ((b : ℕ) → waits b ≡ [])
  pub judged_all : OnOk result ((b : ℕ) → b < old.settings.buckets → pending_at new b ≡ 0)
  pub goes_on : StaysOpen (IsErrOf result Failed) new after

-- ---- what a crawl's state says of it
-- the links of what its URLs judged since pairs were last sent
abbrev pub new_links : Settings → Book → List Happened → List Tuple
new_links settings urls events = links_of (unwrap_or (begun_with events) [])
    (judged_after (progress settings.queues settings.buckets events).sent urls)

-- A book of pairs that sending may leave: behind each list stand the first of the new links of its bucket, each once,
-- and nothing else. No list has grown past the cap, and one cut at most was made before a bucket had enough new offers.
pub record MayBeSent (settings : Settings) (urls pairs : Book) (events : List Happened) (book : Book) : Type 0 where
  pub book_is : IsBookOf (pair_settings settings) book
  pub front : IsFront pairs book
  pub grows : Grows (pair_settings settings) 1 pairs book
  pub takes : (b : ℕ) → b < settings.buckets
      → IsPrefixOf (list_at book b) (list_at pairs b ++ part settings.buckets b (new_links settings urls events))

-- One that has them all, and has judged all.
pub record IsAllSent (settings : Settings) (urls pairs : Book) (events : List Happened) (book : Book) : Type 0 where
  pub may : MayBeSent settings urls pairs events book
  pub has : (b : ℕ) → b < settings.buckets
      → list_at book b ≡ list_at pairs b ++ part settings.buckets b (new_links settings urls events)
  pub judged_all : judged_cut book ≡ lengths_of book

-- the event that the pairs of all cuts are sent
abbrev pub pairs_event : Drum → Drum → Event
pairs_event urls pairs = Pairs urls.cuts urls.last.judged pairs.last.judged
