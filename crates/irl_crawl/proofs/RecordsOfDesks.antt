-- What a desk that was closed, and a merge of what is left, add to the cuts and to the records, where a crawl has begun.
use Rattle.std.proofs.Common.{◌≡◌, ◌⊎◌, inl, inr, ⊎_elim, List, [], Option, None, Some, Result, Ok, Err, IsErrOf, refl, ap, subst, arith}
use Rattle.std.specs.Option.{ForSome}
use Rattle.std.specs.List.{AllByRecursion}
use Rattle.irl_base.specs.declared.fault.Fault.{Fault}
use Rattle.irl_base.specs.declared.fault.Fault.TheVariants.{Damaged, Failed, Full, Memory}
use Rattle.irl_offer.specs.Offering.{Entered, IsTakenBy}
use Rattle.irl_offer.specs.Tuple.{Tuple}
use Rattle.irl_offer.specs.declared.settings.Kind.{Kind}
use Rattle.irl_key.specs.Links.{IsCanonicalText}
use Rattle.irl_model.specs.Book.{Book}
use Rattle.irl_disk.specs.Images.{IsConsistent, Told}
use Rattle.irl_bay.specs.Drum.{IsDrum}
use Rattle.irl_bay.specs.Holding.{Holds}
use Rattle.irl_schedule.specs.Arrays.{waiting_at}
use Rattle.irl_schedule.specs.Feeding.{Fed, Stranded, Waits, moment}
use Rattle.irl_schedule.specs.Schedule.{none_more, one_more}
use Rattle.irl_schedule.specs.Scheduling.{Schedules}
use Rattle.irl_yard.specs.declared.parts.Parts.{Parts}
use Rattle.irl_yard.specs.Holding.{IsOpenRest}
use Rattle.irl_yard.specs.Sending.{HasBegun}
use Rattle.irl_desk.specs.Closing.{Closes, HandsBack, ended}
use Rattle.irl_desk.specs.Serving.{IsFresh, Serves, Serving, moment_at, offers_in}
use Rattle.irl_desk.proofs.Spreading.{hands_back}
use Rattle.irl_crawl.proofs.Spread.{IsPage}
use Rattle.irl_crawl.proofs.Records.{kind_open}
use Rattle.irl_crawl.proofs.RecordsOfBooks.{books_batch, books_on}
use Rattle.irl_crawl.proofs.RecordsThen.{HoldsOn, a_merge}
use Rattle.irl_crawl.specs.Batches.{Batches, just}

-- ---- failures
-- whether a store failed
fault_failed : (fault : Fault) → (fault ≡ Failed) ⊎ (fault ≡ Failed → ⊥)
fault_failed Failed = inl refl
fault_failed Memory = inr (λ is. cc)
fault_failed (Full n) = inr (λ is. cc)
fault_failed (Damaged f at) = inr (λ is. cc)

pub answer_failed : {A : Type 0} (result : Result A Fault) → IsErrOf result Failed ⊎ (IsErrOf result Failed → ⊥)
answer_failed (Ok value) = inr (λ is. cc)
answer_failed (Err fault) = ⊎_elim (λ is. inl (ap (λ (f : Fault). Err f) is)) (λ not. inr (λ is. not (cc))) (fault_failed fault)

last_failed : (last : Option Fault) → (last ≡ Some Failed) ⊎ (last ≡ Some Failed → ⊥)
last_failed None = inr (λ is. cc)
last_failed (Some fault) = ⊎_elim (λ is. inl (ap (λ (f : Fault). Some f) is)) (λ not. inr (λ is. not (cc))) (fault_failed fault)

-- ---- a desk
module _ {S : Type 0} (told : S → Told) (lawful : (s : S) → IsConsistent (told s)) (entries : List Entered) (old mid : Serving S) (closed : Result Unit Fault) (store : S) (parts : Parts)
    (opened : IsOpenRest old.parts.urls old.parts.rest (told old.store).files) (law : IsDrum old.parts.urls) (begun : HasBegun old.parts.rest) (fresh : IsFresh old)
    (serves : Serves told entries old mid) (closes : Closes told closed mid store parts) where
  abbrev s : Told
  s = told old.store

  abbrev t : Told
  t = told store

  abbrev new : Serving S
  new = ended mid closed store parts closes.arrays

  abbrev news : List Tuple
  news = offers_in entries

  hands : HandsBack told closed entries old new
  hands = hands_back told lawful entries closed old mid new fresh serves closes refl

  pages : AllByRecursion IsPage news
  pages = subst (λ (k : Kind). AllByRecursion (IsTakenBy IsCanonicalText k) news) (kind_open old.parts.urls old.parts.rest s.files opened begun) hands.enters.taken

  fed : (IsErrOf closed Failed → ⊥) → ForSome s.files (λ _. (x : Book) → Holds s.images old.parts.urls x → Fed 0 one_more news (moment_at told old) (moment_at told new) x)
  fed not = hands.enters.fed (λ failed. not (hands.last Failed failed))

  either : ForSome s.files (λ _. (x : Book) → Holds s.images old.parts.urls x
      → Fed 0 one_more news (moment_at told old) (moment_at told new) x ⊎ Stranded 0 one_more news (moment_at told old) (moment_at told new) x)
  either files is x holds =
      ⊎_elim (λ failed. inr (hands.enters.broken failed files is x holds)) (λ not. inl (hands.enters.fed not files is x holds)) (last_failed new.last)

  pub desk_batch : Batches (IsErrOf closed Failed) (just 1 0) (just 1 0) old.parts parts s t
  desk_batch =
      books_batch 0 1 one_more (λ b. omega arith) news old.parts parts s t (waiting_at old.arrays) (waiting_at new.arrays) fresh.empty opened law hands.enters.sound.drum (lawful store) begun pages
      hands.enters.stays hands.enters.rest (IsErrOf closed Failed) fed either

  pub desk_on : HoldsOn (IsErrOf closed Failed) old.parts parts s t
  desk_on =
      books_on 0 1 one_more (λ b. omega arith) news old.parts parts s t (waiting_at old.arrays) (waiting_at new.arrays) fresh.empty opened law hands.enters.sound.drum (lawful store) begun pages
      hands.enters.stays hands.enters.rest (IsErrOf closed Failed) fed

-- ---- a merge of what is left
abbrev pub no_waiting : Waits
no_waiting b = []

module _ (result : Result Unit Fault) (was now : Parts) (s t : Told) (opened : IsOpenRest was.urls was.rest s.files) (law : IsDrum was.urls) (law_now : IsDrum now.urls) (consistent : IsConsistent t)
    (begun : HasBegun was.rest) (schedules : Schedules result 1 none_more [] (moment s was.urls no_waiting) (moment t now.urls no_waiting)) (rest : now.rest ≡ was.rest) where
  either_fed : ForSome s.files (λ _. (x : Book) → Holds s.images was.urls x
      → Fed 1 none_more [] (moment s was.urls no_waiting) (moment t now.urls no_waiting) x ⊎ Stranded 1 none_more [] (moment s was.urls no_waiting) (moment t now.urls no_waiting) x)
  either_fed files is x holds =
      ⊎_elim (λ failed. inr (schedules.stranded failed files is x holds).0) (λ not. inl (schedules.fed not files is x holds)) (answer_failed result)

  pub merge_batch : Batches (IsErrOf result Failed) a_merge a_merge was now s t
  merge_batch =
      books_batch 1 0 none_more (λ b. omega arith) [] was now s t no_waiting no_waiting (λ b. refl) opened law law_now consistent begun tt schedules.stays rest (IsErrOf result Failed) schedules.fed
      either_fed

  pub merge_on : HoldsOn (IsErrOf result Failed) was now s t
  merge_on =
      books_on 1 0 none_more (λ b. omega arith) [] was now s t no_waiting no_waiting (λ b. refl) opened law law_now consistent begun tt schedules.stays rest (IsErrOf result Failed) schedules.fed
