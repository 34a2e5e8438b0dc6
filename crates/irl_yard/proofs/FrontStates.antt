-- What an open store has in front, and its counts, over states.
use Rattle.std.proofs.Common.{◌≡◌, ◌≢◌, ◌∙◌, true, ℕ, suc, ◌<◌, ◌-◌, ◌^◌, min, sum, List, [], ◌∷◌, length, map, get_or, Some, Result, Ok, Err, IsOk, IsErrOf, refl, sym, ap, subst, arith}
use Rattle.std.specs.Prelude.{IfOk}
use Rattle.std.specs.List.{AllByRecursion}
use Rattle.std.specs.Option.{ForSome}
use Rattle.std.proofs.lemmas.List.{length-map}
use Rattle.irl_base.specs.declared.fault.Fault.{Fault}
use Rattle.irl_base.specs.declared.fault.Fault.TheVariants.{Damaged}
use Rattle.irl_offer.specs.Tuple.{Tuple}
use Rattle.irl_offer.specs.declared.offer.Rule.TheVariants.{Keep}
use Rattle.irl_offer.specs.declared.settings.Kind.{Kind}
use Rattle.irl_offer.specs.declared.settings.Kind.TheVariants.{Lines, Tuples, Crawl as CrawlKind}
use Rattle.irl_offer.specs.declared.settings.Settings.{Settings}
use Rattle.irl_key.specs.declared.web.Work.{Work}
use Rattle.irl_model.specs.Book.{Book, blank_book, lengths_of, uniques}
use Rattle.irl_events.specs.Events.{Happened, Progress, before_all, has_number}
use Rattle.irl_events.specs.State.{State}
use Rattle.irl_fate.specs.Counting.{CountFates}
use Rattle.irl_fate.specs.Fates.{fate_of}
use Rattle.irl_fate.specs.Fronts.{AreFirst}
use Rattle.irl_fate.specs.declared.counts.Counts.{Counts}
use Rattle.irl_fate.specs.declared.fate.Fate.TheVariants.{Fresh, Front}
use Rattle.irl_frontier.specs.Tallies.{HasAllRead}
use Rattle.irl_disk.specs.Disk.{Files}
use Rattle.irl_disk.specs.Images.{Told, IsConsistent}
use Rattle.irl_bay.specs.Drum.{Drum, IsDrum, durables}
use Rattle.irl_bay.specs.Holding.{Holds}
use Rattle.irl_ledger.specs.declared.ledger.Ledger.{Ledger}
use Rattle.irl_ledger.specs.Holding.{HoldsLedger}
use Rattle.irl_ledger.specs.Passing.{IsWorkOf}
use Rattle.irl_ledger.specs.Reading.{ReadsUrls}
use Rattle.irl_ledger.proofs.Fronts.{first_front}
use Rattle.irl_ledger.proofs.ReadUrls.{all_read, work_text}
use Rattle.irl_yard.specs.declared.parts.Parts.{Parts}
use Rattle.irl_yard.specs.declared.parts.Rest.{Rest}
use Rattle.irl_yard.specs.declared.parts.Rest.TheVariants.{Plain, Crawl}
use Rattle.irl_yard.specs.Holding.{HoldsOpen, HoldsState, HoldsUrls, IsOpenRest}
use Rattle.irl_yard.specs.Merges.{ReadsState}
use Rattle.irl_yard.specs.Passing.{AreCounts, AreWorks, come, front_in}
use Rattle.irl_yard.specs.Standing.{IsRest}
use Rattle.irl_yard.proofs.Appended.{legal_as}
use Rattle.irl_yard.proofs.Beside.{state_same}
use Rattle.irl_yard.proofs.Holding.{stops_same}
use Rattle.irl_yard.proofs.PassWhole.{come_plain}

ok_each : {A : Type 0} (result : Result A Fault) (P : A → Type 0) → ((value : A) → result ≡ Ok value → P value) → IfOk result P
ok_each (Ok value) P each = each value refl
ok_each (Err error) P each = tt

-- ---- the front
at_each : (P : ℕ → Type 0) (ns : List ℕ) → ((i : ℕ) → i < length ns → P (get_or ns i 0)) → AllByRecursion P ns
at_each P [] each = tt
at_each P (n ∷ ns) each = (each 0 (omega arith), at_each P ns (λ i lt. each (suc i) (omega (arith, lt))))

in_front : (x : Progress) (n : ℕ) → has_number x.front n ≡ true → fate_of x n ≢ Fresh
in_front x n has fresh =
    let there : fate_of x n ≡ Front = rw has refl in
    let no : Front ≡ Fresh = sym there ∙ fresh in
    absurd (cc)

works_have : (x : Progress) (urls : Book) (works : List Work) → HasAllRead x (map (λ (p : ℕ × Tuple). p.0) (uniques urls))
    → AllByRecursion (λ n. has_number x.front n ≡ true) (map (λ (work : Work). work.number) works) → AllByRecursion (IsWorkOf urls) works → AreWorks works urls
works_have x urls [] read there are = tt
works_have x urls (work ∷ works) read there are =
    (work_text urls work (read.read work.number (in_front x work.number there.0)) are.0, works_have x urls works read there.1 are.1)

-- the URLs that were read are those of the state
pub read_state : (images : Files → Type 0) (urls : Drum) (state : State) → IsDrum urls → urls.settings.kind ≡ CrawlKind → HoldsUrls images urls state
    → HasAllRead (come urls.settings state) (map (λ (p : ℕ × Tuple). p.0) (uniques state.urls))
read_state images urls state law kind holds =
    all_read urls.settings state.urls state.pairs state.events law.settings holds.urls_hold.book_is (legal_as urls.settings kind state.pairs state.urls state.events holds.legal)

pub front_works : (images : Files → Type 0) (urls : Drum) (ledger : Ledger) (state : State) (most : ℕ) (works : List Work) → IsDrum urls → urls.settings.kind ≡ CrawlKind → HoldsUrls images urls state
    → HoldsLedger images urls.settings ledger state.urls state.pairs state.events → AreFirst ledger.frontier.progress.front most (map (λ (work : Work). work.number) works)
    → AllByRecursion (IsWorkOf state.urls) works → AreWorks works state.urls
front_works images urls ledger state most works law kind holds held first are =
    let x = come urls.settings state in
    let numbers : List ℕ = map (λ (work : Work). work.number) works in
    let there : AllByRecursion (λ n. has_number x.front n ≡ true) numbers =
    subst (λ (y : Progress). AllByRecursion (λ n. has_number y.front n ≡ true) numbers) held.frontier.progress_is
    (at_each (λ n. has_number ledger.frontier.progress.front n ≡ true) numbers (λ i lt. first_front ledger.frontier.progress.front most numbers i 0 first lt)) in
    works_have x state.urls works (read_state images urls state law kind holds) there are

-- pages that are read, over states
module _ {A : Type 0} (result : Result A Fault) (items : A → List Work) (most : ℕ) (old new : Told) (was now : Parts) (law : IsDrum was.urls) (consistent : IsConsistent new)
    (open_rest : IsOpenRest was.urls was.rest old.files) (urls : now.urls ≡ was.urls) (rest : now.rest ≡ was.rest)
    (reads : ReadsUrls result (λ works book. AllByRecursion (IsWorkOf book) (items works)) was.urls old new)
    (first : IfOk result (λ works. AreFirst (front_in was.rest) most (map (λ (work : Work). work.number) (items works))))
    (plain : was.rest ≡ Plain → IsOk result × IfOk result (λ works. items works ≡ [])) where
  works_by : (works : A) → result ≡ Ok works → (files : Files) → old.files ≡ Some files → (state : State) → HoldsState old.images was state → (r : Rest) → was.rest ≡ r
      → AreWorks (items works) state.urls
  works_by works is files told state holds Plain e =
      let none : items works ≡ [] = subst (λ (r : Result A Fault). IfOk r (λ works. items works ≡ [])) is (plain e).1 in
      subst (λ (ws : List Work). AreWorks ws state.urls) (sym none) tt
  works_by works is files told state holds (Crawl ledger) e =
      let opened : HoldsOpen old.images was.urls.settings (Crawl ledger) state.urls state.pairs state.events =
      subst (λ (r : Rest). HoldsOpen old.images was.urls.settings r state.urls state.pairs state.events) e holds.open_rest in
      let found = subst (λ (r : Result A Fault). IfOk r (λ works. ForSome old.files (λ _. (book : Book) → Holds old.images was.urls book → AllByRecursion (IsWorkOf book) (items works)))) is
      reads.value in
      let these = subst (λ (r : Result A Fault). IfOk r (λ works. AreFirst (front_in was.rest) most (map (λ (work : Work). work.number) (items works)))) is first in
      front_works old.images was.urls ledger state most (items works) law opened.0 holds.urls opened.1
      (subst (λ (r : Rest). AreFirst (front_in r) most (map (λ (work : Work). work.number) (items works))) e these) (found files told state.urls holds.urls.urls_hold)

  whole_by : (f at : ℕ) → IsErrOf result (Damaged f at) → (files : Files) → old.files ≡ Some files → (state : State) → HoldsState old.images was state → (r : Rest) → was.rest ≡ r → ⊥
  whole_by f at is files told state holds Plain e = let ok : IsOk {T = A} {E = Fault} (Err (Damaged f at)) = subst (λ (r : Result A Fault). IsOk r) is (plain e).0 in cc
  whole_by f at is files told state holds (Crawl ledger) e =
      let opened : HoldsOpen old.images was.urls.settings (Crawl ledger) state.urls state.pairs state.events =
      subst (λ (r : Rest). HoldsOpen old.images was.urls.settings r state.urls state.pairs state.events) e holds.open_rest in
      reads.whole f at is files told state.urls holds.urls.urls_hold (legal_as was.urls.settings opened.0 state.pairs state.urls state.events holds.urls.legal).taken

  pub front_state : ReadsState result (λ works book. AreWorks (items works) book) was now old new
  front_state = record {
    value = ok_each result _ (λ works is files told state holds. works_by works is files told state holds was.rest refl);
    whole = λ f at is files told state holds. whole_by f at is files told state holds was.rest refl;
    same = urls;
    holds = λ state holds. state_same old new was now state law consistent reads.reads.stops open_rest urls rest holds;
    stops = λ state holds. stops_same old new was.urls state law holds.urls reads.reads.stops;
  }

-- ---- the counts
no_pairs : (kind : Kind) (settings : Settings) (urls pairs : Book) (events : List Happened) → (kind ≡ CrawlKind → ⊥) → IsRest kind settings urls pairs events → pairs ≡ blank_book settings.buckets Keep
no_pairs Lines settings urls pairs events plain rest = rest.pairs_are
no_pairs Tuples settings urls pairs events plain rest = rest.pairs_are
no_pairs CrawlKind settings urls pairs events plain rest = absurd (plain refl)

module _ (images : Files → Type 0) (urls : Drum) (state : State) (holds : HoldsUrls images urls state) (counts : Counts) (offers : counts.offers ≡ min (sum (durables urls)) (2 ^ 64 - 1))
    (judged : counts.judged ≡ urls.last.judged) where
  abbrev numbers : List ℕ
  numbers = map (λ (p : ℕ × Tuple). p.0) (uniques state.urls)

  pub many : length numbers ≡ urls.last.unique
  many = length-map (uniques state.urls) (λ (p : ℕ × Tuple). p.0) ∙ sym holds.urls_hold.numbers.commit.unique

  offers_are : counts.offers ≡ min (sum (lengths_of state.urls)) (2 ^ 64 - 1)
  offers_are = offers ∙ ap (λ (ns : List ℕ). min (sum ns) (2 ^ 64 - 1)) holds.urls_hold.numbers.offers

  pub plain_counts_are : (urls.settings.kind ≡ CrawlKind → ⊥) → ((queues buckets : ℕ) → CountFates counts (before_all queues buckets) numbers) → counts.pairs ≡ 0 → AreCounts urls.settings state counts
  plain_counts_are plain fates pairs = record {
    fates = subst (λ (x : Progress). CountFates counts x numbers) (sym (come_plain images urls state plain holds)) (fates urls.settings.queues urls.settings.buckets);
    offers = offers_are;
    judged = judged ∙ holds.urls_hold.numbers.commit.judged;
    pairs = pairs ∙ sym (ap (λ (book : Book). length (uniques book)) (no_pairs urls.settings.kind urls.settings state.urls state.pairs state.events plain holds.legal));
  }

  pub crawl_counts_are : IsDrum urls → urls.settings.kind ≡ CrawlKind → (ledger : Ledger) → HoldsLedger images urls.settings ledger state.urls state.pairs state.events
      → (HasAllRead ledger.frontier.progress numbers → CountFates counts ledger.frontier.progress numbers) → counts.pairs ≡ ledger.pairs.last.unique → AreCounts urls.settings state counts
  crawl_counts_are law kind ledger held fates pairs = record {
    fates = subst (λ (x : Progress). CountFates counts x numbers) held.frontier.progress_is
        (fates (subst (λ (x : Progress). HasAllRead x numbers) (sym held.frontier.progress_is) (read_state images urls state law kind holds)));
    offers = offers_are;
    judged = judged ∙ holds.urls_hold.numbers.commit.judged;
    pairs = pairs ∙ held.pairs_hold.numbers.commit.unique;
  }
