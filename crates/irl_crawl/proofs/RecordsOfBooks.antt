-- What calls over the bay of URLs add to the cuts and to the records, where a crawl has begun.
use Rattle.std.proofs.Common.{◌≡◌, ◌∙◌, ◌⊎◌, ⊎_elim, ℕ, ◌<◌, ◌≤◌, List, [], ◌++◌, length, Some, refl, sym, ap, subst, append-nil, arith}
use Rattle.std.specs.Option.{ForSome}
use Rattle.std.specs.List.{AllByRecursion}
use Rattle.irl_offer.specs.Tuple.{Tuple}
use Rattle.irl_offer.specs.declared.settings.Kind.{Kind}
use Rattle.irl_offer.specs.declared.settings.Kind.TheVariants.{Crawl as CrawlKind}
use Rattle.irl_offer.specs.declared.settings.Settings.{Settings}
use Rattle.irl_model.specs.Book.{Book, IsFront, IsPrefixOf, part}
use Rattle.irl_disk.specs.Disk.{Files, ChangesOnly}
use Rattle.irl_disk.specs.Images.{IsConsistent, Told, Follows, Leaves}
use Rattle.irl_events.specs.State.{State}
use Rattle.irl_head.specs.StoreFiles.{pairs_base, urls_base}
use Rattle.irl_layout.specs.BayFiles.{IsFileOf}
use Rattle.irl_layout.specs.Commits.{HasLiveRecords}
use Rattle.irl_bay.specs.Drum.{IsDrum}
use Rattle.irl_bay.specs.Holding.{Holds}
use Rattle.irl_bay.specs.Standing.{IsBookOf}
use Rattle.irl_schedule.proofs.Between.{grows_between}
use Rattle.irl_schedule.proofs.Chains.{grows_same, tells_on}
use Rattle.irl_schedule.specs.Feeding.{Fed, Grows, HasBetween, Moment, Stays, Stranded, TakesWaiting, Waits, list_at, moment}
use Rattle.irl_schedule.specs.Schedule.{AddsUneven, HaveRecords, LeavesUneven}
use Rattle.irl_ledger.specs.Crawling.{AreTaken, MayFollow, pair_settings}
use Rattle.irl_ledger.specs.declared.ledger.Ledger.{Ledger}
use Rattle.irl_yard.specs.declared.parts.Parts.{Parts}
use Rattle.irl_yard.specs.declared.parts.Rest.TheVariants.{Crawl}
use Rattle.irl_yard.specs.Holding.{HoldsState, IsOpenRest}
use Rattle.irl_yard.specs.Lifting.{HasStateBetween, LiftsBooks}
use Rattle.irl_yard.specs.Sending.{HasBegun}
use Rattle.irl_yard.specs.Standing.{with_urls}
use Rattle.irl_yard.proofs.Appended.{legal_as}
use Rattle.irl_yard.proofs.Beside.{open_after}
use Rattle.irl_yard.proofs.ByKind.{follows_same}
use Rattle.irl_yard.proofs.Lifting.{fronts_lifted, lifts_books}
use Rattle.irl_crawl.proofs.Spread.{IsPage, pages_in, taken_each}
use Rattle.irl_crawl.proofs.Records.{HasBays, bays, held_one, kind_open, leaves_three, live_as, live_stay, one_ledger, open_stay, pairs_of, urls_no_pairs}
use Rattle.irl_crawl.proofs.RecordsThen.{HoldsOn}
use Rattle.irl_crawl.specs.Batches.{Batches, ComeInBatches, HasBatched, HaveBoth, Records, Spare, turns_since}

-- Nothing waited at the first moment, and these offers of pages were handed in since: so many cuts are early, and of each
-- bucket's records at most so many are uneven.
module _ (early desks : ℕ) (uneven : ℕ → ℕ) (few : (b : ℕ) → uneven b ≤ desks) (news : List Tuple) (was now : Parts) (s t : Told) (waits later : Waits) (none : (b : ℕ) → waits b ≡ [])
    (opened : IsOpenRest was.urls was.rest s.files) (law : IsDrum was.urls) (law_now : IsDrum now.urls) (consistent : IsConsistent t) (begun : HasBegun was.rest) (pages : AllByRecursion IsPage news)
    (still : Stays (moment s was.urls waits) (moment t now.urls later)) (rest : now.rest ≡ was.rest) where
  abbrev old : Moment
  old = moment s was.urls waits

  abbrev new : Moment
  new = moment t now.urls later

  abbrev settings : Settings
  settings = was.urls.settings

  abbrev among : ℕ → Type 0
  among = IsFileOf was.urls.base was.urls.settings.buckets

  abbrev pub spare : ℕ → Spare
  spare n = record { desks = desks; merges = early; sends = 0 }

  -- ---- the books
  kind : settings.kind ≡ CrawlKind
  kind = kind_open was.urls was.rest s.files opened begun

  taken : (x : State) (book : Book) → IsFront x.urls book → IsBookOf settings book → TakesWaiting settings x.urls waits book news → (b : ℕ) → b < length book.lists
      → IsPrefixOf (list_at book b) (list_at x.urls b ++ part settings.buckets b news)
  taken x book front is takes b within =
      let same : list_at x.urls b ++ waits b ≡ list_at x.urls b = ap (λ (l : List Tuple). list_at x.urls b ++ l) (none b) ∙ append-nil (list_at x.urls b) in
      subst (λ (l : List Tuple). IsPrefixOf (list_at book b) (l ++ part settings.buckets b news)) same (takes b (subst (λ (n : ℕ). b < n) (is.is_book.lists ∙ is.buckets) within))

  follows : (x : State) (book : Book) → HoldsState s.images was x → IsFront x.urls book → IsBookOf settings book → TakesWaiting settings x.urls waits book news → MayFollow settings.kind x.urls book
  follows x book held front is takes =
      let had : AllByRecursion (AreTaken CrawlKind) x.urls.lists = (legal_as settings kind x.pairs x.urls x.events held.urls.legal).taken in
      subst (λ (k : Kind). MayFollow k x.urls book) (sym kind)
      (front, taken_each (λ b. part settings.buckets b news) x.urls.lists book.lists front.lists had (λ b. pages_in settings.buckets b news pages) (taken x book front is takes))

  follows_fed : (x : State) → HoldsState s.images was x → (fed : Fed early uneven news old new x.urls) → MayFollow settings.kind x.urls fed.book
  follows_fed x held fed =
      follows x fed.book held fed.grows.front (subst (λ (p : Settings). IsBookOf p fed.book) still.settings fed.holds.book_is) (λ b within. (later b, sym (fed.keeps b within)))

  lifted : (x : State) → HoldsState s.images was x → LiftsBooks x old new
  lifted x held = lifts_books x old new consistent law held.urls still

  -- ---- the states
  leads_fed : (x : State) → HoldsState s.images was x → (fed : Fed early uneven news old new x.urls) → HoldsState t.images now (with_urls fed.book x)
  leads_fed x held fed =
      let may = follows_fed x held fed in
      record {
        urls = (lifted x held).holds fed.book may fed.holds;
        open_rest = open_after old new was.rest now.rest x.urls fed.book x.pairs x.events law consistent still opened rest held.urls.urls_hold.book_is.is_book may held.open_rest;
      }

  told_on : (files : Files) → s.files ≡ Some files → (after : Files) × (t.files ≡ Some after)
  told_on files told = tells_on _ s.files t.files files still.others told

  pub books_on : (failed : Type 0) → ((failed → ⊥) → ForSome s.files (λ _. (x : Book) → Holds s.images was.urls x → Fed early uneven news old new x)) → HoldsOn failed was now s t
  books_on failed fed = record {
    held = λ not files told x held.
        let gives = fed not files told x.urls held.urls.urls_hold in
        (with_urls gives.book x, leads_fed x held gives, fronts_lifted x x.urls gives.book gives.grows.front);
    told = told_on;
    settings = still.settings;
  }

  -- ---- cuts and records
  come : (x : State) (book : Book) (records : Records) (urls : ℕ → List (List ℕ)) → Grows settings early x.urls book → AddsUneven uneven settings.buckets settings.array records.urls urls
      → ComeInBatches settings (spare (turns_since x (with_urls book x))) x (with_urls book x) records (record { urls = urls; pairs = records.pairs })
  come x book records urls grows adds = record {
    front = fronts_lifted x x.urls book grows.front;
    urls = grows;
    pairs = grows_same (pair_settings settings) x.pairs;
    records = record {
      urls = λ b within. let one = adds b within in omega (arith, one, few b);
      pairs = λ b within. omega arith;
    };
  }

  -- the bay of pairs stays, as a stop leaves it
  pairs_left : (x : State) (has : HasBays s.images was x) (records : Records) (image : Files) → HaveBoth s.images was records → Follows (ChangesOnly among) s.images image
      → (b : ℕ) → b < settings.buckets → HasLiveRecords pairs_base settings.buckets b (records.pairs b) image
  pairs_left x has records image have from =
      live_as has.ledger.pairs pairs_base settings.buckets records.pairs image has.pairs_base_is (ap (λ (p : Settings). p.buckets) has.settings)
      (live_stay among s.images has.ledger.pairs x.pairs has.pairs_law has.pairs (urls_no_pairs s.images was x has) records.pairs image (have.pairs has.ledger has.is) from)

  -- A stop left a book between the first and this one, and records with few uneven ones more.
  left_by : (x : State) (most : Book) (records : Records) → HoldsState s.images was x → HaveBoth s.images was records → MayFollow settings.kind x.urls most → Grows settings early x.urls most
      → Leaves s t (HasBetween was.urls.base settings x.urls most) → Leaves s t (LeavesUneven uneven was.urls records.urls) → Leaves s t (HasBatched settings spare x records)
  left_by x most records held have may grows stops uneven_stops =
      let has = bays s.images was s.files x law opened begun held in
      let kept = follows_same settings x.pairs x.events settings.kind x.urls held.urls.legal in
      leaves_three s t (Follows (ChangesOnly among) s.images) (HasStateBetween settings x x.urls most) (LeavesUneven uneven was.urls records.urls) (HasBatched settings spare x records)
      still.others_stop ((lifted x held).stops x.urls most kept may stops) uneven_stops
      (λ image from z urls. record {
        state = with_urls z.0 x;
        has = z.1;
        records = record { urls = urls.0; pairs = records.pairs };
        live = record {
          urls = live_as was.urls urls_base settings.buckets urls.0 image has.base refl urls.1;
          pairs = pairs_left x has records image have from;
        };
        come = come x z.0 records urls.0 (grows_between settings early x.urls z.0 most z.2 z.3 z.4 grows) urls.2;
      })

  left_fed : (x : State) (records : Records) → HoldsState s.images was x → HaveBoth s.images was records → Fed early uneven news old new x.urls → Leaves s t (HasBatched settings spare x records)
  left_fed x records held have fed = left_by x fed.book records held have (follows_fed x held fed) fed.grows fed.stops (fed.records_stop records.urls have.urls)

  left_stranded : (x : State) (records : Records) → HoldsState s.images was x → HaveBoth s.images was records → Stranded early uneven news old new x.urls
      → Leaves s t (HasBatched settings spare x records)
  left_stranded x records held have stranded =
      left_by x stranded.most records held have (follows x stranded.most held stranded.may_grow.front stranded.legal stranded.takes) stranded.may_grow stranded.stops
      (stranded.records_stop records.urls have.urls)

  -- the bay of pairs stays open
  pairs_kept : (x y : State) (has : HasBays s.images was x) (records : Records) (files : Files) → HoldsState t.images now y → t.files ≡ Some files → HaveBoth s.images was records
      → (ledger : Ledger) → now.rest ≡ Crawl ledger → HaveRecords t.images ledger.pairs records.pairs
  pairs_kept x y has records files last told have ledger is =
      let same : has.ledger ≡ ledger = one_ledger now.rest has.ledger ledger (rest ∙ has.is) is in
      let drum = has.ledger.pairs in
      let holds : Holds t.images drum y.pairs = pairs_of t.images now.urls.settings now.rest y.urls y.pairs y.events has.ledger (rest ∙ has.is) last.open_rest in
      subst (λ (l : Ledger). HaveRecords t.images l.pairs records.pairs) same
      (open_stay among s t drum drum x.pairs y.pairs files records.pairs has.pairs_law has.pairs_law consistent (urls_no_pairs s.images was x has) still.others_stop refl refl has.pairs holds told
      (have.pairs has.ledger has.is))

  kept_fed : (files : Files) → s.files ≡ Some files → (x y : State) (records : Records) → HoldsState s.images was x → HoldsState t.images now y → HaveBoth s.images was records
      → Fed early uneven news old new x.urls → (after : Records) × HaveBoth t.images now after × ComeInBatches settings (spare (turns_since x y)) x y records after
  kept_fed files told x y records held last have fed =
      let has = bays s.images was s.files x law opened begun held in
      let after = told_on files told in
      let urls = fed.records records.urls have.urls in
      let news : Records = record { urls = urls.0; pairs = records.pairs } in
      let same : with_urls fed.book x ≡ y = held_one t now (with_urls fed.book x) y after.0 consistent law_now after.1 (leads_fed x held fed).urls last.urls in (
        news,
        record { urls = urls.1; pairs = pairs_kept x y has records after.0 last after.1 have },
        subst (λ (z : State). ComeInBatches settings (spare (turns_since x z)) x z records news) same (come x fed.book records urls.0 fed.grows urls.2),
      )

  -- What came of it, by whether the store failed.
  pub books_batch : (failed : Type 0) → ((failed → ⊥) → ForSome s.files (λ _. (x : Book) → Holds s.images was.urls x → Fed early uneven news old new x))
      → ForSome s.files (λ _. (x : Book) → Holds s.images was.urls x → Fed early uneven news old new x ⊎ Stranded early uneven news old new x) → Batches failed spare spare was now s t
  books_batch failed fed either = record {
    keeps = λ not files told x y records held last have. kept_fed files told x y records held last have (fed not files told x.urls held.urls.urls_hold);
    stops = λ files told x records held have.
        ⊎_elim (λ one. left_fed x records held have one) (λ other. left_stranded x records held have other) (either files told x.urls held.urls.urls_hold);
  }
