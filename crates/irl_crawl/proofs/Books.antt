-- What calls over the bay of URLs make of the states that an open store of a crawl held.
use Rattle.std.proofs.Common.{◌≡◌, ◌∙◌, ℕ, suc, ◌<◌, List, [], ◌∷◌, ◌++◌, length, Option, refl, sym, ap, subst, append-nil, arith}
use Rattle.std.specs.Option.{ForSome}
use Rattle.std.specs.List.{AllByRecursion}
use Rattle.irl_base.specs.Faults.{HasCause}
use Rattle.irl_bay.specs.Drum.{Drum, IsDrum}
use Rattle.irl_bay.specs.Holding.{Holds}
use Rattle.irl_bay.specs.Standing.{IsBookOf}
use Rattle.irl_disk.specs.Disk.{Files}
use Rattle.irl_disk.specs.Images.{IsConsistent, Told}
use Rattle.irl_events.specs.State.{State}
use Rattle.irl_ledger.proofs.LastSent.{prefixes_at}
use Rattle.irl_ledger.specs.Crawling.{AreTaken, MayFollow}
use Rattle.irl_model.proofs.FrontLaws.{prefix_both}
use Rattle.irl_model.specs.Book.{ArePrefixes, Book, IsFront, IsPrefixOf, part}
use Rattle.irl_offer.specs.Tuple.{Tuple}
use Rattle.irl_offer.specs.declared.settings.Kind.{Kind}
use Rattle.irl_offer.specs.declared.settings.Kind.TheVariants.{Crawl as CrawlKind}
use Rattle.irl_offer.specs.declared.settings.Settings.{Settings}
use Rattle.irl_schedule.proofs.Chains.{tells_on}
use Rattle.irl_schedule.specs.Feeding.{Fed, Grows, Keeps, Moment, Stays, Stranded, TakesWaiting, Waits, list_at, moment}
use Rattle.irl_yard.specs.declared.parts.Parts.{Parts}
use Rattle.irl_yard.specs.declared.parts.Rest.{Rest}
use Rattle.irl_yard.specs.declared.parts.Rest.TheVariants.{Plain, Crawl}
use Rattle.irl_yard.specs.Holding.{HoldsState, IsOpenRest, StaysSound}
use Rattle.irl_yard.specs.Leading.{FailsAt, LeadsTo}
use Rattle.irl_yard.specs.Lifting.{IsWithBook}
use Rattle.irl_yard.specs.Sending.{HasBegun}
use Rattle.irl_yard.specs.Standing.{with_urls}
use Rattle.irl_yard.proofs.Appended.{legal_as}
use Rattle.irl_yard.proofs.BooksLead.{books_fail, books_lead}
use Rattle.irl_ledger.specs.Crawling.{pair_settings}
use Rattle.irl_schedule.proofs.Chains.{grows_more, grows_same}
use Rattle.irl_crawl.specs.Leading.{GrowsInBatches, Leads}
use Rattle.irl_crawl.proofs.Leading.{fails_as}
use Rattle.irl_crawl.proofs.OtherFiles.{others_urls}
use Rattle.irl_crawl.proofs.Spread.{IsPage, TakesEach, pages_in, taken_each}

-- a store whose crawl has begun is one of a crawl
pub kind_begun : (urls : Drum) (rest : Rest) (told : Option Files) → IsOpenRest urls rest told → HasBegun rest → urls.settings.kind ≡ CrawlKind
kind_begun urls Plain told opened begun = absurd begun
kind_begun urls (Crawl ledger) told opened begun = (opened.1 ledger refl).0

-- ---- a longer book of URLs
-- A state is another with longer lists of URLs: each is the other's, and behind it stand some of the first of these offers
-- of its bucket. So many cuts of it may be early.
pub record AddsSome (settings : Settings) (early : ℕ) (news : List Tuple) (x y : State) : Type 0 where
  pub others : y ≡ with_urls y.urls x
  pub grows : Grows settings early x.urls y.urls
  pub front : IsFront x.urls y.urls
  pub count : length y.urls.lists ≡ settings.buckets
  pub takes : (b : ℕ) → b < settings.buckets → IsPrefixOf (list_at y.urls b) (list_at x.urls b ++ part settings.buckets b news)

pub takes_each : (settings : Settings) (early : ℕ) (news : List Tuple) (x y : State) → AddsSome settings early news x y
    → TakesEach (λ b. part settings.buckets b news) x.urls.lists y.urls.lists
takes_each settings early news x y adds b within = adds.takes b (subst (λ (n : ℕ). b < n) adds.count within)

-- and the book of pairs stays
pub adds_grown : (settings : Settings) (early : ℕ) (news : List Tuple) (x y : State) → AddsSome settings early news x y → GrowsInBatches settings early x y
adds_grown settings early news x y adds = record {
  urls = adds.grows;
  pairs = subst (λ (b : Book). Grows (pair_settings settings) early x.pairs b) (sym (ap (λ (s : State). s.pairs) adds.others))
      (grows_more (pair_settings settings) 0 early x.pairs x.pairs (omega arith) (grows_same (pair_settings settings) x.pairs));
}

takes_kept : (settings : Settings) (x y : Book) (waits later : Waits) (news : List Tuple) → Keeps settings x waits y later news → TakesWaiting settings x waits y news
takes_kept settings x y waits later news keeps b within = (later b, sym (keeps b within))

module _ (settings : Settings) (early : ℕ) (news : List Tuple) (x : State) (waits : Waits) (none : (b : ℕ) → waits b ≡ []) where
  adds_of : (book : Book) → IsBookOf settings book → Grows settings early x.urls book → TakesWaiting settings x.urls waits book news → AddsSome settings early news x (with_urls book x)
  adds_of book is grows takes = record {
    others = refl;
    grows = grows;
    front = grows.front;
    count = is.is_book.lists ∙ is.buckets;
    takes = λ b within.
        let same : list_at x.urls b ++ waits b ≡ list_at x.urls b = ap (λ (l : List Tuple). list_at x.urls b ++ l) (none b) ∙ append-nil (list_at x.urls b) in
        subst (λ (l : List Tuple). IsPrefixOf (list_at book b) (l ++ part settings.buckets b news)) same (takes b within);
  }

-- and so is one with a book before such a one
lists_same : (xs ys : List (List Tuple)) → ArePrefixes xs ys → length xs ≡ length ys
lists_same [] [] front = refl
lists_same [] (y ∷ ys) front = absurd front
lists_same (x ∷ xs) [] front = absurd front
lists_same (x ∷ xs) (y ∷ ys) front = ap suc (lists_same xs ys front.1)

adds_before : (settings : Settings) (early : ℕ) (news : List Tuple) (x : State) (book most : Book) → Grows settings early x.urls book → IsFront book most
    → AddsSome settings early news x (with_urls most x) → AddsSome settings early news x (with_urls book x)
adds_before settings early news x book most grows front adds =
    let count : length book.lists ≡ settings.buckets = lists_same book.lists most.lists front.lists ∙ adds.count in
    record {
      others = refl;
      grows = grows;
      front = grows.front;
      count = count;
      takes = λ b within.
          prefix_both (list_at book b) (list_at most b) (list_at x.urls b ++ part settings.buckets b news)
          (prefixes_at book.lists most.lists b front.lists (omega (arith, within, count))) (adds.takes b within);
    }

-- ---- from one moment to a later one
-- Nothing waited at the first, and these offers of pages were handed in since.
module _ (early : ℕ) (uneven : ℕ → ℕ) (news : List Tuple) (was now : Parts) (s t : Told) (waits later : Waits) (none : (b : ℕ) → waits b ≡ []) (opened : IsOpenRest was.urls was.rest s.files)
    (law : IsDrum was.urls) (consistent : IsConsistent t) (begun : HasBegun was.rest) (pages : AllByRecursion IsPage news) (still : Stays (moment s was.urls waits) (moment t now.urls later))
    (rest : now.rest ≡ was.rest) where
  abbrev old : Moment
  old = moment s was.urls waits

  abbrev new : Moment
  new = moment t now.urls later

  kind : was.urls.settings.kind ≡ CrawlKind
  kind = kind_begun was.urls was.rest s.files opened begun

  follows : (x : State) (book : Book) → HoldsState s.images was x → AddsSome was.urls.settings early news x (with_urls book x) → MayFollow was.urls.settings.kind x.urls book
  follows x book held adds =
      let taken : AllByRecursion (AreTaken CrawlKind) x.urls.lists = (legal_as was.urls.settings kind x.pairs x.urls x.events held.urls.legal).taken in
      subst (λ (k : Kind). MayFollow k x.urls book) (sym kind) (
        adds.front,
        taken_each (λ b. part was.urls.settings.buckets b news) x.urls.lists book.lists adds.front.lists taken (λ b. pages_in was.urls.settings.buckets b news pages)
            (takes_each was.urls.settings early news x (with_urls book x) adds),
      )

  pub adds_fed : (x : State) (fed : Fed early uneven news old new x.urls) → AddsSome was.urls.settings early news x (with_urls fed.book x)
  adds_fed x fed =
      adds_of was.urls.settings early news x waits none fed.book (subst (λ (p : Settings). IsBookOf p fed.book) still.settings fed.holds.book_is) fed.grows
      (takes_kept was.urls.settings x.urls fed.book waits later news fed.keeps)

  leads_fed : (x : State) → HoldsState s.images was x → (fed : Fed early uneven news old new x.urls) → LeadsTo x (with_urls fed.book x) now s t
  leads_fed x held fed = books_lead old new was now x early uneven news refl refl opened law consistent held still rest fed (follows x fed.book held (adds_fed x fed))

  fails_stranded : (may : State → Type 0) (x : State) → HoldsState s.images was x → Stranded early uneven news old new x.urls → ((y : State) → AddsSome was.urls.settings early news x y → may y)
      → FailsAt may x s t
  fails_stranded may x held stranded is =
      let most = adds_of was.urls.settings early news x waits none stranded.most stranded.legal stranded.may_grow stranded.takes in
      let kept = adds_of was.urls.settings early news x waits none stranded.kept stranded.kept_legal stranded.kept_grows
      (takes_kept was.urls.settings x.urls stranded.kept waits later news stranded.keeps) in
      let state = adds_before was.urls.settings early news x stranded.book stranded.most stranded.grows stranded.front most in
      let fails = books_fail old new x early uneven news law consistent held.urls still stranded (follows x stranded.most held most) in
      fails_as (IsWithBook was.urls.settings.kind x) may x s t fails.0 (subst may (sym fails.1) (is (with_urls stranded.kept x) kept)) (subst may (sym fails.2) (is (with_urls stranded.book x) state))
      (subst may (sym fails.3) (is (with_urls stranded.most x) most))

  -- The states that were held are led to those with the books that the bay then holds.
  pub lifts : (failed : Type 0) (may did : State → State → Type 0) → StaysSound failed now → HasCause failed s.faults t.faults
      → ((failed → ⊥) → ForSome s.files (λ _. (x : State) → HoldsState s.images was x → (fed : Fed early uneven news old new x.urls) × did x (with_urls fed.book x)))
      → (failed → ForSome s.files (λ _. (x : Book) → Holds s.images was.urls x → Stranded early uneven news old new x))
      → ((x y : State) → HoldsState s.images was x → AddsSome was.urls.settings early news x y → may x y) → Leads failed may did was now s t
  lifts failed may did goes_on cause gives breaks is = record {
    leads = λ not files told x held.
        let has = gives not files told x held in
        (with_urls has.0.book x, has.1, leads_fed x held has.0);
    fails = λ failure files told x held. fails_stranded (may x) x held (breaks failure files told x.urls held.urls.urls_hold) (λ y adds. is x y held adds);
    told = λ files told. tells_on _ s.files t.files files still.others told;
    settings = still.settings;
    goes_on = goes_on;
    cause = cause;
    others = others_urls was now s t consistent still.base still.others still.others_stop;
  }
