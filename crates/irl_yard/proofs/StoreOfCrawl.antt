-- What an open store of a crawl keeps of its state, one fact after another.
use Rattle.std.proofs.Common.{◌≡◌, ℕ, zero, suc, ◌<◌, inl, inr, List, [], ◌∷◌, length, get_or, Some, subst, arith}
use Rattle.std.specs.Prelude.{flat_map}
use Rattle.std.specs.List.{AllByRecursion, Contains}
use Rattle.std.proofs.lemmas.List.Elements.{Contains-append_cases}
use Rattle.irl_offer.specs.Settings.{AreValid}
use Rattle.irl_offer.specs.Tuple.{Tuple}
use Rattle.irl_offer.specs.declared.offer.Op.TheVariants.{Both}
use Rattle.irl_offer.specs.declared.settings.Kind.TheVariants.{Crawl as CrawlKind}
use Rattle.irl_offer.specs.declared.settings.Settings.{Settings}
use Rattle.irl_key.specs.Key.{key_of}
use Rattle.irl_key.specs.Links.{IsCanonicalText}
use Rattle.irl_model.specs.Book.{IsBook}
use Rattle.irl_events.specs.State.{State}
use Rattle.irl_core.specs.States.{IsLegalState, offers_of}
use Rattle.irl_disk.specs.Disk.{Files}
use Rattle.irl_bay.specs.Drum.{IsDrum}
use Rattle.irl_ledger.specs.Crawling.{AreTaken, domain_of}
use Rattle.irl_yard.specs.declared.parts.Parts.{Parts}
use Rattle.irl_yard.specs.Holding.{HoldsState}
use Rattle.irl_yard.specs.Standing.{IsStateOf}
use Rattle.irl_yard.proofs.Appended.{legal_as}

-- a crawl's store, and each offer of its URLs enters a page by its canonical text
pub record IsStoreOfCrawl (settings : Settings) (state : State) : Type 0 where
  pub settings_are : state.settings ≡ Some settings
  pub valid : AreValid settings
  -- the URLs are a book with these settings, of which nothing is dropped
  pub book : IsBook state.urls
  pub buckets : state.urls.buckets ≡ settings.buckets
  pub rule : state.urls.rule ≡ settings.rule
  pub dropped : state.urls.dropped ≡ 0
  pub both : (offer : Tuple) → Contains (offers_of state.urls) offer → offer.op ≡ Both
  pub canonical : (offer : Tuple) → Contains (offers_of state.urls) offer → IsCanonicalText offer.aux
  pub legal : IsLegalState domain_of key_of settings state.urls state.pairs state.events

-- ---- each offer
abbrev IsTaken : Tuple → Type 0
IsTaken offer = (offer.op ≡ Both) × IsCanonicalText offer.aux

taken_at : (offers : List Tuple) (offer : Tuple) (k : ℕ) → AreTaken CrawlKind offers → k < length offers → get_or offers k offer ≡ offer → IsTaken offer
taken_at [] offer k taken lt is = absurd (omega arith)
taken_at (x ∷ xs) offer zero taken lt is = subst IsTaken is taken.0
taken_at (x ∷ xs) offer (suc k) taken lt is = taken_at xs offer k taken.1 (omega arith) is

taken_in : (lists : List (List Tuple)) (offer : Tuple) → AllByRecursion (AreTaken CrawlKind) lists → Contains (flat_map (λ (list : List Tuple). list) lists) offer → IsTaken offer
taken_in [] offer taken at = let lt = at.1 in absurd (omega arith)
taken_in (list ∷ lists) offer taken at = elim (Contains-append_cases list (flat_map (λ (list : List Tuple). list) lists) offer at) [
  | inl here ↦ taken_at list offer here.0 taken.0 here.1 here.2
  | inr there ↦ taken_in lists offer taken.1 there
]

-- ---- the store
pub store_of_crawl : (settings : Settings) (state : State) → settings.kind ≡ CrawlKind → IsStateOf settings state → IsStoreOfCrawl settings state
store_of_crawl settings state kind is =
    let crawl = legal_as settings kind state.pairs state.urls state.events is.rest in
    record {
      settings_are = is.settings_are;
      valid = is.valid;
      book = is.book_is.is_book;
      buckets = is.book_is.buckets;
      rule = is.book_is.rule;
      dropped = is.book_is.dropped;
      both = λ offer at. (taken_in state.urls.lists offer crawl.taken at).0;
      canonical = λ offer at. (taken_in state.urls.lists offer crawl.taken at).1;
      legal = crawl.legal;
    }

-- one that is open, whatever its files may leave
pub held_crawl : (images : Files → Type 0) (parts : Parts) (state : State) → IsDrum parts.urls → parts.urls.settings.kind ≡ CrawlKind → HoldsState images parts state
    → IsStoreOfCrawl parts.urls.settings state
held_crawl images parts state law kind holds = store_of_crawl parts.urls.settings state kind (record {
  settings_are = holds.urls.settings;
  valid = law.settings;
  book_is = holds.urls.urls_hold.book_is;
  rest = holds.urls.legal;
})
