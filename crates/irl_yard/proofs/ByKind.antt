-- What goes by the kind of a store.
use Rattle.std.proofs.Common.{◌≡◌, ◌≢◌, ◌∙◌, inl, ℕ, zero, suc, ◌≤◌, List, [], ◌∷◌, ◌++◌, length, replicate, refl, sym, subst}
use Rattle.std.specs.List.{flat_map, AllByRecursion}
use Rattle.irl_offer.specs.Settings.{AreValid}
use Rattle.irl_offer.specs.declared.place.Place.{Place}
use Rattle.irl_offer.specs.Tuple.{Tuple}
use Rattle.irl_offer.specs.declared.offer.Rule.TheVariants.{Keep}
use Rattle.irl_offer.specs.declared.settings.Asked.{Asked}
use Rattle.irl_offer.specs.declared.settings.Kind.{Kind}
use Rattle.irl_offer.specs.declared.settings.Kind.TheVariants.{Lines, Tuples, Crawl}
use Rattle.irl_offer.specs.declared.settings.Settings.{Settings}
use Rattle.irl_model.specs.Book.{Book, IsBook, IsFront, blank_book, flushed, merged}
use Rattle.irl_model.proofs.FrontLaws.{flushed_front, front_both, front_same, merged_front}
use Rattle.irl_events.specs.Events.{Event, Happened}
use Rattle.irl_disk.specs.Disk.{Files}
use Rattle.irl_layout.specs.BayFiles.{IsFileOf}
use Rattle.irl_bay.proofs.Apart.{stands_apart, unmade_stands}
use Rattle.irl_bay.proofs.Blank.{blank_is_book}
use Rattle.irl_head.specs.StoreFiles.{crawl_file, pairs_base}
use Rattle.irl_head.specs.Asking.{Agrees}
use Rattle.irl_head.specs.Head.{kind_number}
use Rattle.irl_log.specs.Log.{HasEvents}
use Rattle.irl_ledger.specs.Crawling.{AreCrawlFiles, AreTaken, IsCrawlState, MayFollow, events_of, pair_settings}
use Rattle.irl_ledger.proofs.Making.{pair_valid}
use Rattle.irl_yard.specs.Standing.{ArePlainFiles, HasRest, IsRest}
use Rattle.irl_yard.proofs.Crawling.{crawl_longer, one_crawl, taken_flushed, taken_fronts}

-- the files beside the head and the bay of URLs are as they were
abbrev pub IsSameBeside : ℕ → Files → Files → Type 0
IsSameBeside buckets old new = (new crawl_file ≡ old crawl_file) × ((f : ℕ) → IsFileOf pairs_base buckets f → new f ≡ old f)

plain_stays : (buckets : ℕ) (old new : Files) → IsSameBeside buckets old new → ArePlainFiles buckets old → ArePlainFiles buckets new
plain_stays buckets old new same are = record {
  crawl = subst (λ (file : List ℕ). length file ≤ 1) (sym same.0) are.crawl;
  pairs = λ f is. subst (λ (file : List ℕ). length file ≤ 1) (sym (same.1 f is)) (are.pairs f is);
}

crawl_stays : (settings : Settings) (pairs : Book) (events : List Happened) (old new : Files) → IsSameBeside settings.buckets old new → AreCrawlFiles settings pairs events old
    → AreCrawlFiles settings pairs events new
crawl_stays settings pairs events old new same are = record {
  pairs_stand = stands_apart pairs_base (pair_settings settings) pairs old new same.1 are.pairs_stand;
  log = subst (λ (file : List ℕ). HasEvents settings.buckets file (events_of events)) (sym same.0) are.log;
}

-- ---- what is asked
one_kind : (x y : Kind) → kind_number x ≡ kind_number y → x ≡ y
one_kind Lines Lines same = refl
one_kind Lines Tuples same = cc
one_kind Lines Crawl same = cc
one_kind Tuples Lines same = cc
one_kind Tuples Tuples same = refl
one_kind Tuples Crawl same = cc
one_kind Crawl Lines same = cc
one_kind Crawl Tuples same = cc
one_kind Crawl Crawl same = refl

-- settings that agree with what is asked are of its kind
pub agrees_plain : (asked : Asked) (settings : Settings) → Agrees asked settings → asked.kind ≢ Crawl → settings.kind ≢ Crawl
agrees_plain asked settings agrees plain is = plain (one_kind asked.kind settings.kind (agrees 0 (kind_number asked.kind) (kind_number settings.kind) refl refl) ∙ is)

-- so a crawl was asked for where one was made
pub agrees_crawl : (asked : Asked) (settings : Settings) → Agrees asked settings → settings.kind ≡ Crawl → asked.kind ≡ Crawl
agrees_crawl asked settings agrees kind = one_kind asked.kind settings.kind (agrees 0 (kind_number asked.kind) (kind_number settings.kind) refl refl) ∙ kind

-- ---- a new store's
no_lists : (count : ℕ) → flat_map (λ (list : List Tuple). list) (replicate count []) ≡ []
no_lists zero = refl
no_lists (suc count) = no_lists count

none_taken : (count : ℕ) → AllByRecursion (AreTaken Crawl) (replicate count [])
none_taken zero = tt
none_taken (suc count) = (tt, none_taken count)

-- a crawl without a pair and without an event
new_crawl : (settings : Settings) → AreValid settings → IsCrawlState settings (blank_book settings.buckets settings.rule) (blank_book settings.buckets Keep) []
new_crawl settings valid = record {
  pairs_are = record { is_book = blank_is_book settings.buckets Keep valid.buckets; buckets = refl; rule = refl; dropped = refl };
  legal = record { rules = tt; each = λ before after event places is. none before after event places is; links = no_lists settings.buckets };
  taken = none_taken settings.buckets;
}
  where
    none : {P : Type 0} (before after : List Happened) (event : Event) (places : List Place) → [] ≡ before ++ (event, places) ∷ after → P
    none [] after event places is = cc
    none (h ∷ before) after event places is = cc

pub new_rest : (kind : Kind) (settings : Settings) → AreValid settings → IsRest kind settings (blank_book settings.buckets settings.rule) (blank_book settings.buckets Keep) []
new_rest Lines settings valid = record { pairs_are = refl; events_are = refl }
new_rest Tuples settings valid = record { pairs_are = refl; events_are = refl }
new_rest Crawl settings valid = new_crawl settings valid

pub new_has : (kind : Kind) (settings : Settings) (files : Files) → AreValid settings → ArePlainFiles settings.buckets files
    → HasRest kind settings (blank_book settings.buckets Keep) [] files
new_has Lines settings files valid are = are
new_has Tuples settings files valid are = are
new_has Crawl settings files valid are = record {
  pairs_stand = unmade_stands pairs_base (pair_settings settings) files (pair_valid settings valid) are.pairs;
  log = record { each = tt; records = inl (are.crawl, refl) };
}

-- ---- the rest of one state
module _ (settings : Settings) (pairs : Book) (events : List Happened) where
  -- its files have it where they stay
  pub rest_stays : (kind : Kind) (old new : Files) → IsSameBeside settings.buckets old new → HasRest kind settings pairs events old → HasRest kind settings pairs events new
  rest_stays Lines old new same rest = plain_stays settings.buckets old new same rest
  rest_stays Tuples old new same rest = plain_stays settings.buckets old new same rest
  rest_stays Crawl old new same rest = crawl_stays settings pairs events old new same rest

  -- a book of URLs that may follow keeps it legal
  pub rest_follows : (kind : Kind) (urls more : Book) → IsBook urls → MayFollow kind urls more → IsRest kind settings urls pairs events → IsRest kind settings more pairs events
  rest_follows Lines urls more is follows rest = rest
  rest_follows Tuples urls more is follows rest = rest
  rest_follows Crawl urls more is follows rest = crawl_longer settings urls more pairs events is follows.0 follows.1 rest

  -- it may follow itself, and so may what a flush of offers that are taken makes of it, and a merge
  pub follows_same : (kind : Kind) (urls : Book) → IsRest kind settings urls pairs events → MayFollow kind urls urls
  follows_same Lines urls rest = tt
  follows_same Tuples urls rest = tt
  follows_same Crawl urls rest = (front_same urls, rest.taken)

  pub follows_flushed : (kind : Kind) (b : ℕ) (news : List Tuple) (urls : Book) → AreTaken kind news → IsRest kind settings urls pairs events → MayFollow kind urls (flushed b news urls)
  follows_flushed Lines b news urls taken rest = tt
  follows_flushed Tuples b news urls taken rest = tt
  follows_flushed Crawl b news urls taken rest = (flushed_front b news urls, taken_flushed b news urls.lists taken rest.taken)

  pub follows_merged : (kind : Kind) (urls : Book) → IsRest kind settings urls pairs events → MayFollow kind urls (merged urls)
  follows_merged Lines urls rest = tt
  follows_merged Tuples urls rest = tt
  follows_merged Crawl urls rest = (merged_front urls, rest.taken)

-- any book may follow in a store of lines or of tuples
pub plain_follows : (kind : Kind) (urls more : Book) → kind ≢ Crawl → MayFollow kind urls more
plain_follows Lines urls more plain = tt
plain_follows Tuples urls more plain = tt
plain_follows Crawl urls more plain = absurd (plain refl)

-- and one between two that may
pub follows_between : (kind : Kind) (urls x z y : Book) → MayFollow kind urls x → MayFollow kind urls y → IsFront x z → IsFront z y → MayFollow kind urls z
follows_between Lines urls x z y one other below above = tt
follows_between Tuples urls x z y one other below above = tt
follows_between Crawl urls x z y one other below above = (front_both urls x z one.0 below, taken_fronts z.lists y.lists above.lists other.1)

-- files have one
pub one_rest : (kind : Kind) (settings : Settings) (urls pairs others : Book) (events more : List Happened) (files : Files)
    → IsRest kind settings urls pairs events → HasRest kind settings pairs events files → IsRest kind settings urls others more → HasRest kind settings others more files
    → (pairs ≡ others) × (events ≡ more)
one_rest Lines settings urls pairs others events more files x has y also = (x.pairs_are ∙ sym y.pairs_are, x.events_are ∙ sym y.events_are)
one_rest Tuples settings urls pairs others events more files x has y also = (x.pairs_are ∙ sym y.pairs_are, x.events_are ∙ sym y.events_are)
one_rest Crawl settings urls pairs others events more files x has y also = one_crawl settings urls pairs others events more files x has y also
