-- The rest of a crawl's state: it stays legal while the book of URLs grows, and its files have one.
use Rattle.std.proofs.Common.{◌≡◌, ◌∙◌, ℕ, zero, suc, List, [], ◌∷◌, ◌++◌, refl, sym, ap, subst, unwrap_or}
use Rattle.std.specs.List.{AllByRecursion}
use Rattle.irl_offer.specs.Tuple.{Tuple}
use Rattle.irl_offer.specs.declared.place.Place.{Place}
use Rattle.irl_offer.specs.declared.settings.Kind.TheVariants.{Crawl}
use Rattle.irl_offer.specs.declared.settings.Settings.{Settings}
use Rattle.irl_key.specs.Key.{key_of}
use Rattle.irl_model.specs.Book.{ArePrefixes, Book, IsBook, IsFront, flushed_lists}
use Rattle.irl_events.specs.Events.{Event, Begin, Pairs, Pass, Robots, Settle, Happened, Progress, progress}
use Rattle.irl_core.specs.States.{IsLegalState, IsOfBooks, begun_with, suffixes_of}
use Rattle.irl_core.proofs.StateLemmas.{Along, along-each, more_urls}
use Rattle.irl_disk.specs.Disk.{Files}
use Rattle.irl_bay.proofs.OneBook.{one_book}
use Rattle.irl_head.specs.StoreFiles.{crawl_file, pairs_base}
use Rattle.irl_log.proofs.OneLog.{one_log}
use Rattle.irl_ledger.specs.Crawling.{AreCrawlFiles, AreTaken, IsCrawlState, domain_of, events_of, pair_settings}

-- ---- it stays legal
taken_both : (xs ys : List Tuple) → AreTaken Crawl xs → AreTaken Crawl ys → AreTaken Crawl (xs ++ ys)
taken_both [] ys one two = two
taken_both (x ∷ xs) ys one two = (one.0, taken_both xs ys one.1 two)

pub taken_flushed : (b : ℕ) (news : List Tuple) (lists : List (List Tuple)) → AreTaken Crawl news → AllByRecursion (AreTaken Crawl) lists → AllByRecursion (AreTaken Crawl) (flushed_lists b news lists)
taken_flushed b news [] more all = tt
taken_flushed zero news (list ∷ lists) more all = (taken_both list news all.0 more, all.1)
taken_flushed (suc b) news (list ∷ lists) more all = (all.0, taken_flushed b news lists more all.1)

taken_first : (xs rest : List Tuple) → AreTaken Crawl (xs ++ rest) → AreTaken Crawl xs
taken_first [] rest taken = tt
taken_first (x ∷ xs) rest taken = (taken.0, taken_first xs rest taken.1)

pub taken_fronts : (lists more : List (List Tuple)) → ArePrefixes lists more → AllByRecursion (AreTaken Crawl) more → AllByRecursion (AreTaken Crawl) lists
taken_fronts [] more are taken = tt
taken_fronts (xs ∷ lists) [] are taken = absurd are
taken_fronts (xs ∷ lists) (ys ∷ more) are taken = (taken_first xs are.0.0 (subst (AreTaken Crawl) are.0.1 taken.0), taken_fronts lists more are.1 taken.1)

module _ (settings : Settings) where
  pub crawl_longer : (urls more pairs : Book) (events : List Happened) → IsBook urls → IsFront urls more → AllByRecursion (AreTaken Crawl) more.lists → IsCrawlState settings urls pairs events
      → IsCrawlState settings more pairs events
  crawl_longer urls more pairs events is front taken state = record {
    pairs_are = state.pairs_are;
    legal = more_urls domain_of key_of settings urls more pairs is front events state.legal;
    taken = taken;
  }

-- ---- its files have one
-- the places of an event are determined
one_places : (domain : List ℕ → List ℕ) (key : List ℕ → ℕ) (settings : Settings) (urls pairs : Book) (x : Progress) (event : Event) (p q : List Place)
    → IsOfBooks domain key settings urls pairs x event p → IsOfBooks domain key settings urls pairs x event q → p ≡ q
one_places domain key settings urls pairs x (Begin suffixes) p q one two = one ∙ sym two
one_places domain key settings urls pairs x (Pairs cuts judged sent) p q one two = one.1 ∙ sym two.1
one_places domain key settings urls pairs x (Pass judged) p q one two = one ∙ sym two
one_places domain key settings urls pairs x (Robots note) p q one two = one ∙ sym two
one_places domain key settings urls pairs x (Settle fronts outcomes) p q one two = one.1 ∙ sym two.1

-- what the books say of what happened
abbrev IsToldBy : (List ℕ → List ℕ) → Settings → Book → Book → List Happened → Happened → Type 0
IsToldBy domain settings urls pairs seen h = IsOfBooks domain key_of settings urls pairs (progress settings.queues settings.buckets seen) h.0 h.1

same_pair : (x y : Happened) → x.0 ≡ y.0 → x.1 ≡ y.1 → x ≡ y
same_pair x y one two = rw (one, two) refl

one_course : (domain : List ℕ → List ℕ) (settings : Settings) (urls pairs : Book) (seen xs ys : List Happened) → Along (IsToldBy domain settings urls pairs) seen xs
    → Along (IsToldBy domain settings urls pairs) seen ys → events_of xs ≡ events_of ys → xs ≡ ys
one_course domain settings urls pairs seen [] [] one two same = refl
one_course domain settings urls pairs seen [] (y ∷ ys) one two same = cc
one_course domain settings urls pairs seen (x ∷ xs) [] one two same = cc
one_course domain settings urls pairs seen (x ∷ xs) (y ∷ ys) one two same =
    let event : x.0 ≡ y.0 = cc in
    let events : events_of xs ≡ events_of ys = cc in
    let told = subst (λ (e : Event). IsOfBooks domain key_of settings urls pairs (progress settings.queues settings.buckets seen) e x.1) event one.0 in
    let here : x ≡ y = same_pair x y event (one_places domain key_of settings urls pairs (progress settings.queues settings.buckets seen) y.0 x.1 y.1 told two.0) in
    let rest : xs ≡ ys = one_course domain settings urls pairs (seen ++ y ∷ []) xs ys
    (subst (λ (h : Happened). Along (IsToldBy domain settings urls pairs) (seen ++ h ∷ []) xs) here one.1) two.1 events in
    rw (here, rest) refl

same_beginning : (xs ys : List Happened) → events_of xs ≡ events_of ys → begun_with xs ≡ begun_with ys
same_beginning [] [] same = refl
same_beginning [] (y ∷ ys) same = cc
same_beginning (x ∷ xs) [] same = cc
same_beginning (x ∷ xs) (y ∷ ys) same = let event : x.0 ≡ y.0 = cc in ap suffixes_of event

one_history : (settings : Settings) (urls pairs : Book) (xs ys : List Happened) → IsLegalState domain_of key_of settings urls pairs xs → IsLegalState domain_of key_of settings urls pairs ys
    → events_of xs ≡ events_of ys → xs ≡ ys
one_history settings urls pairs xs ys one two same =
    let domain = domain_of (unwrap_or (begun_with xs) []) in
    one_course domain settings urls pairs [] xs ys (along-each (IsToldBy domain settings urls pairs) [] xs (λ before h after is. one.each before after h.0 h.1 is))
    (along-each (IsToldBy domain settings urls pairs) [] ys (λ before h after is.
    subst (λ begun. IsToldBy (domain_of (unwrap_or begun [])) settings urls pairs before h) (sym (same_beginning xs ys same)) (two.each before after h.0 h.1 is)))
    same

pub one_crawl : (settings : Settings) (urls pairs others : Book) (events more : List Happened) (files : Files) → IsCrawlState settings urls pairs events → AreCrawlFiles settings pairs events files
    → IsCrawlState settings urls others more → AreCrawlFiles settings others more files → (pairs ≡ others) × (events ≡ more)
one_crawl settings urls pairs others events more files x has y also =
    let same : pairs ≡ others = one_book pairs_base (pair_settings settings) pairs others files has.pairs_stand also.pairs_stand in
    let log = one_log settings.buckets (files crawl_file) (events_of events) (events_of more) has.log also.log in
    (same, one_history settings urls pairs events more x.legal (subst (λ (book : Book). IsLegalState domain_of key_of settings urls book more) (sym same) y.legal) log)
