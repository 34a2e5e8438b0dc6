-- What loading the fronts makes of an open store and of the fronts, by the answer.
use Rattle.std.proofs.Common.{◌≡◌, ◌∙◌, ℕ, List, [], ◌∷◌, ◌++◌, map, length, Result, Ok, Err, refl, sym, subst}
use Rattle.std.specs.List.{All, AllByRecursion}
use Rattle.std.specs.List.Sorted.{IsPermutation}
use Rattle.std.specs.Option.{ForSome}
use Rattle.std.specs.Prelude.{IsErrOf}
use Rattle.std.proofs.lemmas.List.Elements.{All-from_recursion, recursion_from_All}
use Rattle.std.proofs.lemmas.List.Sorted.{All-permutation, IsPermutation-map, IsPermutation-sym}
use Rattle.irl_base.specs.declared.fault.Fault.{Fault}
use Rattle.irl_base.specs.declared.fault.Fault.TheVariants.{Failed}
use Rattle.irl_bay.specs.Drum.{IsDrum}
use Rattle.irl_disk.specs.Images.{Told, IsConsistent}
use Rattle.irl_events.specs.State.{State}
use Rattle.irl_fate.specs.Fronts.{AreFirst}
use Rattle.irl_fetch.proofs.Results.{refused_ok}
use Rattle.irl_key.specs.declared.web.Work.{Work}
use Rattle.irl_model.specs.Book.{Book}
use Rattle.irl_offer.specs.declared.settings.Settings.{Settings}
use Rattle.irl_polite.specs.Schedule.{Schedule}
use Rattle.irl_yard.specs.Holding.{HoldsState}
use Rattle.irl_yard.specs.Passing.{AreWorks}
use Rattle.irl_yard.specs.declared.parts.Parts.{Parts}
use Rattle.irl_crawl.specs.Dealing.{HaveNotesIn, HaveTaken, OnlyLooks, ServesOn, dealt}
use Rattle.irl_crawl.specs.Leading.{Leads}
use Rattle.irl_crawl.specs.Loading.{AreNext, Loads}
use Rattle.irl_crawl.specs.Serving.{AreServed, IsServedAt}
use Rattle.irl_crawl.specs.Workers.{AreFor, AreReady, loaded}
use Rattle.irl_crawl.specs.declared.dealing.Share.{Share}
use Rattle.irl_crawl.specs.declared.hosts.Hosts.{Hosts}
use Rattle.irl_crawl.proofs.Looking.{looks_ground, looks_lead}
use Rattle.irl_crawl.proofs.Shares.{IsEmpty, dealt_none, notes_none, served_none}
use Rattle.irl_crawl.proofs.Taking.{taken_each, taken_items, taken_noted, taken_ready}

-- ---- refused
pub load_refused : (result : Result Unit Fault) (fault : Fault) (settings : Settings) (agent : List ℕ) (olds news : List Schedule) (was now : Parts) (before after : Told) → IsConsistent after
    → IsDrum was.urls → result ≡ Err fault
    → OnlyLooks result was now before after → Leads (IsErrOf result Failed) (λ x y. y ≡ x) (Loads result settings agent olds news) was now before after
load_refused result fault settings agent olds news was now before after law drum is looks =
    looks_lead result (Loads result settings agent olds news) was now before after law drum looks (λ no files told x holds. record {
      same = refl;
      texts = refused_ok _ result fault is;
      known = refused_ok _ result fault is;
      ground = looks_ground result was now before after files x told holds looks;
    })

-- ---- one by one
abbrev IsWork : Book → Work → Type 0
IsWork urls work = AreWorks (work ∷ []) urls

each_work : (urls : Book) (works : List Work) → AreWorks works urls → AllByRecursion (IsWork urls) works
each_work urls [] are = tt
each_work urls (work ∷ works) are = ((are.0, tt), each_work urls works are.1)

all_works : (urls : Book) (works : List Work) → AllByRecursion (IsWork urls) works → AreWorks works urls
all_works urls [] are = tt
all_works urls (work ∷ works) are = (are.0.0, all_works urls works are.1)

-- ---- loaded
abbrev pub done : Result Unit Fault
done = Ok tt

-- the works of the front were dealt into empty shares, and the fronts took these
module _ (works : List Work) (empty shares : List Share) (olds news : List Schedule) (none : All IsEmpty empty) (moved : IsPermutation (dealt shares) (dealt empty ++ works))
    (taken : HaveTaken shares olds news)
    (count : length shares ≡ length olds) where
  they_are : IsPermutation (loaded news) works
  they_are =
      subst (λ l. IsPermutation l works) (sym (taken_items shares olds news taken count))
      (subst (λ l. IsPermutation (dealt shares) (l ++ works)) (dealt_none empty none) moved)

  pub next_are : (front : List ℕ) (most : ℕ) → AreFirst front most (map (λ (work : Work). work.number) works) → AreNext front most news
  next_are front most first = record { numbers = map (λ (work : Work). work.number) works; first = first; each = IsPermutation-map (λ (work : Work). work.number) (loaded news) works they_are }

  pub all_ready : AreReady news
  all_ready = taken_ready shares olds news taken count

  pub all_served : (was now : Hosts) (workers : ℕ) → ServesOn (Ok tt) workers was now empty shares → AreServed now workers news
  all_served was now workers serves = taken_each (IsServedAt now workers) shares olds news taken count (serves.served (served_none was workers empty none))

  texts_are : (x : State) → AreWorks works x.urls → AreWorks (loaded news) x.urls
  texts_are x are =
      all_works x.urls (loaded news) (recursion_from_All (IsWork x.urls) (loaded news)
      (All-permutation (IsWork x.urls) works (loaded news) (IsPermutation-sym (loaded news) works they_are) (All-from_recursion (IsWork x.urls) works (each_work x.urls works are))))

  pub load_done : (settings : Settings) (agent : List ℕ) (was mid now : Parts) (before between after : Told) → IsConsistent after → IsDrum was.urls → OnlyLooks done was mid before between
      → ForSome before.files (λ _. (x : State) → HoldsState before.images was x → AreWorks works x.urls) → OnlyLooks done was now before after
      → ForSome between.files (λ _. (x : State) → HoldsState between.images mid x → HaveNotesIn x.events empty → HaveNotesIn x.events shares) → AreFor agent olds
      → Leads (IsErrOf done Failed) (λ x y. y ≡ x) (Loads done settings agent olds news) was now before after
  load_done settings agent was mid now before between after law drum first texts looks notes are =
      looks_lead done (Loads done settings agent olds news) was now before after law drum looks (λ no files told x holds. record {
        same = refl;
        texts = texts_are x (texts files told x holds);
        known = λ noted. taken_noted agent x.events shares olds news taken (notes files (first.files ∙ told) x (first.holds x holds) (notes_none x.events empty none)) are noted;
        ground = looks_ground done was now before after files x told holds looks;
      })
