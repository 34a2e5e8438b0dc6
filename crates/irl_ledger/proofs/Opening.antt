-- An event that is done again: what a crawl says of it, and what it leaves.
use Rattle.std.proofs.Common.{◌≡◌, ◌∙◌, inl, inr, ⊎_elim, ℕ, ◌≤◌, ◌<◌, List, [], ◌∷◌, ◌++◌, length, not, Bool, true, false, Option, None, Some, Result, Ok, Err, IsErrOf, OnOk, refl, sym, ap, subst}
use Rattle.std.specs.Prelude.{is_some, unwrap_or, slice_index}
use Rattle.std.proofs.lemmas.Bool.{false≢true}
use Rattle.irl_base.specs.declared.fault.Fault.{Fault}
use Rattle.irl_base.specs.declared.fault.Fault.TheVariants.{Damaged, Failed, Full}
use Rattle.irl_offer.specs.declared.note.Note.{Note}
use Rattle.irl_offer.specs.declared.outcome.Outcome.{Outcome}
use Rattle.irl_offer.specs.declared.place.Place.{Place}
use Rattle.irl_offer.specs.declared.settings.Settings.{Settings}
use Rattle.irl_key.specs.Key.{key_of}
use Rattle.irl_model.specs.Book.{Book, IsBelow, lengths_of}
use Rattle.irl_model.proofs.Stretches.{below_at, below_long}
use Rattle.irl_events.specs.Events.{Event, Begin, Pairs, Pass, Robots, Settle, Happened, Progress, after_event, after_events, before_all, progress}
use Rattle.irl_events.specs.Legal.{AreLegalAfter, begins_once, broken, is_noted, pairs_rise, passes_on, settles}
use Rattle.irl_core.specs.States.{IsOfBooks, begun_with}
use Rattle.irl_disk.specs.Images.{Told, IsConsistent}
use Rattle.irl_disk.proofs.Effects.{reads_for, reads_none}
use Rattle.irl_bay.specs.Drum.{Drum, IsDrum, durable_at, durables}
use Rattle.irl_schedule.proofs.Counts.{durable_index, length-durables}
use Rattle.irl_frontier.specs.Frontier.{Frontier, IsFrontier, after_other}
use Rattle.irl_head.specs.StoreFiles.{crawl_file}
use Rattle.irl_ledger.specs.declared.ledger.Ledger.{Ledger}
use Rattle.irl_ledger.specs.Crawling.{domain_of}
use Rattle.irl_ledger.specs.Holding.{FitsBays, IsFrontierOf, domain_by}
use Rattle.irl_ledger.specs.declared.open.JudgedCounts.{JudgedCounts}
use Rattle.irl_ledger.specs.Opening.{AreRising, GivesPlaces, IsCounted, IsDone, IsRefused, IsWithinBays}
use Rattle.irl_ledger.specs.Redoing.{HasNext, IsKnownBy, IsNextOf, IsRedone, IsRedoneFile, Redoes, RedoesBy, RedoesOther}
use Rattle.irl_ledger.proofs.Broken.{all_kept}
use Rattle.irl_ledger.proofs.Tables.{fits_idle, tables_begun, tables_other}

-- ---- events of a crawl
legal_at : (x : Progress) (first more : List Happened) (event : Event) (places : List Place) → AreLegalAfter x (first ++ (event, places) ∷ more) → broken (after_events x first) event places ≡ None
legal_at x [] more event places legal = legal.0
legal_at x (h ∷ first) more event places legal = legal_at (after_event x h.0 h.1) first more event places legal.1

begun_now : (x : Progress) (event : Event) (places : List Place) → (after_event x event places).begun ≡ true
begun_now x (Begin suffixes) places = refl
begun_now x (Pairs cuts judged pairs) places = refl
begun_now x (Pass judged) places = refl
begun_now x (Robots note) places = refl
begun_now x (Settle fronts outcomes) places = refl

begun_on : (x : Progress) (hs : List Happened) → x.begun ≡ true → (after_events x hs).begun ≡ true
begun_on x [] begun = begun
begun_on x (h ∷ hs) begun = begun_on (after_event x h.0 h.1) hs (begun_now x h.0 h.1)

-- before the beginning there was no event
none_before : (queues buckets : ℕ) (first : List Happened) → (progress queues buckets first).begun ≡ false → first ≡ []
none_before queues buckets [] is = refl
none_before queues buckets (h ∷ first) is =
    absurd (false≢true (sym is ∙ begun_on (after_event (before_all queues buckets) h.0 h.1) first (begun_now (before_all queues buckets) h.0 h.1)))

-- and after it the suffixes stay
pub begun_kept : (queues buckets : ℕ) (first more : List Happened) → (progress queues buckets first).begun ≡ true → begun_with (first ++ more) ≡ begun_with first
begun_kept queues buckets [] more is = absurd (false≢true is)
begun_kept queues buckets (h ∷ first) more is = refl

pub begins_legal : (x : Progress) (event : Event) (places : List Place) → broken x event places ≡ None → begins_once x event ≡ true
begins_legal x event places none =
    (all_kept (begins_once x event) (pairs_rise x event) (passes_on x event places) (is_noted event) (settles x event) none).0

-- ---- the next one
module _ (store : Told) (urls : Drum) (ledger : Ledger) (settings : Settings) (u p : Book) (first more : List Happened) (event : Event) (places : List Place)
    (next : IsNextOf store.images urls ledger settings u p first more event places) where
  abbrev events : List Happened
  events = first ++ (event, places) ∷ more

  pub next_legal : broken ledger.frontier.progress event places ≡ None
  next_legal =
      subst (λ (x : Progress). broken x event places ≡ None) (sym next.tables.progress_is)
      (legal_at (before_all settings.queues settings.buckets) first more event places next.state.legal.rules)

  pub next_books : IsOfBooks (domain_by events) key_of settings u p (progress settings.queues settings.buckets first) event places
  next_books = next.state.legal.each first more event places refl

  -- once it has begun, the suffixes are known
  pub next_begun : (hs : List Happened) → ledger.frontier.progress.begun ≡ true → begun_with (first ++ hs) ≡ begun_with first
  next_begun hs begun = begun_kept settings.queues settings.buckets first hs (ap (λ (x : Progress). x.begun) (sym next.tables.progress_is) ∙ begun)

  pub next_domain : ledger.frontier.progress.begun ≡ true → domain_by events ≡ domain_by first
  next_domain begun = ap (λ (o : Option (List ℕ)). domain_of (unwrap_or o [])) (next_begun ((event, places) ∷ more) begun)

  pub next_other : places ≡ [] → ledger.frontier.progress.begun ≡ true → (new : Ledger) → new.frontier ≡ after_other ledger.frontier event → new.suffixes ≡ ledger.suffixes
      → HasNext new settings u p first event places
  next_other none begun new is suffixes =
      let same : begun_with (first ++ (event, []) ∷ []) ≡ begun_with first = next_begun ((event, []) ∷ []) begun in
      subst (HasNext new settings u p first event) (sym none) (record {
        tables = subst (IsFrontierOf settings u p (first ++ (event, []) ∷ [])) (sym is) (tables_other settings u p first ledger.frontier event same next.tables);
        suffixes = suffixes ∙ next.suffixes ∙ sym same;
      })

-- an event that says nothing of what waits gives no place
no_place : (A : Type 0) (places : List Place) → A × (places ≡ []) → places ≡ []
no_place A places both = both.1

-- an event that gives no places, and breaks no rule
pub other_done : (urls pairs : Drum) (event : Event) (old new : Frontier) → broken old.progress event [] ≡ None → GivesPlaces old event [] → new ≡ after_other old event → IsWithinBays urls pairs event
    → IsDone urls pairs event old new
other_done urls pairs event old new legal given is within = record { places = []; given = given; legal = legal; progress_is = ap (λ (x : Frontier). x.progress) is; within = within }

-- ---- what it leaves
abbrev pub AllNext : Told → Drum → Ledger → Event → (Settings → Book → Book → List Happened → List Place → Type 0) → Type 0
AllNext store urls ledger event P = (settings : Settings) (u p : Book) (first more : List Happened) (places : List Place)
    → IsNextOf store.images urls ledger settings u p first more event places → P settings u p first places

module _ (at : ℕ) (event : Event) (urls : Drum) (old : Ledger) (store : Told) (consistent : IsConsistent store) where
  -- where it makes no call of the store
  pub redoes_alone : (result : Result Unit Fault) (new : Ledger) → new.pairs ≡ old.pairs → new.log ≡ old.log → OnOk result (IsRedone urls new)
      → OnOk result (AllNext store urls old event (λ settings u p first places. HasNext new settings u p first event places))
      → OnOk result (IsDone urls old.pairs event old.frontier new.frontier)
      → ((f place : ℕ) → IsErrOf result (Damaged f place) → (f ≡ crawl_file) × (place ≡ at) × IsRefused old.frontier event (IsWithinBays urls old.pairs event)
      × AllNext store urls old event (λ settings u p first places. ⊥))
      → ((n : ℕ) → IsErrOf result (Full n) → ⊥) → (IsErrOf result Failed → ⊥) → Redoes result at event urls old new store store
  redoes_alone (Ok done) new pairs log keeps tables legal damaged full failed = record {
    pairs = pairs;
    log = log;
    keeps = keeps;
    legal = legal;
    tables = λ files told. tables;
    whole = λ f place named. absurd (cc);
    spoilt = λ f place named. absurd (cc);
    full = full;
    reads = reads_for (IsRedoneFile urls old.pairs) ⊥ (IsErrOf (Ok done) Failed) store store failed (reads_none (IsRedoneFile urls old.pairs) store consistent);
  }
  redoes_alone (Err fault) new pairs log keeps tables legal damaged full failed = record {
    pairs = pairs;
    log = log;
    keeps = keeps;
    legal = legal;
    tables = tables;
    whole = λ f place named files told settings u p first more places next. (damaged f place named).3 settings u p first more places next;
    spoilt = λ f place named. let why = damaged f place named in inl (why.0, why.1, why.2);
    full = full;
    reads = reads_for (IsRedoneFile urls old.pairs) ⊥ (IsErrOf (Err fault) Failed) store store failed (reads_none (IsRedoneFile urls old.pairs) store consistent);
  }

  pub named : IsRefused old.frontier event (IsWithinBays urls old.pairs event) → AllNext store urls old event (λ settings u p first places. ⊥)
      → Redoes (Err (Damaged crawl_file at)) at event urls old old store store
  named refused why = redoes_alone (Err (Damaged crawl_file at)) old refl refl tt tt tt
      (λ f place is. let f_is : f ≡ crawl_file = cc in let place_is : place ≡ at = cc in (f_is, place_is, refused, why)) (λ n is. cc) (λ is. cc)

  -- the same of books of which something else is known
  pub named_by : (counts : JudgedCounts)
      → IsRefused old.frontier event (AreRising counts.pairs.items × IsCounted counts.urls.items counts.pairs.items event × IsWithinBays urls old.pairs event)
      → AllNext store urls old event (λ settings u p first places. IsKnownBy counts u p → ⊥) → RedoesBy counts (Err (Damaged crawl_file at)) at event urls old old store store
  named_by counts refused why =
      let answer : Result Unit Fault = Err (Damaged crawl_file at) in
      record {
        pairs = refl;
        log = refl;
        keeps = tt;
        legal = tt;
        counted = tt;
        tables = tt;
        whole = λ f place named files told settings u p first more places next. why settings u p first more places next;
        spoilt = λ f place is. let f_is : f ≡ crawl_file = cc in let place_is : place ≡ at = cc in inl (f_is, place_is, refused);
        full = λ n named. cc;
        reads = reads_for (IsRedoneFile urls old.pairs) ⊥ (IsErrOf answer Failed) store store (λ named. cc) (reads_none (IsRedoneFile urls old.pairs) store consistent);
      }

  -- an event that gives no places, and was refused
  pub other_refused : (fault : Fault) (new : Ledger) → RedoesOther (Err fault) at event old new → GivesPlaces old.frontier event []
      → AllNext store urls old event (λ settings u p first places. places ≡ [])
      → Redoes (Err fault) at event urls old new store store
  other_refused fault new other given none =
      let same : new ≡ old = other.kept refl in
      redoes_alone (Err fault) new (ap (λ (l : Ledger). l.pairs) same) (ap (λ (l : Ledger). l.log) same) tt tt tt
      (λ f place named.
      let why = other.damaged f place named in (
        why.0,
        why.1,
        ([], given, λ legal fits. why.2 legal),
        λ settings u p first more places next.
            why.2 (subst (λ (ps : List Place). broken old.frontier.progress event ps ≡ None) (none settings u p first more places next)
            (next_legal store urls old settings u p first more event places next)),
      ))
      other.full other.failed

  -- an event that is no beginning and gives no places
  pub redoes_other : (result : Result Unit Fault) (new : Ledger) → RedoesOther result at event old new → begins_once old.frontier.progress event ≡ old.frontier.progress.begun
      → GivesPlaces old.frontier event [] → IsWithinBays urls old.pairs event → AllNext store urls old event (λ settings u p first places. places ≡ [])
      → (broken old.frontier.progress event [] ≡ None → IsRedone urls (record old { frontier = after_other old.frontier event })) → Redoes result at event urls old new store store
  redoes_other (Ok done) new other once given within none fits =
      let begun : old.frontier.progress.begun ≡ true = sym once ∙ begins_legal old.frontier.progress event [] other.legal in
      redoes_alone (Ok done) new (ap (λ (l : Ledger). l.pairs) other.done) (ap (λ (l : Ledger). l.log) other.done)
      (subst (IsRedone urls) (sym other.done) (fits other.legal))
      (λ settings u p first more places next. next_other store urls old settings u p first more event places next (none settings u p first more places next) begun new
      (ap (λ (l : Ledger). l.frontier) other.done) (ap (λ (l : Ledger). l.suffixes) other.done))
      (other_done urls old.pairs event old.frontier new.frontier other.legal given (ap (λ (l : Ledger). l.frontier) other.done) within)
      (λ f place named. absurd (cc)) other.full other.failed
  redoes_other (Err fault) new other once given within none fits = other_refused fault new other given none

-- ---- notes and settles
-- tables that stay but for how far the crawl has come
pub redone_note : (urls : Drum) (old : Ledger) (note : Note) → broken old.frontier.progress (Robots note) [] ≡ None → IsRedone urls old
    → IsRedone urls (record old { frontier = after_other old.frontier (Robots note) })
redone_note urls old note legal redone = record {
  fits = fits_idle urls old.pairs old.frontier (Robots note) tt redone.fits;
  told = redone.told;
  begun = sym (begins_legal old.frontier.progress (Robots note) [] legal) ∙ redone.begun;
}

pub redone_settle : (urls : Drum) (old : Ledger) (fronts : List ℕ) (outcomes : List (ℕ × Outcome)) → broken old.frontier.progress (Settle fronts outcomes) [] ≡ None
    → ((b : ℕ) → b < urls.settings.buckets → slice_index fronts b ≤ durable_at urls b) → IsRedone urls old
    → IsRedone urls (record old { frontier = after_other old.frontier (Settle fronts outcomes) })
redone_settle urls old fronts outcomes legal within redone = record {
  fits = record {
    settings = redone.fits.settings;
    cuts = redone.fits.cuts;
    sent = redone.fits.sent;
    read = redone.fits.read;
    fronts = within;
    pairs_sent = redone.fits.pairs_sent;
    told = redone.fits.told;
  };
  told = redone.told;
  begun = sym (begins_legal old.frontier.progress (Settle fronts outcomes) [] legal) ∙ redone.begun;
}

-- no front of a crawl's Settle is above its list
pub settle_within : (store : Told) (urls : Drum) (old : Ledger) (settings : Settings) (u p : Book) (first more : List Happened) (fronts : List ℕ) (outcomes : List (ℕ × Outcome)) (places : List Place)
    → IsDrum urls
    → IsNextOf store.images urls old settings u p first more (Settle fronts outcomes) places
    → (length fronts ≡ urls.settings.buckets) × ((b : ℕ) → b < urls.settings.buckets → slice_index fronts b ≤ durable_at urls b)
settle_within store urls old settings u p first more fronts outcomes places law next =
    let below : IsBelow fronts (lengths_of u) = (next_books store urls old settings u p first more (Settle fronts outcomes) places next).0 in
    let held : IsBelow fronts (durables urls) = subst (IsBelow fronts) (sym next.urls_hold.numbers.offers) below in (
      below_long fronts (durables urls) held ∙ length-durables urls ∙ law.count,
      λ b lt. subst (λ (n : ℕ). slice_index fronts b ≤ n) (durable_index urls b) (below_at fronts (durables urls) b held),
    )

-- ---- a beginning
not_true : (b : Bool) → not b ≡ true → b ≡ false
not_true true is = sym is
not_true false is = refl

pub next_begin : (store : Told) (urls : Drum) (old new : Ledger) (settings : Settings) (u p : Book) (first more : List Happened) (suffixes : List ℕ) (places : List Place) → IsFrontier old.frontier
    → IsNextOf store.images urls old settings u p first more (Begin suffixes) places → new.frontier ≡ after_other old.frontier (Begin suffixes) → new.suffixes ≡ Some suffixes
    → HasNext new settings u p first (Begin suffixes) places
next_begin store urls old new settings u p first more suffixes places keeps next frontier is =
    let legal : broken old.frontier.progress (Begin suffixes) places ≡ None = next_legal store urls old settings u p first more (Begin suffixes) places next in
    let begun : old.frontier.progress.begun ≡ false = not_true old.frontier.progress.begun (begins_legal old.frontier.progress (Begin suffixes) places legal) in
    let empty : first ≡ [] = none_before settings.queues settings.buckets first (ap (λ (x : Progress). x.begun) (sym next.tables.progress_is) ∙ begun) in
    let none : places ≡ [] = next_books store urls old settings u p first more (Begin suffixes) places next in
    let tables : IsFrontierOf settings u p [] old.frontier = subst (λ (hs : List Happened). IsFrontierOf settings u p hs old.frontier) empty next.tables in
    subst (λ (hs : List Happened). HasNext new settings u p hs (Begin suffixes) places) (sym empty)
    (subst (HasNext new settings u p [] (Begin suffixes)) (sym none) (record {
      tables = subst (IsFrontierOf settings u p ((Begin suffixes, []) ∷ [])) (sym frontier) (tables_begun settings u p old.frontier suffixes keeps tables);
      suffixes = is;
    }))

pub redone_begin : (urls : Drum) (old new : Ledger) (suffixes : List ℕ) → IsRedone urls old → new.pairs ≡ old.pairs → new.frontier ≡ after_other old.frontier (Begin suffixes)
    → new.suffixes ≡ Some suffixes
    → IsRedone urls new
redone_begin urls old new suffixes redone pairs frontier is = record {
  fits = subst (λ (d : Drum). FitsBays urls d new.frontier) (sym pairs)
      (subst (FitsBays urls old.pairs) (sym frontier) (fits_idle urls old.pairs old.frontier (Begin suffixes) tt redone.fits));
  told = ap (λ (x : Frontier). x.told) frontier ∙ redone.told ∙ ap (λ (x : Frontier). x.progress.pairs) (sym frontier);
  begun = ap (λ (x : Frontier). x.progress.begun) frontier ∙ ap (λ (o : Option (List ℕ)). is_some o) (sym is);
}

-- ---- what else is known of the books
pub redoes_by : (counts : JudgedCounts) (result : Result Unit Fault) (at : ℕ) (event : Event) (urls : Drum) (old new : Ledger) (before after : Told)
    → OnOk result (IsCounted counts.urls.items counts.pairs.items event) → Redoes result at event urls old new before after → RedoesBy counts result at event urls old new before after
redoes_by counts result at event urls old new before after counted redoes = record {
  pairs = redoes.pairs;
  log = redoes.log;
  keeps = redoes.keeps;
  legal = redoes.legal;
  counted = counted;
  tables = redoes.tables;
  whole = λ f place named files told settings u p first more places next is. redoes.whole f place named files told settings u p first more places next;
  spoilt = λ f place named. ⊎_elim
      (λ (why : (f ≡ crawl_file) × (place ≡ at) × IsRefused old.frontier event (IsWithinBays urls old.pairs event)).
      inl (why.0, why.1, (why.2.0, why.2.1, λ legal fits. why.2.2 legal fits.2)))
      (λ others. inr others)
      (redoes.spoilt f place named);
  full = redoes.full;
  reads = redoes.reads;
}

pub when_ok : {A E : Type 0} (result : Result A E) (P : Type 0) → P → OnOk result P
when_ok (Ok value) P p = p
when_ok (Err fault) P p = tt
