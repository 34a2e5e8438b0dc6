-- Events that are done again, one after the other.
use Rattle.std.proofs.Common.{◌≡◌, ◌∙◌, inl, inr, ⊎_elim, Bool, true, ℕ, ◌+◌, ◌<◌, ◌≤◌, zero, suc, List, [], ◌∷◌, ◌++◌, map, length, drop, get_or, take, Option, None, Result, Ok, Err, IsErrOf, OnOk, append_assoc, refl, sym, ap, subst, arith}
use Rattle.std.specs.Option.{ForSome}
use Rattle.std.specs.List.{AllByRecursion}
use Rattle.std.proofs.lemmas.List.{append-nil, map_more}
use Rattle.irl_base.specs.declared.fault.Fault.{Fault}
use Rattle.irl_base.specs.declared.fault.Fault.TheVariants.{Failed}
use Rattle.irl_offer.specs.declared.note.Note.{Note}
use Rattle.irl_offer.specs.declared.place.Place.{Place}
use Rattle.irl_offer.specs.declared.settings.Settings.{Settings}
use Rattle.irl_model.specs.Book.{Book}
use Rattle.irl_events.specs.Events.{Event, Begin, Pairs, Pass, Robots, Settle, Happened, Progress, after_event, after_events}
use Rattle.irl_events.specs.Legal.{AreLegalAfter, broken}
use Rattle.irl_events.proofs.Following.{after_more}
use Rattle.irl_disk.specs.Effects.{OnlyReads}
use Rattle.irl_disk.specs.Images.{Told, IsConsistent}
use Rattle.irl_disk.proofs.Effects.{reads_for, reads_none, reads_then}
use Rattle.irl_bay.specs.Drum.{Drum, IsDrum}
use Rattle.irl_bay.specs.Holding.{Holds, IsLong}
use Rattle.irl_disk.specs.Disk.{Files}
use Rattle.irl_events.specs.Seen.{seen}
use Rattle.irl_events.specs.declared.event.Event.{Event as LogEvent}
use Rattle.irl_bay.specs.JudgedSpoilt.{IsJudgedSpoiltAt}
use Rattle.irl_frontier.specs.Frontier.{Frontier, after_other}
use Rattle.irl_head.specs.StoreFiles.{crawl_file}
use Rattle.irl_ledger.specs.declared.ledger.Ledger.{Ledger}
use Rattle.irl_ledger.specs.declared.open.JudgedCounts.{JudgedCounts}
use Rattle.irl_ledger.specs.Crawling.{IsCrawlState, events_of}
use Rattle.irl_ledger.specs.Redoing.{HasAll, HasNext, IsCrawlOf, IsKnownBy, IsNextOf, IsRedone, IsRedoneFile, MayRedo, RedoesAll, RedoesBy, kept_events}
use Rattle.irl_ledger.specs.Opening.{AreRising, HaveHappened, IsCounted, IsDone, IsRefused, IsWithinBays}
use Rattle.irl_ledger.specs.Reading.{IsStrangeTextAt}
use Rattle.irl_ledger.proofs.Opening.{begins_legal, next_books, next_legal, next_other}
use Rattle.irl_ledger.proofs.Reading.{held_later}
use Rattle.irl_ledger.proofs.Tables.{note_stays}

-- ---- notes are passed over
module _ (store : Told) (urls : Drum) (ledger : Ledger) (settings : Settings) (u p : Book) where
  abbrev Is : List Happened → List Happened → Type 0
  Is first more = IsCrawlOf store.images urls ledger settings u p first more

  next_of : (first more : List Happened) (event : Event) (places : List Place) → Is first ((event, places) ∷ more) → IsNextOf store.images urls ledger settings u p first more event places
  next_of first more event places is = record { urls_hold = is.urls_hold; pairs_hold = is.pairs_hold; state = is.state; tables = is.tables; suffixes = is.suffixes }

  note_over : (first more : List Happened) (note : Note) (places : List Place) → Is first ((Robots note, places) ∷ more) → Is (first ++ (Robots note, places) ∷ []) more
  note_over first more note places is =
      let event : Event = Robots note in
      let next = next_of first more event places is in
      let legal : broken ledger.frontier.progress event places ≡ None = next_legal store urls ledger settings u p first more event places next in
      let begun : ledger.frontier.progress.begun ≡ true = begins_legal ledger.frontier.progress event places legal in
      let none : places ≡ [] = next_books store urls ledger settings u p first more event places next in
      let has : HasNext ledger settings u p first event places =
      next_other store urls ledger settings u p first more event places next none begun ledger (note_stays ledger.frontier note begun) refl in
      record {
        urls_hold = is.urls_hold;
        pairs_hold = is.pairs_hold;
        state = subst (IsCrawlState settings u p) (sym (append_assoc first ((event, places) ∷ []) more)) is.state;
        tables = has.tables;
        suffixes = has.suffixes;
      }

  -- where none is left but notes, the tables are those of all
  pub all_over : (first more : List Happened) → Is first more → kept_events more ≡ [] → HasAll ledger settings u p (first ++ more)
  all_over first [] is none = subst (HasAll ledger settings u p) (sym (append-nil first)) (record { tables = is.tables; suffixes = is.suffixes })
  all_over first ((Begin suffixes, places) ∷ more) is none = absurd (cc)
  all_over first ((Pairs cuts judged pairs, places) ∷ more) is none = absurd (cc)
  all_over first ((Pass judged, places) ∷ more) is none = absurd (cc)
  all_over first ((Robots note, places) ∷ more) is none =
      subst (HasAll ledger settings u p) (append_assoc first ((Robots note, places) ∷ []) more)
      (all_over (first ++ (Robots note, places) ∷ []) more (note_over first more note places is) none)
  all_over first ((Settle fronts outcomes, places) ∷ more) is none = absurd (cc)

  -- and else the next that was kept comes behind notes
  pub record HasKept (whole : List Happened) (event : Event) (rest : List Event) : Type 0 where
    pub first : List Happened
    pub places : List Place
    pub more : List Happened
    pub whole_is : whole ≡ first ++ (event, places) ∷ more
    pub crawl : Is first ((event, places) ∷ more)
    pub kept : kept_events more ≡ rest

  kept_here : (first more : List Happened) (here event : Event) (places : List Place) (rest : List Event) → Is first ((here, places) ∷ more) → here ∷ kept_events more ≡ event ∷ rest
      → HasKept (first ++ (here, places) ∷ more) event rest
  kept_here first more here event places rest is same =
      let one : here ≡ event = cc in
      let others : kept_events more ≡ rest = cc in
      subst (λ (e : Event). HasKept (first ++ (here, places) ∷ more) e rest) one (record { first = first; places = places; more = more; whole_is = refl; crawl = is; kept = others })

  pub next_kept : (first more : List Happened) (event : Event) (rest : List Event) → Is first more → kept_events more ≡ event ∷ rest → HasKept (first ++ more) event rest
  next_kept first [] event rest is same = absurd (cc)
  next_kept first ((Begin suffixes, places) ∷ more) event rest is same = kept_here first more (Begin suffixes) event places rest is same
  next_kept first ((Pairs cuts judged pairs, places) ∷ more) event rest is same = kept_here first more (Pairs cuts judged pairs) event places rest is same
  next_kept first ((Pass judged, places) ∷ more) event rest is same = kept_here first more (Pass judged) event places rest is same
  next_kept first ((Robots note, places) ∷ more) event rest is same =
      subst (λ (hs : List Happened). HasKept hs event rest) (append_assoc first ((Robots note, places) ∷ []) more)
      (next_kept (first ++ (Robots note, places) ∷ []) more event rest (note_over first more note places is) same)
  next_kept first ((Settle fronts outcomes, places) ∷ more) event rest is same = kept_here first more (Settle fronts outcomes) event places rest is same

-- ---- what happened, and one event more
legal_more : (x : Progress) (hs : List Happened) (event : Event) (places : List Place) → AreLegalAfter x hs → broken (after_events x hs) event places ≡ None
    → AreLegalAfter x (hs ++ (event, places) ∷ [])
legal_more x [] event places legal one = (one, tt)
legal_more x (h ∷ hs) event places legal one = (legal.0, legal_more (after_event x h.0 h.1) hs event places legal.1 one)

events_more : (hs : List Happened) (event : Event) (places : List Place) → events_of (hs ++ (event, places) ∷ []) ≡ events_of hs ++ event ∷ []
events_more [] event places = refl
events_more (h ∷ hs) event places = ap (λ (es : List Event). h.0 ∷ es) (events_more hs event places)

counted_more : (P : Event → Type 0) (events : List Event) (event : Event) → AllByRecursion P events → P event → AllByRecursion P (events ++ event ∷ [])
counted_more P [] event all one = (one, tt)
counted_more P (e ∷ events) event all one = (all.0, counted_more P events event all.1 one)

happened_one_more : (counts : JudgedCounts) (urls pairs : Drum) (done : List Event) (event : Event) (start : Progress) (now new : Frontier)
    → HaveHappened counts.urls.items counts.pairs.items urls pairs done start now.progress → IsDone urls pairs event now new → IsCounted counts.urls.items counts.pairs.items event
    → HaveHappened counts.urls.items counts.pairs.items urls pairs (done ++ event ∷ []) start new.progress
happened_one_more counts urls pairs done event start now new so one counted = record {
  happened = so.happened ++ (event, one.places) ∷ [];
  events_are = events_more so.happened event one.places ∙ ap (λ (es : List Event). es ++ event ∷ []) so.events_are;
  legal = legal_more start so.happened event one.places so.legal (subst (λ (x : Progress). broken x event one.places ≡ None) so.progress_is one.legal);
  progress_is = one.progress_is ∙ ap (λ (x : Progress). after_event x event one.places) so.progress_is ∙ sym (after_more start so.happened (event, one.places));
  counted = counted_more (λ e. IsCounted counts.urls.items counts.pairs.items e × IsWithinBays urls pairs e) done event so.counted (counted, one.within);
}

-- ---- one after the other
-- an event stands among some behind others, and its record's gate at this place
pub record IsPlaced (at : ℕ) (event : Event) (done : List Event) (events : List (ℕ × Event)) : Type 0 where
  pub first : List (ℕ × Event)
  pub more : List (ℕ × Event)
  pub events_are : events ≡ first ++ (at, event) ∷ more
  pub done_are : map (λ (e : ℕ × Event). e.1) first ≡ done

-- the events before some that are left were done again
pub record SoFar (counts : JudgedCounts) (done left all : List Event) (urls : Drum) (old now : Ledger) (s t : Told) : Type 0 where
  pub pairs : now.pairs ≡ old.pairs
  pub log : now.log ≡ old.log
  pub keeps : IsRedone urls now
  -- which bring the crawl so far
  pub all_are : all ≡ done ++ left
  pub happened : HaveHappened counts.urls.items counts.pairs.items urls old.pairs done old.frontier.progress now.frontier.progress
  pub reads : OnlyReads (IsRedoneFile urls old.pairs) ⊥ s t
  pub crawls : ForSome s.files (λ _. (settings : Settings) (u p : Book) (first more : List Happened) → IsCrawlOf s.images urls old settings u p first more → IsKnownBy counts u p
      → kept_events more ≡ all
      → (f : List Happened) × (m : List Happened) × (first ++ more ≡ f ++ m) × IsCrawlOf s.images urls now settings u p f m × (kept_events m ≡ left))

pub none_yet : (counts : JudgedCounts) (all : List Event) (urls : Drum) (old : Ledger) (s : Told) → IsConsistent s → IsRedone urls old → SoFar counts [] all all urls old old s s
none_yet counts all urls old s consistent redone = record {
  pairs = refl;
  log = refl;
  keeps = redone;
  all_are = refl;
  happened = record { happened = []; events_are = refl; legal = tt; progress_is = refl; counted = tt };
  reads = reads_none (IsRedoneFile urls old.pairs) s consistent;
  crawls = λ files told settings u p first more is known same. (first, more, refl, is, same);
}

module _ (counts : JudgedCounts) (at : ℕ) (event : Event) (done left all : List Event) (urls : Drum) (old now new : Ledger) (s t w : Told) (law : IsDrum urls) (pairs_law : IsDrum old.pairs)
    (consistent : IsConsistent t) (so : SoFar counts done (event ∷ left) all urls old now s t) where
  -- the crawl's next event, over the store as it is told then
  here : (settings : Settings) (u p : Book) (f m : List Happened) → IsCrawlOf s.images urls now settings u p f m → kept_events m ≡ event ∷ left → HasKept t urls now settings u p (f ++ m) event left
  here settings u p f m crawl kept =
      let pairs_there : IsDrum now.pairs = subst IsDrum (sym so.pairs) pairs_law in
      next_kept t urls now settings u p f m event left (record {
        urls_hold = held_later s t urls u law consistent so.reads.stops crawl.urls_hold;
        pairs_hold = held_later s t now.pairs p pairs_there consistent so.reads.stops crawl.pairs_hold;
        state = crawl.state;
        tables = crawl.tables;
        suffixes = crawl.suffixes;
      }) kept

  both_read : (failed : Type 0) → OnlyReads (IsRedoneFile urls now.pairs) failed t w → OnlyReads (IsRedoneFile urls old.pairs) failed s w
  both_read failed reads =
      reads_then (IsRedoneFile urls old.pairs) ⊥ failed s t w consistent so.reads (subst (λ (d : Drum). OnlyReads (IsRedoneFile urls d) failed t w) so.pairs reads)

  pub one_more : (value : Unit) → RedoesBy counts (Ok value) at event urls now new t w → SoFar counts (done ++ event ∷ []) left all urls old new s w
  one_more value redoes = record {
    pairs = redoes.pairs ∙ so.pairs;
    log = redoes.log ∙ so.log;
    keeps = redoes.keeps;
    all_are = so.all_are ∙ sym (append_assoc done (event ∷ []) left);
    happened = happened_one_more counts urls old.pairs done event old.frontier.progress now.frontier new.frontier so.happened
        (subst (λ (d : Drum). OnOk answer (IsDone urls d event now.frontier new.frontier)) so.pairs redoes.legal) redoes.counted;
    reads = reads_for (IsRedoneFile urls old.pairs) (IsErrOf answer Failed) ⊥ s w (λ no. absurd no) (both_read (IsErrOf answer Failed) redoes.reads);
    crawls = λ files told settings u p first more is knows same.
        let was = so.crawls files told settings u p first more is knows same in
        let k = here settings u p was.0 was.1 was.3 was.4 in
        let has = redoes.tables files (so.reads.same ∙ told) settings u p k.first k.more k.places (next_of t urls now settings u p k.first k.more event k.places k.crawl) in
        let whole : k.first ++ (event, k.places) ∷ k.more ≡ (k.first ++ (event, k.places) ∷ []) ++ k.more = sym (append_assoc k.first ((event, k.places) ∷ []) k.more) in (
          k.first ++ (event, k.places) ∷ [],
          k.more,
          was.2 ∙ k.whole_is ∙ whole,
          record {
            urls_hold = is.urls_hold;
            pairs_hold = subst (λ (d : Drum). Holds s.images d p) (sym (redoes.pairs ∙ so.pairs)) is.pairs_hold;
            state = subst (IsCrawlState settings u p) whole k.crawl.state;
            tables = has.tables;
            suffixes = has.suffixes;
          },
          k.kept,
        );
  }
    where
      answer : Result Unit Fault
      answer = Ok value

  pub one_refused : (fault : Fault) (events : List (ℕ × Event)) → map (λ (e : ℕ × Event). e.1) events ≡ all → IsPlaced at event done events → RedoesBy counts (Err fault) at event urls now new t w
      → RedoesAll counts (Err fault) events urls old new s w
  one_refused fault events are there redoes = record {
    pairs = redoes.pairs ∙ so.pairs;
    log = redoes.log ∙ so.log;
    keeps = tt;
    legal = tt;
    tables = tt;
    whole = λ f place named files told settings u p first more is knows same.
        let was = so.crawls files told settings u p first more is knows (same ∙ are) in
        let k = here settings u p was.0 was.1 was.3 was.4 in
        redoes.whole f place named files (so.reads.same ∙ told) settings u p k.first k.more k.places (next_of t urls now settings u p k.first k.more event k.places k.crawl) knows;
    spoilt = λ f place named. ⊎_elim
        (λ (why : (f ≡ crawl_file) × (place ≡ at)
        × IsRefused now.frontier event (AreRising counts.pairs.items × IsCounted counts.urls.items counts.pairs.items event × IsWithinBays urls now.pairs event)). inl (
          why.0,
          record {
            first = there.first;
            event = event;
            more = there.more;
            events_are = subst (λ (n : ℕ). events ≡ there.first ++ (n, event) ∷ there.more) (sym why.1) there.events_are;
            tables = now.frontier;
            done = subst (λ (es : List Event). HaveHappened counts.urls.items counts.pairs.items urls old.pairs es old.frontier.progress now.frontier.progress) (sym there.done_are) so.happened;
            refused = subst (λ (d : Drum). IsRefused now.frontier event (AreRising counts.pairs.items × IsCounted counts.urls.items counts.pairs.items event × IsWithinBays urls d event))
                so.pairs why.2;
          },
        ))
        (λ why. inr (λ files told. ⊎_elim
        (λ spoilt. inl spoilt)
        (λ others. inr (⊎_elim
        (λ (strange : IsStrangeTextAt t.images urls f place).
        inl (record {
          file = strange.file;
          i = strange.i;
          within = strange.within;
          place = strange.place;
          strange = λ book one holds. strange.strange book one (held_later s t urls book law consistent so.reads.stops holds);
        }))
        (λ (spoilt : IsJudgedSpoiltAt now.pairs files f place). inr (subst (λ (d : Drum). IsJudgedSpoiltAt d files f place) so.pairs spoilt))
        others))
        (why files (so.reads.same ∙ told))))
        (redoes.spoilt f place named);
    full = redoes.full;
    reads = both_read (IsErrOf answer Failed) redoes.reads;
  }
    where
      answer : Result Unit Fault
      answer = Err fault

pub all_done : (counts : JudgedCounts) (done all : List Event) (events : List (ℕ × Event)) (urls : Drum) (old now : Ledger) (s t : Told) → map (λ (e : ℕ × Event). e.1) events ≡ all
    → SoFar counts done [] all urls old now s t → RedoesAll counts (Ok (tt {0})) events urls old now s t
all_done counts done all events urls old now s t are so = record {
  pairs = so.pairs;
  log = so.log;
  keeps = so.keeps;
  legal = subst (λ (es : List Event). HaveHappened counts.urls.items counts.pairs.items urls old.pairs es old.frontier.progress now.frontier.progress) (sym (append-nil done) ∙ sym so.all_are
      ∙ sym are)
      so.happened;
  tables = λ files told settings u p first more is knows same.
      let was = so.crawls files told settings u p first more is knows (same ∙ are) in
      subst (HasAll now settings u p) (sym was.2) (all_over s urls now settings u p was.0 was.1 was.3 was.4);
  whole = λ f place named. absurd (cc);
  spoilt = λ f place named. absurd (cc);
  full = λ n named. cc;
  reads = reads_for (IsRedoneFile urls old.pairs) ⊥ (IsErrOf answer Failed) s t (λ named. cc) so.reads;
}
  where
    answer : Result Unit Fault
    answer = Ok (tt {0})

pub may_redo : (counts : JudgedCounts) (done left all : List Event) (urls : Drum) (old now : Ledger) (s t : Told) → SoFar counts done left all urls old now s t → MayRedo urls old s.files
    → MayRedo urls now t.files
may_redo counts done left all urls old now s t so may = record {
  sound = may.sound;
  base = may.base;
  long = subst (λ (files : Option Files). ForSome files (λ f. IsLong urls f)) (sym so.reads.same) may.long;
  pairs_sound = ap (λ (d : Drum). d.is_sound) so.pairs ∙ may.pairs_sound;
  pairs_long = subst (λ (files : Option Files). ForSome files (λ f. IsLong now.pairs f)) (sym so.reads.same)
      (subst (λ (d : Drum). ForSome s.files (λ f. IsLong d f)) (sym so.pairs) may.pairs_long);
  redone = so.keeps;
}

-- ---- those that are left
abbrev pub all_seen : List (ℕ × LogEvent) → List Event
all_seen events = map (λ (e : ℕ × LogEvent). seen e.1) events

pub left_at : (events : List (ℕ × LogEvent)) (i : ℕ) (d : ℕ × LogEvent) → i < length events → all_seen (drop i events) ≡ seen (get_or events i d).1 ∷ all_seen (drop (i + 1) events)
left_at [] i d lt = absurd (omega (arith, lt))
left_at (e ∷ events) zero d lt = refl
left_at (e ∷ events) (suc i) d lt =
    let sum : suc i + 1 ≡ suc (i + 1) = omega arith in
    left_at events i d (omega (arith, lt)) ∙ ap (λ (n : ℕ). seen (get_or events i d).1 ∷ all_seen (drop n (e ∷ events))) (sym sum)

pub none_left : (events : List (ℕ × LogEvent)) (i : ℕ) → length events ≤ i → all_seen (drop i events) ≡ []
none_left [] zero le = refl
none_left [] (suc i) le = refl
none_left (e ∷ events) zero le = absurd (omega (arith, le))
none_left (e ∷ events) (suc i) le = none_left events i (omega (arith, le))

pub seen_twice : (events : List (ℕ × LogEvent)) → map (λ (e : ℕ × Event). e.1) (map (λ (e : ℕ × LogEvent). (e.0, seen e.1)) events) ≡ all_seen events
seen_twice [] = refl
seen_twice (e ∷ events) = ap (λ (l : List Event). seen e.1 ∷ l) (seen_twice events)

-- each stands behind those that were done
abbrev pub all_placed : List (ℕ × LogEvent) → List (ℕ × Event)
all_placed events = map (λ (e : ℕ × LogEvent). (e.0, seen e.1)) events

placed_split : (events : List (ℕ × LogEvent)) (i : ℕ) (d : ℕ × LogEvent) → i < length events
    → all_placed events ≡ all_placed (take i events) ++ ((get_or events i d).0, seen (get_or events i d).1) ∷ all_placed (drop (i + 1) events)
placed_split [] i d lt = absurd (omega (arith, lt))
placed_split (e ∷ events) zero d lt = refl
placed_split (e ∷ events) (suc i) d lt =
    let sum : suc i + 1 ≡ suc (i + 1) = omega arith in
    ap (λ (es : List (ℕ × Event)). (e.0, seen e.1) ∷ es) (placed_split events i d (omega (arith, lt)))
    ∙ ap (λ (n : ℕ). all_placed (take (suc i) (e ∷ events)) ++ ((get_or events i d).0, seen (get_or events i d).1) ∷ all_placed (drop n (e ∷ events))) (sym sum)

pub is_placed : (events : List (ℕ × LogEvent)) (i : ℕ) (d : ℕ × LogEvent) → i < length events
    → IsPlaced (get_or events i d).0 (seen (get_or events i d).1) (all_seen (take i events)) (all_placed events)
is_placed events i d lt = record {
  first = all_placed (take i events);
  more = all_placed (drop (i + 1) events);
  events_are = placed_split events i d lt;
  done_are = seen_twice (take i events);
}

pub done_more : (events : List (ℕ × LogEvent)) (i : ℕ) (d : ℕ × LogEvent) → i < length events → all_seen (take i events) ++ seen (get_or events i d).1 ∷ [] ≡ all_seen (take (i + 1) events)
done_more events i d lt = sym (map_more (λ (e : ℕ × LogEvent). seen e.1) events i d lt)
