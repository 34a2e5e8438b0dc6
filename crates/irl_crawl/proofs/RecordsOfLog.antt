-- Calls that change no file of a bay add no record and no cut.
use Rattle.std.proofs.Common.{◌≡◌, ◌∙◌, ◌⊎◌, inl, inr, ⊎_elim, ℕ, List, [], Option, Some, Result, Ok, Err, OnOk, IsErrOf, refl, sym, ap, subst, arith}
use Rattle.std.specs.Prelude.{⊤}
use Rattle.std.specs.Option.{ForSome}
use Rattle.irl_base.specs.declared.fault.Fault.{Fault}
use Rattle.irl_base.specs.declared.fault.Fault.TheVariants.{Damaged, Failed, Full, Memory}
use Rattle.irl_offer.specs.declared.note.Note.{Note}
use Rattle.irl_offer.specs.declared.place.Place.{Place}
use Rattle.irl_offer.specs.declared.settings.Settings.{Settings}
use Rattle.irl_disk.specs.Disk.{ChangesFile, ChangesOnly, Files, TellsBy}
use Rattle.irl_disk.specs.Images.{IsConsistent, Told, Follows, Leaves, LeavesBy, LeavesSame}
use Rattle.irl_disk.proofs.Stretches.{same_by, widens, widens_by}
use Rattle.irl_events.specs.Events.{Event}
use Rattle.irl_events.specs.State.{State, IsFrontState}
use Rattle.irl_head.specs.StoreFiles.{crawl_file, pairs_base, urls_base}
use Rattle.irl_model.proofs.FrontLaws.{front_same}
use Rattle.irl_model.specs.Book.{Book}
use Rattle.irl_bay.specs.Drum.{Drum, IsDrum}
use Rattle.irl_schedule.proofs.Outcomes.{ok_gives, ok_weaker}
use Rattle.irl_schedule.proofs.Chains.{grows_same}
use Rattle.irl_schedule.specs.Feeding.{Grows}
use Rattle.irl_schedule.specs.Schedule.{HaveRecords}
use Rattle.irl_ledger.specs.Crawling.{pair_settings}
use Rattle.irl_ledger.specs.declared.ledger.Ledger.{Ledger}
use Rattle.irl_yard.specs.declared.parts.Parts.{Parts}
use Rattle.irl_yard.specs.Adding.{AddsEvent, AddsNotes, notes_happened, with_event, with_notes}
use Rattle.irl_yard.specs.Holding.{HasLedger, HasOneOf, HoldsState, IsOpenRest}
use Rattle.irl_yard.specs.Passing.{PassesState, with_pass}
use Rattle.irl_yard.specs.Standing.{HasState}
use Rattle.irl_yard.proofs.Holding.{held_has}
use Rattle.irl_yard.proofs.States.{event_front, state_same}
use Rattle.irl_crawl.proofs.Records.{AreBeside, HasBays, bays_in, held_one, leaves_two, live_as, live_stay, log_beside, log_no_pairs, one_ledger, open_stay}
use Rattle.irl_crawl.proofs.RecordsThen.{HoldsOn}
use Rattle.irl_crawl.specs.Batches.{Batches, ComeInBatches, HasBatched, HaveBoth, Records, just}

-- a later state with the same books
pub record IsAlike (x y : State) : Type 0 where
  pub front : IsFrontState x y
  pub urls : y.urls ≡ x.urls
  pub pairs : y.pairs ≡ x.pairs

pub alike_same : (x : State) → IsAlike x x
alike_same x = record { front = state_same x; urls = refl; pairs = refl }

pub alike_event : (event : Event) (places : List Place) (x : State) → IsAlike x (with_event event places x)
alike_event event places x = record { front = event_front event places x; urls = refl; pairs = refl }

pub alike_notes : (notes : List Note) (x : State) → IsAlike x (with_notes notes x)
alike_notes notes x = record {
  front = inr (record { settings = refl; urls = front_same x.urls; pairs = front_same x.pairs; events = (notes_happened notes, refl) });
  urls = refl;
  pairs = refl;
}

come_alike : (settings : Settings) (x y : State) (records : Records) → IsAlike x y → ComeInBatches settings (just 0 0 0) x y records records
come_alike settings x y records alike = record {
  front = alike.front;
  urls = subst (λ (b : Book). Grows settings 0 x.urls b) (sym alike.urls) (grows_same settings x.urls);
  pairs = subst (λ (b : Book). Grows (pair_settings settings) 0 x.pairs b) (sym alike.pairs) (grows_same (pair_settings settings) x.pairs);
  records = record { urls = λ b within. omega arith; pairs = λ b within. omega arith };
}

-- ---- from one moment to a later one
-- what a store holds of a state is as it was
abbrev pub StaysAlike : Told → Parts → Told → Parts → Type 0
StaysAlike s was t now = ForSome s.files (λ _. (x y : State) → HoldsState s.images was x → HoldsState t.images now y → IsAlike x y)

-- and a stop leaves such a state
pub record HasAlike (x : State) (image : Files) : Type 0 where
  pub state : State
  pub has : HasState state image
  pub alike : IsAlike x state

abbrev pub LeavesAlike : Told → Parts → Told → Type 0
LeavesAlike s was t = ForSome s.files (λ _. (x : State) → HoldsState s.images was x → Leaves s t (HasAlike x))

module _ (failed : Type 0) (among : ℕ → Type 0) (was now : Parts) (s t : Told) (opened : IsOpenRest was.urls was.rest s.files) (opened_now : IsOpenRest now.urls now.rest t.files)
    (law : IsDrum was.urls) (consistent : IsConsistent t) (crawl : HasLedger was.rest) (crawl_now : HasLedger now.rest) (urls : now.urls ≡ was.urls)
    (beside : (x : State) (has : HasBays s.images was x) → AreBeside among was.urls × AreBeside among has.ledger.pairs) (stops : LeavesBy (ChangesOnly among) s t)
    (told_on : (files : Files) → s.files ≡ Some files → (after : Files) × (t.files ≡ Some after)) (alike : (failed → ⊥) → StaysAlike s was t now) (left : LeavesAlike s was t) where
  abbrev settings : Settings
  settings = was.urls.settings

  law_now : IsDrum now.urls
  law_now = subst IsDrum (sym urls) law

  left_at : (x : State) (records : Records) → HoldsState s.images was x → HaveBoth s.images was records → Leaves s t (HasAlike x)
      → Leaves s t (HasBatched settings (just 0 0) x records)
  left_at x records held have leaves =
      let has = bays_in s.images was s.files x law opened crawl held in
      let apart = beside x has in
      leaves_two s t (Follows (ChangesOnly among) s.images) (HasAlike x) (HasBatched settings (just 0 0) x records) stops leaves
      (λ image from one. record {
        state = one.state;
        has = one.has;
        records = records;
        live = record {
          urls = live_as was.urls urls_base settings.buckets records.urls image has.base refl
              (live_stay among s.images was.urls x.urls law held.urls.urls_hold apart.0 records.urls image have.urls from);
          pairs = live_as has.ledger.pairs pairs_base settings.buckets records.pairs image has.pairs_base_is (ap (λ (p : Settings). p.buckets) has.settings)
              (live_stay among s.images has.ledger.pairs x.pairs has.pairs_law has.pairs apart.1 records.pairs image (have.pairs has.ledger has.is) from);
        };
        come = come_alike settings x one.state records one.alike;
      })

  kept_at : (files : Files) → s.files ≡ Some files → (x y : State) (records : Records) → HoldsState s.images was x → HoldsState t.images now y → HaveBoth s.images was records → IsAlike x y
      → (after : Records) × HaveBoth t.images now after × ComeInBatches settings (just 0 0 0) x y records after
  kept_at files told x y records held last have is =
      let has = bays_in s.images was s.files x law opened crawl held in
      let at = bays_in t.images now t.files y law_now opened_now crawl_now last in
      let apart = beside x has in
      let after = told_on files told in
      let base : at.ledger.pairs.base ≡ has.ledger.pairs.base = at.pairs_base_is ∙ sym has.pairs_base_is in
      let same : at.ledger.pairs.settings ≡ has.ledger.pairs.settings = at.settings ∙ ap (λ (d : Drum). pair_settings d.settings) urls ∙ sym has.settings in (
        records,
        record {
          urls = open_stay among s t was.urls now.urls x.urls y.urls after.0 records.urls law law_now consistent apart.0 stops (ap (λ (d : Drum). d.base) urls) (ap (λ (d : Drum). d.settings) urls)
              held.urls.urls_hold last.urls.urls_hold after.1 have.urls;
          pairs = λ ledger here.
              subst (λ (l : Ledger). HaveRecords t.images l.pairs records.pairs) (one_ledger now.rest at.ledger ledger at.is here)
              (open_stay among s t has.ledger.pairs at.ledger.pairs x.pairs y.pairs after.0 records.pairs has.pairs_law at.pairs_law consistent apart.1 stops base same has.pairs at.pairs after.1
              (have.pairs has.ledger has.is));
        },
        come_alike settings x y records is,
      )

  pub still_batch : Batches failed (just 0 0) (just 0 0) was now s t
  still_batch = record {
    keeps = λ not files told x y records held last have. kept_at files told x y records held last have (alike not files told x y held last);
    stops = λ files told x records held have. left_at x records held have (left files told x held);
  }

-- ---- the states
-- one of two that a call leaves by its answer
module _ {A : Type 0} (result : Result A Fault) (x z : State) (t : Told) (now : Parts) (done : OnOk result (HoldsState t.images now z)) (memory : IsErrOf result Memory → HoldsState t.images now x)
    (full : (n : ℕ) → IsErrOf result (Full n) → ⊥) (damaged : (f at : ℕ) → IsErrOf result (Damaged f at) → HoldsState t.images now x) where
  either_by : (r : Result A Fault) → result ≡ r → (IsErrOf result Failed → ⊥) → HoldsState t.images now x ⊎ HoldsState t.images now z
  either_by (Ok value) is not = inr (subst (λ (r : Result A Fault). OnOk r (HoldsState t.images now z)) is done)
  either_by (Err Failed) is not = absurd (not is)
  either_by (Err Memory) is not = inl (memory is)
  either_by (Err (Full n)) is not = absurd (full n is)
  either_by (Err (Damaged f at)) is not = inl (damaged f at is)

  pub either_held : (IsErrOf result Failed → ⊥) → HoldsState t.images now x ⊎ HoldsState t.images now z
  either_held not = either_by result refl not

  -- so the one that is held is alike, where that of Ok is
  pub alike_held : (files : Files) → IsConsistent t → IsDrum now.urls → t.files ≡ Some files → (IsErrOf result Failed → ⊥) → IsAlike x z → (y : State) → HoldsState t.images now y → IsAlike x y
  alike_held files consistent law told not alike y last =
      ⊎_elim
      (λ same. subst (IsAlike x) (held_one t now x y files consistent law told same.urls last.urls) (alike_same x))
      (λ other. subst (IsAlike x) (held_one t now z y files consistent law told other.urls last.urls) alike)
      (either_held not)

  pub on_held : (IsErrOf result Failed → ⊥) → IsFrontState x z → (y : State) × HoldsState t.images now y × IsFrontState x y
  on_held not front = ⊎_elim (λ same. (x, same, state_same x)) (λ other. (z, other, front)) (either_held not)

-- a stop leaves one of two states
pub left_either : (s t : Told) (x z : State) → IsAlike x z → Leaves s t (HasOneOf x z) → Leaves s t (HasAlike x)
left_either s t x z alike leaves =
    widens s t (HasOneOf x z) (HasAlike x) leaves
    (λ image has. ⊎_elim (λ same. record { state = x; has = same; alike = alike_same x }) (λ other. record { state = z; has = other; alike = alike }) has)

-- only the log changes
pub log_only : (s t : Told) → LeavesBy (ChangesFile crawl_file (λ _ _. ⊤)) s t → LeavesBy (ChangesOnly (λ f. f ≡ crawl_file)) s t
log_only s t stops = widens_by s t (ChangesFile crawl_file (λ _ _. ⊤)) (ChangesOnly (λ f. f ≡ crawl_file)) stops (λ old new changes f out. changes.others f out)

pub log_told : (s t : Told) → TellsBy (ChangesFile crawl_file (λ _ _. ⊤)) s.files t.files → (files : Files) → s.files ≡ Some files → (after : Files) × (t.files ≡ Some after)
log_told s t tells files told =
    let has = subst (λ (o : Option Files). TellsBy (ChangesFile crawl_file (λ _ _. ⊤)) o t.files) told tells in
    (has.0, has.1)

log_apart : (images : Files → Type 0) (parts : Parts) (x : State) (has : HasBays images parts x) → AreBeside (λ f. f ≡ crawl_file) parts.urls × AreBeside (λ f. f ≡ crawl_file) has.ledger.pairs
log_apart images parts x has = (log_beside images parts x has, log_no_pairs images parts x has)

module _ {S : Type 0} (told : S → Told) (lawful : (s : S) → IsConsistent (told s)) (was now : Parts) (before after : S) (opened : IsOpenRest was.urls was.rest (told before).files)
    (opened_now : IsOpenRest now.urls now.rest (told after).files) (law : IsDrum was.urls) (crawl : HasLedger was.rest) where
  abbrev s : Told
  s = told before

  abbrev t : Told
  t = told after

  -- where a call that added an event, or notes, changed nothing it holds what it held
  same_held : (x : State) → (after ≡ before) × (now ≡ was) → HoldsState s.images was x → HoldsState t.images now x
  same_held x same held = subst (λ (a : S). HoldsState (told a).images now x) (sym same.0) (subst (λ (p : Parts). HoldsState s.images p x) (sym same.1) held)

  module _ (result : Result Unit Fault) (event : Event) (adds : AddsEvent told result event was now before after) (crawl_now : HasLedger now.rest) where
    law_event : IsDrum now.urls
    law_event = subst IsDrum (sym adds.urls) law

    done_event : (x : State) → HoldsState s.images was x → OnOk result (HoldsState t.images now (with_event event [] x))
    done_event x held = ok_weaker result adds.holds (λ holds. holds x held)

    told_event : (files : Files) → s.files ≡ Some files → (later : Files) × (t.files ≡ Some later)
    told_event files is = log_told s t adds.others.told files is

    alike_by_event : (IsErrOf result Failed → ⊥) → StaysAlike s was t now
    alike_by_event not files is x y held last =
        let later = told_event files is in
        alike_held result x (with_event event [] x) t now (done_event x held) (λ memory. same_held x (adds.memory memory) held) adds.full (λ f at damage. absurd (adds.damaged f at damage))
        later.0 (lawful after) law_event later.1 not (alike_event event [] x) y last

    pub event_batch : Batches (IsErrOf result Failed) (just 0 0) (just 0 0) was now s t
    event_batch =
        still_batch (IsErrOf result Failed) (λ f. f ≡ crawl_file) was now s t opened opened_now law (lawful after) crawl crawl_now adds.urls (λ x has. log_apart s.images was x has)
        (log_only s t adds.others.stops) told_event alike_by_event (λ files is x held. left_either s t x (with_event event [] x) (alike_event event [] x) (adds.stops x held))

    pub event_on : HoldsOn (IsErrOf result Failed) was now s t
    event_on = record {
      held = λ not files is x held.
          on_held result x (with_event event [] x) t now (done_event x held) (λ memory. same_held x (adds.memory memory) held) adds.full (λ f at damage. absurd (adds.damaged f at damage)) not
          (event_front event [] x);
      told = told_event;
      settings = ap (λ (d : Drum). d.settings) adds.urls;
    }

    -- at Ok the event is there
    pub event_there : (value : Unit) → result ≡ Ok value → (files : Files) → t.files ≡ Some files → (x y : State) → HoldsState s.images was x → HoldsState t.images now y → y ≡ with_event event [] x
    event_there value is files here x y held last =
        let holds = ok_gives result value (done_event x held) is in
        held_one t now y (with_event event [] x) files (lawful after) law_event here last.urls holds.urls

  module _ (result : Result Unit Fault) (notes : List Note) (adds : AddsNotes told result notes was now before after) (crawl_now : HasLedger now.rest) where
    law_notes : IsDrum now.urls
    law_notes = subst IsDrum (sym adds.urls) law

    done_notes : (x : State) → HoldsState s.images was x → OnOk result (HoldsState t.images now (with_notes notes x))
    done_notes x held = ok_weaker result adds.holds (λ holds. holds x held)

    told_notes : (files : Files) → s.files ≡ Some files → (later : Files) × (t.files ≡ Some later)
    told_notes files is = log_told s t adds.others.told files is

    alike_by_notes : (IsErrOf result Failed → ⊥) → StaysAlike s was t now
    alike_by_notes not files is x y held last =
        let later = told_notes files is in
        alike_held result x (with_notes notes x) t now (done_notes x held) (λ memory. same_held x (adds.memory memory) held) adds.full (λ f at damage. absurd (adds.damaged f at damage))
        later.0 (lawful after) law_notes later.1 not (alike_notes notes x) y last

    pub notes_batch : Batches (IsErrOf result Failed) (just 0 0) (just 0 0) was now s t
    notes_batch =
        still_batch (IsErrOf result Failed) (λ f. f ≡ crawl_file) was now s t opened opened_now law (lawful after) crawl crawl_now adds.urls (λ x has. log_apart s.images was x has)
        (log_only s t adds.others.stops) told_notes alike_by_notes (λ files is x held. left_either s t x (with_notes notes x) (alike_notes notes x) (adds.stops x held))

    pub notes_on : HoldsOn (IsErrOf result Failed) was now s t
    notes_on = record {
      held = λ not files is x held.
          on_held result x (with_notes notes x) t now (done_notes x held) (λ memory. same_held x (adds.memory memory) held) adds.full (λ f at damage. absurd (adds.damaged f at damage)) not
          (alike_notes notes x).front;
      told = told_notes;
      settings = ap (λ (d : Drum). d.settings) adds.urls;
    }

  module _ (result : Result ℕ Fault) (passes : PassesState told result was now before after) (crawl_now : HasLedger now.rest) where
    law_pass : IsDrum now.urls
    law_pass = subst IsDrum (sym passes.urls) law

    told_pass : (files : Files) → s.files ≡ Some files → (later : Files) × (t.files ≡ Some later)
    told_pass files is = log_told s t passes.others.told files is

    alike_pass : (x : State) → IsAlike x (with_pass was.urls.settings x)
    alike_pass x = alike_event _ _ x

    alike_by_pass : (IsErrOf result Failed → ⊥) → StaysAlike s was t now
    alike_by_pass not files is x y held last =
        let later = told_pass files is in
        alike_held result x (with_pass was.urls.settings x) t now (ok_weaker result passes.holds (λ holds. holds files is x held)) (λ memory. passes.memory memory x held) passes.full
        (λ f at damage. passes.damaged f at damage x held) later.0 (lawful after) law_pass later.1 not (alike_pass x) y last

    pub pass_batch : Batches (IsErrOf result Failed) (just 0 0) (just 0 0) was now s t
    pass_batch =
        still_batch (IsErrOf result Failed) (λ f. f ≡ crawl_file) was now s t opened opened_now law (lawful after) crawl crawl_now passes.urls (λ x has. log_apart s.images was x has)
        (log_only s t passes.others.stops) told_pass alike_by_pass (λ files is x held. left_either s t x (with_pass was.urls.settings x) (alike_pass x) (passes.stops x held))

-- ---- calls that only look
-- no file changes, and each state that was held is held
pub looks_batch : (failed : Type 0) (was now : Parts) (s t : Told) → IsOpenRest was.urls was.rest s.files → IsOpenRest now.urls now.rest t.files → IsDrum was.urls → IsConsistent t → HasLedger was.rest
    → HasLedger now.rest
    → now.urls ≡ was.urls → LeavesSame s t → t.files ≡ s.files → ((x : State) → HoldsState s.images was x → HoldsState t.images now x) → Batches failed (just 0 0) (just 0 0) was now s t
looks_batch failed was now s t opened opened_now law consistent crawl crawl_now urls same files_same holds =
    still_batch failed (λ f. ⊥) was now s t opened opened_now law consistent crawl crawl_now urls (λ x has. ((λ f no of. no), (λ f no of. no)))
    (same_by s t (ChangesOnly (λ f. ⊥)) (λ image f out. refl) same) (λ files told. (files, files_same ∙ told))
    (λ not files told x y held last.
    subst (IsAlike x) (held_one t now x y files consistent (subst IsDrum (sym urls) law) (files_same ∙ told) (holds x held).urls last.urls) (alike_same x))
    (λ files told x held. widens s t s.images (HasAlike x) same (λ image at. record { state = x; has = held_has s.images was.urls x image law held.urls at; alike = alike_same x }))
