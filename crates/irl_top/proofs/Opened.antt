-- A run over a store that was opened.
use Rattle.std.proofs.Common.{◌≡◌, ◌≢◌, ◌∙◌, inl, inr, ⊎_elim, ℕ, ◌+◌, ◌-◌, ◌<◌, ◌≤◌, List, [], ◌++◌, length, Option, None, Some, refl, sym, ap, subst, append-nil, arith}
use Rattle.std.specs.Option.{ForSome}
use Rattle.std.specs.Io.KnownBytes.{Appends}
use Rattle.irl_base.specs.Faults.{HasCause}
use Rattle.irl_offer.specs.Settings.{settings_of}
use Rattle.irl_offer.specs.Tuple.{Tuple}
use Rattle.irl_offer.specs.declared.settings.Asked.{Asked}
use Rattle.irl_offer.specs.declared.settings.Kind.{Kind}
use Rattle.irl_offer.specs.declared.settings.Kind.TheVariants.{Lines, Tuples, Crawl}
use Rattle.irl_offer.specs.declared.settings.Settings.{Settings}
use Rattle.irl_model.specs.Book.{Book, IsPrefixOf, part}
use Rattle.irl_events.specs.State.{State, IsFrontState}
use Rattle.irl_disk.specs.Disk.{Files, TellsOnly, TellsBy, ChangesOnly}
use Rattle.irl_disk.specs.Images.{Told, IsConsistent, Leaves, LeavesBy}
use Rattle.irl_disk.proofs.Stretches.{widens, joins, left_now}
use Rattle.irl_layout.specs.BayFiles.{file_of, IsFileOf, IsPartOf}
use Rattle.irl_layout.specs.declared.files.BayFile.TheVariants.{Manifest, Cache, Judged, Texts, Journal, Aux}
use Rattle.irl_layout.specs.declared.files.BayFile.{BayFile}
use Rattle.irl_layout.specs.Commits.{HasLiveRecords}
use Rattle.irl_bay.specs.Drum.{Drum, IsDrum}
use Rattle.irl_bay.specs.Holding.{Holds}
use Rattle.irl_bay.specs.Making.{IsJournalOf}
use Rattle.irl_bay.proofs.BatchWrites.{tells_wide, tells_only}
use Rattle.irl_bay.proofs.Staying.{tells_both, leaves_both, only_wider}
use Rattle.irl_head.specs.StoreFiles.{urls_base}
use Rattle.irl_yard.specs.Standing.{HasState, with_urls}
use Rattle.irl_yard.specs.Holding.{HoldsUrls, HasOneOf, HasLiveJournal}
use Rattle.irl_yard.specs.Lifting.{HasStateBetween}
use Rattle.irl_head.specs.Asking.{Agrees}
use Rattle.irl_head.specs.Opening.{HasSettings, IsNotOursAt}
use Rattle.irl_yard.specs.Opening.{IsStoreDamagedAt, entered_state}
use Rattle.irl_yard.specs.Entering.{Enters, IsStoreJournal, IsToldJournal}
use Rattle.irl_head.proofs.SettingNumbers.{count_small}
use Rattle.irl_yard.proofs.States.{state_both, entered_front}
use Rattle.irl_yard.proofs.Entering.{enters_records}
use Rattle.irl_yard.proofs.ByKind.{agrees_plain, plain_follows}
use Rattle.irl_yard.proofs.Journals.{one_journal, records_stand}
use Rattle.irl_yard.proofs.Lifting.{fronts_lifted, lifts_books}
use Rattle.irl_schedule.specs.Schedule.{one_more, HasJournal, HaveRecords, LeavesUneven, uneven_records}
use Rattle.irl_schedule.specs.Feeding.{Grows, list_at, length_at, handed_in}
use Rattle.irl_schedule.proofs.Between.{grows_between}
use Rattle.irl_schedule.proofs.Chains.{grows_same, grows_more}
use Rattle.irl_schedule.proofs.Journals.{left_records}
use Rattle.irl_schedule.proofs.Steps.{choose}
use Rattle.irl_top.specs.declared.line.LineKind.{LineKind}
use Rattle.irl_top.specs.Input.{offered}
use Rattle.irl_top.specs.Outside.{Lent}
use Rattle.irl_top.specs.Records.{AddsUnevenAt, AddsUnevenRecords}
use Rattle.irl_top.specs.Run.{line_task, settings_in, Reaches, HasReached, TakesIn, Extends, Ran, IsStoreFile}
use Rattle.irl_top.specs.Opened.{IsOpenable}
use Rattle.irl_top.specs.Printed.{before_last, judged_count}
use Rattle.irl_top.specs.Session.{Place, HoldsAt, ArePrinted, unprinted, Ends, EndsWith, HasReason, HasRead}
use Rattle.irl_top.specs.Stream.{Stream}
use Rattle.irl_top.specs.declared.ending.Ending.{Ending}
use Rattle.irl_top.specs.declared.ending.Ending.TheVariants.{Done, LineRefused, InputFault, OutputFault}
use Rattle.irl_top.proofs.Going.{judged_number}
use Rattle.irl_top.proofs.Unprinted.{earlier_few}
use Rattle.irl_top.proofs.Growing.{starts, settings_entered, adds_some}

-- ---- files
-- entering changes only files of the store
journal_of_store : (buckets f : ℕ) → buckets ≤ 64 → IsJournalOf urls_base buckets f → IsStoreFile f
journal_of_store buckets f small (inl manifest) = inr (Manifest, tt, manifest)
journal_of_store buckets f small (inr (side, b, low, within, is)) = inr (Journal side b, (low, omega (arith, within, small)), is)

-- a store that isn't a crawl's has no other journal
store_journal : (kind : Kind) (buckets f : ℕ) → kind ≢ Crawl → buckets ≤ 64 → IsStoreJournal kind buckets f → IsStoreFile f
store_journal kind buckets f plain small (inl head) = inl head
store_journal kind buckets f plain small (inr (inl journal)) = journal_of_store buckets f small journal
store_journal Lines buckets f plain small (inr (inr none)) = absurd none
store_journal Tuples buckets f plain small (inr (inr none)) = absurd none
store_journal Crawl buckets f plain small (inr (inr other)) = absurd (plain refl)

told_journal : (asked : Asked) (told : Option Files) (f : ℕ) → asked.kind ≢ Crawl → IsToldJournal asked told f → IsStoreFile f
told_journal asked told f plain (inl head) = inl head
told_journal asked told f plain (inr (settings, valid, agrees, has, journal)) =
    store_journal settings.kind settings.buckets f (agrees_plain asked settings agrees plain) (count_small _ valid.buckets) journal

pub enters_only : (asked : Asked) (told : Option Files) (old new : Files) → asked.kind ≢ Crawl → Enters asked told old new → ChangesOnly IsStoreFile old new
enters_only asked told old new plain (inl opens) = λ f not. ⊎_elim (λ same. same) (λ opened. absurd (not (told_journal asked told f plain opened.0))) (opens f)
enters_only asked told old new plain (inr (blank, valid, makes)) = λ f not. makes.others f (λ journal.
    not (store_journal (settings_of asked).kind (settings_of asked).buckets f plain (count_small _ valid.buckets) journal))

pub enters_told : (asked : Asked) (told old new : Option Files) → asked.kind ≢ Crawl → TellsBy (Enters asked told) old new → TellsOnly IsStoreFile old new
enters_told asked told old new plain tells = tells_only IsStoreFile old new (tells_wide (Enters asked told) (ChangesOnly IsStoreFile) old new (λ x y. enters_only asked told x y plain) tells)

pub enters_stops : (asked : Asked) (told : Option Files) (old new : Told) → asked.kind ≢ Crawl → LeavesBy (Enters asked told) old new → LeavesBy (ChangesOnly IsStoreFile) old new
enters_stops asked told old new plain steps = widens old new _ _ steps (λ image from. (from.0, from.1, enters_only asked told from.0 image plain from.2))

pub part_wider : (buckets : ℕ) (p : BayFile) → buckets ≤ 64 → IsPartOf buckets p → IsPartOf 64 p
part_wider buckets Manifest small is = tt
part_wider buckets (Cache side) small is = is
part_wider buckets Judged small is = tt
part_wider buckets Texts small is = tt
part_wider buckets (Journal side b) small is = (is.0, omega (arith, small, is.1))
part_wider buckets (Aux side b) small is = (is.0, omega (arith, small, is.1))

bay_of_store : (base buckets f : ℕ) → base ≡ urls_base → buckets ≤ 64 → IsFileOf base buckets f → IsStoreFile f
bay_of_store base buckets f base_is small is = inr (is.0, part_wider buckets is.0 small is.1, is.2 ∙ ap (λ (n : ℕ). file_of n 0 is.0) base_is)

-- ---- records
-- each bucket of a bay has some
pub some_records : (images : Files → Type 0) (drum : Drum) (book : Book) → Holds images drum book → (records : ℕ → List (List ℕ)) × HaveRecords images drum records
some_records images drum book holds =
    choose drum.settings.buckets (λ b payloads. HasJournal images drum b payloads) (λ b within.
    let bucket = holds.buckets b (subst (λ (n : ℕ). b < n) (sym holds.book_is.buckets) within) in
    (_, bucket.journal))

-- the records that a bay's live journals have, over those that they had before the store was entered
pub uneven_at : (base n buckets array : ℕ) (old mid image : Files) (was now : ℕ → List (List ℕ))
    → ((b : ℕ) → b < 64 → (records : List (List ℕ)) → HasLiveJournal base buckets b records old → HasLiveJournal base buckets b records mid)
    → ((b : ℕ) → b < buckets → HasLiveRecords base buckets b (was b) mid) → ((b : ℕ) → b < buckets → HasLiveRecords base buckets b (now b) image)
    → ((b : ℕ) → b < buckets → uneven_records array (now b) ≤ uneven_records array (was b) + n) → AddsUnevenAt base n buckets array old image
uneven_at base n buckets array old mid image was now enters held left adds = λ b within small records journal.
    let same : records ≡ was b = one_journal base buckets b records (was b) mid (enters b small records journal) (records_stand base buckets b (was b) mid (held b within)) in
    (now b, records_stand base buckets b (now b) image (left b within), omega (arith, adds b within, ap (λ (l : List (List ℕ)). uneven_records array l) same))

-- ---- what entering says of a store that was opened
pub record IsEntered (asked : Asked) (before : Lent) (old : Place) : Type 0 where
  pub kind : asked.kind ≢ Crawl
  pub holds : ForSome before.store.files (λ files. (x : State) → HasState x files → HoldsUrls old.moment.store.images old.moment.drum (entered_state asked x))
  pub drum : IsDrum old.moment.drum
  pub base : old.moment.drum.base ≡ urls_base
  pub settings : ForSome before.store.files (λ files. HasSettings asked files old.moment.drum.settings)
  pub agrees : Agrees asked old.moment.drum.settings
  pub ours : ForSome before.store.files (λ files. (at : ℕ) → IsNotOursAt files at → ⊥)
  pub undamaged : ForSome before.store.files (λ files. (f at : ℕ) → IsStoreDamagedAt asked files f at → ⊥)
  pub files : TellsBy (Enters asked before.store.files) before.store.files old.moment.store.files
  pub steps : LeavesBy (Enters asked before.store.files) before.store old.moment.store
  pub stops : (x : State) → ((image : Files) → before.store.images image → HasState x image) → Leaves before.store old.moment.store (HasOneOf x (entered_state asked x))
  pub disk : before.store.faults ≤ old.moment.store.faults
  pub output : old.output ≡ before.output
  pub printed : old.printed ≡ old.moment.drum.last.judged
  pub empty : (b : ℕ) → old.moment.waits b ≡ []

tells_from : (step : Files → Files → Type 0) (old new : Option Files) (files : Files) → TellsBy step old new → old ≡ Some files → (after : Files) × (new ≡ Some after) × step files after
tells_from step None new files tells told = let no : ⊥ = cc in absurd no
tells_from step (Some was) new files tells told = let same : was ≡ files = cc in (tells.0, tells.1, subst (λ (f : Files). step f tells.0) same tells.2)

-- the records that a live journal of a joint image has, over those that it had before the store was entered
uneven_from : (asked : Asked) (before : Lent) (old : Place) (files image : Files) (x : State) (y : Book) (was : ℕ → List (List ℕ)) → IsConsistent old.moment.store → IsEntered asked before old
    → before.store.files ≡ Some files → HasState x files → HoldsAt old y
    → HaveRecords old.moment.store.images old.moment.drum was → LeavesUneven one_more old.moment.drum was image
    → AddsUnevenRecords 1 old.moment.drum.settings.buckets old.moment.drum.settings.array files image
uneven_from asked before old files image x y was law entered told has holds have left =
    let urls = old.moment.drum in
    let after = tells_from (Enters asked before.store.files) before.store.files old.moment.store.files files entered.files told in
    let at_base = λ (b : ℕ) (payloads : List (List ℕ)) (f : Files) (live : HasLiveRecords urls.base urls.settings.buckets b payloads f).
    subst (λ (n : ℕ). HasLiveRecords n urls.settings.buckets b payloads f) entered.base live in
    uneven_at urls_base 1 urls.settings.buckets urls.settings.array files after.0 image was left.0
    (λ b small records journal. enters_records asked before.store.files files x files after.0 urls.settings.buckets b records told has has after.2 small journal)
    (λ b within. at_base b (was b) after.0 (left_records old.moment.store.images urls y entered.drum holds b (was b) after.0 within (have b within) (law.told after.0 after.1)))
    (λ b within. at_base b (left.0 b) image (left.1 b within)) left.2

-- ---- over a store that stands for a state
abbrev pub lent_at : Place → Stream → Lent
lent_at new input = record { store = new.moment.store; input = input; output = new.output }

-- what entering makes of a state is one that a run may leave
pub reaches_entered : (asked : Asked) (x : State) → Reaches asked x (entered_state asked x)
reaches_entered asked x =
    let y = entered_state asked x in
    inr (refl, grows_more (settings_in asked x) 0 1 y.urls y.urls (omega arith) (grows_same (settings_in asked x) y.urls))

reaches_later : (asked : Asked) (x : State) (settings : Settings) (book : Book) → settings ≡ settings_in asked x → Grows settings 1 (entered_state asked x).urls book
    → Reaches asked x (with_urls book (entered_state asked x))
reaches_later asked x settings book same grows = inr (refl, subst (λ (s : Settings). Grows s 1 (entered_state asked x).urls book) same grows)

reached : (asked : Asked) (settings : Settings) (x : State) (most : Book) (image : Files) → settings ≡ settings_in asked x → Grows settings 1 (entered_state asked x).urls most
    → HasStateBetween settings (entered_state asked x) (entered_state asked x).urls most image → HasReached asked x (with_urls most (entered_state asked x)) image
reached asked settings x most image same grows between =
    let y = entered_state asked x in (
      with_urls between.0 y,
      between.1,
      reaches_later asked x settings between.0 same (grows_between settings 1 y.urls between.0 most between.2 between.3 between.4 grows),
      fronts_lifted y between.0 most between.3,
    )

pub reached_entering : (asked : Asked) (x most : State) (image : Files) → IsFrontState (entered_state asked x) most → HasOneOf x (entered_state asked x) image → HasReached asked x most image
reached_entering asked x most image front (inl has) = (x, has, inl refl, state_both x (entered_state asked x) most (entered_front asked x) front)
reached_entering asked x most image front (inr has) = (entered_state asked x, has, reaches_entered asked x, front)

-- entering adds no record
pub entered_uneven : (asked : Asked) (before : Lent) (new : Told) (files : Files) (x : State) (buckets array : ℕ) → before.store.files ≡ Some files → HasState x files
    → ((image : Files) → before.store.images image → HasState x image) → LeavesBy (Enters asked before.store.files) before.store new
    → LeavesBy (AddsUnevenRecords 1 buckets array) before.store new
entered_uneven asked before new files x buckets array told has each steps = widens before.store new _ _ steps (λ image from. (
  from.0,
  from.1,
  λ b within small records journal. (records, enters_records asked before.store.files files x from.0 image buckets b records told has (each from.0 from.1) from.2 small journal, omega arith),
))

-- what is taken in of an input
takes_in : (kind : LineKind) (asked : Asked) (old : Place) (new : Place) (news : List Tuple) (ending : Ending) (x : State) (input : List ℕ)
    (e : Ends kind 1 one_more news old new ending (entered_state asked x).urls) → old.moment.drum.settings ≡ settings_in asked x
    → ((b : ℕ) → list_at (entered_state asked x).urls b ≡ list_at x.urls b)
    → ((b : ℕ) → old.moment.waits b ≡ []) → IsPrefixOf news (offered kind input) → (ending ≡ Done → news ≡ offered kind input)
    → ((n : ℕ) → ending ≡ LineRefused n → news ≡ offered kind input) → TakesIn (line_task kind asked) x (with_urls e.kept (entered_state asked x)) input ending
takes_in kind asked old new news ending x input e same lists empty prefix done line = record {
  news = news;
  read = prefix;
  waiting = e.waits;
  few = subst (λ (s : Settings). (b : ℕ) → b < s.buckets → length (e.waits b) ≤ s.array) same e.few;
  keeps = subst (λ (s : Settings). (b : ℕ) → b < s.buckets → list_at e.kept b ++ e.waits b ≡ list_at x.urls b ++ part s.buckets b news) same
      (λ b within. e.keeps b within ∙ ap (λ (l : List Tuple). l ++ part old.moment.drum.settings.buckets b news) (ap (λ (l : List Tuple). list_at (entered_state asked x).urls b ++ l) (empty b)
      ∙ append-nil (list_at (entered_state asked x).urls b) ∙ lists b));
  whole = λ is. ⊎_elim done (λ (l : (n : ℕ) × (ending ≡ LineRefused n)). line l.0 l.1) is;
  none = λ is b within. (e.done is).0 b;
  full = λ b is. let f = e.full b is in (f.1, subst (λ (s : Settings). s.cap < length_at e.kept b + length (e.waits b)) same f.2);
}

pub extends_opened : (kind : LineKind) (asked : Asked) (before : Lent) (old new : Place) (input : Stream) (news : List Tuple) (ending : Ending) (files : Files) (x : State) → IsConsistent before.store
    → IsConsistent old.moment.store → IsConsistent new.moment.store → IsEntered asked before old → HasReason old new ending → HasRead kind news before.input.bytes input.bytes ending
    → before.store.files ≡ Some files → HasState x files → Ends kind 1 one_more news old new ending (entered_state asked x).urls
    → HoldsUrls old.moment.store.images old.moment.drum (entered_state asked x) → Extends (line_task kind asked) before (lent_at new input) ending x
extends_opened kind asked before old new input news ending files x law_before law_old law_new entered reason read told has e holds =
    let y = entered_state asked x in
    let was_settings = old.moment.drum.settings in
    let same : was_settings ≡ settings_in asked x = settings_entered asked x was_settings holds.settings in
    let start = starts asked x files has in
    let none : (b : ℕ) → handed_in y.urls old.moment.waits b ≡ list_at y.urls b ++ [] = λ b. ap (λ (l : List Tuple). list_at y.urls b ++ l) (entered.empty b) in
    let records = some_records old.moment.store.images old.moment.drum y.urls holds.urls_hold in
    let was = records.0 in
    let have = records.1 in
    let leaves = e.strands.records_stop was have in
    let lifts = lifts_books y old.moment new.moment law_new entered.drum holds reason.stays in
    let follows = λ (book : Book). plain_follows was_settings.kind y.urls book (agrees_plain asked was_settings entered.agrees entered.kind) in
    let stops = lifts.stops y.urls e.strands.most (follows y.urls) (follows e.strands.most) e.strands.stops in
    let stopped : ((image : Files) → before.store.images image → HasState x image) → Leaves before.store new.moment.store (HasReached asked x (with_urls e.strands.most y)) = λ each.
    joins before.store old.moment.store new.moment.store (HasReached asked x (with_urls e.strands.most y))
    (widens before.store old.moment.store _ _ (entered.stops x each) (λ image one.
    reached_entering asked x (with_urls e.strands.most y) image (lifts.fronts y.urls e.strands.most e.strands.may_grow.front) one))
    (widens old.moment.store new.moment.store _ _ stops (λ image left. reached asked was_settings x e.strands.most image same e.strands.may_grow left)) in
    let printed : old.printed ≡ judged_count x.urls = entered.printed ∙ judged_number old y.urls holds.urls_hold ∙ start.count in
    record {
      kept = with_urls e.kept y;
      state = with_urls e.strands.book y;
      most = with_urls e.strands.most y;
      told = lifts.told e.strands.book (follows e.strands.book) e.strands.told;
      reaches = (
        reaches_later asked x was_settings e.kept same e.grows,
        reaches_later asked x was_settings e.strands.book same e.strands.grows,
        reaches_later asked x was_settings e.strands.most same e.strands.may_grow,
      );
      fronts = (lifts.fronts e.kept e.strands.book e.front, lifts.fronts e.strands.book e.strands.most e.strands.front);
      legal = (
        inr (was_settings, lifts.legal e.kept (follows e.kept) e.legal),
        inr (was_settings, lifts.legal e.strands.most (follows e.strands.most) e.strands.legal),
      );
      settled = λ fine.
          let is = e.settled fine in
          (ap (λ (b : Book). with_urls b y) is.0, ap (λ (b : Book). with_urls b y) is.1);
      entered = λ late. holds.settings ∙ ap (λ (s : Settings). Some s) same;
      takes = λ bytes tells. takes_in kind asked old new news ending x bytes e same start.lists entered.empty (read.offers bytes tells) (λ is. (read.done is bytes tells).0) (λ n is.
          (read.line n is bytes tells).0);
      lists = λ bytes tells. subst (λ (s : Settings). (b : ℕ) → b < s.buckets → (more : List Tuple) × (list_at e.strands.most b ≡ list_at x.urls b ++ more)
          × IsPrefixOf more (part s.buckets b (offered kind bytes))) same (λ b within.
          let takes = subst (λ (l : List Tuple). IsPrefixOf (list_at e.strands.most b) (l ++ part was_settings.buckets b news)) (none b) (e.strands.takes b within) in
          let some = adds_some was_settings.buckets b y.urls e.strands.most news (offered kind bytes) e.strands.may_grow.front takes (read.offers bytes tells) in
          (some.0, some.1 ∙ ap (λ (l : List Tuple). l ++ some.0) (start.lists b), some.2));
      judged = λ is. (e.done is).1;
      full = λ b is.
          let f = e.full b is in
          let few = e.few b f.0 in
          subst (λ (s : Settings). (b < s.buckets) × (s.cap < length_at e.kept b + s.array)) same (f.0, omega (arith, f.2, few));
      text = e.text;
      written = subst (λ (s : Stream). Appends s.bytes new.output.bytes e.text) entered.output e.written;
      prints = subst (λ (p : ℕ). IsPrefixOf e.text (unprinted kind p e.kept)) printed e.prints;
      prints_all = λ is. e.prints_all is ∙ ap (λ (p : ℕ). unprinted kind p e.kept) printed;
      printed_before = subst (λ (p : ℕ). IsPrefixOf (unprinted kind p (before_last e.strands.most)) e.text) printed e.printed_before;
      records = λ old_files is_old new_files is_new.
          let same_files : files ≡ old_files = cc in
          subst (λ (f : Files). AddsUnevenRecords 1 (settings_in asked x).buckets (settings_in asked x).array f new_files) same_files
          (subst (λ (s : Settings). AddsUnevenRecords 1 s.buckets s.array files new_files) same
          (uneven_from asked before old files new_files x y.urls was law_old entered told has holds.urls_hold have
          (left_now old.moment.store new.moment.store _ law_new leaves new_files (law_new.told new_files is_new))));
      stops = stopped;
      records_stop = λ each. subst (λ (s : Settings). LeavesBy (AddsUnevenRecords 1 s.buckets s.array) before.store new.moment.store) same
          (joins before.store old.moment.store new.moment.store _ (entered_uneven asked before old.moment.store files x was_settings.buckets was_settings.array told has each entered.steps)
          (widens old.moment.store new.moment.store _ _ leaves (λ image left. (
            files,
            law_before.told files told,
            uneven_from asked before old files image x y.urls was law_old entered told has holds.urls_hold have left,
          ))));
      stops_any = joins before.store old.moment.store new.moment.store _ (widens before.store old.moment.store _ _ entered.steps (λ image from. inl from))
          (widens old.moment.store new.moment.store _ _ stops (λ image left. inr (reached asked was_settings x e.strands.most image same e.strands.may_grow left)));
      now = λ why image left.
          let between = lifts.now e.kept e.strands.most image (follows e.kept) (follows e.strands.most) left (e.now image left) in
          (with_urls between.0 y, between.1, lifts.fronts e.kept between.0 between.2, lifts.fronts between.0 e.strands.most between.3);
    }

pub ran_opened : (kind : LineKind) (asked : Asked) (before : Lent) (old new : Place) (input : Stream) (news : List Tuple) (ending : Ending) → IsConsistent before.store → IsConsistent old.moment.store
    → IsConsistent new.moment.store → IsDrum new.moment.drum → IsEntered asked before old → HasReason old new ending → HasRead kind news before.input.bytes input.bytes ending
    → HasCause (ending ≡ InputFault) before.input.faults input.faults → EndsWith kind 1 one_more news old new ending → Ran (line_task kind asked) before (lent_at new input) ending
ran_opened kind asked before old new input news ending law_before law_old law_new drum entered reason read cause ends =
    let urls = old.moment.drum in
    let small = count_small urls.settings.buckets entered.drum.settings.buckets in
    let openable : ForSome before.store.files (IsOpenable asked) =
    λ files told. record {
      settings = urls.settings;
      has = entered.settings files told;
      valid = entered.drum.settings;
      agrees = entered.agrees;
      ours = entered.ours files told;
      undamaged = entered.undamaged files told;
    } in
    let held : (files : Files) (x : State) → before.store.files ≡ Some files → HasState x files → (opened : Files) × (old.moment.store.files ≡ Some opened)
    × HoldsUrls old.moment.store.images old.moment.drum (entered_state asked x) × ArePrinted old.printed (entered_state asked x).urls = λ files x told has.
    let after = tells_from (Enters asked before.store.files) before.store.files old.moment.store.files files entered.files told in
    let holds = entered.holds files told x has in
    let book = (entered_state asked x).urls in
    let all : old.printed ≡ judged_count book = entered.printed ∙ judged_number old book holds.urls_hold in
    (after.0, after.1, holds, (omega (arith, all, earlier_few (length book.cuts - 1) book holds.urls_hold.book_is.is_book), omega (arith, all))) in
    record {
      extends = λ files told x has.
          let h = held files x told has in
          extends_opened kind asked before old new input news ending files x law_before law_old law_new entered reason read told has (ends h.0 h.1 (entered_state asked x).urls h.2.urls_hold h.3) h.2;
      others = tells_both IsStoreFile before.store.files old.moment.store.files new.moment.store.files
          (enters_told asked before.store.files before.store.files old.moment.store.files entered.kind entered.files)
          (tells_more old.moment.store.files new.moment.store.files reason.stays.others);
      others_stop = leaves_both IsStoreFile before.store old.moment.store new.moment.store law_old (enters_stops asked before.store.files before.store old.moment.store entered.kind entered.steps)
          (widens old.moment.store new.moment.store _ _ reason.stays.others_stop (λ image from.
          (from.0, from.1, only_wider (IsFileOf urls.base urls.settings.buckets) IsStoreFile from.0 image (λ f is. bay_of_store urls.base urls.settings.buckets f entered.base small is) from.2)));
      opened = inl openable;
      unopened = λ is. absurd (reason.opened is);
      unopened_stop = λ is. absurd (reason.opened is);
      read = λ is bytes tells. let r = read.done is bytes tells in (r.1, r.2);
      bad = λ n is. absurd (reason.opened (inl (n, is)));
      bad_asked = λ n is. absurd (reason.opened (inl (n, is)));
      line = λ n is bytes tells. (read.line n is bytes tells).1;
      not_ours = λ at is. absurd (reason.opened (inr (inl (at, is))));
      other = λ n kept wanted is. absurd (reason.opened (inr (inr (n, kept, wanted, is))));
      damaged = λ f at is. inr (
        openable,
        λ files told. record {
          urls = new.moment.drum;
          drum = drum;
          base = reason.stays.base ∙ entered.base;
          settings = subst (λ (s : Settings). ForSome before.store.files (λ was. HasSettings asked was s)) (sym reason.stays.settings) entered.settings;
          long = reason.long f at is files told;
          broken = reason.damaged f at is files told;
        },
      );
      whole = λ f at is files told x has. let h = held files x told has in reason.whole f at is h.0 h.1 (entered_state asked x).urls h.2.urls_hold h.3;
      whole_ours = λ at is. absurd (reason.opened (inr (inl (at, is))));
      disk = record { later = omega (arith, entered.disk, reason.disk.later); rose = λ is. omega (arith, entered.disk, reason.disk.rose is) };
      input = cause;
      output = subst (λ (s : Stream). HasCause (ending ≡ OutputFault) s.faults new.output.faults) entered.output reason.output;
    }
  where
    tells_more : (was now : Option Files) → TellsOnly (IsFileOf old.moment.drum.base old.moment.drum.settings.buckets) was now → TellsOnly IsStoreFile was now
    tells_more None now tells = tells
    tells_more (Some files) now tells = (
      tells.0,
      tells.1,
      only_wider _ IsStoreFile files tells.0 (λ f is.
          bay_of_store old.moment.drum.base old.moment.drum.settings.buckets f entered.base (count_small old.moment.drum.settings.buckets entered.drum.settings.buckets) is) tells.2,
    )
