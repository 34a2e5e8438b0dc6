-- Events more in the log of a crawl, by one append: what they make of the state that an open store holds.
use Rattle.std.proofs.Common.{◌≡◌, ◌∙◌, ◌+◌, ◌⊎◌, inl, inr, ⊎_elim, ℕ, ◌<◌, ◌≤◌, true, List, [], ◌∷◌, ◌++◌, length, take, drop, length-append, length-take-le, Option, Result, Ok, Err, IsOk, IsErrOf, OnOk, OnErr, refl, sym, ap, subst, arith}
use Rattle.std.specs.Prelude.{is_some}
use Rattle.std.specs.Option.{ForSome}
use Rattle.std.proofs.lemmas.List.Concat.{flat_map-append}
use Rattle.irl_base.specs.declared.fault.Fault.{Fault}
use Rattle.irl_base.specs.declared.fault.Fault.TheVariants.{Failed, Memory, Full, Damaged}
use Rattle.irl_offer.specs.declared.settings.Kind.{Kind}
use Rattle.irl_offer.specs.declared.settings.Kind.TheVariants.{Crawl as CrawlKind}
use Rattle.irl_offer.specs.declared.settings.Settings.{Settings}
use Rattle.irl_model.specs.Book.{Book}
use Rattle.irl_events.specs.Events.{Event, Happened}
use Rattle.irl_events.specs.State.{State}
use Rattle.irl_core.specs.States.{begun_with}
use Rattle.irl_disk.specs.Disk.{Files, Changes, ChangesFile, ChangesOnly, TellsOnly}
use Rattle.irl_disk.specs.Effects.{OnlyChanges}
use Rattle.irl_disk.specs.Images.{Told, IsConsistent, Follows, Leaves, LeavesBy}
use Rattle.irl_disk.proofs.Effects.{told_none, told_wider}
use Rattle.irl_disk.proofs.Frames.{told_from}
use Rattle.irl_disk.proofs.Stretches.{left_now, same_by, stays, widens, widens_by}
use Rattle.irl_journal.specs.Appending.{HasAppended, Tail}
use Rattle.irl_journal.specs.Format.{HasRecords, StandsFor, record_text, records_text}
use Rattle.irl_layout.specs.BayFiles.{IsFileOf}
use Rattle.irl_bay.specs.Drum.{Drum, IsDrum}
use Rattle.irl_bay.specs.Holding.{Holds, IsLong}
use Rattle.irl_bay.proofs.Apart.{files_within, holds_beside, long_beside, stands_apart}
use Rattle.irl_head.specs.StoreFiles.{head_file, crawl_file, urls_base, pairs_base}
use Rattle.irl_head.specs.Head.{head_bytes}
use Rattle.irl_log.specs.Appending.{HasOrGainsEvents}
use Rattle.irl_frontier.specs.Frontier.{Frontier}
use Rattle.irl_log.specs.Log.{AreLogged, HasEvents, HoldsLog}
use Rattle.irl_log.specs.Spelling.{log_records, records_of}
use Rattle.irl_ledger.specs.declared.ledger.Ledger.{Ledger}
use Rattle.irl_yard.specs.declared.parts.Parts.{Parts}
use Rattle.irl_yard.specs.declared.parts.Rest.{Rest}
use Rattle.irl_yard.specs.declared.parts.Rest.TheVariants.{Crawl}
use Rattle.irl_ledger.specs.Crawling.{AreCrawlFiles, IsCrawlState, events_of, pair_settings}
use Rattle.irl_ledger.specs.Holding.{FitsBays, HoldsLedger, IsFrontierOf, IsOpenLedger}
use Rattle.irl_ledger.specs.Adding.{AddsAllToLog}
use Rattle.irl_ledger.specs.Noting.{AreWithin, no_notes, note_places, noted_all}
use Rattle.irl_ledger.proofs.Noting.{all_within, places_both}
use Rattle.irl_yard.specs.Holding.{HoldsOpen, HoldsState, HoldsUrls, HasOneOf}
use Rattle.irl_yard.specs.Standing.{HasRest, IsMade, IsRest, IsStateOf}
use Rattle.irl_yard.proofs.Grounds.{made_has}
use Rattle.irl_yard.proofs.Holding.{held_has}
use Rattle.irl_yard.proofs.RestFiles.{few}

-- ---- the events
-- the state with more of them
abbrev pub with_more : List Happened → State → State
with_more more state = record state { events = state.events ++ more }

pub events_both : (events more : List Happened) → events_of (events ++ more) ≡ events_of events ++ events_of more
events_both [] more = refl
events_both (e ∷ es) more = ap (λ (l : List Event). e.0 ∷ l) (events_both es more)

-- ---- the files
abbrev IsLog : ℕ → Type 0
IsLog f = f ≡ crawl_file

urls_apart : (base buckets f : ℕ) → base ≡ urls_base → buckets ≤ 64 → IsFileOf base buckets f → IsLog f → ⊥
urls_apart base buckets f at small is log = omega (arith, at, log, (files_within base buckets f small is).0)

pairs_apart : (buckets f : ℕ) → buckets ≤ 64 → IsFileOf pairs_base buckets f → IsLog f → ⊥
pairs_apart buckets f small is log = omega (arith, log, (files_within pairs_base buckets f small is).0)

head_apart : IsLog head_file → ⊥
head_apart is = omega (arith, is)

module _ (settings : Settings) (kind : settings.kind ≡ CrawlKind) (pairs : Book) where
  -- the rest, where the log alone changes
  rest_with : (was events : List Happened) (old new : Files) → settings.buckets ≤ 64 → ChangesOnly IsLog old new → HasEvents settings.buckets (new crawl_file) (events_of events)
      → HasRest settings.kind settings pairs was old → HasRest settings.kind settings pairs events new
  rest_with was events old new small changes log rest =
      let crawl = subst (λ (k : Kind). HasRest k settings pairs was old) kind rest in
      let more : AreCrawlFiles settings pairs events new = record {
        pairs_stand = stands_apart pairs_base (pair_settings settings) pairs old new (λ f is. changes f (pairs_apart settings.buckets f small is)) crawl.pairs_stand;
        log = log;
      } in
      subst (λ (k : Kind). HasRest k settings pairs events new) (sym kind) more

  legal_with : (urls : Book) (events : List Happened) → IsCrawlState settings urls pairs events → IsRest settings.kind settings urls pairs events
  legal_with urls events state = subst (λ (k : Kind). IsRest k settings urls pairs events) (sym kind) state

  pub legal_as : (urls : Book) (events : List Happened) → IsRest settings.kind settings urls pairs events → IsCrawlState settings urls pairs events
  legal_as urls events rest = subst (λ (k : Kind). IsRest k settings urls pairs events) kind rest

-- files that stand for a state stand for it with other events, where the log has these
made_with : (settings : Settings) (state : State) (events : List Happened) (old new : Files) → settings.kind ≡ CrawlKind → ChangesOnly IsLog old new → IsMade settings state old
    → HasEvents settings.buckets (new crawl_file) (events_of events) → IsCrawlState settings state.urls state.pairs events → IsMade settings (record state { events = events }) new
made_with settings state events old new kind changes made log legal =
    let small = few settings made.valid in
    record {
      settings_are = made.settings_are;
      valid = made.valid;
      head = subst (λ (file : List ℕ). StandsFor file (head_bytes settings ∷ [])) (sym (changes head_file head_apart)) made.head;
      urls = stands_apart urls_base settings state.urls old new (λ f is. changes f (urls_apart urls_base settings.buckets f refl small is)) made.urls;
      legal = legal_with settings kind state.pairs state.urls events legal;
      rest = rest_with settings kind state.pairs state.events events old new small changes log made.rest;
    }

-- ---- an open store
from_zero : (n : ℕ) → n ≡ 0 + n
from_zero n = omega arith

-- the log's end behind more events
end_more : (events more : List Event) (was now : ℕ) → was ≡ length (records_text (log_records events)) → now ≡ was + length (records_text (log_records more))
    → now ≡ length (records_text (log_records (events ++ more)))
end_more events more was now is behind =
    let text = ap (λ (l : List (List ℕ)). length (records_text l)) (flat_map-append records_of events more) in
    let size = ap (λ (l : List ℕ). length l) (flat_map-append record_text (log_records events) (log_records more)) in
    let both = length-append (records_text (log_records events)) (records_text (log_records more)) in
    omega (arith, is, behind, text, size, both)

module _ (old new : Told) (urls : Drum) (state : State) (more : List Happened) (law : IsDrum urls) (consistent : IsConsistent new) (kind : urls.settings.kind ≡ CrawlKind)
    (holds : HoldsUrls old.images urls state) (keeps : IsCrawlState urls.settings state.urls state.pairs state.events → IsCrawlState urls.settings state.urls state.pairs (state.events ++ more)) where
  small : urls.settings.buckets ≤ 64
  small = few urls.settings law.settings

  is_legal : IsCrawlState urls.settings state.urls state.pairs state.events
  is_legal = legal_as urls.settings kind state.pairs state.urls state.events holds.legal

  more_legal : IsCrawlState urls.settings state.urls state.pairs (with_more more state).events
  more_legal = keeps is_legal

  -- the state with the events keeps the laws of one
  pub legal_more : IsStateOf urls.settings (with_more more state)
  legal_more = record {
    settings_are = holds.settings;
    valid = law.settings;
    book_is = holds.urls_hold.book_is;
    rest = legal_with urls.settings kind state.pairs state.urls (with_more more state).events more_legal;
  }

  -- each stop from then on leaves the events
  pub urls_more : LeavesBy (ChangesOnly IsLog) old new → ((image : Files) → new.images image → HasEvents urls.settings.buckets (image crawl_file) (events_of state.events ++ events_of more))
      → HoldsUrls new.images urls (with_more more state)
  urls_more stops log = record {
    settings = holds.settings;
    base = holds.base;
    head = λ image left.
        let from = left_now old new _ consistent stops image left in
        subst (λ (file : List ℕ). HasRecords file (head_bytes urls.settings ∷ [])) (sym (from.2 head_file head_apart)) (holds.head from.0 from.1);
    urls_hold = holds_beside IsLog old new urls state.urls law consistent stops (λ f is. urls_apart urls.base urls.settings.buckets f holds.base small is) holds.urls_hold;
    legal = legal_with urls.settings kind state.pairs state.urls (with_more more state).events more_legal;
    rest = λ image left.
        let from = left_now old new _ consistent stops image left in
        rest_with urls.settings kind state.pairs state.events (with_more more state).events from.0 image small from.2
        (subst (HasEvents urls.settings.buckets (image crawl_file)) (sym (events_both state.events more)) (log image left)) (holds.rest from.0 from.1);
  }

  -- and one in between leaves them or not
  pub stops_more : LeavesBy (ChangesFile crawl_file (HasOrGainsEvents urls.settings.buckets (events_of state.events) (events_of more))) old new
      → Leaves old new (HasOneOf state (with_more more state))
  stops_more stops = widens old new (Follows (ChangesFile crawl_file (HasOrGainsEvents urls.settings.buckets (events_of state.events) (events_of more))) old.images) _ stops (λ image from.
      let made = made_has urls.settings state from.0 (record { valid = law.settings; head = inr (holds.head from.0 from.1) }) (held_has old.images urls state from.0 law holds from.1) in
      let changes : ChangesOnly IsLog from.0 image = λ f out. from.2.others f out in
      ⊎_elim
      (λ (same : HasEvents urls.settings.buckets (image crawl_file) (events_of state.events)).
      inl (inr (urls.settings, made_with urls.settings state state.events from.0 image kind changes made same is_legal)))
      (λ (has : HasEvents urls.settings.buckets (image crawl_file) (events_of state.events ++ events_of more)).
      inr (inr (
        urls.settings,
        made_with urls.settings state (with_more more state).events from.0 image kind changes made
            (subst (HasEvents urls.settings.buckets (image crawl_file)) (sym (events_both state.events more)) has) more_legal,
      )))
      from.2.changed)

  -- what is open beside
  pub open_more : (was now : Ledger) → LeavesBy (ChangesOnly IsLog) old new → IsOpenLedger urls was old.files → now.pairs ≡ was.pairs
      → (HoldsLog old.images was.log (events_of state.events) → HoldsLog new.images now.log (events_of state.events ++ events_of more))
      → IsFrontierOf urls.settings state.urls state.pairs (with_more more state).events now.frontier → now.suffixes ≡ begun_with (with_more more state).events
      → now.log.journal.end ≡ was.log.journal.end + length (records_text (log_records (events_of more))) → now.notes ≡ noted_all was.log.journal.end (events_of more) was.notes
      → HoldsLedger old.images urls.settings was state.urls state.pairs state.events
      → HoldsLedger new.images urls.settings now state.urls state.pairs (with_more more state).events
  open_more was now stops open_crawl pairs log tables suffixes end notes held = record {
    pairs_hold = subst (λ (d : Drum). Holds new.images d state.pairs) (sym pairs) (holds_beside IsLog old new was.pairs state.pairs open_crawl.drum consistent stops
        (λ f is. pairs_apart urls.settings.buckets f small (subst (λ (s : Settings). IsFileOf pairs_base s.buckets f) open_crawl.settings (subst (λ (n : ℕ). IsFileOf n was.pairs.settings.buckets f)
        open_crawl.base is))) held.pairs_hold);
    log = subst (HoldsLog new.images now.log) (sym (events_both state.events more)) (log held.log);
    frontier = tables;
    suffixes = suffixes;
    log_ends = end_more (events_of state.events) (events_of more) was.log.journal.end now.log.journal.end held.log_ends end
        ∙ ap (λ (es : List Event). length (records_text (log_records es))) (sym (events_both state.events more));
    notes = notes ∙ ap (λ (n : ℕ). noted_all n (events_of more) was.notes) (held.log_ends ∙ from_zero (length (records_text (log_records (events_of state.events)))))
        ∙ ap (noted_all (0 + length (records_text (log_records (events_of state.events)))) (events_of more)) held.notes
        ∙ sym (places_both 0 (events_of state.events) (events_of more) no_notes) ∙ ap (note_places 0) (sym (events_both state.events more));
  }

-- ---- what an append leaves
pub same_crawl : (x y : Ledger) → Crawl x ≡ Crawl y → x ≡ y
same_crawl x y same = cc

memory_or_not : (result : Result Unit Fault) → IsErrOf result Memory ⊎ (IsErrOf result Memory → ⊥)
memory_or_not (Ok value) = inr (λ is. cc)
memory_or_not (Err Failed) = inr (λ is. cc)
memory_or_not (Err Memory) = inl refl
memory_or_not (Err (Full n)) = inr (λ is. cc)
memory_or_not (Err (Damaged f at)) = inr (λ is. cc)

not_failed : (result : Result Unit Fault) → IsErrOf result Memory → IsErrOf result Failed → ⊥
not_failed result memory failed = cc

pub from_ok : {P : Type 0} (result : Result Unit Fault) → IsOk result → OnOk result P → P
from_ok (Ok value) is has = has
from_ok (Err error) is has = cc

ok_or_err : {P Q : Type 0} (result : Result Unit Fault) → OnErr result P → OnOk result Q → P ⊎ Q
ok_or_err (Ok value) was is = inr is
ok_or_err (Err error) was is = inl was

both_ways : {A B C D : Type 0} (result : Result Unit Fault) → OnErr result A → OnErr result B → OnOk result C → OnOk result D → (A × B) ⊎ (C × D)
both_ways (Ok value) a b c d = inr (c, d)
both_ways (Err error) a b c d = inl (a, b)

pub on_err_then : {P Q : Type 0} (result : Result Unit Fault) → (P → Q) → OnErr result P → OnErr result Q
on_err_then (Ok value) gives has = tt
on_err_then (Err error) gives has = gives has

pub ok_then : {P : Type 0} (result : Result Unit Fault) (Q : Type 0) → OnOk result P → ((IsErrOf result Memory → ⊥) → IsOk result → P → OnOk result Q) → OnOk result Q
ok_then (Ok value) Q has gives = gives (λ is. cc) refl has
ok_then (Err error) Q has gives = tt

none_changes : (now : Told) (failed : Type 0) → IsConsistent now → (failed → ⊥) → OnlyChanges (ChangesFile crawl_file (λ _ _. Unit {0})) failed now now
none_changes now failed law none = record {
  told = told_none _ now.files now.files (λ x. record { changed = tt; others = λ f out. refl }) refl;
  stops = same_by now now _ (λ x. record { changed = tt; others = λ f out. refl }) (stays now now.images law (λ image left. left));
  taken = refl;
  cause = record { later = omega arith; rose = λ is. absurd (none is) };
}

-- the file reaches past the gate behind what was appended
more_bytes : (end : ℕ) (more : List (List ℕ)) (old new : List ℕ) → end < length old → HasAppended end more old new → end + length (records_text more) < length new
more_bytes end [] old new long same = omega (arith, long, ap (λ (bytes : List ℕ). length bytes) same)
more_bytes end (payload ∷ payloads) old new long bytes =
    let more = payload ∷ payloads in
    let size = length-take-le end old (omega (arith, long)) in
    let gate = 0 ∷ drop (end + length (records_text more) + 1) old in
    let is = ap (λ (l : List ℕ). length l) bytes ∙ length-append (take end old) (records_text more ++ gate) in
    let rest = length-append (records_text more) gate in
    omega (arith, is, rest, size)

long_after : (old new : Tail) (more : List (List ℕ)) (before after : Option Files) → ForSome before (λ files. old.end < length (files old.file))
    → Changes old.file (HasAppended old.end more) before after → new.end ≡ old.end + length (records_text more)
    → ForSome after (λ files. new.end < length (files old.file))
long_after old new more before after long changes end = λ files told.
    let from = told_from old.file (HasAppended old.end more) before after files changes told in
    omega (arith, end, more_bytes old.end more (from.0 old.file) (files old.file) (long from.0 from.1) from.2.changed)

module _ {S : Type 0} (tells : S → Told) (law : (s : S) → IsConsistent (tells s)) (result : Result Unit Fault) (more : List Happened) (frontier : Frontier)
    (suffixes : Option (List ℕ)) (before after : S) (urls : Drum) (old new : Ledger) (drum : IsDrum urls) (open_crawl : IsOpenLedger urls old (tells before).files)
    (was_sound : old.log.journal.is_sound ≡ true)
    (adds : AddsAllToLog tells result (events_of more) frontier suffixes old new before after) where
  -- whatever the files stand for, the log's alone changes
  pub log_changes : OnlyChanges (ChangesFile crawl_file (λ _ _. Unit {0})) (IsErrOf result Failed) (tells before) (tells after)
  log_changes = ⊎_elim
      (λ (memory : IsErrOf result Memory). subst (λ (s : S). OnlyChanges (ChangesFile crawl_file (λ _ _. Unit {0})) (IsErrOf result Failed) (tells before) (tells s)) (sym (adds.memory memory).0)
      (none_changes (tells before) (IsErrOf result Failed) (law before) (not_failed result memory)))
      (λ (other : IsErrOf result Memory → ⊥). subst (λ (f : ℕ). OnlyChanges (ChangesFile f (λ _ _. Unit {0})) (IsErrOf result Failed) (tells before) (tells after)) open_crawl.file
      (adds.log other).records.appends.others)
      (memory_or_not result)

  pub only_log : LeavesBy (ChangesOnly IsLog) (tells before) (tells after)
  only_log = widens_by (tells before) (tells after) _ _ log_changes.stops (λ x y changes f out. changes.others f out)

  pub told_log : TellsOnly IsLog (tells before).files (tells after).files
  told_log = told_wider _ _ (tells before).files (tells after).files (λ x y changes f out. changes.others f out) log_changes.told

  few_urls : urls.settings.buckets ≤ 64
  few_urls = few urls.settings drum.settings

  -- so the bay of URLs is as long as it was,
  pub urls_long : ForSome (tells before).files (λ files. IsLong urls files) → ForSome (tells after).files (λ files. IsLong urls files)
  urls_long long = long_beside IsLog (tells before).files (tells after).files urls drum told_log (λ f is. urls_apart urls.base urls.settings.buckets f open_crawl.urls_at few_urls is) long

  pairs_no_log : (f : ℕ) → IsFileOf old.pairs.base old.pairs.settings.buckets f → IsLog f → ⊥
  pairs_no_log f is = pairs_apart urls.settings.buckets f few_urls
      (subst (λ (s : Settings). IsFileOf pairs_base s.buckets f) open_crawl.settings (subst (λ (n : ℕ). IsFileOf n old.pairs.settings.buckets f) open_crawl.base is))

  -- the tables are as they were, or those that the events make
  frontier_is : (new.frontier ≡ old.frontier) × (new.suffixes ≡ old.suffixes) ⊎ (new.frontier ≡ frontier) × (new.suffixes ≡ suffixes)
  frontier_is = ok_or_err result adds.kept adds.done

  -- and the parts are open still
  appended_open : FitsBays urls old.pairs frontier → frontier.progress.begun ≡ is_some suffixes → (IsErrOf result Memory → ⊥) → IsOpenLedger urls new (tells after).files
  appended_open fits begun other =
      let log = adds.log other in
      let pairs = adds.pairs in
      record {
        urls_at = open_crawl.urls_at;
        drum = subst IsDrum (sym pairs) open_crawl.drum;
        base = ap (λ (d : Drum). d.base) pairs ∙ open_crawl.base;
        settings = ap (λ (d : Drum). d.settings) pairs ∙ open_crawl.settings;
        file = log.records.appends.file ∙ open_crawl.file;
        buckets = log.buckets ∙ open_crawl.buckets;
        long = λ sound. subst (λ (d : Drum). ForSome (tells after).files (IsLong d)) (sym pairs)
            (long_beside IsLog (tells before).files (tells after).files old.pairs open_crawl.drum told_log pairs_no_log (open_crawl.long (ap (λ (d : Drum). d.is_sound) (sym pairs) ∙ sound)));
        log_long = λ sound. ⊎_elim
            (λ (ok : IsOk result). subst (λ (f : ℕ). ForSome (tells after).files (λ files. new.log.journal.end < length (files f))) open_crawl.file
            (long_after old.log.journal new.log.journal (log_records (events_of more)) (tells before).files (tells after).files
            (subst (λ (f : ℕ). ForSome (tells before).files (λ files. old.log.journal.end < length (files f))) (sym open_crawl.file) (open_crawl.log_long was_sound))
            (from_ok result ok log.records.appends.bytes) (from_ok result ok log.records.appends.end)))
            (λ (memory : IsErrOf result Memory). absurd (other memory))
            (log.records.sound.0 sound);
        fits = subst (λ (d : Drum). FitsBays urls d new.frontier) (sym pairs) (⊎_elim
            (λ (was : (new.frontier ≡ old.frontier) × (new.suffixes ≡ old.suffixes)). subst (FitsBays urls old.pairs) (sym was.0) open_crawl.fits)
            (λ (is : (new.frontier ≡ frontier) × (new.suffixes ≡ suffixes)). subst (FitsBays urls old.pairs) (sym is.0) fits)
            frontier_is);
        begun = ⊎_elim
            (λ (was : (new.frontier ≡ old.frontier) × (new.suffixes ≡ old.suffixes)). ap (λ (x : Frontier). x.progress.begun) was.0 ∙ open_crawl.begun ∙ ap is_some (sym was.1))
            (λ (is : (new.frontier ≡ frontier) × (new.suffixes ≡ suffixes)). ap (λ (x : Frontier). x.progress.begun) is.0 ∙ begun ∙ ap is_some (sym is.1))
            frontier_is;
        noted = ⊎_elim
            (λ (was : (new.notes ≡ old.notes) × (new.log.journal.end ≡ old.log.journal.end)). subst (AreWithin new.log.journal.end) (sym was.0)
            (subst (λ (n : ℕ). AreWithin n old.notes) (sym was.1) open_crawl.noted))
            (λ (is : (new.notes ≡ noted_all old.log.journal.end (events_of more) old.notes) × (new.log.journal.end ≡ old.log.journal.end + length (records_text (log_records (events_of more))))).
            subst (AreWithin new.log.journal.end) (sym is.0) (subst (λ (n : ℕ). AreWithin n (noted_all old.log.journal.end (events_of more) old.notes)) (sym is.1)
            (all_within old.log.journal.end (events_of more) old.notes open_crawl.noted)))
            (both_ways result adds.noted_still log.records.appends.end_kept adds.noted_then log.records.appends.end);
      }

  pub still_open : FitsBays urls old.pairs frontier → frontier.progress.begun ≡ is_some suffixes → IsOpenLedger urls new (tells after).files
  still_open fits begun = ⊎_elim
      (λ (memory : IsErrOf result Memory). subst (λ (c : Ledger). IsOpenLedger urls c (tells after).files) (sym (adds.memory memory).1)
      (subst (λ (s : S). IsOpenLedger urls old (tells s).files) (sym (adds.memory memory).0) open_crawl))
      (appended_open fits begun)
      (memory_or_not result)

  -- ---- over states
  log_has : (images : Files → Type 0) (events : List Event) (image : Files) → new.log.buckets ≡ urls.settings.buckets → new.log.journal.file ≡ crawl_file → HoldsLog images new.log events
      → images image → HasEvents urls.settings.buckets (image crawl_file) events
  log_has images events image buckets file holds left = record {
    each = subst (λ (n : ℕ). AreLogged n events) buckets holds.each;
    records = inr (subst (λ (f : ℕ). HasRecords (image f) (log_records events)) file (holds.records image left).records);
  }

  -- what a state has to say of the events
  pub record AreNextIn (state : State) : Type 0 where
    pub legal : IsCrawlState urls.settings state.urls state.pairs state.events → IsCrawlState urls.settings state.urls state.pairs (state.events ++ more)
    pub begun : begun_with (with_more more state).events ≡ suffixes
    pub tables : IsFrontierOf urls.settings state.urls state.pairs (with_more more state).events frontier

  -- of one state
  pub state_next : (was now : Parts) (state : State) → was.urls ≡ urls → was.rest ≡ Crawl old → now.rest ≡ Crawl new → now.urls ≡ urls → (IsErrOf result Memory → ⊥) → IsOk result
      → (new.frontier ≡ frontier) × (new.suffixes ≡ suffixes)
      → ((events : List Event) → HoldsLog (tells before).images old.log events → HoldsLog (tells after).images new.log (events ++ events_of more))
      → AreNextIn state
      → HoldsState (tells before).images was state → HoldsState (tells after).images now (with_more more state)
  state_next was now state was_urls was_rest now_rest now_urls other ok done gives is holds =
      let held = subst (λ (d : Drum). HoldsUrls (tells before).images d state) was_urls holds.urls in
      let opened : HoldsOpen (tells before).images urls.settings (Crawl old) state.urls state.pairs state.events =
      subst (λ (r : Rest). HoldsOpen (tells before).images urls.settings r state.urls state.pairs state.events) was_rest
      (subst (λ (d : Drum). HoldsOpen (tells before).images d.settings was.rest state.urls state.pairs state.events) was_urls holds.open_rest) in
      let log = adds.log other in
      let beside_urls : HoldsUrls (tells after).images urls (with_more more state) =
      urls_more (tells before) (tells after) urls state more drum (law after) opened.0 held is.legal only_log (λ image left.
      log_has (tells after).images (events_of state.events ++ events_of more) image (log.buckets ∙ open_crawl.buckets) (log.records.appends.file ∙ open_crawl.file)
      (gives (events_of state.events) opened.1.log) left) in
      let beside : HoldsOpen (tells after).images urls.settings (Crawl new) state.urls state.pairs (with_more more state).events = (
        opened.0,
        open_more (tells before) (tells after) urls state more drum (law after) opened.0 held is.legal old new only_log open_crawl adds.pairs (gives (events_of state.events))
            (subst (IsFrontierOf urls.settings state.urls state.pairs (with_more more state).events) (sym done.0) is.tables) (done.1 ∙ sym is.begun)
            (from_ok result ok log.records.appends.end) (from_ok result ok adds.noted_then) opened.1,
      ) in
      record {
        urls = subst (λ (d : Drum). HoldsUrls (tells after).images d (with_more more state)) (sym now_urls) beside_urls;
        open_rest = subst (λ (d : Drum). HoldsOpen (tells after).images d.settings now.rest state.urls state.pairs (with_more more state).events) (sym now_urls)
            (subst (λ (r : Rest). HoldsOpen (tells after).images urls.settings r state.urls state.pairs (with_more more state).events) (sym now_rest) beside);
      }

  pub stops_next : (was : Parts) (state : State) → was.urls ≡ urls → was.rest ≡ Crawl old
      → AreNextIn state
      → HoldsState (tells before).images was state → Leaves (tells before) (tells after) (HasOneOf state (with_more more state))
  stops_next was state was_urls was_rest is holds =
      let held = subst (λ (d : Drum). HoldsUrls (tells before).images d state) was_urls holds.urls in
      let opened : HoldsOpen (tells before).images urls.settings (Crawl old) state.urls state.pairs state.events =
      subst (λ (r : Rest). HoldsOpen (tells before).images urls.settings r state.urls state.pairs state.events) was_rest
      (subst (λ (d : Drum). HoldsOpen (tells before).images d.settings was.rest state.urls state.pairs state.events) was_urls holds.open_rest) in
      ⊎_elim
      (λ (memory : IsErrOf result Memory). subst (λ (s : S). Leaves (tells before) (tells s) (HasOneOf state (with_more more state))) (sym (adds.memory memory).0)
      (stays (tells before) (HasOneOf state (with_more more state)) (law before) (λ image left. inl (held_has (tells before).images urls state image drum held left))))
      (λ (other : IsErrOf result Memory → ⊥).
      stops_more (tells before) (tells after) urls state more drum (law after) opened.0 held is.legal
      (subst (λ (n : ℕ). LeavesBy (ChangesFile crawl_file (HasOrGainsEvents n (events_of state.events) (events_of more))) (tells before) (tells after)) open_crawl.buckets
      (subst (λ (f : ℕ). LeavesBy (ChangesFile f (HasOrGainsEvents old.log.buckets (events_of state.events) (events_of more))) (tells before) (tells after)) open_crawl.file
      ((adds.log other).changes (events_of state.events) opened.1.log).stops)))
      (memory_or_not result)

  pub legal_next : (was : Parts) (state : State) → was.urls ≡ urls → was.rest ≡ Crawl old → AreNextIn state → HoldsState (tells before).images was state
      → IsStateOf urls.settings (with_more more state)
  legal_next was state was_urls was_rest is holds =
      let held = subst (λ (d : Drum). HoldsUrls (tells before).images d state) was_urls holds.urls in
      let opened : HoldsOpen (tells before).images urls.settings (Crawl old) state.urls state.pairs state.events =
      subst (λ (r : Rest). HoldsOpen (tells before).images urls.settings r state.urls state.pairs state.events) was_rest
      (subst (λ (d : Drum). HoldsOpen (tells before).images d.settings was.rest state.urls state.pairs state.events) was_urls holds.open_rest) in
      legal_more (tells before) (tells after) urls state more drum (law after) opened.0 held is.legal

  -- of each
  pub state_more : (was now : Parts) (state : State) → was.urls ≡ urls → was.rest ≡ Crawl old → now.rest ≡ Crawl new → now.urls ≡ urls → (IsErrOf result Memory → ⊥) → IsOk result
      → (new.frontier ≡ frontier) × (new.suffixes ≡ suffixes)
      → ((events : List Event) → HoldsLog (tells before).images old.log events → HoldsLog (tells after).images new.log (events ++ events_of more))
      → ((state : State) → HoldsUrls (tells before).images urls state → HoldsLedger (tells before).images urls.settings old state.urls state.pairs state.events → AreNextIn state)
      → HoldsState (tells before).images was state → HoldsState (tells after).images now (with_more more state)
  state_more was now state was_urls was_rest now_rest now_urls other ok done gives next holds =
      let held = subst (λ (d : Drum). HoldsUrls (tells before).images d state) was_urls holds.urls in
      let opened : HoldsOpen (tells before).images urls.settings (Crawl old) state.urls state.pairs state.events =
      subst (λ (r : Rest). HoldsOpen (tells before).images urls.settings r state.urls state.pairs state.events) was_rest
      (subst (λ (d : Drum). HoldsOpen (tells before).images d.settings was.rest state.urls state.pairs state.events) was_urls holds.open_rest) in
      state_next was now state was_urls was_rest now_rest now_urls other ok done gives (next state held opened.1) holds

  pub stops_at : (was : Parts) (state : State) → was.urls ≡ urls → was.rest ≡ Crawl old
      → ((state : State) → HoldsUrls (tells before).images urls state → HoldsLedger (tells before).images urls.settings old state.urls state.pairs state.events → AreNextIn state)
      → HoldsState (tells before).images was state → Leaves (tells before) (tells after) (HasOneOf state (with_more more state))
  stops_at was state was_urls was_rest next holds =
      let held = subst (λ (d : Drum). HoldsUrls (tells before).images d state) was_urls holds.urls in
      let opened : HoldsOpen (tells before).images urls.settings (Crawl old) state.urls state.pairs state.events =
      subst (λ (r : Rest). HoldsOpen (tells before).images urls.settings r state.urls state.pairs state.events) was_rest
      (subst (λ (d : Drum). HoldsOpen (tells before).images d.settings was.rest state.urls state.pairs state.events) was_urls holds.open_rest) in
      stops_next was state was_urls was_rest (next state held opened.1) holds

  pub legal_at : (was : Parts) (state : State) → was.urls ≡ urls → was.rest ≡ Crawl old
      → ((state : State) → HoldsUrls (tells before).images urls state → HoldsLedger (tells before).images urls.settings old state.urls state.pairs state.events → AreNextIn state)
      → HoldsState (tells before).images was state → IsStateOf was.urls.settings (with_more more state)
  legal_at was state was_urls was_rest next holds =
      let held = subst (λ (d : Drum). HoldsUrls (tells before).images d state) was_urls holds.urls in
      let opened : HoldsOpen (tells before).images urls.settings (Crawl old) state.urls state.pairs state.events =
      subst (λ (r : Rest). HoldsOpen (tells before).images urls.settings r state.urls state.pairs state.events) was_rest
      (subst (λ (d : Drum). HoldsOpen (tells before).images d.settings was.rest state.urls state.pairs state.events) was_urls holds.open_rest) in
      subst (λ (d : Drum). IsStateOf d.settings (with_more more state)) (sym was_urls) (legal_next was state was_urls was_rest (next state held opened.1) holds)
