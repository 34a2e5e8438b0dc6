-- One run of a command that crawls, by what entering its store says and what is done over an open one.
use Rattle.std.proofs.Common.{◌≡◌, ◌≢◌, ◌∙◌, ◌⊎◌, inl, inr, ⊎_elim, ℕ, true, List, [], Option, None, Some, refl, sym, ap, subst, arith}
use Rattle.std.specs.Prelude.{Err, unwrap_or}
use Rattle.std.specs.Option.{ForSome}
use Rattle.std.specs.Io.KnownBytes.{Appends}
use Rattle.std.proofs.KnownBytes.{Appends-nil}
use Rattle.irl_base.specs.Faults.{HasCause}
use Rattle.irl_bay.specs.Drum.{IsDrum}
use Rattle.irl_bay.specs.Holding.{IsLong}
use Rattle.irl_core.specs.States.{begun_with}
use Rattle.irl_disk.specs.Disk.{Files}
use Rattle.irl_disk.specs.Images.{IsConsistent, Leaves, LeavesBy, Told}
use Rattle.irl_disk.proofs.Effects.{cause_for, cause_then}
use Rattle.irl_disk.proofs.Stretches.{joins, left_now, widens}
use Rattle.irl_events.specs.State.{State, IsFrontState, blank_state}
use Rattle.irl_head.specs.Asking.{Agrees}
use Rattle.irl_head.specs.Head.{kind_number}
use Rattle.irl_head.specs.Opening.{HasSettings, IsBlank, IsUnwanted}
use Rattle.irl_head.specs.declared.open_fault.OpenFault.{OpenFault}
use Rattle.irl_head.specs.declared.open_fault.OpenFault.TheVariants.{NotOurs as OpenNotOurs, Damaged as OpenDamaged, OtherSettings as OpenOtherSettings, BadSettings as OpenBadSettings, Failed as OpenFailed}
use Rattle.irl_head.proofs.Asking.{new_agrees}
use Rattle.irl_offer.specs.Settings.{AreValid, settings_of}
use Rattle.irl_offer.specs.declared.settings.Asked.{Asked}
use Rattle.irl_offer.specs.declared.settings.Kind.{Kind}
use Rattle.irl_offer.specs.declared.settings.Kind.TheVariants.{Lines, Tuples, Crawl as CrawlKind}
use Rattle.irl_offer.specs.declared.settings.Settings.{Settings}
use Rattle.irl_record.specs.Taped.{Taped}
use Rattle.irl_yard.specs.declared.parts.Parts.{Parts}
use Rattle.irl_yard.specs.Entering.{EntersStore, OpensYard, OpeningRefused}
use Rattle.irl_yard.specs.Holding.{HasOneOf, HoldsState, IsOpenRest}
use Rattle.irl_yard.specs.Leading.{HasOneBetween}
use Rattle.irl_yard.specs.Opening.{entered_state}
use Rattle.irl_yard.specs.Standing.{HasState, IsLegal}
use Rattle.irl_yard.proofs.Grounds.{entered_made}
use Rattle.irl_yard.proofs.Holding.{held_has, held_state}
use Rattle.irl_yard.proofs.States.{entered_front, state_both, state_same}
use Rattle.irl_top.specs.Crawled.{CrawlTask, CrawlRun, CrawlsStore, GoesOver, HasOtherSuffixes, IsBatched, IsCrawled, IsFullBy, IsInput, IsCrawledEnding, IsOpenEnding, IsOpenOver, IsPrintEnding, IsRefusedStore, IsUnreadEnding, MayCrawl, MayLeave, NamesSuffixes, PrintsReport, settings_for}
use Rattle.irl_top.specs.Message.{IsLate, ending_of_open}
use Rattle.irl_top.specs.Opened.{IsOpenable}
use Rattle.irl_top.specs.Outside.{Lent}
use Rattle.irl_top.specs.Stream.{Stream}
use Rattle.irl_top.specs.declared.ending.Ending.{Ending}
use Rattle.irl_top.specs.declared.ending.Ending.TheVariants.{Done, BadSettings, LineRefused, NotOurs, Damaged, OtherSettings, DiskFault, InputFault, OutputFault, NoMemory, Full}
use Rattle.irl_top.proofs.CrawlFiles.{enters_stops, enters_told, stop_others, told_others}
use Rattle.irl_top.proofs.BatchedRuns.{run_batched, run_stops, stops_batched, told_batched}
use Rattle.irl_top.proofs.Closed.{blank_image, denies_as, entered_valid, failed_or_not, ground_as, legal_entered, legal_has, open_bad, open_damaged, open_disk, open_late, open_other, open_ours, same_told, told_after}
use Rattle.irl_top.proofs.Ranges.{valid_or_not}
use Rattle.irl_top.proofs.Shows.{has_report, none_of}

-- ---- what is printed
pub no_text : (ending : Ending) (y : State) → ending ≢ Done → PrintsReport ending y []
no_text ending y fine = let whole = has_report y in (whole.0, whole.1, none_of whole.0, λ is. absurd (fine is))

wrote_none : (old new : Stream) → new ≡ old → Appends old.bytes new.bytes []
wrote_none old new same = subst (λ (s : Stream). Appends old.bytes s.bytes []) (sym same) (Appends-nil old.bytes)

cause_same : (failed : Type 0) (old new : Stream) → new ≡ old → (failed → ⊥) → HasCause failed old.faults new.faults
cause_same failed old new same none = record { later = omega (arith, ap (λ (s : Stream). s.faults) same); rose = λ is. absurd (none is) }

-- ---- a refusal of an opening
record IsClosed (asked : Asked) (fault : OpenFault) (before after : Lent) : Type 0 where
  refused : OpeningRefused asked fault before.store after.store
  entered : EntersStore asked (fault ≡ OpenFailed) before.store after.store
  input : after.input ≡ before.input
  output : after.output ≡ before.output

-- what is left of a state, by the greatest that a stop leaves
record KeepsState (x most : State) (before after : Told) : Type 0 where
  state : State
  told : ForSome after.files (HasState state)
  fronts : IsFrontState x state × IsFrontState state most
  either : (state ≡ x) ⊎ (state ≡ most)
  stops : ((image : Files) → before.images image → HasState x image) → Leaves before after (HasOneBetween x most)

keeps_told : (asked : Asked) (fault : OpenFault) (before after : Told) (files : Files) (x : State) → OpeningRefused asked fault before after → EntersStore asked (fault ≡ OpenFailed) before after
    → before.files ≡ Some files → HasState x files → (told : Option Files) → after.files ≡ told → KeepsState x (entered_state asked x) before after
keeps_told asked fault before after files x refused entered is has told after_is = by_told told after_is
  where
    stopped : ((image : Files) → before.images image → HasState x image) → Leaves before after (HasOneBetween x (entered_state asked x))
    stopped each = widens before after _ _ (entered.stops x each) (λ image either. ⊎_elim
        (λ (h : HasState x image). (x, h, state_same x, entered_front asked x))
        (λ (h : HasState (entered_state asked x) image). (entered_state asked x, h, entered_front asked x, state_same (entered_state asked x)))
        either)

    first : ForSome after.files (HasState x) → KeepsState x (entered_state asked x) before after
    first told = record { state = x; told = told; fronts = (state_same x, entered_front asked x); either = inl refl; stops = stopped }

    by_one : (f : Files) → after.files ≡ Some f → HasOneOf x (entered_state asked x) f → KeepsState x (entered_state asked x) before after
    by_one f is_f (inl old) = first (same_told after.files f x is_f old)
    by_one f is_f (inr new) = record {
      state = entered_state asked x;
      told = same_told after.files f (entered_state asked x) is_f new;
      fronts = (entered_front asked x, state_same (entered_state asked x));
      either = inr refl;
      stops = stopped;
    }

    by_told : (told : Option Files) → after.files ≡ told → KeepsState x (entered_state asked x) before after
    by_told None none = first (λ f is_f. let both = sym none ∙ is_f in let no : ⊥ = cc in absurd no)
    by_told (Some f) is_f = by_one f is_f (refused.told_err x files is has f is_f)

-- where no store can be made as is asked, none is
keeps_unmade : (asked : Asked) (before after : Told) (fault : OpenFault) (files : Files) (x : State) → OpeningRefused asked fault before after → EntersStore asked (fault ≡ OpenFailed) before after
    → before.files ≡ Some files → HasState x files → x ≡ blank_state → (AreValid (settings_of asked) → ⊥) → KeepsState x x before after
keeps_unmade asked before after fault files x refused entered is has blank bad = record {
  state = x;
  told = λ f is_f. old_one f (refused.told_err x files is has f is_f);
  fronts = (state_same x, state_same x);
  either = inl refl;
  stops = λ each. widens before after _ _ (entered.stops x each) (λ image either. (x, old_one image either, state_same x, state_same x));
}
  where
    old_one : (image : Files) → HasOneOf x (entered_state asked x) image → HasState x image
    old_one image (inl old) = old
    old_one image (inr made) = absurd (bad (entered_valid asked x image blank made))

-- unless a call failed, a store that wasn't made yet still isn't
keeps_blank : (asked : Asked) (before after : Told) (fault : OpenFault) (files : Files) (x : State) → OpeningRefused asked fault before after → fault ≢ OpenFailed → before.files ≡ Some files
    → IsBlank files → x ≡ blank_state → KeepsState x x before after
keeps_blank asked before after fault files x refused fine is blank same = record {
  state = x;
  told = λ g is_g. inl (refused.blank fine files is blank g is_g, same);
  fronts = (state_same x, state_same x);
  either = inl refl;
  stops = λ each. widens before after _ _ (refused.blank_stops fine (λ image left. blank_image x image same (each image left)))
      (λ image still. (x, inl (still, same), state_same x, state_same x));
}

-- the greatest state that a stop leaves of one whose store stays closed
record LeftClosed (asked : Asked) (fault : OpenFault) (x : State) (before after : Told) : Type 0 where
  most : State
  may : (most ≡ x) ⊎ (most ≡ entered_state asked x)
  fine : fault ≢ OpenFailed → most ≡ x
  keeps : KeepsState x most before after
  blank : (most ≡ x) ⊎ (x ≡ blank_state)
  legal : IsLegal most

left_same : (asked : Asked) (fault : OpenFault) (before after : Told) (files : Files) (x : State) → HasState x files → KeepsState x x before after → LeftClosed asked fault x before after
left_same asked fault before after files x has keeps = record { most = x; may = inl refl; fine = λ fine. refl; keeps = keeps; blank = inl refl; legal = legal_has x files has }

-- unless a call failed the state stays
left_blank : (asked : Asked) (fault : OpenFault) (before after : Told) (files : Files) (x : State) → OpeningRefused asked fault before after → EntersStore asked (fault ≡ OpenFailed) before after
    → before.files ≡ Some files → IsBlank files → x ≡ blank_state → (fault ≢ OpenFailed) ⊎ (fault ≡ OpenFailed) → AreValid (settings_of asked) ⊎ (AreValid (settings_of asked) → ⊥)
    → LeftClosed asked fault x before after
left_blank asked fault before after files x refused entered is blank same (inl fine) valid =
    left_same asked fault before after files x (inl (blank, same)) (keeps_blank asked before after fault files x refused fine is blank same)
left_blank asked fault before after files x refused entered is blank same (inr failed) (inl valid) = record {
  most = entered_state asked x;
  may = inr refl;
  fine = λ fine. absurd (fine failed);
  keeps = keeps_told asked fault before after files x refused entered is (inl (blank, same)) after.files refl;
  blank = inr same;
  legal = legal_entered asked x files valid (inl (blank, same));
}
left_blank asked fault before after files x refused entered is blank same (inr failed) (inr bad) =
    left_same asked fault before after files x (inl (blank, same)) (keeps_unmade asked before after fault files x refused entered is (inl (blank, same)) same bad)

left_closed : (asked : Asked) (fault : OpenFault) (before after : Told) (files : Files) (x : State) → OpeningRefused asked fault before after → EntersStore asked (fault ≡ OpenFailed) before after
    → before.files ≡ Some files → HasState x files → LeftClosed asked fault x before after
left_closed asked fault before after files x refused entered is (inl blank) =
    left_blank asked fault before after files x refused entered is blank.0 blank.1 (failed_or_not fault) (valid_or_not (settings_of asked))
left_closed asked fault before after files x refused entered is (inr (settings, made)) =
    let same = entered_made asked settings x made.settings_are in
    record {
      most = entered_state asked x;
      may = inr refl;
      fine = λ fine. same;
      keeps = keeps_told asked fault before after files x refused entered is (inr (settings, made)) after.files refl;
      blank = inl same;
      legal = subst IsLegal (sym same) (legal_has x files (inr (settings, made)));
    }

-- nothing is read or printed there
no_unread : (fault : OpenFault) → IsUnreadEnding (ending_of_open fault) → ⊥
no_unread fault (inl input) = open_late fault (inr (inr (inl input)))
no_unread fault (inr line) = open_late fault (inr (inl line))

no_crawled : (fault : OpenFault) → IsCrawledEnding (ending_of_open fault) → ⊥
no_crawled fault (inl done) = open_late fault (inl done)
no_crawled fault (inr output) = open_late fault (inr (inr (inr (inl output))))

no_done : (fault : OpenFault) → ending_of_open fault ≢ Done
no_done fault = λ is. open_late fault (inl is)

no_full : (fault : OpenFault) (n : ℕ) → ending_of_open fault ≡ Full n → ⊥
no_full fault n is = open_late fault (inr (inr (inr (inr (n, is)))))

store_refused : (task : CrawlTask) (asked : Asked) (before after : Lent) (fault : OpenFault) → IsConsistent after.store → IsClosed asked fault before after → (files : Files) (x : State)
    → before.store.files ≡ Some files → HasState x files → CrawlsStore task asked before after (ending_of_open fault) x
store_refused task asked before after fault law closed files x is has =
    let left = left_closed asked fault before.store after.store files x closed.refused closed.entered is has in
    let keeps = left.keeps in
    let may_most : MayLeave task asked before.input.bytes x left.most = elim left.may [ inl same ↦ inl same | inr new ↦ inr (inl new) ] in
    record {
      kept = x;
      state = keeps.state;
      most = left.most;
      told = keeps.told;
      may_kept = inl refl;
      may_state = elim keeps.either [ inl same ↦ inl same | inr same ↦ subst (λ (s : State). MayLeave task asked before.input.bytes x s) (sym same) may_most ];
      may_most = may_most;
      legal = (legal_has x files has, left.legal);
      unread = λ is. absurd (no_unread fault is);
      first = state_same x;
      fronts = keeps.fronts;
      settled = λ fine.
          let same = left.fine (λ failed. fine (ap ending_of_open failed)) in
          (⊎_elim (λ old. old) (λ new. new ∙ same) keeps.either, same);
      done = λ done. absurd (no_crawled fault done);
      full = λ n full. absurd (no_full fault n full);
      text = [];
      written = wrote_none before.output after.output closed.output;
      prints = no_text (ending_of_open fault) x (no_done fault);
      silent = λ failed. refl;
      stops = keeps.stops;
      agrees = ⊎_elim (λ same. inl same)
          (λ (blank : x ≡ blank_state). inr (subst (λ (s : State). Agrees asked (settings_for asked (entered_state asked s))) (sym blank) (new_agrees asked))) left.blank;
      now = λ late image stop. ⊎_elim (λ (l : IsLate (ending_of_open fault)). absurd (open_late fault l))
          (λ each. left_now before.store after.store (HasOneBetween x left.most) law (keeps.stops each) image stop) late;
      batched = told_batched asked before.store after.store files x (fault ≡ OpenFailed) closed.entered is has;
      batched_stop = λ each. stops_batched asked before.store after.store files x (fault ≡ OpenFailed) closed.entered is has each;
    }

unwanted : (fault : OpenFault) → IsRefusedStore (ending_of_open fault) → IsUnwanted fault
unwanted fault (inl bad) = subst IsUnwanted (sym (open_bad fault bad.0 bad.1)) tt
unwanted fault (inr (inl ours)) = subst IsUnwanted (sym (open_ours fault ours.0 ours.1)) tt
unwanted fault (inr (inr other)) = subst IsUnwanted (sym (open_other fault other.0 other.1 other.2 other.3)) tt

pub run_refused : (task : CrawlTask) (asked : Asked) (before after : Lent) (fault : OpenFault) → IsConsistent after.store → OpeningRefused asked fault before.store after.store
    → EntersStore asked (fault ≡ OpenFailed) before.store after.store → after.input ≡ before.input → after.output ≡ before.output → CrawlRun task asked before after (ending_of_open fault)
run_refused task asked before after fault law refused entered input output =
    let told = before.store.files in
    record {
      crawls = λ files is x has. store_refused task asked before after fault law (record { refused = refused; entered = entered; input = input; output = output }) files x is has;
      tells = λ files is. let new = told_after asked before.store.files after.store.files files entered.files is in (new.0, new.1);
      others = enters_told asked told told after.store.files entered.files;
      others_stop = enters_stops asked told before.store after.store entered.steps;
      opened = inr (record { files = entered.files; steps = entered.steps; input = input; output = output; late = open_late fault });
      unopened = λ is. (refused.same (unwanted fault is), input, output);
      unopened_stop = λ is. refused.same_stops (unwanted fault is);
      silent = λ none. wrote_none before.output after.output output;
      accepted = λ is. absurd (⊎_elim (no_crawled fault) (λ (full : (n : ℕ) × (ending_of_open fault ≡ Full n)). no_full fault full.0 full.1) is);
      read = λ is. absurd (no_done fault is);
      bad = λ n is. (ground_as asked told fault (OpenBadSettings n) (open_bad fault n is) refused.ground).0;
      bad_asked = λ n is. (ground_as asked told fault (OpenBadSettings n) (open_bad fault n is) refused.ground).1;
      line = λ n is. absurd (open_late fault (inr (inl (n, is))));
      not_ours = λ at is. ground_as asked told fault (OpenNotOurs at) (open_ours fault at is) refused.ground;
      damaged = λ f at is. inl (ground_as asked told fault (OpenDamaged f at) (open_damaged fault f at is) refused.ground);
      other = λ n kept wanted is. inl (ground_as asked told fault (OpenOtherSettings n kept wanted) (open_other fault n kept wanted is) refused.ground);
      whole = λ f at is. refused.whole (denies_as fault (OpenDamaged f at) (open_damaged fault f at is) tt);
      whole_ours = λ at is. refused.whole (denies_as fault (OpenNotOurs at) (open_ours fault at is) tt);
      disk = cause_for (fault ≡ OpenFailed) (ending_of_open fault ≡ DiskFault) before.store.faults after.store.faults (open_disk fault) entered.cause;
      input = cause_same (ending_of_open fault ≡ InputFault) before.input after.input input (λ is. open_late fault (inr (inr (inl is))));
      output = cause_same (ending_of_open fault ≡ OutputFault) before.output after.output output (λ is. open_late fault (inr (inr (inr (inl is)))));
    }

-- ---- the kind of a store
crawl_number : (kind : Kind) → kind_number CrawlKind ≡ kind_number kind → kind ≡ CrawlKind
crawl_number Lines same = cc
crawl_number Tuples same = cc
crawl_number CrawlKind same = refl

-- a store that is asked for a crawl is one of a crawl
pub kind_agrees : (asked : Asked) (settings : Settings) → Agrees asked settings → asked.kind ≡ CrawlKind → settings.kind ≡ CrawlKind
kind_agrees asked settings agrees is =
    crawl_number settings.kind (sym (ap kind_number is) ∙ agrees 0 (kind_number asked.kind) (kind_number settings.kind) refl refl)

-- ---- a store that was opened
disk_or : (ending : Ending) → (ending ≢ DiskFault) ⊎ (ending ≡ DiskFault)
disk_or Done = inl (λ is. cc)
disk_or (BadSettings n) = inl (λ is. cc)
disk_or (LineRefused n) = inl (λ is. cc)
disk_or (NotOurs at) = inl (λ is. cc)
disk_or (Damaged f at) = inl (λ is. cc)
disk_or (OtherSettings n k w) = inl (λ is. cc)
disk_or DiskFault = inr refl
disk_or InputFault = inl (λ is. cc)
disk_or OutputFault = inl (λ is. cc)
disk_or NoMemory = inl (λ is. cc)
disk_or (Full n) = inl (λ is. cc)

never_bad : (ending : Ending) (n : ℕ) → IsOpenEnding ending → ending ≡ BadSettings n → ⊥
never_bad ending n kind is = subst IsOpenEnding is kind

never_ours : (ending : Ending) (at : ℕ) → IsOpenEnding ending → ending ≡ NotOurs at → ⊥
never_ours ending at kind is = subst IsOpenEnding is kind

-- where the store failed the input was read, and nothing is printed
disk_read : (ending : Ending) → ending ≡ DiskFault → IsUnreadEnding ending → ⊥
disk_read ending failed (inl input) = let no : DiskFault ≡ InputFault = sym failed ∙ input in cc
disk_read ending failed (inr line) = let no : DiskFault ≡ LineRefused line.0 = sym failed ∙ line.1 in cc

disk_crawled : (ending : Ending) → ending ≡ DiskFault → IsCrawledEnding ending → ⊥
disk_crawled ending failed (inl done) = let no : DiskFault ≡ Done = sym failed ∙ done in cc
disk_crawled ending failed (inr output) = let no : DiskFault ≡ OutputFault = sym failed ∙ output in cc

disk_printed : (ending : Ending) → ending ≡ DiskFault → IsPrintEnding ending → ⊥
disk_printed ending failed (inl done) = let no : DiskFault ≡ Done = sym failed ∙ done in cc
disk_printed ending failed (inr (inl output)) = let no : DiskFault ≡ OutputFault = sym failed ∙ output in cc
disk_printed ending failed (inr (inr memory)) = let no : DiskFault ≡ NoMemory = sym failed ∙ memory in cc

-- a state that is held
legal_held : (images : Files → Type 0) (parts : Parts) (state : State) → IsDrum parts.urls → HoldsState images parts state → IsLegal state
legal_held images parts state law holds =
    inr (parts.urls.settings, held_state images parts.urls state state.urls law holds.urls holds.urls.legal holds.urls.urls_hold.book_is)

-- entering leaves the suffixes that a crawl began with
begun_entered : (asked : Asked) (x : State) (files : Files) → HasState x files → begun_with (entered_state asked x).events ≡ begun_with x.events
begun_entered asked x files (inl blank) = subst (λ (s : State). begun_with (entered_state asked s).events ≡ begun_with s.events) (sym blank.1) refl
begun_entered asked x files (inr (settings, made)) = ap (λ (s : State). begun_with s.events) (entered_made asked settings x made.settings_are)

module _ (task : CrawlTask) (asked : Asked) (before mid after : Lent) (was now : Parts) (ending : Ending) (law_before : IsConsistent before.store) (law_mid : IsConsistent mid.store)
    (law : IsConsistent after.store) (drum : IsDrum was.urls)
    (opened : OpensYard asked was before.store.files mid.store) (entered : EntersStore asked ⊥ before.store mid.store) (input : mid.input ≡ before.input) (output : mid.output ≡ before.output)
    (over : GoesOver task was now mid after ending) (kind : asked.kind ≡ CrawlKind) (long : now.urls.is_sound ≡ true → ForSome after.store.files (IsLong now.urls))
    (rest : IsOpenRest now.urls now.rest after.store.files) where
  -- what is told is told on
  tells : (files : Files) → before.store.files ≡ Some files → (later : Files) × (mid.store.files ≡ Some later)
  tells files is = let new = told_after asked before.store.files mid.store.files files entered.files is in (new.0, new.1)

  stops_in : (x most : State) → IsFrontState (entered_state asked x) most → ((image : Files) → before.store.images image → HasState x image)
      → Leaves mid.store after.store (HasOneBetween (entered_state asked x) most) → Leaves before.store after.store (HasOneBetween x most)
  stops_in x most front each stops = joins before.store mid.store after.store (HasOneBetween x most)
      (widens before.store mid.store _ _ (entered.stops x each) (λ image either. ⊎_elim
      (λ (h : HasState x image). (x, h, state_same x, state_both x (entered_state asked x) most (entered_front asked x) front))
      (λ (h : HasState (entered_state asked x) image). (entered_state asked x, h, entered_front asked x, front))
      either))
      (widens mid.store after.store _ _ stops (λ image between. (between.0, between.1, state_both x (entered_state asked x) between.0 (entered_front asked x) between.2, between.3)))

  settings_is : (x : State) (files : Files) → before.store.files ≡ Some files → HasState x files → was.urls.settings ≡ settings_for asked (entered_state asked x)
  settings_is x files is has = sym (ap (λ (o : Option Settings). unwrap_or o (settings_of asked)) (opened.holds files is x has).urls.settings)

  may_in : (x y : State) (files : Files) → before.store.files ≡ Some files → HasState x files → MayCrawl task was.urls.settings mid.input.bytes (entered_state asked x) y
      → MayCrawl task (settings_for asked (entered_state asked x)) before.input.bytes (entered_state asked x) y
  may_in x y files is has may = subst (λ (s : Stream). MayCrawl task (settings_for asked (entered_state asked x)) s.bytes (entered_state asked x) y) input
      (subst (λ (s : Settings). MayCrawl task s mid.input.bytes (entered_state asked x) y) (settings_is x files is has) may)

  agrees_in : (x : State) (files : Files) → before.store.files ≡ Some files → HasState x files → Agrees asked (settings_for asked (entered_state asked x))
  agrees_in x files is has = subst (Agrees asked) (settings_is x files is has) opened.agrees

  written_in : Appends before.output.bytes after.output.bytes over.text
  written_in = subst (λ (s : Stream). Appends s.bytes after.output.bytes over.text) output over.written

  -- cuts and records come in batches
  batched_in : (x : State) (files : Files) → before.store.files ≡ Some files → HasState x files → ForSome before.store.files (λ old. ForSome after.store.files (IsBatched asked x old))
  batched_in x files is has = run_batched asked before.store mid.store was files x law_mid drum opened entered (kind_agrees asked was.urls.settings opened.agrees kind) is has (ending ≡ DiskFault) now
      after.store over.batches law

  batched_stop_in : (x : State) (files : Files) → before.store.files ≡ Some files → HasState x files → ((image : Files) → before.store.images image → HasState x image)
      → LeavesBy (IsBatched asked x) before.store after.store
  batched_stop_in x files is has each = run_stops asked before.store mid.store was files x law_mid drum opened entered (kind_agrees asked was.urls.settings opened.agrees kind) is has
      (ending ≡ DiskFault) now after.store over.batches law_before each

  -- the store failed
  store_failed : (x : State) (files : Files) → before.store.files ≡ Some files → HasState x files → ending ≡ DiskFault → CrawlsStore task asked before after ending x
  store_failed x files is has failed =
      let later = tells files is in
      let fails = over.leads.fails failed later.0 later.1 (entered_state asked x) (opened.holds files is x has) in
      let whole = state_both (entered_state asked x) fails.kept fails.most fails.first (state_both fails.kept fails.state fails.most fails.fronts.0 fails.fronts.1) in
      let text : Appends before.output.bytes after.output.bytes [] = subst (λ (t : List ℕ). Appends before.output.bytes after.output.bytes t) (over.silent (disk_printed ending failed)) written_in in
      record {
        kept = fails.kept;
        state = fails.state;
        most = fails.most;
        told = fails.told;
        may_kept = inr (may_in x fails.kept files is has fails.may_kept);
        may_state = inr (may_in x fails.state files is has fails.may_state);
        may_most = inr (may_in x fails.most files is has fails.may_most);
        legal = fails.legal;
        unread = λ unread. absurd (disk_read ending failed unread);
        agrees = inr (agrees_in x files is has);
        now = λ late image left. fails.now image left;
        first = state_both x (entered_state asked x) fails.kept (entered_front asked x) fails.first;
        fronts = fails.fronts;
        settled = λ fine. absurd (fine failed);
        done = λ done. absurd (disk_crawled ending failed done);
        full = λ n full. let no : DiskFault ≡ Full n = sym failed ∙ full in let never : ⊥ = cc in absurd never;
        text = [];
        written = text;
        prints = no_text ending fails.kept (λ done. let no : DiskFault ≡ Done = sym failed ∙ done in let never : ⊥ = cc in absurd never);
        silent = λ was. refl;
        stops = λ each. stops_in x fails.most whole each fails.stops;
        batched = batched_in x files is has;
        batched_stop = λ each. batched_stop_in x files is has each;
      }

  store_led : (x : State) (files : Files) → before.store.files ≡ Some files → HasState x files → ending ≢ DiskFault → CrawlsStore task asked before after ending x
  store_led x files is has fine =
      let later = tells files is in
      let led = over.leads.leads fine later.0 later.1 (entered_state asked x) (opened.holds files is x has) in
      let y = led.0 in
      let goes = led.1 in
      let to = led.2 in
      record {
        kept = y;
        state = y;
        most = y;
        told = λ f told. held_has after.store.images now.urls y f over.leads.goes_on.drum to.holds.urls (law.told f told);
        may_kept = inr (may_in x y files is has goes.may);
        may_state = inr (may_in x y files is has goes.may);
        may_most = inr (may_in x y files is has goes.may);
        legal = (legal_held after.store.images now y over.leads.goes_on.drum to.holds, legal_held after.store.images now y over.leads.goes_on.drum to.holds);
        unread = goes.unread;
        agrees = inr (agrees_in x files is has);
        now = λ late image left. (y, held_has after.store.images now.urls y image over.leads.goes_on.drum to.holds.urls left, state_same y, state_same y);
        first = state_both x (entered_state asked x) y (entered_front asked x) to.front;
        fronts = (state_same y, state_same y);
        settled = λ still. (refl, refl);
        done = λ done.
            let crawled = goes.done done in (
              crawled.0,
              subst (λ (s : Stream). IsInput task s.bytes crawled.0) input crawled.1,
              subst (λ (s : Settings). IsCrawled task s crawled.0 (entered_state asked x) y) (settings_is x files is has) crawled.2,
            );
        full = λ n full.
            let found = goes.full n full in (
              found.0,
              subst (λ (s : Stream). IsInput task s.bytes found.0) input found.1,
              subst (λ (s : Settings). IsFullBy task s found.0 (entered_state asked x) y n) (settings_is x files is has) found.2,
            );
        text = over.text;
        written = written_in;
        prints = goes.prints;
        silent = λ failed. absurd (fine failed);
        stops = λ each. stops_in x y to.front each to.stops;
        batched = batched_in x files is has;
        batched_stop = λ each. batched_stop_in x files is has each;
      }

  -- damage is named of no state
  none_whole : (x : State) (files : Files) → before.store.files ≡ Some files → HasState x files → (f at : ℕ) → ending ≡ Damaged f at → ⊥
  none_whole x files is has f at damaged =
      let later = tells files is in
      let fine : ending ≢ DiskFault = λ failed. let no : Damaged f at ≡ DiskFault = sym damaged ∙ failed in let never : ⊥ = cc in absurd never in
      (over.leads.leads fine later.0 later.1 (entered_state asked x) (opened.holds files is x has)).1.whole f at damaged

  others : (x : State) (files : Files) → before.store.files ≡ Some files → HasState x files → (n kept wanted : ℕ) → ending ≡ OtherSettings n kept wanted
      → (tape : Taped) × IsInput task before.input.bytes tape × HasOtherSuffixes x tape.suffixes kept wanted
  others x files is has n kept wanted other =
      let later = tells files is in
      let fine : ending ≢ DiskFault = λ failed. let no : OtherSettings n kept wanted ≡ DiskFault = sym other ∙ failed in let never : ⊥ = cc in absurd never in
      let found = (over.leads.leads fine later.0 later.1 (entered_state asked x) (opened.holds files is x has)).1.other n kept wanted other in
      let differ = found.1.2 in (
        found.1.0,
        subst (λ (s : Stream). IsInput task s.bytes found.1.0) input found.1.1,
        record {
          text = differ.text;
          begun = sym (begun_entered asked x files has) ∙ differ.begun;
          kept_is = differ.kept_is;
          wanted_is = differ.wanted_is;
          differ = differ.differ;
          named = differ.named;
        },
      )

  -- what it was made with differs only in the suffixes
  suffixes_in : (n kept wanted : ℕ) → ending ≡ OtherSettings n kept wanted → (n ≡ 12) × NamesSuffixes task before.input.bytes wanted
  suffixes_in n kept wanted other = subst (λ (s : Stream). (n ≡ 12) × NamesSuffixes task s.bytes wanted) input (over.suffixes n kept wanted other)

  never_refused : IsRefusedStore ending → ⊥
  never_refused (inl bad) = never_bad ending bad.0 over.kinds bad.1
  never_refused (inr (inl ours)) = never_ours ending ours.0 over.kinds ours.1
  never_refused (inr (inr other)) = other.4 (over.suffixes other.0 other.1 other.2 other.3).0

  read_in : IsCrawledEnding ending ⊎ ((n : ℕ) × (ending ≡ Full n)) → (tape : Taped) × IsInput task before.input.bytes tape
  read_in is = subst (λ (s : Stream). (tape : Taped) × IsInput task s.bytes tape) input (over.accepted (elim is [ inl crawled ↦ inl crawled | inr full ↦ inr (inl full) ]))

  openable : ForSome before.store.files (IsOpenable asked)
  openable files told = record {
    settings = was.urls.settings;
    has = opened.settings files told;
    valid = drum.settings;
    agrees = opened.agrees;
    ours = opened.ours files told;
    undamaged = opened.undamaged files told;
  }

  -- it is open still, unless the store failed
  still_open : ending ≢ DiskFault → (files : Files) → after.store.files ≡ Some files → IsOpenOver asked before.store.files (Some files) now
  still_open fine files told =
      let sound = over.leads.goes_on.sound fine in
      record {
        sound = sound;
        drum = over.leads.goes_on.drum;
        base = over.leads.others.base ∙ opened.base;
        settings = subst (λ (s : Settings). ForSome before.store.files (λ was. HasSettings asked was s)) (sym over.leads.settings) opened.settings;
        long = λ last is. long sound.0 last (told ∙ is);
        rest = subst (IsOpenRest now.urls now.rest) told rest;
      }

  pub run_opened : CrawlRun task asked before after ending
  run_opened = record {
    crawls = λ files is x has. ⊎_elim (store_led x files is has) (store_failed x files is has) (disk_or ending);
    others = told_others asked before.store mid.store after.store was now opened.base drum entered over.leads.others;
    others_stop = stop_others asked before.store mid.store after.store was now law_mid opened.base drum entered over.leads.others;
    opened = inl openable;
    damaged = λ f at is. inr (
      openable,
      λ files told. record {
        parts = now;
        is_open = still_open (λ failed. let no : DiskFault ≡ Damaged f at = sym failed ∙ is in let never : ⊥ = cc in never) files told;
        broken = over.found.spoilt f at is files told;
      },
    );
    tells = λ files is. let later = tells files is in over.leads.told later.0 later.1;
    unopened = λ is. absurd (never_refused is);
    unopened_stop = λ is. absurd (never_refused is);
    silent = λ none. subst (λ (t : List ℕ). Appends before.output.bytes after.output.bytes t) (over.silent none) written_in;
    accepted = read_in;
    read = λ is. subst (λ (s : Stream). task.ends s after.input) input (over.read is);
    bad = λ n is. absurd (never_bad ending n over.kinds is);
    bad_asked = λ n is. absurd (never_bad ending n over.kinds is);
    line = λ n is. subst (λ (s : Stream). task.reads s.bytes (Err n)) input (over.line n is);
    not_ours = λ at is. absurd (never_ours ending at over.kinds is);
    other = λ n kept wanted is.
        let named = suffixes_in n kept wanted is in
        inr (named.0, named.1, λ files told x has. others x files told has n kept wanted is);
    whole = λ f at is files told x has. none_whole x files told has f at is;
    whole_ours = λ at is. absurd (never_ours ending at over.kinds is);
    disk = cause_then (ending ≡ DiskFault) before.store.faults mid.store.faults after.store.faults entered.cause.later over.leads.cause;
    input = subst (λ (s : Stream). HasCause (ending ≡ InputFault) s.faults after.input.faults) input over.input;
    output = subst (λ (s : Stream). HasCause (ending ≡ OutputFault) s.faults after.output.faults) output over.output;
  }
