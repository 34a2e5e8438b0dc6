-- What a command that prints a store's text does, by what it found of the store.
use Rattle.std.proofs.Common.{◌≡◌, ◌≢◌, ◌∙◌, ◌⊎◌, inl, inr, ⊎_elim, ℕ, ◌-◌, ◌^◌, min, sum, List, [], ◌∷◌, length, map, take, drop, Option, None, Some, refl, sym, ap, subst, append-nil, arith}
use Rattle.std.specs.Prelude.{Result, Ok, Err, OnOk, OnErr, IfErr, IsErrOf}
use Rattle.std.specs.Option.{ForSome}
use Rattle.std.specs.Io.KnownBytes.{Appends}
use Rattle.std.proofs.KnownBytes.{Appends-nil}
use Rattle.std.proofs.lemmas.List.{take-append-drop}
use Rattle.irl_base.specs.Faults.{Rose, HasCause}
use Rattle.irl_offer.specs.declared.settings.Asked.{Asked}
use Rattle.irl_offer.specs.declared.settings.Settings.{Settings}
use Rattle.irl_model.specs.Book.{judged, lengths_of, uniques, IsPrefixOf}
use Rattle.irl_events.specs.State.{State, blank_state}
use Rattle.irl_fate.specs.Counting.{count_fate, came_to, is_fresh, is_queued, is_last}
use Rattle.irl_fate.specs.Kept.{is_front, is_done}
use Rattle.irl_fate.specs.declared.counts.Counts.{Counts}
use Rattle.irl_offer.specs.declared.outcome.Outcome.TheVariants.{Page, Moved, Status, Denied, Shut, Lost, Bad, Large, Coded}
use Rattle.irl_disk.specs.Disk.{Files, TellsBy}
use Rattle.irl_disk.specs.Images.{Told, Follows, IsConsistent}
use Rattle.irl_disk.proofs.Effects.{cause_then, cause_for, reads_for, reads_none}
use Rattle.irl_disk.proofs.Stretches.{reads_on}
use Rattle.irl_bay.specs.JudgedSpoilt.{IsJudgedFile}
use Rattle.irl_bay.proofs.Flushing.{same_or_other}
use Rattle.irl_head.specs.Opening.{HasHead, IsUnwanted}
use Rattle.irl_head.specs.declared.open_fault.OpenFault.{OpenFault}
use Rattle.irl_head.specs.declared.open_fault.OpenFault.TheVariants.{NotOurs as OpenNotOurs, Damaged as OpenDamaged, OtherSettings as OpenOtherSettings, BadSettings as OpenBadSettings, Failed as OpenFailed, Memory as OpenMemory}
use Rattle.irl_io.specs.Written.{AppendsPrefix}
use Rattle.irl_yard.specs.Entering.{HasGround}
use Rattle.irl_yard.specs.Holding.{HoldsState}
use Rattle.irl_yard.specs.Looking.{IsAskedAsKept, LookRefused, LooksBlank, LooksMade, NamesAsked, OpensAsKept}
use Rattle.irl_yard.specs.Passing.{AreCounts, come}
use Rattle.irl_yard.specs.Standing.{HasState}
use Rattle.irl_yard.specs.declared.parts.Parts.{Parts}
use Rattle.irl_yard.proofs.Looking.{asked_of, head_kept, own_agrees}
use Rattle.irl_yard.proofs.States.{one_state}
use Rattle.irl_report.specs.Report.{report_of}
use Rattle.irl_top.specs.Listing.{IsPrintEnding, IsWriteEnding, IsWritten, Prints}
use Rattle.irl_top.specs.Message.{ending_of, ending_of_open}
use Rattle.irl_top.specs.Outside.{Lent}
use Rattle.irl_top.specs.Shown.{no_counts, HasCounts, IsReportOf, IsListingOf, IsPrinted, IsShowEnding, Shown, listing_by}
use Rattle.irl_top.specs.Stream.{Stream}
use Rattle.irl_top.specs.declared.ending.Ending.{Ending}
use Rattle.irl_top.specs.declared.ending.Ending.TheVariants.{Done, BadSettings, LineRefused, NotOurs, Damaged, OtherSettings, DiskFault, InputFault, OutputFault, NoMemory, Full}
use Rattle.irl_top.proofs.Closed.{open_late, open_ours, open_damaged}

-- ---- the text of a state
-- each state has counts, and so a report
counts_for : (settings : Option Settings) (state : State) → (counts : Counts) × HasCounts settings state counts
counts_for None state = (no_counts, refl)
counts_for (Some settings) state =
    let x = come settings state in
    let numbers = map (λ p. p.0) (uniques state.urls) in (
      record {
        offers = min (sum (lengths_of state.urls)) (2 ^ 64 - 1);
        judged = length (judged state.urls);
        unique = length numbers;
        pairs = length (uniques state.pairs);
        fresh = count_fate is_fresh x numbers;
        queued = count_fate is_queued x numbers;
        last = count_fate is_last x numbers;
        front = count_fate is_front x numbers;
        done = count_fate is_done x numbers;
        page = count_fate (came_to Page) x numbers;
        moved = count_fate (came_to Moved) x numbers;
        status = count_fate (came_to (Status 0)) x numbers;
        denied = count_fate (came_to (Denied 0)) x numbers;
        shut = count_fate (came_to Shut) x numbers;
        lost = count_fate (came_to Lost) x numbers;
        bad = count_fate (came_to Bad) x numbers;
        large = count_fate (came_to Large) x numbers;
        coded = count_fate (came_to Coded) x numbers;
      },
      record {
        fates = record {
          unique = refl;
          fresh = refl;
          queued = refl;
          last = refl;
          front = refl;
          done = refl;
          page = refl;
          moved = refl;
          status = refl;
          denied = refl;
          shut = refl;
          lost = refl;
          bad = refl;
          large = refl;
          coded = refl;
        };
        offers = refl;
        judged = refl;
        pairs = refl;
      },
    )

-- each state has a text
abbrev pub HasText : (State → List ℕ → Type 0) → Type 0
HasText has = (state : State) → (whole : List ℕ) × has state whole

pub has_report : HasText IsReportOf
has_report state = let found = counts_for state.settings state in (report_of found.0, (found.0, found.1, refl))

pub has_listing : HasText IsListingOf
has_listing state = (listing_by state.settings state, refl)

-- ---- what is written
pub none_of : (whole : List ℕ) → IsPrefixOf [] whole
none_of whole = (whole, refl)

pub all_of : (whole : List ℕ) → IsPrefixOf whole whole
all_of whole = ([], sym (append-nil whole))

-- a write of a whole text
pub written_of : (r : Result (Unit {0}) Ending) (old new : Stream) (whole : List ℕ) → OnOk r (Appends old.bytes new.bytes whole) → OnErr r (AppendsPrefix old.bytes new.bytes whole)
    → (text : List ℕ) × Appends old.bytes new.bytes text × IsWritten r text whole
written_of (Ok done) old new whole ok err = (whole, ok, (all_of whole, refl))
written_of (Err ending) old new whole ok err = (take err.0 whole, err.1, ((drop err.0 whole, sym (take-append-drop err.0 whole)), tt))

-- ---- endings
print_kind : (ending : Ending) → IsPrintEnding ending → IsShowEnding ending
print_kind ending (inl is) = subst IsShowEnding (sym is) tt
print_kind ending (inr (inl (f, at, is))) = subst IsShowEnding (sym is) tt
print_kind ending (inr (inr (inl is))) = subst IsShowEnding (sym is) tt
print_kind ending (inr (inr (inr is))) = subst IsShowEnding (sym is) tt

printed_kind : (r : Result (Unit {0}) Ending) → IfErr r IsPrintEnding → IsShowEnding (ending_of r)
printed_kind (Ok done) kinds = tt
printed_kind (Err ending) kinds = print_kind ending kinds

not_done : (ending : Ending) → IsPrintEnding ending → ending ≡ Done → ⊥
not_done ending (inl a) is = let no : DiskFault ≡ Done = sym a ∙ is in cc
not_done ending (inr (inl (f, at, a))) is = let no : Damaged f at ≡ Done = sym a ∙ is in cc
not_done ending (inr (inr (inl a))) is = let no : OutputFault ≡ Done = sym a ∙ is in cc
not_done ending (inr (inr (inr a))) is = let no : NoMemory ≡ Done = sym a ∙ is in cc

not_ours : (ending : Ending) (at : ℕ) → IsPrintEnding ending → ending ≡ NotOurs at → ⊥
not_ours ending at (inl a) is = let no : DiskFault ≡ NotOurs at = sym a ∙ is in cc
not_ours ending at (inr (inl (f, g, a))) is = let no : Damaged f g ≡ NotOurs at = sym a ∙ is in cc
not_ours ending at (inr (inr (inl a))) is = let no : OutputFault ≡ NotOurs at = sym a ∙ is in cc
not_ours ending at (inr (inr (inr a))) is = let no : NoMemory ≡ NotOurs at = sym a ∙ is in cc

-- what holds where it isn't refused holds at Done,
pub at_done : (r : Result (Unit {0}) Ending) (P : Type 0) → IfErr r IsPrintEnding → OnOk r P → ending_of r ≡ Done → P
at_done (Ok done) P kinds ok is = ok
at_done (Err ending) P kinds ok is = absurd (not_done ending kinds is)

ours_printed : (r : Result (Unit {0}) Ending) (at : ℕ) → IfErr r IsPrintEnding → ending_of r ≡ NotOurs at → ⊥
ours_printed (Ok done) at kinds is = cc
ours_printed (Err ending) at kinds is = not_ours ending at kinds is

-- and every other ending is the refusal
pub refused_as : (r : Result (Unit {0}) Ending) (ending : Ending) → (Done ≡ ending → ⊥) → ending_of r ≡ ending → IsErrOf r ending
refused_as (Ok done) ending other is = absurd (other is)
refused_as (Err e) ending other is = cc

look_kind : (fault : OpenFault) → (NamesAsked fault → ⊥) → IsShowEnding (ending_of_open fault)
look_kind (OpenNotOurs at) unasked = tt
look_kind (OpenDamaged f at) unasked = tt
look_kind (OpenOtherSettings n kept wanted) unasked = unasked tt
look_kind (OpenBadSettings n) unasked = unasked tt
look_kind OpenFailed unasked = tt
look_kind OpenMemory unasked = tt

look_failed : (fault : OpenFault) → ending_of_open fault ≡ DiskFault → fault ≡ OpenFailed
look_failed (OpenNotOurs at) is = let no : ⊥ = cc in absurd no
look_failed (OpenDamaged f at) is = let no : ⊥ = cc in absurd no
look_failed (OpenOtherSettings n kept wanted) is = let no : ⊥ = cc in absurd no
look_failed (OpenBadSettings n) is = let no : ⊥ = cc in absurd no
look_failed OpenFailed is = refl
look_failed OpenMemory is = let no : ⊥ = cc in absurd no

-- a fault that was found denies a state, where it does
own_ours : (fault : OpenFault) (at : ℕ) → fault ≡ OpenNotOurs at → (fault ≡ OpenFailed) ⊎ (fault ≡ OpenMemory) → ⊥
own_ours fault at is (inl failed) = let no : OpenNotOurs at ≡ OpenFailed = sym is ∙ failed in cc
own_ours fault at is (inr memory) = let no : OpenNotOurs at ≡ OpenMemory = sym is ∙ memory in cc

own_damaged : (fault : OpenFault) (f at : ℕ) → fault ≡ OpenDamaged f at → (fault ≡ OpenFailed) ⊎ (fault ≡ OpenMemory) → ⊥
own_damaged fault f at is (inl failed) = let no : OpenDamaged f at ≡ OpenFailed = sym is ∙ failed in cc
own_damaged fault f at is (inr memory) = let no : OpenDamaged f at ≡ OpenMemory = sym is ∙ memory in cc

-- ---- how it ends where nothing fails
completed : (before after : Lent) (ending : Ending) → IsShowEnding ending
    → ((f at : ℕ) → ending ≡ Damaged f at → ForSome before.store.files (λ files. (x : State) → HasState x files → ⊥))
    → ((at : ℕ) → ending ≡ NotOurs at → ForSome before.store.files (λ files. (x : State) → HasState x files → ⊥))
    → HasCause (ending ≡ DiskFault) before.store.faults after.store.faults → HasCause (ending ≡ OutputFault) before.output.faults after.output.faults
    → ForSome before.store.files (λ files. (x : State) → HasState x files → (Rose before.store.faults after.store.faults → ⊥) → (Rose before.output.faults after.output.faults → ⊥)
    → (ending ≡ NoMemory) ⊎ (ending ≡ Done))
completed before after Done kind whole ours disk output = λ files told x has d o. inr refl
completed before after (BadSettings n) kind whole ours disk output = absurd kind
completed before after (LineRefused n) kind whole ours disk output = absurd kind
completed before after (NotOurs at) kind whole ours disk output = λ files told x has d o. absurd (ours at refl files told x has)
completed before after (Damaged f at) kind whole ours disk output = λ files told x has d o. absurd (whole f at refl files told x has)
completed before after (OtherSettings n kept wanted) kind whole ours disk output = absurd kind
completed before after DiskFault kind whole ours disk output = λ files told x has d o. absurd (d (disk.rose refl))
completed before after InputFault kind whole ours disk output = absurd kind
completed before after OutputFault kind whole ours disk output = λ files told x has d o. absurd (o (output.rose refl))
completed before after NoMemory kind whole ours disk output = λ files told x has d o. inl refl
completed before after (Full b) kind whole ours disk output = absurd kind

-- what is refused as it is looked at prints nothing
none_printed : (fault : OpenFault) → IsPrinted (ending_of_open fault) → ⊥
none_printed fault (inl is) = open_late fault (inl is)
none_printed fault (inr is) = open_late fault (inr (inr (inr (inl is))))

-- ---- what a look leaves of a store of another make
-- bytes are the same unless they can't be
same_unless : (xs ys : List ℕ) → ((xs ≡ ys → ⊥) → ⊥) → xs ≡ ys
same_unless [] [] never = refl
same_unless [] (y ∷ ys) never = absurd (never (λ e. cc))
same_unless (x ∷ xs) (y ∷ ys) never = ⊎_elim
    (λ (first : x ≡ y). let rest : xs ≡ ys = same_unless xs ys (λ other. never (λ e. other (ap (drop 1) e))) in cc)
    (λ (other : x ≢ y). absurd (never (λ e. other (cc))))
    (same_or_other x y)
same_unless (x ∷ xs) [] never = absurd (never (λ e. cc))

same_files : (old new : Files) → ((f : ℕ) → new f ≡ old f) → new ≡ old
same_files old new each = λ i f. each f i

same_told : (step : Files → Files → Type 0) (old new : Option Files) → TellsBy step old new → ((new ≡ old → ⊥) → ⊥) → new ≡ old
same_told step None new tells never = tells
same_told step (Some old) new tells never =
    tells.1 ∙ ap Some (same_files old tells.0 (λ f. same_unless (tells.0 f) (old f) (λ other. never (λ same.
    let here : Some tells.0 ≡ Some old = sym tells.1 ∙ same in
    let files : tells.0 ≡ old = cc in
    other (ap (λ (x : Files). x f) files)))))

-- it can't be that nobody may ask for what is kept: where some settings are, whoever asks for these may
kept_by_some : (told : Option Files) → Asked → ((asked : Asked) → IsAskedAsKept asked told → ⊥) → ⊥
kept_by_some told any none = none any (λ files is settings head. absurd (none (asked_of settings)
    (head_kept settings (asked_of settings) told (λ other was.
    let same : files ≡ other = let both : Some files ≡ Some other = sym is ∙ was in cc in
    subst (HasHead settings) same head) (own_agrees settings))))

-- so it keeps its files
unopened_told : (before after : Told) (told : Option Files) → before.files ≡ told → TellsBy (OpensAsKept before.files) told after.files
    → ((asked : Asked) → IsAskedAsKept asked before.files → after.files ≡ before.files) → after.files ≡ before.files
unopened_told before after None is tells same = tells ∙ sym is
unopened_told before after (Some files) is tells same =
    same_told (OpensAsKept before.files) (Some files) after.files tells (λ other. kept_by_some before.files tells.2.0 (λ asked kept. other (same asked kept ∙ is))) ∙ sym is

-- ---- a look that was refused
pub shown_refused : (has : State → List ℕ → Type 0) (before after : Lent) (fault : OpenFault) → HasText has → LookRefused fault before.store after.store → after.input ≡ before.input
    → after.output ≡ before.output → Shown has before after (ending_of_open fault)
shown_refused has before after fault texts refused input output =
    let kinds = look_kind fault refused.unasked in
    let whole : (f at : ℕ) → ending_of_open fault ≡ Damaged f at → ForSome before.store.files (λ files. (x : State) → HasState x files → ⊥) =
    λ f at is files told x hs. own_damaged fault f at (open_damaged fault f at is) (refused.own files told x hs) in
    let ours : (at : ℕ) → ending_of_open fault ≡ NotOurs at → ForSome before.store.files (λ files. (x : State) → HasState x files → ⊥) =
    λ at is files told x hs. own_ours fault at (open_ours fault at is) (refused.own files told x hs) in
    let disk = cause_for (fault ≡ OpenFailed) (ending_of_open fault ≡ DiskFault) before.store.faults after.store.faults (look_failed fault) refused.looks.cause in
    let wrote : HasCause (ending_of_open fault ≡ OutputFault) before.output.faults after.output.faults =
    record { later = omega (arith, ap (λ (s : Stream). s.faults) output); rose = λ is. absurd (open_late fault (inr (inr (inr (inl is))))) } in
    record {
      text = [];
      written = subst (λ (s : Stream). Appends before.output.bytes s.bytes []) (sym output) (Appends-nil before.output.bytes);
      prints = λ files told x hs. let text = texts x in (text.0, text.1, none_of text.0, λ is. absurd (open_late fault (inl is)));
      told = refused.looks.told;
      stops = refused.looks.stops;
      files = refused.looks.files;
      steps = refused.looks.steps;
      input = input;
      opened = λ printed. absurd (none_printed fault printed);
      unopened = λ at is. (
        unopened_told before.store after.store before.store.files refl refused.looks.files (λ asked kept. (refused.refused asked kept).same (subst IsUnwanted (sym (open_ours fault at is)) tt)),
        output,
      );
      kinds = kinds;
      not_ours = λ at is asked kept. subst (HasGround asked before.store.files) (open_ours fault at is) (refused.refused asked kept).ground;
      damaged = λ f at is. inl (λ asked kept. subst (HasGround asked before.store.files) (open_damaged fault f at is) (refused.refused asked kept).ground);
      whole = whole;
      whole_ours = ours;
      disk = disk;
      output = wrote;
      completes = completed before after (ending_of_open fault) kinds whole ours disk wrote;
    }

-- ---- a store that wasn't made yet
-- a text was printed
pub record Printed (r : Result (Unit {0}) Ending) (whole : List ℕ) (old new : Stream) : Type 0 where
  pub text : List ℕ
  pub written : Appends old.bytes new.bytes text
  pub is : IsWritten r text whole
  pub kinds : IfErr r IsWriteEnding
  pub output : HasCause (IsErrOf r OutputFault) old.faults new.faults

pub printed_of : (r : Result (Unit {0}) Ending) (old new : Stream) (whole : List ℕ) → OnOk r (Appends old.bytes new.bytes whole) → OnErr r (AppendsPrefix old.bytes new.bytes whole)
    → IfErr r IsWriteEnding → HasCause (IsErrOf r OutputFault) old.faults new.faults → Printed r whole old new
printed_of r old new whole ok err kinds cause =
    let wrote = written_of r old new whole ok err in
    record { text = wrote.0; written = wrote.1; is = wrote.2; kinds = kinds; output = cause }

-- it is refused as printing is
pub narrow : (r : Result (Unit {0}) Ending) → IfErr r IsWriteEnding → IfErr r IsPrintEnding
narrow (Ok done) kinds = tt
narrow (Err ending) kinds = inr (inr kinds)

plain_damaged : (r : Result (Unit {0}) Ending) (f at : ℕ) → IfErr r IsWriteEnding → ending_of r ≡ Damaged f at → ⊥
plain_damaged (Ok done) f at kinds is = cc
plain_damaged (Err ending) f at (inl a) is = let no : OutputFault ≡ Damaged f at = sym a ∙ is in cc
plain_damaged (Err ending) f at (inr a) is = let no : NoMemory ≡ Damaged f at = sym a ∙ is in cc

plain_failed : (r : Result (Unit {0}) Ending) → IfErr r IsWriteEnding → ending_of r ≡ DiskFault → ⊥
plain_failed (Ok done) kinds is = cc
plain_failed (Err ending) (inl a) is = let no : OutputFault ≡ DiskFault = sym a ∙ is in cc
plain_failed (Err ending) (inr a) is = let no : NoMemory ≡ DiskFault = sym a ∙ is in cc

pub shown_blank : (has : State → List ℕ → Type 0) (before after : Lent) (r : Result (Unit {0}) Ending) (whole : List ℕ) → LooksBlank before.store after.store → has blank_state whole
    → Printed r whole before.output after.output → after.input ≡ before.input → Shown has before after (ending_of r)
shown_blank has before after r text blank is printed input =
    let looks = blank.looks in
    let wide = narrow r printed.kinds in
    let kinds = printed_kind r wide in
    let whole : (f at : ℕ) → ending_of r ≡ Damaged f at → ForSome before.store.files (λ files. (x : State) → HasState x files → ⊥) =
    λ f at e. absurd (plain_damaged r f at printed.kinds e) in
    let ours : (at : ℕ) → ending_of r ≡ NotOurs at → ForSome before.store.files (λ files. (x : State) → HasState x files → ⊥) = λ at e. absurd (ours_printed r at wide e) in
    let disk : HasCause (ending_of r ≡ DiskFault) before.store.faults after.store.faults = record { later = looks.cause.later; rose = λ e. absurd (plain_failed r printed.kinds e) } in
    let output = cause_for (IsErrOf r OutputFault) (ending_of r ≡ OutputFault) before.output.faults after.output.faults (refused_as r OutputFault (λ e. cc)) printed.output in
    record {
      text = printed.text;
      written = printed.written;
      prints = λ files told x hs.
          let same : blank_state ≡ x = one_state blank_state x files (inl (blank.blank files told, refl)) hs in
          (text, subst (λ (s : State). has s text) same is, printed.is.0, λ e. at_done r (printed.text ≡ text) wide printed.is.1 e);
      told = looks.told;
      stops = looks.stops;
      files = looks.files;
      steps = looks.steps;
      input = input;
      opened = λ is files told. inl (blank.blank files told);
      unopened = λ at e. absurd (ours_printed r at wide e);
      kinds = kinds;
      not_ours = λ at e. absurd (ours_printed r at wide e);
      damaged = λ f at e. absurd (plain_damaged r f at printed.kinds e);
      whole = whole;
      whole_ours = ours;
      disk = disk;
      output = output;
      completes = completed before after (ending_of r) kinds whole ours disk output;
    }

-- ---- a store that is open
-- what is told once a store was looked at
told_then : (step : Files → Files → Type 0) (old new : Option Files) (files : Files) → TellsBy step old new → old ≡ Some files → (after : Files) × (new ≡ Some after)
told_then step None new files tells told = let no : ⊥ = cc in absurd no
told_then step (Some was) new files tells told = (tells.0, tells.1)

pub shown_made : (has : State → List ℕ → Type 0) (before after : Lent) (mid : Told) (parts : Parts) (r : Result (Unit {0}) Ending) → IsConsistent mid → LooksMade parts before.store mid
    → Prints has r parts mid after.store before.output after.output → after.input ≡ before.input → Shown has before after (ending_of r)
shown_made has before after mid parts r law made prints input =
    let looks = made.looks in
    let reads = prints.reads in
    let own = made.opens (asked_of parts.urls.settings) (own_agrees parts.urls.settings) in
    let kinds = printed_kind r prints.kinds in
    let there : (files : Files) → before.store.files ≡ Some files → (open_files : Files) × (mid.files ≡ Some open_files) =
    λ files told. told_then (OpensAsKept before.store.files) before.store.files mid.files files looks.files told in
    let whole : (f at : ℕ) → ending_of r ≡ Damaged f at → ForSome before.store.files (λ files. (x : State) → HasState x files → ⊥) = λ f at e files told x hs.
    let open_files = there files told in
    prints.whole f at (refused_as r (Damaged f at) (λ no. cc) e) open_files.0 open_files.1 x (made.holds files told x hs) in
    let ours : (at : ℕ) → ending_of r ≡ NotOurs at → ForSome before.store.files (λ files. (x : State) → HasState x files → ⊥) = λ at e. absurd (ours_printed r at prints.kinds e) in
    let disk = cause_then (ending_of r ≡ DiskFault) before.store.faults mid.faults after.store.faults looks.cause.later
    (cause_for (IsErrOf r DiskFault) (ending_of r ≡ DiskFault) mid.faults after.store.faults (refused_as r DiskFault (λ no. cc)) reads.cause) in
    let output = cause_for (IsErrOf r OutputFault) (ending_of r ≡ OutputFault) before.output.faults after.output.faults (refused_as r OutputFault (λ no. cc)) prints.output in
    record {
      text = prints.text;
      written = prints.written;
      prints = λ files told x hs.
          let open_files = there files told in
          let found = prints.is open_files.0 open_files.1 x (made.holds files told x hs) in
          (found.0, found.1, found.2.0, λ e. at_done r (prints.text ≡ found.0) prints.kinds found.2.1 e);
      told = λ x files told hs. subst (λ (o : Option Files). ForSome o (HasState x)) (sym reads.same) (looks.told x files told hs);
      stops = λ x each. reads_on before.store mid after.store (HasState x) law (looks.stops x each) reads.stops;
      files = subst (TellsBy (OpensAsKept before.store.files) before.store.files) (sym reads.same) looks.files;
      steps = reads_on before.store mid after.store (Follows (OpensAsKept before.store.files) before.store.images) law looks.steps reads.stops;
      input = input;
      opened = λ is files told. inr (
        parts.urls.settings,
        made.head files told,
        λ asked agrees. let opens = made.opens asked agrees in (opens.ours files told, opens.undamaged files told),
      );
      unopened = λ at e. absurd (ours_printed r at prints.kinds e);
      kinds = kinds;
      not_ours = λ at e. absurd (ours_printed r at prints.kinds e);
      damaged = λ f at e. inr (λ files told.
          let was = sym reads.same ∙ told in
          record {
            urls = parts.urls;
            drum = own.drum;
            base = own.base;
            head = made.head;
            long = own.long files was;
            broken = prints.spoilt f at (refused_as r (Damaged f at) (λ no. cc) e) files was;
          });
      whole = whole;
      whole_ours = ours;
      disk = disk;
      output = output;
      completes = completed before after (ending_of r) kinds whole ours disk output;
    }

-- the report of the state that it holds was printed, and nothing is read for it
pub prints_report : (r : Result (Unit {0}) Ending) (parts : Parts) (mid : Told) (old new : Stream) (counts : Counts) → IsConsistent mid
    → ((state : State) → HoldsState mid.images parts state → AreCounts parts.urls.settings state counts) → Printed r (report_of counts) old new → Prints IsReportOf r parts mid mid old new
prints_report r parts mid old new counts law are printed = record {
  text = printed.text;
  written = printed.written;
  is = λ files told state holds. (
    report_of counts,
    (counts, subst (λ (o : Option Settings). HasCounts o state counts) (sym holds.urls.settings) (are state holds), refl),
    printed.is,
  );
  reads = reads_for (IsJudgedFile parts.urls) ⊥ (IsErrOf r DiskFault) mid mid (λ e. plain_failed r printed.kinds (ap ending_of e)) (reads_none (IsJudgedFile parts.urls) mid law);
  spoilt = λ f at e. absurd (plain_damaged r f at printed.kinds (ap ending_of e));
  whole = λ f at e. absurd (plain_damaged r f at printed.kinds (ap ending_of e));
  kinds = narrow r printed.kinds;
  output = printed.output;
}
