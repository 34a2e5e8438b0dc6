-- A run over a store that was refused.
use Rattle.std.proofs.Common.{◌≡◌, ◌≢◌, ◌∙◌, ◌⊎◌, inl, inr, ⊎_elim, ℕ, ◌-◌, [], length, Option, None, Some, refl, sym, ap, subst, append-nil, arith}
use Rattle.std.proofs.KnownBytes.{Appends-nil}
use Rattle.std.specs.Option.{ForSome}
use Rattle.std.specs.Io.KnownBytes.{Appends}
use Rattle.irl_base.specs.Faults.{HasCause}
use Rattle.irl_offer.specs.Settings.{AreValid, settings_of}
use Rattle.irl_offer.specs.declared.settings.Asked.{Asked}
use Rattle.irl_offer.specs.declared.settings.Kind.TheVariants.{Crawl}
use Rattle.irl_offer.specs.declared.settings.Settings.{Settings}
use Rattle.irl_model.specs.Book.{IsPrefixOf, part}
use Rattle.irl_events.specs.State.{State, IsFrontState, blank_state}
use Rattle.irl_disk.specs.Disk.{Files, ChangesFile, TellsBy}
use Rattle.irl_disk.specs.Images.{IsConsistent, Leaves, LeavesBy}
use Rattle.irl_disk.proofs.Stretches.{widens, left_now}
use Rattle.irl_bay.proofs.Blank.{blank_is_book}
use Rattle.irl_journal.specs.Visiting.{IsOpened}
use Rattle.irl_head.specs.StoreFiles.{head_file}
use Rattle.irl_head.specs.Opening.{IsBlank, DeniesState, IsUnwanted}
use Rattle.irl_yard.specs.Standing.{HasState, IsLegal}
use Rattle.irl_yard.specs.Holding.{HasOneOf}
use Rattle.irl_yard.specs.Opening.{IsDamageAt, IsStoreDamagedAt, entered_state, new_state}
use Rattle.irl_yard.specs.Entering.{Enters, HasGround}
use Rattle.irl_head.specs.declared.open_fault.OpenFault.{OpenFault}
use Rattle.irl_head.specs.declared.open_fault.OpenFault.TheVariants.{NotOurs as OpenNotOurs, Damaged as OpenDamaged, OtherSettings as OpenOtherSettings, BadSettings as OpenBadSettings, Failed as OpenFailed, Memory as OpenMemory}
use Rattle.irl_yard.proofs.ByKind.{agrees_crawl, new_rest}
use Rattle.irl_yard.proofs.Holding.{made_state}
use Rattle.irl_yard.proofs.Grounds.{entered_made}
use Rattle.irl_yard.proofs.States.{state_same, entered_front}
use Rattle.irl_yard.proofs.Entering.{enters_keeps, enters_records}
use Rattle.irl_schedule.specs.Feeding.{list_at}
use Rattle.irl_top.specs.declared.line.LineKind.{LineKind}
use Rattle.irl_top.specs.Input.{offered}
use Rattle.irl_top.specs.Message.{ending_of_open, IsAllPrinted, IsLate, IsUnopened}
use Rattle.irl_top.specs.Outside.{Lent}
use Rattle.irl_top.specs.Printed.{before_last, judged_count, added}
use Rattle.irl_top.specs.Records.{AddsUnevenRecords}
use Rattle.irl_top.specs.Run.{line_task, settings_in, Reaches, Extends, Ran}
use Rattle.irl_top.specs.Stream.{Stream}
use Rattle.irl_top.specs.declared.ending.Ending.TheVariants.{Done, BadSettings, LineRefused, NotOurs, OtherSettings, DiskFault, InputFault, OutputFault, Full, Damaged}
use Rattle.irl_top.proofs.Growing.{starts}
use Rattle.irl_top.proofs.Ranges.{valid_or_not}
use Rattle.irl_top.proofs.Opened.{enters_told, enters_stops, entered_uneven, reaches_entered}
use Rattle.irl_top.proofs.Unprinted.{earlier_few, none_unprinted}

-- ---- endings
-- no store that is refused is judged, and nothing of an input is read
pub open_late : (fault : OpenFault) → IsLate (ending_of_open fault) → ⊥
open_late fault late = elim late [
  | inl done ↦ not_done fault done
  | inr rest ↦ elim rest [
    | inl line ↦ not_line fault line.0 line.1
    | inr more ↦ elim more
        [ inl input ↦ not_input fault input | inr last ↦ elim last [ inl output ↦ not_output fault output | inr full ↦ not_full fault full.0 full.1 ] ]
  ]
]
  where
    not_done : (f : OpenFault) → ending_of_open f ≡ Done → ⊥
    not_done (OpenNotOurs at) is = cc
    not_done (OpenDamaged g at) is = cc
    not_done (OpenOtherSettings n k w) is = cc
    not_done (OpenBadSettings n) is = cc
    not_done OpenFailed is = cc
    not_done OpenMemory is = cc

    not_line : (f : OpenFault) (m : ℕ) → ending_of_open f ≡ LineRefused m → ⊥
    not_line (OpenNotOurs at) m is = cc
    not_line (OpenDamaged g at) m is = cc
    not_line (OpenOtherSettings n k w) m is = cc
    not_line (OpenBadSettings n) m is = cc
    not_line OpenFailed m is = cc
    not_line OpenMemory m is = cc

    not_input : (f : OpenFault) → ending_of_open f ≡ InputFault → ⊥
    not_input (OpenNotOurs at) is = cc
    not_input (OpenDamaged g at) is = cc
    not_input (OpenOtherSettings n k w) is = cc
    not_input (OpenBadSettings n) is = cc
    not_input OpenFailed is = cc
    not_input OpenMemory is = cc

    not_output : (f : OpenFault) → ending_of_open f ≡ OutputFault → ⊥
    not_output (OpenNotOurs at) is = cc
    not_output (OpenDamaged g at) is = cc
    not_output (OpenOtherSettings n k w) is = cc
    not_output (OpenBadSettings n) is = cc
    not_output OpenFailed is = cc
    not_output OpenMemory is = cc

    not_full : (f : OpenFault) (m : ℕ) → ending_of_open f ≡ Full m → ⊥
    not_full (OpenNotOurs at) m is = cc
    not_full (OpenDamaged g at) m is = cc
    not_full (OpenOtherSettings n k w) m is = cc
    not_full (OpenBadSettings n) m is = cc
    not_full OpenFailed m is = cc
    not_full OpenMemory m is = cc

open_printed : (fault : OpenFault) → IsAllPrinted (ending_of_open fault) → ⊥
open_printed fault is = elim is [
  | inl of_input ↦ elim of_input [ inl done ↦ open_late fault (inl done) | inr rest ↦ elim rest [ inl line ↦ open_late fault (inr (inl line)) | inr input ↦ open_late fault (inr (inr (inl input))) ] ]
  | inr over ↦ open_late fault (inr (inr (inr (inr over))))
]

pub open_bad : (fault : OpenFault) (n : ℕ) → ending_of_open fault ≡ BadSettings n → fault ≡ OpenBadSettings n
open_bad (OpenNotOurs at) n is = let no : ⊥ = cc in absurd no
open_bad (OpenDamaged g at) n is = let no : ⊥ = cc in absurd no
open_bad (OpenOtherSettings m k w) n is = let no : ⊥ = cc in absurd no
open_bad (OpenBadSettings m) n is = let one : m ≡ n = cc in cc
open_bad OpenFailed n is = let no : ⊥ = cc in absurd no
open_bad OpenMemory n is = let no : ⊥ = cc in absurd no

pub open_ours : (fault : OpenFault) (n : ℕ) → ending_of_open fault ≡ NotOurs n → fault ≡ OpenNotOurs n
open_ours (OpenNotOurs at) n is = let one : at ≡ n = cc in cc
open_ours (OpenDamaged g at) n is = let no : ⊥ = cc in absurd no
open_ours (OpenOtherSettings m k w) n is = let no : ⊥ = cc in absurd no
open_ours (OpenBadSettings m) n is = let no : ⊥ = cc in absurd no
open_ours OpenFailed n is = let no : ⊥ = cc in absurd no
open_ours OpenMemory n is = let no : ⊥ = cc in absurd no

pub open_damaged : (fault : OpenFault) (f n : ℕ) → ending_of_open fault ≡ Damaged f n → fault ≡ OpenDamaged f n
open_damaged (OpenNotOurs at) f n is = let no : ⊥ = cc in absurd no
open_damaged (OpenDamaged g at) f n is = let one : g ≡ f = cc in let two : at ≡ n = cc in cc
open_damaged (OpenOtherSettings m k w) f n is = let no : ⊥ = cc in absurd no
open_damaged (OpenBadSettings m) f n is = let no : ⊥ = cc in absurd no
open_damaged OpenFailed f n is = let no : ⊥ = cc in absurd no
open_damaged OpenMemory f n is = let no : ⊥ = cc in absurd no

pub open_other : (fault : OpenFault) (n kept wanted : ℕ) → ending_of_open fault ≡ OtherSettings n kept wanted → fault ≡ OpenOtherSettings n kept wanted
open_other (OpenNotOurs at) n kept wanted is = let no : ⊥ = cc in absurd no
open_other (OpenDamaged g at) n kept wanted is = let no : ⊥ = cc in absurd no
open_other (OpenOtherSettings m k w) n kept wanted is = let one : m ≡ n = cc in let two : k ≡ kept = cc in let three : w ≡ wanted = cc in cc
open_other (OpenBadSettings m) n kept wanted is = let no : ⊥ = cc in absurd no
open_other OpenFailed n kept wanted is = let no : ⊥ = cc in absurd no
open_other OpenMemory n kept wanted is = let no : ⊥ = cc in absurd no

pub open_disk : (fault : OpenFault) → ending_of_open fault ≡ DiskFault → fault ≡ OpenFailed
open_disk (OpenNotOurs at) is = let no : ⊥ = cc in absurd no
open_disk (OpenDamaged g at) is = let no : ⊥ = cc in absurd no
open_disk (OpenOtherSettings m k w) is = let no : ⊥ = cc in absurd no
open_disk (OpenBadSettings m) is = let no : ⊥ = cc in absurd no
open_disk OpenFailed is = refl
open_disk OpenMemory is = let no : ⊥ = cc in absurd no

-- ---- what entering says of a store that was refused
pub record IsRefused (asked : Asked) (before after : Lent) (fault : OpenFault) : Type 0 where
  pub kind : asked.kind ≢ Crawl
  pub ground : HasGround asked before.store.files fault
  pub whole : DeniesState fault → ForSome before.store.files (λ files. (x : State) → HasState x files → ⊥)
  pub same : IsUnwanted fault → after.store.files ≡ before.store.files
  pub same_stops : IsUnwanted fault → LeavesBy (ChangesFile head_file IsOpened) before.store after.store
  pub blank : fault ≢ OpenFailed → ForSome before.store.files (λ files. IsBlank files → ForSome after.store.files IsBlank)
  pub blank_stops : fault ≢ OpenFailed → ((image : Files) → before.store.images image → IsBlank image) → Leaves before.store after.store IsBlank
  pub files : TellsBy (Enters asked before.store.files) before.store.files after.store.files
  pub steps : LeavesBy (Enters asked before.store.files) before.store after.store
  pub stops : (x : State) → ((image : Files) → before.store.images image → HasState x image) → Leaves before.store after.store (HasOneOf x (entered_state asked x))
  pub cause : HasCause (fault ≡ OpenFailed) before.store.faults after.store.faults
  pub input : after.input ≡ before.input
  pub output : after.output ≡ before.output

-- where the store stands for a state: what is told and what a stop leaves, and the greatest of it
record Keeps (asked : Asked) (before after : Lent) (x most : State) : Type 0 where
  pub state : State
  pub told : ForSome after.store.files (HasState state)
  pub reaches : Reaches asked x state × Reaches asked x most
  pub fronts : IsFrontState x state × IsFrontState state most
  pub stops : ((image : Files) → before.store.images image → HasState x image) → Leaves before.store after.store (λ image. (z : State) × HasState z image × Reaches asked x z × IsFrontState x z
      × IsFrontState z most)
  pub lists : (b : ℕ) → list_at most.urls b ≡ list_at x.urls b
  pub count : judged_count most.urls ≡ judged_count x.urls
  pub legal : IsLegal most
  pub either : (state ≡ x) ⊎ (state ≡ most)

pub told_after : (asked : Asked) (old new : Option Files) (files : Files) → TellsBy (Enters asked old) old new → old ≡ Some files → (after : Files) × (new ≡ Some after) × Enters asked old files after
told_after asked None new files tells told = let no : ⊥ = cc in absurd no
told_after asked (Some was) new files tells told = let same : was ≡ files = cc in (tells.0, tells.1, subst (λ (f : Files). Enters asked (Some was) f tells.0) same tells.2)

pub same_told : (told : Option Files) (f : Files) (z : State) → told ≡ Some f → HasState z f → ForSome told (HasState z)
same_told told f z is has = λ g is_g. let same : f ≡ g = cc in subst (HasState z) same has

-- ---- legal states
-- a state that files stand for
pub legal_has : (x : State) (files : Files) → HasState x files → IsLegal x
legal_has x files (inl blank) = inl blank.1
legal_has x files (inr (settings, made)) = inr (settings, made_state settings x files made)

-- that of a store that was just made
legal_new : (settings : Settings) → AreValid settings → IsLegal (new_state settings)
legal_new settings valid = inr (
  settings,
  record {
    settings_are = refl;
    valid = valid;
    book_is = record { is_book = blank_is_book settings.buckets settings.rule valid.buckets; buckets = refl; rule = refl; dropped = refl };
    rest = new_rest settings.kind settings valid;
  },
)

pub legal_entered : (asked : Asked) (x : State) (files : Files) → AreValid (settings_of asked) → HasState x files → IsLegal (entered_state asked x)
legal_entered asked x files valid (inl blank) = subst (λ (s : State). IsLegal (entered_state asked s)) (sym blank.1) (legal_new (settings_of asked) valid)
legal_entered asked x files valid (inr (settings, made)) = subst IsLegal (sym (entered_made asked settings x made.settings_are)) (legal_has x files (inr (settings, made)))

-- files that have the new store's state show that it can be made
pub entered_valid : (asked : Asked) (x : State) (image : Files) → x ≡ blank_state → HasState (entered_state asked x) image → AreValid (settings_of asked)
entered_valid asked x image blank has = from_new image (subst (λ (s : State). HasState (entered_state asked s) image) blank has)
  where
    from_new : (image : Files) → HasState (new_state (settings_of asked)) image → AreValid (settings_of asked)
    from_new image (inl none) = let no : Some (settings_of asked) ≡ None = ap (λ (s : State). s.settings) none.1 in let never : ⊥ = cc in absurd never
    from_new image (inr (settings, made)) = let same : settings_of asked ≡ settings = (let is : Some (settings_of asked) ≡ Some settings = made.settings_are in cc) in
        subst AreValid (sym same) made.valid

-- ---- what is left of the state
-- the greatest is the new store's
keeps_either : (asked : Asked) (before after : Lent) (fault : OpenFault) (files : Files) (x : State) → IsRefused asked before after fault → before.store.files ≡ Some files → HasState x files
    → IsLegal (entered_state asked x) → Keeps asked before after x (entered_state asked x)
keeps_either asked before after fault files x refused told has legal =
    let new = told_after asked before.store.files after.store.files files refused.files told in
    let one = enters_keeps asked before.store.files files x files new.0 told has has new.2 in
    by_one new.0 new.1 one
  where
    stopped : ((image : Files) → before.store.images image → HasState x image) → Leaves before.store after.store (λ image. (z : State) × HasState z image × Reaches asked x z × IsFrontState x z
        × IsFrontState z (entered_state asked x))
    stopped each = widens before.store after.store _ _ (refused.stops x each) (λ image either. ⊎_elim
        (λ (is : HasState x image). (x, is, inl refl, state_same x, entered_front asked x))
        (λ (is : HasState (entered_state asked x) image). (entered_state asked x, is, reaches_entered asked x, entered_front asked x, state_same (entered_state asked x)))
        either)

    by_one : (f : Files) → after.store.files ≡ Some f → HasOneOf x (entered_state asked x) f → Keeps asked before after x (entered_state asked x)
    by_one f is (inl old) = record {
      state = x;
      told = same_told after.store.files f x is old;
      reaches = (inl refl, reaches_entered asked x);
      fronts = (state_same x, entered_front asked x);
      stops = stopped;
      lists = (starts asked x files has).lists;
      count = (starts asked x files has).count;
      legal = legal;
      either = inl refl;
    }
    by_one f is (inr made) = record {
      state = entered_state asked x;
      told = same_told after.store.files f (entered_state asked x) is made;
      reaches = (reaches_entered asked x, reaches_entered asked x);
      fronts = (entered_front asked x, state_same (entered_state asked x));
      stops = stopped;
      lists = (starts asked x files has).lists;
      count = (starts asked x files has).count;
      legal = legal;
      either = inr refl;
    }

-- where no store can be made as is asked, none is
keeps_unmade : (asked : Asked) (before after : Lent) (fault : OpenFault) (files : Files) (x : State) → IsRefused asked before after fault → before.store.files ≡ Some files → HasState x files
    → x ≡ blank_state → (AreValid (settings_of asked) → ⊥) → Keeps asked before after x x
keeps_unmade asked before after fault files x refused told has blank bad =
    let new = told_after asked before.store.files after.store.files files refused.files told in
    let one = enters_keeps asked before.store.files files x files new.0 told has has new.2 in
    record {
      state = x;
      told = same_told after.store.files new.0 x new.1 (old_one new.0 one);
      reaches = (inl refl, inl refl);
      fronts = (state_same x, state_same x);
      stops = λ each. widens before.store after.store _ _ (refused.stops x each) (λ image either. (x, old_one image either, inl refl, state_same x, state_same x));
      lists = λ b. refl;
      count = refl;
      legal = inl blank;
      either = inl refl;
    }
  where
    old_one : (image : Files) → HasOneOf x (entered_state asked x) image → HasState x image
    old_one image (inl has) = has
    old_one image (inr made) = absurd (bad (entered_valid asked x image blank made))

-- a state of a store that wasn't made has only such files
pub blank_image : (x : State) (image : Files) → x ≡ blank_state → HasState x image → IsBlank image
blank_image x image is (inl blank) = blank.0
blank_image x image is (inr (settings, made)) = let no : None ≡ Some settings = sym (ap (λ (s : State). s.settings) is) ∙ made.settings_are in let never : ⊥ = cc in absurd never

-- unless a call failed, a store that wasn't made yet still isn't
keeps_blank : (asked : Asked) (before after : Lent) (fault : OpenFault) (files : Files) (x : State) → IsRefused asked before after fault → fault ≢ OpenFailed → before.store.files ≡ Some files
    → IsBlank files → x ≡ blank_state → Keeps asked before after x x
keeps_blank asked before after fault files x refused fine told blank same = record {
  state = x;
  told = λ g is. inl (refused.blank fine files told blank g is, same);
  reaches = (inl refl, inl refl);
  fronts = (state_same x, state_same x);
  stops = λ each. widens before.store after.store _ _ (refused.blank_stops fine (λ image left. blank_image x image same (each image left))) (λ image still.
      (x, inl (still, same), inl refl, state_same x, state_same x));
  lists = λ b. refl;
  count = refl;
  legal = inl same;
  either = inl refl;
}

-- nothing is printed where no more was judged
nothing_before : (kind : LineKind) (x most : State) → IsLegal most → judged_count most.urls ≡ judged_count x.urls → IsPrefixOf (added kind x.urls (before_last most.urls)) []
nothing_before kind x most (inl blank) count =
    let none : judged_count (before_last blank_state.urls) ≡ 0 = refl in
    subst (λ (s : State). IsPrefixOf (added kind x.urls (before_last s.urls)) []) (sym blank)
    (none_unprinted kind (before_last blank_state.urls) (judged_count x.urls) [] (omega (arith, none)))
nothing_before kind x most (inr (settings, is)) count =
    none_unprinted kind (before_last most.urls) (judged_count x.urls) [] (omega (arith, count, earlier_few (length most.urls.cuts - 1) most.urls is.book_is.is_book))

extends_closed : (kind : LineKind) (asked : Asked) (before after : Lent) (fault : OpenFault) (files : Files) (x most : State) → IsConsistent before.store → IsConsistent after.store
    → IsRefused asked before after fault → before.store.files ≡ Some files → HasState x files → (k : Keeps asked before after x most)
    → (fault ≢ OpenFailed → most ≡ x) → Extends (line_task kind asked) before after (ending_of_open fault) x
extends_closed kind asked before after fault files x most law_before law_after refused told has k same =
    let settings = settings_in asked x in
    record {
      kept = x;
      state = k.state;
      most = most;
      told = k.told;
      reaches = (inl refl, k.reaches.0, k.reaches.1);
      fronts = k.fronts;
      legal = (legal_has x files has, k.legal);
      settled = λ fine. let is = same (λ failed. fine (ap ending_of_open failed)) in (⊎_elim (λ old. old) (λ new. new ∙ is) k.either, is);
      entered = λ late. absurd (open_late fault late);
      takes = λ bytes tells. record {
        news = [];
        read = (offered kind bytes, refl);
        waiting = λ b. [];
        few = λ b within. omega arith;
        keeps = λ b within. refl;
        whole = λ is. absurd (open_late fault (⊎_elim (λ done. inl done) (λ line. inr (inl line)) is));
        none = λ is b within. refl;
        full = λ b is. absurd (open_late fault (inr (inr (inr (inr (b, is))))));
      };
      lists = λ bytes tells b within. ([], k.lists b ∙ sym (append-nil (list_at x.urls b)), (part settings.buckets b (offered kind bytes), refl));
      judged = λ is. absurd (open_late fault (inl is));
      full = λ b is. absurd (open_late fault (inr (inr (inr (inr (b, is))))));
      text = [];
      written = subst (λ (s : Stream). Appends before.output.bytes s.bytes []) (sym refused.output) (Appends-nil before.output.bytes);
      prints = (added kind x.urls x.urls, refl);
      prints_all = λ is. absurd (open_printed fault is);
      printed_before = nothing_before kind x most k.legal k.count;
      records = λ old_files is_old new_files is_new.
          let new = told_after asked before.store.files after.store.files files refused.files told in
          let same_old : files ≡ old_files = cc in
          let same_new : new.0 ≡ new_files = (let e = sym new.1 ∙ is_new in cc) in
          subst (λ (f : Files). AddsUnevenRecords 1 settings.buckets settings.array f new_files) same_old
          (subst (λ (f : Files). AddsUnevenRecords 1 settings.buckets settings.array files f) same_new (λ b within small records journal.
          (records, enters_records asked before.store.files files x files new.0 settings.buckets b records told has has new.2 small journal, omega arith)));
      stops = λ each. widens before.store after.store _ _ (k.stops each) (λ image z. (z.0, z.1, z.2, z.4));
      records_stop = λ each. entered_uneven asked before after.store files x settings.buckets settings.array told has each refused.steps;
      stops_any = widens before.store after.store _ _ refused.steps (λ image from. inl from);
      now = λ why image left. ⊎_elim (λ late. absurd (open_late fault late)) (λ other.
          ⊎_elim (λ some. absurd (omega (arith, some))) (λ each. let z = left_now before.store after.store _ law_after (k.stops each) image left in (z.0, z.1, z.3, z.4)) other) why;
    }

-- ---- the run
-- a store that was made stays so
extends_made : (kind : LineKind) (asked : Asked) (before after : Lent) (fault : OpenFault) (files : Files) (x : State) (settings : Settings) → IsConsistent before.store → IsConsistent after.store
    → IsRefused asked before after fault → before.store.files ≡ Some files → HasState x files → x.settings ≡ Some settings → Extends (line_task kind asked) before after (ending_of_open fault) x
extends_made kind asked before after fault files x settings law_before law_after refused told has made =
    let same = entered_made asked settings x made in
    let k = keeps_either asked before after fault files x refused told has (subst IsLegal (sym same) (legal_has x files has)) in
    extends_closed kind asked before after fault files x (entered_state asked x) law_before law_after refused told has k (λ fine. same)

-- unless a call failed, a store that wasn't made yet still isn't
extends_blank : (kind : LineKind) (asked : Asked) (before after : Lent) (fault : OpenFault) (files : Files) (x : State) → IsConsistent before.store → IsConsistent after.store
    → IsRefused asked before after fault → before.store.files ≡ Some files → IsBlank files → x ≡ blank_state → (fault ≢ OpenFailed) ⊎ (fault ≡ OpenFailed)
    → Extends (line_task kind asked) before after (ending_of_open fault) x
extends_blank kind asked before after fault files x law_before law_after refused told blank same (inl fine) =
    extends_closed kind asked before after fault files x x law_before law_after refused told (inl (blank, same)) (keeps_blank asked before after fault files x refused fine told blank same) (λ other.
    refl)
extends_blank kind asked before after fault files x law_before law_after refused told blank same (inr failed) = ⊎_elim
    (λ valid.
    let k = keeps_either asked before after fault files x refused told (inl (blank, same)) (legal_entered asked x files valid (inl (blank, same))) in
    extends_closed kind asked before after fault files x (entered_state asked x) law_before law_after refused told (inl (blank, same)) k (λ fine. absurd (fine failed)))
    (λ bad. extends_closed kind asked before after fault files x x law_before law_after refused told (inl (blank, same))
    (keeps_unmade asked before after fault files x refused told (inl (blank, same)) same bad) (λ fine. refl))
    (valid_or_not (settings_of asked))

pub failed_or_not : (fault : OpenFault) → (fault ≢ OpenFailed) ⊎ (fault ≡ OpenFailed)
failed_or_not (OpenNotOurs at) = inl (λ is. cc)
failed_or_not (OpenDamaged f at) = inl (λ is. cc)
failed_or_not (OpenOtherSettings n kept wanted) = inl (λ is. cc)
failed_or_not (OpenBadSettings n) = inl (λ is. cc)
failed_or_not OpenFailed = inr refl
failed_or_not OpenMemory = inl (λ is. cc)

extends_refused : (kind : LineKind) (asked : Asked) (before after : Lent) (fault : OpenFault) (files : Files) (x : State) → IsConsistent before.store → IsConsistent after.store
    → IsRefused asked before after fault → before.store.files ≡ Some files → HasState x files → Extends (line_task kind asked) before after (ending_of_open fault) x
extends_refused kind asked before after fault files x law_before law_after refused told (inl blank) =
    extends_blank kind asked before after fault files x law_before law_after refused told blank.0 blank.1 (failed_or_not fault)
extends_refused kind asked before after fault files x law_before law_after refused told (inr (settings, made)) =
    extends_made kind asked before after fault files x settings law_before law_after refused told (inr (settings, made)) made.settings_are

-- an ending that refuses the store as it is comes of a fault that does
unwanted_open : (fault : OpenFault) → IsUnopened (ending_of_open fault) → IsUnwanted fault
unwanted_open fault is = elim is [
  | inl bad ↦ subst IsUnwanted (sym (open_bad fault bad.0 bad.1)) tt
  | inr rest ↦ elim rest [ inl ours ↦ subst IsUnwanted (sym (open_ours fault ours.0 ours.1)) tt | inr other ↦ subst IsUnwanted (sym (open_other fault other.0 other.1 other.2 other.3)) tt ]
]

pub ground_as : (asked : Asked) (told : Option Files) (fault other : OpenFault) → fault ≡ other → HasGround asked told fault → HasGround asked told other
ground_as asked told fault other is ground = subst (HasGround asked told) is ground

-- a store that no crawl is asked of is damaged by itself
store_damaged : (asked : Asked) (files : Files) (f at : ℕ) → asked.kind ≢ Crawl → IsDamageAt asked files f at → IsStoreDamagedAt asked files f at
store_damaged asked files f at plain (inl damaged) = damaged
store_damaged asked files f at plain (inr strange) = absurd (plain (agrees_crawl asked strange.settings strange.agrees strange.kind))

pub denies_as : (fault other : OpenFault) → fault ≡ other → DeniesState other → DeniesState fault
denies_as fault other is denies = subst DeniesState (sym is) denies

pub ran_refused : (kind : LineKind) (asked : Asked) (before after : Lent) (fault : OpenFault) → IsConsistent before.store → IsConsistent after.store → IsRefused asked before after fault
    → Ran (line_task kind asked) before after (ending_of_open fault)
ran_refused kind asked before after fault law_before law_after refused = record {
  extends = λ files told x has. extends_refused kind asked before after fault files x law_before law_after refused told has;
  others = enters_told asked before.store.files before.store.files after.store.files refused.kind refused.files;
  others_stop = enters_stops asked before.store.files before.store after.store refused.kind refused.steps;
  opened = inr (record { files = refused.files; steps = refused.steps; input = refused.input; output = refused.output; late = open_late fault });
  unopened = λ is. (refused.same (unwanted_open fault is), refused.input, refused.output);
  unopened_stop = λ is. refused.same_stops (unwanted_open fault is);
  read = λ is. absurd (open_late fault (inl is));
  bad = λ n is. (ground_as asked before.store.files fault (OpenBadSettings n) (open_bad fault n is) refused.ground).0;
  bad_asked = λ n is. (ground_as asked before.store.files fault (OpenBadSettings n) (open_bad fault n is) refused.ground).1;
  line = λ n is. absurd (open_late fault (inr (inl (n, is))));
  not_ours = λ at is. ground_as asked before.store.files fault (OpenNotOurs at) (open_ours fault at is) refused.ground;
  other = λ n kept wanted is. ground_as asked before.store.files fault (OpenOtherSettings n kept wanted) (open_other fault n kept wanted is) refused.ground;
  damaged = λ f at is.
      let ground = ground_as asked before.store.files fault (OpenDamaged f at) (open_damaged fault f at is) refused.ground in
      inl (λ files told. store_damaged asked files f at refused.kind (ground files told));
  whole = λ f at is. refused.whole (denies_as fault (OpenDamaged f at) (open_damaged fault f at is) tt);
  whole_ours = λ at is. refused.whole (denies_as fault (OpenNotOurs at) (open_ours fault at is) tt);
  disk = record { later = refused.cause.later; rose = λ is. refused.cause.rose (open_disk fault is) };
  input = record { later = omega (arith, ap (λ (s : Stream). s.faults) refused.input); rose = λ is. absurd (open_late fault (inr (inr (inl is)))) };
  output = record { later = omega (arith, ap (λ (s : Stream). s.faults) refused.output); rose = λ is. absurd (open_late fault (inr (inr (inr (inl is))))) };
}
