-- What is answered of entering a store, out of what its calls do.
use Rattle.std.proofs.Common.{◌≡◌, ◌≢◌, ◌∙◌, inl, ℕ, Option, Some, refl, subst, sym}
use Rattle.std.specs.Option.{ForSome}
use Rattle.irl_base.specs.Faults.{HasCause}
use Rattle.irl_offer.specs.Settings.{AreValid, settings_of}
use Rattle.irl_offer.specs.declared.settings.Asked.{Asked}
use Rattle.irl_offer.specs.declared.settings.Settings.{Settings}
use Rattle.irl_events.specs.State.{State}
use Rattle.irl_disk.specs.Disk.{Files, ChangesFile, TellsBy}
use Rattle.irl_disk.specs.Effects.{OnlyChanges, OnlyReads, ReadsAndChanges}
use Rattle.irl_disk.specs.Images.{Told, IsConsistent, LeavesBy, LeavesSame}
use Rattle.irl_disk.specs.Taken.{TakesAmong}
use Rattle.irl_disk.proofs.Effects.{cause_for, cause_then, changes_then, changes_wider, reads_for, reads_none, told_none, told_wider}
use Rattle.irl_disk.proofs.Frames.{takes_both, takes_none}
use Rattle.irl_disk.proofs.Stretches.{joins, joins_by, widens, widens_by, same_by, left_now, reads_on}
use Rattle.irl_journal.specs.Visiting.{IsOpened}
use Rattle.irl_bay.specs.Damage.{IsAdopted}
use Rattle.irl_bay.specs.Making.{Makes}
use Rattle.irl_bay.specs.Opening.{AdoptMayLeave}
use Rattle.irl_bay.proofs.Adopted.{takes_wider}
use Rattle.irl_head.specs.declared.open_fault.OpenFault.{OpenFault}
use Rattle.irl_head.specs.declared.open_fault.OpenFault.TheVariants.{Failed}
use Rattle.irl_head.specs.StoreFiles.{head_file, urls_base}
use Rattle.irl_head.specs.Head.{head_bytes}
use Rattle.irl_head.specs.Writing.{GainsFirst}
use Rattle.irl_head.specs.Asking.{Agrees}
use Rattle.irl_yard.specs.Making.{MakesRest}
use Rattle.irl_head.specs.Opening.{HasHead, IsBlank, KeepsBlank, IsUnwanted}
use Rattle.irl_head.proofs.Beginning.{file_stays, same_then}
use Rattle.irl_yard.specs.Standing.{HasState}
use Rattle.irl_yard.specs.Holding.{HasOneOf}
use Rattle.irl_yard.specs.Opening.{entered_state}
use Rattle.irl_yard.specs.Entering.{Enters, EntersStore, HasGround, IsReadFile, OpeningRefused}
use Rattle.irl_yard.proofs.Entering.{adopted_opens, adopted_takes, beside_blank, beside_both, beside_none, beside_told, blank_stops, blank_told, entered_then, head_alone, head_takes, looked_blank, looks_blank, looks_twice, made_steps, made_told, opened_blank, opened_told, opens_none, rest_makes, same_blank, same_enters, stops_keep, told_keeps, told_same, urls_makes, written_steps, written_told, MakesBeside}
use Rattle.irl_yard.proofs.Grounds.{ground_denies}
use Rattle.irl_yard.proofs.RestFiles.{few}

-- ---- the store
-- what is done enters it, so a stop leaves its state or the new store's
pub entering : (asked : Asked) (failed : Type 0) (old new : Told) → IsConsistent old → TellsBy (Enters asked old.files) old.files new.files
    → LeavesBy (Enters asked old.files) old new
    → TakesAmong (IsReadFile asked old.files) old.taken new.taken → HasCause failed old.faults new.faults → EntersStore asked failed old new
entering asked failed old new law files steps taken cause = record {
  files = files;
  steps = steps;
  stops = λ state. stops_keep asked old new state law steps;
  taken = taken;
  cause = cause;
}

-- the same call, with the answer that its caller gives
pub enters_for : (asked : Asked) (failed answered : Type 0) (old new : Told) → (answered → failed) → EntersStore asked failed old new → EntersStore asked answered old new
enters_for asked failed answered old new is enters = record {
  files = enters.files;
  steps = enters.steps;
  stops = enters.stops;
  taken = enters.taken;
  cause = cause_for failed answered old.faults new.faults is enters.cause;
}

-- calls that change nothing, and read no byte
pub still : (failed : Type 0) (old new : Told) → new.files ≡ old.files → LeavesSame old new → new.taken ≡ old.taken → HasCause failed old.faults new.faults → OnlyReads (λ f. ⊥) failed old new
still failed old new same stops taken cause = record { same = same; stops = stops; taken = takes_none (λ f. ⊥) old.taken new.taken taken; cause = cause }

none_taken : (asked : Asked) (told : Option Files) (old new : Option (ℕ → ℕ)) → TakesAmong (λ f. ⊥) old new → TakesAmong (IsReadFile asked told) old new
none_taken asked told old new takes = takes_wider (λ f. ⊥) (IsReadFile asked told) old new (λ f no. absurd no) takes

pub enters_still : (asked : Asked) (failed : Type 0) (old new : Told) → IsConsistent old → OnlyReads (λ f. ⊥) failed old new → EntersStore asked failed old new
enters_still asked failed old new law reads =
    entering asked failed old new law (told_none (Enters asked old.files) old.files new.files (λ files. inl (opens_none asked old.files files)) reads.same)
    (same_enters asked old.files old new reads.stops) (none_taken asked old.files old.taken new.taken reads.taken) reads.cause

-- a look at the head
module _ (asked : Asked) (looked : Type 0) (old mid : Told) (law : IsConsistent old) (law_mid : IsConsistent mid) (same : mid.files ≡ old.files)
    (look : ReadsAndChanges (λ f. f ≡ head_file) (ChangesFile head_file IsOpened) looked old mid) where
  -- and what enters the store behind it
  pub enters_behind : (failed : Type 0) (new : Told) → EntersStore asked failed mid new → EntersStore asked failed old new
  enters_behind failed new enters =
      entering asked failed old new law (subst (λ (told : Option Files). TellsBy (Enters asked told) told new.files) same enters.files)
      (entered_then asked old.files old mid new law_mid look.stops (subst (λ (told : Option Files). LeavesBy (Enters asked told) mid new) same enters.steps))
      (takes_both (IsReadFile asked old.files) old.taken mid.taken new.taken (head_takes asked old.files old.taken mid.taken look.taken)
      (subst (λ (told : Option Files). TakesAmong (IsReadFile asked told) mid.taken new.taken) same enters.taken))
      (cause_then failed old.faults mid.faults new.faults look.cause.later enters.cause)

  -- and a refusal behind it
  pub refused_behind : (fault : OpenFault) (new : Told) → OpeningRefused asked fault mid new → OpeningRefused asked fault old new
  refused_behind fault new refused = record {
    ground = subst (λ (told : Option Files). HasGround asked told fault) same refused.ground;
    whole = λ denies. subst (λ (told : Option Files). ForSome told (λ files. (state : State) → HasState state files → ⊥)) same (refused.whole denies);
    same = λ unwanted. refused.same unwanted ∙ same;
    same_stops = λ unwanted. joins_by old mid new (ChangesFile head_file IsOpened) law_mid looks_twice look.stops (refused.same_stops unwanted);
    told_err = λ state. subst (λ (told : Option Files). ForSome told (λ files. HasState state files → ForSome new.files (HasOneOf state (entered_state asked state)))) same (refused.told_err state);
    blank = λ unfailed. subst (λ (told : Option Files). ForSome told (λ files. IsBlank files → ForSome new.files IsBlank)) same (refused.blank unfailed);
    blank_stops = λ unfailed blank.
        let here = widens old mid _ IsBlank look.stops (λ image from. looks_blank from.0 image from.2 (blank from.0 from.1)) in
        joins old mid new IsBlank here (refused.blank_stops unfailed (left_now old mid IsBlank law_mid here));
  }

-- ---- a refusal
pub refusal : (asked : Asked) (fault : OpenFault) (failed : Type 0) (old new : Told) → EntersStore asked failed old new → HasGround asked old.files fault
    → (IsUnwanted fault → new.files ≡ old.files) → (IsUnwanted fault → LeavesBy (ChangesFile head_file IsOpened) old new)
    → (fault ≢ Failed → TellsBy KeepsBlank old.files new.files) → (fault ≢ Failed → LeavesBy KeepsBlank old new) → OpeningRefused asked fault old new
refusal asked fault failed old new enters ground same same_stops blank blank_steps = record {
  ground = ground;
  whole = ground_denies asked old.files fault ground;
  same = same;
  same_stops = same_stops;
  told_err = λ state. told_keeps asked old.files new.files state enters.files;
  blank = λ unfailed. blank_told old.files new.files (blank unfailed);
  blank_stops = λ unfailed. blank_stops old new (blank_steps unfailed);
}

-- where nothing changed
pub refused_still : (asked : Asked) (fault : OpenFault) (failed : Type 0) (old new : Told) → IsConsistent old → HasGround asked old.files fault → OnlyReads (λ f. ⊥) failed old new
    → OpeningRefused asked fault old new
refused_still asked fault failed old new law ground reads =
    refusal asked fault failed old new (enters_still asked failed old new law reads) ground (λ unwanted. reads.same)
    (λ unwanted. same_by old new (ChangesFile head_file IsOpened) (file_stays head_file IsOpened (λ file. inl refl)) reads.stops)
    (λ unfailed. told_same old.files new.files reads.same) (λ unfailed. same_blank old new reads.stops)

-- and nothing was asked of the store
pub enters_none : (asked : Asked) (failed : Type 0) (now : Told) → IsConsistent now → (failed → ⊥) → EntersStore asked failed now now
enters_none asked failed now law none = enters_still asked failed now now law (reads_for (λ f. ⊥) ⊥ failed now now none (reads_none (λ f. ⊥) now law))

pub refused_none : (asked : Asked) (fault : OpenFault) (now : Told) → IsConsistent now → HasGround asked now.files fault → OpeningRefused asked fault now now
refused_none asked fault now law ground = refused_still asked fault ⊥ now now law ground (reads_none (λ f. ⊥) now law)

-- ---- a store whose head has settings
module _ (asked : Asked) (settings : Settings) (nothing : Type 0) (old mid new : Told) (law : IsConsistent old) (law_mid : IsConsistent mid) (valid : AreValid settings)
    (agrees : Agrees asked settings)
    (head : ForSome old.files (HasHead settings)) (reads : OnlyReads (λ f. ⊥) nothing old mid) where
  -- its bay is opened behind calls that change nothing
  pub enters_adopted : (failed answered : Type 0) (leaves : AdoptMayLeave failed urls_base settings mid new) → (answered → failed) → EntersStore asked answered old new
  enters_adopted failed answered leaves is =
      let opens = λ (x y : Files) (adopted : IsAdopted urls_base settings.buckets x y). inl (adopted_opens asked old.files settings x y valid agrees head adopted) in
      entering asked answered old new law
      (subst (λ (told : Option Files). TellsBy (Enters asked old.files) told new.files) reads.same
      (told_wider (IsAdopted urls_base settings.buckets) (Enters asked old.files) mid.files new.files opens leaves.changes.told))
      (same_then old mid new (Enters asked old.files) law_mid (λ x. inl (opens_none asked old.files x)) reads.stops
      (widens_by mid new (IsAdopted urls_base settings.buckets) (Enters asked old.files) leaves.changes.stops opens))
      (takes_both (IsReadFile asked old.files) old.taken mid.taken new.taken (none_taken asked old.files old.taken mid.taken reads.taken)
      (adopted_takes asked old.files settings mid.taken new.taken leaves.side valid agrees head leaves.fits leaves.changes.taken))
      (cause_then answered old.faults mid.faults new.faults reads.cause.later (cause_for failed answered mid.faults new.faults is leaves.changes.cause))

-- and it is refused: it isn't one that wasn't made yet
pub refused_head : (asked : Asked) (settings : Settings) (fault : OpenFault) (failed : Type 0) (old new : Told) → IsConsistent old → ForSome old.files (HasHead settings)
    → (IsUnwanted fault → ⊥) → HasGround asked old.files fault → EntersStore asked failed old new → OpeningRefused asked fault old new
refused_head asked settings fault failed old new law head wanted ground enters =
    let made = λ (files : Files) (is : old.files ≡ Some files). (head files is).head in
    refusal asked fault failed old new enters ground (λ unwanted. absurd (wanted unwanted)) (λ unwanted. absurd (wanted unwanted))
    (λ unfailed. opened_told asked settings old.files new.files made enters.files) (λ unfailed. opened_blank asked settings old new law made enters.steps)

-- ---- a look at the head alone
pub enters_looked : (asked : Asked) (failed answered : Type 0) (old new : Told) → IsConsistent old → new.files ≡ old.files
    → ReadsAndChanges (λ f. f ≡ head_file) (ChangesFile head_file IsOpened) failed old new → (answered → failed) → EntersStore asked answered old new
enters_looked asked failed answered old new law same look is =
    entering asked answered old new law (told_none (Enters asked old.files) old.files new.files (λ files. inl (opens_none asked old.files files)) same) (head_alone asked old.files old new look.stops)
    (head_takes asked old.files old.taken new.taken look.taken) (cause_for failed answered old.faults new.faults is look.cause)

pub refused_looked : (asked : Asked) (fault : OpenFault) (failed : Type 0) (old new : Told) → IsConsistent old → new.files ≡ old.files
    → ReadsAndChanges (λ f. f ≡ head_file) (ChangesFile head_file IsOpened) failed old new → HasGround asked old.files fault → OpeningRefused asked fault old new
refused_looked asked fault failed old new law same look ground =
    refusal asked fault failed old new (enters_looked asked failed failed old new law same look (λ is. is)) ground (λ unwanted. same) (λ unwanted. look.stops)
    (λ unfailed. told_same old.files new.files same) (λ unfailed. looked_blank old new look.stops)

-- ---- a store that wasn't made yet
-- what it has beside its head is made
module _ (asked : Asked) (settings : Settings) (failed : Type 0) (old made : Told) (law : IsConsistent old) (is_new : settings ≡ settings_of asked) (blank : ForSome old.files IsBlank)
    (valid : AreValid settings) (beside : OnlyChanges (MakesBeside settings) failed old made) where
  pub enters_made : (answered : Type 0) → (answered → failed) → EntersStore asked answered old made
  enters_made answered is =
      entering asked answered old made law (made_told asked old.files settings old.files made.files is_new blank valid beside.told)
      (made_steps asked old.files settings old made is_new blank valid beside.stops) (takes_none (IsReadFile asked old.files) old.taken made.taken beside.taken)
      (cause_for failed answered old.faults made.faults is beside.cause)

  pub refused_made : (fault : OpenFault) → (IsUnwanted fault → ⊥) → HasGround asked old.files fault → OpeningRefused asked fault old made
  refused_made fault wanted ground =
      refusal asked fault failed old made (enters_made failed (λ is. is)) ground (λ unwanted. absurd (wanted unwanted)) (λ unwanted. absurd (wanted unwanted))
      (λ unfailed. beside_told settings old.files made.files (few settings valid) beside.told)
      (λ unfailed. beside_blank settings old made (few settings valid) beside.stops)

  -- and then its head is written
  module _ (wrote : Type 0) (new : Told) (law_made : IsConsistent made) (head : ReadsAndChanges (λ f. f ≡ head_file) (ChangesFile head_file (GainsFirst (head_bytes settings))) wrote made new) where
    pub enters_written : (answered : Type 0) → (answered → wrote) → EntersStore asked answered old new
    enters_written answered is =
        entering asked answered old new law (written_told asked old.files settings old.files made.files new.files is_new blank valid beside.told head.told)
        (written_steps asked old.files settings old made new is_new blank valid law_made beside.stops head.stops)
        (takes_both (IsReadFile asked old.files) old.taken made.taken new.taken (takes_none (IsReadFile asked old.files) old.taken made.taken beside.taken)
        (head_takes asked old.files made.taken new.taken head.taken))
        (cause_then answered old.faults made.faults new.faults beside.cause.later (cause_for wrote answered made.faults new.faults is head.cause))

    pub refused_written : (fault : OpenFault) → (IsUnwanted fault → ⊥) → HasGround asked old.files fault → (fault ≢ Failed → new.files ≡ made.files) → (fault ≢ Failed → LeavesSame made new)
        → OpeningRefused asked fault old new
    refused_written fault wanted ground same stops =
        refusal asked fault wrote old new (enters_written wrote (λ is. is)) ground (λ unwanted. absurd (wanted unwanted)) (λ unwanted. absurd (wanted unwanted))
        (λ unfailed. subst (λ (told : Option Files). TellsBy KeepsBlank old.files told) (sym (same unfailed)) (beside_told settings old.files made.files (few settings valid) beside.told))
        (λ unfailed. reads_on old made new _ law_made (beside_blank settings old made (few settings valid) beside.stops) (stops unfailed))

-- the steps of it: calls that change nothing, then the rest is made, and then the bay of URLs
pub beside_still : (settings : Settings) (failed : Type 0) (old new : Told) → new.files ≡ old.files → LeavesSame old new → new.taken ≡ old.taken → HasCause failed old.faults new.faults
    → OnlyChanges (MakesBeside settings) failed old new
beside_still settings failed old new same stops taken cause = record {
  told = told_none (MakesBeside settings) old.files new.files (beside_none settings) same;
  stops = same_by old new (MakesBeside settings) (beside_none settings) stops;
  taken = taken;
  cause = cause;
}

pub beside_rest : (settings : Settings) (looked failed : Type 0) (old mid new : Told) → AreValid settings → IsConsistent mid → OnlyChanges (MakesBeside settings) looked old mid
    → OnlyChanges (MakesRest settings.kind settings.buckets) failed mid new → OnlyChanges (MakesBeside settings) failed old new
beside_rest settings looked failed old mid new valid law first second =
    changes_then (MakesBeside settings) looked failed old mid new law (beside_both settings) first
    (changes_wider (MakesRest settings.kind settings.buckets) (MakesBeside settings) failed mid new (λ x y. rest_makes settings x y (few settings valid)) second)

pub beside_urls : (settings : Settings) (looked failed : Type 0) (old mid new : Told) → AreValid settings → IsConsistent mid → OnlyChanges (MakesBeside settings) looked old mid
    → OnlyChanges (Makes urls_base settings.buckets) failed mid new → OnlyChanges (MakesBeside settings) failed old new
beside_urls settings looked failed old mid new valid law first second =
    changes_then (MakesBeside settings) looked failed old mid new law (beside_both settings) first
    (changes_wider (Makes urls_base settings.buckets) (MakesBeside settings) failed mid new (λ x y. urls_makes settings x y (few settings valid)) second)
