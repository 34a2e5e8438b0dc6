-- What looking at a store leaves, out of what its calls do.
use Rattle.std.proofs.Common.{◌≡◌, ◌⊎◌, inl, inr, ℕ, ◌∷◌, Option, None, Some, Result, Ok, Err, IfOk, IfSome, IsErrOf, [], refl, sym, subst}
use Rattle.std.specs.Option.{ForSome}
use Rattle.irl_offer.specs.Settings.{AreValid}
use Rattle.irl_offer.specs.declared.settings.Asked.{Asked}
use Rattle.irl_offer.specs.declared.settings.Kind.TheVariants.{Lines}
use Rattle.irl_offer.specs.declared.settings.Settings.{Settings}
use Rattle.irl_base.specs.Faults.{HasCause}
use Rattle.irl_events.specs.State.{State}
use Rattle.irl_disk.specs.Disk.{Files, ChangesFile, TellsBy}
use Rattle.irl_disk.specs.Effects.{OnlyReads, ReadsAndChanges}
use Rattle.irl_disk.specs.Images.{Told, IsConsistent, Follows, LeavesBy}
use Rattle.irl_disk.specs.Taken.{TakesAmong}
use Rattle.irl_disk.proofs.Effects.{cause_for, cause_then, told_none}
use Rattle.irl_disk.proofs.Frames.{takes_both, takes_only}
use Rattle.irl_disk.proofs.Stretches.{joins_by, same_by, widens, widens_by}
use Rattle.irl_journal.specs.Format.{StandsFor}
use Rattle.irl_journal.specs.Visiting.{IsOpened}
use Rattle.irl_bay.proofs.Adopted.{takes_wider}
use Rattle.irl_head.specs.StoreFiles.{head_file}
use Rattle.irl_head.specs.Head.{head_bytes, kind_number, rule_number}
use Rattle.irl_head.specs.Asking.{Agrees}
use Rattle.irl_head.specs.Finding.{FindsHead}
use Rattle.irl_head.specs.Opening.{HasHead, IsBlank, IsUnwanted}
use Rattle.irl_head.specs.declared.open_fault.OpenFault.{OpenFault}
use Rattle.irl_head.specs.declared.open_fault.OpenFault.TheVariants.{NotOurs, Damaged, OtherSettings, BadSettings, Failed, Memory}
use Rattle.irl_head.proofs.Asking.{new_agrees}
use Rattle.irl_head.proofs.Beginning.{file_stays}
use Rattle.irl_head.proofs.Grounds.{none_or_one, one_head}
use Rattle.irl_head.proofs.HeadBytes.{same_settings}
use Rattle.irl_yard.specs.Standing.{HasState}
use Rattle.irl_yard.specs.Holding.{HoldsState}
use Rattle.irl_yard.specs.Entering.{Enters, EntersStore, HasGround, IsReadFile, OpensYard, OpeningRefused}
use Rattle.irl_yard.specs.Looking.{IsAskedAsKept, IsLookedFile, LookRefused, LooksAtStore, LooksMade, NamesAsked, OpensAsKept}
use Rattle.irl_yard.specs.declared.parts.Parts.{Parts}
use Rattle.irl_yard.proofs.Answered.{refused_looked}
use Rattle.irl_yard.proofs.Entering.{head_opens, looks_twice, opens_keeps, opens_none}
use Rattle.irl_yard.proofs.Grounds.{entered_made, made_has, made_head}

-- ---- what may be asked
-- each setting as it is
abbrev pub asked_of : Settings → Asked
asked_of s = record {
  kind = s.kind;
  rule = Some s.rule;
  buckets = Some s.buckets;
  array = Some s.array;
  trigger = Some s.trigger;
  block = Some s.block;
  cap = Some s.cap;
  queues = Some s.queues;
  base = Some s.base;
  most = Some s.most;
  ranks = Some s.ranks;
}

pub own_agrees : (settings : Settings) → Agrees (asked_of settings) settings
own_agrees settings = new_agrees (asked_of settings)

-- no other settings agree with that
pub agrees_alone : (x y : Settings) → Agrees (asked_of x) y → y ≡ x
agrees_alone x y agrees =
    let kind : kind_number x.kind ≡ kind_number y.kind = agrees 0 (kind_number x.kind) (kind_number y.kind) refl refl in
    let rule : rule_number x.rule ≡ rule_number y.rule = agrees 1 (rule_number x.rule) (rule_number y.rule) refl refl in
    let buckets : x.buckets ≡ y.buckets = agrees 2 x.buckets y.buckets refl refl in
    let array : x.array ≡ y.array = agrees 3 x.array y.array refl refl in
    let trigger : x.trigger ≡ y.trigger = agrees 4 x.trigger y.trigger refl refl in
    let block : x.block ≡ y.block = agrees 5 x.block y.block refl refl in
    let cap : x.cap ≡ y.cap = agrees 6 x.cap y.cap refl refl in
    let queues : x.queues ≡ y.queues = agrees 7 x.queues y.queues refl refl in
    let least : x.base ≡ y.base = agrees 8 x.base y.base refl refl in
    let most : x.most ≡ y.most = agrees 9 x.most y.most refl refl in
    let ranks : x.ranks ≡ y.ranks = agrees 10 x.ranks y.ranks refl refl in
    same_settings y x (rw (kind, rule, buckets, array, trigger, block, cap, queues, least, most, ranks) refl)

-- nothing but the kind
abbrev nothing_asked : Asked
nothing_asked = record {
  kind = Lines;
  rule = None;
  buckets = None;
  array = None;
  trigger = None;
  block = None;
  cap = None;
  queues = None;
  base = None;
  most = None;
  ranks = None;
}

-- what is kept in a head
pub head_kept : (settings : Settings) (asked : Asked) (told : Option Files) → ForSome told (HasHead settings) → Agrees asked settings → IsAskedAsKept asked told
head_kept settings asked told head agrees = λ files is other has. subst (Agrees asked) (one_head settings other files (head files is) has) agrees

-- someone may ask for what is kept, where the files stand for a state
state_kept : (state : State) (files : Files) → HasState state files → (asked : Asked) × IsAskedAsKept asked (Some files)
state_kept state files (inl blank) = (
  nothing_asked,
  λ same is settings head.
      let e : files ≡ same = cc in
      absurd (none_or_one (same head_file) (head_bytes settings) (subst IsBlank e blank.0).head head.head),
)
state_kept state files (inr (settings, made)) = (
  asked_of settings,
  head_kept settings (asked_of settings) (Some files)
      (λ same is. let e : files ≡ same = cc in subst (HasHead settings) e (made_head settings state files made)) (own_agrees settings),
)

-- ---- what it does to the store
told_stays : (old new : Option Files) (state : State) → TellsBy (OpensAsKept old) old new → ForSome old (λ files. HasState state files → ForSome new (HasState state))
told_stays None new state tells = λ files told. cc
told_stays (Some old) new state tells = λ files told has after is.
    let same : old ≡ files = cc in
    let here : tells.0 ≡ after = cc in
    let was = subst (HasState state) (sym same) has in
    let opens = tells.2 in
    subst (HasState state) here (opens_keeps opens.0 (Some old) old state old tells.0 refl was opens.1 was)

-- it keeps the state where it opens the store at most
looking : (failed : Type 0) (old new : Told) → IsConsistent old → TellsBy (OpensAsKept old.files) old.files new.files → LeavesBy (OpensAsKept old.files) old new
    → TakesAmong (IsLookedFile old.files) old.taken new.taken → HasCause failed old.faults new.faults → LooksAtStore failed old new
looking failed old new law files steps taken cause = record {
  files = files;
  steps = steps;
  told = λ state. told_stays old.files new.files state files;
  stops = λ state has. widens old new (Follows (OpensAsKept old.files) old.images) (HasState state) steps (λ image from.
      let told = law.tells from.0 from.1 in
      let opens = from.2 in
      opens_keeps opens.0 old.files told.0 state from.0 image told.1 (has told.0 (law.told told.0 told.1)) opens.1 (has from.0 from.1));
  taken = taken;
  cause = cause;
}

-- a look at the head alone
pub looks_head : (failed answered : Type 0) (old new : Told) → IsConsistent old → new.files ≡ old.files → ReadsAndChanges (λ f. f ≡ head_file) (ChangesFile head_file IsOpened) failed old new
    → (answered → failed) → LooksAtStore answered old new
looks_head failed answered old new law same look is =
    looking answered old new law
    (told_none (OpensAsKept old.files) old.files new.files (λ files. (nothing_asked, opens_none nothing_asked old.files files)) same)
    (widens_by old new (ChangesFile head_file IsOpened) (OpensAsKept old.files) look.stops
    (λ x y first. (nothing_asked, head_opens nothing_asked old.files x y y first (opens_none nothing_asked old.files y))))
    (takes_only (IsLookedFile old.files) head_file old.taken new.taken (inl refl) look.taken)
    (cause_for failed answered old.faults new.faults is look.cause)

-- with the answer that its caller gives,
pub look_for : (failed answered : Type 0) (old new : Told) → (answered → failed) → ReadsAndChanges (λ f. f ≡ head_file) (ChangesFile head_file IsOpened) failed old new
    → ReadsAndChanges (λ f. f ≡ head_file) (ChangesFile head_file IsOpened) answered old new
look_for failed answered old new is look = record { told = look.told; stops = look.stops; taken = look.taken; cause = cause_for failed answered old.faults new.faults is look.cause }

-- and calls behind it that change nothing, and read no byte
pub looks_still : (looked failed : Type 0) (old mid new : Told) → IsConsistent mid → ReadsAndChanges (λ f. f ≡ head_file) (ChangesFile head_file IsOpened) looked old mid
    → OnlyReads (λ f. ⊥) failed mid new → ReadsAndChanges (λ f. f ≡ head_file) (ChangesFile head_file IsOpened) failed old new
looks_still looked failed old mid new law look still = record {
  told = subst (TellsBy (ChangesFile head_file IsOpened) old.files) (sym still.same) look.told;
  stops = joins_by old mid new (ChangesFile head_file IsOpened) law looks_twice look.stops
      (same_by mid new (ChangesFile head_file IsOpened) (file_stays head_file IsOpened (λ file. inl refl)) still.stops);
  taken = takes_both (λ f. f ≡ head_file) old.taken mid.taken new.taken look.taken (takes_wider (λ f. ⊥) (λ f. f ≡ head_file) mid.taken new.taken (λ f no. absurd no) still.taken);
  cause = cause_then failed old.faults mid.faults new.faults look.cause.later still.cause;
}

-- ---- a store whose head has settings
module _ (settings : Settings) (old new : Told) (law : IsConsistent old) (valid : AreValid settings) (head : ForSome old.files (HasHead settings)) where
  -- it is opened at most
  only_opens : (asked : Asked) (files x y : Files) → old.files ≡ Some files → Enters asked old.files x y → OpensAsKept old.files x y
  only_opens asked files x y is (inl opens) = (asked, opens)
  only_opens asked files x y is (inr (blank, valid_new, makes)) = absurd (none_or_one (files head_file) (head_bytes settings) (blank files is).head (head files is).head)

  told_opens : (asked : Asked) (told : Option Files) → old.files ≡ told → TellsBy (Enters asked old.files) told new.files → TellsBy (OpensAsKept old.files) told new.files
  told_opens asked None is tells = tells
  told_opens asked (Some files) is tells = (tells.0, tells.1, only_opens asked files files tells.0 is tells.2)

  read_looked : (f : ℕ) → IsReadFile (asked_of settings) old.files f → IsLookedFile old.files f
  read_looked f (inl (inl is)) = inl is
  read_looked f (inl (inr (other, fits, agrees, has, journal))) = inr (other, fits, has, inl journal)
  read_looked f (inr (crawl, judged)) = inr (settings, valid, head, inr (crawl, judged))

  pub looks_entered : (failed : Type 0) → EntersStore (asked_of settings) failed old new → LooksAtStore failed old new
  looks_entered failed enters =
      let asked = asked_of settings in
      looking failed old new law
      (told_opens asked old.files refl enters.files)
      (widens old new (Follows (Enters asked old.files) old.images) (Follows (OpensAsKept old.files) old.images) enters.steps (λ image from.
      let told = law.tells from.0 from.1 in
      (from.0, from.1, only_opens asked told.0 from.0 image told.1 from.2)))
      (takes_wider (IsReadFile asked old.files) (IsLookedFile old.files) old.taken new.taken read_looked enters.taken)
      enters.cause

  -- ---- it is open
  pub looks_made : (parts : Parts) → ((asked : Asked) → Agrees asked settings → OpensYard asked parts old.files new) → EntersStore (asked_of settings) ⊥ old new → LooksMade parts old new
  looks_made parts opens enters =
      let own = opens (asked_of settings) (own_agrees settings) in
      let same = agrees_alone settings parts.urls.settings own.agrees in
      record {
        head = λ files is. subst (λ (s : Settings). HasHead s files) (sym same) (head files is);
        opens = λ asked agrees. opens asked (subst (Agrees asked) same agrees);
        holds = λ files is state has.
            subst (HoldsState new.images parts) (entered_made (asked_of settings) settings state (made_has settings state files (head files is) has).settings_are) (own.holds files is state has);
        looks = looks_entered ⊥ enters;
      }

  -- ---- it is refused
  module _ (fault : OpenFault) (wanted : IsUnwanted fault → ⊥) (refused : (asked : Asked) → Agrees asked settings → OpeningRefused asked fault old new) where
    -- over a store that tells nothing whoever asks is refused alike
    silent_ground : (asked : Asked) (f : OpenFault) → (IsUnwanted f → ⊥) → HasGround asked None f
    silent_ground asked (NotOurs at) none = absurd (none tt)
    silent_ground asked (Damaged f at) none = λ files is. cc
    silent_ground asked (OtherSettings n kept asked_for) none = absurd (none tt)
    silent_ground asked (BadSettings n) none = absurd (none tt)
    silent_ground asked Failed none = tt
    silent_ground asked Memory none = tt

    refused_kept : (told : Option Files) → old.files ≡ told → (asked : Asked) → IsAskedAsKept asked old.files → OpeningRefused asked fault old new
    refused_kept None is asked kept =
        let own = refused (asked_of settings) (own_agrees settings) in
        record {
          ground = subst (λ (told : Option Files). HasGround asked told fault) (sym is) (silent_ground asked fault wanted);
          whole = own.whole;
          same = own.same;
          same_stops = own.same_stops;
          told_err = λ state files told. let no : ⊥ = cc in absurd no;
          blank = own.blank;
          blank_stops = own.blank_stops;
        }
    refused_kept (Some files) is asked kept = refused asked (kept files is settings (head files is))

-- ---- it is refused
own_fault : (asked : Asked) (fault : OpenFault) (old new : Told) (files : Files) (state : State) → OpeningRefused asked fault old new → (NamesAsked fault → ⊥)
    → old.files ≡ Some files → HasState state files → (fault ≡ Failed) ⊎ (fault ≡ Memory)
own_fault asked (NotOurs at) old new files state refused unasked is has = absurd (refused.whole tt files is state has)
own_fault asked (Damaged f at) old new files state refused unasked is has = absurd (refused.whole tt files is state has)
own_fault asked (OtherSettings n kept wanted) old new files state refused unasked is has = absurd (unasked tt)
own_fault asked (BadSettings n) old new files state refused unasked is has = absurd (unasked tt)
own_fault asked Failed old new files state refused unasked is has = inl refl
own_fault asked Memory old new files state refused unasked is has = inr refl

look_refused : (fault : OpenFault) (old new : Told) → ((asked : Asked) → IsAskedAsKept asked old.files → OpeningRefused asked fault old new)
    → (NamesAsked fault → ⊥) → LooksAtStore (fault ≡ Failed) old new → LookRefused fault old new
look_refused fault old new refused unasked looks = record {
  refused = refused;
  own = λ files is state has.
      let kept = state_kept state files has in
      own_fault kept.0 fault old new files state (refused kept.0 (subst (IsAskedAsKept kept.0) (sym is) kept.1)) unasked is has;
  unasked = unasked;
  looks = looks;
}

-- what names what was asked is unwanted
names_unwanted : (fault : OpenFault) → NamesAsked fault → IsUnwanted fault
names_unwanted (NotOurs at) names = tt
names_unwanted (Damaged f at) names = names
names_unwanted (OtherSettings n kept wanted) names = tt
names_unwanted (BadSettings n) names = tt
names_unwanted Failed names = names
names_unwanted Memory names = names

-- by its head, or by what it has beside
pub refused_head_look : (fault : OpenFault) (failed : Type 0) (old new : Told) → IsConsistent old → new.files ≡ old.files
    → ReadsAndChanges (λ f. f ≡ head_file) (ChangesFile head_file IsOpened) failed old new → ((asked : Asked) → HasGround asked old.files fault) → (NamesAsked fault → ⊥) → (fault ≡ Failed → failed)
    → LookRefused fault old new
refused_head_look fault failed old new law same look ground unasked is =
    look_refused fault old new (λ asked kept. refused_looked asked fault failed old new law same look (ground asked)) unasked (looks_head failed (fault ≡ Failed) old new law same look is)

-- a store whose head has settings
pub refused_made_look : (settings : Settings) (fault : OpenFault) (old new : Told) → IsConsistent old → AreValid settings → ForSome old.files (HasHead settings) → (IsUnwanted fault → ⊥)
    → ((asked : Asked) → Agrees asked settings → OpeningRefused asked fault old new) → EntersStore (asked_of settings) (fault ≡ Failed) old new → LookRefused fault old new
refused_made_look settings fault old new law valid head wanted refused enters =
    look_refused fault old new (refused_kept settings old new law valid head fault wanted refused old.files refl) (λ names. wanted (names_unwanted fault names))
    (looks_entered settings old new law valid head (fault ≡ Failed) enters)

-- ---- what was found of the head
pub found_of : (result : Result (Option Settings) OpenFault) (found : Option Settings) (settings : Settings) (P : Settings → Type 0) → result ≡ Ok found → found ≡ Some settings
    → IfOk result (λ it. IfSome it P) → P settings
found_of result found settings P was is has =
    subst (λ (o : Option Settings). IfSome o P) is (subst (λ (r : Result (Option Settings) OpenFault). IfOk r (λ it. IfSome it P)) was has)

pub found_head : (result : Result (Option Settings) OpenFault) (found : Option Settings) (settings : Settings) (old new : Told) → FindsHead result old new → result ≡ Ok found → found ≡ Some settings
    → ForSome old.files (HasHead settings)
found_head result found settings old new finds was is = λ files told. record {
  valid = found_of result found settings AreValid was is finds.valid;
  head = found_of result found settings (λ s. ForSome old.files (λ files. StandsFor (files head_file) (head_bytes s ∷ []))) was is finds.made files told;
}

pub found_none : (result : Result (Option Settings) OpenFault) (found : Option Settings) (P : Type 0) → result ≡ Ok found → found ≡ None → IfOk result (λ it. it ≡ None → P) → P
found_none result found P was is has = subst (λ (r : Result (Option Settings) OpenFault). IfOk r (λ it. it ≡ None → P)) was has is

pub found_unasked : {T : Type 0} (result : Result T OpenFault) (fault : OpenFault) → result ≡ Err fault → ((n kept wanted : ℕ) → IsErrOf result (OtherSettings n kept wanted) → ⊥)
    → ((n : ℕ) → IsErrOf result (BadSettings n) → ⊥) → NamesAsked fault → ⊥
found_unasked result (NotOurs at) was other bad names = names
found_unasked result (Damaged f at) was other bad names = names
found_unasked result (OtherSettings n kept wanted) was other bad names = other n kept wanted was
found_unasked result (BadSettings n) was other bad names = bad n was
found_unasked result Failed was other bad names = names
found_unasked result Memory was other bad names = names

pub err_is : {T E : Type 0} (result : Result T E) (fault asked : E) → result ≡ Err fault → fault ≡ asked → IsErrOf result asked
err_is (Ok value) fault asked was is = cc
err_is (Err e) fault asked was is = cc
