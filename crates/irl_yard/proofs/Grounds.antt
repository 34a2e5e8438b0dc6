-- Of which state files stand, and what of them is the ground of a refusal.
use Rattle.std.proofs.Common.{◌≡◌, ◌≢◌, ◌⊎◌, ⊎_elim, inl, inr, ℕ, List, [], ◌∷◌, refl, sym, subst, Option, None, Some, Result, Err, IsErrOf}
use Rattle.std.specs.Option.{ForSome}
use Rattle.irl_offer.specs.Settings.{settings_of}
use Rattle.irl_offer.specs.declared.settings.Asked.{Asked}
use Rattle.irl_offer.specs.declared.settings.Kind.{Kind}
use Rattle.irl_offer.specs.declared.settings.Kind.TheVariants.{Lines, Tuples, Crawl}
use Rattle.irl_offer.specs.declared.settings.Settings.{Settings}
use Rattle.irl_base.specs.declared.fault.Fault.{Fault}
use Rattle.irl_base.specs.declared.fault.Fault.TheVariants.{Failed as BayFailed, Memory as BayMemory, Full as BayFull, Damaged as BayDamaged}
use Rattle.irl_model.specs.Book.{Book}
use Rattle.irl_events.specs.Events.{Happened}
use Rattle.irl_events.specs.State.{State, blank_state}
use Rattle.irl_disk.specs.Disk.{Files}
use Rattle.irl_journal.specs.Format.{StandsFor, IsBrokenAt}
use Rattle.irl_journal.proofs.Lists.{whole_list}
use Rattle.irl_disk.specs.Images.{Told}
use Rattle.irl_bay.specs.Damage.{IsDamagedAt}
use Rattle.irl_bay.proofs.Whole.{stands_whole}
use Rattle.irl_head.specs.declared.open_fault.OpenFault.{OpenFault}
use Rattle.irl_head.specs.declared.open_fault.OpenFault.TheVariants.{NotOurs, Damaged, OtherSettings, BadSettings, Failed, Memory}
use Rattle.irl_head.specs.StoreFiles.{head_file, pairs_base, urls_base}
use Rattle.irl_head.specs.Head.{head_bytes}
use Rattle.irl_head.specs.Opening.{IsBlank, HasHead, IsBadStore, IsKeptOtherwise, IsNotOursAt, DeniesState, IsUnwanted}
use Rattle.irl_ledger.specs.Crawling.{pair_settings}
use Rattle.irl_ledger.specs.Damage.{IsLogDamagedAt}
use Rattle.irl_ledger.proofs.Damage.{legal_undamaged}
use Rattle.irl_yard.specs.Standing.{IsMade, IsRest, HasRest, HasState}
use Rattle.irl_head.specs.Asking.{Agrees, IsOther}
use Rattle.irl_yard.specs.Opening.{IsDamageAt, IsRestDamagedAt, IsStoreDamagedAt, entered_state, new_state}
use Rattle.irl_yard.specs.Holding.{HoldsState}
use Rattle.irl_yard.specs.declared.parts.Parts.{Parts}
use Rattle.irl_yard.specs.Entering.{HasGround, fault_of_bay}
use Rattle.irl_head.proofs.Grounds.{none_or_one, one_head, blank_ours, head_ours, ours_unbroken, agrees_or_other}

-- ---- the state
pub made_head : (settings : Settings) (state : State) (files : Files) → IsMade settings state files → HasHead settings files
made_head settings state files made = record { valid = made.valid; head = made.head }

-- files whose head has no record stand for the state of a store that wasn't made yet
pub blank_has : (state : State) (files : Files) → StandsFor (files head_file) [] → HasState state files → IsBlank files × (state ≡ blank_state)
blank_has state files none (inl blank) = blank
blank_has state files none (inr (settings, made)) = absurd (none_or_one (files head_file) (head_bytes settings) none made.head)

-- and those with settings for one of a store that was made with them
pub made_has : (settings : Settings) (state : State) (files : Files) → HasHead settings files → HasState state files → IsMade settings state files
made_has settings state files head (inl blank) = absurd (none_or_one (files head_file) (head_bytes settings) blank.0.head head.head)
made_has settings state files head (inr (other, made)) =
    subst (λ (s : Settings). IsMade s state files) (one_head other settings files (made_head other state files made) head) made

entered_as : (asked : Asked) (settings : Settings) (kept : Option Settings) (urls pairs : Book) (events : List Happened) → kept ≡ Some settings
    → entered_state asked (record { settings = kept; urls = urls; pairs = pairs; events = events }) ≡ record { settings = kept; urls = urls; pairs = pairs; events = events }
entered_as asked settings None urls pairs events is = cc
entered_as asked settings (Some kept) urls pairs events is = refl

-- a store that was made stays
pub entered_made : (asked : Asked) (settings : Settings) (state : State) → state.settings ≡ Some settings → entered_state asked state ≡ state
entered_made asked settings state is = entered_as asked settings state.settings state.urls state.pairs state.events is

-- and one that wasn't made is a new one
pub entered_new : (asked : Asked) (state : State) (files : Files) (parts : Parts) (new : Told) → IsBlank files → HasState state files
    → HoldsState new.images parts (new_state (settings_of asked)) → HoldsState new.images parts (entered_state asked state)
entered_new asked state files parts new blank has holds = subst (λ (s : State). HoldsState new.images parts (entered_state asked s)) (sym (blank_has state files blank.head has).1) holds

-- ---- what is damaged
pub blank_undamaged : (asked : Asked) (files : Files) (f at : ℕ) → IsBlank files → IsStoreDamagedAt asked files f at → ⊥
blank_undamaged asked files f at blank (inl broken) = whole_list (files head_file) [] 0 blank.head broken.2
blank_undamaged asked files f at blank (inr bay) = none_or_one (files head_file) (head_bytes bay.0) blank.head bay.1.head

pub head_undamaged : (asked : Asked) (settings : Settings) (files : Files) (f at : ℕ) → HasHead settings files → (IsDamagedAt urls_base settings files f at → ⊥)
    → (IsRestDamagedAt settings.kind settings files f at → ⊥) → IsStoreDamagedAt asked files f at → ⊥
head_undamaged asked settings files f at head sane rest (inl broken) = whole_list (files head_file) (head_bytes settings ∷ []) 0 head.head broken.2
head_undamaged asked settings files f at head sane rest (inr part) = ⊎_elim
    sane
    rest
    (subst (λ (s : Settings). IsDamagedAt urls_base s files f at ⊎ IsRestDamagedAt s.kind s files f at) (one_head part.0 settings files part.1 head) part.3)

-- a store of lines or of tuples has nothing beside that is damaged, and one of a crawl its log and its bay of pairs
pub plain_whole : (kind : Kind) (settings : Settings) (files : Files) (f at : ℕ) → kind ≢ Crawl → IsRestDamagedAt kind settings files f at → ⊥
plain_whole Lines settings files f at plain is = is
plain_whole Tuples settings files f at plain is = is
plain_whole Crawl settings files f at plain is = plain refl

pub crawl_damaged : (kind : Kind) (settings : Settings) (files : Files) (f at : ℕ) → kind ≡ Crawl → IsLogDamagedAt settings files f at ⊎ IsDamagedAt pairs_base (pair_settings settings) files f at
    → IsRestDamagedAt kind settings files f at
crawl_damaged kind settings files f at is damaged = subst (λ (k : Kind). IsRestDamagedAt k settings files f at) (sym is) damaged

pub crawl_whole : (kind : Kind) (settings : Settings) (files : Files) (f at : ℕ) → kind ≡ Crawl → (IsLogDamagedAt settings files f at → ⊥)
    → (IsDamagedAt pairs_base (pair_settings settings) files f at → ⊥) → IsRestDamagedAt kind settings files f at → ⊥
crawl_whole kind settings files f at is log pairs damaged = ⊎_elim log pairs (subst (λ (k : Kind). IsRestDamagedAt k settings files f at) is damaged)

-- ---- no state is refused as another's or as damaged
not_ours_denied : (state : State) (files : Files) (at : ℕ) → IsNotOursAt files at → HasState state files → ⊥
not_ours_denied state files at other (inl blank) = blank_ours files at blank.0 other
not_ours_denied state files at other (inr (settings, made)) = head_ours settings files at (made_head settings state files made) other

rest_denied : (kind : Kind) (settings : Settings) (urls pairs : Book) (events : List Happened) (files : Files) (f at : ℕ) → IsRest kind settings urls pairs events
    → HasRest kind settings pairs events files → IsRestDamagedAt kind settings files f at → ⊥
rest_denied Lines settings urls pairs events files f at legal has damaged = damaged
rest_denied Tuples settings urls pairs events files f at legal has damaged = damaged
rest_denied Crawl settings urls pairs events files f at legal has (inl log) = legal_undamaged settings events files f at legal.legal.rules has.log log
rest_denied Crawl settings urls pairs events files f at legal has (inr bay) = stands_whole pairs_base (pair_settings settings) pairs files f at has.pairs_stand bay

store_denied : (asked : Asked) (state : State) (files : Files) (f at : ℕ) → IsStoreDamagedAt asked files f at → HasState state files → ⊥
store_denied asked state files f at damaged (inl blank) = blank_undamaged asked files f at blank.0 damaged
store_denied asked state files f at damaged (inr (settings, made)) =
    head_undamaged asked settings files f at (made_head settings state files made) (stands_whole urls_base settings state.urls files f at made.urls)
    (rest_denied settings.kind settings state.urls state.pairs state.events files f at made.legal made.rest) damaged

damaged_denied : (asked : Asked) (state : State) (files : Files) (f at : ℕ) → IsDamageAt asked files f at → HasState state files → ⊥
damaged_denied asked state files f at (inl damaged) has = store_denied asked state files f at damaged has
damaged_denied asked state files f at (inr strange) has = strange.none state has

pub ground_denies : (asked : Asked) (told : Option Files) (fault : OpenFault) → HasGround asked told fault → DeniesState fault → ForSome told (λ files. (state : State) → HasState state files → ⊥)
ground_denies asked told (NotOurs at) ground denies = λ files is state. not_ours_denied state files at (ground files is)
ground_denies asked told (Damaged f at) ground denies = λ files is state. damaged_denied asked state files f at (ground files is)
ground_denies asked told (OtherSettings n kept wanted) ground denies = absurd denies
ground_denies asked told (BadSettings n) ground denies = absurd denies
ground_denies asked told Failed ground denies = absurd denies
ground_denies asked told Memory ground denies = absurd denies

-- ---- the grounds of the parts' refusals
-- the head's journal
pub found_ground : {T : Type 0} (asked : Asked) (told : Option Files) (result : Result T OpenFault) (fault : OpenFault) → result ≡ Err fault
    → ((at : ℕ) → IsErrOf result (NotOurs at) → ForSome told (λ files. IsNotOursAt files at))
    → ((f at : ℕ) → IsErrOf result (Damaged f at) → ForSome told (λ files. (f ≡ head_file) × (at ≡ 0) × IsBrokenAt (files head_file) 0))
    → ((n kept wanted : ℕ) → IsErrOf result (OtherSettings n kept wanted) → ⊥) → ((n : ℕ) → IsErrOf result (BadSettings n) → ⊥) → HasGround asked told fault
found_ground asked told result (NotOurs at) is ours damaged other bad = ours at is
found_ground asked told result (Damaged f at) is ours damaged other bad = λ files t. inl (inl (damaged f at is files t))
found_ground asked told result (OtherSettings n kept wanted) is ours damaged other bad = absurd (other n kept wanted is)
found_ground asked told result (BadSettings n) is ours damaged other bad = absurd (bad n is)
found_ground asked told result Failed is ours damaged other bad = tt
found_ground asked told result Memory is ours damaged other bad = tt

-- the bay of URLs of a store that was made as is asked
pub bay_ground : (asked : Asked) (told : Option Files) (settings : Settings) (fault : Fault) → ForSome told (HasHead settings) → Agrees asked settings
    → ((f at : ℕ) → fault ≡ BayDamaged f at → ForSome told (λ files. IsDamagedAt urls_base settings files f at)) → HasGround asked told (fault_of_bay fault)
bay_ground asked told settings BayFailed head agrees damaged = tt
bay_ground asked told settings BayMemory head agrees damaged = tt
bay_ground asked told settings (BayFull n) head agrees damaged = tt
bay_ground asked told settings (BayDamaged f at) head agrees damaged = λ files t. inl (inr (settings, head files t, agrees, inl (damaged f at refl files t)))

-- what it has beside,
pub part_ground : (asked : Asked) (told : Option Files) (fault : Fault) → ((f at : ℕ) → fault ≡ BayDamaged f at → ForSome told (λ files. IsDamageAt asked files f at))
    → HasGround asked told (fault_of_bay fault)
part_ground asked told BayFailed damaged = tt
part_ground asked told BayMemory damaged = tt
part_ground asked told (BayFull n) damaged = tt
part_ground asked told (BayDamaged f at) damaged = damaged f at refl

pub rest_ground : (asked : Asked) (settings : Settings) (files : Files) (f at : ℕ) → HasHead settings files → Agrees asked settings → settings.kind ≡ Crawl
    → IsLogDamagedAt settings files f at ⊎ IsDamagedAt pairs_base (pair_settings settings) files f at → IsDamageAt asked files f at
rest_ground asked settings files f at head agrees kind damaged = inl (inr (settings, head, agrees, inr (crawl_damaged settings.kind settings files f at kind damaged)))

-- ---- no two kinds of refusal have their grounds in the same files
pub ours_or_damaged : (asked : Asked) (files : Files) (at f place : ℕ) → IsNotOursAt files at → IsDamageAt asked files f place → ⊥
ours_or_damaged asked files at f place other (inl (inl broken)) = ours_unbroken files at other broken.2
ours_or_damaged asked files at f place other (inl (inr part)) = head_ours part.0 files at part.1 other
ours_or_damaged asked files at f place other (inr strange) = head_ours strange.settings files at strange.head other

pub other_or_damaged : (asked : Asked) (files : Files) (n kept wanted f place : ℕ) → IsKeptOtherwise asked files n kept wanted → IsDamageAt asked files f place → ⊥
other_or_damaged asked files n kept wanted f place (settings, head, other) (inl (inl broken)) = whole_list (files head_file) (head_bytes settings ∷ []) 0 head.head broken.2
other_or_damaged asked files n kept wanted f place (settings, head, other) (inl (inr part)) =
    agrees_or_other asked settings n kept wanted (subst (Agrees asked) (one_head part.0 settings files part.1 head) part.2) other
other_or_damaged asked files n kept wanted f place (settings, head, other) (inr strange) =
    agrees_or_other asked settings n kept wanted (subst (Agrees asked) (one_head strange.settings settings files strange.head head) strange.agrees) other

pub bad_or_damaged : (asked : Asked) (files : Files) (n f place : ℕ) → IsBadStore asked files n → IsDamageAt asked files f place → ⊥
bad_or_damaged asked files n f place bad (inl damaged) = blank_undamaged asked files f place bad.0 damaged
bad_or_damaged asked files n f place bad (inr strange) = none_or_one (files head_file) (head_bytes strange.settings) bad.0.head strange.head.head

-- what was asked otherwise
pub kept_ground : (asked : Asked) (settings : Settings) (n kept wanted : ℕ) (told : Option Files) → ForSome told (HasHead settings) → IsOther asked settings n kept wanted
    → HasGround asked told (OtherSettings n kept wanted)
kept_ground asked settings n kept wanted told head other = λ files is. (settings, head files is, other)

-- ---- what a bay is refused with
pub bay_wanted : (fault : Fault) → IsUnwanted (fault_of_bay fault) → ⊥
bay_wanted BayFailed is = is
bay_wanted BayMemory is = is
bay_wanted (BayFull n) is = is
bay_wanted (BayDamaged f at) is = is

pub bay_failed : {T : Type 0} (result : Result T Fault) (fault : Fault) → result ≡ Err fault → ((n : ℕ) → IsErrOf result (BayFull n) → ⊥) → fault_of_bay fault ≡ Failed → IsErrOf result BayFailed
bay_failed result BayFailed was full is = was
bay_failed result BayMemory was full is = cc
bay_failed result (BayFull n) was full is = absurd (full n was)
bay_failed result (BayDamaged f at) was full is = cc

-- nothing of a bay that is made is damaged
pub unmade_ground : (asked : Asked) (told : Option Files) (fault : Fault) → ((f at : ℕ) → fault ≡ BayDamaged f at → ⊥) → HasGround asked told (fault_of_bay fault)
unmade_ground asked told BayFailed whole = tt
unmade_ground asked told BayMemory whole = tt
unmade_ground asked told (BayFull n) whole = tt
unmade_ground asked told (BayDamaged f at) whole = absurd (whole f at refl)

-- what names no other make and nothing that was asked
pub not_unwanted : {T : Type 0} (result : Result T OpenFault) (fault : OpenFault) → result ≡ Err fault → ((at : ℕ) → IsErrOf result (NotOurs at) → ⊥)
    → ((n kept wanted : ℕ) → IsErrOf result (OtherSettings n kept wanted) → ⊥) → ((n : ℕ) → IsErrOf result (BadSettings n) → ⊥) → IsUnwanted fault → ⊥
not_unwanted result (NotOurs at) was ours other bad is = ours at was
not_unwanted result (Damaged f at) was ours other bad is = is
not_unwanted result (OtherSettings n kept wanted) was ours other bad is = other n kept wanted was
not_unwanted result (BadSettings n) was ours other bad is = bad n was
not_unwanted result Failed was ours other bad is = is
not_unwanted result Memory was ours other bad is = is
