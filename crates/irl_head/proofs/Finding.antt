-- What the visitor of the head's journal found, and what that says of the head.
use Rattle.std.proofs.Common.{◌≡◌, ◌∙◌, ⊎_elim, inl, inr, ℕ, zero, suc, ◌<◌, List, [], ◌∷◌, ◌++◌, length, refl, ap, subst, arith, append_assoc, ◌⊎◌, Option, None, Some, Result, Ok, Err, IfOk, IfSome}
use mathlib.Core.Path.{fun_ext}
use Rattle.std.specs.Prelude.{⊤}
use Rattle.std.specs.List.{AllByRecursion}
use Rattle.irl_offer.specs.Settings.{AreValid}
use Rattle.irl_offer.specs.declared.settings.Settings.{Settings}
use Rattle.irl_disk.specs.Disk.{Files, Changes, ChangesFile}
use Rattle.irl_journal.specs.Format.{StandsFor, IsPayload, IsBrokenAt, records_text, record_text, placed_from, open_gate}
use Rattle.irl_journal.specs.Visiting.{TakesAll, IsBrokenFor, IsOpened}
use Rattle.irl_journal.specs.declared.fault.JournalFault.{JournalFault}
use Rattle.irl_journal.specs.declared.fault.JournalFault.TheVariants.{Failed as JournalFailed, Memory as JournalMemory, Damaged as JournalDamaged}
use Rattle.irl_head.specs.declared.open_fault.OpenFault.{OpenFault}
use Rattle.irl_head.specs.declared.open_fault.OpenFault.TheVariants.{NotOurs, Damaged, OtherSettings, BadSettings, Failed, Memory}
use Rattle.irl_head.specs.declared.head_visitor.HeadVisitor.{HeadVisitor}
use Rattle.irl_head.specs.StoreFiles.{head_file}
use Rattle.irl_head.specs.Head.{head_bytes, IsNoHeadAt}
use Rattle.irl_head.specs.Finding.{Finds, IsReadAs, fault_in_head, found_in_head}
use Rattle.irl_head.specs.Opening.{HasFirst, IsNotOursAt}

-- a record is taken
abbrev pub Taken : HeadVisitor → ℕ → List ℕ → HeadVisitor → Type 0
Taken old at payload new = Finds old.found payload new.found

-- what was found once the first record is read as this, and these stand behind it
abbrev pub found_after : Result Settings ℕ → List (List ℕ) → Result Settings ℕ
found_after read [] = read
found_after (Ok settings) (payload ∷ payloads) = Err 105
found_after (Err at) (payload ∷ payloads) = Err at

-- what was found in these records
abbrev pub IsFoundIn : List (List ℕ) → Option (Result Settings ℕ) → Type 0
IsFoundIn [] found = found ≡ None
IsFoundIn (payload ∷ payloads) found = (read : Result Settings ℕ) × IsReadAs payload read × (found ≡ Some (found_after read payloads))

some_after : (found : Option (Result Settings ℕ)) (payload : List ℕ) (some : Finds None payload found) → (read : Result Settings ℕ) × IsReadAs payload read × (found ≡ Some read)
some_after None payload finds = (let no = finds.some in cc)
some_after (Some read) payload finds = (read, finds.first refl, refl)

stays_refused : (payloads : List (List ℕ)) (from place : ℕ) (old new : HeadVisitor) → old.found ≡ Some (Err place) → TakesAll Taken old (placed_from from payloads) new → new.found ≡ Some (Err place)
stays_refused [] from place old new was took = ap (λ (h : HeadVisitor). h.found) took ∙ was
stays_refused (payload ∷ payloads) from place old new was took = stays_refused payloads _ place took.0 new (took.1.none place was) took.2

found_then : (read : Result Settings ℕ) (payloads : List (List ℕ)) (from : ℕ) (old new : HeadVisitor) → old.found ≡ Some read → TakesAll Taken old (placed_from from payloads) new
    → new.found ≡ Some (found_after read payloads)
found_then read [] from old new was took = ap (λ (h : HeadVisitor). h.found) took ∙ was
found_then (Ok settings) (payload ∷ payloads) from old new was took = stays_refused payloads _ 105 took.0 new (took.1.second settings was) took.2
found_then (Err at) (payload ∷ payloads) from old new was took = stays_refused payloads _ at took.0 new (took.1.none at was) took.2

-- a visitor that has found nothing yet finds in the records what stands there
pub found_in : (payloads : List (List ℕ)) (from : ℕ) (old new : HeadVisitor) → old.found ≡ None → TakesAll Taken old (placed_from from payloads) new → IsFoundIn payloads new.found
found_in [] from old new none took = ap (λ (h : HeadVisitor). h.found) took ∙ none
found_in (payload ∷ payloads) from old new none took =
    let first = some_after took.0.found payload (subst (λ (f : Option (Result Settings ℕ)). Finds f payload took.0.found) none took.1) in
    (first.0, first.1, found_then first.0 payloads _ took.0 new first.2 took.2)

-- ---- what was found tells the records
-- settings: there is one record, which has them
pub found_settings : (payloads : List (List ℕ)) (found : Option (Result Settings ℕ)) (settings : Settings) → found ≡ Some (Ok settings) → IsFoundIn payloads found
    → (payloads ≡ head_bytes settings ∷ []) × AreValid settings
found_settings [] found settings is none = cc
found_settings (payload ∷ []) found settings is (Ok other, read, e) =
    let same : other ≡ settings = cc in
    let own = subst (λ (s : Settings). AreValid s × (payload ≡ head_bytes s)) same read.found in
    (ap (λ (p : List ℕ). p ∷ []) own.1, own.0)
found_settings (payload ∷ []) found settings is (Err at, read, e) = cc
found_settings (payload ∷ (more ∷ payloads)) found settings is (Ok other, read, e) = cc
found_settings (payload ∷ (more ∷ payloads)) found settings is (Err at, read, e) = cc

-- nothing: there is no record
pub found_none : (payloads : List (List ℕ)) (found : Option (Result Settings ℕ)) → found ≡ None → IsFoundIn payloads found → payloads ≡ []
found_none [] found is none = refl
found_none (payload ∷ payloads) found is (read, is_read, e) = cc

-- a place: by it the store is of another make
first_whole : (file payload : List ℕ) (payloads : List (List ℕ)) (gate : ℕ) (rest : List ℕ) → AllByRecursion IsPayload (payload ∷ payloads) → file ≡ records_text (payload ∷ payloads) ++ gate ∷ rest
    → (next : ℕ) × HasFirst file payload next × ((payloads ≡ [] → next ≡ gate) × ((payloads ≡ [] → ⊥) → next ≡ open_gate))
first_whole file payload [] gate rest each bytes = (
  gate,
  record { rest = rest; bytes = bytes ∙ append_assoc (record_text payload) [] (gate ∷ rest); fits = each.0 },
  (λ e. refl, λ no. absurd (no refl)),
)
first_whole file payload (more ∷ payloads) gate rest each bytes =
    (open_gate, record { rest = _; bytes = bytes ∙ append_assoc (record_text payload) (records_text (more ∷ payloads)) (gate ∷ rest); fits = each.0 }, (λ e. absurd cc, λ no. refl))

pub found_place : (files : Files) (payloads : List (List ℕ)) (found : Option (Result Settings ℕ)) (at gate : ℕ) (rest : List ℕ) → found ≡ Some (Err at) → IsFoundIn payloads found
    → AllByRecursion IsPayload payloads → files head_file ≡ records_text payloads ++ gate ∷ rest → IsNotOursAt files at
found_place files [] found at gate rest is none each bytes = cc
found_place files (payload ∷ []) found at gate rest is (Ok settings, read, e) each bytes = cc
found_place files (payload ∷ []) found at gate rest is (Err place, read, e) each bytes =
    let same : place ≡ at = cc in
    let first = first_whole (files head_file) payload [] gate rest each bytes in
    inr (inl (payload, first.0, first.1, subst (IsNoHeadAt payload) same (read.none place refl)))
found_place files (payload ∷ (more ∷ payloads)) found at gate rest is (Err place, read, e) each bytes =
    let same : place ≡ at = cc in
    let first = first_whole (files head_file) payload (more ∷ payloads) gate rest each bytes in
    inr (inl (payload, first.0, first.1, subst (IsNoHeadAt payload) same (read.none place refl)))
found_place files (payload ∷ (more ∷ payloads)) found at gate rest is (Ok settings, read, e) each bytes =
    let same : at ≡ 105 = cc in
    let first = first_whole (files head_file) payload (more ∷ payloads) gate rest each bytes in
    inr (inr (settings, read.found.0, first.0, subst (λ (p : List ℕ). HasFirst (files head_file) p first.0) (read.found.1) first.1, first.2.1 (λ no. cc), same))

-- so is one whose records are whole
pub stands_not_ours : (files : Files) (payloads : List (List ℕ)) (found : Option (Result Settings ℕ)) (at : ℕ) → found ≡ Some (Err at) → IsFoundIn payloads found → StandsFor (files head_file) payloads
    → IsNotOursAt files at
stands_not_ours files payloads found at is found_is (inl none) = let no : found ≡ None = subst (λ (ps : List (List ℕ)). IsFoundIn ps found) none.1 found_is in cc
stands_not_ours files payloads found at is found_is (inr has) = found_place files payloads found at has.gate has.rest is found_is has.each has.bytes

-- ---- a journal that breaks off
none_yet : HeadVisitor
none_yet = record { found = None }

first_settings : (files : Files) (payloads : List (List ℕ)) (settings : Settings) (at : ℕ) (rest : List ℕ) → AreValid settings → payloads ≡ head_bytes settings ∷ [] → AllByRecursion IsPayload payloads
    → files head_file ≡ records_text payloads ++ open_gate ∷ rest → at ≡ length (records_text payloads) → IsNotOursAt files at
first_settings files payloads settings at rest valid one each bytes place =
    let first = first_whole (files head_file) (head_bytes settings) [] open_gate rest (subst (λ (ps : List (List ℕ)). AllByRecursion IsPayload ps) one each)
    (subst (λ (ps : List (List ℕ)). files head_file ≡ records_text ps ++ open_gate ∷ rest) one bytes) in
    inr (inr (settings, valid, first.0, first.1, first.2.0 refl, place ∙ ap (λ (ps : List (List ℕ)). length (records_text ps)) one))

-- behind a record
pub broken_not_ours : (files : Files) (new : HeadVisitor) (found : Option (Result Settings ℕ)) (fault : JournalFault) (at : ℕ) → new.found ≡ found
    → ((place : ℕ) → fault ≡ JournalDamaged place → IsBrokenFor Taken (record { found = None }) new (files head_file) place) → fault_in_head found fault ≡ NotOurs at → IsNotOursAt files at
broken_not_ours files new found JournalFailed at told broken is = cc
broken_not_ours files new found JournalMemory at told broken is = cc
broken_not_ours files new None (JournalDamaged place) at told broken is = cc
broken_not_ours files new (Some (Ok settings)) (JournalDamaged place) at told broken is =
    let same : place ≡ at = cc in
    let b = broken place refl in
    let one = found_settings b.broken.payloads new.found settings told (found_in b.broken.payloads 0 (record { found = None }) new refl b.took) in
    subst (IsNotOursAt files) same (first_settings files b.broken.payloads settings place b.broken.rest one.1 one.0 b.broken.each b.broken.bytes b.broken.place)
broken_not_ours files new (Some (Err kept)) (JournalDamaged place) at told broken is =
    let same : kept ≡ at = cc in
    let b = broken place refl in
    subst (IsNotOursAt files) same (found_place files b.broken.payloads new.found kept open_gate b.broken.rest told (found_in b.broken.payloads 0 (record { found = None }) new refl b.took)
    b.broken.each b.broken.bytes)

-- or at once
pub broken_at_once : (files : Files) (new : HeadVisitor) (found : Option (Result Settings ℕ)) (fault : JournalFault) (f at : ℕ) → new.found ≡ found
    → ((place : ℕ) → fault ≡ JournalDamaged place → IsBrokenFor Taken (record { found = None }) new (files head_file) place) → fault_in_head found fault ≡ Damaged f at
    → (f ≡ head_file) × (at ≡ 0) × IsBrokenAt (files head_file) 0
broken_at_once files new found JournalFailed f at told broken is = cc
broken_at_once files new found JournalMemory f at told broken is = cc
broken_at_once files new (Some (Ok settings)) (JournalDamaged place) f at told broken is = cc
broken_at_once files new (Some (Err kept)) (JournalDamaged place) f at told broken is = cc
broken_at_once files new None (JournalDamaged place) f at told broken is =
    let file : f ≡ head_file = cc in
    let same : at ≡ place = cc in
    let b = broken place refl in
    let none = found_none b.broken.payloads new.found told (found_in b.broken.payloads 0 (record { found = None }) new refl b.took) in
    let first : place ≡ 0 = b.broken.place ∙ ap (λ (ps : List (List ℕ)). length (records_text ps)) none in
    (file, same ∙ first, subst (IsBrokenAt (files head_file)) first b.broken)

-- ---- what is said of a journal that was read whole
pub said_settings : (found : Option (Result Settings ℕ)) (result : Result (Option Settings) OpenFault) (P : Settings → Type 0) → result ≡ found_in_head found
    → ((settings : Settings) → found ≡ Some (Ok settings) → P settings) → IfOk result (λ f. IfSome f P)
said_settings found (Err fault) P is gives = tt
said_settings found (Ok None) P is gives = tt
said_settings None (Ok (Some settings)) P is gives = cc
said_settings (Some (Err at)) (Ok (Some settings)) P is gives = cc
said_settings (Some (Ok other)) (Ok (Some settings)) P is gives = let same : other ≡ settings = cc in gives settings (ap (λ (s : Settings). Some (Ok s)) same)

pub said_none : (found : Option (Result Settings ℕ)) (result : Result (Option Settings) OpenFault) (Q : Type 0) → result ≡ found_in_head found → (found ≡ None → Q) → IfOk result (λ f. f ≡ None → Q)
said_none found (Err fault) Q is gives = tt
said_none found (Ok (Some settings)) Q is gives = λ e. cc
said_none None (Ok None) Q is gives = λ e. gives refl
said_none (Some (Ok settings)) (Ok None) Q is gives = cc
said_none (Some (Err at)) (Ok None) Q is gives = cc

pub said_place : (found : Option (Result Settings ℕ)) (result : Result (Option Settings) OpenFault) (at : ℕ) → result ≡ found_in_head found → result ≡ Err (NotOurs at) → found ≡ Some (Err at)
said_place None result at is e = cc
said_place (Some (Ok settings)) result at is e = cc
said_place (Some (Err place)) result at is e = let same : place ≡ at = cc in ap (λ (n : ℕ). Some (Err n)) same

-- ---- a file of more than one byte isn't touched
one_file : (old new : Files) (f : ℕ) → 1 < length (old head_file) → ChangesFile head_file IsOpened old new → new f ≡ old f
one_file old new zero long changes = ⊎_elim (λ same. same) (λ short. absurd (omega (arith, long, short.0))) changes.changed
one_file old new (suc f) long changes = changes.others (suc f) (λ e. cc)

pub opened_same : (old new : Option Files) (n : ℕ) → IfSome old (λ files. n ≡ length (files head_file)) → 1 < n → Changes head_file IsOpened old new → new ≡ old
opened_same None new n is long changes = changes
opened_same (Some old) new n is long changes = changes.1 ∙ ap (λ (files : Files). Some files) (fun_ext (λ f. one_file old changes.0 f (omega (arith, long, is)) changes.2))

-- ---- a journal was damaged where its refusal says so
pub damaged_then : (found : Option (Result Settings ℕ)) (fault : JournalFault)
    → ((at : ℕ) → fault_in_head found fault ≡ NotOurs at → (place : ℕ) × (fault ≡ JournalDamaged place))
    × ((f at : ℕ) → fault_in_head found fault ≡ Damaged f at → (place : ℕ) × (fault ≡ JournalDamaged place))
damaged_then found JournalFailed = (λ at is. absurd cc, λ f at is. absurd cc)
damaged_then found JournalMemory = (λ at is. absurd cc, λ f at is. absurd cc)
damaged_then found (JournalDamaged place) = (λ at is. (place, refl), λ f at is. (place, refl))

-- where nothing was found, it isn't of another make
pub never_ours : (fault : JournalFault) (at : ℕ) → fault_in_head None fault ≡ NotOurs at → ⊥
never_ours JournalFailed at is = cc
never_ours JournalMemory at is = cc
never_ours (JournalDamaged place) at is = cc

-- the store failed where its fault is answered
pub failed_then : (found : Option (Result Settings ℕ)) (fault : JournalFault) → fault_in_head found fault ≡ Failed → fault ≡ JournalFailed
failed_then found JournalFailed is = refl
failed_then found JournalMemory is = cc
failed_then None (JournalDamaged place) is = cc
failed_then (Some (Ok settings)) (JournalDamaged place) is = cc
failed_then (Some (Err at)) (JournalDamaged place) is = cc

-- and else memory ran out, or the journal is damaged
pub unfailed_then : (found : Option (Result Settings ℕ)) (fault : JournalFault) → (fault_in_head found fault ≡ Failed → ⊥)
    → (fault ≡ JournalMemory) ⊎ ((at : ℕ) × (fault ≡ JournalDamaged at))
unfailed_then found JournalFailed unfailed = absurd (unfailed refl)
unfailed_then found JournalMemory unfailed = inl refl
unfailed_then found (JournalDamaged place) unfailed = inr (place, refl)

-- ---- what is no refusal of a head
-- nothing that was asked is
abbrev pub IsOfHead : OpenFault → Type 0
IsOfHead (NotOurs at) = ⊤
IsOfHead (Damaged f at) = ⊤
IsOfHead (OtherSettings n kept wanted) = ⊥
IsOfHead (BadSettings n) = ⊥
IsOfHead Failed = ⊤
IsOfHead Memory = ⊤

pub of_head : (found : Option (Result Settings ℕ)) (fault : JournalFault) → IsOfHead (fault_in_head found fault)
of_head found JournalFailed = tt
of_head found JournalMemory = tt
of_head None (JournalDamaged place) = tt
of_head (Some (Ok settings)) (JournalDamaged place) = tt
of_head (Some (Err at)) (JournalDamaged place) = tt

-- a journal that was read whole is refused only as another's
abbrev pub IsOthers : OpenFault → Type 0
IsOthers (NotOurs at) = ⊤
IsOthers (Damaged f at) = ⊥
IsOthers (OtherSettings n kept wanted) = ⊥
IsOthers (BadSettings n) = ⊥
IsOthers Failed = ⊥
IsOthers Memory = ⊥

pub said_others : (found : Option (Result Settings ℕ)) (fault : OpenFault) → found_in_head found ≡ Err fault → IsOthers fault
said_others None fault is = cc
said_others (Some (Ok settings)) fault is = cc
said_others (Some (Err at)) fault is = let same : NotOurs at ≡ fault = cc in subst IsOthers same tt
