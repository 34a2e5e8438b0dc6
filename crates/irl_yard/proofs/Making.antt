-- A store that wasn't made yet, while it is made.
use Rattle.std.proofs.Common.{◌≡◌, ℕ, ◌≤◌, [], length, refl, sym, subst, arith, Option, None, Some, Result, Ok, Err}
use Rattle.irl_disk.specs.Disk.{Files, TellsBy}
use Rattle.irl_journal.specs.Format.{StandsFor}
use Rattle.irl_layout.specs.BayFiles.{IsFileOf}
use Rattle.std.specs.Prelude.{IsErr, IsErrAnd, IsErrOf, IfErr, IfOk, OnOk}
use Rattle.irl_bay.proofs.Apart.{files_within}
use Rattle.irl_head.specs.declared.open_fault.OpenFault.{OpenFault}
use Rattle.irl_head.specs.declared.open_fault.OpenFault.TheVariants.{Failed, Memory}
use Rattle.irl_head.specs.StoreFiles.{head_file, crawl_file, urls_base, pairs_base, IsOtherFile}
use Rattle.irl_head.specs.Opening.{IsBlank}

-- the files of both bays are files behind the head
pub urls_other : (buckets f : ℕ) → buckets ≤ 64 → IsFileOf urls_base buckets f → IsOtherFile f
urls_other buckets f small is = let within = files_within urls_base buckets f small is in (omega (arith, within.0), omega (arith, within.1))

pub pairs_other : (buckets f : ℕ) → buckets ≤ 64 → IsFileOf pairs_base buckets f → IsOtherFile f
pairs_other buckets f small is = let within = files_within pairs_base buckets f small is in (omega (arith, within.0), omega (arith, within.1))

-- a head without a record, and short files behind it
pub blank_both : (files : Files) → StandsFor (files head_file) [] → ((f : ℕ) → IsOtherFile f → length (files f) ≤ 1) → IsBlank files
blank_both files head others = record { head = head; others = others }

-- ---- the head is none of the bay's files
pub head_no_urls : (base buckets f : ℕ) → base ≡ urls_base → buckets ≤ 64 → IsFileOf base buckets f → f ≡ head_file → ⊥
head_no_urls base buckets f e small is same = omega (arith, e, same, (files_within base buckets f small is).0)

pub crawl_other : IsOtherFile crawl_file
crawl_other = (omega arith, omega arith)

pub told_on : (step : Files → Files → Type 0) (old new : Option Files) (files : Files) → TellsBy step old new → old ≡ Some files → (after : Files) × (new ≡ Some after)
told_on step None new files tells told = cc
told_on step (Some old) new files tells told = (tells.0, tells.1)

-- what is said of an error is so of the one there is
pub of_err : {T E : Type 0} (result : Result T E) (error : E) (P : E → Type 0) → result ≡ Err error → IfErr result P → P error
of_err (Ok value) error P is has = cc
of_err (Err other) error P is has = let same : other ≡ error = cc in subst P same has

pub if_err : {T E : Type 0} (result : Result T E) (error : E) (P : E → Type 0) → IsErrAnd result (λ e. e ≡ error) → P error → IfErr result P
if_err (Ok value) error P has is = cc
if_err (Err other) error P has is = subst P (sym has) is

-- what follows from a fact of a result
pub if_ok_then : {T E : Type 0} (result : Result T E) (P Q : T → Type 0) → ((value : T) → P value → Q value) → IfOk result P → IfOk result Q
if_ok_then (Ok value) P Q gives has = gives value has
if_ok_then (Err error) P Q gives has = tt

pub on_ok_then : {T E P Q : Type 0} (result : Result T E) → (P → Q) → OnOk result P → OnOk result Q
on_ok_then (Ok value) gives has = gives has
on_ok_then (Err error) gives has = tt

pub if_err_then : {T E : Type 0} (result : Result T E) (P Q : E → Type 0) → ((error : E) → P error → Q error) → IfErr result P → IfErr result Q
if_err_then (Ok value) P Q gives has = tt
if_err_then (Err error) P Q gives has = gives error has

-- an error that there is
pub was_err : {T E : Type 0} (result : Result T E) (error : E) → result ≡ Err error → IsErr result
was_err (Ok value) error was = cc
was_err (Err other) error was = refl

pub same_err : {T U E : Type 0} (result : Result T E) (other : Result U E) (error asked : E) → IsErrAnd result (λ e. e ≡ error) → other ≡ Err error → IsErrOf result asked → IsErrOf other asked
same_err (Ok value) other error asked has was is = cc
same_err (Err e) other error asked has was is = cc

pub open_fault_of : {T : Type 0} {fault asked : OpenFault} → IsErrOf {T = T} (Err fault) asked → fault ≡ asked
open_fault_of is = cc

-- want of memory is no fault of the store
pub only_memory : {T : Type 0} (result : Result T OpenFault) → IsErrAnd result (λ e. e ≡ Memory) → IsErrOf result Failed → ⊥
only_memory (Ok value) has is = cc
only_memory (Err e) has is = cc
