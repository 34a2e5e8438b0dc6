-- What a store tells of the first of its calls that failed.
use Rattle.std.specs.Prelude.{◌≡◌, ℕ, Bool, true, false, List, ◌∷◌, ◌++◌, codes, Option, Some, None, IsSomeAnd}
use Rattle.irl_disk.specs.DeviceCall.{DeviceCall, Length as LengthOf, Read as ReadOf, Write as WriteOf, Cut as CutOf, Sync as SyncOf}
use Rattle.irl_files.specs.Folder.{four_digits}
use Rattle.irl_files.specs.declared.failure.Call.{Call}
use Rattle.irl_files.specs.declared.failure.Call.TheVariants.{Length, Read, Write, Cut, Sync}
use Rattle.irl_files.specs.declared.failure.Failure.{Failure}

-- the name of a call
abbrev pub call_name : Call → List ℕ
call_name Length = codes "length"
call_name Read = codes "read"
call_name Write = codes "write"
call_name Cut = codes "cut"
call_name Sync = codes "sync"

-- What tells of a failure in a store over this folder, by whether another program has it: that, or the call, its file
-- and a reason.
abbrev pub ExplainsAs : Bool → List ℕ → Failure → List ℕ → Type 0
ExplainsAs true folder failure text = text ≡ folder ++ codes " is in use by another program"
ExplainsAs false folder failure text =
    (reason : List ℕ)
    × (text ≡ call_name failure.call ++ (codes " of "
    ++ (folder ++ ((47 ∷ four_digits failure.file) ++ (codes ": " ++ reason)))))

abbrev pub Explains : List ℕ → Failure → List ℕ → Type 0
Explains folder failure text = ExplainsAs failure.is_in_use folder failure text

-- the name, and the file, of what was asked
abbrev pub call_of : DeviceCall → Call
call_of (LengthOf f) = Length
call_of (ReadOf f at count) = Read
call_of (WriteOf f at bytes) = Write
call_of (CutOf f to) = Cut
call_of (SyncOf f) = Sync

abbrev pub file_of : DeviceCall → ℕ
file_of (LengthOf f) = f
file_of (ReadOf f at count) = f
file_of (WriteOf f at bytes) = f
file_of (CutOf f to) = f
file_of (SyncOf f) = f

-- a failure is that of this call
abbrev pub IsOf : DeviceCall → Failure → Type 0
IsOf call failure = (failure.call ≡ call_of call) × (failure.file ≡ file_of call)

-- what a call leaves of the first failure: it stays, and where there was none it is this call's if this one failed
abbrev pub KeepsFirst : DeviceCall → Bool → Option Failure → Option Failure → Type 0
KeepsFirst call true old new = new ≡ old
KeepsFirst call false (Some first) new = new ≡ Some first
KeepsFirst call false None new = IsSomeAnd new (IsOf call)

-- the first failure, after one more
abbrev pub first_of : Option Failure → Failure → Option Failure
first_of None failure = Some failure
first_of (Some first) failure = Some first
