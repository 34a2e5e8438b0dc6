-- How a run can end, its exit status, and its line on the error sink.
use Rattle.std.specs.Prelude.{◌≡◌, ◌⊎◌, ◌≤◌, ℕ, ◌+◌, ◌/◌, ◌%◌, nat_eq, if◌then◌else◌, List, [], ◌∷◌, ◌++◌, codes, Result, Ok, Err}
use Rattle.std.specs.Fmt.{decimal}
use Rattle.std.specs.Io.KnownBytes.{Appends}
use Rattle.irl_base.specs.Faults.{Rose}
use Rattle.irl_base.specs.declared.fault.Fault.{Fault}
use Rattle.irl_base.specs.declared.fault.Fault.TheVariants.{Failed as StoreFailed, Memory as StoreMemory, Full as StoreFull, Damaged as StoreDamaged}
use Rattle.irl_io.specs.Written.{AppendsPrefix}
use Rattle.irl_head.specs.declared.open_fault.OpenFault.{OpenFault}
use Rattle.irl_head.specs.declared.open_fault.OpenFault.TheVariants.{NotOurs as OpenNotOurs, Damaged as OpenDamaged, OtherSettings as OpenOtherSettings, BadSettings as OpenBadSettings, Failed as OpenFailed, Memory as OpenMemory}
use Rattle.irl_top.specs.Stream.{Stream}
use Rattle.irl_top.specs.declared.ending.Ending.{Ending}
use Rattle.irl_top.specs.declared.ending.Ending.TheVariants.{Done, BadSettings, LineRefused, NotOurs, Damaged, OtherSettings, DiskFault, InputFault, OutputFault, NoMemory, Full}

-- the exit status
abbrev pub status_of : Ending → ℕ
status_of Done = 0
status_of (BadSettings n) = 1
status_of (LineRefused n) = 2
status_of (NotOurs at) = 3
status_of (Damaged f at) = 3
status_of (OtherSettings n kept wanted) = 3
status_of DiskFault = 4
status_of InputFault = 5
status_of OutputFault = 6
status_of NoMemory = 7
status_of (Full b) = 8

-- an ending that refuses the store as it is
abbrev pub IsUnopened : Ending → Type 0
IsUnopened ending = ((n : ℕ) × (ending ≡ BadSettings n)) ⊎ ((at : ℕ) × (ending ≡ NotOurs at))
    ⊎ ((n kept wanted : ℕ) × (ending ≡ OtherSettings n kept wanted))

-- an ending that comes of the input: it was read to its end, a line of it is refused, or the source failed
abbrev pub IsEndOfInput : Ending → Type 0
IsEndOfInput ending = (ending ≡ Done) ⊎ ((n : ℕ) × (ending ≡ LineRefused n)) ⊎ (ending ≡ InputFault)

-- an ending before which all that was judged is printed: one of these, or a full bucket
abbrev pub IsAllPrinted : Ending → Type 0
IsAllPrinted ending = IsEndOfInput ending ⊎ ((b : ℕ) × (ending ≡ Full b))

-- an ending that comes only once the store is opened
abbrev pub IsLate : Ending → Type 0
IsLate ending = (ending ≡ Done) ⊎ ((n : ℕ) × (ending ≡ LineRefused n)) ⊎ (ending ≡ InputFault) ⊎ (ending ≡ OutputFault)
    ⊎ ((b : ℕ) × (ending ≡ Full b))

-- the exit status of refused words
abbrev pub refused_status : ℕ
refused_status = 1

-- a file's name: its number in four digits
abbrev pub file_name : ℕ → List ℕ
file_name f = (48 + f / 1000 % 10) ∷ (48 + f / 100 % 10) ∷ (48 + f / 10 % 10) ∷ (48 + f % 10) ∷ []

-- the option of a setting, by its number
abbrev pub option_of : ℕ → List ℕ
option_of n =
    if nat_eq n 2 then codes "--rule"
    else if nat_eq n 3 then codes "--buckets"
    else if nat_eq n 4 then codes "--array"
    else if nat_eq n 5 then codes "--trigger"
    else if nat_eq n 6 then codes "--block"
    else if nat_eq n 7 then codes "--cap"
    else if nat_eq n 8 then codes "--queues"
    else if nat_eq n 9 then codes "--base"
    else if nat_eq n 10 then codes "--most"
    else if nat_eq n 11 then codes "--ranks"
    else codes "-"

-- what the error sink is given where the words are refused with this one
abbrev pub refusal : List ℕ → List ℕ
refusal word = codes "words refused: " ++ word ++ 10 ∷ []

-- what it is given at an ending
abbrev pub message : Ending → List ℕ
message Done = []
message (BadSettings n) = refusal (option_of n)
message (LineRefused n) = codes "line " ++ decimal n ++ (codes " refused" ++ 10 ∷ [])
message (NotOurs at) = codes "not a store: byte " ++ decimal at ++ (codes " of file 0000" ++ 10 ∷ [])
message (Damaged f at) = codes "damaged: byte " ++ decimal at ++ (codes " of file " ++ file_name f ++ 10 ∷ [])
message (OtherSettings n kept wanted) = codes "other setting " ++ decimal n
    ++ (codes ": kept " ++ decimal kept ++ (codes ", asked " ++ decimal wanted ++ 10 ∷ []))
message DiskFault = codes "disk fault" ++ 10 ∷ []
message InputFault = codes "input fault" ++ 10 ∷ []
message OutputFault = codes "output fault" ++ 10 ∷ []
message NoMemory = codes "no memory" ++ 10 ∷ []
message (Full b) = codes "bucket " ++ decimal b ++ (codes " full" ++ 10 ∷ [])

-- a text was written, or a prefix of it where the sink failed
pub record Says (text : List ℕ) (before after : Stream) : Type 0 where
  pub later : before.faults ≤ after.faults
  pub written : Appends before.bytes after.bytes text
      ⊎ (AppendsPrefix before.bytes after.bytes text × Rose before.faults after.faults)

-- what a refused opening, and a refused call on the store, end a run with
abbrev pub ending_of_open : OpenFault → Ending
ending_of_open (OpenNotOurs at) = NotOurs at
ending_of_open (OpenDamaged f at) = Damaged f at
ending_of_open (OpenOtherSettings n kept wanted) = OtherSettings n kept wanted
ending_of_open (OpenBadSettings n) = BadSettings n
ending_of_open OpenFailed = DiskFault
ending_of_open OpenMemory = NoMemory

abbrev pub ending_of_store : Fault → Ending
ending_of_store StoreFailed = DiskFault
ending_of_store StoreMemory = NoMemory
ending_of_store (StoreFull b) = Full b
ending_of_store (StoreDamaged f at) = Damaged f at

-- the ending that a command answers
abbrev pub ending_of : Result (Unit {0}) Ending → Ending
ending_of (Ok done) = Done
ending_of (Err ending) = ending
