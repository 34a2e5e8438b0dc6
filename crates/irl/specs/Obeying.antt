-- What the program does for what its words ask.
use Rattle.std.specs.Prelude.{◌≡◌, ◌≢◌, ◌⊎◌, ℕ, ◌<◌, Bool, true, false, List, [], ◌∷◌, ◌++◌, codes, drop, Option, Some, IsSome}
use Rattle.std.specs.Io.KnownBytes.{Appends}
use Rattle.irl_base.specs.Faults.{Rose}
use Rattle.irl_disk.specs.Images.{silent}
use Rattle.irl_files.specs.Failure.{Explains}
use Rattle.irl_files.specs.declared.failure.Failure.{Failure}
use Rattle.irl_words.specs.Help.{asks_help}
use Rattle.irl_top.specs.Message.{Says, refusal}
use Rattle.irl_top.specs.Outside.{Outside}
use Rattle.irl_top.specs.Ports.{Port}
use Rattle.irl_top.specs.Run.{Runs}
use Rattle.irl_top.specs.Stream.{Stream}
use Rattle.irl.specs.Words.{folder_in, refusing_word}
use Rattle.irl.specs.declared.words.Request.{Request}
use Rattle.irl.specs.declared.words.Request.TheVariants.{Help, Version, Refused, Command}

-- what the program is handed beside its files, the standard streams and the ports, as it is told at one moment
pub record Handed : Type 0 where
  pub input : Stream
  pub output : Stream
  pub errors : Stream
  pub ports : List Port

abbrev pub handed : {I O E : Type 0} → (I → Option (List ℕ)) → (I → ℕ) → (O → Option (List ℕ)) → (O → ℕ)
    → (E → Option (List ℕ)) → (E → ℕ) → I → O → E → List Port → Handed
handed left input_faults written output_faults said error_faults input output errors ports =
    record {
      input = record { bytes = left input; faults = input_faults input };
      output = record { bytes = written output; faults = output_faults output };
      errors = record { bytes = said errors; faults = error_faults errors };
      ports = ports;
    }

-- the same with the files, of which only the count of faults is known
abbrev pub outside_of : Handed → ℕ → Outside
outside_of told faults = record {
  lent = record { store = silent faults; input = told.input; output = told.output };
  errors = told.errors;
  ports = told.ports;
}

-- the line that tells of a failure in a store over this folder
abbrev pub IsFaultLine : List ℕ → Failure → List ℕ → Type 0
IsFaultLine folder failure line = (text : List ℕ) × Explains folder failure text
    × (line ≡ codes "irl: " ++ (text ++ 10 ∷ []))

-- the line which says that it can't be told
abbrev pub untold_line : List ℕ
untold_line = codes "irl: what failed could not be told" ++ 10 ∷ []

-- the error stream was given a line that tells of this failure, or that one
abbrev pub TellsFault : List ℕ → Option Failure → Stream → Stream → Type 0
TellsFault folder first before after =
    (line : List ℕ)
    × (((failure : Failure) × (first ≡ Some failure) × IsFaultLine folder failure line) ⊎ (line ≡ untold_line))
    × Says line before after

-- the words of a command were run over the files of a folder, which tell nothing and had not failed before
pub record RunsOverFiles (words : List (List ℕ)) (before after : Handed) (status : ℕ) (first : Option Failure)
    : Type 0 where
  -- how often a call on the files has failed
  pub faults : ℕ
  pub runs : Runs words (outside_of before 0) (outside_of after faults) status
  -- where one has, there is a failure to tell of
  pub told : 0 < faults → IsSome first

-- They were, and behind the line of the run the error stream was given one that tells of what failed, at status 4
-- alone.
pub record RunsInFolder (folder : List ℕ) (words : List (List ℕ)) (before after : Handed) (status : ℕ) : Type 0 where
  -- the error stream behind the line of the run
  pub said : Stream
  -- what failed, if a call on the files has
  pub first : Option Failure
  pub runs : RunsOverFiles words before (record after { errors = said }) status first
  -- at that status one has
  pub failed : status ≡ 4 → IsSome first
  pub told : status ≡ 4 → TellsFault folder first said after.errors
  pub quiet : status ≢ 4 → after.errors ≡ said

-- A text was written whole at status 0; any other status is that of an output fault, and the output failed. Neither the
-- input nor a port was called.
pub record Shows (text : List ℕ) (before after : Handed) (status : ℕ) : Type 0 where
  pub done : status ≡ 0 → Appends before.output.bytes after.output.bytes text
  pub fault : status ≢ 0 → (status ≡ 6) × Rose before.output.faults after.output.faults
  pub input : after.input ≡ before.input
  pub ports : after.ports ≡ before.ports

-- the words were refused by this one: the error stream was given the line that a run gives it, and no other stream and
-- no port was called
pub record Refuses (word : List ℕ) (before after : Handed) (status : ℕ) : Type 0 where
  pub status_is : status ≡ 1
  pub says : Says (refusal word) before.errors after.errors
  pub input : after.input ≡ before.input
  pub output : after.output ≡ before.output
  pub ports : after.ports ≡ before.ports

-- what was done for the words behind the folder: a text was written where they ask for the help of a command, else they
-- were run
abbrev pub ObeysCommand : Bool → List ℕ → List (List ℕ) → Handed → Handed → ℕ → Type 0
ObeysCommand true folder words before after status = (text : List ℕ) × Shows text before after status
ObeysCommand false folder words before after status = RunsInFolder folder words before after status

-- what was done for a request: one of the two texts was written, all words were refused, or what those behind the
-- folder ask for
abbrev pub Obeys : Request → List ℕ → List ℕ → List (List ℕ) → Handed → Handed → ℕ → Type 0
Obeys Help help version words before after status = Shows help before after status
Obeys Version help version words before after status = Shows version before after status
Obeys Refused help version words before after status = Refuses (refusing_word words) before after status
Obeys Command help version words before after status =
    ObeysCommand (asks_help (drop 1 words)) (folder_in words) (drop 1 words) before after status
