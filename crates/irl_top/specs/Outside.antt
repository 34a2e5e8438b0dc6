-- What the program is lent, as it is told at one moment.
use Rattle.std.specs.Prelude.{◌≡◌, ℕ, List, Option}
use Rattle.irl_disk.specs.Disk.{Files}
use Rattle.irl_disk.specs.Images.{Told}
use Rattle.irl_top.specs.Ports.{Port}
use Rattle.irl_top.specs.Stream.{Stream}

-- what a command is lent tells at one moment
pub record Lent : Type 1 where
  pub store : Told
  pub input : Stream
  pub output : Stream

-- and of all that a run is handed, the error sink and the ports with it
pub record Outside : Type 1 where
  pub lent : Lent
  pub errors : Stream
  pub ports : List Port

-- what a sink tells
abbrev pub stream : {O : Type 0} → (O → Option (List ℕ)) → (O → ℕ) → O → Stream
stream written faults output = record { bytes = written output; faults = faults output }

-- what a store and a sink tell beside an input that isn't handed on
abbrev pub lent_beside : {S O : Type 0} → Stream → (S → Told) → (O → Option (List ℕ)) → (O → ℕ) → S → O → Lent
lent_beside input told written output_faults store output =
    record { store = told store; input = input; output = stream written output_faults output }

-- what these objects tell
abbrev pub lent : {S I O : Type 0} → (S → Told) → (I → Option (List ℕ)) → (I → ℕ) → (O → Option (List ℕ)) → (O → ℕ) → S
    → I → O → Lent
lent told left input_faults written output_faults store input output =
    record {
      store = told store;
      input = record { bytes = left input; faults = input_faults input };
      output = record { bytes = written output; faults = output_faults output };
    }

abbrev pub outside : {S I O E : Type 0} → (S → Told) → (I → Option (List ℕ)) → (I → ℕ) → (O → Option (List ℕ)) → (O → ℕ)
    → (E → Option (List ℕ)) → (E → ℕ) → S → I → O → E → List Port → Outside
outside told left input_faults written output_faults said error_faults store input output errors ports =
    record {
      lent = lent told left input_faults written output_faults store input output;
      errors = record { bytes = said errors; faults = error_faults errors };
      ports = ports;
    }

-- nothing was called: what is told and what a stop leaves is as it was, and the clock stands
pub record IsUntouched (before after : Lent) : Type 0 where
  pub files : after.store.files ≡ before.store.files
  pub images : (image : Files) → after.store.images image → before.store.images image
  pub since : (t : ℕ) (image : Files) → after.store.since t image → before.store.since t image
  pub moment : after.store.moment ≡ before.store.moment
  pub taken : after.store.taken ≡ before.store.taken
  pub faults : after.store.faults ≡ before.store.faults
  pub input : after.input ≡ before.input
  pub output : after.output ≡ before.output
