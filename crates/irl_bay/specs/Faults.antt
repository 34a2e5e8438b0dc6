-- Faults of a bay's journals, and of calls that name none.
use Rattle.std.specs.Prelude.{ℕ, Result, IsErrOf}
use Rattle.irl_base.specs.declared.fault.Fault.{Fault}
use Rattle.irl_base.specs.declared.fault.Fault.TheVariants.{Full, Failed as StoreFailed, Memory as StoreMemory, Damaged as StoreDamaged}
use Rattle.irl_journal.specs.declared.fault.JournalFault.{JournalFault}
use Rattle.irl_journal.specs.declared.fault.JournalFault.TheVariants.{Failed as JournalFailed, Memory as JournalMemory, Damaged as JournalDamaged}

-- what one of a bay's journals that can't be opened is answered with
abbrev pub fault_of : ℕ → JournalFault → Fault
fault_of f JournalFailed = StoreFailed
fault_of f JournalMemory = StoreMemory
fault_of f (JournalDamaged at) = StoreDamaged f at

-- a refusal names no damage and no bucket
pub record NamesNone {A : Type 0} (result : Result A Fault) : Type 0 where
  pub damaged : (f at : ℕ) → IsErrOf result (StoreDamaged f at) → ⊥
  pub full : (n : ℕ) → IsErrOf result (Full n) → ⊥
