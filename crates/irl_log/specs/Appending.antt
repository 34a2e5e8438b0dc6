-- What an append of events leaves.
use Rattle.std.specs.Prelude.{◌≡◌, ◌⊎◌, ℕ, List, [], ◌++◌, Result, OnOk, IsOk, IsErrOf}
use Rattle.irl_base.specs.declared.fault.Fault.{Fault}
use Rattle.irl_base.specs.declared.fault.Fault.TheVariants.{Failed, Memory}
use Rattle.irl_disk.specs.Disk.{ChangesFile}
use Rattle.irl_disk.specs.Effects.{OnlyChanges}
use Rattle.irl_disk.specs.Images.{Told}
use Rattle.irl_events.specs.Events.{Event}
use Rattle.irl_journal.specs.Appending.{AppendsAll}
use Rattle.irl_log.specs.Log.{OpenLog, HasEvents, HoldsLog}
use Rattle.irl_log.specs.Spelling.{log_records}

-- the file has these events, or these and more behind them
abbrev pub HasOrGainsEvents : ℕ → List Event → List Event → List ℕ → List ℕ → Type 0
HasOrGainsEvents buckets events more old new = HasEvents buckets new events ⊎ HasEvents buckets new (events ++ more)

-- An append of these events, by its answer: what it leaves of the log, and of its store.
pub record AppendsEvents {S : Type 0} (told : S → Told) (result : Result Unit Fault) (more : List Event)
    (old new : OpenLog) (before after : S) : Type 0 where
  -- each stop from then on leaves the events
  pub acknowledged : OnOk result ((events : List Event) → HoldsLog (told before).images old events
      → HoldsLog (told after).images new (events ++ more))
  -- a stop at any moment leaves the events from before, with all new ones or without any of them, and every other file
  -- as it was
  pub changes : (events : List Event) → HoldsLog (told before).images old events
      → OnlyChanges (ChangesFile old.journal.file (HasOrGainsEvents old.buckets events more)) (IsErrOf result Failed)
      (told before) (told after)
  -- want of memory changes nothing, and neither do no events, which it always answers Ok
  pub memory : IsErrOf result Memory → (after ≡ before) × (new ≡ old)
  pub idle : more ≡ [] → IsOk result × (after ≡ before) × (new ≡ old)
  pub buckets : new.buckets ≡ old.buckets
  -- what it leaves of the journal, byte for byte, whether that is sound, and which faults it answers
  pub records : AppendsAll told result (log_records more) old.journal new.journal before after
