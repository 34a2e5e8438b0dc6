-- What a crawl's files show of damage, and reading its log before the bays are opened.
use Rattle.std.specs.Prelude.{◌≡◌, ℕ, ◌<◌, List, length, true, Result, IfOk, OnOk, IsErrOf}
use Rattle.std.specs.Option.{ForSome}
use Rattle.irl_base.specs.declared.fault.Fault.{Fault}
use Rattle.irl_base.specs.declared.fault.Fault.TheVariants.{Damaged, Failed, Full, Memory}
use Rattle.irl_offer.specs.declared.settings.Settings.{Settings}
use Rattle.irl_events.specs.Events.{Event}
use Rattle.irl_disk.specs.Disk.{Files, ChangesFile}
use Rattle.irl_disk.specs.Effects.{ReadsAndChanges}
use Rattle.irl_disk.specs.Images.{Told}
use Rattle.irl_journal.specs.Visiting.{IsOpened}
use Rattle.irl_journal.specs.declared.fault.JournalFault.{JournalFault}
use Rattle.irl_journal.specs.declared.fault.JournalFault.TheVariants.{Damaged as JournalDamaged, Failed as JournalFailed, Memory as JournalMemory}
use Rattle.irl_head.specs.StoreFiles.{crawl_file}
use Rattle.irl_log.specs.Log.{OpenLog, HasEvents, HoldsLog, placed_events}
use Rattle.irl_log.specs.Visiting.{IsLogDamaged, TakesEvents, TookEventsUpTo}
use Rattle.irl_ledger.specs.Broken.{LogHistory, RefusesAlone, TakesAlone, blank_history}

-- The log is damaged by itself at this place: its journal is broken there, or a whole record stands there which is of
-- no event, or of one that doesn't keep what the log shows by itself.
abbrev pub IsLogDamagedAt : Settings → Files → ℕ → ℕ → Type 0
IsLogDamagedAt settings files f at = (f ≡ crawl_file)
    × ((after : LogHistory) × IsLogDamaged TakesAlone RefusesAlone (blank_history settings.buckets) after
    settings.buckets (files crawl_file) at)

-- what a log was refused with
abbrev pub fault_of_log : JournalFault → Fault
fault_of_log JournalFailed = Failed
fault_of_log JournalMemory = Memory
fault_of_log (JournalDamaged at) = Damaged crawl_file at

-- The log of a crawl with these settings is read, by the answer: it is open, and so much was read of it.
pub record ReadsLog (result : Result (OpenLog × LogHistory) Fault) (settings : Settings) (before after : Told) : Type 0
  where
    pub file : IfOk result (λ found. found.0.journal.file ≡ crawl_file)
    pub sound : IfOk result (λ found. found.0.journal.is_sound ≡ true)
    pub buckets : IfOk result (λ found. found.0.buckets ≡ settings.buckets)
    pub long : IfOk result (λ found. ForSome after.files (λ files.
        found.0.journal.end < length (files crawl_file)))
    -- the events that the file has were taken in order, and from then on each stop leaves them
    pub holds : IfOk result (λ found. ForSome before.files (λ files. (events : List Event)
        → HasEvents settings.buckets (files crawl_file) events → HoldsLog after.images found.0 events
        × TakesEvents TakesAlone (blank_history settings.buckets) (placed_events 0 events) found.1))
    -- no damage is passed over
    pub sane : OnOk result (ForSome before.files (λ files. (f at : ℕ) → IsLogDamagedAt settings files f at → ⊥))
    -- damage is named only where it is
    pub damaged : (f at : ℕ) → IsErrOf result (Damaged f at) → ForSome before.files (λ files.
        IsLogDamagedAt settings files f at)
    pub full : (n : ℕ) → IsErrOf result (Full n) → ⊥
    -- whatever the store tells, events were taken up to the log's end
    pub took : IfOk result (λ found. TookEventsUpTo TakesAlone (blank_history settings.buckets) found.1
        settings.buckets 0 found.0.journal.end)
    -- it reads no other file, and a stop at any moment leaves each as it was, but that a log of at most one byte has at
    -- most one
    pub changes : ReadsAndChanges (λ f. f ≡ crawl_file) (ChangesFile crawl_file IsOpened) (IsErrOf result Failed) before
        after
