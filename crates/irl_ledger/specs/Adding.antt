-- A call that adds one event to a crawl's log, or several at once: what it asks, and what it leaves.
use Rattle.std.specs.Prelude.{◌≡◌, ℕ, List, [], ◌∷◌, Option, Result, OnOk, OnErr, IsOk, IsErrOf, true, false}
use Rattle.std.specs.List.{AllByRecursion}
use Rattle.irl_base.specs.declared.fault.Fault.{Fault}
use Rattle.irl_base.specs.declared.fault.Fault.TheVariants.{Memory}
use Rattle.irl_offer.specs.declared.note.Note.{Note}
use Rattle.irl_events.specs.Events.{Event}
use Rattle.irl_disk.specs.Images.{Told}
use Rattle.irl_frontier.specs.Frontier.{Frontier}
use Rattle.irl_log.specs.Appending.{AppendsEvents}
use Rattle.irl_log.specs.Form.{IsNote, IsSuffixText}
use Rattle.irl_ledger.specs.declared.ledger.Ledger.{Ledger}
use Rattle.irl_ledger.specs.Noting.{noted, noted_all}

-- What an append of one event leaves of a ledger, by its answer, where its tables are these once it is done.
pub record AddsToLog {S : Type 0} (told : S → Told) (result : Result Unit Fault) (event : Event) (frontier : Frontier)
    (suffixes : Option (List ℕ)) (old new : Ledger) (before after : S) : Type 0 where
  pub memory : IsErrOf result Memory → (after ≡ before) × (new ≡ old)
  pub log : (IsErrOf result Memory → ⊥) → AppendsEvents told result (event ∷ []) old.log new.log before after
  pub done : OnOk result ((new.frontier ≡ frontier) × (new.suffixes ≡ suffixes))
  pub kept : OnErr result ((new.frontier ≡ old.frontier) × (new.suffixes ≡ old.suffixes))
  pub pairs : new.pairs ≡ old.pairs
  -- the place of its record is known where it is a note
  pub noted_then : OnOk result (new.notes ≡ noted old.log.journal.end event old.notes)
  pub noted_still : OnErr result (new.notes ≡ old.notes)

-- What an append of several events at once leaves of a ledger, by its answer, where its tables are these once it is
-- done.
pub record AddsAllToLog {S : Type 0} (told : S → Told) (result : Result Unit Fault) (events : List Event)
    (frontier : Frontier) (suffixes : Option (List ℕ)) (old new : Ledger) (before after : S) : Type 0 where
  pub memory : IsErrOf result Memory → (after ≡ before) × (new ≡ old)
  -- no events change nothing, and it always answers Ok
  pub idle : events ≡ [] → IsOk result × (after ≡ before) × (new ≡ old)
  pub log : (IsErrOf result Memory → ⊥) → AppendsEvents told result events old.log new.log before after
  pub done : OnOk result ((new.frontier ≡ frontier) × (new.suffixes ≡ suffixes))
  pub kept : OnErr result ((new.frontier ≡ old.frontier) × (new.suffixes ≡ old.suffixes))
  pub pairs : new.pairs ≡ old.pairs
  -- of each host the place of its last note's record is known, each record behind the one before
  pub noted_then : OnOk result (new.notes ≡ noted_all old.log.journal.end events old.notes)
  pub noted_still : OnErr result (new.notes ≡ old.notes)

-- ---- what is asked
-- a crawl that hasn't begun, and a text of suffixes
abbrev pub MayBegin : Ledger → List ℕ → Type 0
MayBegin ledger suffixes = (ledger.frontier.progress.begun ≡ false) × IsSuffixText suffixes

-- a crawl that has begun, and a note
abbrev pub MayNote : Ledger → Note → Type 0
MayNote ledger note = (ledger.frontier.progress.begun ≡ true) × IsNote note

-- a crawl that has begun, and notes
abbrev pub MayNoteAll : Ledger → List Note → Type 0
MayNoteAll ledger notes = (ledger.frontier.progress.begun ≡ true) × AllByRecursion IsNote notes
