-- The visitor of a log's records, whose reference stays, so that what it took and refuses is found in the end behind that.
use Rattle.std.proofs.Common.{◌≡◌, ◌∙◌, ℕ, List, Result, Ok, Err, OnOk, IsOk, IsErrOf, refl, sym, ap, subst}
use Rattle.std.specs.Option.{ForSome}
use Rattle.irl_disk.specs.Disk.{Files}
use Rattle.irl_disk.specs.Effects.{OnlyReads, ReadsAndChanges}
use Rattle.irl_disk.specs.Images.{Told}
use Rattle.irl_disk.proofs.Effects.{cause_for}
use Rattle.irl_events.specs.Events.{Event}
use Rattle.irl_journal.specs.Appending.{Tail}
use Rattle.irl_journal.specs.Visiting.{TookUpTo, IsVisited, IsDamaged, IsRevisited, IsDamagedFrom}
use Rattle.irl_journal.specs.declared.fault.JournalFault.{JournalFault}
use Rattle.irl_journal.specs.declared.fault.JournalFault.TheVariants.{Damaged, Failed}
use Rattle.irl_log.specs.Log.{OpenLog}
use Rattle.irl_log.specs.Visiting.{TakesRecord, RefusesRecord, TookEventsUpTo, IsLogVisited, IsLogDamaged, IsLogRevisited, IsLogDamagedFrom, RevisitsLog}
use Rattle.irl_log.specs.declared.visit.RecordVisitor.{RecordVisitor}
use Rattle.irl_log.proofs.Handed as handed

module _ {V : Type 0} (takes refuses : V → ℕ → Event → V → Type 0) where
  -- what the visitor of records takes and refuses
  abbrev Takes : RecordVisitor V → ℕ → List ℕ → RecordVisitor V → Type 0
  Takes old at payload new = TakesRecord takes old.buckets old.visitor.now at payload new.visitor.now × (new.buckets ≡ old.buckets) × (new.visitor.ghost_name ≡ old.visitor.ghost_name)

  abbrev Refuses : RecordVisitor V → ℕ → List ℕ → RecordVisitor V → Type 0
  Refuses old at payload new = RefusesRecord refuses old.buckets old.visitor.now at payload new.visitor.now × (new.buckets ≡ old.buckets) × (new.visitor.ghost_name ≡ old.visitor.ghost_name)

  abbrev state : RecordVisitor V → V
  state visitor = visitor.visitor.now

  module _ (old : RecordVisitor V) where
    -- what stays of it
    abbrev Keeps : RecordVisitor V → Type 0
    Keeps visitor = (visitor.buckets ≡ old.buckets) × (visitor.visitor.ghost_name ≡ old.visitor.ghost_name)

    gives : (x : RecordVisitor V) (at : ℕ) (payload : List ℕ) (y : RecordVisitor V) → Keeps x → Takes x at payload y → TakesRecord takes old.buckets (state x) at payload (state y) × Keeps y
    gives x at payload y keeps taken =
        (subst (λ (n : ℕ). TakesRecord takes n (state x) at payload (state y)) keeps.0 taken.0, (taken.1 ∙ keeps.0, taken.2 ∙ keeps.1))

    refused : (x : RecordVisitor V) (at : ℕ) (payload : List ℕ) (y : RecordVisitor V) → Keeps x → Refuses x at payload y
        → RefusesRecord refuses old.buckets (state x) at payload (state y) × Keeps y
    refused x at payload y keeps declined =
        (subst (λ (n : ℕ). RefusesRecord refuses n (state x) at payload (state y)) keeps.0 declined.0, (declined.1 ∙ keeps.0, declined.2 ∙ keeps.1))

    -- `v` is what is found behind the reference of the visitor in the end
    module _ (new : RecordVisitor V) (v : V) (found : old.visitor.ghost_name ≡ new.visitor.ghost_name → v ≡ new.visitor.now) where
      found_so : Keeps new → v ≡ state new
      found_so keeps = found (sym keeps.1)

      pub log_visited : (images : Files → Type 0) (file : List ℕ) (tail : Tail) → IsVisited Takes old new images file tail
          → IsLogVisited takes (state old) v images file (record { journal = tail; buckets = old.buckets })
      log_visited images file tail visit = handed.visited takes Takes old.buckets state Keeps gives old new v found_so images file tail (refl, refl) visit

      pub log_took : (from end : ℕ) → TookUpTo Takes old new from end → TookEventsUpTo takes (state old) v old.buckets from end
      log_took from end taken = handed.took_up_to takes Takes old.buckets state Keeps gives old new v found_so from end (refl, refl) taken

      pub log_damaged : (file : List ℕ) (at : ℕ) → IsDamaged Takes Refuses old new file at → IsLogDamaged takes refuses (state old) v old.buckets file at
      log_damaged file at damage = handed.damaged takes Takes old.buckets state Keeps gives refuses Refuses refused old new v found_so file at (refl, refl) damage

      pub log_revisited : (tail : Tail) (at : ℕ) (file : List ℕ) → IsRevisited Takes old new tail at file
          → IsLogRevisited takes (state old) v (record { journal = tail; buckets = old.buckets }) at file
      log_revisited tail at file visit = handed.revisited takes Takes old.buckets state Keeps gives old new v found_so tail at file (refl, refl) visit

      pub log_damaged_from : (tail : Tail) (from : ℕ) (file : List ℕ) (at : ℕ) → IsDamagedFrom Takes Refuses old new tail from file at
          → IsLogDamagedFrom takes refuses (state old) v (record { journal = tail; buckets = old.buckets }) from file at
      log_damaged_from tail from file at damage =
          handed.damaged_from takes Takes old.buckets state Keeps gives refuses Refuses refused old new v found_so tail from file at (refl, refl) damage

      pub log_idle : new ≡ old → v ≡ state old
      log_idle same = found (ap (λ (w : RecordVisitor V). w.visitor.ghost_name) (sym same)) ∙ ap state same

-- ---- answers
-- what holds at Ok gives another fact there
pub on_ok : {E : Type 0} (result : Result Unit E) (P Q : Type 0) → (P → Q) → OnOk result P → OnOk result Q
on_ok (Ok done) P Q gives fact = gives fact
on_ok (Err e) P Q gives fact = tt

-- a call that reads and changes files, with the answer that its caller gives
pub answers_for : (among : ℕ → Type 0) (step : Files → Files → Type 0) (failed answered : Type 0) (old new : Told) → (answered → failed) → ReadsAndChanges among step failed old new
    → ReadsAndChanges among step answered old new
answers_for among step failed answered old new is changes = record {
  told = changes.told;
  stops = changes.stops;
  taken = changes.taken;
  cause = cause_for failed answered old.faults new.faults is changes.cause;
}

-- ---- the records from a place on
module _ {V S : Type 0} (takes refuses : V → ℕ → Event → V → Type 0) (told : S → Told) where
  pub log_revisits : (result : Result Unit JournalFault) (tail : Tail) (log : OpenLog) (at : ℕ) (old new : RecordVisitor V) (v : V) (before after : S)
      → record { journal = tail; buckets = old.buckets } ≡ log
      → OnOk result (ForSome (told before).files (λ files. IsRevisited (Takes takes refuses) old new tail at (files tail.file)))
      → ((place : ℕ) → IsErrOf result (Damaged place)
      → ForSome (told before).files (λ files. IsDamagedFrom (Takes takes refuses) (Refuses takes refuses) old new tail at (files tail.file) place))
      → (at ≡ tail.end → IsOk result × (after ≡ before) × (new ≡ old)) → OnlyReads (λ f. f ≡ tail.file) (IsErrOf result Failed) (told before) (told after)
      → (old.visitor.ghost_name ≡ new.visitor.ghost_name → v ≡ new.visitor.now) → RevisitsLog told takes refuses result log at old.visitor.now v before after
  log_revisits result tail log at old new v before after is visit damage none reads found =
      subst (λ (log : OpenLog). RevisitsLog told takes refuses result log at old.visitor.now v before after) is
      (record {
        revisited = on_ok result _ _ (λ visit files tells. log_revisited takes refuses old new v found tail at (files tail.file) (visit files tells)) visit;
        damaged = λ place e files tells. log_damaged_from takes refuses old new v found tail at (files tail.file) place (damage place e files tells);
        idle = λ last. let kept = none last in (kept.0, kept.1, log_idle takes refuses old new v found kept.2);
        reads = reads;
      })
