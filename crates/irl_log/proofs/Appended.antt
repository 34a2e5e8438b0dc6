-- What an append of records leaves of a log.
use Rattle.std.proofs.Common.{ℕ, List, ◌++◌, Result, Ok, Err, OnOk, IsErrOf, inl, inr, refl, sym, ap, subst}
use Rattle.irl_base.specs.declared.fault.Fault.{Fault}
use Rattle.irl_base.specs.declared.fault.Fault.TheVariants.{Failed}
use Rattle.irl_disk.specs.Disk.{Files, ChangesFile}
use Rattle.irl_disk.specs.Images.{Told}
use Rattle.irl_disk.proofs.Effects.{changes_wider}
use Rattle.irl_events.specs.Events.{Event}
use Rattle.irl_journal.specs.Appending.{Tail, AppendsAll, IsOpen, HasOrGainsAll}
use Rattle.irl_journal.specs.Format.{HasRecords}
use Rattle.irl_log.specs.Appending.{AppendsEvents, HasOrGainsEvents}
use Rattle.irl_log.specs.Log.{AreLogged, HoldsLog}
use Rattle.irl_log.specs.Spelling.{log_records}
use Rattle.irl_log.proofs.Events.{records-append, logged_both}

-- from Ok on each stop leaves the events
acknowledged : (result : Result Unit Fault) (images later : Files → Type 0) (old new : Tail) (buckets : ℕ) (more : List Event) → AreLogged buckets more
    → OnOk result ((payloads : List (List ℕ)) → IsOpen images old payloads → IsOpen later new (payloads ++ log_records more))
    → OnOk result ((events : List Event) → HoldsLog images (record { journal = old; buckets = buckets }) events → HoldsLog later (record { journal = new; buckets = buckets }) (events ++ more))
acknowledged (Ok done) images later old new buckets more each opens = λ events holds. record {
  each = logged_both buckets events more holds.each each;
  records = subst (IsOpen later new) (sym (records-append events more)) (opens (log_records events) holds.records);
}
acknowledged (Err fault) images later old new buckets more each opens = tt

-- a file with the records has the events
gains : (buckets : ℕ) (events more : List Event) (old new : List ℕ) → AreLogged buckets events → AreLogged buckets more → HasOrGainsAll (log_records events) (log_records more) old new
    → HasOrGainsEvents buckets events more old new
gains buckets events more old new each each_more (inl has) = inl (record { each = each; records = inr has })
gains buckets events more old new each each_more (inr has) = inr (record {
  each = logged_both buckets events more each each_more;
  records = inr (subst (HasRecords new) (sym (records-append events more)) has);
})

gains_file : (f buckets : ℕ) (events more : List Event) → AreLogged buckets events → AreLogged buckets more → (old new : Files)
    → ChangesFile f (HasOrGainsAll (log_records events) (log_records more)) old new
    → ChangesFile f (HasOrGainsEvents buckets events more) old new
gains_file f buckets events more each each_more old new changes = record {
  changed = gains buckets events more (old f) (new f) each each_more changes.changed;
  others = changes.others;
}

-- an append of events by one of their records
pub appends : {S : Type 0} (told : S → Told) (result : Result Unit Fault) (more : List Event) (old new : Tail) (buckets : ℕ) (before after : S) → AreLogged buckets more
    → AppendsAll told result (log_records more) old new before after
    → AppendsEvents told result more (record { journal = old; buckets = buckets }) (record { journal = new; buckets = buckets }) before after
appends told result more old new buckets before after each appended = record {
  acknowledged = acknowledged result (told before).images (told after).images old new buckets more each appended.appends.acknowledged;
  changes = λ events holds. changes_wider (ChangesFile old.file (HasOrGainsAll (log_records events) (log_records more))) (ChangesFile old.file (HasOrGainsEvents buckets events more))
      (IsErrOf result Failed) (told before) (told after) (gains_file old.file buckets events more holds.each each) (appended.appends.changes (log_records events) holds.records);
  memory = λ refused. let kept = appended.memory refused in (kept.0, ap (λ (tail : Tail). record { journal = tail; buckets = buckets }) kept.1);
  idle = λ none. let kept = appended.idle (ap log_records none) in (kept.0, kept.1, ap (λ (tail : Tail). record { journal = tail; buckets = buckets }) kept.2);
  buckets = refl;
  records = appended;
}
