-- The log of a crawl is read: what is taken isn't refused, and damage is named only where it is.
use Rattle.std.proofs.Common.{◌≡◌, ◌∙◌, ℕ, ◌+◌, ◌<◌, List, [], ◌∷◌, ◌++◌, length, Some, Result, Ok, Err, IsErrOf, refl, sym, ap, subst, arith, append_assoc, append-nil}
use Rattle.std.proofs.lemmas.Bool.{false≢true}
use Rattle.irl_base.specs.declared.fault.Fault.TheVariants.{Damaged, Failed, Full}
use Rattle.irl_offer.specs.declared.settings.Settings.{Settings}
use Rattle.irl_events.specs.Events.{Event, Happened}
use Rattle.irl_events.specs.Legal.{AreLegal}
use Rattle.irl_disk.specs.Disk.{Files}
use Rattle.irl_disk.specs.Images.{Told, IsConsistent}
use Rattle.irl_disk.proofs.Effects.{cause_for}
use Rattle.irl_journal.specs.Format.{records_text}
use Rattle.irl_journal.specs.Visiting.{IsOpened}
use Rattle.irl_journal.specs.declared.fault.JournalFault.{JournalFault}
use Rattle.irl_journal.specs.declared.fault.JournalFault.TheVariants.{Damaged as JournalDamaged, Failed as JournalFailed, Memory as JournalMemory}
use Rattle.irl_journal.proofs.Gates.{within}
use Rattle.irl_bay.proofs.Staying.{tells_one, told_before}
use Rattle.irl_head.specs.StoreFiles.{crawl_file}
use Rattle.irl_log.specs.Log.{OpenLog, HasEvents, placed_events}
use Rattle.irl_log.specs.Spelling.{log_records, records_of}
use Rattle.irl_log.specs.Visiting.{IsLogDamaged, IsLogVisited, OpensLog, TakesEvents, TookEventsUpTo}
use Rattle.irl_ledger.specs.Broken.{LogHistory, Outline, RefusesAlone, TakesAlone, blank_history, keeps_alone, kept_of, placed_kept}
use Rattle.irl_ledger.specs.Crawling.{events_of}
use Rattle.irl_ledger.specs.Damage.{IsLogDamagedAt, ReadsLog, fault_of_log}
use Rattle.irl_ledger.specs.Noting.{NotePlaces, noted_all}
use Rattle.irl_ledger.proofs.Broken.{legal_taken}

-- ---- what is taken isn't refused
abbrev with_all : Outline → List (ℕ × Event) → NotePlaces → LogHistory
with_all outline events notes = record { outline = outline; events = events; notes = notes }

one_taken : (old a b : LogHistory) (at : ℕ) (event : Event) → TakesAlone old at event a → TakesAlone old at event b → a ≡ b
one_taken old a b at event one two =
    ap (λ (o : Outline). with_all o a.events a.notes) (one.outline ∙ sym two.outline) ∙ ap (λ (es : List (ℕ × Event)). with_all b.outline es a.notes) (one.events ∙ sym two.events)
    ∙ ap (λ (places : NotePlaces). with_all b.outline b.events places) (one.notes ∙ sym two.notes)

taken_or_refused : (events first : List Event) (event : Event) (more : List Event) (from at : ℕ) (v last reached after : LogHistory) → events ≡ first ++ event ∷ more
    → TakesEvents TakesAlone v (placed_events from events) last → TakesEvents TakesAlone v (placed_events from first) reached → RefusesAlone reached at event after → ⊥
taken_or_refused [] [] event more from at v last reached after are took before refused = absurd (cc)
taken_or_refused [] (e ∷ first) event more from at v last reached after are took before refused = absurd (cc)
taken_or_refused (x ∷ xs) [] event more from at v last reached after are took before refused =
    let same : x ≡ event = cc in
    false≢true (sym refused.breaks ∙ ap (λ (h : LogHistory). keeps_alone h.outline event) before ∙ ap (keeps_alone v.outline) (sym same) ∙ took.1.keeps)
taken_or_refused (x ∷ xs) (e ∷ first) event more from at v last reached after are took before refused =
    let same : x ≡ e = cc in
    let rest : xs ≡ first ++ event ∷ more = cc in
    let mid = one_taken v before.0 took.0 from x (subst (λ (y : Event). TakesAlone v from y before.0) (sym same) before.1) took.1 in
    let further = subst (λ (y : Event). TakesEvents TakesAlone before.0 (placed_events (from + length (records_text (records_of y))) first) reached) (sym same) before.2 in
    taken_or_refused xs first event more (from + length (records_text (records_of x))) at took.0 last reached after rest took.2
    (subst (λ (h : LogHistory). TakesEvents TakesAlone h (placed_events (from + length (records_text (records_of x))) first) reached) mid further) refused

-- ---- of a crawl's events just what they keep is kept
pub taken_kept : (from : ℕ) (events : List Happened) (old new : LogHistory) → TakesEvents TakesAlone old (placed_events from (events_of events)) new
    → new.events ≡ old.events ++ placed_kept from events
taken_kept from [] old new took = ap (λ (h : LogHistory). h.events) took ∙ sym (append-nil old.events)
taken_kept from (h ∷ events) old new took =
    taken_kept (from + length (records_text (records_of h.0))) events took.0 new took.2
    ∙ ap (λ (list : List (ℕ × Event)). list ++ placed_kept (from + length (records_text (records_of h.0))) events) took.1.events
    ∙ append_assoc old.events (kept_of from h.0) (placed_kept (from + length (records_text (records_of h.0))) events)

-- and the places of all notes
pub taken_noted : (from : ℕ) (events : List Event) (old new : LogHistory) → TakesEvents TakesAlone old (placed_events from events) new → new.notes ≡ noted_all from events old.notes
taken_noted from [] old new took = ap (λ (h : LogHistory). h.notes) took
taken_noted from (event ∷ events) old new took =
    taken_noted (from + length (records_text (records_of event))) events took.0 new took.2
    ∙ ap (noted_all (from + length (records_text (records_of event))) events) took.1.notes

-- ---- a log that is read
module _ (settings : Settings) (log : OpenLog) (blank history : LogHistory) (before after : Told) (law : IsConsistent after) (is_blank : blank ≡ blank_history settings.buckets)
    (opens : OpensLog TakesAlone RefusesAlone (Ok log) crawl_file settings.buckets blank history before after) where
  visited : (files : Files) → before.files ≡ Some files → IsLogVisited TakesAlone (blank_history settings.buckets) history after.images (files crawl_file) log
  visited files told = subst (λ (h : LogHistory). IsLogVisited TakesAlone h history after.images (files crawl_file) log) is_blank (opens.visited files told)

  has_as : (file : List ℕ) (events : List Event) → HasEvents settings.buckets file events → HasEvents log.buckets file events
  has_as file events has = subst (λ (n : ℕ). HasEvents n file events) (sym opens.log.2) has

  read_sane : (files : Files) → before.files ≡ Some files → (f at : ℕ) → IsLogDamagedAt settings files f at → ⊥
  read_sane files told f at damaged =
      let v = visited files told in
      let has = subst (λ (n : ℕ). HasEvents n (files crawl_file) v.found.0) opens.log.2 v.found.1 in
      let one = damaged.1.1.refused v.found.0 has in
      taken_or_refused v.found.0 one.first one.event one.more 0 at (blank_history settings.buckets) history one.reached damaged.1.0 one.among (v.events v.found.0 v.found.1).1 one.took one.refused

  read_long : (files : Files) → after.files ≡ Some files → log.journal.end < length (files crawl_file)
  read_long files told =
      let was = told_before (λ g. g ≡ crawl_file) before.files after.files files (tells_one (λ g. g ≡ crawl_file) crawl_file IsOpened before.files after.files refl opens.changes.told) told in
      let v = visited was.0 was.1 in
      let held = (v.events v.found.0 v.found.1).2 in
      let ends = subst (λ (n : ℕ). log.journal.end < length (files n)) opens.log.0
      (omega (arith, within (log_records v.found.0) (files log.journal.file) log.journal.end (held.records files (law.told files told)))) in
      ends

  pub read_ok : ReadsLog (Ok (log, history)) settings before after
  read_ok = record {
    file = opens.log.0;
    sound = opens.log.1;
    buckets = opens.log.2;
    long = read_long;
    holds = λ files told events has. let v = (visited files told).events events (has_as (files crawl_file) events has) in (v.2, v.1);
    sane = read_sane;
    damaged = λ f at is. let no : ⊥ = cc in absurd no;
    full = λ n is. cc;
    took = subst (λ (h : LogHistory). TookEventsUpTo TakesAlone h history settings.buckets 0 log.journal.end) is_blank opens.took;
    changes = record {
      told = opens.changes.told;
      stops = opens.changes.stops;
      taken = opens.changes.taken;
      cause = cause_for _ _ before.faults after.faults (λ is. let no : ⊥ = cc in absurd no) opens.changes.cause;
    };
  }

-- ---- or is refused
pub read_err : (settings : Settings) (result : Result OpenLog JournalFault) (fault : JournalFault) (blank history : LogHistory) (before after : Told) → blank ≡ blank_history settings.buckets
    → result ≡ Err fault → OpensLog TakesAlone RefusesAlone result crawl_file settings.buckets blank history before after
    → ReadsLog (Err (fault_of_log fault)) settings before after
read_err settings result fault blank history before after is_blank was opens = record {
  file = tt;
  sound = tt;
  buckets = tt;
  long = tt;
  holds = tt;
  sane = tt;
  damaged = λ f at is files told. named fault f at is was files told;
  full = λ n is. none fault n is;
  took = tt;
  changes = record {
    told = opens.changes.told;
    stops = opens.changes.stops;
    taken = opens.changes.taken;
    cause = cause_for _ _ before.faults after.faults (λ is. failed fault was is) opens.changes.cause;
  };
}
  where
    named : (fault : JournalFault) (f at : ℕ) → IsErrOf {T = OpenLog × LogHistory} (Err (fault_of_log fault)) (Damaged f at) → result ≡ Err fault → (files : Files) → before.files ≡ Some files
        → IsLogDamagedAt settings files f at
    named JournalFailed f at is was files told = cc
    named JournalMemory f at is was files told = cc
    named (JournalDamaged place) f at is was files told =
        let here : f ≡ crawl_file = cc in
        let same : place ≡ at = cc in
        let damage = opens.damaged place was files told in (
          here,
          (
            history,
            subst (λ (n : ℕ). IsLogDamaged TakesAlone RefusesAlone (blank_history settings.buckets) history settings.buckets (files crawl_file) n) same
                (subst (λ (h : LogHistory). IsLogDamaged TakesAlone RefusesAlone h history settings.buckets (files crawl_file) place) is_blank damage),
          ),
        )

    none : (fault : JournalFault) (n : ℕ) → IsErrOf {T = OpenLog × LogHistory} (Err (fault_of_log fault)) (Full n) → ⊥
    none JournalFailed n is = cc
    none JournalMemory n is = cc
    none (JournalDamaged at) n is = cc

    failed : (fault : JournalFault) → result ≡ Err fault → IsErrOf {T = OpenLog × LogHistory} (Err (fault_of_log fault)) Failed → IsErrOf result JournalFailed
    failed JournalFailed was is = was
    failed JournalMemory was is = cc
    failed (JournalDamaged at) was is = cc

-- ---- a legal crawl's log isn't damaged
pub legal_undamaged : (settings : Settings) (events : List Happened) (files : Files) (f at : ℕ) → AreLegal settings.queues settings.buckets events
    → HasEvents settings.buckets (files crawl_file) (events_of events) → IsLogDamagedAt settings files f at → ⊥
legal_undamaged settings events files f at legal has damaged =
    legal_taken settings.queues settings.buckets 0 at events damaged.1.0 legal (damaged.1.1.refused (events_of events) has)
