-- Reading the last note of a host.
use Rattle.std.proofs.Common.{◌≡◌, ◌∙◌, ℕ, ◌+◌, List, length, [], ◌∷◌, ◌++◌, ⊎_elim, Option, None, Some, Ok, Err, IsErrOf, refl, sym, ap, subst, arith}
use Rattle.std.specs.FinMap.{get, get-empty}
use Rattle.std.specs.Ordering.{nat_cmp}
use Rattle.std.specs.Cmp.Lexicographic.{slice_cmp}
use Rattle.std.proofs.lemmas.List.Concat.{flat_map-append}
use Rattle.irl_base.specs.declared.fault.Fault.TheVariants.{Damaged, Failed, Full}
use Rattle.irl_offer.specs.declared.note.Note.{Note}
use Rattle.irl_events.specs.Events.{Event, Robots}
use Rattle.irl_disk.specs.Disk.{Files}
use Rattle.irl_disk.specs.Effects.{OnlyReads}
use Rattle.irl_disk.specs.Images.{Told, IsConsistent}
use Rattle.irl_disk.proofs.Effects.{reads_for, reads_none}
use Rattle.irl_head.specs.StoreFiles.{crawl_file}
use Rattle.irl_journal.specs.Appending.{Ends}
use Rattle.irl_journal.specs.Format.{records_text}
use Rattle.irl_journal.specs.declared.fault.JournalFault.{JournalFault}
use Rattle.irl_journal.specs.declared.fault.JournalFault.TheVariants.{Damaged as JournalDamaged, Failed as JournalFailed, Memory as JournalMemory}
use Rattle.irl_journal.proofs.Placed.{placed_of}
use Rattle.irl_log.specs.Form.{IsLogged}
use Rattle.irl_log.specs.Log.{AreLogged, EndsLog, OpenLog}
use Rattle.irl_log.specs.Noting.{FindsNote, NoteStandsAt}
use Rattle.irl_log.specs.Spelling.{log_records, payload_of, records_of}
use Rattle.irl_ledger.specs.Damage.{fault_of_log}
use Rattle.irl_ledger.specs.Noting.{HoldsNotes, IsUsedOf, NotePlaces, ReadsNote, last_note, no_notes, note_places}
use Rattle.irl_ledger.proofs.Noting.{FoundNote, last_at}

-- the other way round too
used_as : (moment : ℕ) (last known found : Option Note) → last ≡ known → IsUsedOf moment known found → IsUsedOf moment last found
used_as moment last known found same used = subst (λ (o : Option Note). IsUsedOf moment o found) (sym same) used

from_first : (at n : ℕ) → at ≡ 0 + n → at ≡ n
from_first at n is = omega (arith, is)

note_logged : (buckets : ℕ) (first more : List Event) (note : Note) → AreLogged buckets (first ++ Robots note ∷ more) → IsLogged buckets (Robots note)
note_logged buckets [] more note each = each.0
note_logged buckets (x ∷ first) more note each = note_logged buckets first more note each.1

module _ (log : OpenLog) (places : NotePlaces) (host : List ℕ) (s : Told) (law : IsConsistent s) (file : log.journal.file ≡ crawl_file) where
  none_there : (events : List Event) → HoldsNotes s.images log places events → (p : ℕ) → get no_notes host ≡ Some p → ⊥
  none_there events holds p is = let no : None ≡ Some p = sym (get-empty (slice_cmp nat_cmp) host) ∙ is in cc

  -- where the host has no place it has no note
  no_last : (events : List Event) → HoldsNotes s.images log places events → get places host ≡ None → last_note host events ≡ None
  no_last events holds none = ⊎_elim
      (λ (is : (last_note host events ≡ None) × (get (note_places 0 events) host ≡ get no_notes host)). is.0)
      (λ (found : (place : ℕ) × (get (note_places 0 events) host ≡ Some place) × FoundNote 0 host events place).
      let no : None ≡ Some found.0 = sym none ∙ ap (λ (m : NotePlaces). get m host) holds.places_are ∙ found.1 in
      absurd (cc))
      (last_at 0 host events no_notes)

  -- and where it has one its last note's record has its gate there
  has_last : (events : List Event) → HoldsNotes s.images log places events → (at : ℕ) → get places host ≡ Some at → FoundNote 0 host events at
  has_last events holds at some = ⊎_elim
      (λ (is : (last_note host events ≡ None) × (get (note_places 0 events) host ≡ get no_notes host)).
      let no : None ≡ Some at = sym (get-empty (slice_cmp nat_cmp) host) ∙ sym is.1 ∙ sym (ap (λ (m : NotePlaces). get m host) holds.places_are) ∙ some in
      absurd (cc))
      (λ (found : (place : ℕ) × (get (note_places 0 events) host ≡ Some place) × FoundNote 0 host events place).
      let both : Some found.0 ≡ Some at = sym found.1 ∙ sym (ap (λ (m : NotePlaces). get m host) holds.places_are) ∙ some in
      let same : found.0 ≡ at = cc in
      subst (FoundNote 0 host events) same found.2)
      (last_at 0 host events no_notes)

  ends_now : (files : Files) → s.files ≡ Some files → (events : List Event) → HoldsNotes s.images log places events → EndsLog log (files log.journal.file) events
  ends_now files told events holds = record { each = holds.log_holds.each; ends = holds.log_holds.records files (law.told files told) }

  -- it stands there
  last_stands : (files : Files) → s.files ≡ Some files → (events : List Event) → HoldsNotes s.images log places events → (at : ℕ) → get places host ≡ Some at
      → (note : Note) × NoteStandsAt log (files log.journal.file) at note
  last_stands files told events holds at some =
      let found = has_last events holds at some in
      let ends = subst (EndsLog log (files log.journal.file)) found.among (ends_now files told events holds) in
      let records : Ends log.journal.end (files log.journal.file) (log_records found.first ++ payload_of (Robots found.note) ∷ log_records found.more) =
      subst (Ends log.journal.end (files log.journal.file)) (flat_map-append records_of found.first (Robots found.note ∷ found.more)) ends.ends in (
        found.note,
        record {
          form = (note_logged log.buckets found.first found.more found.note ends.each).form;
          stands = placed_of log.journal.end at (files log.journal.file) (log_records found.first) (log_records found.more) (payload_of (Robots found.note)) records
              (from_first at (length (records_text (log_records found.first))) found.here);
        },
      )

  -- ---- what is answered
  pub no_note_read : (moment : ℕ) → get places host ≡ None → ReadsNote (Ok None) host moment log places s s
  no_note_read moment none =
      let reads = reads_none (λ f. f ≡ crawl_file) s law in
      record {
        value = λ files told events holds note last used. let no : None ≡ Some note = sym (no_last events holds none) ∙ last in absurd (cc);
        sane = λ at known. let no : None ≡ Some at = sym none ∙ known in absurd (cc);
        idle = λ same. (refl, refl);
        spoilt = λ f at is. absurd (cc);
        whole = λ f at is. absurd (cc);
        full = λ n is. cc;
        reads = reads_for (λ f. f ≡ crawl_file) ⊥ _ s s (λ is. cc) reads;
      }

  module _ (at moment : ℕ) (t : Told) (some : get places host ≡ Some at) where
    pub note_read : (note : Note) (found : Option Note) → FindsNote (Ok note) log at s t → IsUsedOf moment (Some note) found → ReadsNote (Ok found) host moment log places s t
    note_read note found finds used = record {
      value = λ files told events holds.
          let last = has_last events holds at some in
          let same = finds.one files told last.first last.more last.note (subst (EndsLog log (files log.journal.file)) last.among (ends_now files told events holds))
          (from_first at (length (records_text (log_records last.first))) last.here) in
          used_as moment (last_note host events) (Some note) found (last.last ∙ ap (λ (n : Note). Some n) (sym same)) used;
      sane = λ place known files told.
          let both : Some at ≡ Some place = sym some ∙ known in
          let same : at ≡ place = cc in
          let stands = subst (λ (f : ℕ). NoteStandsAt log (files f) at note) file (finds.found files told) in
          (note, subst (λ (p : ℕ). NoteStandsAt log (files crawl_file) p note) same stands, used);
      idle = λ none. let no : None ≡ Some at = sym none ∙ some in absurd (cc);
      spoilt = λ f at is. absurd (cc);
      whole = λ f at is. absurd (cc);
      full = λ n is. cc;
      reads = reads_for (λ f. f ≡ crawl_file) _ _ s t (λ is. cc) (subst (λ (n : ℕ). OnlyReads (λ f. f ≡ n) (IsErrOf {T = Note} (Ok note) JournalFailed) s t) file finds.reads);
    }

    damaged_of : (fault : JournalFault) (f place : ℕ) → IsErrOf {T = Option Note} (Err (fault_of_log fault)) (Damaged f place) → (f ≡ crawl_file) × (fault ≡ JournalDamaged place)
    damaged_of JournalFailed f place is = absurd (cc)
    damaged_of JournalMemory f place is = absurd (cc)
    damaged_of (JournalDamaged p) f place is = (cc, cc)

    failed_of : (fault : JournalFault) → IsErrOf {T = Option Note} (Err (fault_of_log fault)) Failed → IsErrOf {T = Note} (Err fault) JournalFailed
    failed_of JournalFailed is = refl
    failed_of JournalMemory is = absurd (cc)
    failed_of (JournalDamaged p) is = absurd (cc)

    full_of : (fault : JournalFault) (n : ℕ) → IsErrOf {T = Option Note} (Err (fault_of_log fault)) (Full n) → ⊥
    full_of JournalFailed n is = cc
    full_of JournalMemory n is = cc
    full_of (JournalDamaged p) n is = cc

    pub note_refused : (fault : JournalFault) → FindsNote (Err fault) log at s t → ReadsNote (Err (fault_of_log fault)) host moment log places s t
    note_refused fault finds = record {
      value = tt;
      sane = tt;
      idle = λ none. let no : None ≡ Some at = sym none ∙ some in absurd (cc);
      spoilt = λ f place is.
          let why = damaged_of fault f place is in
          let damage = finds.damaged place (ap (λ (e : JournalFault). Err e) why.1) in (
            why.0,
            some ∙ ap (λ (n : ℕ). Some n) (sym damage.0),
            λ files told note there. damage.1 files told note
                (subst (λ (g : ℕ). NoteStandsAt log (files g) at note) (sym file) (subst (λ (p : ℕ). NoteStandsAt log (files crawl_file) p note) damage.0 there)),
          );
      whole = λ f place is files told events holds.
          let why = damaged_of fault f place is in
          let damage = finds.damaged place (ap (λ (e : JournalFault). Err e) why.1) in
          let stands = last_stands files told events holds at some in
          damage.1 files told stands.0 stands.1;
      full = λ n is. full_of fault n is;
      reads = reads_for (λ f. f ≡ crawl_file) _ _ s t (failed_of fault) (subst (λ (n : ℕ). OnlyReads (λ f. f ≡ n) (IsErrOf {T = Note} (Err fault) JournalFailed) s t) file finds.reads);
    }
