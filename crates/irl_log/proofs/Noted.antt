-- One note by its place.
use Rattle.std.proofs.Common.{◌≡◌, ◌∙◌, ℕ, List, ◌∷◌, ◌++◌, length, Option, None, Some, IfSome, Result, Ok, Err, IsErr, IsErrOf, sym, ap, subst}
use Rattle.std.specs.Option.{ForSome}
use Rattle.irl_disk.specs.Effects.{OnlyReads}
use Rattle.irl_disk.specs.Images.{Told}
use Rattle.irl_disk.proofs.Effects.{reads_for}
use Rattle.irl_events.specs.Events.{Event, Robots}
use Rattle.irl_journal.specs.Appending.{Ends, Tail}
use Rattle.irl_journal.specs.Format.{StandsAt, records_text}
use Rattle.irl_journal.proofs.Placed.{placed_one}
use Rattle.irl_journal.specs.declared.fault.JournalFault.{JournalFault}
use Rattle.irl_journal.specs.declared.fault.JournalFault.TheVariants.{Damaged, Failed}
use Rattle.irl_offer.specs.declared.note.Note.{Note}
use Rattle.irl_log.specs.Form.{IsLogged}
use Rattle.irl_log.specs.Log.{OpenLog, EndsLog}
use Rattle.irl_log.specs.Noting.{FindsNote, IsNoteIn, NoteStandsAt}
use Rattle.irl_log.specs.Spelling.{payload_of, log_records}
use Rattle.irl_log.proofs.Events.{records-append, logged_rest}
use Rattle.irl_log.proofs.OneEvent.{one_event}

-- notes of the same payload
same_note : (buckets : ℕ) (payload : List ℕ) (x y : Note) → IsNoteIn buckets payload x → IsLogged buckets (Robots y) → payload ≡ payload_of (Robots y) → x ≡ y
same_note buckets payload x y is logged spelled = let event : Robots x ≡ Robots y = one_event buckets (Robots x) (Robots y) is.logged logged (sym is.spelled ∙ spelled) in cc

-- a payload of another event is none of a note
pub not_note : (buckets : ℕ) (payload : List ℕ) (event : Event) → IsLogged buckets event → payload ≡ payload_of event → ((note : Note) → event ≡ Robots note → ⊥) → (note : Note)
    → IsNoteIn buckets payload note → ⊥
not_note buckets payload event logged spelled other note is = other note (one_event buckets event (Robots note) logged is.logged (sym spelled ∙ is.spelled))

pub is_note : (buckets : ℕ) (payload : List ℕ) (event : Event) (note : Note) → IsLogged buckets event → payload ≡ payload_of event → event ≡ Robots note → IsNoteIn buckets payload note
is_note buckets payload event note logged spelled is = record { logged = subst (IsLogged buckets) is logged; spelled = spelled ∙ ap payload_of is }

-- no call that answers Ok answers a fault
pub no_fault : {T E : Type 0} (x : T) (e : E) → IsErrOf (Ok x) e → ⊥
no_fault x e same = cc

-- where there is a note, what was found of it gives another fact
pub if_some : (found : Option Note) (P Q : Note → Type 0) → ((note : Note) → P note → Q note) → IfSome found P → IfSome found Q
if_some None P Q gives fact = tt
if_some (Some note) P Q gives fact = gives note fact

-- one of a log's events
known_note : (log : OpenLog) (file payload : List ℕ) (at : ℕ) (note known : Note) (first more : List Event) → IsNoteIn log.buckets payload note → EndsLog log file (first ++ Robots known ∷ more)
    → (Ends log.journal.end file (log_records first ++ payload_of (Robots known) ∷ log_records more) → payload ≡ payload_of (Robots known)) → note ≡ known
known_note log file payload at note known first more is ends one =
    let stands : Ends log.journal.end file (log_records first ++ payload_of (Robots known) ∷ log_records more) =
    subst (Ends log.journal.end file) (records-append first (Robots known ∷ more)) ends.ends in
    same_note log.buckets payload note known is (logged_rest log.buckets first (Robots known ∷ more) ends.each).0 (one stands)

-- where another payload stands there, no note's does
no_note : (log : OpenLog) (file payload : List ℕ) (at : ℕ) → StandsAt at log.journal.end file payload → ((note : Note) → IsNoteIn log.buckets payload note → ⊥) → (note : Note)
    → NoteStandsAt log file at note → ⊥
no_note log file payload at stands other note there =
    other note (record {
      logged = record { form = there.form; fits = there.stands.fits };
      spelled = placed_one at log.journal.end file payload (payload_of (Robots note)) stands there.stands;
    })

-- The log is seen as one with this journal, over so many buckets.
module _ (tail : Tail) (buckets : ℕ) (log : OpenLog) (is_log : record { journal = tail; buckets = buckets } ≡ log) (at : ℕ) (before after : Told) where
  -- a note was read
  pub finds : (payload : List ℕ) (note : Note) → IsNoteIn buckets payload note → ForSome before.files (λ files. StandsAt at tail.end (files tail.file) payload)
      → ForSome before.files (λ files. (first more : List (List ℕ)) (one : List ℕ) → Ends tail.end (files tail.file) (first ++ one ∷ more) → at ≡ length (records_text first) → payload ≡ one)
      → (failed : Type 0) → (failed → ⊥) → OnlyReads (λ f. f ≡ tail.file) failed before after → FindsNote (Ok note) log at before after
  finds payload note is stands one failed never reads =
      let open_ : OpenLog = record { journal = tail; buckets = buckets } in
      subst (λ (l : OpenLog). FindsNote (Ok note) l at before after) is_log
      (record {
        found = λ files tells. record { form = is.logged.form; stands = subst (StandsAt at tail.end (files tail.file)) is.spelled (stands files tells) };
        one = λ files tells first more known ends here.
            known_note open_ (files tail.file) payload at note known first more is ends (λ records. one files tells (log_records first) (log_records more) (payload_of (Robots known)) records here);
        damaged = λ place e. absurd (cc);
        reads = reads_for (λ f. f ≡ tail.file) failed _ before after (λ e. absurd (cc)) reads;
      })

  -- the record of something else was
  pub finds_other : (payload : List ℕ) → ((note : Note) → IsNoteIn buckets payload note → ⊥) → ForSome before.files (λ files. StandsAt at tail.end (files tail.file) payload)
      → (failed : Type 0) → (failed → ⊥) → OnlyReads (λ f. f ≡ tail.file) failed before after → FindsNote (Err (Damaged at)) log at before after
  finds_other payload other stands failed never reads =
      let open_ : OpenLog = record { journal = tail; buckets = buckets } in
      subst (λ (l : OpenLog). FindsNote (Err (Damaged at)) l at before after) is_log
      (record {
        found = tt;
        one = tt;
        damaged = λ place e. ((cc), λ files tells note there. no_note open_ (files tail.file) payload at (stands files tells) other note there);
        reads = reads_for (λ f. f ≡ tail.file) failed _ before after (λ e. absurd (cc)) reads;
      })

  -- no record was
  pub finds_none : (result : Result Note JournalFault) → IsErr result
      → ((place : ℕ) → IsErrOf result (Damaged place) → (place ≡ at) × ForSome before.files (λ files. (payload : List ℕ) → StandsAt at tail.end (files tail.file) payload → ⊥))
      → OnlyReads (λ f. f ≡ tail.file) (IsErrOf result Failed) before after → FindsNote result log at before after
  finds_none (Ok note) refused damage reads = absurd (cc)
  finds_none (Err fault) refused damage reads =
      subst (λ (l : OpenLog). FindsNote (Err fault) l at before after) is_log
      (record {
        found = tt;
        one = tt;
        damaged = λ place e. let none = damage place e in (none.0, λ files tells note there. none.1 files tells (payload_of (Robots note)) there.stands);
        reads = reads;
      })
