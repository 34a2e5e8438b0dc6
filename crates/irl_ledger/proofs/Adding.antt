-- One event more in the log of a crawl, or several.
use Rattle.std.proofs.Common.{◌≡◌, ◌∙◌, ℕ, ◌+◌, true, false, List, [], ◌∷◌, length, length-append, Option, None, Some, Result, Ok, Err, refl, sym, ap, subst, arith}
use Rattle.std.proofs.lemmas.Bool.{le-leb}
use Rattle.irl_base.specs.Limits.{max_text, max_robots}
use Rattle.irl_base.specs.declared.fault.Fault.{Fault}
use Rattle.irl_base.specs.declared.fault.Fault.TheVariants.{Memory}
use Rattle.irl_offer.specs.declared.note.Note.{Note}
use Rattle.irl_events.specs.Events.{Event, Begin, Robots, Progress}
use Rattle.irl_events.specs.Legal.{broken, text_of}
use Rattle.irl_disk.specs.Images.{Told}
use Rattle.irl_journal.specs.Format.{records_text}
use Rattle.irl_frontier.specs.Frontier.{Frontier}
use Rattle.irl_log.specs.Appending.{AppendsEvents}
use Rattle.irl_log.specs.Log.{OpenLog}
use Rattle.irl_log.specs.Form.{IsLogged, IsNote, IsSuffixText}
use Rattle.irl_log.specs.Spelling.{log_records}
use Rattle.irl_ledger.specs.declared.ledger.Ledger.{Ledger}
use Rattle.irl_ledger.specs.Adding.{AddsAllToLog, AddsToLog}
use Rattle.irl_ledger.specs.Noting.{NotePlaces, noted, noted_all}

-- a beginning tells its suffixes
pub begun_of : {S : Type 0} (tells : S → Told) (result : Result Unit Fault) (event asked : Event) (frontier : Event → Frontier) (old new : Ledger) (read text : List ℕ) (before after : S)
    → result ≡ Ok tt → event ≡ asked → read ≡ text → AddsToLog tells result event (frontier event) old.suffixes old new before after
    → AddsToLog tells (Ok tt) asked (frontier asked) (Some text) old (record new { suffixes = Some read }) before after
begun_of tells result event asked frontier old new read text before after is same_event same adds =
    let ok : AddsToLog tells (Ok tt) asked (frontier asked) old.suffixes old new before after =
    subst (λ (e : Event). AddsToLog tells (Ok tt) e (frontier e) old.suffixes old new before after) same_event
    (subst (λ (r : Result Unit Fault). AddsToLog tells r event (frontier event) old.suffixes old new before after) is adds) in
    record {
      memory = λ no. cc;
      log = ok.log;
      done = (ok.done.0, ap (λ (t : List ℕ). Some t) same);
      kept = tt;
      pairs = ok.pairs;
      noted_then = ok.noted_then;
      noted_still = tt;
    }

-- an append that is refused leaves the tables
pub refused_of : {S : Type 0} (tells : S → Told) (answered result : Result Unit Fault) (fault : Fault) (event : Event) (frontier : Frontier) (suffixes : Option (List ℕ)) (old : Ledger) (log : OpenLog)
    (notes : NotePlaces) (before after : S) → result ≡ Err fault → answered ≡ Err fault → AppendsEvents tells result (event ∷ []) old.log log before after → notes ≡ old.notes
    → AddsToLog tells answered event frontier suffixes old (record old { log = log; notes = notes }) before after
refused_of tells answered result fault event frontier suffixes old log notes before after is same appends notes_are =
    let here : AppendsEvents tells (Err fault) (event ∷ []) old.log log before after = subst (λ (r : Result Unit Fault). AppendsEvents tells r (event ∷ []) old.log log before after) is appends in
    subst (λ (r : Result Unit Fault). AddsToLog tells r event frontier suffixes old (record old { log = log; notes = notes }) before after) (sym same) (record {
      memory = λ memory. (
        (here.memory memory).0,
        ap (λ (l : OpenLog). record old { log = l; notes = notes }) (here.memory memory).1 ∙ ap (λ (m : NotePlaces). record old { notes = m }) notes_are,
      );
      log = λ other. here;
      done = tt;
      kept = (refl, refl);
      pairs = refl;
      noted_then = tt;
      noted_still = notes_are;
    })

-- one for which there is no memory, too
pub no_room_of : {S : Type 0} (tells : S → Told) (answered : Result Unit Fault) (event : Event) (frontier : Frontier) (suffixes : Option (List ℕ)) (old : Ledger) (notes : NotePlaces) (store : S)
    → answered ≡ Err Memory → notes ≡ old.notes → AddsToLog tells answered event frontier suffixes old (record old { notes = notes }) store store
no_room_of tells answered event frontier suffixes old notes store same notes_are =
    subst (λ (r : Result Unit Fault). AddsToLog tells r event frontier suffixes old (record old { notes = notes }) store store) (sym same) (record {
      memory = λ memory. (refl, ap (λ (m : NotePlaces). record old { notes = m }) notes_are);
      log = λ other. absurd (other refl);
      done = tt;
      kept = (refl, refl);
      pairs = refl;
      noted_then = tt;
      noted_still = notes_are;
    })

-- and one that is made leaves what is planned
pub appended_of : {S : Type 0} (tells : S → Told) (result : Result Unit Fault) (event : Event) (frontier now : Frontier) (old : Ledger) (log : OpenLog) (notes : NotePlaces) (before after : S)
    → result ≡ Ok tt → AppendsEvents tells result (event ∷ []) old.log log before after → now ≡ frontier → notes ≡ noted old.log.journal.end event old.notes
    → AddsToLog tells (Ok tt) event frontier old.suffixes old (record old { log = log; frontier = now; notes = notes }) before after
appended_of tells result event frontier now old log notes before after is appends tables notes_are =
    let here : AppendsEvents tells (Ok tt) (event ∷ []) old.log log before after = subst (λ (r : Result Unit Fault). AppendsEvents tells r (event ∷ []) old.log log before after) is appends in
    record {
      memory = λ no. cc;
      log = λ other. here;
      done = (tables, refl);
      kept = tt;
      pairs = refl;
      noted_then = notes_are;
      noted_still = tt;
    }

-- ---- several
-- one append of one event is an append of several
pub one_of_all : {S : Type 0} (tells : S → Told) (result : Result Unit Fault) (event : Event) (frontier : Frontier) (suffixes : Option (List ℕ)) (old new : Ledger) (before after : S)
    → AddsToLog tells result event frontier suffixes old new before after → AddsAllToLog tells result (event ∷ []) frontier suffixes old new before after
one_of_all tells result event frontier suffixes old new before after adds = record {
  memory = adds.memory;
  idle = λ none. absurd (cc);
  log = adds.log;
  done = adds.done;
  kept = adds.kept;
  pairs = adds.pairs;
  noted_then = adds.noted_then;
  noted_still = adds.noted_still;
}

-- the log then ends behind them
pub ends_there : {S : Type 0} (tells : S → Told) (result : Result Unit Fault) (events : List Event) (old new : OpenLog) (before after : S) → result ≡ Ok tt
    → AppendsEvents tells result events old new before after → new.journal.end ≡ old.journal.end + length (records_text (log_records events))
ends_there tells result events old new before after is appends =
    let here : AppendsEvents tells (Ok tt) events old new before after = subst (λ (r : Result Unit Fault). AppendsEvents tells r events old new before after) is appends in
    here.records.appends.end

-- an append of events which change no table but that of the notes leaves what they make of that one
pub appended_all : {S : Type 0} (tells : S → Told) (result : Result Unit Fault) (seens events : List Event) (old : Ledger) (log : OpenLog) (notes : NotePlaces) (before after : S)
    → result ≡ Ok tt → seens ≡ events → AppendsEvents tells result seens old.log log before after → notes ≡ noted_all old.log.journal.end seens old.notes
    → AddsAllToLog tells (Ok tt) events old.frontier old.suffixes old (record old { log = log; notes = notes }) before after
appended_all tells result seens events old log notes before after is seen_are appends noted_are =
    let here : AppendsEvents tells (Ok tt) events old.log log before after =
    subst (λ (es : List Event). AppendsEvents tells (Ok tt) es old.log log before after) seen_are
    (subst (λ (r : Result Unit Fault). AppendsEvents tells r seens old.log log before after) is appends) in
    let notes_are = noted_are ∙ ap (λ (es : List Event). noted_all old.log.journal.end es old.notes) seen_are in
    record {
      memory = λ no. cc;
      idle = λ none. (
        refl,
        (here.idle none).1,
        ap (λ (l : OpenLog). record old { log = l; notes = notes }) (here.idle none).2
            ∙ ap (λ (m : NotePlaces). record old { notes = m }) (notes_are ∙ ap (λ (es : List Event). noted_all old.log.journal.end es old.notes) none),
      );
      log = λ other. here;
      done = (refl, refl);
      kept = tt;
      pairs = refl;
      noted_then = notes_are;
      noted_still = tt;
    }

-- ---- the events
-- a beginning
pub begin_keeps : (x : Progress) (suffixes : List ℕ) → x.begun ≡ false → broken x (Begin suffixes) [] ≡ None
begin_keeps x suffixes is = rw is refl

pub begin_logged : (buckets : ℕ) (suffixes : List ℕ) → IsSuffixText suffixes → IsLogged buckets (Begin suffixes)
begin_logged buckets suffixes is = record { form = is; fits = omega (arith, is.limit) }

-- a note
pub note_keeps : (x : Progress) (note : Note) → x.begun ≡ true → IsNote note → broken x (Robots note) [] ≡ None
note_keeps x note is form =
    rw (is, le-leb 1 (length note.host) form.host, le-leb (length note.host) max_text form.host_limit, le-leb (length (text_of note.state)) max_robots form.text_limit) refl

pub note_logged : (buckets : ℕ) (note : Note) → IsNote note → IsLogged buckets (Robots note)
note_logged buckets note is = record { form = is; fits = omega (arith, length-append note.host (text_of note.state), is.host_limit, is.text_limit) }
