-- Several notes at once: what puts them back, and where their records stand.
use Rattle.std.proofs.Common.{◌≡◌, ◌∙◌, ℕ, zero, suc, ◌+◌, ◌<◌, List, [], ◌∷◌, ◌++◌, map, length, length-append, get_or, take, Option, refl, sym, ap, subst, arith}
use Rattle.std.specs.List.{AllByRecursion}
use Rattle.std.proofs.lemmas.List.{map_more}
use Rattle.std.proofs.lemmas.List.Concat.{flat_map-append}
use Rattle.irl_offer.specs.declared.note.Note.{Note}
use Rattle.irl_events.specs.Events.{Event, Robots}
use Rattle.irl_events.specs.Seen.{seen}
use Rattle.irl_events.specs.declared.event.Event.{Event as LogEvent}
use Rattle.irl_journal.specs.Format.{IsPayload, record_text, records_text}
use Rattle.irl_log.specs.Form.{IsNote}
use Rattle.irl_log.specs.Log.{AreLogged}
use Rattle.irl_log.specs.Spelling.{log_records, payload_of, records_of}
use Rattle.irl_ledger.specs.Noting.{CanRestore, CanRestoreAll, NotePlaces, noted, noted_all, restored, restored_all}
use Rattle.irl_ledger.proofs.Adding.{note_logged}
use Rattle.irl_ledger.proofs.Noting.{places_more}

-- ---- what puts them back
abbrev pub Before : Type 0
Before = Option (List ℕ × Option ℕ)

pub restored_more : (all : List Before) (one : Before) (places : NotePlaces) → restored_all (all ++ one ∷ []) places ≡ restored_all all (restored one places)
restored_more [] one places = refl
restored_more (before ∷ all) one places = ap (restored before) (restored_more all one places)

pub can_more : (all : List Before) (one : Before) (places : NotePlaces) → CanRestoreAll all (restored one places) → CanRestore one places → CanRestoreAll (all ++ one ∷ []) places
can_more [] one places can here = (tt, here)
can_more (before ∷ all) one places can here = (can_more all one places can.0 here, subst (CanRestore before) (sym (restored_more all one places)) can.1)

pub can_last : (all : List Before) (one : Before) (places : NotePlaces) → CanRestoreAll (all ++ one ∷ []) places → CanRestoreAll all (restored one places) × CanRestore one places
can_last [] one places can = (tt, can.1)
can_last (before ∷ all) one places can = let rest = can_last all one places can.0 in ((rest.0, subst (CanRestore before) (restored_more all one places) can.1), rest.1)

-- ---- where their records stand
-- how many bytes the records of one event more take
pub text_more : (events : List Event) (event : Event)
    → length (records_text (log_records (events ++ event ∷ []))) ≡ length (records_text (log_records events)) + length (records_text (records_of event))
text_more events event =
    ap (λ (l : List (List ℕ)). length (records_text l)) (flat_map-append records_of events (event ∷ []))
    ∙ ap (λ (l : List ℕ). length l) (flat_map-append record_text (log_records events) (records_of event))
    ∙ length-append (records_text (log_records events)) (records_text (records_of event))

pub seen_more : (events : List LogEvent) (i : ℕ) (d : LogEvent) → i < length events → map seen (take (i + 1) events) ≡ map seen (take i events) ++ seen (get_or events i d) ∷ []
seen_more events i d within = map_more seen events i d within

-- each record has room for what it is of
pub fits_there : (events : List LogEvent) (i : ℕ) (d : LogEvent) → i < length events → AllByRecursion IsPayload (log_records (map seen events)) → IsPayload (payload_of (seen (get_or events i d)))
fits_there [] i d within each = absurd (omega (arith, within))
fits_there (x ∷ events) zero d within each = each.0
fits_there (x ∷ events) (suc i) d within each = fits_there events i d (omega (arith, within)) each.1

-- the places are known up to one event more
pub noted_more : (at here : ℕ) (events more : List Event) (event : Event) (start places next : NotePlaces) → more ≡ events ++ event ∷ [] → here ≡ at + length (records_text (log_records events))
    → places ≡ noted_all at events start → next ≡ noted here event places → next ≡ noted_all at more start
noted_more at here events more event start places next more_are here_is was is =
    is ∙ ap (λ (n : ℕ). noted n event places) here_is ∙ ap (noted (at + length (records_text (log_records events))) event) was
    ∙ sym (places_more at events event start) ∙ ap (λ (es : List Event). noted_all at es start) (sym more_are)

-- ---- their events
-- a log may have them
pub notes_logged : (buckets : ℕ) (notes : List Note) → AllByRecursion IsNote notes → AreLogged buckets (map Robots notes)
notes_logged buckets [] each = tt
notes_logged buckets (note ∷ notes) each = (note_logged buckets note each.0, notes_logged buckets notes each.1)

-- and records have room for them
pub notes_fit : (notes : List Note) → AllByRecursion IsNote notes → AllByRecursion IsPayload (log_records (map Robots notes))
notes_fit [] each = tt
notes_fit (note ∷ notes) each = ((note_logged 0 note each.0).fits, notes_fit notes each.1)
