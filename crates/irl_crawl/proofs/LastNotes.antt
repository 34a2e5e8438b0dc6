-- The last note of a host is one of the notes of its events.
use Rattle.std.proofs.Common.{◌≡◌, Bool, true, false, cond, List, [], ◌∷◌, Option, None, Some, subst}
use Rattle.std.specs.List.{Contains}
use Rattle.std.specs.Option.{option_or}
use Rattle.std.specs.Prelude.{bytes_eq, ℕ}
use Rattle.std.proofs.lemmas.List.Elements.{Contains-append_left, Contains-append_right}
use Rattle.irl_events.specs.Events.{Event, Begin, Pairs, Pass, Robots, Settle, Happened}
use Rattle.irl_ledger.specs.Crawling.{events_of}
use Rattle.irl_ledger.specs.Noting.{last_note, note_by}
use Rattle.irl_offer.specs.declared.note.Note.{Note}
use Rattle.irl_reach.specs.Along.{notes_in, notes_of}
use Rattle.irl_reach.proofs.Members.{first_member}

same_note : (b : Bool) (one note : Note) → cond b (Some one) None ≡ Some note → one ≡ note
same_note true one note is = cc
same_note false one note is = cc

of_event : (host : List ℕ) (event : Event) (note : Note) → note_by host event ≡ Some note → Contains (notes_of event) note
of_event host (Begin suffixes) note is = cc
of_event host (Pairs cuts judged pairs) note is = cc
of_event host (Pass judged) note is = cc
of_event host (Robots one) note is = subst (λ (n : Note). Contains (one ∷ []) n) (same_note (bytes_eq host one.host) one note is) (first_member one [])
of_event host (Settle fronts outcomes) note is = cc

pub last_note_in : (host : List ℕ) (events : List Happened) (note : Note) → last_note host (events_of events) ≡ Some note → Contains (notes_in events) note
last_note_in host [] note is = cc
last_note_in host (h ∷ hs) note is = by (last_note host (events_of hs)) (λ later. last_note_in host hs note later) is
  where
    by : (rest : Option Note) → (rest ≡ Some note → Contains (notes_in hs) note) → option_or rest (note_by host h.0) ≡ Some note → Contains (notes_in (h ∷ hs)) note
    by None later is = Contains-append_left (notes_of h.0) (notes_in hs) note (of_event host h.0 note is)
    by (Some one) later is = Contains-append_right (notes_of h.0) (notes_in hs) note (later is)
