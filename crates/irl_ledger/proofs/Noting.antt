-- The places of notes among events, and the last note of a host.
use Rattle.std.proofs.Common.{◌≡◌, ◌⊎◌, ◌∙◌, ℕ, ◌+◌, ◌<◌, ◌≤◌, Bool, true, false, List, [], ◌∷◌, ◌++◌, length, length-append, Option, None, Some, inl, inr, ⊎_elim, cond, refl, sym, ap, subst, arith}
use Rattle.std.specs.Prelude.{bytes_eq}
use Rattle.std.specs.FinMap.{get, get-empty}
use Rattle.std.specs.Option.{option_or}
use Rattle.std.specs.Ordering.{nat_cmp}
use Rattle.std.specs.Cmp.Lexicographic.{slice_cmp}
use Rattle.irl_offer.specs.declared.note.Note.{Note}
use Rattle.irl_events.specs.Events.{Event, Begin, Pairs, Pass, Robots, Settle}
use Rattle.irl_journal.specs.Format.{record_text, records_text}
use Rattle.irl_log.specs.Spelling.{log_records, payload_of, records_of}
use Rattle.irl_ledger.specs.Noting.{AreWithin, NotePlaces, last_note, no_notes, note_by, noted, noted_all}
use Rattle.irl_ledger.proofs.NoteMaps.{get-with_place}

-- ---- how many bytes records take
more_text : (payload : List ℕ) (payloads : List (List ℕ)) → length (records_text (payload ∷ payloads)) ≡ length (records_text (payload ∷ [])) + length (records_text payloads)
more_text payload payloads =
    let one = length-append (record_text payload) [] in
    let all = length-append (record_text payload) (records_text payloads) in
    omega (arith, one, all)

some_text : (payload : List ℕ) → 1 ≤ length (records_text (payload ∷ []))
some_text payload = omega arith

-- the place behind one event and some others
behind : (at : ℕ) (event : Event) (events : List Event)
    → at + length (records_text (records_of event)) + length (records_text (log_records events)) ≡ at + length (records_text (log_records (event ∷ events)))
behind at event events = let more = more_text (payload_of event) (log_records events) in omega (arith, more)

at_first : (at : ℕ) → at ≡ at + length (records_text (log_records []))
at_first at = omega arith

-- ---- one event more
pub places_more : (at : ℕ) (events : List Event) (event : Event) (places : NotePlaces)
    → noted_all at (events ++ event ∷ []) places ≡ noted (at + length (records_text (log_records events))) event (noted_all at events places)
places_more at [] event places = ap (λ (n : ℕ). noted n event places) (at_first at)
places_more at (x ∷ events) event places =
    places_more (at + length (records_text (records_of x))) events event (noted at x places)
    ∙ ap (λ (n : ℕ). noted n event (noted_all (at + length (records_text (records_of x))) events (noted at x places))) (behind at x events)

-- and several more
pub places_both : (at : ℕ) (events more : List Event) (places : NotePlaces)
    → noted_all at (events ++ more) places ≡ noted_all (at + length (records_text (log_records events))) more (noted_all at events places)
places_both at [] more places = ap (λ (n : ℕ). noted_all n more places) (at_first at)
places_both at (x ∷ events) more places =
    places_both (at + length (records_text (records_of x))) events more (noted at x places)
    ∙ ap (λ (n : ℕ). noted_all n more (noted_all (at + length (records_text (records_of x))) events (noted at x places))) (behind at x events)

-- ---- each place is below the end
set_within : (b : Bool) (at end p : ℕ) (o : Option ℕ) → at < end → (o ≡ Some p → p < end) → cond b (Some at) o ≡ Some p → p < end
set_within true at end p o here rest is = let same : at ≡ p = cc in subst (λ (n : ℕ). n < end) same here
set_within false at end p o here rest is = rest is

pub noted_within : (at end : ℕ) (event : Event) (places : NotePlaces) → AreWithin at places → at + length (records_text (records_of event)) ≤ end → AreWithin end (noted at event places)
noted_within at end (Begin suffixes) places within long host p is = omega (arith, within host p is, long)
noted_within at end (Pairs cuts judged pairs) places within long host p is = omega (arith, within host p is, long)
noted_within at end (Pass judged) places within long host p is = omega (arith, within host p is, long)
noted_within at end (Robots note) places within long host p is =
    let some = some_text (payload_of (Robots note)) in
    set_within (bytes_eq host note.host) at end p (get places host) (omega (arith, some, long)) (λ was. omega (arith, within host p was, long)) (sym (get-with_place note.host (Some at) places host)
    ∙ is)
noted_within at end (Settle fronts outcomes) places within long host p is = omega (arith, within host p is, long)

pub none_within : (end : ℕ) → AreWithin end no_notes
none_within end host p is = let no : None ≡ Some p = sym (get-empty (slice_cmp nat_cmp) host) ∙ is in absurd (cc)

pub all_within : (from : ℕ) (events : List Event) (places : NotePlaces) → AreWithin from places → AreWithin (from + length (records_text (log_records events))) (noted_all from events places)
all_within from [] places within = subst (λ (n : ℕ). AreWithin n places) (at_first from) within
all_within from (x ∷ events) places within =
    let end = from + length (records_text (records_of x)) in
    subst (λ (n : ℕ). AreWithin n (noted_all from (x ∷ events) places)) (behind from x events) (all_within end events (noted from x places) (noted_within from end x places within (omega arith)))

-- ---- the last note of a host
pub record FoundNote (at : ℕ) (host : List ℕ) (events : List Event) (place : ℕ) : Type 0 where
  pub first : List Event
  pub note : Note
  pub more : List Event
  pub among : events ≡ first ++ Robots note ∷ more
  pub last : last_note host events ≡ Some note
  pub here : place ≡ at + length (records_text (log_records first))

-- there is none, and the place stays, or it has the place that is known
abbrev pub IsLastAt : ℕ → List ℕ → List Event → NotePlaces → Type 0
IsLastAt at host events places = ((last_note host events ≡ None) × (get (noted_all at events places) host ≡ get places host))
    ⊎ ((place : ℕ) × (get (noted_all at events places) host ≡ Some place) × FoundNote at host events place)

noted_first : (at : ℕ) (host : List ℕ) (note : Note) (events : List Event) (places : NotePlaces) (b : Bool) → bytes_eq host note.host ≡ b → last_note host events ≡ None
    → get (noted_all at (Robots note ∷ events) places) host ≡ cond b (Some at) (get places host) → IsLastAt at host (Robots note ∷ events) places
noted_first at host note events places true is none here = inr (
  at,
  here,
  record {
    first = [];
    note = note;
    more = events;
    among = refl;
    last = ap (λ (o : Option Note). option_or o (note_by host (Robots note))) none ∙ ap (λ (b : Bool). cond b (Some note) None) is;
    here = at_first at;
  },
)
noted_first at host note events places false is none here = inl (
  ap (λ (o : Option Note). option_or o (note_by host (Robots note))) none ∙ ap (λ (b : Bool). cond b (Some note) None) is,
  here,
)

first_last : (at : ℕ) (host : List ℕ) (event : Event) (events : List Event) (places : NotePlaces) → last_note host events ≡ None
    → get (noted_all at (event ∷ events) places) host ≡ get (noted at event places) host → IsLastAt at host (event ∷ events) places
first_last at host (Begin suffixes) events places none same = inl (ap (λ (o : Option Note). option_or o None) none, same)
first_last at host (Pairs cuts judged pairs) events places none same = inl (ap (λ (o : Option Note). option_or o None) none, same)
first_last at host (Pass judged) events places none same = inl (ap (λ (o : Option Note). option_or o None) none, same)
first_last at host (Robots note) events places none same =
    noted_first at host note events places (bytes_eq host note.host) refl none (same ∙ get-with_place note.host (Some at) places host)
first_last at host (Settle fronts outcomes) events places none same = inl (ap (λ (o : Option Note). option_or o None) none, same)

pub last_at : (at : ℕ) (host : List ℕ) (events : List Event) (places : NotePlaces) → IsLastAt at host events places
last_at at host [] places = inl (refl, refl)
last_at at host (event ∷ events) places = ⊎_elim
    (λ (none : (last_note host events ≡ None) × (get (noted_all (at + length (records_text (records_of event))) events (noted at event places)) host ≡ get (noted at event places) host)).
    first_last at host event events places none.0 none.1)
    (λ (found : (place : ℕ) × (get (noted_all (at + length (records_text (records_of event))) events (noted at event places)) host ≡ Some place)
    × FoundNote (at + length (records_text (records_of event))) host events place).
    inr (
      found.0,
      found.1,
      record {
        first = event ∷ found.2.first;
        note = found.2.note;
        more = found.2.more;
        among = ap (λ (es : List Event). event ∷ es) found.2.among;
        last = ap (λ (o : Option Note). option_or o (note_by host event)) found.2.last;
        here = found.2.here ∙ behind at event found.2.first;
      },
    ))
    (last_at (at + length (records_text (records_of event))) host events (noted at event places))
