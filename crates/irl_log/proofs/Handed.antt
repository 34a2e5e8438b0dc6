-- What records that a journal hands to a visitor say of the events that it takes.
use Rattle.std.proofs.Common.{◌≡◌, ◌≢◌, ◌∙◌, ◌⊎◌, ℕ, ◌+◌, List, [], ◌∷◌, ◌++◌, length, drop, Bool, true, false, inl, inr, refl, sym, ap, subst, arith, append_assoc, length-take-le, take-append-drop}
use Rattle.irl_disk.specs.Disk.{Files}
use Rattle.irl_events.specs.Events.{Event}
use Rattle.irl_journal.specs.Appending.{Tail, Ends}
use Rattle.irl_journal.specs.Format.{open_gate, record_text, records_text, placed_from, StandsFor, IsBrokenAt}
use Rattle.irl_journal.specs.Visiting.{TakesAll, TookUpTo, IsVisited, IsDamaged, IsBrokenFor, IsRefusedAt, IsRevisited, IsDamagedFrom, StopsAt, RefusesAt, RefusesOneOf, RefusesOneFrom}
use Rattle.irl_log.specs.Form.{IsLogged}
use Rattle.irl_log.specs.Log.{AreLogged, placed_events}
use Rattle.irl_log.specs.Spelling.{payload_of, records_of, log_records}
use Rattle.irl_log.specs.Visiting.{TakesEvents, TakesRecord, RefusesRecord, TookEventsUpTo, RefusesOneEvent, BeginsWithEvents, ClosesAt, BreaksAt, RefusesEventAt, IsLogVisited, IsLogDamaged, IsLogRevisited, IsLogDamagedFrom}
use Rattle.irl_log.proofs.Events.{records-append, length-record, logged_first, logged_rest, one_log, parts_of}
use Rattle.irl_log.proofs.OneEvent.{one_event}

-- A visitor W of records hands their events to a visitor V. `Keeps` is what stays of it beside that one. `x` is what is found
-- in the end of the visitor V, where that stayed.
module _ {V W : Type 0} (takes : V → ℕ → Event → V → Type 0) (inner : W → ℕ → List ℕ → W → Type 0) (buckets : ℕ) (state : W → V) (Keeps : W → Type 0)
    (gives : (old : W) (at : ℕ) (payload : List ℕ) (new : W) → Keeps old → inner old at payload new → TakesRecord takes buckets (state old) at payload (state new) × Keeps new) where
  -- these records are those of events, which V took
  record Took (first last : V) (from : ℕ) (payloads : List (List ℕ)) : Type 0 where
    events : List Event
    each : AreLogged buckets events
    are : payloads ≡ log_records events
    took : TakesEvents takes first (placed_events from events) last

  took_so : (old new : W) (from : ℕ) (payloads : List (List ℕ)) → Keeps old → TakesAll inner old (placed_from from payloads) new → Took (state old) (state new) from payloads × Keeps new
  took_so old new from [] keeps same = (record { events = []; each = tt; are = refl; took = ap state same }, subst Keeps (sym same) keeps)
  took_so old new from (payload ∷ payloads) keeps taken =
      let one = gives old from payload taken.0 keeps taken.1 in
      let event = one.0.event in
      let size : length (records_text (records_of event)) ≡ length (record_text payload) = ap (λ (ps : List (List ℕ)). length (records_text ps)) one.0.records ∙ length-record payload in
      let rest = took_so taken.0 new (from + length (record_text payload)) payloads one.1 taken.2 in
      let more = rest.0 in (
        record {
          events = event ∷ more.events;
          each = (one.0.logged, more.each);
          are = ap (λ (ps : List (List ℕ)). payload ∷ ps) more.are ∙ ap (λ (ps : List (List ℕ)). ps ++ log_records more.events) (sym one.0.records);
          took = (
            state taken.0,
            one.0.took,
            subst (λ (n : ℕ). TakesEvents takes (state taken.0) (placed_events (from + n) more.events) (state new)) (sym size) more.took,
          );
        },
        rest.1,
      )

  keeps_all : (old new : W) (from : ℕ) (payloads : List (List ℕ)) → Keeps old → TakesAll inner old (placed_from from payloads) new → Keeps new
  keeps_all old new from payloads keeps taken = (took_so old new from payloads keeps taken).1

  took_all : (old new : W) (x : V) → (Keeps new → x ≡ state new) → (from : ℕ) (payloads : List (List ℕ)) → Keeps old → TakesAll inner old (placed_from from payloads) new
      → Took (state old) x from payloads
  took_all old new x is from payloads keeps taken =
      let all = took_so old new from payloads keeps taken in
      subst (λ (v : V). Took (state old) v from payloads) (sym (is all.1)) all.0

  -- where the events are known, just these
  takes_known : (old new : W) (x : V) → (Keeps new → x ≡ state new) → (from : ℕ) (events : List Event) → AreLogged buckets events → Keeps old
      → TakesAll inner old (placed_from from (log_records events)) new → TakesEvents takes (state old) (placed_events from events) x
  takes_known old new x is from events each keeps taken =
      let found = took_all old new x is from (log_records events) keeps taken in
      subst (λ (es : List Event). TakesEvents takes (state old) (placed_events from es) x) (one_log buckets found.events events found.each each (sym found.are)) found.took

  -- whatever the file has
  pub took_up_to : (old new : W) (x : V) → (Keeps new → x ≡ state new) → (from end : ℕ) → Keeps old → TookUpTo inner old new from end → TookEventsUpTo takes (state old) x buckets from end
  took_up_to old new x is from end keeps taken =
      let found = took_all old new x is from taken.payloads keeps taken.took in
      record {
        events = found.events;
        each = found.each;
        place = taken.place ∙ ap (λ (ps : List (List ℕ)). from + length (records_text ps)) found.are;
        took = found.took;
      }

  -- ---- a log is opened
  pub visited : (old new : W) (x : V) → (Keeps new → x ≡ state new) → (images : Files → Type 0) (file : List ℕ) (tail : Tail) → Keeps old → IsVisited inner old new images file tail
      → IsLogVisited takes (state old) x images file (record { journal = tail; buckets = buckets })
  visited old new x is images file tail keeps visit =
      let payloads = visit.found.0 in
      let found = took_all old new x is 0 payloads keeps (visit.records payloads visit.found.1).1 in
      record {
        found = (found.events, record { each = found.each; records = subst (StandsFor file) found.are visit.found.1 });
        events = λ events has.
            let known = visit.records (log_records events) has.records in
            (known.0, takes_known old new x is 0 events has.each keeps known.1, record { each = has.each; records = known.2 });
      }

  -- bytes that begin with records that were taken
  begins : (old new : W) (x : V) → (Keeps new → x ≡ state new) → (from : ℕ) (bytes : List ℕ) (at : ℕ) (payloads : List (List ℕ)) (rest : List ℕ) → Keeps old
      → bytes ≡ records_text payloads ++ rest → at ≡ from + length (records_text payloads) → TakesAll inner old (placed_from from payloads) new
      → BeginsWithEvents takes (state old) x buckets from bytes at rest
  begins old new x is from bytes at payloads rest keeps are place taken =
      let found = took_all old new x is from payloads keeps taken in
      record {
        events = found.events;
        each = found.each;
        bytes_are = are ∙ ap (λ (ps : List (List ℕ)). records_text ps ++ rest) found.are;
        place = place ∙ ap (λ (ps : List (List ℕ)). from + length (records_text ps)) found.are;
        took = found.took;
      }

  -- bytes of which records were handed over
  handed-rest : (old new : W) (from : ℕ) (is_closed : Bool) (bytes : List ℕ) (at : ℕ) → (stops : StopsAt inner old new from is_closed bytes at)
      → (bytes ≡ records_text stops.handed.payloads ++ drop stops.count bytes) × (at ≡ from + length (records_text stops.handed.payloads))
  handed-rest old new from is_closed bytes at stops =
      let handed = stops.handed in
      let size : stops.count ≡ length (records_text handed.payloads) = sym (length-take-le stops.count bytes handed.within) ∙ ap length handed.front in
      (sym (take-append-drop stops.count bytes) ∙ ap (λ (bs : List ℕ). bs ++ drop stops.count bytes) handed.front, omega (arith, stops.place, size))

  closes : (old new : W) (x : V) → (Keeps new → x ≡ state new) → (from : ℕ) (bytes : List ℕ) (at : ℕ) → Keeps old → StopsAt inner old new from true bytes at
      → ClosesAt takes (state old) x buckets from bytes at
  closes old new x is from bytes at keeps stops =
      let parts = handed-rest old new from true bytes at stops in
      let closed = stops.handed.ended refl in
      record {
        gate = closed.0;
        rest = closed.1;
        closed = closed.3;
        front = begins old new x is from bytes at stops.handed.payloads (closed.0 ∷ closed.1) keeps (parts.0 ∙ ap (λ (bs : List ℕ). records_text stops.handed.payloads ++ bs) closed.2) parts.1
            stops.handed.took;
      }

  breaks : (old new : W) (x : V) → (Keeps new → x ≡ state new) → (from : ℕ) (bytes : List ℕ) (at : ℕ) → Keeps old → StopsAt inner old new from false bytes at
      → BreaksAt takes (state old) x buckets from bytes at
  breaks old new x is from bytes at keeps stops =
      let parts = handed-rest old new from false bytes at stops in
      record {
        rest = drop stops.count bytes;
        none = (stops.handed.cut_short refl).0;
        cut = (stops.handed.cut_short refl).1;
        front = begins old new x is from bytes at stops.handed.payloads (drop stops.count bytes) keeps parts.0 parts.1 stops.handed.took;
      }

  pub revisited : (old new : W) (x : V) → (Keeps new → x ≡ state new) → (tail : Tail) (at : ℕ) (file : List ℕ) → Keeps old → IsRevisited inner old new tail at file
      → IsLogRevisited takes (state old) x (record { journal = tail; buckets = buckets }) at file
  revisited old new x is tail at file keeps visit = record {
    events = λ first more ends here.
        takes_known old new x is at more (logged_rest buckets first more ends.each) keeps
        (visit.records (log_records first) (log_records more) (subst (Ends tail.end file) (records-append first more) ends.ends) here);
    found = λ below. closes old new x is at (drop at file) tail.end keeps (visit.found below);
  }

  -- ---- it refuses a record
  module _ (refuses : V → ℕ → Event → V → Type 0) (declines : W → ℕ → List ℕ → W → Type 0)
      (refused : (old : W) (at : ℕ) (payload : List ℕ) (new : W) → Keeps old → declines old at payload new → RefusesRecord refuses buckets (state old) at payload (state new) × Keeps new) where
    -- one of an event that is known
    refuses_known : (visitor after : V) (at : ℕ) (event : Event) (payload : List ℕ) → IsLogged buckets event → payload ≡ payload_of event → RefusesRecord refuses buckets visitor at payload after
        → refuses visitor at event after
    refuses_known visitor after at event payload logged is (inl none) = absurd (none.0 event [] logged (ap (λ (p : List ℕ). p ∷ []) (sym is)))
    refuses_known visitor after at event payload logged is (inr one) =
        let records : payload_of one.event ∷ [] ≡ payload ∷ one.more = one.records in
        let same : payload_of one.event ≡ payload = cc in
        subst (λ (e : Event). refuses visitor at e after) (one_event buckets one.event event one.logged logged (same ∙ is)) one.refused

    -- what a record was refused for, with what is found in the end
    refused_so : (old new : W) (x : V) → (Keeps new → x ≡ state new) → (at : ℕ) (payload : List ℕ) → Keeps old → declines old at payload new → RefusesRecord refuses buckets (state old) at payload x
    refused_so old new x is at payload keeps one =
        let why = refused old at payload new keeps one in
        subst (λ (v : V). RefusesRecord refuses buckets (state old) at payload v) (sym (is why.1)) why.0

    refuses_one : (visitor after : W) (x : V) → (Keeps after → x ≡ state after) → (from : ℕ) (events : List Event) (at : ℕ) → AreLogged buckets events → Keeps visitor
        → RefusesOneFrom inner declines visitor after from (log_records events) at
        → RefusesOneEvent takes refuses (state visitor) x from events at
    refuses_one visitor after x is from events at each keeps one =
        let parts = parts_of events one.first one.payload one.more one.among in
        let all : AreLogged buckets (parts.front ++ parts.event ∷ parts.rest) = subst (AreLogged buckets) parts.among each in
        let took : TakesAll inner visitor (placed_from from (log_records parts.front)) one.reached =
        subst (λ (ps : List (List ℕ)). TakesAll inner visitor (placed_from from ps) one.reached) parts.first_are one.took in
        record {
          first = parts.front;
          event = parts.event;
          more = parts.rest;
          among = parts.among;
          place = one.place ∙ ap (λ (ps : List (List ℕ)). from + length (records_text ps)) parts.first_are;
          reached = state one.reached;
          took = takes_known visitor one.reached (state one.reached) (λ kept. refl) from parts.front (logged_first buckets parts.front (parts.event ∷ parts.rest) all) keeps took;
          refused = refuses_known (state one.reached) x at parts.event one.payload (logged_rest buckets parts.front (parts.event ∷ parts.rest) all).0 parts.payload_is
              (refused_so one.reached after x is at one.payload (keeps_all visitor one.reached from one.first keeps one.took) one.refused);
        }

    from_first : (visitor after : W) (payloads : List (List ℕ)) (at : ℕ) → RefusesOneOf inner declines visitor after payloads at → RefusesOneFrom inner declines visitor after 0 payloads at
    from_first visitor after payloads at one = record {
      first = one.first;
      payload = one.payload;
      more = one.more;
      among = one.among;
      place = omega (arith, one.place);
      reached = one.reached;
      took = one.took;
      refused = one.refused;
    }

    refuses_at : (visitor after : W) (x : V) → (Keeps after → x ≡ state after) → (from : ℕ) (bytes : List ℕ) (at : ℕ) → Keeps visitor → RefusesAt inner declines visitor after from bytes at
        → RefusesEventAt takes refuses (state visitor) x buckets from bytes at
    refuses_at visitor after x is from bytes at keeps one = record {
      payload = one.payload;
      behind = one.behind;
      fits = one.fits;
      more = one.more;
      reached = state one.reached;
      front = begins visitor one.reached (state one.reached) (λ kept. refl) from bytes at one.payloads (record_text one.payload ++ one.behind) keeps
          (one.bytes_are ∙ append_assoc (records_text one.payloads) (record_text one.payload) one.behind) one.place_is one.took;
      refused = refused_so one.reached after x is at one.payload (keeps_all visitor one.reached from one.payloads keeps one.took) one.refused;
    }

    as_refusal : (visitor after : W) (file : List ℕ) (at : ℕ) → IsRefusedAt inner declines visitor after file at → RefusesAt inner declines visitor after 0 file at
    as_refusal visitor after file at one = record {
      payloads = one.payloads;
      payload = one.payload;
      behind = one.gate ∷ one.rest;
      bytes_are = one.bytes;
      more = omega arith;
      each = one.each;
      fits = one.fits;
      place_is = omega (arith, one.place);
      reached = one.reached;
      took = one.took;
      refused = one.refused;
    }

    why_damaged : (visitor after : W) (x : V) → (Keeps after → x ≡ state after) → (file : List ℕ) (at : ℕ) → Keeps visitor
        → IsBrokenFor inner visitor after file at ⊎ IsRefusedAt inner declines visitor after file at
        → (IsBrokenAt file at × BreaksAt takes (state visitor) x buckets 0 file at) ⊎ RefusesEventAt takes refuses (state visitor) x buckets 0 file at
    why_damaged visitor after x is file at keeps (inl one) =
        let broken = one.broken in
        inl (
          broken,
          record {
            rest = open_gate ∷ broken.rest;
            none = broken.broken;
            cut = inr (broken.rest, refl);
            front = begins visitor after x is 0 file at broken.payloads (open_gate ∷ broken.rest) keeps broken.bytes (omega (arith, broken.place)) one.took;
          },
        )
    why_damaged visitor after x is file at keeps (inr one) = inr (refuses_at visitor after x is 0 file at keeps (as_refusal visitor after file at one))

    pub damaged : (visitor after : W) (x : V) → (Keeps after → x ≡ state after) → (file : List ℕ) (at : ℕ) → Keeps visitor → IsDamaged inner declines visitor after file at
        → IsLogDamaged takes refuses (state visitor) x buckets file at
    damaged visitor after x is file at keeps one = record {
      why = why_damaged visitor after x is file at keeps one.why;
      refused = λ events has. refuses_one visitor after x is 0 events at has.each keeps (from_first visitor after (log_records events) at (one.refused (log_records events) has.records));
    }

    why_damaged_from : (visitor after : W) (x : V) → (Keeps after → x ≡ state after) → (from end : ℕ) (bytes : List ℕ) (at : ℕ) → Keeps visitor
        → StopsAt inner visitor after from false bytes at ⊎ ((StopsAt inner visitor after from true bytes at × (at ≢ end)) ⊎ RefusesAt inner declines visitor after from bytes at)
        → BreaksAt takes (state visitor) x buckets from bytes at
        ⊎ ((ClosesAt takes (state visitor) x buckets from bytes at × (at ≢ end)) ⊎ RefusesEventAt takes refuses (state visitor) x buckets from bytes at)
    why_damaged_from visitor after x is from end bytes at keeps (inl stops) = inl (breaks visitor after x is from bytes at keeps stops)
    why_damaged_from visitor after x is from end bytes at keeps (inr (inl closed)) = inr (inl (closes visitor after x is from bytes at keeps closed.0, closed.1))
    why_damaged_from visitor after x is from end bytes at keeps (inr (inr one)) = inr (inr (refuses_at visitor after x is from bytes at keeps one))

    pub damaged_from : (visitor after : W) (x : V) → (Keeps after → x ≡ state after) → (tail : Tail) (from : ℕ) (file : List ℕ) (at : ℕ) → Keeps visitor
        → IsDamagedFrom inner declines visitor after tail from file at
        → IsLogDamagedFrom takes refuses (state visitor) x (record { journal = tail; buckets = buckets }) from file at
    damaged_from visitor after x is tail from file at keeps one = record {
      why = why_damaged_from visitor after x is from tail.end (drop from file) at keeps one.why;
      refused = λ first more ends here.
          refuses_one visitor after x is from more at (logged_rest buckets first more ends.each) keeps
          (one.refused (log_records first) (log_records more) (subst (Ends tail.end file) (records-append first more) ends.ends) here);
    }
