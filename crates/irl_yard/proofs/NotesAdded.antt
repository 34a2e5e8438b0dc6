-- Several notes more in the log of a crawl: what they make of the state that an open store holds.
use Rattle.std.proofs.Common.{◌≡◌, ◌∙◌, inr, true, List, [], ◌∷◌, ◌++◌, map, append-nil, append_assoc, Result, Ok, Err, OnOk, OnErr, refl, sym, ap, subst}
use Rattle.std.specs.List.{AllByRecursion}
use Rattle.std.specs.Option.{ForSome}
use Rattle.irl_base.specs.declared.fault.Fault.{Fault}
use Rattle.irl_offer.specs.declared.note.Note.{Note}
use Rattle.irl_offer.specs.declared.settings.Settings.{Settings}
use Rattle.irl_model.specs.Book.{Book}
use Rattle.irl_events.specs.Events.{Event, Robots, Happened}
use Rattle.irl_events.specs.State.{State, IsFrontState}
use Rattle.irl_model.proofs.FrontLaws.{front_same}
use Rattle.irl_core.specs.States.{begun_with}
use Rattle.irl_disk.specs.Images.{Told, IsConsistent}
use Rattle.irl_bay.specs.Drum.{Drum, IsDrum}
use Rattle.irl_bay.specs.Holding.{IsLong}
use Rattle.irl_frontier.specs.Frontier.{Frontier}
use Rattle.irl_log.specs.Form.{IsNote}
use Rattle.irl_ledger.specs.declared.ledger.Ledger.{Ledger}
use Rattle.irl_ledger.specs.Adding.{AddsAllToLog}
use Rattle.irl_ledger.specs.Crawling.{IsCrawlState, events_of}
use Rattle.irl_ledger.specs.Holding.{HoldsLedger, IsFrontierOf, IsOpenLedger}
use Rattle.irl_ledger.proofs.Tables.{note_stays}
use Rattle.irl_yard.specs.declared.parts.Parts.{Parts}
use Rattle.irl_yard.specs.declared.parts.Rest.TheVariants.{Crawl}
use Rattle.irl_yard.specs.Adding.{AddsNotes, KeepsTables, notes_happened, with_event, with_notes}
use Rattle.irl_yard.specs.Holding.{HoldsUrls}
use Rattle.irl_yard.proofs.Adding.{crawl_more, note_next}
use Rattle.irl_yard.proofs.Appended as appended
use Rattle.irl_yard.proofs.Appended.{ok_then, same_crawl}
use Rattle.irl_yard.proofs.Making.{on_ok_then}

-- ---- the events
-- the events of notes
pub notes_events : (notes : List Note) → events_of (notes_happened notes) ≡ map Robots notes
notes_events [] = refl
notes_events (note ∷ notes) = ap (λ (es : List Event). Robots note ∷ es) (notes_events notes)

-- ---- the state
pub notes_none : (state : State) → with_notes [] state ≡ state
notes_none state = ap (λ (es : List Happened). let x : State = record state { events = es } in x) (append-nil state.events)

pub notes_more : (note : Note) (notes : List Note) (state : State) → with_notes (note ∷ notes) state ≡ with_notes notes (with_event (Robots note) [] state)
notes_more note notes state =
    ap (λ (es : List Happened). let x : State = record state { events = es } in x) (sym (append_assoc state.events ((Robots note, []) ∷ []) (notes_happened notes)))

pub notes_front : (notes : List Note) (state : State) → IsFrontState state (with_notes notes state)
notes_front notes state = inr (record { settings = refl; urls = front_same state.urls; pairs = front_same state.pairs; events = (notes_happened notes, refl) })

-- ---- a crawl's events
-- what some notes make of them
pub record AreNotesNext (settings : Settings) (urls pairs : Book) (events : List Happened) (x : Frontier) (notes : List Note) : Type 0 where
  pub legal : IsCrawlState settings urls pairs events → IsCrawlState settings urls pairs (events ++ notes_happened notes)
  pub begun : begun_with (events ++ notes_happened notes) ≡ begun_with events
  pub tables : IsFrontierOf settings urls pairs (events ++ notes_happened notes) x

pub notes_next : (settings : Settings) (urls pairs : Book) (events : List Happened) (x : Frontier) (notes : List Note) → x.progress.begun ≡ true → AllByRecursion IsNote notes
    → IsFrontierOf settings urls pairs events x → AreNotesNext settings urls pairs events x notes
notes_next settings urls pairs events x [] begun each tables =
    let same = sym (append-nil events) in
    record {
      legal = subst (IsCrawlState settings urls pairs) same;
      begun = ap begun_with (append-nil events);
      tables = subst (λ (es : List Happened). IsFrontierOf settings urls pairs es x) same tables;
    }
notes_next settings urls pairs events x (note ∷ notes) begun each tables =
    let one = note_next settings urls pairs events x note begun each.0 tables in
    let first : Happened = (Robots note, []) in
    let then : IsFrontierOf settings urls pairs (events ++ first ∷ []) x = subst (IsFrontierOf settings urls pairs (events ++ first ∷ [])) (sym (note_stays x note begun)) one.2 in
    let rest = notes_next settings urls pairs (events ++ first ∷ []) x notes begun each.1 then in
    let all : (events ++ first ∷ []) ++ notes_happened notes ≡ events ++ notes_happened (note ∷ notes) = append_assoc events (first ∷ []) (notes_happened notes) in
    record {
      legal = λ state. subst (IsCrawlState settings urls pairs) all (rest.legal (crawl_more settings urls pairs events (Robots note) [] one.0 state));
      begun = ap begun_with (sym all) ∙ rest.begun ∙ one.1;
      tables = subst (λ (es : List Happened). IsFrontierOf settings urls pairs es x) all rest.tables;
    }

-- ---- the call
-- what holds at each answer
at_each : {P : Type 0} (result : Result Unit Fault) → OnOk result P → OnErr result P → P
at_each (Ok value) done kept = done
at_each (Err fault) done kept = kept

module _ {S : Type 0} (tells : S → Told) (law : (s : S) → IsConsistent (tells s)) (result : Result Unit Fault) (notes : List Note) (before after : S) (urls : Drum)
    (old new : Ledger) (drum : IsDrum urls) (open_crawl : IsOpenLedger urls old (tells before).files) (was_sound : old.log.journal.is_sound ≡ true)
    (begun : old.frontier.progress.begun ≡ true) (each : AllByRecursion IsNote notes)
    (call : AddsAllToLog tells result (map Robots notes) old.frontier old.suffixes old new before after) where
  abbrev more : List Happened
  more = notes_happened notes

  adds : AddsAllToLog tells result (events_of more) old.frontier old.suffixes old new before after
  adds = subst (λ (es : List Event). AddsAllToLog tells result es old.frontier old.suffixes old new before after) (sym (notes_events notes)) call

  next_in : (state : State) → HoldsUrls (tells before).images urls state → HoldsLedger (tells before).images urls.settings old state.urls state.pairs state.events
      → appended.AreNextIn tells law result more old.frontier old.suffixes before after urls old new drum open_crawl was_sound adds state
  next_in state beside held =
      let next = notes_next urls.settings state.urls state.pairs state.events old.frontier notes begun each held.frontier in
      record { legal = next.legal; begun = next.begun ∙ sym held.suffixes; tables = next.tables }

  -- the parts are open still
  pub notes_open : IsOpenLedger urls new (tells after).files
  notes_open = appended.still_open tells law result more old.frontier old.suffixes before after urls old new drum open_crawl was_sound adds open_crawl.fits open_crawl.begun

  pub notes_long : ForSome (tells before).files (λ files. IsLong urls files) → ForSome (tells after).files (λ files. IsLong urls files)
  notes_long = appended.urls_long tells law result more old.frontier old.suffixes before after urls old new drum open_crawl was_sound adds

  -- the tables stay at each answer
  tables_stay : KeepsTables old new
  tables_stay = let both = at_each result adds.done adds.kept in record { frontier = both.0; suffixes = both.1; pairs = adds.pairs }

  pub adds_notes : (was now : Parts) → was.urls ≡ urls → was.rest ≡ Crawl old → now.rest ≡ Crawl new → now.urls ≡ urls → (now.rest ≡ was.rest → now ≡ was)
      → AddsNotes tells result notes was now before after
  adds_notes was now was_urls was_rest now_rest now_urls same =
      let back : new ≡ old → now ≡ was = λ is. same (now_rest ∙ ap (λ (c : Ledger). Crawl c) is ∙ sym was_rest) in
      record {
        holds = ok_then result _ adds.done (λ other ok done. on_ok_then result (λ gives state holds.
            appended.state_more tells law result more old.frontier old.suffixes before after urls old new drum open_crawl was_sound adds
            was now state was_urls was_rest now_rest now_urls other ok done gives next_in holds)
            (adds.log other).acknowledged);
        stops = λ state holds. appended.stops_at tells law result more old.frontier old.suffixes before after urls old new drum open_crawl was_sound adds was state was_urls was_rest next_in holds;
        legal = λ state holds. appended.legal_at tells law result more old.frontier old.suffixes before after urls old new drum open_crawl was_sound adds was state was_urls was_rest next_in holds;
        others = appended.log_changes tells law result more old.frontier old.suffixes before after urls old new drum open_crawl was_sound adds;
        memory = λ is. ((adds.memory is).0, back (adds.memory is).1);
        full = λ n is. (adds.log (λ memory. cc)).records.full n is;
        damaged = λ f at is. (adds.log (λ memory. cc)).records.damaged f at is;
        idle = λ none. let nothing = call.idle (ap (map Robots) none) in (nothing.0, nothing.1, back nothing.2);
        urls = now_urls ∙ sym was_urls;
        tables = λ c d was_is now_is.
            subst (λ (x : Ledger). KeepsTables x d) (same_crawl old c (sym was_rest ∙ was_is)) (subst (KeepsTables old) (same_crawl new d (sym now_rest ∙ now_is)) tables_stay);
      }
