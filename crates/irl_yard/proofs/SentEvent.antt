-- The event that pairs are sent, over states.
use Rattle.std.proofs.Common.{◌≡◌, ◌∙◌, inl, ⊎_elim, ℕ, ◌-◌, ◌≤◌, Bool, true, false, nat_eq, cond, List, [], ◌∷◌, ◌++◌, length, Option, Result, Ok, Err, IsOk, IsErrOf, refl, sym, ap, subst, arith}
use Rattle.std.specs.Prelude.{unwrap_or}
use Rattle.std.proofs.lemmas.Bool.{eq-eqb, ne_eqb}
use Rattle.std.proofs.lemmas.Bool.Decides.{eqb_tells}
use Rattle.irl_base.specs.declared.fault.Fault.{Fault}
use Rattle.irl_base.specs.declared.fault.Fault.TheVariants.{Damaged, Failed, Full, Memory}
use Rattle.irl_offer.specs.declared.settings.Settings.{Settings}
use Rattle.irl_key.specs.Key.{key_of}
use Rattle.irl_model.specs.Book.{Book, judged, judged_offers}
use Rattle.irl_model.proofs.Merges.{earlier_all, length-judged}
use Rattle.irl_events.specs.Events.{Event, Pairs, Progress, progress}
use Rattle.irl_events.specs.Links.{pairs as pairs_of}
use Rattle.irl_events.specs.State.{State}
use Rattle.irl_core.specs.States.{AreSent, begun_with, cut_count, judged_by}
use Rattle.irl_disk.specs.Disk.{Files}
use Rattle.irl_disk.specs.Images.{Told, IsConsistent, Leaves}
use Rattle.irl_disk.proofs.Stretches.{stays}
use Rattle.irl_bay.specs.Drum.{Drum, IsDrum}
use Rattle.std.specs.Option.{ForSome}
use Rattle.irl_bay.specs.Holding.{IsLong}
use Rattle.irl_bay.specs.Standing.{IsBookOf}
use Rattle.irl_bay.proofs.Staying.{leaves_same, tells_same}
use Rattle.irl_head.specs.StoreFiles.{crawl_file}
use Rattle.irl_frontier.specs.Frontier.{Frontier, after_other}
use Rattle.irl_ledger.specs.declared.ledger.Ledger.{Ledger}
use Rattle.irl_ledger.specs.Adding.{AddsToLog}
use Rattle.irl_ledger.specs.Crawling.{domain_of}
use Rattle.irl_ledger.specs.Holding.{FitsBays, HoldsLedger, IsFrontierOf, IsOpenLedger}
use Rattle.irl_ledger.specs.Sending.{pairs_event}
use Rattle.irl_ledger.proofs.Reading.{none_gone}
use Rattle.irl_ledger.proofs.PairsEvent.{pairs_keep}
use Rattle.irl_ledger.proofs.Tables.{tables_other}
use Rattle.irl_yard.specs.declared.parts.Parts.{Parts}
use Rattle.irl_yard.specs.declared.parts.Rest.{Rest}
use Rattle.irl_yard.specs.declared.parts.Rest.TheVariants.{Crawl}
use Rattle.irl_yard.specs.Adding.{with_event}
use Rattle.irl_yard.specs.Holding.{HasOneOf, HoldsOpen, HoldsState, HoldsUrls}
use Rattle.irl_yard.specs.Sending.{ArePairsSent, HasSentCuts, KeepsCrawl, LogsPairs, OnlyThese, sent_of, sent_state}
use Rattle.irl_yard.specs.Standing.{IsStateOf}
use Rattle.irl_yard.proofs.Adding.{IsNext, IsNextIn, begun_more, legal_next, log_changes, only_log, state_next, still_open, stops_next, told_log, urls_long}
use Rattle.irl_schedule.proofs.Outcomes.{by_answer, ok_gives, ok_weaker}
use Rattle.irl_yard.proofs.Holding.{held_has, held_legal}
use Rattle.irl_yard.proofs.Appended.{same_crawl}
use Rattle.irl_yard.proofs.SentStates.{keeps_crawl, on_ok, pairs_stay}

-- ---- the numbers of the event
whole_judged : (settings : Settings) (book : Book) → IsBookOf settings book → length (judged book) ≡ judged_by book (cut_count book)
whole_judged settings book is =
    let all = ap (λ (b : Book). length (judged_offers b)) (earlier_all (cut_count book - book.dropped) book (omega arith)) in
    omega (arith, length-judged book, all, none_gone settings book is)

event_same : (images : Files → Type 0) (urls : Drum) (old : Ledger) (state : State) → HoldsUrls images urls state → HoldsLedger images urls.settings old state.urls state.pairs state.events
    → pairs_event urls old.pairs ≡ sent_of state
event_same images urls old state beside held =
    let cuts : urls.cuts ≡ cut_count state.urls = beside.urls_hold.numbers.cuts in
    let many : urls.last.judged ≡ judged_by state.urls (cut_count state.urls) = beside.urls_hold.numbers.commit.judged ∙ whole_judged urls.settings state.urls beside.urls_hold.book_is in
    let sent : old.pairs.last.judged ≡ judged_by state.pairs (cut_count state.pairs) = held.pairs_hold.numbers.commit.judged ∙ whole_judged old.pairs.settings state.pairs held.pairs_hold.book_is in
    ap (λ (n : ℕ). Pairs n urls.last.judged old.pairs.last.judged) cuts ∙ ap (λ (n : ℕ). Pairs (cut_count state.urls) n old.pairs.last.judged) many
    ∙ ap (λ (n : ℕ). Pairs (cut_count state.urls) (judged_by state.urls (cut_count state.urls)) n) sent

cuts_known : (images : Files → Type 0) (urls : Drum) (old : Ledger) (state : State) → HoldsUrls images urls state → HoldsLedger images urls.settings old state.urls state.pairs state.events
    → (test : Bool) → nat_eq old.frontier.progress.cuts urls.cuts ≡ test → sent_state urls.settings state ≡ cond test state (with_event (sent_of state) [] state)
cuts_known images urls old state beside held test is =
    let there : nat_eq (progress urls.settings.queues urls.settings.buckets state.events).cuts (cut_count state.urls) ≡ test =
    ap (λ (x : Progress). nat_eq x.cuts (cut_count state.urls)) (sym held.frontier.progress_is) ∙ ap (λ (n : ℕ). nat_eq old.frontier.progress.cuts n) (sym beside.urls_hold.numbers.cuts) ∙ is in
    ap (λ (t : Bool). cond t state (with_event (sent_of state) [] state)) there

-- ---- the event may come next
-- what the books say of it
abbrev OfPairs : State → Event → Type 0
OfPairs state (Pairs cuts many sent) = AreSent (pairs_of (domain_of (unwrap_or (begun_with state.events) [])) key_of state.urls cuts) state.urls state.pairs cuts many sent
OfPairs state event = Unit {0}

pub pairs_next : (images : Files → Type 0) (urls : Drum) (old : Ledger) (state : State) → FitsBays urls old.pairs old.frontier → old.frontier.progress.begun ≡ true → HoldsUrls images urls state
    → HoldsLedger images urls.settings old state.urls state.pairs state.events → ArePairsSent state
    → IsNext urls.settings state.urls state.pairs state.events (pairs_event urls old.pairs) [] × (begun_with (state.events ++ (pairs_event urls old.pairs, []) ∷ []) ≡ begun_with state.events)
    × IsFrontierOf urls.settings state.urls state.pairs (state.events ++ (pairs_event urls old.pairs, []) ∷ []) (after_other old.frontier (pairs_event urls old.pairs))
pairs_next images urls old state fits begun beside held sent =
    let event = pairs_event urls old.pairs in
    let x = progress urls.settings.queues urls.settings.buckets state.events in
    let is : old.frontier.progress ≡ x = held.frontier.progress_is in
    let begun_x : x.begun ≡ true = ap (λ (p : Progress). p.begun) (sym is) ∙ begun in
    let same = begun_more urls.settings.queues urls.settings.buckets state.events (event, []) begun_x in
    let now : AreSent (pairs_of (domain_of (unwrap_or (begun_with state.events) [])) key_of state.urls urls.cuts) state.urls state.pairs urls.cuts urls.last.judged old.pairs.last.judged =
    subst (λ (e : Event). OfPairs state e) (sym (event_same images urls old state beside held)) sent in (
      record {
        keeps = pairs_keep x urls.cuts urls.last.judged old.pairs.last.judged begun_x (omega (arith, fits.cuts, ap (λ (p : Progress). p.cuts) is))
            (omega (arith, fits.sent, ap (λ (p : Progress). p.sent) is))
            (omega (arith, fits.pairs_sent, fits.told, ap (λ (p : Progress). p.pairs) is));
        told = (
          subst (λ (o : Option (List ℕ)). AreSent (pairs_of (domain_of (unwrap_or o [])) key_of state.urls urls.cuts) state.urls state.pairs urls.cuts urls.last.judged old.pairs.last.judged)
              (sym same) now,
          refl,
        );
      },
      same,
      tables_other urls.settings state.urls state.pairs state.events old.frontier event same held.frontier,
    )

-- ---- what is logged
ok_no_err : (result : Result Unit Fault) (fault : Fault) → IsOk result → IsErrOf result fault → ⊥
ok_no_err (Ok value) fault is named = cc
ok_no_err (Err error) fault is named = cc

module _ {S : Type 0} (tells : S → Told) (law : (s : S) → IsConsistent (tells s)) (result : Result Unit Fault) (before after : S) (was now : Parts) (old new : Ledger) (drum : IsDrum was.urls)
    (was_rest : was.rest ≡ Crawl old) (now_rest : now.rest ≡ Crawl new) (now_urls : now.urls ≡ was.urls) (same_parts : now.rest ≡ was.rest → now ≡ was)
    (opened : IsOpenLedger was.urls old (tells before).files) (sound : old.log.journal.is_sound ≡ true) (begun : old.frontier.progress.begun ≡ true) where
  abbrev event : Event
  event = pairs_event was.urls old.pairs

  abbrev then : Frontier
  then = after_other old.frontier event

  held_in : (state : State) → HoldsState (tells before).images was state → HoldsLedger (tells before).images was.urls.settings old state.urls state.pairs state.events
  held_in state holds =
      let both : HoldsOpen (tells before).images was.urls.settings (Crawl old) state.urls state.pairs state.events =
      subst (λ (r : Rest). HoldsOpen (tells before).images was.urls.settings r state.urls state.pairs state.events) was_rest holds.open_rest in
      both.1

  -- a ledger that keeps the crawl, and one that knows of all cuts
  keeps : KeepsCrawl old new → (first second : Ledger) → was.rest ≡ Crawl first → now.rest ≡ Crawl second → KeepsCrawl first second
  keeps = keeps_crawl was now old new was_rest now_rest

  knows : new.frontier.progress.cuts ≡ was.urls.cuts → HasSentCuts now
  knows cuts ledger is = ap (λ (l : Ledger). l.frontier.progress.cuts) (same_crawl ledger new (sym is ∙ now_rest)) ∙ cuts ∙ ap (λ (d : Drum). d.cuts) (sym now_urls)

  module _ (differ : old.frontier.progress.cuts ≡ was.urls.cuts → ⊥) (adds : AddsToLog tells result event then old.suffixes old new before after) where
    next_in : (state : State) → HoldsState (tells before).images was state → ArePairsSent state
        → IsNextIn tells law result event [] then old.suffixes before after was.urls old new drum opened sound adds state
    next_in state holds sent =
        let held = held_in state holds in
        let next = pairs_next (tells before).images was.urls old state opened.fits begun holds.urls held sent in
        record { next = next.0; begun = next.1 ∙ sym held.suffixes; tables = next.2 }

    sent_is : (state : State) → HoldsState (tells before).images was state → sent_state was.urls.settings state ≡ with_event event [] state
    sent_is state holds =
        let held = held_in state holds in
        cuts_known (tells before).images was.urls old state holds.urls held false (ne_eqb old.frontier.progress.cuts was.urls.cuts differ)
        ∙ ap (λ (e : Event). with_event e [] state) (sym (event_same (tells before).images was.urls old state holds.urls held))

    kept_crawl : KeepsCrawl old new
    kept_crawl = by_answer result adds.done adds.kept
        (λ done. record {
          suffixes = done.1;
          front = ap (λ (x : Frontier). x.progress.front) done.0;
          begun = ap (λ (x : Frontier). x.progress.begun) done.0 ∙ sym begun;
        })
        (λ kept. record {
          suffixes = kept.1;
          front = ap (λ (x : Frontier). x.progress.front) kept.0;
          begun = ap (λ (x : Frontier). x.progress.begun) kept.0;
        })

    added : LogsPairs tells result was now before after
    added = record {
      holds = on_ok result _ (λ value is state holds sent.
          let other : IsErrOf result Memory → ⊥ = λ memory. let both = sym is ∙ memory in let no : ⊥ = cc in no in
          subst (λ (x : State). HoldsState (tells after).images now x) (sym (sent_is state holds))
          (state_next tells law result event [] then old.suffixes before after was.urls old new drum opened sound adds was now state refl was_rest now_rest now_urls other
          (subst (λ (r : Result Unit Fault). IsOk r) (sym is) refl)
          (ok_gives result value adds.done is)
          (ok_gives result value (adds.log other).acknowledged is) (next_in state holds sent) holds));
      stops = λ state holds sent. subst (λ (x : State). Leaves (tells before) (tells after) (HasOneOf state x)) (sym (sent_is state holds))
          (stops_next tells law result event [] then old.suffixes before after was.urls old new drum opened sound adds was state refl was_rest (next_in state holds sent) holds);
      legal = λ state holds sent. subst (λ (x : State). IsStateOf was.urls.settings x) (sym (sent_is state holds))
          (legal_next tells law result event [] then old.suffixes before after was.urls old new drum opened sound adds was state refl was_rest (next_in state holds sent) holds);
      memory = λ is. ((adds.memory is).0, same_parts (now_rest ∙ ap (λ (l : Ledger). Crawl l) (adds.memory is).1 ∙ sym was_rest));
      full = λ n is. (adds.log (λ memory. cc)).records.full n is;
      damaged = λ f at is. (adds.log (λ memory. cc)).records.damaged f at is;
      cause = (log_changes tells law result event [] then old.suffixes before after was.urls old new drum opened sound adds).cause;
      others = record {
        told = told_log tells law result event [] then old.suffixes before after was.urls old new drum opened sound adds;
        stops = only_log tells law result event [] then old.suffixes before after was.urls old new drum opened sound adds;
      };
      urls = now_urls;
      tables = keeps kept_crawl;
      pairs = pairs_stay was now old new was_rest now_rest adds.pairs;
      sent = ok_weaker result adds.done (λ done. knows (ap (λ (x : Frontier). x.progress.cuts) done.0));
    }

  idle : old.frontier.progress.cuts ≡ was.urls.cuts → IsOk result × (new ≡ old) × (after ≡ before) → LogsPairs tells result was now before after
  idle same none =
      let parts : now ≡ was = same_parts (now_rest ∙ ap (λ (l : Ledger). Crawl l) none.1 ∙ sym was_rest) in
      let sent_is : (state : State) → HoldsState (tells before).images was state → sent_state was.urls.settings state ≡ state = λ state holds.
      cuts_known (tells before).images was.urls old state holds.urls (held_in state holds) true (eq-eqb old.frontier.progress.cuts was.urls.cuts same) in
      record {
        holds = on_ok result _ (λ value is state holds sent. subst (λ (x : State). HoldsState (tells after).images now x) (sym (sent_is state holds))
            (subst (λ (p : Parts). HoldsState (tells after).images p state) (sym parts) (subst (λ (x : S). HoldsState (tells x).images was state) (sym none.2) holds)));
        stops = λ state holds sent. subst (λ (x : S). Leaves (tells before) (tells x) (HasOneOf state (sent_state was.urls.settings state))) (sym none.2)
            (stays (tells before) (HasOneOf state (sent_state was.urls.settings state)) (law before) (λ image left. inl (held_has (tells before).images was.urls state image drum holds.urls left)));
        legal = λ state holds sent. subst (λ (x : State). IsStateOf was.urls.settings x) (sym (sent_is state holds)) (held_legal (tells before).images was.urls state drum holds.urls);
        memory = λ is. (none.2, parts);
        full = λ n is. ok_no_err result (Full n) none.0 is;
        damaged = λ f at is. ok_no_err result (Damaged f at) none.0 is;
        cause = record {
          later = subst (λ (x : S). (tells before).faults ≤ (tells x).faults) (sym none.2) (omega arith);
          rose = λ is. absurd (ok_no_err result Failed none.0 is);
        };
        others = subst (λ (x : S). OnlyThese (λ f. f ≡ crawl_file) (tells before) (tells x)) (sym none.2) (record {
          told = tells_same (λ f. f ≡ crawl_file) (tells before).files (tells before).files refl;
          stops = leaves_same (λ f. f ≡ crawl_file) (tells before) (tells before) (stays (tells before) (tells before).images (law before) (λ image left. left));
        });
        urls = now_urls;
        tables = keeps (record {
          suffixes = ap (λ (l : Ledger). l.suffixes) none.1;
          front = ap (λ (l : Ledger). l.frontier.progress.front) none.1;
          begun = ap (λ (l : Ledger). l.frontier.progress.begun) none.1;
        });
        pairs = pairs_stay was now old new was_rest now_rest (ap (λ (l : Ledger). l.pairs) none.1);
        sent = on_ok result _ (λ value is. knows (ap (λ (l : Ledger). l.frontier.progress.cuts) none.1 ∙ same));
      }

  pub logs_pairs : (old.frontier.progress.cuts ≡ was.urls.cuts → IsOk result × (new ≡ old) × (after ≡ before))
      → ((old.frontier.progress.cuts ≡ was.urls.cuts → ⊥) → AddsToLog tells result event then old.suffixes old new before after) → LogsPairs tells result was now before after
  logs_pairs none adds = ⊎_elim (λ same. idle same.1 (none same.1)) (λ other. added other.1 (adds other.1)) (eqb_tells old.frontier.progress.cuts was.urls.cuts)

-- ---- what is open stays so
module _ {S : Type 0} (tells : S → Told) (law : (s : S) → IsConsistent (tells s)) (result : Result Unit Fault) (before after : S) (was : Parts) (old new : Ledger) (drum : IsDrum was.urls)
    (opened : IsOpenLedger was.urls old (tells before).files) (sound : old.log.journal.is_sound ≡ true) (begun : old.frontier.progress.begun ≡ true) (told : old.frontier.told ≡ old.pairs.last.judged)
    (none : old.frontier.progress.cuts ≡ was.urls.cuts → IsOk result × (new ≡ old) × (after ≡ before))
    (adds : (old.frontier.progress.cuts ≡ was.urls.cuts → ⊥) → AddsToLog tells result (pairs_event was.urls old.pairs) (after_other old.frontier (pairs_event was.urls old.pairs)) old.suffixes old new
    before after) where
  abbrev sends : Event
  sends = pairs_event was.urls old.pairs

  abbrev sent : Frontier
  sent = after_other old.frontier sends

  fits_sent : FitsBays was.urls old.pairs sent
  fits_sent = record {
    settings = opened.fits.settings;
    cuts = omega arith;
    sent = omega arith;
    read = omega (arith, opened.fits.read, opened.fits.sent);
    fronts = opened.fits.fronts;
    pairs_sent = omega (arith, told);
    told = opened.fits.told;
  }

  pub event_open : IsOpenLedger was.urls new (tells after).files
  event_open = ⊎_elim
      (λ same.
      let idle = none same.1 in
      subst (λ (l : Ledger). IsOpenLedger was.urls l (tells after).files) (sym idle.1) (subst (λ (x : S). IsOpenLedger was.urls old (tells x).files) (sym idle.2) opened))
      (λ other. still_open tells law result sends [] sent old.suffixes before after was.urls old new drum opened sound (adds other.1) fits_sent (sym begun ∙ opened.begun))
      (eqb_tells old.frontier.progress.cuts was.urls.cuts)

  pub event_long : ForSome (tells before).files (λ files. IsLong was.urls files) → ForSome (tells after).files (λ files. IsLong was.urls files)
  event_long long = ⊎_elim
      (λ same. subst (λ (x : S). ForSome (tells x).files (λ files. IsLong was.urls files)) (sym (none same.1).2) long)
      (λ other. urls_long tells law result sends [] sent old.suffixes before after was.urls old new drum opened sound (adds other.1) long)
      (eqb_tells old.frontier.progress.cuts was.urls.cuts)
