-- A pass of an open store, and what it reads of the URLs, over states.
use Rattle.std.proofs.Common.{◌≡◌, ◌∙◌, ℕ, true, List, [], Option, None, Some, Result, Ok, Err, IsOk, IsErrOf, OnOk, refl, sym, ap, subst}
use Rattle.std.specs.Prelude.{is_some, unwrap_or}
use Rattle.std.specs.Option.{ForSome}
use Rattle.std.proofs.lemmas.Result.{IfOk-weaker}
use Rattle.irl_base.specs.declared.fault.Fault.{Fault}
use Rattle.irl_base.specs.declared.fault.Fault.TheVariants.{Memory}
use Rattle.irl_offer.specs.declared.place.Place.{Place}
use Rattle.irl_offer.specs.declared.settings.Kind.TheVariants.{Crawl as CrawlKind}
use Rattle.irl_offer.specs.declared.settings.Settings.{Settings}
use Rattle.irl_key.specs.Key.{key_of}
use Rattle.irl_star.specs.Degrees.{Counts as DegreeCounts}
use Rattle.irl_beast.specs.declared.item.Item.{Item}
use Rattle.irl_model.specs.Book.{Book}
use Rattle.irl_events.specs.Events.{Pass, Progress, progress}
use Rattle.irl_events.specs.Legal.{broken}
use Rattle.irl_events.specs.State.{State}
use Rattle.irl_core.specs.States.{begun_with, cut_count, places_of}
use Rattle.irl_disk.specs.Disk.{Files}
use Rattle.irl_disk.specs.Images.{Told, IsConsistent, Leaves}
use Rattle.irl_bay.specs.Drum.{Drum, IsDrum}
use Rattle.irl_bay.specs.Holding.{IsLong}
use Rattle.irl_frontier.specs.Frontier.{Frontier, IsFrontier, after_pass, places_for}
use Rattle.irl_ledger.specs.declared.ledger.Ledger.{Ledger}
use Rattle.irl_ledger.specs.Adding.{AddsToLog}
use Rattle.irl_ledger.specs.Crawling.{domain_of}
use Rattle.irl_ledger.specs.Holding.{FitsBays, HoldsLedger, IsFrontierOf, IsOpenLedger, domain_by, domains_told}
use Rattle.irl_ledger.specs.Passing.{fresh_of}
use Rattle.irl_ledger.specs.Reading.{ReadsUrls}
use Rattle.irl_ledger.proofs.Passes.{fits_passed, pass_begun, pass_books, pass_tables, places_are}
use Rattle.irl_yard.specs.declared.parts.Parts.{Parts}
use Rattle.irl_yard.specs.declared.parts.Rest.{Rest}
use Rattle.irl_yard.specs.declared.parts.Rest.TheVariants.{Crawl}
use Rattle.irl_yard.specs.Adding.{with_event}
use Rattle.irl_yard.specs.Holding.{HasOneOf, HoldsOpen, HoldsState, HoldsUrls, IsOpenRest}
use Rattle.irl_yard.specs.Merges.{ReadsState}
use Rattle.irl_yard.specs.Passing.{AddsPass, AreFresh, IsDue, suffixes_in, with_pass}
use Rattle.irl_yard.specs.Standing.{IsStateOf}
use Rattle.irl_yard.proofs.Adding.{IsNext, IsNextIn, legal_next, log_changes, state_next, still_open, stops_next, urls_long}
use Rattle.irl_schedule.proofs.Outcomes.{by_answer}
use Rattle.irl_yard.proofs.Appended.{from_ok, legal_as, on_err_then, same_crawl}
use Rattle.irl_yard.proofs.Beside.{state_same}
use Rattle.irl_yard.proofs.Holding.{stops_same}

-- ---- reading
-- URLs that are read of a crawl, over states
pub reads_state : {A : Type 0} (result : Result A Fault) (gives : A → Book → Type 0) (old new : Told) (was now : Parts) → IsDrum was.urls → IsConsistent new → IsOpenRest was.urls was.rest old.files
    → was.urls.settings.kind ≡ CrawlKind → now.urls ≡ was.urls → now.rest ≡ was.rest → ReadsUrls result gives was.urls old new → ReadsState result gives was now old new
reads_state result gives old new was now law consistent open_rest kind urls rest reads = record {
  value = IfOk-weaker result _ _ (λ one found files told state holds. found files told state.urls holds.urls.urls_hold) reads.value;
  whole = λ f at is files told state holds.
      reads.whole f at is files told state.urls holds.urls.urls_hold (legal_as was.urls.settings kind state.pairs state.urls state.events holds.urls.legal).taken;
  same = urls;
  holds = λ state holds. state_same old new was now state law consistent reads.reads.stops open_rest urls rest holds;
  stops = λ state holds. stops_same old new was.urls state law holds.urls reads.reads.stops;
}

-- the fresh URLs of a book are those that the rest asks for
pub are_fresh : (rest : Rest) (ledger : Ledger) (fresh : List Item) (book : Book) → rest ≡ Crawl ledger
    → fresh ≡ fresh_of (domain_of (unwrap_or ledger.suffixes [])) book ledger.frontier.progress.read ledger.frontier.progress.sent → AreFresh rest fresh book
are_fresh rest ledger fresh book is found =
    let here : AreFresh (Crawl ledger) fresh book = λ suffixes begun.
    found ∙ ap (λ (o : Option (List ℕ)). fresh_of (domain_of (unwrap_or o [])) book ledger.frontier.progress.read ledger.frontier.progress.sent) begun in
    subst (λ (r : Rest). AreFresh r fresh book) (sym is) here

-- ---- answers
on_ok_from : (result : Result Unit Fault) (P : Type 0) → (IsOk result → P) → OnOk result P
on_ok_from (Ok value) P has = has refl
on_ok_from (Err error) P has = tt

ok_no_err : (result : Result Unit Fault) (error : Fault) → IsOk result → IsErrOf result error → ⊥
ok_no_err (Ok value) error ok is = cc
ok_no_err (Err other) error ok is = cc

-- ---- a pass
-- a crawl that has begun has its suffixes
some_suffixes : (suffixes : Option (List ℕ)) → true ≡ is_some suffixes → (text : List ℕ) × (suffixes ≡ Some text)
some_suffixes None is = absurd (cc)
some_suffixes (Some text) is = (text, refl)

-- what the state says of a pass that reads these fresh URLs, where its budgets go by the pairs that were told
record IsNextPass (settings : Settings) (state : State) (x : Frontier) (fresh : List Item) : Type 0 where
  next : IsNext settings state.urls state.pairs state.events (Pass x.progress.sent) (places_for (domains_told x.told state.pairs) x fresh)
  begun : begun_with (with_event (Pass x.progress.sent) (places_for (domains_told x.told state.pairs) x fresh) state).events ≡ begun_with state.events
  tables : IsFrontierOf settings state.urls state.pairs (with_event (Pass x.progress.sent) (places_for (domains_told x.told state.pairs) x fresh) state).events
      (after_pass (domains_told x.told state.pairs) x x.progress.sent fresh)
  same : with_event (Pass x.progress.sent) (places_for (domains_told x.told state.pairs) x fresh) state ≡ with_pass settings state

next_pass : (images : Files → Type 0) (urls : Drum) (ledger : Ledger) (state : State) (fresh : List Item) → urls.settings.kind ≡ CrawlKind → IsFrontier ledger.frontier
    → FitsBays urls ledger.pairs ledger.frontier → ledger.frontier.progress.begun ≡ is_some ledger.suffixes → IsDue urls ledger
    → broken ledger.frontier.progress (Pass ledger.frontier.progress.sent) (places_for (domains_told ledger.frontier.told state.pairs) ledger.frontier fresh) ≡ None
    → HoldsUrls images urls state → HoldsLedger images urls.settings ledger state.urls state.pairs state.events → AreFresh (Crawl ledger) fresh state.urls
    → IsNextPass urls.settings state ledger.frontier fresh
next_pass images urls ledger state fresh kind keeps fits begun due lawful held holds are =
    let settings = urls.settings in
    let x = ledger.frontier in
    let suffixes = some_suffixes ledger.suffixes (sym due.begun ∙ begun) in
    let began : begun_with state.events ≡ Some suffixes.0 = sym holds.suffixes ∙ suffixes.1 in
    let crawl = legal_as settings kind state.pairs state.urls state.events held.legal in
    let cuts : x.progress.cuts ≡ cut_count state.urls = due.sent ∙ held.urls_hold.numbers.cuts in
    let domain = domain_by state.events in
    let those : fresh ≡ fresh_of domain state.urls x.progress.read x.progress.sent =
    are suffixes.0 suffixes.1 ∙ ap (λ (o : Option (List ℕ)). fresh_of (domain_of (unwrap_or o [])) state.urls x.progress.read x.progress.sent) (sym began) in
    let all = places_are settings state.urls state.pairs state.events x crawl keeps holds.frontier suffixes.0 began cuts fits.pairs_sent in
    let adds = domains_told x.told state.pairs in
    let own : List Item = fresh_of domain state.urls x.progress.read x.progress.sent in
    let legal : broken (progress settings.queues settings.buckets state.events) (Pass x.progress.sent) (places_for adds x own) ≡ None =
    subst (λ (f : List Item). broken (progress settings.queues settings.buckets state.events) (Pass x.progress.sent) (places_for adds x f) ≡ None) those
    (subst (λ (y : Progress). broken y (Pass x.progress.sent) (places_for adds x fresh) ≡ None) holds.frontier.progress_is lawful) in
    subst (IsNextPass settings state x) (sym those) (record {
      next = record {
        keeps = legal;
        told = pass_books settings state.urls state.pairs state.events x crawl keeps holds.frontier suffixes.0 began cuts fits.pairs_sent;
      };
      begun = pass_begun settings state.urls state.pairs state.events x crawl keeps holds.frontier suffixes.0 began cuts fits.pairs_sent ∙ sym began;
      tables = pass_tables settings state.urls state.pairs state.events x crawl keeps holds.frontier suffixes.0 began cuts fits.pairs_sent;
      same = ap (λ (ps : List Place). with_event (Pass x.progress.sent) ps state) all
          ∙ ap (λ (y : Progress). with_event (Pass y.sent) (places_of domain key_of settings state.urls y y.sent) state) holds.frontier.progress_is;
    })

module _ {S : Type 0} (tells : S → Told) (law : (s : S) → IsConsistent (tells s)) (result : Result Unit Fault) (fresh : List Item) (before after : S) (urls : Drum) (old new : Ledger)
    (drum : IsDrum urls)
    (open_crawl : IsOpenLedger urls old (tells before).files) (was_sound : old.log.journal.is_sound ≡ true) (kind : urls.settings.kind ≡ CrawlKind) (keeps : IsFrontier old.frontier)
    (due : IsDue urls old)
    (lawful : (adds : List (List ℕ)) → broken old.frontier.progress (Pass old.frontier.progress.sent) (places_for adds old.frontier fresh) ≡ None)
    (each : (adds : List (List ℕ)) → DegreeCounts old.frontier.degrees adds → AddsToLog tells result (Pass old.frontier.progress.sent)
    (after_pass adds old.frontier old.frontier.progress.sent fresh) old.suffixes old new before after) where
  abbrev sent : ℕ
  sent = old.frontier.progress.sent

  abbrev told_then : List (List ℕ) → Frontier
  told_then adds = after_pass adds old.frontier sent fresh

  abbrev some_adds : List (List ℕ)
  some_adds = keeps.degrees.0

  abbrev some_call : AddsToLog tells result (Pass sent) (told_then some_adds) old.suffixes old new before after
  some_call = each some_adds keeps.degrees.1

  -- the parts are open still
  pub pass_open : IsOpenLedger urls new (tells after).files
  pass_open = still_open tells law result (Pass sent) [] (told_then some_adds) old.suffixes before after urls old new drum open_crawl was_sound some_call
      (fits_passed urls old.pairs some_adds old.frontier fresh open_crawl.fits) (sym due.begun ∙ open_crawl.begun)

  pub pass_long : ForSome (tells before).files (λ files. IsLong urls files) → ForSome (tells after).files (λ files. IsLong urls files)
  pass_long = urls_long tells law result (Pass sent) [] (told_then some_adds) old.suffixes before after urls old new drum open_crawl was_sound some_call

  -- over a state that has these fresh URLs
  module _ (state : State) (are : AreFresh (Crawl old) fresh state.urls) where
    abbrev adds : List (List ℕ)
    adds = domains_told old.frontier.told state.pairs

    abbrev placed : List Place
    placed = places_for adds old.frontier fresh

    call : HoldsLedger (tells before).images urls.settings old state.urls state.pairs state.events → AddsToLog tells result (Pass sent) (told_then adds) old.suffixes old new before after
    call held = each adds held.frontier.degrees

    next_in : HoldsUrls (tells before).images urls state → (held : HoldsLedger (tells before).images urls.settings old state.urls state.pairs state.events)
        → IsNextIn tells law result (Pass sent) placed (told_then adds) old.suffixes before after urls old new drum open_crawl was_sound (call held) state
    next_in beside held =
        let is = next_pass (tells before).images urls old state fresh kind keeps open_crawl.fits open_crawl.begun due (lawful adds) beside held are in
        record { next = is.next; begun = is.begun ∙ sym held.suffixes; tables = is.tables }

    same_after : HoldsUrls (tells before).images urls state → HoldsLedger (tells before).images urls.settings old state.urls state.pairs state.events
        → with_event (Pass sent) placed state ≡ with_pass urls.settings state
    same_after beside held = (next_pass (tells before).images urls old state fresh kind keeps open_crawl.fits open_crawl.begun due (lawful adds) beside held are).same

    -- what the state holds of the parts
    abbrev IsWas : Parts → Type 0
    IsWas was = (was.urls ≡ urls) × (was.rest ≡ Crawl old)

    urls_held : (was : Parts) → IsWas was → HoldsState (tells before).images was state → HoldsUrls (tells before).images urls state
    urls_held was is holds = subst (λ (d : Drum). HoldsUrls (tells before).images d state) is.0 holds.urls

    ledger_held : (was : Parts) → IsWas was → HoldsState (tells before).images was state → HoldsLedger (tells before).images urls.settings old state.urls state.pairs state.events
    ledger_held was is holds =
        let opened : HoldsOpen (tells before).images urls.settings (Crawl old) state.urls state.pairs state.events =
        subst (λ (r : Rest). HoldsOpen (tells before).images urls.settings r state.urls state.pairs state.events) is.1
        (subst (λ (d : Drum). HoldsOpen (tells before).images d.settings was.rest state.urls state.pairs state.events) is.0 holds.open_rest) in
        opened.1

    pass_more : (was now : Parts) → IsWas was → now.rest ≡ Crawl new → now.urls ≡ urls → IsOk result → HoldsState (tells before).images was state
        → HoldsState (tells after).images now (with_pass urls.settings state)
    pass_more was now is now_rest now_urls ok holds =
        let beside = urls_held was is holds in
        let held = ledger_held was is holds in
        let adds_to = call held in
        let other : IsErrOf result Memory → ⊥ = ok_no_err result Memory ok in
        subst (HoldsState (tells after).images now) (same_after beside held)
        (state_next tells law result (Pass sent) placed (told_then adds) old.suffixes before after urls old new drum open_crawl was_sound adds_to was now state is.0 is.1 now_rest now_urls other ok
        (from_ok result ok adds_to.done) (from_ok result ok (adds_to.log other).acknowledged) (next_in beside held) holds)

    pass_stops : (was : Parts) → IsWas was → HoldsState (tells before).images was state → Leaves (tells before) (tells after) (HasOneOf state (with_pass urls.settings state))
    pass_stops was is holds =
        let beside = urls_held was is holds in
        let held = ledger_held was is holds in
        subst (λ (y : State). Leaves (tells before) (tells after) (HasOneOf state y)) (same_after beside held)
        (stops_next tells law result (Pass sent) placed (told_then adds) old.suffixes before after urls old new drum open_crawl was_sound (call held) was state is.0 is.1 (next_in beside held) holds)

    pass_legal : (was : Parts) → IsWas was → HoldsState (tells before).images was state → IsStateOf urls.settings (with_pass urls.settings state)
    pass_legal was is holds =
        let beside = urls_held was is holds in
        let held = ledger_held was is holds in
        subst (λ (y : State). IsStateOf urls.settings y) (same_after beside held)
        (legal_next tells law result (Pass sent) placed (told_then adds) old.suffixes before after urls old new drum open_crawl was_sound (call held) was state is.0 is.1 (next_in beside held) holds)

  -- all of it
  pub adds_pass : (was now : Parts) → was.urls ≡ urls → was.rest ≡ Crawl old → now.rest ≡ Crawl new → now.urls ≡ urls → (now.rest ≡ was.rest → now ≡ was)
      → AddsPass tells result fresh was now before after
  adds_pass was now was_urls was_rest now_rest now_urls same =
      let settings : urls.settings ≡ was.urls.settings = ap (λ (d : Drum). d.settings) (sym was_urls) in
      record {
        holds = on_ok_from result _ (λ ok state holds are. subst (λ (s : Settings). HoldsState (tells after).images now (with_pass s state)) settings
            (pass_more state (subst (λ (r : Rest). AreFresh r fresh state.urls) was_rest are) was now (was_urls, was_rest) now_rest now_urls ok holds));
        stops = λ state holds are. subst (λ (s : Settings). Leaves (tells before) (tells after) (HasOneOf state (with_pass s state))) settings
            (pass_stops state (subst (λ (r : Rest). AreFresh r fresh state.urls) was_rest are) was (was_urls, was_rest) holds);
        legal = λ state holds are. subst (λ (s : Settings). IsStateOf s (with_pass s state)) settings
            (pass_legal state (subst (λ (r : Rest). AreFresh r fresh state.urls) was_rest are) was (was_urls, was_rest) holds);
        others = log_changes tells law result (Pass sent) [] (told_then some_adds) old.suffixes before after urls old new drum open_crawl was_sound some_call;
        memory = λ is. ((some_call.memory is).0, same (now_rest ∙ ap (λ (c : Ledger). Crawl c) (some_call.memory is).1 ∙ sym was_rest));
        full = λ n is. (some_call.log (λ memory. cc)).records.full n is;
        damaged = λ f at is. (some_call.log (λ memory. cc)).records.damaged f at is;
        urls = now_urls ∙ sym was_urls;
        tables = λ c d was_is now_is.
            let old_is = same_crawl old c (sym was_rest ∙ was_is) in
            let new_is = same_crawl new d (sym now_rest ∙ now_is) in (
              on_ok_from result _ (λ ok. (
                some_adds,
                ap (λ (p : Ledger). p.frontier) (sym new_is) ∙ (from_ok result ok some_call.done).0
                    ∙ ap (λ (p : Ledger). after_pass some_adds p.frontier p.frontier.progress.sent fresh) old_is,
              )),
              on_err_then result (λ kept. ap (λ (p : Ledger). p.frontier) (sym new_is) ∙ kept.0 ∙ ap (λ (p : Ledger). p.frontier) old_is) some_call.kept,
            );
        suffixes = ap suffixes_in now_rest ∙ by_answer result some_call.done some_call.kept (λ done. done.1) (λ kept. kept.1) ∙ sym (ap suffixes_in was_rest);
      }
