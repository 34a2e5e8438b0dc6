-- Sending pairs: its three steps one after the other, over states.
use Rattle.std.proofs.Common.{◌≡◌, ◌∙◌, inl, inr, ℕ, ◌+◌, Bool, true, false, cond, List, [], Option, Some, Result, Ok, Err, OnOk, OnErr, IsErrOf, refl, sym, ap, subst, arith}
use Rattle.std.specs.Option.{ForSome}
use Rattle.irl_base.specs.declared.fault.Fault.{Fault}
use Rattle.irl_base.specs.declared.fault.Fault.TheVariants.{Damaged, Failed, Full, Memory}
use Rattle.irl_offer.specs.declared.settings.Settings.{Settings}
use Rattle.irl_model.specs.Book.{Book}
use Rattle.irl_events.specs.State.{State, IsFrontState}
use Rattle.irl_disk.specs.Disk.{Files}
use Rattle.irl_disk.specs.Images.{Told, IsConsistent, Leaves}
use Rattle.irl_layout.specs.BayFiles.{IsFileOf}
use Rattle.irl_bay.proofs.Staying.{leaves_both, only_wider, tells_both}
use Rattle.irl_schedule.proofs.Chains.{tells_wider}
use Rattle.irl_head.specs.StoreFiles.{crawl_file, pairs_base}
use Rattle.irl_disk.proofs.Stretches.{joins, widens, widens_by}
use Rattle.irl_bay.specs.Drum.{Drum, IsDrum}
use Rattle.irl_schedule.proofs.Outcomes.{ok_gives}
use Rattle.irl_events.specs.Events.{progress}
use Rattle.irl_core.specs.States.{begun_with, cut_count}
use Rattle.std.specs.Prelude.{is_some, nat_eq}
use Rattle.std.proofs.lemmas.Bool.{eq-eqb}
use Rattle.irl_ledger.specs.declared.ledger.Ledger.{Ledger}
use Rattle.irl_ledger.proofs.SentAlready.{none_new, same_book}
use Rattle.irl_yard.specs.declared.parts.Parts.{Parts}
use Rattle.irl_yard.specs.declared.parts.Rest.{Rest}
use Rattle.irl_yard.specs.declared.parts.Rest.TheVariants.{Plain, Crawl}
use Rattle.irl_yard.specs.Adding.{with_event}
use Rattle.irl_yard.proofs.Adding.{is_open}
use Rattle.irl_yard.proofs.Appended.{legal_as}
use Rattle.irl_yard.specs.Holding.{HasLedger, HasOneOf, HoldsOpen, HoldsState, IsOpenRest}
use Rattle.irl_yard.specs.Leading.{LeadsTo}
use Rattle.irl_yard.specs.Sending.{ArePairsSent, IsOnTheWay, IsSomeSent, HasSent, HasSentAll, HasBegun, IsSentFile, KeepsCrawl, LogsPairs, MayHaveSent, OffersState, OnlyThese, SendsPairs, TellsState, AreSentAlready, sent_of, sent_state, with_pairs}
use Rattle.irl_yard.specs.Standing.{HasState}
use Rattle.irl_yard.proofs.Holding.{held_legal}
use Rattle.irl_yard.proofs.Leading.{fails_one, fails_same, fails_then, fails_wider, leads_both, leads_one, leads_same}
use Rattle.irl_yard.proofs.PairRecords.{records_then}
use Rattle.irl_yard.proofs.SentStates.{begun_of, on_ok}
use Rattle.irl_yard.proofs.States.{event_front, state_same}

on_err : (result : Result Unit Fault) (fault : Fault) (P : Type 0) → result ≡ Err fault → P → OnErr result P
on_err (Ok value) fault P is has = absurd (cc)
on_err (Err other) fault P is has = has

on_ok_none : (result : Result Unit Fault) (fault : Fault) (P : Type 0) → result ≡ Err fault → OnOk result P
on_ok_none (Ok value) fault P is = absurd (cc)
on_ok_none (Err other) fault P is = tt

on_err_by : (result : Result Unit Fault) (P : Type 0) → ((fault : Fault) → result ≡ Err fault → P) → OnErr result P
on_err_by (Ok value) P gives = tt
on_err_by (Err fault) P gives = gives fault refl

no_failure : (result : Result Unit Fault) (value : Unit) → result ≡ Ok value → IsErrOf result Failed → ⊥
no_failure result value is failed = let both = sym is ∙ failed in cc

-- ---- which files change
these_wider : (among wide : ℕ → Type 0) (s t : Told) → ((f : ℕ) → among f → wide f) → OnlyThese among s t → OnlyThese wide s t
these_wider among wide s t wider these = record {
  told = tells_wider among wide s.files t.files wider these.told;
  stops = widens_by s t _ _ these.stops (λ x y changes. only_wider among wide x y wider changes);
}

these_both : (among : ℕ → Type 0) (s t u : Told) → IsConsistent t → OnlyThese among s t → OnlyThese among t u → OnlyThese among s u
these_both among s t u consistent first second = record {
  told = tells_both among s.files t.files u.files first.told second.told;
  stops = leaves_both among s t u consistent first.stops second.stops;
}

-- the log
abbrev IsLog : ℕ → Type 0
IsLog f = f ≡ crawl_file

-- the event comes behind
sent_front : (settings : Settings) (state : State) → IsFrontState state (sent_state settings state)
sent_front settings state = by_count (nat_eq (progress settings.queues settings.buckets state.events).cuts (cut_count state.urls))
  where
    by_count : (is_sent : Bool) → IsFrontState state (cond is_sent state (with_event (sent_of state) [] state))
    by_count true = state_same state
    by_count false = event_front (sent_of state) [] state

-- ---- what is kept in memory
-- one that has begun is a crawl
pub crawl_in : (rest : Rest) → HasBegun rest → HasLedger rest
crawl_in Plain begun = absurd begun
crawl_in (Crawl ledger) begun = (ledger, refl)

keeps_both : (first second third : Ledger) → KeepsCrawl first second → KeepsCrawl second third → KeepsCrawl first third
keeps_both first second third one two = record {
  suffixes = two.suffixes ∙ one.suffixes;
  front = two.front ∙ one.front;
  begun = two.begun ∙ one.begun;
}

-- ---- where the offers are refused
pub offers_alone : (result : Result Unit Fault) (fault : Fault) (was now : Parts) (s t : Told) → result ≡ Err fault → OffersState result was now s t → HasBegun now.rest → SendsPairs result was now s t
offers_alone result fault was now s t is offers begun = record {
  done = on_ok_none result fault _ is;
  kept = on_err result fault _ is offers.holds;
  failed = λ failed files told state holds. fails_wider (IsSomeSent was.urls.settings state) (IsOnTheWay was.urls.settings state) state s t (λ later some. inl some)
      (offers.failed failed files told state holds);
  stops = λ files told state holds. widens s t _ _ (offers.stops files told state holds) (λ image has. (has.0, has.1, inl has.2));
  full = offers.full;
  room = offers.room;
  records = offers.records;
  damaged = offers.damaged;
  spoilt = offers.spoilt;
  others = these_wider (IsFileOf pairs_base was.urls.settings.buckets) (IsSentFile was.urls.settings.buckets) s t (λ f is. inl is) offers.others;
  cause = offers.cause;
  urls = offers.urls;
  tables = offers.tables;
  begun = begun;
  sent = on_ok_none result fault _ is;
}

-- ---- where the tables are told then
module _ (offered told : Result Unit Fault) (value : Unit) (was mid now : Parts) (s t u : Told) (mid_law : IsDrum mid.urls) (now_law : IsDrum now.urls) (lawful : IsConsistent t)
    (lawful_u : IsConsistent u) (was_ok : offered ≡ Ok value) (offers : OffersState offered was mid s t)
    (mid_begun : HasBegun mid.rest) (was_open : IsOpenRest was.urls was.rest s.files) (mid_open : IsOpenRest mid.urls mid.rest t.files) (tells : TellsState told mid now t u)
    (now_begun : HasBegun now.rest) where
  -- what the offers left
  pub sent_first : (files : Files) → s.files ≡ Some files → (state : State) → HoldsState s.images was state
      → (book : Book) × HasSentAll was.urls.settings state book × LeadsTo state (with_pairs book state) mid s t × ArePairsSent (with_pairs book state)
  sent_first files here state holds = ok_gives offered value offers.all was_ok files here state holds

  pub stops_first : (files : Files) → s.files ≡ Some files → (state : State) → HoldsState s.images was state → Leaves s u (HasSent was.urls.settings state)
  stops_first files here state holds =
      let first = sent_first files here state holds in
      let later = offers.told files here in
      joins s t u (HasSent was.urls.settings state) (widens s t _ _ (offers.stops files here state holds) (λ image has. (has.0, has.1, inl has.2)))
      (widens t u _ _ (tells.stops later.0 later.1 (with_pairs first.0 state) first.2.holds) (λ image has. (first.0, first.1.may, inl has)))

  -- and what the tables' being told leaves of it
  leads_first : (files : Files) → s.files ≡ Some files → (state : State) → HoldsState s.images was state
      → (book : Book) × HasSentAll was.urls.settings state book × LeadsTo state (with_pairs book state) now s u × ArePairsSent (with_pairs book state)
  leads_first files here state holds =
      let first = sent_first files here state holds in
      let later = offers.told files here in
      let held = tells.holds later.0 later.1 (with_pairs first.0 state) first.2.holds in
      let stops = tells.stops later.0 later.1 (with_pairs first.0 state) first.2.holds in (
        first.0,
        first.1,
        leads_both state (with_pairs first.0 state) (with_pairs first.0 state) mid now s t u first.2 (leads_same (with_pairs first.0 state) now t u held stops),
        first.3,
      )

  these_first : OnlyThese (IsSentFile was.urls.settings.buckets) s u
  these_first = these_both (IsSentFile was.urls.settings.buckets) s t u lawful
      (these_wider (IsFileOf pairs_base was.urls.settings.buckets) (IsSentFile was.urls.settings.buckets) s t (λ f is. inl is) offers.others)
      (these_wider (λ f. ⊥) (IsSentFile was.urls.settings.buckets) t u (λ f is. absurd is) tells.others)

  keeps_first : (old new : Ledger) → was.rest ≡ Crawl old → now.rest ≡ Crawl new → KeepsCrawl old new
  keeps_first old new was_is now_is =
      let between = crawl_in mid.rest mid_begun in
      keeps_both old between.0 new (offers.tables old between.0 was_is between.1) (tells.tables between.0 new between.1 now_is)

  -- no file of the pairs changes then
  log_only : OnlyThese IsLog t u
  log_only = these_wider (λ f. ⊥) IsLog t u (λ f is. absurd is) tells.others

  pub told_alone : (fault : Fault) → told ≡ Err fault → SendsPairs told was now s u
  told_alone fault is = record {
    done = on_ok_none told fault _ is;
    kept = on_err told fault _ is (λ not files here state holds. let first = leads_first files here state holds in (first.0, first.1.may, first.2));
    failed = λ failed files here state holds.
        let first = sent_first files here state holds in
        let later = offers.told files here in
        let some : IsOnTheWay was.urls.settings state (with_pairs first.0 state) = inl (first.0, first.1.may, refl) in
        fails_then (IsOnTheWay was.urls.settings state) state (with_pairs first.0 state) mid s t u first.2
        (fails_same (IsOnTheWay was.urls.settings state) (with_pairs first.0 state) t u lawful_u (tells.stops later.0 later.1 (with_pairs first.0 state) first.2.holds) some
        (inr (mid.urls.settings, held_legal t.images mid.urls (with_pairs first.0 state) mid_law first.2.holds.urls)));
    stops = stops_first;
    full = λ n full. absurd (tells.full n full);
    room = λ b ledger full. absurd (tells.full (64 + b) full);
    records = λ files here state holds. records_then (IsErrOf offered Failed) (IsErrOf told Failed) was mid now s t u (no_failure offered value was_ok) lawful lawful_u was_open mid_open
        (crawl_in mid.rest mid_begun) log_only.stops tells.pairs (offers.records files here state holds);
    damaged = λ f at damaged files here state holds.
        let first = sent_first files here state holds in
        let later = offers.told files here in
        tells.damaged f at damaged later.0 later.1 (with_pairs first.0 state) first.2.holds;
    spoilt = λ f at is. inr (tells.spoilt f at is);
    others = these_first;
    cause = record { later = omega (arith, offers.cause.later, tells.cause.later); rose = λ failed. let r = tells.cause.rose failed in omega (arith, offers.cause.later, r) };
    urls = tells.urls ∙ offers.urls;
    tables = keeps_first;
    begun = now_begun;
    sent = on_ok_none told fault _ is;
  }

  -- ---- and then the event
  module _ {S : Type 0} (tell : S → Told) (result : Result Unit Fault) (last : Parts) (before after : S) (lawful_after : IsConsistent (tell after)) (is_u : tell before ≡ u) (told_value : Unit)
      (told_ok : told ≡ Ok told_value)
      (logs : LogsPairs tell result now last before after) (last_begun : HasBegun last.rest) where
    held : (files : Files) → s.files ≡ Some files → (state : State) → HoldsState s.images was state
        → (book : Book) × HasSentAll was.urls.settings state book × LeadsTo state (with_pairs book state) now s (tell before) × ArePairsSent (with_pairs book state)
    held files here state holds =
        let first = leads_first files here state holds in
        (first.0, first.1, subst (λ (x : Told). LeadsTo state (with_pairs first.0 state) now s x) (sym is_u) first.2, first.3)

    same_settings : now.urls.settings ≡ was.urls.settings
    same_settings = ap (λ (d : Drum). d.settings) (tells.urls ∙ offers.urls)

    only_memory : (fault : Fault) → result ≡ Err fault → (IsErrOf result Failed → ⊥) → IsErrOf result Memory
    only_memory Memory is not = is
    only_memory Failed is not = absurd (not is)
    only_memory (Full n) is not = absurd (logs.full n is)
    only_memory (Damaged f at) is not = absurd (logs.damaged f at is)

    log_after : OnlyThese IsLog t (tell after)
    log_after = these_both IsLog t (tell before) (tell after) (subst (λ (x : Told). IsConsistent x) (sym is_u) lawful_u) (subst (λ (x : Told). OnlyThese IsLog t x) (sym is_u) log_only) logs.others

    pairs_kept : (old new : Ledger) → mid.rest ≡ Crawl old → last.rest ≡ Crawl new → new.pairs ≡ old.pairs
    pairs_kept old new mid_is last_is =
        let between = crawl_in now.rest now_begun in
        logs.pairs between.0 new between.1 last_is ∙ tells.pairs old between.0 mid_is between.1

    pub sends_whole : SendsPairs result was last s (tell after)
    sends_whole = record {
      done = on_ok result _ (λ v is files here state holds.
          let has = held files here state holds in
          let x = with_pairs has.0 state in
          let y = sent_state now.urls.settings x in
          let gives = leads_one x y last (tell before) (tell after) (ok_gives result v logs.holds is x has.2.holds has.3) (sent_front now.urls.settings x) (logs.stops x has.2.holds has.3) in
          let whole = leads_both state x y now last s (tell before) (tell after) has.2 gives in
          (has.0, has.1, subst (λ (p : Settings). LeadsTo state (sent_state p x) last s (tell after)) same_settings whole));
      kept = on_err_by result _ (λ fault is not files here state holds.
          let has = held files here state holds in
          let none = logs.memory (only_memory fault is not) in (
            has.0,
            has.1.may,
            subst (λ (p : Parts). LeadsTo state (with_pairs has.0 state) p s (tell after)) (sym none.1)
                (subst (λ (x : S). LeadsTo state (with_pairs has.0 state) now s (tell x)) (sym none.0) has.2),
          ));
      failed = λ failed files here state holds.
          let has = held files here state holds in
          let x = with_pairs has.0 state in
          let way : State → Type 0 = IsOnTheWay was.urls.settings state in
          let end : way (sent_state now.urls.settings x) = inr (has.0, has.1, ap (λ (p : Settings). sent_state p x) same_settings) in
          fails_then way state x now s (tell before) (tell after) has.2
          (fails_one way x (sent_state now.urls.settings x) (tell before) (tell after) lawful_after (sent_front now.urls.settings x) (logs.stops x has.2.holds has.3) (inl (has.0, has.1.may, refl)) end
          (inr (now.urls.settings, held_legal (tell before).images now.urls x now_law has.2.holds.urls), inr (now.urls.settings, logs.legal x has.2.holds has.3)));
      stops = λ files here state holds.
          let has = held files here state holds in
          joins s (tell before) (tell after) (HasSent was.urls.settings state)
          (subst (λ (x : Told). Leaves s x (HasSent was.urls.settings state)) (sym is_u) (stops_first files here state holds))
          (widens (tell before) (tell after) _ _ (logs.stops (with_pairs has.0 state) has.2.holds has.3) (λ image one. on_the_way has.0 state image has.1 one));
      full = λ n full. absurd (logs.full n full);
      room = λ b ledger full. absurd (logs.full (64 + b) full);
      records = λ files here state holds. records_then (IsErrOf offered Failed) (IsErrOf result Failed) was mid last s t (tell after) (no_failure offered value was_ok) lawful lawful_after was_open
          mid_open (crawl_in mid.rest mid_begun) log_after.stops pairs_kept (offers.records files here state holds);
      damaged = λ f at damaged. absurd (logs.damaged f at damaged);
      spoilt = λ f at damaged. absurd (logs.damaged f at damaged);
      others = these_both (IsSentFile was.urls.settings.buckets) s (tell before) (tell after) (subst (λ (x : Told). IsConsistent x) (sym is_u) lawful_u)
          (subst (λ (x : Told). OnlyThese (IsSentFile was.urls.settings.buckets) s x) (sym is_u) these_first)
          (these_wider (λ f. f ≡ crawl_file) (IsSentFile was.urls.settings.buckets) (tell before) (tell after) (λ f is. inr is) logs.others);
      cause = record {
        later = omega (arith, offers.cause.later, tells.cause.later, logs.cause.later, ap (λ (x : Told). x.faults) is_u);
        rose = λ failed. let r = logs.cause.rose failed in omega (arith, offers.cause.later, tells.cause.later, r, ap (λ (x : Told). x.faults) is_u);
      };
      urls = logs.urls ∙ tells.urls ∙ offers.urls;
      tables = λ old new was_is now_is.
          let between = crawl_in now.rest now_begun in
          keeps_both old between.0 new (keeps_first old between.0 was_is between.1) (logs.tables between.0 new between.1 now_is);
      begun = last_begun;
      sent = logs.sent;
    }
      where
        on_the_way : (book : Book) (state : State) (image : Files) → HasSentAll was.urls.settings state book
            → HasOneOf (with_pairs book state) (sent_state now.urls.settings (with_pairs book state)) image → HasSent was.urls.settings state image
        on_the_way book state image all (inl has) = (book, all.may, inl has)
        on_the_way book state image all (inr has) = (book, all.may, inr (all, subst (λ (p : Settings). HasState (sent_state p (with_pairs book state)) image) same_settings has))

-- ---- where they were sent
-- sending again leaves the state
pub sent_again : (result : Result Unit Fault) (was now : Parts) (s t : Told) → IsOpenRest was.urls was.rest s.files → HasBegun was.rest → SendsPairs result was now s t → (IsErrOf result Failed → ⊥)
    → ForSome s.files (λ _. (state : State) → HoldsState s.images was state → AreSentAlready was.urls.settings state → HoldsState t.images now state)
sent_again result was now s t open_rest has_begun sends not = λ files told state holds already.
    let crawl_is = crawl_in was.rest has_begun in
    let old = crawl_is.0 in
    let rest = crawl_is.1 in
    let parts_open = is_open was.urls was.rest old s.files rest open_rest in
    let kind = parts_open.0 in
    let opened = parts_open.1 in
    let begun = begun_of was.rest old rest has_begun in
    let settings = was.urls.settings in
    let both : HoldsOpen s.images settings (Crawl old) state.urls state.pairs state.events =
    subst (λ (r : Rest). HoldsOpen s.images settings r state.urls state.pairs state.events) rest holds.open_rest in
    let crawl = legal_as settings kind state.pairs state.urls state.events holds.urls.legal in
    let begun_events : is_some (begun_with state.events) ≡ true = ap (λ (o : Option (List ℕ)). is_some o) (sym both.1.suffixes) ∙ sym opened.begun ∙ begun in
    let none = none_new settings state.urls state.pairs state.events holds.urls.urls_hold.book_is crawl begun_events already.0 in
    let same : (book : Book) → MayHaveSent settings state book → with_pairs book state ≡ state = λ book may.
    ap (λ (b : Book). with_pairs b state) (same_book settings state.urls state.pairs state.events book crawl.pairs_are may none already.1) in
    let sent : sent_state settings state ≡ state =
    ap (λ (t : Bool). cond t state (with_event (sent_of state) [] state)) (eq-eqb (progress settings.queues settings.buckets state.events).cuts (cut_count state.urls) already.0) in
    by_result result sends.done sends.kept
    (λ done. let has = done files told state holds in
    subst (λ (x : State). HoldsState t.images now x) (ap (λ (x : State). sent_state settings x) (same has.0 has.1.may) ∙ sent) has.2.holds)
    (λ kept. let has = kept not files told state holds in subst (λ (x : State). HoldsState t.images now x) (same has.0 has.1) has.2.holds)
  where
    by_result : {P Q R : Type 0} (result : Result Unit Fault) → OnOk result P → OnErr result Q → (P → R) → (Q → R) → R
    by_result (Ok value) ok err one other = one ok
    by_result (Err fault) ok err one other = other err
