-- Loading, fetching and settling, one behind the other, are one turn.
use Rattle.std.proofs.Common.{◌≡◌, ◌∙◌, inl, inr, ℕ, ◌≤◌, true, List, [], ◌∷◌, ◌++◌, length, map, Some, Result, Ok, Err, IfOk, OnOk, IsErrOf, refl, sym, ap, subst, arith}
use Rattle.std.specs.List.{All, AllByRecursion, flat_map}
use Rattle.std.specs.Prelude.{◌^◌, ◌<◌, min}
use Rattle.std.proofs.lemmas.List.Elements.{recursion_from_All}
use Rattle.std.specs.List.Sorted.{IsPermutation}
use Rattle.std.proofs.lemmas.List.{append-nil, length-map}
use Rattle.std.proofs.lemmas.List.Sorted.{IsPermutation-map, IsPermutation-refl, IsPermutation-sym, IsPermutation-trans}
use Rattle.irl_base.specs.declared.fault.Fault.{Fault}
use Rattle.irl_base.specs.declared.fault.Fault.TheVariants.{Damaged, Failed, Full}
use Rattle.irl_bay.specs.Drum.{Drum}
use Rattle.irl_disk.specs.Disk.{Files}
use Rattle.irl_disk.specs.Images.{Told}
use Rattle.irl_core.specs.States.{begun_with}
use Rattle.irl_events.specs.Events.{has_number}
use Rattle.irl_events.specs.Legal.{text_of}
use Rattle.irl_events.specs.State.{State, IsFrontState}
use Rattle.irl_fate.specs.Fronts.{AreFirst}
use Rattle.irl_key.specs.declared.web.Work.{Work}
use Rattle.irl_ledger.specs.Settling.{IsFlushed, max_settled}
use Rattle.irl_base.specs.Among.{IsAmong}
use Rattle.irl_offer.specs.Offering.{Entered}
use Rattle.irl_offer.specs.Tuple.{Tuple}
use Rattle.irl_offer.specs.declared.done.Done.{Done}
use Rattle.irl_offer.specs.declared.note.Note.{Note}
use Rattle.irl_offer.specs.declared.note.NoteState.{NoteState}
use Rattle.irl_offer.specs.declared.note.NoteState.TheVariants.{Free, Rules, Shut}
use Rattle.irl_offer.specs.declared.reply.Answer.{Answer}
use Rattle.irl_answer.specs.Notes.{note_of}
use Rattle.irl_base.specs.Limits.{max_robots}
use Rattle.irl_key.specs.Web.{IsHost}
use Rattle.irl_log.specs.Form.{IsNote}
use Rattle.irl_offer.specs.declared.settings.Settings.{Settings}
use Rattle.irl_polite.specs.Schedule.{Schedule}
use Rattle.irl_record.specs.Widening.{Answers}
use Rattle.irl_reach.specs.Crawls.{IsCrawlStore, added_to, found_by}
use Rattle.irl_schedule.proofs.Outcomes.{same_refusal}
use Rattle.irl_yard.specs.declared.parts.Parts.{Parts}
use Rattle.irl_yard.specs.declared.parts.Rest.{Rest}
use Rattle.irl_yard.specs.declared.parts.Rest.TheVariants.{Plain, Crawl}
use Rattle.irl_yard.specs.Adding.{with_notes}
use Rattle.irl_yard.specs.Holding.{HoldsOpen, HoldsState}
use Rattle.irl_yard.specs.Passing.{front_in, suffixes_in}
use Rattle.irl_yard.specs.Settling.{MaySettle}
use Rattle.irl_yard.proofs.PassWhole.{front_is}
use Rattle.irl_yard.proofs.States.{state_both}
use Rattle.irl_fetch.specs.Handling.{Handled, IsNoted, Noted, done_of, entered_of}
use Rattle.irl_fetch.proofs.Notes.{host_short, host_some, text_short}
use Rattle.irl_fetch.specs.declared.working.WorkLog.{WorkLog}
use Rattle.irl_crawl.specs.Fetching.{Fetches, entries_of}
use Rattle.irl_crawl.specs.Judging.{IsJudged, OnlyJudges}
use Rattle.irl_crawl.specs.Leading.{Leads}
use Rattle.irl_crawl.specs.Loading.{AreNext, Loads}
use Rattle.irl_crawl.specs.Offering.{HasOffers, OffersSome, OnlyOffers, offers_in}
use Rattle.irl_crawl.specs.Settling.{IsSettling, Settles, settled_state}
use Rattle.irl_crawl.specs.Turning.{AsksOnce, MayTurn, OnlyTurns, Turns, TurnsWhole, events_since}
use Rattle.irl_crawl.specs.Sending.{SendsAll}
use Rattle.irl_crawl.specs.Workers.{AreIdle, AreNotedIn, Given, loaded}
use Rattle.irl_crawl.specs.Working.{Begun, HaveWorked, IsBegun}
use Rattle.irl_crawl.proofs.Batches.{Covers, covers_among, covers_none, fills_among, ground_before}
use Rattle.irl_crawl.proofs.Fronts.{AreTaken, taken_of_front}
use Rattle.irl_crawl.proofs.Leading.{leads_more_failed, leads_then, leads_wide}
use Rattle.irl_crawl.proofs.Resting.{asks_wider}
use Rattle.irl_crawl.proofs.Rising.{MayMissFewer, WidensGiven}
use Rattle.irl_crawl.proofs.Turning.{judges_turn, offers_found, offers_turn, turns_none, turns_wider, whole_notes_turn, whole_offers_turn, whole_turn}
use Rattle.irl_crawl.proofs.Sent.{OweAlike}
use Rattle.irl_crawl.proofs.Unsent.{owes, unsent_offered}
use Rattle.irl_crawl.proofs.Visits.{TurnOf, notes_from}

-- ---- what may be settled
numbers_done : (handled : List Handled) → map (λ (d : Done). d.number) (map done_of handled) ≡ map (λ (work : Work). work.number) (map (λ (one : Handled). one.work) handled)
numbers_done [] = refl
numbers_done (one ∷ handled) = ap (λ (ns : List ℕ). one.work.number ∷ ns) (numbers_done handled)

each_done : (front : List ℕ) (done : List Done) → AllByRecursion (λ n. has_number front n ≡ true) (map (λ (d : Done). d.number) done)
    → AllByRecursion (λ (d : Done). has_number front d.number ≡ true) done
each_done front [] all = tt
each_done front (d ∷ done) all = (all.0, each_done front done all.1)

-- all that was loaded was done
pub done_taken : (front : List ℕ) (most : ℕ) (fronts : List Schedule) (handled : List Handled) (left : List Work) → AreNext front most fronts → left ≡ []
    → IsPermutation (loaded fronts) (map (λ (one : Handled). one.work) handled ++ left) → AreTaken front most (map (λ (d : Done). d.number) (map done_of handled))
done_taken front most fronts handled left next none items =
    let works : List Work = map (λ (one : Handled). one.work) handled in
    let all : IsPermutation (loaded fronts) works = subst (IsPermutation (loaded fronts)) (ap (λ (l : List Work). works ++ l) none ∙ append-nil works) items in
    let numbers : IsPermutation (map (λ (work : Work). work.number) works) next.numbers =
    IsPermutation-trans _ _ _ (IsPermutation-map (λ (work : Work). work.number) works (loaded fronts) (IsPermutation-sym (loaded fronts) works all)) next.each in
    subst (AreTaken front most) (sym (numbers_done handled)) (taken_of_front front most next.numbers (map (λ (work : Work). work.number) works) next.first numbers)

pub may_settle : (urls : Drum) (rest : Rest) (most : ℕ) (done : List Done) → 1 ≤ length (front_in rest) → 1 ≤ most → most ≤ max_settled → AreTaken (front_in rest) most
    (map (λ (d : Done). d.number) done)
    → AllByRecursion (λ (d : Done). AllByRecursion (IsFlushed urls) d.receipts) done → MaySettle urls rest done
may_settle urls Plain most done has least few taken flushed = absurd (omega arith)
may_settle urls (Crawl ledger) most done has least few taken flushed =
    let long = length-map done (λ (d : Done). d.number) in
    record {
      some = omega (arith, taken.count, long);
      limit = omega (arith, taken.count, long);
      front = each_done ledger.frontier.progress.front done taken.each;
      once = taken.once;
      links = flushed;
    }

-- ---- what is held
begun_of : (images : Files → Type 0) (settings : Settings) (rest : Rest) (state : State) (suffixes : List ℕ) → HoldsOpen images settings rest state.urls state.pairs state.events → suffixes_in rest ≡
    Some suffixes
    → begun_with state.events ≡ Some suffixes
begun_of images settings Plain state suffixes held is = let no : ⊥ = cc in absurd no
begun_of images settings (Crawl ledger) state suffixes held is = sym held.1.suffixes ∙ is

-- ---- one behind the other
ok_failed : {A : Type 0} (value : A) → IsErrOf {T = A} {E = Fault} (Ok value) Failed → ⊥
ok_failed value is = cc

-- by equal settings
pub offers_by : {A : Type 0} (suffixes : List ℕ) (result : Result A Fault) (entries : List Entered) (was now : Parts) (before after : Told) (settings other : Settings) → settings ≡ other
    → Leads (IsErrOf result Failed) (OnlyOffers settings entries) (OffersSome result suffixes settings entries) was now before after
    → Leads (IsErrOf result Failed) (OnlyOffers other entries) (OffersSome result suffixes other entries) was now before after
offers_by suffixes result entries was now before after settings other same leads =
    subst (λ (s : Settings). Leads (IsErrOf result Failed) (OnlyOffers s entries) (OffersSome result suffixes s entries) was now before after) same leads

pub settles_by : (suffixes : List ℕ) (result : Result ℕ Fault) (notes : List Note) (done : List Done) (was now : Parts) (before after : Told) (settings other : Settings) → settings ≡ other
    → Leads (IsErrOf result Failed) (IsSettling suffixes settings notes done) (Settles result suffixes settings notes done) was now before after
    → Leads (IsErrOf result Failed) (IsSettling suffixes other notes done) (Settles result suffixes other notes done) was now before after
settles_by suffixes result notes done was now before after settings other same leads =
    subst (λ (s : Settings). Leads (IsErrOf result Failed) (IsSettling suffixes s notes done) (Settles result suffixes s notes done) was now before after) same leads

-- ---- the whole
module _ (agent suffixes : List ℕ) (most : ℕ) (olds befores afters : List Schedule) (given wide : Given) (wider : WidensGiven given wide) (fewer : MayMissFewer given) (first mid : Parts)
    (start loaded_then : Told)
    (none_missed : wide.may_miss 0) (store : (x : State) → HoldsState start.images first x → IsCrawlStore first.urls.settings x) (suffixes_are : suffixes_in first.rest ≡ Some suffixes) where
  abbrev settings : Settings
  settings = first.urls.settings

  abbrev May : State → State → Type 0
  May = MayTurn wide agent suffixes settings most olds

  abbrev Did : Result ℕ Fault → State → State → Type 0
  Did result = Turns result wide agent suffixes settings most olds afters

  unturned : (x y : State) → y ≡ x → OnlyTurns wide agent suffixes settings most x y
  unturned x y same = subst (OnlyTurns wide agent suffixes settings most x) (sym same) (turns_none wide agent suffixes settings most x none_missed)

  -- what the visits of a turn found
  abbrev found : (x y : State) → OnlyTurns wide agent suffixes settings most x y → List Tuple
  found x y only = flat_map (found_by suffixes y.urls) only.visits

  -- the pages were refused
  pub not_loaded : (fault : Fault) → Leads (IsErrOf {T = Unit {0}} {E = Fault} (Err fault) Failed) (λ x y. y ≡ x) (Loads (Err fault) settings agent olds befores) first mid start loaded_then
      → Leads (IsErrOf {T = ℕ} {E = Fault} (Err fault) Failed) May (Did (Err fault)) first mid start loaded_then
  not_loaded fault loading =
      leads_more_failed _ _ _ _ first mid start loaded_then (same_refusal fault Failed) (same_refusal fault Failed)
      (leads_wide _ _ _ May (Did (Err fault)) first mid start loaded_then loading (λ x y held front same known. unturned x y same)
      (λ x y held later front loads known.
      let only = unturned x y loads.same in
      record {
        only = only;
        whole = tt;
        asks = tt;
        ground = record { full = λ n is. absurd (loads.ground.full n (same_refusal fault (Full n) is)); whole = λ f at is. loads.ground.whole f at (same_refusal fault (Damaged f at) is) };
      }))

  -- they are loaded,
  module _ (value : Unit {0}) (loading : Leads (IsErrOf {T = Unit {0}} {E = Fault} (Ok value) Failed) (λ x y. y ≡ x) (Loads (Ok value) settings agent olds befores) first mid start loaded_then)
      (next : AreNext (front_in first.rest) most befores) where
    abbrev Loaded : State → State → Type 0
    Loaded = Loads (Ok value) settings agent olds befores

    turn_of : (x y : State) → HoldsState start.images first x → Loaded x y → AreNotedIn agent x.events olds → (handled : List Handled) (noted : List Noted) (left : List Work) (begun : List Begun)
        → HaveWorked given agent suffixes handled noted left befores → (others : List Work) → IsPermutation left (map (λ (one : Begun). one.work) begun ++ others)
        → AllByRecursion (IsBegun given.gives agent suffixes noted befores) begun → TurnOf given agent suffixes settings most x befores handled noted left begun
    turn_of x y held loads known handled noted left begun worked others is_left are = record {
      store = store x held;
      began = begun_of start.images settings first.rest x suffixes held.open_rest suffixes_are;
      known = loads.known known;
      works = loads.texts;
      numbers = next.numbers;
      first = subst (λ (front : List ℕ). AreFirst front most next.numbers) (front_is start.images first.urls first.rest x held.urls held.open_rest) next.first;
      each = next.each;
      worked = worked;
      others = others;
      is_left = is_left;
      are_begun = are;
      fewer = fewer;
    }

    module _ (now : Parts) (fetched_then : Told) where
      same_settings : mid.urls.settings ≡ settings
      same_settings = loading.settings

      -- and the fetches refused,
      pub not_fetched : (fault : Fault) → Fetches (Err fault) given agent suffixes befores afters mid now loaded_then fetched_then
          → Leads (IsErrOf {T = ℕ} {E = Fault} (Err fault) Failed) May (Did (Err fault)) first now start fetched_then
      not_fetched fault fetches =
          leads_more_failed _ _ _ _ first now start fetched_then (same_refusal fault Failed) (same_refusal fault Failed)
          (leads_then _ _ _ _ _ _ May (Did (Err fault)) first mid now start loaded_then fetched_then loading (ok_failed value)
          (offers_by {A = WorkLog} suffixes (Err fault) (entries_of fetches.handled fetches.begun) mid now loaded_then fetched_then mid.urls.settings settings same_settings fetches.leads)
          (λ x y z held later front further loads offers known.
          let turn = turned x y z held front further loads loads.same offers.only known in
          record {
            only = turn.0;
            whole = tt;
            asks = tt;
            ground = ground_before (Err fault) (Err fault) suffixes settings (offers_in (entries_of fetches.handled fetches.begun)) (found x z turn.0) x y z (λ other. same_refusal fault other)
                (subst (λ (s : State). OweAlike suffixes settings x s z.urls) (sym loads.same) (λ b within. refl))
                (covers_among settings (offers_in (entries_of fetches.handled fetches.begun)) (found x z turn.0) x y (ap (λ (s : State). s.urls.lists) loads.same) turn.1) offers.ground;
          })
          (λ x y z held later front further loads only known. (turned x y z held front further loads loads.same only known).0))
        where
          turned : (x y z : State) → HoldsState start.images first x → IsFrontState x y → IsFrontState y z → Loaded x y → y ≡ x → OnlyOffers settings (entries_of fetches.handled fetches.begun) y z
              → AreNotedIn agent x.events olds → (turn : OnlyTurns wide agent suffixes settings most x z) × IsAmong (offers_in (entries_of fetches.handled fetches.begun)) (found x z turn)
          turned x y z held front further loads same only known =
              let are = recursion_from_All (IsBegun given.gives agent suffixes fetches.noted befores) fetches.begun fetches.are_begun in
              let it = turn_of x y held loads known fetches.handled fetches.noted fetches.left fetches.begun fetches.worked fetches.others fetches.is_left are in
              let both = state_both x y z front further in
              let offered = subst (λ (s : State). OnlyOffers settings (entries_of fetches.handled fetches.begun) s z) same only in
              (turns_wider given wide wider agent suffixes settings most x z (offers_turn it z both offered), offers_found it z both offered)

      -- or all is fetched, and settled or not
      module _ (log : WorkLog) (fetches : Fetches (Ok log) given agent suffixes befores afters mid now loaded_then fetched_then)
          (limits : (1 ≤ length (front_in first.rest)) × (1 ≤ most) × (most ≤ max_settled)) where
        abbrev handled : List Handled
        handled = fetches.handled

        abbrev noted : List Noted
        noted = fetches.noted

        abbrev entries : List Entered
        entries = flat_map entered_of handled

        worked : HaveWorked given agent suffixes handled noted [] befores
        worked = subst (λ (left : List Work). HaveWorked given agent suffixes handled noted left befores) fetches.whole.none_left fetches.worked

        all_entries : entries_of handled fetches.begun ≡ entries
        all_entries = ap (entries_of handled) fetches.whole.none_begun ∙ append-nil entries

        -- something was loaded
        some : 1 ≤ length handled
        some =
            let taken = done_taken (front_in first.rest) most befores handled fetches.left next fetches.whole.none_left fetches.worked.items in
            let count = taken.count in
            let long = length-map (map done_of handled) (λ (d : Done). d.number) ∙ length-map handled done_of in
            omega (arith, count, long, limits.0, limits.1)

        -- the first state stands with all that was entered
        record HasAll (x b : State) : Type 0 where
          known : AreNotedIn agent x.events olds → AreNotedIn agent x.events befores
          works : Loaded x x
          only : OnlyOffers settings entries x b
          offered : HasOffers entries x b

        all_fetched : Leads (IsErrOf {T = WorkLog} {E = Fault} (Ok log) Failed) May HasAll first now start fetched_then
        all_fetched =
            leads_then _ _ _ _ _ _ May HasAll first mid now start loaded_then fetched_then loading (ok_failed value)
            (offers_by {A = WorkLog} suffixes (Ok log) (entries_of handled fetches.begun) mid now loaded_then fetched_then mid.urls.settings settings same_settings fetches.leads)
            (λ x y b held later front further loads offers. record {
              known = loads.known;
              works = subst (Loaded x) loads.same loads;
              only = subst (λ (s : State). OnlyOffers settings entries s b) loads.same (subst (λ (es : List Entered). OnlyOffers settings es y b) all_entries offers.only);
              offered = subst (λ (s : State). HasOffers entries s b) loads.same (subst (λ (es : List Entered). HasOffers es y b) all_entries offers.all);
            })
            (λ x y b held later front further loads only known.
            turns_wider given wide wider agent suffixes settings most x b
            (whole_offers_turn (turn_of x y held loads known handled noted [] [] worked [] (IsPermutation-refl []) tt) b (state_both x y b front further)
            (subst (λ (s : State). OnlyOffers settings entries s b) loads.same (subst (λ (es : List Entered). OnlyOffers settings es y b) all_entries only))))

        it : (x b : State) → HoldsState start.images first x → HasAll x b → AreNotedIn agent x.events olds → TurnOf given agent suffixes settings most x befores handled noted [] []
        it x b held all known = turn_of x x held all.works known handled noted [] [] worked [] (IsPermutation-refl []) tt

        abbrev kept : List Note
        kept = notes_from noted

        abbrev came : List Done
        came = map done_of handled

        may_settled : (x b y : State) → HoldsState start.images first x → IsFrontState x b → IsFrontState b y → HasAll x b → IsSettling suffixes settings kept came b y → May x y
        may_settled x b y held front further all (inl same) known =
            turns_wider given wide wider agent suffixes settings most x y
            (whole_offers_turn (it x b held all known) y (state_both x b y front further) (subst (OnlyOffers settings entries x) (sym same) all.only))
        may_settled x b y held front further all (inr (inl noted_are)) known =
            turns_wider given wide wider agent suffixes settings most x y (whole_notes_turn (it x b held all known) b y (state_both x b y front further) all.only noted_are)
        may_settled x b y held front further all (inr (inr judges)) known =
            turns_wider given wide wider agent suffixes settings most x y
            (judges_turn (it x b held all known) b (with_notes kept b) (settled_state kept came b) front all.only all.offered refl refl y (state_both x b y front further) judges some)

        -- all of it, by the answer
        did_settled : (result : Result ℕ Fault) (x b y : State) → HoldsState start.images first x → IsFrontState x b → IsFrontState b y → HasAll x b
            → IsSettling suffixes settings kept came b y → OnOk result (OnlyJudges suffixes settings (settled_state kept came b) y × IsJudged settings y × SendsAll suffixes settings b y)
            → IfOk result (λ count. count ≡ length handled)
            → AreNotedIn agent x.events olds → (only : OnlyTurns wide agent suffixes settings most x y) × IfOk result (λ count. TurnsWhole count agent suffixes settings only.visits afters x y)
            × OnOk result (AsksOnce wide only.visits (events_since x y))
        did_settled (Ok count) x b y held front further all is whole number known =
            let judged =
            whole_turn (it x b held all known) b (with_notes kept b) (settled_state kept came b) front all.only all.offered refl refl y (state_both x b y front further) whole.0 some afters
            whole.1 whole.2 fetches.whole.known fetches.asked in (
              turns_wider given wide wider agent suffixes settings most x y judged.0,
              subst (λ (n : ℕ). TurnsWhole n agent suffixes settings judged.0.visits afters x y) (sym number) judged.1,
              asks_wider given wide wider judged.0.visits (events_since x y) judged.2,
            )
        did_settled (Err fault) x b y held front further all is whole number known = (may_settled x b y held front further all is known, tt, tt)

        pub settled_after : (result : Result ℕ Fault) (last : Parts) (settled_then : Told)
            → Leads (IsErrOf result Failed) (IsSettling suffixes now.urls.settings log.notes.items log.done.items) (Settles result suffixes now.urls.settings log.notes.items log.done.items) now last
            fetched_then
            settled_then
            → IfOk result (λ count. count ≡ length log.done.items) → Leads (IsErrOf result Failed) May (Did result) first last start settled_then
        settled_after result last settled_then settling number =
            let both : now.urls.settings ≡ settings = fetches.leads.settings ∙ same_settings in
            let count : IfOk result (λ count. count ≡ length handled) = counted result number in
            leads_then _ _ _ _ _ _ May (Did result) first now last start fetched_then settled_then all_fetched (ok_failed log)
            (settles_by suffixes result log.notes.items log.done.items now last fetched_then settled_then now.urls.settings settings both settling)
            (λ x b y held later front further all settles known.
            let is = is_settling b y settles.is in
            let turn = did_settled result x b y held front further all is (judged result b y settles.all) count known in
            record {
              only = turn.0;
              whole = turn.1;
              asks = turn.2;
              ground = ground_before result result suffixes settings [] (found x y turn.0) x b y (λ fault answered. answered)
                  (owes suffixes settings x b y.urls (unsent_offered settings x b all.only.others))
                  (covered x b y later both all is turn.0) settles.ground;
            })
            (λ x b y held later front further all is. may_settled x b y held front further all (is_settling b y is))
          where
            is_settling : (b y : State) → IsSettling suffixes settings log.notes.items log.done.items b y → IsSettling suffixes settings kept came b y
            is_settling b y is =
                subst (λ (ns : List Note). IsSettling suffixes settings ns came b y) fetches.whole.notes
                (subst (λ (ds : List Done). IsSettling suffixes settings log.notes.items ds b y) fetches.whole.done is)

            counted : (answer : Result ℕ Fault) → IfOk answer (λ count. count ≡ length log.done.items) → IfOk answer (λ count. count ≡ length handled)
            counted (Ok count) number = number ∙ ap length fetches.whole.done ∙ length-map handled done_of
            counted (Err fault) number = tt

            judged : (answer : Result ℕ Fault) (b y : State) → OnOk answer (OnlyJudges suffixes settings (settled_state log.notes.items log.done.items b) y × IsJudged settings y
                × SendsAll suffixes settings b y)
                → OnOk answer (OnlyJudges suffixes settings (settled_state kept came b) y × IsJudged settings y × SendsAll suffixes settings b y)
            judged (Ok count) b y all = (
              subst (λ (ns : List Note). OnlyJudges suffixes settings (settled_state ns came b) y) fetches.whole.notes
                  (subst (λ (ds : List Done). OnlyJudges suffixes settings (settled_state log.notes.items ds b) y) fetches.whole.done all.0),
              all.1,
              all.2,
            )
            judged (Err fault) b y all = tt

            settled_lists : (b y : State) → IsSettling suffixes settings kept came b y → y.urls.lists ≡ b.urls.lists
            settled_lists b y (inl same) = ap (λ (s : State). s.urls.lists) same
            settled_lists b y (inr (inl noted_are)) = ap (λ (s : State). s.urls.lists) noted_are
            settled_lists b y (inr (inr judges)) = judges.lists

            -- the lists that were settled have no more than what the visits found
            covered : (x b y : State) → HoldsState fetched_then.images now b → now.urls.settings ≡ settings → HasAll x b → IsSettling suffixes settings kept came b y
                → (only : OnlyTurns wide agent suffixes settings most x y) → Covers settings [] (found x y only) x b
            covered x b y later both all is only =
                let book = later.urls.urls_hold.book_is in
                covers_none settings (found x y only) x b
                (fills_among settings (found x y only) x b book.is_book (book.buckets ∙ ap (λ (p : Settings). p.buckets) both) all.only.grows.urls.front
                (subst (λ (lists : List (List Tuple)). IsAmong (added_to x.urls.lists lists) (found x y only)) (settled_lists b y is) only.crawls.offers))

-- ---- by equal names of the same
pub fetches_for : (result : Result WorkLog Fault) (given : Given) (agent agent' suffixes suffixes' : List ℕ) (befores afters : List Schedule) (was now : Parts) (before after : Told) → agent ≡ agent'
    → suffixes ≡ suffixes' → Fetches result given agent suffixes befores afters was now before after → Fetches result given agent' suffixes' befores afters was now before after
fetches_for result given agent agent' suffixes suffixes' befores afters was now before after same_agent same_suffixes fetches =
    subst (λ (a : List ℕ). Fetches result given a suffixes' befores afters was now before after) same_agent
    (subst (λ (s : List ℕ). Fetches result given agent s befores afters was now before after) same_suffixes fetches)

-- ---- between two turns
pub idle_after : (log : WorkLog) (given : Given) (count : ℕ) (agent suffixes : List ℕ) (befores afters : List Schedule) (was now : Parts) (before after : Told) → length befores ≡ count
    → Fetches (Ok log) given agent suffixes befores afters was now before after → AreIdle count agent afters
idle_after log given count agent suffixes befores afters was now before after many fetches =
    record { count_is = fetches.count ∙ many; agents = fetches.agents; items = fetches.whole.items }

pub settles_for : (suffixes : List ℕ) (result : Result ℕ Fault) (settings : Settings) (notes notes' : List Note) (done done' : List Done) (was now : Parts) (before after : Told) → notes ≡ notes'
    → done ≡ done'
    → Leads (IsErrOf result Failed) (IsSettling suffixes settings notes done) (Settles result suffixes settings notes done) was now before after
    → Leads (IsErrOf result Failed) (IsSettling suffixes settings notes' done') (Settles result suffixes settings notes' done') was now before after
settles_for suffixes result settings notes notes' done done' was now before after same_notes same_done leads =
    subst (λ (ns : List Note). Leads (IsErrOf result Failed) (IsSettling suffixes settings ns done') (Settles result suffixes settings ns done') was now before after) same_notes
    (subst (λ (ds : List Done). Leads (IsErrOf result Failed) (IsSettling suffixes settings notes ds) (Settles result suffixes settings notes ds) was now before after) same_done leads)

-- ---- what a turn hands to its settle
module _ (most : ℕ) (given : Given) (agent suffixes : List ℕ) (befores afters : List Schedule) (was mid now : Parts) (before after : Told) (log : WorkLog)
    (fetches : Fetches (Ok log) given agent suffixes befores afters mid now before after) (next : AreNext (front_in was.rest) most befores) where
  taken_done : AreTaken (front_in was.rest) most (map (λ (d : Done). d.number) log.done.items)
  taken_done =
      subst (λ (ds : List Done). AreTaken (front_in was.rest) most (map (λ (d : Done). d.number) ds)) (sym fetches.whole.done)
      (done_taken (front_in was.rest) most befores fetches.handled fetches.left next fetches.whole.none_left fetches.worked.items)

  pub settle_may : mid.rest ≡ was.rest → (1 ≤ length (front_in was.rest)) × (1 ≤ most) × (most ≤ max_settled) → MaySettle now.urls now.rest log.done.items
  settle_may same limits =
      subst (λ (rest : Rest). MaySettle now.urls rest log.done.items) (sym (fetches.rest ∙ same))
      (may_settle now.urls was.rest most log.done.items limits.0 limits.1 limits.2 taken_done fetches.whole.flushed)

  pub all_settled : (done : List Done) → done ≡ log.done.items → length done ≡ min most (length (front_in was.rest))
  all_settled done same = ap length same ∙ sym (length-map log.done.items (λ (d : Done). d.number)) ∙ taken_done.count

pub count_within : (count most front : ℕ) → count ≡ min most front → (1 ≤ front) × (1 ≤ most) × (most ≤ max_settled) → (1 ≤ count) × (count ≤ most)
count_within count most front is limits = (omega (arith, is, limits.0, limits.1), omega (arith, is))

-- each note fits the log
note_fits : (note : Note) (answers : List Answer) → IsHost note.host → note_of note.host answers ≡ Some note.state → note.when < 2 ^ 64 → IsNote note
note_fits note answers host says when = record {
  when = when;
  host = host_some note.host host;
  host_limit = host_short note.host host;
  text_limit = text_fits note.state says;
}
  where
    text_fits : (state : NoteState) → note_of note.host answers ≡ Some state → length (text_of state) ≤ max_robots
    text_fits (Rules text) is = text_short note.host answers text is
    text_fits Free is = omega arith
    text_fits Shut is = omega arith

pub notes_fit : (gives : Answers) (noted : List Noted) → All (IsNoted gives) noted → AllByRecursion (λ (note : Note). note.when < 2 ^ 64) (notes_from noted) → AllByRecursion IsNote (notes_from noted)
notes_fit gives noted each when = by noted (recursion_from_All (IsNoted gives) noted each) when
  where
    by : (ns : List Noted) → AllByRecursion (IsNoted gives) ns → AllByRecursion (λ (note : Note). note.when < 2 ^ 64) (notes_from ns) → AllByRecursion IsNote (notes_from ns)
    by [] all fit = tt
    by (one ∷ ns) all fit = (note_fits one.note one.answers all.0.host all.0.says fit.0, by ns all.1 fit.1)

-- ---- by an answer
pub if_count : (result : Result ℕ Fault) (n : ℕ) (P : ℕ → Type 0) → IfOk result (λ count. count ≡ n) → P n → IfOk result P
if_count (Ok count) n P is holds = subst P (sym is) holds
if_count (Err fault) n P is holds = tt
