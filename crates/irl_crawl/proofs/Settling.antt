-- What keeping notes, settling outcomes and judging make of the states that an open store held, one behind the other.
use Rattle.std.proofs.Common.{◌≡◌, ◌∙◌, inl, inr, ℕ, true, List, [], Option, None, Some, Result, Ok, Err, OnOk, OnErr, IsErrOf, refl, sym, ap, subst, arith}
use Rattle.std.proofs.lemmas.List.{append-nil}
use Rattle.std.specs.List.{AllByRecursion}
use Rattle.std.specs.Prelude.{⊤}
use Rattle.irl_base.proofs.Among.{among_none}
use Rattle.irl_base.specs.Faults.{HasCause}
use Rattle.irl_base.specs.declared.fault.Fault.{Fault}
use Rattle.irl_base.specs.declared.fault.Fault.TheVariants.{Damaged, Failed, Full}
use Rattle.irl_bay.specs.Drum.{Drum, IsDrum, durables}
use Rattle.irl_disk.specs.Disk.{ChangesFile, Files, TellsBy}
use Rattle.irl_disk.specs.Images.{IsConsistent, Told}
use Rattle.irl_events.specs.Events.{Settle, has_number}
use Rattle.irl_events.specs.State.{State}
use Rattle.irl_frontier.specs.Frontier.{Frontier}
use Rattle.irl_head.specs.StoreFiles.{crawl_file}
use Rattle.irl_ledger.specs.declared.ledger.Ledger.{Ledger}
use Rattle.irl_ledger.specs.Settling.{IsFlushed, outcomes_of}
use Rattle.irl_log.specs.Form.{IsNote}
use Rattle.irl_model.specs.Book.{lengths_of}
use Rattle.irl_offer.specs.declared.done.Done.{Done}
use Rattle.irl_offer.specs.declared.note.Note.{Note}
use Rattle.irl_offer.specs.declared.settings.Kind.TheVariants.{Crawl as CrawlKind}
use Rattle.irl_offer.specs.declared.settings.Settings.{Settings}
use Rattle.irl_schedule.proofs.Outcomes.{same_refusal}
use Rattle.irl_yard.specs.declared.parts.Parts.{Parts}
use Rattle.irl_yard.specs.declared.parts.Rest.{Rest}
use Rattle.irl_yard.specs.declared.parts.Rest.TheVariants.{Plain, Crawl}
use Rattle.irl_yard.specs.Adding.{AddsEvent, AddsNotes, KeepsTables, MayNoteAll, with_event, with_notes}
use Rattle.irl_yard.specs.Holding.{HasLedger, HoldsState, IsOpenRest, StaysSound}
use Rattle.irl_yard.specs.Leading.{IsEither, LeadsOrStays, LeadsTo}
use Rattle.irl_yard.specs.Passing.{suffixes_in}
use Rattle.irl_yard.specs.Sending.{HasBegun}
use Rattle.irl_yard.specs.Settling.{MaySettle, settle_of}
use Rattle.irl_yard.proofs.Begun.{event_begun, ledger_in, notes_begun, notes_suffixes, settle_suffixes}
use Rattle.irl_yard.proofs.CallsLead.{event_leads, notes_lead}
use Rattle.irl_yard.proofs.SentWhole.{crawl_in}
use Rattle.irl_crawl.specs.Judging.{Judges, OnlyJudges}
use Rattle.irl_crawl.specs.Leading.{KeepsBegun, KeepsOthers, Leads}
use Rattle.irl_crawl.specs.Settling.{IsSettling, Settles, settled_state}
use Rattle.irl_crawl.proofs.Batches.{covers_among, ground_before, grown_more, grown_same}
use Rattle.irl_crawl.proofs.Books.{kind_begun}
use Rattle.irl_crawl.proofs.Leading.{leads_more_failed, leads_then, leads_wide}
use Rattle.irl_crawl.proofs.OtherFiles.{others_log}
use Rattle.irl_crawl.proofs.Sent.{OweAlike, sends_all_by, sends_same}
use Rattle.irl_crawl.proofs.Unsent.{SendsNone, owes, unsent_settled}

-- ---- what is asked
pub may_note : (rest : Rest) (notes : List Note) → HasBegun rest → AllByRecursion IsNote notes → MayNoteAll rest notes
may_note Plain notes begun are = begun
may_note (Crawl ledger) notes begun are = (begun, are)

-- notes hinder no settle
pub settles_still : (urls later : Drum) (was now : Rest) (done : List Done) → later ≡ urls → ((old new : Ledger) → was ≡ Crawl old → now ≡ Crawl new → KeepsTables old new)
    → (ledger : Ledger) × (now ≡ Crawl ledger) → MaySettle urls was done → MaySettle later now done
settles_still urls later Plain now done same tables new may = absurd may
settles_still urls later (Crawl old) now done same tables new may =
    let kept = (tables old new.0 refl new.1).frontier in
    subst (λ (rest : Rest). MaySettle later rest done) (sym new.1) (record {
      some = may.some;
      limit = may.limit;
      front = subst (λ (x : Frontier). AllByRecursion (λ d. has_number x.progress.front d.number ≡ true) done) (sym kept) may.front;
      once = may.once;
      links = subst (λ (drum : Drum). AllByRecursion (λ d. AllByRecursion (IsFlushed drum) d.receipts) done) (sym same) may.links;
    })

-- ---- what stays
-- a crawl that has begun is open after a call that leaves the URLs
pub ledger_after : (was now : Parts) (told later : Option Files) → IsOpenRest was.urls was.rest told → IsOpenRest now.urls now.rest later → now.urls ≡ was.urls → HasBegun was.rest → HasLedger now.rest
ledger_after was now told later first last same begun =
    ledger_in now.urls now.rest later last (subst (λ (drum : Drum). drum.settings.kind ≡ CrawlKind) (sym same) (kind_begun was.urls was.rest told first begun))

module _ {S : Type 0} (tells : S → Told) (notes : List Note) (was mid : Parts) (s t : S) (value : Unit {0}) (noted : AddsNotes tells (Ok value) notes was mid s t)
    (first : IsOpenRest was.urls was.rest (tells s).files) (second : IsOpenRest mid.urls mid.rest (tells t).files) (begun : HasBegun was.rest) where
  noted_ledger : HasLedger mid.rest
  noted_ledger = ledger_after was mid (tells s).files (tells t).files first second noted.urls begun

  begun_noted : HasBegun mid.rest
  begun_noted = notes_begun tells (Ok value) notes was mid s t noted noted_ledger begun

  module _ (done : List Done) (late : Parts) (u : S) (other : Unit {0}) (settled : AddsEvent tells (Ok other) (settle_of mid.urls done) mid late t u)
      (third : IsOpenRest late.urls late.rest (tells u).files) where
    settled_ledger : HasLedger late.rest
    settled_ledger = ledger_after mid late (tells t).files (tells u).files second third settled.urls begun_noted

    pub begun_settled : HasBegun late.rest
    begun_settled = event_begun tells (Ok other) (settle_of mid.urls done) mid late t u settled settled_ledger begun_noted

    pub settings_kept : late.urls.settings ≡ was.urls.settings
    settings_kept = ap (λ (drum : Drum). drum.settings) (settled.urls ∙ noted.urls)

    pub suffixes_settled : suffixes_in late.rest ≡ suffixes_in was.rest
    suffixes_settled =
        settle_suffixes tells (Ok other) (durables mid.urls) (outcomes_of done) mid late t u settled noted_ledger settled_ledger
        ∙ notes_suffixes tells (Ok value) notes was mid s t noted (crawl_in was.rest begun) noted_ledger

    pub begun_kept : (now : Parts) → KeepsBegun late now → KeepsBegun was now
    begun_kept now kept = record { begun = kept.begun; suffixes = kept.suffixes ∙ suffixes_settled }

-- ---- a call that makes one state of another, or leaves it
-- by the answer
pub record Makes (result : Result Unit Fault) (to : State → State) (x y : State) : Type 0 where
  pub done : OnOk result (y ≡ to x)
  pub kept : OnErr result (y ≡ x)

told_on : (step : Files → Files → Type 0) (old new : Option Files) → TellsBy step old new → (files : Files) → old ≡ Some files → (later : Files) × (new ≡ Some later)
told_on step None new tells files is = let no : ⊥ = cc in absurd no
told_on step (Some old) new tells files is = (tells.0, tells.1)

module _ (result : Result Unit Fault) (to : State → State) (was now : Parts) (before after : Told) where
  made : (answer : Result Unit Fault) (x : State) (failed : Type 0) → OnOk answer (LeadsTo x (to x) now before after) → OnErr answer ((failed → ⊥) → LeadsTo x x now before after) → (failed → ⊥)
      → (y : State) × Makes answer to x y × LeadsTo x y now before after
  made (Ok value) x failed done kept still = (to x, record { done = refl; kept = tt }, done)
  made (Err fault) x failed done kept still = (x, record { done = tt; kept = refl }, kept still)

  call_leads : ((x : State) → HoldsState before.images was x → LeadsOrStays result x (to x) now before after) →
      ((files : Files) → before.files ≡ Some files → (later : Files) × (after.files ≡ Some later))
      → now.urls ≡ was.urls → StaysSound (IsErrOf result Failed) now → HasCause (IsErrOf result Failed) before.faults after.faults → KeepsOthers was now before after
      → Leads (IsErrOf result Failed) (λ x. IsEither x (to x)) (Makes result to) was now before after
  call_leads leads told urls goes_on cause others = record {
    leads = λ still files is x held. let call = leads x held in made result x (IsErrOf result Failed) call.done call.kept still;
    fails = λ failed files is x held. (leads x held).failed failed;
    told = told;
    settings = ap (λ (drum : Drum). drum.settings) urls;
    goes_on = goes_on;
    cause = cause;
    others = others;
  }

-- what came of a turn, in a state
abbrev settle_in : List Done → State → State
settle_in done state = with_event (Settle (lengths_of state.urls) (outcomes_of done)) [] state

module _ {S : Type 0} (tells : S → Told) (law : (s : S) → IsConsistent (tells s)) (result : Result Unit Fault) (was now : Parts) (before after : S) (drum : IsDrum was.urls)
    (goes_on : StaysSound (IsErrOf result Failed) now) where
  pub noting_leads : (notes : List Note) → AddsNotes tells result notes was now before after
      → Leads (IsErrOf result Failed) (λ x. IsEither x (with_notes notes x)) (Makes result (with_notes notes)) was now (tells before) (tells after)
  noting_leads notes adds =
      call_leads result (with_notes notes) was now (tells before) (tells after) (λ x held. notes_lead tells law result notes was now x before after drum held adds)
      (told_on _ (tells before).files (tells after).files adds.others.told) adds.urls goes_on adds.others.cause
      (others_log was now (tells before) (tells after) (ChangesFile crawl_file (λ _ _. ⊤)) (law after) adds.urls (λ x y changes. changes.others) adds.others.told adds.others.stops)

  -- a held book has as many offers as are counted
  settle_lead : (done : List Done) → AddsEvent tells result (settle_of was.urls done) was now before after → (x : State) → HoldsState (tells before).images was x
      → LeadsOrStays result x (settle_in done x) now (tells before) (tells after)
  settle_lead done adds x held =
      subst (λ (fronts : List ℕ). LeadsOrStays result x (with_event (Settle fronts (outcomes_of done)) [] x) now (tells before) (tells after)) held.urls.urls_hold.numbers.offers
      (event_leads tells law result (settle_of was.urls done) was now x before after drum held adds)

  pub settling_leads : (done : List Done) → AddsEvent tells result (settle_of was.urls done) was now before after
      → Leads (IsErrOf result Failed) (λ x. IsEither x (settle_in done x)) (Makes result (settle_in done)) was now (tells before) (tells after)
  settling_leads done adds =
      call_leads result (settle_in done) was now (tells before) (tells after) (settle_lead done adds)
      (told_on _ (tells before).files (tells after).files adds.others.told) adds.urls goes_on adds.others.cause
      (others_log was now (tells before) (tells after) (ChangesFile crawl_file (λ _ _. ⊤)) (law after) adds.urls (λ x y changes. changes.others) adds.others.told adds.others.stops)

-- ---- one behind the other
-- a refusal by another name
pub settles_as : (suffixes : List ℕ) (notes : List Note) (done : List Done) (settings : Settings) (was now : Parts) (before after : Told) (result : Result ℕ Fault) (fault other : Fault)
    → result ≡ Err other → other ≡
    fault
    → Leads (IsErrOf {T = ℕ} {E = Fault} (Err fault) Failed) (IsSettling suffixes settings notes done) (Settles (Err fault) suffixes settings notes done) was now before after
    → Leads (IsErrOf result Failed) (IsSettling suffixes settings notes done) (Settles result suffixes settings notes done) was now before after
settles_as suffixes notes done settings was now before after result fault other is same leads =
    subst (λ (r : Result ℕ Fault). Leads (IsErrOf r Failed) (IsSettling suffixes settings notes done) (Settles r suffixes settings notes done) was now before after)
    (sym (is ∙ ap (λ (f : Fault). Err f) same)) leads

-- judging, by equal settings
pub judges_by : (suffixes : List ℕ) (result : Result Unit Fault) (was now : Parts) (before after : Told) (settings other : Settings) → settings ≡ other
    → Leads (IsErrOf result Failed) (OnlyJudges suffixes settings) (Judges result suffixes settings)
    was now before after
    → Leads (IsErrOf result Failed) (OnlyJudges suffixes other) (Judges result suffixes other) was now before after
judges_by suffixes result was now before after settings other same leads = subst (λ (s : Settings).
    Leads (IsErrOf result Failed) (OnlyJudges suffixes s) (Judges result suffixes s) was now before after) same leads

only_none : (suffixes : List ℕ) (settings : Settings) (x y : State) → y ≡ x → OnlyJudges suffixes settings x y
only_none suffixes settings x y is =
    subst (OnlyJudges suffixes settings x) (sym is)
    (record {
      grows = grown_more settings 0 1 x x (omega arith) (grown_same settings x);
      lists = refl;
      more = [];
      events = sym (append-nil x.events);
      pairs = tt;
      sends = sends_same suffixes settings x x refl;
    })

module _ (suffixes : List ℕ) (notes : List Note) (done : List Done) (settings : Settings) (was : Parts) (before : Told) where
  -- the notes were refused
  pub notes_refused : (fault : Fault) (now : Parts) (after : Told) → Leads (IsErrOf {T = Unit {0}} {E = Fault} (Err fault) Failed) (λ x. IsEither x (with_notes notes x))
      (Makes (Err fault) (with_notes notes)) was now before after
      → ((n : ℕ) → IsErrOf {T = Unit {0}} {E = Fault} (Err fault) (Full n) → ⊥) → ((f at : ℕ) → IsErrOf {T = Unit {0}} {E = Fault} (Err fault) (Damaged f at) → ⊥)
      → Leads (IsErrOf {T = ℕ} {E = Fault} (Err fault) Failed) (IsSettling suffixes settings notes done) (Settles (Err fault) suffixes settings notes done) was now before after
  notes_refused fault now after noting not_full not_damaged =
      leads_more_failed _ _ _ _ was now before after (same_refusal fault Failed) (same_refusal fault Failed)
      (leads_wide _ _ _ (IsSettling suffixes settings notes done) (Settles (Err fault) suffixes settings notes done) was now before after noting (λ x y held front may. wide x y may)
      (λ x y held later front is. record {
        is = inl is.kept;
        all = tt;
        ground = record { full = λ n e. absurd (not_full n (same_refusal fault (Full n) e)); whole = λ f at e. not_damaged f at (same_refusal fault (Damaged f at) e) };
      }))
    where
      wide : (x y : State) → IsEither x (with_notes notes x) y → IsSettling suffixes settings notes done x y
      wide x y (inl same) = inl same
      wide x y (inr noted) = inr (inl noted)

  -- they are kept
  module _ (mid : Parts) (between : Told) (value : Unit {0})
      (noting : Leads (IsErrOf {T = Unit {0}} {E = Fault} (Ok value) Failed) (λ x. IsEither x (with_notes notes x)) (Makes (Ok value) (with_notes notes)) was mid before between) where
    noted_then : (x y z : State) → y ≡ with_notes notes x → IsEither y (settle_in done y) z → IsSettling suffixes settings notes done x z
    noted_then x y z noted (inl same) = inr (inl (same ∙ noted))
    noted_then x y z noted (inr settled) = inr (inr (only_none suffixes settings (settled_state notes done x) z (settled ∙ ap (settle_in done) noted)))

    not_failed : IsErrOf {T = Unit {0}} {E = Fault} (Ok value) Failed → ⊥
    not_failed is = cc

    -- and the outcomes are refused
    pub settle_refused : (fault : Fault) (now : Parts) (after : Told) → Leads (IsErrOf {T = Unit {0}} {E = Fault} (Err fault) Failed) (λ x. IsEither x (settle_in done x))
        (Makes (Err fault) (settle_in done)) mid now between after
        → ((n : ℕ) → IsErrOf {T = Unit {0}} {E = Fault} (Err fault) (Full n) → ⊥) → ((f at : ℕ) → IsErrOf {T = Unit {0}} {E = Fault} (Err fault) (Damaged f at) → ⊥)
        → Leads (IsErrOf {T = ℕ} {E = Fault} (Err fault) Failed) (IsSettling suffixes settings notes done) (Settles (Err fault) suffixes settings notes done) was now before after
    settle_refused fault now after settling not_full not_damaged =
        leads_more_failed _ _ _ _ was now before after (same_refusal fault Failed) (same_refusal fault Failed)
        (leads_then _ _ _ _ _ _ (IsSettling suffixes settings notes done) (Settles (Err fault) suffixes settings notes done) was mid now before between after noting not_failed settling
        (λ x y z held later front next noted is. record {
          is = inr (inl (is.kept ∙ noted.done));
          all = tt;
          ground = record { full = λ n e. absurd (not_full n (same_refusal fault (Full n) e)); whole = λ f at e. not_damaged f at (same_refusal fault (Damaged f at) e) };
        })
        (λ x y z held later front next noted may. noted_then x y z noted.done may))

    -- or they are settled,
    module _ (late : Parts) (settled : Told) (value' : Unit {0})
        (settling : Leads (IsErrOf {T = Unit {0}} {E = Fault} (Ok value') Failed) (λ x. IsEither x (settle_in done x)) (Makes (Ok value') (settle_in done)) mid late between settled) where
      both : Leads (IsErrOf {T = Unit {0}} {E = Fault} (Ok value') Failed) (IsSettling suffixes settings notes done) (λ x y. y ≡ settled_state notes done x) was late before settled
      both =
          leads_then _ _ _ _ _ _ (IsSettling suffixes settings notes done) (λ x y. y ≡ settled_state notes done x) was mid late before between settled noting not_failed settling
          (λ x y z held later front next noted is. is.done ∙ ap (settle_in done) noted.done)
          (λ x y z held later front next noted may. noted_then x y z noted.done may)

      judged_then : (x y z : State) → y ≡ settled_state notes done x → OnlyJudges suffixes settings y z → OnlyJudges suffixes settings (settled_state notes done x) z
      judged_then x y z is judged = subst (λ (state : State). OnlyJudges suffixes settings state z) is judged

      -- pairs were sent by judging alone
      settled_owes : (x y z : State) → y ≡ settled_state notes done x → OweAlike suffixes settings x y z.urls
      settled_owes x y z is = owes suffixes settings x y z.urls (subst (SendsNone settings x) (sym is) (unsent_settled settings notes done x))

      none_failed : IsErrOf {T = Unit {0}} {E = Fault} (Ok value') Failed → ⊥
      none_failed is = cc

      -- and judging is refused,
      pub judging_refused : (fault : Fault) (now : Parts) (after : Told) → Leads (IsErrOf {T = Unit {0}} {E = Fault} (Err fault) Failed) (OnlyJudges suffixes settings)
          (Judges (Err fault) suffixes settings) late now settled after
          → Leads (IsErrOf {T = ℕ} {E = Fault} (Err fault) Failed) (IsSettling suffixes settings notes done) (Settles (Err fault) suffixes settings notes done) was now before after
      judging_refused fault now after judging =
          leads_more_failed _ _ _ _ was now before after (same_refusal fault Failed) (same_refusal fault Failed)
          (leads_then _ _ _ _ _ _ (IsSettling suffixes settings notes done) (Settles (Err fault) suffixes settings notes done) was late now before settled after both none_failed judging
          (λ x y z held later front next is judges. record {
            is = inr (inr (judged_then x y z is judges.only));
            all = tt;
            ground = ground_before (Err fault) (Err fault) suffixes settings [] [] x y z (λ other. same_refusal fault other) (settled_owes x y z is)
                (covers_among settings [] [] x y (ap (λ (s : State). s.urls.lists) is) (among_none [])) judges.ground;
          })
          (λ x y z held later front next is judged. inr (inr (judged_then x y z is judged))))

      -- or all is judged
      pub judged_whole : (value'' : Unit {0}) (count : ℕ) (now : Parts) (after : Told)
          → Leads (IsErrOf {T = Unit {0}} {E = Fault} (Ok value'') Failed) (OnlyJudges suffixes settings) (Judges (Ok value'') suffixes settings) late
          now settled after
          → Leads (IsErrOf {T = ℕ} {E = Fault} (Ok count) Failed) (IsSettling suffixes settings notes done) (Settles (Ok count) suffixes settings notes done) was now before after
      judged_whole value'' count now after judging =
          leads_more_failed _ _ _ _ was now before after (λ (is : IsErrOf {T = Unit {0}} {E = Fault} (Ok value'') Failed). let no : ⊥ = cc in absurd no)
          (λ (is : IsErrOf {T = ℕ} {E = Fault} (Ok count) Failed). let no : ⊥ = cc in absurd no)
          (leads_then _ _ _ _ _ _ (IsSettling suffixes settings notes done) (Settles (Ok count) suffixes settings notes done) was late now before settled after both none_failed judging
          (λ x y z held later front next is judges. record {
            is = inr (inr (judged_then x y z is judges.only));
            all = (judged_then x y z is judges.only, judges.all.0, sends_all_by suffixes settings x y z (settled_owes x y z is) judges.all.1);
            ground = record { full = λ n (e : IsErrOf {T = ℕ} {E = Fault} (Ok count) (Full n)). let no : ⊥ = cc in absurd no; whole = λ f at e. cc };
          })
          (λ x y z held later front next is judged. inr (inr (judged_then x y z is judged))))
