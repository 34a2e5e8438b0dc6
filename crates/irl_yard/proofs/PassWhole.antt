-- A pass of an open store, whole: what its reading and its event come to.
use Rattle.std.proofs.Common.{◌≡◌, ◌∙◌, inl, inr, ℕ, List, [], length, Option, None, Some, Result, Ok, Err, IsOk, IsErr, IsErrOf, OnOk, OnErr, refl, sym, ap, subst}
use Rattle.std.specs.Prelude.{IfOk}
use Rattle.std.specs.Option.{ForSome}
use Rattle.std.proofs.lemmas.Result.{IfOk-weaker}
use Rattle.irl_base.specs.declared.fault.Fault.{Fault}
use Rattle.irl_base.specs.declared.fault.Fault.TheVariants.{Damaged, Failed, Full, Memory}
use Rattle.irl_offer.specs.declared.settings.Kind.{Kind}
use Rattle.irl_offer.specs.declared.settings.Kind.TheVariants.{Lines, Tuples, Crawl as CrawlKind}
use Rattle.irl_offer.specs.declared.settings.Settings.{Settings}
use Rattle.irl_beast.specs.declared.item.Item.{Item}
use Rattle.irl_model.specs.Book.{Book}
use Rattle.irl_events.specs.Events.{Happened, Progress, progress}
use Rattle.irl_events.specs.State.{State}
use Rattle.irl_disk.specs.Disk.{Files, ChangesFile, TellsBy}
use Rattle.irl_disk.specs.Effects.{OnlyChanges, OnlyReads, ReadsAndChanges}
use Rattle.irl_disk.specs.Images.{Told, Follows, IsConsistent, Leaves, LeavesBy}
use Rattle.irl_disk.specs.Taken.{TakesAmong}
use Rattle.irl_disk.proofs.Effects.{cause_then, told_none}
use Rattle.irl_disk.proofs.Stretches.{joins, joins_by, same_by, widens}
use Rattle.irl_bay.specs.Drum.{Drum}
use Rattle.irl_bay.specs.JudgedSpoilt.{IsJudgedFile}
use Rattle.irl_head.specs.StoreFiles.{crawl_file}
use Rattle.irl_ledger.specs.declared.ledger.Ledger.{Ledger}
use Rattle.irl_ledger.specs.Reading.{ReadsUrls}
use Rattle.irl_yard.specs.declared.parts.Parts.{Parts}
use Rattle.irl_yard.specs.declared.parts.Rest.{Rest}
use Rattle.irl_yard.specs.declared.parts.Rest.TheVariants.{Plain, Crawl}
use Rattle.irl_yard.specs.Holding.{HasOneOf, HoldsOpen, HoldsState, HoldsUrls}
use Rattle.irl_yard.specs.Merges.{ReadsState}
use Rattle.irl_yard.specs.Passing.{AddsPass, AreFresh, PassesState, come, front_in, suffixes_in, with_pass}
use Rattle.irl_yard.specs.Standing.{HasState, IsRest, IsStateOf}
use Rattle.irl_yard.proofs.Appended.{same_crawl}

-- ---- answers
err_ok : {A : Type 0} (result : Result A Fault) (P : Type 0) → IsErr result → OnOk result P
err_ok (Ok value) P is = absurd (cc)
err_ok (Err error) P is = tt

err_if : {A : Type 0} (result : Result A Fault) (P : A → Type 0) → IsErr result → IfOk result P
err_if (Ok value) P is = absurd (cc)
err_if (Err error) P is = tt

on_err : {A : Type 0} (result : Result A Fault) (P : Type 0) → P → OnErr result P
on_err (Ok value) P has = tt
on_err (Err error) P has = has

on_ok : {A : Type 0} (result : Result A Fault) (P : Type 0) → (IsOk result → P) → OnOk result P
on_ok (Ok value) P has = has refl
on_ok (Err error) P has = tt

on_ok_of : {A : Type 0} (result : Result A Fault) (P : Type 0) → IsOk result → OnOk result P → P
on_ok_of (Ok value) P is has = has
on_ok_of (Err error) P is has = absurd (cc)

err_of : {A B : Type 0} (result : Result A Fault) (added : Result B Fault) (P : Type 0) → (IsErr result → IsErr added) → OnErr added P → OnErr result P
err_of (Ok value) added P is has = tt
err_of (Err error) (Ok value) P is has = let no : IsErr {T = _} {E = Fault} (Ok value) = is refl in absurd (cc)
err_of (Err error) (Err other) P is has = has

-- ---- what is read and then changed
abbrev LogStep : Files → Files → Type 0
LogStep = ChangesFile crawl_file (λ _ _. Unit {0})

same_log : (x : Files) → LogStep x x
same_log x = record { changed = tt; others = λ f out. refl }

both_logs : (x y z : Files) → LogStep x y → LogStep y z → LogStep x z
both_logs x y z first second = record { changed = tt; others = λ f out. second.others f out ∙ first.others f out }

module _ (among : ℕ → Type 0) (failed answered : Type 0) (old mid new : Told) (law : IsConsistent mid) (first : OnlyReads among failed old mid) where
  pub read_then : OnlyChanges LogStep answered mid new → ReadsAndChanges among LogStep answered old new
  read_then second = record {
    told = subst (λ (files : Option Files). TellsBy LogStep files new.files) first.same second.told;
    stops = joins_by old mid new LogStep law both_logs (same_by old mid LogStep same_log first.stops) second.stops;
    taken = subst (TakesAmong among old.taken) (sym second.taken) first.taken;
    cause = cause_then answered old.faults mid.faults new.faults first.cause.later second.cause;
  }

read_only : (among : ℕ → Type 0) (failed : Type 0) (old new : Told) → OnlyReads among failed old new → ReadsAndChanges among LogStep failed old new
read_only among failed old new reads = record {
  told = told_none LogStep old.files new.files same_log reads.same;
  stops = same_by old new LogStep same_log reads.stops;
  taken = reads.taken;
  cause = reads.cause;
}

-- a store that tells nothing leaves no image, and a stop then leaves what anybody says
none_left : (old new : Told) (step : Files → Files → Type 0) (P : Files → Type 0) → IsConsistent old → old.files ≡ None → LeavesBy step old new → Leaves old new P
none_left old new step P law none stops = widens old new (Follows step old.images) P stops (λ image from.
    let told = law.tells from.0 from.1 in
    let no : ◌≡◌ {A = Option Files} None (Some told.0) = sym none ∙ told.1 in
    absurd (cc))

-- ---- the front
no_events : (kind : Kind) (settings : Settings) (urls pairs : Book) (events : List Happened) → (kind ≡ CrawlKind → ⊥) → IsRest kind settings urls pairs events → events ≡ []
no_events Lines settings urls pairs events plain rest = rest.events_are
no_events Tuples settings urls pairs events plain rest = rest.events_are
no_events CrawlKind settings urls pairs events plain rest = absurd (plain refl)

pub come_plain : (images : Files → Type 0) (urls : Drum) (state : State) → (urls.settings.kind ≡ CrawlKind → ⊥) → HoldsUrls images urls state
    → come urls.settings state ≡ progress urls.settings.queues urls.settings.buckets []
come_plain images urls state plain holds =
    ap (progress urls.settings.queues urls.settings.buckets) (no_events urls.settings.kind urls.settings state.urls state.pairs state.events plain holds.legal)

-- what an open store has in front is what its state has
pub front_is : (images : Files → Type 0) (urls : Drum) (rest : Rest) (state : State) → HoldsUrls images urls state → HoldsOpen images urls.settings rest state.urls state.pairs state.events
    → front_in rest ≡ (come urls.settings state).front
front_is images urls Plain state holds open_rest = sym (ap (λ (x : Progress). x.front) (come_plain images urls state open_rest holds))
front_is images urls (Crawl ledger) state holds open_rest = ap (λ (x : Progress). x.front) open_rest.1.frontier.progress_is

module _ {S : Type 0} (tells : S → Told) (law : (s : S) → IsConsistent (tells s)) (was now : Parts) (before after : S) where
  -- ---- nothing was added
  pub pass_unread : {A : Type 0} (read : Result A Fault) (result : Result ℕ Fault) (gives : A → Book → Type 0) → IsErr result → ((e : Fault) → IsErrOf result e → IsErrOf read e)
      → ReadsUrls read gives was.urls (tells before) (tells after) → ReadsState read gives was now (tells before) (tells after) → now.rest ≡ was.rest → PassesState tells result was now before after
  pass_unread read result gives is same reads states rest = record {
    holds = err_ok result _ is;
    count = err_if result _ is;
    front = err_if result _ is;
    stops = λ state holds. widens (tells before) (tells after) (HasState state) _ (states.stops state holds) (λ image has. inl has);
    legal = λ files told state holds. inr (states.stops state holds);
    others =
        let changes = read_only (IsJudgedFile was.urls) (IsErrOf read Failed) (tells before) (tells after) reads.reads in
        record { told = changes.told; stops = changes.stops; taken = changes.taken; cause = record { later = changes.cause.later; rose = λ e. changes.cause.rose (same Failed e) } };
    memory = λ e state holds. states.holds state holds;
    damaged = λ f at e state holds. states.holds state holds;
    still = λ not. on_err result _ (λ state holds. states.stops state holds);
    spoilt = λ f at e. reads.spoilt f at (same (Damaged f at) e);
    whole = λ f at e. states.whole f at (same (Damaged f at) e);
    full = λ n e. reads.full n (same (Full n) e);
    urls = states.same;
    tables = λ c d was_is now_is. (err_ok result _ is, on_err result _ (ap (λ (p : Ledger). p.frontier) (same_crawl d c (sym now_is ∙ rest ∙ was_is))));
    suffixes = ap suffixes_in rest;
  }

  -- ---- it was added, or was to be
  module _ (mid : Parts) (between : S) (fresh : List Item) (added : Result Unit Fault) (result : Result ℕ Fault) (failed : Type 0)
      (reads : OnlyReads (IsJudgedFile was.urls) failed (tells before) (tells between))
      (found : ForSome (tells before).files (λ _. (state : State) → HoldsState (tells before).images was state → AreFresh was.rest fresh state.urls))
      (read_holds : (state : State) → HoldsState (tells before).images was state → HoldsState (tells between).images mid state)
      (read_stops : (state : State) → HoldsState (tells before).images was state
      → Leaves (tells before) (tells between) (HasState state)) (mid_urls : mid.urls ≡ was.urls) (mid_rest : mid.rest ≡ was.rest)
      (adds : AddsPass tells added fresh mid now between after) (done : IsOk result → IsOk added) (not_done : IsErr result → IsErr added) (same : (e : Fault) → IsErrOf result e → IsErrOf added e)
      (count : IfOk result (λ count. count ≡ length (front_in now.rest))) where
    settings_same : mid.urls.settings ≡ was.urls.settings
    settings_same = ap (λ (d : Drum). d.settings) mid_urls

    then_fresh : (state : State) → AreFresh was.rest fresh state.urls → AreFresh mid.rest fresh state.urls
    then_fresh state are = subst (λ (r : Rest). AreFresh r fresh state.urls) (sym mid_rest) are

    pass_after : IsOk added → (files : Files) → (tells before).files ≡ Some files → (state : State) → HoldsState (tells before).images was state
        → HoldsState (tells after).images now (with_pass was.urls.settings state)
    pass_after ok files told state holds =
        subst (λ (s : Settings). HoldsState (tells after).images now (with_pass s state)) settings_same
        (on_ok_of added _ ok adds.holds state (read_holds state holds) (then_fresh state (found files told state holds)))

    stops_told : (files : Option Files) → (tells before).files ≡ files → (state : State) → HoldsState (tells before).images was state
        → Leaves (tells before) (tells after) (HasOneOf state (with_pass was.urls.settings state))
    stops_told None none state holds =
        none_left (tells before) (tells after) LogStep _ (law before) none
        (read_then (IsJudgedFile was.urls) failed (IsErrOf added Failed) (tells before) (tells between) (tells after) (law between) reads adds.others).stops
    stops_told (Some files) told state holds =
        joins (tells before) (tells between) (tells after) (HasOneOf state (with_pass was.urls.settings state))
        (widens (tells before) (tells between) (HasState state) _ (read_stops state holds) (λ image has. inl has))
        (subst (λ (s : Settings). Leaves (tells between) (tells after) (HasOneOf state (with_pass s state))) settings_same
        (adds.stops state (read_holds state holds) (then_fresh state (found files told state holds))))

    -- without memory nothing was added
    still_by : (error : Result ℕ Fault) → ((e : Fault) → IsErrOf error e → IsErrOf added e) → (IsErrOf error Failed → ⊥)
        → OnErr error ((state : State) → HoldsState (tells before).images was state → Leaves (tells before) (tells after) (HasState state))
    still_by (Ok n) is not = tt
    still_by (Err Failed) is not = absurd (not refl)
    still_by (Err Memory) is not = λ state holds.
        subst (λ (s : S). Leaves (tells before) (tells s) (HasState state)) (sym (adds.memory (is Memory refl)).0) (read_stops state holds)
    still_by (Err (Full n)) is not = absurd (adds.full n (is (Full n) refl))
    still_by (Err (Damaged f at)) is not = absurd (adds.damaged f at (is (Damaged f at) refl))

    pub pass_added : PassesState tells result was now before after
    pass_added = record {
      holds = on_ok result _ (λ ok files told state holds. pass_after (done ok) files told state holds);
      count = count;
      front = IfOk-weaker result _ _ (λ n is state holds. is ∙ ap length (front_is (tells after).images now.urls now.rest state holds.urls holds.open_rest)) count;
      stops = λ state holds. stops_told (tells before).files refl state holds;
      legal = λ files told state holds. inl (subst (λ (s : Settings). IsStateOf s (with_pass s state)) settings_same
          (adds.legal state (read_holds state holds) (then_fresh state (found files told state holds))));
      others =
          let changes = read_then (IsJudgedFile was.urls) failed (IsErrOf added Failed) (tells before) (tells between) (tells after) (law between) reads adds.others in
          record { told = changes.told; stops = changes.stops; taken = changes.taken; cause = record { later = changes.cause.later; rose = λ e. changes.cause.rose (same Failed e) } };
      memory = λ e state holds.
          let none = adds.memory (same Memory e) in
          subst (λ (s : S). HoldsState (tells s).images now state) (sym none.0) (subst (λ (p : Parts). HoldsState (tells between).images p state) (sym none.1) (read_holds state holds));
      damaged = λ f at e. absurd (adds.damaged f at (same (Damaged f at) e));
      still = still_by result same;
      spoilt = λ f at e. absurd (adds.damaged f at (same (Damaged f at) e));
      whole = λ f at e. absurd (adds.damaged f at (same (Damaged f at) e));
      full = λ n e. adds.full n (same (Full n) e);
      urls = adds.urls ∙ mid_urls;
      tables = λ c d was_is now_is.
          let told = adds.tables c d (mid_rest ∙ was_is) now_is in (
            on_ok result _ (λ ok. let one = on_ok_of added _ (done ok) told.0 in (one.0, fresh, one.1)),
            err_of result added _ not_done told.1,
          );
      suffixes = adds.suffixes ∙ ap suffixes_in mid_rest;
    }
