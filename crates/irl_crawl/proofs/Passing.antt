-- A pass is a turn that visits nothing.
use Rattle.std.proofs.Common.{◌≡◌, ◌∙◌, ℕ, ◌≤◌, List, [], ◌∷◌, length, Result, Ok, Err, IfOk, OnOk, refl, sym, ap, subst, arith, inl, inr}
use Rattle.std.specs.List.{flat_map}
use Rattle.std.specs.List.Sorted.{IsPermutation}
use Rattle.std.proofs.lemmas.List.Sorted.{IsPermutation-refl}
use Rattle.irl_base.specs.declared.fault.Fault.{Fault}
use Rattle.irl_events.proofs.Following.{after_more}
use Rattle.irl_events.specs.Events.{Pass, Happened, Progress, before_all}
use Rattle.irl_events.specs.State.{State}
use Rattle.irl_offer.specs.declared.place.Place.{Place}
use Rattle.irl_offer.specs.declared.settings.Settings.{Settings}
use Rattle.irl_polite.specs.Schedule.{Schedule}
use Rattle.irl_reach.proofs.Members.{flat_left}
use Rattle.irl_reach.proofs.Turns.{added_same, crawls_event}
use Rattle.irl_reach.specs.Along.{notes_in, notes_of, settled_in}
use Rattle.irl_reach.specs.Crawls.{IsCrawlStore, found_by}
use Rattle.irl_yard.specs.Adding.{with_event}
use Rattle.irl_yard.specs.Leading.{IsEither}
use Rattle.irl_yard.specs.Passing.{with_pass}
use Rattle.irl_crawl.proofs.Batches.{ground_none, grown_alike, grown_more}
use Rattle.irl_crawl.proofs.Few.{few_none}
use Rattle.irl_crawl.proofs.Resting.{asks_none, rests_none, since_are}
use Rattle.irl_crawl.proofs.Sent.{sends_all_from, sends_none, sends_same, sent_same}
use Rattle.irl_crawl.proofs.Turning.{turns_none}
use Rattle.irl_crawl.specs.Judging.{IsJudged}
use Rattle.irl_crawl.specs.Running.{Passes}
use Rattle.irl_crawl.specs.Sending.{SendsAll}
use Rattle.irl_crawl.specs.Turning.{AreBatches, AsksOnce, OnlyTurns, Turns, TurnsWhole, events_since, input_of, turns_in}
use Rattle.irl_crawl.specs.Workers.{AreNotedIn, Given}

module _ (given : Given) (zero : given.may_miss 0) (agent suffixes : List ℕ) (settings : Settings) (most : ℕ) (x : State) (judged : ℕ) (places : List Place) where
  abbrev passed : State
  passed = with_event (Pass judged) places x

  since : events_since x passed ≡ (Pass judged, places) ∷ []
  since = since_are x passed ((Pass judged, places) ∷ []) refl

  pub pass_turns : OnlyTurns given agent suffixes settings most x passed
  pass_turns = record {
    visits = [];
    crawls = crawls_event (input_of suffixes []) given.gives agent [] x passed (Pass judged) places refl refl tt;
    rests = rests_none given zero (events_since x passed) (ap notes_in since);
    front = tt;
    few = omega arith;
    behind = few_none settings most x passed;
    batch = subst (AreBatches most) (sym since) (tt, tt);
    settled = subst (λ (hs : List Happened). length (settled_in hs) ≤ most) (sym since) (omega arith);
    grows = grown_more settings 0 (turns_in (events_since x passed)) x passed (omega arith) (grown_alike settings x passed refl refl);
    sends = sends_same suffixes settings x passed refl;
  }

  still_noted : (fronts : List Schedule) → AreNotedIn agent x.events fronts → AreNotedIn agent passed.events fronts
  still_noted fronts noted at front there host told is =
      let was = noted at front there host told is in
      (was.0, flat_left (λ (h : Happened). notes_of h.0) x.events ((Pass judged, places) ∷ []) was.0 was.1, was.2, was.3)

  still_judged : IsJudged settings x → IsJudged settings passed
  still_judged is = record {
    urls = is.urls;
    sent = (ap (λ (p : Progress). p.cuts) (after_more (before_all settings.queues settings.buckets) x.events (Pass judged, places)) ∙ is.sent.0, is.sent.1);
  }

  still_sent : IsCrawlStore settings passed → IsJudged settings x → SendsAll suffixes settings x passed
  still_sent made is =
      sends_all_from suffixes settings x passed passed refl (sent_same settings x passed ((Pass judged, places) ∷ []) refl (tt, tt))
      (sends_none suffixes settings passed made (still_judged is).sent.0)

  pub pass_whole : (fronts : List Schedule) → IsCrawlStore settings passed → IsJudged settings x → AreNotedIn agent x.events fronts
      → TurnsWhole 0 agent suffixes settings pass_turns.visits fronts x passed
  unfolding pass_turns
  pass_whole fronts made is noted = record {
    leaves = record {
      offers = subst (λ (l : List _). IsPermutation l []) (sym (added_same x.urls.lists)) (IsPermutation-refl []);
      settled = tt;
    };
    count_is = ap (λ (hs : List Happened). length (settled_in hs)) (sym since);
    few = omega arith;
    judged = still_judged is;
    sent = still_sent made is;
    known = still_noted fronts noted;
  }

  pub pass_asks : given.made ≡ 0 → AsksOnce given pass_turns.visits (events_since x passed)
  unfolding pass_turns
  pass_asks made = asks_none given zero made (events_since x passed) (ap notes_in since)

-- by the answer
module _ (given : Given) (zero : given.may_miss 0) (agent suffixes : List ℕ) (settings : Settings) (most : ℕ) (x y : State) (fronts : List Schedule) where
  pub either_turns : IsEither x (with_pass settings x) y → OnlyTurns given agent suffixes settings most x y
  either_turns (inl same) = subst (OnlyTurns given agent suffixes settings most x) (sym same) (turns_none given agent suffixes settings most x zero)
  either_turns (inr pass) = subst (OnlyTurns given agent suffixes settings most x) (sym pass) (pass_turns given zero agent suffixes settings most x _ _)

  abbrev Passed : ℕ → State → Type 0
  Passed count z = (only : OnlyTurns given agent suffixes settings most x z) × TurnsWhole count agent suffixes settings only.visits fronts x z
      × AsksOnce given only.visits (events_since x z)

  pub pass_step : given.made ≡ 0 → (result : Result ℕ Fault) → IfOk result (λ count. count ≡ 0) → OnOk result (IsCrawlStore settings y) → Passes result settings x y → IsJudged settings x
      → Turns result given agent suffixes settings most fronts fronts x y
  pass_step nothing (Ok count) none made passes is noted =
      let turn : Passed count y =
      subst (Passed count) (sym passes.done)
      (subst (λ n. Passed n (with_pass settings x)) (sym none) (
        pass_turns given zero agent suffixes settings most x _ _,
        pass_whole given zero agent suffixes settings most x _ _ fronts (subst (IsCrawlStore settings) passes.done made) is noted,
        pass_asks given zero agent suffixes settings most x _ _ nothing,
      )) in
      record { only = turn.0; whole = turn.1; asks = turn.2; ground = ground_none (Ok count) suffixes settings (flat_map (found_by suffixes y.urls) turn.0.visits) x y passes.ground }
  pass_step nothing (Err fault) none made passes is noted =
      let only = either_turns (inl passes.kept) in
      record { only = only; whole = tt; asks = tt; ground = ground_none (Err fault) suffixes settings (flat_map (found_by suffixes y.urls) only.visits) x y passes.ground }
