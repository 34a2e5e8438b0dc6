-- The seeds of a crawl, and its run behind them.
use Rattle.std.proofs.Common.{◌≡◌, ◌∙◌, ℕ, List, ◌++◌, map, Result, Ok, Err, IsErrOf, sym, ap, subst, inr}
use Rattle.std.specs.List.{flat_map}
use Rattle.std.proofs.lemmas.List.Sorted.{IsPermutation-refl}
use Rattle.irl_answer.specs.Found.{offer_from}
use Rattle.irl_base.specs.declared.fault.Fault.{Fault as FaultValue}
use Rattle.irl_base.specs.declared.fault.Fault.TheVariants.{Failed, Memory}
use Rattle.irl_bay.specs.Drum.{IsDrum}
use Rattle.irl_disk.specs.Images.{Told}
use Rattle.irl_events.specs.State.{State}
use Rattle.irl_offer.specs.declared.settings.Settings.{Settings}
use Rattle.irl_reach.specs.Crawls.{IsCrawlStore, IsStore, found_by}
use Rattle.irl_schedule.proofs.Outcomes.{ok_gives}
use Rattle.irl_yard.specs.declared.parts.Parts.{Parts}
use Rattle.irl_yard.specs.Holding.{HoldsState}
use Rattle.irl_yard.specs.Sending.{HasBegun}
use Rattle.irl_crawl.proofs.Leading.{leads_more_failed, leads_then, leads_wide}
use Rattle.irl_crawl.proofs.Batches.{Fills, covers_append, fills_among, ground_more, ground_then}
use Rattle.irl_crawl.proofs.Looping.{faulted_ends, ground_memory}
use Rattle.irl_crawl.proofs.Running.{seeds_crawl, seeds_then, seeds_to}
use Rattle.irl_crawl.proofs.Sent.{owe_then}
use Rattle.irl_crawl.proofs.Stores.{held_is_crawl}
use Rattle.irl_crawl.specs.declared.plan.Ended.{Ended}
use Rattle.irl_crawl.specs.declared.plan.Ended.TheVariants.{Fault}
use Rattle.irl_crawl.specs.Crawling.{CrawlsTo, OnlyCrawls, result_of}
use Rattle.irl_crawl.specs.Leading.{HasGround, Leads}
use Rattle.irl_crawl.specs.Offering.{OnlySeeds, Seeds}
use Rattle.irl_crawl.specs.Running.{MayRun, Runs}
use Rattle.irl_crawl.specs.Workers.{Given}

-- the same seeds, by another name
pub seeds_are : {suffixes : List ℕ} {seeds same : List (List ℕ)} {seeded : Result Unit FaultValue} {was mid : Parts} {before between : Told} → same ≡ seeds
    → Leads (IsErrOf seeded Failed) (OnlySeeds suffixes was.urls.settings same) (Seeds seeded suffixes was.urls.settings same) was mid before between
    → Leads (IsErrOf seeded Failed) (OnlySeeds suffixes was.urls.settings seeds) (Seeds seeded suffixes was.urls.settings seeds) was mid before between
seeds_are {suffixes = suffixes} {seeded = seeded} {was = was} {mid = mid} {before = before} {between = between} is =
    subst (λ (list : List (List ℕ)). Leads (IsErrOf seeded Failed) (OnlySeeds suffixes was.urls.settings list) (Seeds seeded suffixes was.urls.settings list) was mid before between) is

module _ (given : Given) (agent suffixes : List ℕ) (pages batch : ℕ) {seeds : List (List ℕ)} {seeded : Result Unit FaultValue} {was mid : Parts} {before between : Told}
    (first : Leads (IsErrOf seeded Failed) (OnlySeeds suffixes was.urls.settings seeds) (Seeds seeded suffixes was.urls.settings seeds) was mid before between) where
  abbrev settings : Settings
  settings = was.urls.settings

  -- it ends so
  abbrev EndsAt : Parts → Told → Ended → Type 0
  EndsAt now after ended =
      Leads (ended ≡ Fault Failed) (OnlyCrawls given agent suffixes seeds settings 1 pages batch) (CrawlsTo ended given agent suffixes seeds settings 1 pages batch) was now before after

  -- where no answer was asked for
  module _ (zero : given.may_miss 0) where
    -- a fault that isn't the run's
    faulted : (fault : FaultValue) (x y : State) → OnlySeeds suffixes settings seeds x y → HasGround {A = Unit} (Err fault) suffixes settings (map (offer_from 0) seeds) x y
        → CrawlsTo (Fault fault) given agent suffixes seeds settings 1 pages batch x y
    faulted fault x y only ground =
        let crawls = seeds_crawl given zero agent suffixes seeds settings pages batch x y only in
        let offers = map (offer_from 0) seeds in
        let found = flat_map (found_by suffixes y.urls) crawls.visits in
        record {
          only = crawls;
          done = λ no. let not : ⊥ = cc in absurd not;
          limit = λ no. let not : ⊥ = cc in absurd not;
          asks = λ ends. absurd (faulted_ends fault ends);
          ground = ground_more (Err fault) suffixes settings offers (offers ++ found) x y (record { rest = found; is = IsPermutation-refl (offers ++ found) }) ground;
        }

    -- the seeds are refused
    pub crawl_refused : (fault : FaultValue) → seeded ≡ Err fault → EndsAt mid between (Fault fault)
    crawl_refused fault is = leads_more_failed (IsErrOf seeded Failed) (Fault fault ≡ Fault Failed) _ _ was mid before between
        (λ failed. let both = sym is ∙ failed in let same : fault ≡ Failed = cc in ap (λ (f : FaultValue). Fault f) same)
        (λ failed. let same : fault ≡ Failed = cc in is ∙ ap (λ (f : FaultValue). Err f) same)
        (leads_wide (IsErrOf seeded Failed) _ _ _ _ was mid before between first (λ x y held front only. seeds_crawl given zero agent suffixes seeds settings pages batch x y only)
        (λ x y held later front did. faulted fault x y did.only (subst (λ (r : Result Unit FaultValue). HasGround r suffixes settings (map (offer_from 0) seeds) x y) is did.ground)))

    -- no memory is left for the run
    pub crawl_lacks : (value : Unit) → seeded ≡ Ok value → EndsAt mid between (Fault Memory)
    crawl_lacks value is = leads_more_failed (IsErrOf seeded Failed) (Fault Memory ≡ Fault Failed) _ _ was mid before between
        (λ failed. let both = sym is ∙ failed in let no : ⊥ = cc in absurd no) (λ failed. let no : ⊥ = cc in absurd no)
        (leads_wide (IsErrOf seeded Failed) _ _ _ _ was mid before between first (λ x y held front only. seeds_crawl given zero agent suffixes seeds settings pages batch x y only)
        (λ x y held later front did. faulted Memory x y did.only (ground_memory suffixes settings (map (offer_from 0) seeds) x y)))

  module _ (value : Unit) (is : seeded ≡ Ok value) where
    sound : IsErrOf seeded Failed → ⊥
    sound failed = let both = sym is ∙ failed in cc

    -- the run, for these workers and under these settings
    abbrev RunsAt : Ended → Parts → Told → List ℕ → List ℕ → Settings → Type 0
    RunsAt ended now after agent suffixes settings =
        Leads (ended ≡ Fault Failed) (MayRun given agent suffixes settings pages batch) (Runs ended given agent suffixes settings pages batch) mid now between after

    module _ (drum : IsDrum was.urls) (begun : HasBegun was.rest) (still : HasBegun mid.rest) (ended : Ended) (now : Parts) (after : Told) (crew_agent crew_suffixes : List ℕ)
        (same_agent : crew_agent ≡ agent) (same_suffixes : crew_suffixes ≡ suffixes) (run : RunsAt ended now after crew_agent crew_suffixes mid.urls.settings) where
      run_at : RunsAt ended now after agent suffixes settings
      run_at =
          subst (λ (s : Settings). RunsAt ended now after agent suffixes s) first.settings
          (subst (λ (a : List ℕ). RunsAt ended now after a suffixes mid.urls.settings) same_agent
          (subst (λ (s : List ℕ). RunsAt ended now after crew_agent s mid.urls.settings) same_suffixes run))

      stood : (x : State) → HoldsState before.images was x → IsStore x
      stood x held = inr (settings, held_is_crawl before.images was x drum begun held)

      made : (y : State) → HoldsState between.images mid y → IsCrawlStore settings y
      made y held = subst (λ (s : Settings). IsCrawlStore s y) first.settings (held_is_crawl between.images mid y first.goes_on.drum still held)

      pub crawl_runs : EndsAt now after ended
      crawl_runs =
          leads_then (IsErrOf seeded Failed) (ended ≡ Fault Failed) _ _ _ _ _ _ was mid now before between after first sound run_at
          (λ x y z held later one two did runs.
          let all = ok_gives seeded value did.all is in
          let to = runs all.1 in
          let offers = map (offer_from 0) seeds in
          let found = flat_map (found_by suffixes z.urls) to.only.visits in
          let book = made y later in
          let fills : Fills settings offers x y = fills_among settings offers x y book.book book.buckets did.only.grows.urls.front did.only.among in
          seeds_to ended given agent suffixes seeds settings pages batch x y z (stood x held) book one two did.only all.1 all.2 to all.0
          (ground_then (result_of ended) suffixes settings found (offers ++ found) x y z (owe_then suffixes settings x y z (stood x held) book one two all.1.sent.0 all.2)
          (covers_append settings offers found x y fills) to.ground))
          (λ x y z held later one two did may.
          let all = ok_gives seeded value did.all is in
          seeds_then given agent suffixes seeds settings pages batch x y z (stood x held) (made y later) one two did.only all.1 all.2 (may all.1))
