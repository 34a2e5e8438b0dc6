-- The steps of a run, over the states that an open store held.
use Rattle.std.proofs.Common.{◌≡◌, ◌∙◌, ℕ, ◌-◌, ◌≤◌, List, [], length, Some, Result, Ok, Err, IsErrOf, sym, ap, subst, arith, ◌⊎◌, inl, inr}
use Rattle.std.specs.List.{flat_map}
use Rattle.irl_base.specs.declared.fault.Fault.{Fault as FaultValue}
use Rattle.irl_base.specs.declared.fault.Fault.TheVariants.{Damaged, Failed, Full, Memory}
use Rattle.irl_bay.specs.Drum.{IsDrum}
use Rattle.irl_disk.specs.Images.{IsConsistent, Told}
use Rattle.irl_events.specs.State.{State, IsFrontState}
use Rattle.irl_offer.specs.declared.settings.Settings.{Settings}
use Rattle.irl_polite.specs.Schedule.{Schedule}
use Rattle.irl_offer.specs.Tuple.{Tuple}
use Rattle.irl_reach.specs.Crawls.{IsCrawlStore, IsStore, Visit, found_by}
use Rattle.irl_record.specs.Widening.{Answers}
use Rattle.irl_record.specs.Wired.{Made}
use Rattle.irl_schedule.proofs.Outcomes.{same_refusal}
use Rattle.irl_yard.specs.declared.parts.Parts.{Parts}
use Rattle.irl_yard.specs.Holding.{HoldsState}
use Rattle.irl_yard.specs.Passing.{suffixes_in}
use Rattle.irl_yard.specs.Sending.{HasBegun}
use Rattle.irl_crawl.proofs.Batches.{ground_then}
use Rattle.irl_crawl.proofs.Giving.{AreEarlier}
use Rattle.irl_crawl.proofs.Going.{all_go_none, all_go_then}
use Rattle.irl_crawl.proofs.Leading.{leads_more_failed, leads_none, leads_then, leads_wide}
use Rattle.irl_crawl.proofs.Resting.{Joins, joined_given}
use Rattle.irl_crawl.proofs.Rising.{rose_between_same}
use Rattle.irl_crawl.proofs.Running.{SoFar, far_more, far_none, more_covers, turn_more}
use Rattle.irl_crawl.proofs.Sent.{owe_then}
use Rattle.irl_crawl.proofs.Stores.{held_is_crawl}
use Rattle.irl_crawl.specs.declared.plan.Ended.{Ended}
use Rattle.irl_crawl.specs.declared.plan.Ended.TheVariants.{Done, Fault, Limit}
use Rattle.irl_crawl.specs.Crawling.{NoneWaits, OnlyCrawls}
use Rattle.irl_crawl.specs.Judging.{IsJudged}
use Rattle.irl_crawl.specs.Leading.{HasGround, IsOpen, IsSent, KeepsBegun, Leads}
use Rattle.irl_crawl.specs.Running.{MayRun, Runs, Steps}
use Rattle.irl_crawl.specs.Turning.{MayTurn, OnlyTurns, Turns}
use Rattle.irl_crawl.specs.Workers.{AllGoOn, AreIdle, AreNotedIn, Given, given_by}

-- ---- grounds
-- the same fault, answered otherwise
pub ground_fault : {A B : Type 0} (fault : FaultValue) (suffixes : List ℕ) (settings : Settings) (handed : List Tuple) (x y : State)
    → HasGround {A = A} (Err fault) suffixes settings handed x y → HasGround {A = B} (Err fault) suffixes settings handed x y
ground_fault {A} {B} fault suffixes settings handed x y ground = record {
  full = λ n is. ground.full n (same_refusal {T = B} {U = A} fault (Full n) is);
  whole = λ f at is. ground.whole f at (same_refusal {T = B} {U = A} fault (Damaged f at) is);
}

pub ground_memory : {A : Type 0} (suffixes : List ℕ) (settings : Settings) (handed : List Tuple) (x y : State) → HasGround {A = A} (Err Memory) suffixes settings handed x y
ground_memory suffixes settings handed x y = record { full = λ n is. let no : ⊥ = cc in absurd no; whole = λ f at is. let no : ⊥ = cc in absurd no }

pub ground_ok : {A : Type 0} (value : A) (suffixes : List ℕ) (settings : Settings) (handed : List Tuple) (x y : State) → HasGround (Ok value) suffixes settings handed x y
ground_ok value suffixes settings handed x y = record { full = λ n is. let no : ⊥ = cc in absurd no; whole = λ f at is. let no : ⊥ = cc in absurd no }

-- a fault is neither end
pub faulted_ends : (fault : FaultValue) → (Fault fault ≡ Done) ⊎ (Fault fault ≡ Limit) → ⊥
faulted_ends fault (inl done) = cc
faulted_ends fault (inr limit) = cc

-- ---- a run
-- how far it came, in memory and over the states
pub record RunsOn {F : Type 0} (asked : F → Made) (gives : F → ℕ → Answers) (faults last : F → ℕ) (aim : F
    → List ℕ) (agent suffixes : List ℕ) (pages batch left : ℕ) (fronts : List Schedule) (olds nows : List F)
    (was now : Parts) (before after : Told) : Type 0 where
  pub leads : Leads ⊥ (MayRun (given_by asked gives faults olds nows) agent suffixes was.urls.settings pages batch)
      (λ x y. IsJudged was.urls.settings x → SoFar (given_by asked gives faults olds nows) agent suffixes was.urls.settings pages batch left fronts x y) was now before after
  pub drum : IsDrum was.urls
  pub first : HasBegun was.rest
  pub begun : HasBegun now.rest
  pub sent : IsSent now
  pub same : suffixes_in now.rest ≡ Some suffixes
  pub idle : AreIdle (length olds) agent fronts
  pub goes_on : AllGoOn asked gives faults last aim olds nows

module _ {F : Type 0} {asked : F → Made} {gives : F → ℕ → Answers} {faults last : F → ℕ} {aim : F → List ℕ} {agent suffixes : List ℕ} {pages batch : ℕ} where
  pub runs_first : {fronts : List Schedule} {olds : List F} {was : Parts} {before : Told} → IsConsistent before → IsDrum was.urls → IsOpen was → IsSent was → suffixes_in was.rest ≡ Some suffixes
      → AreIdle (length olds) agent fronts → ((x : State) → AreNotedIn agent x.events fronts)
      → RunsOn asked gives faults last aim agent suffixes pages batch pages fronts olds olds was was before before
  runs_first {fronts} {olds} {was} {before} law drum opened sent same idle unknown = record {
    leads = leads_none ⊥ _ _ was before law drum opened.sound (λ no. no)
        (λ x held judged. far_none (given_by asked gives faults olds olds) (rose_between_same faults olds) (omega arith) agent suffixes was.urls.settings pages batch fronts x
        (held_is_crawl before.images was x drum opened.begun held) judged (unknown x));
    drum = drum;
    first = opened.begun;
    begun = opened.begun;
    sent = sent;
    same = same;
    idle = idle;
    goes_on = all_go_none asked gives faults last aim olds;
  }

  module _ {left : ℕ} {fronts : List Schedule} {olds mids : List F} {was mid : Parts} {before between : Told}
      (far : RunsOn asked gives faults last aim agent suffixes pages batch left fronts olds mids was mid before between) where
    abbrev settings : Settings
    settings = was.urls.settings

    -- ---- the end
    -- it ends so, where the answers are given from its beginning
    abbrev EndsAt : List F → Parts → Told → Ended → Type 0
    EndsAt news now after ended =
        Leads (ended ≡ Fault Failed) (MayRun (given_by asked gives faults olds news) agent suffixes settings pages batch)
        (Runs ended (given_by asked gives faults olds news) agent suffixes settings pages batch) was now before after

    pub runs_done : ((y : State) → HoldsState between.images mid y → NoneWaits mid.urls.settings y) → EndsAt mids mid between Done
    runs_done none = leads_more_failed ⊥ (Done ≡ Fault Failed) _ _ was mid before between (λ no. absurd no) (λ is. cc)
        (leads_wide ⊥ _ _ _ _ was mid before between far.leads (λ x y held front may. may) (λ x y held later front did judged.
        let was_far = did judged in
        record {
          only = was_far.only;
          done = λ is. (was_far.whole, subst (λ (s : Settings). NoneWaits s y) far.leads.settings (none y later));
          limit = λ is. let no : ⊥ = cc in absurd no;
          asks = λ ends. was_far.asks;
          ground = ground_ok tt suffixes settings (flat_map (found_by suffixes y.urls) was_far.only.visits) x y;
        }))

    pub runs_limit : left ≡ 0 → ((y : State) → HoldsState between.images mid y → NoneWaits mid.urls.settings y → ⊥) → EndsAt mids mid between Limit
    runs_limit zero some = leads_more_failed ⊥ (Limit ≡ Fault Failed) _ _ was mid before between (λ no. absurd no) (λ is. cc)
        (leads_wide ⊥ _ _ _ _ was mid before between far.leads (λ x y held front may. may) (λ x y held later front did judged.
        let was_far = did judged in
        let count = was_far.count in
        record {
          only = was_far.only;
          done = λ is. let no : ⊥ = cc in absurd no;
          limit = λ is. (was_far.whole, omega (arith, count, zero), λ none. some y later (subst (λ (s : Settings). NoneWaits s y) (sym far.leads.settings) none));
          asks = λ ends. was_far.asks;
          ground = ground_ok tt suffixes settings (flat_map (found_by suffixes y.urls) was_far.only.visits) x y;
        }))

    -- ---- a step more
    -- what it makes of the states, for these workers and under these settings
    abbrev StepsAt : ℕ → Result ℕ FaultValue → List Schedule → List F → Parts → Told → List ℕ → List ℕ → Settings → Type 0
    StepsAt most result afters news now after agent suffixes settings =
        Leads (IsErrOf result Failed) (MayTurn (given_by asked gives faults mids news) agent suffixes settings most fronts)
        (Steps result (given_by asked gives faults mids news) agent suffixes settings most fronts afters) mid now between after

    module _ (earlier : AreEarlier gives) (most : ℕ) (result : Result ℕ FaultValue) (afters : List Schedule) (news : List F) (now : Parts) (after : Told) (crew_agent crew_suffixes : List ℕ)
        (same_agent : crew_agent ≡ agent) (same_suffixes : crew_suffixes ≡ suffixes) (step : StepsAt most result afters news now after crew_agent crew_suffixes mid.urls.settings)
        (on : AllGoOn asked gives faults last aim mids news) (within : most ≤ left) (small : most ≤ batch) where
      abbrev first : Given
      first = given_by asked gives faults olds mids

      abbrev own : Given
      own = given_by asked gives faults mids news

      abbrev given : Given
      given = given_by asked gives faults olds news

      joins : Joins first own given
      joins = joined_given asked gives faults last aim olds mids news far.goes_on on earlier

      step_at : StepsAt most result afters news now after agent suffixes settings
      step_at =
          subst (λ (s : Settings). StepsAt most result afters news now after agent suffixes s) far.leads.settings
          (subst (λ (a : List ℕ). StepsAt most result afters news now after a suffixes mid.urls.settings) same_agent
          (subst (λ (s : List ℕ). StepsAt most result afters news now after crew_agent s mid.urls.settings) same_suffixes step))

      stood : (x : State) → HoldsState before.images was x → IsStore x
      stood x held = inr (settings, held_is_crawl before.images was x far.drum far.first held)

      made : (y : State) → HoldsState between.images mid y → IsCrawlStore settings y
      made y held = subst (λ (s : Settings). IsCrawlStore s y) far.leads.settings (held_is_crawl between.images mid y far.leads.goes_on.drum far.begun held)

      -- how far it came before
      abbrev Far : State → State → Type 0
      Far x y = SoFar first agent suffixes settings pages batch left fronts x y

      abbrev Turn : State → State → Type 0
      Turn y z = OnlyTurns own agent suffixes settings most y z

      abbrev more : (x y z : State) → HoldsState before.images was x → HoldsState between.images mid y → IsFrontState x y → IsFrontState y z → Far x y → Turn y z
          → OnlyCrawls given agent suffixes [] settings 0 pages batch x z
      more x y z held later one two far_y turn =
          turn_more first own given joins agent suffixes settings pages batch left most fronts x y z (stood x held) (made y later) one two far_y turn within small

      -- what the visits of the turn found, and of all
      abbrev found : State → List Visit → List Tuple
      found z visits = flat_map (found_by suffixes z.urls) visits

      ground_turn : (fault : FaultValue) (x y z : State) (held : HoldsState before.images was x) (later : HoldsState between.images mid y) (one : IsFrontState x y) (two : IsFrontState y z)
          (far_y : Far x y) (turn : Turn y z) → HasGround {A = Unit {0}} (Err fault) suffixes settings (found z turn.visits) y z
          → HasGround {A = Unit {0}} (Err fault) suffixes settings (found z (more x y z held later one two far_y turn).visits) x z
      ground_turn fault x y z held later one two far_y turn ground =
          ground_then (Err fault) suffixes settings (found z turn.visits) (found z (more x y z held later one two far_y turn).visits) x y z
          (owe_then suffixes settings x y z (stood x held) (made y later) one two far_y.whole.judged.sent.0 far_y.whole.sent)
          (more_covers first own given joins agent suffixes settings pages batch left most fronts x y z (stood x held) (made y later) one two far_y turn within small) ground

      -- Err
      pub runs_stop : (fault : FaultValue) → result ≡ Err fault → EndsAt news now after (Fault fault)
      runs_stop fault is = leads_more_failed (IsErrOf result Failed) (Fault fault ≡ Fault Failed) _ _ was now before after
          (λ failed. let both = sym is ∙ failed in let same : fault ≡ Failed = cc in ap (λ (f : FaultValue). Fault f) same)
          (λ failed. let same : fault ≡ Failed = cc in is ∙ ap (λ (f : FaultValue). Err f) same)
          (leads_then ⊥ (IsErrOf result Failed) _ _ _ _ _ _ was mid now before between after far.leads (λ no. no) step_at
          (λ x y z held later one two did turns judged.
          let far_y = did judged in
          let turn = turns far_y.whole.judged far_y.known in
          record {
            only = more x y z held later one two far_y turn.only;
            done = λ no. let not : ⊥ = cc in absurd not;
            limit = λ no. let not : ⊥ = cc in absurd not;
            asks = λ ends. absurd (faulted_ends fault ends);
            ground = ground_turn fault x y z held later one two far_y turn.only
                (ground_fault fault suffixes settings (found z turn.only.visits) y z
                (subst (λ (r : Result ℕ FaultValue). HasGround r suffixes settings (found z turn.only.visits) y z) is turn.ground));
          })
          (λ x y z held later one two did may judged. let far_y = did judged in more x y z held later one two far_y (may far_y.known)))

      -- Ok
      pub runs_next : (count : ℕ) → result ≡ Ok count → KeepsBegun mid now × IsSent now → AreIdle (length mids) agent afters
          → RunsOn asked gives faults last aim agent suffixes pages batch (left - count) afters olds news was now before after
      runs_next count is keeps idle = record {
        leads = leads_more_failed (IsErrOf result Failed) ⊥ _ _ was now before after (λ failed. let both = sym is ∙ failed in cc) (λ no. absurd no)
            (leads_then ⊥ (IsErrOf result Failed) _ _ _ _ _ _ was mid now before between after far.leads (λ no. no) step_at
            (λ x y z held later one two did turns judged.
            let far_y = did judged in
            let all = subst (λ (r : Result ℕ FaultValue). Turns r own agent suffixes settings most fronts afters y z) is (turns far_y.whole.judged) in
            let turn = all far_y.known in
            far_more first own given joins agent suffixes settings pages batch left most fronts x y z (stood x held) (made y later) one two far_y turn.only within small count afters turn.whole
            turn.asks)
            (λ x y z held later one two did may judged. let far_y = did judged in more x y z held later one two far_y (may far_y.known)));
        drum = far.drum;
        first = far.first;
        begun = keeps.0.begun;
        sent = keeps.1;
        same = keeps.0.suffixes ∙ far.same;
        idle = subst (λ n. AreIdle n agent afters) far.goes_on.count idle;
        goes_on = all_go_then asked gives faults last aim olds mids news far.goes_on on;
      }
