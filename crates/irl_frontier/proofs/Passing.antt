-- A pass of a frontier, planned and done.
use Rattle.std.proofs.Common.{◌≡◌, ◌∙◌, ℕ, ◌+◌, ◌-◌, Bool, true, false, List, [], ◌∷◌, ◌++◌, None, Some, length, set, cond, refl, sym, ap, subst}
use Rattle.std.specs.Prelude.{nat_lt}
use Rattle.std.proofs.lemmas.List.{length-set}
use mathlib.Core.Path.{fun_ext}
use Rattle.irl_offer.specs.Purses.{Budget}
use Rattle.irl_offer.specs.declared.place.Place.{Place}
use Rattle.irl_offer.specs.declared.place.Slot.{Slot}
use Rattle.irl_offer.specs.declared.place.Slot.TheVariants.{Front, Queue, Last}
use Rattle.irl_base.specs.Lists.{list_at}
use Rattle.irl_events.specs.Events.{Pass, Progress, after_event}
use Rattle.irl_events.specs.Legal.{broken}
use Rattle.irl_events.specs.Queues.{Waiting, put, delivered, next_queues, round_ended}
use Rattle.irl_star.specs.Budgets.{budget}
use Rattle.irl_star.specs.Degrees.{Counts}
use Rattle.irl_beast.specs.declared.item.Item.{Item}
use Rattle.irl_beast.specs.Passes.{numbered, passed, read_by}
use Rattle.irl_beast.specs.Places.{place}
use Rattle.irl_beast.specs.Plans.{Planned, planned, IsPlanOf as IsPassOf}
use Rattle.irl_beast.proofs.Joining.{joined_items}
use Rattle.irl_beast.proofs.LegalPasses.{pass_waiting}
use Rattle.irl_fate.specs.declared.plan.Plan.{Plan as EventPlan}
use Rattle.irl_fate.specs.Plans.{IsPlanOf as IsEventOf, after_plan as after_event_plan}
use Rattle.irl_frontier.specs.Frontier.{Frontier, IsFrontier, places_for}
use Rattle.irl_frontier.specs.Plans.{IsPlanOf, PlansPass, after_plan, waits_after}
use Rattle.irl_frontier.specs.Tallies.{HasTally}
use Rattle.irl_frontier.specs.declared.plan.Plan.{Plan}

-- ---- how many lists there are
length-put : {X : Type 0} (lists : List (List X)) (item : X) (slot : Slot) → length (put lists item slot) ≡ length lists
length-put lists item Front = refl
length-put lists item (Queue number) = length-set lists (number - 1) (list_at lists (number - 1) ++ item ∷ [])
length-put lists item Last = length-set lists 64 (list_at lists 64 ++ item ∷ [])

length-delivered : {X : Type 0} (lists : List (List X)) (items : List X) (places : List Place) → length (delivered lists items places) ≡ length lists
unfolding delivered
length-delivered lists [] places = refl
length-delivered lists (item ∷ items) [] = refl
length-delivered lists (item ∷ items) (place ∷ places) =
    length-delivered (put lists item place.slot) items places ∙ length-put lists item place.slot

length-ended : {X : Type 0} (lists : List (List X)) (queues passes : ℕ) → length (round_ended lists queues passes).lists ≡ length lists
length-ended {X = X} lists queues passes = by_test (nat_lt passes queues)
  where
    by_test : (b : Bool) → length (Waiting.lists {X = X} (cond b (record { lists = lists; queues = queues; passes = passes })
        (record { lists = set (set lists 64 []) 0 (list_at lists 64); queues = next_queues queues (list_at lists 64); passes = 0 }))) ≡ length lists
    by_test true = refl
    by_test false = length-set (set lists 64 []) 0 (list_at lists 64) ∙ length-set lists 64 []

passed_long : (b : Budget) (waiting : Waiting Item) (fresh : List Item) → length waiting.lists ≡ 65 → length (passed b waiting fresh).lists ≡ 65
passed_long b waiting fresh long =
    let read : List Item = read_by waiting fresh in
    let places : List Place = place waiting.passes waiting.queues b read in
    length-ended (delivered (set waiting.lists waiting.passes []) read places) waiting.queues (waiting.passes + 1)
    ∙ length-delivered (set waiting.lists waiting.passes []) read places ∙ length-set waiting.lists waiting.passes [] ∙ long

-- what is planned is what a pass makes of what waits
pub waits_planned : (b : Budget) (waiting : Waiting Item) (fresh : List Item) → length waiting.lists ≡ 65 → waits_after waiting (Some (planned b waiting fresh)) ≡ passed b waiting fresh
waits_planned b waiting fresh long =
    let read : List Item = read_by waiting fresh in
    ap (λ (ls : List (List Item)). round_ended ls waiting.queues (waiting.passes + 1))
    (joined_items (set waiting.lists waiting.passes []) read (place waiting.passes waiting.queues b read) (length-set waiting.lists waiting.passes [] ∙ long))

-- ---- a pass that is planned
module _ (x : Frontier) (k : IsFrontier x) (judged : ℕ) (fresh : List Item) (b : Budget) (p : Planned) (places : List Place) (is : p ≡ planned b x.waiting fresh) (given : places ≡ p.places) where
  pub placed : places ≡ place x.waiting.passes x.waiting.queues b (read_by x.waiting fresh)
  placed = given ∙ ap (λ (q : Planned). q.places) is

  module _ (e : EventPlan) (tally : List ℕ) (after : after_event_plan x.progress e ≡ after_event x.progress (Pass judged) places) where
    abbrev the_plan : Plan
    the_plan = record { event = e; pass = Some p; tally = tally }

    progress_is : after_event_plan x.progress e ≡ after_event x.progress (Pass judged) (place x.waiting.passes x.waiting.queues b (read_by x.waiting fresh))
    progress_is = after ∙ ap (λ (ps : List Place). after_event x.progress (Pass judged) ps) placed

    waiting_is : waits_after x.waiting (Some p) ≡ passed b x.waiting fresh
    waiting_is = ap (λ (q : Planned). waits_after x.waiting (Some q)) is ∙ waits_planned b x.waiting fresh k.lists

    kept : IsFrontier (after_plan x the_plan)
    kept = record {
      valid = k.valid;
      waiting = ap (λ (q : Progress). q.waiting) progress_is ∙ pass_waiting x.progress x.waiting b fresh judged k.waiting ∙ ap (λ (w : Waiting Item). numbered w) (sym waiting_is);
      lists = ap (λ (w : Waiting Item). length w.lists) waiting_is ∙ passed_long b x.waiting fresh k.lists;
      fronts = ap (λ (q : Progress). length q.fronts) progress_is ∙ k.fronts;
      degrees = k.degrees;
    }

    pub plan_is : IsEventOf x.progress e → HasTally tally x.progress.done → IsPlanOf x the_plan
    plan_is event has =
        record { event = event; pass = (b, fresh, is); kept = kept; tally = subst (HasTally tally) (sym (ap (λ (q : Progress). q.done) after)) has }

    -- where the budgets are those of the domains that were told
    pub plan_passes : broken x.progress (Pass judged) places ≡ None → ((adds : List (List ℕ)) → Counts x.degrees adds → (pld : List ℕ) → b pld ≡ budget x.settings adds pld)
        → (adds : List (List ℕ)) → Counts x.degrees adds → PlansPass x judged fresh the_plan adds
    plan_passes legal same adds counts =
        let budgets : b ≡ budget x.settings adds = fun_ext (same adds counts) in
        let at : places ≡ places_for adds x fresh = placed ∙ ap (λ (f : Budget). place x.waiting.passes x.waiting.queues f (read_by x.waiting fresh)) budgets in
        record {
          after =
              ap (λ (q : Progress). record x { progress = q; waiting = waits_after x.waiting (Some p) }) (after ∙ ap (λ (ps : List Place). after_event x.progress (Pass judged) ps) at)
              ∙ ap (λ (w : Waiting Item). record x { progress = after_event x.progress (Pass judged) (places_for adds x fresh); waiting = w }) (waiting_is
              ∙ ap (λ (f : Budget). passed f x.waiting fresh) budgets);
          legal = ap (λ (ps : List Place). broken x.progress (Pass judged) ps) (sym at) ∙ legal;
          places = sym given ∙ at;
        }

-- ---- and done
pub pass_done : (x : Frontier) (k : IsFrontier x) (plan : Plan) (p : Planned) (y : Progress) (w : Waiting Item) → plan.pass ≡ Some p → IsPassOf x.waiting p → y ≡ after_event_plan x.progress plan.event
    → ((b : Budget) (fresh : List Item) → p ≡ planned b x.waiting fresh → w ≡ passed b x.waiting fresh) → ◌≡◌ {A = Frontier} (record x { progress = y; waiting = w }) (after_plan x plan)
pass_done x k plan p y w is may after by =
    let b : Budget = may.0 in
    let fresh : List Item = may.1 in
    let waits : w ≡ waits_after x.waiting plan.pass =
    by b fresh may.2 ∙ sym (ap (λ (q : Planned). waits_after x.waiting (Some q)) may.2 ∙ waits_planned b x.waiting fresh k.lists) ∙ ap (waits_after x.waiting) (sym is) in
    ap (λ (q : Progress). record x { progress = q; waiting = w }) after
    ∙ ap (λ (v : Waiting Item). record x { progress = after_event_plan x.progress plan.event; waiting = v }) waits
