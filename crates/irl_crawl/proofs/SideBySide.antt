-- What each of some workers left of its turn, and what they did together.
use Rattle.std.proofs.Common.{◌≡◌, ◌∙◌, ◌⊎◌, ⊎_elim, ℕ, List, [], ◌∷◌, ◌++◌, length, map, Option, None, Some, Result, Ok, Err, ◌≤◌, inl, inr, refl, sym, ap, subst, arith}
use Rattle.std.specs.Prelude.{IsSome}
use Rattle.std.specs.List.{All, AllByRecursion, AllZip, flat_map}
use Rattle.std.specs.List.Sorted.{IsPermutation}
use Rattle.std.specs.Option.{option_map}
use Rattle.std.proofs.lemmas.List.{append-nil}
use Rattle.std.proofs.lemmas.List.Elements.{All-cons, All-nil}
use Rattle.std.proofs.lemmas.List.Sorted.{IsPermutation-refl}
use Rattle.std.proofs.lemmas.Option.{same_Some}
use Rattle.irl_base.specs.declared.fault.Fault.{Fault}
use Rattle.irl_base.specs.declared.fault.Fault.TheVariants.{Memory}
use Rattle.irl_key.specs.declared.web.Work.{Work}
use Rattle.irl_offer.specs.Offering.{Entered, fault_or}
use Rattle.irl_offer.specs.Tuple.{Tuple}
use Rattle.irl_polite.specs.Inside.{schedule}
use Rattle.irl_polite.specs.Schedule.{Schedule}
use Rattle.irl_record.specs.Widening.{Answers}
use Rattle.irl_record.specs.Wired.{Made}
use Rattle.irl_fetch.specs.declared.working.WorkLog.{WorkLog}
use Rattle.irl_fetch.specs.Handling.{Noted, entered_of}
use Rattle.irl_fetch.specs.Telling.{Enters, Fetcher, Offering, fetcher, given_since, offering}
use Rattle.irl_fetch.specs.Working.{IsBegun as HasBegunOne, IsStateOf, Works}
use Rattle.irl_workers.specs.Workers.{EachWorker, IsDone}
use Rattle.irl_workers.specs.declared.halves.Worker.{Worker}
use Rattle.irl_crawl.specs.Working.{Begun, begun_entries}
use Rattle.irl_crawl.proofs.AllWork.{AllDid, HasBegun, OneDid, none_did, one_more}
use Rattle.irl_crawl.proofs.Lifting.{last_named}

-- ---- one worker
-- what it entered is what is told behind nothing
entered_are : {O : Type 0} (own news : List Entered) (p q : Offering O) → p.entries ≡ Some [] → q.entries ≡ Some own → Enters news p q → own ≡ news
entered_are own news p q none is enters = same_Some own news (sym is ∙ enters.entries ∙ ap (option_map (λ (list : List Entered). list ++ news)) none)

-- the item that was begun, where there is one
record BeginsOne (suffixes : List ℕ) (noted : List Noted) (left : List Work) (part : List Entered) (a b : Fetcher) (s : Schedule) : Type 0 where
  begun : List Begun
  others : List Work
  is_left : IsPermutation left (map (λ (one : Begun). one.work) begun ++ others)
  are_begun : All (HasBegun (given_since a b) (IsStateOf s noted) suffixes) begun
  few : length begun ≤ 1
  entries : begun_entries begun ≡ part

begins_one : (suffixes : List ℕ) (noted : List Noted) (left : List Work) (part : List Entered) (a b : Fetcher) (s : Schedule)
    → (part ≡ []) ⊎ HasBegunOne suffixes noted left part a b s → BeginsOne suffixes noted left part a b s
begins_one suffixes noted left part a b s (inl none) =
    record { begun = []; others = left; is_left = IsPermutation-refl left; are_begun = All-nil _; few = omega arith; entries = sym none }
begins_one suffixes noted left part a b s (inr has) = record {
  begun = record { work = has.work; part = part } ∷ [];
  others = has.others;
  is_left = has.is_left;
  are_begun = All-cons (HasBegun (given_since a b) (IsStateOf s noted) suffixes) (record { work = has.work; part = part }) []
      (record { state = has.state; known = has.known; allowed = has.allowed; some = has.some }) (All-nil _);
  few = omega arith;
  entries = append-nil part;
}

-- a fault is want of memory, or the last one of its offers
named_by : (y : Fault) (last : Option Fault) → last ≡ fault_or None y → (fault : Fault) → ◌≡◌ {A = Result WorkLog Fault} (Err y) (Err fault) → (fault ≡ Memory) ⊎ (last ≡ Some fault)
named_by y last is fault same =
    let one : y ≡ fault = cc in
    subst (λ (f : Fault). (f ≡ Memory) ⊎ (last ≡ Some f)) one (⊎_elim (λ memory. inl memory) (λ named. inr (is ∙ named)) (last_named None y))

pub one_did : {O : Type 0} (result : Result WorkLog Fault) (suffixes : List ℕ) (a b : Fetcher) (s t : Schedule) (p q : Offering O) (own : List Entered)
    → Works result suffixes a b s t p q → p.entries ≡ Some [] → p.last_fault ≡ None → q.entries ≡ Some own → OneDid result suffixes a b s t own q.last_fault
one_did (Ok log) suffixes a b s t p q own works none calm is =
    let f = works.finishes in
    record {
      handled = f.handled;
      noted = f.noted;
      left = [];
      worked = f.worked;
      asked = omega (arith, f.asked);
      begun = [];
      others = [];
      is_left = IsPermutation-refl [];
      are_begun = All-nil _;
      few = omega arith;
      entries_are = entered_are own (flat_map entered_of f.handled) p q none is f.entered ∙ sym (append-nil (flat_map entered_of f.handled));
      whole = λ other same.
          let one : log ≡ other = cc in
          record {
            done = ap (λ (l : WorkLog). l.done.items) (sym one) ∙ f.done;
            notes = ap (λ (l : WorkLog). l.notes.items) (sym one) ∙ f.notes;
            none_left = refl;
            none_begun = refl;
            asked = f.asked;
            items = f.none_left;
          };
      named = λ fault no. absurd (cc);
      goes_on = works.goes_on;
      agent = works.agent;
      delay = works.delay;
    }
one_did (Err y) suffixes a b s t p q own works none calm is =
    let f = works.stops in
    let begins = begins_one suffixes f.noted f.left f.part a b s f.begun in
    record {
      handled = f.handled;
      noted = f.noted;
      left = f.left;
      worked = f.worked;
      asked = f.asked;
      begun = begins.begun;
      others = begins.others;
      is_left = begins.is_left;
      are_begun = begins.are_begun;
      few = begins.few;
      entries_are = entered_are own (flat_map entered_of f.handled ++ f.part) p q none is f.entered ∙ ap (λ (l : List Entered). flat_map entered_of f.handled ++ l) (sym begins.entries);
      whole = λ log no. absurd (cc);
      named = named_by y q.last_fault (works.fault.1 ∙ ap (λ (l : Option Fault). fault_or l y) calm);
      goes_on = works.goes_on;
      agent = works.agent;
      delay = works.delay;
    }

-- ---- all of them
module _ {F O : Type 0} (asked : F → Made) (gives : F → ℕ → Answers) (faults last : F → ℕ) (aim : F → List ℕ) (entries : O → Option (List Entered)) (last_fault : O → Option Fault)
    (takes : O → Tuple → Type 0) (follows : O → O → Type 0) (own : O → List Entered) (told : (o : O) → entries o ≡ Some (own o)) (agent suffixes : List ℕ) where
  abbrev front_of : Worker O → Schedule
  front_of worker = schedule worker.front

  abbrev pub AreDone : List F → List F → List (Worker O) → List (Worker O) → Type 0
  AreDone olds news befores afters = EachWorker (IsDone (fetcher asked gives faults last aim) (offering entries last_fault takes follows) suffixes) olds news befores afters

  -- it has done nothing yet, for the agent
  pub record IsFirst (worker : Worker O) : Type 0 where
    pub none : own worker.offers ≡ []
    pub calm : last_fault worker.offers ≡ None
    pub for : (schedule worker.front).agent ≡ agent

  one_done : (x y : F) (before after : Worker O) (result : Result WorkLog Fault)
      → IsDone (fetcher asked gives faults last aim) (offering entries last_fault takes follows) suffixes x y before after → IsFirst before → Some result ≡ after.done
      → OneDid result suffixes (fetcher asked gives faults last aim x) (fetcher asked gives faults last aim y) (front_of before) (front_of after) (own after.offers) (last_fault after.offers)
  one_done x y before after result done first is =
      let same : done.result ≡ result = same_Some done.result result (sym done.done ∙ sym is) in
      one_did result suffixes (fetcher asked gives faults last aim x) (fetcher asked gives faults last aim y) (front_of before) (front_of after)
      (offering entries last_fault takes follows before.offers) (offering entries last_fault takes follows after.offers) (own after.offers)
      (subst (λ (r : Result WorkLog Fault). Works r suffixes (fetcher asked gives faults last aim x) (fetcher asked gives faults last aim y) (front_of before) (front_of after)
      (offering entries last_fault takes follows before.offers) (offering entries last_fault takes follows after.offers)) same done.works)
      (told before.offers ∙ ap (λ (l : List Entered). Some l) first.none) first.calm (told after.offers)

  pub all_did : (olds news : List F) (befores afters : List (Worker O)) (results : List (Result WorkLog Fault)) → AreDone olds news befores afters → AllByRecursion IsFirst befores
      → map (λ r. Some r) results ≡ map (λ w. w.done) afters
      → AllDid asked gives faults last aim agent suffixes olds news (map front_of befores) (map front_of afters) results (flat_map (λ w. own w.offers) afters) (map (λ w. last_fault w.offers) afters)
  all_did [] [] [] [] [] each first are = none_did asked gives faults last aim agent suffixes
  all_did [] [] [] [] (r ∷ results) each first are = absurd (cc)
  all_did (x ∷ olds) (y ∷ news) (before ∷ befores) (after ∷ afters) [] each first are = absurd (cc)
  all_did (x ∷ olds) (y ∷ news) (before ∷ befores) (after ∷ afters) (r ∷ results) each first are =
      let here : Some r ≡ after.done = cc in
      let others : map (λ r. Some r) results ≡ map (λ w. w.done) afters = cc in
      one_more asked gives faults last aim agent suffixes x y olds news (front_of before) (front_of after) (map front_of befores) (map front_of afters) r results (own after.offers)
      (flat_map (λ w. own w.offers) afters) (last_fault after.offers) (map (λ w. last_fault w.offers) afters) first.0.for
      (one_done x y before after r each.0 first.0 here) (all_did olds news befores afters results each.1 first.1 others)
  all_did [] [] [] (after ∷ afters) results each first are = absurd each
  all_did [] [] (before ∷ befores) afters results each first are = absurd each
  all_did [] (new ∷ news) befores afters results each first are = absurd each
  all_did (old ∷ olds) [] befores afters results each first are = absurd each
  all_did (old ∷ olds) (new ∷ news) [] afters results each first are = absurd each
  all_did (old ∷ olds) (new ∷ news) (before ∷ befores) [] results each first are = absurd each

  -- something came of each
  pub all_over : (olds news : List F) (befores afters : List (Worker O)) → AreDone olds news befores afters → AllByRecursion (λ w. IsSome w.done) afters
  all_over [] [] [] [] each = tt
  all_over (x ∷ olds) (y ∷ news) (before ∷ befores) (after ∷ afters) each =
      (subst (λ (o : Option (Result WorkLog Fault)). IsSome o) (sym each.0.done) refl, all_over olds news befores afters each.1)
  all_over [] [] [] (after ∷ afters) each = absurd each
  all_over [] [] (before ∷ befores) afters each = absurd each
  all_over [] (new ∷ news) befores afters each = absurd each
  all_over (old ∷ olds) [] befores afters each = absurd each
  all_over (old ∷ olds) (new ∷ news) [] afters each = absurd each
  all_over (old ∷ olds) (new ∷ news) (before ∷ befores) [] each = absurd each

  -- The way of each into the store goes on.
  abbrev pub AllFollow : List (Worker O) → List (Worker O) → Type 0
  AllFollow befores afters = AllZip (λ before after. follows before.offers after.offers) befores afters

  follows_one : (result : Result WorkLog Fault) (a b : Fetcher) (s t : Schedule) (o o' : O) → ((x : O) → follows x x)
      → Works result suffixes a b s t (offering entries last_fault takes follows o) (offering entries last_fault takes follows o') → follows o o'
  follows_one (Ok log) a b s t o o' same works = works.finishes.entered.follows o (same o)
  follows_one (Err y) a b s t o o' same works = works.stops.entered.follows o (same o)

  pub all_follow : (olds news : List F) (befores afters : List (Worker O)) → ((x : O) → follows x x) → AreDone olds news befores afters → AllFollow befores afters
  all_follow [] [] [] [] same each = tt
  all_follow (x ∷ olds) (y ∷ news) (before ∷ befores) (after ∷ afters) same each =
      (follows_one each.0.result _ _ _ _ before.offers after.offers same each.0.works, all_follow olds news befores afters same each.1)
  all_follow [] [] [] (after ∷ afters) same each = absurd each
  all_follow [] [] (before ∷ befores) afters same each = absurd each
  all_follow [] (new ∷ news) befores afters same each = absurd each
  all_follow (old ∷ olds) [] befores afters same each = absurd each
  all_follow (old ∷ olds) (new ∷ news) [] afters same each = absurd each
  all_follow (old ∷ olds) (new ∷ news) (before ∷ befores) [] same each = absurd each
