-- Visits are few: what came of them is settled, but for those of one turn, which are still in front.
use Rattle.std.proofs.Common.{◌≡◌, ◌∙◌, ℕ, ◌≤◌, List, [], ◌∷◌, ◌++◌, length, refl, sym, ap, subst, append_assoc, arith, inl, inr}
use Rattle.std.specs.List.{AllByRecursion, Contains}
use Rattle.std.proofs.lemmas.List.{append-nil}
use Rattle.std.proofs.lemmas.List.Elements.{Contains-append_cases}
use Rattle.irl_answer.specs.Outcomes.{outcome_of}
use Rattle.irl_core.specs.States.{url_text}
use Rattle.irl_events.specs.Events.{Event, Begin, Pairs, Pass, Robots, Settle, Happened}
use Rattle.irl_events.specs.State.{State}
use Rattle.irl_model.specs.Book.{Book}
use Rattle.irl_offer.specs.declared.outcome.Outcome.{Outcome}
use Rattle.irl_offer.specs.declared.settings.Settings.{Settings}
use Rattle.irl_reach.proofs.Members.{all_from, all_member, flat_left, flat_right}
use Rattle.irl_reach.specs.Along.{outcomes_of, settled_in}
use Rattle.irl_reach.specs.Crawls.{Visit}
use Rattle.irl_yard.specs.Passing.{come}
use Rattle.irl_crawl.specs.Turning.{AreBatches, AreSettled, IsBatch, LeavesFew, events_since}

-- ---- batches
batch_wider : (most batch : ℕ) (event : Event) → most ≤ batch → IsBatch most event → IsBatch batch event
batch_wider most batch (Begin suffixes) few is = tt
batch_wider most batch (Pairs cuts judged pairs) few is = tt
batch_wider most batch (Pass judged) few is = tt
batch_wider most batch (Robots note) few is = tt
batch_wider most batch (Settle fronts outcomes) few is = (is.0, omega (arith, few, is.1))

pub batches_both : (batch most : ℕ) (xs ys : List Happened) → most ≤ batch → AreBatches batch xs → AreBatches most ys → AreBatches batch (xs ++ ys)
batches_both batch most [] [] few one two = tt
batches_both batch most [] (y ∷ ys) few one two = (batch_wider most batch y.0 few two.0, batches_both batch most [] ys few tt two.1)
batches_both batch most (x ∷ xs) ys few one two = (one.0, batches_both batch most xs ys few one.1 two)

-- ---- visits
-- what came of a visit, by the texts of these URLs
abbrev pub came_of : Book → Visit → ℕ × Outcome
came_of urls visit = (visit.number, outcome_of (url_text urls visit.number) visit.answer)

module _ (settings : Settings) (most : ℕ) where
  pub few_none : (x y : State) → LeavesFew settings most [] x y
  few_none x y = record { first = []; behind = []; are = refl; settled = tt; few = omega arith; stand = tt }

  -- all are settled,
  pub few_settled : (visits : List Visit) (x y : State) → AreSettled x y visits → LeavesFew settings most visits x y
  few_settled visits x y settled = record { first = visits; behind = []; are = sym (append-nil visits); settled = settled; few = omega arith; stand = tt }

  -- or none
  pub few_behind : (visits : List Visit) (x y : State) → length visits ≤ most → AllByRecursion (λ (visit : Visit). Contains (come settings y).front visit.number) visits
      → LeavesFew settings most visits x y
  few_behind visits x y few stand = record { first = []; behind = visits; are = refl; settled = tt; few = few; stand = stand }

-- ---- one stretch of events behind another
module _ (x y z : State) (since : events_since x z ≡ events_since x y ++ events_since y z) where
  -- what was settled in the second
  settled_later : (visits : List Visit) → AreSettled y z visits → AreSettled x z visits
  settled_later visits settled =
      all_from (λ (visit : Visit). Contains (settled_in (events_since x z)) (came_of z.urls visit)) visits (λ visit there.
      subst (λ (hs : List Happened). Contains (settled_in hs) (came_of z.urls visit)) (sym since)
      (flat_right (λ (h : Happened). outcomes_of h.0) (events_since x y) (events_since y z) (came_of z.urls visit)
      (all_member (λ (v : Visit). Contains (settled_in (events_since y z)) (came_of z.urls v)) visits visit settled there)))

  -- and in the first, of URLs that keep their texts
  pub settled_still : (visits : List Visit) → ((visit : Visit) → Contains visits visit → url_text z.urls visit.number ≡ url_text y.urls visit.number) → AreSettled x y visits → AreSettled x z visits
  settled_still visits texts settled =
      all_from (λ (visit : Visit). Contains (settled_in (events_since x z)) (came_of z.urls visit)) visits (λ visit there.
      let was = all_member (λ (v : Visit). Contains (settled_in (events_since x y)) (came_of y.urls v)) visits visit settled there in
      let same : came_of y.urls visit ≡ came_of z.urls visit = ap (λ (text : List ℕ). (visit.number, outcome_of text visit.answer)) (sym (texts visit there)) in
      subst (λ (hs : List Happened). Contains (settled_in hs) (came_of z.urls visit)) (sym since)
      (flat_left (λ (h : Happened). outcomes_of h.0) (events_since x y) (events_since y z) (came_of z.urls visit)
      (subst (λ (came : ℕ × Outcome). Contains (settled_in (events_since x y)) came) same was)))

  pub few_then : (settings : Settings) (most batch : ℕ) (first visits : List Visit) → most ≤ batch → AreSettled x z first → LeavesFew settings most visits y z
      → LeavesFew settings batch (first ++ visits) x z
  few_then settings most batch first visits small settled rest = record {
    first = first ++ rest.first;
    behind = rest.behind;
    are = ap (λ (vs : List Visit). first ++ vs) rest.are ∙ sym (append_assoc first rest.first rest.behind);
    settled =
        let later = settled_later rest.first rest.settled in
        all_from (λ (visit : Visit). Contains (settled_in (events_since x z)) (came_of z.urls visit)) (first ++ rest.first) (λ visit there.
        elim (Contains-append_cases first rest.first visit there) [
          | inl old ↦ all_member (λ (v : Visit). Contains (settled_in (events_since x z)) (came_of z.urls v)) first visit settled old
          | inr new ↦ all_member (λ (v : Visit). Contains (settled_in (events_since x z)) (came_of z.urls v)) rest.first visit later new
        ]);
    few = let few = rest.few in omega (arith, few, small);
    stand = rest.stand;
  }
