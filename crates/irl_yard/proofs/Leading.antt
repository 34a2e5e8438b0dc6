-- What calls make of a state, one behind the other.
use Rattle.std.proofs.Common.{◌≡◌, ◌∙◌, inl, inr, Option, None, Some, refl, sym, subst}
use Rattle.irl_disk.specs.Disk.{Files}
use Rattle.irl_disk.specs.Images.{Told, IsConsistent, Leaves}
use Rattle.irl_disk.proofs.Stretches.{joins, left_now, widens}
use Rattle.irl_events.specs.State.{State, IsFrontState}
use Rattle.irl_yard.specs.declared.parts.Parts.{Parts}
use Rattle.irl_yard.specs.Holding.{HasOneOf, HoldsState}
use Rattle.irl_yard.specs.Leading.{FailsAt, HasOneBetween, LeadsTo}
use Rattle.irl_yard.specs.Standing.{HasState, IsLegal}
use Rattle.irl_yard.proofs.States.{state_both, state_same}

-- ---- what lies between
between_later : (x y z : State) (image : Files) → IsFrontState y z → HasOneBetween x y image → HasOneBetween x z image
between_later x y z image front has = (has.0, has.1, has.2, state_both has.0 y z has.3 front)

between_before : (x y z : State) (image : Files) → IsFrontState x y → HasOneBetween y z image → HasOneBetween x z image
between_before x y z image front has = (has.0, has.1, state_both x y has.0 front has.2, has.3)

one_between : (x y : State) (image : Files) → IsFrontState x y → HasOneOf x y image → HasOneBetween x y image
one_between x y image front (inl has) = (x, has, state_same x, front)
one_between x y image front (inr has) = (y, has, front, state_same y)

same_between : (x : State) (image : Files) → HasState x image → HasOneBetween x x image
same_between x image has = (x, has, state_same x, state_same x)

-- ---- one call
-- it leaves one of two states, and holds the second
pub leads_one : (x y : State) (now : Parts) (before after : Told) → HoldsState after.images now y → IsFrontState x y → Leaves before after (HasOneOf x y) → LeadsTo x y now before after
leads_one x y now before after holds front stops =
    record { holds = holds; front = front; stops = widens before after _ _ stops (λ image has. one_between x y image front has) }

-- it leaves the state
pub leads_same : (x : State) (now : Parts) (before after : Told) → HoldsState after.images now x → Leaves before after (HasState x) → LeadsTo x x now before after
leads_same x now before after holds stops = record { holds = holds; front = state_same x; stops = widens before after _ _ stops (λ image has. same_between x image has) }

-- the store failed, and left one of two states
module _ (may : State → Type 0) (x y : State) (before after : Told) (law : IsConsistent after) (front : IsFrontState x y) (stops : Leaves before after (HasOneOf x y)) (may_x : may x) (may_y : may y)
    (legal : IsLegal x × IsLegal y) where
  at_one : (state : State) → may state → IsFrontState x state → IsFrontState state y → ((files : Files) → after.files ≡ Some files → HasState state files) → FailsAt may x before after
  at_one state may_state later earlier told = record {
    kept = x;
    state = state;
    most = y;
    may_kept = may_x;
    may_state = may_state;
    may_most = may_y;
    told = told;
    first = state_same x;
    fronts = (later, earlier);
    legal = legal;
    stops = widens before after _ _ stops (λ image has. one_between x y image front has);
    now = λ image left. one_between x y image front (left_now before after _ law stops image left);
  }

  of_two : (files : Files) → after.files ≡ Some files → HasOneOf x y files → FailsAt may x before after
  of_two files told (inl has) = at_one x may_x (state_same x) front (λ others is. let both = sym told ∙ is in let same : files ≡ others = cc in subst (HasState x) same has)
  of_two files told (inr has) = at_one y may_y front (state_same y) (λ others is. let both = sym told ∙ is in let same : files ≡ others = cc in subst (HasState y) same has)

  of_told : (told : Option Files) → after.files ≡ told → FailsAt may x before after
  of_told None none = at_one x may_x (state_same x) front (λ files is. let both = sym none ∙ is in let no : ⊥ = cc in absurd no)
  of_told (Some files) told = of_two files told (left_now before after _ law stops files (law.told files told))

  pub fails_one : FailsAt may x before after
  fails_one = of_told after.files refl

-- the store failed, and left the state
pub fails_same : (may : State → Type 0) (x : State) (before after : Told) → IsConsistent after → Leaves before after (HasState x) → may x → IsLegal x → FailsAt may x before after
fails_same may x before after law stops is legal =
    fails_one may x x before after law (state_same x) (widens before after _ _ stops (λ image has. inl has)) is is (legal, legal)

-- ---- several
pub leads_both : (x y z : State) (mid now : Parts) (before between after : Told) → LeadsTo x y mid before between → LeadsTo y z now between after → LeadsTo x z now before after
leads_both x y z mid now before between after first second = record {
  holds = second.holds;
  front = state_both x y z first.front second.front;
  stops = joins before between after (HasOneBetween x z)
      (widens before between _ _ first.stops (λ image has. between_later x y z image second.front has))
      (widens between after _ _ second.stops (λ image has. between_before x y z image first.front has));
}

pub fails_then : (may : State → Type 0) (x y : State) (mid : Parts) (before between after : Told) → LeadsTo x y mid before between → FailsAt may y between after → FailsAt may x before after
fails_then may x y mid before between after first second =
    let whole : IsFrontState y second.most = state_both y second.kept second.most second.first (state_both second.kept second.state second.most second.fronts.0 second.fronts.1) in
    record {
      kept = second.kept;
      state = second.state;
      most = second.most;
      may_kept = second.may_kept;
      may_state = second.may_state;
      may_most = second.may_most;
      told = second.told;
      first = state_both x y second.kept first.front second.first;
      fronts = second.fronts;
      legal = second.legal;
      stops = joins before between after (HasOneBetween x second.most)
          (widens before between _ _ first.stops (λ image has. between_later x y second.most image whole has))
          (widens between after _ _ second.stops (λ image has. between_before x y second.most image first.front has));
      now = second.now;
    }

-- states like others
pub fails_wider : (may wide : State → Type 0) (x : State) (before after : Told) → ((y : State) → may y → wide y) → FailsAt may x before after → FailsAt wide x before after
fails_wider may wide x before after wider fails = record {
  kept = fails.kept;
  state = fails.state;
  most = fails.most;
  may_kept = wider fails.kept fails.may_kept;
  may_state = wider fails.state fails.may_state;
  may_most = wider fails.most fails.may_most;
  told = fails.told;
  first = fails.first;
  fronts = fails.fronts;
  legal = fails.legal;
  stops = fails.stops;
  now = fails.now;
}
