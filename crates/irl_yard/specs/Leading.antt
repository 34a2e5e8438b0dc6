-- What calls make of the state that an open store held, over all moments from one to a later one: what it is led to, or
-- what it is left as where the store fails.
use Rattle.std.specs.Prelude.{◌≡◌, ◌⊎◌, Result, OnErr, OnOk, IsErrOf}
use Rattle.std.specs.Option.{ForSome}
use Rattle.irl_base.specs.declared.fault.Fault.{Fault}
use Rattle.irl_base.specs.declared.fault.Fault.TheVariants.{Failed}
use Rattle.irl_disk.specs.Disk.{Files}
use Rattle.irl_disk.specs.Images.{Told, Leaves}
use Rattle.irl_events.specs.State.{State, IsFrontState}
use Rattle.irl_yard.specs.declared.parts.Parts.{Parts}
use Rattle.irl_yard.specs.Holding.{HoldsState}
use Rattle.irl_yard.specs.Standing.{HasState, IsLegal}

-- a joint image stands for a state that lies between two
abbrev pub HasOneBetween : State → State → Files → Type 0
HasOneBetween x y image = (z : State) × HasState z image × IsFrontState x z × IsFrontState z y

-- From a moment at which the store held the first state to a later one, at which it holds the second.
pub record LeadsTo (x y : State) (now : Parts) (before after : Told) : Type 0 where
  pub holds : HoldsState after.images now y
  pub front : IsFrontState x y
  -- a stop at any moment left a state between the two
  pub stops : Leaves before after (HasOneBetween x y)

-- To one at which the store has failed, where calls make a state like these of the first one.
pub record FailsAt (may : State → Type 0) (x : State) (before after : Told) : Type 0 where
  -- the state that was acknowledged last, the one that the files stand for, and the greatest that a stop left: a write
  -- that failed may have been enough for it
  pub kept : State
  pub state : State
  pub most : State
  pub may_kept : may kept
  pub may_state : may state
  pub may_most : may most
  pub told : ForSome after.files (HasState state)
  pub first : IsFrontState x kept
  pub fronts : IsFrontState kept state × IsFrontState state most
  -- the first and the last of them keep the laws of a state
  pub legal : IsLegal kept × IsLegal most
  -- a stop at any moment left a state between the first and the greatest, and one from now on no less than what was
  -- acknowledged
  pub stops : Leaves before after (HasOneBetween x most)
  pub now : (image : Files) → after.images image → HasOneBetween kept most image

-- one of two states
abbrev pub IsEither : State → State → State → Type 0
IsEither x y z = (z ≡ x) ⊎ (z ≡ y)

-- A call that makes one state of another, by its answer: refused, and not by the store, it leaves that.
pub record LeadsOrStays {A : Type 0} (result : Result A Fault) (x y : State) (now : Parts)
    (before after : Told) : Type 0 where
  pub done : OnOk result (LeadsTo x y now before after)
  pub kept : OnErr result ((IsErrOf result Failed → ⊥) → LeadsTo x x now before after)
  pub failed : IsErrOf result Failed → FailsAt (IsEither x y) x before after
