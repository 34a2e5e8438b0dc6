-- How what several calls do to a store joins.
use Rattle.std.proofs.Common.{◌≡◌, ◌∙◌, ◌≤◌, ℕ, Option, None, Some, refl, subst, arith}
use Rattle.irl_base.specs.Faults.{HasCause}
use Rattle.irl_disk.specs.Disk.{Files, TellsBy}
use Rattle.irl_disk.specs.Effects.{OnlyReads, OnlyChanges, ReadsAndChanges}
use Rattle.irl_disk.specs.Images.{Told, IsConsistent}
use Rattle.irl_disk.specs.Taken.{TakesAmong}
use Rattle.irl_disk.proofs.Frames.{takes_none, takes_both}
use Rattle.irl_disk.proofs.Stretches.{stays, joins_by, same_by, widens_by, reads_on}

-- ---- counts of faults
-- a fault was answered behind a count that didn't fall
pub cause_then : (failed : Type 0) (old mid new : ℕ) → old ≤ mid → HasCause failed mid new → HasCause failed old new
cause_then failed old mid new later cause = record { later = omega (arith, later, cause.later); rose = λ f. omega (arith, later, cause.rose f) }

-- what is answered then is a fault that was answered
pub cause_for : (failed other : Type 0) (old new : ℕ) → (other → failed) → HasCause failed old new → HasCause other old new
cause_for failed other old new is cause = record { later = cause.later; rose = λ o. cause.rose (is o) }

-- ---- what is told
pub told_none : (step : Files → Files → Type 0) (old new : Option Files) → ((x : Files) → step x x) → new ≡ old → TellsBy step old new
told_none step None new none same = same
told_none step (Some old) new none same = (old, same, none old)

pub told_then : (step : Files → Files → Type 0) (old mid new : Option Files) → ((x y z : Files) → step x y → step y z → step x z) → TellsBy step old mid → TellsBy step mid new → TellsBy step old new
told_then step None mid new both first second = subst (λ (told : Option Files). TellsBy step told new) first second
told_then step (Some old) mid new both first second =
    let then_ = subst (λ (told : Option Files). TellsBy step told new) first.1 second in
    (then_.0, then_.1, both old first.0 then_.0 first.2 then_.2)

pub told_wider : (step wide : Files → Files → Type 0) (old new : Option Files) → ((x y : Files) → step x y → wide x y) → TellsBy step old new → TellsBy wide old new
told_wider step wide None new allows told = told
told_wider step wide (Some old) new allows told = (told.0, told.1, allows old told.0 told.2)

-- ---- calls that only read
module _ (among : ℕ → Type 0) where
  pub reads_none : (now : Told) → IsConsistent now → OnlyReads among ⊥ now now
  reads_none now law = record {
    same = refl;
    stops = stays now now.images law (λ image left. left);
    taken = takes_none among now.taken now.taken refl;
    cause = record { later = omega arith; rose = λ none. absurd none };
  }

  pub reads_then : (failed answered : Type 0) (old mid new : Told) → IsConsistent mid → OnlyReads among failed old mid → OnlyReads among answered mid new → OnlyReads among answered old new
  reads_then failed answered old mid new law first second = record {
    same = second.same ∙ first.same;
    stops = reads_on old mid new old.images law first.stops second.stops;
    taken = takes_both among old.taken mid.taken new.taken first.taken second.taken;
    cause = cause_then answered old.faults mid.faults new.faults first.cause.later second.cause;
  }

-- the same call, with the answer that its caller gives
pub reads_for : (among : ℕ → Type 0) (failed answered : Type 0) (old new : Told) → (answered → failed) → OnlyReads among failed old new → OnlyReads among answered old new
reads_for among failed answered old new is reads = record { same = reads.same; stops = reads.stops; taken = reads.taken; cause = cause_for failed answered old.faults new.faults is reads.cause }

-- ---- calls that change files by a step
module _ (step : Files → Files → Type 0) where
  pub changes_none : (now : Told) → IsConsistent now → ((x : Files) → step x x) → OnlyChanges step ⊥ now now
  changes_none now law none = record {
    told = told_none step now.files now.files none refl;
    stops = same_by now now step none (stays now now.images law (λ image left. left));
    taken = refl;
    cause = record { later = omega arith; rose = λ f. absurd f };
  }

  pub changes_then : (failed answered : Type 0) (old mid new : Told) → IsConsistent mid → ((x y z : Files) → step x y → step y z → step x z) → OnlyChanges step failed old mid
      → OnlyChanges step answered mid new → OnlyChanges step answered old new
  changes_then failed answered old mid new law both first second = record {
    told = told_then step old.files mid.files new.files both first.told second.told;
    stops = joins_by old mid new step law both first.stops second.stops;
    taken = second.taken ∙ first.taken;
    cause = cause_then answered old.faults mid.faults new.faults first.cause.later second.cause;
  }

  pub changes_wider : (wide : Files → Files → Type 0) (failed : Type 0) (old new : Told) → ((x y : Files) → step x y → wide x y) → OnlyChanges step failed old new → OnlyChanges wide failed old new
  changes_wider wide failed old new allows changes = record {
    told = told_wider step wide old.files new.files allows changes.told;
    stops = widens_by old new step wide changes.stops allows;
    taken = changes.taken;
    cause = changes.cause;
  }

  pub changes_for : (failed answered : Type 0) (old new : Told) → (answered → failed) → OnlyChanges step failed old new → OnlyChanges step answered old new
  changes_for failed answered old new is changes = record {
    told = changes.told;
    stops = changes.stops;
    taken = changes.taken;
    cause = cause_for failed answered old.faults new.faults is changes.cause;
  }
