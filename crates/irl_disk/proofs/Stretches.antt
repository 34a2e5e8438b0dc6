-- How a call's device calls join: what stops may leave over one stretch of time after another.
use Rattle.std.proofs.Common.{inl, inr, ⊎_elim, arith}
use Rattle.irl_disk.specs.Disk.{Files}
use Rattle.irl_disk.specs.Images.{Told, IsConsistent, Follows, Leaves, LeavesBy, LeavesSame}

-- no call was made
pub stays : (now : Told) (P : Files → Type 0) → IsConsistent now → ((image : Files) → now.images image → P image) → Leaves now now P
stays now P law here = record { later = omega arith; each = λ image left. here image (law.only image left); before = λ t image le left. inl left }

-- what has P has Q
pub widens : (old new : Told) (P Q : Files → Type 0) → Leaves old new P → ((image : Files) → P image → Q image) → Leaves old new Q
widens old new P Q leaves wide = record {
  later = leaves.later;
  each = λ image left. wide image (leaves.each image left);
  before = λ t image le left. ⊎_elim (λ was. inl was) (λ has. inr (wide image has)) (leaves.before t image le left);
}

-- two stretches, one after the other
pub joins : (old mid new : Told) (P : Files → Type 0) → Leaves old mid P → Leaves mid new P → Leaves old new P
joins old mid new P first second = record {
  later = omega (arith, first.later, second.later);
  each = λ image left. ⊎_elim (first.each image) (λ has. has) (second.before old.moment image first.later left);
  before = λ t image le left. ⊎_elim (first.before t image le) (λ has. inr has) (second.before t image (omega (arith, le, first.later)) left);
}

-- what a stop now may leave has P
pub left_now : (old new : Told) (P : Files → Type 0) → IsConsistent new → Leaves old new P → (image : Files) → new.images image → P image
left_now old new P law leaves image now = leaves.each image (law.counts old.moment image leaves.later now)

-- one call more: each of its images is by a step from one that could be left before it, and the step keeps P
pub goes_on : (old mid new : Told) (P : Files → Type 0) (step : Files → Files → Type 0) → IsConsistent mid → Leaves old mid P → LeavesBy step mid new
    → ((before image : Files) → P before → step before image → P image) → Leaves old new P
goes_on old mid new P step law so_far call keeps =
    joins old mid new P so_far (widens mid new (Follows step mid.images) P call (λ image from. keeps from.0 image (left_now old mid P law so_far from.0 from.1) from.2))

-- a call that changes nothing
pub reads_on : (old mid new : Told) (P : Files → Type 0) → IsConsistent mid → Leaves old mid P → LeavesSame mid new → Leaves old new P
reads_on old mid new P law so_far call = joins old mid new P so_far (widens mid new mid.images P call (left_now old mid P law so_far))

-- Steps that join: two stretches by one step.
pub joins_by : (old mid new : Told) (step : Files → Files → Type 0) → IsConsistent mid → ((x y z : Files) → step x y → step y z → step x z) → LeavesBy step old mid → LeavesBy step mid new
    → LeavesBy step old new
joins_by old mid new step law both first second = goes_on old mid new (Follows step old.images) step law first second (λ before image was next. (was.0, was.1, both was.0 before image was.2 next))

-- a stretch that changes nothing is one by any step that may change nothing
pub same_by : (old new : Told) (step : Files → Files → Type 0) → ((x : Files) → step x x) → LeavesSame old new → LeavesBy step old new
same_by old new step none leaves = widens old new old.images (Follows step old.images) leaves (λ image was. (image, was, none image))

-- a stretch by one step is one by another that allows it
pub widens_by : (old new : Told) (step wide : Files → Files → Type 0) → LeavesBy step old new → ((x y : Files) → step x y → wide x y) → LeavesBy wide old new
widens_by old new step wide leaves allows = widens old new (Follows step old.images) (Follows wide old.images) leaves (λ image from. (from.0, from.1, allows from.0 image from.2))
