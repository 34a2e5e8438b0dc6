-- A stretch of time behind calls that change nothing.
use Rattle.std.proofs.Common.{◌≡◌, ◌≤◌, ℕ, List, Option, refl, subst}
use Rattle.irl_disk.specs.Disk.{Files, Changes, ChangesFile}
use Rattle.irl_disk.specs.Effects.{ReadsAndChanges}
use Rattle.irl_disk.specs.Images.{Told, IsConsistent, Follows, LeavesBy, LeavesSame}
use Rattle.irl_disk.specs.Taken.{TakesOnly}
use Rattle.irl_disk.proofs.Effects.{cause_for, cause_then}
use Rattle.irl_disk.proofs.Stretches.{joins, widens, same_by, left_now}

pub same_then : (old mid new : Told) (step : Files → Files → Type 0) → IsConsistent mid → ((x : Files) → step x x) → LeavesSame old mid → LeavesBy step mid new → LeavesBy step old new
same_then old mid new step law none same call =
    joins old mid new (Follows step old.images) (same_by old mid step none same)
    (widens mid new (Follows step mid.images) (Follows step old.images) call (λ image from. (from.0, left_now old mid old.images law same from.0 from.1, from.2)))

-- one file may stay
pub file_stays : (f : ℕ) (step : List ℕ → List ℕ → Type 0) → ((x : List ℕ) → step x x) → (files : Files) → ChangesFile f step files files
file_stays f step none files = record { changed = none (files f); others = λ g other. refl }

-- behind a call that reads no byte, one that reads a file and changes it by a step; its fault is answered as another
pub looked_then : (f : ℕ) (step : List ℕ → List ℕ → Type 0) (failed answered : Type 0) (old mid new : Told) → IsConsistent mid → ((x : List ℕ) → step x x) → mid.files ≡ old.files
    → LeavesSame old mid → mid.taken ≡ old.taken → old.faults ≤ mid.faults → (answered → failed)
    → ReadsAndChanges (λ g. g ≡ f) (ChangesFile f step) failed mid new
    → ReadsAndChanges (λ g. g ≡ f) (ChangesFile f step) answered old new
looked_then f step failed answered old mid new law none same stops taken later is call = record {
  told = subst (λ (told : Option Files). Changes f step told new.files) same call.told;
  stops = same_then old mid new (ChangesFile f step) law (file_stays f step none) stops call.stops;
  taken = subst (λ (counts : Option (ℕ → ℕ)). TakesOnly f counts new.taken) taken call.taken;
  cause = cause_then answered old.faults mid.faults new.faults later (cause_for failed answered mid.faults new.faults is call.cause);
}
