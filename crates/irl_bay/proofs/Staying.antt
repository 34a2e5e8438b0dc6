-- Of calls that change only some files: what is open or committed in the others stays so, and two stretches join.
use Rattle.std.proofs.Common.{◌≡◌, ◌∙◌, ℕ, List, Option, None, Some, refl, sym, subst}
use Rattle.irl_disk.specs.Disk.{Files, Changes, ChangesFile, ChangesOnly, TellsOnly}
use Rattle.irl_disk.specs.Images.{Told, IsConsistent, LeavesBy, LeavesSame}
use Rattle.irl_disk.proofs.Stretches.{widens_by, joins_by, same_by, left_now}
use Rattle.irl_journal.specs.Appending.{Tail, Ends, IsOpen}
use Rattle.irl_journal.specs.Blob.{Front, BeginsWith, IsCommitted}

-- ---- from one joint image to another
pub only_one : (among : ℕ → Type 0) (f : ℕ) (step : List ℕ → List ℕ → Type 0) (old new : Files) → among f → ChangesFile f step old new → ChangesOnly among old new
only_one among f step old new is changes = λ g out. changes.others g (λ e. out (subst among (sym e) is))

pub only_both : (among : ℕ → Type 0) (old mid new : Files) → ChangesOnly among old mid → ChangesOnly among mid new → ChangesOnly among old new
only_both among old mid new first second = λ g out. second g out ∙ first g out

pub only_wider : (among wide : ℕ → Type 0) (old new : Files) → ((f : ℕ) → among f → wide f) → ChangesOnly among old new → ChangesOnly wide old new
only_wider among wide old new wider changes = λ g out. changes g (λ is. out (wider g is))

-- ---- what is told
pub tells_one : (among : ℕ → Type 0) (f : ℕ) (step : List ℕ → List ℕ → Type 0) (old new : Option Files) → among f → Changes f step old new → TellsOnly among old new
tells_one among f step None new is changes = changes
tells_one among f step (Some old) new is changes = (changes.0, changes.1, only_one among f step old changes.0 is changes.2)

pub tells_same : (among : ℕ → Type 0) (old new : Option Files) → new ≡ old → TellsOnly among old new
tells_same among None new same = same
tells_same among (Some old) new same = (old, same, λ g out. refl)

pub tells_both : (among : ℕ → Type 0) (old mid new : Option Files) → TellsOnly among old mid → TellsOnly among mid new → TellsOnly among old new
tells_both among None mid new first second = subst (λ (told : Option Files). TellsOnly among told new) first second
tells_both among (Some old) mid new first second =
    let then_ = subst (λ (told : Option Files). TellsOnly among told new) first.1 second in
    (then_.0, then_.1, only_both among old first.0 then_.0 first.2 then_.2)

-- a store that tells after such a call told before it
pub told_before : (among : ℕ → Type 0) (old new : Option Files) (files : Files) → TellsOnly among old new → new ≡ Some files → (before : Files) × (old ≡ Some before) × ChangesOnly among before files
told_before among None new files tells told = cc
told_before among (Some old) new files tells told =
    let same : tells.0 ≡ files = cc in
    (old, refl, subst (λ (after : Files). ChangesOnly among old after) same tells.2)

-- ---- what stops leave
pub leaves_one : (among : ℕ → Type 0) (f : ℕ) (step : List ℕ → List ℕ → Type 0) (old new : Told) → among f → LeavesBy (ChangesFile f step) old new → LeavesBy (ChangesOnly among) old new
leaves_one among f step old new is leaves = widens_by old new _ _ leaves (λ x y changes. only_one among f step x y is changes)

pub leaves_same : (among : ℕ → Type 0) (old new : Told) → LeavesSame old new → LeavesBy (ChangesOnly among) old new
leaves_same among old new leaves = same_by old new _ (λ x g out. refl) leaves

pub leaves_both : (among : ℕ → Type 0) (old mid new : Told) → IsConsistent mid → LeavesBy (ChangesOnly among) old mid → LeavesBy (ChangesOnly among) mid new → LeavesBy (ChangesOnly among) old new
leaves_both among old mid new law first second = joins_by old mid new _ law (λ x y z. only_both among x y z) first second

-- ---- what stays in the other files
pub open_stays : (among : ℕ → Type 0) (old new : Told) (tail : Tail) (payloads : List (List ℕ)) → IsConsistent new → LeavesBy (ChangesOnly among) old new → (among tail.file → ⊥)
    → IsOpen old.images tail payloads → IsOpen new.images tail payloads
open_stays among old new tail payloads law stops out is_open = λ image left.
    let from = left_now old new _ law stops image left in
    subst (λ (file : List ℕ). Ends tail.end file payloads) (sym (from.2 tail.file out)) (is_open from.0 from.1)

pub committed_stays : (among : ℕ → Type 0) (old new : Told) (blob : Front) (held : List ℕ) → IsConsistent new → LeavesBy (ChangesOnly among) old new → (among blob.file → ⊥)
    → IsCommitted old.images blob held → IsCommitted new.images blob held
committed_stays among old new blob held law stops out committed = record {
  size = committed.size;
  each = λ image left.
      let from = left_now old new _ law stops image left in
      subst (λ (file : List ℕ). BeginsWith file held) (sym (from.2 blob.file out)) (committed.each from.0 from.1);
}
