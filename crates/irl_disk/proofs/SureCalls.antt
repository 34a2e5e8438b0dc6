-- What a call of a store whose writes count at once tells, and what stops leave.
use Rattle.std.specs.Prelude.{◌≡◌, ℕ, ◌+◌, ◌-◌, ◌≤◌, List, [], ◌++◌, length, take, drop, get_or}
use Rattle.std.specs.List.{sum, sum_by}
use Rattle.std.proofs.Common.{refl, sym, ap, subst, inr, ◌∙◌, arith, append_assoc, length-append, length-drop}
use Rattle.std.proofs.lemmas.List.{take_at, drop_at, length-take-le}
use Rattle.irl_disk.specs.Disk.{Files, ChangesFile, Holds, Scribbled, IsPrefix, PartlyCut}
use Rattle.irl_disk.specs.Images.{LeavesBy}
use Rattle.irl_disk.specs.Sure.{Held, bytes_held, pieces, settled, sure_files}
use Rattle.irl_disk.proofs.Pieces.{piece_long, pieces_total}

-- a stop behind a step leaves what the step made
pub leaves_step : (old new : Files) (taken taken_then : ℕ → ℕ) (faults faults_then : ℕ) (step : Files → Files → Type 0) → step old new
    → LeavesBy step (settled old taken faults) (settled new taken_then faults_then)
leaves_step old new taken taken_then faults faults_then step steps =
    let from : (image : Files) → image ≡ new → (was : Files) × (was ≡ old) × step was image = λ image left. (old, refl, subst (λ (now : Files). step old now) (sym left) steps) in
    record { later = omega arith; each = from; before = λ t image le left. inr (from image left) }

-- what a write makes is among what a failed one may, and so for a cut
pub scribbled_by_write : (f at : ℕ) (bytes : List ℕ) (old new : Files) → at ≤ length (old f) → ChangesFile f (Holds at bytes) old new → ChangesFile f (Scribbled at (length bytes)) old new
scribbled_by_write f at bytes old new le changes =
    let front = take at (old f) in
    let rest = drop (at + length bytes) (old f) in
    let is : new f ≡ front ++ (bytes ++ rest) = changes.changed ∙ append_assoc front bytes rest in
    let front_long : length front ≡ at = length-take-le at (old f) le in
    let both_long : length (front ++ bytes) ≡ at + length bytes = omega (arith, length-append front bytes) in
    let long : length (new f) ≡ at + length bytes + length rest = ap (λ (xs : List ℕ). length xs) changes.changed ∙ omega (arith, length-append (front ++ bytes) rest) in
    let rest_long : length rest ≡ length (old f) - (at + length bytes) = length-drop (at + length bytes) (old f) in
    record {
      changed = record {
        before = ap (λ (xs : List ℕ). take at xs) is ∙ take_at front (bytes ++ rest) at front_long;
        after = ap (λ (xs : List ℕ). drop (at + length bytes) xs) changes.changed ∙ drop_at (front ++ bytes) rest (at + length bytes) both_long;
        no_shorter = omega arith;
        no_longer = omega arith;
      };
      others = changes.others;
    }

pub partly_cut_by_cut : (f to : ℕ) (old new : Files) → to ≤ length (old f) → ChangesFile f (IsPrefix to) old new → ChangesFile f (PartlyCut to) old new
partly_cut_by_cut f to old new le changes =
    let long : length (new f) ≡ to = ap (λ (xs : List ℕ). length xs) changes.changed ∙ length-take-le to (old f) le in
    record {
      changed = record { no_shorter = omega arith; prefix = changes.changed ∙ ap (λ (n : ℕ). take n (old f)) (sym long) };
      others = changes.others;
    }

-- how many bytes the files would have together, by their lengths
pub needed : (old : Held) (lengths bytes : List ℕ) (f n : ℕ) → old.files ≡ pieces lengths bytes → sum lengths ≤ length bytes
    → bytes_held old + (n - length (sure_files old f)) ≡ sum lengths + (n - get_or lengths f 0)
needed old lengths bytes f n is fits =
    let held : bytes_held old ≡ sum lengths = ap (λ (files : List (List ℕ)). sum_by (λ (file : List ℕ). length file) files) is ∙ pieces_total lengths bytes fits in
    let long : length (sure_files old f) ≡ get_or lengths f 0 = ap (λ (files : List (List ℕ)). length (get_or files f [])) is ∙ piece_long lengths bytes f fits in
    omega arith
