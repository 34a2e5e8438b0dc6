-- The file that a stop before a write or a cut would have left, for each that one behind it leaves.
use Rattle.std.specs.Prelude.{◌≡◌, ℕ, ◌+◌, ◌-◌, ◌<◌, ◌≤◌, ◌⊎◌, min, max, Bool, true, false, if◌then◌else◌, List, ◌++◌, length, take, drop, get_or}
use Rattle.std.specs.List.{range_with_len}
use Rattle.std.proofs.Common.{refl, arith, map, length-append, length-take, length-drop, inl, inr, ⊎_elim, sym, ap, ◌∙◌}
use Rattle.std.proofs.lemmas.Bool.Decides.{nat_tests}
use Rattle.std.proofs.lemmas.List.{ext_get_or, get_or-take, get_or-drop, get_or_append_left, get_or-append_right, take_at}
use Rattle.std.proofs.lemmas.List.FromFn.{length-map-range_with_len, get_or-map-range_with_len}
use Rattle.irl_disk.specs.Disk.{Scribbled, PartlyCut}
use Rattle.irl_disk.specs.Model.{FileState, after_write, after_cut, is_in, is_free, IsFileImage}
use Rattle.irl_disk.specs.ModelLaws.{IsSound, not_free, outside}

-- synced in the range, else new
abbrev mixed : ℕ → ℕ → List ℕ → List ℕ → ℕ → ℕ
mixed at n synced new i = if is_in i (at, at + n) then get_or synced i 0 else get_or new i 0

chosen : (b : Bool) (x y : ℕ) → (b ≡ false → y ≡ x) → (if b then x else y) ≡ x
chosen true x y same = refl
chosen false x y same = same refl

mixed_outside : (at n : ℕ) (synced new : List ℕ) (i : ℕ) → (i < at) ⊎ (at + n ≤ i) → mixed at n synced new i ≡ get_or new i 0
mixed_outside at n synced new i out = grind (arith, nat_tests)

free_after_write : (is_done : Bool) (at : ℕ) (bytes : List ℕ) (s : FileState) (i : ℕ) → at ≤ length s.now → is_free s i ≡ false → (i < at) ⊎ (at + length bytes ≤ i)
    → is_free (after_write is_done at bytes s) i ≡ false
free_after_write is_done at bytes s i le h out =
    let n = not_free s i h in
    let e : min at (length s.now) ≡ at = omega arith in
    rw e (grind (arith, nat_tests))

pub below_or_above : (i n : ℕ) → (i < n) ⊎ (n ≤ i)
below_or_above i n = grind arith

-- bytes of a list made by place
module _ (at n long : ℕ) (synced new : List ℕ) where
  abbrev pub before : List ℕ
  before = map (mixed at n synced new) (range_with_len 0 long)

  length-before : length before ≡ long
  length-before = length-map-range_with_len (mixed at n synced new) 0 long

  get_or-before : (i : ℕ) → i < long → get_or before i 0 ≡ mixed at n synced new i
  get_or-before i l = get_or-map-range_with_len (mixed at n synced new) 0 long i i 0 l (omega arith)

  scribbled_over : min at long ≡ min at (length new) → long ≤ length new → length new ≤ max long (at + n) → Scribbled at n before new
  scribbled_over front long_le le = record {
    before = ext_get_or 0 (take at new) (take at before) (omega (arith, length-take at new, length-take at before, length-before)) (λ i l.
        let within : (i < at) × (i < long) = omega (arith, length-take at new, l) in
        get_or-take at new i 0 within.0 ∙ sym (get_or-take at before i 0 within.0 ∙ get_or-before i within.1 ∙ mixed_outside at n synced new i (inl within.0)));
    after = ext_get_or 0 (drop (at + n) new) (drop (at + n) before) (omega (arith, length-drop (at + n) new, length-drop (at + n) before, length-before)) (λ i l.
        let within : at + n + i < long = omega (arith, length-drop (at + n) new, l) in
        get_or-drop (at + n) new i 0 ∙ sym (get_or-drop (at + n) before i 0 ∙ get_or-before (at + n + i) within ∙ mixed_outside at n synced new (at + n + i) (inr (omega arith))));
    no_shorter = omega (arith, length-before);
    no_longer = omega (arith, length-before);
  }

-- what a stop behind a write leaves is what one before it leaves, scribbled
pub scribbled : (is_done : Bool) (at : ℕ) (bytes : List ℕ) (s : FileState) (new : List ℕ) → at ≤ length s.now → IsSound s → IsFileImage (after_write is_done at bytes s) new
    → (old : List ℕ) × IsFileImage s old × Scribbled at (length bytes) old new
scribbled is_done at bytes s new le sound left =
    let n = length bytes in
    let long = min (length new) s.greatest in
    let old = before at n long s.synced new in
    let size : length old ≡ long = length-before at n long s.synced new in
    let fits : at ≤ s.greatest = omega (arith, sound.now.no_longer) in
    let far : length new ≤ max s.greatest (min at (length s.now) + n) = left.no_longer in
    let near : s.least ≤ length new = left.no_shorter in
    let ordered : s.least ≤ s.greatest = omega (arith, sound.no_shorter, sound.no_longer) in
    let image : IsFileImage s old = record {
      no_shorter = omega arith;
      no_longer = omega arith;
      kept = λ i l h.
          let within : i < long = omega arith in
          get_or-before at n long s.synced new i within ∙ chosen (is_in i (at, at + n)) (get_or s.synced i 0) (get_or new i 0)
          (λ out. left.kept i (omega arith) (free_after_write is_done at bytes s i le h (outside i at (at + n) out)));
    } in
    (old, image, scribbled_over at n long s.synced new (omega arith) (omega arith) (omega arith))

-- what a stop behind a cut leaves is what one before it leaves, cut in part
pub partly_cut : (is_done : Bool) (to : ℕ) (s : FileState) (new : List ℕ) → IsSound s → IsFileImage (after_cut is_done to s) new
    → (old : List ℕ) × IsFileImage s old × PartlyCut to old new
partly_cut is_done to s new sound left =
    let tail = drop (length new) (take s.least s.synced) in
    let short : min s.least to ≤ length new = left.no_shorter in
    let far : length new ≤ s.greatest = left.no_longer in
    let size : length (new ++ tail) ≡ max (length new) s.least =
    omega (arith, length-append new tail, length-drop (length new) (take s.least s.synced), length-take s.least s.synced, sound.no_shorter) in
    let image : IsFileImage s (new ++ tail) = record {
      no_shorter = omega arith;
      no_longer = omega (arith, sound.no_shorter, sound.no_longer);
      kept = λ i l h. ⊎_elim
          (λ (below : i < length new). get_or_append_left new tail 0 i below ∙ left.kept i below h)
          (λ (above : length new ≤ i).
          let e : length new + (i - length new) ≡ i = omega arith in
          get_or-append_right new tail (length new) i 0 refl above ∙ get_or-drop (length new) (take s.least s.synced) (i - length new) 0
          ∙ ap (λ j. get_or (take s.least s.synced) j 0) e ∙ get_or-take s.least s.synced i 0 (omega arith))
          (below_or_above i (length new));
    } in
    (new ++ tail, image, record { no_shorter = omega arith; prefix = sym (take_at new tail (length new) refl) })
