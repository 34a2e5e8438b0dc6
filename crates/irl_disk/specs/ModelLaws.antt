-- What the disk model keeps: what a read gives and what was synced are what a stop may leave, after any calls.
use Rattle.std.specs.Prelude.{◌≡◌, ℕ, ◌+◌, ◌-◌, ◌<◌, ◌≤◌, ◌⊎◌, min, max, Bool, true, false, ◌||◌, List, ◌++◌, length, take, drop, get_or}
use Rattle.std.proofs.Common.{refl, arith, length-append, length-take, length-drop, inl, inr, ⊎_elim, append_assoc, ap, ◌∙◌}
use Rattle.std.proofs.lemmas.Bool.Decides.{nat_tests}
use Rattle.std.proofs.lemmas.List.{ext_get_or, get_or-take, get_or-drop, get_or_append_left, get_or-append_right}
use Rattle.irl_disk.specs.Model.{FileState, at_rest, after_write, after_cut, after_sync, is_in, is_written, is_free, IsFileImage, torn_byte, IsTorn}

-- what was synced and what a read gives are within what a stop may leave
pub record IsSound (s : FileState) : Type 0 where
  pub no_shorter : s.least ≤ length s.synced
  pub no_longer : length s.synced ≤ s.greatest
  pub now : IsFileImage s s.now

pub sound_at_rest : (bytes : List ℕ) → IsSound (at_rest bytes)
sound_at_rest bytes = record {
  no_shorter = omega arith;
  no_longer = omega arith;
  now = record { no_shorter = omega arith; no_longer = omega arith; kept = λ i l h. refl };
}

-- ---- bytes written over others
pub length-written : (at : ℕ) (bytes old : List ℕ) → at ≤ length old
    → length (take at old ++ bytes ++ drop (at + length bytes) old) ≡ max (length old) (at + length bytes)
length-written at bytes old le = simp (length-append, length-take, length-drop) (omega arith)

pub get_or-written : (at : ℕ) (bytes old : List ℕ) (i : ℕ) → at ≤ length old → (i < at) ⊎ (at + length bytes ≤ i)
    → get_or (take at old ++ bytes ++ drop (at + length bytes) old) i 0 ≡ get_or old i 0
get_or-written at bytes old i le (inl below) = rw append_assoc
    (get_or_append_left (take at old) (bytes ++ drop (at + length bytes) old) 0 i (omega (arith, length-take at old))
    ∙ get_or-take at old i 0 below)
get_or-written at bytes old i le (inr above) =
    let e : at + length bytes + (i - at - length bytes) ≡ i = omega arith in
    rw append_assoc
    (get_or-append_right (take at old) (bytes ++ drop (at + length bytes) old) at i 0
    (omega (arith, length-take at old)) (omega arith)
    ∙ get_or-append_right bytes (drop (at + length bytes) old) (length bytes) (i - at) 0 refl (omega arith)
    ∙ get_or-drop (at + length bytes) old (i - at - length bytes) 0
    ∙ ap (λ j. get_or old j 0) e)

-- ---- what a stop may leave at a place
pub or_false : (a b : Bool) → a || b ≡ false → (a ≡ false) × (b ≡ false)
or_false a b h = grind arith

pub outside : (i a b : ℕ) → is_in i (a, b) ≡ false → (i < a) ⊎ (b ≤ i)
outside i a b h = grind (arith, nat_tests)

pub not_free : (s : FileState) (i : ℕ) → is_free s i ≡ false → (i < length s.synced) × (is_written s.unsynced i ≡ false)
not_free s i h = grind (arith, nat_tests)

pub kept_from_write : (is_done : Bool) (at : ℕ) (bytes : List ℕ) (s : FileState) (i : ℕ)
    → is_free (after_write is_done at bytes s) i ≡ false
    → (is_free s i ≡ false) × ((i < min at (length s.now)) ⊎ (min at (length s.now) + length bytes ≤ i))
kept_from_write is_done at bytes s i h = grind (arith, nat_tests, outside)

pub sound_write : (is_done : Bool) (at : ℕ) (bytes : List ℕ) (s : FileState) → IsSound s
    → IsSound (after_write is_done at bytes s)
sound_write true at bytes s sound =
    let start = min at (length s.now) in
    let below : start ≤ length s.now = omega arith in
    let long = length-written start bytes s.now below in
    record {
      no_shorter = sound.no_shorter;
      no_longer = omega (arith, sound.no_longer);
      now = record {
        no_shorter = omega (arith, long, sound.now.no_shorter);
        no_longer = omega (arith, long, sound.now.no_longer);
        kept = λ i l h.
            let k = kept_from_write true at bytes s i h in
            let within : i < length s.now = ⊎_elim (λ a. omega arith) (λ a. omega (arith, long)) k.1 in
            get_or-written start bytes s.now i below k.1 ∙ sound.now.kept i within k.0;
      };
    }
sound_write false at bytes s sound = record {
  no_shorter = sound.no_shorter;
  no_longer = omega (arith, sound.no_longer);
  now = record {
    no_shorter = sound.now.no_shorter;
    no_longer = omega (arith, sound.now.no_longer);
    kept = λ i l h. sound.now.kept i l (kept_from_write false at bytes s i h).0;
  };
}

pub sound_cut : (is_done : Bool) (to : ℕ) (s : FileState) → IsSound s → IsSound (after_cut is_done to s)
sound_cut true to s sound = record {
  no_shorter = omega (arith, sound.no_shorter);
  no_longer = sound.no_longer;
  now = record {
    no_shorter = omega (arith, length-take to s.now, sound.now.no_shorter);
    no_longer = omega (arith, length-take to s.now, sound.now.no_longer);
    kept = λ i l h.
        let within : (i < to) × (i < length s.now) = omega (arith, length-take to s.now, l) in
        get_or-take to s.now i 0 within.0 ∙ sound.now.kept i within.1 h;
  };
}
sound_cut false to s sound = record {
  no_shorter = omega (arith, sound.no_shorter);
  no_longer = sound.no_longer;
  now = record {
    no_shorter = omega (arith, sound.now.no_shorter);
    no_longer = sound.now.no_longer;
    kept = λ i l h. sound.now.kept i l h;
  };
}

pub sound_sync : (is_done : Bool) (s : FileState) → IsSound s → IsSound (after_sync is_done s)
sound_sync true s sound = sound_at_rest s.now
sound_sync false s sound = sound

-- a torn file is what a stop may leave
pub torn_is_image : (s : FileState) (bytes : List ℕ) → IsSound s → IsTorn s bytes → IsFileImage s bytes
torn_is_image s bytes sound torn = record {
  no_shorter = rw torn.long sound.now.no_shorter;
  no_longer = rw torn.long sound.now.no_longer;
  kept = λ i l h.
      let w = (not_free s i h).1 in
      let e : torn_byte s i (get_or s.now i 0) ≡ get_or s.now i 0 = grind arith in
      torn.each i l ∙ e ∙ sound.now.kept i (rw torn.long at l) h;
}

-- and so is what was synced
pub synced_is_image : (s : FileState) → IsSound s → IsFileImage s s.synced
synced_is_image s sound = record { no_shorter = sound.no_shorter; no_longer = sound.no_longer; kept = λ i l h. refl }

-- of a file of which all is synced a stop leaves what a read gives
pub image_at_rest : (bytes image : List ℕ) → IsFileImage (at_rest bytes) image → image ≡ bytes
image_at_rest bytes image left =
    let long : length image ≡ length bytes = omega (arith, left.no_shorter, left.no_longer) in
    ext_get_or 0 image bytes long (λ i l. left.kept i l (grind (arith, nat_tests)))
