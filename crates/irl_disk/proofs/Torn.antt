-- A file stays torn over one more write.
use Rattle.std.specs.Prelude.{◌≡◌, ℕ, ◌+◌, ◌-◌, ◌%◌, ◌<◌, ◌≤◌, nat_eq, min, Bool, true, false, ◌&&◌, ◌||◌, if◌then◌else◌, List, ◌++◌, length, take, drop, get_or, ◌≢◌, Vec, Result, Ok, Err, OnOk}
use Rattle.std.proofs.Common.{refl, sym, ap, ◌∙◌, subst, ⊎_elim, append_assoc, arith, length-take}
use Rattle.std.proofs.lemmas.Bool.Decides.{nat_tests}
use Rattle.std.proofs.lemmas.List.{get_or_append_left, get_or-append_right}
use Rattle.irl_disk.specs.Model.{FileState, after_write, is_in, is_written, IsTorn}
use Rattle.irl_disk.specs.ModelLaws.{length-written, get_or-written, outside}
use Rattle.std.proofs.lemmas.Bool.{cases_eq}
use Rattle.std.specs.declared.alloc.Global.{Global}
use Rattle.irl_disk.specs.declared.calls.Call.TheVariants.{Write}
use Rattle.irl_disk.specs.declared.calls.LoggedCall.{LoggedCall}
use Rattle.irl_disk.specs.declared.calls.Part.TheVariants.{Torn}
use Rattle.irl_disk.specs.Disk.{Files, ChangesFile}
use Rattle.irl_disk.specs.Calls.{ShowsNext}
use Rattle.irl_disk.specs.Changes.{TearsRange, TornNext}
use Rattle.irl_disk.proofs.Steps.{one_number, other_number}

inside : (i a b : ℕ) → is_in i (a, b) ≡ true → (a ≤ i) × (i < b)
inside i a b h = grind (arith, nat_tests)

-- what is written has the write's bytes in its range
get_or-inside : (at : ℕ) (bytes old : List ℕ) (i : ℕ) → at ≤ length old → at ≤ i → i < at + length bytes → get_or (take at old ++ bytes ++ drop (at + length bytes) old) i 0 ≡ get_or bytes (i - at) 0
get_or-inside at bytes old i le above below = rw append_assoc
    (get_or-append_right (take at old) (bytes ++ drop (at + length bytes) old) at i 0 (omega (arith, length-take at old)) above
    ∙ get_or_append_left bytes (drop (at + length bytes) old) 0 (i - at) (omega arith))

combined : (b odd written : Bool) (x y : ℕ) → (b ≡ true → odd ≡ false → x ≡ y) → (b ≡ false → x ≡ (if odd && written then 165 else y))
    → (if odd && b then 165 else x) ≡ (if odd && (b || written) then 165 else y)
combined true true written x y within out = refl
combined true false written x y within out = within refl refl
combined false true written x y within out = out refl
combined false false written x y within out = out refl

not_torn : (odd written : Bool) (x : ℕ) → odd ≡ false → (if odd && written then 165 else x) ≡ x
not_torn true written x e = absurd (cc)
not_torn false written x e = refl

-- a write's bytes over a torn file and over what a read gives
module _ (bytes old : List ℕ) (s : FileState) (torn : IsTorn s old) (start i : ℕ) (le : start ≤ length s.now) where
  within_range : (is_done : Bool) → i < length (if is_done then take start old ++ bytes ++ drop (start + length bytes) old else old) → is_in i (start, start + length bytes) ≡ true
      → nat_eq (i % 2) 1 ≡ false
      → get_or (if is_done then take start old ++ bytes ++ drop (start + length bytes) old else old) i 0
      ≡ get_or (if is_done then take start s.now ++ bytes ++ drop (start + length bytes) s.now else s.now) i 0
  within_range true l e even =
      let w = inside i start (start + length bytes) e in
      get_or-inside start bytes old i (omega (arith, torn.long)) w.0 w.1 ∙ sym (get_or-inside start bytes s.now i le w.0 w.1)
  within_range false l e even = torn.each i l ∙ not_torn (nat_eq (i % 2) 1) (is_written s.unsynced i) (get_or s.now i 0) even

  out_of_range : (is_done : Bool) → i < length (if is_done then take start old ++ bytes ++ drop (start + length bytes) old else old) → is_in i (start, start + length bytes) ≡ false
      → get_or (if is_done then take start old ++ bytes ++ drop (start + length bytes) old else old) i 0
      ≡ (if nat_eq (i % 2) 1 && is_written s.unsynced i then 165 else get_or (if is_done then take start s.now ++ bytes ++ drop (start + length bytes) s.now else s.now) i 0)
  out_of_range true l e =
      let le_old : start ≤ length old = omega (arith, torn.long) in
      let out = outside i start (start + length bytes) e in
      let short : i < length old = ⊎_elim (λ a. omega arith) (λ a. omega (arith, length-written start bytes old le_old)) out in
      get_or-written start bytes old i le_old out ∙ torn.each i short
      ∙ ap (λ b. if nat_eq (i % 2) 1 && is_written s.unsynced i then 165 else b) (sym (get_or-written start bytes s.now i le out))
  out_of_range false l e = torn.each i l

same_length : (is_done : Bool) (bytes old now : List ℕ) (start : ℕ) → length old ≡ length now → start ≤ length now
    → length (if is_done then take start old ++ bytes ++ drop (start + length bytes) old else old) ≡ length (if is_done then take start now ++ bytes ++ drop (start + length bytes) now else now)
same_length true bytes old now start e le = length-written start bytes old (omega arith) ∙ rw e refl ∙ sym (length-written start bytes now le)
same_length false bytes old now start e le = e

pub torn_next : (is_done : Bool) (at : ℕ) (bytes : List ℕ) (s : FileState) (old new : List ℕ) → IsTorn s old → TornNext is_done at bytes old new → IsTorn (after_write is_done at bytes s) new
torn_next is_done at bytes s old new torn next =
    let start = min at (length s.now) in
    let written : List ℕ = if is_done then take start old ++ bytes ++ drop (start + length bytes) old else old in
    let tears : TearsRange start (start + length bytes) written new = rw torn.long at next in
    let le : start ≤ length s.now = omega arith in
    record {
      long = tears.long ∙ same_length is_done bytes old s.now start torn.long le;
      each = λ i l.
          let short : i < length written = omega (arith, tears.long, l) in
          tears.each i short
          ∙ combined (is_in i (start, start + length bytes)) (nat_eq (i % 2) 1) (is_written s.unsynced i) (get_or written i 0) _
          (λ e even. within_range bytes old s torn start i le is_done short e even)
          (λ e. out_of_range bytes old s torn start i le is_done short e);
    }

-- the files, torn
pub write_shows_torn : {E : Type 0} (result : Result Unit E) (entry : LoggedCall) (file at : ℕ) (bytes new_bytes : Vec ℕ Global) (now old new : Files) → entry.call ≡ Write file at bytes
    → TornNext entry.is_done at bytes.items (old file) new_bytes.items → OnOk result (ChangesFile file (λ _ after. after ≡ new_bytes.items) old new) → OnOk result (ShowsNext Torn entry now old new)
write_shows_torn (Err e) entry file at bytes new_bytes now old new is next changes = tt
write_shows_torn (Ok x) entry file at bytes new_bytes now old new is next changes = λ f s _ torn. rw is (⊎_elim
    (λ (same : f ≡ file). rw (same, one_number file, changes.changed) (torn_next entry.is_done at bytes.items s (old file) new_bytes.items (subst (λ (n : ℕ). IsTorn s (old n)) same torn) next))
    (λ (other : f ≢ file). rw (other_number f file other, changes.others f other) torn)
    (cases_eq f file))
