-- The laws of a store in memory.
use Rattle.std.specs.Prelude.{◌≡◌, ℕ, ◌≤◌, nat_eq, Bool, true, false, if◌then◌else◌, List, [], ◌∷◌, length, take, Some}
use Rattle.std.proofs.Common.{sym, subst, arith, refl}
use Rattle.std.proofs.lemmas.List.{take_all}
use Rattle.irl_disk.specs.declared.calls.Call.{Call}
use Rattle.irl_disk.specs.declared.calls.Call.TheVariants.{Query, Write, Cut, Sync}
use Rattle.irl_disk.specs.declared.calls.LoggedCall.{LoggedCall}
use Rattle.irl_disk.specs.declared.memory.MemStore.{MemStore}
use Rattle.irl_disk.specs.Disk.{Files}
use Rattle.irl_disk.specs.Images.{IsConsistent}
use Rattle.irl_disk.specs.Model.{FileState, at_rest, IsFileImage}
use Rattle.irl_disk.specs.ModelLaws.{IsSound, sound_at_rest, sound_write, sound_cut, sound_sync}
use Rattle.irl_disk.specs.Calls.{History, files_among, after_call, after_entry, after_entries, states, states_at}
use Rattle.irl_disk.specs.Memory.{files_in, call_count, told_by}

either_sound : (b : Bool) (x y : FileState) → IsSound x → IsSound y → IsSound (if b then x else y)
either_sound true x y sound_x sound_y = sound_x
either_sound false x y sound_x sound_y = sound_y

pub sound_call : (call : Call) (is_done : Bool) (f : ℕ) (s : FileState) → IsSound s
    → IsSound (after_call call is_done f s)
sound_call Query is_done f s sound = sound
sound_call (Write file at bytes) is_done f s sound =
    either_sound (nat_eq f file) _ s (sound_write is_done at bytes.items s sound) sound
sound_call (Cut file to) is_done f s sound = either_sound (nat_eq f file) _ s (sound_cut is_done to s sound) sound
sound_call (Sync file) is_done f s sound = either_sound (nat_eq f file) _ s (sound_sync is_done s sound) sound

pub sound_entries : (entries : List LoggedCall) (f : ℕ) (s : FileState) → IsSound s
    → IsSound (after_entries entries f s)
sound_entries [] f s sound = sound
sound_entries (entry ∷ entries) f s sound = sound_entries entries f (after_entry entry f s)
    (sound_call entry.call entry.is_done f s sound)

pub sound_states : (h : History) (f : ℕ) → IsSound (states h f)
sound_states h f = sound_entries h.entries f _ (sound_at_rest (files_among h.first f))

pub sound_states_at : (count : ℕ) (h : History) (f : ℕ) → IsSound (states_at count h f)
sound_states_at count h f = sound_entries (take count h.entries) f _ (sound_at_rest (files_among h.first f))

-- ---- the laws of the trait
pub now_are_images : (s : MemStore) (files : Files) → Some (files_in s) ≡ Some files → (told_by s).images files
now_are_images s files told =
    let same : files_in s ≡ files = cc in
    subst (λ (now : Files). (told_by s).images now) same (λ f. (sound_states s.log f).now)

-- the states after all the calls
abbrev HasImage : History → Files → List LoggedCall → Type 0
HasImage h image entries = (f : ℕ) → IsFileImage (after_entries entries f (at_rest (files_among h.first f))) (image f)

pub counted_now : (s : MemStore) (t : ℕ) (image : Files) → t ≤ call_count s → (told_by s).images image
    → (told_by s).since t image
counted_now s t image le left =
    let all : take (length s.log.entries) s.log.entries ≡ s.log.entries =
    take_all (length s.log.entries) s.log.entries (omega arith) in
    (length s.log.entries, le, omega arith, subst (HasImage s.log image) (sym all) left)

pub since_now : (s : MemStore) (image : Files) → (told_by s).since (call_count s) image → (told_by s).images image
since_now s image left =
    let all : take left.0 s.log.entries ≡ s.log.entries = take_all left.0 s.log.entries left.1 in
    subst (HasImage s.log image) all left.3

pub since_before : (s : MemStore) (t u : ℕ) (image : Files) → t ≤ u → (told_by s).since u image
    → (told_by s).since t image
since_before s t u image le left = (left.0, omega (arith, left.1), left.2, left.3)

pub consistent : (s : MemStore) → IsConsistent (told_by s)
consistent s = record {
  told = now_are_images s;
  tells = λ image left. (files_in s, refl);
  counts = counted_now s;
  only = since_now s;
  earlier = since_before s;
}
