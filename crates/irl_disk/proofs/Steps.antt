-- What one call more makes of a store's states, and of what stops leave.
use Rattle.std.specs.Prelude.{◌≡◌, ◌≢◌, ◌⊎◌, ℕ, ◌+◌, ◌≤◌, ◌<◌, nat_eq, Bool, true, false, if◌then◌else◌, List, [], ◌∷◌, ◌++◌, length, take, drop, min, Vec, Result, Ok, Err, OnOk, OnErr, Some, is_ok}
use Rattle.std.proofs.Common.{refl, sym, ap, ◌∙◌, subst, inl, inr, ⊎_elim, arith, length-append}
use Rattle.std.proofs.Math.Path.{fun_ext}
use Rattle.std.proofs.lemmas.Bool.Decides.{nat_tests}
use Rattle.std.proofs.lemmas.List.{take_all, take-append-le}
use Rattle.std.specs.declared.alloc.Global.{Global}
use Rattle.irl_disk.specs.declared.calls.Call.{Call}
use Rattle.irl_disk.specs.declared.calls.Call.TheVariants.{Query, Write, Cut, Sync}
use Rattle.irl_disk.specs.declared.calls.LoggedCall.{LoggedCall}
use Rattle.irl_disk.specs.declared.memory.MemStore.{MemStore}
use Rattle.irl_disk.specs.DeviceCall as device
use Rattle.irl_disk.specs.Disk.{Files, ChangesFile, Holds, Scribbled, IsPrefix, PartlyCut, Changes}
use Rattle.irl_disk.specs.Images.{Follows, Leaves, LeavesBy, LeavesSame}
use Rattle.irl_disk.specs.Model.{FileState, at_rest, after_write, after_cut, after_sync, IsFileImage, AreImages}
use Rattle.irl_disk.specs.ModelLaws.{IsSound, image_at_rest}
use Rattle.irl_disk.specs.Calls.{History, ChangesState, IsLogged, Logs, files_among, after_call, after_entry, after_entries, states, states_at, ImagesSince, read_after}
use Rattle.irl_disk.specs.Memory.{files_in, call_count, told_by}
use Rattle.irl_disk.specs.MemoryLaws.{sound_states, since_now}
use Rattle.irl_disk.proofs.Before.{below_or_above, scribbled, partly_cut}

-- ---- the states
pub after_more : (entries : List LoggedCall) (entry : LoggedCall) (f : ℕ) (s : FileState) → after_entries (entries ++ entry ∷ []) f s ≡ after_entry entry f (after_entries entries f s)
after_more [] entry f s = refl
after_more (first ∷ entries) entry f s = after_more entries entry f (after_entry first f s)

pub states_logged : (call : Call) (is_done : Bool) (old new : History) → Logs call is_done old new → (f : ℕ) → states new f ≡ after_call call is_done f (states old f)
states_logged call is_done old new logs f = rw (logs.first, logs.entries) (after_more old.entries (record { call = call; is_done = is_done }) f (at_rest (files_among old.first f)))

-- a call that is not done changes nothing that a read gives
pub now_not_done : (call : Call) (f : ℕ) (s : FileState) → (after_call call false f s).now ≡ s.now
now_not_done Query f s = refl
now_not_done (Write file at bytes) f s = grind arith
now_not_done (Cut file to) f s = grind arith
now_not_done (Sync file) f s = grind arith

-- what a read gives once the call is done
pub now_done : (call : Call) (f : ℕ) (s : FileState) → (after_call call true f s).now ≡ read_after call f s.now
now_done Query f s = refl
now_done (Write file at bytes) f s = grind arith
now_done (Cut file to) f s = grind arith
now_done (Sync file) f s = grind arith

-- ---- a call that was made, done or not, or refused
abbrev pub Made : Call → History → History → Type 0
Made call old new = (new ≡ old) ⊎ ((is_done : Bool) × Logs call is_done old new)

pub made : {E : Type 0} (result : Result Unit E) (call : Call) (old new : History) → OnOk result (Logs call true old new) → OnErr result ((new ≡ old) ⊎ Logs call false old new) → Made call old new
made (Ok x) call old new ok err = inr (true, ok)
made (Err e) call old new ok err = ⊎_elim (λ same. inl same) (λ logs. inr (false, logs)) err

-- what a read gives stays where the call does not change it
abbrev pub IsQuiet : Call → Type 0
IsQuiet call = (is_done : Bool) (f : ℕ) (s : FileState) → (after_call call is_done f s).now ≡ s.now

pub query_is_quiet : IsQuiet Query
query_is_quiet is_done f s = refl

pub sync_is_quiet : (file : ℕ) → IsQuiet (Sync file)
sync_is_quiet file true f s = grind arith
sync_is_quiet file false f s = grind arith

pub files_stay : (call : Call) → IsQuiet call → (old new : MemStore) → Made call old.log new.log → files_in new ≡ files_in old
files_stay call quiet old new (inl same) = fun_ext (λ f. ap (λ (h : History). (states h f).now) same)
files_stay call quiet old new (inr (is_done, logs)) = fun_ext (λ f. ap (λ (s : FileState). s.now) (states_logged call is_done old.log new.log logs f) ∙ quiet is_done f (states old.log f))

pub query_stays : (old new : MemStore) → Made Query old.log new.log → (f : ℕ) → (states new.log f).now ≡ (states old.log f).now
query_stays old new was f = ap (λ (files : Files). files f) (files_stay Query query_is_quiet old new was)

-- ---- what stops leave
-- the states after the same calls
module _ (call : Call) (is_done : Bool) (old new : History) (logs : Logs call is_done old new) where
  states_before : (count : ℕ) → count ≤ length old.entries → (f : ℕ) → states_at count new f ≡ states_at count old f
  states_before count le f = rw (logs.first, logs.entries, take-append-le count old.entries (record { call = call; is_done = is_done } ∷ []) le) refl

  one_longer : length new.entries ≡ length old.entries + 1
  one_longer = ap (λ (es : List LoggedCall). length es) logs.entries ∙ length-append old.entries (record { call = call; is_done = is_done } ∷ [])

  states_last : (count : ℕ) → length old.entries < count → (f : ℕ) → states_at count new f ≡ after_call call is_done f (states old f)
  states_last count lt f =
      ap (λ (es : List LoggedCall). after_entries es f (at_rest (files_among new.first f))) (take_all count new.entries (omega (arith, one_longer)))
      ∙ states_logged call is_done old new logs f

  still_since : (t : ℕ) (image : Files) → ImagesSince old t image → ImagesSince new t image
  still_since t image left = (left.0, left.1, omega (arith, left.2, one_longer), λ f. subst (λ (s : FileState). IsFileImage s (image f)) (sym (states_before left.0 left.2 f)) (left.3 f))

  since_or_next : (t : ℕ) (image : Files) → ImagesSince new t image → ImagesSince old t image ⊎ AreImages (λ f. after_call call is_done f (states old f)) image
  since_or_next t image left = ⊎_elim
      (λ (lt : length old.entries < left.0). inr (λ f. subst (λ (s : FileState). IsFileImage s (image f)) (states_last left.0 lt f) (left.3 f)))
      (λ (le : left.0 ≤ length old.entries). inl (left.0, left.1, le, λ f. subst (λ (s : FileState). IsFileImage s (image f)) (states_before left.0 le f) (left.3 f)))
      (below_or_above (length old.entries) left.0)

-- a call that was refused
pub refused_leaves : (old new : MemStore) (P : Files → Type 0) → new.log ≡ old.log → ((image : Files) → (told_by old).images image → P image) → Leaves (told_by old) (told_by new) P
refused_leaves old new P same was = record {
  later = omega (arith, ap (λ (h : History). length h.entries) same);
  each = λ image left. was image (since_now old image (subst (λ (h : History). ImagesSince h (call_count old) image) same left));
  before = λ t image le left. inl (subst (λ (h : History). ImagesSince h t image) same left);
}

-- what a stop leaves from before the call to behind it
pub leaves : (call : Call) (P : Files → Type 0) (old new : MemStore) → Made call old.log new.log
    → ((image : Files) → (told_by old).images image → P image)
    → ((is_done : Bool) (image : Files) → AreImages (λ f. after_call call is_done f (states old.log f)) image → P image)
    → Leaves (told_by old) (told_by new) P
leaves call P old new (inl same) was next = refused_leaves old new P same was
leaves call P old new (inr (is_done, logs)) was next = record {
  later = omega (arith, one_longer call is_done old.log new.log logs);
  each = λ image left. ⊎_elim (λ since. was image (since_now old image since)) (λ after. next is_done image after) (since_or_next call is_done old.log new.log logs (call_count old) image left);
  before = λ t image le left. ⊎_elim (λ since. inl since) (λ after. inr (next is_done image after)) (since_or_next call is_done old.log new.log logs t image left);
}

-- a call that changes no file's images
pub quiet_leaves : (call : Call) (old new : MemStore) → Made call old.log new.log
    → ((is_done : Bool) (f : ℕ) (image : List ℕ) → IsFileImage (after_call call is_done f (states old.log f)) image → IsFileImage (states old.log f) image)
    → LeavesSame (told_by old) (told_by new)
quiet_leaves call old new was same = leaves call ((told_by old).images) old new was (λ image left. left) (λ is_done image left f. same is_done f (image f) (left f))

pub query_leaves : (old new : MemStore) → Made Query old.log new.log → LeavesSame (told_by old) (told_by new)
query_leaves old new was = quiet_leaves Query old new was (λ is_done f image left. left)

synced_before : (b is_done : Bool) (s : FileState) (image : List ℕ) → IsSound s → IsFileImage (if b then after_sync is_done s else s) image → IsFileImage s image
synced_before true true s image sound left = rw (image_at_rest s.now image left) sound.now
synced_before true false s image sound left = left
synced_before false is_done s image sound left = left

pub sync_leaves : (file : ℕ) (old new : MemStore) → Made (Sync file) old.log new.log → LeavesSame (told_by old) (told_by new)
sync_leaves file old new was = quiet_leaves (Sync file) old new was (λ is_done f image left. synced_before (nat_eq f file) is_done (states old.log f) image (sound_states old.log f) left)

-- ---- a call that changes one file
same_number : (g f : ℕ) → nat_eq g f ≡ true → g ≡ f
same_number g f e = grind (arith, nat_tests)

pub other_number : (g f : ℕ) → g ≢ f → nat_eq g f ≡ false
other_number g f ne = grind (arith, nat_tests)

pub one_number : (f : ℕ) → nat_eq f f ≡ true
one_number f = grind (arith, nat_tests)

either_image : (b : Bool) (s : FileState) (x y : List ℕ) → (b ≡ true → IsFileImage s x) → (b ≡ false → IsFileImage s y) → IsFileImage s (if b then x else y)
either_image true s x y has_x has_y = has_x refl
either_image false s x y has_x has_y = has_y refl

module _ (file : ℕ) (old new : ℕ → FileState) (step : List ℕ → List ℕ → Type 0) where
  -- each image of the file's new state comes from one of its old state
  pub one_follows : ((f : ℕ) → nat_eq f file ≡ false → new f ≡ old f) → ((image : List ℕ) → IsFileImage (new file) image → (was : List ℕ) × IsFileImage (old file) was × step was image)
      → (image : Files) → AreImages new image → Follows (ChangesFile file step) (AreImages old) image
  one_follows others prior image left =
      let was = prior (image file) (left file) in
      let before : Files = λ g. if nat_eq g file then was.0 else image g in
      let images : AreImages old before = λ g. either_image (nat_eq g file) (old g) was.0 (image g)
      (λ e. subst (λ (n : ℕ). IsFileImage (old n) was.0) (sym (same_number g file e)) was.1)
      (λ e. subst (λ (s : FileState). IsFileImage s (image g)) (others g e) (left g)) in (
        before,
        images,
        record {
          changed = rw (one_number file) was.2;
          others = λ g ne. rw (other_number g file ne) refl;
        },
      )

-- the state of the file that a call changes
here : (file : ℕ) (s t : FileState) (image : List ℕ) → IsFileImage (if nat_eq file file then s else t) image → IsFileImage s image
here file s t image left = rw (one_number file) at left

-- any image follows from itself
pub scribbled_images : (at n file : ℕ) (images : Files → Type 0) (image : Files) → images image → Follows (ChangesFile file (Scribbled at n)) images image
scribbled_images at n file images image left = (image, left, record { changed = record { before = refl; after = refl; no_shorter = omega arith; no_longer = omega arith }; others = λ g ne. refl })

pub write_leaves : (file at : ℕ) (bytes : Vec ℕ Global) (old new : MemStore) → at ≤ length (files_in old file) → Made (Write file at bytes) old.log new.log
    → LeavesBy (ChangesFile file (Scribbled at (length bytes.items))) (told_by old) (told_by new)
write_leaves file at bytes old new le was = leaves (Write file at bytes) (Follows (ChangesFile file (Scribbled at (length bytes.items))) ((told_by old).images)) old new was
    (scribbled_images at (length bytes.items) file ((told_by old).images))
    (λ is_done. one_follows file (states old.log) (λ f. after_call (Write file at bytes) is_done f (states old.log f)) (Scribbled at (length bytes.items))
    (λ f e. rw e refl)
    (λ image left. scribbled is_done at bytes.items (states old.log file) image le (sound_states old.log file)
    (here file (after_write is_done at bytes.items (states old.log file)) (states old.log file) image left)))

pub cut_leaves : (file to : ℕ) (old new : MemStore) → Made (Cut file to) old.log new.log
    → LeavesBy (ChangesFile file (PartlyCut to)) (told_by old) (told_by new)
cut_leaves file to old new was = leaves (Cut file to) (Follows (ChangesFile file (PartlyCut to)) ((told_by old).images)) old new was
    (λ image left. (image, left, record { changed = record { no_shorter = omega arith; prefix = sym (take_all _ _ (omega arith)) }; others = λ g ne. refl }))
    (λ is_done. one_follows file (states old.log) (λ f. after_call (Cut file to) is_done f (states old.log f)) (PartlyCut to)
    (λ f e. rw e refl)
    (λ image left. partly_cut is_done to (states old.log file) image (sound_states old.log file)
    (here file (after_cut is_done to (states old.log file)) (states old.log file) image left)))

-- ---- what a read gives
-- each file goes on by its state
files_logged : (call : Call) (is_done : Bool) (old new : History) → Logs call is_done old new → (f : ℕ) → (states new f).now ≡ (after_call call is_done f (states old f)).now
files_logged call is_done old new logs f = ap (λ (s : FileState). s.now) (states_logged call is_done old new logs f)

pub write_holds : (file at : ℕ) (bytes : Vec ℕ Global) (old new : MemStore) → at ≤ length (files_in old file) → Logs (Write file at bytes) true old.log new.log
    → ChangesFile file (Holds at bytes.items) (files_in old) (files_in new)
write_holds file at bytes old new le logs =
    let now : (f : ℕ) → files_in new f ≡ (after_call (Write file at bytes) true f (states old.log f)).now = files_logged (Write file at bytes) true old.log new.log logs in
    let start : min at (length (states old.log file).now) ≡ at = omega arith in
    record {
      changed = now file ∙ rw (one_number file, start) refl;
      others = λ g ne. now g ∙ rw (other_number g file ne) refl;
    }

pub cut_prefix : (file to : ℕ) (old new : MemStore) → Logs (Cut file to) true old.log new.log → ChangesFile file (IsPrefix to) (files_in old) (files_in new)
cut_prefix file to old new logs =
    let now : (f : ℕ) → files_in new f ≡ (after_call (Cut file to) true f (states old.log f)).now = files_logged (Cut file to) true old.log new.log logs in
    record {
      changed = now file ∙ rw (one_number file) refl;
      others = λ g ne. now g ∙ rw (other_number g file ne) refl;
    }

-- a call that was not done, or was refused
pub not_done_stays : (call : Call) (old new : MemStore) → (new.log ≡ old.log) ⊎ Logs call false old.log new.log → (f : ℕ) → files_in new f ≡ files_in old f
not_done_stays call old new (inl same) f = ap (λ (h : History). (states h f).now) same
not_done_stays call old new (inr logs) f = files_logged call false old.log new.log logs f ∙ now_not_done call f (states old.log f)

-- of a file sync that was done a stop leaves what a read gives
pub sync_durable : (file : ℕ) (old new : MemStore) → Logs (Sync file) true old.log new.log → (image : Files) → (told_by new).images image → image file ≡ files_in old file
sync_durable file old new logs image left =
    image_at_rest (files_in old file) (image file)
    (here file (at_rest (files_in old file)) (states old.log file) (image file)
    (subst (λ (s : FileState). IsFileImage s (image file)) (states_logged (Sync file) true old.log new.log logs file) (left file)))

-- ---- from a call's answer
pub done_made : (call : Call) (old new : History) → Logs call true old new → Made call old new
done_made call old new logs = inr (true, logs)

pub failed_made : (call : Call) (old new : History) → (new ≡ old) ⊎ Logs call false old new → Made call old new
failed_made call old new (inl same) = inl same
failed_made call old new (inr logs) = inr (false, logs)

-- what a call left is what a step made of it
pub tells_change : (old new : MemStore) (f : ℕ) (step : List ℕ → List ℕ → Type 0) → ChangesFile f step (files_in old) (files_in new) → Changes f step (Some (files_in old)) (Some (files_in new))
tells_change old new f step changes = (files_in new, refl, changes)

pub scribbled_none : (at n f : ℕ) (old new : Files) → ((g : ℕ) → new g ≡ old g) → ChangesFile f (Scribbled at n) old new
scribbled_none at n f old new same = record {
  changed = record {
    before = ap (λ (xs : List ℕ). take at xs) (same f);
    after = ap (λ (xs : List ℕ). drop (at + n) xs) (same f);
    no_shorter = rw same (omega arith);
    no_longer = rw same (omega arith);
  };
  others = λ g ne. same g;
}

pub cut_none : (to f : ℕ) (old new : Files) → ((g : ℕ) → new g ≡ old g) → ChangesFile f (PartlyCut to) old new
cut_none to f old new same = record {
  changed = record { no_shorter = rw same (omega arith); prefix = rw same (sym (take_all (length (old f)) (old f) (omega arith))) };
  others = λ g ne. same g;
}

pub same_told : (x y : Files) → Some x ≡ Some y → x ≡ y
same_told x y e = cc

-- ---- what a call makes of the states
pub changes_state : (call : Call) (is_done : Bool) (file : ℕ) (step : FileState → FileState) (old new : History)
    → ((f : ℕ) (s : FileState) → after_call call is_done f s ≡ (if nat_eq f file then step s else s))
    → Logs call is_done old new → ChangesState file step old new
changes_state call is_done file step old new is logs = record {
  changed = states_logged call is_done old new logs file ∙ is file (states old file) ∙ rw (one_number file) refl;
  others = λ f ne. states_logged call is_done old new logs f ∙ is f (states old f) ∙ rw (other_number f file ne) refl;
}

-- a write that was made is logged
pub write_logged : {T E : Type 0} (file at : ℕ) (kept : Vec ℕ Global) (bytes : List ℕ) (r : Result T E) (old new : History) → kept.items ≡ bytes → OnOk r (Logs (Write file at kept) true old new)
    → OnErr r ((new ≡ old) ⊎ Logs (Write file at kept) false old new) → IsLogged (device.Write file at bytes) (is_ok r) old new
write_logged file at kept bytes (Ok value) old new same done failed = (kept, same, done)
write_logged file at kept bytes (Err error) old new same done failed = ⊎_elim (λ e. inl e) (λ logs. inr (kept, same, logs)) failed

pub on_ok_at : {T E P : Type 0} (r : Result T E) → OnOk r P → is_ok r ≡ true → P
on_ok_at (Ok value) p e = p
on_ok_at (Err error) p e = grind arith
