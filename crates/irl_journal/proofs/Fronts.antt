-- What a file begins with, and what an append behind it leaves.
use Rattle.std.proofs.Common.{◌≡◌, ◌∙◌, ℕ, ◌+◌, ◌≤◌, List, [], ◌++◌, length, take, drop, Option, None, Some, Result, Ok, Err, OnOk, OnErr, refl, sym, ap, subst, arith, append_assoc, length-append, length-drop, length-take-le, take-append-drop}
use Rattle.std.proofs.lemmas.List.{take_at, take-take, take-append-le, drop-append-le}
use Rattle.std.specs.Option.{ForSome}
use Rattle.irl_disk.specs.Disk.{Files, Changes, ChangesFile, Holds, Scribbled, PartlyCut}
use Rattle.irl_disk.specs.Images.{Told, IsConsistent, Leaves, LeavesBy, LeavesSame}
use Rattle.irl_disk.proofs.Frames.{told_from}
use Rattle.irl_disk.proofs.Stretches.{widens, widens_by, reads_on, left_now}
use Rattle.irl_journal.specs.Blob.{Front, BeginsWith, KeepsFront, IsCommitted}

-- ---- what a file begins with
pub begins_take : (file held : List ℕ) → BeginsWith file held → take (length held) file ≡ held
begins_take file held begins = ap (λ (l : List ℕ). take (length held) l) begins.1 ∙ take_at held begins.0 (length held) refl

pub take_begins : (file held : List ℕ) → take (length held) file ≡ held → BeginsWith file held
take_begins file held front = (drop (length held) file, sym (take-append-drop (length held) file) ∙ ap (λ (l : List ℕ). l ++ drop (length held) file) front)

-- it has as many bytes
pub begins_long : (file held : List ℕ) → BeginsWith file held → length held ≤ length file
begins_long file held begins = omega (arith, ap length begins.1, length-append held begins.0)

-- and begins with fewer of them
pub begins_less : (file held more : List ℕ) → BeginsWith file (held ++ more) → BeginsWith file held
begins_less file held more begins = (more ++ begins.0, begins.1 ∙ append_assoc held more begins.0)

-- a part of the front is a part of the file
pub begins_part : (file held : List ℕ) (at n : ℕ) → at + n ≤ length held → BeginsWith file held → take n (drop at file) ≡ take n (drop at held)
begins_part file held at n within begins =
    ap (λ (l : List ℕ). take n (drop at l)) begins.1
    ∙ ap (λ (l : List ℕ). take n l) (drop-append-le at held begins.0 (omega arith))
    ∙ take-append-le n (drop at held) begins.0 (omega (arith, length-drop at held))

-- ---- what keeps the front: the first n bytes stay
pub front_stays : (n : ℕ) (old new : List ℕ) → take n new ≡ take n old → KeepsFront n old new
front_stays n old new same = λ held size begins.
    take_begins new held (ap (λ (m : ℕ). take m new) size ∙ same ∙ ap (λ (m : ℕ). take m old) (sym size) ∙ begins_take old held begins)

-- a write past it, whole or not
pub scribbled_past : (n at count : ℕ) (old new : List ℕ) → n ≤ at → Scribbled at count old new → KeepsFront n old new
scribbled_past n at count old new past torn =
    front_stays n old new (sym (take-take n at new past) ∙ ap (λ (l : List ℕ). take n l) torn.before ∙ take-take n at old past)

pub held_past : (n at : ℕ) (bytes old new : List ℕ) → n ≤ at → at ≤ length old → Holds at bytes old new → KeepsFront n old new
held_past n at bytes old new past within holds =
    let rest = drop (at + length bytes) old in
    front_stays n old new
    (ap (λ (l : List ℕ). take n l) holds
    ∙ ap (λ (l : List ℕ). take n l) (append_assoc (take at old) bytes rest)
    ∙ take-append-le n (take at old) (bytes ++ rest) (omega (arith, length-take-le at old within))
    ∙ take-take n at old past)

-- a cut past it, whole or not
pub cut_past : (n to : ℕ) (old new : List ℕ) → n ≤ to → PartlyCut to old new → KeepsFront n old new
cut_past n to old new past cut = λ held size begins.
    let within : length held ≤ length new = omega (arith, size, begins_long old held begins, cut.no_shorter) in
    take_begins new held (ap (λ (l : List ℕ). take (length held) l) cut.prefix ∙ take-take (length held) (length new) old within ∙ begins_take old held begins)

-- no change, and two changes
pub keeps_none : (n : ℕ) (file : List ℕ) → KeepsFront n file file
keeps_none n file = λ held size begins. begins

pub keeps_both : (n : ℕ) (old mid new : List ℕ) → KeepsFront n old mid → KeepsFront n mid new → KeepsFront n old new
keeps_both n old mid new first second = λ held size begins. second held size (first held size begins)

-- bytes written behind the front are of it
pub grows : (n : ℕ) (held bytes old new : List ℕ) → length held ≡ n → BeginsWith old held → Holds n bytes old new → BeginsWith new (held ++ bytes)
grows n held bytes old new size begins holds =
    let front : take n old ≡ held = ap (λ (m : ℕ). take m old) (sym size) ∙ begins_take old held begins in
    (drop (n + length bytes) old, holds ∙ ap (λ (l : List ℕ). l ++ bytes ++ drop (n + length bytes) old) front)

-- ---- what stops leave
-- a write behind the front
pub front_wrote : (f n count : ℕ) (old new : Told) → LeavesBy (ChangesFile f (Scribbled n count)) old new → LeavesBy (ChangesFile f (KeepsFront n)) old new
front_wrote f n count old new call = widens_by old new _ _ call
    (λ before image step. record { changed = scribbled_past n n count (before f) (image f) (omega arith) step.changed; others = step.others })

-- and the sync behind it
pub front_synced : (f n : ℕ) (old mid new : Told) → IsConsistent mid → LeavesBy (ChangesFile f (KeepsFront n)) old mid → LeavesSame mid new → LeavesBy (ChangesFile f (KeepsFront n)) old new
front_synced f n old mid new law so_far call = reads_on old mid new _ law so_far call

-- what is told changes so too
pub told_keeps : (f n : ℕ) (step : List ℕ → List ℕ → Type 0) (old new : Option Files) → ((before : Files) (after : List ℕ) → old ≡ Some before → step (before f) after → KeepsFront n (before f) after)
    → Changes f step old new → Changes f (KeepsFront n) old new
told_keeps f n step None new keeps changes = changes
told_keeps f n step (Some old) new keeps changes = (changes.0, changes.1, record { changed = keeps old (changes.0 f) refl changes.2.changed; others = changes.2.others })

-- once the bytes are synced, each image has them
pub all_grow : (f n : ℕ) (held bytes : List ℕ) (old mid new : Told) → IsConsistent old → IsConsistent new → length held ≡ n → ((image : Files) → old.images image → BeginsWith (image f) held)
    → Changes f (Holds n bytes) old.files mid.files → new.files ≡ mid.files → ForSome mid.files (λ files. (image : Files) → new.images image → image f ≡ files f) → (image : Files) → new.images image
    → BeginsWith (image f) (held ++ bytes)
all_grow f n held bytes old mid new law_old law_new size each written same durable image left =
    let told = law_new.tells image left in
    let told_mid : mid.files ≡ Some told.0 = sym same ∙ told.1 in
    let from = told_from f (Holds n bytes) old.files mid.files told.0 written told_mid in
    let has = grows n held bytes (from.0 f) (told.0 f) size (each from.0 (law_old.told from.0 from.1)) from.2.changed in
    subst (λ (file : List ℕ). BeginsWith file (held ++ bytes)) (sym (durable told.0 told_mid image left)) has

-- ---- for callers
-- what is committed stays so through calls that keep the front
pub stays_committed : (blob : Front) (held : List ℕ) (old new : Told) → IsConsistent new → LeavesBy (ChangesFile blob.file (KeepsFront blob.length)) old new → IsCommitted old.images blob held
    → IsCommitted new.images blob held
stays_committed blob held old new law stops committed = record {
  size = committed.size;
  each = λ image left.
      let from = left_now old new _ law stops image left in
      from.2.changed held committed.size (committed.each from.0 from.1);
}

-- and so it does at every moment of them
pub stops_committed : (blob : Front) (held : List ℕ) (old new : Told) → LeavesBy (ChangesFile blob.file (KeepsFront blob.length)) old new → IsCommitted old.images blob held
    → Leaves old new (λ image. BeginsWith (image blob.file) held)
stops_committed blob held old new stops committed =
    widens old new _ (λ image. BeginsWith (image blob.file) held) stops (λ image from. from.2.changed held committed.size (committed.each from.0 from.1))

-- the file has as many bytes, so that more can be appended
pub committed_within : (blob : Front) (held : List ℕ) (now : Told) → IsConsistent now → IsCommitted now.images blob held → ForSome now.files (λ files. blob.length ≤ length (files blob.file))
committed_within blob held now law committed = λ files told.
    omega (arith, committed.size, begins_long (files blob.file) held (committed.each files (law.told files told)))

-- opening commits whatever the file begins with, of that length
pub opened_committed : (f n : ℕ) (held : List ℕ) (blob : Front) (old new : Told) → IsConsistent new → blob ≡ record { file = f; length = n } → new.files ≡ old.files
    → ForSome old.files (λ files. IsCommitted new.images blob (take n (files f))) → ForSome old.files (λ files. BeginsWith (files f) held) → length held ≡ n → IsCommitted new.images blob held
opened_committed f n held blob old new law is same committed begins size = record {
  size = size ∙ sym (ap (λ (front : Front). front.length) is);
  each = λ image left.
      let told = law.tells image left in
      let was : old.files ≡ Some told.0 = sym same ∙ told.1 in
      let front : take n (told.0 f) ≡ held = ap (λ (m : ℕ). take m (told.0 f)) (sym size) ∙ begins_take (told.0 f) held (begins told.0 was) in
      subst (λ (bytes : List ℕ). BeginsWith (image blob.file) bytes) front ((committed told.0 was).each image left);
}

-- where each image has the file's bytes, those up to a length are committed
pub synced_committed : (f n : ℕ) (file : List ℕ) (blob : Front) (images : Files → Type 0) → blob ≡ record { file = f; length = n } → n ≤ length file → ((image : Files) → images image → image f ≡ file)
    → IsCommitted images blob (take n file)
synced_committed f n file blob images is within durable = subst (λ (front : Front). IsCommitted images front (take n file)) (sym is) record {
  size = length-take-le n file within;
  each = λ image left. (drop n file, durable image left ∙ sym (take-append-drop n file));
}

-- so some bytes are committed after an append, whether it failed or not
pub committed_after : {T E : Type 0} (result : Result T E) (blob after : Front) (held bytes : List ℕ) (old new : Told) → IsConsistent new → IsCommitted old.images blob held
    → OnOk result ((held : List ℕ) → IsCommitted old.images blob held → IsCommitted new.images after (held ++ bytes)) → OnErr result (after ≡ blob)
    → LeavesBy (ChangesFile blob.file (KeepsFront blob.length)) old new
    → (held : List ℕ) × IsCommitted new.images after held
committed_after (Ok value) blob after held bytes old new law committed ok err stops = (held ++ bytes, ok held committed)
committed_after (Err error) blob after held bytes old new law committed ok err stops =
    (held, subst (λ (front : Front). IsCommitted new.images front held) (sym err) (stays_committed blob held old new law stops committed))

-- of a blob of length 0 no byte is
pub none_committed : (images : Files → Type 0) (file : ℕ) → IsCommitted images (record { file = file; length = 0 }) []
none_committed images file = record { size = refl; each = λ image left. (image file, refl) }

-- a rewind commits fewer of the bytes
pub rewinds : (images : Files → Type 0) (blob : Front) (held : List ℕ) (n : ℕ) → n ≤ blob.length → IsCommitted images blob held
    → IsCommitted images (record { file = blob.file; length = n }) (take n held)
rewinds images blob held n less committed = record {
  size = length-take-le n held (omega (arith, committed.size));
  each = λ image left.
      begins_less (image blob.file) (take n held) (drop n held)
      (subst (λ (bytes : List ℕ). BeginsWith (image blob.file) bytes) (sym (take-append-drop n held)) (committed.each image left));
}
