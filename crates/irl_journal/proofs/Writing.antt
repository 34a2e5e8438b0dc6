-- What an append does to any file that is long enough, whatever records it has.
use Rattle.std.proofs.Common.{◌≡◌, ◌∙◌, ℕ, ◌+◌, ◌≤◌, ◌<◌, List, [], ◌∷◌, ◌++◌, length, take, drop, Option, None, Some, refl, sym, ap, subst, arith, append_assoc, length-append, length-take-le}
use Rattle.std.proofs.lemmas.List.{take-take, take-append-le, drop_at}
use Rattle.std.specs.Option.{ForSome}
use Rattle.irl_disk.specs.Disk.{Files, Changes, Holds}
use Rattle.irl_disk.proofs.Frames.{told_from}
use Rattle.irl_journal.specs.Format.{open_gate, records_text}
use Rattle.irl_journal.specs.Appending.{HasAppended}
use Rattle.irl_journal.proofs.Gates.{IsTail, length-record}

-- the records' bytes behind a byte of the file, and then the open gate over that byte
pub both_writes : (end : ℕ) (bytes more_tail : List ℕ) (more : List (List ℕ)) (old mid new : List ℕ) → IsTail more more_tail → bytes ≡ more_tail ++ 0 ∷ [] → end < length old
    → Holds (end + 1) bytes old mid → Holds end (open_gate ∷ []) mid new
    → HasAppended end more old new
both_writes end bytes more_tail more old mid new is are within first second =
    let rest = drop (end + length (records_text more) + 1) old in
    let tail = more_tail ++ (0 ∷ rest) in
    let size : length bytes ≡ length (records_text more) = length-record more more_tail bytes is are in
    let further : end + 1 + length bytes ≡ end + length (records_text more) + 1 = omega (arith, size) in
    let is_mid : mid ≡ take (end + 1) old ++ tail =
    first
    ∙ ap (λ (n : ℕ). take (end + 1) old ++ bytes ++ drop n old) further
    ∙ append_assoc (take (end + 1) old) bytes rest
    ∙ ap (λ (bs : List ℕ). take (end + 1) old ++ (bs ++ rest)) are
    ∙ ap (λ (bs : List ℕ). take (end + 1) old ++ bs) (append_assoc more_tail (0 ∷ []) rest) in
    let long : length (take (end + 1) old) ≡ end + 1 = length-take-le (end + 1) old (omega (arith, within)) in
    let front : take end mid ≡ take end old =
    ap (λ (bs : List ℕ). take end bs) is_mid ∙ take-append-le end (take (end + 1) old) tail (omega (arith, long)) ∙ take-take end (end + 1) old (omega arith) in
    let behind : drop (end + 1) mid ≡ tail = ap (λ (bs : List ℕ). drop (end + 1) bs) is_mid ∙ drop_at (take (end + 1) old) tail (end + 1) long in
    appended_is end more more_tail old new is
    (second
    ∙ append_assoc (take end mid) (open_gate ∷ []) (drop (end + 1) mid)
    ∙ ap (λ (bs : List ℕ). bs ++ (open_gate ∷ drop (end + 1) mid)) front
    ∙ ap (λ (bs : List ℕ). take end old ++ (open_gate ∷ bs)) behind
    ∙ ap (λ (bs : List ℕ). take end old ++ (bs ++ (0 ∷ rest))) (sym is.text))
  where
    appended_is : (end : ℕ) (more : List (List ℕ)) (tail old new : List ℕ) → IsTail more tail
        → new ≡ take end old ++ (records_text more ++ (0 ∷ drop (end + length (records_text more) + 1) old)) → HasAppended end more old new
    appended_is end [] tail old new is bytes = cc (is.text)
    appended_is end (payload ∷ payloads) tail old new is bytes = bytes

-- the same of what is told
pub told_bytes : (f end : ℕ) (bytes tail : List ℕ) (more : List (List ℕ)) (old mid new : Option Files) → IsTail more tail → bytes ≡ tail ++ 0 ∷ []
    → ForSome old (λ files. end < length (files f)) → Changes f (Holds (end + 1) bytes) old mid → Changes f (Holds end (open_gate ∷ [])) mid new → Changes f (HasAppended end more) old new
told_bytes f end bytes tail more None mid new is are within first second = subst (λ (told : Option Files). Changes f (Holds end (open_gate ∷ [])) told new) first second
told_bytes f end bytes tail more (Some old) mid new is are within first second =
    let then_ = subst (λ (told : Option Files). Changes f (Holds end (open_gate ∷ [])) told new) first.1 second in (
      then_.0,
      then_.1,
      record {
        changed = both_writes end bytes tail more (old f) (first.0 f) (then_.0 f) is are (within old refl) first.2.changed then_.2.changed;
        others = λ g other. then_.2.others g other ∙ first.2.others g other;
      },
    )

-- the gate's place is still within the file
pub still_within : (f end : ℕ) (bytes : List ℕ) (old new : Option Files) → ForSome old (λ files. end < length (files f)) → Changes f (Holds (end + 1) bytes) old new
    → ForSome new (λ files. end ≤ length (files f))
still_within f end bytes old new within written = λ files told.
    let from = told_from f (Holds (end + 1) bytes) old new files written told in
    let before = from.0 f in
    let front : length (take (end + 1) before) ≡ end + 1 = length-take-le (end + 1) before (omega (arith, within from.0 from.1)) in
    let rest = drop (end + 1 + length bytes) before in
    omega (arith, front, ap length from.2.changed, length-append (take (end + 1) before ++ bytes) rest, length-append (take (end + 1) before) bytes)
