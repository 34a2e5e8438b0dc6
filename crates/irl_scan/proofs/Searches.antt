-- What a search finds is where a run ends.
use Rattle.std.proofs.Common.{◌≡◌, ℕ, zero, suc, ◌<◌, ◌≤◌, Bool, true, false, cond, not, eqb, nat_lt, codes, List, [], ◌∷◌, ◌++◌, length, drop, get_or, Option, Some, None, unwrap_or, refl, ap, sym, ◌∙◌, subst, arith}
use Rattle.std.proofs.lemmas.Bool.{ltb-false}
use Rattle.std.proofs.lemmas.List.{at_drop_more, get_or-drop, length-drop}
use Rattle.std.proofs.lemmas.List.Sums.{fails_before_first, passes_at_first, prefix_len-le-length}
use Rattle.std.specs.Char.{is_ascii_whitespace}
use Rattle.std.specs.List.{position, position_or_len}
use Rattle.std.specs.Str.{IsTrimAsciiStart}
use Rattle.irl_scan.specs.declared.kind.Kind.{Kind}
use Rattle.memchr.specs.Find.{IsFirstByte, FindsNeedle, OccursAt, is_byte}
use Rattle.irl_scan.specs.Bytes.{at_byte}
use Rattle.irl_scan.specs.Page.{not_space, ends_comment, closes, ends_raw, is_raw_end}
use Rattle.irl_scan.specs.Reading.{from, is_at, IsRun}
use Rattle.irl_scan.proofs.Runs.{first_run}
use Rattle.irl_scan.proofs.Pieces.{starts}

-- a run that ends at a byte
byte_run : (p : ℕ → Bool) (xs : List ℕ) (n : ℕ) → n ≤ length xs → ((k : ℕ) → k < n → p (get_or xs k 0) ≡ false) → (n < length xs → p (get_or xs n 0) ≡ true) → IsRun (at_byte p) xs n
byte_run p xs n fits none here =
    first_run (at_byte p) xs n fits (λ k l. at_drop_more (at_byte p) xs k 0 (omega arith) ∙ none k l) (λ l. at_drop_more (at_byte p) xs n 0 l ∙ here l)

not_true : (b : Bool) → (b ≡ true → ⊥) → b ≡ false
not_true true h = absurd (h refl)
not_true false h = refl

-- by `position`
at_position : (n m : ℕ) (t : Bool) → nat_lt n m ≡ t → n ≤ m → unwrap_or (cond t (Some n) None) m ≡ n
at_position n m true h fits = refl
at_position n m false h fits = let past = ltb-false n m h in omega arith

pub position_run : (p : ℕ → Bool) (xs : List ℕ) (found : Option ℕ) → found ≡ position p xs → IsRun (at_byte p) xs (unwrap_or found (length xs))
position_run p xs found e =
    let n = position_or_len p xs in
    let fits : n ≤ length xs = prefix_len-le-length (λ x. not (p x)) xs in
    let same : unwrap_or found (length xs) ≡ n = ap (λ o. unwrap_or o (length xs)) e ∙ at_position n (length xs) (nat_lt n (length xs)) refl fits in
    subst (IsRun (at_byte p) xs) (sym same) (byte_run p xs n fits (λ k l. fails_before_first p xs k 0 l) (λ l. passes_at_first p xs 0 l))

-- by `memchr`
pub byte_found_run : (byte : ℕ) (xs : List ℕ) (found : Option ℕ) → IsFirstByte (is_byte byte) xs found → IsRun (is_at byte) xs (unwrap_or found (length xs))
byte_found_run byte xs None h = byte_run (λ b. eqb b byte) xs (length xs) (omega arith) (λ k l. not_true _ (h k (omega arith) l)) (λ l. absurd (omega arith))
byte_found_run byte xs (Some n) h =
    let place = h.0 in
    byte_run (λ b. eqb b byte) xs n (let high = place.high in omega arith) (λ k l. not_true _ (place.before k (omega arith) l)) (λ l. h.1)

-- by `trim_ascii_start`
pub space_run : (xs rest : List ℕ) → IsTrimAsciiStart xs rest → rest ≡ from not_space xs
space_run xs rest h =
    let run = byte_run (λ b. not (is_ascii_whitespace b)) xs h.0 (let all = h.2 in omega arith) (λ k l. ap not (h.3 k l)) (λ l. ap not (h.4 l)) in
    h.1 ∙ run.back

-- by `memmem::find`
comment_end_at : (xs : List ℕ) → 3 ≤ length xs → get_or xs 0 0 ≡ 45 → get_or xs 1 0 ≡ 45 → get_or xs 2 0 ≡ 62 → ends_comment xs ≡ true
comment_end_at [] fits x y z = absurd (omega arith)
comment_end_at (a ∷ []) fits x y z = absurd (omega arith)
comment_end_at (a ∷ b ∷ []) fits x y z = absurd (omega arith)
comment_end_at (a ∷ b ∷ c ∷ xs) fits x y z = rw (x, y, z) refl

occurs_ends : (xs : List ℕ) (k : ℕ) → OccursAt xs (codes "-->") k → ends_comment (drop k xs) ≡ true
occurs_ends xs k h =
    let fits = h.fits in
    let dropped = length-drop k xs in
    comment_end_at (drop k xs) (omega arith)
    (get_or-drop k xs 0 0 ∙ h.reads 0 (omega arith)) (get_or-drop k xs 1 0 ∙ h.reads 1 (omega arith)) (get_or-drop k xs 2 0 ∙ h.reads 2 (omega arith))

comment_end_is : (xs : List ℕ) → 0 < length xs → ends_comment xs ≡ true → xs ≡ codes "-->" ++ drop 3 xs
comment_end_is [] some h = absurd (omega arith)
comment_end_is (b ∷ bs) some h = starts (codes "-->") (b ∷ bs) h

reads_comment_end : (rest : List ℕ) (j : ℕ) → j < 3 → get_or (codes "-->" ++ rest) j 0 ≡ get_or (codes "-->") j 0
reads_comment_end rest zero l = refl
reads_comment_end rest (suc zero) l = refl
reads_comment_end rest (suc (suc zero)) l = refl
reads_comment_end rest (suc (suc (suc j))) l = absurd (omega arith)

ends_occurs : (xs : List ℕ) (k : ℕ) → k < length xs → ends_comment (drop k xs) ≡ true → OccursAt xs (codes "-->") k
ends_occurs xs k some h =
    let dropped = length-drop k xs in
    let is = comment_end_is (drop k xs) (omega arith) h in
    let long = ap length is in
    record {
      fits = omega arith;
      reads = λ j l. sym (get_or-drop k xs j 0) ∙ ap (λ ys. get_or ys j 0) is ∙ reads_comment_end (drop 3 (drop k xs)) j l;
    }

pub comment_run : (xs : List ℕ) (found : Option ℕ) → FindsNeedle xs (codes "-->") 0 found → IsRun ends_comment xs (unwrap_or found (length xs))
comment_run xs None h =
    first_run ends_comment xs (length xs) (omega arith) (λ k l. not_true _ (λ stands. h k (omega arith) (omega arith) (ends_occurs xs k l stands))) (λ l. absurd (omega arith))
comment_run xs (Some n) h =
    let place = h.0 in
    let fits = h.1.fits in
    first_run ends_comment xs n (omega arith) (λ k l. not_true _ (λ stands. place.before k (omega arith) l (ends_occurs xs k (omega arith) stands))) (λ l. occurs_ends xs n h.1)

-- by a loop
pub raw_end_is : (word xs : List ℕ) (i : ℕ) → i < length xs → is_raw_end word (drop i xs) ≡ closes word (drop i xs)
raw_end_is word xs i l = at_drop_more (is_raw_end word) xs i 0 l ∙ sym (at_drop_more (closes word) xs i 0 l)

pub raw_run : (kind : Kind) (xs : List ℕ) → ((ys : List ℕ) → ends_raw kind ys ≡ true) → IsRun (ends_raw kind) xs 0
raw_run kind xs h = first_run (ends_raw kind) xs 0 (omega arith) (λ k l. absurd (omega arith)) (λ l. h xs)
