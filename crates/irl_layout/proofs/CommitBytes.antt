-- The bytes of commits: which commit bytes are.
use Rattle.std.proofs.Common.{◌≡◌, ◌∙◌, ℕ, suc, zero, ◌+◌, ◌*◌, ◌-◌, ◌^◌, ◌<◌, ◌≤◌, List, [], ◌∷◌, ◌++◌, length, take, drop, get_or, Option, None, Some, refl, sym, ap, arith, length-append, length-drop, take-append-drop, take_all}
use Rattle.std.proofs.lemmas.List.{drop-drop}
use Rattle.std.proofs.lemmas.List.Concat.{flat_map-cons}
use Rattle.std.proofs.Math.Seq.{drop-append_seam}
use Rattle.std.specs.Prelude.{IfSome}
use Rattle.std.specs.List.{flat_map, AllByRecursion}
use Rattle.byteorder.specs.Endian.{little_bytes, little_number}
use Rattle.byteorder.specs.Numbers.{little_from-lt, little_number-reads_back}
use Rattle.irl_layout.specs.Commits.{Commit, IsCommit, sides_byte, commit_bytes, numbers_in}
use Rattle.irl_layout.proofs.EntryBytes.{AreBytes, bytes-drop, eight_bytes, next_part, first_byte}

-- ---- numbers
pub length-numbers_in : (n : ℕ) (bs : List ℕ) → length (numbers_in n bs) ≡ n
length-numbers_in zero bs = refl
length-numbers_in (suc n) bs = omega (arith, length-numbers_in n (drop 8 bs))

pub numbers_fit : (n : ℕ) (bs : List ℕ) → AreBytes bs → AllByRecursion (λ (x : ℕ). x < 2 ^ 64) (numbers_in n bs)
numbers_fit zero bs small = tt
numbers_fit (suc n) bs small = (little_from-lt 0 8 bs small, numbers_fit n (drop 8 bs) (bytes-drop 8 bs small))

pub length-numbers : (ns : List ℕ) → length (flat_map (little_bytes 8) ns) ≡ 8 * length ns
length-numbers [] = refl
length-numbers (n ∷ ns) = ap length (flat_map-cons (little_bytes 8) n ns) ∙ omega (arith, length-numbers ns, length-append (little_bytes 8 n) (flat_map (little_bytes 8) ns))

-- bytes are those of their numbers
pub numbers_written : (n : ℕ) (bs : List ℕ) → length bs ≡ 8 * n → AreBytes bs → bs ≡ flat_map (little_bytes 8) (numbers_in n bs)
numbers_written zero [] long small = refl
numbers_written zero (b ∷ bs) long small = absurd (omega (arith, long))
numbers_written (suc n) bs long small =
    sym (take-append-drop 8 bs)
    ∙ ap (λ (l : List ℕ). take 8 bs ++ l) (numbers_written n (drop 8 bs) (omega (arith, long, length-drop 8 bs)) (bytes-drop 8 bs small))
    ∙ ap (λ (l : List ℕ). l ++ flat_map (little_bytes 8) (numbers_in n (drop 8 bs))) (sym (eight_bytes bs (omega (arith, long)) small))
    ∙ sym (flat_map-cons (little_bytes 8) (little_number 8 bs) (numbers_in n (drop 8 bs)))

-- and numbers are read back
pub numbers_read : (ns : List ℕ) → AllByRecursion (λ (x : ℕ). x < 2 ^ 64) ns → numbers_in (length ns) (flat_map (little_bytes 8) ns) ≡ ns
numbers_read [] fit = refl
numbers_read (n ∷ ns) fit =
    let apart = flat_map-cons (little_bytes 8) n ns in
    let first : little_number 8 (flat_map (little_bytes 8) (n ∷ ns)) ≡ n = ap (little_number 8) apart ∙ little_number-reads_back 8 n (flat_map (little_bytes 8) ns) fit.0 in
    let behind : numbers_in (length ns) (drop 8 (flat_map (little_bytes 8) (n ∷ ns))) ≡ ns =
    ap (λ (l : List ℕ). numbers_in (length ns) (drop 8 l)) apart ∙ ap (numbers_in (length ns)) (drop-append_seam (little_bytes 8 n) (flat_map (little_bytes 8) ns)) ∙ numbers_read ns fit.1 in
    cc

-- one number more
pub numbers-more : (n : ℕ) (bs : List ℕ) → numbers_in (suc n) bs ≡ numbers_in n bs ++ little_number 8 (drop (8 * n) bs) ∷ []
numbers-more zero bs = refl
numbers-more (suc n) bs =
    let further : drop (8 * n) (drop 8 bs) ≡ drop (8 * suc n) bs = drop-drop (8 * n) 8 bs ∙ (let e : 8 + 8 * n ≡ 8 * suc n = omega arith in ap (λ (k : ℕ). drop k bs) e) in
    ap (λ (l : List ℕ). little_number 8 bs ∷ l) (numbers-more n (drop 8 bs) ∙ ap (λ (l : List ℕ). numbers_in n (drop 8 bs) ++ little_number 8 l ∷ []) further)

-- a part up to the end
pub to_end : (at : ℕ) (bs : List ℕ) → take (length bs - at) (drop at bs) ≡ drop at bs
to_end at bs = take_all (length bs - at) (drop at bs) (omega (arith, length-drop at bs))

-- ---- the two sides
-- a side, 0 or 1, or none
abbrev pub IsSide : Option ℕ → Type 0
IsSide live = IfSome live (λ side. side ≤ 1)

-- the first byte names both, and no other two
pub same_sides : (side other : ℕ) (live another : Option ℕ) → side ≤ 1 → other ≤ 1 → IsSide live → IsSide another → sides_byte side live ≡ sides_byte other another → (side ≡ other) × (live ≡ another)
same_sides side other None None low low_too is is_too same = (same, refl)
same_sides side other None (Some m) low low_too is is_too same = absurd (omega (arith, same, low))
same_sides side other (Some n) None low low_too is is_too same = absurd (omega (arith, same, low_too))
same_sides side other (Some n) (Some m) low low_too is is_too same = (omega (arith, same, low, low_too), ap Some (omega (arith, same, low, low_too)))

pub byte_is_low : (side : ℕ) (live : Option ℕ) → side ≤ 1 → IsSide live → sides_byte side live ≤ 5
byte_is_low side None low is = omega (arith, low)
byte_is_low side (Some n) low is = omega (arith, low, is)

-- ---- a commit
-- the commit with these sides whose other numbers are read from bytes
abbrev pub commit_of : ℕ → Option ℕ → ℕ → List ℕ → Commit
commit_of side live buckets bs = record {
  side = side;
  live = live;
  entries = little_number 8 (drop 1 bs);
  judged = little_number 8 (drop 9 bs);
  unique = little_number 8 (drop 17 bs);
  texts = little_number 8 (drop 25 bs);
  cut = numbers_in buckets (drop 33 bs);
}

pub length-commit : (commit : Commit) → length (commit_bytes commit) ≡ 33 + 8 * length commit.cut
length-commit commit = omega (arith, length-numbers commit.cut)

six_parts : (m n : ℕ) (a b c d e f g h i j : List ℕ) → m ≡ n → a ≡ f → b ≡ g → c ≡ h → d ≡ i → e ≡ j → m ∷ (a ++ (b ++ (c ++ (d ++ e)))) ≡ n ∷ (f ++ (g ++ (h ++ (i ++ j))))
six_parts m n a b c d e f g h i j p q r s t u = cc

-- bytes that are a commit are its bytes
pub commit_written : (buckets : ℕ) (bs : List ℕ) (side : ℕ) (live : Option ℕ) → length bs ≡ 33 + 8 * buckets → AreBytes bs → sides_byte side live ≡ get_or bs 0 0 → side ≤ 1 → IsSide live
    → (bs ≡ commit_bytes (commit_of side live buckets bs)) × IsCommit buckets (commit_of side live buckets bs)
commit_written buckets bs side live long small byte low is =
    let front : bs ≡ get_or bs 0 0 ∷ (take 8 (drop 1 bs) ++ (take 8 (drop 9 bs) ++ (take 8 (drop 17 bs) ++ (take 8 (drop 25 bs) ++ drop 33 bs)))) =
    first_byte bs (omega (arith, long))
    ∙ ap (λ (l : List ℕ). get_or bs 0 0 ∷ l) (next_part 8 1 bs
    ∙ ap (λ (l : List ℕ). take 8 (drop 1 bs) ++ l) (next_part 8 9 bs
    ∙ ap (λ (l : List ℕ). take 8 (drop 9 bs) ++ l) (next_part 8 17 bs
    ∙ ap (λ (l : List ℕ). take 8 (drop 17 bs) ++ l) (next_part 8 25 bs)))) in
    let bytes : get_or bs 0 0 ∷ (take 8 (drop 1 bs) ++ (take 8 (drop 9 bs) ++ (take 8 (drop 17 bs) ++ (take 8 (drop 25 bs) ++ drop 33 bs)))) ≡ commit_bytes (commit_of side live buckets bs) =
    six_parts (get_or bs 0 0) (sides_byte side live) (take 8 (drop 1 bs)) (take 8 (drop 9 bs)) (take 8 (drop 17 bs)) (take 8 (drop 25 bs)) (drop 33 bs)
    (little_bytes 8 (little_number 8 (drop 1 bs))) (little_bytes 8 (little_number 8 (drop 9 bs))) (little_bytes 8 (little_number 8 (drop 17 bs))) (little_bytes 8 (little_number 8 (drop 25 bs)))
    (flat_map (little_bytes 8) (numbers_in buckets (drop 33 bs)))
    (sym byte)
    (sym (eight_bytes (drop 1 bs) (omega (arith, long, length-drop 1 bs)) (bytes-drop 1 bs small)))
    (sym (eight_bytes (drop 9 bs) (omega (arith, long, length-drop 9 bs)) (bytes-drop 9 bs small)))
    (sym (eight_bytes (drop 17 bs) (omega (arith, long, length-drop 17 bs)) (bytes-drop 17 bs small)))
    (sym (eight_bytes (drop 25 bs) (omega (arith, long, length-drop 25 bs)) (bytes-drop 25 bs small)))
    (numbers_written buckets (drop 33 bs) (omega (arith, long, length-drop 33 bs)) (bytes-drop 33 bs small)) in (
      front ∙ bytes,
      record {
        side = low;
        live = is;
        entries = little_from-lt 0 8 (drop 1 bs) (bytes-drop 1 bs small);
        judged = little_from-lt 0 8 (drop 9 bs) (bytes-drop 9 bs small);
        unique = little_from-lt 0 8 (drop 17 bs) (bytes-drop 17 bs small);
        texts = little_from-lt 0 8 (drop 25 bs) (bytes-drop 25 bs small);
        count = length-numbers_in buckets (drop 33 bs);
        cut = numbers_fit buckets (drop 33 bs) (bytes-drop 33 bs small);
      },
    )

pub same_commit : (side : ℕ) (live : Option ℕ) (entries judged unique texts : ℕ) (cut : List ℕ) (commit : Commit) → side ≡ commit.side → live ≡ commit.live → entries ≡ commit.entries
    → judged ≡ commit.judged → unique ≡ commit.unique → texts ≡ commit.texts → cut ≡ commit.cut
    → record { side = side; live = live; entries = entries; judged = judged; unique = unique; texts = texts; cut = cut } ≡ commit
same_commit side live entries judged unique texts cut commit p l q r s t u = rw (p, l, q, r, s, t, u) refl

-- and a commit is read back
pub commit_read : (buckets : ℕ) (commit : Commit) → IsCommit buckets commit → commit_of commit.side commit.live buckets (commit_bytes commit) ≡ commit
commit_read buckets commit is =
    let bs = commit_bytes commit in
    let cut = flat_map (little_bytes 8) commit.cut in
    same_commit commit.side commit.live (little_number 8 (drop 1 bs)) (little_number 8 (drop 9 bs)) (little_number 8 (drop 17 bs)) (little_number 8 (drop 25 bs)) (numbers_in buckets (drop 33 bs))
    commit refl refl
    (little_number-reads_back 8 commit.entries (little_bytes 8 commit.judged ++ (little_bytes 8 commit.unique ++ (little_bytes 8 commit.texts ++ cut))) is.entries)
    (little_number-reads_back 8 commit.judged (little_bytes 8 commit.unique ++ (little_bytes 8 commit.texts ++ cut)) is.judged)
    (little_number-reads_back 8 commit.unique (little_bytes 8 commit.texts ++ cut) is.unique)
    (little_number-reads_back 8 commit.texts cut is.texts)
    (ap (λ (n : ℕ). numbers_in n cut) (sym is.count) ∙ numbers_read commit.cut is.cut)

-- so bytes are those of at most one commit
pub one_commit : (buckets : ℕ) (bs : List ℕ) (x y : Commit) → IsCommit buckets x → IsCommit buckets y → bs ≡ commit_bytes x → bs ≡ commit_bytes y → x ≡ y
one_commit buckets bs x y is_x is_y for_x for_y =
    let bytes = sym for_x ∙ for_y in
    let byte : sides_byte x.side x.live ≡ sides_byte y.side y.live = ap (λ (l : List ℕ). get_or l 0 0) bytes in
    let sides = same_sides x.side y.side x.live y.live is_x.side is_y.side is_x.live is_y.live byte in
    sym (commit_read buckets x is_x)
    ∙ ap (λ (n : ℕ). commit_of n x.live buckets (commit_bytes x)) sides.0
    ∙ ap (λ (live : Option ℕ). commit_of y.side live buckets (commit_bytes x)) sides.1
    ∙ ap (commit_of y.side y.live buckets) bytes ∙ commit_read buckets y is_y
