-- What a piece that was read adds to the blocks so far, and what its bytes show of the file.
use Rattle.std.proofs.Common.{◌≡◌, ◌∙◌, ◌⊎◌, ⊎_elim, inl, inr, ℕ, zero, suc, ◌+◌, ◌-◌, ◌*◌, ◌<◌, ◌≤◌, min, List, [], ◌∷◌, ◌++◌, length, map, take, drop, Option, None, Some, refl, sym, ap, subst, arith, append_assoc, length-append, length-drop, length-take, take-append-drop}
use Rattle.std.proofs.Math.Seq.{drop-append-add, drop-append_seam}
use Rattle.std.proofs.lemmas.List.{append-nil, drop-drop, drop-take}
use Rattle.std.specs.Option.{ForSome}
use Rattle.byteorder.specs.Endian.{little_bytes, little_number}
use Rattle.byteorder.specs.Numbers.{little_from-take}
use Rattle.irl_offer.specs.declared.receipt.Pair.{Pair}
use Rattle.irl_model.specs.Pairs.{IsRising, pair_of}
use Rattle.irl_disk.specs.Disk.{Files}
use Rattle.irl_disk.specs.Taken.{Takes}
use Rattle.irl_journal.specs.Blob.{BeginsWith}
use Rattle.irl_cache.specs.Reading.{Reader, HasRead, TakesExactly}
use Rattle.irl_cache.specs.SortedRun.{AreWordPairs, RisesFrom, FallsAt, FallsFrom, last_at, last_from, pairs_bytes}
use Rattle.irl_cache.proofs.Rising.{joined_rise, last_both}
use Rattle.irl_cache.proofs.RunBytes.{bytes_joined, key_first, length-mapped, length-pairs, words_joined}

-- ---- one piece more
-- as many bytes as the entries so far
bytes_given : (pairs : List Pair) → length (pairs_bytes (map pair_of pairs)) ≡ 16 * length pairs
bytes_given pairs = length-pairs (map pair_of pairs) ∙ ap (λ (n : ℕ). 16 * n) (length-mapped pairs)

piece_begins : (pairs ahead : List Pair) (file : List ℕ) → BeginsWith file (pairs_bytes (map pair_of pairs)) → pairs_bytes (map pair_of ahead)
    ≡ take (16 * length ahead) (drop (16 * length pairs) file) → BeginsWith file (pairs_bytes (map pair_of (pairs ++ ahead)))
piece_begins pairs ahead file begins piece =
    let bytes = pairs_bytes (map pair_of pairs) in
    let n = 16 * length ahead in
    let rest : drop (16 * length pairs) file ≡ begins.0 =
    ap (λ (k : ℕ). drop k file) (sym (bytes_given pairs)) ∙ ap (λ (l : List ℕ). drop (length bytes) l) begins.1 ∙ drop-append_seam bytes begins.0 in (
      drop n begins.0,
      begins.1
          ∙ ap (λ (l : List ℕ). bytes ++ l) (sym (take-append-drop n begins.0) ∙ ap (λ (l : List ℕ). l ++ drop n begins.0) (ap (λ (l : List ℕ). take n l) (sym rest) ∙ sym piece))
          ∙ sym (append_assoc bytes (pairs_bytes (map pair_of ahead)) (drop n begins.0))
          ∙ ap (λ (l : List ℕ). l ++ drop n begins.0) (sym (bytes_joined pairs ahead)),
    )

pub piece_read : (before now : Option Files) (pairs ahead : List Pair) (r : Reader) (last : Option ℕ) → now ≡ before → r.ahead ≡ [] → HasRead before pairs r → RisesFrom r.last ahead → last
    ≡ last_from r.last ahead → AreWordPairs (map pair_of ahead) → r.given + length ahead ≤ r.entries
    → ForSome before (λ files. pairs_bytes (map pair_of ahead) ≡ take (16 * length ahead) (drop (16 * r.given) (files r.file)))
    → HasRead now pairs (record { file = r.file; entries = r.entries; most = r.most; given = r.given; block = []; ahead = ahead; last = last })
piece_read before now pairs ahead r last same none had rises last_is words within piece =
    let all : pairs ++ r.ahead ≡ pairs = ap (λ (l : List Pair). pairs ++ l) none ∙ append-nil pairs in
    let was_last : r.last ≡ last_from None pairs = had.last ∙ ap (λ (l : List Pair). last_from None l) all in
    record {
      count = had.count;
      within = within;
      rising = joined_rise pairs ahead (subst IsRising all had.rising) (subst (λ (l : Option ℕ). RisesFrom l ahead) was_last rises);
      words = words_joined pairs ahead (subst (λ (l : List Pair). AreWordPairs (map pair_of l)) all had.words) words;
      last = last_is ∙ ap (λ (l : Option ℕ). last_from l ahead) was_last ∙ sym (last_both None pairs ahead);
      bytes = λ files told.
          let tells : before ≡ Some files = sym same ∙ told in
          let begins = subst (λ (l : List Pair). BeginsWith (files r.file) (pairs_bytes (map pair_of l))) all (had.bytes files tells) in
          piece_begins pairs ahead (files r.file) begins (subst (λ (n : ℕ). pairs_bytes (map pair_of ahead) ≡ take (16 * length ahead) (drop (16 * n) (files r.file))) had.count (piece files tells));
    }

-- and one block more of what was read ahead
pub block_given : (told : Option Files) (pairs : List Pair) (r : Reader) (n : ℕ) → n ≤ length r.ahead → HasRead told pairs r
    → HasRead told (pairs ++ take n r.ahead) (record { file = r.file; entries = r.entries; most = r.most; given = r.given + n; block = take n r.ahead; ahead = drop n r.ahead; last = r.last })
block_given told pairs r n within had =
    let all : (pairs ++ take n r.ahead) ++ drop n r.ahead ≡ pairs ++ r.ahead = append_assoc pairs (take n r.ahead) (drop n r.ahead) ∙ ap (λ (l : List Pair). pairs ++ l) (take-append-drop n r.ahead) in
    let first : length (take n r.ahead) + length (drop n r.ahead) ≡ length r.ahead = sym (length-append (take n r.ahead) (drop n r.ahead))
    ∙ ap (λ (l : List Pair). length l) (take-append-drop n r.ahead) in
    let rest = length-drop n r.ahead in
    record {
      count = omega (arith, had.count, length-append pairs (take n r.ahead), first, rest, within);
      within = omega (arith, had.within, rest, within);
      rising = subst IsRising (sym all) had.rising;
      words = subst (λ (l : List Pair). AreWordPairs (map pair_of l)) (sym all) had.words;
      last = had.last ∙ ap (λ (l : List Pair). last_from None l) (sym all);
      bytes = λ files told_is. subst (λ (l : List Pair). BeginsWith (files r.file) (pairs_bytes (map pair_of l))) (sym all) (had.bytes files told_is);
    }

-- ---- a key that falls
-- a number's bytes in a part of a file
number_in : (a b n : ℕ) (file : List ℕ) → a + 8 ≤ n → little_number 8 (drop a (take n (drop b file))) ≡ little_number 8 (drop (b + a) file)
number_in a b n file within =
    let m : a + (n - a) ≡ n = omega arith in
    ap (λ (k : ℕ). little_number 8 (drop a (take k (drop b file)))) (sym m)
    ∙ ap (little_number 8) (drop-take a (n - a) (drop b file))
    ∙ little_from-take 0 8 (n - a) (drop a (drop b file)) (omega arith)
    ∙ ap (little_number 8) (drop-drop a b file)

-- the key of the last pair, where it stands
last_stands : (p : Pair) (ps : List Pair) (rest : List ℕ) (last : Option ℕ) (k : ℕ) → AreWordPairs (map pair_of (p ∷ ps)) → last_from last (p ∷ ps) ≡ Some k
    → little_number 8 (drop (16 * length ps) (pairs_bytes (map pair_of (p ∷ ps)) ++ rest)) ≡ k
last_stands p [] rest last k words is = key_first (pair_of p) rest words.0 ∙ (let same : p.key ≡ k = cc in same)
last_stands p (q ∷ qs) rest last k words is =
    let e = little_bytes 8 p.key ++ little_bytes 8 p.value in
    let more : 16 * length (q ∷ qs) ≡ 16 + 16 * length qs = omega arith in
    ap (λ (n : ℕ). little_number 8 (drop n (pairs_bytes (map pair_of (p ∷ q ∷ qs)) ++ rest))) more
    ∙ ap (λ (l : List ℕ). little_number 8 (drop (16 + 16 * length qs) l)) (append_assoc e (pairs_bytes (map pair_of (q ∷ qs))) rest)
    ∙ ap (little_number 8) (drop-append-add e (pairs_bytes (map pair_of (q ∷ qs)) ++ rest) (16 * length qs))
    ∙ last_stands q qs rest (Some p.key) k words.1 is

last_key : (pairs : List Pair) (file : List ℕ) (k : ℕ) → AreWordPairs (map pair_of pairs) → BeginsWith file (pairs_bytes (map pair_of pairs)) → last_from None pairs ≡ Some k → (n : ℕ)
    × (length pairs ≡ suc n) × (little_number 8 (drop (16 * n) file) ≡ k)
last_key [] file k words begins is = absurd (let no : ⊥ = cc in no)
last_key (p ∷ ps) file k words begins is =
    (length ps, refl, ap (λ (l : List ℕ). little_number 8 (drop (16 * length ps) l)) begins.1 ∙ last_stands p ps begins.0 None k words is)

-- the last key before a piece is the key of the entry before it
falls_first : (entries given k : ℕ) (pairs : List Pair) (file : List ℕ) → given ≡ length pairs → given < entries → AreWordPairs (map pair_of pairs) → BeginsWith file (pairs_bytes (map pair_of pairs))
    → last_from None pairs ≡ Some k → 16 * given + 16 ≤ length file → little_number 8 (drop (16 * given) file) ≤ k → FallsAt entries file (16 * given)
falls_first entries given k pairs file count less words begins last long falls =
    let stands = last_key pairs file k words begins last in
    record {
      i = stands.0;
      within = omega (arith, stands.1, count, less);
      place = omega (arith, stands.1, count);
      there = long;
      falls = omega (arith, falls, stands.2);
    }

pub falls_in : (entries m at : ℕ) (file part : List ℕ) (pairs : List Pair) (given : ℕ) (before_it : Option ℕ) → given ≡ length pairs → given + m ≤ entries → AreWordPairs (map pair_of pairs)
    → BeginsWith file (pairs_bytes (map pair_of pairs)) → before_it ≡ last_from None pairs
    → part ≡ take (16 * m) (drop (16 * given) file) → length part ≡ 16 * m → FallsFrom before_it part at → FallsAt entries file (16 * given + at)
falls_in entries m at file part pairs given before_it count within words begins last part_is size falls =
    let reach : min (16 * m) (length file - 16 * given) ≡ 16 * m =
    ap (λ (n : ℕ). min (16 * m) n) (sym (length-drop (16 * given) file)) ∙ sym (length-take (16 * m) (drop (16 * given) file)) ∙ ap (λ (l : List ℕ). length l) (sym part_is) ∙ size in
    elim falls.i as (λ (i : ℕ). 16 * i + 16 ≤ length part → at ≡ 16 * i → last_at before_it i part ≡ Some falls.before → FallsAt entries file (16 * given + at)) [
      | zero ↦ λ room place before.
          let here : little_number 8 (drop at part) ≡ little_number 8 (drop (16 * given) file) =
          ap (λ (l : List ℕ). little_number 8 (drop at l)) part_is ∙ number_in at (16 * given) (16 * m) file (omega (arith, room, place, size))
          ∙ ap (λ (n : ℕ). little_number 8 (drop n file)) (omega (arith, place)) in
          let same : 16 * given ≡ 16 * given + at = omega (arith, place) in
          subst (FallsAt entries file) same (falls_first entries given falls.before pairs file count (omega (arith, room, size, within)) words begins (sym last ∙ before)
          (omega (arith, reach, room, size)) (omega (arith, falls.falls, here)))
      | suc j ↦ λ room place before.
          let key : little_number 8 (drop (16 * j) part) ≡ falls.before = cc in
          let here = ap (λ (l : List ℕ). little_number 8 (drop at l)) part_is ∙ number_in at (16 * given) (16 * m) file (omega (arith, room, place, size)) in
          let low : little_number 8 (drop (16 * j) part) ≡ little_number 8 (drop (16 * (given + j)) file) =
          ap (λ (l : List ℕ). little_number 8 (drop (16 * j) l)) part_is ∙ number_in (16 * j) (16 * given) (16 * m) file (omega (arith, room, size))
          ∙ ap (λ (n : ℕ). little_number 8 (drop n file)) (omega arith) in
          record {
            i = given + j;
            within = omega (arith, room, size, within);
            place = omega (arith, place);
            there = omega (arith, reach, room, size, place);
            falls = omega (arith, falls.falls, here, low, key);
          }
    ] falls.within falls.place falls.is_before

-- ---- how much a piece has
lower : (a b : ℕ) → (a ≤ b) ⊎ (b ≤ a)
lower a b = grind arith

pub filled_to : (given entries most pieces n : ℕ) → given ≤ entries → n ≡ min (most * (pieces + 1)) (entries - given) → (given + n ≡ entries) ⊎ ((x : ℕ) × n ≡ most * x)
filled_to given entries most pieces n less is = ⊎_elim
    (λ (whole : most * (pieces + 1) ≤ entries - given). inr (pieces + 1, omega (arith, is, whole)))
    (λ (rest : entries - given ≤ most * (pieces + 1)). inl (omega (arith, is, rest, less)))
    (lower (most * (pieces + 1)) (entries - given))

pub one_at_least : (given entries most pieces n : ℕ) → given < entries → 1 ≤ most → n ≡ min (most * (pieces + 1)) (entries - given) → 1 ≤ n
one_at_least given entries most pieces n less some is =
    let product : most * (pieces + 1) ≡ most * pieces + most = omega arith in
    omega (arith, product, less, some, is)

upto : (a b : ℕ) → (a ≤ b) ⊎ (suc b ≤ a)
upto a b = grind arith

-- as many as a block may have, or all that are left
pub count_of : (ahead given entries most : ℕ) → 1 ≤ most → given + ahead ≤ entries → (given < entries → 1 ≤ ahead) → (given + ahead ≡ entries) ⊎ ((x : ℕ) × ahead ≡ most * x) → min ahead most
    ≡ min most (entries - given)
count_of ahead given entries most some within more filled = ⊎_elim
    (λ (all : given + ahead ≡ entries). omega (arith, all))
    (λ (whole : (x : ℕ) × ahead ≡ most * x). multiple whole.0 whole.1)
    filled
  where
    multiple : (x : ℕ) → ahead ≡ most * x → min ahead most ≡ min most (entries - given)
    multiple zero is =
        let none : ahead ≡ 0 = omega (arith, is) in
        ⊎_elim (λ (at_end : entries ≤ given). omega (arith, none, at_end)) (λ (less : suc given ≤ entries). absurd (omega (arith, none, more (omega (arith, less))))) (upto entries given)
    multiple (suc y) is =
        let product : most * suc y ≡ most * y + most = omega arith in
        omega (arith, is, product, within)

-- ---- bytes taken
pub takes_exactly : (f n : ℕ) (old new : Option (ℕ → ℕ)) → Takes f n old new → TakesExactly f n old new
takes_exactly f n None new takes = takes
takes_exactly f n (Some old) new takes = (takes.0, takes.1, takes.2.here, takes.2.others)

-- what is ahead behind a block
pub rest_of : (most ahead k : ℕ) → k ≡ min ahead most → ((x : ℕ) × ahead ≡ most * x) → (x : ℕ) × ahead - k ≡ most * x
rest_of most ahead k is whole = behind whole.0 whole.1
  where
    behind : (x : ℕ) → ahead ≡ most * x → (z : ℕ) × ahead - k ≡ most * z
    behind zero all = (0, omega (arith, is, all))
    behind (suc y) all =
        let product : most * suc y ≡ most * y + most = omega arith in
        (y, omega (arith, product, is, all))
