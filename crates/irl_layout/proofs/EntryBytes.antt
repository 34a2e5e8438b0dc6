-- The bytes of entries: which entry bytes are, and how entries stand one behind the other.
use Rattle.std.proofs.Common.{◌≡◌, ◌∙◌, ℕ, suc, zero, ◌+◌, ◌*◌, ◌^◌, ◌<◌, ◌≤◌, Bool, true, false, nat_lt, nat_eq, if◌then◌else◌, List, [], ◌∷◌, ◌++◌, length, take, drop, get_or, Option, Some, None, refl, sym, ap, subst, arith, append_assoc, append-nil, length-append, length-drop, length-take, length-take-le, take-append-drop, ◌⊎◌, ⊎_elim}
use Rattle.std.proofs.lemmas.List.{drop-drop, drop_all}
use Rattle.std.proofs.lemmas.List.Sums.{sum_by-append, sum_by-cons}
use Rattle.std.proofs.lemmas.Bool.{ltb-false, le-ltb, eqb-true}
use Rattle.std.proofs.lemmas.Nat.{le_bytes_2, le_bytes_8}
use Rattle.std.proofs.Math.Seq.{take-append_seam, drop-append_seam}
use Rattle.std.proofs.lemmas.Grind.{flat_map-append}
use Rattle.std.proofs.lemmas.List.Concat.{flat_map-cons}
use Rattle.std.specs.List.{AllByRecursion}
use Rattle.std.specs.Option.{option_map}
use Rattle.byteorder.specs.Endian.{little_bytes, little_number}
use Rattle.byteorder.specs.Numbers.{little_from-take, little_from-lt, little_number-reads_back}
use Rattle.irl_offer.specs.Entries.{entry_bytes, entry_of, op_number, op_of}
use Rattle.irl_base.specs.Limits.{max_text}
use Rattle.irl_offer.specs.declared.entry.Entry.{Entry}
use Rattle.irl_offer.specs.declared.offer.Op.{Op}
use Rattle.irl_offer.specs.declared.offer.Op.TheVariants.{Check, Update, Both}
use Rattle.irl_layout.specs.EntryRuns.{IsEntryOf, entries_bytes, text_length}

-- ---- numbers
-- each byte of a list is one
abbrev pub AreBytes : List ℕ → Type 0
AreBytes bs = (i : ℕ) → get_or bs i 0 < 256

get-drop : (n i : ℕ) (bs : List ℕ) → get_or (drop n bs) i 0 ≡ get_or bs (n + i) 0
get-drop zero i bs = let e : i ≡ 0 + i = omega arith in ap (λ (k : ℕ). get_or bs k 0) e
get-drop (suc n) i [] = refl
get-drop (suc n) i (b ∷ bs) = let e : suc (n + i) ≡ suc n + i = omega arith in get-drop n i bs ∙ ap (λ (k : ℕ). get_or (b ∷ bs) k 0) e

get-take : (n i : ℕ) (bs : List ℕ) → i < n → get_or (take n bs) i 0 ≡ get_or bs i 0
get-take zero i bs below = absurd (omega arith)
get-take (suc n) i [] below = refl
get-take (suc n) zero (b ∷ bs) below = refl
get-take (suc n) (suc i) (b ∷ bs) below = get-take n i bs (omega arith)

get-past : (i : ℕ) (bs : List ℕ) → length bs ≤ i → get_or bs i 0 ≡ 0
get-past i [] past = refl
get-past zero (b ∷ bs) past = absurd (omega arith)
get-past (suc i) (b ∷ bs) past = get-past i bs (omega arith)

pub bytes-drop : (n : ℕ) (bs : List ℕ) → AreBytes bs → AreBytes (drop n bs)
bytes-drop n bs small = λ i. rw (get-drop n i bs) (small (n + i))

pub below_or_not : (i n : ℕ) → (i < n) ⊎ (n ≤ i)
below_or_not i n = grind arith

bytes-take : (n : ℕ) (bs : List ℕ) → AreBytes bs → AreBytes (take n bs)
bytes-take n bs small = λ i. ⊎_elim
    (λ (below : i < n). rw (get-take n i bs below) (small i))
    (λ (past : n ≤ i). let none : get_or (take n bs) i 0 ≡ 0 = get-past i (take n bs) (omega (arith, length-take n bs)) in omega (arith, none))
    (below_or_not i n)

-- two bytes, and eight, are those of their number
pub two_bytes : (bs : List ℕ) → 2 ≤ length bs → AreBytes bs → little_bytes 2 (little_number 2 bs) ≡ take 2 bs
two_bytes bs long small =
    let part = take 2 bs in
    ap (little_bytes 2) (sym (little_from-take 0 2 2 bs (omega arith))) ∙ le_bytes_2 part (little_number 2 part) (length-take-le 2 bs long) (bytes-take 2 bs small) (omega arith)

pub eight_bytes : (bs : List ℕ) → 8 ≤ length bs → AreBytes bs → little_bytes 8 (little_number 8 bs) ≡ take 8 bs
eight_bytes bs long small =
    let part = take 8 bs in
    ap (little_bytes 8) (sym (little_from-take 0 8 8 bs (omega arith))) ∙ le_bytes_8 part (little_number 8 part) (length-take-le 8 bs long) (bytes-take 8 bs small) (omega arith)

-- ---- an entry
-- an entry whose numbers and text have their room
pub record HasRoom (entry : Entry) : Type 0 where
  pub key : entry.key < 2 ^ 64
  pub value : entry.value < 2 ^ 64
  pub from : entry.from < 2 ^ 64
  pub aux : entry.aux_len ≤ max_text

pub length-entry : (entry : Entry) → length (entry_bytes entry) ≡ 27
length-entry entry = refl

op_read : (op : Op) → op_of (op_number op) ≡ Some op
op_read Check = refl
op_read Update = refl
op_read Both = refl

op_case : (a b c : Bool) (n : ℕ) (op : Op) → (a ≡ true → n ≡ 0) → (b ≡ true → n ≡ 1) → (c ≡ true → n ≡ 2)
    → (if a then Some Check else (if b then Some Update else (if c then Some Both else None))) ≡ Some op → op_number op ≡ n
op_case true b c n op for_a for_b for_c is = let e : op ≡ Check = cc in ap op_number e ∙ sym (for_a refl)
op_case false true c n op for_a for_b for_c is = let e : op ≡ Update = cc in ap op_number e ∙ sym (for_b refl)
op_case false false true n op for_a for_b for_c is = let e : op ≡ Both = cc in ap op_number e ∙ sym (for_c refl)
op_case false false false n op for_a for_b for_c is = cc

op_written : (n : ℕ) (op : Op) → op_of n ≡ Some op → op_number op ≡ n
op_written n op is = op_case (nat_eq n 0) (nat_eq n 1) (nat_eq n 2) n op (eqb-true n 0) (eqb-true n 1) (eqb-true n 2) is

-- the entry that bytes are read as, with an operation
abbrev read_as : List ℕ → Op → Entry
read_as bs op = record { op = op; aux_len = little_number 2 (drop 1 bs); key = little_number 8 (drop 3 bs); value = little_number 8 (drop 11 bs); from = little_number 8 (drop 19 bs) }

-- where a test fails and there is an operation, there is an entry
both_given : (t : Bool) (o : Option Op) (f : Op → Entry) (entry : Entry) → (if t then None else option_map f o) ≡ Some entry → (t ≡ false) × ((op : Op) × (o ≡ Some op) × (f op ≡ entry))
both_given true o f entry is = cc
both_given false None f entry is = cc
both_given false (Some op) f entry is = (refl, (op, refl, cc))

-- bytes, part by part
pub next_part : (n at : ℕ) (bs : List ℕ) → drop at bs ≡ take n (drop at bs) ++ drop (at + n) bs
next_part n at bs = sym (take-append-drop n (drop at bs)) ∙ ap (λ (l : List ℕ). take n (drop at bs) ++ l) (drop-drop n at bs)

pub first_byte : (bs : List ℕ) → 1 ≤ length bs → bs ≡ get_or bs 0 0 ∷ drop 1 bs
first_byte [] some = absurd (omega arith)
first_byte (b ∷ bs) some = refl

-- five parts
five_parts : (m n : ℕ) (a b c d e f g h : List ℕ) → m ≡ n → a ≡ e → b ≡ f → c ≡ g → d ≡ h → m ∷ (a ++ (b ++ (c ++ d))) ≡ n ∷ (e ++ (f ++ (g ++ h)))
five_parts m n a b c d e f g h p q r s t = cc

-- bytes that are an entry are its bytes
pub entry_written : (bs : List ℕ) (entry : Entry) → length bs ≡ 27 → AreBytes bs → entry_of bs ≡ Some entry → (bs ≡ entry_bytes entry) × HasRoom entry
entry_written bs entry long small is =
    let made : Op → Entry = read_as bs in
    let given = both_given (nat_lt max_text (little_number 2 (drop 1 bs))) (op_of (get_or bs 0 0)) made entry is in
    let op = given.1.0 in
    let fits = ltb-false max_text (little_number 2 (drop 1 bs)) given.0 in
    let last : drop 19 bs ≡ take 8 (drop 19 bs) = next_part 8 19 bs ∙ ap (λ (l : List ℕ). take 8 (drop 19 bs) ++ l) (drop_all 27 bs (omega (arith, long))) ∙ append-nil (take 8 (drop 19 bs)) in
    let front : bs ≡ get_or bs 0 0 ∷ (take 2 (drop 1 bs) ++ (take 8 (drop 3 bs) ++ (take 8 (drop 11 bs) ++ take 8 (drop 19 bs)))) =
    first_byte bs (omega (arith, long))
    ∙ ap (λ (l : List ℕ). get_or bs 0 0 ∷ l) (next_part 2 1 bs
    ∙ ap (λ (l : List ℕ). take 2 (drop 1 bs) ++ l) (next_part 8 3 bs
    ∙ ap (λ (l : List ℕ). take 8 (drop 3 bs) ++ l) (next_part 8 11 bs
    ∙ ap (λ (l : List ℕ). take 8 (drop 11 bs) ++ l) last))) in
    let bytes : entry_bytes (made op) ≡ get_or bs 0 0 ∷ (take 2 (drop 1 bs) ++ (take 8 (drop 3 bs) ++ (take 8 (drop 11 bs) ++ take 8 (drop 19 bs)))) =
    five_parts (op_number op) (get_or bs 0 0) (little_bytes 2 (little_number 2 (drop 1 bs))) (little_bytes 8 (little_number 8 (drop 3 bs))) (little_bytes 8 (little_number 8 (drop 11 bs)))
    (little_bytes 8 (little_number 8 (drop 19 bs)))
    (take 2 (drop 1 bs)) (take 8 (drop 3 bs)) (take 8 (drop 11 bs)) (take 8 (drop 19 bs))
    (op_written (get_or bs 0 0) op given.1.1)
    (two_bytes (drop 1 bs) (omega (arith, long, length-drop 1 bs)) (bytes-drop 1 bs small))
    (eight_bytes (drop 3 bs) (omega (arith, long, length-drop 3 bs)) (bytes-drop 3 bs small))
    (eight_bytes (drop 11 bs) (omega (arith, long, length-drop 11 bs)) (bytes-drop 11 bs small))
    (eight_bytes (drop 19 bs) (omega (arith, long, length-drop 19 bs)) (bytes-drop 19 bs small)) in
    subst (λ (e : Entry). (bs ≡ entry_bytes e) × HasRoom e) given.1.2 (
      front ∙ sym bytes,
      record {
        key = little_from-lt 0 8 (drop 3 bs) (bytes-drop 3 bs small);
        value = little_from-lt 0 8 (drop 11 bs) (bytes-drop 11 bs small);
        from = little_from-lt 0 8 (drop 19 bs) (bytes-drop 19 bs small);
        aux = fits;
      },
    )

-- where a test fails and there is an operation, there is an entry
made_of : (t : Bool) (o : Option Op) (op : Op) (f : Op → Entry) → t ≡ false → o ≡ Some op → (if t then None else option_map f o) ≡ Some (f op)
made_of t o op f fails some = rw (fails, some) refl

same_entry : (op : Op) (a k v r : ℕ) (entry : Entry) → op ≡ entry.op → a ≡ entry.aux_len → k ≡ entry.key → v ≡ entry.value → r ≡ entry.from
    → record { op = op; aux_len = a; key = k; value = v; from = r } ≡ entry
same_entry op a k v r entry p q s t u = rw (p, q, s, t, u) refl

-- an entry is read back
pub entry_read : (entry : Entry) → HasRoom entry → entry_of (entry_bytes entry) ≡ Some entry
entry_read entry room =
    let bs = entry_bytes entry in
    let behind_aux = little_bytes 8 entry.key ++ (little_bytes 8 entry.value ++ little_bytes 8 entry.from) in
    let aux : little_number 2 (drop 1 bs) ≡ entry.aux_len = little_number-reads_back 2 entry.aux_len behind_aux (omega (arith, room.aux)) in
    let key : little_number 8 (drop 3 bs) ≡ entry.key = little_number-reads_back 8 entry.key (little_bytes 8 entry.value ++ little_bytes 8 entry.from) room.key in
    let value : little_number 8 (drop 11 bs) ≡ entry.value = little_number-reads_back 8 entry.value (little_bytes 8 entry.from) room.value in
    let from : little_number 8 (drop 19 bs) ≡ entry.from = little_number-reads_back 8 entry.from [] room.from in
    let made : Op → Entry = read_as bs in
    made_of (nat_lt max_text (little_number 2 (drop 1 bs))) (op_of (op_number entry.op)) entry.op made (le-ltb max_text (little_number 2 (drop 1 bs)) (omega (arith, aux, room.aux))) (op_read entry.op)
    ∙ ap (λ (e : Entry). Some e) (same_entry entry.op (little_number 2 (drop 1 bs)) (little_number 8 (drop 3 bs)) (little_number 8 (drop 11 bs)) (little_number 8 (drop 19 bs)) entry refl aux key value
    from)

-- ---- entries, one behind the other
pub entries-cons : (entry : Entry) (run : List Entry) → entries_bytes (entry ∷ run) ≡ entry_bytes entry ++ entries_bytes run
entries-cons entry run = flat_map-cons entry_bytes entry run

pub entries-append : (xs ys : List Entry) → entries_bytes (xs ++ ys) ≡ entries_bytes xs ++ entries_bytes ys
entries-append xs ys = flat_map-append entry_bytes xs ys

pub length-entries : (run : List Entry) → length (entries_bytes run) ≡ 27 * length run
length-entries [] = refl
length-entries (entry ∷ run) = ap length (entries-cons entry run) ∙ omega (arith, length-entries run, length-append (entry_bytes entry) (entries_bytes run), length-entry entry)

-- what stands behind some entries of a run are the others
pub behind_entries : (taken run : List Entry) (rest : List ℕ) → entries_bytes taken ++ rest ≡ entries_bytes run → rest ≡ entries_bytes (drop (length taken) run)
behind_entries [] run rest is = is
behind_entries (entry ∷ taken) [] rest is =
    let size : length (entries_bytes (entry ∷ taken)) ≡ 27 * length (entry ∷ taken) = length-entries (entry ∷ taken) in
    absurd (omega (arith, size, ap length is, length-append (entries_bytes (entry ∷ taken)) rest))
behind_entries (entry ∷ taken) (other ∷ run) rest is =
    let apart : entry_bytes entry ++ (entries_bytes taken ++ rest) ≡ entry_bytes other ++ entries_bytes run =
    sym (append_assoc (entry_bytes entry) (entries_bytes taken) rest) ∙ ap (λ (l : List ℕ). l ++ rest) (sym (entries-cons entry taken)) ∙ is ∙ entries-cons other run in
    behind_entries taken run rest (sym (drop-append_seam (entry_bytes entry) (entries_bytes taken ++ rest)) ∙ ap (drop 27) apart ∙ drop-append_seam (entry_bytes other) (entries_bytes run))

-- the bytes of texts of entries, and more of them
pub text_length-append : (xs ys : List Entry) → text_length (xs ++ ys) ≡ text_length xs + text_length ys
text_length-append xs ys = sum_by-append (λ (entry : Entry). entry.aux_len) xs ys

pub text_length-cons : (x : Entry) (xs : List Entry) → text_length (x ∷ xs) ≡ x.aux_len + text_length xs
text_length-cons x xs = sum_by-cons (λ (entry : Entry). entry.aux_len) x xs

-- ---- a run that is read entry by entry
-- the first bytes are entries of a bucket
pub record AreRead (buckets b : ℕ) (bytes rest : List ℕ) (taken : List Entry) : Type 0 where
  pub each : AllByRecursion (IsEntryOf buckets b) taken
  pub are : bytes ≡ entries_bytes taken ++ rest

pub read_none : (buckets b : ℕ) (bytes : List ℕ) → AreRead buckets b bytes bytes []
read_none buckets b bytes = record { each = tt; are = refl }

all-more : (P : Entry → Type 0) (xs : List Entry) (x : Entry) → AllByRecursion P xs → P x → AllByRecursion P (xs ++ x ∷ [])
all-more P [] x each here = (here, tt)
all-more P (y ∷ xs) x each here = (each.0, all-more P xs x each.1 here)

pub all-drop : (P : Entry → Type 0) (n : ℕ) (xs : List Entry) → AllByRecursion P xs → AllByRecursion P (drop n xs)
all-drop P zero xs each = each
all-drop P (suc n) [] each = tt
all-drop P (suc n) (x ∷ xs) each = all-drop P n xs each.1

-- one entry more
pub read_more : (buckets b : ℕ) (bytes rest first behind : List ℕ) (taken : List Entry) (entry : Entry) → AreRead buckets b bytes rest taken → IsEntryOf buckets b entry → first ≡ entry_bytes entry
    → first ≡ take 27 rest → behind ≡ drop 27 rest → AreRead buckets b bytes behind (taken ++ entry ∷ [])
read_more buckets b bytes rest first behind taken entry so_far is bytes_are front back = record {
  each = all-more (IsEntryOf buckets b) taken entry so_far.each is;
  are = so_far.are
      ∙ ap (λ (l : List ℕ). entries_bytes taken ++ l) (sym (take-append-drop 27 rest) ∙ ap (λ (l : List ℕ). l ++ drop 27 rest) (sym front ∙ bytes_are)
      ∙ ap (λ (l : List ℕ). entry_bytes entry ++ l) (sym back))
      ∙ sym (append_assoc (entries_bytes taken) (entry_bytes entry) behind)
      ∙ ap (λ (l : List ℕ). l ++ behind) (ap (λ (l : List ℕ). entries_bytes taken ++ l) (sym (append-nil (entry_bytes entry)) ∙ sym (entries-cons entry []))
      ∙ sym (entries-append taken (entry ∷ [])));
}

-- where the first bytes are no entry, the whole is no run
none_first : (buckets b : ℕ) (rest first : List ℕ) → 27 ≤ length rest → first ≡ take 27 rest → ((entry : Entry) → IsEntryOf buckets b entry → first ≡ entry_bytes entry → ⊥)
    → (run : List Entry) → AllByRecursion (IsEntryOf buckets b) run → rest ≡ entries_bytes run → ⊥
none_first buckets b rest first long front none [] each is = omega (arith, long, ap length is)
none_first buckets b rest first long front none (entry ∷ run) each is =
    none entry each.0 (front ∙ ap (take 27) (is ∙ entries-cons entry run) ∙ take-append_seam (entry_bytes entry) (entries_bytes run))

-- where bytes behind are no entry of the bucket, the whole is no run
pub none_there : (buckets b : ℕ) (bytes rest first : List ℕ) (taken : List Entry) → AreRead buckets b bytes rest taken → 27 ≤ length rest → first ≡ take 27 rest
    → ((entry : Entry) → IsEntryOf buckets b entry → first ≡ entry_bytes entry → ⊥)
    → (run : List Entry) → AllByRecursion (IsEntryOf buckets b) run → bytes ≡ entries_bytes run → ⊥
none_there buckets b bytes rest first taken so_far long front none run each is =
    none_first buckets b rest first long front none (drop (length taken) run) (all-drop (IsEntryOf buckets b) (length taken) run each)
    (behind_entries taken run rest (sym so_far.are ∙ is))

-- and where some bytes are left that are too few
pub too_few : (buckets b : ℕ) (bytes rest : List ℕ) (taken : List Entry) → AreRead buckets b bytes rest taken → 1 ≤ length rest → length rest < 27 → (run : List Entry) → bytes ≡ entries_bytes run → ⊥
too_few buckets b bytes rest taken so_far some few run is =
    let behind = behind_entries taken run rest (sym so_far.are ∙ is) in
    omega (arith, some, few, ap length behind, length-entries (drop (length taken) run))

-- ---- entries that are known
pub room_of : (buckets b : ℕ) (entry : Entry) → IsEntryOf buckets b entry → HasRoom entry
room_of buckets b entry is = record { key = is.key; value = is.value; from = is.from; aux = is.aux }

pub each_room : (buckets b : ℕ) (run : List Entry) → AllByRecursion (IsEntryOf buckets b) run → AllByRecursion HasRoom run
each_room buckets b [] each = tt
each_room buckets b (entry ∷ run) each = (room_of buckets b entry each.0, each_room buckets b run each.1)

same_entry_bytes : (x y : Entry) (xs ys : List ℕ) → HasRoom x → HasRoom y → entry_bytes x ++ xs ≡ entry_bytes y ++ ys → (x ≡ y) × (xs ≡ ys)
same_entry_bytes x y xs ys is_x is_y same =
    let front : entry_bytes x ≡ entry_bytes y = sym (take-append_seam (entry_bytes x) xs) ∙ ap (take 27) same ∙ take-append_seam (entry_bytes y) ys in
    let read : Some x ≡ Some y = sym (entry_read x is_x) ∙ ap entry_of front ∙ entry_read y is_y in
    (cc, sym (drop-append_seam (entry_bytes x) xs) ∙ ap (drop 27) same ∙ drop-append_seam (entry_bytes y) ys)

-- runs of the same bytes are the same
pub same_entries : (xs ys : List Entry) → AllByRecursion HasRoom xs → AllByRecursion HasRoom ys → entries_bytes xs ≡ entries_bytes ys → xs ≡ ys
same_entries [] [] each_x each_y same = refl
same_entries [] (y ∷ ys) each_x each_y same = absurd (omega (arith, ap length same, length-entries (y ∷ ys)))
same_entries (x ∷ xs) [] each_x each_y same = absurd (omega (arith, ap length same, length-entries (x ∷ xs)))
same_entries (x ∷ xs) (y ∷ ys) each_x each_y same =
    let parts = same_entry_bytes x y (entries_bytes xs) (entries_bytes ys) each_x.0 each_y.0 (sym (entries-cons x xs) ∙ same ∙ entries-cons y ys) in
    let behind : xs ≡ ys = same_entries xs ys each_x.1 each_y.1 parts.1 in
    let first : x ≡ y = parts.0 in
    cc
