-- One offer more is judged.
use Rattle.std.proofs.Common.{◌≡◌, ◌∙◌, ℕ, ◌+◌, ◌*◌, ◌%◌, ◌^◌, List, [], ◌∷◌, ◌++◌, length, map, refl, sym, ap, arith, append_assoc, length-append, zero-add, Bool, true, false, cond, Option}
use Rattle.std.specs.Prelude.{filter, count_by, zip}
use Rattle.std.proofs.lemmas.List.{map-append}
use Rattle.std.proofs.lemmas.Grind.{flat_map-append}
use Rattle.std.proofs.lemmas.List.Sums.{sum_by-append}
use Rattle.std.specs.List.{AllByRecursion, enumerate_from}
use Rattle.byteorder.specs.Endian.{little_bytes}
use Rattle.irl_offer.specs.Buckets.{bucket_of}
use Rattle.irl_offer.specs.Entries.{op_number}
use Rattle.irl_offer.specs.declared.offer.Rule.{Rule}
use Rattle.irl_offer.specs.declared.offer.Verdict.{Verdict}
use Rattle.irl_offer.specs.declared.receipt.Judged.{Judged}
use Rattle.irl_offer.specs.Tuple.{Tuple}
use Rattle.irl_model.specs.Book.{judged_as, is_unique, uniques_from}
use Rattle.irl_model.specs.Judging.{KeyMap, entered, judgements}
use Rattle.irl_model.proofs.JudgingLaws.{judged_on, judgements-judged_on}
use Rattle.irl_model.proofs.Merges.{uniques_from-append}
use Rattle.irl_offer.specs.declared.entry.Entry.{Entry}
use Rattle.irl_layout.specs.JudgedEntries.{verdict_number, known_value, judged_bytes, judged_entries, row, rows}
use Rattle.irl_layout.specs.Runs.{entry_of_offer, texts_of}
use Rattle.irl_bay.specs.Telling.{judged_with}
use Rattle.irl_layout.proofs.WordBytes.{low_word}

-- ---- the entries of judged offers
-- the offers of judged ones
abbrev pub offers_of : List Judged → List Tuple
offers_of ones = map (λ one. one.offer) ones

pub entries_both : (place : ℕ) (xs ys : List Judged) → judged_entries place (xs ++ ys) ≡ judged_entries place xs ++ judged_entries (place + length (texts_of (offers_of xs))) ys
entries_both place [] ys = ap (λ n. judged_entries n ys) (let e : place ≡ place + 0 = omega arith in e)
entries_both place (x ∷ xs) ys =
    let long = length-append x.offer.aux (texts_of (offers_of xs)) in
    let there : (place + length x.offer.aux) + length (texts_of (offers_of xs)) ≡ place + length (texts_of (offers_of (x ∷ xs))) = omega (arith, long) in
    ap (λ l. judged_bytes place x ++ l) (entries_both (place + length x.offer.aux) xs ys ∙ ap (λ n. judged_entries (place + length x.offer.aux) xs ++ judged_entries n ys) there)
    ∙ sym (append_assoc (judged_bytes place x) (judged_entries (place + length x.offer.aux) xs) (judged_entries (place + length (texts_of (offers_of (x ∷ xs)))) ys))

judged_offers_on : (buckets : ℕ) (rule : Rule) (keys : KeyMap) (offers : List Tuple) → offers_of (map (judged_as buckets) (judged_on rule keys offers)) ≡ offers
judged_offers_on buckets rule keys [] = refl
judged_offers_on buckets rule keys (o ∷ offers) = ap (λ l. o ∷ l) (judged_offers_on buckets rule (entered rule keys o) offers)

pub offers_back : (buckets : ℕ) (rule : Rule) (keys : KeyMap) (offers : List Tuple) → offers_of (map (judged_as buckets) (judgements rule keys offers)) ≡ offers
offers_back buckets rule keys offers = ap (λ l. offers_of (map (judged_as buckets) l)) (judgements-judged_on rule keys offers) ∙ judged_offers_on buckets rule keys offers

-- ---- the Unique ones
abbrev pub numbered : ℕ × Judged → ℕ × Tuple
numbered q = (q.0, q.1.offer)

cond_either : (b : Bool) (n : ℕ) (x : Judged) (xs : List (ℕ × Judged)) → length (map numbered (cond b ((n, x) ∷ xs) xs)) ≡ cond b 1 0 + length (map numbered xs)
cond_either true n x xs = omega arith
cond_either false n x xs = omega arith

uniques-cons : (n : ℕ) (x : Judged) (xs : List Judged) → length (uniques_from n (x ∷ xs)) ≡ cond (is_unique x.verdict) 1 0 + length (uniques_from (n + 1) xs)
uniques-cons n x xs = cond_either (is_unique x.verdict) n x (filter (λ p. is_unique p.1.verdict) (enumerate_from (n + 1) xs))

-- how many they are is the same from whichever number on
pub same_count : (n m : ℕ) (xs : List Judged) → length (uniques_from n xs) ≡ length (uniques_from m xs)
same_count n m [] = refl
same_count n m (x ∷ xs) = uniques-cons n x xs ∙ ap (λ k. cond (is_unique x.verdict) 1 0 + k) (same_count (n + 1) (m + 1) xs) ∙ sym (uniques-cons m x xs)

-- ---- a bucket's offers, by their entries
-- the places of texts count by their lowest 64 bits
row_low : (place bucket : ℕ) (entry : Entry) (verdict : Option Verdict) → row (place % 2 ^ 64) bucket entry verdict ≡ row place bucket entry verdict
row_low place bucket entry verdict = ap (placed_row bucket entry verdict) (low_word place)
  where
    placed_row : ℕ → Entry → Option Verdict → List ℕ → List ℕ
    placed_row bucket entry verdict at =
        bucket ∷ op_number entry.op ∷ verdict_number verdict ∷ 0 ∷ (little_bytes 4 entry.aux_len
        ++ (little_bytes 8 entry.key ++ (little_bytes 8 entry.value ++ (little_bytes 8 entry.from
        ++ (little_bytes 8 (known_value verdict) ++ at)))))

pub rows_low : (place bucket : ℕ) (entries : List Entry) (verdicts : List (Option Verdict)) → rows (place % 2 ^ 64) bucket entries verdicts ≡ rows place bucket entries verdicts
rows_low place bucket [] verdicts = refl
rows_low place bucket (entry ∷ entries) [] = refl
rows_low place bucket (entry ∷ entries) (verdict ∷ verdicts) =
    let low : (place % 2 ^ 64 + entry.aux_len) % 2 ^ 64 ≡ (place + entry.aux_len) % 2 ^ 64 = omega arith in
    let rest = sym (rows_low (place % 2 ^ 64 + entry.aux_len) bucket entries verdicts) ∙ ap (λ n. rows n bucket entries verdicts) low ∙ rows_low (place + entry.aux_len) bucket entries verdicts in
    ap (λ l. l ++ rows (place % 2 ^ 64 + entry.aux_len) bucket entries verdicts) (row_low place bucket entry verdict) ∙ ap (λ l. row place bucket entry verdict ++ l) rest

-- they are those of the judged offers
pub rows_are : (place bucket buckets : ℕ) (offers : List Tuple) (verdicts : List (Option Verdict)) → length verdicts ≡ length offers
    → AllByRecursion (λ (o : Tuple). bucket_of buckets o.key ≡ bucket) offers
    → rows place bucket (map entry_of_offer offers) verdicts ≡ judged_entries place (judged_with buckets offers verdicts)
rows_are place bucket buckets [] verdicts size here = refl
rows_are place bucket buckets (o ∷ offers) [] size here = absurd (omega arith)
rows_are place bucket buckets (o ∷ offers) (verdict ∷ verdicts) size here =
    let rest = rows_are (place + length o.aux) bucket buckets offers verdicts (omega (arith, size)) here.1 in
    ap (λ l. row place bucket (entry_of_offer o) verdict ++ l) rest ∙ ap (λ n. judged_bytes place (record { bucket = n; offer = o; verdict = verdict })
    ++ judged_entries (place + length o.aux) (judged_with buckets offers verdicts)) (sym here.0)

-- ---- more offers
zip_both : (xs ys : List Tuple) (vs ws : List (Option Verdict)) → length vs ≡ length xs → zip (xs ++ ys) (vs ++ ws) ≡ zip xs vs ++ zip ys ws
zip_both [] ys [] ws size = refl
zip_both [] ys (v ∷ vs) ws size = absurd (omega arith)
zip_both (x ∷ xs) ys [] ws size = absurd (omega arith)
zip_both (x ∷ xs) ys (v ∷ vs) ws size = ap (λ l. (x, v) ∷ l) (zip_both xs ys vs ws (omega (arith, size)))

pub with_both : (buckets : ℕ) (xs ys : List Tuple) (vs ws : List (Option Verdict)) → length vs ≡ length xs
    → judged_with buckets (xs ++ ys) (vs ++ ws) ≡ judged_with buckets xs vs ++ judged_with buckets ys ws
with_both buckets xs ys vs ws size = ap (map (judged_as buckets)) (zip_both xs ys vs ws size) ∙ map-append (judged_as buckets) (zip xs vs) (zip ys ws)

with_offers : (buckets : ℕ) (xs : List Tuple) (vs : List (Option Verdict)) → length vs ≡ length xs → offers_of (judged_with buckets xs vs) ≡ xs
with_offers buckets [] vs size = refl
with_offers buckets (x ∷ xs) [] size = absurd (omega arith)
with_offers buckets (x ∷ xs) (v ∷ vs) size = ap (λ l. x ∷ l) (with_offers buckets xs vs (omega (arith, size)))

count_cons : (v : Option Verdict) (vs : List (Option Verdict)) → count_by is_unique (v ∷ vs) ≡ cond (is_unique v) 1 0 + count_by is_unique vs
count_cons v vs =
    let e = sum_by-append (λ (x : Option Verdict). cond {A = ℕ} (is_unique x) 1 0) (v ∷ []) vs in
    e ∙ ap (λ (k : ℕ). k + count_by is_unique vs) (zero-add (cond (is_unique v) 1 0))

pub with_uniques : (n buckets : ℕ) (xs : List Tuple) (vs : List (Option Verdict)) → length vs ≡ length xs → length (uniques_from n (judged_with buckets xs vs)) ≡ count_by is_unique vs
with_uniques n buckets [] [] size = refl
with_uniques n buckets [] (v ∷ vs) size = absurd (omega arith)
with_uniques n buckets (x ∷ xs) [] size = absurd (omega arith)
with_uniques n buckets (x ∷ xs) (v ∷ vs) size =
    uniques-cons n (judged_as buckets (x, v)) (judged_with buckets xs vs) ∙ ap (λ k. cond (is_unique v) 1 0 + k) (with_uniques (n + 1) buckets xs vs (omega (arith, size))) ∙ sym (count_cons v vs)

-- their entries stand behind the others, and their texts
pub more_entries : (place bucket buckets : ℕ) (offers news : List Tuple) (before verdicts : List (Option Verdict)) → length before ≡ length offers → length verdicts ≡ length news
    → AllByRecursion (λ (o : Tuple). bucket_of buckets o.key ≡ bucket) news
    → judged_entries place (judged_with buckets (offers ++ news) (before ++ verdicts)) ≡ judged_entries place (judged_with buckets offers before)
    ++ rows ((place + length (texts_of offers)) % 2 ^ 64) bucket (map entry_of_offer news) verdicts
more_entries place bucket buckets offers news before verdicts size more here =
    let at = place + length (texts_of offers) in
    let there : place + length (texts_of (offers_of (judged_with buckets offers before))) ≡ at = ap (λ (l : List Tuple). place + length (texts_of l)) (with_offers buckets offers before size) in
    ap (judged_entries place) (with_both buckets offers news before verdicts size)
    ∙ entries_both place (judged_with buckets offers before) (judged_with buckets news verdicts)
    ∙ ap (λ n. judged_entries place (judged_with buckets offers before) ++ judged_entries n (judged_with buckets news verdicts)) there
    ∙ ap (λ l. judged_entries place (judged_with buckets offers before) ++ l) (sym (rows_are at bucket buckets news verdicts more here) ∙ sym (rows_low at bucket (map entry_of_offer news) verdicts))

pub more_texts : (offers news : List Tuple) → texts_of (offers ++ news) ≡ texts_of offers ++ texts_of news
more_texts offers news = flat_map-append (λ (o : Tuple). o.aux) offers news

pub more_uniques : (buckets : ℕ) (offers news : List Tuple) (before verdicts : List (Option Verdict)) → length before ≡ length offers → length verdicts ≡ length news
    → length (uniques_from 0 (judged_with buckets (offers ++ news) (before ++ verdicts))) ≡ length (uniques_from 0 (judged_with buckets offers before)) + count_by is_unique verdicts
more_uniques buckets offers news before verdicts size more =
    let front = judged_with buckets offers before in
    let back = judged_with buckets news verdicts in
    ap (λ l. length (uniques_from 0 l)) (with_both buckets offers news before verdicts size)
    ∙ ap length (uniques_from-append 0 front back) ∙ length-append (uniques_from 0 front) (uniques_from (0 + length front) back)
    ∙ ap (λ k. length (uniques_from 0 front) + k) (with_uniques (0 + length front) buckets news verdicts more)

-- how long the entries are
pub length-entries : (place buckets : ℕ) (offers : List Tuple) (verdicts : List (Option Verdict)) → length verdicts ≡ length offers
    → length (judged_entries place (judged_with buckets offers verdicts)) ≡ 48 * length offers
length-entries place buckets [] verdicts size = refl
length-entries place buckets (o ∷ offers) [] size = absurd (omega arith)
length-entries place buckets (o ∷ offers) (v ∷ verdicts) size =
    length-append (judged_bytes place (judged_as buckets (o, v))) (judged_entries (place + length o.aux) (judged_with buckets offers verdicts))
    ∙ (let ih = length-entries (place + length o.aux) buckets offers verdicts (omega (arith, size)) in omega (arith, ih))
