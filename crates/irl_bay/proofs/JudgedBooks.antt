-- The judged offers of a book: their numbers have their room, and their entries and texts give them back.
use Rattle.std.proofs.Common.{◌≡◌, ◌∙◌, ℕ, zero, suc, ◌+◌, ◌-◌, ◌*◌, ◌^◌, ◌<◌, ◌≤◌, Bool, true, false, cond, List, [], ◌∷◌, ◌++◌, map, length, take, drop, Option, None, Some, refl, sym, ap, subst, arith, length-append, take-append-drop}
use Rattle.std.specs.Prelude.{IfSome, slice_index_or}
use Rattle.std.proofs.Math.Nat.{mul-le-mul_left}
use Rattle.std.proofs.Math.Seq.{take-append-add, drop-append-add}
use Rattle.std.proofs.lemmas.Bool.Decides.{nat_tests}
use Rattle.std.proofs.lemmas.Grind.{flat_map-append}
use Rattle.std.proofs.lemmas.List.{drop_at, take_at}
use Rattle.std.proofs.lemmas.List.Folds.{flat_map-map}
use Rattle.std.specs.List.{flat_map, AllByRecursion}
use Rattle.std.specs.Ordering.{nat_cmp, eq_by_cmp}
use Rattle.std.specs.Cmp.{nat_cmp_total}
use Rattle.std.specs.FinMap.{empty, get, insert, get-empty, get-insert}
use Rattle.irl_offer.specs.declared.offer.Op.{Op}
use Rattle.irl_offer.specs.declared.offer.Op.TheVariants.{Check, Update, Both}
use Rattle.irl_offer.specs.declared.offer.Rule.{Rule}
use Rattle.irl_offer.specs.declared.offer.Rule.TheVariants.{Keep, Replace, Add}
use Rattle.irl_offer.specs.declared.offer.Verdict.{Verdict}
use Rattle.irl_offer.specs.declared.receipt.Judged.{Judged}
use Rattle.irl_offer.specs.Buckets.{IsBucketCount, bucket_of}
use Rattle.irl_offer.specs.Tuple.{Tuple}
use Rattle.irl_model.specs.Judging.{KeyMap, enters, combined, entered, answer}
use Rattle.irl_model.specs.Book.{Book, IsBook, stretch, stretches, judged, judged_as, judged_offers}
use Rattle.irl_model.proofs.JudgingLaws.{judged_on, judgements-judged_on}
use Rattle.irl_layout.specs.declared.judged_entry.JudgedEntry.{JudgedEntry}
use Rattle.irl_bay.specs.Drum.{Drum}
use Rattle.irl_layout.specs.JudgedEntries.{entry_spelling, entry_at, judged_bytes, judged_entries, known_value, IsJudgedEntry, with_text, with_texts, texts_length, first_place}
use Rattle.irl_bay.specs.JudgedSpoilt.{FitsBehind, FitEach}
use Rattle.irl_layout.specs.Runs.{IsOffer, texts_of}
use Rattle.irl_layout.proofs.Spellings.{spelling_injective}
use Rattle.irl_bay.proofs.JudgedReading.{texts_length-cons, length-spellings}

-- ---- what holds of each of some offers holds of those that are judged
module _ {X : Type 0} (P : X → Type 0) where
  pub each_append : (xs ys : List X) → AllByRecursion P xs → AllByRecursion P ys → AllByRecursion P (xs ++ ys)
  each_append [] ys a b = b
  each_append (x ∷ xs) ys a b = (a.0, each_append xs ys a.1 b)

  pub each_take : (n : ℕ) (xs : List X) → AllByRecursion P xs → AllByRecursion P (take n xs)
  each_take zero xs a = tt
  each_take (suc n) [] a = tt
  each_take (suc n) (x ∷ xs) a = (a.0, each_take n xs a.1)

  pub each_drop : (n : ℕ) (xs : List X) → AllByRecursion P xs → AllByRecursion P (drop n xs)
  each_drop zero xs a = a
  each_drop (suc n) [] a = tt
  each_drop (suc n) (x ∷ xs) a = each_drop n xs a.1

module _ (P : Tuple → Type 0) where
  each_stretch : (firsts froms tos : List ℕ) (lists : List (List Tuple)) → AllByRecursion (AllByRecursion P) lists → AllByRecursion P (stretch firsts froms tos lists)
  each_stretch [] froms tos lists each = tt
  each_stretch (first ∷ firsts) [] tos lists each = tt
  each_stretch (first ∷ firsts) (from ∷ froms) [] lists each = tt
  each_stretch (first ∷ firsts) (from ∷ froms) (to ∷ tos) [] each = tt
  each_stretch (first ∷ firsts) (from ∷ froms) (to ∷ tos) (list ∷ lists) each =
      each_append P (drop (from - first) (take (to - first) list)) (stretch firsts froms tos lists) (each_drop P (from - first) (take (to - first) list) (each_take P (to - first) list each.0))
      (each_stretch firsts froms tos lists each.1)

  each_stretches : (firsts from : List ℕ) (cuts : List (List ℕ)) (lists : List (List Tuple)) → AllByRecursion (AllByRecursion P) lists → AllByRecursion P (stretches firsts from cuts lists)
  each_stretches firsts from [] lists each = tt
  each_stretches firsts from (cut ∷ cuts) lists each =
      each_append P (stretch firsts from cut lists) (stretches firsts cut cuts lists) (each_stretch firsts from cut lists each) (each_stretches firsts cut cuts lists each)

  each_list : (lists : List (List Tuple)) → ((b : ℕ) → b < length lists → AllByRecursion P (slice_index_or lists b [])) → AllByRecursion (AllByRecursion P) lists
  each_list [] each = tt
  each_list (list ∷ lists) each = (each 0 (omega arith), each_list lists (λ b lt. each (suc b) (omega arith)))

  pub each_judged : (book : Book) → IsBook book → ((b : ℕ) → b < book.buckets → AllByRecursion P (slice_index_or book.lists b [])) → AllByRecursion P (judged_offers book)
  each_judged book is each = each_stretches book.firsts book.firsts book.cuts book.lists (each_list book.lists (λ b lt. each b (omega (arith, lt, is.lists))))

-- ---- values stay below 2 ^ 64
-- a value that is known has its room
abbrev pub IsWord : Option ℕ → Type 0
IsWord known = IfSome known (λ value. value < 2 ^ 64)

abbrev pub HasWords : KeyMap → Type 0
HasWords keys = (key : ℕ) → IsWord (get keys key)

pub no_words : HasWords empty
no_words key = rw (get-empty nat_cmp key) tt

word_combined : (rule : Rule) (known : Option ℕ) (new : ℕ) → IsWord known → new < 2 ^ 64 → combined rule known new < 2 ^ 64
word_combined rule None new old fits = fits
word_combined Keep (Some value) new old fits = old
word_combined Replace (Some value) new old fits = fits
word_combined Add (Some value) new old fits = omega arith

words_inserted : (keys : KeyMap) (key value : ℕ) → HasWords keys → value < 2 ^ 64 → HasWords (insert keys key value)
words_inserted keys key value words fits q =
    let one : (b : Bool) → IsWord (cond b (Some value) (get keys q)) = λ b. elim b as (λ v. IsWord (cond v (Some value) (get keys q))) [ true ↦ fits | false ↦ words q ] in
    subst IsWord (sym (get-insert nat_cmp_total keys key value q)) (one (eq_by_cmp nat_cmp q key))

words_entered : (rule : Rule) (seen : KeyMap) (offer : Tuple) → HasWords seen → offer.value < 2 ^ 64 → HasWords (entered rule seen offer)
words_entered rule seen offer words fits =
    let new = combined rule (get seen offer.key) offer.value in
    elim (enters offer.op) as (λ b. HasWords (cond b (insert seen offer.key new) seen)) [
      | true ↦ words_inserted seen offer.key new words (word_combined rule (get seen offer.key) offer.value (words offer.key) fits)
      | false ↦ words
    ]

word_answered : (op : Op) (known : Option ℕ) → IsWord known → known_value (answer op known) < 2 ^ 64
word_answered Update known word = omega arith
word_answered Check None word = omega arith
word_answered Check (Some value) word = word
word_answered Both None word = omega arith
word_answered Both (Some value) word = word

-- ---- what holds of each judged offer of a book
-- its numbers and its text have their room, and its bucket is that of its key
pub record IsOffered (buckets : ℕ) (one : Judged) : Type 0 where
  pub offer : IsOffer one.offer
  pub bucket : one.bucket ≡ bucket_of buckets one.offer.key
  pub known : known_value one.verdict < 2 ^ 64

each_offered : (buckets : ℕ) (rule : Rule) (seen : KeyMap) (offers : List Tuple) → HasWords seen → AllByRecursion IsOffer offers
    → AllByRecursion (IsOffered buckets) (map (judged_as buckets) (judged_on rule seen offers))
each_offered buckets rule seen [] words each = tt
each_offered buckets rule seen (offer ∷ offers) words each = (
  record { offer = each.0; bucket = refl; known = word_answered offer.op (get seen offer.key) (words offer.key) },
  each_offered buckets rule (entered rule seen offer) offers (words_entered rule seen offer words each.0.value) each.1,
)

pub book_offered : (book : Book) → HasWords book.base → AllByRecursion IsOffer (judged_offers book) → AllByRecursion (IsOffered book.buckets) (judged book)
book_offered book words each =
    subst (λ (js : List (Tuple × Option Verdict)). AllByRecursion (IsOffered book.buckets) (map (judged_as book.buckets) js)) (sym (judgements-judged_on book.rule book.base (judged_offers book)))
    (each_offered book.buckets book.rule book.base (judged_offers book) words each)

offers_back : (buckets : ℕ) (rule : Rule) (seen : KeyMap) (offers : List Tuple) → map (λ (one : Judged). one.offer) (map (judged_as buckets) (judged_on rule seen offers)) ≡ offers
offers_back buckets rule seen [] = refl
offers_back buckets rule seen (offer ∷ offers) = ap (λ (rest : List Tuple). offer ∷ rest) (offers_back buckets rule (entered rule seen offer) offers)

-- the texts of judged offers
abbrev pub texts_behind : List Judged → List ℕ
texts_behind list = flat_map (λ one. one.offer.aux) list

pub book_texts : (book : Book) → texts_of (judged_offers book) ≡ texts_behind (judged book)
book_texts book =
    let back = ap (λ (js : List (Tuple × Option Verdict)). map (λ (one : Judged). one.offer) (map (judged_as book.buckets) js)) (judgements-judged_on book.rule book.base (judged_offers book))
    ∙ offers_back book.buckets book.rule book.base (judged_offers book) in
    sym (ap texts_of back) ∙ flat_map-map (λ (offer : Tuple). offer.aux) (λ (one : Judged). one.offer) (judged book)

-- ---- their entries
abbrev pub entries_at : ℕ → List Judged → List JudgedEntry
entries_at place [] = []
entries_at place (one ∷ more) = entry_at place one ∷ entries_at (place + length one.offer.aux) more

pub length-entries : (place : ℕ) (list : List Judged) → length (entries_at place list) ≡ length list
length-entries place [] = refl
length-entries place (one ∷ more) = ap (λ (n : ℕ). suc n) (length-entries (place + length one.offer.aux) more)

pub entries_spelled : (place : ℕ) (list : List Judged) → judged_entries place list ≡ flat_map entry_spelling (entries_at place list)
entries_spelled place [] = refl
entries_spelled place (one ∷ more) = ap (λ (bytes : List ℕ). judged_bytes place one ++ bytes) (entries_spelled (place + length one.offer.aux) more)

pub few_buckets : (buckets : ℕ) → IsBucketCount buckets → buckets ≤ 64
few_buckets buckets is = grind (arith, nat_tests)

module _ (drum : Drum) (count : IsBucketCount drum.settings.buckets) (fits : drum.last.texts < 2 ^ 64) where
  entry_fits : (before : Option JudgedEntry) (place : ℕ) (one : Judged) → IsOffered drum.settings.buckets one → place + length one.offer.aux ≤ drum.last.texts
      → IfSome before (λ b. place ≡ b.place + b.aux_len) → FitsBehind drum before (entry_at place one)
  entry_fits before place one is within behind =
      let few = few_buckets drum.settings.buckets count in
      let scaled : one.offer.key * drum.settings.buckets ≤ one.offer.key * 64 = mul-le-mul_left one.offer.key few in
      record {
        is = record {
          bucket = omega (arith, is.bucket, scaled, is.offer.key);
          aux_len = is.offer.aux;
          key = is.offer.key;
          value = is.offer.value;
          from = is.offer.from;
          known = is.known;
          place = omega (arith, within, fits);
        };
        bucket = is.bucket;
        text = within;
        behind = behind;
      }

  -- each fits behind the one before it
  pub entries_fit : (before : Option JudgedEntry) (place : ℕ) (list : List Judged) → AllByRecursion (IsOffered drum.settings.buckets) list → place + length (texts_behind list) ≤ drum.last.texts
      → IfSome before (λ b. place ≡ b.place + b.aux_len) → FitEach drum before (entries_at place list)
  entries_fit before place [] each within behind = tt
  entries_fit before place (one ∷ more) each within behind =
      let sum = length-append one.offer.aux (texts_behind more) in (
        entry_fits before place one each.0 (omega (arith, within, sum)) behind,
        entries_fit (Some (entry_at place one)) (place + length one.offer.aux) more each.1 (omega (arith, within, sum)) refl,
      )

-- ---- a stretch of them
nil_take : {X : Type 0} (n : ℕ) → take {A = X} n [] ≡ []
nil_take zero = refl
nil_take (suc n) = refl

nil_drop : {X : Type 0} (n : ℕ) → drop {A = X} n [] ≡ []
nil_drop zero = refl
nil_drop (suc n) = refl

pub take-entries : (n place : ℕ) (list : List Judged) → take n (entries_at place list) ≡ entries_at place (take n list)
take-entries zero place list = refl
take-entries (suc n) place [] = refl
take-entries (suc n) place (one ∷ more) = ap (λ (es : List JudgedEntry). entry_at place one ∷ es) (take-entries n (place + length one.offer.aux) more)

pub drop-entries : (i place : ℕ) (list : List Judged) → drop i (entries_at place list) ≡ entries_at (place + length (texts_behind (take i list))) (drop i list)
drop-entries zero place list = ap (λ (n : ℕ). entries_at n list) (let e : place ≡ place + 0 = omega arith in e)
drop-entries (suc i) place [] = refl
drop-entries (suc i) place (one ∷ more) =
    let sum : (place + length one.offer.aux) + length (texts_behind (take i more)) ≡ place + length (texts_behind (take (suc i) (one ∷ more))) =
    omega (arith, length-append one.offer.aux (texts_behind (take i more))) in
    drop-entries i (place + length one.offer.aux) more ∙ ap (λ (n : ℕ). entries_at n (drop i more)) sum

pub take-spellings : (n : ℕ) (entries : List JudgedEntry) → take (48 * n) (flat_map entry_spelling entries) ≡ flat_map entry_spelling (take n entries)
take-spellings zero entries = refl
take-spellings (suc n) [] = nil_take (48 * suc n)
take-spellings (suc n) (entry ∷ entries) =
    let more : 48 * suc n ≡ 48 + 48 * n = omega arith in
    ap (λ (k : ℕ). take k (flat_map entry_spelling (entry ∷ entries))) more ∙ take-append-add (entry_spelling entry) (flat_map entry_spelling entries) (48 * n)
    ∙ ap (λ (bytes : List ℕ). entry_spelling entry ++ bytes) (take-spellings n entries)

pub drop-spellings : (i : ℕ) (entries : List JudgedEntry) → drop (48 * i) (flat_map entry_spelling entries) ≡ flat_map entry_spelling (drop i entries)
drop-spellings zero entries = refl
drop-spellings (suc i) [] = nil_drop (48 * suc i)
drop-spellings (suc i) (entry ∷ entries) =
    let more : 48 * suc i ≡ 48 + 48 * i = omega arith in
    ap (λ (k : ℕ). drop k (flat_map entry_spelling (entry ∷ entries))) more ∙ drop-append-add (entry_spelling entry) (flat_map entry_spelling entries) (48 * i) ∙ drop-spellings i entries

-- entries with the same bytes are the same
pub same_entries : (xs ys : List JudgedEntry) → AllByRecursion IsJudgedEntry xs → AllByRecursion IsJudgedEntry ys → flat_map entry_spelling xs ≡ flat_map entry_spelling ys → xs ≡ ys
same_entries [] [] each_x each_y same = refl
same_entries [] (y ∷ ys) each_x each_y same = absurd (let long = ap length same in omega (arith, long, length-spellings (y ∷ ys)))
same_entries (x ∷ xs) [] each_x each_y same = absurd (let long = ap length same in omega (arith, long, length-spellings (x ∷ xs)))
same_entries (x ∷ xs) (y ∷ ys) each_x each_y same =
    let first : entry_spelling x ≡ entry_spelling y = sym (take_at (entry_spelling x) (flat_map entry_spelling xs) 48 refl) ∙ ap (take 48) same
    ∙ take_at (entry_spelling y) (flat_map entry_spelling ys) 48 refl in
    let rest : flat_map entry_spelling xs ≡ flat_map entry_spelling ys = sym (drop_at (entry_spelling x) (flat_map entry_spelling xs) 48 refl) ∙ ap (drop 48) same
    ∙ drop_at (entry_spelling y) (flat_map entry_spelling ys) 48 refl in
    ap (λ (e : JudgedEntry). e ∷ xs) (spelling_injective x y each_x.0 each_y.0 first) ∙ ap (λ (es : List JudgedEntry). y ∷ es) (same_entries xs ys each_x.1 each_y.1 rest)

pub fit_entries : (drum : Drum) (before : Option JudgedEntry) (entries : List JudgedEntry) → FitEach drum before entries → AllByRecursion IsJudgedEntry entries
fit_entries drum before [] fit = tt
fit_entries drum before (entry ∷ entries) fit = (fit.0.is, fit_entries drum (Some entry) entries fit.1)

-- ---- what entries and texts give back
pub texts_back : (place : ℕ) (list : List Judged) → with_texts (entries_at place list) (texts_behind list) ≡ list
texts_back place [] = refl
texts_back place (one ∷ more) =
    let aux = one.offer.aux in
    let rest = texts_behind more in
    let next = place + length aux in
    ap (λ (text : List ℕ). with_text (entry_at place one) text ∷ with_texts (entries_at next more) (drop (length aux) (aux ++ rest))) (take_at aux rest (length aux) refl)
    ∙ ap (λ (bytes : List ℕ). one ∷ with_texts (entries_at next more) bytes) (drop_at aux rest (length aux) refl)
    ∙ ap (λ (list : List Judged). one ∷ list) (texts_back next more)

pub length-texts : (place : ℕ) (list : List Judged) → texts_length (entries_at place list) ≡ length (texts_behind list)
length-texts place [] = refl
length-texts place (one ∷ more) =
    omega (
      arith,
      texts_length-cons (entry_at place one) (entries_at (place + length one.offer.aux) more),
      length-texts (place + length one.offer.aux) more,
      length-append one.offer.aux (texts_behind more),
    )

-- a stretch of the texts
module _ (list : List Judged) (i n : ℕ) where
  part_split : texts_behind list ≡ texts_behind (take i list) ++ texts_behind (drop i list)
  part_split = ap (λ (l : List Judged). texts_behind l) (sym (take-append-drop i list)) ∙ flat_map-append (λ (one : Judged). one.offer.aux) (take i list) (drop i list)

  rest_split : texts_behind (drop i list) ≡ texts_behind (take n (drop i list)) ++ texts_behind (drop n (drop i list))
  rest_split = ap (λ (l : List Judged). texts_behind l) (sym (take-append-drop n (drop i list))) ∙ flat_map-append (λ (one : Judged). one.offer.aux) (take n (drop i list)) (drop n (drop i list))

  pub texts_room : length (texts_behind (take i list)) + length (texts_behind (take n (drop i list))) ≤ length (texts_behind list)
  texts_room =
      omega (
        arith,
        ap length part_split,
        length-append (texts_behind (take i list)) (texts_behind (drop i list)),
        ap length rest_split,
        length-append (texts_behind (take n (drop i list))) (texts_behind (drop n (drop i list))),
      )

  pub texts_stretch : take (length (texts_behind (take n (drop i list)))) (drop (length (texts_behind (take i list))) (texts_behind list)) ≡ texts_behind (take n (drop i list))
  texts_stretch =
      let k = length (texts_behind (take n (drop i list))) in
      ap (λ (bytes : List ℕ). take k (drop (length (texts_behind (take i list))) bytes)) part_split
      ∙ ap (take k) (drop_at (texts_behind (take i list)) (texts_behind (drop i list)) (length (texts_behind (take i list))) refl)
      ∙ ap (take k) rest_split
      ∙ take_at (texts_behind (take n (drop i list))) (texts_behind (drop n (drop i list))) k refl

-- the piece of a file that has the texts of a stretch gives it back
pub pieces_back : (file texts : List ℕ) (place : ℕ) (list : List Judged) → take (length (texts_behind list)) (drop place file) ≡ texts_behind list
    → texts ≡ take (texts_length (entries_at place list)) (drop (first_place (entries_at place list)) file) → with_texts (entries_at place list) texts ≡ list
pieces_back file texts place [] front are = refl
pieces_back file texts place (one ∷ more) front are =
    let same : texts ≡ texts_behind (one ∷ more) = are ∙ ap (λ (k : ℕ). take k (drop place file)) (length-texts place (one ∷ more)) ∙ front in
    ap (with_texts (entries_at place (one ∷ more))) same ∙ texts_back place (one ∷ more)
