-- Entries of the judged file, one after the other, and what they and their texts give back.
use Rattle.std.proofs.Common.{◌≡◌, ◌∙◌, ℕ, ◌+◌, ◌-◌, ◌*◌, ◌<◌, ◌≤◌, List, [], ◌∷◌, ◌++◌, length, take, drop, Option, None, Some, refl, sym, ap, arith, append-nil, length-append}
use Rattle.std.specs.Prelude.{IfSome}
use Rattle.std.proofs.Math.Seq.{take-add}
use Rattle.std.proofs.lemmas.List.{drop-drop, drop-take, take-take}
use Rattle.std.proofs.lemmas.Grind.{flat_map-append}
use Rattle.std.proofs.lemmas.List.Sums.{sum_by-cons}
use Rattle.std.specs.List.{flat_map, AllByRecursion}
use Rattle.irl_base.specs.Limits.{max_text}
use Rattle.irl_layout.specs.declared.judged_entry.JudgedEntry.{JudgedEntry}
use Rattle.irl_bay.specs.Drum.{Drum}
use Rattle.irl_layout.specs.JudgedEntries.{entry_spelling, first_place, texts_length}
use Rattle.irl_bay.specs.JudgedSpoilt.{FitsBehind, FitEach, StandsBefore, NoneFits}

-- ---- one entry more
-- the last of the entries, or the one that stands before them
abbrev pub last_of : Option JudgedEntry → List JudgedEntry → Option JudgedEntry
last_of before [] = before
last_of before (entry ∷ entries) = last_of (Some entry) entries

pub last_more : (before : Option JudgedEntry) (entries : List JudgedEntry) (entry : JudgedEntry) → last_of before (entries ++ entry ∷ []) ≡ Some entry
last_more before [] entry = refl
last_more before (one ∷ entries) entry = last_more (Some one) entries entry

pub fit_more : (drum : Drum) (before : Option JudgedEntry) (entries : List JudgedEntry) (entry : JudgedEntry) → FitEach drum before entries → FitsBehind drum (last_of before entries) entry
    → FitEach drum before (entries ++ entry ∷ [])
fit_more drum before [] entry each fits = (fits, tt)
fit_more drum before (one ∷ entries) entry each fits = (each.0, fit_more drum (Some one) entries entry each.1 fits)

pub bytes_more : (entries : List JudgedEntry) (entry : JudgedEntry) (bytes : List ℕ) → flat_map entry_spelling entries ≡ take (48 * length entries) bytes
    → entry_spelling entry ≡ take 48 (drop (48 * length entries) bytes) → flat_map entry_spelling (entries ++ entry ∷ []) ≡ take (48 * length (entries ++ entry ∷ [])) bytes
bytes_more entries entry bytes so_far one =
    let n = 48 * length entries in
    let count : 48 * length (entries ++ entry ∷ []) ≡ n + 48 = omega (arith, length-append entries (entry ∷ [])) in
    flat_map-append entry_spelling entries (entry ∷ [])
    ∙ ap (λ (b : List ℕ). flat_map entry_spelling entries ++ b) (append-nil (entry_spelling entry) ∙ one)
    ∙ ap (λ (b : List ℕ). b ++ take 48 (drop n bytes)) so_far
    ∙ sym (take-add n 48 bytes)
    ∙ ap (λ (k : ℕ). take k bytes) (sym count)

-- ---- a stretch of the file
pub length-spellings : (entries : List JudgedEntry) → length (flat_map entry_spelling entries) ≡ 48 * length entries
length-spellings [] = refl
length-spellings (entry ∷ entries) =
    let own : length (entry_spelling entry) ≡ 48 = refl in
    let rest = length-spellings entries in
    omega (arith, own, rest, length-append (entry_spelling entry) (flat_map entry_spelling entries))

pub entries_count : (entries : List JudgedEntry) (bytes : List ℕ) (count : ℕ) → flat_map entry_spelling entries ≡ bytes → length bytes ≡ 48 * count → length entries ≡ count
entries_count entries bytes count are long = omega (arith, ap length are, length-spellings entries, long)

-- a part of a part is a part
pub part_of_part : (from n at w : ℕ) (file : List ℕ) → at + w ≤ n → take w (drop at (take n (drop from file))) ≡ take w (drop (from + at) file)
part_of_part from n at w file within =
    let split : n ≡ at + (n - at) = omega arith in
    ap (λ (k : ℕ). take w (drop at (take k (drop from file)))) split
    ∙ ap (take w) (drop-take at (n - at) (drop from file))
    ∙ take-take w (n - at) (drop at (drop from file)) (omega arith)
    ∙ ap (take w) (drop-drop at from file)

module _ (drum : Drum) (file bytes : List ℕ) (i count : ℕ) (is : bytes ≡ take (48 * count) (drop (48 * i) file)) where
  entry_in_file : (j : ℕ) → j < count → take 48 (drop (48 * j) bytes) ≡ take 48 (drop (48 * (i + j)) file)
  entry_in_file j within =
      let place : 48 * i + 48 * j ≡ 48 * (i + j) = omega arith in
      ap (λ (b : List ℕ). take 48 (drop (48 * j) b)) is
      ∙ part_of_part (48 * i) (48 * count) (48 * j) 48 file (omega arith)
      ∙ ap (λ (k : ℕ). take 48 (drop k file)) place

  before_in_file : (j : ℕ) (before : Option JudgedEntry) → j < count → IfSome before (StandsBefore bytes j) → IfSome before (StandsBefore file (i + j))
  before_in_file j None within stands = tt
  before_in_file j (Some one) within stands =
      let later : 1 ≤ j = stands.later in
      let place : i + (j - 1) ≡ i + j - 1 = omega arith in
      record {
        later = omega arith;
        is = stands.is;
        bytes_are = stands.bytes_are ∙ entry_in_file (j - 1) (omega arith) ∙ ap (λ (k : ℕ). take 48 (drop (48 * k) file)) place;
      }

  -- so an entry that fits nothing in a stretch fits nothing in the file
  pub none_in_file : (j : ℕ) → j < count → NoneFits drum bytes j → NoneFits drum file (i + j)
  none_in_file j within none = record {
    before = none.before;
    stands = before_in_file j none.before within none.stands;
    none = λ entry fits spelled. none.none entry fits (spelled ∙ sym (entry_in_file j within));
  }

-- ---- the texts of entries that stand one behind the other
pub texts_length-cons : (entry : JudgedEntry) (entries : List JudgedEntry) → texts_length (entry ∷ entries) ≡ entry.aux_len + texts_length entries
texts_length-cons entry entries = sum_by-cons (λ (one : JudgedEntry). one.aux_len) entry entries

-- they are committed
pub texts_within : (drum : Drum) (before : Option JudgedEntry) (entries : List JudgedEntry) → FitEach drum before entries → first_place entries + texts_length entries ≤ drum.last.texts
texts_within drum before [] fit = omega arith
texts_within drum before (entry ∷ []) fit = let here : entry.place + entry.aux_len ≤ drum.last.texts = fit.0.text in omega (arith, here, texts_length-cons entry [])
texts_within drum before (entry ∷ next ∷ entries) fit =
    let behind : next.place ≡ entry.place + entry.aux_len = fit.1.0.behind in
    let rest = texts_within drum (Some entry) (next ∷ entries) fit.1 in
    omega (arith, behind, rest, texts_length-cons entry (next ∷ entries))

pub fit_texts : (drum : Drum) (before : Option JudgedEntry) (entries : List JudgedEntry) → FitEach drum before entries → AllByRecursion (λ entry. entry.aux_len ≤ max_text) entries
fit_texts drum before [] fit = tt
fit_texts drum before (entry ∷ entries) fit = (fit.0.is.aux_len, fit_texts drum (Some entry) entries fit.1)
