-- A judged offer of a part, by its place there: where its text begins in the part's texts.
use Rattle.std.proofs.Common.{◌≡◌, ◌∙◌, ℕ, zero, suc, ◌+◌, ◌-◌, ◌≤◌, ◌<◌, List, [], ◌∷◌, length, take, drop, get_or, Option, Some, refl, sym, ap, arith}
use Rattle.std.specs.Prelude.{slice_get}
use Rattle.std.proofs.lemmas.List.{drop-drop}
use Rattle.irl_offer.specs.declared.receipt.Judged.{Judged}
use Rattle.irl_layout.specs.declared.judged_entry.JudgedEntry.{JudgedEntry}
use Rattle.irl_bay.specs.Drum.{Drum}
use Rattle.irl_layout.specs.JudgedEntries.{with_text, with_texts, texts_length, first_place}
use Rattle.irl_bay.specs.JudgedParts.{AreJoined, IsPart}
use Rattle.irl_bay.specs.JudgedSpoilt.{FitEach}
use Rattle.irl_bay.proofs.JudgedHeld.{length-with_texts}
use Rattle.irl_bay.proofs.JudgedReading.{texts_length-cons}

-- what is read fits one behind the other
pub fit_joined : (drum : Drum) (before : Option JudgedEntry) (entries : List JudgedEntry) → FitEach drum before entries → AreJoined entries
fit_joined drum before [] fit = tt
fit_joined drum before (entry ∷ []) fit = tt
fit_joined drum before (entry ∷ next ∷ entries) fit = (fit.1.0.behind, fit_joined drum (Some entry) (next ∷ entries) fit.1)

first_at : (entries : List JudgedEntry) (none : JudgedEntry) → 0 < length entries → first_place entries ≡ (get_or entries 0 none).place
first_at [] none lt = absurd (omega arith)
first_at (entry ∷ entries) none lt = refl

-- a text's place is behind the texts before it
place_at : (entries : List JudgedEntry) (i : ℕ) (none : JudgedEntry) → AreJoined entries → i < length entries → (get_or entries i none).place ≡ first_place entries + texts_length (take i entries)
place_at [] i none joined lt = absurd (omega arith)
place_at (first ∷ entries) zero none joined lt = omega arith
place_at (first ∷ []) (suc i) none joined lt = absurd (omega arith)
place_at (first ∷ next ∷ entries) (suc i) none joined lt =
    let rest = place_at (next ∷ entries) i none joined.1 (omega arith) in
    let behind : next.place ≡ first.place + first.aux_len = joined.0 in
    omega (arith, rest, behind, texts_length-cons first (take i (next ∷ entries)))

-- and it is within the texts
text_within : (entries : List JudgedEntry) (i : ℕ) (none : JudgedEntry) → i < length entries → texts_length (take i entries) + (get_or entries i none).aux_len ≤ texts_length entries
text_within [] i none lt = absurd (omega arith)
text_within (first ∷ entries) zero none lt = omega (arith, texts_length-cons first entries)
text_within (first ∷ entries) (suc i) none lt =
    omega (arith, text_within entries i none (omega arith), texts_length-cons first entries, texts_length-cons first (take i entries))

one_of_part : (entries : List JudgedEntry) (texts : List ℕ) (i : ℕ) (none : JudgedEntry) → i < length entries
    → slice_get (with_texts entries texts) i ≡ Some (with_text (get_or entries i none) (take (get_or entries i none).aux_len (drop (texts_length (take i entries)) texts)))
one_of_part [] texts i none lt = absurd (omega arith)
one_of_part (first ∷ entries) texts zero none lt = refl
one_of_part (first ∷ entries) texts (suc i) none lt =
    let one = get_or entries i none in
    one_of_part entries (drop first.aux_len texts) i none (omega arith)
    ∙ ap (λ (text : List ℕ). Some (with_text one (take one.aux_len text)))
    (drop-drop (texts_length (take i entries)) first.aux_len texts ∙ ap (λ (n : ℕ). drop n texts) (sym (texts_length-cons first (take i entries))))

-- ---- the entry at an index of a part that contracts see as this list
module _ (entries : List JudgedEntry) (texts : List ℕ) (list : List Judged) (i : ℕ) (part : IsPart entries texts) (view : with_texts entries texts ≡ list) (lt : i < length list) where
  pub within : i < length entries
  within = omega (arith, lt, length-with_texts entries texts, ap length view)

  module _ (first entry : JudgedEntry) (first_is : first ≡ get_or entries 0 first) (entry_is : entry ≡ get_or entries i entry) where
    pub begins : entry.place ≡ first.place + texts_length (take i entries)
    begins =
        let some : 0 < length entries = omega (arith, within) in
        let start = first_at entries first some ∙ ap (λ (one : JudgedEntry). one.place) (sym first_is) in
        ap (λ (one : JudgedEntry). one.place) entry_is ∙ place_at entries i entry part.joined within ∙ ap (λ (n : ℕ). n + texts_length (take i entries)) start

    pub ends : entry.place - first.place + entry.aux_len ≤ length texts
    ends =
        let same = ap (λ (one : JudgedEntry). one.aux_len) entry_is in
        omega (arith, begins, text_within entries i entry within, part.long, same)

    pub told : slice_get list i ≡ Some (with_text entry (take entry.aux_len (drop (entry.place - first.place) texts)))
    told =
        let place : texts_length (take i entries) ≡ entry.place - first.place = omega (arith, begins) in
        ap (λ (l : List Judged). slice_get l i) (sym view)
        ∙ one_of_part entries texts i entry within
        ∙ ap (λ (one : JudgedEntry). Some (with_text one (take one.aux_len (drop (texts_length (take i entries)) texts)))) (sym entry_is)
        ∙ ap (λ (n : ℕ). Some (with_text entry (take entry.aux_len (drop n texts)))) place
