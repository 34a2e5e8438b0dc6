-- A file stands for at most one list of records, and one that stands for a list is broken nowhere.
use Rattle.std.proofs.Common.{◌≡◌, ◌≢◌, ◌∙◌, ◌⊎◌, ⊎_elim, inl, inr, subst, ℕ, ◌+◌, ◌≤◌, List, [], ◌∷◌, ◌++◌, length, take, drop, append_assoc, sym, ap, refl, arith, length-append}
use Rattle.std.proofs.Math.Seq.{take-append_seam, drop-append_seam}
use Rattle.std.proofs.lemmas.Nat.{from_le_bytes-to_le_bytes_4}
use Rattle.std.specs.List.{AllByRecursion}
use Rattle.std.specs.Int.{w32, to_le_bytes, from_le_bytes}
use Rattle.irl_journal.specs.Visiting.{IsBrokenFor, IsRefusedAt, RefusesOneOf}
use Rattle.irl_journal.specs.Format.{open_gate, body_text, records_text, IsPayload, HasRecords, StandsFor, HasNoRecord, IsBrokenAt}

-- two fronts of one length, and what stands behind each
same_parts : (s t x y : List ℕ) → length s ≡ length t → s ++ x ≡ t ++ y → (s ≡ t) × (x ≡ y)
same_parts s t x y long same = (
  sym (take-append_seam s x) ∙ ap (take (length s)) same ∙ ap (λ (n : ℕ). take n (t ++ y)) long ∙ take-append_seam t y,
  sym (drop-append_seam s x) ∙ ap (drop (length s)) same ∙ ap (λ (n : ℕ). drop n (t ++ y)) long ∙ drop-append_seam t y,
)

-- a payload's length takes four bytes
pub length-body : (payload : List ℕ) → length (body_text payload) ≡ 4 + length payload
length-body payload = length-append (to_le_bytes w32 (length payload)) payload

-- one payload and what stands behind it
pub same_bodies : (p q x y : List ℕ) → IsPayload p → IsPayload q → body_text p ++ x ≡ body_text q ++ y → (p ≡ q) × (x ≡ y)
same_bodies p q x y fits_p fits_q same =
    let head = λ (payload : List ℕ). to_le_bytes w32 (length payload) in
    let apart : head p ++ (p ++ x) ≡ head q ++ (q ++ y) = sym (append_assoc (head p) p x) ∙ same ∙ append_assoc (head q) q y in
    let parts : (head p ≡ head q) × (p ++ x ≡ q ++ y) = same_parts (head p) (head q) (p ++ x) (q ++ y) refl apart in
    let long : length p ≡ length q =
    sym (from_le_bytes-to_le_bytes_4 (length p) (omega (arith, fits_p))) ∙ ap (from_le_bytes w32) parts.0 ∙ from_le_bytes-to_le_bytes_4 (length q) (omega (arith, fits_q)) in
    same_parts p q x y long parts.1

-- the text of a first record, with what stands behind all
pub records-cons : (x : List ℕ) (xs : List (List ℕ)) (rest : List ℕ) → records_text (x ∷ xs) ++ rest ≡ open_gate ∷ body_text x ++ (records_text xs ++ rest)
records-cons x xs rest = append_assoc (open_gate ∷ body_text x) (records_text xs) rest

-- what stands behind the first of two equal first records
same_firsts : (x y : List ℕ) (xs ys : List (List ℕ)) (r s : List ℕ) → IsPayload x → IsPayload y → records_text (x ∷ xs) ++ r ≡ records_text (y ∷ ys) ++ s → (x ≡ y)
    × (records_text xs ++ r ≡ records_text ys ++ s)
same_firsts x y xs ys r s fits_x fits_y same =
    let apart : open_gate ∷ body_text x ++ (records_text xs ++ r) ≡ open_gate ∷ body_text y ++ (records_text ys ++ s) = sym (records-cons x xs r) ∙ same ∙ records-cons y ys s in
    same_bodies x y (records_text xs ++ r) (records_text ys ++ s) fits_x fits_y (ap (drop 1) apart)

-- the first byte of a list that has one
first_of_two : (a b : ℕ) (xs ys : List ℕ) → a ∷ xs ≡ b ∷ ys → a ≡ b
first_of_two a b xs ys same = cc

-- two lists of records, each with a closed gate behind it
pub same_lists : (xs ys : List (List ℕ)) (a b : ℕ) (r s : List ℕ) → a ≢ open_gate → b ≢ open_gate → AllByRecursion IsPayload xs → AllByRecursion IsPayload ys → records_text xs ++ a ∷ r
    ≡ records_text ys ++ b ∷ s → xs ≡ ys
same_lists [] [] a b r s no_a no_b each_x each_y same = refl
same_lists [] (y ∷ ys) a b r s no_a no_b each_x each_y same = absurd (no_a (first_of_two a open_gate r _ (same ∙ records-cons y ys (b ∷ s))))
same_lists (x ∷ xs) [] a b r s no_a no_b each_x each_y same = absurd (no_b (first_of_two b open_gate s _ (sym same ∙ records-cons x xs (a ∷ r))))
same_lists (x ∷ xs) (y ∷ ys) a b r s no_a no_b each_x each_y same =
    let parts : (x ≡ y) × (records_text xs ++ a ∷ r ≡ records_text ys ++ b ∷ s) = same_firsts x y xs ys (a ∷ r) (b ∷ s) each_x.0 each_y.0 same in
    let behind : xs ≡ ys = same_lists xs ys a b r s no_a no_b each_x.1 each_y.1 parts.1 in
    cc

-- a record with a gate behind it
begins : (bytes x : List ℕ) (xs : List (List ℕ)) (a : ℕ) (r : List ℕ) → HasNoRecord bytes → IsPayload x → bytes ≡ records_text (x ∷ xs) ++ a ∷ r → ⊥
begins bytes x [] a r none fits is = none x r a fits (is ∙ records-cons x [] (a ∷ r))
begins bytes x (y ∷ ys) a r none fits is = none x (body_text y ++ (records_text ys ++ a ∷ r)) open_gate fits
    (is ∙ records-cons x (y ∷ ys) (a ∷ r) ∙ ap (λ (rest : List ℕ). open_gate ∷ body_text x ++ rest) (records-cons y ys (a ∷ r)))

-- records with a closed gate behind them, and records with an open gate whose record is not whole
pub not_broken : (xs ys : List (List ℕ)) (a : ℕ) (r s : List ℕ) → a ≢ open_gate → AllByRecursion IsPayload xs → AllByRecursion IsPayload ys → HasNoRecord (open_gate ∷ s) → records_text xs ++ a ∷ r
    ≡ records_text ys ++ open_gate ∷ s → ⊥
not_broken [] [] a r s no_a each_x each_y none same = no_a (first_of_two a open_gate r s same)
not_broken [] (y ∷ ys) a r s no_a each_x each_y none same = no_a (first_of_two a open_gate r _ (same ∙ records-cons y ys (open_gate ∷ s)))
not_broken (x ∷ xs) [] a r s no_a each_x each_y none same = begins (open_gate ∷ s) x xs a r none each_x.0 (sym same)
not_broken (x ∷ xs) (y ∷ ys) a r s no_a each_x each_y none same =
    let parts : (x ≡ y) × (records_text xs ++ a ∷ r ≡ records_text ys ++ open_gate ∷ s) = same_firsts x y xs ys (a ∷ r) (open_gate ∷ s) each_x.0 each_y.0 same in
    not_broken xs ys a r s no_a each_x.1 each_y.1 none parts.1

-- a file of at most one byte has no record
pub few_bytes : (file : List ℕ) (xs : List (List ℕ)) → length file ≤ 1 → HasRecords file xs → xs ≡ []
few_bytes file [] few has = refl
few_bytes file (x ∷ xs) few has =
    let is : file ≡ open_gate ∷ body_text x ++ (records_text xs ++ has.gate ∷ has.rest) = has.bytes ∙ records-cons x xs (has.gate ∷ has.rest) in
    let long : length file ≡ 1 + length (body_text x ++ (records_text xs ++ has.gate ∷ has.rest)) = omega (arith, ap length is) in
    absurd (omega (arith, length-append (body_text x) (records_text xs ++ has.gate ∷ has.rest), length-body x))

-- a file stands for at most one list
pub one_list : (file : List ℕ) (xs ys : List (List ℕ)) → StandsFor file xs → StandsFor file ys → xs ≡ ys
one_list file xs ys for_x for_y = ⊎_elim
    (λ few_x. ⊎_elim (λ few_y. few_x.1 ∙ sym few_y.1) (λ has_y. few_x.1 ∙ sym (few_bytes file ys few_x.0 has_y)) for_y)
    (λ has_x. ⊎_elim
    (λ few_y. few_bytes file xs few_y.0 has_x ∙ sym few_y.1)
    (λ has_y. same_lists xs ys has_x.gate has_y.gate has_x.rest has_y.rest has_x.closed has_y.closed has_x.each has_y.each (sym has_x.bytes ∙ has_y.bytes))
    for_y)
    for_x

-- a file that stands for a list is broken nowhere
pub whole_list : (file : List ℕ) (xs : List (List ℕ)) (at : ℕ) → StandsFor file xs → IsBrokenAt file at → ⊥
whole_list file xs at for_x broken = ⊎_elim
    (λ few. omega (arith, few.0, broken.long))
    (λ has. not_broken xs broken.payloads has.gate has.rest broken.rest has.closed has.each broken.each broken.broken (sym has.bytes ∙ broken.bytes))
    for_x

-- where records have a closed gate behind them, a record behind some of them is one of them
pub record_of : (xs ps : List (List ℕ)) (p r s : List ℕ) (a : ℕ) → a ≢ open_gate → AllByRecursion IsPayload xs → AllByRecursion IsPayload ps → IsPayload p
    → records_text xs ++ a ∷ r ≡ records_text ps ++ (open_gate ∷ (body_text p ++ s)) → (more : List (List ℕ)) × (xs ≡ ps ++ p ∷ more)
record_of [] [] p r s a closed each_x each_p fits same = absurd (closed (first_of_two a open_gate r (body_text p ++ s) same))
record_of [] (q ∷ ps) p r s a closed each_x each_p fits same =
    absurd (closed (first_of_two a open_gate r _ (same ∙ records-cons q ps (open_gate ∷ (body_text p ++ s)))))
record_of (x ∷ xs) [] p r s a closed each_x each_p fits same =
    let apart : open_gate ∷ (body_text x ++ (records_text xs ++ a ∷ r)) ≡ open_gate ∷ (body_text p ++ s) = sym (records-cons x xs (a ∷ r)) ∙ same in
    let parts = same_bodies x p (records_text xs ++ a ∷ r) s each_x.0 fits (ap (drop 1) apart) in
    (xs, ap (λ (l : List ℕ). l ∷ xs) parts.0)
record_of (x ∷ xs) (q ∷ ps) p r s a closed each_x each_p fits same =
    let rest : List ℕ = records_text ps ++ (open_gate ∷ (body_text p ++ s)) in
    let apart : open_gate ∷ (body_text x ++ (records_text xs ++ a ∷ r)) ≡ open_gate ∷ (body_text q ++ rest) = sym (records-cons x xs (a ∷ r)) ∙ same
    ∙ records-cons q ps (open_gate ∷ (body_text p ++ s)) in
    let parts = same_bodies x q (records_text xs ++ a ∷ r) rest each_x.0 each_p.0 (ap (drop 1) apart) in
    let behind = record_of xs ps p r s a closed each_x.1 each_p.1 fits parts.1 in
    (behind.0, ap (λ (l : List ℕ). l ∷ xs) parts.0 ∙ ap (λ (ls : List (List ℕ)). q ∷ ls) behind.1)

-- an open, whole record behind records of a file that stands for a list is one of that list
pub record_behind : (file : List ℕ) (xs ps : List (List ℕ)) (p rest : List ℕ) (gate : ℕ) → StandsFor file xs → AllByRecursion IsPayload ps → IsPayload p → file
    ≡ records_text ps ++ (open_gate ∷ (body_text p ++ (gate ∷ rest)))
    → (more : List (List ℕ)) × (xs ≡ ps ++ p ∷ more)
record_behind file xs ps p rest gate for_x each fits is = ⊎_elim
    (λ few.
    let tail : List ℕ = body_text p ++ gate ∷ rest in
    let long : length file ≡ length (records_text ps) + length (open_gate ∷ tail) = ap length is ∙ length-append (records_text ps) (open_gate ∷ tail) in
    absurd (omega (arith, few.0, long, length-append (body_text p) (gate ∷ rest))))
    (λ has. record_of xs ps p has.rest (gate ∷ rest) has.gate has.closed has.each each fits (sym has.bytes ∙ is))
    for_x

-- where a file stands for a list, a visitor that refuses a record refuses one of the list
pub refuses_one : {V : Type 0} (takes refuses : V → ℕ → List ℕ → V → Type 0) (visitor after : V) (file : List ℕ) (xs : List (List ℕ)) (at : ℕ) → StandsFor file xs
    → IsBrokenFor takes visitor after file at ⊎ IsRefusedAt takes refuses visitor after file at → RefusesOneOf takes refuses visitor after xs at
refuses_one takes refuses visitor after file xs at for_x (inl broken) = absurd (whole_list file xs at for_x broken.broken)
refuses_one takes refuses visitor after file xs at for_x (inr refused) =
    let behind = record_behind file xs refused.payloads refused.payload refused.rest refused.gate for_x refused.each refused.fits
    (refused.bytes ∙ append_assoc (records_text refused.payloads) (open_gate ∷ body_text refused.payload) (refused.gate ∷ refused.rest)) in
    record { first = refused.payloads; payload = refused.payload; more = behind.0; among = behind.1; place = refused.place; reached = refused.reached; took = refused.took; refused = refused.refused }

-- what a visitor took of the list that was found, it took of any that the file stands for
pub found_only : (P : List (List ℕ) → Type 0) (file : List ℕ) (found xs : List (List ℕ)) → StandsFor file found → StandsFor file xs → P found → P xs
found_only P file found xs for_found for_x has = subst P (one_list file found xs for_found for_x) has
