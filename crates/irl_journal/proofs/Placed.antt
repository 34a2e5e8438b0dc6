-- One record by its place: at most one stands there, and one of a journal's records does.
use Rattle.std.proofs.Common.{◌≡◌, ◌∙◌, ℕ, ◌+◌, ◌≤◌, List, [], ◌∷◌, ◌++◌, length, take, drop, refl, sym, ap, arith, append_assoc, length-append, length-drop, take-append-drop}
use Rattle.std.proofs.lemmas.List.{take_at, drop_at, drop-drop}
use Rattle.std.proofs.lemmas.List.Concat.{flat_map-append}
use Rattle.std.proofs.lemmas.Nat.{from_le_bytes-to_le_bytes_4}
use Rattle.std.specs.List.{AllByRecursion}
use Rattle.std.specs.Int.{w32, to_le_bytes, from_le_bytes}
use Rattle.irl_disk.specs.Disk.{Files}
use Rattle.irl_journal.specs.Format.{StandsAt, IsPayload, record_text, records_text, open_gate}
use Rattle.irl_journal.specs.Appending.{Ends}
use Rattle.irl_journal.proofs.Lists.{same_bodies, length-body}

-- what was read of a file
pub read_is : (files : Files) (into : List ℕ) (at n x y : ℕ) → into ≡ take (length into) (drop at (files x)) → length into ≡ n → x ≡ y → into ≡ take n (drop at (files y))
read_is files into at n x y is size same = is ∙ ap (λ (k : ℕ). take k (drop at (files x))) size ∙ ap (λ (f : ℕ). take n (drop at (files f))) same

-- how many bytes the file has from there
pub placed_long : (at end : ℕ) (file payload : List ℕ) → StandsAt at end file payload → at + 5 + length payload ≤ length file
placed_long at end file payload stands =
    omega (arith, ap length stands.bytes, length-drop at file, length-append (record_text payload) stands.rest, length-body payload)

-- and within the journal's end
pub placed_within : (at end : ℕ) (file payload : List ℕ) → StandsAt at end file payload → at + 5 + length payload ≤ end
placed_within at end file payload stands = omega (arith, stands.within, length-body payload)

-- the gate and the length
pub placed_front : (at end : ℕ) (file payload : List ℕ) → StandsAt at end file payload → take 5 (drop at file) ≡ open_gate ∷ to_le_bytes w32 (length payload)
placed_front at end file payload stands =
    ap (λ (l : List ℕ). take 5 l) (stands.bytes ∙ append_assoc (open_gate ∷ to_le_bytes w32 (length payload)) payload stands.rest)
    ∙ take_at (open_gate ∷ to_le_bytes w32 (length payload)) (payload ++ stands.rest) 5 refl

-- lengths of which the same was written
pub same_lengths : (m n : ℕ) → m ≤ 16777216 → n ≤ 16777216 → open_gate ∷ to_le_bytes w32 m ≡ open_gate ∷ to_le_bytes w32 n → m ≡ n
same_lengths m n fits_m fits_n same =
    sym (from_le_bytes-to_le_bytes_4 m (omega (arith, fits_m))) ∙ ap (λ (l : List ℕ). from_le_bytes w32 (drop 1 l)) same ∙ from_le_bytes-to_le_bytes_4 n (omega (arith, fits_n))

-- what was read there is a record
pub placed_there : (at end n : ℕ) (file front payload : List ℕ) → n ≤ 16777216 → at + 5 + n ≤ end → front ≡ open_gate ∷ to_le_bytes w32 n → front ≡ take 5 (drop at file) → length payload ≡ n → payload
    ≡ take n (drop (at + 5) file)
    → StandsAt at end file payload
placed_there at end n file front payload fits within are front_is size payload_is = record {
  fits = omega (arith, size, fits);
  within = omega (arith, size, within, length-body payload);
  rest = drop n (drop (at + 5) file);
  bytes = sym (take-append-drop 5 (drop at file))
      ∙ ap (λ (l : List ℕ). l ++ drop 5 (drop at file)) (sym front_is ∙ are ∙ ap (λ (k : ℕ). open_gate ∷ to_le_bytes w32 k) (sym size))
      ∙ ap (λ (l : List ℕ). (open_gate ∷ to_le_bytes w32 (length payload)) ++ l)
      (drop-drop 5 at file ∙ sym (take-append-drop n (drop (at + 5) file)) ∙ ap (λ (l : List ℕ). l ++ drop n (drop (at + 5) file)) (sym payload_is))
      ∙ sym (append_assoc (open_gate ∷ to_le_bytes w32 (length payload)) payload (drop n (drop (at + 5) file)));
}

-- at most one stands there
pub placed_one : (at end : ℕ) (file p q : List ℕ) → StandsAt at end file p → StandsAt at end file q → p ≡ q
placed_one at end file p q one other = (same_bodies p q one.rest other.rest one.fits other.fits (ap (drop 1) (sym one.bytes ∙ other.bytes))).0

each-at : (first more : List (List ℕ)) (one : List ℕ) → AllByRecursion IsPayload (first ++ one ∷ more) → IsPayload one
each-at [] more one each = each.0
each-at (x ∷ first) more one each = each-at first more one each.1

-- each of a journal's records stands where its gate does
pub placed_of : (end at : ℕ) (file : List ℕ) (first more : List (List ℕ)) (one : List ℕ) → Ends end file (first ++ one ∷ more) → at ≡ length (records_text first) → StandsAt at end file one
placed_of end at file first more one ends here =
    let has = ends.records in
    let behind = records_text more ++ has.gate ∷ has.rest in
    let text : records_text (first ++ one ∷ more) ≡ records_text first ++ (record_text one ++ records_text more) = flat_map-append record_text first (one ∷ more) in
    record {
      fits = each-at first more one has.each;
      within = omega (arith, here, ends.place, ap length text, length-append (records_text first) (record_text one ++ records_text more), length-append (record_text one) (records_text more));
      rest = behind;
      bytes = ap (λ (l : List ℕ). drop at l) (has.bytes ∙ ap (λ (l : List ℕ). l ++ has.gate ∷ has.rest) text
          ∙ append_assoc (records_text first) (record_text one ++ records_text more) (has.gate ∷ has.rest))
          ∙ drop_at (records_text first) ((record_text one ++ records_text more) ++ has.gate ∷ has.rest) at (sym here)
          ∙ append_assoc (record_text one) (records_text more) (has.gate ∷ has.rest);
    }
