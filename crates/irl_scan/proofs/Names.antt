-- An attribute's name is what stands before what is left behind it.
use Rattle.std.proofs.Common.{◌≡◌, ℕ, suc, ◌+◌, ◌<◌, List, [], ◌∷◌, ◌++◌, length, take, drop, Option, Some, None, unwrap_or, option_map, refl, ap, ◌∙◌, arith}
use Rattle.std.proofs.lemmas.List.{length-drop}
use Rattle.irl_scan.specs.Bytes.{at_byte, ends_attribute_name}
use Rattle.irl_scan.specs.Reading.{IsRun, name_of, behind_name}
use Rattle.irl_scan.proofs.Runs.{before-from}

pub name-joined : (rest : List ℕ) → name_of rest ++ behind_name rest ≡ rest
name-joined [] = refl
name-joined (b ∷ bs) = ap (λ ys. b ∷ ys) (before-from (at_byte ends_attribute_name) bs)

-- a name is its first byte and a run
name_end : (found : Option ℕ) (rest : List ℕ) → 0 < length rest → unwrap_or (option_map (λ n. 1 + n) found) (length rest) ≡ suc (unwrap_or found (length (drop 1 rest)))
name_end None rest some = let less = length-drop 1 rest in omega arith
name_end (Some n) rest some = omega arith

module _ (rest : List ℕ) (found : Option ℕ) (some : 0 < length rest) (h : IsRun (at_byte ends_attribute_name) (drop 1 rest) (unwrap_or found (length (drop 1 rest)))) where
  taken : (ys : List ℕ) → 0 < length ys → IsRun (at_byte ends_attribute_name) (drop 1 ys) (unwrap_or found (length (drop 1 ys))) →
      (take (suc (unwrap_or found (length (drop 1 ys)))) ys ≡ name_of ys) × (drop (suc (unwrap_or found (length (drop 1 ys)))) ys ≡ behind_name ys)
  taken [] s r = absurd (omega arith)
  taken (b ∷ bs) s r = (ap (λ zs. b ∷ zs) r.front, r.back)

  pub name_taken : take (unwrap_or (option_map (λ n. 1 + n) found) (length rest)) rest ≡ name_of rest
  name_taken = ap (λ n. take n rest) (name_end found rest some) ∙ (taken rest some h).0

  pub name_passed : drop (unwrap_or (option_map (λ n. 1 + n) found) (length rest)) rest ≡ behind_name rest
  name_passed = ap (λ n. drop n rest) (name_end found rest some) ∙ (taken rest some h).1
