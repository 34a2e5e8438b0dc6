-- Counts of a tree with texts as keys after one more of a text.
use Rattle.std.proofs.Common.{◌≡◌, ◌∙◌, ℕ, Bool, true, false, List, Option, Some, cond, ◌+◌, arith, refl, sym, ap}
use Rattle.std.specs.Prelude.{Vec, bytes_eq, unwrap_or}
use Rattle.std.specs.BTreeMap.{insert_entry}
use Rattle.std.proofs.lemmas.Slice.Eq.{bytes_eq-Decides}
use Rattle.irl_base.proofs.TextMaps.{value_at, vec_cmp, value_at-insert}
use Rattle.irl_beast.specs.Counts.{count_in}

at_more : (found : Option ℕ) (b : Bool) (n : ℕ) → (b ≡ true → n ≡ unwrap_or found 0 + 1) → unwrap_or (cond b (Some n) found) 0 ≡ unwrap_or found 0 + cond b 1 0
at_more found true n h = h refl
at_more found false n h = omega arith

-- the counts after one more of a domain
pub count_in-more : {A : Type 0} (old new : List (Vec ℕ A × ℕ)) (k : Vec ℕ A) (pld : List ℕ) (n : ℕ) → k.items ≡ pld → n ≡ count_in old pld + 1 → new ≡ insert_entry vec_cmp old k n → (q : List ℕ)
    → count_in new q ≡ count_in old q + cond (bytes_eq q pld) 1 0
count_in-more old new k pld n text more is q =
    ap (λ o. unwrap_or o 0) (value_at-insert q k n old new is ∙ ap (λ t. cond (bytes_eq q t) (Some n) (value_at old q)) text)
    ∙ at_more (value_at old q) (bytes_eq q pld) n (λ e. more ∙ ap (λ t. count_in old t + 1) (sym ((bytes_eq-Decides q pld).0 e)))
