-- The entries of a tree with texts as keys, as a finite map.
use Rattle.std.proofs.Common.{◌≡◌, ◌∙◌, ℕ, List, [], ◌∷◌, Some, cond, refl, sym, ap}
use Rattle.std.specs.Prelude.{Vec, bytes_eq}
use Rattle.std.specs.Ordering.{nat_cmp, is_eq}
use Rattle.std.specs.Cmp.Lexicographic.{slice_cmp}
use Rattle.std.specs.FinMap.{find, from_entries, get, get-from_entries, get-insert, insert, same_map, nat_cmp-IsAntisymmetric, slice_cmp-IsAntisymmetric}
use Rattle.std.proofs.lemmas.Map.Text.{is_eq-slice_cmp}
use Rattle.std.proofs.lemmas.Cmp.{nat_list_cmp_total}
use Rattle.irl_base.proofs.TextMaps.{value_at, is_of}
use Rattle.irl_star.specs.Degrees.{texts_of}

find-texts : {A : Type 0} (es : List (Vec ℕ A × ℕ)) (pld : List ℕ) → find (slice_cmp nat_cmp) pld (texts_of es) ≡ value_at es pld
find-texts [] pld = refl
find-texts (e ∷ es) pld = ap (λ o. cond (is_of pld e.0) (Some e.1) o) (find-texts es pld)

-- what the map that the entries make has at a text
pub get-texts : {A : Type 0} (es : List (Vec ℕ A × ℕ)) (pld : List ℕ) → get (from_entries {R = slice_cmp nat_cmp} (texts_of es)) pld ≡ value_at es pld
get-texts es pld = get-from_entries nat_list_cmp_total (texts_of es) pld ∙ find-texts es pld

-- entries that differ at one text make maps that differ there
pub one_set : {A : Type 0} (es new : List (Vec ℕ A × ℕ)) (pld : List ℕ) (v : ℕ) → ((q : List ℕ) → value_at new q ≡ cond (bytes_eq q pld) (Some v) (value_at es q))
    → from_entries {R = slice_cmp nat_cmp} (texts_of new) ≡ insert (from_entries (texts_of es)) pld v
one_set es new pld v h = same_map nat_list_cmp_total (slice_cmp-IsAntisymmetric nat_cmp-IsAntisymmetric) _ _ (λ q.
    get-texts new q ∙ h q ∙ ap (λ b. cond b (Some v) (value_at es q)) (sym (is_eq-slice_cmp q pld))
    ∙ sym (get-insert nat_list_cmp_total (from_entries (texts_of es)) pld v q ∙ ap (λ o. cond (is_eq (slice_cmp nat_cmp q pld)) (Some v) o) (get-texts es q)))
