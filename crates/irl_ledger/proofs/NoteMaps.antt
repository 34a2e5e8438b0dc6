-- Places by host.
use Rattle.std.proofs.Common.{◌≡◌, ◌∙◌, ℕ, true, false, Bool, List, [], ◌∷◌, Option, None, Some, Result, Ok, Err, OnOk, OnErr, cond, refl, sym, ap}
use Rattle.std.specs.Prelude.{Vec, bytes_eq}
use Rattle.std.specs.Ordering.{nat_cmp}
use Rattle.std.specs.Cmp.Lexicographic.{slice_cmp}
use Rattle.std.specs.FinMap.{get, get-empty, get-insert, get-remove, same_map, nat_cmp-IsAntisymmetric, slice_cmp-IsAntisymmetric}
use Rattle.std.specs.Option.{option_flatten}
use Rattle.std.specs.Result.{is_err}
use Rattle.std.proofs.lemmas.Cmp.{nat_list_cmp_total}
use Rattle.std.proofs.lemmas.Map.Text.{is_eq-slice_cmp}
use Rattle.std.proofs.lemmas.Slice.Eq.{bytes_eq-Decides}
use Rattle.irl_base.proofs.TextMaps.{value_at, is_of}
use Rattle.irl_ledger.specs.Noting.{NotePlaces, places_in, with_place}

-- what places have at a host after one host has another
pub get-with_place : (host : List ℕ) (place : Option ℕ) (places : NotePlaces) (q : List ℕ) → get (with_place host place places) q ≡ cond (bytes_eq q host) place (get places q)
get-with_place host None places q = get-remove nat_list_cmp_total places host q ∙ ap (λ b. cond b None (get places q)) (is_eq-slice_cmp q host)
get-with_place host (Some at) places q = get-insert nat_list_cmp_total places host at q ∙ ap (λ b. cond b (Some at) (get places q)) (is_eq-slice_cmp q host)

pub same_places : (a b : NotePlaces) → ((q : List ℕ) → get a q ≡ get b q) → a ≡ b
same_places a b each = same_map nat_list_cmp_total (slice_cmp-IsAntisymmetric nat_cmp-IsAntisymmetric) a b each

flat : (b : Bool) (place : Option ℕ) (o : Option (Option ℕ)) → option_flatten (cond b (Some place) o) ≡ cond b place (option_flatten o)
flat true place o = refl
flat false place o = refl

-- what the places of some entries have at a host
pub get-places_in : {A : Type 0} (es : List (Vec ℕ A × Option ℕ)) (q : List ℕ) → get (places_in es) q ≡ option_flatten (value_at es q)
get-places_in [] q = get-empty (slice_cmp nat_cmp) q
get-places_in (e ∷ es) q =
    get-with_place e.0.items e.1 (places_in es) q
    ∙ ap (λ o. cond (bytes_eq q e.0.items) e.1 o) (get-places_in es q)
    ∙ ap (λ b. cond b e.1 (option_flatten (value_at es q))) (sym (is_eq-slice_cmp q e.0.items))
    ∙ sym (flat (is_of q e.0) e.1 (value_at es q))

-- entries with another place at one text
pub places_set : {A : Type 0} (es new : List (Vec ℕ A × Option ℕ)) (host : List ℕ) (place : Option ℕ) → ((q : List ℕ) → value_at new q ≡ cond (bytes_eq q host) (Some place) (value_at es q))
    → places_in new ≡ with_place host place (places_in es)
places_set es new host place each = same_places (places_in new) (with_place host place (places_in es)) (λ q.
    get-places_in new q ∙ ap (λ o. option_flatten o) (each q) ∙ flat (bytes_eq q host) place (value_at es q)
    ∙ ap (λ o. cond (bytes_eq q host) place o) (sym (get-places_in es q)) ∙ sym (get-with_place host place (places_in es) q))

back : (q host : List ℕ) (b : Bool) → bytes_eq q host ≡ b → (at : Option ℕ) (places : NotePlaces) → cond b (get places host) (cond b at (get places q)) ≡ get places q
back q host true is at places = ap (get places) (sym ((bytes_eq-Decides q host).0 is))
back q host false is at places = refl

-- the place of before is put back
pub put_back : (host : List ℕ) (place : Option ℕ) (places : NotePlaces) → with_place host (get places host) (with_place host place places) ≡ places
put_back host place places = same_places (with_place host (get places host) (with_place host place places)) places (λ q.
    get-with_place host (get places host) (with_place host place places) q
    ∙ ap (λ o. cond (bytes_eq q host) (get places host) o) (get-with_place host place places q)
    ∙ back q host (bytes_eq q host) refl place places)

-- the host has the place that was set
pub place_set : (host : List ℕ) (place : Option ℕ) (places : NotePlaces) → get (with_place host place places) host ≡ place
place_set host place places = get-with_place host place places host ∙ ap (λ b. cond b place (get places host)) ((bytes_eq-Decides host host).1 refl)

on_err : {T E P : Type 0} (result : Result T E) → is_err result ≡ true → OnErr result P → P
on_err (Ok value) is has = absurd (cc)
on_err (Err error) is has = has

pub on_ok : {T E P : Type 0} (result : Result T E) → is_err result ≡ false → OnOk result P → P
on_ok (Ok value) is has = has
on_ok (Err error) is has = absurd (cc)

-- a host with a place has an entry
pub has_entry : {A T E : Type 0} (es : List (Vec ℕ A × Option ℕ)) (host : List ℕ) (places : NotePlaces) (result : Result T E) → places_in es ≡ places → (at : ℕ) × (get places host ≡ Some at)
    → is_err result ≡ true → OnErr result (value_at es host ≡ None) → ⊥
has_entry es host places result view has is absent =
    let none : get places host ≡ None = ap (λ (m : NotePlaces). get m host) (sym view) ∙ get-places_in es host ∙ ap (λ o. option_flatten o) (on_err result is absent) in
    let no : None ≡ Some has.0 = sym none ∙ has.1 in
    cc
