-- Hosts that are entered, and what is read of notes.
use Rattle.std.proofs.Common.{◌≡◌, ◌∙◌, ℕ, zero, suc, ◌+◌, ◌<◌, true, false, cond, List, [], ◌∷◌, ◌++◌, length, set, Option, Some, None, refl, sym, ap, inl, inr, arith}
use Rattle.std.specs.Prelude.{slice_get, bytes_eq}
use Rattle.std.specs.List.{All, AllZip}
use Rattle.std.proofs.lemmas.Bool.{cases_lt}
use Rattle.std.proofs.lemmas.List.{length-append, length-set}
use Rattle.std.proofs.lemmas.List.Elements.{All-push}
use Rattle.irl_polite.specs.declared.hosts.Host.{Host}
use Rattle.irl_polite.specs.declared.known.Known.{Known}
use Rattle.irl_polite.specs.Inside.{IsTable, IsResting, Grows, seen, host_at, Noted}
use Rattle.irl_polite.proofs.Lists.{get_within, same_some, cases_text}

pub get_left : {X : Type 0} (xs ys : List X) (i : ℕ) → i < length xs → slice_get (xs ++ ys) i ≡ slice_get xs i
get_left [] ys i h = absurd (omega arith)
get_left (x ∷ xs) ys zero h = refl
get_left (x ∷ xs) ys (suc i) h = get_left xs ys i (omega arith)

pub get_end : {X : Type 0} (xs : List X) (y : X) (i : ℕ) → i ≡ length xs → slice_get (xs ++ y ∷ []) i ≡ Some y
get_end [] y zero e = refl
get_end [] y (suc i) e = absurd (omega arith)
get_end (x ∷ xs) y zero e = absurd (omega arith)
get_end (x ∷ xs) y (suc i) e = get_end xs y i (omega arith)

pub grows_same : (names : List ℕ → Option ℕ) (hosts : List Host) → IsTable names hosts → All IsResting hosts → Grows names hosts names hosts
grows_same names hosts table resting = record { table = table; resting = resting; kept = λ name place e. e; same = λ name. refl }

pub grows_on : (n0 : List ℕ → Option ℕ) (h0 : List Host) (n1 : List ℕ → Option ℕ) (h1 : List Host) (n2 : List ℕ → Option ℕ) (h2 : List Host)
    → Grows n0 h0 n1 h1 → Grows n1 h1 n2 h2 → Grows n0 h0 n2 h2
grows_on n0 h0 n1 h1 n2 h2 a b = record {
  table = b.table;
  resting = b.resting;
  kept = λ name place e. b.kept name place (a.kept name place e);
  same = λ name. b.same name ∙ a.same name;
}

module _ (names names' : List ℕ → Option ℕ) (hosts : List Host) (name : List ℕ) (table : IsTable names hosts) (resting : All IsResting hosts)
    (absent : names name ≡ None) (entered : (q : List ℕ) → names' q ≡ cond (bytes_eq q name) (Some (length hosts)) (names q)) where
  at_it : (q : List ℕ) → bytes_eq q name ≡ true → names' q ≡ Some (length hosts)
  at_it q e = entered q ∙ ap (λ b. cond b (Some (length hosts)) (names q)) e

  at_other : (q : List ℕ) → bytes_eq q name ≡ false → names' q ≡ names q
  at_other q e = entered q ∙ ap (λ b. cond b (Some (length hosts)) (names q)) e

  len : length (hosts ++ record { name = name; known = None; due = 0; awaited = false; first = None } ∷ []) ≡ length hosts + 1
  len = length-append hosts (record { name = name; known = None; due = 0; awaited = false; first = None } ∷ [])

  seen_after : (o : Option ℕ) → ((p : ℕ) → o ≡ Some p → p < length hosts) → seen (host_at (hosts ++ record { name = name; known = None; due = 0; awaited = false; first = None } ∷ []) o)
      ≡ seen (host_at hosts o)
  seen_after None within = refl
  seen_after (Some p) within = ap seen (get_left hosts (record { name = name; known = None; due = 0; awaited = false; first = None } ∷ []) p (within p refl))

  pub grows_entered : Grows names hosts names' (hosts ++ record { name = name; known = None; due = 0; awaited = false; first = None } ∷ [])
  grows_entered =
      let added : Host = record { name = name; known = None; due = 0; awaited = false; first = None } in
      let count : length (hosts ++ added ∷ []) ≡ length hosts + 1 = len in
      record {
        table = record {
          within = λ q p e. elim (cases_text q name) [
            | inl (is, same) ↦ let at : length hosts ≡ p = same_some (length hosts) p (sym (at_it q is) ∙ e) in omega arith
            | inr (is, other) ↦ let had : p < length hosts = table.within q p (sym (at_other q is) ∙ e) in omega arith
          ];
          apart = λ a b p ea eb. elim (cases_text a name) [
            | inl (isa, samea) ↦ elim (cases_text b name) [
              | inl (isb, sameb) ↦ samea ∙ sym sameb
              | inr (isb, otherb) ↦
                  let at : length hosts ≡ p = same_some (length hosts) p (sym (at_it a isa) ∙ ea) in
                  let had : p < length hosts = table.within b p (sym (at_other b isb) ∙ eb) in
                  absurd (omega arith)
            ]
            | inr (isa, othera) ↦ elim (cases_text b name) [
              | inl (isb, sameb) ↦
                  let at : length hosts ≡ p = same_some (length hosts) p (sym (at_it b isb) ∙ eb) in
                  let had : p < length hosts = table.within a p (sym (at_other a isa) ∙ ea) in
                  absurd (omega arith)
              | inr (isb, otherb) ↦ table.apart a b p (sym (at_other a isa) ∙ ea) (sym (at_other b isb) ∙ eb)
            ]
          ];
          named = λ p h e ready. elim (cases_lt p (length hosts)) [
            | inl lt ↦
                let had : names h.name ≡ Some p = table.named p h (sym (get_left hosts (added ∷ []) p lt) ∙ e) ready in
                elim (cases_text h.name name) [
                  | inl (is, same) ↦ let no_place : None ≡ Some p = sym absent ∙ ap names (sym same) ∙ had in absurd cc
                  | inr (is, other) ↦ at_other h.name is ∙ had
                ]
            | inr ge ↦
                let within : p < length (hosts ++ added ∷ []) = get_within (hosts ++ added ∷ []) p h e in
                let last : p ≡ length hosts = omega arith in
                let is : added ≡ h = same_some added h (sym (get_end hosts added p last) ∙ e) in
                let text : h.name ≡ name = ap (λ (x : Host). x.name) (sym is) in
                elim (cases_text h.name name) [
                  | inl (t, same) ↦ at_it h.name t ∙ ap Some (sym last)
                  | inr (t, other) ↦ absurd (other text)
                ]
          ];
        };
        resting = All-push IsResting hosts added resting (refl, refl);
        kept = λ q p e. elim (cases_text q name) [
          | inl (is, same) ↦ let no_place : None ≡ Some p = sym absent ∙ ap names (sym same) ∙ e in absurd cc
          | inr (is, other) ↦ at_other q is ∙ e
        ];
        same = λ q. elim (cases_text q name) [
          | inl (is, same) ↦
              ap (λ o. seen (host_at (hosts ++ added ∷ []) o)) (at_it q is) ∙ ap seen (get_end hosts added (length hosts) refl)
              ∙ sym (ap (λ o. seen (host_at hosts o)) (ap names same ∙ absent))
          | inr (is, other) ↦
              ap (λ o. seen (host_at (hosts ++ added ∷ []) o)) (at_other q is) ∙ seen_after (names q) (λ p e. table.within q p e)
        ];
      }

-- what holds of two lists, place by place, holds with one more, and where more holds
pub all_zip_push : {X Y : Type 0} (R : X → Y → Type 0) (xs : List X) (ys : List Y) (x : X) (y : Y) → AllZip R xs ys → R x y → AllZip R (xs ++ x ∷ []) (ys ++ y ∷ [])
all_zip_push R [] [] x y all r = (r, all)
all_zip_push R [] (b ∷ ys) x y all r = absurd all
all_zip_push R (a ∷ xs) [] x y all r = absurd all
all_zip_push R (a ∷ xs) (b ∷ ys) x y all r = (all.0, all_zip_push R xs ys x y all.1 r)

pub all_zip_weaker : {X Y : Type 0} (R S : X → Y → Type 0) → ((x : X) (y : Y) → R x y → S x y) → (xs : List X) (ys : List Y) → AllZip R xs ys → AllZip S xs ys
all_zip_weaker R S f [] [] all = all
all_zip_weaker R S f [] (b ∷ ys) all = absurd all
all_zip_weaker R S f (a ∷ xs) [] all = absurd all
all_zip_weaker R S f (a ∷ xs) (b ∷ ys) all = (f a b all.0, all_zip_weaker R S f xs ys all.1)

-- one more that was read comes in place of what was known
pub noted_more : (old : List Host) (xs : List (ℕ × Known)) (now new : List Host) (x : ℕ × Known) (owner : Host) → Noted old xs now → slice_get now x.0 ≡ Some owner
    → new ≡ set now x.0 (record owner { known = Some x.1 }) → Noted old (xs ++ x ∷ []) new
noted_more old [] now new x owner n held e =
    (owner, ap (λ (hs : List Host). slice_get hs x.0) (sym n) ∙ held, e ∙ ap (λ (hs : List Host). set hs x.0 (record owner { known = Some x.1 })) n)
noted_more old (y ∷ xs) now new x owner n held e = (n.0, n.1, noted_more (set old y.0 (record n.0 { known = Some y.1 })) xs now new x owner n.2 held e)

pub noted_length : (old : List Host) (xs : List (ℕ × Known)) (new : List Host) → Noted old xs new → length new ≡ length old
noted_length old [] new n = ap length n
noted_length old (y ∷ xs) new n =
    noted_length (set old y.0 (record n.0 { known = Some y.1 })) xs new n.2 ∙ length-set old y.0 (record n.0 { known = Some y.1 })
