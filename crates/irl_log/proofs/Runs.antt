-- Bytes that are read piece by piece.
use Rattle.std.proofs.Common.{◌≡◌, ◌∙◌, ℕ, ◌≤◌, List, [], ◌∷◌, ◌++◌, length, Option, None, Some, refl, sym, ap, arith, append_assoc, append-nil}
use Rattle.std.specs.List.{flat_map, AllByRecursion}
use Rattle.std.proofs.lemmas.Grind.{flat_map-append}
use Rattle.std.proofs.lemmas.List.{nil_from_length}
use Rattle.std.proofs.lemmas.List.Concat.{flat_map-cons}
use Rattle.irl_offer.specs.declared.outcome.Outcome.{Outcome}
use Rattle.irl_log.specs.Form.{IsDone}
use Rattle.irl_log.specs.Spelling.{done_bytes}
use Rattle.irl_log.proofs.Words.{same_front}

-- ---- what was read
-- some pieces, each of which is as it has to be, and then a rest
pub record HasRead {X : Type 0} (f : X → List ℕ) (P : X → Type 0) (bytes rest : List ℕ) (pieces : List X) : Type 0 where
  pub each : AllByRecursion P pieces
  pub are : bytes ≡ flat_map f pieces ++ rest

all_more : {X : Type 0} (P : X → Type 0) (xs : List X) (x : X) → AllByRecursion P xs → P x → AllByRecursion P (xs ++ x ∷ [])
all_more P [] x all here = (here, tt)
all_more P (y ∷ ys) x all here = (all.0, all_more P ys x all.1 here)

pub read_none : {X : Type 0} (f : X → List ℕ) (P : X → Type 0) (bytes : List ℕ) → HasRead f P bytes bytes []
read_none f P bytes = record { each = tt; are = refl }

pub read_more : {X : Type 0} (f : X → List ℕ) (P : X → Type 0) (bytes rest behind : List ℕ) (pieces : List X) (x : X) → HasRead f P bytes rest pieces → rest ≡ f x ++ behind → P x
    → HasRead f P bytes behind (pieces ++ x ∷ [])
read_more f P bytes rest behind pieces x so_far here good =
    let one : flat_map f (pieces ++ x ∷ []) ≡ flat_map f pieces ++ f x =
    flat_map-append f pieces (x ∷ []) ∙ ap (λ (l : List ℕ). flat_map f pieces ++ l) (flat_map-cons f x [] ∙ append-nil (f x)) in
    record {
      each = all_more P pieces x so_far.each good;
      are = so_far.are ∙ ap (λ (l : List ℕ). flat_map f pieces ++ l) here ∙ sym (append_assoc (flat_map f pieces) (f x) behind) ∙ ap (λ (l : List ℕ). l ++ behind) (sym one);
    }

pub read_all : {X : Type 0} (f : X → List ℕ) (P : X → Type 0) (bytes rest : List ℕ) (pieces : List X) → HasRead f P bytes rest pieces → length rest ≡ 0 → bytes ≡ flat_map f pieces
read_all f P bytes rest pieces so_far none =
    so_far.are ∙ ap (λ (l : List ℕ). flat_map f pieces ++ l) (nil_from_length rest none) ∙ append-nil (flat_map f pieces)

-- ---- what is left, where all are outcomes
-- it has the bytes of outcomes too
abbrev pub AreDones : List ℕ → Type 0
AreDones bytes = (done : List (ℕ × Outcome)) × AllByRecursion IsDone done × (bytes ≡ flat_map done_bytes done)

pub dones_behind : (rest behind : List ℕ) (one : ℕ × Outcome) → rest ≡ done_bytes one ++ behind → AreDones rest → AreDones behind
dones_behind rest behind one here ([], all, are) = absurd (omega (arith, ap length (sym here ∙ are)))
dones_behind rest behind one here (done ∷ more, all, are) =
    (more, all.1, (same_front (done_bytes one) (done_bytes done) behind (flat_map done_bytes more) refl (sym here ∙ are ∙ flat_map-cons done_bytes done more)).1)

pub no_dones : (rest : List ℕ) → 1 ≤ length rest → ((done : ℕ × Outcome) (behind : List ℕ) → IsDone done → rest ≡ done_bytes done ++ behind → ⊥) → AreDones rest → ⊥
no_dones rest some none ([], all, are) = omega (arith, some, ap length are)
no_dones rest some none (done ∷ more, all, are) = none done (flat_map done_bytes more) all.0 (are ∙ flat_map-cons done_bytes done more)

-- ---- an option that is no value
pub none_else : {A : Type 0} (o : Option A) → ((x : A) → o ≡ Some x → ⊥) → o ≡ None
none_else None never = refl
none_else (Some x) never = absurd (never x refl)
