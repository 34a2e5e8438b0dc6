-- Pieces written one after another.
use Rattle.std.proofs.Common.{◌≡◌, ◌∙◌, ℕ, suc, ◌+◌, ◌<◌, min, List, ◌∷◌, ◌++◌, length, take, drop, get_or, Option, Some, None, sym, ap, subst, arith, append_assoc}
use Rattle.std.proofs.lemmas.Grind.{flat_map-append}
use Rattle.std.proofs.lemmas.List.Concat.{flat_map-cons}
use Rattle.std.proofs.Math.Seq.{take-append-add, split_at}
use Rattle.std.specs.List.{flat_map}
use Rattle.std.proofs.lemmas.List.{take_min, take-append-le}
use Rattle.std.specs.Io.KnownBytes.{Appends}
use Rattle.std.specs.Prelude.{Result, Ok, Err, OnErr}
use Rattle.irl_io.specs.Written.{AppendsPrefix}

pub appends_both : (a b c : Option (List ℕ)) (xs ys : List ℕ) → Appends a b xs → Appends b c ys → Appends a c (xs ++ ys)
appends_both None b c xs ys h k = tt
appends_both (Some a) None c xs ys h k = absurd h
appends_both (Some a) (Some b) None xs ys h k = absurd k
appends_both (Some a) (Some b) (Some c) xs ys h k = k ∙ ap (λ (l : List ℕ). l ++ ys) h ∙ append_assoc a xs ys

-- a prefix of a piece is one of more
pub prefix_more : (a b : Option (List ℕ)) (xs ys : List ℕ) → AppendsPrefix a b xs → AppendsPrefix a b (xs ++ ys)
prefix_more a b xs ys h =
    let n = min h.0 (length xs) in
    let same : take n (xs ++ ys) ≡ take h.0 xs = take-append-le n xs ys (omega arith) ∙ take_min h.0 xs in
    (n, subst (λ (piece : List ℕ). Appends a b piece) (sym same) h.1)

-- a whole piece and a prefix of the next
pub then_prefix : (a b c : Option (List ℕ)) (xs ys : List ℕ) → Appends a b xs → AppendsPrefix b c ys → AppendsPrefix a c (xs ++ ys)
then_prefix a b c xs ys h k = (length xs + k.0, subst (λ (piece : List ℕ). Appends a c piece) (sym (take-append-add xs ys k.0)) (appends_both a b c xs (take k.0 ys) h k.1))

-- a fact that holds anyway holds where a call failed
pub on_err_always : {T E : Type 0} (r : Result T E) (P : Type 0) → P → OnErr r P
on_err_always (Ok x) P h = tt
on_err_always (Err e) P h = h

-- the pieces before this one, and a prefix of it
pub pieces_part : {X : Type 0} (f : X → List ℕ) (pieces : List X) (i : ℕ) (d : X) (a b c : Option (List ℕ)) → i < length pieces → Appends a b (flat_map f (take i pieces))
    → AppendsPrefix b c (f (get_or pieces i d)) → AppendsPrefix a c (flat_map f pieces)
pieces_part f pieces i d a b c within before part =
    let rest = drop (suc i) pieces in
    let whole : flat_map f pieces ≡ flat_map f (take i pieces) ++ (f (get_or pieces i d) ++ flat_map f rest) =
    ap (λ l. flat_map f l) (split_at pieces i d within) ∙ flat_map-append f (take i pieces) (get_or pieces i d ∷ rest)
    ∙ ap (λ (l : List ℕ). flat_map f (take i pieces) ++ l) (flat_map-cons f (get_or pieces i d) rest) in
    subst (λ (l : List ℕ). AppendsPrefix a c l) (sym whole) (then_prefix a b c _ _ before (prefix_more b c _ _ part))
