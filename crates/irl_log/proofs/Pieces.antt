-- Lists of pieces of one width as bytes, and frames to which bytes are put.
use Rattle.std.proofs.Common.{◌≡◌, ◌∙◌, ℕ, ◌+◌, ◌*◌, ◌<◌, ◌≤◌, List, [], ◌∷◌, ◌++◌, length, take, get_or, sym, ap, arith, append_assoc, append-nil, length-append, length-take-le, take_all}
use Rattle.std.specs.List.{flat_map}
use Rattle.std.proofs.Math.Nat.{mul-le-mul_left}
use Rattle.std.proofs.lemmas.List.{take_more}
use Rattle.std.proofs.lemmas.Grind.{flat_map-append}
use Rattle.std.proofs.lemmas.List.Concat.{flat_map-cons}
use Rattle.irl_journal.specs.Appending.{Draft}

-- ---- pieces
-- the bytes of all, where each has n
pub length-pieces : {X : Type 0} (f : X → List ℕ) (n : ℕ) (xs : List X) → ((x : X) → length (f x) ≡ n) → length (flat_map f xs) ≡ n * length xs
length-pieces f n [] each = omega arith
length-pieces f n (x ∷ xs) each = ap length (flat_map-cons f x xs) ∙ omega (arith, each x, length-pieces f n xs each, length-append (f x) (flat_map f xs))

-- one more
pub one_more : {X : Type 0} (f : X → List ℕ) (xs : List X) (i : ℕ) (d : X) → i < length xs → flat_map f (take (i + 1) xs) ≡ flat_map f (take i xs) ++ f (get_or xs i d)
one_more f xs i d within =
    ap (flat_map f) (take_more xs i d within) ∙ flat_map-append f (take i xs) (get_or xs i d ∷ [])
    ∙ ap (λ (l : List ℕ). flat_map f (take i xs) ++ l) (flat_map-cons f (get_or xs i d) [] ∙ append-nil (f (get_or xs i d)))

-- ---- frames
abbrev pub draft : ℕ → List ℕ → Draft
draft room bytes = record { room = room; bytes = bytes }

-- bytes are put behind others
pub put_then : (room : ℕ) (before more : List ℕ) (old new : Draft) → old ≡ draft room before → new ≡ draft old.room (old.bytes ++ more) → new ≡ draft room (before ++ more)
put_then room before more old new is put = put ∙ ap (λ (d : Draft). draft d.room (d.bytes ++ more)) is

-- the same room, and that many bytes
pub room_left : (room : ℕ) (before : List ℕ) (frame : Draft) → frame ≡ draft room before → (frame.room ≡ room) × (length frame.bytes ≡ length before)
room_left room before frame is = (ap (λ (d : Draft). d.room) is, ap (λ (d : Draft). length d.bytes) is)

-- a frame with room for all pieces, to which the first are put, has room for the next
pub next_fits : {X : Type 0} (f : X → List ℕ) (n : ℕ) (xs : List X) (bytes : List ℕ) (room i : ℕ) (frame : Draft) → ((x : X) → length (f x) ≡ n) → length bytes + n * length xs ≤ room → i < length xs
    → frame ≡ draft room (bytes ++ flat_map f (take i xs)) → length frame.bytes + n ≤ frame.room
next_fits f n xs bytes room i frame each fits within is =
    let left = room_left room (bytes ++ flat_map f (take i xs)) frame is in
    let upto : length (take i xs) + 1 ≤ length xs = omega (arith, length-take-le i xs (omega arith)) in
    omega (arith, left, length-append bytes (flat_map f (take i xs)), length-pieces f n (take i xs) each, length-take-le i xs (omega arith), mul-le-mul_left n upto)

-- and once that is put, has one more
pub next_put : {X : Type 0} (f : X → List ℕ) (xs : List X) (bytes : List ℕ) (room i : ℕ) (d : X) (frame new : Draft) → i < length xs
    → frame ≡ draft room (bytes ++ flat_map f (take i xs)) → new ≡ draft frame.room (frame.bytes ++ f (get_or xs i d)) → new ≡ draft room (bytes ++ flat_map f (take (i + 1) xs))
next_put f xs bytes room i d frame new within so_far put =
    put_then room (bytes ++ flat_map f (take i xs)) (f (get_or xs i d)) frame new so_far put
    ∙ ap (draft room) (append_assoc bytes (flat_map f (take i xs)) (f (get_or xs i d)) ∙ ap (λ (l : List ℕ). bytes ++ l) (sym (one_more f xs i d within)))

-- at the end all are put
pub all_put : {X : Type 0} (f : X → List ℕ) (xs : List X) (bytes : List ℕ) (room i : ℕ) (frame : Draft) → length xs ≤ i → frame ≡ draft room (bytes ++ flat_map f (take i xs))
    → frame ≡ draft room (bytes ++ flat_map f xs)
all_put f xs bytes room i frame past is = is ∙ ap (λ (l : List _). draft room (bytes ++ flat_map f l)) (take_all i xs past)
