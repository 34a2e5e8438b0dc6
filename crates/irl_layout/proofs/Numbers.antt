-- Lists of numbers as bytes, where each number has as many.
use Rattle.std.proofs.Common.{◌≡◌, ◌∙◌, ℕ, ◌+◌, ◌*◌, ◌<◌, ◌≤◌, List, [], ◌∷◌, ◌++◌, length, take, get_or, refl, sym, ap, arith, append_assoc, append-nil, length-append, length-take-le}
use Rattle.std.specs.List.{flat_map}
use Rattle.std.proofs.lemmas.List.{take_more}
use Rattle.std.proofs.lemmas.Grind.{flat_map-append}
use Rattle.std.proofs.lemmas.List.Concat.{flat_map-cons}
use Rattle.byteorder.specs.Endian.{little_bytes}
use Rattle.irl_journal.specs.Appending.{Draft}
use Rattle.irl_layout.specs.Commits.{Commit, commit_bytes}

module _ {X : Type 0} (f : X → List ℕ) where
  -- the bytes of all, where each has n
  pub length-flat : (n : ℕ) (xs : List X) → ((x : X) → length (f x) ≡ n) → length (flat_map f xs) ≡ n * length xs
  length-flat n [] each = omega arith
  length-flat n (x ∷ xs) each = ap length (flat_map-cons f x xs) ∙ omega (arith, each x, length-flat n xs each, length-append (f x) (flat_map f xs))

  -- one more
  pub flat-more : (xs : List X) (i : ℕ) (d : X) → i < length xs → flat_map f (take (i + 1) xs) ≡ flat_map f (take i xs) ++ f (get_or xs i d)
  flat-more xs i d within =
      ap (flat_map f) (take_more xs i d within) ∙ flat_map-append f (take i xs) (get_or xs i d ∷ [])
      ∙ ap (λ (l : List ℕ). flat_map f (take i xs) ++ l) (flat_map-cons f (get_or xs i d) [] ∙ append-nil (f (get_or xs i d)))

  -- one, four and then more behind what there is
  pub flat-joined : (before : List ℕ) (first : ℕ) (a b c d : X) (more : List X)
      → ((before ++ first ∷ []) ++ flat_map f (a ∷ b ∷ c ∷ d ∷ [])) ++ flat_map f more ≡ before ++ first ∷ (f a ++ (f b ++ (f c ++ (f d ++ flat_map f more))))
  flat-joined before first a b c d more = simp (append_assoc, append-nil)

-- a frame with room for numbers of eight bytes each has room for the next of them
pub next_fits : (f : ℕ → List ℕ) (numbers bytes : List ℕ) (room i : ℕ) (frame : Draft) → ((x : ℕ) → length (f x) ≡ 8) → length bytes + 8 * length numbers ≤ room → i < length numbers
    → frame ≡ record { room = room; bytes = bytes ++ flat_map f (take i numbers) } → length frame.bytes + 8 ≤ frame.room
next_fits f numbers bytes room i frame each fits within is =
    let behind = ap (λ (d : Draft). length d.bytes) is in
    let room_is = ap (λ (d : Draft). d.room) is in
    omega (arith, behind, room_is, length-append bytes (flat_map f (take i numbers)), length-flat f 8 (take i numbers) each, length-take-le i numbers (omega arith))

-- and has it then
abbrev pub draft : ℕ → List ℕ → Draft
draft room bytes = record { room = room; bytes = bytes }

pub next_put : (f : ℕ → List ℕ) (numbers bytes : List ℕ) (room i : ℕ) (frame : Draft) → i < length numbers → frame ≡ draft room (bytes ++ flat_map f (take i numbers))
    → draft frame.room (frame.bytes ++ f (get_or numbers i 0)) ≡ draft room (bytes ++ flat_map f (take (i + 1) numbers))
next_put f numbers bytes room i frame within is =
    ap (λ (d : Draft). draft d.room (d.bytes ++ f (get_or numbers i 0))) is
    ∙ ap (draft room) (append_assoc bytes (flat_map f (take i numbers)) (f (get_or numbers i 0)) ∙ ap (λ (l : List ℕ). bytes ++ l) (sym (flat-more f numbers i 0 within)))

-- ---- the payload of a commit
pub length-commit : (commit : Commit) → length (commit_bytes commit) ≡ 33 + 8 * length commit.cut
length-commit commit = omega (arith, length-flat (little_bytes 8) 8 commit.cut (λ x. refl))

-- a byte, four numbers and more of them are put
pub commit_put : (f : ℕ → List ℕ) (room first a b c d : ℕ) (before more : List ℕ) (one two three : Draft) → one ≡ draft room (before ++ first ∷ [])
    → two ≡ draft one.room (one.bytes ++ flat_map f (a ∷ b ∷ c ∷ d ∷ [])) → three ≡ draft two.room (two.bytes ++ flat_map f more)
    → three ≡ draft room (before ++ first ∷ (f a ++ (f b ++ (f c ++ (f d ++ flat_map f more)))))
commit_put f room first a b c d before more one two three put_one put_two put_three =
    let after_two = put_two ∙ ap (λ (frame : Draft). draft frame.room (frame.bytes ++ flat_map f (a ∷ b ∷ c ∷ d ∷ []))) put_one in
    put_three ∙ ap (λ (frame : Draft). draft frame.room (frame.bytes ++ flat_map f more)) after_two ∙ ap (draft room) (flat-joined f before first a b c d more)

-- there is room for the four once the byte is put, and then for the others
pub four_fit : (room first n : ℕ) (before : List ℕ) (one : Draft) → length before + (33 + 8 * n) ≤ room → one ≡ draft room (before ++ first ∷ []) → length one.bytes + 32 ≤ one.room
four_fit room first n before one fits put_one =
    omega (arith, ap (λ (d : Draft). length d.bytes) put_one, ap (λ (d : Draft). d.room) put_one, length-append before (first ∷ []))

pub others_fit : (room first n : ℕ) (before four : List ℕ) (one two : Draft) → length before + (33 + 8 * n) ≤ room → length four ≡ 32 → one ≡ draft room (before ++ first ∷ [])
    → two ≡ draft one.room (one.bytes ++ four) → length two.bytes + 8 * n ≤ two.room
others_fit room first n before four one two fits is_four put_one put_two =
    omega (
      arith,
      ap (λ (d : Draft). length d.bytes) put_one,
      ap (λ (d : Draft). d.room) put_one,
      length-append before (first ∷ []),
      ap (λ (d : Draft). length d.bytes) put_two,
      ap (λ (d : Draft). d.room) put_two,
      length-append one.bytes four,
    )

-- an empty frame with room for a commit has room for it, and has it then
pub commit_fits : (frame : Draft) (buckets : ℕ) (commit : Commit) → frame ≡ draft (33 + 8 * buckets) [] → length commit.cut ≡ buckets → length frame.bytes + length (commit_bytes commit) ≤ frame.room
commit_fits frame buckets commit is count =
    rw (length-commit commit) (omega (arith, ap (λ (d : Draft). length d.bytes) is, ap (λ (d : Draft). d.room) is, count))

pub commit_in_frame : (frame after : Draft) (room : ℕ) (next commit : Commit) → frame ≡ draft room [] → after ≡ draft frame.room (frame.bytes ++ commit_bytes next) → next ≡ commit
    → after.bytes ≡ commit_bytes commit
commit_in_frame frame after room next commit is put same =
    ap (λ (d : Draft). d.bytes) put ∙ ap (λ (d : Draft). d.bytes ++ commit_bytes next) is ∙ ap commit_bytes same
