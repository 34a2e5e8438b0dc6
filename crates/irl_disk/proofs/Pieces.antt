-- Bytes cut into pieces, one behind the other: setting one piece changes no other.
use Rattle.std.specs.Prelude.{◌≡◌, ℕ, ◌+◌, ◌-◌, ◌<◌, ◌≤◌, suc, List, [], ◌∷◌, ◌++◌, length, take, drop, get_or}
use Rattle.std.specs.List.{sum, sum_by, copy_within}
use Rattle.std.proofs.Common.{refl, sym, ap, subst, ◌∙◌, arith, zero, length-append, length-take, length-drop, append_assoc, set}
use Rattle.std.proofs.Math.Seq.{take-add, take-append-add}
use Rattle.std.proofs.lemmas.List.{take-take, drop-drop, drop-take, take_at, drop_at, take-append-le, drop-append-le, take_all, length-take-le, set-get_or, get_or-set_same, get_or-set_other, drop_all}
use Rattle.std.proofs.lemmas.List.Sums.{sum_by-cons}
use Rattle.irl_disk.specs.Disk.{Files, ChangesFile, Holds, IsPrefix}
use Rattle.irl_disk.specs.Sure.{pieces, files_cut, Resized}

-- the bytes before piece f, and those behind it
abbrev pub before : ℕ → List ℕ → ℕ
before f lengths = sum (take f lengths)

abbrev pub behind : ℕ → List ℕ → ℕ
behind f lengths = sum (drop (suc f) lengths)

sum-cons : (n : ℕ) (ns : List ℕ) → sum (n ∷ ns) ≡ n + sum ns
sum-cons n ns = sum_by-cons (λ x. x) n ns

pub pieces-length : (ns bs : List ℕ) → length (pieces ns bs) ≡ length ns
pieces-length [] bs = refl
pieces-length (n ∷ ns) bs = ap suc (pieces-length ns (drop n bs))

-- where piece f stands
pub piece_at : (ns bs : List ℕ) (f : ℕ) → get_or (pieces ns bs) f [] ≡ take (get_or ns f 0) (drop (before f ns) bs)
piece_at [] bs f = refl
piece_at (n ∷ ns) bs zero = refl
piece_at (n ∷ ns) bs (suc f) = piece_at ns (drop n bs) f ∙ ap (λ (xs : List ℕ). take (get_or ns f 0) xs) (drop-drop (before f ns) n bs ∙ ap (λ k. drop k bs) (sym (sum-cons n (take f ns))))

-- the lengths of the pieces are those that they were cut by, where there are so many bytes
pub pieces_total : (ns bs : List ℕ) → sum ns ≤ length bs → sum_by (λ (piece : List ℕ). length piece) (pieces ns bs) ≡ sum ns
pieces_total [] bs le = refl
pieces_total (n ∷ ns) bs le =
    let fits : n + sum ns ≤ length bs = omega (arith, sum-cons n ns) in
    let rest : sum ns ≤ length (drop n bs) = omega (arith, length-drop n bs) in
    sum_by-cons (λ (piece : List ℕ). length piece) (take n bs) (pieces ns (drop n bs)) ∙ omega (arith, pieces_total ns (drop n bs) rest, length-take n bs, sum-cons n ns)

-- the pieces are those of the bytes' front
pub pieces_front : (ns bs cs : List ℕ) → take (sum ns) bs ≡ take (sum ns) cs → pieces ns bs ≡ pieces ns cs
pieces_front [] bs cs same = refl
pieces_front (n ∷ ns) bs cs same =
    let all : take (n + sum ns) bs ≡ take (n + sum ns) cs = ap (λ k. take k bs) (sym (sum-cons n ns)) ∙ same ∙ ap (λ k. take k cs) (sum-cons n ns) in
    let first : take n bs ≡ take n cs = sym (take-take n (n + sum ns) bs (omega arith)) ∙ ap (λ (xs : List ℕ). take n xs) all ∙ take-take n (n + sum ns) cs (omega arith) in
    let rest : take (sum ns) (drop n bs) ≡ take (sum ns) (drop n cs) = sym (drop-take n (sum ns) bs) ∙ ap (λ (xs : List ℕ). drop n xs) all ∙ drop-take n (sum ns) cs in
    let others : pieces ns (drop n bs) ≡ pieces ns (drop n cs) = pieces_front ns (drop n bs) (drop n cs) rest in
    cc

-- one piece is replaced, and what stands behind it moves
pub piece_replaced : (ns : List ℕ) (f : ℕ) (bs cs new : List ℕ) → f < length ns → sum ns ≤ length bs
    → take (before f ns + length new + behind f ns) cs ≡ take (before f ns) bs ++ new ++ take (behind f ns) (drop (before f ns + get_or ns f 0) bs)
    → pieces (set ns f (length new)) cs ≡ set (pieces ns bs) f new
piece_replaced [] f bs cs new lt fits is = absurd (omega arith)
piece_replaced (n ∷ ns) zero bs cs new lt fits is =
    let l = length new in
    let s = sum ns in
    let left : l + s ≡ 0 + l + s = omega arith in
    let right : 0 + n ≡ n = omega arith in
    let was : take (l + s) cs ≡ new ++ take s (drop n bs) = ap (λ (k : ℕ). take k cs) left ∙ is ∙ ap (λ (k : ℕ). new ++ take s (drop k bs)) right in
    let first : take l cs ≡ new = sym (take-take l (l + s) cs (omega arith)) ∙ ap (λ (xs : List ℕ). take l xs) was ∙ take_at new (take s (drop n bs)) l refl in
    let rest : take s (drop l cs) ≡ take s (drop n bs) = sym (drop-take l s cs) ∙ ap (λ (xs : List ℕ). drop l xs) was ∙ drop_at new (take s (drop n bs)) l refl in
    let others : pieces ns (drop l cs) ≡ pieces ns (drop n bs) = pieces_front ns (drop l cs) (drop n bs) rest in
    cc
piece_replaced (n ∷ ns) (suc f) bs cs new lt fits is =
    let a = before f ns in
    let b = behind f ns in
    let l = length new in
    let tail = take b (drop (a + get_or ns f 0) (drop n bs)) in
    let short : n ≤ length bs = omega (arith, sum-cons n ns) in
    let front = take (n + a) bs ++ new in
    let enough : n ≤ length (take (n + a) bs) = omega (arith, length-take (n + a) bs) in
    let long : n ≤ length front = omega (arith, length-append (take (n + a) bs) new) in
    let at_n : take (n + a + l + b) cs ≡ front ++ take b (drop (n + a + get_or ns f 0) bs) =
    subst (λ (p : ℕ). take (p + l + b) cs ≡ take p bs ++ new ++ take b (drop (p + get_or ns f 0) bs)) (sum-cons n (take f ns)) is in
    let left : n + (a + l + b) ≡ n + a + l + b = omega arith in
    let right : n + (a + get_or ns f 0) ≡ n + a + get_or ns f 0 = omega arith in
    let moved : drop (a + get_or ns f 0) (drop n bs) ≡ drop (n + a + get_or ns f 0) bs = drop-drop (a + get_or ns f 0) n bs ∙ ap (λ (k : ℕ). drop k bs) right in
    let was : take (n + (a + l + b)) cs ≡ front ++ tail = ap (λ (k : ℕ). take k cs) left ∙ at_n ∙ ap (λ (xs : List ℕ). front ++ take b xs) (sym moved) in
    let first : take n cs ≡ take n bs =
    sym (take-take n (n + (a + l + b)) cs (omega arith)) ∙ ap (λ (xs : List ℕ). take n xs) was
    ∙ take-append-le n front tail long ∙ take-append-le n (take (n + a) bs) new enough ∙ take-take n (n + a) bs (omega arith) in
    let rest : take (a + l + b) (drop n cs) ≡ take a (drop n bs) ++ new ++ tail =
    sym (drop-take n (a + l + b) cs) ∙ ap (λ (xs : List ℕ). drop n xs) was
    ∙ drop-append-le n front tail long ∙ ap (λ (xs : List ℕ). xs ++ tail) (drop-append-le n (take (n + a) bs) new enough ∙ ap (λ (xs : List ℕ). xs ++ new) (drop-take n a bs)) in
    let others : pieces (set ns f l) (drop n cs) ≡ set (pieces ns (drop n bs)) f new =
    piece_replaced ns f (drop n bs) (drop n cs) new (omega arith) (omega (arith, length-drop n bs, sum-cons n ns)) rest in
    cc

-- the lengths before a piece, its own and those behind it
pub three_parts : (ns : List ℕ) (f : ℕ) → f < length ns → before f ns + get_or ns f 0 + behind f ns ≡ sum ns
three_parts [] f lt = absurd (omega arith)
three_parts (n ∷ ns) zero lt = omega (arith, sum-cons n ns)
three_parts (n ∷ ns) (suc f) lt = omega (arith, three_parts ns f (omega arith), sum-cons n ns, sum-cons n (take f ns))

-- a piece gets another length, and what stands behind it moves
pub piece_resized : (ns : List ℕ) (f : ℕ) (bs : List ℕ) (to : ℕ) → f < length ns → sum ns ≤ length bs → before f ns + to + behind f ns ≤ length bs
    → pieces (set ns f to) (copy_within bs (before f ns + get_or ns f 0) (sum ns) (before f ns + to)) ≡ set (pieces ns bs) f (take to (drop (before f ns) bs))
piece_resized ns f bs to lt fits room =
    let a = before f ns in
    let b = behind f ns in
    let n = get_or ns f 0 in
    let new = take to (drop a bs) in
    let parts = three_parts ns f lt in
    let tail = take b (drop (a + n) bs) in
    let left = drop (a + to + (sum ns - (a + n))) bs in
    let cs = copy_within bs (a + n) (sum ns) (a + to) in
    let count : sum ns - (a + n) ≡ b = omega arith in
    let long : length new ≡ to = length-take-le to (drop a bs) (omega (arith, length-drop a bs)) in
    let front : length (take (a + to) bs ++ tail) ≡ a + to + b = omega (
      arith,
      length-append (take (a + to) bs) tail,
      length-take (a + to) bs,
      length-take b (drop (a + n) bs),
      length-drop (a + n) bs,
    ) in
    let made : cs ≡ take (a + to) bs ++ tail ++ left = ap (λ (k : ℕ). take (a + to) bs ++ take k (drop (a + n) bs) ++ left) count in
    let is : take (a + to + b) cs ≡ take a bs ++ new ++ tail =
    ap (λ (xs : List ℕ). take (a + to + b) xs) made ∙ take_at (take (a + to) bs ++ tail) left (a + to + b) front ∙ ap (λ (xs : List ℕ). xs ++ tail) (take-add a to bs) in
    subst (λ (k : ℕ). pieces (set ns f k) cs ≡ set (pieces ns bs) f new) long
    (piece_replaced ns f bs cs new lt fits (subst (λ (k : ℕ). take (a + k + b) cs ≡ take a bs ++ new ++ tail) (sym long) is))

-- bytes are written over those of a piece, which has so many
pub piece_overwritten : (ns : List ℕ) (f : ℕ) (bs : List ℕ) (at : ℕ) (new : List ℕ) → f < length ns → sum ns ≤ length bs → at + length new ≤ get_or ns f 0
    → pieces ns (take (before f ns + at) bs ++ (new ++ drop (before f ns + at + length new) bs))
    ≡ set (pieces ns bs) f (take at (get_or (pieces ns bs) f []) ++ new ++ drop (at + length new) (get_or (pieces ns bs) f []))
piece_overwritten ns f bs at new lt fits within =
    let a = before f ns in
    let b = behind f ns in
    let n = get_or ns f 0 in
    let l = length new in
    let r = n - (at + l) in
    let p = a + at + l in
    let parts = three_parts ns f lt in
    let cs = take (a + at) bs ++ (new ++ drop p bs) in
    let file = take n (drop a bs) in
    let x = take at file ++ new ++ drop (at + l) file in
    let tail = take b (drop (a + n) bs) in
    let n_is : at + l + r ≡ n = omega arith in
    let p_is : a + (at + l) ≡ p = omega arith in
    let end_is : p + r ≡ a + n = omega arith in
    let file_long : length file ≡ n = length-take-le n (drop a bs) (omega (arith, length-drop a bs)) in
    let long : length x ≡ n = omega (arith, length-append (take at file ++ new) (drop (at + l) file), length-append (take at file) new, length-take at file, length-drop (at + l) file) in
    let at_file : take at file ≡ take at (drop a bs) = take-take at n (drop a bs) (omega arith) in
    let front : take a bs ++ take at file ≡ take (a + at) bs = ap (λ (xs : List ℕ). take a bs ++ xs) at_file ∙ sym (take-add a at bs) in
    let cut : drop (at + l) file ≡ take r (drop p bs) =
    ap (λ (k : ℕ). drop (at + l) (take k (drop a bs))) (sym n_is) ∙ drop-take (at + l) r (drop a bs) ∙ ap (λ (xs : List ℕ). take r xs) (drop-drop (at + l) a bs ∙ ap (λ (k : ℕ). drop k bs) p_is) in
    let rest : drop (at + l) file ++ tail ≡ take (r + b) (drop p bs) =
    ap (λ (xs : List ℕ). xs ++ tail) cut ∙ ap (λ (xs : List ℕ). take r (drop p bs) ++ take b xs) (ap (λ (k : ℕ). drop k bs) (sym end_is) ∙ sym (drop-drop r p bs)) ∙ sym (take-add r b (drop p bs)) in
    let head = take (a + at) bs in
    let head_long : length head ≡ a + at = length-take-le (a + at) bs (omega arith) in
    let count : a + n + b ≡ length head + (l + (r + b)) = omega arith in
    let is : take (a + n + b) cs ≡ take a bs ++ x ++ tail =
    ap (λ (k : ℕ). take k cs) count ∙ take-append-add head (new ++ drop p bs) (l + (r + b))
    ∙ ap (λ (xs : List ℕ). head ++ xs) (take-append-add new (drop p bs) (r + b) ∙ ap (λ (xs : List ℕ). new ++ xs) (sym rest))
    ∙ ap (λ (xs : List ℕ). xs ++ (new ++ (drop (at + l) file ++ tail))) (sym front)
    ∙ simp append_assoc in
    let set_same : set ns f n ≡ ns = set-get_or ns f 0 in
    let replaced : pieces (set ns f (length x)) cs ≡ set (pieces ns bs) f x =
    piece_replaced ns f bs cs x lt fits (subst (λ (k : ℕ). take (a + k + b) cs ≡ take a bs ++ x ++ tail) (sym long) is) in
    rw (piece_at ns bs f) (ap (λ (lengths : List ℕ). pieces lengths cs) (sym set_same ∙ ap (λ (k : ℕ). set ns f k) (sym long)) ∙ replaced)

pub piece_long : (ns bs : List ℕ) (f : ℕ) → sum ns ≤ length bs → length (get_or (pieces ns bs) f []) ≡ get_or ns f 0
piece_long [] bs f fits = refl
piece_long (n ∷ ns) bs zero fits = length-take-le n bs (omega (arith, sum-cons n ns))
piece_long (n ∷ ns) bs (suc f) fits = piece_long ns (drop n bs) f (omega (arith, sum-cons n ns, length-drop n bs))

-- ---- the same as files
pub piece_changes : (ns bs ms cs : List ℕ) (f : ℕ) (x : List ℕ) (step : List ℕ → List ℕ → Type 0) → f < length ns → pieces ms cs ≡ set (pieces ns bs) f x → step (files_cut ns bs f) x
    → ChangesFile f step (files_cut ns bs) (files_cut ms cs)
piece_changes ns bs ms cs f x step lt is steps = record {
  changed = subst (λ (new : List ℕ). step (files_cut ns bs f) new)
      (sym (ap (λ (files : List (List ℕ)). get_or files f []) is ∙ get_or-set_same (pieces ns bs) f x [] (omega (arith, pieces-length ns bs)))) steps;
  others = λ g ne. ap (λ (files : List (List ℕ)). get_or files g []) is ∙ get_or-set_other (pieces ns bs) f g x [] ne;
}

pub file_resized : (ns : List ℕ) (f : ℕ) (bs : List ℕ) (to : ℕ) (cs : List ℕ) → f < length ns → sum ns ≤ length bs → sum ns - get_or ns f 0 + to ≤ length bs
    → cs ≡ copy_within bs (before f ns + get_or ns f 0) (sum ns) (before f ns + to) → ChangesFile f (Resized to) (files_cut ns bs) (files_cut (set ns f to) cs)
file_resized ns f bs to cs lt fits room is =
    let parts = three_parts ns f lt in
    let x = take to (drop (before f ns) bs) in
    piece_changes ns bs (set ns f to) cs f x (Resized to) lt
    (ap (λ (xs : List ℕ). pieces (set ns f to) xs) is ∙ piece_resized ns f bs to lt fits (omega arith))
    (record {
      long = length-take-le to (drop (before f ns) bs) (omega (arith, length-drop (before f ns) bs));
      kept = λ k short within.
          take-take k to (drop (before f ns) bs) short
          ∙ sym (ap (λ (xs : List ℕ). take k xs) (piece_at ns bs f) ∙ take-take k (get_or ns f 0) (drop (before f ns) bs) (omega (arith, piece_long ns bs f fits)));
    })

pub file_overwritten : (ns : List ℕ) (f : ℕ) (bs : List ℕ) (at : ℕ) (new cs : List ℕ) → f < length ns → sum ns ≤ length bs → at + length new ≤ get_or ns f 0
    → cs ≡ take (before f ns + at) bs ++ (new ++ drop (before f ns + at + length new) bs) → ChangesFile f (Holds at new) (files_cut ns bs) (files_cut ns cs)
file_overwritten ns f bs at new cs lt fits within is =
    piece_changes ns bs ns cs f (take at (files_cut ns bs f) ++ new ++ drop (at + length new) (files_cut ns bs f)) (Holds at new) lt
    (ap (λ (xs : List ℕ). pieces ns xs) is ∙ piece_overwritten ns f bs at new lt fits within) refl

-- a file is made longer, and then written up to its new end
held_past : (at : ℕ) (new old mid done : List ℕ) → at ≤ length old → length old ≤ at + length new → Resized (at + length new) old mid → Holds at new mid done → Holds at new old done
held_past at new old mid done within past resized holds =
    let none : drop (at + length new) mid ≡ drop (at + length new) old = drop_all (at + length new) mid (omega (arith, resized.long)) ∙ sym (drop_all (at + length new) old past) in
    let same : take at mid ≡ take at old = resized.kept at (omega arith) within in
    holds ∙ ap (λ (xs : List ℕ). xs ++ new ++ drop (at + length new) mid) same ∙ ap (λ (xs : List ℕ). take at old ++ new ++ xs) none

pub file_written_past : (f at : ℕ) (new : List ℕ) (old mid done : Files) → at ≤ length (old f) → length (old f) ≤ at + length new
    → ChangesFile f (Resized (at + length new)) old mid → ChangesFile f (Holds at new) mid done → ChangesFile f (Holds at new) old done
file_written_past f at new old mid done within past first second = record {
  changed = held_past at new (old f) (mid f) (done f) within past first.changed second.changed;
  others = λ g ne. second.others g ne ∙ first.others g ne;
}

-- a file is cut to no more than it has
pub file_cut : (f to : ℕ) (old new : Files) → to ≤ length (old f) → ChangesFile f (Resized to) old new → ChangesFile f (IsPrefix to) old new
file_cut f to old new within changes = record {
  changed = sym (take_all to (new f) (omega (arith, changes.changed.long))) ∙ changes.changed.kept to (omega arith) within;
  others = changes.others;
}
