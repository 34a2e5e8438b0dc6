-- A suffix text with one more name.
use Rattle.std.proofs.Common.{◌≡◌, ◌∙◌, ℕ, ◌+◌, Bool, true, false, ◌&&◌, ◌||◌, ◌==◌, cond, not, List, [], ◌∷◌, ◌++◌, Some, None, All, refl, sym, ap, arith, length}
use Rattle.std.specs.Prelude.{Vec, bytes_eq, nat_le}
use Rattle.std.specs.List.{list_any, list_all, position_from, onto_first}
use Rattle.std.specs.BTreeSet.{BTreeSet, insert_key}
use Rattle.std.proofs.lemmas.Bool.{cond-false, false≢true}
use Rattle.std.proofs.lemmas.Bool.Decides.{nat_tests}
use Rattle.std.proofs.lemmas.List.Splits.{slice_split_none}
use Rattle.std.proofs.lemmas.List.Elements.{All-nil, All-cons}
use Rattle.irl_pld.specs.Cut.{cut, split, parts_left}
use Rattle.irl_pld.specs.Names.{lines_of, is_name, is_label, is_name_byte, is_bad}
use Rattle.irl_pld.specs.Sets.{has_name, AreNamesOf}
use Rattle.irl_pld.proofs.CutLemmas.{split-cut}
use Rattle.irl_pld.proofs.SetLemmas.{vec_cmp, is_of, has_name-insert}
use Rattle.irl_record.specs.Names.{joined}

-- ---- parts

onto_first-append : (x : ℕ) (first : List ℕ) (rest more : List (List ℕ)) → onto_first x ((first ∷ rest) ++ more) ≡ onto_first x (first ∷ rest) ++ more
onto_first-append x first rest more = refl

split_by : (x : ℕ) (xs ys : List ℕ) (test : Bool) → split 10 (xs ++ 10 ∷ ys) ≡ split 10 xs ++ split 10 ys
    → cond test ([] ∷ split 10 (xs ++ 10 ∷ ys)) (onto_first x (split 10 (xs ++ 10 ∷ ys))) ≡ cond test ([] ∷ split 10 xs) (onto_first x (split 10 xs)) ++ split 10 ys
split_by x xs ys true later = ap (λ l. [] ∷ l) later
split_by x xs ys false later =
    ap (onto_first x) (later ∙ ap (λ l. l ++ split 10 ys) (split-cut 10 xs))
    ∙ sym (ap (λ l. onto_first x l ++ split 10 ys) (split-cut 10 xs))

-- the lines on the two sides of a line feed
split-line_feed : (xs ys : List ℕ) → split 10 (xs ++ 10 ∷ ys) ≡ split 10 xs ++ split 10 ys
split-line_feed [] ys = refl
split-line_feed (x ∷ xs) ys = split_by x xs ys (x == 10) (split-line_feed xs ys)

-- ---- names

abbrev IsNotLineFeed : ℕ → Type 0
IsNotLineFeed b = (b == 10) ≡ false

abbrev is_clean : List (List ℕ) → Bool
is_clean parts = list_all (λ part. list_all is_name_byte part) parts

and-left : (a b : Bool) → (a && b) ≡ true → a ≡ true
and-left true b h = refl
and-left false b h = absurd (false≢true h)

and-right : (a b : Bool) → (a && b) ≡ true → b ≡ true
and-right true b h = h
and-right false b h = absurd (false≢true h)

labels_clean : (parts : List (List ℕ)) → list_all is_label parts ≡ true → is_clean parts ≡ true
labels_clean [] h = refl
labels_clean (p ∷ ps) h =
    let one : list_all is_name_byte p ≡ true = and-right _ _ (and-left (is_label p) (list_all is_label ps) h) in
    let others : is_clean ps ≡ true = labels_clean ps (and-right (is_label p) (list_all is_label ps) h) in
    ap (λ b. b && is_clean ps) one ∙ others

name_byte-line_feed : (b : ℕ) → is_name_byte b ≡ true → (b == 10) ≡ false
name_byte-line_feed b h = grind (arith, nat_tests)

clean_onto : (b : ℕ) (part : List ℕ) (parts : List (List ℕ)) → is_clean (onto_first b (part ∷ parts)) ≡ true → (is_name_byte b ≡ true) × (is_clean (part ∷ parts) ≡ true)
clean_onto b part parts h =
    let first : (is_name_byte b && list_all is_name_byte part) ≡ true = and-left _ (is_clean parts) h in
    (and-left _ _ first, ap (λ t. t && is_clean parts) (and-right (is_name_byte b) _ first) ∙ and-right (is_name_byte b && list_all is_name_byte part) _ h)

clean_by : (b : ℕ) (bytes : List ℕ) (test : Bool) → (b == 46) ≡ test → is_clean (cond test ([] ∷ split 46 bytes) (onto_first b (split 46 bytes))) ≡ true
    → (is_clean (split 46 bytes) ≡ true → All IsNotLineFeed bytes) → All IsNotLineFeed (b ∷ bytes)
clean_by b bytes true dot h later =
    let other : (b == 10) ≡ false = grind (arith, nat_tests) in
    All-cons IsNotLineFeed b bytes other (later h)
clean_by b bytes false dot h later =
    let both = clean_onto b (cut 46 bytes).0 (parts_left 46 (cut 46 bytes).1) (sym (ap (λ l. is_clean (onto_first b l)) (split-cut 46 bytes)) ∙ h) in
    All-cons IsNotLineFeed b bytes (name_byte-line_feed b both.0) (later (ap is_clean (split-cut 46 bytes) ∙ both.1))

clean : (bytes : List ℕ) → is_clean (split 46 bytes) ≡ true → All IsNotLineFeed bytes
clean [] h = All-nil IsNotLineFeed
clean (b ∷ bytes) h = clean_by b bytes (b == 46) refl h (clean bytes)

-- a name is one line
name_line : (name : List ℕ) → is_name name ≡ true → lines_of name ≡ name ∷ []
name_line [] is = absurd (false≢true is)
name_line (b ∷ name) is =
    slice_split_none (λ c. c == 10) (b ∷ name) (clean (b ∷ name) (labels_clean (split 46 (b ∷ name)) (and-right (nat_le (length (b ∷ name)) 253) _ is)))

name_split : (name : List ℕ) → is_name name ≡ true → split 10 name ≡ name ∷ []
name_split [] is = absurd (false≢true is)
name_split (b ∷ name) is = name_line (b ∷ name) is

-- the name is the last line of the text with it
lines-joined : (text name : List ℕ) → is_name name ≡ true → lines_of (joined text name) ≡ lines_of text ++ name ∷ []
lines-joined [] name is = name_line name is
lines-joined (b ∷ text) name is = split-line_feed (b ∷ text) name ∙ ap (λ l. split 10 (b ∷ text) ++ l) (name_split name is)

-- ---- sets of names

good_by : (n : ℕ) (name : List ℕ) (lines : List (List ℕ)) (test : Bool) → (position_from is_bad (n + 1) lines ≡ None → position_from is_bad (n + 1) (lines ++ name ∷ []) ≡ None)
    → cond test (Some n) (position_from is_bad (n + 1) lines) ≡ None → cond test (Some n) (position_from is_bad (n + 1) (lines ++ name ∷ [])) ≡ None
good_by n name lines true later h = cc
good_by n name lines false later h = later h

good_more : (n : ℕ) (name : List ℕ) (lines : List (List ℕ)) → is_name name ≡ true → position_from is_bad n lines ≡ None → position_from is_bad n (lines ++ name ∷ []) ≡ None
good_more n name [] is h = cond-false (is_bad name) (Some n) None (ap not is)
good_more n name (line ∷ lines) is h = good_by n name lines (is_bad line) (good_more (n + 1) name lines is) h

or-assoc : (a b c : Bool) → ((a || b) || c) ≡ (a || (b || c))
or-assoc true b c = refl
or-assoc false b c = refl

or-comm : (a b : Bool) → (a || b) ≡ (b || a)
or-comm true true = refl
or-comm true false = refl
or-comm false true = refl
or-comm false false = refl

any-more : (p : List ℕ → Bool) (lines : List (List ℕ)) (name : List ℕ) → list_any p (lines ++ name ∷ []) ≡ (p name || list_any p lines)
any-more p [] name = refl
any-more p (line ∷ lines) name =
    ap (λ b. p line || b) (any-more p lines name)
    ∙ sym (or-assoc (p line) (p name) (list_any p lines))
    ∙ ap (λ b. b || list_any p lines) (or-comm (p line) (p name))
    ∙ or-assoc (p name) (p line) (list_any p lines)

-- a text without names, and an empty set
pub names_none : {A : Type 0} (names : BTreeSet (Vec ℕ A)) → names.keys ≡ [] → AreNamesOf names []
names_none names empty = record { good = refl; listed = λ name. ap (list_any (is_of name)) empty }

-- one name more in the set and in the text
pub names_more : {A : Type 0} (old new : BTreeSet (Vec ℕ A)) (key : Vec ℕ A) (text name longer : List ℕ) → AreNamesOf old text → is_name name ≡ true → key.items ≡ name
    → new.keys ≡ insert_key vec_cmp old.keys key → longer ≡ joined text name → AreNamesOf new longer
names_more old new key text name longer names is same keys joins =
    let all = ap lines_of joins ∙ lines-joined text name is in
    record {
      good = ap (position_from is_bad 1) all ∙ good_more 1 name (lines_of text) is names.good;
      listed = λ other.
          has_name-insert other key old new keys
          ∙ ap (λ t. bytes_eq other t || has_name old other) same
          ∙ ap (λ b. bytes_eq other name || b) (names.listed other)
          ∙ sym (ap (list_any (bytes_eq other)) all ∙ any-more (bytes_eq other) (lines_of text) name);
    }
