-- The reading of a suffix text, line by line.
use Rattle.std.proofs.Common.{◌≡◌, ℕ, ◌+◌, Bool, true, false, not, ◌||◌, List, [], ◌∷◌, length, Some, sym, refl, ap, ◌∙◌, arith}
use Rattle.std.specs.Prelude.{Vec, bytes_eq}
use Rattle.std.specs.List.{list_any, position_from}
use Rattle.std.specs.BTreeSet.{BTreeSet, insert_key}
use Rattle.std.proofs.lemmas.Bool.{cond-true, cond-false}
use Rattle.irl_pld.specs.Names.{lines_of, is_name, is_bad, bad_line, is_listed}
use Rattle.irl_pld.specs.Sets.{has_name, AreNamesOf}
use Rattle.irl_pld.proofs.SetLemmas.{vec_cmp, is_of, has_name-insert}

-- so many lines of the text are read, all of them names and in the set, and these lines are left
pub record ReadsOn {A : Type 0} (names : BTreeSet (Vec ℕ A)) (text : List ℕ) (number : ℕ) (left : List (List ℕ)) : Type 0 where
  pub count : number + length left ≡ length (lines_of text)
  pub good : position_from is_bad (number + 1) left ≡ bad_line text
  pub listed : (name : List ℕ) → (has_name names name || list_any (bytes_eq name) left) ≡ is_listed text name

or_move : (a b c : Bool) → ((b || a) || c) ≡ (a || (b || c))
or_move true true c = refl
or_move true false c = refl
or_move false true c = refl
or_move false false c = refl

or_false : (b : Bool) → b ≡ (b || false)
or_false true = refl
or_false false = refl

module _ {A : Type 0} where
  pub reads_none : (names : BTreeSet (Vec ℕ A)) (text : List ℕ) (left : List (List ℕ)) → names.keys ≡ [] → left ≡ lines_of text → ReadsOn names text 0 left
  reads_none names text left empty all = record {
    count = let e = ap length all in omega arith;
    good = ap (position_from is_bad 1) all;
    listed = λ name. ap (λ l. has_name names name || list_any (bytes_eq name) l) all ∙ ap (λ ks. list_any (is_of name) ks || is_listed text name) empty;
  }

  -- the line after those that are read is no name
  pub reads_bad : (names : BTreeSet (Vec ℕ A)) (text : List ℕ) (number : ℕ) (left : List (List ℕ)) (line : List ℕ) (rest : List (List ℕ)) → ReadsOn names text number left → left ≡ line ∷ rest
      → is_name line ≡ false → bad_line text ≡ Some (number + 1)
  reads_bad names text number left line rest on is bad =
      sym on.good ∙ ap (position_from is_bad (number + 1)) is ∙ cond-true _ (Some (number + 1)) _ (ap not bad)

  -- one more line is a name, and joins the set
  pub reads_more : (old new : BTreeSet (Vec ℕ A)) (key : Vec ℕ A) (text : List ℕ) (number : ℕ) (left : List (List ℕ)) (line : List ℕ) (rest : List (List ℕ)) → ReadsOn old text number left
      → left ≡ line ∷ rest → is_name line ≡ true → key.items ≡ line → new.keys ≡ insert_key vec_cmp old.keys key → ReadsOn new text (number + 1) rest
  reads_more old new key text number left line rest on is good same keys = record {
    count = let e = ap length is in let before = on.count in omega arith;
    good = sym (cond-false _ (Some (number + 1)) (position_from is_bad (number + 1 + 1) rest) (ap not good)) ∙ sym (ap (position_from is_bad (number + 1)) is) ∙ on.good;
    listed = λ name.
        ap (λ t. t || list_any (bytes_eq name) rest) (has_name-insert name key old new keys ∙ ap (λ k. bytes_eq name k || has_name old name) same)
        ∙ or_move (has_name old name) (bytes_eq name line) (list_any (bytes_eq name) rest)
        ∙ sym (ap (λ l. has_name old name || list_any (bytes_eq name) l) is)
        ∙ on.listed name;
  }

  -- no line is left
  pub reads_all : (names : BTreeSet (Vec ℕ A)) (text : List ℕ) (number : ℕ) (left : List (List ℕ)) → ReadsOn names text number left → left ≡ [] → AreNamesOf names text
  reads_all names text number left on none = record {
    good = sym on.good ∙ ap (position_from is_bad (number + 1)) none;
    listed = λ name. or_false (has_name names name) ∙ sym (ap (λ l. has_name names name || list_any (bytes_eq name) l) none) ∙ on.listed name;
  }
