-- Lemmas on lines: the first one and the others, and a text that was put together of lines.
use Rattle.std.proofs.Common.{◌≡◌, ◌≢◌, ℕ, suc, ◌+◌, Bool, true, false, cond, not, eqb, List, [], ◌∷◌, ◌++◌, take, drop, refl, sym, ap, ◌∙◌, subst, arith, append-nil, append_assoc}
use Rattle.std.proofs.lemmas.Bool.{ne_eqb, eqb-false, eqb-true}
use Rattle.std.specs.List.{onto_first, AllByRecursion, position_or_len, before_first, after_first}
use Rattle.irl_io.specs.Lines.{lines, text, IsClosed, is_line_feed}

next_line : (b : ℕ) (bytes : List ℕ) (p : ℕ) → lines bytes ≡ take p bytes ∷ lines (drop (p + 1) bytes) → onto_first b (lines bytes) ≡ take (1 + p) (b ∷ bytes) ∷ lines (drop (1 + p + 1) (b ∷ bytes))
next_line b bytes p law =
    let one : 1 + p ≡ suc p = omega arith in
    let two : suc p + 1 ≡ suc (p + 1) = omega arith in
    rw (one, two) (ap (onto_first b) law)

first_line : (feed : Bool) (b : ℕ) (bytes : List ℕ) → (bytes ≢ [] → lines bytes ≡ before_first is_line_feed bytes ∷ lines (after_first is_line_feed bytes))
    → let p = position_or_len is_line_feed bytes in
    cond feed ([] ∷ lines bytes) (onto_first b (lines bytes)) ≡ take (cond (not feed) (1 + p) 0) (b ∷ bytes) ∷ lines (drop (cond (not feed) (1 + p) 0 + 1) (b ∷ bytes))
first_line true b bytes law = refl
first_line false b [] law = refl
first_line false b (c ∷ bytes) law = next_line b (c ∷ bytes) (position_or_len is_line_feed (c ∷ bytes)) (law (λ e. (cc)))

-- the first line ends at the first line feed, and the others are those of the bytes behind it
pub lines_first : (bytes : List ℕ) → bytes ≢ [] → lines bytes ≡ before_first is_line_feed bytes ∷ lines (after_first is_line_feed bytes)
lines_first [] some = absurd (some refl)
lines_first (b ∷ bytes) some = first_line (eqb b 10) b bytes (lines_first bytes)

put_before : (feed : Bool) (b : ℕ) (line rest : List ℕ) (later : List (List ℕ)) → feed ≡ false → later ≡ line ∷ lines rest → cond feed ([] ∷ later) (onto_first b later) ≡ (b ∷ line) ∷ lines rest
put_before true b line rest later none law = absurd (cc)
put_before false b line rest later none law = ap (onto_first b) law

-- a line and its line feed before other bytes
pub lines-line : (line rest : List ℕ) → AllByRecursion (λ b. b ≢ 10) line → lines (line ++ 10 ∷ rest) ≡ line ∷ lines rest
lines-line [] rest whole = refl
lines-line (b ∷ line) rest whole = put_before (eqb b 10) b line rest _ (ne_eqb b 10 whole.0) (lines-line line rest whole.1)

-- a text that was put together of lines before other bytes
pub lines-text_append : (ls : List (List ℕ)) (bytes : List ℕ) → AllByRecursion (AllByRecursion (λ b. b ≢ 10)) ls → lines (text ls ++ bytes) ≡ ls ++ lines bytes
lines-text_append [] bytes whole = refl
lines-text_append (line ∷ ls) bytes whole =
    let apart : text (line ∷ ls) ++ bytes ≡ line ++ 10 ∷ (text ls ++ bytes) = append_assoc (line ++ 10 ∷ []) (text ls) bytes ∙ append_assoc line (10 ∷ []) (text ls ++ bytes) in
    ap lines apart ∙ lines-line line (text ls ++ bytes) whole.0 ∙ ap (λ rest. line ∷ rest) (lines-text_append ls bytes whole.1)

-- the lines of such a text
pub lines-text : (ls : List (List ℕ)) → AllByRecursion (AllByRecursion (λ b. b ≢ 10)) ls → lines (text ls) ≡ ls
lines-text ls whole = ap lines (sym (append-nil (text ls))) ∙ lines-text_append ls [] whole ∙ append-nil ls

whole_onto : (b : ℕ) (ls : List (List ℕ)) → b ≢ 10 → AllByRecursion (AllByRecursion (λ x. x ≢ 10)) ls → AllByRecursion (AllByRecursion (λ x. x ≢ 10)) (onto_first b ls)
whole_onto b [] other later = ((other, tt), tt)
whole_onto b (line ∷ ls) other later = ((other, later.0), later.1)

whole_next : (feed : Bool) (b : ℕ) (ls : List (List ℕ)) → eqb b 10 ≡ feed → AllByRecursion (AllByRecursion (λ x. x ≢ 10)) ls
    → AllByRecursion (AllByRecursion (λ x. x ≢ 10)) (cond feed ([] ∷ ls) (onto_first b ls))
whole_next true b ls test later = (tt, later)
whole_next false b ls test later = whole_onto b ls (eqb-false b 10 test) later

-- no line has a line feed
pub whole_lines : (bytes : List ℕ) → AllByRecursion (AllByRecursion (λ b. b ≢ 10)) (lines bytes)
whole_lines [] = tt
whole_lines (b ∷ bytes) = whole_next (eqb b 10) b (lines bytes) refl (whole_lines bytes)

text_next : (feed : Bool) (b : ℕ) (ls : List (List ℕ)) (c : ℕ) (bytes : List ℕ) → eqb b 10 ≡ feed → text ls ≡ c ∷ bytes → text (cond feed ([] ∷ ls) (onto_first b ls)) ≡ b ∷ c ∷ bytes
text_next true b ls c bytes test later = ap (λ l. 10 ∷ l) later ∙ ap (λ x. x ∷ c ∷ bytes) (sym (eqb-true b 10 test))
text_next false b [] c bytes test later = absurd (cc)
text_next false b (line ∷ ls) c bytes test later = ap (λ l. b ∷ l) later

-- the text of the lines of a closed text is that text
pub text-lines : (bytes : List ℕ) → IsClosed bytes → text (lines bytes) ≡ bytes
text-lines [] closed = refl
text-lines (b ∷ []) closed = subst (λ x. text (lines (x ∷ [])) ≡ x ∷ []) (sym closed) refl
text-lines (b ∷ c ∷ bytes) closed = text_next (eqb b 10) b (lines (c ∷ bytes)) c bytes refl (text-lines (c ∷ bytes) closed)
