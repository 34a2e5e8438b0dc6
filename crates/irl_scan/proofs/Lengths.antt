-- How many bytes a piece has, whatever follows it.
use Rattle.std.proofs.Common.{◌≡◌, ℕ, ◌+◌, ◌≤◌, List, [], ◌∷◌, ◌++◌, length, arith}
use Rattle.irl_scan.specs.declared.attribute.Ending.{Ending}
use Rattle.irl_scan.specs.declared.attribute.Ending.TheVariants.{Marked, PageEnd}
use Rattle.irl_scan.specs.Page.{Value, Absent, Bare, Quoted, Attribute, Tag, Piece, Letter, Comment, Skipped, Markup, end_onto, value_onto, attribute_onto, attributes_onto, tag_onto, piece_onto}

front_length : (front a b : List ℕ) (n : ℕ) → length a ≡ length b + n → length (front ++ a) ≡ length (front ++ b) + n
front_length [] a b n e = e
front_length (x ∷ front) a b n e = let more = front_length front a b n e in omega arith

end_length : (mark : List ℕ) (ending : Ending) (rest : List ℕ) → length (end_onto mark ending rest) ≡ length (end_onto mark ending []) + length rest
end_length mark Marked rest = front_length mark rest [] (length rest) (omega arith)
end_length mark PageEnd rest = omega arith

one_more : (x : ℕ) (a b : List ℕ) (n : ℕ) → length a ≡ length b + n → length (x ∷ a) ≡ length (x ∷ b) + n
one_more x a b n e = omega arith

value_length : (v : Value) (rest : List ℕ) → length (value_onto v rest) ≡ length (value_onto v []) + length rest
value_length Absent rest = omega arith
value_length (Bare space more bytes) rest =
    front_length space _ _ (length rest) (one_more 61 _ _ (length rest) (front_length more _ _ (length rest) (front_length bytes rest [] (length rest) (omega arith))))
value_length (Quoted space more quote bytes ending) rest =
    front_length space _ _ (length rest) (one_more 61 _ _ (length rest) (front_length more _ _ (length rest)
    (one_more quote _ _ (length rest) (front_length bytes _ _ (length rest) (end_length (quote ∷ []) ending rest)))))

pub value_longer : (v : Value) (rest : List ℕ) → length rest ≤ length (value_onto v rest)
value_longer v rest = let all = value_length v rest in omega arith

pub attribute_length : (a : Attribute) (rest : List ℕ) → length (attribute_onto a rest) ≡ length (attribute_onto a []) + length rest
attribute_length a rest = front_length a.gap _ _ (length rest) (front_length a.name _ _ (length rest) (value_length a.value rest))

attributes_length : (list : List Attribute) (r s : List ℕ) (n : ℕ) → length r ≡ length s + n → length (attributes_onto list r) ≡ length (attributes_onto list s) + n
attributes_length [] r s n e = e
attributes_length (a ∷ list) r s n e =
    let more = attributes_length list r s n e in
    let first = attribute_length a (attributes_onto list r) in
    let second = attribute_length a (attributes_onto list s) in
    omega arith

tag_length : (t : Tag) (rest : List ℕ) → length (tag_onto t rest) ≡ length (tag_onto t []) + length rest
tag_length t rest =
    let raw = front_length t.raw rest [] (length rest) (omega arith) in
    let end_here = end_length (62 ∷ []) t.ending (t.raw ++ rest) in
    let end_there = end_length (62 ∷ []) t.ending (t.raw ++ []) in
    one_more 60 _ _ (length rest) (front_length t.name _ _ (length rest) (attributes_length t.attributes _ _ (length rest) (front_length t.gap _ _ (length rest) (omega arith))))

pub piece_length : (p : Piece) (rest : List ℕ) → length (piece_onto p rest) ≡ length (piece_onto p []) + length rest
piece_length (Letter b) rest = omega arith
piece_length (Comment body ending) rest = front_length (60 ∷ 33 ∷ 45 ∷ 45 ∷ []) _ _ (length rest) (front_length body _ _ (length rest) (end_length (45 ∷ 45 ∷ 62 ∷ []) ending rest))
piece_length (Skipped sign body ending) rest = one_more 60 (sign ∷ (body ++ end_onto (62 ∷ []) ending rest)) (sign ∷ (body ++ end_onto (62 ∷ []) ending [])) (length rest)
    (one_more sign _ _ (length rest) (front_length body _ _ (length rest) (end_length (62 ∷ []) ending rest)))
piece_length (Markup t) rest = tag_length t rest
