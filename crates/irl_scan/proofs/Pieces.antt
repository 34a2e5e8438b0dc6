-- A piece read at a place is as the grammar says, and is the only one; so a page has one cut.
use Rattle.std.proofs.Common.{◌≡◌, ℕ, suc, ◌+◌, ◌-◌, ◌<◌, ◌≤◌, Bool, true, false, cond, ◌&&◌, ◌||◌, nat_eq, List, [], ◌∷◌, ◌++◌, length, drop, Option, None, ◌⊎◌, inl, inr, refl, ap, sym, ◌∙◌, subst, arith}
use Rattle.std.proofs.lemmas.Bool.{eqb-true, eq-eqb, and_parts, or_cases}
use Rattle.std.proofs.lemmas.List.{length-append, append_cancel_left}
use Rattle.std.proofs.lemmas.Slice.Eq.{starts_is}
use Rattle.std.specs.List.{starts_with}
use Rattle.std.specs.Prelude.{codes}
use Rattle.irl_scan.specs.declared.attribute.Ending.{Ending}
use Rattle.irl_scan.specs.declared.kind.Kind.{Kind}
use Rattle.irl_scan.specs.declared.kind.Kind.TheVariants.{Anchor, Frame, Base, Script, Style, Other}
use Rattle.irl_scan.specs.declared.piece.Found.{Found}
use Rattle.irl_scan.specs.declared.piece.Found.TheVariants as found
use Rattle.irl_scan.specs.declared.piece.Opening.{Opening}
use Rattle.irl_scan.specs.declared.piece.Opening.TheVariants as opens
use Rattle.irl_scan.specs.declared.span.Span.{Span}
use Rattle.irl_scan.specs.Bytes.{kind_of, UpTo, at_byte, ends_tag_name}
use Rattle.irl_scan.specs.Page.{Attribute, Tag, Piece, Letter, Comment, Skipped, Markup, end_onto, attributes_onto, tag_end_onto, tag_onto, piece_onto, joined, opening, has_letter_at, EndsBy, AreAttributes, IsGap, ends_raw, IsTag, ends_comment, ends_markup, IsPiece, ArePieces, Cut}
use Rattle.irl_scan.specs.Links.{found_in, found_at, first_span, link_of, base_or, links_from, base_from}
use Rattle.irl_scan.specs.Reading.{from, before, ending_of, ReadsInside, Takes, Gives}
use Rattle.irl_scan.proofs.Runs.{before-from, UpTo-read, stops_there, one_run}
use Rattle.irl_scan.proofs.Values.{end_is, ends_by}
use Rattle.irl_scan.proofs.Lengths.{piece_length}
use Rattle.irl_scan.proofs.Insides.{one_end, one_inside, IsInside}

-- ## What begins at a place

-- the bytes with which the list begins, and the others
pub starts : (needle xs : List ℕ) → starts_with nat_eq xs needle ≡ true → xs ≡ needle ++ drop (length needle) xs
starts needle xs h = (starts_is {E = nat_eq} (λ a b. (eqb-true a b, eq-eqb a b)) xs needle (starts_with nat_eq xs needle) refl).0 h

-- the four tests, in their order
abbrev chosen : Bool → Bool → Bool → Bool → Opening
chosen a b c d = cond a opens.Comment (cond b opens.Skipped (cond c opens.Skipped (cond d opens.Tag opens.Text)))

chosen_comment : (a b c d : Bool) → chosen a b c d ≡ opens.Comment → a ≡ true
chosen_comment true b c d h = refl
chosen_comment false true c d h = cc
chosen_comment false false true d h = cc
chosen_comment false false false true h = cc
chosen_comment false false false false h = cc

chosen_skipped : (a b c d : Bool) → chosen a b c d ≡ opens.Skipped → (b ≡ true) ⊎ (c ≡ true)
chosen_skipped true b c d h = cc
chosen_skipped false true c d h = inl refl
chosen_skipped false false true d h = inr refl
chosen_skipped false false false true h = cc
chosen_skipped false false false false h = cc

chosen_tag : (a b c d : Bool) → chosen a b c d ≡ opens.Tag → d ≡ true
chosen_tag true b c d h = cc
chosen_tag false true c d h = cc
chosen_tag false false true d h = cc
chosen_tag false false false true h = refl
chosen_tag false false false false h = cc

comment_begins : (xs : List ℕ) → opening xs ≡ opens.Comment → xs ≡ codes "<!--" ++ drop 4 xs
comment_begins xs h = starts (codes "<!--") xs (chosen_comment (starts_with nat_eq xs (codes "<!--")) (starts_with nat_eq xs (codes "<!") || starts_with nat_eq xs (codes "<?"))
    (starts_with nat_eq xs (codes "</") && has_letter_at 2 xs) (starts_with nat_eq xs (codes "<") && has_letter_at 1 xs) h)

tag_begins : (xs : List ℕ) → opening xs ≡ opens.Tag → xs ≡ 60 ∷ drop 1 xs
tag_begins xs h = starts (codes "<") xs (and_parts _ _ (chosen_tag _ _ _ (starts_with nat_eq xs (codes "<") && has_letter_at 1 xs) h)).0

abbrev HasSign : List ℕ → Type 0
HasSign xs = (sign : ℕ) × (xs ≡ 60 ∷ sign ∷ drop 2 xs)

skipped_begins : (xs : List ℕ) → opening xs ≡ opens.Skipped → HasSign xs
skipped_begins xs h =
    elim (chosen_skipped _ _ _ _ h) [
      | inl first ↦ elim (or_cases (starts_with nat_eq xs (codes "<!")) (starts_with nat_eq xs (codes "<?")) first) [
        | inl mark ↦ (33, starts (codes "<!") xs mark)
        | inr query ↦ (63, starts (codes "<?") xs query)
      ]
      | inr second ↦ (47, starts (codes "</") xs (and_parts (starts_with nat_eq xs (codes "</")) (has_letter_at 2 xs) second).0)
    ]

-- ## A piece that is read

pub takes_letter : (place : ℕ) (xs : List ℕ) → 0 < length xs → opening xs ≡ opens.Text → Takes place xs found.Nothing (drop 1 xs)
takes_letter place [] some h = absurd (omega arith)
takes_letter place (b ∷ bs) some h = record { piece = Letter b; spelled = refl; formed = h; gives = refl }

comment_end : (left : List ℕ) → ends_comment left ≡ true → end_onto (codes "-->") (ending_of left) (drop 3 left) ≡ left
comment_end [] h = refl
comment_end (b ∷ bs) h = sym (starts (codes "-->") (b ∷ bs) h)

comment_ends_by : (left : List ℕ) → EndsBy (ending_of left) (drop 3 left)
comment_ends_by [] = refl
comment_ends_by (b ∷ bs) = tt

pub takes_comment : (place : ℕ) (xs : List ℕ) → opening xs ≡ opens.Comment → Takes place xs found.Nothing (drop 3 (from ends_comment (drop 4 xs)))
takes_comment place xs h =
    let body = before ends_comment (drop 4 xs) in
    let left = from ends_comment (drop 4 xs) in
    let end : end_onto (codes "-->") (ending_of left) (drop 3 left) ≡ left = comment_end left (stops_there ends_comment refl (drop 4 xs)) in
    let behind : body ++ end_onto (codes "-->") (ending_of left) (drop 3 left) ≡ drop 4 xs = ap (λ ys. body ++ ys) end ∙ before-from ends_comment (drop 4 xs) in
    record {
      piece = Comment body (ending_of left);
      spelled = comment_begins xs h ∙ ap (λ ys. codes "<!--" ++ ys) (sym behind);
      formed = (subst (UpTo ends_comment body) (sym end) (UpTo-read ends_comment refl (drop 4 xs)), comment_ends_by left);
      gives = refl;
    }

pub takes_skipped : (place : ℕ) (xs : List ℕ) → opening xs ≡ opens.Skipped → Takes place xs found.Nothing (drop 1 (from ends_markup (drop 2 xs)))
takes_skipped place xs h =
    let body = before ends_markup (drop 2 xs) in
    let left = from ends_markup (drop 2 xs) in
    let begins = skipped_begins xs h in
    let end : end_onto (codes ">") (ending_of left) (drop 1 left) ≡ left = end_is 62 left (stops_there ends_markup refl (drop 2 xs)) in
    let behind : body ++ end_onto (codes ">") (ending_of left) (drop 1 left) ≡ drop 2 xs = ap (λ ys. body ++ ys) end ∙ before-from ends_markup (drop 2 xs) in
    let spelled : xs ≡ 60 ∷ begins.0 ∷ (body ++ end_onto (codes ">") (ending_of left) (drop 1 left)) = begins.1 ∙ ap (λ ys. 60 ∷ begins.0 ∷ ys) (sym behind) in
    record {
      piece = Skipped begins.0 body (ending_of left);
      spelled = spelled;
      formed = (ap opening (sym spelled) ∙ h, subst (UpTo ends_markup body) (sym end) (UpTo-read ends_markup refl (drop 2 xs)), ends_by left);
      gives = refl;
    }

raw_ends_there : (kind : Kind) → ends_raw kind [] ≡ true
raw_ends_there Anchor = refl
raw_ends_there Frame = refl
raw_ends_there Base = refl
raw_ends_there Script = refl
raw_ends_there Style = refl
raw_ends_there Other = refl

pub takes_tag : (size : ℕ) (xs name inside left rest : List ℕ) (kind : Kind) (first : Option Span) (ending : Ending) (given : Found) →
    opening xs ≡ opens.Tag → name ≡ before (at_byte ends_tag_name) (drop 1 xs) → inside ≡ from (at_byte ends_tag_name) (drop 1 xs) → kind ≡ kind_of name → length xs ≤ size →
    ReadsInside kind (size - length inside) inside first ending left → rest ≡ from (ends_raw kind) left → given ≡ found_in ending kind first → Takes (size - length xs) xs given rest
takes_tag size xs name inside left rest kind first ending given h is_name is_inside is_kind fits reads is_rest is_given =
    let raw = before (ends_raw kind) left in
    let left_is : raw ++ rest ≡ left = ap (λ ys. raw ++ ys) is_rest ∙ before-from (ends_raw kind) left in
    let inside_is : inside ≡ attributes_onto reads.attributes (tag_end_onto reads.gap ending (raw ++ rest)) =
    reads.spelled ∙ ap (λ l. attributes_onto reads.attributes (tag_end_onto reads.gap ending l)) (sym left_is) in
    let named : name ++ inside ≡ drop 1 xs =
    ap (λ ys. ys ++ inside) is_name ∙ ap (λ ys. before (at_byte ends_tag_name) (drop 1 xs) ++ ys) is_inside ∙ before-from (at_byte ends_tag_name) (drop 1 xs) in
    let t : Tag = record { name = name; attributes = reads.attributes; gap = reads.gap; ending = ending; raw = raw } in
    let spelled : xs ≡ tag_onto t rest = tag_begins xs h ∙ ap (λ ys. 60 ∷ ys) (sym named ∙ ap (λ ys. name ++ ys) inside_is) in
    let run : UpTo (at_byte ends_tag_name) name inside =
    subst (λ n. UpTo (at_byte ends_tag_name) n inside) (sym is_name) (subst (UpTo (at_byte ends_tag_name) (before (at_byte ends_tag_name) (drop 1 xs))) (sym is_inside)
    (UpTo-read (at_byte ends_tag_name) refl (drop 1 xs))) in
    let raw_run : UpTo (ends_raw kind) raw rest = subst (UpTo (ends_raw kind) raw) (sym is_rest) (UpTo-read (ends_raw kind) (raw_ends_there kind) left) in
    let first_length : length xs ≡ suc (length (drop 1 xs)) = ap length (tag_begins xs h) in
    let name_length : length name + length inside ≡ length (drop 1 xs) = sym (length-append name inside) ∙ ap length named in
    let place : size - length inside ≡ size - length xs + 1 + length name = omega arith in
    record {
      piece = Markup t;
      spelled = spelled;
      formed = record {
        opens = ap opening (sym spelled) ∙ h;
        name = subst (UpTo (at_byte ends_tag_name) name) inside_is run;
        attributes = subst (λ l. AreAttributes reads.attributes (tag_end_onto reads.gap ending l)) (sym left_is) reads.each;
        gap = subst (λ l. IsGap reads.gap (end_onto (codes ">") ending l)) (sym left_is) reads.gap_ends;
        ending = subst (EndsBy ending) (sym left_is) reads.ends;
        raw = subst (λ k. UpTo (ends_raw k) raw rest) is_kind raw_run;
      };
      gives = is_given ∙ ap (found_in ending kind) (reads.first_is ∙ ap (λ n. first_span kind n reads.attributes) place)
          ∙ ap (λ k. found_in ending k (first_span k (size - length xs + 1 + length name) reads.attributes)) is_kind;
    }

-- ## Two cuts of one page are the same

-- what a piece begins with
abbrev opening_of : Piece → Opening
opening_of (Letter b) = opens.Text
opening_of (Comment body ending) = opens.Comment
opening_of (Skipped sign body ending) = opens.Skipped
opening_of (Markup t) = opens.Tag

opened : (p : Piece) (rest : List ℕ) → IsPiece p rest → opening (piece_onto p rest) ≡ opening_of p
opened (Letter b) rest h = h
opened (Comment body ending) rest h = refl
opened (Skipped sign body ending) rest h = h.0
opened (Markup t) rest h = h.opens

one_tag : (t u : Tag) (r s : List ℕ) → IsTag t r → IsTag u s → tag_onto t r ≡ tag_onto u s → (t ≡ u) × (r ≡ s)
one_tag t u r s h k e =
    let behind : t.name ++ attributes_onto t.attributes (tag_end_onto t.gap t.ending (t.raw ++ r)) ≡ u.name ++ attributes_onto u.attributes (tag_end_onto u.gap u.ending (u.raw ++ s)) =
    append_cancel_left (60 ∷ []) _ _ e in
    let name = one_run (at_byte ends_tag_name) t.name u.name _ _ h.name k.name behind in
    let inside = attributes_onto t.attributes (tag_end_onto t.gap t.ending (t.raw ++ r)) in
    let first : IsInside inside t.attributes t.gap t.ending (t.raw ++ r) = record { spelled = refl; each = h.attributes; gap_ends = h.gap; ends = h.ending } in
    let second : IsInside inside u.attributes u.gap u.ending (u.raw ++ s) = record { spelled = name.1; each = k.attributes; gap_ends = k.gap; ends = k.ending } in
    let same = one_inside inside t.attributes u.attributes t.gap u.gap t.ending u.ending _ _ first second in
    let raw = one_run (ends_raw (kind_of t.name)) t.raw u.raw r s h.raw (subst (λ n. UpTo (ends_raw (kind_of n)) u.raw s) (sym name.0) k.raw) same.3 in
    let make : List ℕ → List Attribute → List ℕ → Ending → List ℕ → Tag = λ n a g e w. record { name = n; attributes = a; gap = g; ending = e; raw = w } in (
      ap (λ n. make n t.attributes t.gap t.ending t.raw) name.0 ∙ ap (λ a. make u.name a t.gap t.ending t.raw) same.0 ∙ ap (λ g. make u.name u.attributes g t.ending t.raw) same.1
          ∙ ap (λ f. make u.name u.attributes u.gap f t.raw) same.2 ∙ ap (make u.name u.attributes u.gap u.ending) raw.0,
      raw.1,
    )

one_comment : (a b : List ℕ) (e f : Ending) (r s : List ℕ) → IsPiece (Comment a e) r → IsPiece (Comment b f) s → piece_onto (Comment a e) r ≡ piece_onto (Comment b f) s → (Comment a e ≡ Comment b f)
    × (r ≡ s)
one_comment a b e f r s h k same =
    let run = one_run ends_comment a b _ _ h.0 k.0 (append_cancel_left (codes "<!--") _ _ same) in
    let mark = one_end 45 (45 ∷ 62 ∷ []) e f r s h.1 k.1 run.1 in
    (ap (λ x. Comment x e) run.0 ∙ ap (Comment b) mark.0, mark.1)

one_skipped : (c d : ℕ) (a b : List ℕ) (e f : Ending) (r s : List ℕ) → IsPiece (Skipped c a e) r → IsPiece (Skipped d b f) s → piece_onto (Skipped c a e) r ≡ piece_onto (Skipped d b f) s
    → (Skipped c a e ≡ Skipped d b f) × (r ≡ s)
one_skipped c d a b e f r s h k same =
    let sign : c ≡ d = cc in
    let behind : a ++ end_onto (codes ">") e r ≡ b ++ end_onto (codes ">") f s = cc in
    let run = one_run ends_markup a b _ _ h.1 k.1 behind in
    let mark = one_end 62 [] e f r s h.2 k.2 run.1 in
    (ap (λ x. Skipped x a e) sign ∙ ap (λ x. Skipped d x e) run.0 ∙ ap (Skipped d b) mark.0, mark.1)

pub one_piece : (p q : Piece) (r s : List ℕ) → IsPiece p r → IsPiece q s → piece_onto p r ≡ piece_onto q s → (p ≡ q) × (r ≡ s)
one_piece (Letter b) (Letter c) r s h k e =
    let head : b ≡ c = cc in
    let tail : r ≡ s = cc in
    (ap Letter head, tail)
one_piece (Comment a e) (Comment b f) r s h k same = one_comment a b e f r s h k same
one_piece (Skipped c a e) (Skipped d b f) r s h k same = one_skipped c d a b e f r s h k same
one_piece (Markup t) (Markup u) r s h k same = let tag = one_tag t u r s h k same in (ap Markup tag.0, tag.1)
one_piece p q r s h k same =
    let no : opening_of p ≡ opening_of q = sym (opened p r h) ∙ ap opening same ∙ opened q s k in cc

some_bytes : (p : Piece) (rest : List ℕ) → [] ≡ piece_onto p rest → ⊥
some_bytes (Letter b) rest h = cc
some_bytes (Comment body ending) rest h = let no : [] ≡ 60 ∷ 33 ∷ 45 ∷ 45 ∷ (body ++ end_onto (codes "-->") ending rest) = h in cc
some_bytes (Skipped sign body ending) rest h = cc
some_bytes (Markup t) rest h = cc

one_list : (ps qs : List Piece) → ArePieces ps → ArePieces qs → joined ps ≡ joined qs → ps ≡ qs
one_list [] [] h k e = refl
one_list [] (q ∷ qs) h k e = absurd (some_bytes q (joined qs) e)
one_list (p ∷ ps) [] h k e = absurd (some_bytes p (joined ps) (sym e))
one_list (p ∷ ps) (q ∷ qs) h k e =
    let first = one_piece p q (joined ps) (joined qs) h.0 k.0 e in
    ap (λ x. x ∷ ps) first.0 ∙ ap (λ xs. q ∷ xs) (one_list ps qs h.1 k.1 first.1)

pub one_cut : (page : List ℕ) (a b : List Piece) → Cut page a → Cut page b → a ≡ b
one_cut page a b h k = one_list a b h.each k.each (sym h.whole ∙ k.whole)

-- ## What pieces give, from the page's end to its front

pub gives_end : (place : ℕ) (xs : List ℕ) → xs ≡ [] → Gives place xs [] None
gives_end place xs e = record { pieces = []; cut = record { whole = e; each = tt }; spans_are = refl; base_is = refl }

pub gives_more : (size : ℕ) (xs rest : List ℕ) (given : Found) (spans : List Span) (base : Option Span) → length xs ≤ size → Takes (size - length xs) xs given rest
    → Gives (size - length rest) rest spans base → Gives (size - length xs) xs (link_of given ++ spans) (base_or given base)
gives_more size xs rest given spans base fits takes gives =
    let p = takes.piece in
    let place : size - length rest ≡ size - length xs + length (piece_onto p []) =
    let all = ap length takes.spelled ∙ piece_length p rest in omega arith in
    record {
      pieces = p ∷ gives.pieces;
      cut = record {
        whole = takes.spelled ∙ ap (piece_onto p) gives.cut.whole;
        each = (subst (IsPiece p) gives.cut.whole takes.formed, gives.cut.each);
      };
      spans_are =
          ap (λ f. link_of f ++ spans) takes.gives
          ∙ ap (λ ys. link_of (found_at (size - length xs) p) ++ ys) (gives.spans_are ∙ ap (λ n. links_from n gives.pieces) place);
      base_is =
          ap (λ f. base_or f base) takes.gives
          ∙ ap (base_or (found_at (size - length xs) p)) (gives.base_is ∙ ap (λ n. base_from n gives.pieces) place);
    }
