-- Each page has a cut: there is a next attribute, piece and cut, whatever stands there.
use Rattle.std.proofs.Common.{◌≡◌, ℕ, zero, suc, ◌-◌, ◌<◌, ◌≤◌, Bool, true, false, cond, List, [], ◌∷◌, ◌++◌, length, drop, Option, Some, None, refl, ap, sym, ◌∙◌, subst, arith}
use Rattle.std.proofs.lemmas.List.{length-append, length-drop}
use Rattle.irl_scan.specs.declared.attribute.Ending.{Ending}
use Rattle.irl_scan.specs.declared.attribute.Ending.TheVariants.{Marked, PageEnd}
use Rattle.irl_scan.specs.declared.kind.Kind.{Kind}
use Rattle.irl_scan.specs.declared.piece.Found.{Found}
use Rattle.irl_scan.specs.declared.piece.Found.TheVariants as found
use Rattle.irl_scan.specs.declared.piece.Opening.{Opening}
use Rattle.irl_scan.specs.declared.piece.Opening.TheVariants as opens
use Rattle.irl_scan.specs.declared.span.Span.{Span}
use Rattle.irl_scan.specs.Bytes.{wants, kind_of, at_byte, ends_tag_name}
use Rattle.irl_scan.specs.Page.{opening, ends_comment, ends_markup, ends_raw}
use Rattle.irl_scan.specs.Links.{value_span, found_in, link_of, base_or}
use Rattle.irl_scan.specs.Reading.{from, before, first_is, name_of, behind_name, value_at, ReadsInside, Takes, Gives, not_gap}
use Rattle.irl_scan.proofs.Runs.{length-run}
use Rattle.irl_scan.proofs.Names.{name-joined}
use Rattle.irl_scan.proofs.Values.{value_takes}
use Rattle.irl_scan.proofs.Insides.{behind_attribute, inside_ends, inside_closes, inside_more}
use Rattle.irl_scan.proofs.Pieces.{takes_letter, takes_comment, takes_skipped, takes_tag, gives_end, gives_more}
use Rattle.irl_scan.proofs.Lengths.{value_longer}

-- what a tag's inside reads as, with what is left no longer than it
pub record SomeInside (kind : Kind) (size : ℕ) (left : List ℕ) : Type 0 where
  pub first : Option Span
  pub ending : Ending
  pub rest : List ℕ
  pub reads : ReadsInside kind (size - length left) left first ending rest
  pub shorter : length rest ≤ length left

name_some : (rest : List ℕ) → 0 < length rest → 0 < length (name_of rest)
name_some [] some = some
name_some (b ∷ bs) some = omega arith

-- an attribute takes at least a byte
attribute_shorter : (left : List ℕ) → 0 < length (from not_gap left) → suc (length (behind_attribute left)) ≤ length left
attribute_shorter left some =
    let rest = from not_gap left in
    let run = length-run not_gap left in
    let name = name_some rest some in
    let joined = sym (length-append (name_of rest) (behind_name rest)) ∙ ap length (name-joined rest) in
    let value = value_longer (value_at (behind_name rest)).0 (behind_attribute left) in
    let spelled = ap length (value_takes (behind_name rest)).spelled in
    omega arith

closes_inside : (kind : Kind) (size : ℕ) (left : List ℕ) → first_is 62 (from not_gap left) ≡ true → SomeInside kind size left
closes_inside kind size left h =
    let run = length-run not_gap left in
    let dropped = length-drop 1 (from not_gap left) in
    record { first = None; ending = Marked; rest = drop 1 (from not_gap left); reads = inside_closes kind (size - length left) left h; shorter = omega arith }

more_inside : (kind : Kind) (size : ℕ) (left : List ℕ) → length left ≤ size → (some : 0 < length (from not_gap left)) → first_is 62 (from not_gap left) ≡ false
    → SomeInside kind size (behind_attribute left) → SomeInside kind size left
more_inside kind size left fits some h next =
    let short = attribute_shorter left some in
    record {
      first = cond (wants kind (name_of (from not_gap left))) (Some (value_span (size - length (behind_name (from not_gap left))) (value_at (behind_name (from not_gap left))).0)) next.first;
      ending = next.ending;
      rest = next.rest;
      reads = inside_more left some h size fits kind next.first next.ending next.rest next.reads;
      shorter = let s = next.shorter in omega arith;
    }

inside_by : (kind : Kind) (size : ℕ) (left : List ℕ) → length left ≤ size → (rest : List ℕ) → rest ≡ from not_gap left → (t : Bool) → first_is 62 (from not_gap left) ≡ t →
    (0 < length (from not_gap left) → SomeInside kind size (behind_attribute left)) → SomeInside kind size left
inside_by kind size left fits [] e t h next = record { first = None; ending = PageEnd; rest = []; reads = inside_ends kind (size - length left) left [] e refl; shorter = omega arith }
inside_by kind size left fits (b ∷ bs) e true h next = closes_inside kind size left h
inside_by kind size left fits (b ∷ bs) e false h next =
    let some : 0 < length (from not_gap left) = subst (λ ys. 0 < length ys) e (omega arith) in
    more_inside kind size left fits some h (next some)

some_inside : (n : ℕ) (kind : Kind) (size : ℕ) (left : List ℕ) → length left ≤ n → length left ≤ size → SomeInside kind size left
some_inside zero kind size left short fits =
    inside_by kind size left fits (from not_gap left) refl (first_is 62 (from not_gap left)) refl
    (λ some. let run = length-run not_gap left in absurd (omega arith))
some_inside (suc n) kind size left short fits =
    inside_by kind size left fits (from not_gap left) refl (first_is 62 (from not_gap left)) refl
    (λ some. let less = attribute_shorter left some in some_inside n kind size (behind_attribute left) (omega arith) (omega arith))

-- what a piece gives, with less left than there was
pub record SomePiece (size : ℕ) (xs : List ℕ) : Type 0 where
  pub given : Found
  pub rest : List ℕ
  pub takes : Takes (size - length xs) xs given rest
  pub shorter : suc (length rest) ≤ length xs

tag_by : (size : ℕ) (xs name inside : List ℕ) (kind : Kind) → 0 < length xs → length xs ≤ size → opening xs ≡ opens.Tag →
    name ≡ before (at_byte ends_tag_name) (drop 1 xs) → inside ≡ from (at_byte ends_tag_name) (drop 1 xs) → kind ≡ kind_of name → SomeInside kind size inside → SomePiece size xs
tag_by size xs name inside kind some fits h is_name is_inside is_kind read =
    let run = length-run (at_byte ends_tag_name) (drop 1 xs) in
    let all = length-drop 1 xs in
    let same = ap length is_inside in
    let raw = length-run (ends_raw kind) read.rest in
    let short = read.shorter in
    record {
      given = found_in read.ending kind read.first;
      rest = from (ends_raw kind) read.rest;
      takes = takes_tag size xs name inside read.rest (from (ends_raw kind) read.rest) kind read.first read.ending (found_in read.ending kind read.first) h is_name is_inside is_kind fits read.reads
          refl refl;
      shorter = omega arith;
    }

piece_by : (size : ℕ) (xs : List ℕ) → 0 < length xs → length xs ≤ size → (o : Opening) → opening xs ≡ o → SomePiece size xs
piece_by size xs some fits opens.Text h =
    let dropped = length-drop 1 xs in
    record { given = found.Nothing; rest = drop 1 xs; takes = takes_letter (size - length xs) xs some h; shorter = omega arith }
piece_by size xs some fits opens.Comment h =
    let run = length-run ends_comment (drop 4 xs) in
    let all = length-drop 4 xs in
    let end = length-drop 3 (from ends_comment (drop 4 xs)) in
    record { given = found.Nothing; rest = drop 3 (from ends_comment (drop 4 xs)); takes = takes_comment (size - length xs) xs h; shorter = omega arith }
piece_by size xs some fits opens.Skipped h =
    let run = length-run ends_markup (drop 2 xs) in
    let all = length-drop 2 xs in
    let end = length-drop 1 (from ends_markup (drop 2 xs)) in
    record { given = found.Nothing; rest = drop 1 (from ends_markup (drop 2 xs)); takes = takes_skipped (size - length xs) xs h; shorter = omega arith }
piece_by size xs some fits opens.Tag h =
    let inside = from (at_byte ends_tag_name) (drop 1 xs) in
    let run = length-run (at_byte ends_tag_name) (drop 1 xs) in
    let all = length-drop 1 xs in
    tag_by size xs (before (at_byte ends_tag_name) (drop 1 xs)) inside (kind_of (before (at_byte ends_tag_name) (drop 1 xs))) some fits h refl refl refl
    (some_inside (length inside) (kind_of (before (at_byte ends_tag_name) (drop 1 xs))) size inside (omega arith) (omega arith))

-- what the pieces up to the page's end give
pub record SomeCut (size : ℕ) (xs : List ℕ) : Type 0 where
  pub spans : List Span
  pub base : Option Span
  pub gives : Gives (size - length xs) xs spans base

cut_by : (size : ℕ) (xs ys : List ℕ) → xs ≡ ys → length xs ≤ size → ((p : SomePiece size xs) → SomeCut size p.rest) → SomeCut size xs
cut_by size xs [] e fits next = record { spans = []; base = None; gives = gives_end (size - length xs) xs e }
cut_by size xs (b ∷ bs) e fits next =
    let some : 0 < length xs = subst (λ zs. 0 < length zs) (sym e) (omega arith) in
    let p = piece_by size xs some fits (opening xs) refl in
    let others = next p in
    record { spans = link_of p.given ++ others.spans; base = base_or p.given others.base; gives = gives_more size xs p.rest p.given others.spans others.base fits p.takes others.gives }

pub some_cut : (n : ℕ) (size : ℕ) (xs : List ℕ) → length xs ≤ n → length xs ≤ size → SomeCut size xs
some_cut zero size xs short fits = cut_by size xs xs refl fits (λ p. let s = p.shorter in absurd (omega arith))
some_cut (suc n) size xs short fits = cut_by size xs xs refl fits (λ p. let s = p.shorter in some_cut n size p.rest (omega arith) (omega arith))
