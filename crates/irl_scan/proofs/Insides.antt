-- The inside of a tag, attribute by attribute.
use Rattle.std.proofs.Common.{◌≡◌, ℕ, ◌+◌, ◌-◌, ◌<◌, ◌≤◌, Bool, true, false, cond, eqb, List, [], ◌∷◌, ◌++◌, length, drop, Option, Some, None, IfSome, refl, ap, sym, ◌∙◌, subst, arith}
use Rattle.std.proofs.lemmas.Bool.{eq-eqb, both_ways}
use Rattle.irl_scan.specs.declared.attribute.Ending.{Ending}
use Rattle.irl_scan.specs.declared.attribute.Ending.TheVariants.{Marked, PageEnd}
use Rattle.irl_scan.specs.declared.kind.Kind.{Kind}
use Rattle.irl_scan.specs.declared.span.Span.{Span}
use Rattle.irl_scan.specs.Bytes.{wants, UpTo, at_byte, ends_attribute_name}
use Rattle.irl_scan.specs.Page.{Value, Attribute, end_onto, value_onto, attribute_onto, attributes_onto, tag_end_onto, EndsBy, IsAttributeName, IsGap, IsAttribute, AreAttributes}
use Rattle.irl_scan.specs.Links.{value_span, first_span}
use Rattle.irl_scan.specs.Reading.{from, before, first_is, name_of, behind_name, value_at, or_first, ReadsInside, not_gap}
use Rattle.irl_scan.proofs.Runs.{before-from, UpTo-read, one_run, length-run}
use Rattle.irl_scan.proofs.Names.{name-joined}
use Rattle.irl_scan.proofs.Values.{first_is-cons, value_takes, one_value}
use Rattle.std.proofs.lemmas.List.{length-append, append_cancel_left}
use Rattle.irl_scan.proofs.Lengths.{attribute_length}

-- ## An attribute that is read

-- the attribute that begins behind the gap
abbrev attribute_of : List ℕ → Attribute
attribute_of left = record { gap = before not_gap left; name = name_of (from not_gap left); value = (value_at (behind_name (from not_gap left))).0 }

abbrev pub behind_attribute : List ℕ → List ℕ
behind_attribute left = (value_at (behind_name (from not_gap left))).1

name_formed : (rest : List ℕ) → 0 < length rest → first_is 62 rest ≡ false → IsAttributeName (name_of rest) (behind_name rest)
name_formed [] some h = absurd (omega arith)
name_formed (b ∷ bs) some h = (h, UpTo-read (at_byte ends_attribute_name) refl bs)

module _ (left : List ℕ) (some : 0 < length (from not_gap left)) (h : first_is 62 (from not_gap left) ≡ false) where
  behind_spelled : value_onto (value_at (behind_name (from not_gap left))).0 (behind_attribute left) ≡ behind_name (from not_gap left)
  behind_spelled = (value_takes (behind_name (from not_gap left))).spelled

  name_spelled : name_of (from not_gap left) ++ value_onto (value_at (behind_name (from not_gap left))).0 (behind_attribute left) ≡ from not_gap left
  name_spelled = ap (λ ys. name_of (from not_gap left) ++ ys) behind_spelled ∙ name-joined (from not_gap left)

  attribute_spelled : attribute_onto (attribute_of left) (behind_attribute left) ≡ left
  attribute_spelled = ap (λ ys. before not_gap left ++ ys) name_spelled ∙ before-from not_gap left

  attribute_formed : IsAttribute (attribute_of left) (behind_attribute left)
  attribute_formed = record {
    gap = subst (UpTo not_gap (before not_gap left)) (sym name_spelled) (UpTo-read not_gap refl left);
    name = subst (IsAttributeName (name_of (from not_gap left))) (sym behind_spelled) (name_formed (from not_gap left) some h);
    value = (value_takes (behind_name (from not_gap left))).formed;
  }

-- ## The inside of a tag, from its end to its front

pub or_first-none : (first : Option Span) → or_first first None ≡ first
or_first-none None = refl
or_first-none (Some first) = refl

pub or_first-wanted : (first : Option Span) (wanted : Bool) (here : Span) (later : Option Span)
    → or_first (or_first first (cond wanted (Some here) None)) later ≡ or_first first (cond wanted (Some here) later)
or_first-wanted None true here later = refl
or_first-wanted None false here later = refl
or_first-wanted (Some first) wanted here later = refl

-- the page ends
pub inside_ends : (kind : Kind) (place : ℕ) (left rest : List ℕ) → rest ≡ from not_gap left → rest ≡ [] → ReadsInside kind place left None PageEnd rest
inside_ends kind place left rest e none = record {
  attributes = [];
  gap = before not_gap left;
  spelled = sym (before-from not_gap left) ∙ ap (λ ys. before not_gap left ++ ys) (sym e);
  each = tt;
  gap_ends = subst (UpTo not_gap (before not_gap left)) (sym e) (UpTo-read not_gap refl left);
  ends = none;
  first_is = refl;
}

-- `>` comes
pub inside_closes : (kind : Kind) (place : ℕ) (left : List ℕ) → first_is 62 (from not_gap left) ≡ true → ReadsInside kind place left None Marked (drop 1 (from not_gap left))
inside_closes kind place left h = record {
  attributes = [];
  gap = before not_gap left;
  spelled = sym (before-from not_gap left) ∙ ap (λ ys. before not_gap left ++ ys) (first_is-cons 62 (from not_gap left) h);
  each = tt;
  gap_ends = subst (UpTo not_gap (before not_gap left)) (first_is-cons 62 (from not_gap left) h) (UpTo-read not_gap refl left);
  ends = tt;
  first_is = refl;
}

-- one more attribute in front
module _ (left : List ℕ) (some : 0 < length (from not_gap left)) (h : first_is 62 (from not_gap left) ≡ false) (size : ℕ) (fits : length left ≤ size) where
  name_place : size - length (behind_name (from not_gap left)) ≡ size - length left + length (before not_gap left) + length (name_of (from not_gap left))
  name_place =
      let gap = length-run not_gap left in
      let name = sym (length-append (name_of (from not_gap left)) (behind_name (from not_gap left))) ∙ ap length (name-joined (from not_gap left)) in
      omega arith

  next_place : size - length (behind_attribute left) ≡ size - length left + length (attribute_onto (attribute_of left) [])
  next_place =
      let all = sym (ap length (attribute_spelled left some h)) ∙ attribute_length (attribute_of left) (behind_attribute left) in
      omega arith

  pub inside_more : (kind : Kind) (first : Option Span) (ending : Ending) (rest : List ℕ) → ReadsInside kind (size - length (behind_attribute left)) (behind_attribute left) first ending rest →
      ReadsInside kind (size - length left) left (cond (wants kind (name_of (from not_gap left)))
      (Some (value_span (size - length (behind_name (from not_gap left))) (value_at (behind_name (from not_gap left))).0)) first) ending rest
  inside_more kind first ending rest r =
      let wanted = wants kind (name_of (from not_gap left)) in
      let value = (value_at (behind_name (from not_gap left))).0 in
      let here : Option Span = Some (value_span (size - length left + length (before not_gap left) + length (name_of (from not_gap left))) value) in
      record {
        attributes = attribute_of left ∷ r.attributes;
        gap = r.gap;
        spelled = sym (attribute_spelled left some h) ∙ ap (attribute_onto (attribute_of left)) r.spelled;
        each = (subst (IsAttribute (attribute_of left)) r.spelled (attribute_formed left some h), r.each);
        gap_ends = r.gap_ends;
        ends = r.ends;
        first_is =
            ap (λ n. cond wanted (Some (value_span n value)) first) name_place
            ∙ ap (λ f. cond wanted here f) (r.first_is ∙ ap (λ n. first_span kind n r.attributes) next_place);
      }

-- one turn of the loop over the attributes
pub turn : (kind : Kind) (size place : ℕ) (inside left rest name behind next : List ℕ) (first new : Option Span) (span : Span) →
    rest ≡ from not_gap left → 0 < length rest → first_is 62 rest ≡ false → name ≡ name_of rest → behind ≡ behind_name rest →
    span ≡ value_span (size - length behind) (value_at behind).0 → next ≡ (value_at behind).1 → new ≡ or_first first (cond (wants kind name) (Some span) None) → length left ≤ size →
    ((f : Option Span) (e : Ending) (r : List ℕ) → ReadsInside kind (size - length left) left f e r → ReadsInside kind place inside (or_first first f) e r) →
    (f : Option Span) (e : Ending) (r : List ℕ) → ReadsInside kind (size - length next) next f e r → ReadsInside kind place inside (or_first new f) e r
turn kind size place inside left rest name behind next first new span is_rest some h is_name is_behind is_span is_next is_new fits goes_on f e r reads =
    let name0 = name_of (from not_gap left) in
    let behind0 = behind_name (from not_gap left) in
    let span0 = value_span (size - length behind0) (value_at behind0).0 in
    let behind_is : behind ≡ behind0 = is_behind ∙ ap behind_name is_rest in
    let next_is : next ≡ behind_attribute left = is_next ∙ ap (λ ys. (value_at ys).1) behind_is in
    let name_is : name ≡ name0 = is_name ∙ ap name_of is_rest in
    let span_is : span ≡ span0 = is_span ∙ ap (λ ys. value_span (size - length ys) (value_at ys).0) behind_is in
    let back : ReadsInside kind (size - length (behind_attribute left)) (behind_attribute left) f e r = subst (λ ys. ReadsInside kind (size - length ys) ys f e r) next_is reads in
    let some0 : 0 < length (from not_gap left) = subst (λ ys. 0 < length ys) is_rest some in
    let h0 : first_is 62 (from not_gap left) ≡ false = ap (first_is 62) (sym is_rest) ∙ h in
    let on = goes_on _ e r (inside_more left some0 h0 size fits kind f e r back) in
    let same : or_first new f ≡ or_first first (cond (wants kind name0) (Some span0) f) =
    ap (λ x. or_first x f) is_new ∙ or_first-wanted first (wants kind name) span f
    ∙ ap (λ n. or_first first (cond (wants kind n) (Some span) f)) name_is
    ∙ ap (λ s. or_first first (cond (wants kind name0) (Some s) f)) span_is in
    subst (λ x. ReadsInside kind place inside x e r) (sym same) on

within_cases : (P : Span → Type 0) (first : Option Span) (wanted : Bool) (span : Span) → IfSome first P → P span → IfSome (or_first first (cond wanted (Some span) None)) P
within_cases P (Some first) wanted span h k = h
within_cases P None true span h k = k
within_cases P None false span h k = tt

pub within_turn : (P : Span → Type 0) (first new : Option Span) (wanted : Bool) (span : Span) → new ≡ or_first first (cond wanted (Some span) None) → IfSome first P → P span → IfSome new P
within_turn P first new wanted span e h k = subst (λ x. IfSome x P) (sym e) (within_cases P first wanted span h k)

-- ## Two insides of one list are the same

one_name : (a b r s : List ℕ) → IsAttributeName a r → IsAttributeName b s → a ++ r ≡ b ++ s → (a ≡ b) × (r ≡ s)
one_name [] b r s h k e = absurd h
one_name (x ∷ a) [] r s h k e = absurd k
one_name (x ∷ a) (y ∷ b) r s h k e =
    let same : x ≡ y = cc in
    let more : a ++ r ≡ b ++ s = cc in
    let run = one_run (at_byte ends_attribute_name) a b r s h.1 k.1 more in
    (ap (λ z. z ∷ a) same ∙ ap (λ z. y ∷ z) run.0, run.1)

pub one_attribute : (a b : Attribute) (r s : List ℕ) → IsAttribute a r → IsAttribute b s → attribute_onto a r ≡ attribute_onto b s → (a ≡ b) × (r ≡ s)
one_attribute a b r s h k e =
    let gap = one_run not_gap a.gap b.gap _ _ h.gap k.gap e in
    let name = one_name a.name b.name _ _ h.name k.name gap.1 in
    let value = one_value a.value b.value r s h.value k.value name.1 in
    let make : List ℕ → List ℕ → Value → Attribute = λ g n v. record { gap = g; name = n; value = v } in
    (ap (λ g. make g a.name a.value) gap.0 ∙ ap (λ n. make b.gap n a.value) name.0 ∙ ap (make b.gap b.name) value.0, value.1)

-- a mark or the page's end
pub one_end : (mark : ℕ) (more : List ℕ) (e f : Ending) (r s : List ℕ) → EndsBy e r → EndsBy f s → end_onto (mark ∷ more) e r ≡ end_onto (mark ∷ more) f s → (e ≡ f) × (r ≡ s)
one_end mark more Marked Marked r s h k e = (refl, append_cancel_left (mark ∷ more) r s e)
one_end mark more Marked PageEnd r s h k e = let none : mark ∷ (more ++ r) ≡ [] = e ∙ k in cc
one_end mark more PageEnd Marked r s h k e = let none : [] ≡ mark ∷ (more ++ s) = sym h ∙ e in cc
one_end mark more PageEnd PageEnd r s h k e = (refl, e)

-- no attribute begins where a tag ends
no_name : (e : Ending) (r name rest : List ℕ) → EndsBy e r → IsAttributeName name rest → end_onto (62 ∷ []) e r ≡ name ++ rest → ⊥
no_name e r [] rest h k same = k
no_name Marked r (b ∷ name) rest h k same =
    let here : b ≡ 62 = cc in
    both_ways (eqb b 62) k.0 (eq-eqb b 62 here)
no_name PageEnd r (b ∷ name) rest h k same = let none : [] ≡ b ∷ (name ++ rest) = sym h ∙ same in cc

pub record IsInside (inside : List ℕ) (attributes : List Attribute) (gap : List ℕ) (ending : Ending) (rest : List ℕ) : Type 0 where
  pub spelled : inside ≡ attributes_onto attributes (tag_end_onto gap ending rest)
  pub each : AreAttributes attributes (tag_end_onto gap ending rest)
  pub gap_ends : IsGap gap (end_onto (62 ∷ []) ending rest)
  pub ends : EndsBy ending rest

pub one_inside : (inside : List ℕ) (as_ bs : List Attribute) (g h : List ℕ) (e f : Ending) (r s : List ℕ) → IsInside inside as_ g e r → IsInside inside bs h f s → (as_ ≡ bs) × (g ≡ h) × (e ≡ f)
    × (r ≡ s)
one_inside inside [] [] g h e f r s i j =
    let gap = one_run not_gap g h _ _ i.gap_ends j.gap_ends (sym i.spelled ∙ j.spelled) in
    let mark = one_end 62 [] e f r s i.ends j.ends gap.1 in
    (refl, gap.0, mark.0, mark.1)
one_inside inside [] (b ∷ bs) g h e f r s i j =
    let gap = one_run not_gap g b.gap _ _ i.gap_ends j.each.0.gap (sym i.spelled ∙ j.spelled) in
    absurd (no_name e r b.name _ i.ends j.each.0.name gap.1)
one_inside inside (a ∷ as_) [] g h e f r s i j =
    let gap = one_run not_gap h a.gap _ _ j.gap_ends i.each.0.gap (sym j.spelled ∙ i.spelled) in
    absurd (no_name f s a.name _ j.ends i.each.0.name gap.1)
one_inside inside (a ∷ as_) (b ∷ bs) g h e f r s i j =
    let first = one_attribute a b _ _ i.each.0 j.each.0 (sym i.spelled ∙ j.spelled) in
    let more : IsInside (attributes_onto as_ (tag_end_onto g e r)) as_ g e r = record { spelled = refl; each = i.each.1; gap_ends = i.gap_ends; ends = i.ends } in
    let others : IsInside (attributes_onto as_ (tag_end_onto g e r)) bs h f s = record { spelled = first.1; each = j.each.1; gap_ends = j.gap_ends; ends = j.ends } in
    let same = one_inside (attributes_onto as_ (tag_end_onto g e r)) as_ bs g h e f r s more others in
    (ap (λ x. x ∷ as_) first.0 ∙ ap (λ xs. b ∷ xs) same.0, same.1, same.2, same.3)
