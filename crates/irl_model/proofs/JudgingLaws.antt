-- Judging one offer at a time gives what looking back over the whole list gives.
use Rattle.std.proofs.Common.{◌≡◌, ◌∙◌, ℕ, suc, List, [], ◌∷◌, ◌++◌, map, length, drop, refl, sym, ap, Option, Some, append_assoc, length-append}
use Rattle.std.specs.Prelude.{slice_get}
use Rattle.std.proofs.Math.Seq.{take-append_seam, drop-append_seam}
use Rattle.std.specs.List.{enumerate_from, zip}
use Rattle.std.specs.FinMap.{get}
use Rattle.irl_offer.specs.declared.offer.Rule.{Rule}
use Rattle.irl_offer.specs.declared.offer.Verdict.{Verdict}
use Rattle.irl_offer.specs.Tuple.{Tuple}
use Rattle.irl_model.specs.Judging.{KeyMap, entered, after, answer, verdict, judgements}

-- each offer with the answer of the set as it stands when the offer comes
abbrev pub judged_on : Rule → KeyMap → List Tuple → List (Tuple × Option Verdict)
judged_on rule seen [] = []
judged_on rule seen (offer ∷ offers) = (offer, answer offer.op (get seen offer.key)) ∷ judged_on rule (entered rule seen offer) offers

pub after-append : (rule : Rule) (seen : KeyMap) (xs ys : List Tuple) → after rule seen (xs ++ ys) ≡ after rule (after rule seen xs) ys
after-append rule seen [] ys = refl
after-append rule seen (x ∷ xs) ys = after-append rule (entered rule seen x) xs ys

pub judged_on-append : (rule : Rule) (seen : KeyMap) (xs ys : List Tuple) → judged_on rule seen (xs ++ ys) ≡ judged_on rule seen xs ++ judged_on rule (after rule seen xs) ys
judged_on-append rule seen [] ys = refl
judged_on-append rule seen (x ∷ xs) ys = ap (λ rest. (x, answer x.op (get seen x.key)) ∷ rest) (judged_on-append rule (entered rule seen x) xs ys)

-- the offer at a list's seam, and what stands before it
at_seam : (before : List Tuple) (x : Tuple) (rest : List Tuple) → slice_get (before ++ x ∷ rest) (length before) ≡ Some x
at_seam [] x rest = refl
at_seam (y ∷ before) x rest = at_seam before x rest

from_place : (rule : Rule) (base : KeyMap) (before offers : List Tuple) → map (λ (p : ℕ × Tuple). (p.1, verdict rule base (before ++ offers) p.0)) (enumerate_from (length before) offers)
    ≡ judged_on rule (after rule base before) offers
from_place rule base before [] = refl
from_place rule base before (x ∷ offers) =
    let ih = rw (append_assoc before (x ∷ []) offers, length-append before (x ∷ []), after-append rule base before (x ∷ [])) at (from_place rule base (before ++ x ∷ []) offers) in
    rw (take-append_seam before (x ∷ offers), at_seam before x offers, ih) refl

pub judgements-judged_on : (rule : Rule) (base : KeyMap) (offers : List Tuple) → judgements rule base offers ≡ judged_on rule base offers
judgements-judged_on rule base offers = from_place rule base [] offers

-- one offer more
pub after-more : (rule : Rule) (seen : KeyMap) (xs : List Tuple) (x : Tuple) → after rule seen (xs ++ x ∷ []) ≡ entered rule (after rule seen xs) x
after-more rule seen xs x = after-append rule seen xs (x ∷ [])

pub judged_on-more : (rule : Rule) (seen : KeyMap) (xs : List Tuple) (x : Tuple) → judged_on rule seen (xs ++ x ∷ []) ≡ judged_on rule seen xs ++ (x, answer x.op (get (after rule seen xs) x.key)) ∷ []
judged_on-more rule seen xs x = judged_on-append rule seen xs (x ∷ [])

pub length-judged_on : (rule : Rule) (seen : KeyMap) (xs : List Tuple) → length (judged_on rule seen xs) ≡ length xs
length-judged_on rule seen [] = refl
length-judged_on rule seen (x ∷ xs) = ap (λ (n : ℕ). suc n) (length-judged_on rule (entered rule seen x) xs)

-- the judgements of what comes later are those of the set that was asked what came before
pub judgements-drop : (rule : Rule) (base : KeyMap) (xs ys : List Tuple) → drop (length xs) (judgements rule base (xs ++ ys)) ≡ judgements rule (after rule base xs) ys
judgements-drop rule base xs ys =
    let seam : drop (length xs) (judged_on rule base xs ++ judged_on rule (after rule base xs) ys) ≡ judged_on rule (after rule base xs) ys =
    rw (← length-judged_on rule base xs) (drop-append_seam (judged_on rule base xs) (judged_on rule (after rule base xs) ys)) in
    ap (drop (length xs)) (judgements-judged_on rule base (xs ++ ys) ∙ judged_on-append rule base xs ys) ∙ seam ∙ sym (judgements-judged_on rule (after rule base xs) ys)

zip-judged_on : (rule : Rule) (seen : KeyMap) (xs : List Tuple) → zip xs (map (λ (p : Tuple × Option Verdict). p.1) (judged_on rule seen xs)) ≡ judged_on rule seen xs
zip-judged_on rule seen [] = refl
zip-judged_on rule seen (x ∷ xs) = ap (λ (rest : List (Tuple × Option Verdict)). (x, answer x.op (get seen x.key)) ∷ rest) (zip-judged_on rule (entered rule seen x) xs)

pub length-judgements : (rule : Rule) (base : KeyMap) (xs : List Tuple) → length (judgements rule base xs) ≡ length xs
length-judgements rule base xs = rw (judgements-judged_on rule base xs) (length-judged_on rule base xs)

-- the offers beside their verdicts
pub zip-judgements : (rule : Rule) (base : KeyMap) (xs : List Tuple) → zip xs (map (λ p. p.1) (judgements rule base xs)) ≡ judgements rule base xs
zip-judgements rule base xs = rw (judgements-judged_on rule base xs) (zip-judged_on rule base xs)
