-- A scan of a page, piece by piece.
use Rattle.std.proofs.Common.{◌≡◌, ℕ, zero, suc, get_or, ◌-◌, ◌<◌, ◌≤◌, List, [], ◌∷◌, ◌++◌, length, Option, Some, None, All, refl, ap, sym, ◌∙◌, subst, append_assoc, arith}
use Rattle.std.proofs.lemmas.List.{append-nil}
use Rattle.std.proofs.lemmas.List.Elements.{All-append}
use Rattle.irl_scan.specs.declared.piece.Found.{Found}
use Rattle.irl_scan.specs.declared.piece.Found.TheVariants as found
use Rattle.irl_scan.specs.declared.span.Span.{Span}
use Rattle.irl_scan.specs.Page.{Piece, Cut}
use Rattle.irl_scan.specs.Links.{IsWithin, link_of, base_or, links_of, base_of}
use Rattle.irl_scan.specs.Reading.{Takes, Gives, found_within}
use Rattle.irl_scan.proofs.Exists.{some_cut}
use Rattle.irl_scan.proofs.Pieces.{one_cut, gives_end, gives_more}

-- ## Links

abbrev HasLinks : List ℕ → List Span → Type 0
HasLinks page spans = (base : Option Span) × Gives 0 page spans base

-- nothing is found before the first byte
pub links_start : (page rest : List ℕ) (spans : List Span) → rest ≡ page → spans ≡ [] → (more : List Span) (base : Option Span) → Gives (length page - length rest) rest more base
    → HasLinks page (spans ++ more)
links_start page rest spans all e more base gives =
    let start : length page - length page ≡ 0 = omega arith in
    let whole : Gives (length page - length page) page more base = subst (λ ys. Gives (length page - length ys) ys more base) all gives in
    (base, subst (λ ys. Gives 0 page (ys ++ more) base) (sym e) (subst (λ n. Gives n page more base) start whole))

pub none_within : (size : ℕ) (spans : List Span) → spans ≡ [] → All (IsWithin size) spans
none_within size spans e = subst (All (IsWithin size)) (sym e) (λ k d l. absurd (omega arith))

pub links_turn : (size : ℕ) (page rest next : List ℕ) (given : Found) (spans new : List Span) → length rest ≤ size → Takes (size - length rest) rest given next → new ≡ spans ++ link_of given →
    ((more : List Span) (base : Option Span) → Gives (size - length rest) rest more base → HasLinks page (spans ++ more)) →
    (more : List Span) (base : Option Span) → Gives (size - length next) next more base → HasLinks page (new ++ more)
links_turn size page rest next given spans new fits takes is_new goes_on more base gives =
    let all = goes_on (link_of given ++ more) (base_or given base) (gives_more size rest next given more base fits takes gives) in
    subst (HasLinks page) (sym (ap (λ ys. ys ++ more) is_new ∙ append_assoc spans (link_of given) more)) all

within_one : (size : ℕ) (span : Span) → IsWithin size span → (k : ℕ) (d : Span) → k < 1 → IsWithin size (get_or (span ∷ []) k d)
within_one size span h zero d l = h
within_one size span h (suc k) d l = absurd (omega arith)

within_link : (size : ℕ) (given : Found) → found_within size given → All (IsWithin size) (link_of given)
within_link size found.Nothing h = λ k d l. absurd (omega arith)
within_link size (found.Base span) h = λ k d l. absurd (omega arith)
within_link size (found.Link span) h = within_one size span h

pub links_within : (size : ℕ) (given : Found) (spans new : List Span) → new ≡ spans ++ link_of given → All (IsWithin size) spans → found_within size given → All (IsWithin size) new
links_within size given spans new e h k = subst (All (IsWithin size)) (sym e) (All-append (IsWithin size) spans (link_of given) h (within_link size given k))

pub links_told : (page rest : List ℕ) (spans : List Span) → rest ≡ [] → ((more : List Span) (base : Option Span) → Gives (length page - length rest) rest more base → HasLinks page (spans ++ more))
    → HasLinks page spans
links_told page rest spans empty goes_on = subst (HasLinks page) (append-nil spans) (goes_on [] None (gives_end (length page - length rest) rest empty))

pub links_found : (page : List ℕ) (spans : List Span) → HasLinks page spans → (pieces : List Piece) × Cut page pieces × (spans ≡ links_of pieces)
links_found page spans (base, gives) = (gives.pieces, gives.cut, gives.spans_are)

pub links_only : (page : List ℕ) (spans : List Span) → HasLinks page spans → (pieces : List Piece) → Cut page pieces → spans ≡ links_of pieces
links_only page spans (base, gives) pieces cut = gives.spans_are ∙ ap links_of (one_cut page gives.pieces pieces gives.cut cut)

-- ## The base

abbrev HasBase : List ℕ → Option Span → Type 0
HasBase page base = (spans : List Span) × Gives 0 page spans base

pub base_start : (page rest : List ℕ) → rest ≡ page → (spans : List Span) (base : Option Span) → Gives (length page - length rest) rest spans base → HasBase page base
base_start page rest all spans base gives =
    let start : length page - length page ≡ 0 = omega arith in
    let whole : Gives (length page - length page) page spans base = subst (λ ys. Gives (length page - length ys) ys spans base) all gives in
    (spans, subst (λ n. Gives n page spans base) start whole)

past : (given : Found) (base : Option Span) → ((span : Span) → given ≡ found.Base span → ⊥) → base_or given base ≡ base
past found.Nothing base h = refl
past (found.Link span) base h = refl
past (found.Base span) base h = absurd (h span refl)

pub base_passes : (size : ℕ) (page rest next : List ℕ) (given : Found) → length rest ≤ size → Takes (size - length rest) rest given next → ((span : Span) → given ≡ found.Base span → ⊥) →
    ((spans : List Span) (base : Option Span) → Gives (size - length rest) rest spans base → HasBase page base) →
    (spans : List Span) (base : Option Span) → Gives (size - length next) next spans base → HasBase page base
base_passes size page rest next given fits takes none goes_on spans base gives =
    subst (HasBase page) (past given base none) (goes_on (link_of given ++ spans) (base_or given base) (gives_more size rest next given spans base fits takes gives))

pub base_stops : (size : ℕ) (page rest next : List ℕ) (given : Found) (span : Span) → length rest ≤ size → length next ≤ length rest → Takes (size - length rest) rest given next
    → given ≡ found.Base span →
    ((spans : List Span) (base : Option Span) → Gives (size - length rest) rest spans base → HasBase page base) → HasBase page (Some span)
base_stops size page rest next given span fits less takes is_base goes_on =
    let others = some_cut (length next) size next (omega arith) (omega arith) in
    subst (λ f. HasBase page (base_or f others.base)) is_base (goes_on (link_of given ++ others.spans) (base_or given others.base)
    (gives_more size rest next given others.spans others.base fits takes others.gives))

pub base_told : (page rest : List ℕ) → rest ≡ [] → ((spans : List Span) (base : Option Span) → Gives (length page - length rest) rest spans base → HasBase page base) → HasBase page None
base_told page rest empty goes_on = goes_on [] None (gives_end (length page - length rest) rest empty)

pub base_found : (page : List ℕ) (base : Option Span) → HasBase page base → (pieces : List Piece) × Cut page pieces × (base ≡ base_of pieces)
base_found page base (spans, gives) = (gives.pieces, gives.cut, gives.base_is)

pub base_only : (page : List ℕ) (base : Option Span) → HasBase page base → (pieces : List Piece) → Cut page pieces → base ≡ base_of pieces
base_only page base (spans, gives) pieces cut = gives.base_is ∙ ap base_of (one_cut page gives.pieces pieces gives.cut cut)
