-- The links of a page that are left, one after another.
use Rattle.std.proofs.Common.{◌≡◌, ℕ, zero, suc, ◌+◌, ◌-◌, ◌<◌, List, ◌∷◌, length, take, drop, map, ap, sym, ◌∙◌, arith}
use Rattle.std.proofs.lemmas.Grind.{common_steps}
use Rattle.std.proofs.lemmas.List.{drop-drop}
use Rattle.irl_scan.specs.declared.span.Span.{Span}
use Rattle.irl_offer.specs.Tuple.{Tuple}
use Rattle.irl_answer.specs.Found.{offer_from, webs_at}

-- all that is left from a place on
pub all_left : (all spans : List Span) (n : ℕ) → all ≡ spans → take (length all - n) (drop n all) ≡ drop n spans
all_left all spans n same =
    let whole : take (length all - n) (drop n all) ≡ drop n all = grind (arith, common_steps) in
    whole ∙ ap (drop n) same

take_first : (domain room : ℕ) (web : List ℕ) (webs : List (List ℕ)) → 0 < room
    → map (offer_from domain) (take room (web ∷ webs)) ≡ offer_from domain web ∷ map (offer_from domain) (take (room - 1) webs)
take_first domain zero web webs some = absurd (omega arith)
take_first domain (suc room) web webs some = ap (λ n. offer_from domain web ∷ map (offer_from domain) (take n webs)) (omega arith)

-- a page that was named is handed out before the others
pub first_given : (domain room passed count : ℕ) (page base : List ℕ) (spans rest : List Span) (first : Tuple) → rest ≡ drop passed spans → 0 < room
    → first ≡ offer_from domain first.aux → webs_at page base rest ≡ first.aux ∷ webs_at page base (drop count rest)
    → map (offer_from domain) (take room (webs_at page base (drop passed spans)))
    ≡ first ∷ map (offer_from domain) (take (room - 1) (webs_at page base (drop (passed + count) spans)))
first_given domain room passed count page base spans rest first is some offer webs =
    ap (λ s. map (offer_from domain) (take room (webs_at page base s))) (sym is)
    ∙ ap (λ w. map (offer_from domain) (take room w)) webs
    ∙ take_first domain room first.aux (webs_at page base (drop count rest)) some
    ∙ ap (λ f. f ∷ map (offer_from domain) (take (room - 1) (webs_at page base (drop count rest)))) (sym offer)
    ∙ ap (λ s. first ∷ map (offer_from domain) (take (room - 1) (webs_at page base (drop count s)))) is
    ∙ ap (λ s. first ∷ map (offer_from domain) (take (room - 1) (webs_at page base s))) (drop-drop count passed spans)
