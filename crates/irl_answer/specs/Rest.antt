-- The offers that are left, as the code holds them.
use Rattle.std.specs.Prelude.{ℕ, ◌≡◌, ◌≤◌, List, ◌∷◌, length, drop, option_to_list, IfSome}
use Rattle.irl_key.specs.Links.{IsCanonicalText}
use Rattle.irl_offer.specs.Tuple.{Tuple}
use Rattle.irl_scan.specs.declared.span.Span.{Span}
use Rattle.irl_answer.specs.declared.found.Rest.{Rest}
use Rattle.irl_answer.specs.declared.found.Rest.TheVariants.{One, Page}
use Rattle.irl_answer.specs.Found.{offer_from, webs_at, IsTaken}

abbrev pub left_of : Rest → List Tuple
left_of (One offer) = option_to_list offer
left_of (Page links) = links

-- a location that is left is taken; of a link this is known once it is read
abbrev pub HasTaken : Rest → Type 0
HasTaken (One offer) = IfSome offer IsTaken
HasTaken (Page links) = Unit {0}

-- this is the offer of the first link at these places of a page that has a canonical http text, the last of so many
pub record IsFirst (domain : ℕ) (page base : List ℕ) (spans : List Span) (offer : Tuple) (count : ℕ) : Type 0 where
  pub webs : webs_at page base spans ≡ offer.aux ∷ webs_at page base (drop count spans)
  pub within : count ≤ length spans
  pub offered : offer ≡ offer_from domain offer.aux
  pub canonical : IsCanonicalText offer.aux
