-- The degrees of sent pairs, and the budgets by them.
use Rattle.std.proofs.Common.{◌≡◌, ◌∙◌, ℕ, ◌&&◌, List, map, sym, ap}
use Rattle.std.specs.Prelude.{bytes_eq, count_by, nat_le, nat_lt}
use Rattle.irl_offer.specs.Tuple.{Tuple}
use Rattle.irl_offer.specs.declared.settings.Settings.{Settings}
use Rattle.irl_model.specs.Book.{Book}
use Rattle.irl_events.specs.Links.{linked}
use Rattle.irl_events.proofs.Degrees.{same_degrees, linked_kept}
use Rattle.irl_star.specs.Budgets.{degree, budget}
use Rattle.irl_star.proofs.SameDegrees.{same_budget}
use Rattle.irl_core.specs.States.{AreSent, uniques_within}

pub sent_degrees : (links : List Tuple) (urls pairs : Book) (cuts judged sent : ℕ) → AreSent links urls pairs cuts judged sent → (domain : List ℕ)
    → degree (map (λ p. p.1.aux) (uniques_within 0 sent pairs)) domain ≡ degree (linked links) domain
unfolding degree
sent_degrees links urls pairs cuts judged sent are domain =
    ap (λ (texts : List (List ℕ)). count_by (λ (text : List ℕ). bytes_eq domain text) texts) (sym (linked_kept (λ (p : ℕ × Tuple). nat_le 0 p.0 && nat_lt p.0 sent) pairs))
    ∙ same_degrees (map (λ (p : ℕ × Tuple). p.1) (uniques_within 0 sent pairs)) links are.alike domain

pub sent_budgets : (links : List Tuple) (urls pairs : Book) (cuts judged sent : ℕ) → AreSent links urls pairs cuts judged sent → (settings : Settings) (domain : List ℕ)
    → budget settings (map (λ p. p.1.aux) (uniques_within 0 sent pairs)) domain ≡ budget settings (linked links) domain
sent_budgets links urls pairs cuts judged sent are settings domain =
    same_budget settings (map (λ (p : ℕ × Tuple). p.1.aux) (uniques_within 0 sent pairs)) (linked links) (sent_degrees links urls pairs cuts judged sent are) domain
