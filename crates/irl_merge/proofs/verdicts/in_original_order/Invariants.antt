use Rattle.std.proofs.Common.{◌≡◌, ℕ, ◌<◌, List, Option, None, get_or, length}
use Rattle.irl_offer.specs.declared.offer.Verdict.{Verdict}
use Rattle.irl_merge.specs.declared.query.Query.{Query}
use Rattle.irl_merge.specs.Queries.{AreTold}
use Rattle.irl_merge.proofs.verdicts.in_original_order.Given as goal

-- the verdicts so far stand at their places
abbrev pub invariant-loop-i : goal.invariant-loop-i
invariant-loop-i l = record {
  len : length l.told.items ≡ length l.asked;
  told : (right : List (Option Verdict)) → AreTold l.asked l.verdicts right → (j : ℕ) (d : Query) → j < l.i → get_or l.told.items (get_or l.asked j d).place None ≡ get_or l.verdicts j None;
}
