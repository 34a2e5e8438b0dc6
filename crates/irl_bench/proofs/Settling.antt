-- What is asked of a settle, by what is tested of it.
use Rattle.std.proofs.Common.{◌≡◌, ℕ, ◌≤◌, List, [], ◌∷◌, true, false, map, length, slice_index_or, subst, arith}
use Rattle.std.specs.List.{All, AllByRecursion}
use Rattle.std.proofs.lemmas.List.Elements.{recursion_from_All}
use Rattle.irl_bay.specs.Drum.{Drum}
use Rattle.irl_events.specs.Events.{has_number}
use Rattle.irl_events.specs.Legal.{are_distinct}
use Rattle.irl_ledger.specs.Settling.{IsFlushed, outcomes_of}
use Rattle.irl_ledger.proofs.Settling.{numbers_same}
use Rattle.irl_offer.specs.declared.done.Done.{Done}
use Rattle.irl_offer.specs.declared.outcome.Outcome.{Outcome}
use Rattle.irl_yard.specs.declared.parts.Rest.{Rest}
use Rattle.irl_yard.specs.declared.parts.Rest.TheVariants.{Plain, Crawl}
use Rattle.irl_yard.specs.Passing.{front_in}
use Rattle.irl_yard.specs.Settling.{MaySettle}

module _ (urls : Drum) where
  pub may_settle : (rest : Rest) (done : List Done) → 1 ≤ length done → length done ≤ 16384 → All (λ (d : Done). has_number (front_in rest) d.number ≡ true) done
      → All (λ (d : Done). All (IsFlushed urls) d.receipts) done → are_distinct (map (λ (d : ℕ × Outcome). d.0) (outcomes_of done)) ≡ true → MaySettle urls rest done
  may_settle Plain [] some few front links apart = absurd (omega arith)
  may_settle Plain (d ∷ ds) some few front links apart = let none : false ≡ true = front 0 d some in absurd cc
  may_settle (Crawl ledger) done some few front links apart =
      record {
        some = some;
        limit = few;
        front = recursion_from_All (λ (d : Done). has_number (front_in (Crawl ledger)) d.number ≡ true) done front;
        once = subst (λ (ns : List ℕ). are_distinct ns ≡ true) (numbers_same done) apart;
        links = recursion_from_All (λ (d : Done). AllByRecursion (IsFlushed urls) d.receipts) done
            (λ k d lt. recursion_from_All (IsFlushed urls) (slice_index_or done k d).receipts (links k d lt));
      }
