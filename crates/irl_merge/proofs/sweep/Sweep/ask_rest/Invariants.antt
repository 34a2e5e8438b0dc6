use Rattle.std.proofs.Common.{◌≡◌, ◌++◌, List, length}
use Rattle.irl_offer.specs.declared.offer.Rule.{Rule}
use Rattle.irl_offer.specs.declared.receipt.Pair.{Pair}
use Rattle.irl_model.specs.Book.{IsPrefixOf}
use Rattle.irl_model.specs.Judging.{KeyMap}
use Rattle.irl_merge.specs.Sweeping.{HasAsked}
use Rattle.irl_merge.proofs.sweep.Sweep.ask_rest.Given as goal

-- the offers so far are judged
abbrev pub invariant-loop : goal.invariant-loop
invariant-loop l = record {
  at : l.counter ≡ length l.self.verdicts.items;
  asked : (rule : Rule) (keys : KeyMap) (given more : List Pair) → l.out.items ≡ l.fn.out.items ++ more → HasAsked rule keys given l.fn.self → HasAsked rule keys (given ++ more) l.self;
  same : l.self.queries ≡ l.fn.self.queries;
  kept : IsPrefixOf l.fn.out.items l.out.items;
}
