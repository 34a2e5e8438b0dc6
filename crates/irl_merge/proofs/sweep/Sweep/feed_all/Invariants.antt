use Rattle.std.proofs.Common.{◌≡◌, ◌++◌, List, take}
use Rattle.irl_offer.specs.declared.offer.Rule.{Rule}
use Rattle.irl_offer.specs.declared.receipt.Pair.{Pair}
use Rattle.irl_offer.specs.Tuple.{Tuple}
use Rattle.irl_model.specs.Book.{IsPrefixOf}
use Rattle.irl_model.specs.Pairs.{IsRising}
use Rattle.irl_merge.specs.Sweeping.{HasSwept}
use Rattle.irl_merge.proofs.sweep.Sweep.feed_all.Given as goal

-- the pairs so far were fed
abbrev pub invariant-loop-pair : goal.invariant-loop-pair
invariant-loop-pair l = record {
  swept : (rule : Rule) (offers : List Tuple) (fed given more : List Pair) → l.out.items ≡ l.fn.out.items ++ more → HasSwept rule offers fed given l.fn.self
      → IsRising (fed ++ take l.pair-index l.block) → HasSwept rule offers (fed ++ take l.pair-index l.block) (given ++ more) l.self;
  sound : l.self.is_sound ≡ l.fn.self.is_sound;
  kept : IsPrefixOf l.fn.out.items l.out.items;
}
