use Rattle.std.proofs.Common.{◌≡◌, map, take}
use Rattle.irl_model.specs.Judging.{after}
use Rattle.irl_model.proofs.JudgingLaws.{judged_on}
use Rattle.irl_model.proofs.key_set.KeySet.ask_all.Given as goal

-- the set was asked the offers so far, and gave their verdicts
abbrev pub invariant-loop-offer : goal.invariant-loop-offer
invariant-loop-offer l = record {
  seen : l.self ≡ after l.rule l.fn.self (take l.offer-index l.offers);
  told : l.verdicts.items ≡ map (λ p. p.1) (judged_on l.rule l.fn.self (take l.offer-index l.offers));
}
