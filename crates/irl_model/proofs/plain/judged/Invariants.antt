use Rattle.std.proofs.Common.{◌≡◌, map}
use Rattle.std.specs.FinMap.{empty}
use Rattle.irl_model.specs.Judging.{after}
use Rattle.irl_model.specs.Book.{judged_as}
use Rattle.irl_model.proofs.JudgingLaws.{judged_on}
use Rattle.irl_model.proofs.plain.judged.Given as goal

-- the set was asked the offers so far, and gave their verdicts
abbrev pub invariant-loop-offer : goal.invariant-loop-offer
invariant-loop-offer l = record {
  seen : l.seen ≡ after l.rule empty l.yielded;
  told : l.judged.items ≡ map (judged_as l.buckets) (judged_on l.rule empty l.yielded);
}
