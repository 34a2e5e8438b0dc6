use Rattle.std.proofs.Common.{◌≡◌, ◌∙◌, ℕ, List, [], ◌∷◌, ◌++◌, take, sym, ap, subst}
use Rattle.std.specs.List.{AllByRecursion}
use Rattle.irl_offer.specs.declared.done.Done.{Done}
use Rattle.irl_offer.specs.declared.outcome.Outcome.{Outcome}
use Rattle.irl_log.specs.Form.{IsDone}
use Rattle.irl_ledger.specs.Settling.{outcomes_of}
use Rattle.irl_ledger.proofs.Settling.{all_push, outcomes_more}
use Rattle.irl_ledger.proofs.settle.settled.Goals as goal

pub loop-one-preserved : goal.loop-one-preserved
loop-one-preserved c =
    let i = c.loop-one.one-index in
    let pushed : c.push.new.self ≡ c.loop-one.settled ++ c.outcome_of.result ∷ [] = c.in_ok-push.ensures.ok in
    record {
      value = pushed ∙ ap (λ (l : List (ℕ × Outcome)). l ++ c.outcome_of.result ∷ []) c.loop-one.invariant.value
          ∙ ap (λ (one : ℕ × Outcome). outcomes_of (take i c.args.done.now) ++ one ∷ []) (c.outcome_of.ensures.value ∙ ap (λ (d : Done). (d.number, d.outcome)) c.one-item.is)
          ∙ sym (outcomes_more c.args.done.now i c.one-item.result c.loop-one-test.true);
      form = subst (AllByRecursion IsDone) (sym pushed) (all_push IsDone c.loop-one.settled c.outcome_of.result c.loop-one.invariant.form c.outcome_of.ensures.form);
    }
