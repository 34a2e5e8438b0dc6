use Rattle.std.proofs.Common.{◌≡◌, ◌∙◌, ℕ, ◌<◌, List, [], ◌∷◌, ◌++◌, length, take, sym, ap, subst, arith}
use Rattle.std.specs.List.{AllByRecursion}
use Rattle.std.proofs.lemmas.List.{take_more}
use Rattle.irl_offer.specs.declared.settings.Settings.{Settings}
use Rattle.irl_bay.specs.Drum.{durables}
use Rattle.irl_schedule.proofs.Counts.{durable_index, length-durables}
use Rattle.irl_log.specs.Form.{IsWord}
use Rattle.irl_ledger.proofs.Settling.{all_push}
use Rattle.irl_ledger.proofs.settle.fronts_of.Goals as goal

pub loop-b-preserved : goal.loop-b-preserved
loop-b-preserved c =
    let urls = c.args.urls.now in
    let b = c.loop-b.b in
    let pushed : c.push.new.self ≡ c.loop-b.fronts ++ c.durable.result ∷ [] = c.in_ok-push.ensures.ok in
    let within : b < length (durables urls) =
    omega (arith, ap (λ (s : Settings). s.buckets) c.settings-b-end.ensures, length-durables urls, c.requires.count) in
    let word : IsWord c.durable.result = omega arith in
    record {
      value = pushed ∙ ap (λ (l : List ℕ). l ++ c.durable.result ∷ []) c.loop-b.invariant.value
          ∙ ap (λ (n : ℕ). take b (durables urls) ++ n ∷ []) (c.durable.ensures.value ∙ sym (durable_index urls b)) ∙ sym (take_more (durables urls) b 0 within);
      words = subst (AllByRecursion IsWord) (sym pushed) (all_push IsWord c.loop-b.fronts c.durable.result c.loop-b.invariant.words word);
    }
