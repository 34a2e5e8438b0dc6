use Rattle.std.proofs.Common.{◌≡◌, ◌∙◌, ℕ, None, Some, Err, ap, sym}
use Rattle.irl_events.specs.Events.{Pass as SeenPass}
use Rattle.irl_events.specs.Legal.{broken}
use Rattle.irl_fate.specs.declared.fate.FateFault.TheVariants.{Illegal}
use Rattle.irl_frontier.specs.Frontier.{places_for}
use Rattle.irl_ledger.proofs.ledger.Ledger.pass.Goals as goal

-- a pass that may come breaks no rule
pub unreachable-requires : goal.unreachable-requires
unreachable-requires g c =
    let x = c.args.self.now.frontier in
    let fresh = c.args.fresh.now in
    let adds = c.keeps.ensures.degrees in
    let n = c.in-Err-Illegal.field-0-0 in
    let refused : c.plan_pass.result ≡ Err (Illegal n) = cc in
    let bad : broken x.progress (SeenPass c.sent-judged.result) (places_for adds.0 x fresh) ≡ Some n = c.plan_pass.ensures.illegal n adds.0 refused adds.1 in
    let good : broken x.progress (SeenPass x.progress.sent) (places_for adds.0 x fresh) ≡ None =
    c.a_pass_breaks_no_rule.ensures x adds.0 fresh c.keeps.ensures c.requires.passes.begun c.requires.passes.front c.requires.passes.rising in
    let at : broken x.progress (SeenPass x.progress.sent) (places_for adds.0 x fresh) ≡ Some n =
    ap (λ (q : ℕ). broken x.progress (SeenPass q) (places_for adds.0 x fresh)) (sym c.sent-judged.ensures) ∙ bad in
    cc
