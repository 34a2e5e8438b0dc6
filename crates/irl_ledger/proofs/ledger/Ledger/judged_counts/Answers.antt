use Rattle.std.proofs.Common.{◌≡◌, ◌∙◌, Result, Err, sym, ap, subst}
use Rattle.std.proofs.lemmas.Result.{err_from_is_err_and}
use Rattle.irl_base.specs.declared.fault.Fault.{Fault}
use Rattle.irl_disk.proofs.Effects.{reads_for}
use Rattle.irl_ledger.specs.declared.open.JudgedCounts.{JudgedCounts}
use Rattle.irl_ledger.specs.Redoing.{ReadsCounts}
use Rattle.irl_ledger.proofs.ReadCounts.{counts_both, counts_first, counts_second}
use Rattle.irl_ledger.proofs.ledger.Ledger.judged_counts.Goals as goal

pub returns-in_err-of_urls : goal.returns-in_err-of_urls
returns-in_err-of_urls g c =
    let s = g.S.Store.told c.args.store.now in
    let t = g.S.Store.told c.judged_at_cuts.new.store in
    let out = err_from_is_err_and c.from_residual.result c.from_residual.ensures.1 in
    let fault = c.in_err-of_urls.field-0.0 in
    let is : c.from_residual.result ≡ Err fault = out.1 ∙ ap (λ e. Err e) out.2 in
    subst (λ (r : Result JudgedCounts Fault). ReadsCounts r c.args.urls.now c.args.self.now.pairs s t) (sym is)
    (counts_first c.args.urls.now c.args.self.now.pairs s t t c.judged_at_cuts.result _ fault c.in_err-of_urls.was c.judged_at_cuts.ensures)

pub returns-in_err-of_pairs : goal.returns-in_err-of_pairs
returns-in_err-of_pairs g c =
    let s = g.S.Store.told c.args.store.now in
    let t = g.S.Store.told c.judged_at_cuts.new.store in
    let w = g.S.Store.told c.judged_at_cuts-2.new.store in
    let out = err_from_is_err_and c.from_residual-in_err-of_pairs.result c.from_residual-in_err-of_pairs.ensures.1 in
    let fault = c.in_err-of_pairs.field-0.0 in
    let is : c.from_residual-in_err-of_pairs.result ≡ Err fault = out.1 ∙ ap (λ e. Err e) out.2 in
    subst (λ (r : Result JudgedCounts Fault). ReadsCounts r c.args.urls.now c.args.self.now.pairs s w) (sym is)
    (counts_second c.args.urls.now c.args.self.now.pairs s t w c.is_sound-is_sound.ensures.drum (g.met.S.Store.is_consistent c.judged_at_cuts.new.store) c.judged_at_cuts-2.result _ fault
    c.in_err-of_pairs.was
    (reads_for _ _ ⊥ s t (λ no. absurd no) c.in_ok-of_urls.ensures.reads) c.judged_at_cuts-2.ensures)

pub returns : goal.returns
returns g c =
    let s = g.S.Store.told c.args.store.now in
    let t = g.S.Store.told c.judged_at_cuts.new.store in
    let w = g.S.Store.told c.judged_at_cuts-2.new.store in
    counts_both c.args.urls.now c.args.self.now.pairs s t w c.is_sound-is_sound.ensures.drum (g.met.S.Store.is_consistent c.judged_at_cuts.new.store)
    (record { urls = c.in_ok-of_urls.of_urls; pairs = c.in_ok-of_pairs.of_pairs })
    (reads_for _ _ ⊥ s t (λ no. absurd no) c.in_ok-of_urls.ensures.reads) (reads_for _ _ ⊥ t w (λ no. absurd no) c.in_ok-of_pairs.ensures.reads)
    c.in_ok-of_urls.ensures.value c.in_ok-of_pairs.ensures.value
