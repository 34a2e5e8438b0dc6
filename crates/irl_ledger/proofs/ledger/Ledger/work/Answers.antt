use Rattle.std.proofs.Common.{◌≡◌, ◌∙◌, ◌*◌, ℕ, Result, Err, IsErrOf, refl, sym, ap, subst, rules}
use Rattle.irl_base.specs.declared.fault.Fault.{Fault}
use Rattle.irl_base.specs.declared.fault.Fault.TheVariants.{Damaged, Failed}
use Rattle.irl_key.specs.Links.{IsCanonicalText}
use Rattle.irl_key.specs.declared.web.Work.{Work}
use Rattle.irl_bay.specs.JudgedSpoilt.{IsJudgedFile}
use Rattle.irl_disk.proofs.Effects.{reads_for}
use Rattle.irl_layout.specs.BayFiles.{file_of}
use Rattle.irl_layout.specs.declared.files.BayFile.TheVariants.{Judged as JudgedFile}
use Rattle.irl_ledger.proofs.Reading.{found_last, judged_refused, strange_refused}
use Rattle.irl_ledger.proofs.ledger.Ledger.work.Goals as goal

pub returns-in_err-one-clause-reads : goal.returns-in_err-one-clause-reads
returns-in_err-one-clause-reads g c =
    judged_refused c.judged.result c.from_residual.result _ _ c.args.urls.now (g.S.Store.told c.args.store.now) (g.S.Store.told c.judged.new.store)
    (search rules) (λ e is. search rules) c.judged.ensures.reads

pub returns-in-Some-clause-reads : goal.returns-in-Some-clause-reads
returns-in-Some-clause-reads g c =
    let before = g.S.Store.told c.args.store.now in
    let after = g.S.Store.told c.judged.new.store in
    let urls = c.args.urls.now in
    let work : Work = record { number = c.args.number; web = c.in-Some.web } in
    let text : c.in-Some.web ≡ c.in_ok-one.one.offer.aux = search rules in
    found_last work _ urls before after (reads_for (IsJudgedFile urls) (IsErrOf c.judged.result Failed) ⊥ before after (λ no. absurd no) c.judged.ensures.reads.reads)
    (λ files told book holds. record { one = c.in_ok-one.one; found = c.in_ok-one.ensures.reads.value files told book holds; web = text })

pub returns-clause-reads : goal.returns-clause-reads
returns-clause-reads g c =
    let before = g.S.Store.told c.args.store.now in
    let urls = c.args.urls.now in
    let result : Result Work Fault = Err (Damaged c.number-file.result (48 * c.args.number)) in
    let text : c.bytes.result.now ≡ c.in_ok-one.one.offer.aux = search rules in
    strange_refused result (IsErrOf c.judged.result Failed) _ urls before (g.S.Store.told c.judged.new.store) refl
    c.judged.ensures.reads.reads (λ e. cc) (λ n e. cc) (λ f at named.
    let file : f ≡ c.number-file.result = cc in
    let place : at ≡ 48 * c.args.number = cc in
    record {
      file = file ∙ c.number-file.ensures.value ∙ ap (λ (b : ℕ). file_of b 0 JudgedFile) (sym c.requires.base);
      i = c.args.number;
      within = c.requires.within;
      place = place;
      one = c.in_ok-one.one;
      found = λ files told book holds. c.in_ok-one.ensures.reads.value files told book holds;
      strange = λ canonical. c.in_ok-web.ensures.none c.in-None.is (subst IsCanonicalText (sym text) canonical);
    })
