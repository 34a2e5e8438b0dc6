use Rattle.std.proofs.Common.{◌∙◌, ◌+◌, ℕ, IsErrOf, sym, ap, rules, arith}
use Rattle.std.proofs.lemmas.Option.{slice_get_within}
use Rattle.irl_base.specs.declared.fault.Fault.TheVariants.{Damaged, Failed}
use Rattle.irl_layout.specs.BayFiles.{file_of}
use Rattle.irl_layout.specs.declared.files.BayFile.TheVariants.{Judged as JudgedFile}
use Rattle.irl_ledger.specs.Crawling.{domain_of}
use Rattle.irl_ledger.specs.Passing.{items_from}
use Rattle.irl_ledger.proofs.FreshUrls.{items_rise}
use Rattle.irl_ledger.proofs.Reading.{judged_refused, part_at, strange_refused}
use Rattle.irl_ledger.proofs.fresh.add_piece.Goals as goal

pub returns-in_err-part-clause-reads : goal.returns-in_err-part-clause-reads
returns-in_err-part-clause-reads g c =
    judged_refused c.judged_from.result c.from_residual.result _ _ c.args.urls.now (g.S.Store.told c.args.store.now) (g.S.Store.told c.judged_from.new.store)
    (search rules) (λ e is. search rules) c.judged_from.ensures.reads

pub returns-in_err-add_part-clause-reads : goal.returns-in_err-add_part-clause-reads
returns-in_err-add_part-clause-reads g c =
    let before = g.S.Store.told c.args.store.now in
    let urls = c.args.urls.now in
    let part = c.in_ok-part.part in
    strange_refused c.from_residual-in_err-add_part.result (IsErrOf c.judged_from.result Failed) _ urls before (g.S.Store.told c.judged_from.new.store) (search rules)
    c.judged_from.ensures.reads.reads (λ e. search rules) (λ n e. search rules) (λ f at named.
    let e : IsErrOf c.add_part.result (Damaged f at) = search rules in
    let d = c.add_part.ensures.damaged f at e in
    let k = d.1.0 in
    record {
      file = d.0 ∙ ap (λ (b : ℕ). file_of b 0 JudgedFile) (sym c.requires.base);
      i = c.args.from + k;
      within = omega (arith, slice_get_within part k d.1.1 d.1.2, c.in_ok-part.ensures.count, c.from.ensures, c.requires.some, c.requires.within);
      place = d.1.3;
      one = d.1.1;
      found = λ files told book holds. part_at urls.settings book holds.book_is c.args.from c.min-most.result k part d.1.1 (c.in_ok-part.ensures.reads.value files told book holds) d.1.2;
      strange = d.1.4;
    })

pub returns-clause-rising : goal.returns-clause-rising
returns-clause-rising g c =
    (items_from (domain_of c.args.suffixes.now) c.args.from c.in_ok-part.part, search rules, items_rise (domain_of c.args.suffixes.now) c.args.from _ c.in_ok-part.part (omega (arith, c.len.ensures)))
