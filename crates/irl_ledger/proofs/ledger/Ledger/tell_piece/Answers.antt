use Rattle.std.proofs.Common.{◌≡◌, ◌∙◌, ℕ, ◌-◌, take, drop, Ok, Err, ap, subst, arith}
use Rattle.std.proofs.lemmas.Result.{err_from_is_err_and}
use Rattle.std.specs.Option.{ForSome}
use Rattle.irl_base.specs.declared.fault.Fault.TheVariants.{Memory}
use Rattle.irl_model.specs.Book.{Book, gone, judged}
use Rattle.irl_bay.specs.Holding.{Holds}
use Rattle.irl_ledger.proofs.ToldPairs.{memory_alone, reads_refused, reads_well, told_nothing, told_piece, told_some}
use Rattle.irl_ledger.proofs.ledger.Ledger.tell_piece.Goals as goal

pub returns-in_err-part-clause-tells : goal.returns-in_err-part-clause-tells
returns-in_err-part-clause-tells g c =
    let s = g.S.Store.told c.args.store.now in
    let t = g.S.Store.told c.judged_from.new.store in
    let old = c.args.self.now in
    let out = err_from_is_err_and c.from_residual.result c.from_residual.ensures.1 in
    told_nothing c.from_residual.result old s t (omega (arith, c.requires.told, c.requires.to))
    (reads_refused c.judged_from.result c.from_residual.result _ _ old.pairs s t c.in_err-part.was (out.1 ∙ ap (λ e. Err e) out.2) c.judged_from.ensures.reads)

pub returns-in_err-tell_part-clause-tells : goal.returns-in_err-tell_part-clause-tells
returns-in_err-tell_part-clause-tells g c =
    let s = g.S.Store.told c.args.store.now in
    let t = g.S.Store.told c.judged_from.new.store in
    let old = c.args.self.now in
    let part = c.in_ok-part.part in
    let out = err_from_is_err_and c.from_residual-in_err-tell_part.result c.from_residual-in_err-tell_part.ensures.1 in
    let is : c.from_residual-in_err-tell_part.result ≡ Err Memory = out.1 ∙ ap (λ e. Err e) out.2 in
    told_piece c.from_residual-in_err-tell_part.result old c.tell_part.new.frontier s t c.min-most.result c.tell_part.ensures.count part
    (told_some c.tell_part.result part old.frontier c.tell_part.new.frontier c.tell_part.ensures)
    c.tell_part.ensures.few (subst (λ (n : ℕ). ForSome s.files (λ _. (book : Book) → Holds s.images old.pairs book → part ≡ take c.min-most.result (drop (n - gone book) (judged book))))
    c.told-from.ensures c.in_ok-part.ensures.reads.value) (omega (arith, c.in_ok-part.ensures.count, c.told-from.ensures, c.requires.told))
    (omega (arith, c.requires.told, c.requires.to))
    (reads_well c.from_residual-in_err-tell_part.result _ old.pairs s t (λ fault named. memory_alone c.from_residual-in_err-tell_part.result fault is named) c.judged_from.ensures.reads.reads)

pub returns-clause-tells : goal.returns-clause-tells
returns-clause-tells g c =
    let s = g.S.Store.told c.args.store.now in
    let t = g.S.Store.told c.judged_from.new.store in
    let old = c.args.self.now in
    let part = c.in_ok-part.part in
    told_piece (Ok (tt {0})) old c.tell_part.new.frontier s t c.min-most.result c.tell_part.ensures.count part
    (told_some c.tell_part.result part old.frontier c.tell_part.new.frontier c.tell_part.ensures)
    c.tell_part.ensures.few (subst (λ (n : ℕ). ForSome s.files (λ _. (book : Book) → Holds s.images old.pairs book → part ≡ take c.min-most.result (drop (n - gone book) (judged book))))
    c.told-from.ensures c.in_ok-part.ensures.reads.value) (omega (arith, c.in_ok-part.ensures.count, c.told-from.ensures, c.requires.told))
    (omega (arith, c.requires.told, c.requires.to))
    (reads_well (Ok (tt {0})) _ old.pairs s t (λ fault named. let no : ⊥ = cc in absurd no) c.judged_from.ensures.reads.reads)
