use Rattle.std.proofs.Common.{None, Ok, sym, subst}
use Rattle.irl_yard.specs.declared.parts.Rest.{Rest}
use Rattle.irl_yard.specs.Noting.{MayReadNoteIn, ReadsNoteIn}
use Rattle.irl_yard.proofs.NoteStates.{none_in, one_in}
use Rattle.irl_yard.proofs.parts.Rest.robots.Goals as goal

pub robots-requires : goal.robots-requires
robots-requires g c = subst (λ (r : Rest). MayReadNoteIn r c.args.host.now) c.in-Crawl.is c.requires

pub returns-in-Plain : goal.returns-in-Plain
returns-in-Plain g c =
    let s = g.S.Store.told c.args.store.now in
    subst (λ (r : Rest). ReadsNoteIn (Ok None) c.args.host.now c.args.moment r s s) (sym c.in-Plain.is)
    (none_in c.args.host.now c.args.moment s (g.met.S.Store.is_consistent c.args.store.now))

pub returns-in-Crawl : goal.returns-in-Crawl
returns-in-Crawl g c =
    let s = g.S.Store.told c.args.store.now in
    let t = g.S.Store.told c.robots.new.store in
    subst (λ (r : Rest). ReadsNoteIn c.robots.result c.args.host.now c.args.moment r s t) (sym c.in-Crawl.is)
    (one_in c.robots.result c.args.host.now c.args.moment c.in-Crawl.ledger s t c.robots.ensures)
