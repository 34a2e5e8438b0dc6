use Rattle.std.proofs.Common.{Option, IfOk, subst}
use Rattle.irl_disk.specs.Disk.{Files}
use Rattle.irl_yard.specs.Entering.{OpensYard, OpeningRefused}
use Rattle.irl_yard.proofs.Answered.{enters_behind, enters_looked, refused_behind, refused_looked}
use Rattle.irl_yard.proofs.Grounds.{found_ground}
use Rattle.irl_yard.proofs.Making.{if_err, if_err_then, same_err}
use Rattle.irl_yard.proofs.enter.open.Goals as goal

-- the head is refused
pub returns-in_err-settings-clause-refused : goal.returns-in_err-settings-clause-refused
returns-in_err-settings-clause-refused g c =
    let old = g.S.Store.told c.args.store.now in
    let new = g.S.Store.told c.find_head.new.store in
    let asked = c.args.asked.now in
    let look = c.find_head.ensures in
    if_err c.from_residual.result _ (λ fault. OpeningRefused asked fault old new) c.from_residual.ensures.1
    (refused_looked asked _ _ old new (g.met.S.Store.is_consistent c.args.store.now) look.same look.changes
    (found_ground asked old.files c.find_head.result _ c.in_err-settings.was look.not_ours look.damaged look.other look.bad))

pub returns-in_err-settings-clause-entered : goal.returns-in_err-settings-clause-entered
returns-in_err-settings-clause-entered g c =
    let look = c.find_head.ensures in
    enters_looked c.args.asked.now _ _ (g.S.Store.told c.args.store.now) (g.S.Store.told c.find_head.new.store) (g.met.S.Store.is_consistent c.args.store.now) look.same look.changes
    (same_err c.from_residual.result c.find_head.result _ _ c.from_residual.ensures.1 c.in_err-settings.was)

-- it has settings
pub returns-in-Some-clause-opened : goal.returns-in-Some-clause-opened
returns-in-Some-clause-opened g c =
    subst (λ (told : Option Files). IfOk c.adopt.result (λ parts. OpensYard c.args.asked.now parts told (g.S.Store.told c.adopt.new.store))) c.find_head.ensures.same c.adopt.ensures.opened

pub returns-in-Some-clause-refused : goal.returns-in-Some-clause-refused
returns-in-Some-clause-refused g c =
    let tells = g.S.Store.told in
    let law = g.met.S.Store.is_consistent in
    let look = c.find_head.ensures in
    if_err_then c.adopt.result _ _ (λ fault refused. refused_behind c.args.asked.now _ (tells c.args.store.now) (tells c.find_head.new.store) (law c.args.store.now)
    (law c.find_head.new.store) look.same look.changes fault (tells c.adopt.new.store) refused) c.adopt.ensures.refused

pub returns-in-Some-clause-entered : goal.returns-in-Some-clause-entered
returns-in-Some-clause-entered g c =
    let tells = g.S.Store.told in
    let law = g.met.S.Store.is_consistent in
    let look = c.find_head.ensures in
    enters_behind c.args.asked.now _ (tells c.args.store.now) (tells c.find_head.new.store) (law c.args.store.now) (law c.find_head.new.store) look.same look.changes _
    (tells c.adopt.new.store) c.adopt.ensures.entered

-- or none
pub returns-in-None-clause-opened : goal.returns-in-None-clause-opened
returns-in-None-clause-opened g c =
    subst (λ (told : Option Files). IfOk c.make.result (λ parts. OpensYard c.args.asked.now parts told (g.S.Store.told c.make.new.store))) c.find_head.ensures.same c.make.ensures.opened

pub returns-in-None-clause-refused : goal.returns-in-None-clause-refused
returns-in-None-clause-refused g c =
    let tells = g.S.Store.told in
    let law = g.met.S.Store.is_consistent in
    let look = c.find_head.ensures in
    if_err_then c.make.result _ _ (λ fault refused. refused_behind c.args.asked.now _ (tells c.args.store.now) (tells c.find_head.new.store) (law c.args.store.now)
    (law c.find_head.new.store) look.same look.changes fault (tells c.make.new.store) refused) c.make.ensures.refused

pub returns-in-None-clause-entered : goal.returns-in-None-clause-entered
returns-in-None-clause-entered g c =
    let tells = g.S.Store.told in
    let law = g.met.S.Store.is_consistent in
    let look = c.find_head.ensures in
    enters_behind c.args.asked.now _ (tells c.args.store.now) (tells c.find_head.new.store) (law c.args.store.now) (law c.find_head.new.store) look.same look.changes _
    (tells c.make.new.store) c.make.ensures.entered
