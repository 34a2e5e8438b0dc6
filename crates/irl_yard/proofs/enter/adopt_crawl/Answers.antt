use Rattle.std.proofs.Common.{◌∙◌, sym, subst}
use Rattle.irl_head.specs.declared.open_fault.OpenFault.{OpenFault}
use Rattle.irl_head.specs.Opening.{IsUnwanted}
use Rattle.irl_yard.specs.Entering.{OpeningRefused}
use Rattle.irl_yard.proofs.Answered.{enters_for}
use Rattle.irl_yard.proofs.CrawlEntered.{crawl_opened, damage_ground, log_call, log_damaged, may_open, part_entered, part_refused, rest_call, urls_call, urls_damaged}
use Rattle.irl_yard.proofs.CrawlOpened.{enters_opened}
use Rattle.irl_yard.proofs.Grounds.{bay_wanted}
use Rattle.irl_yard.proofs.Making.{open_fault_of}
use Rattle.irl_yard.proofs.enter.adopt_crawl.Goals as goal

-- ---- the log is refused
pub returns-in-Err-clause-refused : goal.returns-in-Err-clause-refused
returns-in-Err-clause-refused g c = λ asked agrees.
    let tells = g.S.Store.told in
    let law = g.met.S.Store.is_consistent in
    let old = tells c.args.store.now in
    let mid = tells c.read.new.store in
    let settings = c.args.settings.now in
    let valid = c.requires.valid in
    let kind = c.requires.kind in
    let head = c.requires.head in
    let call = log_call asked old.files settings valid agrees head kind _ old mid c.read.ensures.changes in
    subst (λ (fault : OpenFault). OpeningRefused asked fault old mid) (sym c.bay_fault.ensures)
    (part_refused asked settings valid agrees kind old (law c.args.store.now) head c.read.result c.in-Err.fault mid c.in-Err.is
    (λ f at is. log_damaged asked settings valid agrees kind old (law c.args.store.now) head f at (c.read.ensures.damaged f at is)) call)

pub returns-in-Err-clause-wanted : goal.returns-in-Err-clause-wanted
returns-in-Err-clause-wanted g c = λ unwanted. bay_wanted c.in-Err.fault (subst IsUnwanted c.bay_fault.ensures unwanted)

pub returns-in-Err-clause-entered : goal.returns-in-Err-clause-entered
returns-in-Err-clause-entered g c = λ asked agrees.
    let tells = g.S.Store.told in
    let law = g.met.S.Store.is_consistent in
    let old = tells c.args.store.now in
    let mid = tells c.read.new.store in
    let settings = c.args.settings.now in
    let valid = c.requires.valid in
    let kind = c.requires.kind in
    let head = c.requires.head in
    let call = log_call asked old.files settings valid agrees head kind _ old mid c.read.ensures.changes in
    part_entered asked settings valid agrees kind old (law c.args.store.now) head c.read.result c.in-Err.fault mid c.in-Err.is c.read.ensures.full call _
    (λ is. sym c.bay_fault.ensures ∙ open_fault_of is)

-- ---- the URLs are refused
pub returns-in-Err-adopt-clause-refused : goal.returns-in-Err-adopt-clause-refused
returns-in-Err-adopt-clause-refused g c = λ asked agrees.
    let tells = g.S.Store.told in
    let law = g.met.S.Store.is_consistent in
    let old = tells c.args.store.now in
    let mid = tells c.read.new.store in
    let late = tells c.adopt.new.store in
    let settings = c.args.settings.now in
    let valid = c.requires.valid in
    let kind = c.requires.kind in
    let head = c.requires.head in
    let call = urls_call asked old.files settings valid agrees head kind _ _ old mid late (law c.read.new.store) c.read.ensures.changes c.adopt.ensures.leaves in
    subst (λ (fault : OpenFault). OpeningRefused asked fault old late) (sym c.bay_fault-in-Err-adopt.ensures)
    (part_refused asked settings valid agrees kind old (law c.args.store.now) head c.adopt.result c.in-Err-adopt.fault late c.in-Err-adopt.is
    (λ f at is. urls_damaged asked settings valid agrees kind old (law c.args.store.now) head _ mid c.read.ensures.changes f at (c.adopt.ensures.refused.damaged f at is)) call)

pub returns-in-Err-adopt-clause-wanted : goal.returns-in-Err-adopt-clause-wanted
returns-in-Err-adopt-clause-wanted g c = λ unwanted. bay_wanted c.in-Err-adopt.fault (subst IsUnwanted c.bay_fault-in-Err-adopt.ensures unwanted)

pub returns-in-Err-adopt-clause-entered : goal.returns-in-Err-adopt-clause-entered
returns-in-Err-adopt-clause-entered g c = λ asked agrees.
    let tells = g.S.Store.told in
    let law = g.met.S.Store.is_consistent in
    let old = tells c.args.store.now in
    let mid = tells c.read.new.store in
    let late = tells c.adopt.new.store in
    let settings = c.args.settings.now in
    let valid = c.requires.valid in
    let kind = c.requires.kind in
    let head = c.requires.head in
    let call = urls_call asked old.files settings valid agrees head kind _ _ old mid late (law c.read.new.store) c.read.ensures.changes c.adopt.ensures.leaves in
    part_entered asked settings valid agrees kind old (law c.args.store.now) head c.adopt.result c.in-Err-adopt.fault late c.in-Err-adopt.is c.adopt.ensures.refused.full call _
    (λ is. sym c.bay_fault-in-Err-adopt.ensures ∙ open_fault_of is)

-- ---- the rest is opened
pub open-requires : goal.open-requires
open-requires g c =
    let tells = g.S.Store.told in
    may_open c.args.settings.now c.requires.valid (tells c.args.store.now) (tells c.read.new.store) (tells c.adopt.new.store) c.in-Ok.read.0 c.in-Ok.read.1 c.in-Ok.ensures
    c.in-Ok-adopt.urls c.in-Ok-adopt.ensures.adopts _ c.adopt.ensures.leaves

pub returns-in-Ok-open-clause-opened : goal.returns-in-Ok-open-clause-opened
returns-in-Ok-open-clause-opened g c = λ asked agrees.
    let tells = g.S.Store.told in
    let law = g.met.S.Store.is_consistent in
    let old = tells c.args.store.now in
    let mid = tells c.read.new.store in
    let late = tells c.adopt.new.store in
    let new = tells c.open.new.store in
    let settings = c.args.settings.now in
    let valid = c.requires.valid in
    let kind = c.requires.kind in
    let head = c.requires.head in
    let adopts = c.in-Ok-adopt.ensures.adopts in
    let call = rest_call asked old.files settings valid agrees head kind c.in-Ok-adopt.urls adopts.drum adopts.base _ _ _ old mid late new (law c.read.new.store) (law c.adopt.new.store)
    c.read.ensures.changes c.adopt.ensures.leaves c.open.ensures.changes in
    crawl_opened asked settings valid agrees kind old mid late (law c.adopt.new.store) head c.in-Ok.read.0 c.in-Ok.read.1 c.in-Ok.ensures c.in-Ok-adopt.urls adopts _ c.adopt.ensures.leaves
    c.in-Ok-open.ledger new c.in-Ok-open.ensures (law c.open.new.store) call.stops c.requires.kept

pub returns-in-Ok-open-clause-entered : goal.returns-in-Ok-open-clause-entered
returns-in-Ok-open-clause-entered g c = λ asked agrees.
    let tells = g.S.Store.told in
    let law = g.met.S.Store.is_consistent in
    let old = tells c.args.store.now in
    let mid = tells c.read.new.store in
    let late = tells c.adopt.new.store in
    let new = tells c.open.new.store in
    let settings = c.args.settings.now in
    let valid = c.requires.valid in
    let kind = c.requires.kind in
    let head = c.requires.head in
    let adopts = c.in-Ok-adopt.ensures.adopts in
    let call = rest_call asked old.files settings valid agrees head kind c.in-Ok-adopt.urls adopts.drum adopts.base _ _ _ old mid late new (law c.read.new.store) (law c.adopt.new.store)
    c.read.ensures.changes c.adopt.ensures.leaves c.open.ensures.changes in
    enters_for asked _ _ old new (λ is. let no : ⊥ = cc in absurd no) (enters_opened asked _ old new (law c.args.store.now) call)

-- ---- or it is refused
pub returns-in-Err-open-clause-refused : goal.returns-in-Err-open-clause-refused
returns-in-Err-open-clause-refused g c = λ asked agrees.
    let tells = g.S.Store.told in
    let law = g.met.S.Store.is_consistent in
    let old = tells c.args.store.now in
    let mid = tells c.read.new.store in
    let late = tells c.adopt.new.store in
    let new = tells c.open.new.store in
    let settings = c.args.settings.now in
    let valid = c.requires.valid in
    let kind = c.requires.kind in
    let head = c.requires.head in
    let adopts = c.in-Ok-adopt.ensures.adopts in
    let call = rest_call asked old.files settings valid agrees head kind c.in-Ok-adopt.urls adopts.drum adopts.base _ _ _ old mid late new (law c.read.new.store) (law c.adopt.new.store)
    c.read.ensures.changes c.adopt.ensures.leaves c.open.ensures.changes in
    subst (λ (fault : OpenFault). OpeningRefused asked fault old new) (sym c.bay_fault-in-Err-open.ensures)
    (part_refused asked settings valid agrees kind old (law c.args.store.now) head c.open.result c.in-Err-open.fault new c.in-Err-open.is
    (damage_ground asked settings valid agrees kind old mid late (law c.adopt.new.store) head c.in-Ok.read.0 c.in-Ok.read.1 c.in-Ok.ensures c.in-Ok-adopt.urls adopts _ c.adopt.ensures.leaves
    c.open.result c.in-Ok.read.1 new c.open.ensures) call)

pub returns-in-Err-open-clause-wanted : goal.returns-in-Err-open-clause-wanted
returns-in-Err-open-clause-wanted g c = λ unwanted. bay_wanted c.in-Err-open.fault (subst IsUnwanted c.bay_fault-in-Err-open.ensures unwanted)

pub returns-in-Err-open-clause-entered : goal.returns-in-Err-open-clause-entered
returns-in-Err-open-clause-entered g c = λ asked agrees.
    let tells = g.S.Store.told in
    let law = g.met.S.Store.is_consistent in
    let old = tells c.args.store.now in
    let mid = tells c.read.new.store in
    let late = tells c.adopt.new.store in
    let new = tells c.open.new.store in
    let settings = c.args.settings.now in
    let valid = c.requires.valid in
    let kind = c.requires.kind in
    let head = c.requires.head in
    let adopts = c.in-Ok-adopt.ensures.adopts in
    let call = rest_call asked old.files settings valid agrees head kind c.in-Ok-adopt.urls adopts.drum adopts.base _ _ _ old mid late new (law c.read.new.store) (law c.adopt.new.store)
    c.read.ensures.changes c.adopt.ensures.leaves c.open.ensures.changes in
    part_entered asked settings valid agrees kind old (law c.args.store.now) head c.open.result c.in-Err-open.fault new c.in-Err-open.is c.open.ensures.full call _
    (λ is. sym c.bay_fault-in-Err-open.ensures ∙ open_fault_of is)
