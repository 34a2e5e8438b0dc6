use Rattle.std.proofs.Common.{ℕ, subst, Option, IfSome}
use Rattle.irl_head.specs.Asking.{IsOther}
use Rattle.irl_yard.proofs.Answered.{enters_none, refused_none}
use Rattle.irl_yard.proofs.Grounds.{kept_ground}
use Rattle.irl_yard.proofs.enter.adopt.Goals as goal

-- ---- something else was asked
pub returns-in-Some-clause-refused : goal.returns-in-Some-clause-refused
returns-in-Some-clause-refused g c =
    let asked = c.args.asked.now in
    let settings = c.args.settings.now in
    let old = g.S.Store.told c.args.store.now in
    let other = subst (λ (found : Option (ℕ × ℕ × ℕ)). IfSome found (λ it. IsOther asked settings it.0 it.1 it.2)) c.in-Some.is c.first_other.ensures.found in
    refused_none asked _ old (g.met.S.Store.is_consistent c.args.store.now) (kept_ground asked settings _ _ _ old.files c.requires.head other)

pub returns-in-Some-clause-entered : goal.returns-in-Some-clause-entered
returns-in-Some-clause-entered g c = enters_none c.args.asked.now _ (g.S.Store.told c.args.store.now) (g.met.S.Store.is_consistent c.args.store.now) (λ is. let no : ⊥ = cc in no)

-- ---- it was asked for so
pub returns-clause-opened : goal.returns-clause-opened
returns-clause-opened g c = c.adopt_made.ensures.opened c.args.asked.now (c.first_other.ensures.none c.in_default.is)

pub returns-clause-refused : goal.returns-clause-refused
returns-clause-refused g c = c.adopt_made.ensures.refused c.args.asked.now (c.first_other.ensures.none c.in_default.is)

pub returns-clause-entered : goal.returns-clause-entered
returns-clause-entered g c = c.adopt_made.ensures.entered c.args.asked.now (c.first_other.ensures.none c.in_default.is)
