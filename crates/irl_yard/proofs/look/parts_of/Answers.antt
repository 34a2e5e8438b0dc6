use Rattle.std.proofs.Common.{◌∙◌, inl, refl, subst, IsErr, IsErrOf, Option}
use Rattle.irl_disk.specs.Disk.{Files}
use Rattle.irl_head.specs.declared.open_fault.OpenFault.TheVariants.{Failed, NotOurs}
use Rattle.irl_offer.specs.Settings.{AreValid}
use Rattle.irl_yard.specs.Entering.{OpensYard}
use Rattle.irl_yard.specs.Looking.{LookRefused}
use Rattle.irl_yard.proofs.Answered.{enters_behind, enters_for, refused_behind, still}
use Rattle.irl_yard.proofs.Grounds.{found_ground}
use Rattle.irl_yard.proofs.Looking.{asked_of, err_is, found_head, found_none, found_of, found_unasked, look_for, looks_head, looks_made, looks_still, own_agrees, refused_head_look, refused_made_look}
use Rattle.irl_yard.proofs.Making.{blank_both, if_err, was_err}
use Rattle.irl_yard.proofs.look.parts_of.Goals as goal

-- the head is refused
pub returns-in_err-settings-clause-refused : goal.returns-in_err-settings-clause-refused
returns-in_err-settings-clause-refused g c =
    let old = g.S.Store.told c.args.store.now in
    let new = g.S.Store.told c.find_head.new.store in
    let look = c.find_head.ensures in
    let was = c.in_err-settings.was in
    if_err c.from_residual.result _ (λ fault. LookRefused fault old new) c.from_residual.ensures.1
    (refused_head_look _ (IsErrOf c.find_head.result Failed) old new (g.met.S.Store.is_consistent c.args.store.now) look.same look.changes
    (λ asked. found_ground asked old.files c.find_head.result _ was look.not_ours look.damaged look.other look.bad)
    (found_unasked c.find_head.result _ was look.other look.bad) (err_is c.find_head.result _ Failed was))

-- ---- it has settings
pub returns-in_err-adopt_made-in-Some-clause-refused : goal.returns-in_err-adopt_made-in-Some-clause-refused
returns-in_err-adopt_made-in-Some-clause-refused g c =
    let tells = g.S.Store.told in
    let law = g.met.S.Store.is_consistent in
    let old = tells c.args.store.now in
    let mid = tells c.find_head.new.store in
    let new = tells c.adopt_made.new.store in
    let look = c.find_head.ensures in
    let settings = c.in-Some.settings in
    let failed = IsErrOf c.adopt_made.result Failed in
    if_err c.from_residual-in_err-adopt_made-in-Some.result _ (λ fault. LookRefused fault old new) c.from_residual-in_err-adopt_made-in-Some.ensures.1
    (refused_made_look settings _ old new (law c.args.store.now) (found_of c.find_head.result _ settings AreValid c.in_ok-settings.was c.in-Some.is look.valid)
    (found_head c.find_head.result _ settings old mid look c.in_ok-settings.was c.in-Some.is) c.in_err-adopt_made-in-Some.ensures.wanted
    (λ asked agrees. refused_behind asked _ old mid (law c.args.store.now) (law c.find_head.new.store) look.same look.changes _ new (c.in_err-adopt_made-in-Some.ensures.refused asked agrees))
    (enters_for (asked_of settings) failed _ old new (err_is c.adopt_made.result _ Failed c.in_err-adopt_made-in-Some.was)
    (enters_behind (asked_of settings) _ old mid (law c.args.store.now) (law c.find_head.new.store) look.same look.changes failed new (c.adopt_made.ensures.entered (asked_of settings)
    (own_agrees settings)))))

pub returns-in_ok-adopt_made-in-Some-clause-made : goal.returns-in_ok-adopt_made-in-Some-clause-made
returns-in_ok-adopt_made-in-Some-clause-made g c =
    let tells = g.S.Store.told in
    let law = g.met.S.Store.is_consistent in
    let old = tells c.args.store.now in
    let mid = tells c.find_head.new.store in
    let new = tells c.adopt_made.new.store in
    let look = c.find_head.ensures in
    let settings = c.in-Some.settings in
    looks_made settings old new (law c.args.store.now) (found_of c.find_head.result _ settings AreValid c.in_ok-settings.was c.in-Some.is look.valid)
    (found_head c.find_head.result _ settings old mid look c.in_ok-settings.was c.in-Some.is)
    _
    (λ asked agrees. subst (λ (told : Option Files). OpensYard asked c.in_ok-adopt_made-in-Some.field-0 told new) look.same (c.in_ok-adopt_made-in-Some.ensures.opened asked agrees))
    (enters_for (asked_of settings) _ ⊥ old new (λ no. absurd no)
    (enters_behind (asked_of settings) _ old mid (law c.args.store.now) (law c.find_head.new.store) look.same look.changes _ new (c.adopt_made.ensures.entered (asked_of settings)
    (own_agrees settings))))

-- ---- or none
pub returns-in_err-has_others-in-None-clause-refused : goal.returns-in_err-has_others-in-None-clause-refused
returns-in_err-has_others-in-None-clause-refused g c =
    let tells = g.S.Store.told in
    let law = g.met.S.Store.is_consistent in
    let old = tells c.args.store.now in
    let mid = tells c.find_head.new.store in
    let new = tells c.has_others.new.store in
    let look = c.find_head.ensures in
    let has = c.has_others.ensures in
    let looked = looks_still _ _ old mid new (law c.find_head.new.store) look.changes (still (IsErr c.has_others.result) mid new has.same has.stops has.taken has.cause) in
    if_err c.from_residual-in_err-has_others-in-None.result Failed (λ fault. LookRefused fault old new) c.from_residual-in_err-has_others-in-None.ensures.1
    (refused_head_look Failed (IsErr c.has_others.result) old new (law c.args.store.now) (has.same ∙ look.same) looked (λ asked. tt) (λ names. names)
    (λ is. was_err c.has_others.result _ c.in_err-has_others-in-None.was))

pub returns-then-branch-clause-refused : goal.returns-then-branch-clause-refused
returns-then-branch-clause-refused g c =
    let tells = g.S.Store.told in
    let law = g.met.S.Store.is_consistent in
    let old = tells c.args.store.now in
    let mid = tells c.find_head.new.store in
    let new = tells c.has_others.new.store in
    let look = c.find_head.ensures in
    let has = c.has_others.ensures in
    let looked = looks_still _ _ old mid new (law c.find_head.new.store) look.changes (still (IsErr c.has_others.result) mid new has.same has.stops has.taken has.cause) in
    let none = found_none c.find_head.result _ _ c.in_ok-settings.was c.in-None.is look.blank in
    refused_head_look (NotOurs 0) (IsErr c.has_others.result) old new (law c.args.store.now) (has.same ∙ look.same) looked
    (λ asked files is. inl (none files is, c.in_ok-has_others-in-None.ensures.others c.if-branch.true files (look.same ∙ is), refl)) (λ names. names)
    (λ is. let no : ⊥ = cc in absurd no)

pub returns-else-branch-clause-blank : goal.returns-else-branch-clause-blank
returns-else-branch-clause-blank g c =
    let tells = g.S.Store.told in
    let law = g.met.S.Store.is_consistent in
    let old = tells c.args.store.now in
    let mid = tells c.find_head.new.store in
    let new = tells c.has_others.new.store in
    let look = c.find_head.ensures in
    let has = c.has_others.ensures in
    let looked = looks_still _ _ old mid new (law c.find_head.new.store) look.changes (still (IsErr c.has_others.result) mid new has.same has.stops has.taken has.cause) in
    let none = found_none c.find_head.result _ _ c.in_ok-settings.was c.in-None.is look.blank in
    λ is. record {
      blank = λ files told. blank_both files (none files told) (c.in_ok-has_others-in-None.ensures.none c.if-branch.false files (look.same ∙ told));
      same = has.same ∙ look.same;
      changes = look_for (IsErr c.has_others.result) ⊥ old new (λ no. absurd no) looked;
      looks = looks_head (IsErr c.has_others.result) ⊥ old new (law c.args.store.now) (has.same ∙ look.same) looked (λ no. absurd no);
    }
