use Rattle.std.proofs.Common.{◌≡◌, ◌≢◌, ◌∙◌, ◌≤◌, inl, inr, Some, IfSome, Err, IsErrOf, Option, ℕ, List, [], ◌∷◌, refl, sym, ap, subst}
use Rattle.irl_base.specs.declared.fault.Fault.{Fault}
use Rattle.irl_offer.specs.Settings.{AreValid, settings_of}
use Rattle.irl_offer.specs.declared.offer.Rule.TheVariants.{Keep}
use Rattle.irl_offer.specs.declared.settings.Settings.{Settings}
use Rattle.irl_model.specs.Book.{blank_book}
use Rattle.irl_disk.specs.Disk.{Files, ChangesFile}
use Rattle.irl_disk.specs.Effects.{ReadsAndChanges}
use Rattle.irl_disk.specs.Images.{LeavesSame}
use Rattle.irl_disk.proofs.Effects.{reads_for}
use Rattle.irl_bay.specs.Holding.{Holds}
use Rattle.irl_bay.proofs.Apart.{holds_beside}
use Rattle.irl_bay.proofs.Staying.{leaves_one}
use Rattle.irl_bay.proofs.Standing.{holds_long}
use Rattle.irl_journal.specs.Format.{HasRecords}
use Rattle.irl_head.specs.StoreFiles.{head_file}
use Rattle.irl_head.specs.Asking.{Agrees, IsBadAsked}
use Rattle.irl_head.specs.Opening.{IsUnwanted, KeepsHead}
use Rattle.irl_head.specs.Writing.{GainsFirst}
use Rattle.irl_head.specs.declared.open_fault.OpenFault.TheVariants.{Failed, Memory}
use Rattle.irl_head.proofs.Asking.{new_agrees}
use Rattle.irl_head.proofs.Grounds.{settings_ours}
use Rattle.irl_yard.specs.Standing.{HasRest, IsRest}
use Rattle.irl_yard.specs.Holding.{HoldsOpen}
use Rattle.irl_yard.specs.Entering.{HasGround, OpeningRefused}
use Rattle.irl_yard.proofs.Answered.{beside_rest, beside_still, beside_urls, enters_made, enters_still, enters_written, refused_made, refused_still, refused_written, still}
use Rattle.irl_yard.proofs.ByKind.{new_rest}
use Rattle.irl_yard.proofs.Entering.{beside_told, made_blank, plain_blank}
use Rattle.irl_yard.proofs.Kept.{has_then, held_then, open_then}
use Rattle.irl_yard.proofs.RestFiles.{few}
use Rattle.irl_yard.proofs.RestMade.{no_ground, rest_unwanted}
use Rattle.irl_yard.proofs.Making.{blank_both, head_no_urls, if_err, of_err, only_memory, open_fault_of, same_err, told_on, urls_other, was_err}
use Rattle.irl_yard.proofs.Grounds.{bay_failed, bay_wanted, blank_undamaged, entered_new, found_ground, not_unwanted, unmade_ground}
use Rattle.irl_yard.proofs.OfItsLog.{made_log}
use Rattle.irl_yard.proofs.enter.make.Goals as goal

-- ---- nothing is made yet
pub returns-in_err-has_others-clause-refused : goal.returns-in_err-has_others-clause-refused
returns-in_err-has_others-clause-refused g c =
    let tells = g.S.Store.told in
    let asked = c.args.asked.now in
    let law = g.met.S.Store.is_consistent in
    let old = tells c.args.store.now in
    let has = tells c.has_others.new.store in
    let look = still _ old has c.has_others.ensures.same c.has_others.ensures.stops c.has_others.ensures.taken c.has_others.ensures.cause in
    if_err c.from_residual.result Failed (λ fault. OpeningRefused asked fault old has) c.from_residual.ensures.1
    (refused_still asked Failed _ old has (law c.args.store.now) tt look)

pub returns-in_err-has_others-clause-entered : goal.returns-in_err-has_others-clause-entered
returns-in_err-has_others-clause-entered g c =
    let tells = g.S.Store.told in
    let asked = c.args.asked.now in
    let law = g.met.S.Store.is_consistent in
    let old = tells c.args.store.now in
    let has = tells c.has_others.new.store in
    let look = still _ old has c.has_others.ensures.same c.has_others.ensures.stops c.has_others.ensures.taken c.has_others.ensures.cause in
    enters_still asked _ old has (law c.args.store.now) (reads_for (λ f. ⊥) _ _ old has (λ is. was_err c.has_others.result _ c.in_err-has_others.was) look)

pub returns-then-branch-clause-refused : goal.returns-then-branch-clause-refused
returns-then-branch-clause-refused g c =
    let tells = g.S.Store.told in
    let asked = c.args.asked.now in
    let law = g.met.S.Store.is_consistent in
    let old = tells c.args.store.now in
    let has = tells c.has_others.new.store in
    let look = still _ old has c.has_others.ensures.same c.has_others.ensures.stops c.has_others.ensures.taken c.has_others.ensures.cause in
    refused_still asked _ _ old has (law c.args.store.now)
    (λ files is. inl (c.requires.blank files is, c.in_ok-has_others.ensures.others c.if-branch.true files is, refl)) look

pub returns-then-branch-clause-entered : goal.returns-then-branch-clause-entered
returns-then-branch-clause-entered g c =
    let tells = g.S.Store.told in
    let asked = c.args.asked.now in
    let law = g.met.S.Store.is_consistent in
    let old = tells c.args.store.now in
    let has = tells c.has_others.new.store in
    let look = still _ old has c.has_others.ensures.same c.has_others.ensures.stops c.has_others.ensures.taken c.has_others.ensures.cause in
    enters_still asked _ old has (law c.args.store.now) (reads_for (λ f. ⊥) _ _ old has (λ is. let no : ⊥ = cc in absurd no) look)

pub returns-in-Some-clause-refused : goal.returns-in-Some-clause-refused
returns-in-Some-clause-refused g c =
    let tells = g.S.Store.told in
    let asked = c.args.asked.now in
    let law = g.met.S.Store.is_consistent in
    let old = tells c.args.store.now in
    let has = tells c.has_others.new.store in
    let look = still _ old has c.has_others.ensures.same c.has_others.ensures.stops c.has_others.ensures.taken c.has_others.ensures.cause in
    let settings = c.of_new_store-settings.result in
    let none = c.in_ok-has_others.ensures.none c.if-branch.false in
    let bad = subst (λ (s : Settings). IsBadAsked s c.in-Some.n) c.of_new_store-settings.ensures
    (subst (λ (found : Option ℕ). IfSome found (IsBadAsked settings)) c.in-Some.is c.first_bad.ensures.found) in
    refused_still asked _ _ old has (law c.args.store.now)
    ((λ files is. (blank_both files (c.requires.blank files is) (none files is), bad)), bad) look

pub returns-in-Some-clause-entered : goal.returns-in-Some-clause-entered
returns-in-Some-clause-entered g c =
    let tells = g.S.Store.told in
    let asked = c.args.asked.now in
    let law = g.met.S.Store.is_consistent in
    let old = tells c.args.store.now in
    let has = tells c.has_others.new.store in
    let look = still _ old has c.has_others.ensures.same c.has_others.ensures.stops c.has_others.ensures.taken c.has_others.ensures.cause in
    enters_still asked _ old has (law c.args.store.now) (reads_for (λ f. ⊥) _ _ old has (λ is. let no : ⊥ = cc in absurd no) look)

pub returns-in_err-frame-clause-refused : goal.returns-in_err-frame-clause-refused
returns-in_err-frame-clause-refused g c =
    let tells = g.S.Store.told in
    let asked = c.args.asked.now in
    let law = g.met.S.Store.is_consistent in
    let old = tells c.args.store.now in
    let has = tells c.has_others.new.store in
    let look = still _ old has c.has_others.ensures.same c.has_others.ensures.stops c.has_others.ensures.taken c.has_others.ensures.cause in
    if_err c.from_residual-in_err-frame.result Memory (λ fault. OpeningRefused asked fault old has) c.from_residual-in_err-frame.ensures.1
    (refused_still asked Memory _ old has (law c.args.store.now) tt look)

pub returns-in_err-frame-clause-entered : goal.returns-in_err-frame-clause-entered
returns-in_err-frame-clause-entered g c =
    let tells = g.S.Store.told in
    let asked = c.args.asked.now in
    let law = g.met.S.Store.is_consistent in
    let old = tells c.args.store.now in
    let has = tells c.has_others.new.store in
    let look = still _ old has c.has_others.ensures.same c.has_others.ensures.stops c.has_others.ensures.taken c.has_others.ensures.cause in
    enters_still asked _ old has (law c.args.store.now)
    (reads_for (λ f. ⊥) _ _ old has (λ is. absurd (only_memory c.from_residual-in_err-frame.result c.from_residual-in_err-frame.ensures.1 is)) look)

-- ---- what it has beside its URLs is made
pub make_rest-requires-clause-unmade : goal.make_rest-requires-clause-unmade
make_rest-requires-clause-unmade g c =
    let tells = g.S.Store.told in
    let asked = c.args.asked.now in
    let law = g.met.S.Store.is_consistent in
    let old = tells c.args.store.now in
    let has = tells c.has_others.new.store in
    let settings = c.of_new_store-settings.result in
    let valid = c.first_bad.ensures.none.0 c.in_default.is in
    let none = c.in_ok-has_others.ensures.none c.if-branch.false in
    let blank = λ (files : Files) (is : old.files ≡ Some files). blank_both files (c.requires.blank files is) (none files is) in
    let look = beside_still settings _ old has c.has_others.ensures.same c.has_others.ensures.stops c.has_others.ensures.taken c.has_others.ensures.cause in
    λ files told. plain_blank settings.buckets files (few settings valid) (blank files (sym c.has_others.ensures.same ∙ told))

pub returns-in_err-rest-clause-refused : goal.returns-in_err-rest-clause-refused
returns-in_err-rest-clause-refused g c =
    let tells = g.S.Store.told in
    let asked = c.args.asked.now in
    let law = g.met.S.Store.is_consistent in
    let old = tells c.args.store.now in
    let has = tells c.has_others.new.store in
    let settings = c.of_new_store-settings.result in
    let valid = c.first_bad.ensures.none.0 c.in_default.is in
    let none = c.in_ok-has_others.ensures.none c.if-branch.false in
    let blank = λ (files : Files) (is : old.files ≡ Some files). blank_both files (c.requires.blank files is) (none files is) in
    let look = beside_still settings _ old has c.has_others.ensures.same c.has_others.ensures.stops c.has_others.ensures.taken c.has_others.ensures.cause in
    let rest = tells c.make_rest.new.store in
    let beside = beside_rest settings _ _ old has rest valid (law c.has_others.new.store) look c.make_rest.ensures.changes in
    let was = c.in_err-rest.was in
    let why = of_err c.make_rest.result _ _ was c.make_rest.ensures.fault in
    if_err c.from_residual-in_err-rest.result _ (λ fault. OpeningRefused asked fault old rest) c.from_residual-in_err-rest.ensures.1
    (refused_made asked settings _ old rest (law c.args.store.now) c.of_new_store-settings.ensures blank valid beside _ (rest_unwanted _ why) (no_ground asked old.files _ why))

pub returns-in_err-rest-clause-entered : goal.returns-in_err-rest-clause-entered
returns-in_err-rest-clause-entered g c =
    let tells = g.S.Store.told in
    let asked = c.args.asked.now in
    let law = g.met.S.Store.is_consistent in
    let old = tells c.args.store.now in
    let has = tells c.has_others.new.store in
    let settings = c.of_new_store-settings.result in
    let valid = c.first_bad.ensures.none.0 c.in_default.is in
    let none = c.in_ok-has_others.ensures.none c.if-branch.false in
    let blank = λ (files : Files) (is : old.files ≡ Some files). blank_both files (c.requires.blank files is) (none files is) in
    let look = beside_still settings _ old has c.has_others.ensures.same c.has_others.ensures.stops c.has_others.ensures.taken c.has_others.ensures.cause in
    let rest = tells c.make_rest.new.store in
    let beside = beside_rest settings _ _ old has rest valid (law c.has_others.new.store) look c.make_rest.ensures.changes in
    enters_made asked settings _ old rest (law c.args.store.now) c.of_new_store-settings.ensures blank valid beside _
    (same_err c.from_residual-in_err-rest.result c.make_rest.result _ _ c.from_residual-in_err-rest.ensures.1 c.in_err-rest.was)

-- ---- the bay is made
pub make-requires-clause-unmade : goal.make-requires-clause-unmade
make-requires-clause-unmade g c =
    let tells = g.S.Store.told in
    let asked = c.args.asked.now in
    let law = g.met.S.Store.is_consistent in
    let old = tells c.args.store.now in
    let has = tells c.has_others.new.store in
    let settings = c.of_new_store-settings.result in
    let valid = c.first_bad.ensures.none.0 c.in_default.is in
    let none = c.in_ok-has_others.ensures.none c.if-branch.false in
    let blank = λ (files : Files) (is : old.files ≡ Some files). blank_both files (c.requires.blank files is) (none files is) in
    let look = beside_still settings _ old has c.has_others.ensures.same c.has_others.ensures.stops c.has_others.ensures.taken c.has_others.ensures.cause in
    let rest = tells c.make_rest.new.store in
    let beside = beside_rest settings _ _ old has rest valid (law c.has_others.new.store) look c.make_rest.ensures.changes in
    λ files told f is.
    (made_blank old.files rest.files (beside_told settings old.files rest.files (few settings valid) beside.told) blank files told).others f (urls_other settings.buckets f (few settings valid) is)

pub returns-in-Err-clause-refused : goal.returns-in-Err-clause-refused
returns-in-Err-clause-refused g c =
    let tells = g.S.Store.told in
    let asked = c.args.asked.now in
    let law = g.met.S.Store.is_consistent in
    let old = tells c.args.store.now in
    let has = tells c.has_others.new.store in
    let settings = c.of_new_store-settings.result in
    let valid = c.first_bad.ensures.none.0 c.in_default.is in
    let none = c.in_ok-has_others.ensures.none c.if-branch.false in
    let blank = λ (files : Files) (is : old.files ≡ Some files). blank_both files (c.requires.blank files is) (none files is) in
    let look = beside_still settings _ old has c.has_others.ensures.same c.has_others.ensures.stops c.has_others.ensures.taken c.has_others.ensures.cause in
    let rest = tells c.make_rest.new.store in
    let beside = beside_rest settings _ _ old has rest valid (law c.has_others.new.store) look c.make_rest.ensures.changes in
    let made = tells c.make.new.store in
    let both = beside_urls settings _ _ old rest made valid (law c.make_rest.new.store) beside c.make.ensures.changes in
    refused_made asked settings _ old made (law c.args.store.now) c.of_new_store-settings.ensures blank valid both _
    (λ unwanted. bay_wanted c.in-Err.fault (subst IsUnwanted c.bay_fault.ensures unwanted))
    (subst (HasGround asked old.files) (sym c.bay_fault.ensures)
    (unmade_ground asked old.files c.in-Err.fault (λ f at is. c.in-Err.ensures.damaged f at (ap (λ (fault : Fault). Err fault) is))))

pub returns-in-Err-clause-entered : goal.returns-in-Err-clause-entered
returns-in-Err-clause-entered g c =
    let tells = g.S.Store.told in
    let asked = c.args.asked.now in
    let law = g.met.S.Store.is_consistent in
    let old = tells c.args.store.now in
    let has = tells c.has_others.new.store in
    let settings = c.of_new_store-settings.result in
    let valid = c.first_bad.ensures.none.0 c.in_default.is in
    let none = c.in_ok-has_others.ensures.none c.if-branch.false in
    let blank = λ (files : Files) (is : old.files ≡ Some files). blank_both files (c.requires.blank files is) (none files is) in
    let look = beside_still settings _ old has c.has_others.ensures.same c.has_others.ensures.stops c.has_others.ensures.taken c.has_others.ensures.cause in
    let rest = tells c.make_rest.new.store in
    let beside = beside_rest settings _ _ old has rest valid (law c.has_others.new.store) look c.make_rest.ensures.changes in
    let made = tells c.make.new.store in
    let both = beside_urls settings _ _ old rest made valid (law c.make_rest.new.store) beside c.make.ensures.changes in
    enters_made asked settings _ old made (law c.args.store.now) c.of_new_store-settings.ensures blank valid both _
    (λ is. bay_failed c.make.result c.in-Err.fault c.in-Err.is c.make.ensures.full (sym c.bay_fault.ensures ∙ open_fault_of is))

-- ---- the head is written
-- it has no record yet
pub write_head-requires : goal.write_head-requires
write_head-requires g c =
    let tells = g.S.Store.told in
    let asked = c.args.asked.now in
    let law = g.met.S.Store.is_consistent in
    let old = tells c.args.store.now in
    let has = tells c.has_others.new.store in
    let settings = c.of_new_store-settings.result in
    let valid = c.first_bad.ensures.none.0 c.in_default.is in
    let none = c.in_ok-has_others.ensures.none c.if-branch.false in
    let blank = λ (files : Files) (is : old.files ≡ Some files). blank_both files (c.requires.blank files is) (none files is) in
    let look = beside_still settings _ old has c.has_others.ensures.same c.has_others.ensures.stops c.has_others.ensures.taken c.has_others.ensures.cause in
    let rest = tells c.make_rest.new.store in
    let beside = beside_rest settings _ _ old has rest valid (law c.has_others.new.store) look c.make_rest.ensures.changes in
    let made = tells c.make.new.store in
    let both = beside_urls settings _ _ old rest made valid (law c.make_rest.new.store) beside c.make.ensures.changes in
    record {
      blank = λ files told. (made_blank old.files made.files (beside_told settings old.files made.files (few settings valid) both.told) blank files told).head;
    }

pub returns-in_err-write_head-clause-refused : goal.returns-in_err-write_head-clause-refused
returns-in_err-write_head-clause-refused g c =
    let tells = g.S.Store.told in
    let asked = c.args.asked.now in
    let law = g.met.S.Store.is_consistent in
    let old = tells c.args.store.now in
    let has = tells c.has_others.new.store in
    let settings = c.of_new_store-settings.result in
    let valid = c.first_bad.ensures.none.0 c.in_default.is in
    let none = c.in_ok-has_others.ensures.none c.if-branch.false in
    let blank = λ (files : Files) (is : old.files ≡ Some files). blank_both files (c.requires.blank files is) (none files is) in
    let look = beside_still settings _ old has c.has_others.ensures.same c.has_others.ensures.stops c.has_others.ensures.taken c.has_others.ensures.cause in
    let rest = tells c.make_rest.new.store in
    let beside = beside_rest settings _ _ old has rest valid (law c.has_others.new.store) look c.make_rest.ensures.changes in
    let made = tells c.make.new.store in
    let both = beside_urls settings _ _ old rest made valid (law c.make_rest.new.store) beside c.make.ensures.changes in
    let new = tells c.write_head.new.store in
    let head = subst (λ (bytes : List ℕ). ReadsAndChanges (λ f. f ≡ head_file) (ChangesFile head_file (GainsFirst bytes)) (IsErrOf c.write_head.result Failed) made new) c.in_ok-frame.ensures
    c.write_head.ensures.changes in
    let writes = c.write_head.ensures in
    let was = c.in_err-write_head.was in
    let ground = found_ground asked old.files c.write_head.result _ was (λ at is. absurd (writes.not_ours at is))
    (λ f at is files t.
    let mid = told_on _ old.files made.files files both.told t in
    absurd (writes.damaged f at is mid.0 mid.1))
    writes.other writes.bad in
    if_err c.from_residual-in_err-write_head.result _ (λ fault. OpeningRefused asked fault old new) c.from_residual-in_err-write_head.ensures.1
    (refused_written asked settings _ old made (law c.args.store.now) c.of_new_store-settings.ensures blank valid both _ new (law c.make.new.store) head _
    (not_unwanted c.write_head.result _ was writes.not_ours writes.other writes.bad) ground
    (of_err c.write_head.result _ (λ fault. fault ≢ Failed → new.files ≡ made.files) was writes.same)
    (of_err c.write_head.result _ (λ fault. fault ≢ Failed → LeavesSame made new) was writes.same_stops))

pub returns-in_err-write_head-clause-entered : goal.returns-in_err-write_head-clause-entered
returns-in_err-write_head-clause-entered g c =
    let tells = g.S.Store.told in
    let asked = c.args.asked.now in
    let law = g.met.S.Store.is_consistent in
    let old = tells c.args.store.now in
    let has = tells c.has_others.new.store in
    let settings = c.of_new_store-settings.result in
    let valid = c.first_bad.ensures.none.0 c.in_default.is in
    let none = c.in_ok-has_others.ensures.none c.if-branch.false in
    let blank = λ (files : Files) (is : old.files ≡ Some files). blank_both files (c.requires.blank files is) (none files is) in
    let look = beside_still settings _ old has c.has_others.ensures.same c.has_others.ensures.stops c.has_others.ensures.taken c.has_others.ensures.cause in
    let rest = tells c.make_rest.new.store in
    let beside = beside_rest settings _ _ old has rest valid (law c.has_others.new.store) look c.make_rest.ensures.changes in
    let made = tells c.make.new.store in
    let both = beside_urls settings _ _ old rest made valid (law c.make_rest.new.store) beside c.make.ensures.changes in
    let new = tells c.write_head.new.store in
    let head = subst (λ (bytes : List ℕ). ReadsAndChanges (λ f. f ≡ head_file) (ChangesFile head_file (GainsFirst bytes)) (IsErrOf c.write_head.result Failed) made new) c.in_ok-frame.ensures
    c.write_head.ensures.changes in
    enters_written asked settings _ old made (law c.args.store.now) c.of_new_store-settings.ensures blank valid both _ new (law c.make.new.store) head _
    (same_err c.from_residual-in_err-write_head.result c.write_head.result _ _ c.from_residual-in_err-write_head.ensures.1 c.in_err-write_head.was)

pub returns-clause-entered : goal.returns-clause-entered
returns-clause-entered g c =
    let tells = g.S.Store.told in
    let asked = c.args.asked.now in
    let law = g.met.S.Store.is_consistent in
    let old = tells c.args.store.now in
    let has = tells c.has_others.new.store in
    let settings = c.of_new_store-settings.result in
    let valid = c.first_bad.ensures.none.0 c.in_default.is in
    let none = c.in_ok-has_others.ensures.none c.if-branch.false in
    let blank = λ (files : Files) (is : old.files ≡ Some files). blank_both files (c.requires.blank files is) (none files is) in
    let look = beside_still settings _ old has c.has_others.ensures.same c.has_others.ensures.stops c.has_others.ensures.taken c.has_others.ensures.cause in
    let rest = tells c.make_rest.new.store in
    let beside = beside_rest settings _ _ old has rest valid (law c.has_others.new.store) look c.make_rest.ensures.changes in
    let made = tells c.make.new.store in
    let both = beside_urls settings _ _ old rest made valid (law c.make_rest.new.store) beside c.make.ensures.changes in
    let new = tells c.write_head.new.store in
    let head = subst (λ (bytes : List ℕ). ReadsAndChanges (λ f. f ≡ head_file) (ChangesFile head_file (GainsFirst bytes)) (IsErrOf c.write_head.result Failed) made new) c.in_ok-frame.ensures
    c.write_head.ensures.changes in
    enters_written asked settings _ old made (law c.args.store.now) c.of_new_store-settings.ensures blank valid both _ new (law c.make.new.store) head _ (λ is. let no : ⊥ = cc in absurd no)

pub returns-clause-opened : goal.returns-clause-opened
returns-clause-opened g c =
    let tells = g.S.Store.told in
    let asked = c.args.asked.now in
    let law = g.met.S.Store.is_consistent in
    let old = tells c.args.store.now in
    let has = tells c.has_others.new.store in
    let settings = c.of_new_store-settings.result in
    let valid = c.first_bad.ensures.none.0 c.in_default.is in
    let none = c.in_ok-has_others.ensures.none c.if-branch.false in
    let blank = λ (files : Files) (is : old.files ≡ Some files). blank_both files (c.requires.blank files is) (none files is) in
    let look = beside_still settings _ old has c.has_others.ensures.same c.has_others.ensures.stops c.has_others.ensures.taken c.has_others.ensures.cause in
    let rest = tells c.make_rest.new.store in
    let beside = beside_rest settings _ _ old has rest valid (law c.has_others.new.store) look c.make_rest.ensures.changes in
    let made = tells c.make.new.store in
    let both = beside_urls settings _ _ old rest made valid (law c.make_rest.new.store) beside c.make.ensures.changes in
    let new = tells c.write_head.new.store in
    let head = subst (λ (bytes : List ℕ). ReadsAndChanges (λ f. f ≡ head_file) (ChangesFile head_file (GainsFirst bytes)) (IsErrOf c.write_head.result Failed) made new) c.in_ok-frame.ensures
    c.write_head.ensures.changes in
    let urls = c.in-Ok.urls in
    let bay = c.in-Ok.ensures in
    let is_new = c.of_new_store-settings.ensures in
    let same = bay.settings in
    let as_asked = same ∙ is_new in
    let small = few settings valid in
    let apart = subst (λ (s : Settings). s.buckets ≤ 64) (sym same) small in
    let only = leaves_one (λ f. f ≡ head_file) head_file (GainsFirst c.in_ok-frame.frame.bytes) made new refl c.write_head.ensures.changes.stops in
    -- the bay holds its book behind the head's write
    let held = holds_beside (λ f. f ≡ head_file) made new urls (blank_book settings.buckets settings.rule) bay.drum (law c.write_head.new.store) only
    (λ f is e. head_no_urls urls.base urls.settings.buckets f bay.base apart is e) bay.holds in
    -- and so does what is beside it
    let besides = c.in_ok-rest.ensures in
    let opened = besides.is_open urls bay.base same in
    let pairs = blank_book settings.buckets Keep in
    record {
      holds = λ files is state stands.
          entered_new asked state files _ new (blank files is) stands (record {
            urls = record {
              settings = ap (λ (s : Settings). Some s) (sym as_asked);
              base = bay.base;
              head = subst (λ (s : Settings). KeepsHead new.images s) (sym same)
                  (λ image left. subst (λ (bytes : List ℕ). HasRecords (image head_file) (bytes ∷ [])) c.in_ok-frame.ensures (c.in_ok-write_head.ensures.kept image left));
              urls_hold = subst (λ (s : Settings). Holds new.images urls (blank_book s.buckets s.rule)) is_new held;
              legal = subst (λ (s : Settings). IsRest s.kind s (blank_book (settings_of asked).buckets (settings_of asked).rule) (blank_book (settings_of asked).buckets Keep) []) (sym as_asked)
                  (new_rest (settings_of asked).kind (settings_of asked) (subst AreValid is_new valid));
              rest = λ image left.
                  subst (λ (s : Settings). HasRest s.kind s (blank_book (settings_of asked).buckets Keep) [] image) (sym as_asked)
                  (subst (λ (s : Settings). HasRest s.kind s (blank_book s.buckets Keep) [] image) is_new
                  (has_then settings _ _ _ rest made new small (law c.make.new.store) (law c.write_head.new.store) c.make.ensures.changes c.write_head.ensures.changes pairs [] besides.stops image
                  left));
            };
            open_rest = subst (λ (s : Settings). HoldsOpen new.images urls.settings c.in_ok-rest.rest (blank_book s.buckets s.rule) (blank_book s.buckets Keep) []) is_new
                (held_then settings _ _ _ rest made new small (law c.make.new.store) (law c.write_head.new.store) c.make.ensures.changes c.write_head.ensures.changes urls same c.in_ok-rest.rest
                (blank_book settings.buckets settings.rule) pairs [] opened (besides.holds (blank_book settings.buckets settings.rule)));
          });
      sound = (bay.sound, refl, besides.sound);
      rest = open_then settings _ _ _ rest made new small (law c.make.new.store) (law c.write_head.new.store) c.make.ensures.changes c.write_head.ensures.changes urls same c.in_ok-rest.rest opened;
      drum = bay.drum;
      base = bay.base;
      long = λ files told. holds_long new urls (blank_book settings.buckets settings.rule) files (law c.write_head.new.store) held told;
      settings = λ files is. inr (blank files is, as_asked);
      agrees = subst (Agrees asked) (sym as_asked) (new_agrees asked);
      legal = λ ledger is. made_log old.files blank rest.images settings urls c.in_ok-rest.rest (blank_book settings.buckets settings.rule) pairs same
          (besides.holds (blank_book settings.buckets settings.rule)) ledger is;
      ours = λ files is at. settings_ours asked files urls.settings at (inr (blank files is, as_asked));
      undamaged = λ files is f at. blank_undamaged asked files f at (blank files is);
    }
