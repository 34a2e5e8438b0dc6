use Rattle.std.proofs.Common.{◌≢◌, ◌∙◌, inl, ℕ, sym, ap, subst, refl, Some, Err, List, [], ◌∷◌}
use Rattle.irl_offer.specs.declared.settings.Settings.{Settings}
use Rattle.irl_offer.specs.declared.settings.Kind.TheVariants.{Crawl}
use Rattle.irl_base.specs.declared.fault.Fault.{Fault}
use Rattle.irl_disk.proofs.Effects.{cause_for}
use Rattle.irl_disk.proofs.Stretches.{left_now}
use Rattle.irl_journal.specs.Format.{HasRecords}
use Rattle.irl_bay.proofs.LiveJournals.{adopted_wider}
use Rattle.irl_head.specs.StoreFiles.{head_file, urls_base}
use Rattle.irl_head.specs.Head.{head_bytes}
use Rattle.irl_head.specs.Asking.{Agrees}
use Rattle.irl_head.specs.Opening.{HasHead, IsUnwanted}
use Rattle.irl_head.specs.declared.open_fault.OpenFault.TheVariants.{Failed}
use Rattle.irl_head.proofs.Grounds.{settings_ours}
use Rattle.irl_yard.specs.Standing.{HasRest, IsRest}
use Rattle.irl_yard.specs.Holding.{HoldsState}
use Rattle.irl_yard.specs.Entering.{HasGround, OpeningRefused}
use Rattle.irl_yard.proofs.Answered.{enters_still, enters_adopted, refused_still, refused_head, still}
use Rattle.irl_yard.proofs.Grounds.{made_has, entered_made, bay_failed, bay_ground, bay_wanted, head_undamaged, plain_whole}
use Rattle.irl_yard.proofs.Making.{if_err, open_fault_of, was_err}
use Rattle.irl_yard.proofs.Beside.{plain_open}
use Rattle.irl_yard.proofs.ByKind.{rest_stays}
use Rattle.irl_yard.proofs.RestFiles.{few, same_as_told, rest_no_journal, head_no_journal}
use Rattle.irl_yard.proofs.enter.adopt_plain.Goals as goal

-- ---- the rest isn't synced
pub returns-in_err-sync_rest-clause-refused : goal.returns-in_err-sync_rest-clause-refused
returns-in_err-sync_rest-clause-refused g c = λ asked agrees.
    let old = g.S.Store.told c.args.store.now in
    let new = g.S.Store.told c.sync_rest.new.store in
    let law = g.met.S.Store.is_consistent c.args.store.now in
    let call = c.sync_rest.ensures in
    if_err c.from_residual.result Failed (λ fault. OpeningRefused asked fault old new) c.from_residual.ensures.1
    (refused_still asked Failed _ old new law tt (still _ old new call.same call.stops call.taken call.cause))

pub returns-in_err-sync_rest-clause-wanted : goal.returns-in_err-sync_rest-clause-wanted
returns-in_err-sync_rest-clause-wanted g c = if_err c.from_residual.result Failed (λ fault. IsUnwanted fault → ⊥) c.from_residual.ensures.1 (λ is. is)

pub returns-in_err-sync_rest-clause-entered : goal.returns-in_err-sync_rest-clause-entered
returns-in_err-sync_rest-clause-entered g c = λ asked agrees.
    let old = g.S.Store.told c.args.store.now in
    let new = g.S.Store.told c.sync_rest.new.store in
    let call = c.sync_rest.ensures in
    enters_still asked _ old new (g.met.S.Store.is_consistent c.args.store.now) (still _ old new call.same call.stops call.taken
    (cause_for _ _ old.faults new.faults (λ failed. was_err c.sync_rest.result _ c.in_err-sync_rest.was) call.cause))

-- ---- the bay is opened
pub returns-in-Ok-clause-opened : goal.returns-in-Ok-clause-opened
returns-in-Ok-clause-opened g c = λ asked agrees.
    let tells = g.S.Store.told in
    let settings = c.args.settings.now in
    let adopts = c.in-Ok.ensures.adopts in
    let same = adopts.settings in
    let small = few settings c.requires.valid in
    let head = c.requires.head in
    record {
      holds = λ files told state has.
          let made = made_has settings state files (head files told) has in
          let new = tells c.adopt.new.store in
          subst (HoldsState new.images _) (sym (entered_made asked settings state made.settings_are)) (record {
            urls = record {
              settings = made.settings_are ∙ ap (λ (s : Settings). Some s) (sym same);
              base = adopts.base;
              head = λ image left.
                  let from = left_now (tells c.sync_rest.new.store) new _ (g.met.S.Store.is_consistent c.adopt.new.store) c.adopt.ensures.leaves.changes.stops image left in
                  let was = left_now (tells c.args.store.now) (tells c.sync_rest.new.store) _ (g.met.S.Store.is_consistent c.sync_rest.new.store) c.sync_rest.ensures.stops from.0 from.1 in
                  let opened = adopted_wider urls_base settings.buckets from.0 image from.2 in
                  subst (λ (s : Settings). HasRecords (image head_file) (head_bytes s ∷ [])) (sym same)
                  (subst (λ (file : List ℕ). HasRecords file (head_bytes settings ∷ [])) (sym (opened.others head_file (head_no_journal settings.buckets small))) (c.requires.kept from.0 was));
              urls_hold = adopts.holds files (c.sync_rest.ensures.same ∙ told) state.urls made.urls;
              legal = subst (λ (s : Settings). IsRest s.kind s state.urls state.pairs state.events) (sym same) made.legal;
              rest = λ image left.
                  let from = left_now (tells c.sync_rest.new.store) new _ (g.met.S.Store.is_consistent c.adopt.new.store) c.adopt.ensures.leaves.changes.stops image left in
                  let opened = adopted_wider urls_base settings.buckets from.0 image from.2 in
                  subst (λ (s : Settings). HasRest s.kind s state.pairs state.events image) (sym same)
                  (rest_stays settings state.pairs state.events settings.kind files image (same_as_told settings.buckets files image
                  (λ f is. opened.others f (rest_no_journal settings.buckets f small is) ∙ c.in_ok-sync_rest.ensures.synced files told from.0 from.1 f is)) made.rest);
            };
            open_rest = subst (λ (s : Settings). s.kind ≢ Crawl) (sym same) c.requires.kind;
          });
      sound = (adopts.sound, refl, tt);
      rest = plain_open _ _ (subst (λ (s : Settings). s.kind ≢ Crawl) (sym same) c.requires.kind);
      drum = adopts.drum;
      base = adopts.base;
      long = adopts.long;
      settings = λ files told. inl (subst (λ (s : Settings). HasHead s files) (sym same) (head files told));
      agrees = subst (Agrees asked) (sym same) agrees;
      legal = λ ledger is. let no : ⊥ = cc in absurd no;
      ours = λ files told at. settings_ours asked files settings at (inl (head files told));
      undamaged = λ files told f at. head_undamaged asked settings files f at (head files told) (adopts.sane files (c.sync_rest.ensures.same ∙ told) f at)
          (plain_whole settings.kind settings files f at c.requires.kind);
    }

pub returns-in-Ok-clause-entered : goal.returns-in-Ok-clause-entered
returns-in-Ok-clause-entered g c = λ asked agrees.
    let tells = g.S.Store.told in
    let law = g.met.S.Store.is_consistent in
    enters_adopted asked c.args.settings.now _ (tells c.args.store.now) (tells c.sync_rest.new.store) (tells c.adopt.new.store) (law c.args.store.now) (law c.sync_rest.new.store)
    c.requires.valid agrees c.requires.head
    (still _ (tells c.args.store.now) (tells c.sync_rest.new.store) c.sync_rest.ensures.same c.sync_rest.ensures.stops c.sync_rest.ensures.taken c.sync_rest.ensures.cause) _ _ c.adopt.ensures.leaves
    (λ is. let no : ⊥ = cc in absurd no)

pub returns-in-Err-clause-refused : goal.returns-in-Err-clause-refused
returns-in-Err-clause-refused g c = λ asked agrees.
    let tells = g.S.Store.told in
    let law = g.met.S.Store.is_consistent in
    let enters = enters_adopted asked c.args.settings.now _ (tells c.args.store.now) (tells c.sync_rest.new.store) (tells c.adopt.new.store) (law c.args.store.now)
    (law c.sync_rest.new.store)
    c.requires.valid agrees c.requires.head
    (still _ (tells c.args.store.now) (tells c.sync_rest.new.store) c.sync_rest.ensures.same c.sync_rest.ensures.stops c.sync_rest.ensures.taken c.sync_rest.ensures.cause) _ _ c.adopt.ensures.leaves
    (λ is. is) in
    refused_head asked c.args.settings.now _ _ (tells c.args.store.now) (tells c.adopt.new.store) (law c.args.store.now) c.requires.head
    (λ unwanted. bay_wanted c.in-Err.fault (subst IsUnwanted c.bay_fault.ensures unwanted))
    (subst (HasGround asked (tells c.args.store.now).files) (sym c.bay_fault.ensures)
    (bay_ground asked (tells c.args.store.now).files c.args.settings.now c.in-Err.fault c.requires.head agrees
    (λ f at is files told. c.in-Err.ensures.refused.damaged f at (ap (λ (fault : Fault). Err fault) is) files (c.sync_rest.ensures.same ∙ told))))
    enters

pub returns-in-Err-clause-wanted : goal.returns-in-Err-clause-wanted
returns-in-Err-clause-wanted g c = λ unwanted. bay_wanted c.in-Err.fault (subst IsUnwanted c.bay_fault.ensures unwanted)

pub returns-in-Err-clause-entered : goal.returns-in-Err-clause-entered
returns-in-Err-clause-entered g c = λ asked agrees.
    let tells = g.S.Store.told in
    let law = g.met.S.Store.is_consistent in
    enters_adopted asked c.args.settings.now _ (tells c.args.store.now) (tells c.sync_rest.new.store) (tells c.adopt.new.store) (law c.args.store.now) (law c.sync_rest.new.store)
    c.requires.valid agrees c.requires.head
    (still _ (tells c.args.store.now) (tells c.sync_rest.new.store) c.sync_rest.ensures.same c.sync_rest.ensures.stops c.sync_rest.ensures.taken c.sync_rest.ensures.cause) _ _ c.adopt.ensures.leaves
    (λ is. bay_failed c.adopt.result c.in-Err.fault c.in-Err.is c.adopt.ensures.refused.full (sym c.bay_fault.ensures ∙ open_fault_of is))
