use Rattle.std.proofs.Common.{◌≡◌, ◌∙◌, ⊎_elim, inl, ℕ, List, [], ◌∷◌, refl, sym, ap, subst, arith, Option, None, Some, Err, IfSome, length}
use Rattle.irl_disk.specs.Disk.{Files}
use Rattle.irl_disk.proofs.Frames.{told_from}
use Rattle.irl_journal.specs.Format.{StandsFor, HasRecords}
use Rattle.irl_journal.specs.Visiting.{IsOpened}
use Rattle.irl_head.specs.StoreFiles.{head_file}
use Rattle.irl_head.specs.Head.{head_bytes}
use Rattle.irl_journal.specs.declared.fault.JournalFault.TheVariants.{Damaged as JournalDamaged}
use Rattle.irl_head.specs.declared.open_fault.OpenFault.{OpenFault}
use Rattle.irl_head.specs.declared.open_fault.OpenFault.TheVariants.{NotOurs, Damaged, OtherSettings, BadSettings, Failed}
use Rattle.irl_head.proofs.Beginning.{looked_then}
use Rattle.irl_head.proofs.Finding.{broken_at_once, broken_not_ours, failed_then, found_in, found_none, found_settings, of_head, IsOfHead, opened_same, said_none, said_others, said_place, said_settings, stands_not_ours}
use Rattle.irl_head.proofs.journal.find_head.Goals as goal

-- the journal is refused
pub returns-in-Err : goal.returns-in-Err
returns-in-Err g c =
    let tells = g.S.Store.told in
    let told = c.length.ensures.same in
    let found = c.visit.new.visitor.found in
    let why = λ (files : Files) (is : (tells c.args.store.now).files ≡ Some files) (place : ℕ) (e : c.in-Err.fault ≡ JournalDamaged place).
    ⊎_elim (λ broken. broken) (λ refused. absurd refused.refused) (c.in-Err.ensures.damaged place (ap Err e) files (told ∙ is)).why in
    record {
      valid = tt;
      made = tt;
      kept = tt;
      blank = tt;
      not_ours = λ at is files told.
          let e : c.head_fault.result ≡ NotOurs at = cc in
          broken_not_ours files c.visit.new.visitor found c.in-Err.fault at refl (why files told) (sym c.head_fault.ensures ∙ e);
      damaged = λ f at is files told.
          let e : c.head_fault.result ≡ Damaged f at = cc in
          broken_at_once files c.visit.new.visitor found c.in-Err.fault f at refl (why files told) (sym c.head_fault.ensures ∙ e);
      other = λ n kept wanted is. (let e : c.head_fault.result ≡ OtherSettings n kept wanted = cc in subst IsOfHead (sym c.head_fault.ensures ∙ e) (of_head found c.in-Err.fault));
      bad = λ n is. (let e : c.head_fault.result ≡ BadSettings n = cc in subst IsOfHead (sym c.head_fault.ensures ∙ e) (of_head found c.in-Err.fault));
      same = opened_same (tells c.length.new.self).files (tells c.visit.new.store).files c.in_ok-length.field-0
          (subst (λ (old : Option Files). IfSome old (λ files. c.in_ok-length.field-0 ≡ length (files head_file))) (sym told) c.in_ok-length.ensures.value) (omega (arith, c.if-branch-le1.false))
          c.visit.ensures.changes.told ∙ told;
      changes = looked_then head_file IsOpened _ _ (tells c.args.store.now) (tells c.length.new.self) (tells c.visit.new.store) (g.met.S.Store.is_consistent c.length.new.self) (λ x. inl refl) told
          c.length.ensures.stops c.length.ensures.taken c.length.ensures.cause.later
          (λ is. let e : c.head_fault.result ≡ Failed = cc in ap Err (failed_then found c.in-Err.fault (sym c.head_fault.ensures ∙ e)))
          c.in-Err.ensures.changes;
    }

-- it was read whole: it has settings, or the place of what makes it another's, or nothing
pub returns : goal.returns
returns g c =
    let tells = g.S.Store.told in
    let told = c.length.ensures.same in
    let found = c.visit.new.visitor.found in
    let in_records = λ (payloads : List (List ℕ)). found_in payloads 0 (record { found = None }) c.visit.new.visitor refl in
    let visited = λ (files : Files) (is : (tells c.args.store.now).files ≡ Some files). c.in_default.ensures.visited files (told ∙ is) in
    let others = λ (fault : OpenFault) (is : c.head_found.result ≡ Err fault). said_others found fault (sym c.head_found.ensures ∙ is) in
    record {
      valid = (
          let took = c.in_default.ensures.took in
          said_settings found c.head_found.result _ c.head_found.ensures (λ settings is. (found_settings took.payloads found settings is (in_records took.payloads took.took)).1)
          );
      made = said_settings found c.head_found.result _ c.head_found.ensures (λ settings is files told.
          let stands = (visited files told).found in
          let took = (visited files told).records stands.0 stands.1 in
          subst (StandsFor (files head_file)) (found_settings stands.0 found settings is (in_records stands.0 took.1)).0 stands.1);
      kept = said_settings found c.head_found.result _ c.head_found.ensures (λ settings is image left.
          let now = (g.met.S.Store.is_consistent c.visit.new.store).tells image left in
          let was = told_from head_file IsOpened (tells c.length.new.self).files (tells c.visit.new.store).files now.0 c.visit.ensures.changes.told now.1 in
          let stands = (c.in_default.ensures.visited was.0 was.1).found in
          let took = (c.in_default.ensures.visited was.0 was.1).records stands.0 stands.1 in
          let one = found_settings stands.0 found settings is (in_records stands.0 took.1) in
          subst (λ (f : ℕ). HasRecords (image f) (head_bytes settings ∷ [])) c.in_default.ensures.journal.0
          (subst (λ (payloads : List (List ℕ)). HasRecords (image c.in_default.field-0.file) payloads) one.0 (took.2 image left).records));
      blank = said_none found c.head_found.result _ c.head_found.ensures (λ is files told.
          let stands = (visited files told).found in
          let took = (visited files told).records stands.0 stands.1 in
          subst (StandsFor (files head_file)) (found_none stands.0 found is (in_records stands.0 took.1)) stands.1);
      not_ours = λ at is files told.
          let stands = (visited files told).found in
          let took = (visited files told).records stands.0 stands.1 in
          stands_not_ours files stands.0 found at (said_place found c.head_found.result at c.head_found.ensures is) (in_records stands.0 took.1) stands.1;
      damaged = λ f at is. absurd (others (Damaged f at) is);
      other = λ n kept wanted is. others (OtherSettings n kept wanted) is;
      bad = λ n is. others (BadSettings n) is;
      same = opened_same (tells c.length.new.self).files (tells c.visit.new.store).files c.in_ok-length.field-0
          (subst (λ (old : Option Files). IfSome old (λ files. c.in_ok-length.field-0 ≡ length (files head_file))) (sym told) c.in_ok-length.ensures.value) (omega (arith, c.if-branch-le1.false))
          c.visit.ensures.changes.told ∙ told;
      changes = looked_then head_file IsOpened _ _ (tells c.args.store.now) (tells c.length.new.self) (tells c.visit.new.store) (g.met.S.Store.is_consistent c.length.new.self) (λ x. inl refl) told
          c.length.ensures.stops c.length.ensures.taken c.length.ensures.cause.later (λ is. absurd (others Failed is)) c.visit.ensures.changes;
    }
