use Rattle.std.proofs.Common.{◌≡◌, ◌∙◌, ⊎_elim, inl, inr, ℕ, [], ◌∷◌, sym, ap, subst, None, Err, rules}
use Rattle.irl_journal.specs.Format.{HasRecords}
use Rattle.irl_head.specs.StoreFiles.{head_file}
use Rattle.irl_head.specs.declared.open_fault.OpenFault.TheVariants.{NotOurs, Damaged, OtherSettings, BadSettings, Failed}
use Rattle.irl_head.proofs.Finding.{damaged_then, failed_then, never_ours, of_head, IsOfHead, unfailed_then}
use Rattle.irl_head.proofs.Writing.{empty_open, none_refused, opens_only, opens_then_gains}
use Rattle.irl_head.proofs.journal.write_head.Goals as goal

-- the journal can't be opened; it has no record that is refused
pub returns-in-Err : goal.returns-in-Err
returns-in-Err g c =
    let tells = g.S.Store.told in
    let fault = c.in-Err.fault in
    let is_fault = sym c.head_fault.ensures in
    let reads = λ (unfailed : c.head_fault.result ≡ Failed → ⊥). c.in-Err.ensures.quiet
    (⊎_elim (λ memory. inl (ap Err memory)) (λ damaged. inr (damaged.0, ap Err damaged.1)) (unfailed_then None fault (λ e. unfailed (c.head_fault.ensures ∙ e)))) in
    record {
      kept = tt;
      changes = opens_only head_file c.args.frame.now.bytes _ _ (tells c.args.store.now) (tells c.visit.new.store)
          (λ is. let e : c.head_fault.result ≡ Failed = cc in ap Err (failed_then None fault (is_fault ∙ e))) c.in-Err.ensures.changes;
      not_ours = λ at is. (let e : c.head_fault.result ≡ NotOurs at = cc in never_ours fault at (is_fault ∙ e));
      damaged = λ f at is files told.
          let e : c.head_fault.result ≡ Damaged f at = cc in
          let place = (damaged_then None fault).1 f at (is_fault ∙ e) in
          none_refused _ _ _ _ place.0 ((c.in-Err.ensures.damaged place.0 (ap Err place.1) files told).refused [] (c.requires.blank files told));
      other = λ n kept wanted is. (let e : c.head_fault.result ≡ OtherSettings n kept wanted = cc in subst IsOfHead (is_fault ∙ e) (of_head None fault));
      bad = λ n is. (let e : c.head_fault.result ≡ BadSettings n = cc in subst IsOfHead (is_fault ∙ e) (of_head None fault));
      same = λ unfailed. (reads unfailed).same;
      same_stops = λ unfailed. (reads unfailed).stops;
    }

-- the journal is open without a record, and is appended to
pub returns-in_err-append : goal.returns-in_err-append
returns-in_err-append g c =
    let tells = g.S.Store.told in
    let bytes = c.args.frame.now.bytes in
    let law = g.met.S.Store.is_consistent c.visit.new.store in
    let empty = empty_open (tells c.args.store.now) (tells c.visit.new.store) c.in-Ok.head head_file law c.visit.ensures.changes.told c.requires.blank (λ files told stands.
    ((c.in-Ok.ensures.visited files told).records [] stands).2) in
    record {
      kept = search rules;
      changes = opens_then_gains head_file c.in-Ok.head.file bytes _ _ _ (tells c.args.store.now) (tells c.visit.new.store) (tells c.append.new.store) law c.in-Ok.ensures.journal.0
          c.visit.ensures.changes (c.append.ensures.appends.changes [] empty) (λ is. search rules);
      not_ours = search rules;
      damaged = search rules;
      other = search rules;
      bad = search rules;
      same = search rules;
      same_stops = search rules;
    }

pub returns : goal.returns
returns g c =
    let tells = g.S.Store.told in
    let bytes = c.args.frame.now.bytes in
    let law = g.met.S.Store.is_consistent c.visit.new.store in
    let empty = empty_open (tells c.args.store.now) (tells c.visit.new.store) c.in-Ok.head head_file law c.visit.ensures.changes.told c.requires.blank (λ files told stands.
    ((c.in-Ok.ensures.visited files told).records [] stands).2) in
    record {
      kept = λ image left.
          subst (λ (f : ℕ). HasRecords (image f) (bytes ∷ [])) (c.append.ensures.appends.file ∙ c.in-Ok.ensures.journal.0) (c.in_ok-append.ensures.appends.acknowledged [] empty image left).records;
      changes = opens_then_gains head_file c.in-Ok.head.file bytes _ _ _ (tells c.args.store.now) (tells c.visit.new.store) (tells c.append.new.store) law c.in-Ok.ensures.journal.0
          c.visit.ensures.changes (c.append.ensures.appends.changes [] empty) (λ is. absurd cc);
      not_ours = search rules;
      damaged = search rules;
      other = search rules;
      bad = search rules;
      same = tt;
      same_stops = tt;
    }
