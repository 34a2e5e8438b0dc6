-- What the visitor counted is what the bucket has, and opening changes at most a journal of at most one byte.
use Rattle.std.proofs.Common.{◌≡◌, ◌∙◌, ℕ, ◌≤◌, ◌<◌, List, length, map, take, refl, sym, ap, subst, arith, rules, inl, inr, ⊎_elim}
use Rattle.std.proofs.lemmas.Result.{err_from_is_err_and}
use Rattle.irl_disk.proofs.Frames.{told_from}
use Rattle.irl_disk.proofs.Stretches.{left_now}
use Rattle.irl_journal.specs.Blob.{Front, IsCommitted}
use Rattle.irl_journal.specs.Format.{StandsFor, records_text}
use Rattle.irl_journal.specs.Visiting.{IsOpened}
use Rattle.irl_base.specs.declared.fault.Fault.TheVariants.{Damaged as StoreDamaged}
use Rattle.irl_layout.specs.BayFiles.{file_of}
use Rattle.irl_layout.specs.declared.files.BayFile.TheVariants.{Journal as JournalFile, Aux as AuxFile}
use Rattle.irl_bay.specs.Damage.{IsDamagedJournal}
use Rattle.irl_layout.specs.EntryRuns.{AreRunPayloads, entries_bytes}
use Rattle.irl_layout.specs.Runs.{run_bytes}
use Rattle.irl_bay.proofs.Adopted.{changes_at, changes_reads}
use Rattle.irl_bay.proofs.Buckets.{damaged_runs, damaged_fault, ends_within, holds_found}
use Rattle.irl_bay.proofs.Finding.{took_runs, first_within, long_runs}
use Rattle.irl_layout.proofs.EntryBytes.{below_or_not}
use Rattle.irl_bay.proofs.bucket.Bucket.adopt.Goals as goal

pub returns-in-Err-clause-refused : goal.returns-in-Err-clause-refused
returns-in-Err-clause-refused g c = record {
  full = search rules;
  damaged = λ f at e files tells.
      let same : c.fault_in.result ≡ StoreDamaged f at = cc in
      let out = damaged_fault c.number-f.result c.in-Err.fault f at (sym c.fault_in.ensures ∙ same) in
      let here : f ≡ file_of c.args.base 0 (JournalFile c.args.live.side c.args.b) = sym out.1 ∙ c.number-f.ensures.value in
      inl (
        here,
        subst (λ (n : ℕ). IsDamagedJournal (AreRunPayloads c.args.settings.now c.args.b) (files n) at) out.1
            (damaged_runs c.args.settings.now c.args.b _ c.visit.new.visitor (files c.number-f.result) at refl refl (c.in-Err.ensures.damaged at (search rules) files tells).why),
      );
}

pub returns-in_err-aux-clause-refused : goal.returns-in_err-aux-clause-refused
returns-in_err-aux-clause-refused g c = record {
  full = search rules;
  damaged = λ f at e files tells.
      let out = err_from_is_err_and c.from_residual.result c.from_residual.ensures.1 in
      let is = rw (out.1, out.2) at e in
      let found = (c.in-Ok.ensures.visited files tells).found in
      let read = (c.in-Ok.ensures.visited files tells).records found.0 found.1 in
      let took = took_runs c.args.settings.now c.args.b c.args.live.judged _ c.visit.new.visitor found.0 c.nothing.ensures refl refl refl (omega (arith, read.0, c.end-end.ensures, c.end-end.type_inv))
      read.1 in
      let after = rw tells at c.in-Ok.ensures.changes.told in
      let named = c.in_err-aux.ensures.damaged f at (search rules) in
      let same : after.0 c.number.result ≡ files f = after.2.others c.number.result (omega (arith, c.number.ensures.value, c.number-f.ensures.value)) ∙ ap files (sym named.0) in
      let short = named.1 after.0 after.1 in
      inr (
        named.0 ∙ c.number.ensures.value,
        (
          took.runs,
          record {
            each = took.each;
            records = subst (λ (n : ℕ). StandsFor (files n) (map entries_bytes took.runs)) c.number-f.ensures.value
                (subst (λ (ps : List (List ℕ)). StandsFor (files c.number-f.result) ps) took.payloads_are found.1);
          },
          record { short = omega (arith, short.short, took.found.texts, ap length same); place = short.place ∙ ap length same },
        ),
      );
}

pub returns-in-Err-clause-changes : goal.returns-in-Err-clause-changes
returns-in-Err-clause-changes g c = changes_at _ _ _ _ _ _ c.number-f.ensures.value c.in-Err.ensures.changes (search rules)

pub returns-in_err-aux-clause-changes : goal.returns-in_err-aux-clause-changes
returns-in_err-aux-clause-changes g c = changes_at _ _ ⊥ _ _ _ c.number-f.ensures.value
    (changes_reads _ _ _ _ _ ⊥ _ _ _ (g.met.S.Store.is_consistent c.visit.new.store) (λ f none. absurd none) c.in-Ok.ensures.changes c.in_err-aux.ensures.reads
    (record { later = omega (arith, c.in-Ok.ensures.changes.cause.later, c.in_err-aux.ensures.reads.cause.later); rose = λ f. absurd f })) (search rules)

pub first_pending-gate-requires : goal.first_pending-gate-requires
first_pending-gate-requires g c = λ below.
    let took = took_runs c.args.settings.now c.args.b c.args.live.judged _ c.visit.new.visitor c.in-Ok.ensures.took.payloads c.nothing.ensures refl refl refl
    (omega (arith, c.in-Ok.ensures.took.place, c.end-end.ensures, c.end-end.type_inv)) c.in-Ok.ensures.took.took in
    let within = first_within c.args.settings.now c.args.b c.args.live.judged c.in-Ok.ensures.took.payloads c.visit.new.visitor took below in
    omega (arith, within.1, c.in_ok-aux.ensures.fits)

pub returns-clause-opened : goal.returns-clause-opened
returns-clause-opened g c = record {
  opened =
      let took = took_runs c.args.settings.now c.args.b c.args.live.judged _ c.visit.new.visitor c.in-Ok.ensures.took.payloads c.nothing.ensures refl refl refl
      (omega (arith, c.in-Ok.ensures.took.place, c.end-end.ensures, c.end-end.type_inv)) c.in-Ok.ensures.took.took in
      record {
        journal = c.in-Ok.ensures.journal.0 ∙ c.number-f.ensures.value;
        aux = ap (λ (blob : Front). blob.file) c.in_ok-aux.ensures.blob ∙ c.number.ensures.value;
        start = refl;
        sound = c.in-Ok.ensures.journal.1;
        gate = ⊎_elim
            (λ (below : c.args.live.judged < c.visit.new.visitor.found.count).
            let within = first_within c.args.settings.now c.args.b c.args.live.judged c.in-Ok.ensures.took.payloads c.visit.new.visitor took below in
            omega (arith, within.0, (c.first_pending-gate.ensures.pending below).0, c.in-Ok.ensures.took.place))
            (λ (past : c.visit.new.visitor.found.count ≤ c.args.live.judged). omega (arith, (c.first_pending-gate.ensures.none past).0, c.end-end.ensures))
            (below_or_not c.args.live.judged c.visit.new.visitor.found.count);
        text = ⊎_elim
            (λ (below : c.args.live.judged < c.visit.new.visitor.found.count).
            let within = first_within c.args.settings.now c.args.b c.args.live.judged c.in-Ok.ensures.took.payloads c.visit.new.visitor took below in
            omega (arith, within.1, (c.first_pending-gate.ensures.pending below).2, ap (λ (blob : Front). blob.length) c.in_ok-aux.ensures.blob))
            (λ (past : c.visit.new.visitor.found.count ≤ c.args.live.judged). omega (arith, (c.first_pending-gate.ensures.none past).2, c.length.ensures))
            (below_or_not c.args.live.judged c.visit.new.visitor.found.count);
      };
  found = λ files tells.
      let found = (c.in-Ok.ensures.visited files tells).found in
      let read = (c.in-Ok.ensures.visited files tells).records found.0 found.1 in
      let took = took_runs c.args.settings.now c.args.b c.args.live.judged _ c.visit.new.visitor found.0 c.nothing.ensures refl refl refl (omega (arith, read.0, c.end-end.ensures, c.end-end.type_inv))
      read.1 in
      let after = rw tells at c.in-Ok.ensures.changes.told in
      let aux : after.0 c.number.result ≡ files (file_of c.args.base 0 (AuxFile c.args.live.side c.args.b)) =
      after.2.others c.number.result (omega (arith, c.number.ensures.value, c.number-f.ensures.value)) ∙ ap files c.number.ensures.value in
      let long = c.in_ok-aux.ensures.long after.0 after.1 in
      record {
        runs = took.runs;
        has = record {
          each = took.each;
          records = subst (λ (n : ℕ). StandsFor (files n) (map entries_bytes took.runs)) c.number-f.ensures.value
              (subst (λ (ps : List (List ℕ)). StandsFor (files c.number-f.result) ps) took.payloads_are found.1);
        };
        durable = omega (arith, took.found.count, c.saturating_add.ensures);
        texts = omega (arith, took.found.texts, long, ap length aux);
      };
  long = λ files tells.
      let law = g.met.S.Store.is_consistent in
      let after = c.in_ok-aux.ensures.reads.same in
      let before = told_from c.number-f.result IsOpened _ _ files c.in-Ok.ensures.changes.told (sym after ∙ tells) in
      let found = (c.in-Ok.ensures.visited before.0 before.1).found in
      let read = (c.in-Ok.ensures.visited before.0 before.1).records found.0 found.1 in
      let ends = read.2 files ((law c.visit.new.store).told files (sym after ∙ tells)) in
      record {
        journal = ends_within c.in-Ok.journal.end (files c.in-Ok.journal.file) found.0 ends;
        aux = let long = c.in_ok-aux.ensures.long files (sym after ∙ tells) in
            omega (arith, long, ap (λ (blob : Front). blob.length) c.in_ok-aux.ensures.blob, ap (λ (blob : Front). length (files blob.file)) c.in_ok-aux.ensures.blob);
      };
  holds = λ files tells list is.
      let has = is.has in
      let law = g.met.S.Store.is_consistent in
      let stands = subst (λ (n : ℕ). StandsFor (files n) (map run_bytes has.runs)) (sym c.number-f.ensures.value) has.records in
      let read = (c.in-Ok.ensures.visited files tells).records (map run_bytes has.runs) stands in
      let took = took_runs c.args.settings.now c.args.b c.args.live.judged _ c.visit.new.visitor (map run_bytes has.runs) c.nothing.ensures refl refl refl
      (omega (arith, read.0, c.end-end.ensures, c.end-end.type_inv)) read.1 in
      let after = rw tells at c.in-Ok.ensures.changes.told in
      let aux : after.0 c.number.result ≡ files (file_of c.args.base 0 (AuxFile c.args.live.side c.args.b)) =
      after.2.others c.number.result (omega (arith, c.number.ensures.value, c.number-f.ensures.value)) ∙ ap files c.number.ensures.value in
      let images = (g.S.Store.told c.open_blob.new.store).images in
      let kept = left_now _ _ _ (law c.open_blob.new.store) c.in_ok-aux.ensures.reads.stops in
      holds_found images c.args.settings.now c.args.b c.args.live.judged list (files (file_of c.args.base 0 (JournalFile c.args.live.side c.args.b)))
      (files (file_of c.args.base 0 (AuxFile c.args.live.side c.args.b))) _ c.visit.new.visitor.found took.runs has is.here is.within took.each took.payloads_are took.found
      (record {
        end = read.0;
        journal = λ image left. read.2 image (kept image left);
        length = ap (λ (blob : Front). blob.length) c.in_ok-aux.ensures.blob;
        aux = subst (λ (l : List ℕ). IsCommitted images c.in_ok-aux.aux (take c.visit.new.visitor.found.texts l)) aux (c.in_ok-aux.ensures.committed after.0 after.1);
        durable = omega (
          arith,
          c.saturating_add.ensures,
          took.found.count,
          long_runs took.runs,
          ap (λ (ps : List (List ℕ)). length (records_text ps)) took.payloads_are,
          read.0,
          c.end-end.ensures,
          c.end-end.type_inv,
          is.few,
        );
        pending = c.first_pending-gate.ensures.pending;
        none = λ past. let kept_none = c.first_pending-gate.ensures.none past in (kept_none.0 ∙ c.end-end.ensures, kept_none.1, kept_none.2 ∙ c.length.ensures);
      });
}

pub returns-clause-changes : goal.returns-clause-changes
returns-clause-changes g c = changes_at _ _ ⊥ _ _ _ c.number-f.ensures.value
    (changes_reads _ _ _ _ _ ⊥ _ _ _ (g.met.S.Store.is_consistent c.visit.new.store) (λ f none. absurd none) c.in-Ok.ensures.changes c.in_ok-aux.ensures.reads
    (record { later = omega (arith, c.in-Ok.ensures.changes.cause.later, c.in_ok-aux.ensures.reads.cause.later); rose = λ f. absurd f })) (search rules)
