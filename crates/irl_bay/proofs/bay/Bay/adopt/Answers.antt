-- The parts of a bay are opened one after the other.
use Rattle.std.proofs.Common.{◌≡◌, ◌∙◌, ℕ, ◌≤◌, List, length, map, inl, inr, refl, sym, ap, subst, arith, rules}
use Rattle.std.proofs.lemmas.List.{length-map}
use Rattle.std.proofs.lemmas.Result.{err_from_is_err_and}
use Rattle.irl_base.specs.declared.fault.Fault.TheVariants.{Damaged as StoreDamaged}
use Rattle.irl_model.specs.Book.{IsBelow}
use Rattle.irl_disk.specs.Disk.{ChangesFile}
use Rattle.irl_disk.specs.Images.{Told}
use Rattle.irl_bay.specs.Holding.{Holds}
use Rattle.std.specs.List.{AllByRecursion}
use Rattle.irl_disk.proofs.Stretches.{left_now}
use Rattle.irl_journal.specs.Format.{StandsFor, records_text}
use Rattle.irl_bay.proofs.Whole.{undamaged, refused_by}
use Rattle.irl_bay.proofs.AdoptedBook.{same_commits, holds_is}
use Rattle.irl_disk.proofs.Frames.{told_from}
use Rattle.irl_journal.specs.Appending.{Ends}
use Rattle.irl_journal.specs.Visiting.{IsOpened}
use Rattle.irl_bay.specs.declared.bucket.Bucket.{Bucket}
use Rattle.irl_layout.specs.Commits.{Commit, IsCommit, commit_bytes, first_commit, last_commit}
use Rattle.irl_bay.specs.Damage.{IsDamagedJournal, IsDamagedBehind, AreCommitPayloads, HasFronts, RiseFrom}
use Rattle.irl_bay.specs.Drum.{no_bucket}
use Rattle.irl_bay.specs.Opening.{OpensBelow}
use Rattle.irl_bay.proofs.Buckets.{damaged_fault, ends_within}
use Rattle.irl_bay.proofs.Reached.{few_commits, took_commits, damaged_commits}
use Rattle.irl_bay.proofs.Adopted.{manifest_of, took_is, front_back_as, fronts_back, whole_back, bucket_back, whole_of, within_reached, within_end, first_end, cut_above, tells_from, below_same, drum_is, long_is, opened_drum}
use Rattle.irl_bay.proofs.LiveJournals.{visited, adopts_none, adopts_first, adopts_read, adopts_buckets, may_leave}
use Rattle.irl_bay.proofs.bay.Bay.adopt.Goals as goal

-- ---- what changes and is read
pub returns-in_err-history-clause-leaves : goal.returns-in_err-history-clause-leaves
returns-in_err-history-clause-leaves g c = may_leave _ c.args.base c.args.settings.now _ _
    (adopts_none c.args.base c.args.settings.now.buckets (g.S.Store.told c.args.store.now) (g.met.S.Store.is_consistent c.args.store.now)) (search rules)

pub returns-in-Err-clause-leaves : goal.returns-in-Err-clause-leaves
returns-in-Err-clause-leaves g c = may_leave _ c.args.base c.args.settings.now _ _
    (adopts_first c.args.base c.args.settings.now.buckets c.number-f.result _ _ _ c.number-f.ensures.value c.in-Err.ensures.changes) (search rules)

pub returns-in_err-open_fronts-clause-leaves : goal.returns-in_err-open_fronts-clause-leaves
returns-in_err-open_fronts-clause-leaves g c =
    let law = g.met.S.Store.is_consistent in
    let buckets = c.args.settings.now.buckets in
    may_leave _ c.args.base c.args.settings.now _ _
    (adopts_read c.args.base buckets _ _ _ _ _ (law c.visit.new.store) (λ f none. absurd none)
    (adopts_first c.args.base buckets c.number-f.result _ _ _ c.number-f.ensures.value c.in-Ok.ensures.changes) c.in_err-open_fronts.ensures.reads) (search rules)

pub returns-in_err-buckets-clause-leaves : goal.returns-in_err-buckets-clause-leaves
returns-in_err-buckets-clause-leaves g c =
    let tell = g.S.Store.told in
    let law = g.met.S.Store.is_consistent in
    let base = c.args.base in
    let buckets = c.args.settings.now.buckets in
    let visit = visited base buckets c.number-f.result _ (tell c.args.store.now) (tell c.visit.new.store) c.in-Ok.manifest c.in_ok-history.history c.visit.new.visitor _ (law c.visit.new.store)
    c.number-f.ensures.value c.in-Ok.ensures.journal.0 c.in_ok-history.ensures.buckets c.in_ok-history.ensures.last c.in_ok-history.ensures.count refl c.in-Ok.ensures.changes
    (λ files tells. (c.in-Ok.ensures.visited files tells).found) (λ files tells. (c.in-Ok.ensures.visited files tells).records) c.in-Ok.ensures.took in
    may_leave _ base c.args.settings.now _ _ (adopts_buckets base _ buckets _ _ _ (tell c.visit.new.store) (tell c.open_fronts.new.store) _ visit (law c.visit.new.store) (law c.open_fronts.new.store)
    c.in_ok-open_fronts.ensures.reads
    c.in_err-buckets.ensures.changes) (search rules)

pub returns-in_err-lengths-clause-leaves : goal.returns-in_err-lengths-clause-leaves
returns-in_err-lengths-clause-leaves g c =
    let tell = g.S.Store.told in
    let law = g.met.S.Store.is_consistent in
    let base = c.args.base in
    let buckets = c.args.settings.now.buckets in
    let visit = visited base buckets c.number-f.result _ (tell c.args.store.now) (tell c.visit.new.store) c.in-Ok.manifest c.in_ok-history.history c.visit.new.visitor _ (law c.visit.new.store)
    c.number-f.ensures.value c.in-Ok.ensures.journal.0 c.in_ok-history.ensures.buckets c.in_ok-history.ensures.last c.in_ok-history.ensures.count refl c.in-Ok.ensures.changes
    (λ files tells. (c.in-Ok.ensures.visited files tells).found) (λ files tells. (c.in-Ok.ensures.visited files tells).records) c.in-Ok.ensures.took in
    may_leave _ base c.args.settings.now _ _ (adopts_buckets base _ buckets _ _ _ (tell c.visit.new.store) (tell c.open_fronts.new.store) _ visit (law c.visit.new.store) (law c.open_fronts.new.store)
    c.in_ok-open_fronts.ensures.reads
    c.in_ok-buckets.ensures.changes) (search rules)

pub returns-in_err-check_cuts-clause-leaves : goal.returns-in_err-check_cuts-clause-leaves
returns-in_err-check_cuts-clause-leaves g c =
    let tell = g.S.Store.told in
    let law = g.met.S.Store.is_consistent in
    let base = c.args.base in
    let buckets = c.args.settings.now.buckets in
    let visit = visited base buckets c.number-f.result _ (tell c.args.store.now) (tell c.visit.new.store) c.in-Ok.manifest c.in_ok-history.history c.visit.new.visitor _ (law c.visit.new.store)
    c.number-f.ensures.value c.in-Ok.ensures.journal.0 c.in_ok-history.ensures.buckets c.in_ok-history.ensures.last c.in_ok-history.ensures.count refl c.in-Ok.ensures.changes
    (λ files tells. (c.in-Ok.ensures.visited files tells).found) (λ files tells. (c.in-Ok.ensures.visited files tells).records) c.in-Ok.ensures.took in
    may_leave _ base c.args.settings.now _ _ (adopts_read base buckets _ _ _ (tell c.open_buckets.new.store) _ (law c.open_buckets.new.store) (λ f is. is ∙ c.in-Ok.ensures.journal.0
    ∙ c.number-f.ensures.value)
    (adopts_buckets base _ buckets _ _ _ (tell c.visit.new.store) (tell c.open_fronts.new.store) _ visit (law c.visit.new.store) (law c.open_fronts.new.store) c.in_ok-open_fronts.ensures.reads
    c.in_ok-buckets.ensures.changes) c.in_err-check_cuts.ensures.reads) (search rules)

pub returns-clause-leaves : goal.returns-clause-leaves
returns-clause-leaves g c =
    let tell = g.S.Store.told in
    let law = g.met.S.Store.is_consistent in
    let base = c.args.base in
    let buckets = c.args.settings.now.buckets in
    let visit = visited base buckets c.number-f.result _ (tell c.args.store.now) (tell c.visit.new.store) c.in-Ok.manifest c.in_ok-history.history c.visit.new.visitor _ (law c.visit.new.store)
    c.number-f.ensures.value c.in-Ok.ensures.journal.0 c.in_ok-history.ensures.buckets c.in_ok-history.ensures.last c.in_ok-history.ensures.count refl c.in-Ok.ensures.changes
    (λ files tells. (c.in-Ok.ensures.visited files tells).found) (λ files tells. (c.in-Ok.ensures.visited files tells).records) c.in-Ok.ensures.took in
    may_leave _ base c.args.settings.now _ _ (adopts_read base buckets _ _ _ (tell c.open_buckets.new.store) _ (law c.open_buckets.new.store) (λ f is. is ∙ c.in-Ok.ensures.journal.0
    ∙ c.number-f.ensures.value)
    (adopts_buckets base _ buckets _ _ _ (tell c.visit.new.store) (tell c.open_fronts.new.store) _ visit (law c.visit.new.store) (law c.open_fronts.new.store) c.in_ok-open_fronts.ensures.reads
    c.in_ok-buckets.ensures.changes) c.in_ok-check_cuts.ensures.reads) (search rules)

-- ---- what the commit says
pub open_fronts-requires-clause-side : goal.open_fronts-requires-clause-side
open_fronts-requires-clause-side g c =
    let took = took_commits c.args.settings.now.buckets 0 c.in_ok-history.history c.visit.new.visitor c.in-Ok.ensures.took.payloads c.in_ok-history.ensures.buckets
    (omega (arith, c.in_ok-history.ensures.count)) c.in-Ok.ensures.took.took in
    let is = took_is c.args.settings.now.buckets c.in_ok-history.history.last c.in_ok-history.history.count c.in-Ok.ensures.took.payloads c.visit.new.visitor c.in_ok-history.ensures.last took in
    omega (arith, is.side)

pub open_buckets-requires-clause-commit : goal.open_buckets-requires-clause-commit
open_buckets-requires-clause-commit g c =
    let took = took_commits c.args.settings.now.buckets 0 c.in_ok-history.history c.visit.new.visitor c.in-Ok.ensures.took.payloads c.in_ok-history.ensures.buckets
    (omega (arith, c.in_ok-history.ensures.count)) c.in-Ok.ensures.took.took in
    took_is c.args.settings.now.buckets c.in_ok-history.history.last c.in_ok-history.history.count c.in-Ok.ensures.took.payloads c.visit.new.visitor c.in_ok-history.ensures.last took

-- ---- what is damaged
pub returns-in-Err-clause-refused : goal.returns-in-Err-clause-refused
returns-in-Err-clause-refused g c = refused_by _ _ _ _ (search rules)
    (λ f at e files tells.
    let same : c.fault_in.result ≡ StoreDamaged f at = cc in
    let out = damaged_fault c.number-f.result c.in-Err.fault f at (sym c.fault_in.ensures ∙ same) in
    inl (
      sym out.1 ∙ c.number-f.ensures.value,
      subst (λ (n : ℕ). IsDamagedJournal (AreCommitPayloads c.args.settings.now.buckets) (files n) at) out.1
          (damaged_commits c.args.settings.now.buckets c.in_ok-history.history c.visit.new.visitor (files c.number-f.result) at c.in_ok-history.ensures.buckets c.in_ok-history.ensures.last
          (omega (arith, c.in_ok-history.ensures.count)) (c.in-Err.ensures.damaged at (search rules) files tells).why),
    ))

pub returns-in_err-open_fronts-clause-refused : goal.returns-in_err-open_fronts-clause-refused
returns-in_err-open_fronts-clause-refused g c = refused_by _ _ _ _ (search rules)
    (λ f at e files tells.
    let out = err_from_is_err_and c.from_residual-in_err-open_fronts.result c.from_residual-in_err-open_fronts.ensures.1 in
    let is = rw (out.1, out.2) at e in
    let found = (c.in-Ok.ensures.visited files tells).found in
    let read = (c.in-Ok.ensures.visited files tells).records found.0 found.1 in
    let told = manifest_of c.args.base c.args.settings.now.buckets c.number-f.result files c.in_ok-history.history.last c.in_ok-history.history.count found.0 c.visit.new.visitor
    c.number-f.ensures.value c.in_ok-history.ensures.last c.in_ok-history.ensures.count found.1
    (took_commits c.args.settings.now.buckets 0 c.in_ok-history.history c.visit.new.visitor found.0 c.in_ok-history.ensures.buckets (omega (arith, c.in_ok-history.ensures.count)) read.1) in
    let changed = rw tells at c.in-Ok.ensures.changes.told in
    let step = subst (λ (n : ℕ). ChangesFile n IsOpened files changed.0) c.number-f.ensures.value changed.2 in
    let named = c.in_err-open_fronts.ensures.refused.damaged f at (search rules) changed.0 changed.1 in
    inr (told.commits, told.has, inl (front_back_as c.args.base _ _ files changed.0 f at told.last_is step named)))

pub returns-in_err-buckets-clause-refused : goal.returns-in_err-buckets-clause-refused
returns-in_err-buckets-clause-refused g c = refused_by _ _ _ _ (search rules)
    (λ f at e files tells.
    let out = err_from_is_err_and c.from_residual-in_err-buckets.result c.from_residual-in_err-buckets.ensures.1 in
    let is = rw (out.1, out.2) at e in
    let found = (c.in-Ok.ensures.visited files tells).found in
    let read = (c.in-Ok.ensures.visited files tells).records found.0 found.1 in
    let told = manifest_of c.args.base c.args.settings.now.buckets c.number-f.result files c.in_ok-history.history.last c.in_ok-history.history.count found.0 c.visit.new.visitor
    c.number-f.ensures.value c.in_ok-history.ensures.last c.in_ok-history.ensures.count found.1
    (took_commits c.args.settings.now.buckets 0 c.in_ok-history.history c.visit.new.visitor found.0 c.in_ok-history.ensures.buckets (omega (arith, c.in_ok-history.ensures.count)) read.1) in
    let changed = rw tells at c.in-Ok.ensures.changes.told in
    let step = subst (λ (n : ℕ). ChangesFile n IsOpened files changed.0) c.number-f.ensures.value changed.2 in
    let named = c.in_err-buckets.ensures.refused.damaged f at (search rules) changed.0 (c.in_ok-open_fronts.ensures.reads.same ∙ changed.1) in
    let fronts = fronts_back c.args.base _ files changed.0 step (c.in_ok-open_fronts.ensures.opened.has changed.0 changed.1) in
    inr (
      told.commits,
      told.has,
      subst (λ (x : Commit). IsDamagedBehind c.args.base c.args.settings.now files told.commits x f at) told.last_is
          (inr (
            fronts,
            inl (
              named.0,
              named.1,
              (λ b below. whole_back c.args.base _ c.args.settings.now b files changed.0 step (named.2 b below)),
              bucket_back c.args.base _ c.args.settings.now named.0 files changed.0 f at step named.3,
            ),
          )),
    ))

-- ---- the cuts
pub check_cuts-requires-clause-count : goal.check_cuts-requires-clause-count
check_cuts-requires-clause-count g c =
    let took = took_commits c.args.settings.now.buckets 0 c.in_ok-history.history c.visit.new.visitor c.in-Ok.ensures.took.payloads c.in_ok-history.ensures.buckets
    (omega (arith, c.in_ok-history.ensures.count)) c.in-Ok.ensures.took.took in
    let many : c.in_ok-lengths.lengths.items ≡ map (λ (bucket : Bucket). bucket.durable) c.in_ok-buckets.buckets.items = c.in_ok-lengths.ensures
    ∙ ap (map (λ (bucket : Bucket). bucket.durable)) c.deref.ensures.value in
    omega (arith, ap (λ (l : List ℕ). length l) many, length-map c.in_ok-buckets.buckets.items (λ (bucket : Bucket). bucket.durable), c.in_ok-buckets.ensures.count, took.buckets_are)

-- the manifest's records stand in what is told after the buckets were opened
pub check_cuts-requires-clause-last : goal.check_cuts-requires-clause-last
check_cuts-requires-clause-last g c = λ now tells_now.
    let took = took_commits c.args.settings.now.buckets 0 c.in_ok-history.history c.visit.new.visitor c.in-Ok.ensures.took.payloads c.in_ok-history.ensures.buckets
    (omega (arith, c.in_ok-history.ensures.count)) c.in-Ok.ensures.took.took in
    let tell = g.S.Store.told in
    let law = g.met.S.Store.is_consistent in
    let mid = tells_from (OpensBelow c.args.base _ c.args.settings.now.buckets) _ _ now c.in_ok-buckets.ensures.changes.told tells_now in
    let mid_told = sym c.in_ok-open_fronts.ensures.reads.same ∙ mid.1 in
    let old = told_from c.number-f.result IsOpened _ _ mid.0 c.in-Ok.ensures.changes.told mid_told in
    let files = old.0 in
    let tells = old.1 in
    let found = (c.in-Ok.ensures.visited files tells).found in
    let read = (c.in-Ok.ensures.visited files tells).records found.0 found.1 in
    let told = manifest_of c.args.base c.args.settings.now.buckets c.number-f.result files c.in_ok-history.history.last c.in_ok-history.history.count found.0 c.visit.new.visitor
    c.number-f.ensures.value c.in_ok-history.ensures.last c.in_ok-history.ensures.count found.1
    (took_commits c.args.settings.now.buckets 0 c.in_ok-history.history c.visit.new.visitor found.0 c.in_ok-history.ensures.buckets (omega (arith, c.in_ok-history.ensures.count)) read.1) in
    let ends = read.2 mid.0 ((law c.visit.new.store).told mid.0 mid_told) in
    let stays = below_same c.args.base _ c.args.settings.now.buckets c.in-Ok.manifest.file mid.0 now mid.2 (omega (arith, c.in-Ok.ensures.journal.0, c.number-f.ensures.value)) in (
      told.commits,
      subst (λ (file : List ℕ). Ends c.in-Ok.manifest.end file (map commit_bytes told.commits)) (sym stays)
          (subst (λ (ps : List (List ℕ)). Ends c.in-Ok.manifest.end (mid.0 c.in-Ok.manifest.file) ps) told.payloads_are ends),
      subst (λ (k : ℕ). RiseFrom k (first_commit k) told.commits) (sym took.buckets_are) told.has.rise,
      told.last_is ∙ ap (λ (k : ℕ). last_commit (first_commit k) told.commits) (sym took.buckets_are),
    )

pub returns-in_err-check_cuts-clause-refused : goal.returns-in_err-check_cuts-clause-refused
returns-in_err-check_cuts-clause-refused g c = refused_by _ _ _ _ (search rules)
    (λ f at e files tells.
    let out = err_from_is_err_and c.from_residual-in_err-check_cuts.result c.from_residual-in_err-check_cuts.ensures.1 in
    let is = rw (out.1, out.2) at e in
    let took = took_commits c.args.settings.now.buckets 0 c.in_ok-history.history c.visit.new.visitor c.in-Ok.ensures.took.payloads c.in_ok-history.ensures.buckets
    (omega (arith, c.in_ok-history.ensures.count)) c.in-Ok.ensures.took.took in
    let tell = g.S.Store.told in
    let law = g.met.S.Store.is_consistent in
    let found = (c.in-Ok.ensures.visited files tells).found in
    let read = (c.in-Ok.ensures.visited files tells).records found.0 found.1 in
    let told = manifest_of c.args.base c.args.settings.now.buckets c.number-f.result files c.in_ok-history.history.last c.in_ok-history.history.count found.0 c.visit.new.visitor
    c.number-f.ensures.value c.in_ok-history.ensures.last c.in_ok-history.ensures.count found.1
    (took_commits c.args.settings.now.buckets 0 c.in_ok-history.history c.visit.new.visitor found.0 c.in_ok-history.ensures.buckets (omega (arith, c.in_ok-history.ensures.count)) read.1) in
    let changed = rw tells at c.in-Ok.ensures.changes.told in
    let step = subst (λ (n : ℕ). ChangesFile n IsOpened files changed.0) c.number-f.ensures.value changed.2 in
    let many : c.in_ok-lengths.lengths.items ≡ map (λ (bucket : Bucket). bucket.durable) c.in_ok-buckets.buckets.items = c.in_ok-lengths.ensures
    ∙ ap (map (λ (bucket : Bucket). bucket.durable)) c.deref.ensures.value in
    let fronts = subst (λ (x : Commit). HasFronts c.args.base x files) told.last_is (fronts_back c.args.base _ files changed.0 step (c.in_ok-open_fronts.ensures.opened.has changed.0 changed.1)) in
    let now = rw (c.in_ok-open_fronts.ensures.reads.same ∙ changed.1) at c.in_ok-buckets.ensures.changes.told in
    let ends = read.2 changed.0 ((law c.visit.new.store).told changed.0 changed.1) in
    let stays = below_same c.args.base _ c.args.settings.now.buckets c.in-Ok.manifest.file changed.0 now.0 now.2 (omega (arith, c.in-Ok.ensures.journal.0, c.number-f.ensures.value)) in
    let named = c.in_err-check_cuts.ensures.damaged f at (search rules) in
    let first = named.1 now.0 now.1 told.commits (subst (λ (file : List ℕ). Ends c.in-Ok.manifest.end file (map commit_bytes told.commits)) (sym stays)
    (subst (λ (ps : List (List ℕ)). Ends c.in-Ok.manifest.end (changed.0 c.in-Ok.manifest.file) ps) told.payloads_are ends))
    (subst (λ (k : ℕ). RiseFrom k (first_commit k) told.commits) (sym took.buckets_are) told.has.rise) in
    let are = whole_of c.args.base c.args.settings.now files changed.0 _ (last_commit (first_commit c.args.settings.now.buckets) told.commits) c.in_ok-buckets.buckets.items told.last_is step
    c.in_ok-buckets.ensures.count (λ b below. (c.in_ok-buckets.ensures.opened b below).opened) (λ b below.
    (c.in_ok-buckets.ensures.opened b below).found changed.0 (c.in_ok-open_fronts.ensures.reads.same ∙ changed.1)) in
    inr (
      told.commits,
      told.has,
      inr (
        fronts,
        inr (
          (λ b within. let one = are.whole b within in (one.runs, one.has, one.texts)),
          named.0 ∙ c.number-f.ensures.value,
          cut_above c.args.base c.args.settings.now files c.in_ok-buckets.buckets.items no_bucket told.commits at are told.each (first_end _ _ _ _ told.commits at many told.last_is first),
        ),
      ),
    ))

-- ---- the open bay
pub invariant_of-result : goal.invariant_of-result
invariant_of-result g c =
    let took = took_commits c.args.settings.now.buckets 0 c.in_ok-history.history c.visit.new.visitor c.in-Ok.ensures.took.payloads c.in_ok-history.ensures.buckets
    (omega (arith, c.in_ok-history.ensures.count)) c.in-Ok.ensures.took.took in
    let is = took_is c.args.settings.now.buckets c.in_ok-history.history.last c.in_ok-history.history.count c.in-Ok.ensures.took.payloads c.visit.new.visitor c.in_ok-history.ensures.last took in
    let many : c.in_ok-lengths.lengths.items ≡ map (λ (bucket : Bucket). bucket.durable) c.in_ok-buckets.buckets.items = c.in_ok-lengths.ensures
    ∙ ap (map (λ (bucket : Bucket). bucket.durable)) c.deref.ensures.value in
    drum_is c.args.base c.args.settings.now c.in-Ok.manifest _ _ c.in_ok-buckets.buckets.items c.requires.base c.requires.settings is c.in_ok-open_fronts.ensures.opened.judged
    c.in_ok-open_fronts.ensures.opened.entries
    (c.in-Ok.ensures.journal.0 ∙ c.number-f.ensures.value) c.in-Ok.ensures.journal.1 (omega (arith, c.min-cuts.ensures, c.end.ensures)) c.in_ok-buckets.ensures.count (λ b below.
    (c.in_ok-buckets.ensures.opened b below).opened)
    (subst (λ (y : List ℕ). IsBelow c.visit.new.visitor.last.cut y) many c.in_ok-check_cuts.ensures.within.lists)

pub returns-clause-adopts : goal.returns-clause-adopts
returns-clause-adopts g c = record {
  base = refl;
  settings = refl;
  sound = refl;
  drum =
      let took = took_commits c.args.settings.now.buckets 0 c.in_ok-history.history c.visit.new.visitor c.in-Ok.ensures.took.payloads c.in_ok-history.ensures.buckets
      (omega (arith, c.in_ok-history.ensures.count)) c.in-Ok.ensures.took.took in
      let is = took_is c.args.settings.now.buckets c.in_ok-history.history.last c.in_ok-history.history.count c.in-Ok.ensures.took.payloads c.visit.new.visitor c.in_ok-history.ensures.last took in
      let many : c.in_ok-lengths.lengths.items ≡ map (λ (bucket : Bucket). bucket.durable) c.in_ok-buckets.buckets.items = c.in_ok-lengths.ensures
      ∙ ap (map (λ (bucket : Bucket). bucket.durable)) c.deref.ensures.value in
      drum_is c.args.base c.args.settings.now c.in-Ok.manifest _ _ c.in_ok-buckets.buckets.items c.requires.base c.requires.settings is c.in_ok-open_fronts.ensures.opened.judged
      c.in_ok-open_fronts.ensures.opened.entries
      (c.in-Ok.ensures.journal.0 ∙ c.number-f.ensures.value) c.in-Ok.ensures.journal.1 (omega (arith, c.min-cuts.ensures, c.end.ensures)) c.in_ok-buckets.ensures.count (λ b below.
      (c.in_ok-buckets.ensures.opened b below).opened)
      (subst (λ (y : List ℕ). IsBelow c.visit.new.visitor.last.cut y) many c.in_ok-check_cuts.ensures.within.lists);
  holds = λ files tells book stands.
      let tell = g.S.Store.told in
      let law = g.met.S.Store.is_consistent in
      let payloads = map commit_bytes stands.commits in
      let here = subst (λ (n : ℕ). StandsFor (files n) payloads) (sym c.number-f.ensures.value) stands.manifest in
      let read = (c.in-Ok.ensures.visited files tells).records payloads here in
      let told = manifest_of c.args.base c.args.settings.now.buckets c.number-f.result files c.in_ok-history.history.last c.in_ok-history.history.count payloads c.visit.new.visitor
      c.number-f.ensures.value c.in_ok-history.ensures.last c.in_ok-history.ensures.count here
      (took_commits c.args.settings.now.buckets 0 c.in_ok-history.history c.visit.new.visitor payloads c.in_ok-history.ensures.buckets (omega (arith, c.in_ok-history.ensures.count)) read.1) in
      let form = subst (λ (k : ℕ). AllByRecursion (IsCommit k) stands.commits) stands.book_is.buckets stands.commits_are.form in
      let same : stands.commits ≡ told.commits = same_commits c.args.settings.now.buckets stands.commits told.commits form told.each told.payloads_are in
      let changed = rw tells at c.in-Ok.ensures.changes.told in
      let step = subst (λ (n : ℕ). ChangesFile n IsOpened files changed.0) c.number-f.ensures.value changed.2 in
      let mid_told = c.in_ok-open_fronts.ensures.reads.same ∙ changed.1 in
      let last = told.last_is ∙ ap (λ (l : List Commit). last_commit (first_commit c.args.settings.now.buckets) l) (sym same) in
      let few : length told.commits ≤ c.in-Ok.manifest.end = omega (arith, read.0, few_commits told.commits, ap (λ (ps : List (List ℕ)). length (records_text ps)) told.payloads_are) in
      let synced = left_now _ _ _ (law c.open_fronts.new.store) c.in_ok-open_fronts.ensures.reads.stops in
      let kept = left_now _ _ _ (law c.open_buckets.new.store) c.in_ok-buckets.ensures.changes.stops in
      subst (λ (s : Told). Holds s.images (opened_drum c.args.base c.args.settings.now c.in-Ok.manifest c.visit.new.visitor.last c.min-cuts.result c.in_ok-buckets.buckets.items) book)
      (sym (ap tell c.in_ok-check_cuts.ensures.idle))
      (holds_is c.args.base c.args.settings.now c.in-Ok.manifest _ _ c.in_ok-buckets.buckets.items (tell c.open_fronts.new.store).images (tell c.open_buckets.new.store).images files changed.0 book
      stands step kept
      (c.in-Ok.ensures.journal.0 ∙ c.number-f.ensures.value) (λ image left. read.2 image (synced image left)) last
      (omega (arith, told.counted, few, c.end.ensures, c.end.type_inv, c.min-cuts.ensures, ap (λ (l : List Commit). length l) same))
      c.in_ok-open_fronts.ensures.opened.judged (c.in_ok-open_fronts.ensures.opened.committed changed.0 changed.1) c.in_ok-buckets.ensures.count (λ b below.
      (c.in_ok-buckets.ensures.opened b below).opened)
      (λ b list below. (c.in_ok-buckets.ensures.opened b below).holds changed.0 mid_told list));
  long = λ now tells_after.
      let tell = g.S.Store.told in
      let law = g.met.S.Store.is_consistent in
      let tells_now = sym c.in_ok-check_cuts.ensures.reads.same ∙ tells_after in
      let mid = tells_from (OpensBelow c.args.base _ c.args.settings.now.buckets) _ _ now c.in_ok-buckets.ensures.changes.told tells_now in
      let mid_told = sym c.in_ok-open_fronts.ensures.reads.same ∙ mid.1 in
      let old = told_from c.number-f.result IsOpened _ _ mid.0 c.in-Ok.ensures.changes.told mid_told in
      let files = old.0 in
      let tells = old.1 in
      let found = (c.in-Ok.ensures.visited files tells).found in
      let read = (c.in-Ok.ensures.visited files tells).records found.0 found.1 in
      let took = took_commits c.args.settings.now.buckets 0 c.in_ok-history.history c.visit.new.visitor c.in-Ok.ensures.took.payloads c.in_ok-history.ensures.buckets
      (omega (arith, c.in_ok-history.ensures.count)) c.in-Ok.ensures.took.took in
      let is = took_is c.args.settings.now.buckets c.in_ok-history.history.last c.in_ok-history.history.count c.in-Ok.ensures.took.payloads c.visit.new.visitor c.in_ok-history.ensures.last took in
      let ends = read.2 mid.0 ((law c.visit.new.store).told mid.0 mid_told) in
      let stays = below_same c.args.base _ c.args.settings.now.buckets c.in-Ok.manifest.file mid.0 now mid.2 (omega (arith, c.in-Ok.ensures.journal.0, c.number-f.ensures.value)) in
      long_is c.args.base c.args.settings.now c.in-Ok.manifest _ _ c.in_ok-buckets.buckets.items mid.0 now (omega (arith, is.side)) (c.in_ok-open_fronts.ensures.opened.has mid.0 mid_told) mid.2
      (omega (arith, ends_within c.in-Ok.manifest.end (mid.0 c.in-Ok.manifest.file) found.0 ends, ap length stays)) (λ b below. (c.in_ok-buckets.ensures.opened b below).long now tells_now);
  -- no damage is passed over
  sane = λ files tells f at.
      let found = (c.in-Ok.ensures.visited files tells).found in
      let read = (c.in-Ok.ensures.visited files tells).records found.0 found.1 in
      let told = manifest_of c.args.base c.args.settings.now.buckets c.number-f.result files c.in_ok-history.history.last c.in_ok-history.history.count found.0 c.visit.new.visitor
      c.number-f.ensures.value c.in_ok-history.ensures.last c.in_ok-history.ensures.count found.1
      (took_commits c.args.settings.now.buckets 0 c.in_ok-history.history c.visit.new.visitor found.0 c.in_ok-history.ensures.buckets (omega (arith, c.in_ok-history.ensures.count)) read.1) in
      let changed = rw tells at c.in-Ok.ensures.changes.told in
      let step = subst (λ (n : ℕ). ChangesFile n IsOpened files changed.0) c.number-f.ensures.value changed.2 in
      let many : c.in_ok-lengths.lengths.items ≡ map (λ (bucket : Bucket). bucket.durable) c.in_ok-buckets.buckets.items = c.in_ok-lengths.ensures
      ∙ ap (map (λ (bucket : Bucket). bucket.durable)) c.deref.ensures.value in
      let end : Commit = last_commit (first_commit c.args.settings.now.buckets) told.commits in
      let are = whole_of c.args.base c.args.settings.now files changed.0 _ end c.in_ok-buckets.buckets.items told.last_is step c.in_ok-buckets.ensures.count (λ b below.
      (c.in_ok-buckets.ensures.opened b below).opened)
      (λ b below. (c.in_ok-buckets.ensures.opened b below).found changed.0 (c.in_ok-open_fronts.ensures.reads.same ∙ changed.1)) in
      undamaged c.args.base c.args.settings.now files told.commits end f at
      (record {
        manifest = told.has;
        last_is = refl;
        fronts = subst (λ (x : Commit). HasFronts c.args.base x files) told.last_is (fronts_back c.args.base _ files changed.0 step (c.in_ok-open_fronts.ensures.opened.has changed.0 changed.1));
        buckets = λ b within. let one = are.whole b within in (one.runs, one.has, one.texts);
        reached = within_reached c.args.base c.args.settings.now files end c.in_ok-buckets.buckets.items no_bucket end are (within_end _ _ _ _ many told.last_is c.in_ok-check_cuts.ensures.within);
      });
}
