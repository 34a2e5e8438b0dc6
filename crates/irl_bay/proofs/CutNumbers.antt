-- The commits of a manifest that is read again.
use Rattle.std.proofs.Common.{◌≡◌, ◌≢◌, ◌∙◌, ◌⊎◌, inl, inr, ℕ, zero, suc, ◌+◌, ◌≤◌, List, [], ◌∷◌, ◌++◌, length, length-take-le, map, take, drop, get_or, Bool, true, false, refl, sym, ap, subst, arith, append_assoc, append-nil, take-append-drop}
use Rattle.std.proofs.lemmas.List.{length-map}
use Rattle.std.specs.List.{AllByRecursion}
use Rattle.irl_model.specs.Book.{Book}
use Rattle.irl_disk.specs.Disk.{Files}
use Rattle.irl_journal.specs.Format.{records_text, record_text, body_text, open_gate, placed_from}
use Rattle.irl_journal.specs.Visiting.{TakesAll, StopsAt, RefusesAt, RefusesOneFrom}
use Rattle.irl_layout.specs.Commits.{Commit, IsCommit, commit_bytes, first_commit}
use Rattle.irl_bay.specs.Cuts.{AreJudgedAt, IsSpoiltManifest}
use Rattle.irl_bay.specs.Drum.{Drum}
use Rattle.irl_bay.specs.Holding.{Holds}
use Rattle.irl_bay.specs.Pending.{IsCutShort, IsClosed}
use Rattle.irl_bay.specs.declared.cuts.CutsVisitor.{CutsVisitor}
use Rattle.irl_bay.proofs.AdoptedBook.{same_commits}
use Rattle.irl_bay.proofs.Reached.{splits, all-apart}

-- what the visitor takes, and what it refuses
abbrev pub TakesCut : CutsVisitor → ℕ → List ℕ → CutsVisitor → Type 0
TakesCut old at payload new = (commit : Commit) × IsCommit old.buckets commit × (payload ≡ commit_bytes commit) × (new.judged.items ≡ old.judged.items ++ commit.judged ∷ [])
    × (new.buckets ≡ old.buckets)

abbrev pub RefusesCut : CutsVisitor → ℕ → List ℕ → CutsVisitor → Type 0
RefusesCut old at payload new = (commit : Commit) → IsCommit old.buckets commit → payload ≡ commit_bytes commit → ⊥

abbrev judged_at : Commit → ℕ
judged_at commit = commit.judged

-- ---- the commits that were taken
record TookCuts (buckets : ℕ) (old new : CutsVisitor) (payloads : List (List ℕ)) : Type 0 where
  commits : List Commit
  each : AllByRecursion (IsCommit buckets) commits
  payloads_are : payloads ≡ map commit_bytes commits
  numbers : new.judged.items ≡ old.judged.items ++ map judged_at commits
  buckets_are : new.buckets ≡ buckets

took_cuts : (buckets at : ℕ) (old new : CutsVisitor) (payloads : List (List ℕ)) → old.buckets ≡ buckets → TakesAll TakesCut old (placed_from at payloads) new → TookCuts buckets old new payloads
took_cuts buckets at old new [] same took = record {
  commits = [];
  each = tt;
  payloads_are = refl;
  numbers = ap (λ (v : CutsVisitor). v.judged.items) took ∙ sym (append-nil old.judged.items);
  buckets_are = ap (λ (v : CutsVisitor). v.buckets) took ∙ same;
}
took_cuts buckets at old new (payload ∷ payloads) same took =
    let mid = took.0 in
    let step = took.1 in
    let commit = step.0 in
    let rest = took_cuts buckets (at + length (record_text payload)) mid new payloads (step.4 ∙ same) took.2 in
    record {
      commits = commit ∷ rest.commits;
      each = (subst (λ (n : ℕ). IsCommit n commit) same step.1, rest.each);
      payloads_are = ap (λ (p : List ℕ). p ∷ payloads) step.2 ∙ ap (λ (l : List (List ℕ)). commit_bytes commit ∷ l) rest.payloads_are;
      numbers = rest.numbers ∙ ap (λ (l : List ℕ). l ++ map judged_at rest.commits) step.3 ∙ append_assoc old.judged.items (commit.judged ∷ []) (map judged_at rest.commits);
      buckets_are = rest.buckets_are;
    }

-- ---- where the bay holds a book
number_at : (commits : List Commit) (i : ℕ) (first : Commit) → first.judged ≡ 0 → get_or (map judged_at commits) i 0 ≡ (get_or commits i first).judged
number_at [] i first none = sym none
number_at (commit ∷ commits) zero first none = refl
number_at (commit ∷ commits) (suc i) first none = number_at commits i first none

module _ (images : Files → Type 0) (drum : Drum) (book : Book) (holds : Holds images drum book) (old new : CutsVisitor) (same : old.buckets ≡ drum.settings.buckets) where
  form : AllByRecursion (IsCommit drum.settings.buckets) holds.commits
  form = subst (λ (n : ℕ). AllByRecursion (IsCommit n) holds.commits) holds.book_is.buckets holds.commits_are.form

  -- the numbers are those of its cuts
  pub cuts_found : old.judged.items ≡ [] → TakesAll TakesCut old (placed_from 0 (map commit_bytes holds.commits)) new → AreJudgedAt book new.judged.items
  cuts_found none took =
      let so = took_cuts drum.settings.buckets 0 old new (map commit_bytes holds.commits) same took in
      let are : so.commits ≡ holds.commits = same_commits drum.settings.buckets so.commits holds.commits so.each form (sym so.payloads_are) in
      let numbers : new.judged.items ≡ map judged_at holds.commits = so.numbers ∙ ap (λ (l : List ℕ). l ++ map judged_at so.commits) none ∙ ap (map judged_at) are in
      let count : length (map judged_at holds.commits) ≡ length holds.commits = length-map holds.commits judged_at in
      record {
        count = ap length numbers ∙ count ∙ holds.commits_are.count;
        each = λ i within. ap (λ (l : List ℕ). get_or l i 0) numbers ∙ number_at holds.commits i (first_commit book.buckets) refl
            ∙ (holds.commits_are.each i (omega (arith, within, holds.commits_are.count))).judged;
      }

  -- and none of its records is refused
  pub none_refused : (at : ℕ) → RefusesOneFrom TakesCut RefusesCut old new 0 (map commit_bytes holds.commits) at → ⊥
  none_refused at refuses =
      let so = splits holds.commits refuses.first refuses.payload refuses.more refuses.among in
      let took = took_cuts drum.settings.buckets 0 old refuses.reached refuses.first same refuses.took in
      let each = all-apart (IsCommit drum.settings.buckets) so.before (so.commit ∷ so.more) (subst (AllByRecursion (IsCommit drum.settings.buckets)) so.among form) in
      refuses.refused so.commit (subst (λ (n : ℕ). IsCommit n so.commit) (sym took.buckets_are) each.1.0) so.payload_is

-- ---- what breaks the layout
split_at : (n : ℕ) (bytes front : List ℕ) → n ≤ length bytes → take n bytes ≡ front → (bytes ≡ front ++ drop n bytes) × (n ≡ length front)
split_at n bytes front within is = (sym (take-append-drop n bytes) ∙ ap (λ l. l ++ drop n bytes) is, sym (length-take-le n bytes within) ∙ ap length is)

stopped : (drum : Drum) (files : Files) (old new : CutsVisitor) (at : ℕ) (closed : Bool) → old.buckets ≡ drum.settings.buckets
    → (stops : StopsAt TakesCut old new 0 closed (files drum.manifest.file) at)
    → (IsCutShort (drop stops.count (files drum.manifest.file)) ⊎ (IsClosed (drop stops.count (files drum.manifest.file)) × (at ≢ drum.manifest.end))) → IsSpoiltManifest drum files at
stopped drum files old new at closed same stops why =
    let handed = stops.handed in
    let took = took_cuts drum.settings.buckets 0 old new handed.payloads same handed.took in
    let parts = split_at stops.count (files drum.manifest.file) (records_text handed.payloads) handed.within handed.front in
    let texts = ap records_text took.payloads_are in
    record {
      commits = took.commits;
      behind = drop stops.count (files drum.manifest.file);
      form = took.each;
      bytes = parts.0 ∙ ap (λ (l : List ℕ). l ++ drop stops.count (files drum.manifest.file)) texts;
      place = omega (arith, stops.place, parts.1, ap length texts);
      why = either why;
    }
  where
    either : {P Q R : Type 0} → P ⊎ R → P ⊎ Q ⊎ R
    either (inl p) = inl p
    either (inr r) = inr (inr r)

pub spoilt_there : (drum : Drum) (files : Files) (old new : CutsVisitor) (at : ℕ) → old.buckets ≡ drum.settings.buckets → StopsAt TakesCut old new 0 false (files drum.manifest.file) at
    ⊎ (StopsAt TakesCut old new 0 true (files drum.manifest.file) at × (at ≢ drum.manifest.end))
    ⊎ RefusesAt TakesCut RefusesCut old new 0 (files drum.manifest.file) at → IsSpoiltManifest drum files at
spoilt_there drum files old new at same (inl stops) = stopped drum files old new at false same stops (inl (stops.handed.cut_short refl))
spoilt_there drum files old new at same (inr (inl both)) = stopped drum files old new at true same both.0 (inr (both.0.handed.ended refl, both.1))
spoilt_there drum files old new at same (inr (inr refuses)) =
    let took = took_cuts drum.settings.buckets 0 old refuses.reached refuses.payloads same refuses.took in
    let texts = ap records_text took.payloads_are in
    let behind : List ℕ = (open_gate ∷ body_text refuses.payload) ++ refuses.behind in
    record {
      commits = took.commits;
      behind = behind;
      form = took.each;
      bytes = refuses.bytes_are ∙ append_assoc (records_text refuses.payloads) (open_gate ∷ body_text refuses.payload) refuses.behind ∙ ap (λ (l : List ℕ). l ++ behind) texts;
      place = omega (arith, refuses.place_is, ap length texts);
      why = inr (inl (record {
        payload = refuses.payload;
        rest = refuses.behind;
        bytes_are = refl;
        none = subst (λ (n : ℕ). (commit : Commit) → IsCommit n commit → refuses.payload ≡ commit_bytes commit → ⊥) took.buckets_are refuses.refused;
      }));
    }
