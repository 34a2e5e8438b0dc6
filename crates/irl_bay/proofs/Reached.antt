-- The commits of a manifest: what a visitor took of them, and the first whose cut is above the lists.
use Rattle.std.proofs.Common.{◌≡◌, ◌∙◌, ℕ, suc, zero, ◌+◌, ◌-◌, ◌^◌, ◌<◌, ◌≤◌, min, List, [], ◌∷◌, ◌++◌, length, map, refl, sym, ap, subst, arith, append_assoc, ◌⊎◌, inl, inr}
use Rattle.std.specs.Prelude.{replicate, sum}
use Rattle.std.proofs.lemmas.List.Folds.{sum_by-replicate}
use Rattle.std.specs.List.{AllByRecursion}
use Rattle.irl_model.specs.Book.{IsBelow}
use Rattle.irl_journal.specs.Format.{records_text, record_text, body_text, open_gate, placed_from}
use Rattle.irl_journal.specs.Visiting.{TakesAll, IsBrokenFor, IsRefusedAt}
use Rattle.irl_journal.proofs.Reading.{length-cons}
use Rattle.irl_layout.specs.Commits.{Commit, IsCommit, commit_bytes, first_commit, last_commit}
use Rattle.irl_bay.specs.Damage.{IsAtOrAbove, RiseFrom, AreCommitPayloads, IsDamagedJournal}
use Rattle.irl_bay.specs.Opening.{IsFirstAbove, IsWithin}
use Rattle.irl_bay.specs.declared.history.HistoryVisitor.{HistoryVisitor}
use Rattle.irl_bay.specs.declared.history.ReachingVisitor.{ReachingVisitor}
use Rattle.irl_layout.proofs.CommitBytes.{one_commit}

-- ---- against the lists
abbrev pub TakesBelow : ReachingVisitor → ℕ → List ℕ → ReachingVisitor → Type 0
TakesBelow old at payload new = (commit : Commit) × IsCommit old.buckets commit × (payload ≡ commit_bytes commit) × IsWithin old.lengths.items old.most commit.cut × (new ≡ old)

-- commits that were taken are within the bounds
pub took_below : (buckets at : ℕ) (old new : ReachingVisitor) (commits : List Commit) → old.buckets ≡ buckets → AllByRecursion (IsCommit buckets) commits
    → TakesAll TakesBelow old (placed_from at (map commit_bytes commits)) new
    → AllByRecursion (λ (commit : Commit). IsWithin old.lengths.items old.most commit.cut) commits × (new ≡ old)
took_below buckets at old new [] same each took = (tt, took)
took_below buckets at old new (commit ∷ commits) same each took =
    let step = took.1 in
    let is : commit ≡ step.0 = one_commit buckets (commit_bytes commit) commit step.0 each.0 (subst (λ (k : ℕ). IsCommit k step.0) same step.1) refl step.2 in
    let rest = took_below buckets (at + length (record_text (commit_bytes commit))) old new commits same each.1
    (subst (λ (v : ReachingVisitor). TakesAll TakesBelow v (placed_from (at + length (record_text (commit_bytes commit))) (map commit_bytes commits)) new) step.4 took.2) in
    ((subst (λ (x : Commit). IsWithin old.lengths.items old.most x.cut) (sym is) step.3, rest.0), rest.1)

pub rise_each : (buckets : ℕ) (old : Commit) (commits : List Commit) → RiseFrom buckets old commits → AllByRecursion (IsCommit buckets) commits
rise_each buckets old [] rise = tt
rise_each buckets old (commit ∷ commits) rise = (rise.0, rise_each buckets commit commits rise.2)

cons-cons : (x y : List ℕ) (xs ys : List (List ℕ)) → x ≡ y → xs ≡ ys → x ∷ xs ≡ y ∷ ys
cons-cons x y xs ys p q = cc

-- commits whose payloads these are, one among them
pub record Splits (commits : List Commit) (first : List (List ℕ)) (payload : List ℕ) : Type 0 where
  pub before : List Commit
  pub commit : Commit
  pub more : List Commit
  pub among : commits ≡ before ++ commit ∷ more
  pub first_are : first ≡ map commit_bytes before
  pub payload_is : payload ≡ commit_bytes commit

pub splits : (commits : List Commit) (first : List (List ℕ)) (payload : List ℕ) (rest : List (List ℕ)) → map commit_bytes commits ≡ first ++ payload ∷ rest → Splits commits first payload
splits [] [] payload rest is = cc
splits [] (p ∷ first) payload rest is = cc
splits (commit ∷ commits) [] payload rest is = record { before = []; commit = commit; more = commits; among = refl; first_are = refl; payload_is = cc }
splits (commit ∷ commits) (p ∷ first) payload rest is =
    let behind : map commit_bytes commits ≡ first ++ payload ∷ rest = cc in
    let one : p ≡ commit_bytes commit = cc in
    let so = splits commits first payload rest behind in
    record {
      before = commit ∷ so.before;
      commit = so.commit;
      more = so.more;
      among = ap (λ (l : List Commit). commit ∷ l) so.among;
      first_are = cons-cons p (commit_bytes commit) first (map commit_bytes so.before) one so.first_are;
      payload_is = so.payload_is;
    }

pub all-apart : (P : Commit → Type 0) (xs ys : List Commit) → AllByRecursion P (xs ++ ys) → AllByRecursion P xs × AllByRecursion P ys
all-apart P [] ys each = (tt, each)
all-apart P (x ∷ xs) ys each = let rest = all-apart P xs ys each.1 in ((each.0, rest.0), rest.1)

-- a commit that was refused is the first that isn't
pub first_refused : (buckets at : ℕ) (old reached : ReachingVisitor) (commits : List Commit) (first : List (List ℕ)) (payload : List ℕ) (rest : List (List ℕ)) → old.buckets ≡ buckets
    → RiseFrom buckets (first_commit buckets) commits
    → map commit_bytes commits ≡ first ++ payload ∷ rest → at ≡ 0 + length (records_text first) → TakesAll TakesBelow old (placed_from 0 first) reached
    → ((commit : Commit) → IsCommit reached.buckets commit → payload ≡ commit_bytes commit → IsWithin reached.lengths.items reached.most commit.cut → ⊥)
    → IsFirstAbove old.lengths.items old.most commits at
first_refused buckets at old reached commits first payload rest same rise is place took refused =
    let so = splits commits first payload rest is in
    let each = all-apart (IsCommit buckets) so.before (so.commit ∷ so.more) (subst (AllByRecursion (IsCommit buckets)) so.among (rise_each buckets (first_commit buckets) commits rise)) in
    let below = took_below buckets 0 old reached so.before same each.0 (subst (λ (ps : List (List ℕ)). TakesAll TakesBelow old (placed_from 0 ps) reached) so.first_are took) in
    record {
      before = so.before;
      commit = so.commit;
      more = so.more;
      among = so.among;
      place = omega (arith, place, ap (λ (ps : List (List ℕ)). length (records_text ps)) so.first_are);
      within = below.0;
      above = λ here. refused so.commit (subst (λ (v : ReachingVisitor). IsCommit v.buckets so.commit) (sym below.1) (subst (λ (k : ℕ). IsCommit k so.commit) (sym same) each.1.0)) so.payload_is
          (subst (λ (v : ReachingVisitor). IsWithin v.lengths.items v.most so.commit.cut) (sym below.1) here);
    }

-- the same of what is known of the visitor
pub first_as : (buckets n : ℕ) (lengths ls : List ℕ) (most m : ℕ) (commits : List Commit) (at : ℕ) → buckets ≡ n → lengths ≡ ls → most ≡ m
    → (RiseFrom buckets (first_commit buckets) commits → IsFirstAbove lengths most commits at) → RiseFrom n (first_commit n) commits → IsFirstAbove ls m commits at
first_as buckets n lengths ls most m commits at same_n same_l same_m first rise =
    subst (λ (l : List ℕ). IsFirstAbove l m commits at) same_l
    (subst (λ (k : ℕ). IsFirstAbove lengths k commits at) same_m (first (subst (λ (k : ℕ). RiseFrom k (first_commit k) commits) (sym same_n) rise)))

-- where all were taken, the last is within them too
last_within : (lengths : List ℕ) (most : ℕ) (first : Commit) (commits : List Commit) → IsWithin lengths most first.cut → AllByRecursion (λ (commit : Commit). IsWithin lengths most commit.cut) commits
    → IsWithin lengths most (last_commit first commits).cut
last_within lengths most first [] here each = here
last_within lengths most first (commit ∷ commits) here each = last_within lengths most commit commits each.0 each.1

pub zeros_fit : (n : ℕ) → AllByRecursion (λ (x : ℕ). x < 2 ^ 64) (replicate n 0)
zeros_fit zero = tt
zeros_fit (suc n) = (omega arith, zeros_fit n)

zeros_below : (n : ℕ) (lengths : List ℕ) → length lengths ≡ n → IsBelow (replicate n 0) lengths
zeros_below zero [] same = tt
zeros_below zero (x ∷ xs) same = absurd (omega (arith, same))
zeros_below (suc n) [] same = absurd (omega (arith, same))
zeros_below (suc n) (x ∷ xs) same = (omega arith, zeros_below n xs (omega (arith, same)))

zeros_few : (n most : ℕ) → sum (replicate n 0) ≤ most
zeros_few n most = omega (arith, sum_by-replicate (λ (m : ℕ). m) n 0)

pub all_within : (buckets : ℕ) (old new : ReachingVisitor) (commits : List Commit) → old.buckets ≡ buckets → length old.lengths.items ≡ buckets → RiseFrom buckets (first_commit buckets) commits
    → TakesAll TakesBelow old (placed_from 0 (map commit_bytes commits)) new
    → IsWithin old.lengths.items old.most (last_commit (first_commit buckets) commits).cut
all_within buckets old new commits same count rise took =
    last_within old.lengths.items old.most (first_commit buckets) commits (record { lists = zeros_below buckets old.lengths.items count; all = zeros_few buckets old.most })
    (took_below buckets 0 old new commits same (rise_each buckets (first_commit buckets) commits rise) took).0

-- ---- the history of a manifest
abbrev pub TakesCommit : HistoryVisitor → ℕ → List ℕ → HistoryVisitor → Type 0
TakesCommit old at payload new = IsCommit old.buckets new.last × (payload ≡ commit_bytes new.last) × IsAtOrAbove old.last new.last × (new.count ≡ min (old.count + 1) (2 ^ 64 - 1))
    × (new.buckets ≡ old.buckets)

-- what was taken of a manifest
pub record TookCommits (buckets : ℕ) (first : Commit) (count : ℕ) (payloads : List (List ℕ)) (new : HistoryVisitor) : Type 0 where
  pub commits : List Commit
  pub rise : RiseFrom buckets first commits
  pub payloads_are : payloads ≡ map commit_bytes commits
  pub last : new.last ≡ last_commit first commits
  pub counted : new.count ≡ min (count + length commits) (2 ^ 64 - 1)
  pub buckets_are : new.buckets ≡ buckets

pub took_commits : (buckets at : ℕ) (old new : HistoryVisitor) (payloads : List (List ℕ)) → old.buckets ≡ buckets → old.count < 2 ^ 64 → TakesAll TakesCommit old (placed_from at payloads) new
    → TookCommits buckets old.last old.count payloads new
took_commits buckets at old new [] same fits took = record {
  commits = [];
  rise = tt;
  payloads_are = refl;
  last = ap (λ (h : HistoryVisitor). h.last) took;
  counted = omega (arith, ap (λ (h : HistoryVisitor). h.count) took, fits);
  buckets_are = ap (λ (h : HistoryVisitor). h.buckets) took ∙ same;
}
took_commits buckets at old new (payload ∷ payloads) same fits took =
    let mid = took.0 in
    let step = took.1 in
    let rest = took_commits buckets (at + length (record_text payload)) mid new payloads (step.4 ∙ same) (omega (arith, step.3)) took.2 in
    record {
      commits = mid.last ∷ rest.commits;
      rise = (subst (λ (k : ℕ). IsCommit k mid.last) same step.0, step.2, rest.rise);
      payloads_are = cons-cons payload (commit_bytes mid.last) payloads (map commit_bytes rest.commits) step.1 rest.payloads_are;
      last = rest.last;
      counted = omega (arith, rest.counted, step.3);
      buckets_are = rest.buckets_are;
    }

-- there are fewer of them than bytes
pub few_commits : (commits : List Commit) → length commits ≤ length (records_text (map commit_bytes commits))
few_commits [] = omega arith
few_commits (commit ∷ commits) = omega (arith, few_commits commits, length-cons (commit_bytes commit) (map commit_bytes commits))

-- a payload behind those of commits that rise is one of a commit that rises
last_of : (buckets : ℕ) (old : Commit) (taken commits : List Commit) (payload : List ℕ) → RiseFrom buckets old taken → RiseFrom buckets old commits
    → map commit_bytes taken ++ payload ∷ [] ≡ map commit_bytes commits
    → (commit : Commit) × IsCommit buckets commit × (payload ≡ commit_bytes commit) × IsAtOrAbove (last_commit old taken) commit
last_of buckets old [] [] payload rise_t rise_c is = cc
last_of buckets old [] (commit ∷ commits) payload rise_t rise_c is = (commit, rise_c.0, cc, rise_c.1)
last_of buckets old (one ∷ taken) [] payload rise_t rise_c is = cc
last_of buckets old (one ∷ taken) (commit ∷ commits) payload rise_t rise_c is =
    let front : commit_bytes one ≡ commit_bytes commit = cc in
    let behind : map commit_bytes taken ++ payload ∷ [] ≡ map commit_bytes commits = cc in
    let same : commit ≡ one = one_commit buckets (commit_bytes one) commit one rise_c.0 rise_t.0 front refl in
    last_of buckets one taken commits payload rise_t.2 (subst (λ (x : Commit). RiseFrom buckets x commits) same rise_c.2) behind

-- damage of the journal is damage of the manifest
abbrev pub RefusesCommit : HistoryVisitor → ℕ → List ℕ → HistoryVisitor → Type 0
RefusesCommit old at payload new = (commit : Commit) → IsCommit old.buckets commit → payload ≡ commit_bytes commit → IsAtOrAbove old.last commit → ⊥

pub damaged_commits : (buckets : ℕ) (old after : HistoryVisitor) (file : List ℕ) (at : ℕ) → old.buckets ≡ buckets → old.last ≡ first_commit buckets → old.count < 2 ^ 64
    → IsBrokenFor TakesCommit old after file at ⊎ IsRefusedAt TakesCommit RefusesCommit old after file at → IsDamagedJournal (AreCommitPayloads buckets) file at
damaged_commits buckets old after file at same first fits (inl broken) =
    let took = took_commits buckets 0 old after broken.broken.payloads same fits broken.took in
    inl (record { broken = broken.broken; before = (took.commits, subst (λ (x : Commit). RiseFrom buckets x took.commits) first took.rise, took.payloads_are) })
damaged_commits buckets old after file at same first fits (inr refused) =
    let took = took_commits buckets 0 old refused.reached refused.payloads same fits refused.took in
    let rise = subst (λ (x : Commit). RiseFrom buckets x took.commits) first took.rise in
    inr (record {
      payloads = refused.payloads;
      payload = refused.payload;
      gate = refused.gate;
      rest = refused.rest;
      bytes = refused.bytes ∙ append_assoc (records_text refused.payloads) (open_gate ∷ body_text refused.payload) (refused.gate ∷ refused.rest);
      each = refused.each;
      fits = refused.fits;
      place = refused.place;
      before = (took.commits, rise, took.payloads_are);
      bad = λ good.
          let last = last_of buckets (first_commit buckets) took.commits good.0 refused.payload rise good.1 (ap (λ (ps : List (List ℕ)). ps ++ refused.payload ∷ []) (sym took.payloads_are)
          ∙ good.2) in
          let here : refused.reached.last ≡ last_commit (first_commit buckets) took.commits = took.last ∙ ap (λ (x : Commit). last_commit x took.commits) first in
          refused.refused last.0 (subst (λ (k : ℕ). IsCommit k last.0) (sym took.buckets_are) last.1) last.2 (subst (λ (x : Commit). IsAtOrAbove x last.0) (sym here) last.3);
    })
