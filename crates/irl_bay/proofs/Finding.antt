-- What is found in all runs of a bucket's journal.
use Rattle.std.proofs.Common.{◌≡◌, ◌∙◌, ℕ, ◌+◌, ◌*◌, ◌^◌, ◌<◌, ◌≤◌, List, [], ◌∷◌, ◌++◌, length, map, take, inl, ⊎_elim, refl, sym, ap, subst, arith, append_assoc, append-nil, length-append}
use Rattle.std.proofs.lemmas.List.{map-append, take-append-le}
use Rattle.std.proofs.lemmas.Grind.{flat_map-append}
use Rattle.std.proofs.lemmas.List.Concat.{flat_map-cons}
use Rattle.std.proofs.lemmas.List.Sums.{sum_by-take-le}
use Rattle.std.proofs.Math.Seq.{take-append-add}
use Rattle.std.specs.List.{AllByRecursion}
use Rattle.irl_offer.specs.declared.entry.Entry.{Entry}
use Rattle.irl_offer.specs.declared.settings.Settings.{Settings}
use Rattle.irl_journal.specs.Format.{records_text, record_text, placed_from}
use Rattle.irl_journal.specs.Visiting.{TakesAll}
use Rattle.irl_journal.proofs.Lists.{length-body}
use Rattle.irl_journal.proofs.Reading.{records-append, length-cons}
use Rattle.irl_layout.specs.EntryRuns.{IsEntryOf, IsEntryRun, entries_bytes, entries_in, text_length}
use Rattle.irl_bay.specs.Finding.{Advances, nothing_found}
use Rattle.irl_bay.specs.declared.found.Found.{Found}
use Rattle.irl_bay.specs.declared.tally.TallyVisitor.{TallyVisitor}
use Rattle.irl_layout.proofs.EntryBytes.{below_or_not, text_length-append, text_length-cons, length-entries}

-- where the first offer stands that isn't judged
pub record IsFirst (cut : ℕ) (runs : List (List Entry)) (found : Found) : Type 0 where
  pub before : List (List Entry)
  pub behind : List (List Entry)
  pub runs_are : runs ≡ before ++ behind
  pub gate : found.gate ≡ length (records_text (map entries_bytes before))
  pub skip : length (entries_in before) + found.skip ≡ cut
  pub text : found.text ≡ text_length (take cut (entries_in runs))

-- what was found in some runs
pub record HasFound (cut : ℕ) (runs : List (List Entry)) (found : Found) : Type 0 where
  pub count : found.count ≡ length (entries_in runs)
  pub texts : found.texts ≡ text_length (entries_in runs)
  pub first : cut < length (entries_in runs) → IsFirst cut runs found

pub found_nothing : (cut : ℕ) → HasFound cut [] nothing_found
found_nothing cut = record { count = refl; texts = refl; first = λ below. absurd (omega (arith, below)) }

-- ---- sizes
pub entries_in-append : (xs ys : List (List Entry)) → entries_in (xs ++ ys) ≡ entries_in xs ++ entries_in ys
entries_in-append xs ys = flat_map-append (λ (run : List Entry). run) xs ys

entries_in-one : (run : List Entry) → entries_in (run ∷ []) ≡ run
entries_in-one run = flat_map-cons (λ (r : List Entry). r) run [] ∙ append-nil run

pub entries_in-more : (runs : List (List Entry)) (run : List Entry) → entries_in (runs ++ run ∷ []) ≡ entries_in runs ++ run
entries_in-more runs run = entries_in-append runs (run ∷ []) ∙ ap (λ (l : List Entry). entries_in runs ++ l) (entries_in-one run)

-- a text has at most 2,048 bytes
pub few_texts : (settings : Settings) (b : ℕ) (run : List Entry) → AllByRecursion (IsEntryOf settings.buckets b) run → text_length run ≤ 2048 * length run
few_texts settings b [] each = omega arith
few_texts settings b (entry ∷ run) each = omega (arith, each.0.aux, few_texts settings b run each.1, text_length-cons entry run)

-- ---- one run more
pub found_more : (cut at : ℕ) (runs : List (List Entry)) (run : List Entry) (old new : Found) → HasFound cut runs old → Advances cut at run old new
    → at ≡ length (records_text (map entries_bytes runs)) → length (entries_in runs) + length run < 2 ^ 64 → text_length (entries_in runs) + text_length run < 2 ^ 128
    → HasFound cut (runs ++ run ∷ []) new
found_more cut at runs run old new so_far step here few few_bytes =
    let all : entries_in (runs ++ run ∷ []) ≡ entries_in runs ++ run = entries_in-more runs run in
    let many : length (entries_in (runs ++ run ∷ [])) ≡ length (entries_in runs) + length run = ap length all ∙ length-append (entries_in runs) run in
    let bytes : text_length (entries_in (runs ++ run ∷ [])) ≡ text_length (entries_in runs) + text_length run = ap text_length all ∙ text_length-append (entries_in runs) run in
    record {
      count = omega (arith, step.count, so_far.count, many, few);
      texts = omega (arith, step.texts, so_far.texts, bytes, few_bytes);
      first = λ below. ⊎_elim
          (λ (was : cut < length (entries_in runs)).
          let first = so_far.first was in
          let same = step.elsewhere (inl (omega (arith, was, so_far.count))) in
          record {
            before = first.before;
            behind = first.behind ++ run ∷ [];
            runs_are = ap (λ (rs : List (List Entry)). rs ++ run ∷ []) first.runs_are ∙ append_assoc first.before first.behind (run ∷ []);
            gate = same.0 ∙ first.gate;
            skip = omega (arith, first.skip, same.1);
            text = same.2 ∙ first.text ∙ ap text_length (sym (ap (take cut) all ∙ take-append-le cut (entries_in runs) run (omega (arith, was))));
          })
          (λ (from : length (entries_in runs) ≤ cut).
          let found = step.here (omega (arith, from, so_far.count)) (omega (arith, below, many, so_far.count)) in
          let split : cut ≡ length (entries_in runs) + new.skip = omega (arith, found.1, so_far.count) in
          let front : take cut (entries_in (runs ++ run ∷ [])) ≡ entries_in runs ++ take new.skip run =
          ap (take cut) all ∙ ap (λ (k : ℕ). take k (entries_in runs ++ run)) split ∙ take-append-add (entries_in runs) run new.skip in
          let part : text_length (take cut (entries_in (runs ++ run ∷ []))) ≡ text_length (entries_in runs) + text_length (take new.skip run) = ap text_length front
          ∙ text_length-append (entries_in runs) (take new.skip run) in
          record {
            before = runs;
            behind = run ∷ [];
            runs_are = refl;
            gate = found.0 ∙ here;
            skip = omega (arith, split);
            text = omega (arith, found.2, part, so_far.texts, few_bytes, sum_by-take-le (λ (entry : Entry). entry.aux_len) run new.skip);
          })
          (below_or_not cut (length (entries_in runs)));
    }

-- ---- all runs
-- a run is counted
abbrev pub TakesRun : TallyVisitor → ℕ → List ℕ → TallyVisitor → Type 0
TakesRun old at payload new =
    (new.settings ≡ old.settings) × (new.bucket ≡ old.bucket) × (new.cut ≡ old.cut)
    × ((run : List Entry) × IsEntryRun old.settings old.bucket run × (payload ≡ entries_bytes run) × Advances old.cut at run old.found new.found)

-- what was taken of a bucket's journal
pub record TookRuns (settings : Settings) (b cut : ℕ) (payloads : List (List ℕ)) (new : TallyVisitor) : Type 0 where
  pub runs : List (List Entry)
  pub each : AllByRecursion (IsEntryRun settings b) runs
  pub payloads_are : payloads ≡ map entries_bytes runs
  pub found : HasFound cut runs new.found
  pub settings_are : new.settings ≡ settings
  pub bucket : new.bucket ≡ b
  pub cut_is : new.cut ≡ cut

-- runs take at least as many bytes as their entries
pub long_runs : (runs : List (List Entry)) → 27 * length (entries_in runs) ≤ length (records_text (map entries_bytes runs))
long_runs [] = omega arith
long_runs (run ∷ runs) =
    let whole : length (entries_in (run ∷ runs)) ≡ length run + length (entries_in runs) = ap length (flat_map-cons (λ (r : List Entry). r) run runs) ∙ length-append run (entries_in runs) in
    omega (arith, whole, long_runs runs, length-cons (entries_bytes run) (map entries_bytes runs), length-entries run)

pub few_texts_in : (settings : Settings) (b : ℕ) (runs : List (List Entry)) → AllByRecursion (IsEntryRun settings b) runs → text_length (entries_in runs) ≤ 2048 * length (entries_in runs)
few_texts_in settings b [] each = omega arith
few_texts_in settings b (run ∷ runs) each =
    let all : entries_in (run ∷ runs) ≡ run ++ entries_in runs = flat_map-cons (λ (r : List Entry). r) run runs in
    omega (
      arith,
      ap length all,
      ap text_length all,
      length-append run (entries_in runs),
      text_length-append run (entries_in runs),
      few_texts settings b run each.0.each,
      few_texts_in settings b runs each.1,
    )

each-more : (P : List Entry → Type 0) (runs : List (List Entry)) (run : List Entry) → AllByRecursion P runs → P run → AllByRecursion P (runs ++ run ∷ [])
each-more P [] run each here = (here, tt)
each-more P (r ∷ runs) run each here = (each.0, each-more P runs run each.1 here)

-- what was taken of the records behind some runs
record TookMore (settings : Settings) (b cut : ℕ) (runs : List (List Entry)) (payloads : List (List ℕ)) (new : TallyVisitor) : Type 0 where
  more : List (List Entry)
  each : AllByRecursion (IsEntryRun settings b) (runs ++ more)
  payloads_are : payloads ≡ map entries_bytes more
  found : HasFound cut (runs ++ more) new.found
  settings_are : new.settings ≡ settings
  bucket : new.bucket ≡ b
  cut_is : new.cut ≡ cut

both_cons : (x y : List ℕ) (xs ys : List (List ℕ)) → x ≡ y → xs ≡ ys → x ∷ xs ≡ y ∷ ys
both_cons x y xs ys p q = cc

took_more : (settings : Settings) (b cut at : ℕ) (runs : List (List Entry)) (old new : TallyVisitor) (payloads : List (List ℕ)) → AllByRecursion (IsEntryRun settings b) runs
    → HasFound cut runs old.found
    → old.settings ≡ settings → old.bucket ≡ b → old.cut ≡ cut
    → at ≡ length (records_text (map entries_bytes runs)) → at + length (records_text payloads) < 2 ^ 64 → TakesAll TakesRun old (placed_from at payloads) new
    → TookMore settings b cut runs payloads new
took_more settings b cut at runs old new [] each so_far is_settings is_bucket is_cut here fits took = record {
  more = [];
  each = subst (λ (rs : List (List Entry)). AllByRecursion (IsEntryRun settings b) rs) (sym (append-nil runs)) each;
  payloads_are = refl;
  found = subst (λ (t : TallyVisitor). HasFound cut (runs ++ []) t.found) (sym took) (subst (λ (rs : List (List Entry)). HasFound cut rs old.found) (sym (append-nil runs)) so_far);
  settings_are = ap (λ (t : TallyVisitor). t.settings) took ∙ is_settings;
  bucket = ap (λ (t : TallyVisitor). t.bucket) took ∙ is_bucket;
  cut_is = ap (λ (t : TallyVisitor). t.cut) took ∙ is_cut;
}
took_more settings b cut at runs old new (payload ∷ payloads) each so_far is_settings is_bucket is_cut here fits took =
    let mid = took.0 in
    let step = took.1 in
    let run = step.3.0 in
    let is_run : IsEntryRun settings b run = subst (λ (s : Settings). IsEntryRun s b run) is_settings (subst (λ (n : ℕ). IsEntryRun old.settings n run) is_bucket step.3.1) in
    let advances : Advances cut at run old.found mid.found = subst (λ (n : ℕ). Advances n at run old.found mid.found) is_cut step.3.3 in
    let size : length payload ≡ 27 * length run = ap length step.3.2 ∙ length-entries run in
    let long : length (records_text (payload ∷ payloads)) ≡ 5 + length payload + length (records_text payloads) = length-cons payload payloads in
    let further : length (records_text (map entries_bytes (runs ++ run ∷ []))) ≡ length (records_text (map entries_bytes runs)) + (5 + length payload) =
    ap (λ (ps : List (List ℕ)). length (records_text ps)) (map-append entries_bytes runs (run ∷ []))
    ∙ ap length (records-append (map entries_bytes runs) (entries_bytes run ∷ []))
    ∙ omega (arith, length-append (records_text (map entries_bytes runs)) (records_text (entries_bytes run ∷ [])), length-cons (entries_bytes run) [], ap length step.3.2) in
    let next : at + length (record_text payload) ≡ at + (5 + length payload) = omega (arith, length-body payload) in
    let found = found_more cut at runs run old.found mid.found so_far advances here (omega (arith, here, fits, long, size, long_runs runs))
    (omega (arith, here, fits, long, size, long_runs runs, few_texts_in settings b runs each, few_texts settings b run is_run.each)) in
    let rest = took_more settings b cut (at + length (record_text payload)) (runs ++ run ∷ []) mid new payloads (each-more (IsEntryRun settings b) runs run each is_run) found (step.0
    ∙ is_settings) (step.1 ∙ is_bucket) (step.2 ∙ is_cut)
    (omega (arith, next, further, here)) (omega (arith, next, fits, long)) took.2 in
    let apart : (runs ++ run ∷ []) ++ rest.more ≡ runs ++ run ∷ rest.more = append_assoc runs (run ∷ []) rest.more in
    record {
      more = run ∷ rest.more;
      each = subst (λ (rs : List (List Entry)). AllByRecursion (IsEntryRun settings b) rs) apart rest.each;
      payloads_are = both_cons payload (entries_bytes run) payloads (map entries_bytes rest.more) step.3.2 rest.payloads_are;
      found = subst (λ (rs : List (List Entry)). HasFound cut rs new.found) apart rest.found;
      settings_are = rest.settings_are;
      bucket = rest.bucket;
      cut_is = rest.cut_is;
    }

-- what was taken of a journal from its beginning
pub took_runs : (settings : Settings) (b cut : ℕ) (old new : TallyVisitor) (payloads : List (List ℕ)) → old.found ≡ nothing_found → old.settings ≡ settings → old.bucket ≡ b → old.cut ≡ cut
    → length (records_text payloads) < 2 ^ 64
    → TakesAll TakesRun old (placed_from 0 payloads) new → TookRuns settings b cut payloads new
took_runs settings b cut old new payloads none is_settings is_bucket is_cut fits took =
    let all = took_more settings b cut 0 [] old new payloads tt (subst (λ (f : Found). HasFound cut [] f) (sym none) (found_nothing cut)) is_settings is_bucket is_cut refl (omega (arith, fits))
    took in
    record { runs = all.more; each = all.each; payloads_are = all.payloads_are; found = all.found; settings_are = all.settings_are; bucket = all.bucket; cut_is = all.cut_is }

-- where the first offer stands that isn't judged lies within what was read
pub first_within : (settings : Settings) (b cut : ℕ) (payloads : List (List ℕ)) (new : TallyVisitor) → TookRuns settings b cut payloads new → cut < new.found.count
    → (new.found.gate ≤ length (records_text payloads)) × (new.found.text ≤ new.found.texts)
first_within settings b cut payloads new took below =
    let first = took.found.first (omega (arith, below, took.found.count)) in
    let parts : records_text payloads ≡ records_text (map entries_bytes first.before) ++ records_text (map entries_bytes first.behind) =
    ap records_text (took.payloads_are ∙ ap (map entries_bytes) first.runs_are ∙ map-append entries_bytes first.before first.behind)
    ∙ records-append (map entries_bytes first.before) (map entries_bytes first.behind) in (
      omega (arith, first.gate, ap length parts, length-append (records_text (map entries_bytes first.before)) (records_text (map entries_bytes first.behind))),
      omega (arith, first.text, took.found.texts, sum_by-take-le (λ (entry : Entry). entry.aux_len) (entries_in took.runs) cut),
    )
