-- A bucket that is opened: what its journal was found to have, against the list that its files have.
use Rattle.std.proofs.Common.{◌≡◌, ◌∙◌, ℕ, ◌+◌, ◌<◌, ◌≤◌, List, [], ◌∷◌, ◌++◌, length, map, take, drop, ◌⊎◌, inl, inr, ⊎_elim, refl, sym, ap, subst, arith, append_assoc, append-nil, length-append, take-append-drop, take_all}
use Rattle.std.proofs.lemmas.List.{map-append, length-map}
use Rattle.std.proofs.lemmas.List.Folds.{flat_map-map}
use Rattle.std.proofs.lemmas.List.Concat.{flat_map-cons}
use Rattle.std.proofs.Math.Seq.{take-append_seam}
use Rattle.std.specs.List.{flat_map, take-map, AllByRecursion}
use Rattle.irl_offer.specs.Buckets.{bucket_of}
use Rattle.irl_offer.specs.Entries.{entry_bytes}
use Rattle.irl_offer.specs.Tuple.{Tuple}
use Rattle.irl_offer.specs.declared.entry.Entry.{Entry}
use Rattle.irl_offer.specs.declared.settings.Settings.{Settings}
use Rattle.irl_base.specs.declared.fault.Fault.TheVariants.{Damaged as StoreDamaged}
use Rattle.irl_disk.specs.Disk.{Files}
use Rattle.irl_journal.specs.Format.{records_text, body_text, record_text, placed_from, open_gate}
use Rattle.irl_journal.specs.Visiting.{TakesAll, IsBrokenFor, IsRefusedAt}
use Rattle.irl_journal.specs.Appending.{Ends, IsOpen}
use Rattle.irl_journal.specs.Blob.{IsCommitted}
use Rattle.irl_journal.specs.declared.fault.JournalFault.{JournalFault}
use Rattle.irl_journal.specs.declared.fault.JournalFault.TheVariants.{Failed as JournalFailed, Memory as JournalMemory, Damaged as JournalDamaged}
use Rattle.irl_journal.proofs.Fronts.{begins_take}
use Rattle.irl_bay.specs.declared.bucket.Bucket.{Bucket}
use Rattle.irl_bay.specs.declared.found.Found.{Found}
use Rattle.irl_bay.specs.declared.tally.TallyVisitor.{TallyVisitor}
use Rattle.irl_bay.specs.Damage.{IsDamagedJournal}
use Rattle.irl_layout.specs.EntryRuns.{IsEntryOf, IsEntryRun, AreRunPayloads, entries_bytes, entries_in, text_length}
use Rattle.irl_bay.specs.Faults.{fault_of}
use Rattle.irl_bay.specs.Holding.{HoldsBucket}
use Rattle.irl_layout.specs.Runs.{HasBucket, AreRuns, IsRun, IsOffer, entry_of_offer, run_bytes, texts_of}
use Rattle.irl_layout.proofs.EntryBytes.{text_length-cons, below_or_not, each_room, same_entries}
use Rattle.irl_bay.proofs.Finding.{TakesRun, HasFound}

-- ---- damage
-- a journal's damage is its file's
pub damaged_fault : (f : ℕ) (fault : JournalFault) (g at : ℕ) → fault_of f fault ≡ StoreDamaged g at → (fault ≡ JournalDamaged at) × (f ≡ g)
damaged_fault f JournalFailed g at is = absurd (cc)
damaged_fault f JournalMemory g at is = absurd (cc)
damaged_fault f (JournalDamaged place) g at is = (cc, cc)

-- the records that were taken are runs of the bucket
pub record TookEach (settings : Settings) (b : ℕ) (payloads : List (List ℕ)) (new : TallyVisitor) : Type 0 where
  pub are : AreRunPayloads settings b payloads
  pub settings_are : new.settings ≡ settings
  pub bucket : new.bucket ≡ b

cons-cons : (x y : List ℕ) (xs ys : List (List ℕ)) → x ≡ y → xs ≡ ys → x ∷ xs ≡ y ∷ ys
cons-cons x y xs ys p q = cc

run_moved : (s t : Settings) (m n : ℕ) (run : List Entry) → s ≡ t → m ≡ n → IsEntryRun s m run → IsEntryRun t n run
run_moved s t m n run same_settings same_bucket is = subst (λ (k : Settings). IsEntryRun k n run) same_settings (subst (λ (k : ℕ). IsEntryRun s k run) same_bucket is)

pub took_each : (settings : Settings) (b at : ℕ) (old new : TallyVisitor) (payloads : List (List ℕ)) → old.settings ≡ settings → old.bucket ≡ b → TakesAll TakesRun old (placed_from at payloads) new
    → TookEach settings b payloads new
took_each settings b at old new [] is_settings is_bucket took = record {
  are = ([], tt, refl);
  settings_are = ap (λ (t : TallyVisitor). t.settings) took ∙ is_settings;
  bucket = ap (λ (t : TallyVisitor). t.bucket) took ∙ is_bucket;
}
took_each settings b at old new (payload ∷ payloads) is_settings is_bucket took =
    let step = took.1 in
    let run = step.3.0 in
    let rest = took_each settings b (at + length (record_text payload)) took.0 new payloads (step.0 ∙ is_settings) (step.1 ∙ is_bucket) took.2 in
    record {
      are = (
        run ∷ rest.are.0,
        (run_moved old.settings settings old.bucket b run is_settings is_bucket step.3.1, rest.are.1),
        cons-cons payload (entries_bytes run) payloads (map entries_bytes rest.are.0) step.3.2 rest.are.2,
      );
      settings_are = rest.settings_are;
      bucket = rest.bucket;
    }

-- the last of the payloads of runs is one of a run
last_run : (settings : Settings) (b : ℕ) (payloads : List (List ℕ)) (payload : List ℕ) (runs : List (List Entry)) → AllByRecursion (IsEntryRun settings b) runs
    → payloads ++ payload ∷ [] ≡ map entries_bytes runs → (run : List Entry) × IsEntryRun settings b run × (payload ≡ entries_bytes run)
last_run settings b [] payload [] each is = cc
last_run settings b [] payload (run ∷ runs) each is = (run, each.0, cc)
last_run settings b (p ∷ payloads) payload [] each is = cc
last_run settings b (p ∷ payloads) payload (run ∷ runs) each is =
    let rest : payloads ++ payload ∷ [] ≡ map entries_bytes runs = cc in
    last_run settings b payloads payload runs each.1 rest

-- damage of the journal is damage of the bucket
abbrev pub RefusesRun : TallyVisitor → ℕ → List ℕ → TallyVisitor → Type 0
RefusesRun old at payload new = (run : List Entry) → IsEntryRun old.settings old.bucket run → payload ≡ entries_bytes run → ⊥

pub damaged_runs : (settings : Settings) (b : ℕ) (old after : TallyVisitor) (file : List ℕ) (at : ℕ) → old.settings ≡ settings → old.bucket ≡ b → IsBrokenFor TakesRun old after file at
    ⊎ IsRefusedAt TakesRun RefusesRun old after file at → IsDamagedJournal (AreRunPayloads settings b) file at
damaged_runs settings b old after file at is_settings is_bucket (inl broken) = inl
    (record { broken = broken.broken; before = (took_each settings b 0 old after broken.broken.payloads is_settings is_bucket broken.took).are })
damaged_runs settings b old after file at is_settings is_bucket (inr refused) =
    let took = took_each settings b 0 old refused.reached refused.payloads is_settings is_bucket refused.took in
    inr (record {
      payloads = refused.payloads;
      payload = refused.payload;
      gate = refused.gate;
      rest = refused.rest;
      bytes = refused.bytes ∙ append_assoc (records_text refused.payloads) (open_gate ∷ body_text refused.payload) (refused.gate ∷ refused.rest);
      each = refused.each;
      fits = refused.fits;
      place = refused.place;
      before = took.are;
      bad = λ good.
          let last = last_run settings b refused.payloads refused.payload good.0 good.1 good.2 in
          refused.refused last.0 (run_moved settings refused.reached.settings b refused.reached.bucket last.0 (sym took.settings_are) (sym took.bucket) last.1) last.2;
    })

-- a journal's closed gate stands in its file
pub ends_within : (end : ℕ) (file : List ℕ) (payloads : List (List ℕ)) → Ends end file payloads → end < length file
ends_within end file payloads ends = omega (arith, ends.place, ap length ends.records.bytes, length-append (records_text payloads) (ends.records.gate ∷ ends.records.rest))

-- ---- entries of offers
run_entries : (offers : List Tuple) → run_bytes offers ≡ entries_bytes (map entry_of_offer offers)
run_entries offers = sym (flat_map-map entry_bytes entry_of_offer offers)

abbrev pub entry_runs : List (List Tuple) → List (List Entry)
entry_runs runs = map (λ run. map entry_of_offer run) runs

pub runs_entries : (runs : List (List Tuple)) → map run_bytes runs ≡ map entries_bytes (entry_runs runs)
runs_entries [] = refl
runs_entries (run ∷ runs) = cons-cons (run_bytes run) (entries_bytes (map entry_of_offer run)) (map run_bytes runs) (map entries_bytes (entry_runs runs)) (run_entries run) (runs_entries runs)

-- all of them
pub entries_in-runs : (runs : List (List Tuple)) → entries_in (entry_runs runs) ≡ map entry_of_offer (flat_map (λ run. run) runs)
entries_in-runs [] = refl
entries_in-runs (run ∷ runs) =
    flat_map-cons (λ (r : List Entry). r) (map entry_of_offer run) (entry_runs runs)
    ∙ ap (λ (l : List Entry). map entry_of_offer run ++ l) (entries_in-runs runs)
    ∙ sym (map-append entry_of_offer run (flat_map (λ r. r) runs))
    ∙ ap (map entry_of_offer) (sym (flat_map-cons (λ (r : List Tuple). r) run runs))

-- their texts
pub text_length-offers : (offers : List Tuple) → text_length (map entry_of_offer offers) ≡ length (texts_of offers)
text_length-offers [] = refl
text_length-offers (offer ∷ offers) =
    let whole : length (texts_of (offer ∷ offers)) ≡ length offer.aux + length (texts_of offers) = ap length (flat_map-cons (λ (o : Tuple). o.aux) offer offers)
    ∙ length-append offer.aux (texts_of offers) in
    omega (arith, whole, text_length-cons (entry_of_offer offer) (map entry_of_offer offers), text_length-offers offers)

-- offers of a bucket have entries of the bucket
abbrev pub IsOfferOf : ℕ → ℕ → Tuple → Type 0
IsOfferOf buckets b offer = bucket_of buckets offer.key ≡ b

entries_of : (buckets b : ℕ) (offers : List Tuple) → AllByRecursion IsOffer offers → AllByRecursion (IsOfferOf buckets b) offers → AllByRecursion (IsEntryOf buckets b) (map entry_of_offer offers)
entries_of buckets b [] each here = tt
entries_of buckets b (offer ∷ offers) each here = (record { key = each.0.key; value = each.0.value; from = each.0.from; aux = each.0.aux; bucket = here.0 }, entries_of buckets b offers each.1 here.1)

all-apart : (P : Tuple → Type 0) (xs ys : List Tuple) → AllByRecursion P (xs ++ ys) → AllByRecursion P xs × AllByRecursion P ys
all-apart P [] ys each = (tt, each)
all-apart P (x ∷ xs) ys each = let rest = all-apart P xs ys each.1 in ((each.0, rest.0), rest.1)

pub runs_of : (settings : Settings) (b : ℕ) (runs : List (List Tuple)) → AllByRecursion (IsRun settings.array) runs → AllByRecursion IsOffer (flat_map (λ run. run) runs)
    → AllByRecursion (IsOfferOf settings.buckets b) (flat_map (λ run. run) runs) → AllByRecursion (IsEntryRun settings b) (entry_runs runs)
runs_of settings b [] sizes each here = tt
runs_of settings b (run ∷ runs) sizes each here =
    let apart = flat_map-cons (λ (r : List Tuple). r) run runs in
    let offers = all-apart IsOffer run (flat_map (λ r. r) runs) (subst (AllByRecursion IsOffer) apart each) in
    let of_bucket = all-apart (IsOfferOf settings.buckets b) run (flat_map (λ r. r) runs) (subst (AllByRecursion (IsOfferOf settings.buckets b)) apart here) in (
      record {
        some = omega (arith, sizes.0.0, length-map run entry_of_offer);
        few = omega (arith, sizes.0.1, length-map run entry_of_offer);
        each = entries_of settings.buckets b run offers.0 of_bucket.0;
      },
      runs_of settings b runs sizes.1 offers.1 of_bucket.1,
    )

-- ---- one list of runs
pub same_runs : (settings : Settings) (b : ℕ) (xs ys : List (List Entry)) → AllByRecursion (IsEntryRun settings b) xs → AllByRecursion (IsEntryRun settings b) ys
    → map entries_bytes xs ≡ map entries_bytes ys → xs ≡ ys
same_runs settings b [] [] each_x each_y same = refl
same_runs settings b [] (y ∷ ys) each_x each_y same = cc
same_runs settings b (x ∷ xs) [] each_x each_y same = cc
same_runs settings b (x ∷ xs) (y ∷ ys) each_x each_y same =
    let front : entries_bytes x ≡ entries_bytes y = cc in
    let rest : map entries_bytes xs ≡ map entries_bytes ys = cc in
    let first : x ≡ y = same_entries x y (each_room settings.buckets b x each_x.0.each) (each_room settings.buckets b y each_y.0.each) front in
    let behind : xs ≡ ys = same_runs settings b xs ys each_x.1 each_y.1 rest in
    cc

-- ---- the bucket holds the list
-- what a bucket keeps of its journal and texts that were read
pub record IsFoundBucket (images : Files → Type 0) (cut : ℕ) (payloads : List (List ℕ)) (texts : List ℕ) (found : Found) (bucket : Bucket) : Type 0 where
  pub end : bucket.journal.end ≡ length (records_text payloads)
  pub journal : IsOpen images bucket.journal payloads
  pub length : bucket.aux.length ≡ found.texts
  pub aux : IsCommitted images bucket.aux texts
  pub durable : bucket.durable ≡ bucket.start + found.count
  pub pending : cut < found.count → (bucket.gate ≡ found.gate) × (bucket.skip ≡ found.skip) × (bucket.text ≡ found.text)
  pub none : found.count ≤ cut → (bucket.gate ≡ bucket.journal.end) × (bucket.skip ≡ 0) × (bucket.text ≡ bucket.aux.length)

-- where its files have a list, it holds the list
pub holds_found : (images : Files → Type 0) (settings : Settings) (b cut : ℕ) (list : List Tuple) (journal aux : List ℕ) (bucket : Bucket) (found : Found) (runs : List (List Entry))
    (has : HasBucket settings.array list journal aux)
    → AllByRecursion (IsOfferOf settings.buckets b) list → cut ≤ length list → AllByRecursion (IsEntryRun settings b) runs → map run_bytes has.runs ≡ map entries_bytes runs → HasFound cut runs found
    → IsFoundBucket images cut (map run_bytes has.runs) (take found.texts aux) found bucket → HoldsBucket images settings.array cut bucket list
holds_found images settings b cut list journal aux bucket found runs has here within each payloads_are so is =
    let rs = has.runs in
    let parts = runs_of settings b rs has.are.sizes (subst (AllByRecursion IsOffer) has.are.joined has.are.offers) (subst (AllByRecursion (IsOfferOf settings.buckets b)) has.are.joined here) in
    let same : runs ≡ entry_runs rs = same_runs settings b runs (entry_runs rs) each parts (sym payloads_are ∙ runs_entries rs) in
    let all : entries_in runs ≡ map entry_of_offer list = ap entries_in same ∙ entries_in-runs rs ∙ ap (map entry_of_offer) (sym has.are.joined) in
    let count : length (entries_in runs) ≡ length list = ap length all ∙ length-map list entry_of_offer in
    let bytes : text_length (entries_in runs) ≡ length (texts_of list) = ap text_length all ∙ text_length-offers list in
    let front : text_length (take cut (entries_in runs)) ≡ length (texts_of (take cut list)) =
    ap (λ (l : List Entry). text_length (take cut l)) all ∙ ap text_length (take-map entry_of_offer cut list) ∙ text_length-offers (take cut list) in
    let texts : take found.texts aux ≡ texts_of list = ap (λ (n : ℕ). take n aux) (so.texts ∙ bytes) ∙ begins_take aux (texts_of list) has.texts in
    let held : IsCommitted images bucket.aux (texts_of list) = subst (λ (l : List ℕ). IsCommitted images bucket.aux l) texts is.aux in
    ⊎_elim
    (λ (below : cut < length list).
    let first = so.first (omega (arith, below, count)) in
    let kept = is.pending (omega (arith, below, count, so.count)) in
    let n : ℕ = length first.before in
    let moved : entry_runs (take n rs) ≡ first.before = sym (take-map (λ (run : List Tuple). map entry_of_offer run) n rs) ∙ ap (take n) (sym same ∙ first.runs_are)
    ∙ take-append_seam first.before first.behind in
    let whole : rs ≡ take n rs ++ drop n rs = sym (take-append-drop n rs) in
    let before : length (entries_in first.before) ≡ length (flat_map (λ run. run) (take n rs)) =
    ap (λ (l : List (List Entry)). length (entries_in l)) (sym moved) ∙ ap length (entries_in-runs (take n rs)) ∙ length-map (flat_map (λ run. run) (take n rs)) entry_of_offer in
    record {
      before = take n rs;
      behind = drop n rs;
      are = subst (AreRuns settings.array list) whole has.are;
      journal = subst (λ (l : List (List Tuple)). IsOpen images bucket.journal (map run_bytes l)) whole is.journal;
      aux = held;
      durable = omega (arith, is.durable, so.count, count);
      judged = within;
      gate = kept.0 ∙ first.gate ∙ ap (λ (ps : List (List ℕ)). length (records_text ps)) (ap (map entries_bytes) (sym moved) ∙ sym (runs_entries (take n rs)));
      skip = omega (arith, kept.1, first.skip, before);
      text = kept.2 ∙ first.text ∙ front;
    })
    (λ (past : length list ≤ cut).
    let kept = is.none (omega (arith, past, count, so.count)) in
    let whole : rs ≡ rs ++ [] = sym (append-nil rs) in
    let all_judged : take cut list ≡ list = take_all cut list past in
    record {
      before = rs;
      behind = [];
      are = subst (AreRuns settings.array list) whole has.are;
      journal = subst (λ (l : List (List Tuple)). IsOpen images bucket.journal (map run_bytes l)) whole is.journal;
      aux = held;
      durable = omega (arith, is.durable, so.count, count);
      judged = within;
      gate = kept.0 ∙ is.end;
      skip = omega (arith, kept.1, past, within, ap length has.are.joined);
      text = kept.2 ∙ is.length ∙ so.texts ∙ bytes ∙ ap (λ (l : List Tuple). length (texts_of l)) (sym all_judged);
    })
    (below_or_not cut (length list))
