-- What a visitor gathered of a bucket's journal.
use Rattle.std.proofs.Common.{◌≡◌, ◌≢◌, ◌∙◌, ◌⊎◌, ⊎_elim, inl, inr, ℕ, suc, ◌+◌, ◌<◌, ◌≤◌, List, [], ◌∷◌, ◌++◌, length, length-take-le, map, take, drop, Bool, true, false, zero, refl, sym, ap, subst, arith, append_assoc, append-nil, length-append, take-append-drop}
use Rattle.std.proofs.Math.Seq.{drop-append-add}
use Rattle.std.proofs.lemmas.Grind.{flat_map-append}
use Rattle.std.proofs.lemmas.List.{map-append, length-map}
use Rattle.std.specs.List.{AllByRecursion, flat_map}
use Rattle.irl_offer.specs.Buckets.{bucket_of}
use Rattle.irl_offer.specs.Entries.{entry_bytes}
use Rattle.irl_offer.specs.declared.entry.Entry.{Entry}
use Rattle.irl_offer.specs.declared.settings.Settings.{Settings}
use Rattle.irl_offer.specs.Tuple.{Tuple}
use Rattle.irl_disk.specs.Disk.{Files}
use Rattle.irl_journal.specs.Format.{records_text, record_text, body_text, open_gate, placed_from}
use Rattle.irl_journal.specs.Appending.{Ends}
use Rattle.irl_journal.specs.Visiting.{TakesAll, HandsOver, StopsAt, RefusesAt, RefusesOneFrom}
use Rattle.irl_bay.specs.declared.bucket.Bucket.{Bucket}
use Rattle.irl_bay.specs.declared.gathering.GatheringVisitor.{GatheringVisitor}
use Rattle.irl_layout.specs.EntryRuns.{IsEntryOf, IsEntryRun, entries_bytes, entries_in}
use Rattle.irl_bay.specs.Holding.{HoldsBucket}
use Rattle.irl_bay.specs.Pending.{HasEntries, IsSpoiltJournal, HasRunsTo, IsCutShort, IsNoRun, IsClosed}
use Rattle.irl_layout.specs.Runs.{entry_of_offer, run_bytes, IsOffer, IsRun}
use Rattle.irl_layout.proofs.EntryBytes.{HasRoom, each_room, same_entries}

-- behind so many entries these are those of the offers that a list has from a number on
pub record AreEntriesFrom (skip cut : ℕ) (list : List Tuple) (entries : List Entry) : Type 0 where
  pub entries_are : drop skip entries ≡ map entry_of_offer (drop cut list)
  pub count : length entries + cut ≡ skip + length list

-- what the visitor takes, and what it refuses
abbrev pub Gathers : GatheringVisitor → ℕ → List ℕ → GatheringVisitor → Type 0
Gathers old at payload new = (new.settings ≡ old.settings) × (new.bucket ≡ old.bucket)
    × ((run : List Entry) × IsEntryRun old.settings old.bucket run × (payload ≡ entries_bytes run) × (new.entries.items ≡ old.entries.items ++ run))

abbrev pub Refuses : GatheringVisitor → ℕ → List ℕ → GatheringVisitor → Type 0
Refuses old at payload new = (run : List Entry) → IsEntryRun old.settings old.bucket run → payload ≡ entries_bytes run → ⊥

-- ---- the runs that were taken
pub record Gathered (settings : Settings) (b : ℕ) (old new : GatheringVisitor) (payloads : List (List ℕ)) : Type 0 where
  pub settings_is : new.settings ≡ settings
  pub bucket_is : new.bucket ≡ b
  pub runs : List (List Entry)
  pub each : AllByRecursion (IsEntryRun settings b) runs
  pub payloads_are : payloads ≡ map entries_bytes runs
  pub joined : new.entries.items ≡ old.entries.items ++ entries_in runs

pub gathered : (settings : Settings) (b : ℕ) (old new : GatheringVisitor) (at : ℕ) (payloads : List (List ℕ)) → old.settings ≡ settings → old.bucket ≡ b
    → TakesAll Gathers old (placed_from at payloads) new
    → Gathered settings b old new payloads
gathered settings b old new at [] s k is = record {
  settings_is = ap (λ (g : GatheringVisitor). g.settings) is ∙ s;
  bucket_is = ap (λ (g : GatheringVisitor). g.bucket) is ∙ k;
  runs = [];
  each = tt;
  payloads_are = refl;
  joined = ap (λ (g : GatheringVisitor). g.entries.items) is ∙ sym (append-nil old.entries.items);
}
gathered settings b old new at (payload ∷ payloads) s k took =
    let mid = took.0 in
    let one = took.1 in
    let rest = gathered settings b mid new (at + length (record_text payload)) payloads (one.0 ∙ s) (one.1 ∙ k) took.2 in
    let run = one.2.0 in
    record {
      settings_is = rest.settings_is;
      bucket_is = rest.bucket_is;
      runs = run ∷ rest.runs;
      each = (rw (s, k) at one.2.1, rest.each);
      payloads_are = ap (λ p. p ∷ payloads) one.2.2 ∙ ap (λ l. entries_bytes run ∷ l) rest.payloads_are;
      joined = rest.joined ∙ ap (λ l. l ++ entries_in rest.runs) one.2.3 ∙ append_assoc old.entries.items run (entries_in rest.runs);
    }

-- ---- how far they reach in the file
-- runs up to a place, and what stands there
pub record Reached (settings : Settings) (b from : ℕ) (file : List ℕ) (old new : GatheringVisitor) (at : ℕ) : Type 0 where
  pub runs : List (List Entry)
  pub behind : List ℕ
  pub has : HasRunsTo settings b from file runs at behind
  pub joined : new.entries.items ≡ old.entries.items ++ entries_in runs

split_at : (n : ℕ) (bytes front : List ℕ) → n ≤ length bytes → take n bytes ≡ front → (bytes ≡ front ++ drop n bytes) × (n ≡ length front)
split_at n bytes front within is = (
  sym (take-append-drop n bytes) ∙ ap (λ l. l ++ drop n bytes) is,
  sym (length-take-le n bytes within) ∙ ap length is,
)

reached_by : (settings : Settings) (b from at n : ℕ) (file : List ℕ) (old new : GatheringVisitor) (closed : Bool) → old.settings ≡ settings → old.bucket ≡ b → at ≡ from + n
    → HandsOver Gathers old new from n closed (drop from file) → Reached settings b from file old new at
reached_by settings b from at n file old new closed s k place handed =
    let g = gathered settings b old new from handed.payloads s k handed.took in
    let texts = ap records_text g.payloads_are in
    let parts = split_at n (drop from file) (records_text handed.payloads) handed.within handed.front in
    record {
      runs = g.runs;
      behind = drop n (drop from file);
      has = record {
        bytes = parts.0 ∙ ap (λ l. l ++ drop n (drop from file)) texts;
        each = g.each;
        place = place ∙ ap (λ m. from + m) (parts.1 ∙ ap length texts);
      };
      joined = g.joined;
    }

pub stopped : (settings : Settings) (b from at : ℕ) (file : List ℕ) (old new : GatheringVisitor) (closed : Bool) → old.settings ≡ settings → old.bucket ≡ b
    → StopsAt Gathers old new from closed (drop from file) at → Reached settings b from file old new at
stopped settings b from at file old new closed s k stops = reached_by settings b from at stops.count file old new closed s k stops.place stops.handed

-- no call was made
pub reached_none : (settings : Settings) (b from at : ℕ) (file : List ℕ) (old new : GatheringVisitor) → from ≡ at → new ≡ old → Reached settings b from file old new at
reached_none settings b from at file old new place same = record {
  runs = [];
  behind = drop from file;
  has = record { bytes = refl; each = tt; place = sym place ∙ (let e : from ≡ from + 0 = omega arith in e) };
  joined = ap (λ (g : GatheringVisitor). g.entries.items) same ∙ sym (append-nil old.entries.items);
}

-- ---- where they end too early
pub cut_short_there : (settings : Settings) (b from at : ℕ) (file : List ℕ) (old new : GatheringVisitor) (s : old.settings ≡ settings) (k : old.bucket ≡ b)
    (stops : StopsAt Gathers old new from false (drop from file) at) → IsCutShort (stopped settings b from at file old new false s k stops).behind
unfolding stopped reached_by
cut_short_there settings b from at file old new s k stops = stops.handed.cut_short refl

pub closed_there : (settings : Settings) (b from at : ℕ) (file : List ℕ) (old new : GatheringVisitor) (s : old.settings ≡ settings) (k : old.bucket ≡ b)
    (stops : StopsAt Gathers old new from true (drop from file) at) → IsClosed (stopped settings b from at file old new true s k stops).behind
unfolding stopped reached_by
closed_there settings b from at file old new s k stops = stops.handed.ended refl

-- a record that was refused is no run
pub refused_there : (settings : Settings) (b from at : ℕ) (file : List ℕ) (old new : GatheringVisitor) → old.settings ≡ settings → old.bucket ≡ b
    → RefusesAt Gathers Refuses old new from (drop from file) at
    → (runs : List (List Entry)) × ((behind : List ℕ) × (HasRunsTo settings b from file runs at behind × IsNoRun settings b behind))
refused_there settings b from at file old new s k refuses =
    let g = gathered settings b old refuses.reached from refuses.payloads s k refuses.took in
    let texts = ap records_text g.payloads_are in
    let behind : List ℕ = (open_gate ∷ body_text refuses.payload) ++ refuses.behind in (
      g.runs,
      (
        behind,
        (
          record {
            bytes = refuses.bytes_are ∙ append_assoc (records_text refuses.payloads) (open_gate ∷ body_text refuses.payload) refuses.behind ∙ ap (λ l. l ++ behind) texts;
            each = g.each;
            place = refuses.place_is ∙ ap (λ (l : List ℕ). from + length l) texts;
          },
          record {
            payload = refuses.payload;
            behind = refuses.behind;
            bytes_are = refl;
            none = rw (g.settings_is, g.bucket_is) at refuses.refused;
          },
        ),
      ),
    )

-- ---- a bucket with a list
run_entries : (run : List Tuple) → run_bytes run ≡ entries_bytes (map entry_of_offer run)
run_entries [] = refl
run_entries (o ∷ run) = ap (λ l. entry_bytes (entry_of_offer o) ++ l) (run_entries run)

offers_room : (run : List Tuple) → AllByRecursion IsOffer run → AllByRecursion HasRoom (map entry_of_offer run)
offers_room [] h = tt
offers_room (o ∷ run) h = (record { key = h.0.key; value = h.0.value; from = h.0.from; aux = h.0.aux }, offers_room run h.1)

-- the runs of a list, of which the journal has the records
pub same_runs : (settings : Settings) (b : ℕ) (lists : List (List Tuple)) (runs : List (List Entry)) → AllByRecursion (AllByRecursion IsOffer) lists → AllByRecursion (IsEntryRun settings b) runs
    → map run_bytes lists ≡ map entries_bytes runs → entries_in runs ≡ map entry_of_offer (flat_map (λ run. run) lists)
same_runs settings b [] [] l r e = refl
same_runs settings b [] (run ∷ runs) l r e = cc
same_runs settings b (list ∷ lists) [] l r e = cc
same_runs settings b (list ∷ lists) (run ∷ runs) l r e =
    let first : run_bytes list ≡ entries_bytes run = cc in
    let others : map run_bytes lists ≡ map entries_bytes runs = cc in
    let same : run ≡ map entry_of_offer list = same_entries run (map entry_of_offer list) (each_room settings.buckets b run r.0.each) (offers_room list l.0) (sym first ∙ run_entries list) in
    ap (λ (x : List Entry). x ++ entries_in runs) same ∙ ap (λ (x : List Entry). map entry_of_offer list ++ x) (same_runs settings b lists runs l.1 r.1 others)
    ∙ sym (map-append entry_of_offer list (flat_map (λ run. run) lists))

all_behind : {X : Type 0} (P : X → Type 0) (xs ys : List X) → AllByRecursion P (xs ++ ys) → AllByRecursion P ys
all_behind P [] ys h = h
all_behind P (x ∷ xs) ys h = all_behind P xs ys h.1

all_front : {X : Type 0} (P : X → Type 0) (xs ys : List X) → AllByRecursion P (xs ++ ys) → AllByRecursion P xs
all_front P [] ys h = tt
all_front P (x ∷ xs) ys h = (h.0, all_front P xs ys h.1)

all_runs : {X : Type 0} (P : X → Type 0) (lists : List (List X)) → AllByRecursion P (flat_map (λ list. list) lists) → AllByRecursion (AllByRecursion P) lists
all_runs P [] h = tt
all_runs P (list ∷ lists) h = (all_front P list (flat_map (λ l. l) lists) h, all_runs P lists (all_behind P list (flat_map (λ l. l) lists) h))

drop-map : {X Y : Type 0} (f : X → Y) (n : ℕ) (xs : List X) → drop n (map f xs) ≡ map f (drop n xs)
drop-map f zero xs = refl
drop-map f (suc n) [] = refl
drop-map f (suc n) (x ∷ xs) = drop-map f n xs

module _ (images : Files → Type 0) (settings : Settings) (b cut : ℕ) (bucket : Bucket) (list : List Tuple) (holds : HoldsBucket images settings.array cut bucket list) where
  -- the list, cut at the first pending offer's run
  pub joined_list : list ≡ flat_map (λ run. run) holds.before ++ flat_map (λ run. run) holds.behind
  joined_list = holds.are.joined ∙ flat_map-append (λ (run : List Tuple). run) holds.before holds.behind

  pub pending_offers : AllByRecursion (AllByRecursion IsOffer) holds.behind
  pending_offers = all_runs IsOffer holds.behind (all_behind IsOffer (flat_map (λ run. run) holds.before) (flat_map (λ run. run) holds.behind)
      (subst (AllByRecursion IsOffer) joined_list holds.are.offers))

  -- the records of its journal
  pub ends_there : (image : Files) → images image → Ends bucket.journal.end (image bucket.journal.file) (map run_bytes holds.before ++ map run_bytes holds.behind)
  ends_there image now = subst (Ends bucket.journal.end (image bucket.journal.file)) (map-append run_bytes holds.before holds.behind) (holds.journal image now)

  pub gathered_list : (old new : GatheringVisitor) → old.settings ≡ settings → old.bucket ≡ b → old.entries.items ≡ [] → TakesAll Gathers old (placed_from bucket.gate (map run_bytes holds.behind)) new
      → AreEntriesFrom bucket.skip cut list new.entries.items
  gathered_list old new s k none took =
      let g = gathered settings b old new bucket.gate (map run_bytes holds.behind) s k took in
      let behind = flat_map (λ (run : List Tuple). run) holds.behind in
      let before = flat_map (λ (run : List Tuple). run) holds.before in
      let all : new.entries.items ≡ map entry_of_offer behind = g.joined ∙ ap (λ (l : List Entry). l ++ entries_in g.runs) none
      ∙ same_runs settings b holds.behind g.runs pending_offers g.each g.payloads_are in
      let size = ap length all ∙ length-map behind entry_of_offer in
      let long = ap length joined_list ∙ length-append before behind in
      record {
        entries_are = ap (drop bucket.skip) all ∙ drop-map entry_of_offer bucket.skip behind
            ∙ ap (map entry_of_offer) (sym (ap (drop cut) joined_list ∙ ap (λ n. drop n (before ++ behind)) (sym holds.skip) ∙ drop-append-add before behind bucket.skip));
        count = omega (arith, size, long, holds.skip);
      }

-- no record of a list's pending runs is refused
all_entries : (buckets b : ℕ) (run : List Tuple) → AllByRecursion IsOffer run → AllByRecursion (λ offer. bucket_of buckets offer.key ≡ b) run
    → AllByRecursion (IsEntryOf buckets b) (map entry_of_offer run)
all_entries buckets b [] h k = tt
all_entries buckets b (o ∷ run) h k = (record { key = h.0.key; value = h.0.value; from = h.0.from; aux = h.0.aux; bucket = k.0 }, all_entries buckets b run h.1 k.1)

pub refuses_none : (settings : Settings) (b : ℕ) (lists : List (List Tuple)) (first : List (List ℕ)) (payload : List ℕ) (more : List (List ℕ)) → AllByRecursion (IsRun settings.array) lists
    → AllByRecursion (AllByRecursion IsOffer) lists → AllByRecursion (AllByRecursion (λ offer. bucket_of settings.buckets offer.key ≡ b)) lists
    → map run_bytes lists ≡ first ++ payload ∷ more → ((run : List Entry) → IsEntryRun settings b run → payload ≡ entries_bytes run → ⊥) → ⊥
refuses_none settings b [] [] payload more sizes offers buckets is none = cc
refuses_none settings b [] (p ∷ first) payload more sizes offers buckets is none = cc
refuses_none settings b (list ∷ lists) [] payload more sizes offers buckets is none =
    let same : run_bytes list ≡ payload = cc in
    let long = length-map list entry_of_offer in
    none (map entry_of_offer list) (record { some = omega (arith, long, sizes.0.0); few = omega (arith, long, sizes.0.1); each = all_entries settings.buckets b list offers.0 buckets.0 }) (sym same
    ∙ run_entries list)
refuses_none settings b (list ∷ lists) (p ∷ first) payload more sizes offers buckets is none =
    let others : map run_bytes lists ≡ first ++ payload ∷ more = cc in
    refuses_none settings b lists first payload more sizes.1 offers.1 buckets.1 others none

-- ---- a bucket's journal, gathered from its first pending offer's gate on
module _ (settings : Settings) (b : ℕ) (bucket : Bucket) (files : Files) (old new : GatheringVisitor) (s : old.settings ≡ settings) (k : old.bucket ≡ b) (none : old.entries.items ≡ []) where
  reaches : Reached settings b bucket.gate (files bucket.journal.file) old new bucket.journal.end → HasEntries settings b bucket files new.entries.items
  reaches reached = record {
    runs = reached.runs;
    behind = reached.behind;
    has = reached.has;
    joined = reached.joined ∙ ap (λ (l : List Entry). l ++ entries_in reached.runs) none;
  }

  above_or_at : (x y : ℕ) → x ≤ y → (x < y) ⊎ (x ≡ y)
  above_or_at x y h = grind arith

  pub gate_found : bucket.gate ≤ bucket.journal.end → (bucket.gate < bucket.journal.end → StopsAt Gathers old new bucket.gate true (drop bucket.gate (files bucket.journal.file)) bucket.journal.end)
      → (bucket.gate ≡ bucket.journal.end → new ≡ old) → HasEntries settings b bucket files new.entries.items
  gate_found within stops idle = ⊎_elim
      (λ (lt : bucket.gate < bucket.journal.end). reaches (stopped settings b bucket.gate bucket.journal.end (files bucket.journal.file) old new true s k (stops lt)))
      (λ (same : bucket.gate ≡ bucket.journal.end). reaches (reached_none settings b bucket.gate bucket.journal.end (files bucket.journal.file) old new same (idle same)))
      (above_or_at bucket.gate bucket.journal.end within)

  pub spoilt_there : (at : ℕ) → StopsAt Gathers old new bucket.gate false (drop bucket.gate (files bucket.journal.file)) at
      ⊎ (StopsAt Gathers old new bucket.gate true (drop bucket.gate (files bucket.journal.file)) at × (at ≢ bucket.journal.end))
      ⊎ RefusesAt Gathers Refuses old new bucket.gate (drop bucket.gate (files bucket.journal.file)) at → IsSpoiltJournal settings b bucket files at
  spoilt_there at (inl stops) =
      let reached = stopped settings b bucket.gate at (files bucket.journal.file) old new false s k stops in
      record { runs = reached.runs; behind = reached.behind; has = reached.has; why = inl (cut_short_there settings b bucket.gate at (files bucket.journal.file) old new s k stops) }
  spoilt_there at (inr (inl both)) =
      let reached = stopped settings b bucket.gate at (files bucket.journal.file) old new true s k both.0 in
      record { runs = reached.runs; behind = reached.behind; has = reached.has; why = inr (inr (closed_there settings b bucket.gate at (files bucket.journal.file) old new s k both.0, both.1)) }
  spoilt_there at (inr (inr refuses)) =
      let there = refused_there settings b bucket.gate at (files bucket.journal.file) old new s k refuses in
      record { runs = there.0; behind = there.1.0; has = there.1.1.0; why = inr (inl there.1.1.1) }

  -- where the bucket has a list, only a record that is a run could be refused
  pub none_refused : (images : Files → Type 0) (cut at : ℕ) (list : List Tuple) (holds : HoldsBucket images settings.array cut bucket list)
      → AllByRecursion (λ offer. bucket_of settings.buckets offer.key ≡ b) list → RefusesOneFrom Gathers Refuses old new bucket.gate (map run_bytes holds.behind) at → ⊥
  none_refused images cut at list holds buckets refuses =
      let g = gathered settings b old refuses.reached bucket.gate refuses.first s k refuses.took in
      let before = flat_map (λ (run : List Tuple). run) holds.before in
      let behind = flat_map (λ (run : List Tuple). run) holds.behind in
      let joined = joined_list images settings b cut bucket list holds in
      refuses_none settings b holds.behind refuses.first refuses.payload refuses.more
      (all_behind (IsRun settings.array) holds.before holds.behind holds.are.sizes)
      (pending_offers images settings b cut bucket list holds)
      (all_runs (λ (o : Tuple). bucket_of settings.buckets o.key ≡ b) holds.behind
      (all_behind (λ (o : Tuple). bucket_of settings.buckets o.key ≡ b) before behind (subst (AllByRecursion (λ (o : Tuple). bucket_of settings.buckets o.key ≡ b)) joined buckets)))
      refuses.among
      (rw (g.settings_is, g.bucket_is) at refuses.refused)
