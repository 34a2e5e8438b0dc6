use Rattle.std.proofs.Common.{rules, ◌≡◌, ◌∙◌, ◌+◌, ◌-◌, ◌++◌, ◌∷◌, ◌<◌, ℕ, zero, suc, List, [], Bool, Some, map, refl, inl, inr, true, false, take, drop, get_or, length, length-drop, sym, ap, subst, arith}
use Rattle.std.specs.Prelude.{◌↔◌, IsTrue}
use Rattle.std.specs.List.{All, AllByRecursion}
use Rattle.irl_offer.specs.Buckets.{bucket_of}
use Rattle.irl_offer.specs.declared.entry.Entry.{Entry}
use Rattle.irl_offer.specs.declared.settings.Settings.{Settings}
use Rattle.irl_disk.specs.Disk.{Files}
use Rattle.irl_layout.specs.EntryRuns.{IsEntryOf, IsEntryRun, entries_in, text_length}
use Rattle.irl_bay.specs.Pending.{HasEntries, IsSpoiltJournal}
use Rattle.irl_bay.specs.declared.bucket.Bucket.{Bucket}
use Rattle.irl_bay.proofs.PendingTexts.{length-texts, tail_slice, texts_held}
use Rattle.irl_layout.specs.Runs.{run_bytes}
use Rattle.irl_offer.specs.Tuple.{Tuple}
use Rattle.irl_bay.specs.Holding.{HoldsBucket}
use Rattle.irl_bay.proofs.Gathered.{AreEntriesFrom, gate_found, spoilt_there, none_refused, ends_there, gathered_list}
use Rattle.irl_bay.proofs.bucket.Bucket.pending.Given.{Over}
use Rattle.irl_bay.proofs.bucket.Bucket.pending.Goals as goal
use Rattle.irl_bay.proofs.bucket.Bucket.pending.Goals.{In-Ok}

-- a record is refused
pub returns-in-Err-Damaged : goal.returns-in-Err-Damaged
returns-in-Err-Damaged g c =
    let settings = c.args.settings.now in
    let bucket = c.args.self.now in
    let refused = c.in-Err-Damaged.ensures.damaged c.in-Err-Damaged.at (search rules) in
    record {
      count = search rules;
      texts = search rules;
      here = search rules;
      held = search rules;
      damaged = λ f at e files tells.
          let spoilt = spoilt_there settings c.args.b bucket files _ c.revisit.new.visitor refl refl c.in_ok-with_capacity.ensures.items c.in-Err-Damaged.at (refused files tells).why in
          let here : c.file.result ≡ f = cc in
          let place : c.in-Err-Damaged.at ≡ at = cc in
          inl (sym here ∙ c.file.ensures.value, subst (IsSpoiltJournal settings c.args.b bucket files) place spoilt);
      whole = λ f at e files tells cut list holds buckets count.
          let now = (g.met.S.Store.is_consistent c.args.store.now).told files tells in
          let images = (g.S.Store.told c.args.store.now).images in
          none_refused settings c.args.b bucket files _ c.revisit.new.visitor refl refl c.in_ok-with_capacity.ensures.items images cut c.in-Err-Damaged.at list holds buckets
          ((refused files tells).refused (map run_bytes holds.before) (map run_bytes holds.behind) (ends_there images settings c.args.b cut bucket list holds files now) holds.gate);
      full = search rules;
      reads = search rules;
    }

-- the entries that were gathered
found : (g : Over) (c : In-Ok g) (files : Files) → (g.S.Store.told c.args.store.now).files ≡ Some files
    → HasEntries c.args.settings.now c.args.b c.args.self.now files c.revisit.new.visitor.entries.items
found g c files tells = gate_found c.args.settings.now c.args.b c.args.self.now files _ c.revisit.new.visitor refl refl c.in_ok-with_capacity.ensures.items c.requires.gate
    ((c.in-Ok.ensures.revisited files tells).found) (λ same. (c.in-Ok.ensures.idle same).2)

-- are those of the bucket's list
held : (g : Over) (c : In-Ok g) (files : Files) → (g.S.Store.told c.args.store.now).files ≡ Some files → (cut : ℕ) (list : List Tuple)
    → HoldsBucket (g.S.Store.told c.args.store.now).images c.args.settings.now.array cut c.args.self.now list → AreEntriesFrom c.args.self.now.skip cut list c.revisit.new.visitor.entries.items
held g c files tells cut list holds =
    let now = (g.met.S.Store.is_consistent c.args.store.now).told files tells in
    let images = (g.S.Store.told c.args.store.now).images in
    gathered_list images c.args.settings.now c.args.b cut c.args.self.now list holds _ c.revisit.new.visitor refl refl c.in_ok-with_capacity.ensures.items
    ((c.in-Ok.ensures.revisited files tells).records (map run_bytes holds.before) (map run_bytes holds.behind)
    (ends_there images c.args.settings.now c.args.b cut c.args.self.now list holds files now) holds.gate)

-- they are not as many as wait
pub returns-then-ne : goal.returns-then-ne
returns-then-ne g c =
    let entries = c.revisit.new.visitor.entries.items in
    let at = (goal.at.returns-then-ne g c).In-Ok in
    let other : length entries ≡ c.args.self.now.skip + c.args.count → ⊥ = search rules in
    record {
      count = search rules;
      texts = search rules;
      here = search rules;
      held = search rules;
      damaged = λ f place e files tells.
          let here : c.file-then-ne.result ≡ f = cc in
          let gate : c.args.self.now.gate ≡ place = cc in
          inr (inl (sym here ∙ c.file-then-ne.ensures.value, sym gate, record { entries = entries; has = found g at files tells; other = other }));
      whole = λ f place e files tells cut list holds buckets count. other (omega (arith, (held g at files tells cut list holds).count, count));
      full = search rules;
      reads = search rules;
    }

each_all : (P : Entry → Type 0) (l : List Entry) → AllByRecursion P l → (k : ℕ) (d : Entry) → k < length l → P (get_or l k d)
each_all P [] all k d lt = absurd (omega arith)
each_all P (e ∷ l) all zero d lt = all.0
each_all P (e ∷ l) all (suc k) d lt = each_all P l all.1 k d (omega arith)

-- entries of the bucket's runs are of the bucket
no_other : (settings : Settings) (b skip : ℕ) (bucket : Bucket) (files : Files) (entries : List Entry) (slice : List Entry) (is_of : Bool) → HasEntries settings b bucket files entries
    → slice ≡ drop skip entries → IsTrue is_of ↔ All (λ entry. bucket_of settings.buckets entry.key ≡ b) slice → is_of ≡ false → ⊥
no_other settings b skip bucket files entries slice is_of has is tells not =
    let all = each_all (λ (e : Entry). bucket_of settings.buckets e.key ≡ b) slice
    (subst (AllByRecursion (λ (e : Entry). bucket_of settings.buckets e.key ≡ b)) (sym is)
    (each_drop skip entries (subst (AllByRecursion (λ (e : Entry). bucket_of settings.buckets e.key ≡ b)) (sym has.joined) (in_runs has.runs has.has.each)))) in
    contrary is_of not (tells.1 all)
  where
    false_is_not : IsTrue false → ⊥
    false_is_not is = search rules

    contrary : (t : Bool) → t ≡ false → IsTrue t → ⊥
    contrary true e is = cc
    contrary false e is = false_is_not is

    both : {X : Type 0} (P : X → Type 0) (xs ys : List X) → AllByRecursion P xs → AllByRecursion P ys → AllByRecursion P (xs ++ ys)
    both P [] ys one two = two
    both P (x ∷ xs) ys one two = (one.0, both P xs ys one.1 two)

    in_run : (run : List Entry) → AllByRecursion (IsEntryOf settings.buckets b) run → AllByRecursion (λ (e : Entry). bucket_of settings.buckets e.key ≡ b) run
    in_run [] each = tt
    in_run (e ∷ run) each = (each.0.bucket, in_run run each.1)

    in_runs : (runs : List (List Entry)) → AllByRecursion (IsEntryRun settings b) runs → AllByRecursion (λ (e : Entry). bucket_of settings.buckets e.key ≡ b) (entries_in runs)
    in_runs [] each = tt
    in_runs (run ∷ runs) each = both (λ (e : Entry). bucket_of settings.buckets e.key ≡ b) run (entries_in runs) (in_run run each.0.each) (in_runs runs each.1)

    each_drop : (n : ℕ) (l : List Entry) → AllByRecursion (λ (e : Entry). bucket_of settings.buckets e.key ≡ b) l → AllByRecursion (λ (e : Entry). bucket_of settings.buckets e.key ≡ b) (drop n l)
    each_drop zero l all = all
    each_drop (suc n) [] all = tt
    each_drop (suc n) (e ∷ l) all = each_drop n l all.1

-- one is of another bucket
pub returns-then-not-are_of : goal.returns-then-not-are_of
returns-then-not-are_of g c =
    let at = (goal.at.returns-then-not-are_of g c).In-Ok in
    let none : (files : Files) → (g.S.Store.told c.args.store.now).files ≡ Some files → ⊥ = λ files tells.
    no_other c.args.settings.now c.args.b c.args.self.now.skip c.args.self.now files c.revisit.new.visitor.entries.items _ c.are_of.result (found g at files tells)
    (tail_slice c.args.self.now.skip c.deref.result.now ∙ ap (drop c.args.self.now.skip) c.deref.ensures.value) c.are_of.ensures c.if-not-are_of.true in
    record {
      count = search rules;
      texts = search rules;
      here = search rules;
      held = search rules;
      damaged = λ f place e files tells. absurd (none files tells);
      whole = λ f place e files tells cut list holds buckets count. none files tells;
      full = search rules;
      reads = search rules;
    }

-- their texts have another length
pub returns-then-not-have_length : goal.returns-then-not-have_length
returns-then-not-have_length g c =
    let bucket = c.args.self.now in
    let entries = c.revisit.new.visitor.entries.items in
    let at = (goal.at.returns-then-not-have_length g c).In-Ok in
    let tail : take (length c.deref-2.result.now - bucket.skip) (drop bucket.skip c.deref-2.result.now) ≡ drop bucket.skip entries = tail_slice bucket.skip c.deref-2.result.now
    ∙ ap (drop bucket.skip) c.deref-2.ensures.value in
    let other : text_length (drop bucket.skip entries) ≡ bucket.aux.length - bucket.text → ⊥ = λ same.
    contrary c.have_length.result c.if-not-have_length.true
    (c.have_length.ensures.1 (ap text_length tail ∙ same ∙ ap (λ (n : ℕ). n - bucket.text) (sym c.length.ensures))) in
    record {
      count = search rules;
      texts = search rules;
      here = search rules;
      held = search rules;
      damaged = λ f place e files tells.
          let here : c.file-then-not-have_length.result ≡ f = cc in
          let text : bucket.text ≡ place = cc in
          inr (inr (sym here ∙ c.file-then-not-have_length.ensures.value, sym text, record { entries = entries; has = found g at files tells; other = other }));
      whole = λ f place e files tells cut list holds buckets count.
          let now = (g.met.S.Store.is_consistent c.args.store.now).told files tells in
          let texts = texts_held list cut bucket.text bucket.aux.length (files bucket.aux.file) holds.text holds.aux.size (holds.aux.each files now) in
          other (ap text_length (held g at files tells cut list holds).entries_are ∙ sym (length-texts (drop cut list)) ∙ sym texts.1);
      full = search rules;
      reads = search rules;
    }
  where
    false_is_not : IsTrue false → ⊥
    false_is_not is = search rules

    contrary : (t : Bool) → t ≡ false → IsTrue t → ⊥
    contrary true e is = cc
    contrary false e is = false_is_not is

-- all is well
pub returns : goal.returns
returns g c =
    let bucket = c.args.self.now in
    let entries = c.revisit.new.visitor.entries.items in
    let at = (goal.at.returns g c).In-Ok in
    let all : length entries ≡ bucket.skip + c.args.count = search rules in
    let are : IsTrue c.are_of.result = search rules in
    let fit : IsTrue c.have_length.result = search rules in
    let tail = tail_slice bucket.skip c.deref.result.now ∙ ap (drop bucket.skip) c.deref.ensures.value in
    let tail-2 = tail_slice bucket.skip c.deref-2.result.now ∙ ap (drop bucket.skip) c.deref-2.ensures.value in
    record {
      count = omega (arith, all, length-drop bucket.skip entries);
      texts = ap text_length (sym tail-2) ∙ c.have_length.ensures.0 fit ∙ ap (λ (n : ℕ). n - bucket.text) c.length.ensures;
      here = subst (All (λ (entry : Entry). bucket_of c.args.settings.now.buckets entry.key ≡ c.args.b)) tail (c.are_of.ensures.0 are);
      held = λ files tells cut list holds. sym (held g at files tells cut list holds).entries_are;
      damaged = search rules;
      whole = search rules;
      full = search rules;
      reads = search rules;
    }
