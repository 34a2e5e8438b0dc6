-- The texts go behind the bucket's others, and then the record: all else of the bay stays.
use Rattle.std.proofs.Common.{◌≡◌, ◌∙◌, ℕ, ◌+◌, List, ◌++◌, true, false, length, set, refl, sym, ap, subst, arith, rules}
use Rattle.irl_bay.specs.declared.bucket.Bucket.{Bucket}
use Rattle.irl_bay.specs.Drum.{Drum, IsDrum, KeepsCounts, CountsFlush, bucket_at, durables}
use Rattle.std.specs.Option.{ForSome}
use Rattle.irl_layout.specs.Runs.{run_bytes, texts_of}
use Rattle.irl_bay.specs.Holding.{Holds, HoldsBucket, IsLong}
use Rattle.irl_bay.specs.Flushing.{Gains}
use Rattle.irl_offer.specs.Tuple.{Tuple}
use Rattle.irl_journal.specs.Blob.{Front}
use Rattle.std.specs.Prelude.{IsErr}
use Rattle.irl_bay.proofs.Staying.{tells_one}
use Rattle.irl_model.specs.Book.{flushed}
use Rattle.irl_bay.proofs.Flushing.{Grows, with_bucket, grown_drum, durables_more, durables_kept, flush_holds, stops_none, is_bucket, bucket_here, leaves_named, tells_named, flush_long, flush_leaves, gained_none, on_err, apart_bucket, long_bucket}
use Rattle.irl_bay.proofs.Bucketing.{still_within, HasAppended, left_by_texts, left_by_both, holds_both, gains_both, long_both}
use Rattle.irl_bay.proofs.bay.Bay.flush.Given.{Over}
use Rattle.irl_bay.proofs.HeldBuckets.{same_bucket}
use Rattle.std.proofs.lemmas.Grind.{common_steps}
use Rattle.irl_bay.proofs.bay.Bay.flush.Goals as goal
use Rattle.irl_bay.proofs.bay.Bay.flush.Goals.{After-append-2}

-- nothing is done
pub returns-then-from-left-clause-leaves : goal.returns-then-from-left-clause-leaves
returns-then-from-left-clause-leaves g c =
    let law = subst IsDrum c.self.view_is c.self.invariant in
    let tells = g.S.Store.told c.args.store.now in
    let consistent = g.met.S.Store.is_consistent c.args.store.now in
    record {
      stops = λ book holds. stops_none c.args.self.now _ book _ tells law consistent holds;
      gains = λ payloads is_open.
          gained_none c.args.self.now c.args.b payloads (run_bytes c.args.array.now.items) tells law c.requires.offers.bucket consistent is_open;
      others = search rules;
    }

pub returns-in_err-run-clause-leaves : goal.returns-in_err-run-clause-leaves
returns-in_err-run-clause-leaves g c =
    let law = subst IsDrum c.self.view_is c.self.invariant in
    let tells = g.S.Store.told c.args.store.now in
    let consistent = g.met.S.Store.is_consistent c.args.store.now in
    record {
      stops = λ book holds. stops_none c.args.self.now _ book _ tells law consistent holds;
      gains = λ payloads is_open.
          gained_none c.args.self.now c.args.b payloads (run_bytes c.args.array.now.items) tells law c.requires.offers.bucket consistent is_open;
      others = search rules;
    }

-- the bucket's files are as long as what is committed of them
pub append-requires : goal.append-requires
append-requires g c = λ files told.
    let drum = c.args.self.now in
    let b = c.args.b in
    let bucket = c.index_mut-bucket.result.now in
    let law = subst IsDrum c.self.view_is c.self.invariant in
    let was = is_bucket drum _ b bucket c.self.view_is law c.requires.offers.bucket c.index_mut-bucket.ensures.value in
    (long_bucket drum b bucket _ c.requires.offers.bucket was c.requires.long files told).aux

pub append-requires-2-clause-place : goal.append-requires-2-clause-place
append-requires-2-clause-place g c =
    let drum = c.args.self.now in
    let b = c.args.b in
    let bucket = c.index_mut-bucket.result.now in
    let law = subst IsDrum c.self.view_is c.self.invariant in
    let was = is_bucket drum _ b bucket c.self.view_is law c.requires.offers.bucket c.index_mut-bucket.ensures.value in
    still_within (λ f. f ≡ bucket.aux.file) bucket.journal _ _ (tells_one (λ f. f ≡ bucket.aux.file) bucket.aux.file _ _ _ refl c.append.ensures.changes.told)
    (apart_bucket drum b bucket law c.requires.offers.bucket was) (λ files told. (long_bucket drum b bucket _ c.requires.offers.bucket was c.requires.long files told).journal)

-- the texts are there
appended : (g : Over) (c : After-append-2 g) → HasAppended c.index_mut-bucket.result.now c.append.new.self c.args.array.now.items c.deref.result.now (IsErr c.append.result)
    (g.S.Store.told c.args.store.now) (g.S.Store.told c.append.new.store)
appended g c =
    let drum = c.args.self.now in
    let b = c.args.b in
    let bucket = c.index_mut-bucket.result.now in
    let law = subst IsDrum c.self.view_is c.self.invariant in
    let was = is_bucket drum _ b bucket c.self.view_is law c.requires.offers.bucket c.index_mut-bucket.ensures.value in
    record {
      apart = apart_bucket drum b bucket law c.requires.offers.bucket was;
      offers = rw c.items.ensures.value at c.in_ok-run.ensures.offers;
      are = c.deref.ensures.value ∙ c.in_ok-run.ensures.texts ∙ ap texts_of c.items.ensures.value;
      law = g.met.S.Store.is_consistent c.append.new.store;
      file = c.append.ensures.file;
      end = c.in_ok-append.ensures.length;
      committed = c.in_ok-append.ensures.committed;
      bytes = c.in_ok-append.ensures.bytes;
      changes = c.append.ensures.changes;
    }

-- the texts are refused
pub invariant_of-self : goal.invariant_of-self
invariant_of-self g c =
    let drum = c.args.self.now in
    let b = c.args.b in
    let bucket = c.index_mut-bucket.result.now in
    let law = subst IsDrum c.self.view_is c.self.invariant in
    let was = is_bucket drum _ b bucket c.self.view_is law c.requires.offers.bucket c.index_mut-bucket.ensures.value in
    let new = record bucket { aux = c.append.new.self } in
    let grown : Grows bucket new = record {
      journal = refl;
      aux = c.append.ensures.file;
      durable = omega arith;
      end = omega arith;
      length = omega (arith, ap (λ (blob : Front). blob.length) c.in_err-append.ensures.kept);
      start = refl;
      gate = refl;
      text = refl;
    } in
    subst IsDrum (sym (ap (λ (d : Drum). with_bucket d false b new) c.self.view_is))
    (grown_drum drum false b new law c.requires.offers.bucket (λ no. absurd (cc)) (λ no. absurd (cc)) (subst (λ (one : Bucket). Grows one new) was grown))

pub returns-in_err-append-clause-refused : goal.returns-in_err-append-clause-refused
returns-in_err-append-clause-refused g c =
    let drum = c.args.self.now in
    let b = c.args.b in
    let bucket = c.index_mut-bucket.result.now in
    let law = subst IsDrum c.self.view_is c.self.invariant in
    let was = is_bucket drum _ b bucket c.self.view_is law c.requires.offers.bucket c.index_mut-bucket.ensures.value in
    let new = record bucket { aux = c.append.new.self } in
    let long : length c.self.inside.buckets.items ≡ length drum.buckets = ap (λ (d : Drum). length d.buckets) c.self.view_is in
    let read : c.index.result.now ≡ bucket_at drum b = same_bucket c.self.inside.buckets.items b c.index.result.now (omega (arith, long, law.count, c.requires.offers.bucket)) c.index.ensures
    ∙ ap (λ (d : Drum). bucket_at d b) c.self.view_is in
    let durable = ap (λ (one : Bucket). one.durable) read in
    let cap = ap (λ (d : Drum). d.settings.cap) c.self.view_is in
    let kept : KeepsCounts drum (with_bucket drum false b new) =
    record { base = refl; settings = refl; last = refl; cuts = refl; offers = durables_kept drum false b new (ap (λ (one : Bucket). one.durable) was) } in
    record {
      counts = on_err c.from_residual-in_err-append.result _ (subst (KeepsCounts drum) (sym (ap (λ (d : Drum). with_bucket d false b new) c.self.view_is)) kept);
      array = search rules;
      full = search rules;
      full_first = λ over. absurd (omega (arith, over, durable, cap, c.if-from-left.false, c.saturating_sub-left.ensures, c.from.ensures, c.len.ensures));
      damaged = search rules;
      memory_same = search rules;
      full_same = search rules;
    }

pub returns-in_err-append-clause-leaves : goal.returns-in_err-append-clause-leaves
returns-in_err-append-clause-leaves g c =
    let drum = c.args.self.now in
    let b = c.args.b in
    let bucket = c.index_mut-bucket.result.now in
    let law = subst IsDrum c.self.view_is c.self.invariant in
    let was = is_bucket drum _ b bucket c.self.view_is law c.requires.offers.bucket c.index_mut-bucket.ensures.value in
    let old = g.S.Store.told c.args.store.now in
    let new = g.S.Store.told c.append.new.store in
    flush_leaves drum b bucket c.args.array.now.items _ _ old new law was c.requires.offers (rw c.items.ensures.value at c.in_ok-run.ensures.offers)
    (left_by_texts bucket c.args.array.now.items _ (IsErr c.append.result) old new (apart_bucket drum b bucket law c.requires.offers.bucket was)
    (rw c.items.ensures.value at c.in_ok-run.ensures.offers) c.append.ensures.changes (λ is. is)) (search rules)

pub returns-in_err-append-clause-goes_on : goal.returns-in_err-append-clause-goes_on
returns-in_err-append-clause-goes_on g c = record { drum = invariant_of-self g c; sound = search rules; long = λ no. absurd (cc) }

-- the record is refused
pub invariant_of-self-in_err-append-2 : goal.invariant_of-self-in_err-append-2
invariant_of-self-in_err-append-2 g c =
    let drum = c.args.self.now in
    let b = c.args.b in
    let bucket = c.index_mut-bucket.result.now in
    let law = subst IsDrum c.self.view_is c.self.invariant in
    let was = is_bucket drum _ b bucket c.self.view_is law c.requires.offers.bucket c.index_mut-bucket.ensures.value in
    let new = record bucket { journal = c.append-2.new.self; aux = c.append.new.self } in
    let grown : Grows bucket new = record {
      journal = c.append-2.ensures.appends.file;
      aux = c.append.ensures.file;
      durable = omega arith;
      end = omega (arith, c.in_err-append-2.ensures.appends.end_kept);
      length = omega (arith, c.in_ok-append.ensures.length);
      start = refl;
      gate = refl;
      text = refl;
    } in
    subst IsDrum (sym (ap (λ (d : Drum). with_bucket d false b new) c.self.view_is))
    (grown_drum drum false b new law c.requires.offers.bucket (λ no. absurd (cc)) (λ no. absurd (cc)) (subst (λ (one : Bucket). Grows one new) was grown))

pub returns-in_err-append-2-clause-refused : goal.returns-in_err-append-2-clause-refused
returns-in_err-append-2-clause-refused g c =
    let drum = c.args.self.now in
    let b = c.args.b in
    let bucket = c.index_mut-bucket.result.now in
    let law = subst IsDrum c.self.view_is c.self.invariant in
    let was = is_bucket drum _ b bucket c.self.view_is law c.requires.offers.bucket c.index_mut-bucket.ensures.value in
    let new = record bucket { journal = c.append-2.new.self; aux = c.append.new.self } in
    let long : length c.self.inside.buckets.items ≡ length drum.buckets = ap (λ (d : Drum). length d.buckets) c.self.view_is in
    let read : c.index.result.now ≡ bucket_at drum b = same_bucket c.self.inside.buckets.items b c.index.result.now (omega (arith, long, law.count, c.requires.offers.bucket)) c.index.ensures
    ∙ ap (λ (d : Drum). bucket_at d b) c.self.view_is in
    let durable = ap (λ (one : Bucket). one.durable) read in
    let cap = ap (λ (d : Drum). d.settings.cap) c.self.view_is in
    let kept : KeepsCounts drum (with_bucket drum false b new) =
    record { base = refl; settings = refl; last = refl; cuts = refl; offers = durables_kept drum false b new (ap (λ (one : Bucket). one.durable) was) } in
    record {
      counts = on_err c.from_residual-in_err-append-2.result _ (subst (KeepsCounts drum) (sym (ap (λ (d : Drum). with_bucket d false b new) c.self.view_is)) kept);
      array = search rules;
      full = search rules;
      full_first = λ over. absurd (omega (arith, over, durable, cap, c.if-from-left.false, c.saturating_sub-left.ensures, c.from.ensures, c.len.ensures));
      damaged = search rules;
      memory_same = search rules;
      full_same = search rules;
    }

pub returns-in_err-append-2-clause-leaves : goal.returns-in_err-append-2-clause-leaves
returns-in_err-append-2-clause-leaves g c =
    let drum = c.args.self.now in
    let b = c.args.b in
    let bucket = c.index_mut-bucket.result.now in
    let law = subst IsDrum c.self.view_is c.self.invariant in
    let was = is_bucket drum _ b bucket c.self.view_is law c.requires.offers.bucket c.index_mut-bucket.ensures.value in
    let old = g.S.Store.told c.args.store.now in
    let mid = g.S.Store.told c.append.new.store in
    let new = g.S.Store.told c.append-2.new.store in
    let at = (goal.at.returns-in_err-append-2-clause-leaves g c).After-append-2 in
    flush_leaves drum b bucket c.args.array.now.items _ _ old new law was c.requires.offers (rw c.items.ensures.value at c.in_ok-run.ensures.offers)
    (left_by_both bucket c.append.new.self c.append-2.new.self c.args.array.now.items c.deref.result.now _ _ old mid new (appended g at)
    (c.in_ok-run.ensures.frame ∙ ap run_bytes c.items.ensures.value) c.append-2.result (IsErr c.append-2.result) (IsErr c.append-2.result) c.append-2.ensures.appends (λ is. is)) (search rules)

pub returns-in_err-append-2-clause-goes_on : goal.returns-in_err-append-2-clause-goes_on
returns-in_err-append-2-clause-goes_on g c = record { drum = invariant_of-self-in_err-append-2 g c; sound = search rules; long = λ no. absurd (cc) }

-- and where it is done
pub returns-clause-flushes : goal.returns-clause-flushes
returns-clause-flushes g c =
    let drum = c.args.self.now in
    let b = c.args.b in
    let bucket = c.index_mut-bucket.result.now in
    let law = subst IsDrum c.self.view_is c.self.invariant in
    let was = is_bucket drum _ b bucket c.self.view_is law c.requires.offers.bucket c.index_mut-bucket.ensures.value in
    let old = g.S.Store.told c.args.store.now in
    let mid = g.S.Store.told c.append.new.store in
    let new = g.S.Store.told c.append-2.new.store in
    let news = c.args.array.now.items in
    let at = (goal.at.returns-clause-flushes g c).After-append-2 in
    let next = record bucket { journal = c.append-2.new.self; aux = c.append.new.self; durable = bucket.durable + c.from-2.result } in
    let frame = c.in_ok-run.ensures.frame ∙ ap run_bytes c.items.ensures.value in
    let count : c.from-2.result ≡ length news = omega (arith, c.from-2.ensures, c.len-2.ensures) in
    let k = appended g at in
    let second = c.in_ok-append-2.ensures.appends in
    let more : (cut : ℕ) (list : List Tuple) → HoldsBucket old.images drum.settings.array cut (bucket_at drum b) list → HoldsBucket new.images drum.settings.array cut next (list ++ news) =
    λ cut list has.
    holds_both bucket c.append.new.self c.append-2.new.self news c.deref.result.now _ _ old mid new k frame tt _ second c.from-2.result drum.settings.array cut list count
    (g.met.S.Store.is_consistent c.append-2.new.store) (c.requires.offers.some, c.requires.offers.few)
    (subst (λ (one : Bucket). HoldsBucket old.images drum.settings.array cut one list) (sym was) has) in
    let left = left_by_both bucket c.append.new.self c.append-2.new.self news c.deref.result.now _ _ old mid new k frame c.append-2.result _ ⊥ c.append-2.ensures.appends (λ no. absurd no) in
    let gained = gains_both bucket c.append.new.self c.append-2.new.self news c.deref.result.now _ _ old mid new k frame tt _ second in
    let now = sym (ap (λ (d : Drum). with_bucket d true b next) c.self.view_is) in
    let here : bucket_at (with_bucket drum true b next) b ≡ next = bucket_here drum true b next (omega (arith, law.count, c.requires.offers.bucket)) in
    let durable : next.durable ≡ (bucket_at drum b).durable + length news = omega (arith, count, ap (λ (one : Bucket). one.durable) was) in
    let counts : CountsFlush b (length news) drum (with_bucket drum true b next) =
    record { base = refl; settings = refl; last = refl; cuts = refl; offers = durables_more drum true b next ∙ ap (λ (n : ℕ). set (durables drum) b n) durable } in
    record {
      holds = λ book holds. subst (λ (d : Drum). Holds new.images d (flushed b news book)) now
          (flush_holds drum true b next news book old new law c.requires.offers.bucket c.requires.offers.offers (rw c.items.ensures.value at c.in_ok-run.ensures.offers)
          (g.met.S.Store.is_consistent c.append-2.new.store) (leaves_named drum b bucket old new law c.requires.offers.bucket was left.others.stops)
          durable (ap (λ (one : Bucket). one.start) was) more holds);
      counts = subst (CountsFlush b (length news) drum) now counts;
      gains = subst (λ (d : Drum). Gains news (bucket_at drum b).journal (bucket_at d b).journal old new) now
          (subst (λ (one : Bucket). Gains news one.journal (bucket_at (with_bucket drum true b next) b).journal old new) was
          (subst (λ (one : Bucket). Gains news bucket.journal one.journal old new) (sym here) gained));
      emptied = search rules;
      not_full = grind (arith, common_steps);
    }

pub returns-clause-leaves : goal.returns-clause-leaves
returns-clause-leaves g c =
    let drum = c.args.self.now in
    let b = c.args.b in
    let bucket = c.index_mut-bucket.result.now in
    let law = subst IsDrum c.self.view_is c.self.invariant in
    let was = is_bucket drum _ b bucket c.self.view_is law c.requires.offers.bucket c.index_mut-bucket.ensures.value in
    let old = g.S.Store.told c.args.store.now in
    let mid = g.S.Store.told c.append.new.store in
    let new = g.S.Store.told c.append-2.new.store in
    let at = (goal.at.returns-clause-leaves g c).After-append-2 in
    flush_leaves drum b bucket c.args.array.now.items _ _ old new law was c.requires.offers (rw c.items.ensures.value at c.in_ok-run.ensures.offers)
    (left_by_both bucket c.append.new.self c.append-2.new.self c.args.array.now.items c.deref.result.now _ _ old mid new (appended g at)
    (c.in_ok-run.ensures.frame ∙ ap run_bytes c.items.ensures.value) c.append-2.result (IsErr c.append-2.result) (IsErr c.append-2.result) c.append-2.ensures.appends (λ is. is)) (search rules)

-- the bay is one, and what is told is long
pub invariant_of-self-2 : goal.invariant_of-self-2
invariant_of-self-2 g c =
    let drum = c.args.self.now in
    let b = c.args.b in
    let bucket = c.index_mut-bucket.result.now in
    let law = subst IsDrum c.self.view_is c.self.invariant in
    let was = is_bucket drum _ b bucket c.self.view_is law c.requires.offers.bucket c.index_mut-bucket.ensures.value in
    let next = record bucket { journal = c.append-2.new.self; aux = c.append.new.self; durable = bucket.durable + c.from-2.result } in
    let grown : Grows bucket next = record {
      journal = c.append-2.ensures.appends.file;
      aux = c.append.ensures.file;
      durable = omega arith;
      end = omega (arith, c.in_ok-append-2.ensures.appends.end);
      length = omega (arith, c.in_ok-append.ensures.length);
      start = refl;
      gate = refl;
      text = refl;
    } in
    subst IsDrum (sym (ap (λ (d : Drum). with_bucket d true b next) c.self.view_is))
    (grown_drum drum true b next law c.requires.offers.bucket (λ yes. c.requires.sound) (λ yes. search rules) (subst (λ (one : Bucket). Grows one next) was grown))

pub returns-clause-goes_on : goal.returns-clause-goes_on
returns-clause-goes_on g c =
    let drum = c.args.self.now in
    let b = c.args.b in
    let bucket = c.index_mut-bucket.result.now in
    let law = subst IsDrum c.self.view_is c.self.invariant in
    let was = is_bucket drum _ b bucket c.self.view_is law c.requires.offers.bucket c.index_mut-bucket.ensures.value in
    let old = g.S.Store.told c.args.store.now in
    let mid = g.S.Store.told c.append.new.store in
    let new = g.S.Store.told c.append-2.new.store in
    let news = c.args.array.now.items in
    let at = (goal.at.returns-clause-goes_on g c).After-append-2 in
    let next = record bucket { journal = c.append-2.new.self; aux = c.append.new.self; durable = bucket.durable + c.from-2.result } in
    let frame = c.in_ok-run.ensures.frame ∙ ap run_bytes c.items.ensures.value in
    let k = appended g at in
    let left = left_by_both bucket c.append.new.self c.append-2.new.self news c.deref.result.now _ _ old mid new k frame c.append-2.result _ ⊥ c.append-2.ensures.appends (λ no. absurd no) in
    let others = tells_named drum b bucket old.files new.files law c.requires.offers.bucket was left.others.told in
    let long = long_both bucket c.append.new.self c.append-2.new.self news c.deref.result.now _ _ old mid new k frame tt _ c.in_ok-append-2.ensures.appends next.durable
    (long_bucket drum b bucket _ c.requires.offers.bucket was c.requires.long) in
    record {
      drum = invariant_of-self-2 g c;
      sound = search rules;
      long = λ yes. subst (λ (d : Drum). ForSome new.files (λ files. IsLong d files)) (sym (ap (λ (d : Drum). with_bucket d true b next) c.self.view_is))
          (flush_long drum true b next old.files new.files law c.requires.offers.bucket others c.requires.long long);
    }
