-- One journal after the other is made, and at the end each bucket holds no offer.
use Rattle.std.proofs.Common.{◌≡◌, ◌∙◌, ℕ, ◌+◌, inl, inr, List, refl, sym, ap, subst, arith, rules, true}
use Rattle.irl_journal.specs.Appending.{Tail}
use Rattle.irl_bay.specs.declared.bucket.Bucket.{Bucket}
use Rattle.irl_layout.specs.BayFiles.{file_of}
use Rattle.irl_layout.specs.declared.files.BayFile.TheVariants.{Manifest, Journal}
use Rattle.irl_bay.proofs.Blank.{MadeSoFar, leaves_made, leaves_more, told_torn, told_more, made_none, made_more, made_is_drum, made_holds}
use Rattle.irl_bay.proofs.bay.Bay.make.Goals as goal

-- the manifest is refused
pub returns-in_err-manifest : goal.returns-in_err-manifest
returns-in_err-manifest g c =
    let old = g.S.Store.told c.args.store.now in
    let new = g.S.Store.told c.make.new.store in
    let changes = c.make.ensures.changes in
    record {
      base = search rules;
      settings = search rules;
      sound = search rules;
      drum = search rules;
      holds = search rules;
      changes = record {
        told = told_torn c.args.base c.args.settings.now.buckets c.number.result _ _ (inl c.number.ensures.value) changes.told;
        stops = leaves_made c.args.base c.args.settings.now.buckets c.number.result old new (inl c.number.ensures.value) changes.stops;
        taken = changes.taken;
        cause = search rules;
      };
      memory_same = search rules;
      full = search rules;
      damaged = search rules;
    }

pub loop-b-init : goal.loop-b-init
loop-b-init g c = record {
  made = subst (λ (made : List Bucket). MadeSoFar (g.S.Store.told c.args.store.now) (g.S.Store.told c.make.new.store) c.args.base c.args.settings.now.buckets c.in_ok-manifest.manifest made 0)
      (sym c.in_ok-buckets.ensures.items)
      (made_none (g.S.Store.told c.args.store.now) (g.S.Store.told c.make.new.store) c.args.base c.args.settings.now.buckets c.number.result c.in_ok-manifest.manifest c.number.ensures.value
      c.in_ok-manifest.ensures.open c.requires.unmade c.in_ok-manifest.ensures.ok c.make.ensures.changes.stops);
  room = omega (arith, c.in_ok-buckets.ensures.capacity);
  taken = c.make.ensures.changes.taken;
  later = c.make.ensures.changes.cause.later;
}

pub make-requires-in-loop-b-clause-short : goal.make-requires-in-loop-b-clause-short
make-requires-in-loop-b-clause-short g c = λ files told.
    c.loop-b.invariant.made.unmade files told _ (Journal 0 c.loop-b.b, (omega arith, c.loop-b-test.true), refl)

-- a bucket's journal is refused
pub returns-in_err-make : goal.returns-in_err-make
returns-in_err-make g c =
    let tells = g.S.Store.told in
    let made = c.loop-b.invariant.made in
    let changes = c.make-in-loop-b.ensures.changes in
    let file = file_of c.args.base 0 (Journal 0 c.loop-b.b) in
    record {
      base = search rules;
      settings = search rules;
      sound = search rules;
      drum = search rules;
      holds = search rules;
      changes = record {
        told = told_more c.args.base c.args.settings.now.buckets _ _ _ made.files
            (told_torn c.args.base c.args.settings.now.buckets file _ _ (inr (c.loop-b.b, c.loop-b-test.true, refl)) changes.told);
        stops = leaves_more c.args.base c.args.settings.now.buckets file (tells c.args.store.now) (tells c.loop-b.store) (tells c.make-in-loop-b.new.store)
            (g.met.S.Store.is_consistent c.loop-b.store) (inr (c.loop-b.b, c.loop-b-test.true, refl)) made.stops changes.stops;
        taken = changes.taken ∙ c.loop-b.invariant.taken;
        cause = search rules;
      };
      memory_same = search rules;
      full = search rules;
      damaged = search rules;
    }

pub loop-b-preserved : goal.loop-b-preserved
loop-b-preserved g c =
    let tells = g.S.Store.told in
    record {
      made = subst (λ (made : List Bucket). MadeSoFar (tells c.args.store.now) (tells c.make-in-loop-b.new.store) c.args.base c.args.settings.now.buckets c.in_ok-manifest.manifest made
          (c.loop-b.b + 1)) (sym c.push_reserved.ensures.items)
          (made_more (tells c.args.store.now) (tells c.loop-b.store) (tells c.make-in-loop-b.new.store) c.args.base c.args.settings.now.buckets c.in_ok-manifest.manifest c.loop-b.buckets.items
          c.loop-b.b c.in_ok-make.field-0 (g.met.S.Store.is_consistent c.loop-b.store) (g.met.S.Store.is_consistent c.make-in-loop-b.new.store)
          c.loop-b-test.true (ap (λ (tail : Tail). tail.file) c.in_ok-manifest.ensures.journal
          ∙ c.number.ensures.value) c.loop-b.invariant.made c.in_ok-make.ensures.bucket c.in_ok-make.ensures.holds c.in_ok-make.ensures.ok c.make-in-loop-b.ensures.changes.stops);
      room = omega (arith, c.loop-b.invariant.room, c.push_reserved.ensures.capacity);
      taken = c.make-in-loop-b.ensures.changes.taken ∙ c.loop-b.invariant.taken;
      later = omega (arith, c.loop-b.invariant.later, c.make-in-loop-b.ensures.changes.cause.later);
    }

-- all are made
pub invariant_of-result : goal.invariant_of-result
invariant_of-result g c =
    let tells = g.S.Store.told in
    let all : c.loop-b.b ≡ c.args.settings.now.buckets = omega (arith, c.loop-b-test.false, c.loop-b.auto.b-end) in
    let tail : c.in_ok-manifest.manifest ≡ record { file = file_of c.args.base 0 Manifest; end = 0; is_sound = true } = c.in_ok-manifest.ensures.journal
    ∙ ap (λ (f : ℕ). record { file = f; end = 0; is_sound = true }) c.number.ensures.value in
    let made = subst (MadeSoFar (tells c.args.store.now) (tells c.loop-b.store) c.args.base c.args.settings.now.buckets c.in_ok-manifest.manifest c.loop-b.buckets.items) all c.loop-b.invariant.made in
    made_is_drum (tells c.args.store.now) (tells c.loop-b.store) c.args.base c.args.settings.now c.in_ok-manifest.manifest c.in_ok-last.last c.loop-b.buckets.items c.requires.base c.requires.settings
    c.in_ok-last.ensures tail made

pub returns : goal.returns
returns g c =
    let tells = g.S.Store.told in
    let all : c.loop-b.b ≡ c.args.settings.now.buckets = omega (arith, c.loop-b-test.false, c.loop-b.auto.b-end) in
    let made = subst (MadeSoFar (tells c.args.store.now) (tells c.loop-b.store) c.args.base c.args.settings.now.buckets c.in_ok-manifest.manifest c.loop-b.buckets.items) all c.loop-b.invariant.made in
    record {
      base = search rules;
      settings = search rules;
      sound = search rules;
      drum = invariant_of-result g c;
      holds = made_holds (tells c.args.store.now) (tells c.loop-b.store) c.args.base c.args.settings.now c.in_ok-manifest.manifest c.in_ok-last.last c.loop-b.buckets.items c.requires.settings
          c.in_ok-last.ensures made;
      changes = record { told = made.files; stops = made.stops; taken = c.loop-b.invariant.taken; cause = search rules };
      memory_same = search rules;
      full = search rules;
      damaged = search rules;
    }
