use Rattle.std.proofs.Common.{◌+◌, true, List, sym, subst, arith}
use Rattle.irl_bay.specs.declared.bucket.Bucket.{Bucket}
use Rattle.irl_bay.specs.Drum.{Drum, IsDrum}
use Rattle.irl_bay.proofs.Merged.{drum_committed}
use Rattle.irl_bay.proofs.bay.Bay.install.Goals as goal

pub invariant_of-self : goal.invariant_of-self
invariant_of-self c =
    let inside = c.self.inside in
    let drum : Drum = record {
      base = inside.base;
      settings = inside.settings;
      is_sound = inside.is_sound;
      manifest = inside.manifest;
      last = inside.last;
      cuts = inside.cuts;
      buckets = inside.buckets.items;
    } in
    let asked = rw (← c.self.view_is) at c.requires in
    subst (λ (buckets : List Bucket). IsDrum (record {
      base = inside.base;
      settings = inside.settings;
      is_sound = true;
      manifest = inside.manifest;
      last = c.args.next;
      cuts = inside.cuts + 1;
      buckets = buckets;
    })) (sym asked.commit.buckets_are)
    (drum_committed drum c.args.next inside.manifest c.self.invariant asked.commit.room asked.commit.cut asked.commit.live c.self.invariant.manifest asked.manifest (omega (arith, asked.cuts)))

pub returns-clause-drum : goal.returns-clause-drum
returns-clause-drum c = invariant_of-self c
