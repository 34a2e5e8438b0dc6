use Rattle.std.proofs.Common.{[], map, refl, sym, ap, subst, rules, ◌∙◌}
use Rattle.irl_layout.specs.Commits.{commit_bytes}
use Rattle.irl_bay.specs.Cuts.{IsSpoiltManifest}
use Rattle.irl_bay.specs.Drum.{Drum}
use Rattle.irl_bay.specs.Holding.{Holds}
use Rattle.irl_bay.proofs.Buckets.{damaged_fault}
use Rattle.irl_bay.proofs.CutNumbers.{cuts_found, none_refused, spoilt_there}
use Rattle.irl_bay.proofs.bay.Bay.judged_at_cuts.Goals as goal

pub returns-in-Err : goal.returns-in-Err
returns-in-Err g c = record {
  value = search rules;
  spoilt = λ f at is.
      let out = damaged_fault c.file.result c.in-Err.fault f at (sym c.fault_in.ensures ∙ search rules) in (
        sym out.1 ∙ c.file.ensures.value ∙ ap (λ (drum : Drum). drum.manifest.file) c.self.view_is,
        λ files tells. subst (λ (drum : Drum). IsSpoiltManifest drum files at) c.self.view_is
            (spoilt_there _ files _ c.revisit.new.visitor at refl (c.in-Err.ensures.damaged at (search rules) files tells).why),
      );
  whole = λ f at is files tells book holds.
      let out = damaged_fault c.file.result c.in-Err.fault f at (sym c.fault_in.ensures ∙ search rules) in
      let images = (g.S.Store.told c.args.store.now).images in
      let has = subst (λ (drum : Drum). Holds images drum book) (sym c.self.view_is) holds in
      none_refused images _ book has _ c.revisit.new.visitor refl at
      ((c.in-Err.ensures.damaged at (search rules) files tells).refused [] (map commit_bytes has.commits) (has.manifest files ((g.met.S.Store.is_consistent c.args.store.now).told files tells)) refl);
  full = search rules;
  reads = search rules;
}

pub returns : goal.returns
returns g c = record {
  value = λ files tells book holds.
      let images = (g.S.Store.told c.args.store.now).images in
      let has = subst (λ (drum : Drum). Holds images drum book) (sym c.self.view_is) holds in
      cuts_found images _ book has _ c.revisit.new.visitor refl c.in_ok-with_capacity.ensures.items
      ((c.in_default.ensures.revisited files tells).records [] (map commit_bytes has.commits) (has.manifest files ((g.met.S.Store.is_consistent c.args.store.now).told files tells)) refl);
  spoilt = search rules;
  whole = search rules;
  full = search rules;
  reads = search rules;
}
