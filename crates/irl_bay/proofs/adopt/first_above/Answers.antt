use Rattle.std.proofs.Common.{◌∙◌, [], map, refl, sym, rules}
use Rattle.irl_layout.specs.Commits.{commit_bytes}
use Rattle.irl_bay.proofs.Buckets.{damaged_fault}
use Rattle.irl_bay.proofs.Reached.{first_refused, all_within}
use Rattle.irl_bay.proofs.adopt.first_above.Goals as goal

pub returns-in-Ok-clause-damaged : goal.returns-in-Ok-clause-damaged
returns-in-Ok-clause-damaged g c = λ f at is. (
  cc,
  λ files tells.
      let there = c.requires.above files tells in
      let took = (c.in-Ok.ensures.revisited files tells).records [] (map commit_bytes there.0) there.1 refl in
      absurd (there.3 (all_within _ _ c.revisit.new.visitor there.0 refl c.requires.count there.2 took)),
)

pub returns-clause-damaged : goal.returns-clause-damaged
returns-clause-damaged g c = λ f at is.
    let out = damaged_fault c.args.f c.in-Err.fault f at (sym c.fault_in.ensures ∙ is) in (
      sym out.1,
      λ files tells commits ends rise.
          let refused = (c.in-Err.ensures.damaged at (search rules) files tells).refused [] (map commit_bytes commits) ends refl in
          first_refused _ at _ refused.reached commits refused.first refused.payload refused.more refl rise refused.among refused.place refused.took refused.refused,
    )
