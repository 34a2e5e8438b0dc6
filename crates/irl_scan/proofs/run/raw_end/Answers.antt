use Rattle.std.proofs.Common.{refl, subst, sym, inl, inr}
use Rattle.irl_scan.specs.declared.kind.Kind.TheVariants.{Anchor, Frame, Base, Other}
use Rattle.irl_scan.specs.Page.{ends_raw}
use Rattle.irl_scan.specs.Reading.{IsRun}
use Rattle.irl_scan.proofs.Searches.{raw_run}
use Rattle.irl_scan.proofs.run.raw_end.Goals as goal

pub returns-in-Anchor : goal.returns-in-Anchor
returns-in-Anchor c =
    let bytes = c.args.bytes.now in
    elim c.in-Anchor.is [
      | inl e ↦ subst (λ k. IsRun (ends_raw k) bytes 0) (sym e) (raw_run Anchor bytes (λ ys. refl))
      | inr more ↦ elim more [
        | inl e ↦ subst (λ k. IsRun (ends_raw k) bytes 0) (sym e) (raw_run Frame bytes (λ ys. refl))
        | inr rest ↦ elim rest [
          | inl e ↦ subst (λ k. IsRun (ends_raw k) bytes 0) (sym e) (raw_run Base bytes (λ ys. refl))
          | inr e ↦ subst (λ k. IsRun (ends_raw k) bytes 0) (sym e) (raw_run Other bytes (λ ys. refl))
        ]
      ]
    ]
