use Rattle.std.proofs.Common.{◌≡◌, ◌++◌, refl, rules}
use Rattle.std.proofs.lemmas.Result.{err_from_is_err_and}
use Rattle.irl_base.specs.declared.fault.Fault.TheVariants.{Damaged}
use Rattle.irl_bay.specs.Sides.{rest_of}
use Rattle.irl_bay.proofs.Sweeps.{has_reached, nexts}
use Rattle.irl_bay.proofs.sides.Sides.next_block.Goals as goal

pub next_block-requires : goal.next_block-requires
next_block-requires g c = has_reached _ _ c.args.self.now.reader c.requires.sweeping.2.3.read

pub returns-in_err-next_block-clause-passes : goal.returns-in_err-next_block-clause-passes
returns-in_err-next_block-clause-passes g c =
    let out = err_from_is_err_and c.from_residual.result c.from_residual.ensures.1 in
    let reads = c.in_err-next_block.ensures.reads_on in
    record {
      same = search rules;
      damaged = λ f at e files told.
          let same : c.in_err-next_block.field-0.0 ≡ Damaged f at = let is = rw (out.1, out.2) at e in cc in
          reads.damaged f at (rw same refl) _ c.requires.sweeping.2.3.read files told;
      full = search rules;
      read = rw out.1 tt;
    }

pub returns-clause-sweeping : goal.returns-clause-sweeping
returns-clause-sweeping g c = λ b sweep offers verdicts news is.
    let now = c.args.self.now in
    let told = (g.S.Store.told c.args.store.now).files in
    nexts b offers verdicts news told sweep now is (g.S.Store.told c.next_block.new.store).files _ c.requires.used_up refl refl refl c.next_block.ensures.run.1 c.next_block.ensures.reads_on.reads.same
    (c.in_ok-next_block.ensures.read ((is.before ++ is.fed) ++ rest_of now) is.read)

pub returns-clause-passes : goal.returns-clause-passes
returns-clause-passes g c = record {
  same = search rules;
  damaged = search rules;
  full = search rules;
  read = (c.in_ok-next_block.ensures.ahead.0, c.in_ok-next_block.ensures.reads_on.taken);
}
