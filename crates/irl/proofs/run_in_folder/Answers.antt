-- What the run did, and the line behind it.
use Rattle.std.proofs.Common.{ap, subst}
use Rattle.irl_top.specs.Stream.{Stream}
use Rattle.irl.specs.Obeying.{TellsFault}
use Rattle.irl.proofs.Failing.{one_failed}
use Rattle.irl.proofs.run_in_folder.Goals as goal

pub returns : goal.returns
returns g c =
    let stream : g.row.E.Denot → Stream = λ errors. record { bytes = g.E.Sink.written errors; faults = g.E.Sink.faults errors } in
    let first = c.run_over-status.result.1 in
    record {
      said = stream c.run_over-status.new.errors;
      first = first;
      runs = c.run_over-status.ensures;
      failed = one_failed _ _ _ _ first c.run_over-status.ensures;
      told = λ is. subst (λ folder. TellsFault folder first (stream c.run_over-status.new.errors) (stream c.tell_status.new.errors)) c.folder_and_command.ensures.folder
          (c.tell_status.ensures.told is);
      quiet = λ other. ap stream (c.tell_status.ensures.quiet other);
    }
