use Rattle.std.proofs.Common.{◌≡◌, ◌==◌, true, rules}
use Rattle.std.specs.Prelude.{slice_index}
use Rattle.irl_pld.proofs.CutLemmas.{without_port-open}
use Rattle.irl_pld.proofs.hosts.without_port.Goals as goal

pub returns-else-is_some : goal.returns-else-is_some
returns-else-is_some c =
    let host = c.args.host.now in
    let bracket : (slice_index host 0 == 91) ≡ true = search rules in
    without_port-open host c.cut-2.result.1 bracket c.cut-2.ensures.rest c.if-is_some.ensures
