use Rattle.std.proofs.Common.{◌≡◌, ap, arith}
use Rattle.irl_base.specs.Faults.{counted}
use Rattle.irl_http.specs.Memory.{Linking}
use Rattle.irl_http.proofs.mem_link.MemLinkLink.connect.Goals as goal

pub returns-then-fails-clause-cause : goal.returns-then-fails-clause-cause
returns-then-fails-clause-cause c =
    let now : c.fault.new.self.faults ≡ counted c.fails.new.self.faults = ap (λ (s : Linking). s.faults) c.fault.ensures.new in
    let was : c.fails.new.self.faults ≡ c.args.self.now.faults = ap (λ (s : Linking). s.faults) c.fails.ensures.new in
    record { later = omega (arith, now, was, c.fault.ensures.later); rose = λ _. omega (arith, now, was) }
