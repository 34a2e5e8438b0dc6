use Rattle.std.proofs.Common.{◌≡◌, ◌++◌, sym, ap, ◌∙◌, arith}
use Rattle.irl_base.specs.Faults.{counted}
use Rattle.irl_http.specs.Memory.{Linking}
use Rattle.irl_http.specs.Links.{written_on_last}
use Rattle.irl_http.proofs.LinkLemmas.{none_on_last, last_of_current}
use Rattle.irl_http.proofs.mem_link.MemLinkLink.write.Goals as goal

pub returns-then-write_current-clause-connection : goal.returns-then-write_current-clause-connection
returns-then-write_current-clause-connection c =
    let bytes = c.args.bytes.now in
    let inside = c.self.inside in
    let wrote = c.write_current.ensures in
    ap (λ l. inside.past.items ++ l) (wrote.made c.if-write_current.true)
    ∙ sym (last_of_current bytes inside.past.items inside.current (wrote.some c.if-write_current.true).0)
    ∙ ap (λ (s : Linking). written_on_last bytes s.made) (c.self.view_is ∙ c.fails.ensures.new)

pub returns-then-fails-clause-partly : goal.returns-then-fails-clause-partly
returns-then-fails-clause-partly c =
    let same : c.fault.new.self.made ≡ c.args.self.now.made = ap (λ (s : Linking). s.made) c.fault.ensures.new ∙ ap (λ (s : Linking). s.made) c.fails.ensures.new in
    (0, same ∙ sym (none_on_last c.args.self.now.made))

pub returns-then-fails-clause-cause : goal.returns-then-fails-clause-cause
returns-then-fails-clause-cause c =
    let now : c.fault.new.self.faults ≡ counted c.fails.new.self.faults = ap (λ (s : Linking). s.faults) c.fault.ensures.new in
    let was : c.fails.new.self.faults ≡ c.args.self.now.faults = ap (λ (s : Linking). s.faults) c.fails.ensures.new in
    record { later = omega (arith, now, was, c.fault.ensures.later); rose = λ _. omega (arith, now, was) }

pub returns-clause-partly : goal.returns-clause-partly
returns-clause-partly c =
    let inside = c.self.inside in
    let gone = c.write_current.ensures.same c.if-write_current.false in
    let same : c.fault-2.new.self.made ≡ c.args.self.now.made =
    ap (λ (s : Linking). s.made) c.fault-2.ensures.new
    ∙ ap (λ l. inside.past.items ++ l) gone.made
    ∙ ap (λ (s : Linking). s.made) (c.self.view_is ∙ c.fails.ensures.new)
    in
    (0, same ∙ sym (none_on_last c.args.self.now.made))
