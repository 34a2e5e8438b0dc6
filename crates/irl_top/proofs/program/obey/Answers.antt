use Rattle.std.proofs.Common.{◌≡◌, ◌⊎◌, inl, inr, List, refl, sym, subst}
use Rattle.irl_record.specs.Wired.{Wired}
use Rattle.irl_top.specs.Outside.{Lent, lent}
use Rattle.irl_top.specs.Ports.{PortsGoOn, ports_of}
use Rattle.irl_top.specs.Run.{Does, IsOnline}
use Rattle.irl_top.specs.declared.ending.Ending.{Ending}
use Rattle.irl_top.proofs.Deciding.{says_of, waits_not}
use Rattle.irl_top.proofs.Obeying.{does_crawl, does_gen, does_other, does_replay}
use Rattle.irl_top.proofs.PortsGoing.{ports_same}
use Rattle.irl_top.proofs.program.obey.Given.{Over}
use Rattle.irl_top.proofs.program.obey.Goals.{in-Replay, in-Crawl, in-Gen, in_default}
use Rattle.irl_top.proofs.program.obey.Goals as goal

-- what the three objects tell
abbrev told : (g : Over) → g.row.S.Denot → g.row.I.Denot → g.row.O.Denot → Lent
told g store input output = lent g.S.Store.told g.I.Source.left g.I.Source.faults g.O.Sink.written g.O.Sink.faults store input output

-- a command ends so, and leaves these
abbrev Lands : (g : Over) (c : goal.After-status g) → Ending × g.row.S.Denot → g.row.I.Denot → g.row.O.Denot → List (Wired g.row.P.Denot) → Type 0
Lands g c ended input output ports =
    let port = ports_of g.P.Link.connections g.P.Link.faults in
    Does c.args.command.now (port c.args.ports.now) (port ports) (told g c.args.store c.args.input.now c.args.output.now) (told g ended.1 input output) ended.0
    × (IsOnline c.args.command.now ⊎ (port ports ≡ port c.args.ports.now)) × PortsGoOn (port c.args.ports.now) (port ports)

lands : (g : Over) (c : goal.After-status g) (e f : Ending × g.row.S.Denot) (i j : g.row.I.Denot) (o p : g.row.O.Denot) (q r : List (Wired g.row.P.Denot)) → f ≡ e → j ≡ i → p ≡ o → r ≡ q
    → Lands g c e i o q → Lands g c f j p r
lands g c e f i j o p q r is_e is_i is_o is_q has =
    let one = subst (λ (x : Ending × g.row.S.Denot). Lands g c x i o q) (sym is_e) has in
    let two = subst (λ (x : g.row.I.Denot). Lands g c f x o q) (sym is_i) one in
    let three = subst (λ (x : g.row.O.Denot). Lands g c f j x q) (sym is_o) two in
    subst (λ (x : List (Wired g.row.P.Denot)). Lands g c f j p x) (sym is_q) three

pub returns : goal.returns
returns g c =
    let m = c.match-command in
    let range = c.requires.range in
    let has : Lands g c m.ending m.input m.output m.ports = elim m.branch [
      | in-Replay w ↦ lands g c w.replay.result m.ending w.replay.new.input m.input w.replay.new.output m.output c.args.ports.now m.ports w.ending-is w.input-is w.output-is w.ports-is
          (does_replay c.args.command.now _ _ _ _ _ _ _ w.in-Replay.is range w.replay.ensures, inr refl, ports_same _)
      | in-Crawl w ↦ lands g c w.crawl_ports.result m.ending w.crawl_ports.new.input m.input w.crawl_ports.new.output m.output w.crawl_ports.new.ports m.ports w.ending-is w.input-is w.output-is
          w.ports-is
          (does_crawl c.args.command.now _ _ _ _ _ _ _ _ w.in-Crawl.is range w.crawl_ports.ensures.run, inl (subst IsOnline (sym w.in-Crawl.is) tt), w.crawl_ports.ensures.ports)
      | in-Gen w ↦ lands g c w.crawl_site.result m.ending c.args.input.now m.input w.crawl_site.new.output m.output c.args.ports.now m.ports w.ending-is w.input-is w.output-is w.ports-is (
        does_gen c.args.command.now _ _ _ _ _ _ _ _ w.in-Gen.is range
            (w.crawl_site.ensures (record { bytes = g.I.Source.left c.args.input.now; faults = g.I.Source.faults c.args.input.now })),
        inr refl,
        ports_same _,
      )
      | in_default w ↦ lands g c w.carry_out.result m.ending w.carry_out.new.input m.input w.carry_out.new.output m.output c.args.ports.now m.ports w.ending-is w.input-is w.output-is w.ports-is
          (does_other c.args.command.now _ _ _ _ _ (waits_not c.args.command.now w.in_default.not-Replay w.in_default.not-Crawl w.in_default.not-Gen) w.carry_out.ensures, inr refl, ports_same _)
    ] in
    record {
      ending = m.ending.0;
      status_is = c.status.ensures;
      does = has.0;
      ports = has.2;
      offline = has.1;
      says = says_of c.tell.result _ _ _ c.tell.ensures.ok c.tell.ensures.err c.tell.ensures.cause;
    }
