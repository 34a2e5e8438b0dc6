use Rattle.std.proofs.Common.{inl, refl, subst, List, ℕ}
use Rattle.std.specs.Prelude.{Ok, Err}
use Rattle.std.specs.Io.KnownBytes.{Appends}
use Rattle.irl_io.specs.Written.{AppendsPrefix}
use Rattle.irl_top.specs.Outside.{stream}
use Rattle.irl_top.specs.declared.ending.Ending.TheVariants.{OutputFault}
use Rattle.irl_top.proofs.Calls.{err_is}
use Rattle.irl_top.proofs.Listed.{part_of}
use Rattle.irl_top.proofs.showing.print_part.Goals as goal

pub returns-in_err-write : goal.returns-in_err-write
returns-in_err-write g c =
    let tells = stream g.O.Sink.written g.O.Sink.faults in
    let text = c.in_ok-text.text.items in
    let h = c.in_err-write.ensures in
    let err : AppendsPrefix (g.O.Sink.written c.args.output.now) (g.O.Sink.written c.write.new.self) text =
    subst (λ (piece : List ℕ). AppendsPrefix (g.O.Sink.written c.args.output.now) (g.O.Sink.written c.write.new.self) piece) c.deref.ensures.value h.err in
    rw (err_is c.from_residual-in_err-write.result OutputFault c.from_residual-in_err-write.ensures.1)
    (part_of (Err OutputFault) (g.S.Store.told c.args.yard.now.store).images c.args.yard.now.parts c.args.first c.args.judged.now text (tells c.args.output.now) (tells c.write.new.self)
    c.in_ok-text.ensures tt err (inl refl) (record { later = h.cause.later; rose = λ e. h.cause.rose refl }))

pub returns : goal.returns
returns g c =
    let tells = stream g.O.Sink.written g.O.Sink.faults in
    let text = c.in_ok-text.text.items in
    let h = c.in_ok-write.ensures in
    let ok : Appends (g.O.Sink.written c.args.output.now) (g.O.Sink.written c.write.new.self) text =
    subst (λ (piece : List ℕ). Appends (g.O.Sink.written c.args.output.now) (g.O.Sink.written c.write.new.self) piece) c.deref.ensures.value h.ok in
    part_of (Ok tt) (g.S.Store.told c.args.yard.now.store).images c.args.yard.now.parts c.args.first c.args.judged.now text (tells c.args.output.now) (tells c.write.new.self) c.in_ok-text.ensures
    ok tt tt (record { later = h.cause.later; rose = λ e. let no : ⊥ = cc in absurd no })
