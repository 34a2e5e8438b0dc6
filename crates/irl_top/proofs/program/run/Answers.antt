use Rattle.std.proofs.Common.{◌≡◌, ◌∙◌, ℕ, Bor, List, inl, sym, ap, subst, rules, map, refl}
use Rattle.std.specs.Prelude.{Result, Ok, Err}
use Rattle.irl_words.specs.Words.{command_of}
use Rattle.irl_words.specs.declared.command.Command.{Command}
use Rattle.irl_record.specs.Wired.{Wired}
use Rattle.irl_top.specs.Outside.{Outside, outside}
use Rattle.irl_top.specs.Run.{Answers}
use Rattle.irl_top.specs.Ports.{ports_of}
use Rattle.irl_top.proofs.Deciding.{says_of}
use Rattle.irl_top.proofs.program.run.Given.{Over}
use Rattle.irl_top.proofs.program.run.Goals as goal

-- what is told of all that a run is handed
abbrev told : (g : Over) → g.row.S.Denot → g.row.I.Denot → g.row.O.Denot → g.row.E.Denot → List (Wired g.row.P.Denot) → Outside
told g store input output errors ports = outside g.S.Store.told g.I.Source.left g.I.Source.faults g.O.Sink.written g.O.Sink.faults g.E.Sink.written g.E.Sink.faults store input output errors
    (ports_of g.P.Link.connections g.P.Link.faults ports)

pub returns-in-Ok : goal.returns-in-Ok
returns-in-Ok g c =
    let before = told g c.args.store c.args.input.now c.args.output.now c.args.errors.now c.args.ports.now in
    let after = told g c.obey.result.1 c.obey.new.input c.obey.new.output c.obey.new.errors c.obey.new.ports in
    inl (subst (λ (r : Result Command (List ℕ)). Answers r before after c.obey.result.0) (sym c.in-Ok.ensures.command) c.obey.ensures)

pub returns-in-Err-Refused : goal.returns-in-Err-Refused
returns-in-Err-Refused g c =
    let before = told g c.args.store c.args.input.now c.args.output.now c.args.errors.now c.args.ports.now in
    let after = told g c.args.store c.args.input.now c.args.output.now c.tell_refused.new.errors c.args.ports.now in
    let word = c.bytes.result.now in
    let refused = rw c.in-Err-Refused.field-0-is at c.in-Err-Refused.ensures.refused in
    let is : command_of (map (λ (word : Bor (List ℕ)). word.now) c.args.words.now) ≡ Err word = refused ∙ ap (λ (w : List ℕ). Err w) (sym c.in-Err-Refused.word-is ∙ sym c.bytes.ensures) in
    inl (subst (λ (r : Result Command (List ℕ)). Answers r before after 1) (sym is) (record {
      status_is = refl;
      ports = refl;
      untouched = record { files = refl; images = λ image left. left; since = λ t image left. left; moment = refl; taken = refl; faults = refl; input = refl; output = refl };
      says = says_of c.tell_refused.result _ _ _ c.tell_refused.ensures.ok c.tell_refused.ensures.err c.tell_refused.ensures.cause;
    }))
