use Rattle.std.proofs.Common.{◌≡◌, ◌∙◌, length, ap, sym, refl, true, false, rules}
use Rattle.std.specs.Prelude.{vec_len}
use Rattle.std.proofs.lemmas.Bool.{cond-true}
use Rattle.irl_events.specs.Events.{Progress, Pass as SeenPass, after_event}
use Rattle.irl_events.specs.declared.event.Event.TheVariants.{Pass}
use Rattle.irl_core.specs.Steps.{judged_in}
use Rattle.irl_core.proofs.Shown.{took_is, number_is}
use Rattle.irl_core.proofs.Effects.{keeps_pass, shows_pass}
use Rattle.irl_core.proofs.pure.Core.add_pass.Goals as goal

pub returns-then-not-branch-clause-value : goal.returns-then-not-branch-clause-value
returns-then-not-branch-clause-value c =
    let q = c.len-judged.result in
    let same : vec_len c.in_ok-judged.field-0 ≡ length c.in_ok-judged.field-0.items = search rules in
    let number : q ≡ judged_in c.args.self.now = number_is c.self.inside c.args.self.now q c.self.view_is (c.len-judged.ensures ∙ same ∙ ap length c.in_ok-judged.ensures) in
    let no : c.in_ok-add_event.field-0 ≡ false = search rules in
    sym no ∙ c.in_ok-add_event.ensures.value
    ∙ took_is c.self.inside c.args.self.now q c.args.places c.tell_sent.new.fates c.self.invariant c.self.view_is number c.in_ok-tell_sent.ensures.ok c.requires

pub returns-clause-value : goal.returns-clause-value
returns-clause-value c =
    let q = c.len-judged.result in
    let same : vec_len c.in_ok-judged.field-0 ≡ length c.in_ok-judged.field-0.items = search rules in
    let number : q ≡ judged_in c.args.self.now = number_is c.self.inside c.args.self.now q c.self.view_is (c.len-judged.ensures ∙ same ∙ ap length c.in_ok-judged.ensures) in
    let yes : c.in_ok-add_event.field-0 ≡ true = search rules in
    sym yes ∙ c.in_ok-add_event.ensures.value
    ∙ took_is c.self.inside c.args.self.now q c.args.places c.tell_sent.new.fates c.self.invariant c.self.view_is number c.in_ok-tell_sent.ensures.ok c.requires

pub invariant_of-self-2 : goal.invariant_of-self-2
invariant_of-self-2 c =
    let q = c.len-judged.result in
    let same : vec_len c.in_ok-judged.field-0 ≡ length c.in_ok-judged.field-0.items = search rules in
    let number : q ≡ judged_in c.args.self.now = number_is c.self.inside c.args.self.now q c.self.view_is (c.len-judged.ensures ∙ same ∙ ap length c.in_ok-judged.ensures) in
    let yes : c.in_ok-add_event.field-0 ≡ true = search rules in
    let took = took_is c.self.inside c.args.self.now q c.args.places c.tell_sent.new.fates c.self.invariant c.self.view_is number c.in_ok-tell_sent.ensures.ok c.requires in
    keeps_pass c.self.inside c.args.self.now c.add_event.new.events c.add_event.new.fates (Pass q) c.args.places q c.self.invariant c.self.view_is number refl (sym took
    ∙ sym c.in_ok-add_event.ensures.value ∙ yes)
    (c.in_ok-add_event.ensures.events ∙ cond-true c.in_ok-add_event.field-0 _ _ yes)
    (c.in_ok-add_event.ensures.fates ∙ cond-true c.in_ok-add_event.field-0 _ _ yes ∙ ap (λ (f : Progress). after_event f (SeenPass q) c.args.places) c.in_ok-tell_sent.ensures.ok)

pub returns-clause-ok : goal.returns-clause-ok
returns-clause-ok c = λ e.
    let q = c.len-judged.result in
    let same : vec_len c.in_ok-judged.field-0 ≡ length c.in_ok-judged.field-0.items = search rules in
    let number : q ≡ judged_in c.args.self.now = number_is c.self.inside c.args.self.now q c.self.view_is (c.len-judged.ensures ∙ same ∙ ap length c.in_ok-judged.ensures) in
    let yes : c.in_ok-add_event.field-0 ≡ true = search rules in
    shows_pass c.self.inside c.args.self.now c.add_event.new.events (Pass q) c.args.places q c.self.view_is number refl (c.in_ok-add_event.ensures.events ∙ cond-true c.in_ok-add_event.field-0 _ _ yes)
