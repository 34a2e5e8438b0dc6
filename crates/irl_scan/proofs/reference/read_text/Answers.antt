use Rattle.std.proofs.Common.{[], ◌∷◌, drop, sym, ◌∙◌, subst}
use Rattle.std.proofs.lemmas.List.{append-nil}
use Rattle.irl_scan.specs.Reading.{HasText}
use Rattle.irl_scan.proofs.References.{text_ends, text_replaces, text_keeps, first_cons, none_empty, text_goes_on}
use Rattle.irl_scan.proofs.reference.read_text.Goals as goal

pub loop-first-preserved-in-Some-reference_at : goal.loop-first-preserved-in-Some-reference_at
loop-first-preserved-in-Some-reference_at c = λ text has.
    let byte = c.in-Some-reference_at.byte in
    let rest = c.loop-first.rest.now in
    text_goes_on c.args.value.now c.loop-first.bytes.items c.push.new.self.items text byte c.in_ok-push-in-Some-reference_at.ensures.items
    (c.loop-first.invariant (byte ∷ text) (text_replaces rest c.in-Some-reference_at.behind.now byte text (sym c.in-Some-reference_at.ensures.reference) has))

pub loop-first-preserved : goal.loop-first-preserved
loop-first-preserved c = λ text has.
    let byte = c.in-Some.first.now in
    let rest = c.loop-first.rest.now in
    let behind : HasText (drop 1 rest) text = subst (λ ys. HasText ys text) c.cut.ensures.back has in
    text_goes_on c.args.value.now c.loop-first.bytes.items c.push-in-None.new.self.items text byte c.in_ok-push-in-None.ensures.items
    (c.loop-first.invariant (byte ∷ text) (text_keeps rest byte (drop 1 rest) text (sym c.in-None.ensures.reference) (first_cons rest byte c.in-Some.ensures.value) behind))

pub returns : goal.returns
returns c =
    let rest = c.loop-first.rest.now in
    let none = none_empty rest c.in_default.ensures.value in
    subst (HasText c.args.value.now) (append-nil c.loop-first.bytes.items ∙ sym c.from_vec.ensures) (c.loop-first.invariant [] (text_ends rest none))
