-- The payload is spelled in an empty frame, and its body put.
use Rattle.std.proofs.Common.{◌≡◌, ◌∙◌, ◌++◌, [], List, ℕ, get_or, subst, ap}
use Rattle.std.proofs.lemmas.Option.{slice_get-get_or}
use Rattle.irl_journal.specs.Appending.{Draft}
use Rattle.irl_journal.specs.Format.{body_text}
use Rattle.irl_journal.specs.Growing.{Puts}
use Rattle.irl_journal.proofs.several.Behind.put_body.Goals as goal

pub returns-clause-puts : goal.returns-clause-puts
returns-clause-puts g c = λ payload is.
    let tells = g.S.Store.told in
    let bytes : c.put.new.frame.bytes ≡ payload = ap (λ (d : Draft). d.bytes) (c.put.ensures payload is) ∙ ap (λ (d : Draft). d.bytes ++ payload) c.clear.ensures in
    subst (λ (body : List ℕ). Puts c.put-2.result body c.args.self.now.writer c.put-2.new.self (tells c.args.store.now) (tells c.put-2.new.store))
    (c.body.ensures.bytes ∙ ap body_text bytes)
    c.put-2.ensures

pub returns-clause-room : goal.returns-clause-room
returns-clause-room g c =
    let payloads = g.P.Payloads.payloads c.args.payloads.now in
    let spelled = c.put.ensures (get_or payloads c.args.i []) (slice_get-get_or payloads c.args.i [] c.requires.index) in
    ap (λ (d : Draft). d.room) spelled ∙ ap (λ (d : Draft). d.room) c.clear.ensures
