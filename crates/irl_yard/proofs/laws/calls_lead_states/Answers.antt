use Rattle.irl_yard.proofs.CallsLead.{event_leads, notes_lead, pass_leads}
use Rattle.irl_yard.proofs.laws.calls_lead_states.Goals as goal

pub returns-clause-pass : goal.returns-clause-pass
returns-clause-pass g c = λ result was now state files law told holds passes.
    pass_leads g.S.Store.told result was now state c.args.before.now c.args.after.now files law (g.met.S.Store.is_consistent c.args.after.now) told holds passes

pub returns-clause-event : goal.returns-clause-event
returns-clause-event g c = λ result event was now state law holds adds.
    event_leads g.S.Store.told (λ s. g.met.S.Store.is_consistent s) result event was now state c.args.before.now c.args.after.now law holds adds

pub returns-clause-notes : goal.returns-clause-notes
returns-clause-notes g c = λ result notes was now state law holds adds.
    notes_lead g.S.Store.told (λ s. g.met.S.Store.is_consistent s) result notes was now state c.args.before.now c.args.after.now law holds adds
