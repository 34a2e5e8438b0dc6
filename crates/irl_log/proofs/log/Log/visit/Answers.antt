-- What the journal says of the visitor of records is said of the events.
use Rattle.std.proofs.Common.{rules, refl}
use Rattle.irl_log.proofs.Visitors.{answers_for, log_visited, log_took, log_damaged}
use Rattle.irl_log.proofs.log.Log.visit.Goals as goal

pub returns-in_err-journal : goal.returns-in_err-journal
returns-in_err-journal g c = record {
  log = search rules;
  visited = search rules;
  took = search rules;
  damaged = λ at e files tells.
      log_damaged g.V.VisitEvents.takes g.V.VisitEvents.refuses _ c.visit.new.visitor _ (search rules) (files c.args.f) at
      (c.in_err-journal.ensures.damaged at (search rules) files tells);
  short = search rules;
  changes = answers_for _ _ _ _ _ _ (λ e. search rules) c.in_err-journal.ensures.changes;
  quiet = λ why. c.in_err-journal.ensures.quiet (search rules);
}

pub returns : goal.returns
returns g c = record {
  log = let found = c.in_ok-journal.ensures.journal in (found.0, found.1, refl);
  visited = λ files tells. log_visited g.V.VisitEvents.takes g.V.VisitEvents.refuses _ c.visit.new.visitor _ (search rules) _ (files c.args.f) _ (c.in_ok-journal.ensures.visited files tells);
  took = log_took g.V.VisitEvents.takes g.V.VisitEvents.refuses _ c.visit.new.visitor _ (search rules) 0 _ c.in_ok-journal.ensures.took;
  damaged = search rules;
  short = search rules;
  changes = answers_for _ _ _ _ _ _ (λ e. search rules) c.in_ok-journal.ensures.changes;
  quiet = search rules;
}
