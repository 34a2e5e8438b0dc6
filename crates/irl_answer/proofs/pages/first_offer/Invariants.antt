-- The links so far name no page.
use Rattle.std.proofs.Common.{◌≡◌, drop}
use Rattle.irl_answer.specs.Found.{webs_at}
use Rattle.irl_answer.proofs.pages.first_offer.Given as goal

abbrev pub invariant-loop-i : goal.invariant-loop-i
invariant-loop-i l = webs_at l.page l.base l.spans ≡ webs_at l.page l.base (drop l.i l.spans)
