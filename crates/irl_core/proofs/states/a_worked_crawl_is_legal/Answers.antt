use Rattle.irl_core.proofs.WorkedCrawl.{worked, misplaced, later, budgeted, unbudgeted, again, unsent, miscounted, other_text, strayed, past_list, beside, unbegun, blank}
use Rattle.irl_core.proofs.states.a_worked_crawl_is_legal.Goals as goal

pub returns : goal.returns
returns c = record {
  legal = worked;
  place = misplaced;
  later = later;
  budget = budgeted;
  no_budget = unbudgeted;
  again = again;
  unsent = unsent;
  counted = miscounted;
  other_text = other_text;
  stray = strayed;
  past_list = past_list;
  beside = beside;
  unbegun = unbegun;
  blank = blank;
}
