use Rattle.std.proofs.Common.{◌∙◌, sym}
use Rattle.irl_ledger.proofs.Counts.{search_finds, search_found}
use Rattle.irl_ledger.proofs.open.is_count.Goals as goal

pub returns-else-judged-eq0-clause-known : goal.returns-else-judged-eq0-clause-known
returns-else-judged-eq0-clause-known c has rising =
    c.is_ok.ensures.value ∙ search_finds c.args.counts.now c.args.judged c.binary_search.result c.binary_search.ensures.position c.if-judged-eq0.false has rising

pub returns-else-judged-eq0-clause-has : goal.returns-else-judged-eq0-clause-has
returns-else-judged-eq0-clause-has c is =
    search_found c.args.counts.now c.args.judged c.binary_search.result c.binary_search.ensures.position (sym c.is_ok.ensures.value ∙ is)
