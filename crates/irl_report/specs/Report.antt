-- The texts in which a crawl is reported: a line for each count, and a line for each URL.
use Rattle.std.specs.Prelude.{ℕ, List, ◌++◌, codes}
use Rattle.std.specs.Fmt.{decimal}
use Rattle.irl_offer.specs.declared.outcome.Outcome.{Outcome}
use Rattle.irl_offer.specs.declared.outcome.Outcome.TheVariants.{Page, Moved, Status, Denied, Shut, Lost, Bad, Large, Coded}
use Rattle.irl_fate.specs.declared.counts.Counts.{Counts}
use Rattle.irl_fate.specs.declared.fate.Fate.{Fate}
use Rattle.irl_fate.specs.declared.fate.Fate.TheVariants.{Fresh, Queue, Last, Front, Done}

-- a count, by its name
abbrev pub count_line : List ℕ → ℕ → List ℕ
count_line name n = name ++ codes " " ++ decimal n ++ codes "\n"

abbrev pub report_of : Counts → List ℕ
report_of counts =
    count_line (codes "offers") counts.offers ++ count_line (codes "judged") counts.judged
    ++ count_line (codes "unique") counts.unique
    ++ count_line (codes "pairs") counts.pairs ++ count_line (codes "fresh") counts.fresh
    ++ count_line (codes "queued") counts.queued
    ++ count_line (codes "last") counts.last ++ count_line (codes "front") counts.front
    ++ count_line (codes "done") counts.done
    ++ count_line (codes "page") counts.page ++ count_line (codes "moved") counts.moved
    ++ count_line (codes "status") counts.status
    ++ count_line (codes "denied") counts.denied ++ count_line (codes "shut") counts.shut
    ++ count_line (codes "lost") counts.lost
    ++ count_line (codes "bad") counts.bad ++ count_line (codes "large") counts.large
    ++ count_line (codes "coded") counts.coded

abbrev pub outcome_word : Outcome → List ℕ
outcome_word Page = codes "page"
outcome_word Moved = codes "moved"
outcome_word (Status n) = codes "status:" ++ decimal n
outcome_word (Denied n) = codes "denied:" ++ decimal n
outcome_word Shut = codes "shut"
outcome_word Lost = codes "lost"
outcome_word Bad = codes "bad"
outcome_word Large = codes "large"
outcome_word Coded = codes "coded"

abbrev pub fate_word : Fate → List ℕ
fate_word Fresh = codes "fresh"
fate_word (Queue n) = codes "queue:" ++ decimal n
fate_word Last = codes "last"
fate_word Front = codes "front"
fate_word (Done outcome) = outcome_word outcome

-- a URL, by its number, its fate and its text
abbrev pub list_line_of : ℕ → Fate → List ℕ → List ℕ
list_line_of number fate text = decimal number ++ codes " " ++ fate_word fate ++ codes " " ++ text ++ codes "\n"
