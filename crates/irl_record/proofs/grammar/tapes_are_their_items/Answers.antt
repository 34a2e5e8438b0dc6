use Rattle.std.proofs.Common.{◌∙◌, ap}
use Rattle.irl_io.specs.Lines.{lines}
use Rattle.irl_record.specs.Reading.{outside, blank}
use Rattle.irl_record.proofs.ItemLemmas.{runs, items_taken}
use Rattle.irl_record.proofs.RunLemmas.{tape_from_runs}
use Rattle.irl_record.proofs.TapeLemmas.{ok_runs, runs_ok, err_refused}
use Rattle.irl_record.proofs.grammar.tapes_are_their_items.Goals as goal

pub returns : goal.returns
returns c = record {
  taken = λ pages bytes tape. (
    λ read. let found = ok_runs pages (lines bytes) 1 (outside blank) tape read in (found.1, tape_from_runs pages tape (lines bytes) found.0),
    λ is. runs_ok pages (lines bytes) 1 (outside blank) tape is.0
        (ap (runs pages (outside blank)) is.1.written ∙ items_taken pages blank tape is.1.items is.1.taken),
  );
  refused = λ pages bytes n h. err_refused pages (lines bytes) n h;
}
