-- What is counted, and kept, where a call failed.
use Rattle.std.proofs.Common.{le_refl}
use Rattle.irl_files.proofs.file_store.FileStore.end.Goals as goal

pub returns-in-Err-clause-cause : goal.returns-in-Err-clause-cause
returns-in-Err-clause-cause g c =
    record {
      later = c.count.ensures.later;
      rose = λ _. rw (c.count.ensures.count) (le_refl _);
    }

pub returns-in-Err-clause-first : goal.returns-in-Err-clause-first
returns-in-Err-clause-first g c =
    rw (c.in-Err.is)
    (c.new.result, c.new.ensures.call, c.new.ensures.file, c.new.ensures.error, c.count.ensures.first)
