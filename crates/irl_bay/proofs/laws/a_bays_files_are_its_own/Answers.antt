use Rattle.irl_bay.proofs.Apart.{bucket_files, journal_files, merge_files, files_within, files_of_both}
use Rattle.irl_bay.proofs.laws.a_bays_files_are_its_own.Goals as goal

pub returns-clause-bucket : goal.returns-clause-bucket
returns-clause-bucket c = bucket_files

pub returns-clause-journals : goal.returns-clause-journals
returns-clause-journals c = journal_files

pub returns-clause-merge : goal.returns-clause-merge
returns-clause-merge c = merge_files

pub returns-clause-within : goal.returns-clause-within
returns-clause-within c = files_within

pub returns-clause-apart : goal.returns-clause-apart
returns-clause-apart c = files_of_both
