use Rattle.std.proofs.Common.{refl}
use Rattle.irl_disk.specs.declared.calls.Call.TheVariants.{Query, Write, Cut, Sync}
use Rattle.irl_disk.specs.Model.{after_write, after_cut, after_sync}
use Rattle.irl_disk.proofs.Steps.{changes_state, states_logged}
use Rattle.irl_disk.proofs.memory.images_are_the_models.Goals as goal

pub returns-clause-query : goal.returns-clause-query
returns-clause-query c = λ old new is_done logs f. states_logged Query is_done old new logs f

pub returns-clause-write : goal.returns-clause-write
returns-clause-write c = λ old new is_done file at bytes logs. changes_state (Write file at bytes) is_done file (after_write is_done at bytes.items) old new (λ f s. refl) logs

pub returns-clause-cut : goal.returns-clause-cut
returns-clause-cut c = λ old new is_done file to logs. changes_state (Cut file to) is_done file (after_cut is_done to) old new (λ f s. refl) logs

pub returns-clause-sync : goal.returns-clause-sync
returns-clause-sync c = λ old new is_done file logs. changes_state (Sync file) is_done file (after_sync is_done) old new (λ f s. refl) logs
