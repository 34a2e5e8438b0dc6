-- Status 4 is that of a disk fault alone, and that comes only of a store that failed.
use Rattle.std.proofs.Common.{◌≡◌, ◌∙◌, ⊎_elim, ℕ, List, arith, refl, sym}
use Rattle.std.specs.Prelude.{Result, Ok, Err, Option, IsSome}
use Rattle.irl_base.specs.Faults.{Rose, HasCause}
use Rattle.irl_files.specs.declared.failure.Failure.{Failure}
use Rattle.irl_words.specs.Words.{command_of}
use Rattle.irl_words.specs.declared.command.Command.{Command}
use Rattle.irl_words.specs.declared.command.Command.TheVariants.{Seen, Drum, Replay, Crawl, Gen, Show, List as Listing}
use Rattle.irl_top.specs.Message.{status_of}
use Rattle.irl_top.specs.Outside.{Lent, Outside}
use Rattle.irl_top.specs.Ports.{Port}
use Rattle.irl_top.specs.Run.{Does, Answers, Runs}
use Rattle.irl_top.specs.declared.ending.Ending.{Ending}
use Rattle.irl_top.specs.declared.ending.Ending.TheVariants.{Done, BadSettings, LineRefused, NotOurs, Damaged, OtherSettings, DiskFault, InputFault, OutputFault, NoMemory, Full}
use Rattle.irl.specs.Obeying.{Handed, RunsOverFiles, outside_of}

disk_fault : (ending : Ending) → status_of ending ≡ 4 → ending ≡ DiskFault
disk_fault Done is = absurd (omega (arith, is))
disk_fault (BadSettings n) is = absurd (omega (arith, is))
disk_fault (LineRefused n) is = absurd (omega (arith, is))
disk_fault (NotOurs at) is = absurd (omega (arith, is))
disk_fault (Damaged f at) is = absurd (omega (arith, is))
disk_fault (OtherSettings n kept wanted) is = absurd (omega (arith, is))
disk_fault DiskFault is = refl
disk_fault InputFault is = absurd (omega (arith, is))
disk_fault OutputFault is = absurd (omega (arith, is))
disk_fault NoMemory is = absurd (omega (arith, is))
disk_fault (Full b) is = absurd (omega (arith, is))

has_cause : (command : Command) (olds news : List Port) (before after : Lent) (ending : Ending)
    → Does command olds news before after ending
    → HasCause (ending ≡ DiskFault) before.store.faults after.store.faults
has_cause (Seen asked) olds news before after ending does = does.ran.disk
has_cause (Drum asked) olds news before after ending does = does.ran.disk
has_cause (Replay asked options) olds news before after ending does = does.through.run.disk
has_cause (Crawl asked options number) olds news before after ending does = does.run.disk
has_cause (Gen asked options pages) olds news before after ending does = does.through.run.disk
has_cause Show olds news before after ending does = does.disk
has_cause Listing olds news before after ending does = does.disk

rose_by : (words : Result Command (List ℕ)) (before after : Outside) (status : ℕ) → Answers words before after status
    → status ≡ 4 → Rose before.lent.store.faults after.lent.store.faults
rose_by (Ok command) before after status obeys is =
    (has_cause command before.ports after.ports before.lent after.lent obeys.ending obeys.does).rose
    (disk_fault obeys.ending (sym obeys.status_is ∙ is))
rose_by (Err word) before after status refuses is = absurd (omega (arith, refuses.status_is, is))

rose : (words : List (List ℕ)) (before after : Outside) (status : ℕ) → Runs words before after status
    → status ≡ 4 → Rose before.lent.store.faults after.lent.store.faults
rose words before after status runs is =
    ⊎_elim (λ answers. rose_by (command_of words) before after status answers is)
    (λ gives. absurd (omega (arith, gives.status_is, is))) runs

-- at that status of a run over files a call on them has failed
pub one_failed : (words : List (List ℕ)) (before after : Handed) (status : ℕ) (first : Option Failure)
    → RunsOverFiles words before after status first → status ≡ 4 → IsSome first
one_failed words before after status first ran is =
    let risen = rose words (outside_of before 0) (outside_of after ran.faults) status ran.runs is in
    ran.told (omega (arith, risen))
