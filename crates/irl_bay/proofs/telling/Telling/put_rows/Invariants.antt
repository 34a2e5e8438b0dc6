-- the rows so far were put, and those of the other offers are the rest
use Rattle.std.proofs.Common.{◌≡◌, ◌≤◌, ◌++◌, ℕ, List, drop}
use Rattle.std.specs.Option.{ForSome}
use Rattle.irl_disk.specs.Disk.{Changes, ChangesFile}
use Rattle.irl_disk.specs.Images.{LeavesBy}
use Rattle.irl_journal.specs.Blob.{KeepsFront}
use Rattle.irl_journal.specs.Growing.{HasPut, ReachesPlace}
use Rattle.irl_layout.specs.JudgedEntries.{rows}
use Rattle.irl_bay.proofs.telling.Telling.put_rows.Given as goal

abbrev pub invariant-loop-i : goal.invariant-loop-i
invariant-loop-i g l =
    let tells = g.S.Store.told in
    let judged = l.fn.self.judged in
    record {
      found : List ℕ;
      all : found ++ rows l.next l.b (drop l.i l.entries) (drop l.i l.verdicts) ≡ rows l.fn.self.place l.b l.entries l.verdicts;
      put : (bytes : List ℕ) → HasPut (tells l.fn.store).files bytes judged → HasPut (tells l.store).files (bytes ++ found) l.self.judged;
      file : l.self.judged.file ≡ judged.file;
      kept : l.self.judged.kept ≡ judged.kept;
      texts : l.self.texts ≡ l.fn.self.texts;
      place : l.self.place ≡ l.fn.self.place;
      unique : l.self.unique ≡ l.fn.self.unique;
      long : ForSome (tells l.store).files (ReachesPlace l.self.judged);
      changes : Changes judged.file (KeepsFront judged.kept) (tells l.fn.store).files (tells l.store).files;
      stops : LeavesBy (ChangesFile judged.file (KeepsFront judged.kept)) (tells l.fn.store) (tells l.store);
      taken : (g.S.Store.told l.store).taken ≡ (g.S.Store.told l.fn.store).taken;
      later : (g.S.Store.told l.fn.store).faults ≤ (g.S.Store.told l.store).faults;
    }
