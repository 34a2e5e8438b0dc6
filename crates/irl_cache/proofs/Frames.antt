-- What callers of readers and writers need: what holds stays while another file changes.
use Rattle.std.proofs.Common.{◌≡◌, ◌∙◌, ℕ, ◌+◌, List, [], ◌++◌, length, map, Option, None, Some, refl, sym, subst, arith, length-append}
use Rattle.std.specs.Option.{ForSome}
use Rattle.std.specs.FinMap.{entries}
use Rattle.irl_offer.specs.declared.receipt.Pair.{Pair}
use Rattle.irl_model.specs.Judging.{KeyMap}
use Rattle.irl_model.specs.Pairs.{ArePairsOf, IsRising, pair_of}
use Rattle.irl_disk.specs.Disk.{Files}
use Rattle.irl_journal.specs.Blob.{BeginsWith}
use Rattle.irl_journal.proofs.Fronts.{begins_less, begins_long}
use Rattle.irl_journal.proofs.Growing.{StaysTold, put_stays, put_reaches}
use Rattle.irl_cache.specs.Reading.{Reader, HasRead, ReachesRead, TakesExactly}
use Rattle.irl_cache.specs.SortedRun.{AreWords, AreWordPairs, RisesFrom, pairs_bytes}
use Rattle.irl_journal.specs.Growing.{ReachesPlace}
use Rattle.irl_cache.specs.Writing.{RunWriter, HasWritten}
use Rattle.irl_cache.proofs.Rising.{rising_front, rising_behind}
use Rattle.irl_cache.proofs.RunBytes.{bytes_joined, length-mapped, length-pairs, pairs_front, same_fronts}

pub written_stays : (pairs : List Pair) (w : RunWriter) (old new : Option Files) → StaysTold w.out.file old new → HasWritten old pairs w → HasWritten new pairs w
written_stays pairs w old new same had = record { put = put_stays (pairs_bytes (map pair_of pairs)) w.out old new same had.put; rising = had.rising; last = had.last }

pub read_stays : (pairs : List Pair) (r : Reader) (old new : Option Files) → StaysTold r.file old new → HasRead old pairs r → HasRead new pairs r
read_stays pairs r old new same had = record {
  count = had.count;
  within = had.within;
  rising = had.rising;
  words = had.words;
  last = had.last;
  bytes = λ files told.
      let from = same files told in
      let begins = had.bytes from.0 from.1 in
      (begins.0, from.2 ∙ begins.1);
}

pub read_reaches : (told : Option Files) (pairs : List Pair) (r : Reader) → HasRead told pairs r → ForSome told (ReachesRead r)
read_reaches told pairs r had = λ files tells.
    let bytes = pairs_bytes (map pair_of (pairs ++ r.ahead)) in
    omega (arith, begins_long (files r.file) bytes (had.bytes files tells), length-pairs (map pair_of (pairs ++ r.ahead)), length-mapped (pairs ++ r.ahead), length-append pairs r.ahead, had.count)

-- ---- what was read
pub read_rises : (told : Option Files) (pairs : List Pair) (r : Reader) → HasRead told pairs r → IsRising pairs
read_rises told pairs r had = rising_front pairs r.ahead had.rising

pub read_words : (told : Option Files) (pairs : List Pair) (r : Reader) → HasRead told pairs r → AreWordPairs (map pair_of pairs)
read_words told pairs r had = pairs_front pairs r.ahead had.words

pub read_bytes : (told : Option Files) (pairs : List Pair) (r : Reader) → HasRead told pairs r → ForSome told (λ files. BeginsWith (files r.file) (pairs_bytes (map pair_of pairs)))
read_bytes told pairs r had = λ files tells.
    begins_less (files r.file) (pairs_bytes (map pair_of pairs)) (pairs_bytes (map pair_of r.ahead))
    (subst (λ (l : List ℕ). BeginsWith (files r.file) l) (bytes_joined pairs r.ahead) (had.bytes files tells))

-- a whole run is the set whose bytes the file begins with
pub read_is : (told : Option Files) (pairs : List Pair) (r : Reader) (files : Files) (keys : KeyMap) → HasRead told pairs r → told ≡ Some files → AreWords keys → length pairs ≡ length (entries keys)
    → BeginsWith (files r.file) (pairs_bytes (entries keys)) → ArePairsOf keys pairs
read_is told pairs r files keys had tells fits size begins =
    same_fronts (map pair_of pairs) (entries keys) (files r.file) (read_words told pairs r had) fits (length-mapped pairs ∙ size) (read_bytes told pairs r had files tells) begins

-- ---- what is written
-- pairs that rise behind those that were written
pub rise_on : (told : Option Files) (pairs more : List Pair) (w : RunWriter) → HasWritten told pairs w → IsRising (pairs ++ more) → RisesFrom w.last more
rise_on told pairs more w had rising = subst (λ (last : Option ℕ). RisesFrom last more) (sym had.last) (rising_behind pairs more rising)

pub written_reaches : (told : Option Files) (pairs : List Pair) (w : RunWriter) → HasWritten told pairs w → ForSome told (ReachesPlace w.out)
written_reaches told pairs w had = put_reaches told (pairs_bytes (map pair_of pairs)) w.out had.put

-- ---- how many bytes were taken
pub takes_nothing : (f : ℕ) (old new : Option (ℕ → ℕ)) → new ≡ old → TakesExactly f 0 old new
takes_nothing f None new same = same
takes_nothing f (Some old) new same = (old, same, omega arith, λ g out. refl)

pub takes_more : (f m n : ℕ) (old mid new : Option (ℕ → ℕ)) → TakesExactly f m old mid → TakesExactly f n mid new → TakesExactly f (m + n) old new
takes_more f m n None mid new one two = rw one at two
takes_more f m n (Some old) mid new one two =
    let next = rw one.1 at two in
    (next.0, next.1, omega (arith, next.2, one.2), λ g out. next.3 g out ∙ one.3 g out)

-- nothing was read
pub read_none : (f entries most : ℕ) (told : Option Files) → HasRead told [] (record { file = f; entries = entries; most = most; given = 0; block = []; ahead = []; last = None })
read_none f entries most told = record {
  count = refl;
  within = omega arith;
  rising = refl;
  words = tt;
  last = refl;
  bytes = λ files tells. (files f, refl);
}
