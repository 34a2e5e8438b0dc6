-- What a run's writer has written.
use Rattle.std.proofs.Common.{◌≡◌, ◌≤◌, ℕ, List, [], ◌∷◌, ◌++◌, length, map, take, Option, None, Some, Result, Ok, Err, OnErr, refl, sym, subst, arith}
use Rattle.std.proofs.lemmas.List.{append-nil}
use Rattle.byteorder.specs.Endian.{little_bytes}
use Rattle.irl_offer.specs.declared.receipt.Pair.{Pair}
use Rattle.irl_model.specs.Pairs.{pair_of}
use Rattle.irl_disk.specs.Disk.{Files, ChangesFile}
use Rattle.irl_disk.specs.Effects.{OnlyChanges}
use Rattle.irl_disk.specs.Images.{Told, IsConsistent}
use Rattle.irl_disk.proofs.Effects.{changes_then}
use Rattle.irl_journal.specs.Blob.{KeepsFront}
use Rattle.irl_journal.specs.Growing.{Writer, HasPut}
use Rattle.irl_journal.proofs.Growing.{put_none, keeps_files}
use Rattle.irl_cache.specs.SortedRun.{IsAbove, pairs_bytes}
use Rattle.irl_cache.specs.Writing.{RunWriter, HasWritten}
use Rattle.irl_cache.proofs.Rising.{joined_rise, last_both}
use Rattle.irl_cache.proofs.RunBytes.{bytes_more}

pub written_none : (f : ℕ) (told : Option Files) → HasWritten told [] (record { out = record { file = f; kept = 0; place = 0; waiting = [] }; last = None })
written_none f told = record { put = put_none f 0 told (λ files tells. omega arith); rising = refl; last = refl }

pub written_more : (told : Option Files) (pairs : List Pair) (pair : Pair) (old : RunWriter) (before : Option Files) (out : Writer) → HasWritten before pairs old → IsAbove old.last pair.key
    → HasPut told (pairs_bytes (map pair_of pairs) ++ (little_bytes 8 pair.key ++ little_bytes 8 pair.value)) out → HasWritten told (pairs ++ pair ∷ []) (record { out = out; last = Some pair.key })
written_more told pairs pair old before out had above put = record {
  put = subst (λ (bytes : List ℕ). HasPut told bytes out) (sym (bytes_more pairs pair)) put;
  rising = joined_rise pairs (pair ∷ []) had.rising (subst (λ (last : Option ℕ). IsAbove last pair.key) had.last above, tt);
  last = sym (last_both None pairs (pair ∷ []));
}

-- one call more on a run's file
pub went_on : (f g : ℕ) (failed : Type 0) (old mid new : Told) → IsConsistent mid → g ≡ f → OnlyChanges (ChangesFile f (KeepsFront 0)) ⊥ old mid
    → OnlyChanges (ChangesFile g (KeepsFront 0)) failed mid new → OnlyChanges (ChangesFile f (KeepsFront 0)) failed old new
went_on f g failed old mid new law same so_far call =
    changes_then _ ⊥ failed old mid new law (keeps_files f 0) so_far (subst (λ (h : ℕ). OnlyChanges (ChangesFile h (KeepsFront 0)) failed mid new) same call)

-- a refusal that leaves what was put leaves none of more
pub none_more : {E : Type 0} (result : Result Unit E) (more : List Pair) (old new : RunWriter) (before after : Option Files)
    → OnErr result ((pairs : List Pair) → HasWritten before pairs old → HasWritten after pairs new)
    → OnErr result ((pairs : List Pair) → HasWritten before pairs old → (n : ℕ) × (n ≤ length more) × HasWritten after (pairs ++ take n more) new)
none_more (Ok x) more old new before after kept = tt
none_more (Err e) more old new before after kept = λ pairs had. (
  0,
  omega arith,
  subst (λ (l : List Pair). HasWritten after l new) (sym (append-nil pairs)) (kept pairs had),
)
