-- What is found in the runs of a bucket's journal, one run after the other.
use Rattle.std.specs.Prelude.{◌≡◌, ◌⊎◌, ℕ, ◌+◌, ◌-◌, ◌^◌, ◌<◌, ◌≤◌, min, List, length, take}
use Rattle.irl_offer.specs.declared.entry.Entry.{Entry}
use Rattle.irl_layout.specs.EntryRuns.{text_length}
use Rattle.irl_bay.specs.declared.found.Found.{Found}

abbrev pub nothing_found : Found
nothing_found = record { count = 0; texts = 0; gate = 0; skip = 0; text = 0 }

-- What was found, and then with one run more, whose gate stands at this place. The counts stand still at their last
-- values. Where the first offer that isn't judged is one of the run, this is where it stands.
pub record Advances (cut at : ℕ) (run : List Entry) (old new : Found) : Type 0 where
  pub count : new.count ≡ min (old.count + length run) (2 ^ 64 - 1)
  pub texts : new.texts ≡ min (old.texts + text_length run) (2 ^ 128 - 1)
  pub here : old.count ≤ cut → cut < old.count + length run → (new.gate ≡ at) × (new.skip + old.count ≡ cut)
      × (new.text ≡ min (old.texts + text_length (take new.skip run)) (2 ^ 128 - 1))
  pub elsewhere : (cut < old.count) ⊎ (old.count + length run ≤ cut) → (new.gate ≡ old.gate) × (new.skip ≡ old.skip)
      × (new.text ≡ old.text)
