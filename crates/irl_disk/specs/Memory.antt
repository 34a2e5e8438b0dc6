-- What a store in memory holds.
use Rattle.std.specs.Prelude.{◌≡◌, ℕ, Bool, true, if◌then◌else◌, Some, length, unwrap_or}
use Rattle.std.specs.List.{Contains}
use Rattle.std.specs.Ordering.{nat_cmp}
use Rattle.std.specs.BTreeMap.{BTreeMap, get}
use Rattle.irl_disk.specs.declared.memory.MemStore.{MemStore}
use Rattle.irl_base.specs.Faults.{counted}
use Rattle.irl_disk.specs.DeviceCall.{DeviceCall}
use Rattle.irl_disk.specs.Disk.{Files}
use Rattle.irl_disk.specs.Images.{Told}
use Rattle.irl_disk.specs.Calls.{states, ImagesSince, IsLogged}
use Rattle.irl_disk.specs.Model.{AreImages}

-- what a read gives of each file
abbrev pub files_in : MemStore → Files
files_in store f = (states store.log f).now

-- how often the store has failed
abbrev pub fault_count : MemStore → ℕ
fault_count store = store.faults

-- how many calls were made
abbrev pub call_count : MemStore → ℕ
call_count store = length store.log.entries

-- how many bytes the reads of each file have given
abbrev pub counts_of : BTreeMap ℕ ℕ → ℕ → ℕ
counts_of kept f = unwrap_or (get nat_cmp kept f) 0

-- what it tells, and what a stop may leave, by the calls that it keeps; its moment is their number
abbrev pub told_by : MemStore → Told
told_by store =
    record {
      files = Some (files_in store);
      images = AreImages (states store.log);
      moment = call_count store;
      since = ImagesSince store.log;
      taken = Some (counts_of store.taken);
      faults = fault_count store;
    }

-- One call of a store in memory, by whether it answered Ok.
pub record LogsCall (call : DeviceCall) (is_ok : Bool) (old new : MemStore) : Type 0 where
  pub log : IsLogged call is_ok old.log new.log
  -- the count of faults rises by one where the call failed, and else stays
  pub faults : new.faults ≡ (if is_ok then old.faults else counted old.faults)
  -- a call that is listed fails
  pub listed : is_ok ≡ true → Contains old.failing.items (call_count old) → ⊥
  pub failing : new.failing.items ≡ old.failing.items
