-- What a contract reads of a store over files.
use Rattle.std.specs.Prelude.{ℕ, List, Option, string_bytes}
use Rattle.irl_files.specs.declared.failure.Failure.{Failure}
use Rattle.irl_files.specs.declared.file_store.FileStore.{FileStore}
use Rattle.irl_files.specs.declared.lost.Lost.{Lost}

-- how often it has failed
abbrev pub fault_count : {R F D : Type 0} → FileStore R F D → ℕ
fault_count store = store.failures.count

-- the path of its folder
abbrev pub folder_path : {R F D : Type 0} → FileStore R F D → List ℕ
folder_path store = string_bytes store.folder.path

-- which of its syncs failed
abbrev pub lost_syncs : {R F D : Type 0} → FileStore R F D → Lost
lost_syncs store = store.folder.files.lost

-- the first of its calls that failed
abbrev pub first_failure : {R F D : Type 0} → FileStore R F D → Option Failure
first_failure store = store.failures.first
