-- Which files of a store are not a bay's.
use Rattle.std.specs.Prelude.{ℕ, ◌<◌, ◌≤◌}

-- the head: a journal whose one record has the settings
abbrev pub head_file : ℕ
head_file = 0

-- the journal of a crawl
abbrev pub crawl_file : ℕ
crawl_file = 1

-- the first files of the bay of URLs, and of that of pairs
abbrev pub urls_base : ℕ
urls_base = 100

abbrev pub pairs_base : ℕ
pairs_base = 300

-- a file behind the head
abbrev pub IsOtherFile : ℕ → Type 0
IsOtherFile f = (1 ≤ f) × (f < 10000)
