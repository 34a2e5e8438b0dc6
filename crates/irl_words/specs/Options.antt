-- The commands that the first word picks, and the options of each, as a reader of command lines is told them.
use Rattle.std.specs.Prelude.{ℕ, List, [], ◌∷◌, ◌++◌, Option, Some, true, codes, find}
use Rattle.std.specs.Str.{bytes_eq}
use Rattle.std.specs.List.{fold}
use Rattle.clap.specs.Words.{App, Rule, new_app, new_rule, with_rule}
use Rattle.clap.specs.declared.builder.value_parser.ValueParser.TheVariants.{Unsigned}
use Rattle.irl_words.specs.declared.name.Name.{Name}
use Rattle.irl_words.specs.declared.name.Name.TheVariants.{Seen, Drum, Replay, Crawl, Gen, Show, List as Listing}

-- an option `--name` with one value, a number from `least` to `most`
abbrev pub number_option : List ℕ → ℕ → ℕ → Rule
number_option name least most =
    record (new_rule name) { long = Some name; value_names = 1; parser = Some (Unsigned least most) }

-- an option `--name` with one value, a word
abbrev pub word_option : List ℕ → Rule
word_option name = record (new_rule name) { long = Some name; value_names = 1 }

-- an option that has to be named
abbrev pub required_option : Rule → Rule
required_option rule = record rule { required = true }

-- a word in its place, a number from `least` to `most`, which has to be there
abbrev pub number_word : List ℕ → ℕ → ℕ → Rule
number_word name least most =
    record (new_rule name) { value_names = 1; parser = Some (Unsigned least most); required = true }

-- ---- options that several commands have
-- the sizes of a store, each in its range
abbrev pub settings_options : List Rule
settings_options =
    number_option (codes "buckets") 1 64
    ∷ number_option (codes "array") 1 8192
    ∷ number_option (codes "trigger") 1 1048576
    ∷ number_option (codes "block") 1 65536
    ∷ number_option (codes "cap") 1 1099511627776
    ∷ []

-- the queues and the budgets of a crawl
abbrev pub budgets_options : List Rule
budgets_options =
    number_option (codes "queues") 1 64
    ∷ number_option (codes "base") 1 1000000
    ∷ number_option (codes "most") 1 1000000
    ∷ number_option (codes "ranks") 1 1000000
    ∷ []

-- how a crawl is run
abbrev pub run_options : List Rule
run_options =
    number_option (codes "workers") 1 64
    ∷ number_option (codes "delay") 0 86399999
    ∷ number_option (codes "pages") 1 4294967295
    ∷ number_option (codes "batch") 1 16384
    ∷ word_option (codes "agent")
    ∷ []

-- ---- a row for each command
abbrev pub names : List Name
names = Seen ∷ Drum ∷ Replay ∷ Crawl ∷ Gen ∷ Show ∷ Listing ∷ []

-- the word that names it
abbrev pub word_of : Name → List ℕ
word_of Seen = codes "seen"
word_of Drum = codes "drum"
word_of Replay = codes "replay"
word_of Crawl = codes "crawl"
word_of Gen = codes "gen"
word_of Show = codes "show"
word_of Listing = codes "list"

-- the options of a crawl
abbrev pub crawl_options : List Rule
crawl_options = settings_options ++ (budgets_options ++ run_options)

-- its options: those that it has in common with others, and then its own
abbrev pub rules_of : Name → List Rule
rules_of Seen = settings_options
rules_of Drum = settings_options ++ word_option (codes "rule") ∷ []
rules_of Replay = crawl_options
rules_of Crawl = crawl_options ++ required_option (number_option (codes "port") 1 65535) ∷ []
rules_of Gen = crawl_options ++ number_word (codes "size") 1 100000 ∷ []
rules_of Show = []
rules_of Listing = []

-- ---- what a reader is told of a row
-- the command that a word names
abbrev pub name_of : List ℕ → Option Name
name_of word = find (λ name. bytes_eq word (word_of name)) names

-- each command with its options
abbrev pub options_of : Name → App
options_of name = fold with_rule (new_app (word_of name)) (rules_of name)
