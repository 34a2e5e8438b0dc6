-- The command that the words of a command line are, and why words are refused.
use Rattle.std.specs.Prelude.{◌≡◌, ◌≤◌, ℕ, nat_lt, ◌==◌, Bool, true, false, not, ◌&&◌, ◌||◌, List, [], ◌∷◌, length, Option, Some, None, Result, Ok, Err, ⊤, codes, if◌then◌else◌, option_map, unwrap_or, IfSome}
use Rattle.std.specs.Char.{is_ascii_alphabetic}
use Rattle.std.specs.List.{list_all}
use Rattle.std.specs.Str.{bytes_eq}
use Rattle.std.specs.Option.{option_map_or}
use Rattle.std.specs.Str.Parse.{digits_value, without_leading_plus}
use Rattle.clap.specs.Walk.{is_empty}
use Rattle.clap.specs.Words.{Row, fault_of, first_of, matches_of, one_of}
use Rattle.irl_offer.specs.Buckets.{is_bucket_count}
use Rattle.irl_offer.specs.Settings.{AreValid, settings_of}
use Rattle.irl_offer.specs.declared.offer.Rule.{Rule}
use Rattle.irl_offer.specs.declared.offer.Rule.TheVariants.{Keep, Replace, Add}
use Rattle.irl_offer.specs.declared.settings.Asked.{Asked}
use Rattle.irl_offer.specs.declared.settings.Kind.{Kind}
use Rattle.irl_offer.specs.declared.settings.Kind.TheVariants.{Lines, Tuples, Crawl}
use Rattle.irl_words.specs.Options.{name_of, options_of}
use Rattle.irl_words.specs.declared.name.Name.{Name}
use Rattle.irl_words.specs.declared.name.Name.TheVariants as name
use Rattle.irl_words.specs.declared.command.Command.{Command}
use Rattle.irl_words.specs.declared.command.Command.TheVariants.{Seen, Drum, Replay, Gen, Show}
use Rattle.irl_words.specs.declared.command.Command.TheVariants.{Crawl as Crawling, List as Listing}
use Rattle.irl_words.specs.declared.command.RunOptions.{RunOptions}
use Rattle.irl_words.specs.declared.command.WordFault.{WordFault}
use Rattle.irl_words.specs.declared.command.WordFault.TheVariants.{Refused, Memory}

-- ---- what the options ask for, by groups

-- the number of an option, in decimal digits behind at most one `+`; nothing where the option isn't named
abbrev pub number_in : List ℕ → List Row → Option ℕ
number_in option rows = option_map (λ text. digits_value 10 (without_leading_plus text)) (one_of option rows)

-- a store of this kind with this rule, and nothing else of it
abbrev pub asked_for : Kind → Option Rule → Asked
asked_for kind rule =
    record {
      kind = kind;
      rule = rule;
      buckets = None;
      array = None;
      trigger = None;
      block = None;
      cap = None;
      queues = None;
      base = None;
      most = None;
      ranks = None;
    }

-- the same with the sizes that the options name
abbrev pub with_settings : List Row → Asked → Asked
with_settings rows asked =
    record asked {
      buckets = number_in (codes "buckets") rows;
      array = number_in (codes "array") rows;
      trigger = number_in (codes "trigger") rows;
      block = number_in (codes "block") rows;
      cap = number_in (codes "cap") rows;
    }

-- the same with the queues and the budgets that they name
abbrev pub with_budgets : List Row → Asked → Asked
with_budgets rows asked =
    record asked {
      queues = number_in (codes "queues") rows;
      base = number_in (codes "base") rows;
      most = number_in (codes "most") rows;
      ranks = number_in (codes "ranks") rows;
    }

-- how a crawl is run, with the default of each option that isn't named
abbrev pub run_in : List Row → RunOptions
run_in rows =
    record {
      workers = unwrap_or (number_in (codes "workers") rows) 1;
      delay = unwrap_or (number_in (codes "delay") rows) 1000;
      pages = unwrap_or (number_in (codes "pages") rows) 1000000;
      batch = unwrap_or (number_in (codes "batch") rows) 4096;
      agent = unwrap_or (first_of (codes "agent") rows) (codes "irlbot");
    }

-- ---- what the options of one command ask for

-- the rule of a word
abbrev pub rule_of_word : List ℕ → Option Rule
rule_of_word word =
    if bytes_eq word (codes "keep") then Some Keep
    else (if bytes_eq word (codes "replace") then Some Replace
    else (if bytes_eq word (codes "add") then Some Add else None))

-- the rule that the value of `--rule` asks for, none where it isn't named; nothing where the value is no rule
abbrev pub rule_in : Option (List ℕ) → Option (Option Rule)
rule_in None = Some None
rule_in (Some word) = option_map (λ rule. Some rule) (rule_of_word word)

-- ---- the command, or the refused word

-- the number of buckets, where it is asked, is a power of two
abbrev pub has_bucket_count : Asked → Bool
has_bucket_count asked = option_map_or is_bucket_count asked.buckets true

-- the most that a domain may be given, where both are asked, is below the base
abbrev pub has_most_below_base : Asked → Bool
has_most_below_base asked =
    option_map_or (λ base. option_map_or (λ most. nat_lt most base) asked.most false) asked.base false

-- what is asked of a store, or the option with which it is refused: the first of these
abbrev pub checked : Asked → Result Asked (List ℕ)
checked asked =
    if not (has_bucket_count asked) then Err (codes "--buckets")
    else (if has_most_below_base asked then Err (codes "--most") else Ok asked)

-- a product token, as the rules of robots files have it: letters, `-` and `_`, at least one
abbrev pub is_token_byte : ℕ → Bool
is_token_byte byte = is_ascii_alphabetic byte || (byte == 45) || (byte == 95)

abbrev pub is_token : List ℕ → Bool
is_token name = not (is_empty name) && list_all is_token_byte name

-- a name of an agent: a token of at most 64 bytes
abbrev pub is_agent : List ℕ → Bool
is_agent name = is_token name && nat_lt (length name) 65

-- the options of a run, or the one with which they are refused
abbrev pub checked_run : RunOptions → Result RunOptions (List ℕ)
checked_run options = if not (is_agent options.agent) then Err (codes "--agent") else Ok options

-- what a crawl asks of a store and how it is run, or the option with which they are refused: the first of these
abbrev pub paired : Result Asked (List ℕ) → Result RunOptions (List ℕ) → Result (Asked × RunOptions) (List ℕ)
paired (Ok asked) (Ok options) = Ok (asked, options)
paired (Ok asked) (Err word) = Err word
paired (Err word) options = Err word

abbrev pub crawl_in : List Row → Result (Asked × RunOptions) (List ℕ)
crawl_in rows =
    paired (checked (with_budgets rows (with_settings rows (asked_for Crawl None)))) (checked_run (run_in rows))

-- the command that asks for this, unless it is refused
abbrev pub asking : (Asked → Command) → Result Asked (List ℕ) → Result Command (List ℕ)
asking command (Ok asked) = Ok (command asked)
asking command (Err word) = Err word

-- the same of a crawl, with the options of its run
abbrev pub running : (Asked → RunOptions → Command) → Result (Asked × RunOptions) (List ℕ) → Result Command (List ℕ)
running command (Ok crawl) = Ok (command crawl.0 crawl.1)
running command (Err word) = Err word

-- The command of this name with these values of its options, or the word with which they are refused, the first of
-- these: the command's own where the value of one of its options is none that it takes, or where one that has to be
-- there isn't; then the option with which what is asked of a store is refused; and then that with which its run is.
-- Those that a command alone has come last.
abbrev pub decided : Name → List ℕ → List Row → Result Command (List ℕ)
decided name.Seen word rows = asking Seen (checked (with_settings rows (asked_for Lines None)))
decided name.Drum word rows =
    option_map_or (λ rule. asking Drum (checked (with_settings rows (asked_for Tuples rule))))
    (rule_in (first_of (codes "rule") rows)) (Err word)
decided name.Replay word rows = running Replay (crawl_in rows)
decided name.Crawl word rows =
    option_map_or (λ port. running (λ asked options. Crawling asked options port) (crawl_in rows))
    (number_in (codes "port") rows) (Err word)
decided name.Gen word rows =
    option_map_or (λ pages. running (λ asked options. Gen asked options pages) (crawl_in rows))
    (number_in (codes "size") rows) (Err word)
decided name.Show word rows = Ok Show
decided name.List word rows = Ok Listing

-- the same for the words of a command: they are refused with the first where its options don't take the others
abbrev pub command_named : Name → List ℕ → List (List ℕ) → Result Command (List ℕ)
command_named name word words =
    if is_empty (fault_of (options_of name) words)
    then decided name word (matches_of (options_of name) words)
    else Err word

-- The command that words are, or the word with which they are refused: `-` where there is none, and the first where it
-- names no command.
abbrev pub command_of : List (List ℕ) → Result Command (List ℕ)
command_of [] = Err (codes "-")
command_of (word ∷ words) = option_map_or (λ name. command_named name word (word ∷ words)) (name_of word) (Err word)

-- Why words that have this answer are refused: by the word that it has. Want of memory may come at any time.
abbrev pub IsRefusedBy : {A : Type 0} → Result A (List ℕ) → WordFault → Type 0
IsRefusedBy answer (Refused word) = answer ≡ Err word
IsRefusedBy answer Memory = ⊤

-- the same of the words themselves
abbrev pub IsCause : List (List ℕ) → WordFault → Type 0
IsCause words fault = IsRefusedBy (command_of words) fault

-- the fault of words that are refused with this one
abbrev pub IsFaultWith : List ℕ → WordFault → Type 0
IsFaultWith word (Refused said) = said ≡ word
IsFaultWith word Memory = ⊤

-- ---- what a command asks for

-- what it asks of a store, where it asks for anything: one that only looks asks for nothing
abbrev pub asked_of : Command → Option Asked
asked_of (Seen asked) = Some asked
asked_of (Drum asked) = Some asked
asked_of (Replay asked options) = Some asked
asked_of (Crawling asked options port) = Some asked
asked_of (Gen asked options pages) = Some asked
asked_of Show = None
asked_of Listing = None

abbrev pub kind_of : Command → Option Kind
kind_of (Seen asked) = Some Lines
kind_of (Drum asked) = Some Tuples
kind_of (Replay asked options) = Some Crawl
kind_of (Crawling asked options port) = Some Crawl
kind_of (Gen asked options pages) = Some Crawl
kind_of Show = None
kind_of Listing = None

-- all but `drum` keep the rule of their store
abbrev pub HasNoRule : Command → Type 0
HasNoRule (Seen asked) = asked.rule ≡ None
HasNoRule (Drum asked) = ⊤
HasNoRule (Replay asked options) = asked.rule ≡ None
HasNoRule (Crawling asked options port) = asked.rule ≡ None
HasNoRule (Gen asked options pages) = asked.rule ≡ None
HasNoRule Show = ⊤
HasNoRule Listing = ⊤

-- what is asked, and the least base and the greatest most where they aren't named
abbrev pub with_widest_budgets : Asked → Asked
with_widest_budgets asked =
    record asked { base = Some (unwrap_or asked.base 1); most = Some (unwrap_or asked.most 1000000) }

-- A store can be as a command asks: for `seen` and `drum` a new one. A crawl may name base or most alone, for a store
-- that is there and has the other; so where it names one alone, some store is so, though a new one may be refused.
abbrev pub CanBeAsked : Command → Type 0
CanBeAsked (Seen asked) = AreValid (settings_of asked)
CanBeAsked (Drum asked) = AreValid (settings_of asked)
CanBeAsked (Replay asked options) = AreValid (settings_of (with_widest_budgets asked))
CanBeAsked (Crawling asked options port) = AreValid (settings_of (with_widest_budgets asked))
CanBeAsked (Gen asked options pages) = AreValid (settings_of (with_widest_budgets asked))
CanBeAsked Show = ⊤
CanBeAsked Listing = ⊤

-- how it runs, where it is a crawl
abbrev pub run_of : Command → Option RunOptions
run_of (Seen asked) = None
run_of (Drum asked) = None
run_of (Replay asked options) = Some options
run_of (Crawling asked options port) = Some options
run_of (Gen asked options pages) = Some options
run_of Show = None
run_of Listing = None

-- the options of a run lie in their ranges
pub record AreRunOptions (options : RunOptions) : Type 0 where
  pub workers : (1 ≤ options.workers) × (options.workers ≤ 64)
  pub delay : options.delay ≤ 86399999
  pub pages : (1 ≤ options.pages) × (options.pages ≤ 4294967295)
  pub batch : (1 ≤ options.batch) × (options.batch ≤ 16384)
  pub agent : is_agent options.agent ≡ true

-- the port of a crawl is one, and a made-up site has 1 to 100,000 pages
abbrev pub HasNumber : Command → Type 0
HasNumber (Seen asked) = ⊤
HasNumber (Drum asked) = ⊤
HasNumber (Replay asked options) = ⊤
HasNumber (Crawling asked options port) = (1 ≤ port) × (port ≤ 65535)
HasNumber (Gen asked options pages) = (1 ≤ pages) × (pages ≤ 100000)
HasNumber Show = ⊤
HasNumber Listing = ⊤

-- What a command asks is in range: it asks for a store of its own kind, as one can be, and for a run as one can be, and
-- its own number is one.
pub record IsInRange (command : Command) : Type 0 where
  pub kind : option_map (λ asked. asked.kind) (asked_of command) ≡ kind_of command
  pub rule : HasNoRule command
  pub valid : CanBeAsked command
  pub run : IfSome (run_of command) AreRunOptions
  pub number : HasNumber command
