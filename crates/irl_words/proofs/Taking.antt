-- What a parse that takes a command's words gives, and what one that refuses them shows.
use Rattle.std.proofs.Common.{◌≡◌, ◌∙◌, ◌<◌, ◌≤◌, ◌&&◌, ℕ, Bool, not, nat_lt, true, false, List, [], ◌∷◌, length, Option, Some, None, IfSome, unwrap_or, refl, sym, ap, subst, arith, inl, inr, codes, suc, ne_eqb}
use Rattle.std.specs.List.{list_all}
use Rattle.std.specs.Option.{option_map_or}
use Rattle.std.specs.Str.{bytes_eq}
use Rattle.std.proofs.lemmas.Bool.{ltb-false, ltb-true, not-true}
use Rattle.clap.specs.Built.{IsParsedFrom}
use Rattle.clap.specs.Simple.{has_simple_rules}
use Rattle.clap.specs.Walk.{is_empty}
use Rattle.clap.specs.Words.{App, HasKind, HasMatchesOf, IsUnsignedIn, Kinds, Row, Rule, app_of, fault_of, found_of, is_simple, is_simple_and_free, one_of, rows_of}
use Rattle.clap.specs.Words.{kind_of as kind_of_error}
use Rattle.clap.specs.declared.builder.command.Command.{Command}
use Rattle.clap.specs.declared.builder.value_parser.ValueParser.{ValueParser}
use Rattle.clap.specs.declared.builder.value_parser.ValueParser.TheVariants.{Unsigned}
use Rattle.clap.specs.declared.error.Error.{Error}
use Rattle.clap.specs.declared.error.kind.ErrorKind.TheVariants.{OutOfMemory}
use Rattle.clap.specs.declared.parser.matches.ArgMatches.{ArgMatches}
use Rattle.clap.proofs.WalkLemmas.{both, one_text-rows}
use Rattle.irl_offer.specs.Buckets.{IsBucketCount}
use Rattle.irl_offer.specs.Settings.{AreValid, AreValidBudgets, AreValidSizes, settings_of}
use Rattle.irl_offer.specs.declared.offer.Rule.{Rule as ValueRule}
use Rattle.irl_offer.specs.declared.settings.Asked.{Asked}
use Rattle.irl_offer.specs.declared.settings.Kind.{Kind}
use Rattle.irl_offer.specs.declared.settings.Kind.TheVariants.{Lines, Tuples, Crawl}
use Rattle.irl_words.specs.Options.{budgets_options, options_of, rules_of}
use Rattle.irl_words.specs.Rows.{AreInRange, AreMatches, IsInParser}
use Rattle.irl_words.specs.Words.{AreRunOptions, IsInRange, asked_for, has_most_below_base, number_in, with_budgets, with_settings, with_widest_budgets}
use Rattle.irl_words.specs.declared.command.Command.TheVariants as Asks
use Rattle.irl_words.specs.declared.command.RunOptions.{RunOptions}
use Rattle.irl_words.specs.declared.name.Name.{Name}
use Rattle.irl_words.specs.declared.name.Name.TheVariants.{Seen, Drum, Replay, Crawl as Crawling, Gen, Show, List as Listing}
use Rattle.irl_words.proofs.Numbers.{number_in_range}
use Rattle.irl_words.proofs.Ranges.{takes_between, value_in_range}

-- ---- the rows
-- a rule of this id and parser is the only one of its id, and none that a reader adds
abbrev is_only : List Rule → List ℕ → Option ValueParser → Bool
is_only rules id (Some (Unsigned least most)) = list_all (takes_between id least most) rules
is_only rules id _ = true

abbrev is_own : List Rule → Rule → Bool
is_own rules rule =
    nat_lt 0 (length rule.id) && (not (bytes_eq (codes "help") rule.id) && (not (bytes_eq (codes "version") rule.id) && is_only rules rule.id rule.parser))

-- the command of a row is a simple one, whose options have no rule on one another
record IsRow (name : Name) : Type 0 where
  simple : is_simple (options_of name) ≡ true
  free : is_simple_and_free (options_of name) ≡ true
  rules : has_simple_rules (options_of name).top ≡ true
  own : list_all (is_own (options_of name).top.rules) (rules_of name) ≡ true

row : (name : Name) → IsRow name
row Seen = record { simple = refl; free = refl; rules = refl; own = refl }
row Drum = record { simple = refl; free = refl; rules = refl; own = refl }
row Replay = record { simple = refl; free = refl; rules = refl; own = refl }
row Crawling = record { simple = refl; free = refl; rules = refl; own = refl }
row Gen = record { simple = refl; free = refl; rules = refl; own = refl }
row Show = record { simple = refl; free = refl; rules = refl; own = refl }
row Listing = record { simple = refl; free = refl; rules = refl; own = refl }

-- ---- the values of options
any_value : (text : Option (List ℕ)) → IfSome text (λ t. Unit {0})
any_value None = tt
any_value (Some t) = tt

-- the value of an option, where it is named, is one that its parser takes
value : (command : Command) (m : ArgMatches) (id : List ℕ) (parser : Option ValueParser) → IsParsedFrom command m → has_simple_rules (app_of command).top ≡ true
    → 0 < length id → bytes_eq (codes "help") id ≡ false → bytes_eq (codes "version") id ≡ false → is_only (app_of command).top.rules id parser ≡ true
    → IfSome (one_of id (rows_of (found_of m))) (IsInParser parser)
value command m id (Some (Unsigned least most)) p plain named help version only =
    subst (λ v. IfSome v (IsUnsignedIn least most)) (one_text-rows (found_of m) id) (value_in_range command m p plain id least most named only help version)
value command m id _ p plain named help version only = any_value (one_of id (rows_of (found_of m)))

values : (command : Command) (m : ArgMatches) (rules : List Rule) → IsParsedFrom command m → has_simple_rules (app_of command).top ≡ true
    → list_all (is_own (app_of command).top.rules) rules ≡ true → AreInRange rules (rows_of (found_of m))
values command m [] p plain own = tt
values command m (rule ∷ rules) p plain own =
    let first = both _ _ own in
    let named = both _ _ first.0 in
    let help = both _ _ named.1 in
    let version = both _ _ help.1 in (
      value command m rule.id rule.parser p plain (ltb-true 0 (length rule.id) named.0) (not-true _ help.0) (not-true _ version.0) version.1,
      values command m rules p plain first.1,
    )

-- the matches of words that a command's options take
pub taken : (name : Name) (words : List (List ℕ)) (command : Command) (m : ArgMatches) → app_of command ≡ options_of name
    → IsParsedFrom command m → HasMatchesOf (app_of command) words m
    → (is_simple_and_free (app_of command) ≡ true → fault_of (app_of command) words ≡ []) → AreMatches name words (Some m)
taken name words command m is p matches faults =
    let free = ap is_simple_and_free is ∙ (row name).free in
    let none : fault_of (options_of name) words ≡ [] = subst (λ a. fault_of a words ≡ []) is (faults free) in
    let same = subst (λ a. HasMatchesOf a words m) is matches in
    let plain = ap (λ (a : App). has_simple_rules a.top) is ∙ (row name).rules in
    let own = ap (λ (a : App). list_all (is_own a.top.rules) (rules_of name)) is ∙ (row name).own in
    (ap is_empty none, (same (row name).simple).0, values command m (rules_of name) p plain own)

-- an error that isn't want of memory shows that there is a fault
has_fault : (kinds : Kinds) (e : Error) → HasKind kinds e → (kind_of_error e ≡ OutOfMemory → ⊥) → is_empty kinds ≡ false
has_fault [] e (inl memory) other = absurd (other memory)
has_fault [] e (inr none) other = absurd none
has_fault (k ∷ kinds) e h other = ne_eqb _ _ (λ none. let bad : suc (length kinds) ≡ 0 = none in omega arith)

pub refused : (name : Name) (words : List (List ℕ)) (command : Command) (e : Error) → app_of command ≡ options_of name
    → (is_simple_and_free (app_of command) ≡ true → HasKind (fault_of (app_of command) words) e) → (kind_of_error e ≡ OutOfMemory → ⊥)
    → is_empty (fault_of (options_of name) words) ≡ false
refused name words command e is faults other =
    let free = ap is_simple_and_free is ∙ (row name).free in
    has_fault (fault_of (options_of name) words) e (subst (λ a. HasKind (fault_of a words) e) is (faults free)) other

-- ---- what a command asks
-- what asks for sizes of a store alone is valid
valid : (asked : Asked) (kind : Kind) (rule : Option ValueRule) (rows : List Row) → asked ≡ with_settings rows (asked_for kind rule)
    → IsBucketCount (settings_of asked).buckets → AreValidSizes (settings_of asked) → AreValid (settings_of asked)
valid asked kind rule rows is buckets sizes =
    let budgets : AreValidBudgets (settings_of (with_settings rows (asked_for kind rule))) = record {
      queues = (omega arith, omega arith);
      base = (omega arith, omega arith);
      most = (omega arith, omega arith);
      ranks = (omega arith, omega arith);
    } in
    record { buckets = buckets; sizes = sizes; budgets = subst (λ (a : Asked). AreValidBudgets (settings_of a)) (sym is) budgets }

pub seen_in_range : (asked : Asked) (rows : List Row) → asked ≡ with_settings rows (asked_for Lines None) → IsBucketCount (settings_of asked).buckets
    → AreValidSizes (settings_of asked) → IsInRange (Asks.Seen asked)
seen_in_range asked rows is buckets sizes =
    record {
      kind = ap (λ (a : Asked). Some a.kind) is;
      rule = ap (λ (a : Asked). a.rule) is;
      valid = valid asked Lines None rows is buckets sizes;
      run = tt;
      number = tt;
    }

pub drum_in_range : (asked : Asked) (rule : Option ValueRule) (rows : List Row) → asked ≡ with_settings rows (asked_for Tuples rule)
    → IsBucketCount (settings_of asked).buckets → AreValidSizes (settings_of asked) → IsInRange (Asks.Drum asked)
drum_in_range asked rule rows is buckets sizes =
    record {
      kind = ap (λ (a : Asked). Some a.kind) is;
      rule = tt;
      valid = valid asked Tuples rule rows is buckets sizes;
      run = tt;
      number = tt;
    }

-- a base and a most that lie in their ranges, the most not below the base where both are there
ordered : (base most : Option ℕ) → option_map_or (λ b. option_map_or (λ m. nat_lt m b) most false) base false ≡ false → unwrap_or base 1 ≤ 1000000
    → 1 ≤ unwrap_or most 1000000 → unwrap_or base 1 ≤ unwrap_or most 1000000
ordered None most e low high = high
ordered (Some b) None e low high = low
ordered (Some b) (Some m) e low high = ltb-false m b e

-- what a crawl asks for, with its budgets
crawl_can_be : (asked sized : Asked) (rows : List Row) → sized ≡ with_settings rows (asked_for Crawl None) → asked ≡ with_budgets rows sized
    → IsBucketCount (settings_of asked).buckets → AreValidSizes (settings_of sized) → AreInRange budgets_options rows → has_most_below_base asked ≡ false
    → AreValid (settings_of (with_widest_budgets asked))
crawl_can_be asked sized rows from is buckets sizes range order =
    let base = number_in_range (codes "base") 1 1000000 1 rows range.1.0 (omega arith) (omega arith) in
    let most = number_in_range (codes "most") 1 1000000 1000000 rows range.1.1.0 (omega arith) (omega arith) in
    let named = subst (λ (a : Asked). has_most_below_base a ≡ false) is order in
    subst (λ (a : Asked). AreValid (settings_of (with_widest_budgets a))) (sym is)
    (record {
      buckets = subst (λ (a : Asked). IsBucketCount (settings_of a).buckets) is buckets;
      sizes = record { array = sizes.array; trigger = sizes.trigger; block = sizes.block; cap = sizes.cap };
      budgets = record {
        queues = number_in_range (codes "queues") 1 64 2 rows range.0 (omega arith) (omega arith);
        base = base;
        most = (ordered (number_in (codes "base") rows) (number_in (codes "most") rows) named base.1 most.0, most.1);
        ranks = number_in_range (codes "ranks") 1 1000000 10000 rows range.1.1.1.0 (omega arith) (omega arith);
      };
    })

pub replay_in_range : (asked sized : Asked) (options : RunOptions) (rows : List Row) → AreInRange budgets_options rows
    → sized ≡ with_settings rows (asked_for Crawl None) → asked ≡ with_budgets rows sized → IsBucketCount (settings_of asked).buckets
    → AreValidSizes (settings_of sized) → has_most_below_base asked ≡ false → AreRunOptions options → IsInRange (Asks.Replay asked options)
replay_in_range asked sized options rows range from is buckets sizes order run =
    let whole = is ∙ ap (with_budgets rows) from in
    record {
      kind = ap (λ (a : Asked). Some a.kind) whole;
      rule = ap (λ (a : Asked). a.rule) whole;
      valid = crawl_can_be asked sized rows from is buckets sizes range order;
      run = run;
      number = tt;
    }

-- ---- the numbers of crawls
-- a number that is named is in the range of the option that a command has for it
own_in_range : (which name : Name) (option : List ℕ) (most number : ℕ) (rows : List Row) → which ≡ name
    → (AreInRange (rules_of name) rows → IfSome (one_of option rows) (IsUnsignedIn 1 most)) → AreInRange (rules_of which) rows → number_in option rows ≡ Some number → 1 ≤ most
    → (1 ≤ number) × (number ≤ most)
own_in_range which name option most number rows same own range is some =
    subst (λ (n : Option ℕ). (1 ≤ unwrap_or n 1) × (unwrap_or n 1 ≤ most)) is
    (number_in_range option 1 most 1 rows (own (subst (λ (n : Name). AreInRange (rules_of n) rows) same range)) (omega arith) some)

pub port_in_range : (which : Name) (asked : Asked) (options : RunOptions) (port : ℕ) (rows : List Row) → which ≡ Crawling → AreInRange (rules_of which) rows
    → number_in (codes "port") rows ≡ Some port → IsInRange (Asks.Replay asked options) → IsInRange (Asks.Crawl asked options port)
port_in_range which asked options port rows name range is crawl =
    record {
      kind = crawl.kind;
      rule = crawl.rule;
      valid = crawl.valid;
      run = crawl.run;
      number = own_in_range which Crawling (codes "port") 65535 port rows name (λ all. all.1.1.1.1.1.1.1.1.1.1.1.1.1.1.0) range is (omega arith);
    }

pub pages_in_range : (which : Name) (asked : Asked) (options : RunOptions) (pages : ℕ) (rows : List Row) → which ≡ Gen → AreInRange (rules_of which) rows
    → number_in (codes "size") rows ≡ Some pages → IsInRange (Asks.Replay asked options) → IsInRange (Asks.Gen asked options pages)
pages_in_range which asked options pages rows name range is crawl =
    record {
      kind = crawl.kind;
      rule = crawl.rule;
      valid = crawl.valid;
      run = crawl.run;
      number = own_in_range which Gen (codes "size") 100000 pages rows name (λ all. all.1.1.1.1.1.1.1.1.1.1.1.1.1.1.0) range is (omega arith);
    }
