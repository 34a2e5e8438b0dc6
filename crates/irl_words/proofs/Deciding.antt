-- What a command's values are decided as, by the cases of what they ask.
use Rattle.std.proofs.Common.{◌≡◌, ◌∙◌, List, ℕ, true, false, Option, Some, None, Result, Ok, Err, option_map, unwrap_or, refl, ap, sym, codes}
use Rattle.std.specs.Borrow.{Bor}
use Rattle.std.specs.Option.{option_map_or}
use Rattle.clap.specs.Words.{Row, first_of}
use Rattle.irl_offer.specs.declared.offer.Rule.{Rule}
use Rattle.irl_offer.specs.declared.settings.Asked.{Asked}
use Rattle.irl_offer.specs.declared.settings.Kind.TheVariants.{Tuples}
use Rattle.irl_words.specs.Words.{IsFaultWith, IsRefusedBy, asked_for, asking, checked, checked_run, decided, is_agent, rule_in, with_settings}
use Rattle.irl_words.specs.declared.command.Command.TheVariants.{Drum}
use Rattle.irl_words.specs.declared.command.RunOptions.{RunOptions}
use Rattle.irl_words.specs.declared.command.WordFault.{WordFault}
use Rattle.irl_words.specs.declared.command.WordFault.TheVariants.{Refused, Memory}
use Rattle.irl_words.specs.declared.name.Name.{Name}
use Rattle.irl_words.specs.declared.name.Name.TheVariants as name

drum_by : (word : List ℕ) (rows : List Row) (rule : Option (Option Rule)) → rule_in (first_of (codes "rule") rows) ≡ rule
    → decided name.Drum word rows ≡ option_map_or (λ rule. asking Drum (checked (with_settings rows (asked_for Tuples rule)))) rule (Err word)
drum_by word rows rule is = ap (λ (r : Option (Option Rule)). option_map_or (λ rule. asking Drum (checked (with_settings rows (asked_for Tuples rule)))) r (Err word)) is

-- `drum` asks for a rule, and is done or refused as what it asks is
pub drum_asks : (which : Name) (word : List ℕ) (rows : List Row) (rule : Option Rule) (asked : Asked) (answer : Result Asked (List ℕ)) → which ≡ name.Drum
    → rule_in (first_of (codes "rule") rows) ≡ Some rule
    → asked ≡ with_settings rows (asked_for Tuples rule) → checked asked ≡ answer → decided which word rows ≡ asking Drum answer
drum_asks which word rows rule asked answer is named same given =
    ap (λ (n : Name). decided n word rows) is ∙ drum_by word rows (Some rule) named ∙ ap (λ (a : Asked). asking Drum (checked a)) (sym same) ∙ ap (asking Drum) given

-- and is refused with its own word where that is no rule
pub drum_refused : (which : Name) (word : List ℕ) (rows : List Row) → which ≡ name.Drum → rule_in (first_of (codes "rule") rows) ≡ None → decided which word rows ≡ Err word
drum_refused which word rows is named = ap (λ (n : Name). decided n word rows) is ∙ drum_by word rows None named

-- a fault of words that are refused with a word, where that is what they are refused with
pub refused_with : {A : Type 0} (answer : Result A (List ℕ)) (word : List ℕ) (fault : WordFault) → answer ≡ Err word → IsFaultWith word fault → IsRefusedBy answer fault
refused_with answer word (Refused said) is said_is = is ∙ ap (λ (w : List ℕ). Err w) (sym said_is)
refused_with answer word Memory is said_is = tt

-- `drum` is refused as what it asks is
pub drum_refuses : (which : Name) (word : List ℕ) (rows : List Row) (rule : Option Rule) (asked : Asked) (fault : WordFault) → which ≡ name.Drum
    → rule_in (first_of (codes "rule") rows) ≡ Some rule
    → asked ≡ with_settings rows (asked_for Tuples rule) → IsRefusedBy (checked asked) fault → IsRefusedBy (decided which word rows) fault
drum_refuses which word rows rule asked (Refused said) is named same refused = drum_asks which word rows rule asked (Err said) is named same refused
drum_refuses which word rows rule asked Memory is named same refused = tt

-- ---- how a crawl is run
-- the agent of the options
pub agent_is : (option : Option (Bor (List ℕ))) (default : Bor (List ℕ)) (value : Option (List ℕ)) → option_map (λ s. s.now) option ≡ value
    → (unwrap_or option default).now ≡ unwrap_or value default.now
agent_is None default value is = ap (λ (o : Option (List ℕ)). unwrap_or o default.now) is
agent_is (Some agent) default value is = ap (λ (o : Option (List ℕ)). unwrap_or o default.now) is

-- options are refused with `--agent`, or they are not
pub agent_refused : (options : RunOptions) → is_agent options.agent ≡ false → checked_run options ≡ Err (codes "--agent")
agent_refused options bad = rw bad refl

pub run_as_asked : (options : RunOptions) → is_agent options.agent ≡ true → checked_run options ≡ Ok options
run_as_asked options agent = rw agent refl
