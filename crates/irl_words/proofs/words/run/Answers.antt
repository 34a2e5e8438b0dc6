use Rattle.std.proofs.Common.{◌≡◌, ◌∙◌, true, false, ap, arith, codes, rules, sym}
use Rattle.clap.specs.Words.{first_of, found_of, rows_of}
use Rattle.clap.proofs.WalkLemmas.{first_value-rows}
use Rattle.irl_words.specs.Words.{is_agent, run_in}
use Rattle.irl_words.proofs.Deciding.{agent_is, agent_refused, refused_with, run_as_asked}
use Rattle.irl_words.proofs.Numbers.{number_in_range}
use Rattle.irl_words.proofs.words.run.Goals as goal

pub returns-then-not-is_agent-clause-refused : goal.returns-then-not-is_agent-clause-refused
returns-then-not-is_agent-clause-refused c =
    let options = run_in (rows_of (found_of c.args.matches.now)) in
    let read = c.get_str.ensures ∙ first_value-rows (found_of c.args.matches.now) (codes "agent") in
    let named : c.unwrap_or-agent.result.now ≡ options.agent = ap (λ b. b.now) c.unwrap_or-agent.ensures ∙ agent_is c.get_str.result _ _ read in
    let bad : c.is_agent.result ≡ false = search rules in
    refused_with _ (codes "--agent") c.refusal.result (agent_refused options (ap is_agent (sym named) ∙ sym c.is_agent.ensures ∙ bad)) c.refusal.ensures

pub returns-clause-options : goal.returns-clause-options
returns-clause-options c =
    let options = run_in (rows_of (found_of c.args.matches.now)) in
    let read = c.get_str.ensures ∙ first_value-rows (found_of c.args.matches.now) (codes "agent") in
    let named : c.unwrap_or-agent.result.now ≡ options.agent = ap (λ b. b.now) c.unwrap_or-agent.ensures ∙ agent_is c.get_str.result _ _ read in
    let good : c.is_agent.result ≡ true = search rules in
    run_as_asked options (ap is_agent (sym named) ∙ sym c.is_agent.ensures ∙ good) ∙ search rules

pub returns-clause-range : goal.returns-clause-range
returns-clause-range c =
    let rows = rows_of (found_of c.args.matches.now) in
    let delay = number_in_range (codes "delay") 0 86399999 1000 rows c.requires.1.0 (omega arith) (omega arith) in
    record {
      workers = rw (c.unwrap_or.ensures, c.number.ensures) (number_in_range (codes "workers") 1 64 1 rows c.requires.0 (omega arith) (omega arith));
      delay = rw (c.unwrap_or-2.ensures, c.large_number.ensures) delay.1;
      pages = rw (c.unwrap_or-3.ensures, c.number-2.ensures) (number_in_range (codes "pages") 1 4294967295 1000000 rows c.requires.1.1.0 (omega arith) (omega arith));
      batch = rw (c.unwrap_or-4.ensures, c.number-3.ensures) (number_in_range (codes "batch") 1 16384 4096 rows c.requires.1.1.1.0 (omega arith) (omega arith));
      agent = search rules;
    }
