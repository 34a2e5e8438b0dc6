use Rattle.std.proofs.Common.{◌≡◌, ◌∙◌, ap, codes, rules, sym}
use Rattle.clap.specs.Words.{first_of, found_of, rows_of}
use Rattle.clap.proofs.WalkLemmas.{first_value-rows}
use Rattle.irl_words.specs.Words.{IsRefusedBy, decided, rule_in, with_settings}
use Rattle.irl_words.proofs.Deciding.{drum_asks, drum_refused, drum_refuses, refused_with}
use Rattle.irl_words.proofs.Taking.{pages_in_range, port_in_range}
use Rattle.irl_words.proofs.words.decide.Goals as goal

pub returns-in_err-checked-in-Some-clause-refused : goal.returns-in_err-checked-in-Some-clause-refused
returns-in_err-checked-in-Some-clause-refused c =
    let rows = rows_of (found_of c.args.matches.now) in
    let read : c.rule.result ≡ rule_in (first_of (codes "rule") rows) = c.rule.ensures ∙ ap rule_in (c.get_str.ensures ∙ first_value-rows (found_of c.args.matches.now) (codes "rule")) in
    let asked = c.settings-asked-in-Some.ensures.value ∙ ap (with_settings rows) c.asked_for-in-Some.ensures in
    let is : IsRefusedBy (decided c.args.name c.args.word.now rows) c.in_err-checked-in-Some.field-0.0 =
    drum_refuses c.args.name c.args.word.now rows c.in-Some.rule _ _ c.in-Drum.is (sym read ∙ c.in-Some.is) asked c.in_err-checked-in-Some.ensures.refused in
    search rules

pub returns-in_ok-checked-in-Some-clause-command : goal.returns-in_ok-checked-in-Some-clause-command
returns-in_ok-checked-in-Some-clause-command c =
    let rows = rows_of (found_of c.args.matches.now) in
    let read : c.rule.result ≡ rule_in (first_of (codes "rule") rows) = c.rule.ensures ∙ ap rule_in (c.get_str.ensures ∙ first_value-rows (found_of c.args.matches.now) (codes "rule")) in
    let asked = c.settings-asked-in-Some.ensures.value ∙ ap (with_settings rows) c.asked_for-in-Some.ensures in
    drum_asks c.args.name c.args.word.now rows c.in-Some.rule _ _ c.in-Drum.is (sym read ∙ c.in-Some.is) asked c.in_ok-checked-in-Some.ensures.asked

pub returns-in-None-clause-refused : goal.returns-in-None-clause-refused
returns-in-None-clause-refused c =
    let rows = rows_of (found_of c.args.matches.now) in
    let read : c.rule.result ≡ rule_in (first_of (codes "rule") rows) = c.rule.ensures ∙ ap rule_in (c.get_str.ensures ∙ first_value-rows (found_of c.args.matches.now) (codes "rule")) in
    refused_with _ c.args.word.now c.refusal.result (drum_refused c.args.name c.args.word.now rows c.in-Drum.is (sym read ∙ c.in-None.is)) c.refusal.ensures

pub returns-in_ok-asked-in-Some-small_number-clause-range : goal.returns-in_ok-asked-in-Some-small_number-clause-range
returns-in_ok-asked-in-Some-small_number-clause-range c =
    port_in_range c.args.name _ _ c.in-Some-small_number.port (rows_of (found_of c.args.matches.now)) c.in-Crawl.is c.requires
    (sym c.small_number.ensures ∙ c.in-Some-small_number.is) c.in_ok-asked-in-Some-small_number.ensures.range

pub returns-in_ok-asked-in-Some-number-clause-range : goal.returns-in_ok-asked-in-Some-number-clause-range
returns-in_ok-asked-in-Some-number-clause-range c =
    pages_in_range c.args.name _ _ c.in-Some-number.pages (rows_of (found_of c.args.matches.now)) c.in-Gen.is c.requires
    (sym c.number.ensures ∙ c.in-Some-number.is) c.in_ok-asked-in-Some-number.ensures.range
