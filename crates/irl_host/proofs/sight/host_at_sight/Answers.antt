use Rattle.std.proofs.Common.{◌≡◌, ◌∙◌, ◌<◌, ◌≤◌, ℕ, List, length, drop, take, true, false, None, sym, ap, arith, rules}
use Rattle.std.specs.Prelude.{option_copied, bytes_eq, nat_le, codes}
use Rattle.std.proofs.lemmas.Bool.{cond-true, cond-false, and_from, and_right}
use Rattle.std.proofs.lemmas.Bool.Decides.{nat_tests}
use Rattle.irl_base.specs.Limits.{max_text}
use Rattle.irl_host.specs.Sight.{host_in_front, sight_of}
use Rattle.irl_host.proofs.Texts.{canonical_at_sight, value_at_sight, short_at_sight}
use Rattle.irl_host.proofs.sight.host_at_sight.Goals as goal

seen_long : (text : List ℕ) → max_text < length text → None ≡ sight_of text
unfolding sight_of
seen_long text long = let test : nat_le (length text) max_text ≡ false = grind (arith, nat_tests) in rw test

seen_other : (text : List ℕ) → bytes_eq (take 7 text) (codes "http://") ≡ false → None ≡ sight_of text
unfolding sight_of
seen_other text other = sym (cond-false _ _ _ (and_right _ _ other))

seen_rest : (text rest : List ℕ) → length text ≤ max_text → bytes_eq (take 7 text) (codes "http://") ≡ true → rest ≡ drop 7 text
    → host_in_front rest ≡ sight_of text
unfolding sight_of
seen_rest text rest short front is =
    let test : nat_le (length text) max_text ≡ true = grind (arith, nat_tests) in
    ap host_in_front is ∙ sym (cond-true _ _ _ (and_from _ _ test front))

pub returns-then-text-gt-MAX_TEXT-clause-seen : goal.returns-then-text-gt-MAX_TEXT-clause-seen
returns-then-text-gt-MAX_TEXT-clause-seen c = seen_long c.args.text.now c.if-text-gt-MAX_TEXT.true

pub returns-in_err-strip_prefix-clause-seen : goal.returns-in_err-strip_prefix-clause-seen
returns-in_err-strip_prefix-clause-seen c =
    let none : option_copied c.from_residual.result ≡ None = search rules in
    none ∙ seen_other c.args.text.now c.in_err-strip_prefix.ensures.cases

pub returns : goal.returns
returns c =
    let stripped = c.in_ok-strip_prefix.ensures.cases in
    let answer = c.host_in_front.result in
    let text = c.args.text.now in
    let sight = c.host_in_front.ensures ∙ seen_rest text _ c.if-text-gt-MAX_TEXT.false stripped.0 stripped.1 in
    record {
      seen = sight;
      canonical = canonical_at_sight answer text sight;
      value = value_at_sight answer text sight;
      short = short_at_sight answer text sight;
    }
