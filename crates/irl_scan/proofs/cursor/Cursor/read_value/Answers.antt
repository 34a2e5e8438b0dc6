use Rattle.std.proofs.Common.{◌≡◌, ◌-◌, true, false, length, drop, Some, None, ap, sym, ◌∙◌, arith}
use Rattle.irl_scan.specs.Bytes.{at_byte, ends_bare_value}
use Rattle.irl_scan.specs.Page.{not_space}
use Rattle.irl_scan.specs.Reading.{from, is_at, first_is, quote_at}
use Rattle.irl_scan.proofs.Searches.{byte_found_run, position_run}
use Rattle.irl_scan.proofs.Values.{absent_read, bare_read, quoted_read, absent_stands, bare_stands, quoted_stands}
use Rattle.irl_scan.proofs.cursor.Cursor.read_value.Goals as goal

pub returns-then-not-first_is-clause-span : goal.returns-then-not-first_is-clause-span
returns-then-not-first_is-clause-span c =
    let rest = c.args.self.now.rest.now in
    let no_sign : first_is 61 (from not_space rest) ≡ false = cc in
    absent_stands c.args.self.now.size rest c.place-place.result no_sign c.place-place.ensures

pub returns-then-not-first_is-clause-rest : goal.returns-then-not-first_is-clause-rest
returns-then-not-first_is-clause-rest c =
    let rest = c.args.self.now.rest.now in
    let no_sign : first_is 61 (from not_space rest) ≡ false = cc in
    sym (ap (λ r. r.1) (absent_read rest no_sign))

pub returns-in-Some-clause-span : goal.returns-in-Some-clause-span
returns-in-Some-clause-span c =
    let size = c.args.self.now.size in
    let rest = c.args.self.now.rest.now in
    let after = c.skip.new.self.rest.now in
    let value = c.skip_space-2.new.self.rest.now in
    let quote = c.in-Some.quote in
    let sign : first_is 61 (from not_space rest) ≡ true = cc in
    let a : after ≡ drop 1 (from not_space rest) = c.skip.ensures.rest ∙ ap (drop 1) c.skip_space.ensures.rest in
    let q : quote_at value ≡ Some quote = sym c.quote_at.ensures ∙ c.in-Some.is in
    let run = byte_found_run quote c.skip-in-Some.new.self.rest.now c.memchr.result c.memchr.ensures in
    let left : c.take_to.new.self.rest.now ≡ from (is_at quote) (drop 1 value) = c.take_to.ensures.rest ∙ run.back ∙ ap (from (is_at quote)) c.skip-in-Some.ensures.rest in
    let begins = ap length c.skip-in-Some.ensures.rest in
    let ends = ap length left in
    let start : c.place-start.result ≡ size - length (drop 1 value) = omega arith in
    let end : c.place-end.result ≡ size - length (from (is_at quote) (drop 1 value)) = omega arith in
    quoted_stands size rest after value c.place-start.result c.place-end.result c.args.self.now.fits sign a c.skip_space-2.ensures.rest quote q start end

pub returns-in-Some-clause-rest : goal.returns-in-Some-clause-rest
returns-in-Some-clause-rest c =
    let rest = c.args.self.now.rest.now in
    let after = c.skip.new.self.rest.now in
    let value = c.skip_space-2.new.self.rest.now in
    let quote = c.in-Some.quote in
    let sign : first_is 61 (from not_space rest) ≡ true = cc in
    let a : after ≡ drop 1 (from not_space rest) = c.skip.ensures.rest ∙ ap (drop 1) c.skip_space.ensures.rest in
    let q : quote_at value ≡ Some quote = sym c.quote_at.ensures ∙ c.in-Some.is in
    let run = byte_found_run quote c.skip-in-Some.new.self.rest.now c.memchr.result c.memchr.ensures in
    let left : c.take_to.new.self.rest.now ≡ from (is_at quote) (drop 1 value) = c.take_to.ensures.rest ∙ run.back ∙ ap (from (is_at quote)) c.skip-in-Some.ensures.rest in
    c.skip-in-Some-2.ensures.rest ∙ ap (drop 1) left ∙ sym (ap (λ r. r.1) (quoted_read rest after value quote sign a c.skip_space-2.ensures.rest q))

pub returns-in-None-clause-span : goal.returns-in-None-clause-span
returns-in-None-clause-span c =
    let size = c.args.self.now.size in
    let rest = c.args.self.now.rest.now in
    let after = c.skip.new.self.rest.now in
    let value = c.skip_space-2.new.self.rest.now in
    let sign : first_is 61 (from not_space rest) ≡ true = cc in
    let a : after ≡ drop 1 (from not_space rest) = c.skip.ensures.rest ∙ ap (drop 1) c.skip_space.ensures.rest in
    let q : quote_at value ≡ None = sym c.quote_at.ensures ∙ c.in-None.is in
    let run = position_run ends_bare_value value c.bare_value_end.result c.bare_value_end.ensures in
    let left : c.take_to-in-None.new.self.rest.now ≡ from (at_byte ends_bare_value) value = c.take_to-in-None.ensures.rest ∙ run.back in
    let ends = ap length left in
    let start : c.place-start-in-None.result ≡ size - length value = omega arith in
    let end : c.place-end-in-None.result ≡ size - length (from (at_byte ends_bare_value) value) = omega arith in
    bare_stands size rest after value c.place-start-in-None.result c.place-end-in-None.result c.args.self.now.fits sign a c.skip_space-2.ensures.rest q start end

pub returns-in-None-clause-rest : goal.returns-in-None-clause-rest
returns-in-None-clause-rest c =
    let rest = c.args.self.now.rest.now in
    let after = c.skip.new.self.rest.now in
    let value = c.skip_space-2.new.self.rest.now in
    let sign : first_is 61 (from not_space rest) ≡ true = cc in
    let a : after ≡ drop 1 (from not_space rest) = c.skip.ensures.rest ∙ ap (drop 1) c.skip_space.ensures.rest in
    let q : quote_at value ≡ None = sym c.quote_at.ensures ∙ c.in-None.is in
    let run = position_run ends_bare_value value c.bare_value_end.result c.bare_value_end.ensures in
    c.take_to-in-None.ensures.rest ∙ run.back ∙ sym (ap (λ r. r.1) (bare_read rest after value sign a c.skip_space-2.ensures.rest q))
