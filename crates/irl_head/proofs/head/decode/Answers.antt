use Rattle.std.proofs.Common.{◌≡◌, ◌∙◌, ℕ, ◌+◌, ◌*◌, ◌-◌, ◌++◌, inr, subst, refl, sym, ap, arith, rules, List, drop}
use Rattle.std.specs.List.{flat_map}
use Rattle.byteorder.specs.Endian.{little_bytes, little_number}
use Rattle.irl_head.proofs.NumberBytes.{to_end}
use Rattle.irl_head.specs.Head.{head_name, head_version}
use Rattle.irl_head.specs.Numbers.{AreInRange}
use Rattle.irl_head.proofs.HeadBytes.{told_place, bad_setting, head_written, valid_settings}
use Rattle.irl_head.proofs.head.decode.Goals as goal

pub returns-in-Some-first_bad_number-clause-none : goal.returns-in-Some-first_bad_number-clause-none
returns-in-Some-first_bad_number-clause-none c = λ at is.
    let version : little_number 4 (drop 8 c.args.payload.now) ≡ head_version = sym (ap (little_number 4) (to_end 8 c.args.payload.now)) ∙ sym c.read_u32.ensures ∙ c.if-read_u32-ne-VERSION.false in
    let place = told_place (17 + 8 * (c.from.result - 1)) at is in
    let bad = bad_setting c.args.payload.now c.numbers_in-numbers.result c.in-Some-first_bad_number.n c.numbers_in-numbers.ensures c.in-Some-first_bad_number.ensures.found in
    inr (inr (inr (c.if-payload-ne-HEAD_LEN.false, c.in_default.ensures.none refl, version, c.in-Some-first_bad_number.n, bad, omega (arith, place, c.from.ensures))))

pub returns-clause-found : goal.returns-clause-found
returns-clause-found c =
    let version : little_number 4 (drop 8 c.args.payload.now) ≡ head_version = sym (ap (little_number 4) (to_end 8 c.args.payload.now)) ∙ sym c.read_u32.ensures ∙ c.if-read_u32-ne-VERSION.false in
    let are = c.settings_of.ensures in
    let within = c.in_default-first_bad_number.ensures.none refl in
    let written = head_written c.args.payload.now c.numbers_in-numbers.result c.if-payload-ne-HEAD_LEN.false (search rules) (c.in_default.ensures.none refl) (version) (search rules)
    c.numbers_in-numbers.ensures in (
      valid_settings c.settings_of.result (subst AreInRange (sym are) within),
      written ∙ ap (λ (l : List ℕ). head_name ++ (little_bytes 4 head_version ++ flat_map (little_bytes 8) l)) (sym are),
    )
