-- The arguments of the code's tables, as a reader of command lines is told them.
use Rattle.std.proofs.Common.{◌≡◌, ◌∙◌, ◌+◌, ◌<◌, ◌^◌, ◌++◌, ℕ, suc, List, [], ◌∷◌, length, map, take, get_or, Some, sym, ap, subst, append-nil, arith, ℤ, pos, to_z}
use Rattle.std.specs.Borrow.{Bor}
use Rattle.std.specs.List.{flat_map, fold}
use Rattle.std.specs.Ordering.{nat_cmp, ord_max}
use Rattle.std.specs.Int.{saturate_unsigned, w64}
use Rattle.std.proofs.Math.Seq.{take-suc}
use Rattle.std.proofs.lemmas.List.{map-append}
use Rattle.std.proofs.lemmas.Grind.{flat_map-append}
use Rattle.std.proofs.lemmas.List.Sums.{fold-append}
use Rattle.std.proofs.lemmas.Int.{to_z_pos}
use Rattle.clap.specs.Values.{NarrowsTo, unsigned_up_to}
use Rattle.clap.specs.declared.builder.value_parser.ValueParser.{ValueParser}
use Rattle.clap.specs.Words.{App, Rule, with_rule}
use Rattle.clap.specs.declared.builder.value_parser.ValueParser.TheVariants.{Unsigned}
use Rattle.irl_words.specs.Tables.{rule_of_argument, rules_of_group}
use Rattle.irl_words.specs.declared.options.Argument.{Argument}

-- two numbers below the greatest signed one narrow the numbers of 64 bits to those from one to the other
pub narrowed : (least most : ℕ) → least < 2 ^ 63 → most < 2 ^ 63
    → unsigned_up_to (ord_max nat_cmp 0 (saturate_unsigned w64 (pos least))) 18446744073709551615 (Some (pos most)) ≡ Unsigned least most
narrowed least most low high = grind (arith)

-- so narrowed is a parser of the numbers of 64 bits by a range of signed ones
pub ranged : (whole parser : ValueParser) (start last : ℤ) (least most : ℕ) → whole ≡ Unsigned 0 18446744073709551615
    → start ≡ to_z w64 least → last ≡ to_z w64 most → least < 2 ^ 63 → most < 2 ^ 63
    → NarrowsTo whole (Some start) (Some last) parser → parser ≡ Unsigned least most
ranged whole parser start last least most all from upto low high narrows =
    let one = subst (λ (p : ValueParser). NarrowsTo p (Some start) (Some last) parser) all narrows in
    let two = subst (λ (z : ℤ). NarrowsTo (Unsigned 0 18446744073709551615) (Some z) (Some last) parser) (from ∙ to_z_pos w64 least low) one in
    subst (λ (z : ℤ). NarrowsTo (Unsigned 0 18446744073709551615) (Some (pos least)) (Some z) parser) (upto ∙ to_z_pos w64 most high) two ∙ narrowed least most low high

-- a command that has the arguments before one, and then that one
pub one_more : (arguments : List Argument) (i : ℕ) (last : Argument) (start old new : App) → i < length arguments
    → old ≡ fold with_rule start (map rule_of_argument (take i arguments)) → new ≡ with_rule old (rule_of_argument (get_or arguments i last))
    → new ≡ fold with_rule start (map rule_of_argument (take (i + 1) arguments))
one_more arguments i last start old new within before is =
    let more : i + 1 ≡ suc i = omega arith in
    let next = ap (λ (n : ℕ). take n arguments) more ∙ take-suc arguments i last within in
    let one = get_or arguments i last in
    is
    ∙ ap (λ (a : App). with_rule a (rule_of_argument one)) before
    ∙ sym (fold-append with_rule start (map rule_of_argument (take i arguments)) (rule_of_argument one ∷ []))
    ∙ ap (fold with_rule start) (sym (map-append rule_of_argument (take i arguments) (one ∷ [])))
    ∙ ap (λ (all : List Argument). fold with_rule start (map rule_of_argument all)) (sym next)

-- the same of groups
pub one_group_more : (groups : List (Bor (List Argument))) (i : ℕ) (last : Bor (List Argument)) (start old new : App) → i < length groups
    → old ≡ fold with_rule start (flat_map rules_of_group (take i groups)) → new ≡ fold with_rule old (rules_of_group (get_or groups i last))
    → new ≡ fold with_rule start (flat_map rules_of_group (take (i + 1) groups))
one_group_more groups i last start old new within before is =
    let more : i + 1 ≡ suc i = omega arith in
    let next = ap (λ (n : ℕ). take n groups) more ∙ take-suc groups i last within in
    let one = get_or groups i last in
    is
    ∙ ap (λ (a : App). fold with_rule a (rules_of_group one)) before
    ∙ sym (fold-append with_rule start (flat_map rules_of_group (take i groups)) (rules_of_group one))
    ∙ ap (λ (more : List Rule). fold with_rule start (flat_map rules_of_group (take i groups) ++ more)) (sym (append-nil (rules_of_group one)))
    ∙ ap (fold with_rule start) (sym (flat_map-append rules_of_group (take i groups) (one ∷ [])))
    ∙ ap (λ (all : List (Bor (List Argument))). fold with_rule start (flat_map rules_of_group all)) (sym next)
