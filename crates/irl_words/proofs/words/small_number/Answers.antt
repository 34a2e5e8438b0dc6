use Rattle.std.proofs.Common.{◌∙◌, IfSome, ap, subst, sym, arith, option_map}
use Rattle.std.specs.Str.Parse.{ExplainsUnsignedError, HasUnsignedDigitsIfOk, ParsesUnsigned, digits_value, without_leading_plus}
use Rattle.clap.specs.Words.{IsUnsignedIn, found_of}
use Rattle.clap.proofs.WalkLemmas.{one_text-rows}
use Rattle.irl_words.proofs.Numbers.{number_read}
use Rattle.irl_words.proofs.words.small_number.Goals as goal

pub returns : goal.returns
returns c =
    let rows = one_text-rows (found_of c.args.matches.now) c.args.option.now in
    number_read (λ bs r. ParsesUnsigned 16 10 bs r × ExplainsUnsignedError 10 bs r × HasUnsignedDigitsIfOk bs r) 16 65535 _ c.get_one.result
    c.get_one.ensures.none c.get_one.ensures.value (λ u x g. g.0) (omega arith) (subst (λ v. IfSome v (IsUnsignedIn 0 65535)) (sym rows) c.requires)
    ∙ ap (option_map (λ t. digits_value 10 (without_leading_plus t))) rows
