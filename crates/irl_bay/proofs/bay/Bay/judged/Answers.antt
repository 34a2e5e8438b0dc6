use Rattle.std.proofs.Common.{◌≡◌, ◌∙◌, ℕ, zero, suc, ◌-◌, ◌<◌, List, [], ◌∷◌, length, take, drop, get_or, Some, Err, sym, ap, rules, arith}
use Rattle.std.specs.Prelude.{slice_get}
use Rattle.std.specs.Result.{IsErrOf}
use Rattle.irl_base.specs.declared.fault.Fault.TheVariants.{Damaged}
use Rattle.irl_offer.specs.declared.receipt.Judged.{Judged}
use Rattle.irl_model.specs.Book.{gone, judged}
use Rattle.irl_bay.proofs.bay.Bay.judged.Goals as goal

pub returns-in_err-part : goal.returns-in_err-part
returns-in_err-part g c = record {
  reads = record {
    value = search rules;
    spoilt = λ f at is files told.
        let e : IsErrOf (Err c.in_err-part.field-0.0) (Damaged f at) = search rules in
        c.in_err-part.ensures.reads.spoilt f at e files told;
    whole = λ f at is files told book holds.
        let e : IsErrOf (Err c.in_err-part.field-0.0) (Damaged f at) = search rules in
        c.in_err-part.ensures.reads.whole f at e files told book holds;
    full = search rules;
    reads = search rules;
  };
}

-- the only one that is found is the one at the place
only_one : (list found : List Judged) (i : ℕ) (one : Judged) → i < length list → found ≡ take 1 (drop i list) → one ≡ get_or found 0 one → slice_get list i ≡ Some one
only_one [] found i one lt are first = absurd (omega arith)
only_one (x ∷ xs) found zero one lt are first = ap (λ (y : Judged). Some y) (sym (first ∙ ap (λ (l : List Judged). get_or l 0 one) are))
only_one (x ∷ xs) found (suc i) one lt are first = only_one xs found i one (omega arith) are first

pub returns : goal.returns
returns g c = record {
  reads = record {
    value = λ files told book holds.
        let place : c.args.i - gone book < length (judged book) = omega (arith, c.requires.place, holds.numbers.commit.judged) in
        only_one (judged book) c.in_ok-found.found.items (c.args.i - gone book) c.swap_remove.result place (c.in_ok-found.ensures
        ∙ c.in_ok-part.ensures.reads.value files told book holds) c.swap_remove.ensures.value;
    spoilt = search rules;
    whole = search rules;
    full = search rules;
    reads = search rules;
  };
}
