use Rattle.std.proofs.Common.{◌≡◌, ◌∙◌, ◌+◌, [], ◌∷◌, ℕ, suc, List, Option, Some, length, map, sym, subst, ap, arith, length-append}
use Rattle.irl_offer.specs.declared.receipt.Pair.{Pair}
use Rattle.irl_model.specs.Pairs.{pair_of}
use Rattle.irl_cache.specs.SortedRun.{pairs_bytes, AreWordPairs, IsAbove, RisesFrom, last_from, last_at}
use Rattle.irl_cache.proofs.Rising.{last_both, rise_both}
use Rattle.irl_cache.proofs.RunBytes.{piece_more, words_joined}
use Rattle.irl_cache.proofs.decode.read_pairs.Goals as goal
use Rattle.irl_cache.proofs.decode.read_pairs.Goals.{in-Some+else-pair-before, in_default}

pub loop-i-preserved : goal.loop-i-preserved
loop-i-preserved c =
    let i = c.loop-i.i in
    let bytes = c.args.bytes.now in
    let pair = c.pair_at-pair.result in
    let items = c.loop-i.pairs.items in
    let is = c.push_reserved.ensures.items in
    let above : IsAbove c.loop-i.end pair.key =
    elim c.match-end.branch [
      | in-Some+else-pair-before w ↦ subst (λ (last : Option ℕ). IsAbove last pair.key) (sym w.in-Some.is) (omega (arith, w.if-pair-before.false))
      | in_default w ↦ subst (λ (last : Option ℕ). IsAbove last pair.key) (sym w.in_default.is) tt
    ] in
    let next : suc i ≡ i + 1 = omega arith in
    record {
      count = ap length is ∙ length-append items (pair ∷ []) ∙ ap (λ (n : ℕ). n + 1) c.loop-i.invariant.count;
      bytes = ap (λ (l : List Pair). pairs_bytes (map pair_of l)) is
          ∙ piece_more bytes i items pair c.loop-i-test.true (λ k. omega (arith, c.type_inv.bytes k)) c.pair_at-pair.ensures.key c.pair_at-pair.ensures.value c.loop-i.invariant.bytes;
      rising = subst (RisesFrom c.args.last) (sym is) (rise_both c.args.last items (pair ∷ []) c.loop-i.invariant.rising
          (subst (λ (last : Option ℕ). IsAbove last pair.key) c.loop-i.invariant.last above, tt));
      words = subst (λ (l : List Pair). AreWordPairs (map pair_of l)) (sym is) (words_joined items (pair ∷ []) c.loop-i.invariant.words (c.pair_at-pair.ensures.words, tt));
      last = sym (ap (last_from c.args.last) is ∙ last_both c.args.last items (pair ∷ []));
      before = ap Some c.pair_at-pair.ensures.key ∙ ap (λ (n : ℕ). last_at c.args.last n bytes) next;
      capacity = c.push_reserved.ensures.capacity ∙ c.loop-i.invariant.capacity;
    }
