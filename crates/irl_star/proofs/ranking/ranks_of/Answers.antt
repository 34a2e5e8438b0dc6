use Rattle.std.proofs.Common.{◌≡◌, ◌∙◌, ◌<◌, ℕ, map, length, get_or, sym, ap, List, [], arith, Some}
use Rattle.std.specs.Prelude.{slice_get}
use Rattle.std.specs.Option.{option_map}
use Rattle.std.specs.declared.cmp.Reverse.{Reverse}
use Rattle.std.specs.Borrow.{Bor}
use Rattle.std.proofs.lemmas.Option.{slice_get-map, slice_get-get_or}
use Rattle.std.proofs.lemmas.List.{length-map}
use Rattle.irl_star.specs.Ranks.{domain_of}
use Rattle.irl_star.proofs.RankLemmas.{ranks_more, ranks_enough}
use Rattle.irl_base.proofs.TextMaps.{value_at-insert}
use Rattle.irl_star.proofs.ranking.ranks_of.Goals as goal

pub loop-rank-preserved : goal.loop-rank-preserved
loop-rank-preserved c =
    let ranked = c.args.ranked.now in
    let n = c.loop-rank.rank in
    let x : Reverse ℕ × Bor (List ℕ) = get_or ranked n (record { 0 = 0 }, record { ref_ptr = (0, 0); now = [] }) in
    let within : n < length ranked = omega arith in
    let at : slice_get (map domain_of ranked) n ≡ Some (domain_of x) =
    slice_get-map domain_of ranked n ∙ ap (option_map domain_of) (slice_get-get_or ranked n (record { 0 = 0 }, record { ref_ptr = (0, 0); now = [] }) within) in
    ranks_more (map domain_of ranked) n c.loop-rank.rank_of c.insert.new.self (domain_of x) c.in_ok-text.text.items at
    (sym (c.in_ok-text.ensures.items_if_clones_equal (λ x y e. e)))
    (λ q. value_at-insert q c.in_ok-text.text n c.loop-rank.rank_of.entries c.insert.new.self.entries c.in_ok-insert.ensures.entries)
    c.loop-rank.invariant

pub returns : goal.returns
returns c =
    ranks_enough (map domain_of c.args.ranked.now) c.loop-rank.rank c.args.ranks c.loop-rank.rank_of (omega arith)
    (λ i lt within. omega (arith, length-map c.args.ranked.now domain_of)) c.loop-rank.invariant
