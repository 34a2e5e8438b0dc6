use Rattle.std.proofs.Common.{◌≡◌, ◌≤◌, ◌<◌, ◌-◌, ◌++◌, ℕ, suc, List, inl, length, take, drop, get_or, refl, sym, ap, subst, arith, drop-cons, ◌∙◌, false}
use Rattle.std.specs.Prelude.{nat_eq}
use Rattle.std.proofs.lemmas.List.{take-append-drop}
use Rattle.std.proofs.lemmas.Bool.Decides.{nat_tests}
use Rattle.std.specs.List.{AllByRecursion}
use Rattle.irl_offer.specs.Buckets.{bucket_of}
use Rattle.irl_offer.specs.declared.receipt.Pair.{Pair}
use Rattle.irl_model.specs.Pairs.{IsRising}
use Rattle.irl_cache.specs.SortedRun.{RisesFrom}
use Rattle.irl_cache.specs.Writing.{HasWritten}
use Rattle.irl_merge.specs.Sweeping.{HasSwept}
use Rattle.irl_bay.specs.Sides.{rest_of}
use Rattle.irl_bay.proofs.InBuckets.{drop_then, slice_tail}
use Rattle.irl_bay.proofs.Sweeps.{feeds, has_place, more_rises, piece_here, piece_rises, same_file}
use Rattle.irl_bay.proofs.sides.Sides.feed_piece.Goals as goal

-- the slice of the block that isn't fed
tail : (block blk : List Pair) (fed : ℕ) → blk ≡ block → take (length blk - fed) (drop fed blk) ≡ drop fed block
tail block blk fed is = slice_tail fed blk ∙ ap (drop fed) is

front : (slice rest : List Pair) (count : ℕ) → slice ≡ rest → take count slice ≡ take count rest
front slice rest count is = ap (take count) is

below : (m n : ℕ) → m ≤ n → nat_eq m n ≡ false → m < n
below m n le e = grind (arith, nat_tests)

pub put_all-requires-clause-long : goal.put_all-requires-clause-long
put_all-requires-clause-long g c = has_place _ _ c.args.self.now.writer c.requires.sweeping.3.written

pub put_all-requires-clause-rising : goal.put_all-requires-clause-rising
put_all-requires-clause-rising g c =
    let now = c.args.self.now in
    let b = c.args.b in
    let told = (g.S.Store.told c.args.store.now).files in
    let r = c.requires.sweeping in
    let is = r.3 in
    let count = c.count_up_to-count.result in
    let blk = c.block.result.now in
    let slice = take (length blk - now.fed) (drop now.fed blk) in
    let left = tail now.reader.block blk now.fed c.block.ensures in
    let piece = take count (rest_of now) in
    let rest = drop count (rest_of now) in
    let cut : rest_of now ≡ piece ++ rest = sym (take-append-drop count (rest_of now)) in
    let is_piece = front slice (rest_of now) count left in
    let upto = subst (λ (l : List Pair). AllByRecursion (λ (p : Pair). bucket_of now.buckets p.key ≤ b) (take count l)) left c.count_up_to-count.ensures.piece in
    let more = c.feed.new.out.items in
    let all : more ≡ c.clear.new.self.items ++ more = rw c.clear.ensures.items refl in
    let rising = subst (λ (l : List Pair). IsRising (is.fed ++ l)) (sym is_piece) (piece_rises b r.0 r.1 r.2 told c.args.sweep.now now is piece rest cut) in
    let swept = c.in_ok-feed.ensures.swept now.rule r.2 is.fed is.given more all is.swept rising in
    let of_piece = subst (λ (l : List Pair). HasSwept now.rule r.2 (is.fed ++ l) (is.given ++ more) c.feed.new.self) is_piece swept in
    let here = piece_here b r.0 r.1 r.2 told c.args.sweep.now now is piece rest cut upto in
    subst (λ (l : List Pair). RisesFrom now.writer.last l) (sym c.deref.ensures.value)
    (more_rises b r.0 r.1 r.2 told c.args.sweep.now now is (is.fed ++ piece) (is.given ++ more) more c.feed.new.self refl here of_piece)

pub returns-clause-sweeping : goal.returns-clause-sweeping
returns-clause-sweeping g c = λ offers verdicts news is.
    let now = c.args.self.now in
    let b = c.args.b in
    let told = (g.S.Store.told c.args.store.now).files in
    let new = (g.S.Store.told c.put_all.new.store).files in
    let count = c.count_up_to-count.result in
    let blk = c.block.result.now in
    let slice = take (length blk - now.fed) (drop now.fed blk) in
    let left = tail now.reader.block blk now.fed c.block.ensures in
    let piece = take count (rest_of now) in
    let rest = drop count (rest_of now) in
    let cut : rest_of now ≡ piece ++ rest = sym (take-append-drop count (rest_of now)) in
    let is_piece = front slice (rest_of now) count left in
    let upto = subst (λ (l : List Pair). AllByRecursion (λ (p : Pair). bucket_of now.buckets p.key ≤ b) (take count l)) left c.count_up_to-count.ensures.piece in
    let more = c.feed.new.out.items in
    let all : more ≡ c.clear.new.self.items ++ more = rw c.clear.ensures.items refl in
    let rising = subst (λ (l : List Pair). IsRising (is.fed ++ l)) (sym is_piece) (piece_rises b offers verdicts news told c.args.sweep.now now is piece rest cut) in
    let swept = c.in_ok-feed.ensures.swept now.rule news is.fed is.given more all is.swept rising in
    let of_piece = subst (λ (l : List Pair). HasSwept now.rule news (is.fed ++ l) (is.given ++ more) c.feed.new.self) is_piece swept in
    let written = subst (λ (l : List Pair). HasWritten new ((is.put ++ is.given) ++ l) c.put_all.new.self) c.deref.ensures.value (c.in_ok-put_all.ensures.written (is.put ++ is.given) is.written) in
    feeds b offers verdicts news told c.args.sweep.now now is piece rest more new c.feed.new.self _ cut (drop_then now.fed count now.reader.block) refl refl refl upto of_piece
    (same_file now.writer.out.file now.reader.file _ told new now.apart c.put_all.ensures.changes.told) written

pub returns-clause-done : goal.returns-clause-done
returns-clause-done g c = λ not.
    let now = c.args.self.now in
    let count = c.count_up_to-count.result in
    let blk = c.block.result.now in
    let slice = take (length blk - now.fed) (drop now.fed blk) in
    let left = tail now.reader.block blk now.fed c.block.ensures in
    let d : Pair = record { key = 0; value = 0 } in
    let lt : count < length slice = below count (length slice) c.count_up_to-count.ensures.within not in
    let lt_rest : count < length (rest_of now) = subst (λ (l : List Pair). count < length l) left lt in
    let next = c.count_up_to-count.ensures.next d lt in
    let next_rest = subst (λ (l : List Pair). c.args.b < bucket_of now.buckets (get_or l count d).key) left next in
    inl (get_or (rest_of now) count d, drop (suc count) (rest_of now), drop_then now.fed count now.reader.block ∙ drop-cons (rest_of now) count d lt_rest, next_rest)
