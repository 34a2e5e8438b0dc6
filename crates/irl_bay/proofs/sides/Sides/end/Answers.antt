use Rattle.std.proofs.Common.{◌≡◌, ◌++◌, List, refl, sym, subst}
use Rattle.irl_model.specs.Judging.{after}
use Rattle.irl_model.specs.Pairs.{ArePairsOf, keys_of}
use Rattle.irl_model.proofs.RisingKeys.{pairs_are}
use Rattle.irl_offer.specs.declared.receipt.Pair.{Pair}
use Rattle.irl_cache.specs.SortedRun.{RisesFrom}
use Rattle.irl_cache.specs.Writing.{HasWritten}
use Rattle.irl_bay.proofs.Sweeps.{ends, has_place, last_rises, same_file}
use Rattle.irl_bay.proofs.sides.Sides.end.Goals as goal

pub put_all-requires-clause-long : goal.put_all-requires-clause-long
put_all-requires-clause-long g c = has_place _ _ c.args.self.now.writer c.requires.sweeping.2.3.written

pub put_all-requires-clause-rising : goal.put_all-requires-clause-rising
put_all-requires-clause-rising g c =
    let now = c.args.self.now in
    let told = (g.S.Store.told c.args.store.now).files in
    let r = c.requires.sweeping in
    let is = r.2.3 in
    let more = c.end.new.out.items in
    let all : more ≡ c.clear.new.self.items ++ more = rw c.clear.ensures.items refl in
    let given : ArePairsOf (after now.rule (keys_of is.fed) r.2.2) (is.given ++ more) =
    c.in_ok-verdicts.ensures.pairs now.rule r.2.2 is.fed is.given more (keys_of is.fed) all is.swept (pairs_are is.fed is.swept.rising) in
    subst (λ (l : List Pair). RisesFrom now.writer.last l) (sym c.deref.ensures.value) (last_rises r.0 r.2.0 r.2.1 r.2.2 told c.args.sweep now is now.valid more given)

pub returns-clause-merged : goal.returns-clause-merged
returns-clause-merged g c = λ b offers verdicts news done is.
    let now = c.args.self.now in
    let told = (g.S.Store.told c.args.store.now).files in
    let new = (g.S.Store.told c.put_all.new.store).files in
    let more = c.end.new.out.items in
    let all : more ≡ c.clear.new.self.items ++ more = rw c.clear.ensures.items refl in
    let pairs = pairs_are is.fed is.swept.rising in
    let given : ArePairsOf (after now.rule (keys_of is.fed) news) (is.given ++ more) = c.in_ok-verdicts.ensures.pairs now.rule news is.fed is.given more (keys_of is.fed) all is.swept pairs in
    let judged = c.in_ok-verdicts.ensures.verdicts now.rule news is.fed is.given (keys_of is.fed) is.swept pairs in
    let written = subst (λ (l : List Pair). HasWritten new ((is.put ++ is.given) ++ l) c.put_all.new.self) c.deref.ensures.value (c.in_ok-put_all.ensures.written (is.put ++ is.given) is.written) in
    ends b offers verdicts news told c.args.sweep now is now.valid more given c.in_ok-verdicts.verdicts.items new _ done judged refl refl refl refl
    (same_file now.writer.out.file now.reader.file _ told new now.apart c.put_all.ensures.changes.told) written

pub returns-clause-count : goal.returns-clause-count
returns-clause-count g c = λ b offers verdicts news is. c.in_ok-verdicts.ensures.count c.args.self.now.rule news is.fed is.given is.swept
