use Rattle.std.proofs.Common.{◌≡◌, ◌∙◌, ℕ, ◌<◌, ◌++◌, ◌∷◌, [], List, length, sym, ap, subst, rules, arith}
use Rattle.std.specs.Prelude.{vec_len}
use Rattle.std.specs.List.{All}
use Rattle.std.specs.Vec.Iter.{into_iter_items, into_iter_steps}
use Rattle.std.specs.declared.vec.IntoIter.{IntoIter}
use Rattle.std.specs.Iterator.{Yields}
use Rattle.irl_polite.specs.declared.known.Known.{Known}
use Rattle.irl_polite.specs.Inside.{IsPlaced}
use Rattle.irl_polite.proofs.Lists.{get_some}
use Rattle.irl_polite.proofs.AnswerLemmas.{all_middle}
use Rattle.irl_polite.proofs.GrowLemmas.{noted_more, noted_length}
use Rattle.irl_polite.proofs.hosts.note_all.Goals as goal

-- what the iterator of a vector has given is a front of its items
taken_front : {X A : Type 0} (s : IntoIter X A) (xs : List X) (t : IntoIter X A) → Yields into_iter_steps s xs t → into_iter_items s ≡ xs ++ into_iter_items t
taken_front s [] t y = ap into_iter_items y
taken_front s (x ∷ xs) t y = y.1.0 ∙ ap (λ ys. x ∷ ys) (taken_front y.0 xs t y.2)

pub set_known-requires : goal.set_known-requires
set_known-requires c =
    let hosts = c.args.hosts.now.items in
    let x : ℕ × Known = (c.in-Some.place, c.in-Some.known) in
    let gives = c.into_iter-place-iterator.ensures.into_iter_gives in
    let front : into_iter_items c.into_iter-place-iterator.result ≡ c.loop-place.yielded ++ into_iter_items c.loop-place.place-iterator =
    taken_front c.into_iter-place-iterator.result c.loop-place.yielded c.loop-place.place-iterator c.loop-place.yielded_by in
    let step = c.in-Some.ensures.steps in
    let whole : c.args.read.items ≡ c.loop-place.yielded ++ x ∷ into_iter_items c.next.new.self =
    sym gives.0 ∙ front ∙ ap (λ t. c.loop-place.yielded ++ t) step.0 in
    let placed : c.in-Some.place < length hosts =
    all_middle (IsPlaced hosts) c.loop-place.yielded (into_iter_items c.next.new.self) x (subst (All (IsPlaced hosts)) whole c.requires) in
    let same : length c.loop-place.hosts.items ≡ length hosts = noted_length hosts c.loop-place.yielded c.loop-place.hosts.items c.loop-place.invariant in
    let len : vec_len c.loop-place.hosts ≡ length c.loop-place.hosts.items = search rules in
    omega arith

pub loop-place-preserved : goal.loop-place-preserved
loop-place-preserved c =
    let hosts = c.args.hosts.now.items in
    let x : ℕ × Known = (c.in-Some.place, c.in-Some.known) in
    let gives = c.into_iter-place-iterator.ensures.into_iter_gives in
    let front : into_iter_items c.into_iter-place-iterator.result ≡ c.loop-place.yielded ++ into_iter_items c.loop-place.place-iterator =
    taken_front c.into_iter-place-iterator.result c.loop-place.yielded c.loop-place.place-iterator c.loop-place.yielded_by in
    let step = c.in-Some.ensures.steps in
    let whole : c.args.read.items ≡ c.loop-place.yielded ++ x ∷ into_iter_items c.next.new.self =
    sym gives.0 ∙ front ∙ ap (λ t. c.loop-place.yielded ++ t) step.0 in
    let placed : c.in-Some.place < length hosts =
    all_middle (IsPlaced hosts) c.loop-place.yielded (into_iter_items c.next.new.self) x (subst (All (IsPlaced hosts)) whole c.requires) in
    let same : length c.loop-place.hosts.items ≡ length hosts = noted_length hosts c.loop-place.yielded c.loop-place.hosts.items c.loop-place.invariant in
    let len : vec_len c.loop-place.hosts ≡ length c.loop-place.hosts.items = search rules in
    let within : c.in-Some.place < length c.loop-place.hosts.items = omega arith in
    let some = get_some c.loop-place.hosts.items c.in-Some.place within in
    noted_more hosts c.loop-place.yielded c.loop-place.hosts.items c.set_known.new.hosts.items x some.0 c.loop-place.invariant some.1 (c.set_known.ensures some.0 some.1)
