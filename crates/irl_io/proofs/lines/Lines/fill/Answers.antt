-- What was read stands behind what was read ahead.
use Rattle.std.proofs.Common.{◌≡◌, ℕ, ◌+◌, ◌-◌, List, ◌++◌, length, take, drop, sym, ap, ◌∙◌, subst, rules}
use Rattle.std.proofs.lemmas.List.{with_items_is}
use Rattle.std.proofs.lemmas.Slice.{between_from_start}
use Rattle.std.specs.List.{slice_range}
use Rattle.std.specs.Io.KnownBytes.{Keeps, prepend_known}
use Rattle.irl_io.specs.Steps.{Progress}
use Rattle.irl_io.proofs.FeedLemmas.{filled}
use Rattle.irl_io.proofs.lines.Lines.fill.Goals as goal

pub returns-clause-kept : goal.returns-clause-kept
returns-clause-kept g c =
    let a = c.self.inside in
    let now = c.read_behind-result.new.buffer in
    let k = a.end - a.start in
    let n = c.in_ok-count.count in
    let whole : take a.buffer.len (now ++ drop (length now) a.buffer.items) ≡ now = with_items_is a.buffer now (search rules) in
    let moved : take k now ≡ c.args.self.now.ahead = c.in_ok-count.ensures.moved ∙ ap (λ l. slice_range l a.start a.end) c.deref_mut.ensures.value ∙ ap (λ (p : Progress). p.ahead) c.self.view_is in
    let read = filled (g.I.Source.left c.args.source.now) (g.I.Source.left c.read_behind-result.new.source) c.args.self.now.ahead now k n moved c.in_ok-count.ensures.bytes.0 in
    let known = λ (l : List ℕ). Keeps (prepend_known c.args.self.now.ahead (g.I.Source.left c.args.source.now)) (prepend_known l (g.I.Source.left c.read_behind-result.new.source)) in
    subst known (sym (between_from_start _ (k + n) ∙ ap (take (k + n)) whole)) read
