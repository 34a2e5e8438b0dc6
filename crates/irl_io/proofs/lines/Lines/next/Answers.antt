-- The bytes that the method shows are the first of those left, by the view of the fields after `look_ahead`.
use Rattle.std.proofs.Common.{◌≡◌, ℕ, ◌+◌, ◌≤◌, refl, ap, ◌∙◌, arith}
use Rattle.std.specs.List.{slice_range}
use Rattle.irl_base.specs.Faults.{HasCause}
use Rattle.irl_io.specs.Steps.{Progress}
use Rattle.irl_io.proofs.FeedLemmas.{takes_line, gives_line, refuses_long}
use Rattle.irl_io.proofs.lines.Lines.next.Goals as goal

-- what was not answered needs no cause
not_failed : {Answered : Type 0} (before now : ℕ) → before ≤ now → ¬ Answered → HasCause Answered before now
not_failed before now later not = record { later = later; rose = λ is. absurd (not is) }

pub returns-in-Line : goal.returns-in-Line
returns-in-Line g c =
    let a = c.self.inside in
    let left = g.I.Source.left in
    let view : slice_range a.buffer.items a.start a.end ≡ c.look_ahead.new.self.ahead = ap (λ (p : Progress). p.ahead) {y = c.look_ahead.new.self} c.self.view_is in
    let number : a.number ≡ c.args.self.now.number = ap (λ (p : Progress). p.number) {y = c.look_ahead.new.self} c.self.view_is ∙ c.look_ahead.ensures.number in (
      (
        refl,
        λ _. tt,
        record {
          number = ap (λ n. n + 1) number;
          bytes = takes_line (left c.args.source.now) (left c.look_ahead.new.source) c.args.self.now.ahead c.look_ahead.new.self.ahead c.deref.result.now a.buffer.items a.start a.end c.in-Line.length
              c.in-Line.whole c.look_ahead.ensures.kept c.deref.ensures.value view c.in-Line.ensures.stands;
        },
      ),
      record {
        limits = (
          gives_line (left c.look_ahead.new.source) c.look_ahead.new.self.ahead c.deref.result.now a.buffer.items a.start a.end c.in-Line.length c.in-Line.whole c.deref.ensures.value view
              c.in-Line.ensures.stands,
          omega (arith, number),
        );
        cause = not_failed _ _ c.look_ahead.ensures.cause.later (λ failed. cc);
        after = tt;
      },
    )

pub returns-in-Long : goal.returns-in-Long
returns-in-Long g c =
    let a = c.self.inside in
    let left = g.I.Source.left in
    let view : slice_range a.buffer.items a.start a.end ≡ c.look_ahead.new.self.ahead = ap (λ (p : Progress). p.ahead) {y = c.look_ahead.new.self} c.self.view_is in
    let number : a.number ≡ c.args.self.now.number = ap (λ (p : Progress). p.number) {y = c.look_ahead.new.self} c.self.view_is ∙ c.look_ahead.ensures.number in (
      (
        refl,
        λ _. tt,
        record {
          number = number;
          bytes = refuses_long (left c.args.source.now) (left c.look_ahead.new.source) c.args.self.now.ahead c.look_ahead.new.self.ahead _ _ c.look_ahead.ensures.kept view c.in-Long.ensures.stands;
        },
      ),
      record {
        limits = ap (λ n. n + 1) number;
        cause = not_failed _ _ c.look_ahead.ensures.cause.later (λ failed. cc);
        after = tt;
      },
    )
