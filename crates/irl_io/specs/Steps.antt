-- What a reader of lines answers, of the bytes that are left: those that it read ahead, and then the source's.
use Rattle.std.specs.Prelude.{◌≡◌, ◌≢◌, ℕ, ◌+◌, ◌<◌, ⊤, ◌⊎◌, List, [], ◌∷◌, length, Option, None, Some}
use Rattle.std.specs.List.{before_first, after_first}
use Rattle.std.specs.Io.KnownBytes.{prepend_known}
use Rattle.irl_base.specs.Limits.{max_text}
use Rattle.irl_io.specs.Lines.{lines, is_line_feed, most_lines, IsLine}
use Rattle.irl_io.specs.declared.lines.Step.{Step}
use Rattle.irl_io.specs.declared.lines.Step.TheVariants.{Line, End, LongLine, Failed}

-- a reader between two calls: the bytes that it read ahead and did not give yet, and how many lines it gave
pub record Progress : Type 0 where
  pub ahead : List ℕ
  pub number : ℕ

-- the line was taken off the bytes
pub record TakesLine (line before after : List ℕ) : Type 0 where
  pub some : before ≢ []
  pub first : line ≡ before_first is_line_feed before
  pub rest : after ≡ after_first is_line_feed before
  pub law : lines before ≡ line ∷ lines after

-- there is a next line, its number is n, and it is too long or there were lines enough; the bytes stay
pub record RefusesLine (n : ℕ) (before after : List ℕ) : Type 0 where
  pub some : before ≢ []
  pub too_much : (max_text < length (before_first is_line_feed before)) ⊎ (n ≡ most_lines + 1)
  pub same : after ≡ before

-- what a step did to the bytes left
abbrev pub Moves : Step → List ℕ → List ℕ → Type 0
Moves (Line line) before after = TakesLine line.now before after
Moves End before after = (before ≡ []) × (after ≡ [])
Moves (LongLine n) before after = RefusesLine n before after
Moves Failed before after = after ≡ before

-- how many lines were given by then
abbrev pub number_after : Step → ℕ → ℕ
number_after (Line line) number = number + 1
number_after End number = number
number_after (LongLine n) number = number
number_after Failed number = number

-- P holds of known bytes before and after: those that were known stay known
abbrev pub OfKnown : (List ℕ → List ℕ → Type 0) → Option (List ℕ) → Option (List ℕ) → Type 0
OfKnown P None after = ⊤
OfKnown P (Some before) None = ⊥
OfKnown P (Some before) (Some after) = P before after

-- The whole of a step: how it counts, and what it did to the bytes left, where the source tells them.
pub record Stepped (step : Step) (old new : Progress) (left_before left_after : Option (List ℕ)) : Type 0 where
  pub number : new.number ≡ number_after step old.number
  pub bytes : OfKnown (Moves step) (prepend_known old.ahead left_before) (prepend_known new.ahead left_after)

-- What a step says whatever the source is, after this many lines: what is given is a line, and which line is refused.
abbrev pub KeepsLimits : Step → ℕ → Type 0
KeepsLimits (Line line) number = IsLine line.now × (number < most_lines)
KeepsLimits End number = ⊤
KeepsLimits (LongLine n) number = n ≡ number + 1
KeepsLimits Failed number = ⊤
