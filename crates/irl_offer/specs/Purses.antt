-- Budgets of pages, by the text of a domain.
use Rattle.std.specs.Prelude.{ℕ, List}

abbrev pub Budget : Type 0
Budget = List ℕ → ℕ
