-- How fetchers go on, each and one after another.
use Rattle.std.proofs.Common.{◌≡◌, ◌∙◌, ℕ, ◌<◌, List, length, set, get_or, Some, inl, inr, refl, sym, subst, arith}
use Rattle.std.specs.Prelude.{slice_get}
use Rattle.std.proofs.lemmas.Bool.{cases_eq}
use Rattle.std.proofs.lemmas.List.{length-set}
use Rattle.std.proofs.lemmas.Option.{slice_get-get_or}
use Rattle.irl_polite.proofs.Lists.{get_set_other, get_set_same, get_some, get_within, same_some}
use Rattle.irl_record.specs.Widening.{Answers}
use Rattle.irl_record.specs.Wired.{Made}
use Rattle.irl_fetch.specs.Telling.{Fetcher, GoesOn, fetcher}
use Rattle.irl_fetch.proofs.Telling.{goes_none, goes_then}
use Rattle.irl_crawl.specs.Workers.{AllGoOn}

module _ {F : Type 0} (asked : F → Made) (gives : F → ℕ → Answers) (faults last : F → ℕ) (aim : F → List ℕ) where
  abbrev at_moment : F → Fetcher
  at_moment = fetcher asked gives faults last aim

  -- no call
  pub all_go_none : (xs : List F) → AllGoOn asked gives faults last aim xs xs
  all_go_none xs = record {
    count = refl;
    each = λ at old new was is. subst (λ (x : F). GoesOn (at_moment old) (at_moment x)) (same_some old new (sym was ∙ is)) (goes_none (at_moment old));
  }

  -- one behind the other
  pub all_go_then : (xs ys zs : List F) → AllGoOn asked gives faults last aim xs ys → AllGoOn asked gives faults last aim ys zs → AllGoOn asked gives faults last aim xs zs
  all_go_then xs ys zs one two = record {
    count = two.count ∙ one.count;
    each = λ at old new was is.
        let within : at < length xs = get_within xs at old was in
        let mid = get_some ys at (omega (arith, within, one.count)) in
        goes_then (at_moment old) (at_moment mid.0) (at_moment new) (one.each at old mid.0 was mid.1) (two.each at mid.0 new mid.1 is);
  }

  -- one of them goes on, and the others stay
  pub all_go_one : (xs : List F) (at : ℕ) (old new : F) → slice_get xs at ≡ Some old → GoesOn (at_moment old) (at_moment new) → AllGoOn asked gives faults last aim xs (set xs at new)
  all_go_one xs at old new here goes = record {
    count = length-set xs at new;
    each = λ k x y was is. elim (cases_eq k at) [
      | inl same ↦
          let is_old : old ≡ x = same_some old x (sym here ∙ subst (λ (n : ℕ). slice_get xs n ≡ Some x) same was) in
          let is_new : new ≡ y = same_some new y (sym (get_set_same xs at new (get_within xs at old here)) ∙ subst (λ (n : ℕ). slice_get (set xs at new) n ≡ Some y) same is) in
          subst (λ (f : F). GoesOn (at_moment f) (at_moment y)) is_old (subst (λ (f : F). GoesOn (at_moment old) (at_moment f)) is_new goes)
      | inr other ↦ (all_go_none xs).each k x y was (sym (get_set_other xs at k new other) ∙ is)
    ];
  }

  pub all_go_at : (xs : List F) (at : ℕ) (d new : F) → at < length xs → GoesOn (at_moment (get_or xs at d)) (at_moment new) → AllGoOn asked gives faults last aim xs (set xs at new)
  all_go_at xs at d new within goes = all_go_one xs at (get_or xs at d) new (slice_get-get_or xs at d within) goes
