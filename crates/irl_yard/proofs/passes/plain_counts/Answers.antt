use Rattle.std.proofs.Common.{◌≡◌, ◌∙◌, Bool, true, false, ℕ, suc, List, [], ◌∷◌, length, refl, sym, ap}
use Rattle.std.specs.List.{filter}
use Rattle.std.proofs.lemmas.Bool.{cond-false, cond-true}
use Rattle.irl_offer.specs.declared.outcome.Outcome.TheVariants.{Page, Moved, Status, Denied, Shut, Lost, Bad, Large, Coded}
use Rattle.irl_events.specs.Events.{Progress, before_all}
use Rattle.irl_fate.specs.Counting.{came_to, count_fate, is_fresh, is_last, is_queued}
use Rattle.irl_fate.specs.Fates.{fate_of}
use Rattle.irl_fate.specs.Kept.{is_done, is_front}
use Rattle.irl_fate.specs.declared.fate.Fate.{Fate}
use Rattle.irl_fate.specs.declared.fate.Fate.TheVariants.{Fresh}
use Rattle.irl_yard.proofs.passes.plain_counts.Goals as goal

none_of : (p : ℕ → Bool) → ((n : ℕ) → p n ≡ false) → (ns : List ℕ) → length (filter p ns) ≡ 0
none_of p never [] = refl
none_of p never (n ∷ ns) = ap length (cond-false (p n) (n ∷ filter p ns) (filter p ns) (never n)) ∙ none_of p never ns

all_of : (p : ℕ → Bool) → ((n : ℕ) → p n ≡ true) → (ns : List ℕ) → length (filter p ns) ≡ length ns
all_of p always [] = refl
all_of p always (n ∷ ns) = ap length (cond-true (p n) (n ∷ filter p ns) (filter p ns) (always n)) ∙ ap (λ (m : ℕ). suc m) (all_of p always ns)

module _ (queues buckets : ℕ) where
  abbrev none : Progress
  none = before_all queues buckets

  unread : (n : ℕ) → fate_of none n ≡ Fresh
  unread n = refl

  no_fate : (test : Fate → Bool) → test Fresh ≡ false → (ns : List ℕ) → 0 ≡ count_fate test none ns
  no_fate test none_passes ns = sym (none_of (λ n. test (fate_of none n)) (λ n. ap test (unread n) ∙ none_passes) ns)

pub returns-clause-fates : goal.returns-clause-fates
returns-clause-fates c = λ queues buckets numbers many. record {
  unique = c.unique_len-unique.ensures.value ∙ sym many;
  fresh = c.unique_len-unique.ensures.value ∙ sym many ∙ sym (all_of (λ n. is_fresh (fate_of (before_all queues buckets) n)) (λ n. ap is_fresh (unread queues buckets n)) numbers);
  queued = no_fate queues buckets is_queued refl numbers;
  last = no_fate queues buckets is_last refl numbers;
  front = no_fate queues buckets is_front refl numbers;
  done = no_fate queues buckets is_done refl numbers;
  page = no_fate queues buckets (came_to Page) refl numbers;
  moved = no_fate queues buckets (came_to Moved) refl numbers;
  status = no_fate queues buckets (came_to (Status 0)) refl numbers;
  denied = no_fate queues buckets (came_to (Denied 0)) refl numbers;
  shut = no_fate queues buckets (came_to Shut) refl numbers;
  lost = no_fate queues buckets (came_to Lost) refl numbers;
  bad = no_fate queues buckets (came_to Bad) refl numbers;
  large = no_fate queues buckets (came_to Large) refl numbers;
  coded = no_fate queues buckets (came_to Coded) refl numbers;
}
