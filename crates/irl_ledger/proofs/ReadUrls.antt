-- The URLs that the passes of a crawl have read are unique ones of its book, each with its text.
use Rattle.std.proofs.Common.{◌≡◌, ◌≢◌, ◌∙◌, Bool, true, false, cond, not, ◌||◌, ℕ, suc, ◌+◌, ◌-◌, ◌≤◌, nat_eq, List, [], ◌∷◌, map, Option, Some, refl, sym, ap, subst, arith}
use Rattle.std.specs.Prelude.{find, option_map, slice_get, unwrap_or}
use Rattle.std.specs.List.{AllByRecursion}
use Rattle.std.proofs.lemmas.Bool.{and_from, eqb-true, not_from_false}
use Rattle.irl_offer.specs.Settings.{AreValid}
use Rattle.irl_offer.specs.Tuple.{Tuple}
use Rattle.irl_offer.specs.declared.receipt.Judged.{Judged}
use Rattle.irl_offer.specs.declared.settings.Settings.{Settings}
use Rattle.irl_key.specs.Key.{key_of}
use Rattle.irl_key.specs.declared.web.Work.{Work}
use Rattle.irl_model.specs.Book.{Book, gone, is_unique, judged, uniques, uniques_from}
use Rattle.irl_events.specs.Events.{Happened, Progress, has_number, progress}
use Rattle.irl_events.specs.Legal.{are_distinct}
use Rattle.irl_fate.specs.Fates.{fate_of}
use Rattle.irl_fate.specs.Standing.{count, one_if, stands}
use Rattle.irl_fate.specs.declared.fate.Fate.TheVariants.{Fresh}
use Rattle.irl_fate.proofs.Counting.{zero_absent}
use Rattle.irl_fate.proofs.Fresh.{nowhere_fresh}
use Rattle.irl_frontier.specs.Tallies.{HasAllRead}
use Rattle.irl_core.specs.States.{url_text}
use Rattle.irl_core.specs.Steps.{unread, url_numbers}
use Rattle.irl_core.specs.Stores.{opened_core, steps_among}
use Rattle.irl_core.proofs.Numbers.{told_below}
use Rattle.irl_core.proofs.Opened.{opened_kept}
use Rattle.irl_core.proofs.StateLemmas.{legal_stored}
use Rattle.irl_core.proofs.Stores.{alike_fate, alike_steps}
use Rattle.irl_bay.specs.Standing.{IsBookOf}
use Rattle.irl_ledger.specs.Crawling.{IsCrawlState, domain_of}
use Rattle.irl_ledger.specs.Passing.{IsWorkOf}
use Rattle.irl_ledger.proofs.FreshUrls.{has_its, high, uniques-cons}

abbrev numbers_from : ℕ → List Judged → List ℕ
numbers_from n js = map (λ (p : ℕ × Tuple). p.0) (uniques_from n js)

-- ---- no number is two URLs'
distinct_from : (n : ℕ) (js : List Judged) → are_distinct (numbers_from n js) ≡ true
distinct_from n [] = refl
distinct_from n (j ∷ js) =
    ap (λ (us : List (ℕ × Tuple)). are_distinct (map (λ (p : ℕ × Tuple). p.0) us)) (uniques-cons n j js) ∙ by (is_unique j.verdict) (distinct_from (n + 1) js)
  where
    by : (b : Bool) → are_distinct (numbers_from (n + 1) js) ≡ true
        → are_distinct (map (λ (p : ℕ × Tuple). p.0) (cond b ((n, j.offer) ∷ uniques_from (n + 1) js) (uniques_from (n + 1) js))) ≡ true
    by true rest =
        let none : has_number (numbers_from (n + 1) js) n ≡ false = zero_absent (numbers_from (n + 1) js) n (told_below n (n + 1) js (omega arith)) in
        and_from (not (has_number (numbers_from (n + 1) js) n)) (are_distinct (numbers_from (n + 1) js)) (not_from_false (has_number (numbers_from (n + 1) js) n) none) rest
    by false rest = rest

-- ---- and each that was read is a URL's
pub all_read : (settings : Settings) (urls pairs : Book) (events : List Happened) → AreValid settings → IsBookOf settings urls → IsCrawlState settings urls pairs events
    → HasAllRead (progress settings.queues settings.buckets events) (map (λ (p : ℕ × Tuple). p.0) (uniques urls))
all_read settings urls pairs events valid is state =
    let stored = legal_stored domain_of key_of settings urls pairs is.is_book events valid is.buckets is.rule state.legal in
    let x : Progress = progress settings.queues settings.buckets events in
    let y : Progress = progress settings.queues settings.buckets (steps_among events) in
    let core = opened_core settings urls events in
    let numbers : List ℕ = map (λ (p : ℕ × Tuple). p.0) (uniques urls) in
    let by : (n : ℕ) → (b : Bool) → has_number numbers n ≡ b → fate_of x n ≢ Fresh → b ≡ true = λ n b. elim b as (λ v. has_number numbers n ≡ v → fate_of x n ≢ Fresh → v ≡ true) [
      | true ↦ λ there read. refl
      | false ↦ λ none read.
          let once : count n (unread core (url_numbers core)) + stands y n ≡ one_if (has_number numbers n) = (opened_kept settings urls events stored).once n in
          let nowhere : stands y n ≡ 0 = omega (arith, once, ap one_if none) in
          absurd (read (alike_fate x y n (alike_steps settings.queues settings.buckets events) ∙ nowhere_fresh y n nowhere))
    ] in
    record {
      distinct = distinct_from (gone urls) (judged urls);
      read = λ n read. by n (has_number numbers n) refl read;
    }

-- ---- the text under a number
has_above : (t n : ℕ) (us : List (ℕ × Tuple)) → AllByRecursion (λ (p : ℕ × Tuple). t ≤ p.0) us → has_number (map (λ (p : ℕ × Tuple). p.0) us) n ≡ true → t ≤ n
has_above t n [] all has = absurd (cc)
has_above t n (u ∷ us) all has = by (nat_eq u.0 n) refl has (λ rest. has_above t n us all.1 rest)
  where
    by : (b : Bool) → nat_eq u.0 n ≡ b → (b || has_number (map (λ (p : ℕ × Tuple). p.0) us) n) ≡ true → (has_number (map (λ (p : ℕ × Tuple). p.0) us) n ≡ true → t ≤ n) → t ≤ n
    by true e has later = let first : t ≤ u.0 = all.0 in omega (arith, first, eqb-true u.0 n e)
    by false e has later = later has

text_from : (g n : ℕ) (js : List Judged) (one : Judged) → has_number (numbers_from g js) n ≡ true → slice_get js (n - g) ≡ Some one → find (has_its n) (uniques_from g js) ≡ Some (n, one.offer)
text_from g n [] one has found = absurd (cc)
text_from g n (j ∷ js) one has found =
    ap (find (has_its n)) (uniques-cons g j js)
    ∙ by (is_unique j.verdict) (ap (λ (us : List (ℕ × Tuple)). has_number (map (λ (p : ℕ × Tuple). p.0) us) n) (sym (uniques-cons g j js)) ∙ has) (λ there.
    let above : g + 1 ≤ n = has_above (g + 1) n (uniques_from (g + 1) js) (high (g + 1) (g + 1) js (omega arith)) there in
    let place : n - g ≡ suc (n - (g + 1)) = omega (arith, above) in
    text_from (g + 1) n js one there (subst (λ (i : ℕ). slice_get (j ∷ js) i ≡ Some one) place found))
  where
    first : (b : Bool) → nat_eq g n ≡ b → (b || has_number (numbers_from (g + 1) js) n) ≡ true
        → (has_number (numbers_from (g + 1) js) n ≡ true → find (has_its n) (uniques_from (g + 1) js) ≡ Some (n, one.offer))
        → cond b (Some (g, j.offer)) (find (has_its n) (uniques_from (g + 1) js)) ≡ Some (n, one.offer)
    first true e there later =
        let same : g ≡ n = eqb-true g n e in
        let place : n - g ≡ 0 = omega (arith, same) in
        let here : slice_get (j ∷ js) 0 ≡ Some one = subst (λ (i : ℕ). slice_get (j ∷ js) i ≡ Some one) place found in
        let own : j ≡ one = cc in
        ap (λ (i : ℕ). Some (i, j.offer)) same ∙ ap (λ (k : Judged). Some (n, k.offer)) own
    first false e there later = later there

    by : (b : Bool) → has_number (map (λ (p : ℕ × Tuple). p.0) (cond b ((g, j.offer) ∷ uniques_from (g + 1) js) (uniques_from (g + 1) js))) n ≡ true
        → (has_number (numbers_from (g + 1) js) n ≡ true → find (has_its n) (uniques_from (g + 1) js) ≡ Some (n, one.offer))
        → find (has_its n) (cond b ((g, j.offer) ∷ uniques_from (g + 1) js) (uniques_from (g + 1) js)) ≡ Some (n, one.offer)
    by true there later = first (nat_eq g n) refl there later
    by false there later = later there

-- a page under the number of a URL is at its text
pub work_text : (urls : Book) (work : Work) → has_number (map (λ (p : ℕ × Tuple). p.0) (uniques urls)) work.number ≡ true → IsWorkOf urls work → work.web ≡ url_text urls work.number
work_text urls work has is =
    is.web ∙ sym (ap (λ (o : Option (ℕ × Tuple)). unwrap_or (option_map (λ p. p.1.aux) o) []) (text_from (gone urls) work.number (judged urls) is.one has is.found))
