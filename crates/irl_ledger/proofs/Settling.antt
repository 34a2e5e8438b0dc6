-- The event of URLs that are settled: it breaks no rule, a log may have it, and the tables fit the bays after it.
use Rattle.std.proofs.Common.{◌≡◌, ◌∙◌, ℕ, zero, suc, ◌+◌, ◌<◌, ◌≤◌, true, List, [], ◌∷◌, ◌++◌, map, length, get_or, take, None, refl, sym, ap, subst, arith, length-append}
use Rattle.std.specs.Prelude.{slice_index}
use Rattle.std.specs.List.{AllByRecursion, flat_map, list_all}
use Rattle.std.specs.Int.{w64, to_le_bytes}
use Rattle.std.proofs.lemmas.Bool.{and_from, le-leb, lt-ltb}
use Rattle.std.proofs.lemmas.List.{length-map, map-append, take_more}
use Rattle.irl_offer.specs.declared.done.Done.{Done}
use Rattle.irl_offer.specs.declared.outcome.Outcome.{Outcome}
use Rattle.irl_model.specs.Book.{IsBelow}
use Rattle.irl_events.specs.Events.{Event, Settle, has_number}
use Rattle.irl_events.specs.Legal.{broken, none_fell}
use Rattle.irl_layout.proofs.Numbers.{length-flat}
use Rattle.irl_bay.specs.Drum.{Drum, IsDrum, durables}
use Rattle.irl_bay.proofs.JudgedBooks.{few_buckets}
use Rattle.irl_schedule.proofs.Counts.{durable_index, length-durables}
use Rattle.irl_frontier.specs.Frontier.{Frontier, IsFrontier, after_other}
use Rattle.irl_log.specs.Form.{IsDone, IsLogged, IsWord}
use Rattle.irl_log.specs.Spelling.{done_bytes}
use Rattle.irl_ledger.specs.declared.ledger.Ledger.{Ledger}
use Rattle.irl_ledger.specs.Holding.{FitsBays}
use Rattle.irl_ledger.specs.Settling.{MaySettle, outcomes_of, max_settled}

-- ---- the outcomes
-- their numbers are those of what is done
pub numbers_same : (done : List Done) → map (λ d. d.0) (outcomes_of done) ≡ map (λ d. d.number) done
numbers_same [] = refl
numbers_same (d ∷ ds) = ap (λ (ns : List ℕ). d.number ∷ ns) (numbers_same ds)

length-outcomes : (done : List Done) → length (outcomes_of done) ≡ length done
length-outcomes done = length-map done (λ (d : Done). (d.number, d.outcome))

-- and each is in the front
in_front : (front : List ℕ) (done : List Done) → AllByRecursion (λ d. has_number front d.number ≡ true) done → list_all (λ d. has_number front d.0) (outcomes_of done) ≡ true
in_front front [] all = refl
in_front front (d ∷ ds) all = and_from (has_number front d.number) (list_all (λ e. has_number front e.0) (outcomes_of ds)) all.0 (in_front front ds all.1)

-- one more
pub outcomes_more : (done : List Done) (i : ℕ) (d : Done) → i < length done → outcomes_of (take (i + 1) done) ≡ outcomes_of (take i done) ++ ((get_or done i d).number, (get_or done i d).outcome) ∷ []
outcomes_more done i d lt = ap outcomes_of (take_more done i d lt) ∙ map-append (λ (e : Done). (e.number, e.outcome)) (take i done) (get_or done i d ∷ [])

pub all_push : {X : Type 0} (P : X → Type 0) (xs : List X) (x : X) → AllByRecursion P xs → P x → AllByRecursion P (xs ++ x ∷ [])
all_push P [] x all here = (here, tt)
all_push P (y ∷ ys) x all here = (all.0, all_push P ys x all.1 here)

-- ---- the fronts
below_each : (xs ys : List ℕ) → length xs ≡ length ys → ((i : ℕ) → i < length xs → get_or xs i 0 ≤ get_or ys i 0) → IsBelow xs ys
below_each [] [] long each = tt
below_each [] (y ∷ ys) long each = absurd (omega (arith, long))
below_each (x ∷ xs) [] long each = absurd (omega (arith, long))
below_each (x ∷ xs) (y ∷ ys) long each = (each zero (omega arith), below_each xs ys (omega (arith, long)) (λ i lt. each (suc i) (omega (arith, lt))))

none_falls : (xs ys : List ℕ) → IsBelow xs ys → none_fell xs ys ≡ true
none_falls [] [] below = refl
none_falls [] (y ∷ ys) below = absurd below
none_falls (x ∷ xs) [] below = absurd below
none_falls (x ∷ xs) (y ∷ ys) below = rw (le-leb x y below.0) (none_falls xs ys below.1)

-- those of the last Settle are within the lists
pub fronts_below : (urls pairs : Drum) (x : Frontier) → IsDrum urls → IsFrontier x → FitsBays urls pairs x → IsBelow x.progress.fronts (durables urls)
fronts_below urls pairs x law keeps fits =
    let long : length x.progress.fronts ≡ urls.settings.buckets = keeps.fronts ∙ ap (λ s. s.buckets) fits.settings in
    below_each x.progress.fronts (durables urls) (long ∙ sym law.count ∙ sym (length-durables urls))
    (λ b within. subst (λ (n : ℕ). slice_index x.progress.fronts b ≤ n) (sym (durable_index urls b)) (fits.fronts b (omega (arith, within, long))))

-- ---- the event
-- what holds of one holds of the same
pub with_same : (P : Event → Type 0) (fronts now : List ℕ) (done outcomes : List (ℕ × Outcome)) → fronts ≡ now → done ≡ outcomes → P (Settle now outcomes) → P (Settle fronts done)
with_same P fronts now done outcomes p q has = rw (p, q) has

-- a number that is to be fetched next tells that the crawl has begun
abbrev pub HasBegun : Frontier → Type 0
HasBegun x = (n : ℕ) → has_number x.progress.front n ≡ true → x.progress.begun ≡ true

pub settled_begun : (urls : Drum) (ledger : Ledger) (done : List Done) → HasBegun ledger.frontier → MaySettle urls ledger done → ledger.frontier.progress.begun ≡ true
settled_begun urls ledger [] begun may = absurd (omega (arith, may.some))
settled_begun urls ledger (d ∷ ds) begun may = begun d.number may.front.0

pub settle_keeps : (urls pairs : Drum) (ledger : Ledger) (done : List Done) → IsDrum urls → IsFrontier ledger.frontier → HasBegun ledger.frontier
    → FitsBays urls pairs ledger.frontier → MaySettle urls ledger done → broken ledger.frontier.progress (Settle (durables urls) (outcomes_of done)) [] ≡ None
settle_keeps urls pairs ledger done law keeps begun fits may =
    rw (
      settled_begun urls ledger done begun may,
      lt-ltb 0 (length (outcomes_of done)) (omega (arith, may.some, length-outcomes done)),
      in_front ledger.frontier.progress.front done may.front,
      numbers_same done,
      may.once,
      none_falls ledger.frontier.progress.fronts (durables urls) (fronts_below urls pairs ledger.frontier law keeps fits),
    ) refl

pub settle_logged : (buckets : ℕ) (urls : Drum) (done : List Done) → IsDrum urls → buckets ≡ urls.settings.buckets → length done ≤ max_settled → AllByRecursion IsWord (durables urls)
    → AllByRecursion IsDone (outcomes_of done) → IsLogged buckets (Settle (durables urls) (outcomes_of done))
settle_logged buckets urls done law same limit words form =
    let long : length (durables urls) ≡ urls.settings.buckets = length-durables urls ∙ law.count in
    let few = few_buckets urls.settings.buckets law.settings.buckets in
    let fronts = length-flat (to_le_bytes w64) 8 (durables urls) (λ n. refl) in
    let outcomes = length-flat done_bytes 13 (outcomes_of done) (λ d. refl) in
    record {
      form = record { buckets_are = long ∙ sym same; fronts_are = words; done_are = form };
      fits = omega (arith, long, few, fronts, outcomes, limit, length-outcomes done, length-append (flat_map (to_le_bytes w64) (durables urls)) (flat_map done_bytes (outcomes_of done)));
    }

-- no number of the tables passes what the bays count
pub fits_settled : (urls pairs : Drum) (x : Frontier) (outcomes : List (ℕ × Outcome)) → FitsBays urls pairs x → FitsBays urls pairs (after_other x (Settle (durables urls) outcomes))
fits_settled urls pairs x outcomes fits = record {
  settings = fits.settings;
  cuts = fits.cuts;
  sent = fits.sent;
  read = fits.read;
  fronts = λ b within. omega (arith, durable_index urls b);
  pairs_sent = fits.pairs_sent;
  told = fits.told;
}
