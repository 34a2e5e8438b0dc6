-- What the reading of a tape answers, by the lines that are taken.
use Rattle.std.proofs.Common.{◌≡◌, ◌∙◌, ℕ, ◌+◌, Bool, true, false, cond, List, [], ◌∷◌, ◌++◌, length, Option, Some, None, Ok, Err, refl, sym, ap, subst, arith, ◌⊎◌, inl, inr}
use Rattle.std.specs.Prelude.{option_and_then, is_some}
use Rattle.std.proofs.lemmas.Bool.{cond-false}
use Rattle.irl_record.specs.Opened.{Opened}
use Rattle.irl_record.specs.Reading.{Reading, next, outside, blank, is_over, or_refused, whole, tape_from}
use Rattle.irl_record.specs.Taped.{Taped}
use Rattle.irl_record.specs.Grammar.{AreWithin, IsRefused, IsRefusedAt}
use Rattle.irl_record.proofs.ItemLemmas.{runs, runs_step, runs_both, items_taken}
use Rattle.irl_record.proofs.RunLemmas.{begins_from_runs, begins_none}

module _ (pages : Bool) where
  whole_ok : (n : ℕ) (tape t : Taped) (page : Option Opened) → whole n (record { tape = tape; page = page }) ≡ Ok t
      → ◌≡◌ {A = Option Reading} (Some (record { tape = tape; page = page })) (Some (outside t))
  whole_ok n tape t None h = let e : tape ≡ t = cc in ap (λ (s : Taped). Some (outside s)) e
  whole_ok n tape t (Some page) h = cc

  ok_by : (n : ℕ) (r : Reading) (t : Taped) (line : List ℕ) (lines : List (List ℕ)) (b : Bool) (o : Option Reading) → is_over n line ≡ b → next pages r line ≡ o
      → cond b (Err n) (or_refused n o (λ a. tape_from pages (n + 1) a lines)) ≡ Ok t
      → ((a : Reading) → tape_from pages (n + 1) a lines ≡ Ok t → (runs pages a lines ≡ Some (outside t)) × AreWithin (n + 1) lines) → (runs pages r (line ∷ lines) ≡ Some (outside t))
      × AreWithin n (line ∷ lines)
  ok_by n r t line lines true o over is h later = cc
  ok_by n r t line lines false None over is h later = cc
  ok_by n r t line lines false (Some a) over is h later =
      let rest = later a h in
      (runs_step pages r a line lines is ∙ rest.0, (over, rest.1))

  -- a tape that is read
  pub ok_runs : (lines : List (List ℕ)) (n : ℕ) (r : Reading) (t : Taped) → tape_from pages n r lines ≡ Ok t → (runs pages r lines ≡ Some (outside t)) × AreWithin n lines
  ok_runs [] n r t h = (whole_ok n r.tape t r.page h, tt)
  ok_runs (line ∷ lines) n r t h = ok_by n r t line lines (is_over n line) (next pages r line) refl refl h (λ a. ok_runs lines (n + 1) a t)

  some_same : (r s : Reading) → Some r ≡ Some s → r ≡ s
  some_same r s h = cc

  runs_by : (n : ℕ) (r : Reading) (t : Taped) (line : List ℕ) (lines : List (List ℕ)) (o : Option Reading) → is_over n line ≡ false → next pages r line ≡ o
      → option_and_then (λ a. runs pages a lines) o ≡ Some (outside t) → ((a : Reading) → runs pages a lines ≡ Some (outside t) → tape_from pages (n + 1) a lines ≡ Ok t)
      → tape_from pages n r (line ∷ lines) ≡ Ok t
  runs_by n r t line lines None over is h later = cc
  runs_by n r t line lines (Some a) over is h later =
      cond-false _ (Err n) _ over ∙ ap (λ o. or_refused n o (λ s. tape_from pages (n + 1) s lines)) is ∙ later a h

  -- a tape is read
  pub runs_ok : (lines : List (List ℕ)) (n : ℕ) (r : Reading) (t : Taped) → AreWithin n lines → runs pages r lines ≡ Some (outside t) → tape_from pages n r lines ≡ Ok t
  runs_ok [] n r t within h = ap (whole n) (some_same r (outside t) h)
  runs_ok (line ∷ lines) n r t within h = runs_by n r t line lines (next pages r line) within.0 refl h (λ a. runs_ok lines (n + 1) a t within.1)

  -- why the reading stops before these lines
  abbrev pub StopsHere : Reading → ℕ → List (List ℕ) → Type 0
  StopsHere r k [] = is_some r.page ≡ true
  StopsHere r k (line ∷ lines) = (is_over k line ≡ true) ⊎ (next pages r line ≡ None)

  pub record Stops (n : ℕ) (r : Reading) (lines : List (List ℕ)) (k : ℕ) : Type 0 where
    pub front : List (List ℕ)
    pub rest : List (List ℕ)
    pub last : Reading
    pub split : lines ≡ front ++ rest
    pub number : k ≡ n + length front
    pub within : AreWithin n front
    pub taken : runs pages r front ≡ Some last
    pub here : StopsHere last k rest

  stops_here : (n : ℕ) (r : Reading) (lines : List (List ℕ)) (k : ℕ) → n ≡ k → StopsHere r k lines → Stops n r lines k
  stops_here n r lines k same here = record {
    front = [];
    rest = lines;
    last = r;
    split = refl;
    number = omega arith;
    within = tt;
    taken = refl;
    here = here;
  }

  whole_err : (n k : ℕ) (tape : Taped) (page : Option Opened) → whole n (record { tape = tape; page = page }) ≡ Err k → (n ≡ k) × (is_some page ≡ true)
  whole_err n k tape None h = cc
  whole_err n k tape (Some page) h = (let e : n ≡ k = cc in e, refl)

  err_by : (n k : ℕ) (r : Reading) (line : List ℕ) (lines : List (List ℕ)) (b : Bool) (o : Option Reading) → is_over n line ≡ b → next pages r line ≡ o
      → cond b (Err n) (or_refused n o (λ a. tape_from pages (n + 1) a lines)) ≡ Err k → ((a : Reading) → tape_from pages (n + 1) a lines ≡ Err k → Stops (n + 1) a lines k)
      → Stops n r (line ∷ lines) k
  err_by n k r line lines true o over is h later =
      let same : n ≡ k = cc in
      stops_here n r (line ∷ lines) k same (inl (subst (λ m. is_over m line ≡ true) same over))
  err_by n k r line lines false None over is h later =
      let same : n ≡ k = cc in
      stops_here n r (line ∷ lines) k same (inr is)
  err_by n k r line lines false (Some a) over is h later =
      let stops = later a h in
      let number = stops.number in
      record {
        front = line ∷ stops.front;
        rest = stops.rest;
        last = stops.last;
        split = ap (λ l. line ∷ l) stops.split;
        number = omega arith;
        within = (over, stops.within);
        taken = runs_step pages r a line stops.front is ∙ stops.taken;
        here = stops.here;
      }

  err_runs : (lines : List (List ℕ)) (n : ℕ) (r : Reading) (k : ℕ) → tape_from pages n r lines ≡ Err k → Stops n r lines k
  err_runs [] n r k h = let why = whole_err n k r.tape r.page h in stops_here n r [] k why.0 why.1
  err_runs (line ∷ lines) n r k h = err_by n k r line lines (is_over n line) (next pages r line) refl refl h (λ a. err_runs lines (n + 1) a k)

  refused_by : (front rest : List (List ℕ)) (last : Reading) (k : ℕ) → k ≡ length front + 1 → runs pages (outside blank) front ≡ Some last → StopsHere last k rest → IsRefused pages front rest
  refused_by front [] last k number taken inside = λ tape is.
      let whole = items_taken pages blank tape is.items is.taken in
      let e : Some last ≡ Some (outside tape) = sym taken ∙ ap (runs pages (outside blank)) is.written ∙ whole in
      let none = ap (λ (r : Reading). is_some r.page) (some_same last (outside tape) e) in
      absurd (let f = sym inside ∙ none in cc)
  refused_by front (line ∷ rest) last k number taken (inl over) = inl (subst (λ m. is_over m line ≡ true) number over)
  refused_by front (line ∷ rest) last k number taken (inr none) =
      inr (begins_none pages (front ++ line ∷ [])
      (runs_both pages (outside blank) last front (line ∷ []) taken ∙ ap (option_and_then (λ a. runs pages a [])) none))

  -- the first line that is refused
  pub err_refused : (lines : List (List ℕ)) (k : ℕ) → tape_from pages 1 (outside blank) lines ≡ Err k → IsRefusedAt pages lines k
  err_refused lines k h =
      let stops = err_runs lines 1 (outside blank) k h in
      let count = stops.number in
      let number : k ≡ length stops.front + 1 = omega arith in
      record {
        front = stops.front;
        rest = stops.rest;
        split = stops.split;
        number = number;
        within = stops.within;
        begins = begins_from_runs pages stops.front stops.last stops.taken;
        refused = refused_by stops.front stops.rest stops.last k number stops.taken stops.here;
      }
