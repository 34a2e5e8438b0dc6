-- What each step does to turns that are held or at home: a claim, a release, what a seat keeps, and seats that come and go.
use Rattle.std.proofs.Common.{◌≡◌, ◌≢◌, ℕ, ◌+◌, ◌<◌, ◌≤◌, List, [], ◌∷◌, ◌++◌, length, Option, Some, refl, sym, ap, ◌∙◌, subst, ⊎_elim, inl, inr, arith, length-set}
use Rattle.std.specs.Prelude.{slice_index, slice_set}
use mathlib.Core.Logic.{dite}
use mathlib.Core.Option.{Option as Home, some, none, some-injective, some-ne-none}
use native.Mathlib.Decide.{ℕ_discrete}
use lib.ListN.{get_elem?}
use Rattle.atomic_table.proofs.Lists.{at_longer, at_snoc, set_again, set_else, set_here}
use Rattle.irl_lock.specs.Turns.{AreApart, AreTurns, Holds, HoldsTurns}
use Rattle.irl_lock.proofs.Listed.{changed, changed_else, changed_here, each_set, here_set, word_again, word_else, word_here}

module _ {H : Type 0} where
  -- what a seat keeps of a turn is what stands behind it
  pub keeps_behind : (last : ℕ) (words : List ℕ) (homes : List (Home (Option H))) (seats : List (List (ℕ × H))) (held : ℕ → H) (id : ℕ) (turns : List (ℕ × H)) (t : ℕ) (h : H)
      → AreTurns last words homes seats held → get_elem? seats id ≡ some turns → Holds t h turns → (t ≤ last) × (held t ≡ h)
  keeps_behind last words homes seats held id turns t h k at m = let x = (k.seats_are id turns at).each t h m in (x.0, x.3)

  -- what stands behind a turn whose word is 0 is at home
  pub free_at_home : (last : ℕ) (words : List ℕ) (homes : List (Home (Option H))) (seats : List (List (ℕ × H))) (held : ℕ → H) (t : ℕ)
      → AreTurns last words homes seats held → t ≤ last → slice_index words t ≡ 0 → get_elem? homes t ≡ some (some (Some (held t)))
  free_at_home last words homes seats held t k inside free = k.at_home t inside (sym (k.turn_words t inside) ∙ free)

  -- two lists at one place are one
  one_list : (seats : List (List (ℕ × H))) (i j : ℕ) (xs ys : List (ℕ × H)) → i ≡ j → get_elem? seats i ≡ some xs → get_elem? seats j ≡ some ys → xs ≡ ys
  one_list seats i j xs ys is a b = some-injective xs ys (sym a ∙ (ap (get_elem? seats) is ∙ b))

  -- who holds a turn after one seat has changed, where that seat still holds what else it held
  still_out : (seats : List (List (ℕ × H))) (id j holder : ℕ) (h : H) (was now : List (ℕ × H)) → get_elem? seats id ≡ some was → (Holds j h was → Holds j h now)
      → (turns : List (ℕ × H)) × (get_elem? seats holder ≡ some turns) × Holds j h turns
      → (turns : List (ℕ × H)) × (get_elem? (slice_set seats id now) holder ≡ some turns) × Holds j h turns
  still_out seats id j holder h was now at goes x = dite (ℕ_discrete holder id)
      (λ same. (now, ap (get_elem? (slice_set seats id now)) same ∙ here_set seats id was now at, goes (subst (Holds j h) (one_list seats holder id x.0 was same x.1 at) x.2)))
      (λ apart. (x.0, set_else seats id holder now apart ∙ x.1, x.2))

  -- ---- a claim
  pub claimed : (last : ℕ) (words : List ℕ) (homes : List (Home (Option H))) (seats : List (List (ℕ × H))) (held : ℕ → H) (id t n : ℕ) (turns : List (ℕ × H))
      → AreTurns last words homes seats held → t ≤ last → t < length words → slice_index words t ≡ 0 → n ≢ 0 → get_elem? seats id ≡ some turns
      → AreTurns last (slice_set words t n) (slice_set homes t none) (slice_set seats id ((t, held t) ∷ turns)) held
  claimed last words homes seats held id t n turns k inside long free some_turn at =
      let t0 : k.turn t ≡ 0 = sym (k.turn_words t inside) ∙ free in
      let now : List (ℕ × H) = (t, held t) ∷ turns in
      let turn : ℕ → ℕ = changed k.turn t n in
      let holder : ℕ → ℕ = changed k.holder t id in
      let here = k.seats_are id turns at in
      let other : (j : ℕ) → k.turn j ≢ 0 → j ≢ t = λ j z same. z (ap k.turn same ∙ t0) in
      let still : (i j : ℕ) (h : H) → (j ≤ last) × (k.holder j ≡ i) × (k.turn j ≢ 0) × (held j ≡ h) → (j ≤ last) × (holder j ≡ i) × (turn j ≢ 0) × (held j ≡ h)
      = λ i j h x. let apart = other j x.2 in (x.0, changed_else k.holder t j id apart ∙ x.1, (λ z. x.2 (sym (changed_else k.turn t j n apart) ∙ z)), x.3) in
      record {
        turn = turn;
        holder = holder;
        homes_are = length-set homes t none ∙ k.homes_are;
        turn_words = λ j l. dite (ℕ_discrete j t)
            (λ same. ap (slice_index (slice_set words t n)) same ∙ (word_here words t n long ∙ sym (changed_here k.turn t j n same)))
            (λ apart. word_else words t j n apart ∙ (k.turn_words j l ∙ sym (changed_else k.turn t j n apart)));
        at_home = λ j l z. dite (ℕ_discrete j t)
            (λ same. absurd (some_turn (sym (changed_here k.turn t j n same) ∙ z)))
            (λ apart. set_else homes t j none apart ∙ k.at_home j l (sym (changed_else k.turn t j n apart) ∙ z));
        out = λ j l z. dite (ℕ_discrete j t)
            (λ same. (now, ap (get_elem? (slice_set seats id now)) (changed_here k.holder t j id same) ∙ here_set seats id turns now at, inl (sym same, ap held (sym same))))
            (λ apart. let x = still_out seats id j (k.holder j) (held j) turns now at (λ m. inr m) (k.out j l (λ y. z (changed_else k.turn t j n apart ∙ y))) in
            (x.0, ap (get_elem? (slice_set seats id now)) (changed_else k.holder t j id apart) ∙ x.1, x.2));
        seats_are = each_set (HoldsTurns last turn holder held) seats id now
            record {
              each = λ j h m. ⊎_elim
                  (λ (e : (t ≡ j) × (held t ≡ h)). let same : j ≡ t = sym e.0 in
                  (subst (λ (i : ℕ). i ≤ last) e.0 inside, changed_here k.holder t j id same, (λ z. some_turn (sym (changed_here k.turn t j n same) ∙ z)), ap held same ∙ e.1))
                  (λ (m : Holds j h turns). still id j h (here.each j h m)) m;
              apart = ((λ h m. (here.each t h m).2 t0), here.apart);
            }
            (λ i u _ e. let g = k.seats_are i u e in record { each = λ j h m. still i j h (g.each j h m); apart = g.apart });
      }

  -- ---- a release
  pub released : (last : ℕ) (words : List ℕ) (homes : List (Home (Option H))) (seats : List (List (ℕ × H))) (held : ℕ → H) (id t : ℕ) (h : H) (more : List (ℕ × H))
      → AreTurns last words homes seats held → t < length words → get_elem? seats id ≡ some ((t, h) ∷ more)
      → AreTurns last (slice_set words t 0) (slice_set homes t (some (Some h))) (slice_set seats id more) held
  released last words homes seats held id t h more k long at =
      let was : List (ℕ × H) = (t, h) ∷ more in
      let turn : ℕ → ℕ = changed k.turn t 0 in
      let here = k.seats_are id was at in
      let mine = here.each t h (inl (refl, refl)) in
      let many = k.homes_are in
      let inside = mine.0 in
      let still : (i j : ℕ) (x : H) → j ≢ t → (j ≤ last) × (k.holder j ≡ i) × (k.turn j ≢ 0) × (held j ≡ x) → (j ≤ last) × (k.holder j ≡ i) × (turn j ≢ 0) × (held j ≡ x)
      = λ i j x apart y. (y.0, y.1, (λ z. y.2 (sym (changed_else k.turn t j 0 apart) ∙ z)), y.3) in
      record {
        turn = turn;
        holder = k.holder;
        homes_are = length-set homes t (some (Some h)) ∙ k.homes_are;
        turn_words = λ j l. dite (ℕ_discrete j t)
            (λ same. ap (slice_index (slice_set words t 0)) same ∙ (word_here words t 0 long ∙ sym (changed_here k.turn t j 0 same)))
            (λ apart. word_else words t j 0 apart ∙ (k.turn_words j l ∙ sym (changed_else k.turn t j 0 apart)));
        at_home = λ j l z. dite (ℕ_discrete j t)
            (λ same. ap (get_elem? (slice_set homes t (some (Some h)))) same ∙ (set_here homes t (some (Some h)) (omega (arith, many, inside))
            ∙ ap (λ (x : H). some (some (Some x))) (sym mine.3 ∙ ap held (sym same))))
            (λ apart. set_else homes t j (some (Some h)) apart ∙ k.at_home j l (sym (changed_else k.turn t j 0 apart) ∙ z));
        out = λ j l z. let apart : j ≢ t = (λ same. z (changed_here k.turn t j 0 same)) in
            still_out seats id j (k.holder j) (held j) was more at
            (λ m. ⊎_elim (λ (e : (t ≡ j) × (h ≡ held j)). absurd (apart (sym e.0))) (λ (m : Holds j (held j) more). m) m)
            (k.out j l (λ y. z (changed_else k.turn t j 0 apart ∙ y)));
        seats_are = each_set (HoldsTurns last turn k.holder held) seats id more
            record {
              each = λ j x m. still id j x (λ same. here.apart.0 x (subst (λ (i : ℕ). Holds i x more) same m)) (here.each j x (inr m));
              apart = here.apart.1;
            }
            (λ i u far e. let g = k.seats_are i u e in record {
              each = λ j x m. let y = g.each j x m in still i j x (λ same. far (sym y.1 ∙ (ap k.holder same ∙ mine.1))) y;
              apart = g.apart;
            });
      }

  -- ---- what changes nothing of turns
  -- other words behind those of the turns
  pub other_words : (last : ℕ) (words words' : List ℕ) (homes : List (Home (Option H))) (seats : List (List (ℕ × H))) (held : ℕ → H)
      → AreTurns last words homes seats held → ((t : ℕ) → t ≤ last → slice_index words' t ≡ slice_index words t) → AreTurns last words' homes seats held
  other_words last words words' homes seats held k same = record {
    turn = k.turn;
    holder = k.holder;
    homes_are = k.homes_are;
    turn_words = λ j l. same j l ∙ k.turn_words j l;
    at_home = k.at_home;
    out = k.out;
    seats_are = k.seats_are;
  }

  -- a word behind them is set
  pub word_behind : (last : ℕ) (words : List ℕ) (homes : List (Home (Option H))) (seats : List (List (ℕ × H))) (held : ℕ → H) (w n : ℕ)
      → AreTurns last words homes seats held → last < w → AreTurns last (slice_set words w n) homes seats held
  word_behind last words homes seats held w n k behind = other_words last words (slice_set words w n) homes seats held k (λ t l. word_else words w t n (λ same. omega arith))

  -- a word is set to what it was
  pub same_word : (last : ℕ) (words : List ℕ) (homes : List (Home (Option H))) (seats : List (List (ℕ × H))) (held : ℕ → H) (w n : ℕ)
      → AreTurns last words homes seats held → n ≡ slice_index words w → AreTurns last (slice_set words w n) homes seats held
  same_word last words homes seats held w n k e = subst (λ (ws : List ℕ). AreTurns last ws homes seats held) (sym (word_again words w n e)) k

  -- a seat is set to what it was
  pub same_seat : (last : ℕ) (words : List ℕ) (homes : List (Home (Option H))) (seats : List (List (ℕ × H))) (held : ℕ → H) (id : ℕ) (turns : List (ℕ × H))
      → AreTurns last words homes seats held → get_elem? seats id ≡ some turns → AreTurns last words homes (slice_set seats id turns) held
  same_seat last words homes seats held id turns k at = subst (λ (xs : List (List (ℕ × H))). AreTurns last words homes xs held) (sym (set_again seats id turns at)) k

  -- a claim that finds the turn held
  pub lost : (last : ℕ) (words : List ℕ) (homes : List (Home (Option H))) (seats : List (List (ℕ × H))) (held : ℕ → H) (id t n : ℕ) (turns : List (ℕ × H))
      → AreTurns last words homes seats held → n ≡ slice_index words t → get_elem? seats id ≡ some turns
      → AreTurns last (slice_set words t n) homes (slice_set seats id turns) held
  lost last words homes seats held id t n turns k e at =
      same_seat last (slice_set words t n) homes seats held id turns (same_word last words homes seats held t n k e) at

  -- ---- what a seat keeps changes
  -- all that it keeps: the same turns, each with what stands behind it now, and nothing else changes
  pub revalued : (last : ℕ) (words : List ℕ) (homes : List (Home (Option H))) (seats : List (List (ℕ × H))) (held held' : ℕ → H) (id : ℕ) (was now : List (ℕ × H))
      → AreTurns last words homes seats held → get_elem? seats id ≡ some was
      → ((j : ℕ) (x : H) → Holds j x now → (held' j ≡ x) × ((y : H) × Holds j y was))
      → ((j : ℕ) (y : H) → Holds j y was → Holds j (held' j) now)
      → ((j : ℕ) → ((y : H) → Holds j y was → ⊥) → held' j ≡ held j)
      → AreApart now
      → AreTurns last words homes (slice_set seats id now) held'
  revalued last words homes seats held held' id was now k at from to else apart =
      let here = k.seats_are id was at in
      record {
        turn = k.turn;
        holder = k.holder;
        homes_are = k.homes_are;
        turn_words = k.turn_words;
        at_home = λ j l z. k.at_home j l z ∙ ap (λ (x : H). some (some (Some x))) (sym (else j (λ y m. (here.each j y m).2 z)));
        out = λ j l z. let x = k.out j l z in dite (ℕ_discrete (k.holder j) id)
            (λ same. (
              now,
              ap (get_elem? (slice_set seats id now)) same ∙ here_set seats id was now at,
              to j (held j) (subst (Holds j (held j)) (one_list seats (k.holder j) id x.0 was same x.1 at) x.2),
            ))
            (λ far. (x.0, set_else seats id (k.holder j) now far ∙ x.1, subst (λ (h : H). Holds j h x.0) (sym (else j (λ y m. far (here.each j y m).1))) x.2));
        seats_are = each_set (HoldsTurns last k.turn k.holder held') seats id now
            record {
              each = λ j x m. let y = from j x m in let o = here.each j y.1.0 y.1.1 in (o.0, o.1, o.2, y.0);
              apart = apart;
            }
            (λ i u far e. let g = k.seats_are i u e in record {
              each = λ j x m. let o = g.each j x m in (o.0, o.1, o.2, else j (λ y w. far (sym o.1 ∙ (here.each j y w).1)) ∙ o.3);
              apart = g.apart;
            });
      }

  -- what stands behind the turn that it claimed last
  pub revalued_first : (last : ℕ) (words : List ℕ) (homes : List (Home (Option H))) (seats : List (List (ℕ × H))) (held : ℕ → H) (id t : ℕ) (h h' : H) (more : List (ℕ × H))
      → AreTurns last words homes seats held → get_elem? seats id ≡ some ((t, h) ∷ more)
      → AreTurns last words homes (slice_set seats id ((t, h') ∷ more)) (changed held t h')
  revalued_first last words homes seats held id t h h' more k at =
      let was : List (ℕ × H) = (t, h) ∷ more in
      let now : List (ℕ × H) = (t, h') ∷ more in
      let here = k.seats_are id was at in
      let held' : ℕ → H = changed held t h' in
      let far : (j : ℕ) (x : H) → Holds j x more → j ≢ t = λ j x m same. here.apart.0 x (subst (λ (i : ℕ). Holds i x more) same m) in
      let same : (j : ℕ) (x : H) → Holds j x more → held' j ≡ x = λ j x m. changed_else held t j h' (far j x m) ∙ (here.each j x (inr m)).3 in
      revalued last words homes seats held held' id was now k at
      (λ j x m. ⊎_elim
      (λ (e : (t ≡ j) × (h' ≡ x)). (changed_here held t j h' (sym e.0) ∙ e.1, (h, inl (e.0, refl))))
      (λ (m : Holds j x more). (same j x m, (x, inr m))) m)
      (λ j y m. ⊎_elim
      (λ (e : (t ≡ j) × (h ≡ y)). inl (e.0, sym (changed_here held t j h' (sym e.0))))
      (λ (m : Holds j y more). inr (subst (λ (x : H). Holds j x more) (sym (same j y m)) m)) m)
      (λ j free. changed_else held t j h' (λ is. free h (inl (sym is, refl))))
      here.apart

  -- what stands behind both turns of a seat that has two
  pub revalued_both : (last : ℕ) (words : List ℕ) (homes : List (Home (Option H))) (seats : List (List (ℕ × H))) (held : ℕ → H) (id t b : ℕ) (h h' n n' : H)
      → AreTurns last words homes seats held → get_elem? seats id ≡ some ((t, h) ∷ (b, n) ∷ [])
      → AreTurns last words homes (slice_set seats id ((t, h') ∷ (b, n') ∷ [])) (changed (changed held b n') t h')
  revalued_both last words homes seats held id t b h h' n n' k at =
      let was : List (ℕ × H) = (t, h) ∷ (b, n) ∷ [] in
      let now : List (ℕ × H) = (t, h') ∷ (b, n') ∷ [] in
      let here = k.seats_are id was at in
      let one : ℕ → H = changed held b n' in
      let held' : ℕ → H = changed one t h' in
      let far : b ≢ t = (λ is. here.apart.0 n (inl (is, refl))) in
      let first : (j : ℕ) → t ≡ j → held' j ≡ h' = λ j e. changed_here one t j h' (sym e) in
      let second : (j : ℕ) → b ≡ j → held' j ≡ n' = λ j e. changed_else one t j h' (λ is. far (e ∙ is)) ∙ changed_here held b j n' (sym e) in
      revalued last words homes seats held held' id was now k at
      (λ j x m. ⊎_elim
      (λ (e : (t ≡ j) × (h' ≡ x)). (first j e.0 ∙ e.1, (h, inl (e.0, refl))))
      (λ (m : Holds j x ((b, n') ∷ [])). ⊎_elim
      (λ (e : (b ≡ j) × (n' ≡ x)). (second j e.0 ∙ e.1, (n, inr (inl (e.0, refl)))))
      (λ (no : ⊥). absurd no) m) m)
      (λ j y m. ⊎_elim
      (λ (e : (t ≡ j) × (h ≡ y)). inl (e.0, sym (first j e.0)))
      (λ (m : Holds j y ((b, n) ∷ [])). inr (⊎_elim
      (λ (e : (b ≡ j) × (n ≡ y)). inl (e.0, sym (second j e.0)))
      (λ (no : ⊥). absurd no) m)) m)
      (λ j free. changed_else one t j h' (λ is. free h (inl (sym is, refl))) ∙ changed_else held b j n' (λ is. free n (inr (inl (sym is, refl)))))
      ((λ x m. ⊎_elim (λ (e : (b ≡ t) × (n' ≡ x)). far e.0) (λ (no : ⊥). no) m), ((λ x m. m), tt))

  -- ---- seats come and go
  -- a new seat holds no turn
  pub with_seat : (last : ℕ) (words : List ℕ) (homes : List (Home (Option H))) (seats : List (List (ℕ × H))) (held : ℕ → H)
      → AreTurns last words homes seats held → AreTurns last words homes (seats ++ [] ∷ []) held
  with_seat last words homes seats held k = record {
    turn = k.turn;
    holder = k.holder;
    homes_are = k.homes_are;
    turn_words = k.turn_words;
    at_home = k.at_home;
    out = λ j l z. let x = k.out j l z in (x.0, at_longer seats ([] ∷ []) (k.holder j) x.0 x.1, x.2);
    seats_are = λ i u e. ⊎_elim (λ (was : get_elem? seats i ≡ some u). k.seats_are i u was)
        (λ (is : [] ≡ u). subst (HoldsTurns last k.turn k.holder held i) is record { each = λ j h m. absurd m; apart = tt }) (at_snoc seats [] u i e);
  }

  -- a seat is cut in two, and keeps its turns
  pub split : (last : ℕ) (words : List ℕ) (homes : List (Home (Option H))) (seats : List (List (ℕ × H))) (held : ℕ → H) (id : ℕ) (turns : List (ℕ × H))
      → AreTurns last words homes seats held → get_elem? seats id ≡ some turns → AreTurns last words homes (slice_set seats id turns ++ [] ∷ []) held
  split last words homes seats held id turns k at = with_seat last words homes (slice_set seats id turns) held (same_seat last words homes seats held id turns k at)

  -- a seat that holds none is taken in
  pub joined : (last : ℕ) (words : List ℕ) (homes : List (Home (Option H))) (seats : List (List (ℕ × H))) (held : ℕ → H) (id other : ℕ) (turns : List (ℕ × H))
      → AreTurns last words homes seats held → get_elem? seats id ≡ some turns → get_elem? (slice_set seats id turns) other ≡ some []
      → AreTurns last words homes (slice_set (slice_set seats id turns) other []) held
  joined last words homes seats held id other turns k at there =
      same_seat last words homes (slice_set seats id turns) held other [] (same_seat last words homes seats held id turns k at) there

  -- ---- the start and the end
  -- all are at home, and one seat holds none
  pub opened : (last : ℕ) (words : List ℕ) (homes : List (Home (Option H))) (held : ℕ → H)
      → length homes ≡ last + 1 → ((t : ℕ) → t ≤ last → slice_index words t ≡ 0) → ((t : ℕ) → t ≤ last → get_elem? homes t ≡ some (some (Some (held t))))
      → AreTurns last words homes ([] ∷ []) held
  opened last words homes held many zeros home = let none_yet : List (List (ℕ × H)) = [] in record {
    turn = λ j. 0;
    holder = λ j. 0;
    homes_are = many;
    turn_words = zeros;
    at_home = λ j l _. home j l;
    out = λ j l z. absurd (z refl);
    seats_are = λ i u e. ⊎_elim (λ (was : get_elem? none_yet i ≡ some u). absurd (some-ne-none u (sym was)))
        (λ (is : [] ≡ u). subst (HoldsTurns last (λ j. 0) (λ j. 0) held i) is record { each = λ j h m. absurd m; apart = tt }) (at_snoc none_yet [] u i e);
  }

  -- where no seat holds a turn, all are at home
  pub at_rest : (last : ℕ) (words : List ℕ) (homes : List (Home (Option H))) (seats : List (List (ℕ × H))) (held : ℕ → H)
      → AreTurns last words homes seats held → ((id : ℕ) (turns : List (ℕ × H)) → get_elem? seats id ≡ some turns → turns ≡ [])
      → (t : ℕ) → t ≤ last → get_elem? homes t ≡ some (some (Some (held t)))
  at_rest last words homes seats held k idle t l = dite (ℕ_discrete (k.turn t) 0)
      (λ z. k.at_home t l z)
      (λ n. let x = k.out t l n in absurd (subst (Holds t (held t)) (idle (k.holder t) x.0 x.1) x.2))
