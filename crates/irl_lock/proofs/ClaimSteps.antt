-- A claim and a release as steps that the rule allows: they move turns, and what stands behind them stays.
use Rattle.std.proofs.Common.{◌≡◌, ◌≢◌, ℕ, ◌<◌, ◌≤◌, List, [], ◌∷◌, length, map, Option, Some, None, refl, sym, ap, ◌∙◌, subst, inl, inr, arith, eqb}
use Rattle.std.specs.Prelude.{slice_index, slice_set}
use Rattle.std.specs.List.{AllByRecursion}
use Rattle.std.specs.declared.snapshot.Snapshot.{Snapshot}
use mathlib.Core.Logic.{dite}
use mathlib.Core.Option.{Option as Home, some, none}
use native.Mathlib.Decide.{ℕ_discrete}
use prog.Atomic.{either}
use lib.ListN.{get_elem?}
use Rattle.atomic_table.specs.Table.{Allows, State, gives, keeps, put_back, rest, step, takes}
use Rattle.atomic_table.proofs.Lists.{exchanged}
use Rattle.irl_base.specs.declared.fault.Fault.{Fault}
use Rattle.irl_base.specs.declared.fault.Fault.TheVariants.{Failed}
use Rattle.irl_disk.specs.declared.store.Store.{Ghosts}
use Rattle.irl_offer.specs.declared.settings.Settings.{Settings}
use Rattle.irl_schedule.specs.Arrays.{array_at}
use Rattle.irl_schedule.specs.Feeding.{IsArrayOf}
use Rattle.irl_yard.specs.declared.yard.Yard.{Yard}
use Rattle.irl_lock.specs.Books.{AreParts, HasBooks, bin_of, buckets_of, count_word, shares_of}
use Rattle.irl_lock.specs.Plays.{AllGoOn, Claimed, FitsSeat, GoesOn, IsBehind, M, Released, with_turns}
use Rattle.irl_lock.specs.Rule.{IsKept, IsSeat, kept_of, known_of, turns_of}
use Rattle.irl_lock.specs.Turns.{AreTurns, Holds}
use Rattle.irl_lock.specs.declared.held.Held.{Held}
use Rattle.irl_lock.specs.declared.held.Held.TheVariants.{InBin, InYard}
use Rattle.irl_lock.specs.declared.held.Stand.{Stand}
use Rattle.irl_lock.specs.declared.view.Known.{Known}
use Rattle.irl_lock.specs.declared.view.Share.{Share}
use Rattle.irl_lock.specs.declared.view.View.{View}
use Rattle.irl_lock.proofs.Listed.{each_set, every_at, map_at, map_same, map_slice_set, word_else, words_long}
use Rattle.irl_lock.proofs.TurnSteps.{claimed, free_at_home, keeps_behind, lost, released}

module _ {S : Type 0} {tells : Ghosts S} where
  -- ---- what a step of turns leaves alone
  -- the books, where no count word changes, and no seat knows more
  pub books_stay : (opening : Yard S tells) (words words' : List ℕ) (knowns knowns' : List Known) (held : ℕ → Held S tells)
      → HasBooks opening words knowns held
      → ((b : ℕ) → b < buckets_of opening → slice_index words' (count_word opening b) ≡ slice_index words (count_word opening b))
      → knowns' ≡ knowns → HasBooks opening words' knowns' held
  books_stay opening words words' knowns knowns' held k counts same = record {
    stand = k.stand;
    arrays = k.arrays;
    news = k.news;
    yard_is = k.yard_is;
    bins_are = k.bins_are;
    counts = λ b l. counts b l ∙ k.counts b l;
    enters = k.enters;
    parts = subst (AreParts k.news k.stand.last) (sym same) k.parts;
    memory = k.memory;
  }

  -- The rule, where a turn's word, the slots and the turns of one seat change, and what stands behind each turn doesn't.
  pub kept_by : (opening : Yard S tells) (s : State (Option (Held S tells)) (View S tells)) (id t n : ℕ) (homes : List (Home (Option (Held S tells))))
      (view : View S tells) (turns : List (ℕ × Held S tells)) (k : IsKept opening s)
      → get_elem? s.views id ≡ some view → t ≤ buckets_of opening → 1 ≤ view.known.parts
      → AreTurns (buckets_of opening) (slice_set s.words t n) homes (slice_set (map turns_of s.views) id turns) k.held
      → IsKept opening (record { words = slice_set s.words t n; homes = homes; views = slice_set s.views id (with_turns turns view) })
  kept_by opening s id t n homes view turns k at inside part are =
      let now : View S tells = with_turns turns view in
      let seat = k.seats id view at in
      record {
        held = k.held;
        long = words_long s.words t n ∙ k.long;
        turns = subst (λ (xs : List (List (ℕ × Held S tells))). AreTurns (buckets_of opening) (slice_set s.words t n) homes xs k.held)
            (sym (map_slice_set turns_of s.views id now)) are;
        books = books_stay opening s.words (slice_set s.words t n) (map known_of s.views) (map known_of (slice_set s.views id now)) k.held k.books
            (λ b l. word_else s.words t (count_word opening b) n (λ same. omega arith)) (map_same known_of s.views id view now at refl);
        seats = each_set (λ i u. IsSeat opening u) s.views id now
            record { opening_is = seat.opening_is; idle = λ z. absurd (omega arith) } (λ i u far e. k.seats i u e);
      }

  -- ---- what a claim is told
  -- by the number of a turn: it is a bucket's, or the store's
  by_turn : (opening : Yard S tells) (words : List ℕ) (knowns : List Known) (held : ℕ → Held S tells) (k : HasBooks opening words knowns held) (F : ℕ → Held S tells → Type 0)
      → ((b : ℕ) → b < buckets_of opening → F b (InBin (bin_of k.stand k.arrays b))) → F (buckets_of opening) (InYard k.stand)
      → (t : ℕ) → t ≤ buckets_of opening → F t (held t)
  by_turn opening words knowns held k F bin yard t inside = dite (ℕ_discrete t (buckets_of opening))
      (λ same. subst (λ (j : ℕ). F j (held j)) (sym same) (subst (F (buckets_of opening)) (sym k.yard_is) yard))
      (λ apart. let below : t < buckets_of opening = omega arith in subst (F t) (sym (k.bins_are t below)) (bin t below))

  pub behind : (opening : Yard S tells) (words : List ℕ) (knowns : List Known) (held : ℕ → Held S tells) (t : ℕ)
      → HasBooks opening words knowns held → t ≤ buckets_of opening → IsBehind opening t (held t)
  behind opening words knowns held t k inside =
      let settings_are : k.stand.yard.parts.urls.settings ≡ opening.parts.urls.settings = k.enters.stays.settings in
      by_turn opening words knowns held k (IsBehind opening)
      (λ b l. (
        l,
        subst (λ (x : Settings). IsArrayOf x b (array_at k.arrays b)) settings_are
            (k.enters.arrays.each b (subst (λ (x : Settings). b < x.buckets) (sym settings_are) l)),
      ))
      (refl, settings_are, λ e. k.enters.sound.sound (λ failed. let no : None ≡ Some Failed = sym e ∙ failed in cc), k.memory)
      t inside

  go_on : (stand : Stand S tells) (turns : List (ℕ × Held S tells)) → ((t : ℕ) (h : Held S tells) → Holds t h turns → GoesOn stand t h) → AllGoOn stand turns
  go_on stand [] each = tt
  go_on stand (x ∷ more) each = (each x.0 x.1 (inl (refl, refl)), go_on stand more (λ t h m. each t h (inr m)))

  -- what the store says of a seat
  pub fits : (opening : Yard S tells) (s : State (Option (Held S tells)) (View S tells)) (id t : ℕ) (view : View S tells) (k : IsKept opening s)
      → get_elem? s.views id ≡ some view → t ≤ buckets_of opening → FitsSeat (k.held t) view
  fits opening s id t view k at inside =
      let books = k.books in
      let goes : (j : ℕ) (h : Held S tells) → Holds j h view.turns → GoesOn books.stand j h = λ j h m.
      let x = keeps_behind (buckets_of opening) s.words s.homes (map turns_of s.views) k.held id view.turns j h k.turns (map_at turns_of s.views id view at) m in
      subst (GoesOn books.stand j) x.1 (by_turn opening s.words (map known_of s.views) k.held books (GoesOn books.stand) (λ b l. refl) tt j x.0) in
      let of_known : Known → Type 0 = λ known. AllByRecursion (λ (share : Share). (fault : Fault) → share.last ≡ Some fault → books.stand.last ≡ Some fault) (shares_of known) in
      let stops : of_known view.known = every_at of_known (map known_of s.views) id view.known books.parts.stops (map_at known_of s.views id view at) in
      by_turn opening s.words (map known_of s.views) k.held books (λ j h. FitsSeat h view) (λ b l. tt) (go_on books.stand view.turns goes, stops.0) t inside

  abbrev value_in : Yard S tells → Option (Snapshot (Yard S tells)) → Yard S tells
  value_in yard None = yard
  value_in yard (Some snapshot) = snapshot.value

  -- a seat with a part has one opening
  one_opening : (opening other : Yard S tells) (view : View S tells) → view.opening ≡ kept_of opening → view.opening ≡ kept_of other → opening ≡ other
  one_opening opening other view a b = ap (value_in opening) (sym a ∙ b)

  -- ---- the steps
  pub claims : (opening : Yard S tells) (slots id t n : ℕ) (me : M tells) → t ≤ buckets_of opening → n ≢ 0 → 1 ≤ me.0.known.parts
      → Allows (IsKept opening) slots id me t (λ m. either (eqb m 0) n m) (Claimed (step slots t 0 n none) me)
  claims opening slots id t n me inside some_turn part s k _ at _ =
      let found : ℕ = slice_index s.words t in
      let last : ℕ = buckets_of opening in
      let view : View S tells = me.0 in
      let seats : List (List (ℕ × Held S tells)) = map turns_of s.views in
      let f : ℕ = either (eqb found 0) n found in
      let long = k.long in
      let within : t < length s.words = omega arith in
      let its : get_elem? seats id ≡ some view.turns = map_at turns_of s.views id view at in
      dite (ℕ_discrete found 0)
      (λ free.
      let held : Held S tells = k.held t in
      let turns : List (ℕ × Held S tells) = (t, held) ∷ view.turns in
      let word : f ≡ n = exchanged found 0 n (λ (m : ℕ). m ≡ n) (λ _. refl) (λ ne. absurd (ne free)) in (
        with_turns turns view,
        takes t (Some held),
        free_at_home last s.words s.homes seats k.held t k.turns inside free,
        kept_by opening s id t f (slice_set s.homes t none) view turns k at inside part
            (claimed last s.words s.homes seats k.held id t f view.turns k.turns inside within free (λ z. some_turn (sym word ∙ z)) its),
        (
          (λ _. (
            held,
            refl,
            (λ other is. subst (λ (y : Yard S tells). IsBehind y t held) (one_opening opening other view ((k.seats id view at).opening_is part) is)
                (behind opening s.words (map known_of s.views) k.held t k.books inside)),
            fits opening s id t view k at inside,
          )),
          λ ne. absurd (ne free),
        ),
      ))
      (λ taken.
      let word : f ≡ found = exchanged found 0 n (λ (m : ℕ). m ≡ found) (λ e. absurd (taken e)) (λ _. refl) in (
        view,
        keeps,
        tt,
        kept_by opening s id t f s.homes view view.turns k at inside part (lost last s.words s.homes seats k.held id t f view.turns k.turns word its),
        ((λ e. absurd (taken e)), λ _. refl),
      ))

  pub releases : (opening : Yard S tells) (slots id t : ℕ) (me : M tells) (held : Held S tells) → t ≤ buckets_of opening → 1 ≤ me.0.known.parts
      → me.0.turns ≡ (t, held) ∷ rest me.0.turns → me.1 ≡ (t, Some held) ∷ rest me.1
      → Allows (IsKept opening) slots id me t (λ _. 0) (λ _. Released (step slots t 0 0 none) me 0)
  releases opening slots id t me held inside part holds slot s k _ at _ =
      let last : ℕ = buckets_of opening in
      let view : View S tells = me.0 in
      let more : List (ℕ × Held S tells) = rest view.turns in
      let seats : List (List (ℕ × Held S tells)) = map turns_of s.views in
      let long = k.long in
      let within : t < length s.words = omega arith in
      let its : get_elem? seats id ≡ some ((t, held) ∷ more) = map_at turns_of s.views id view at ∙ ap some holds in
      let homes : put_back s.homes me.1 ≡ slice_set s.homes t (some (Some held)) = ap (put_back s.homes) slot in (
        with_turns more view,
        gives,
        tt,
        kept_by opening s id t 0 (put_back s.homes me.1) view more k at inside part
            (subst (λ (hs : List (Home (Option (Held S tells)))). AreTurns last (slice_set s.words t 0) hs (slice_set seats id more) k.held) (sym homes)
            (released last s.words s.homes seats k.held id t held more k.turns within its)),
        refl,
      )

  -- ---- a value goes out of a slot and back
  -- what was claimed lies in its slot
  pub lies_in : (t : ℕ) (held : Held S tells) (view : View S tells) (slots : List (ℕ × Option (Held S tells))) (me : M tells)
      → me ≡ (view, (t, Some held) ∷ slots) → (old : Option (Held S tells)) × (me.1 ≡ (t, old) ∷ rest me.1)
  lies_in t held view slots me is = (Some held, subst (λ (m : M tells). m.1 ≡ (t, Some held) ∷ rest m.1) (sym is) refl)

  -- what is put back into its slot is what stands behind the turn that was claimed last
  pub lies_back : (t : ℕ) (held : Held S tells) (was now : M tells) → was.0.turns ≡ (t, held) ∷ rest was.0.turns → now ≡ (was.0, (t, Some held) ∷ rest was.1)
      → (x : Held S tells) × (now.0.turns ≡ (t, x) ∷ rest now.0.turns) × (now.1 ≡ (t, Some x) ∷ rest now.1)
  lies_back t held was now turn is = (
    held,
    subst (λ (m : M tells). m.0.turns ≡ (t, held) ∷ rest m.0.turns) (sym is) turn,
    subst (λ (m : M tells). m.1 ≡ (t, Some held) ∷ rest m.1) (sym is) refl,
  )
