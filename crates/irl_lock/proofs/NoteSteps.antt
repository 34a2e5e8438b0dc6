-- A note keeps the rule.
use Rattle.std.proofs.Common.{◌≡◌, ◌≢◌, ◌∙◌, inl, inr, ℕ, ◌<◌, ◌≤◌, List, [], ◌∷◌, map, refl, sym, ap, subst, arith}
use Rattle.std.specs.Prelude.{Option, None, Some, Result, slice_index, slice_set}
use mathlib.Core.Option.{none, some}
use lib.ListN.{get_elem?}
use Rattle.atomic_table.specs.Table.{Allows, keeps, rest, step}
use Rattle.irl_base.specs.declared.fault.Fault.{Fault}
use Rattle.irl_disk.specs.Images.{IsConsistent}
use Rattle.irl_disk.specs.declared.store.Store.{Ghosts}
use Rattle.irl_yard.specs.declared.yard.Yard.{Yard}
use Rattle.irl_lock.specs.Books.{HasBooks, buckets_of}
use Rattle.irl_lock.specs.Plays.{M, Noted, with_known, with_last}
use Rattle.irl_lock.specs.Rule.{IsKept, IsSeat, known_of, turns_of}
use Rattle.irl_lock.specs.Seats.{Refills}
use Rattle.irl_lock.specs.Turns.{AreTurns}
use Rattle.irl_lock.specs.declared.held.Bin.{Bin}
use Rattle.irl_lock.specs.declared.held.Held.{Held}
use Rattle.irl_lock.specs.declared.held.Held.TheVariants.{InBin, InYard}
use Rattle.irl_lock.specs.declared.held.Stand.{Stand}
use Rattle.irl_lock.specs.declared.view.Known.{Known}
use Rattle.irl_lock.specs.declared.view.View.{View}
use Rattle.irl_lock.proofs.BookSteps.{IsNote, books_note, books_turn, held_bin, held_stand}
use Rattle.irl_lock.proofs.Listed.{changed, changed_else, changed_here, each_set, map_at, map_slice_set, words_long}
use Rattle.irl_lock.proofs.TurnSteps.{keeps_behind, revalued_both, same_word}

-- a list that begins so
pub begins : {X : Type 0} (l more : List (ℕ × X)) (x : ℕ × X) → l ≡ x ∷ more → l ≡ x ∷ rest l
begins l more x is = is ∙ ap (λ m. x ∷ rest m) (sym is)

module _ {S : Type 0} {tells : Ghosts S} where
  -- what two slots have that a seat took
  abbrev slot_stand : Stand S tells → Option (Held S tells) → Stand S tells
  slot_stand other None = other
  slot_stand other (Some held) = held_stand other held

  abbrev slot_bin : Bin → Option (Held S tells) → Bin
  slot_bin other None = other
  slot_bin other (Some held) = held_bin other held

  abbrev first_place : List (ℕ × Option (Held S tells)) → ℕ
  first_place [] = 0
  first_place (x ∷ more) = x.0

  abbrev second_place : List (ℕ × Option (Held S tells)) → ℕ
  second_place [] = 0
  second_place (x ∷ []) = 0
  second_place (x ∷ y ∷ more) = y.0

  abbrev stand_in : Stand S tells → List (ℕ × Option (Held S tells)) → Stand S tells
  stand_in other [] = other
  stand_in other (x ∷ more) = slot_stand other x.1

  abbrev bin_in : Bin → List (ℕ × Option (Held S tells)) → Bin
  bin_in other [] = other
  bin_in other (x ∷ []) = other
  bin_in other (x ∷ y ∷ more) = slot_bin other y.1

  pub notes : (lawful : (s : S) → IsConsistent (tells.told s)) (opening : Yard S tells) (slots id last b : ℕ) (me : M tells) (result : Result (Unit {0}) Fault) (was now : Bin)
      (old new : Stand S tells) → last ≡ buckets_of opening → b < last → 1 ≤ me.0.known.parts → Refills result b was now old new
      → me.0.turns ≡ (last, InYard old) ∷ (b, InBin was) ∷ []
      → me.1 ≡ (last, Some (InYard new)) ∷ (b, Some (InBin now)) ∷ [] → Allows (IsKept opening) slots id me last (λ n. n) (Noted (step slots last 0 0 none) me)
  notes lawful opening slots id last b me result was now old new last_is within part refills turns out s k _ at _ =
      let view = me.0 in
      let buckets = buckets_of opening in
      let found = slice_index s.words last in
      let seats = map turns_of s.views in
      let knowns = map known_of s.views in
      let before : List (ℕ × Held S tells) = (last, InYard old) ∷ (b, InBin was) ∷ [] in
      let after : List (ℕ × Held S tells) = (last, InYard new) ∷ (b, InBin now) ∷ [] in
      let known : Known = with_last new.last view.known in
      let later : View S tells = with_known after known view in
      let one : ℕ → Held S tells = changed k.held b (InBin now) in
      let held : ℕ → Held S tells = changed one last (InYard new) in
      let turns_at : get_elem? seats id ≡ some before = map_at turns_of s.views id view at ∙ ap some turns in
      let of_bin = keeps_behind buckets s.words s.homes seats k.held id before b (InBin was) k.turns turns_at (inr (inl (refl, refl))) in
      let of_yard = keeps_behind buckets s.words s.homes seats k.held id before last (InYard old) k.turns turns_at (inl (refl, refl)) in
      let apart : b ≢ last = λ same. omega (arith, same, within) in
      let is : IsNote lawful opening s.words knowns k.held held id b view.known was now old new result = record {
        seat = map_at known_of s.views id view at;
        part = part;
        within = omega (arith, within, last_is);
        bin_was = of_bin.1;
        yard_was = ap k.held (sym last_is) ∙ of_yard.1;
        bin_now = changed_else one last b (InYard new) apart ∙ changed_here k.held b b (InBin now) refl;
        yard_now = changed_here one last buckets (InYard new) (sym last_is);
        others = λ t not_b not_last. changed_else one last t (InYard new) (λ same. not_last (same ∙ last_is)) ∙ changed_else k.held b t (InBin now) not_b;
        refills = refills;
      } in (
        later,
        keeps,
        tt,
        record {
          held = held;
          long = words_long s.words last found ∙ k.long;
          turns = subst (λ (l : List (List (ℕ × Held S tells))). AreTurns buckets (slice_set s.words last found) s.homes l held) (sym (map_slice_set turns_of s.views id later))
              (same_word buckets s.words s.homes (slice_set seats id after) held last found
              (revalued_both buckets s.words s.homes seats k.held id last b (InYard old) (InYard new) (InBin was) (InBin now) k.turns turns_at) refl);
          books = subst (λ (l : List Known). HasBooks opening (slice_set s.words last found) l held) (sym (map_slice_set known_of s.views id later))
              (books_turn lawful opening s.words last found (slice_set knowns id known) held (omega (arith, last_is))
              (books_note lawful opening s.words knowns k.held held id b view.known was now old new result is k.books));
          seats = each_set (λ i u. IsSeat opening u) s.views id later
              (record { opening_is = (k.seats id view at).opening_is; idle = λ zero. absurd (omega (arith, zero, part)) })
              (λ i u other there. k.seats i u there);
        },
        λ last' b' stand' bin' is'.
            let same = sym out ∙ is' in
            let places : last ≡ last' = ap first_place same in
            let others : b ≡ b' = ap second_place same in
            let stands : new ≡ stand' = ap (stand_in new) same in
            let bins : now ≡ bin' = ap (bin_in now) same in
            λ i. (with_known ((places i, InYard (stands i)) ∷ (others i, InBin (bins i)) ∷ []) (with_last (stands i).last view.known) view, me.1),
      )

  -- the same of a seat whose view is known by another name
  pub notes_by : (lawful : (s : S) → IsConsistent (tells.told s)) (opening : Yard S tells) (slots id last b : ℕ) (me : M tells) (view : View S tells) (result : Result (Unit {0}) Fault)
      (was now : Bin) (old new : Stand S tells) → last ≡ buckets_of opening → b < last → me.0 ≡ view → 1 ≤ view.known.parts → Refills result b was now old new
      → view.turns ≡ (last, InYard old) ∷ (b, InBin was) ∷ [] → me.1 ≡ (last, Some (InYard new)) ∷ (b, Some (InBin now)) ∷ []
      → Allows (IsKept opening) slots id me last (λ n. n) (Noted (step slots last 0 0 none) me)
  notes_by lawful opening slots id last b me view result was now old new last_is within same part refills turns out =
      notes lawful opening slots id last b me result was now old new last_is within (subst (λ (v : View S tells). 1 ≤ v.known.parts) (sym same) part) refills
      (ap (λ (v : View S tells). v.turns) same ∙ turns) out

  -- what a seat has left of two slots, of which it gave the first back
  pub left_out : (me mid now : M tells) (first second : View S tells) (x y : ℕ × Option (Held S tells)) → me.1 ≡ x ∷ y ∷ [] → mid ≡ (first, me.1) → now ≡ (second, rest mid.1)
      → now.1 ≡ y ∷ rest now.1
  left_out me mid now first second x y is same gave = begins now.1 [] y (ap (λ (m : M tells). m.1) gave ∙ ap (λ (m : M tells). rest m.1) same ∙ ap rest is)
