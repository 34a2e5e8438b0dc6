-- Which files a call changes, and which it reads: what holds of one file holds among several, and two stretches join.
use Rattle.std.proofs.Common.{◌≡◌, ◌⊎◌, ℕ, List, Option, None, Some, refl, sym, subst, ◌∙◌, ⊎_elim, arith}
use Rattle.irl_disk.specs.Disk.{Files, Changes, ChangesFile, ChangesAmong}
use Rattle.irl_disk.specs.Taken.{Takes, TakesAmong, TakesOnly}

-- a store that tells after a change of one file told before it
pub told_from : (f : ℕ) (step : List ℕ → List ℕ → Type 0) (old new : Option Files) (files : Files) → Changes f step old new → new ≡ Some files → (before : Files) × (old ≡ Some before)
    × ChangesFile f step before files
told_from f step None new files changes told = cc
told_from f step (Some old) new files changes told =
    let same : changes.0 ≡ files = cc in
    (old, refl, subst (λ (after : Files). ChangesFile f step old after) same changes.2)

same_number : (f g : ℕ) → (g ≡ f) ⊎ (g ≡ f → ⊥)
same_number f g = grind arith

module _ (among : ℕ → Type 0) (step : ℕ → List ℕ → List ℕ → Type 0) where
  -- a change of one of the files, where each of the others may stay
  pub among_one : (f : ℕ) (one : List ℕ → List ℕ → Type 0) (old new : Files) → among f → ((x : List ℕ) (y : List ℕ) → one x y → step f x y) → ((g : ℕ) (x : List ℕ) → among g → step g x x)
      → ChangesFile f one old new → ChangesAmong among step old new
  among_one f one old new is_among allows none changes = record {
    changed = λ g is. ⊎_elim
        (λ (e : g ≡ f). subst (λ (h : ℕ). step h (old h) (new h)) (sym e) (allows (old f) (new f) changes.changed))
        (λ (ne : g ≡ f → ⊥). subst (λ (x : List ℕ). step g (old g) x) (sym (changes.others g ne)) (none g (old g) is))
        (same_number f g);
    others = λ g out. changes.others g (λ e. out (subst among (sym e) is_among));
  }

  -- no change
  pub among_none : (old new : Files) → ((g : ℕ) (x : List ℕ) → among g → step g x x) → ((g : ℕ) → new g ≡ old g) → ChangesAmong among step old new
  among_none old new none same = record {
    changed = λ g is. subst (λ (x : List ℕ). step g (old g) x) (sym (same g)) (none g (old g) is);
    others = λ g out. same g;
  }

  -- two changes, one after the other
  pub among_joins : (old mid new : Files) → ((g : ℕ) (x y z : List ℕ) → among g → step g x y → step g y z → step g x z) → ChangesAmong among step old mid → ChangesAmong among step mid new
      → ChangesAmong among step old new
  among_joins old mid new both first second = record {
    changed = λ g is. both g (old g) (mid g) (new g) is (first.changed g is) (second.changed g is);
    others = λ g out. second.others g out ∙ first.others g out;
  }

-- ---- bytes taken
pub takes_none : (among : ℕ → Type 0) (old new : Option (ℕ → ℕ)) → new ≡ old → TakesAmong among old new
takes_none among None new same = same
takes_none among (Some counts) new same = (counts, same, λ g out. refl)

pub takes_one : (among : ℕ → Type 0) (f n : ℕ) (old new : Option (ℕ → ℕ)) → among f → Takes f n old new → TakesAmong among old new
takes_one among f n None new is takes = takes
takes_one among f n (Some old) new is takes = (takes.0, takes.1, λ g out. takes.2.others g (λ e. out (subst among (sym e) is)))

pub takes_both : (among : ℕ → Type 0) (old mid new : Option (ℕ → ℕ)) → TakesAmong among old mid → TakesAmong among mid new → TakesAmong among old new
takes_both among None mid new first second = subst (λ (taken : Option (ℕ → ℕ)). TakesAmong among taken new) first second
takes_both among (Some old) mid new first second =
    let then_ = subst (λ (taken : Option (ℕ → ℕ)). TakesAmong among taken new) first.1 second in
    (then_.0, then_.1, λ g out. then_.2 g out ∙ first.2 g out)

-- what was read of one file was read among several
pub takes_only : (among : ℕ → Type 0) (f : ℕ) (old new : Option (ℕ → ℕ)) → among f → TakesOnly f old new → TakesAmong among old new
takes_only among f None new is takes = takes
takes_only among f (Some old) new is takes = (takes.0, takes.1, λ g out. takes.2 g (λ e. out (subst among (sym e) is)))
