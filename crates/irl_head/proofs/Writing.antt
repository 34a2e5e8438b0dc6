-- A record for a journal that has none.
use Rattle.std.proofs.Common.{◌≡◌, ◌∙◌, ⊎_elim, inl, inr, ℕ, List, [], ◌∷◌, ◌++◌, subst, sym, Option, None, Some}
use Rattle.std.specs.Option.{ForSome}
use Rattle.irl_disk.specs.Disk.{Files, Changes, ChangesFile}
use Rattle.irl_disk.specs.Effects.{OnlyChanges, ReadsAndChanges}
use Rattle.irl_disk.specs.Images.{Told, IsConsistent, Follows, LeavesBy}
use Rattle.irl_disk.specs.Taken.{TakesOnly}
use Rattle.irl_disk.proofs.Effects.{cause_for, cause_then}
use Rattle.irl_disk.proofs.Frames.{told_from}
use Rattle.irl_disk.proofs.Stretches.{goes_on, widens_by}
use Rattle.irl_journal.specs.Appending.{Tail, IsOpen, HasOrGains}
use Rattle.irl_journal.specs.Format.{StandsFor}
use Rattle.irl_journal.specs.Visiting.{IsOpened, RefusesOneOf}
use Rattle.irl_journal.proofs.Opened.{opened_stands}
use Rattle.irl_head.specs.Writing.{GainsFirst}

opened_gains : (f : ℕ) (payload : List ℕ) (old new : Files) → ChangesFile f IsOpened old new → ChangesFile f (GainsFirst payload) old new
opened_gains f payload old new changes = record { changed = λ stands. inl (opened_stands (old f) (new f) [] changes.changed stands); others = changes.others }

then_gains : (f : ℕ) (payload : List ℕ) (old mid new : Files) → ChangesFile f (GainsFirst payload) old mid → ChangesFile f (HasOrGains [] payload) mid new → ChangesFile f (GainsFirst payload) old new
then_gains f payload old mid new first second = record {
  changed = λ stands. ⊎_elim (λ none. inl (inr none)) (λ one. inr one) second.changed;
  others = λ g other. second.others g other ∙ first.others g other;
}

-- a journal is opened and appended to
opens_and_gains : (f : ℕ) (payload : List ℕ) (old mid new : Told) → IsConsistent mid → LeavesBy (ChangesFile f IsOpened) old mid → LeavesBy (ChangesFile f (HasOrGains [] payload)) mid new
    → LeavesBy (ChangesFile f (GainsFirst payload)) old new
opens_and_gains f payload old mid new law first second =
    goes_on old mid new (Follows (ChangesFile f (GainsFirst payload)) old.images) (ChangesFile f (HasOrGains [] payload)) law
    (widens_by old mid (ChangesFile f IsOpened) (ChangesFile f (GainsFirst payload)) first (λ x y changes. opened_gains f payload x y changes))
    second
    (λ before image was step. (was.0, was.1, then_gains f payload was.0 before image was.2 step))

-- what is told of it
told_opened : (f : ℕ) (payload : List ℕ) (old new : Option Files) → Changes f IsOpened old new → Changes f (GainsFirst payload) old new
told_opened f payload None new changes = changes
told_opened f payload (Some old) new changes = (changes.0, changes.1, opened_gains f payload old changes.0 changes.2)

told_gains : (f : ℕ) (payload : List ℕ) (old mid new : Option Files) → Changes f IsOpened old mid → Changes f (HasOrGains [] payload) mid new → Changes f (GainsFirst payload) old new
told_gains f payload None mid new first second = subst (λ (told : Option Files). Changes f (HasOrGains [] payload) told new) first second
told_gains f payload (Some old) mid new first second =
    let next = subst (λ (told : Option Files). Changes f (HasOrGains [] payload) told new) first.1 second in
    (next.0, next.1, then_gains f payload old first.0 next.0 (opened_gains f payload old first.0 first.2) next.2)

-- all of that, with the count of the store's faults as it is answered
pub opens_only : (f : ℕ) (payload : List ℕ) (failed answered : Type 0) (old new : Told) → (answered → failed) → ReadsAndChanges (λ g. g ≡ f) (ChangesFile f IsOpened) failed old new
    → ReadsAndChanges (λ g. g ≡ f) (ChangesFile f (GainsFirst payload)) answered old new
opens_only f payload failed answered old new is opens = record {
  told = told_opened f payload old.files new.files opens.told;
  stops = widens_by old new (ChangesFile f IsOpened) (ChangesFile f (GainsFirst payload)) opens.stops (λ x y changes. opened_gains f payload x y changes);
  taken = opens.taken;
  cause = cause_for failed answered old.faults new.faults is opens.cause;
}

pub opens_then_gains : (f at : ℕ) (payload : List ℕ) (opening failed answered : Type 0) (old mid new : Told) → IsConsistent mid → at ≡ f
    → ReadsAndChanges (λ g. g ≡ f) (ChangesFile f IsOpened) opening old mid
    → OnlyChanges (ChangesFile at (HasOrGains [] payload)) failed mid new → (answered → failed)
    → ReadsAndChanges (λ g. g ≡ f) (ChangesFile f (GainsFirst payload)) answered old new
opens_then_gains f at payload opening failed answered old mid new law same opens grows is =
    let gains = subst (λ (g : ℕ). OnlyChanges (ChangesFile g (HasOrGains [] payload)) failed mid new) same grows in
    record {
      told = told_gains f payload old.files mid.files new.files opens.told gains.told;
      stops = opens_and_gains f payload old mid new law opens.stops gains.stops;
      taken = subst (λ (counts : Option (ℕ → ℕ)). TakesOnly f old.taken counts) (sym gains.taken) opens.taken;
      cause = cause_then answered old.faults mid.faults new.faults opens.cause.later (cause_for failed answered mid.faults new.faults is gains.cause);
    }

-- a visitor refuses none of no records
pub none_refused : {V : Type 0} (takes refuses : V → ℕ → List ℕ → V → Type 0) (visitor after : V) (at : ℕ) → RefusesOneOf takes refuses visitor after [] at → ⊥
none_refused takes refuses visitor after at one = no one.first one.payload one.more one.among
  where
    no : (first : List (List ℕ)) (payload : List ℕ) (more : List (List ℕ)) → [] ≡ first ++ payload ∷ more → ⊥
    no [] payload more e = cc
    no (x ∷ first) payload more e = cc

-- a journal without a record is open on none once it is opened
pub empty_open : (old mid : Told) (head : Tail) (f : ℕ) → IsConsistent mid → Changes f IsOpened old.files mid.files → ForSome old.files (λ files. StandsFor (files f) [])
    → ForSome old.files (λ files. StandsFor (files f) [] → IsOpen mid.images head []) → IsOpen mid.images head []
empty_open old mid head f law changes blank opens = λ image left.
    let now = law.tells image left in
    let was = told_from f IsOpened old.files mid.files now.0 changes now.1 in
    opens was.0 was.1 (blank was.0 was.1) image left
