-- What the calls of a desk come to, by the way in which they come to their answer.
use Rattle.std.proofs.Common.{◌≡◌, ◌∙◌, ℕ, ◌+◌, List, [], ◌∷◌, ◌++◌, map, Option, None, Some, Result, Ok, Err, OnOk, OnErr, IsErrOf, refl, sym, ap, subst, arith}
use Rattle.std.proofs.lemmas.List.{map-append}
use Rattle.irl_array.specs.Waiting.{Waiting}
use Rattle.irl_base.specs.declared.fault.Fault.{Fault}
use Rattle.irl_base.specs.declared.fault.Fault.TheVariants.{Damaged, Failed, Full, Memory}
use Rattle.irl_offer.specs.Buckets.{bucket_of}
use Rattle.irl_offer.specs.Offering.{Entered, fault_or}
use Rattle.irl_offer.specs.Tuple.{Tuple}
use Rattle.irl_offer.specs.declared.receipt.Receipt.{Receipt}
use Rattle.irl_disk.specs.Images.{Told, IsConsistent}
use Rattle.irl_schedule.specs.Arrays.{AreArrays, waiting_at}
use Rattle.irl_schedule.specs.Schedule.{none_more, one_more}
use Rattle.irl_yard.specs.Holding.{StaysSound}
use Rattle.irl_yard.specs.declared.parts.Parts.{Parts}
use Rattle.irl_intake.specs.Advancing.{StopsAt}
use Rattle.irl_desk.specs.Closing.{Closes, ended, last_after}
use Rattle.irl_desk.specs.Serving.{Enters, Serves, Serving, moment_at, receipt_behind}
use Rattle.irl_desk.specs.Stepping.{Steps}
use Rattle.irl_desk.proofs.Entering.{IsLastBy, IsPushed, enters_both, enters_push, enters_steps}

-- ---- the last fault
none_some : (last : Option Fault) (fault : Fault) → last ≡ None → last ≡ Some fault → ⊥
none_some last fault none is = cc

-- one that was answered before stays
pub kept_last : (last : Option Fault) (fault : Fault) → last ≡ Some fault → fault_or last fault ≡ last
kept_last last Failed is = sym is
kept_last last Memory is = refl
kept_last last (Full n) is = sym is
kept_last last (Damaged f at) is = sym is

fault_named : (fault other : Fault) → fault_or None fault ≡ Some other → fault ≡ other
fault_named Failed other is = cc
fault_named Memory other is = let no : ⊥ = cc in absurd no
fault_named (Full n) other is = cc
fault_named (Damaged f at) other is = cc

err_this : {A : Type 0} (result : Result A Fault) (one other : Fault) → result ≡ Err one → IsErrOf result other → one ≡ other
err_this {A} result one other is named = cc

err_that : {A : Type 0} (result : Result A Fault) (one other : Fault) → result ≡ Err one → one ≡ other → IsErrOf result other
err_that {A} result one other is same = cc

ok_not : {A : Type 0} (result : Result A Fault) (a : A) (fault : Fault) → result ≡ Ok a → IsErrOf result fault → ⊥
ok_not {A} result a fault is named = cc

pub last_err : {A : Type 0} (result : Result A Fault) (fault : Fault) (last : Option Fault) → result ≡ Err fault → last ≡ fault_or None fault → IsLastBy result last
last_err {A} result fault last is same = record {
  named = λ other named. err_that result fault other is (fault_named fault other (sym same ∙ named));
  failed = λ failed. same ∙ ap (λ (f : Fault). fault_or None f) (err_this result fault Failed is failed);
}

pub last_ok : {A : Type 0} (result : Result A Fault) (a : A) (last : Option Fault) → result ≡ Ok a → last ≡ None → IsLastBy result last
last_ok {A} result a last is none = record {
  named = λ other named. absurd (none_some last other none named);
  failed = λ failed. absurd (ok_not result a Failed is failed);
}

last_by : (result : Result (Unit {0}) Fault) → IsLastBy result (last_after None result)
last_by (Ok v) = last_ok (Ok v) v None refl refl
last_by (Err fault) = last_err (Err fault) fault (fault_or None fault) refl refl

-- ---- an offer
-- nothing is done after a fault
pub serves_stopped : {S : Type 0} (told : S → Told) (old : Serving S) (fault : Fault) → old.last ≡ Some fault → Serves told [] old old
serves_stopped {S} told old fault is = record { enters = λ none. absurd (none_some old.last fault none is); again = λ f named. (refl, refl) }

-- no fault was answered before
pub serves_first : {S : Type 0} (told : S → Told) (news : List Entered) (old new : Serving S) → old.last ≡ None → Enters told none_more news old new → Serves told news old new
serves_first {S} told news old new none enters = record { enters = λ is. enters; again = λ f is. absurd (none_some old.last f none is) }

-- it is noted
pub map_push : {X : Type 0} (f : X → Entered) (xs ys : List X) (x : X) (one : Entered) → ys ≡ xs ++ x ∷ [] → f x ≡ one → map f ys ≡ map f xs ++ one ∷ []
map_push {X} f xs ys x one is made = ap (λ (l : List X). map f l) is ∙ map-append f xs (x ∷ []) ∙ ap (λ (e : Entered). map f xs ++ e ∷ []) made

-- its receipt
pub receipt_is : (buckets : ℕ) (had : ℕ → ℕ) (b number : ℕ) (offer : Tuple) → b ≡ bucket_of buckets offer.key → number ≡ had b
    → record { bucket = b; number = number } ≡ receipt_behind buckets had [] offer
receipt_is buckets had b number offer bucket is =
    let of : ℕ → ℕ → Receipt = λ c n. record { bucket = c; number = n } in
    let all : number ≡ had b + 0 = omega (arith, is) in
    ap (λ (n : ℕ). of b n) all ∙ ap (λ (c : ℕ). of c (had c + 0)) bucket

-- room is made for it, and then it is pushed
pub serves_pushed : {S : Type 0} (told : S → Told) (one : Entered) (old mid new : Serving S) → IsConsistent (told mid.store) → old.last ≡ None → mid.last ≡ None → Enters told none_more [] old mid
    → IsPushed told one mid new → Serves told (one ∷ []) old new
serves_pushed {S} told one old mid new law none still first push =
    serves_first told (one ∷ []) old new none (enters_both told none_more [] (one ∷ []) old mid new law still first (enters_push told one mid new push))

-- ---- a desk that is closed
-- after a fault
pub closes_again : {S : Type 0} (told : S → Told) (old : Serving S) (fault : Fault) → old.last ≡ Some fault → Closes told (Err fault) old old.store old.parts
closes_again {S} told old fault is = record {
  arrays = old.arrays;
  enters = λ none. absurd (none_some old.last fault none is);
  again = λ other named.
      let same : fault ≡ other = some_same old.last fault other is named in (
        ap (λ (f : Fault). Err f) same,
        ap (λ (l : Option Fault). with_last l) (kept_last old.last fault is),
      );
  emptied = tt;
  ordered = λ none. absurd (none_some old.last fault none is);
}
  where
    with_last : Option Fault → Serving S
    with_last last = record { store = old.store; parts = old.parts; arrays = old.arrays; entries = old.entries; last = last }

    some_same : (last : Option Fault) (one other : Fault) → last ≡ Some one → last ≡ Some other → one ≡ other
    some_same last one other first second = cc

-- what waits is flushed
pub closes_flushed : {S : Type 0} (told : S → Told) (result : Result (Unit {0}) Fault) (old : Serving S) (store : S) (parts : Parts) (arrays : List Waiting) → old.last ≡ None
    → parts.rest ≡ old.parts.rest → AreArrays parts.urls.settings arrays → StaysSound (IsErrOf result Failed) parts
    → Steps result one_more (moment_at told old) (moment_at told (ended old result store parts arrays)) → OnOk result ((b : ℕ) → waiting_at arrays b ≡ [])
    → OnErr result ((n : ℕ) × StopsAt n (moment_at told old) (moment_at told (ended old result store parts arrays)) × ((m : ℕ) → IsErrOf result (Full m) → m ≡ n))
    → Closes told result old store parts
closes_flushed {S} told result old store parts arrays none rest are sound steps emptied ordered = record {
  arrays = arrays;
  enters = λ is. enters_steps told result one_more old (ended old result store parts arrays) refl rest are
      (subst (λ (last : Option Fault). IsLastBy result (last_after last result)) (sym none) (last_by result)) sound steps;
  again = λ fault is. absurd (none_some old.last fault none is);
  emptied = emptied;
  ordered = λ is. ordered;
}
