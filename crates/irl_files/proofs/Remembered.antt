-- What the store's calls remember of failed syncs and of the first failure, from what its folder's do.
use Rattle.std.proofs.Common.{◌≡◌, ℕ, false, true, Result, Ok, Err, is_ok, OnOk, OnErr, IsErr, MatchResult, Option, Some, None, IsSomeAnd, ◌∙◌, ap, sym, subst, rules}
use Rattle.irl_disk.specs.DeviceCall.{DeviceCall, Sync}
use Rattle.irl_files.specs.Failure.{call_of, file_of, IsOf, first_of, KeepsFirst}
use Rattle.irl_files.specs.declared.failure.Failure.{Failure}
use Rattle.irl_files.specs.declared.lost.Lost.{Lost}
use Rattle.irl_files.specs.Lost.{is_lost, KeepsLost, FailsOnce}

-- failed syncs stay remembered where what is remembered is the same
pub KeepsLost-same : (old mid new : Lost) → KeepsLost old mid → new ≡ mid → KeepsLost old new
KeepsLost-same old mid new kept same f lost = ap (λ at. is_lost at f) same ∙ kept f lost

-- a sync's answer, by that of the folder's
pub FailsOnce-answer :
    {T E F : Type 0} (f : ℕ) (answer : Result T E) (result : Result T F) (old mid new : Lost)
    → MatchResult answer (λ value. result ≡ Ok value) (λ error. IsErr result)
    → OnOk answer (is_lost old f ≡ false) → OnErr answer (is_lost mid f ≡ true) → new ≡ mid
    → FailsOnce (Sync f) (is_ok result) old new
FailsOnce-answer f (Ok value) (Ok v) old mid new is first lost same = search rules
FailsOnce-answer f (Ok value) (Err e) old mid new is first lost same = search rules
FailsOnce-answer f (Err error) (Ok v) old mid new is first lost same = search rules
FailsOnce-answer f (Err error) (Err e) old mid new is first lost same = ap (λ at. is_lost at f) same ∙ lost

-- the first failure, by what the count keeps of a call's error
pub KeepsFirst-answer :
    {T E F : Type 0} (call : DeviceCall) (P : E → Failure → Type 0) (answer : Result T E) (result : Result T F) (old new : Option Failure)
    → MatchResult answer (λ value. result ≡ Ok value) (λ error. IsErr result)
    → MatchResult answer (λ value. new ≡ old)
    (λ error. (failure : Failure) × (failure.call ≡ call_of call) × (failure.file ≡ file_of call) × P error failure × (new ≡ first_of old failure))
    → KeepsFirst call (is_ok result) old new
KeepsFirst-answer call P (Ok value) (Ok v) old new is kept = kept
KeepsFirst-answer call P (Ok value) (Err e) old new is kept = search rules
KeepsFirst-answer call P (Err error) (Ok v) old new is kept = search rules
KeepsFirst-answer call P (Err error) (Err e) (Some first) new is (failure, by, on, why, kept) = kept
KeepsFirst-answer call P (Err error) (Err e) None new is (failure, by, on, why, kept) =
    subst (λ now. IsSomeAnd now (IsOf call)) (sym kept) (by, on)
