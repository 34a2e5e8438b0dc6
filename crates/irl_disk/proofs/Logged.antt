-- The bytes that a log keeps of each file stay those that its calls make.
use Rattle.std.specs.Prelude.{◌≡◌, ◌⊎◌, ℕ, true, false, List, [], ◌∷◌, ◌++◌, length, get_or, Vec, Result, Ok, Err, OnOk, OnErr}
use Rattle.std.proofs.Common.{sym, ap, ◌∙◌, inl, inr, set}
use Rattle.std.proofs.lemmas.List.{get_or_at, set_at}
use Rattle.std.specs.declared.alloc.Global.{Global}
use Rattle.irl_disk.specs.declared.calls.Call.{Call}
use Rattle.irl_disk.specs.declared.calls.LoggedCall.{LoggedCall}
use Rattle.irl_disk.specs.Disk.{Files}
use Rattle.irl_disk.specs.Model.{at_rest}
use Rattle.irl_disk.specs.Calls.{files_among, after_entries, read_after}
use Rattle.irl_disk.proofs.Steps.{after_more, now_done, now_not_done}

-- the last entry, marked as done
pub marked : (call : Call) (old new : List LoggedCall) (at : ℕ) (seen last : LoggedCall) → new ≡ old ++ record { call = call; is_done = false } ∷ [] → at ≡ length old → seen ≡ get_or new at seen
    → last ≡ record { call = seen.call; is_done = true } → set new at last ≡ old ++ record { call = call; is_done = true } ∷ []
marked call old new at seen last pushed place read is =
    let was : LoggedCall = record { call = call; is_done = false } in
    let there : get_or (old ++ was ∷ []) at seen ≡ was = get_or_at old was [] seen at (sym place) in
    let put : set (old ++ was ∷ []) at last ≡ old ++ last ∷ [] = set_at old was [] last at (sym place) in
    let same : seen ≡ was = read ∙ ap (λ (es : List LoggedCall). get_or es at seen) pushed ∙ there in
    let last_is : last ≡ record { call = call; is_done = true } = is ∙ ap (λ (e : LoggedCall). record { call = e.call; is_done = true }) same in
    ap (λ (es : List LoggedCall). set es at last) pushed ∙ put ∙ ap (λ (e : LoggedCall). old ++ e ∷ []) last_is

-- what a read gives of each file after these calls
abbrev AreNow : List (ℕ × Vec ℕ Global) → List LoggedCall → Files → Type 0
AreNow first entries files = (f : ℕ) → files f ≡ (after_entries entries f (at_rest (files_among first f))).now

done_is_now : (call : Call) (first : List (ℕ × Vec ℕ Global)) (old new : List LoggedCall) (was now : Files) → AreNow first old was → new ≡ old ++ record { call = call; is_done = true } ∷ []
    → ((f : ℕ) → now f ≡ read_after call f (was f)) → AreNow first new now
done_is_now call first old new was now before pushed after f =
    let start = at_rest (files_among first f) in
    after f ∙ ap (λ bytes. read_after call f bytes) (before f)
    ∙ sym (rw (pushed, after_more old (record { call = call; is_done = true }) f start) (now_done call f (after_entries old f start)))

failed_is_now : (call : Call) (first : List (ℕ × Vec ℕ Global)) (old new : List LoggedCall) (was now : Files) → AreNow first old was → (new ≡ old)
    ⊎ (new ≡ old ++ record { call = call; is_done = false } ∷ [])
    → ((f : ℕ) → now f ≡ was f) → AreNow first new now
failed_is_now call first old new was now before (inl same) after f = after f ∙ rw same (before f)
failed_is_now call first old new was now before (inr pushed) after f =
    let start = at_rest (files_among first f) in
    after f ∙ before f
    ∙ sym (rw (pushed, after_more old (record { call = call; is_done = false }) f start) (now_not_done call f (after_entries old f start)))

pub made_is_now : {E : Type 0} (result : Result Unit E) (call : Call) (first : List (ℕ × Vec ℕ Global)) (old new : List LoggedCall) (was now : Files) → AreNow first old was
    → OnOk result (new ≡ old ++ record { call = call; is_done = true } ∷ []) → OnOk result ((f : ℕ) → now f ≡ read_after call f (was f))
    → OnErr result ((new ≡ old) ⊎ (new ≡ old ++ record { call = call; is_done = false } ∷ [])) → OnErr result ((f : ℕ) → now f ≡ was f)
    → AreNow first new now
made_is_now (Ok x) call first old new was now before done files not_done kept = done_is_now call first old new was now before done files
made_is_now (Err e) call first old new was now before done files not_done kept = failed_is_now call first old new was now before not_done kept
