-- What an answer of the store gives.
use Rattle.std.proofs.Common.{◌≡◌, ℕ, ◌<◌, ◌≤◌, Result, Ok, Err, IfOk, OnOk, OnErr, IsErrOf, refl, ap, subst, arith}
use Rattle.irl_base.specs.declared.fault.Fault.{Fault}
use Rattle.irl_base.specs.declared.fault.Fault.TheVariants.{Failed, Memory, Full, Damaged}

-- of both kinds of answer
pub by_answer : {T A B P : Type 0} (result : Result T Fault) → OnOk result A → OnErr result B → (A → P) → (B → P) → P
by_answer (Ok value) ok err one two = one ok
by_answer (Err fault) ok err one two = two err

pub err_gives : {T B : Type 0} (result : Result T Fault) (fault : Fault) → OnErr result B → IsErrOf result fault → B
err_gives (Ok value) fault err is = let no : ⊥ = cc in absurd no
err_gives (Err other) fault err is = err

pub ok_gives : {T B : Type 0} (result : Result T Fault) (value : T) → OnOk result B → result ≡ Ok value → B
ok_gives (Ok other) value ok is = ok
ok_gives (Err fault) value ok is = let no : ⊥ = cc in absurd no

pub if_gives : {T : Type 0} (result : Result T Fault) (value : T) (P : T → Type 0) → IfOk result P → result ≡ Ok value → P value
if_gives {T = T} result value P ok is = subst (λ (r : Result T Fault). IfOk r P) is ok

pub err_weaker : {T A B : Type 0} (result : Result T Fault) → OnErr result A → (A → B) → OnErr result B
err_weaker (Ok value) err gives = tt
err_weaker (Err other) err gives = gives err

pub ok_weaker : {T A B : Type 0} (result : Result T Fault) → OnOk result A → (A → B) → OnOk result B
ok_weaker (Ok value) ok gives = gives ok
ok_weaker (Err other) ok gives = tt

-- of several facts about one that is Ok, another
pub ok_three : {T A B C P : Type 0} (result : Result T Fault) → OnOk result A → OnOk result B → OnOk result C → (A → B → C → P) → OnOk result P
ok_three (Ok value) a b c gives = gives a b c
ok_three (Err fault) a b c gives = tt

pub ok_five : {T A B C D E P : Type 0} (result : Result T Fault) → OnOk result A → OnOk result B → OnOk result C → OnOk result D → OnOk result E → (A → B → C → D → E → P) → OnOk result P
ok_five (Ok value) a b c d e gives = gives a b c d e
ok_five (Err fault) a b c d e gives = tt

-- of a call that didn't fail, what each other answer gives
pub unless_failed : {T : Type 0} (result : Result T Fault) (P : Type 0) → (IsErrOf result Failed → ⊥) → OnOk result P → (IsErrOf result Memory → P) → ((n : ℕ) → IsErrOf result (Full n) → P)
    → ((f at : ℕ) → IsErrOf result (Damaged f at) → P) → P
unless_failed (Ok value) P sound ok memory full damaged = ok
unless_failed (Err Failed) P sound ok memory full damaged = absurd (sound refl)
unless_failed (Err Memory) P sound ok memory full damaged = memory refl
unless_failed (Err (Full n)) P sound ok memory full damaged = full n refl
unless_failed (Err (Damaged f at)) P sound ok memory full damaged = damaged f at refl

-- one that is two different answers is none
pub not_full : {T : Type 0} (result : Result T Fault) (b : ℕ) → IsErrOf result Failed → IsErrOf result (Full b) → ⊥
not_full result b failed full = cc

-- a refusal is the same one, whatever the call would have given
pub same_refusal : {T U : Type 0} (one other : Fault) → IsErrOf {T = T} {E = Fault} (Err one) other → IsErrOf {T = U} {E = Fault} (Err one) other
same_refusal {T = T} {U = U} one other is =
    let same : one ≡ other = cc in
    let of : Fault → Result U Fault = λ e. Err e in
    ap of same

-- a number that isn't above another
pub fits_unless : (n cap : ℕ) → (cap < n → ⊥) → n ≤ cap
fits_unless n cap not = omega (arith, not)
