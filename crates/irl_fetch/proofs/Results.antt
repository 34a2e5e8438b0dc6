-- What a refusal says, and what it leaves open.
use Rattle.std.proofs.Common.{◌≡◌, Err, sym, subst}
use Rattle.std.specs.Prelude.{Result, IfOk, OnOk, OnErr}
use Rattle.irl_base.specs.declared.fault.Fault.{Fault}
use Rattle.irl_offer.specs.Offering.{fault_or}
use Rattle.irl_fetch.specs.Telling.{Offering}
use Rattle.irl_fetch.specs.Pages.{FaultIs}

pub refused_ok : {A E : Type 0} (B : Type 0) (result : Result A E) (y : E) → result ≡ Err y → OnOk result B
refused_ok B result y is = subst (λ r. OnOk r B) (sym is) tt

pub refused_if : {A E : Type 0} (P : A → Type 0) (result : Result A E) (y : E) → result ≡ Err y → IfOk result P
refused_if P result y is = subst (λ r. IfOk r P) (sym is) tt

pub refused_err : {A E : Type 0} (B : Type 0) (result : Result A E) (y : E) → result ≡ Err y → B → OnErr result B
refused_err B result y is holds = subst (λ r. OnErr r B) (sym is) holds

pub refused_fault : {O A : Type 0} (result : Result A Fault) (y : Fault) (o p : Offering O) → result ≡ Err y → p.last_fault ≡ fault_or o.last_fault y → FaultIs result o p
refused_fault result y o p is fault = subst (λ r. FaultIs r o p) (sym is) (tt, fault)
