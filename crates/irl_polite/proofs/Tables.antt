-- What a table of hosts says after one of them changed.
use Rattle.std.proofs.Common.{◌≡◌, ◌∙◌, ℕ, ◌<◌, Bool, true, false, cond, List, set, Option, Some, None, refl, sym, ap, subst, inl, inr}
use Rattle.std.proofs.Math.Path.{fun_ext}
use Rattle.std.proofs.lemmas.Bool.{cases_eq}
use Rattle.std.proofs.lemmas.List.{length-set}
use Rattle.std.specs.Prelude.{slice_get, bytes_eq}
use Rattle.irl_polite.specs.declared.hosts.Host.{Host}
use Rattle.irl_polite.specs.Schedule.{Schedule, changed}
use Rattle.irl_polite.specs.Inside.{host_at, seen, seen_at, Seen, IsTable}
use Rattle.irl_polite.proofs.Lists.{get_set_same, get_set_other, same_some, cases_text}

-- schedules are the same field by field
pub schedules : (s t : Schedule) → s.agent ≡ t.agent → s.delay ≡ t.delay → s.moment ≡ t.moment → s.items ≡ t.items
    → ((q : List ℕ) → s.known q ≡ t.known q) → ((q : List ℕ) → s.due q ≡ t.due q) → ((q : List ℕ) → s.awaited q ≡ t.awaited q) → s ≡ t
schedules s t agent delay moment items known due awaited =
    let k : s.known ≡ t.known = fun_ext known in
    let d : s.due ≡ t.due = fun_ext due in
    let w : s.awaited ≡ t.awaited = fun_ext awaited in
    λ i. record { agent = agent i; delay = delay i; moment = moment i; items = items i; known = k i; due = d i; awaited = w i }

module _ (names : List ℕ → Option ℕ) (hosts : List Host) (table : IsTable names hosts) (name : List ℕ) (place : ℕ) (named : names name ≡ Some place) where
  -- what is seen of the host itself
  pub seen_here : (owner : Host) → slice_get hosts place ≡ Some owner → seen_at names hosts name ≡ seen (Some owner)
  seen_here owner stands = ap (λ o. seen (host_at hosts o)) named ∙ ap seen stands

  module _ (changed_owner : Host) where
    seen_by : (q : List ℕ) (o : Option ℕ) → names q ≡ o → (q ≡ name → ⊥) → seen (host_at (set hosts place changed_owner) o) ≡ seen (host_at hosts o)
    seen_by q None is ne = refl
    seen_by q (Some j) is ne =
        ap seen (get_set_other hosts place j changed_owner (λ e. ne (table.apart q name place (is ∙ ap Some e) named)))

    -- what is seen after it changed
    pub seen_set : (q : List ℕ) → seen_at names (set hosts place changed_owner) q ≡ cond (bytes_eq q name) (seen (Some changed_owner)) (seen_at names hosts q)
    seen_set q = elim (cases_text q name) [
      | inl (e, same) ↦
          ap (λ o. seen (host_at (set hosts place changed_owner) o)) (ap names same ∙ named)
          ∙ ap seen (get_set_same hosts place changed_owner (table.within name place named))
          ∙ sym (ap (λ b. cond b (seen (Some changed_owner)) (seen_at names hosts q)) e)
      | inr (e, other) ↦
          seen_by q (names q) refl other
          ∙ sym (ap (λ b. cond b (seen (Some changed_owner)) (seen_at names hosts q)) e)
    ]

    cond_ap : {X : Type 0} (f : Seen → X) (b : Bool) (x y : Seen) → f (cond b x y) ≡ cond b (f x) (f y)
    cond_ap f true x y = refl
    cond_ap f false x y = refl

    pub field_set : {X : Type 0} (f : Seen → X) (q : List ℕ) → f (seen_at names (set hosts place changed_owner) q) ≡ changed (λ p. f (seen_at names hosts p)) name (f (seen (Some changed_owner))) q
    field_set f q = ap f (seen_set q) ∙ cond_ap f (bytes_eq q name) (seen (Some changed_owner)) (seen_at names hosts q)

    -- it stays a table where the host that isn't awaited has the name
    pub table_set : (changed_owner.awaited ≡ false → changed_owner.name ≡ name) → IsTable names (set hosts place changed_owner)
    table_set keeps = record {
      within = λ q p e. subst (λ n. p < n) (sym (length-set hosts place changed_owner)) (table.within q p e);
      apart = table.apart;
      named = λ p h e ready. elim (cases_eq p place) [
        | inl same ↦
            let is : h ≡ changed_owner = same_some h changed_owner (sym e ∙ ap (slice_get (set hosts place changed_owner)) same
            ∙ get_set_same hosts place changed_owner (table.within name place named)) in
            ap (λ (x : Host). names x.name) is ∙ ap names (keeps (ap (λ (x : Host). x.awaited) (sym is) ∙ ready)) ∙ named ∙ ap Some (sym same)
        | inr other ↦ table.named p h (sym (get_set_other hosts place p changed_owner other) ∙ e) ready
      ];
    }
