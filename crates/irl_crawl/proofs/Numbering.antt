-- The numbers of hosts, after one is named again or for the first time.
use Rattle.std.proofs.Common.{◌≡◌, ◌∙◌, ℕ, Bool, true, false, cond, List, [], ◌∷◌, Option, Some, None, refl, sym, ap}
use Rattle.std.specs.Prelude.{Vec}
use Rattle.std.specs.BTreeMap.{insert_entry}
use Rattle.std.specs.Map.{lookup, set_value}
use Rattle.std.specs.Option.{option_map}
use Rattle.irl_base.proofs.TextMaps.{value_at, value_at-insert, vec_cmp}
use Rattle.irl_polite.proofs.Lists.{cases_text, same_some}
use Rattle.irl_crawl.specs.declared.hosts.Named.{Named}
use Rattle.std.proofs.Common.{inl, inr}

abbrev number_in : Option Named → Option ℕ
number_in named = option_map (λ (n : Named). n.number) named

-- ---- named again
same_first : (b : Bool) (old new : Named) (rest : Option Named) → new.number ≡ old.number → number_in (cond b (Some new) rest) ≡ number_in (cond b (Some old) rest)
same_first true old new rest same = ap (λ (n : ℕ). Some n) same
same_first false old new rest same = refl

same_rest : (b : Bool) (first : Named) (old new : Option Named) → number_in new ≡ number_in old → number_in (cond b (Some first) new) ≡ number_in (cond b (Some first) old)
same_rest true first old new same = refl
same_rest false first old new same = same

module _ {K : Type 0} (test other : K → Bool) (old new : Named) (number : new.number ≡ old.number) where
  pub written : (entries : List (K × Named)) → lookup test entries ≡ Some old → number_in (lookup other (set_value test entries new)) ≡ number_in (lookup other entries)
  written [] found = refl
  written (e ∷ es) found = by (test e.0) found (λ there. written es there)
    where
      by : (b : Bool) → cond b (Some e.1) (lookup test es) ≡ Some old → (lookup test es ≡ Some old → number_in (lookup other (set_value test es new)) ≡ number_in (lookup other es))
          → number_in (lookup other (cond b ((e.0, new) ∷ es) (e ∷ set_value test es new))) ≡ number_in (lookup other (e ∷ es))
      by true is later = same_first (other e.0) e.1 new (lookup other es) (number ∙ ap (λ (n : Named). n.number) (sym (same_some e.1 old is)))
      by false is later = same_rest (other e.0) e.1 (lookup other es) (lookup other (set_value test es new)) (later is)

-- ---- for the first time
pub entered : {A : Type 0} (old new : List (Vec ℕ A × Named)) (key : Vec ℕ A) (host : List ℕ) (named : Named) (name : List ℕ) (n : ℕ) → key.items ≡ host → new ≡ insert_entry vec_cmp old key named
    → value_at old host ≡ None
    → number_in (value_at old name) ≡ Some n → number_in (value_at new name) ≡ Some n
entered old new key host named name n is entries none was = elim (cases_text name key.items) [
  | inl (e, same) ↦ absurd (no_number (value_at old name) (ap (value_at old) (same ∙ is) ∙ none) was)
  | inr (e, other) ↦ ap number_in (value_at-insert name key named old new entries ∙ ap (λ (b : Bool). cond b (Some named) (value_at old name)) e) ∙ was
]
  where
    no_number : (o : Option Named) → o ≡ None → number_in o ≡ Some n → ⊥
    no_number None e f = cc
    no_number (Some x) e f = cc
