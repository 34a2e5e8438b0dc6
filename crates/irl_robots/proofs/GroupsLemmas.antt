-- The rules that one pass over the lines gathers are those of the groups.
use Rattle.std.proofs.Common.{◌≡◌, ℕ, ◌+◌, Bool, true, false, cond, ◌&&◌, ◌||◌, List, [], ◌∷◌, ◌++◌, refl, sym, ap, ◌∙◌, inl, inr}
use Rattle.std.specs.List.{list_any, filter, flat_map}
use Rattle.std.proofs.lemmas.List.{append_assoc}
use Rattle.std.proofs.lemmas.Bool.{cases_Bool}
use Rattle.std.proofs.Math.Bool.{or-false, or_assoc, or_comm}
use Rattle.irl_robots.specs.declared.rule.PathRule.{PathRule}
use Rattle.irl_robots.specs.Lines.{Line, Agent, Access, Other}
use Rattle.irl_robots.specs.Groups.{RuleLine, Group, opened, outline_of, is_for, rule_of, rules_of}

-- ---- whether a group is for an agent

-- some user-agent line passes
abbrev pub any_agent : (List ℕ → Bool) → List Line → Bool
any_agent passes [] = false
any_agent passes (Agent value ∷ rest) = passes value || any_agent passes rest
any_agent passes (Access allow value ∷ rest) = any_agent passes rest
any_agent passes (Other ∷ rest) = any_agent passes rest

any-opened : (passes : List ℕ → Bool) (agent : List ℕ) (before : List RuleLine) (groups : List Group)
    → list_any (is_for passes) (opened agent before groups) ≡ (passes agent || list_any (is_for passes) groups)
any-opened passes agent (entry ∷ before) groups = ap (λ b. b || list_any (is_for passes) groups) (or-false (passes agent))
any-opened passes agent [] [] = ap (λ b. b || false) (or-false (passes agent))
any-opened passes agent [] (group ∷ groups) = or_assoc (passes agent) (is_for passes group) (list_any (is_for passes) groups)

pub any-outline : (passes : List ℕ → Bool) (n : ℕ) (ls : List Line) → list_any (is_for passes) (outline_of n ls).groups ≡ any_agent passes ls
unfolding outline_of
any-outline passes n [] = refl
any-outline passes n (Agent value ∷ rest) =
    any-opened passes value (outline_of (n + 1) rest).before (outline_of (n + 1) rest).groups
    ∙ ap (λ b. passes value || b) (any-outline passes (n + 1) rest)
any-outline passes n (Access allow value ∷ rest) = any-outline passes (n + 1) rest
any-outline passes n (Other ∷ rest) = any-outline passes (n + 1) rest

-- ---- the rules of the groups

-- what the pass gathers from the lines that are left, the first with this number: whether the line before them was
-- a user-agent line, and whether the group so far is meant
abbrev pub gathered : (List ℕ → Bool) → ℕ → Bool → Bool → List Line → List PathRule
gathered passes n opening meant [] = []
gathered passes n opening meant (Agent value ∷ rest) = gathered passes (n + 1) true (passes value || (opening && meant)) rest
gathered passes n opening meant (Access allow value ∷ rest) =
    cond meant (rule_of (record { line = n; allow = allow; value = value })) [] ++ gathered passes (n + 1) false meant rest
gathered passes n opening meant (Other ∷ rest) = gathered passes (n + 1) opening meant rest

abbrev chosen : (List ℕ → Bool) → List Group → List PathRule
chosen passes groups = flat_map rules_of (filter (is_for passes) groups)

-- within a group that has rules already
abbrev within : (List ℕ → Bool) → Bool → List RuleLine → List Group → List PathRule
within passes meant before groups = cond meant (flat_map rule_of before) [] ++ chosen passes groups

-- while a group is being opened, of which user-agent lines came
abbrev joined : (List ℕ → Bool) → Bool → List RuleLine → List Group → List PathRule
joined passes meant (entry ∷ before) groups = within passes meant (entry ∷ before) groups
joined passes meant [] [] = []
joined passes meant [] (group ∷ groups) = cond (meant || is_for passes group) (rules_of group) [] ++ chosen passes groups

cond-nil : (b : Bool) → cond {A = List PathRule} b [] [] ++ [] ≡ []
cond-nil true = refl
cond-nil false = refl

chosen-cons : (passes : List ℕ → Bool) (group : Group) (groups : List Group) → chosen passes (group ∷ groups) ≡ cond (is_for passes group) (rules_of group) [] ++ chosen passes groups
chosen-cons passes group groups = elim (cases_Bool (is_for passes group)) [
  | inl meant ↦ rw meant refl
  | inr other ↦ rw other refl
]

chosen-opened : (passes : List ℕ → Bool) (agent : List ℕ) (before : List RuleLine) (groups : List Group) → chosen passes (opened agent before groups) ≡ joined passes (passes agent) before groups
chosen-opened passes agent (entry ∷ before) groups =
    chosen-cons passes (record { agents = agent ∷ []; entries = entry ∷ before }) groups
    ∙ ap (λ b. cond b (flat_map rule_of (entry ∷ before)) [] ++ chosen passes groups) (or-false (passes agent))
chosen-opened passes agent [] [] =
    chosen-cons passes (record { agents = agent ∷ []; entries = [] }) [] ∙ cond-nil (passes agent || false)
chosen-opened passes agent [] (group ∷ groups) =
    chosen-cons passes (record { agents = agent ∷ group.agents; entries = group.entries }) groups

joined-opened : (passes : List ℕ → Bool) (meant : Bool) (agent : List ℕ) (before : List RuleLine) (groups : List Group)
    → joined passes meant [] (opened agent before groups) ≡ joined passes (passes agent || meant) before groups
joined-opened passes meant agent (entry ∷ before) groups =
    ap (λ b. cond b (flat_map rule_of (entry ∷ before)) [] ++ chosen passes groups) (ap (λ b. meant || b) (or-false (passes agent)) ∙ or_comm meant (passes agent))
joined-opened passes meant agent [] [] = cond-nil (meant || (passes agent || false))
joined-opened passes meant agent [] (group ∷ groups) =
    ap (λ b. cond b (rules_of group) [] ++ chosen passes groups)
    (sym (or_assoc meant (passes agent) (is_for passes group)) ∙ ap (λ b. b || is_for passes group) (or_comm meant (passes agent)))

cond-same : (b : Bool) → cond {A = List PathRule} b [] [] ≡ []
cond-same true = refl
cond-same false = refl

joins : (b : Bool) (xs ys zs : List PathRule) → cond b xs [] ++ (cond b ys [] ++ zs) ≡ cond b (xs ++ ys) [] ++ zs
joins true xs ys zs = sym (append_assoc xs ys zs)
joins false xs ys zs = refl

record IsGathered (passes : List ℕ → Bool) (n : ℕ) (ls : List Line) : Type 0 where
  inside : (meant : Bool) → gathered passes n false meant ls ≡ within passes meant (outline_of n ls).before (outline_of n ls).groups
  opening : (meant : Bool) → gathered passes n true meant ls ≡ joined passes meant (outline_of n ls).before (outline_of n ls).groups

gathered-cons : (passes : List ℕ → Bool) (n : ℕ) (ls : List Line) → IsGathered passes n ls
unfolding outline_of
gathered-cons passes n [] = record { inside = λ meant. sym (cond-nil meant); opening = λ meant. refl }
gathered-cons passes n (Agent value ∷ rest) =
    let later = gathered-cons passes (n + 1) rest in
    let outline = outline_of (n + 1) rest in
    record {
      inside = λ meant.
          later.opening (passes value || false)
          ∙ ap (λ b. joined passes b outline.before outline.groups) (or-false (passes value))
          ∙ sym (chosen-opened passes value outline.before outline.groups)
          ∙ ap (λ none. none ++ chosen passes (opened value outline.before outline.groups)) (sym (cond-same meant));
      opening = λ meant. later.opening (passes value || meant) ∙ sym (joined-opened passes meant value outline.before outline.groups);
    }
gathered-cons passes n (Access allow value ∷ rest) =
    let later = gathered-cons passes (n + 1) rest in
    let outline = outline_of (n + 1) rest in
    let entry : RuleLine = record { line = n; allow = allow; value = value } in
    let here = λ (meant : Bool).
    ap (λ rs. cond meant (rule_of entry) [] ++ rs) (later.inside meant) ∙ joins meant (rule_of entry) (flat_map rule_of outline.before) (chosen passes outline.groups)
    in
    record { inside = here; opening = here }
gathered-cons passes n (Other ∷ rest) =
    let later = gathered-cons passes (n + 1) rest in record { inside = later.inside; opening = later.opening }

pub gathered-outline : (passes : List ℕ → Bool) (ls : List Line) → gathered passes 1 false false ls ≡ flat_map rules_of (filter (is_for passes) (outline_of 1 ls).groups)
gathered-outline passes ls = (gathered-cons passes 1 ls).inside false
