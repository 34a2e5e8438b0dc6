-- What holds over each list of calls.
use Rattle.std.proofs.Common.{◌≡◌, ◌∙◌, ℕ, zero, suc, ◌+◌, ◌<◌, ◌≤◌, true, false, cond, List, [], ◌∷◌, ◌++◌, length, refl, sym, ap, subst, inl, inr, ◌⊎◌, arith}
use Rattle.std.specs.Prelude.{max, min, slice_index_or}
use Rattle.std.specs.List.{All, Any, AllPairs, fold, flat_map}
use Rattle.std.specs.List.Sorted.{IsPermutation}
use Rattle.std.proofs.lemmas.List.{append-nil, append_assoc}
use Rattle.std.proofs.lemmas.List.Elements.{All-nil, All-cons, All-append}
use Rattle.std.proofs.lemmas.List.Kept.{AllPairs-cons}
use Rattle.std.proofs.lemmas.List.Sorted.{IsPermutation-refl, IsPermutation-trans, IsPermutation-middle, IsPermutation-append_left, IsPermutation-append_right}
use Rattle.irl_offer.specs.Notes.{IsInUse}
use Rattle.irl_key.specs.declared.web.Work.{Work}
use Rattle.irl_robots.specs.declared.host.Leave.{Leave}
use Rattle.irl_robots.specs.declared.host.Leave.TheVariants as leave
use Rattle.irl_polite.specs.declared.job.Job.{Job}
use Rattle.irl_polite.specs.declared.job.Job.TheVariants.{Page, Denied, ShutOut, Robots, WaitTill, Idle}
use Rattle.irl_polite.specs.Schedule.{Schedule, host, changed, raised, loaded, fetched, refused, asked, handed_in, empty_of, last_moment}
use Rattle.irl_polite.specs.Answers.{IsNext, IsAnswered}
use Rattle.irl_polite.specs.History.{Step, Load, Take, RobotsDone, Steps, Runs, Start, loaded_by, answered_by, started_by, starts, moment_after, AreApart, heard_by, moment_of, Rests, RestsOn}
use Rattle.irl_polite.proofs.Lists.{cases_text, changed_same, changed_other}

-- one call more
pub runs_on : (first : Schedule) (steps : List Step) (between : Schedule) (step : Step) (end : Schedule) → Runs first steps between → Steps between step end → Runs first (steps ++ step ∷ []) end
runs_on first [] between step end runs made = (end, subst (λ (s : Schedule). Steps s step end) (sym runs) made, refl)
runs_on first (x ∷ steps) between step end runs made = (runs.0, runs.1, runs_on runs.0 steps between step end runs.2 made)

pub runs_split : (first : Schedule) (xs ys : List Step) (end : Schedule) → Runs first (xs ++ ys) end → (between : Schedule) × Runs first xs between × Runs between ys end
runs_split first [] ys end runs = (first, refl, runs)
runs_split first (x ∷ xs) ys end runs =
    let rest = runs_split runs.0 xs ys end runs.2 in
    (rest.0, (runs.0, runs.1, rest.1), rest.2)

-- Items: what a call loads and what was left are what it answers and what is left then.
answer_moves : (a : Schedule) (work : Work) (rest : List Work) (mid : Schedule) → IsNext a work rest → mid.items ≡ rest → IsPermutation (a.items ++ []) (work ∷ mid.items)
answer_moves a work rest mid next is =
    let e : a.items ++ [] ≡ next.before ++ work ∷ next.behind = append-nil a.items ∙ next.stands in
    let f : mid.items ≡ next.before ++ next.behind = is ∙ next.others in
    subst (λ xs. IsPermutation xs (work ∷ mid.items)) (sym e)
    (subst (λ ys. IsPermutation (next.before ++ work ∷ next.behind) (work ∷ ys)) (sym f) (IsPermutation-middle next.before work next.behind))

stays_there : (xs ys : List Work) → ys ≡ xs → IsPermutation (xs ++ []) ys
stays_there xs ys is = subst (IsPermutation (xs ++ [])) (append-nil xs ∙ sym is) (IsPermutation-refl (xs ++ []))

step_items : (a : Schedule) (step : Step) (mid : Schedule) → Steps a step mid → IsPermutation (a.items ++ loaded_by step) (answered_by step ++ mid.items)
step_items a (Load items notes) mid made =
    let e : a.items ++ items ≡ mid.items = ap (λ xs. xs ++ items) made.0 ∙ sym (ap (λ (s : Schedule). s.items) made.1) in
    subst (IsPermutation (a.items ++ items)) e (IsPermutation-refl (a.items ++ items))
step_items a (RobotsDone name state when) mid made = stays_there a.items mid.items (ap (λ (s : Schedule). s.items) made.1)
step_items a (Take now (Page work)) mid made = answer_moves (raised a now) work made.0 mid made.1.next (ap (λ (s : Schedule). s.items) made.2)
step_items a (Take now (Denied work line)) mid made = answer_moves (raised a now) work made.0 mid made.1.next (ap (λ (s : Schedule). s.items) made.2)
step_items a (Take now (ShutOut work)) mid made = answer_moves (raised a now) work made.0 mid made.1.next (ap (λ (s : Schedule). s.items) made.2)
step_items a (Take now (Robots name)) mid made = stays_there a.items mid.items (ap (λ (s : Schedule). s.items) made.1)
step_items a (Take now (WaitTill till)) mid made = stays_there a.items mid.items (ap (λ (s : Schedule). s.items) made.2)
step_items a (Take now Idle) mid made = stays_there a.items mid.items (ap (λ (s : Schedule). s.items) made.1)

pub once : (a : Schedule) (steps : List Step) (b : Schedule) → Runs a steps b → IsPermutation (a.items ++ flat_map loaded_by steps) (flat_map answered_by steps ++ b.items)
once a [] b runs = stays_there a.items b.items (sym (ap (λ (s : Schedule). s.items) runs))
once a (step ∷ steps) b runs =
    let mid : Schedule = runs.0 in
    let more = flat_map loaded_by steps in
    let answered = flat_map answered_by steps in
    let one : IsPermutation ((a.items ++ loaded_by step) ++ more) ((answered_by step ++ mid.items) ++ more) =
    IsPermutation-append_left more (a.items ++ loaded_by step) (answered_by step ++ mid.items) (step_items a step mid runs.1) in
    let two : IsPermutation (answered_by step ++ (mid.items ++ more)) (answered_by step ++ (answered ++ b.items)) =
    IsPermutation-append_right (answered_by step) (mid.items ++ more) (answered ++ b.items) (once mid steps b runs.2) in
    let three : IsPermutation ((a.items ++ loaded_by step) ++ more) (answered_by step ++ (answered ++ b.items)) =
    IsPermutation-trans ((a.items ++ loaded_by step) ++ more) ((answered_by step ++ mid.items) ++ more) (answered_by step ++ (answered ++ b.items)) one
    (subst (λ xs. IsPermutation xs (answered_by step ++ (answered ++ b.items))) (sym (append_assoc (answered_by step) mid.items more)) two) in
    subst (λ xs. IsPermutation xs ((answered_by step ++ answered) ++ b.items)) (append_assoc a.items (loaded_by step) more)
    (subst (IsPermutation ((a.items ++ loaded_by step) ++ more)) (sym (append_assoc (answered_by step) answered b.items)) three)

-- Starts: a call starts no fetch and leaves the dues, or one of a host that is due, which is due later then.
data StepStarts (a : Schedule) (step : Step) (mid : Schedule) : Type 0 where
  quiet : started_by a.moment step ≡ [] → ((q : List ℕ) → mid.due q ≡ a.due q) → StepStarts a step mid
  begins : (start : Start) → started_by a.moment step ≡ start ∷ [] → start.moment ≡ mid.moment → a.due start.host ≤ start.moment
      → ((q : List ℕ) → mid.due q ≡ changed a.due start.host (min (start.moment + a.delay) last_moment) q) → StepStarts a step mid

due_same : (s t : Schedule) → s ≡ t → (q : List ℕ) → s.due q ≡ t.due q
due_same s t e q = ap (λ (x : Schedule). x.due q) e

step_starts : (a : Schedule) (step : Step) (mid : Schedule) → Steps a step mid → StepStarts a step mid
step_starts a (Load items notes) mid made = quiet refl (due_same mid (loaded a items notes) made.1)
step_starts a (RobotsDone name state when) mid made = quiet refl (due_same mid (handed_in a name state when) made.1)
step_starts a (Take now (Page work)) mid made =
    begins (record { host = host work; moment = max a.moment now }) refl (sym (ap (λ (s : Schedule). s.moment) made.2)) made.1.due (due_same mid (fetched (raised a now) (host work) made.0) made.2)
step_starts a (Take now (Denied work line)) mid made = quiet refl (due_same mid (refused (raised a now) made.0) made.2)
step_starts a (Take now (ShutOut work)) mid made = quiet refl (due_same mid (refused (raised a now) made.0) made.2)
step_starts a (Take now (Robots name)) mid made =
    let x = made.0 in
    begins (record { host = name; moment = max a.moment now }) refl (sym (ap (λ (s : Schedule). s.moment) made.1))
    (subst (λ n. a.due n ≤ max a.moment now) (sym x.named) x.due) (due_same mid (asked (raised a now) name) made.1)
step_starts a (Take now (WaitTill till)) mid made = quiet refl (due_same mid (raised a now) made.2)
step_starts a (Take now Idle) mid made = quiet refl (due_same mid (raised a now) made.1)

step_moment : (a : Schedule) (step : Step) (mid : Schedule) → Steps a step mid → mid.moment ≡ moment_after a.moment step
step_moment a (Load items notes) mid made = ap (λ (s : Schedule). s.moment) made.1
step_moment a (RobotsDone name state when) mid made = ap (λ (s : Schedule). s.moment) made.1
step_moment a (Take now (Page work)) mid made = ap (λ (s : Schedule). s.moment) made.2
step_moment a (Take now (Denied work line)) mid made = ap (λ (s : Schedule). s.moment) made.2
step_moment a (Take now (ShutOut work)) mid made = ap (λ (s : Schedule). s.moment) made.2
step_moment a (Take now (Robots name)) mid made = ap (λ (s : Schedule). s.moment) made.1
step_moment a (Take now (WaitTill till)) mid made = ap (λ (s : Schedule). s.moment) made.2
step_moment a (Take now Idle) mid made = ap (λ (s : Schedule). s.moment) made.1

step_delay : (a : Schedule) (step : Step) (mid : Schedule) → Steps a step mid → mid.delay ≡ a.delay
step_delay a (Load items notes) mid made = ap (λ (s : Schedule). s.delay) made.1
step_delay a (RobotsDone name state when) mid made = ap (λ (s : Schedule). s.delay) made.1
step_delay a (Take now (Page work)) mid made = ap (λ (s : Schedule). s.delay) made.2
step_delay a (Take now (Denied work line)) mid made = ap (λ (s : Schedule). s.delay) made.2
step_delay a (Take now (ShutOut work)) mid made = ap (λ (s : Schedule). s.delay) made.2
step_delay a (Take now (Robots name)) mid made = ap (λ (s : Schedule). s.delay) made.1
step_delay a (Take now (WaitTill till)) mid made = ap (λ (s : Schedule). s.delay) made.2
step_delay a (Take now Idle) mid made = ap (λ (s : Schedule). s.delay) made.1

starts_cons : (moment : ℕ) (step : Step) (steps : List Step) → starts moment (step ∷ steps) ≡ started_by moment step ++ starts (moment_after moment step) steps
unfolding starts
starts_cons moment step steps = refl

starts_none : (moment : ℕ) → starts moment [] ≡ []
unfolding starts
starts_none moment = refl

Past : ℕ → Start → Type 0
Past moment start = moment ≤ start.moment

started_past : (moment : ℕ) (step : Step) → All (Past moment) (started_by moment step)
unfolding Past
started_past moment (Load items notes) = All-nil (λ (s : Start). moment ≤ s.moment)
started_past moment (RobotsDone name state when) = All-nil (λ (s : Start). moment ≤ s.moment)
started_past moment (Take now (Page work)) = All-cons (λ (s : Start). moment ≤ s.moment) (record { host = host work; moment = max moment now }) [] (omega arith)
    (All-nil (λ (s : Start). moment ≤ s.moment))
started_past moment (Take now (Denied work line)) = All-nil (λ (s : Start). moment ≤ s.moment)
started_past moment (Take now (ShutOut work)) = All-nil (λ (s : Start). moment ≤ s.moment)
started_past moment (Take now (Robots name)) = All-cons (λ (s : Start). moment ≤ s.moment) (record { host = name; moment = max moment now }) [] (omega arith)
    (All-nil (λ (s : Start). moment ≤ s.moment))
started_past moment (Take now (WaitTill till)) = All-nil (λ (s : Start). moment ≤ s.moment)
started_past moment (Take now Idle) = All-nil (λ (s : Start). moment ≤ s.moment)

after_past : (moment : ℕ) (step : Step) → moment ≤ moment_after moment step
after_past moment (Load items notes) = omega arith
after_past moment (Take now job) = omega arith
after_past moment (RobotsDone name state when) = omega arith

weaker : (P Q : Start → Type 0) → ((s : Start) → P s → Q s) → (xs : List Start) → All P xs → All Q xs
weaker P Q f xs p k d h = f _ (p k d h)

both : (P Q R : Start → Type 0) → ((s : Start) → P s → Q s → R s) → (xs : List Start) → All P xs → All Q xs → All R xs
both P Q R f xs p q k d h = f _ (p k d h) (q k d h)

all_past : (moment : ℕ) (steps : List Step) → All (Past moment) (starts moment steps)
unfolding Past
all_past moment [] = subst (All (λ (s : Start). moment ≤ s.moment)) (sym (starts_none moment)) (All-nil (λ (s : Start). moment ≤ s.moment))
all_past moment (step ∷ steps) =
    let P : Start → Type 0 = λ (s : Start). moment ≤ s.moment in
    let le : moment ≤ moment_after moment step = after_past moment step in
    subst (All P) (sym (starts_cons moment step steps))
    (All-append P (started_by moment step) (starts (moment_after moment step) steps) (started_past moment step)
    (weaker (λ (s : Start). moment_after moment step ≤ s.moment) P (λ s h. omega arith) (starts (moment_after moment step) steps) (all_past (moment_after moment step) steps)))

Due : Schedule → Start → Type 0
Due a start = a.due start.host ≤ start.moment

-- the starts of the other calls, from where this one leaves the moment
rest_starts : (a : Schedule) (step : Step) (steps : List Step) (mid : Schedule) → Steps a step mid → starts a.moment (step ∷ steps) ≡ started_by a.moment step ++ starts mid.moment steps
rest_starts a step steps mid made = starts_cons a.moment step steps ∙ ap (λ m. started_by a.moment step ++ starts m steps) (sym (step_moment a step mid made))

all_due : (a : Schedule) (steps : List Step) (b : Schedule) → Runs a steps b → All (Due a) (starts a.moment steps)
unfolding Due Past
all_due a [] b runs = subst (All (λ (s : Start). a.due s.host ≤ s.moment)) (sym (starts_none a.moment)) (All-nil (λ (s : Start). a.due s.host ≤ s.moment))
all_due a (step ∷ steps) b runs =
    let mid : Schedule = runs.0 in
    let D : Start → Type 0 = λ (s : Start). a.due s.host ≤ s.moment in
    let later : All (λ (s : Start). mid.due s.host ≤ s.moment) (starts mid.moment steps) = all_due mid steps b runs.2 in
    let past : All (λ (s : Start). mid.moment ≤ s.moment) (starts mid.moment steps) = all_past mid.moment steps in
    elim (step_starts a step mid runs.1) [
      | quiet none same ↦
          subst (All D) (sym (rest_starts a step steps mid runs.1 ∙ ap (λ xs. xs ++ starts mid.moment steps) none))
          (weaker (λ (s : Start). mid.due s.host ≤ s.moment) D (λ s h. subst (λ n. n ≤ s.moment) (same s.host) h) (starts mid.moment steps) later)
      | begins start one at due dues ↦
          subst (All D) (sym (rest_starts a step steps mid runs.1 ∙ ap (λ xs. xs ++ starts mid.moment steps) one))
          (All-cons D start (starts mid.moment steps) due
          (both (λ (s : Start). mid.due s.host ≤ s.moment) (λ (s : Start). mid.moment ≤ s.moment) D
          (λ s h m. elim (cases_text s.host start.host) [
            | inl (t, same) ↦ let e : a.due s.host ≡ a.due start.host = ap a.due same in omega arith
            | inr (t, other) ↦ let e : mid.due s.host ≡ a.due s.host = dues s.host ∙ changed_other a.due start.host (min (start.moment + a.delay) last_moment) s.host other in omega arith
          ]) (starts mid.moment steps) later past))
    ]

pub apart : (a : Schedule) (steps : List Step) (b : Schedule) → Runs a steps b → AllPairs (AreApart a.delay) (starts a.moment steps)
unfolding Due
apart a [] b runs = subst (AllPairs (AreApart a.delay)) (sym (starts_none a.moment)) (λ i j d lt within. absurd (omega arith))
apart a (step ∷ steps) b runs =
    let mid : Schedule = runs.0 in
    let R : Start → Start → Type 0 = AreApart a.delay in
    let rest : AllPairs R (starts mid.moment steps) = subst (λ n. AllPairs (AreApart n) (starts mid.moment steps)) (step_delay a step mid runs.1) (apart mid steps b runs.2) in
    let later : All (λ (s : Start). mid.due s.host ≤ s.moment) (starts mid.moment steps) = all_due mid steps b runs.2 in
    elim (step_starts a step mid runs.1) [
      | quiet none same ↦ subst (AllPairs R) (sym (rest_starts a step steps mid runs.1 ∙ ap (λ xs. xs ++ starts mid.moment steps) none)) rest
      | begins start one at due dues ↦
          subst (AllPairs R) (sym (rest_starts a step steps mid runs.1 ∙ ap (λ xs. xs ++ starts mid.moment steps) one))
          (AllPairs-cons R start (starts mid.moment steps)
          (weaker (λ (s : Start). mid.due s.host ≤ s.moment) (R start)
          (λ s h same.
          let e : mid.due s.host ≡ min (start.moment + a.delay) last_moment =
          ap mid.due (sym same) ∙ dues start.host ∙ changed_same a.due start.host (min (start.moment + a.delay) last_moment) in
          subst (λ n. n ≤ s.moment) e h) (starts mid.moment steps) later) rest)
    ]

-- Awaited hosts have items left.
any_split : {X : Type 0} (P : X → Type 0) (x : X) (xs : List X) (k : ℕ) (y : X) → k < length (x ∷ xs) → slice_index_or (x ∷ xs) k y ≡ y → P y → P x ⊎ Any P xs
any_split P x xs zero y lt e p = inl (subst P (sym e) p)
any_split P x xs (suc k) y lt e p = inr (k, y, omega arith, e, p)

any_there : {X : Type 0} (P : X → Type 0) (x : X) (xs : List X) → Any P xs → Any P (x ∷ xs)
any_there P x xs any = let lt : any.0 < length xs = any.2 in (suc any.0, any.1, omega arith, any.3, any.4)

any_here : {X : Type 0} (P : X → Type 0) (x : X) (xs : List X) → P x → Any P (x ∷ xs)
any_here P x xs p = (0, x, omega arith, refl, p)

any_middle : {X : Type 0} (P : X → Type 0) (xs : List X) (x : X) (ys : List X) → P x → Any P (xs ++ x ∷ ys)
any_middle P [] x ys p = any_here P x ys p
any_middle P (z ∷ xs) x ys p = any_there P z (xs ++ x ∷ ys) (any_middle P xs x ys p)

any_without : {X : Type 0} (P : X → Type 0) (xs : List X) (x : X) (ys : List X) → (P x → ⊥) → Any P (xs ++ x ∷ ys) → Any P (xs ++ ys)
any_without P [] x ys never any = elim (any_split P x ys any.0 any.1 any.2 any.3 any.4) [
  | inl p ↦ absurd (never p)
  | inr rest ↦ rest
]
any_without P (z ∷ xs) x ys never any = elim (any_split P z (xs ++ x ∷ ys) any.0 any.1 any.2 any.3 any.4) [
  | inl p ↦ any_here P z (xs ++ ys) p
  | inr rest ↦ any_there P z (xs ++ ys) (any_without P xs x ys never rest)
]

Held : Schedule → Type 0
Held s = (name : List ℕ) → s.awaited name ≡ true → Any (λ (w : Work). host w ≡ name) s.items

held_answered : (a : Schedule) (work : Work) (rest : List Work) → IsNext a work rest → Held a → (name : List ℕ) → a.awaited name ≡ true → Any (λ (w : Work). host w ≡ name) rest
unfolding Held
held_answered a work rest next held name asked =
    let P : Work → Type 0 = λ (w : Work). host w ≡ name in
    let never : host work ≡ name → ⊥ = λ e. let f : true ≡ false = sym asked ∙ ap a.awaited (sym e) ∙ next.ready in absurd cc in
    subst (Any P) (sym next.others) (any_without P next.before work next.behind never (subst (Any P) next.stands (held name asked)))

step_held : (a : Schedule) (step : Step) (mid : Schedule) → Steps a step mid → Held a → Held mid
unfolding Held
step_held a (Load items notes) mid made held = λ name asked.
    let before : a.awaited name ≡ true = sym (ap (λ (s : Schedule). s.awaited name) made.1) ∙ asked in
    let any = held name before in
    let lt : any.0 < length a.items = any.2 in
    let none : length a.items ≡ 0 = ap length made.0 in
    absurd (omega arith)
step_held a (RobotsDone n state when) mid made held = λ name asked.
    let now : changed a.awaited n false name ≡ true = sym (ap (λ (s : Schedule). s.awaited name) made.1) ∙ asked in
    elim (cases_text name n) [
      | inl (t, same) ↦ let e : false ≡ true = sym (ap (λ b. cond b false (a.awaited name)) t) ∙ now in absurd cc
      | inr (t, other) ↦
          subst (Any (λ (w : Work). host w ≡ name)) (sym (ap (λ (s : Schedule). s.items) made.1))
          (held name (sym (changed_other a.awaited n false name other) ∙ now))
    ]
step_held a (Take now (Page work)) mid made held = λ name asked.
    subst (Any (λ (w : Work). host w ≡ name)) (sym (ap (λ (s : Schedule). s.items) made.2))
    (held_answered (raised a now) work made.0 made.1.next held name (sym (ap (λ (s : Schedule). s.awaited name) made.2) ∙ asked))
step_held a (Take now (Denied work line)) mid made held = λ name asked.
    subst (Any (λ (w : Work). host w ≡ name)) (sym (ap (λ (s : Schedule). s.items) made.2))
    (held_answered (raised a now) work made.0 made.1.next held name (sym (ap (λ (s : Schedule). s.awaited name) made.2) ∙ asked))
step_held a (Take now (ShutOut work)) mid made held = λ name asked.
    subst (Any (λ (w : Work). host w ≡ name)) (sym (ap (λ (s : Schedule). s.items) made.2))
    (held_answered (raised a now) work made.0 made.1.next held name (sym (ap (λ (s : Schedule). s.awaited name) made.2) ∙ asked))
step_held a (Take now (Robots n)) mid made held = λ name asked.
    let x = made.0 in
    let after : changed a.awaited n true name ≡ true = sym (ap (λ (s : Schedule). s.awaited name) made.1) ∙ asked in
    let P : Work → Type 0 = λ (w : Work). host w ≡ name in
    subst (Any P) (sym (ap (λ (s : Schedule). s.items) made.1))
    (elim (cases_text name n) [
      | inl (t, same) ↦ subst (Any P) (sym x.next.stands) (any_middle P x.next.before x.work x.next.behind (sym x.named ∙ sym same))
      | inr (t, other) ↦ held name (sym (changed_other a.awaited n true name other) ∙ after)
    ])
step_held a (Take now (WaitTill till)) mid made held = λ name asked.
    subst (Any (λ (w : Work). host w ≡ name)) (sym (ap (λ (s : Schedule). s.items) made.2)) (held name (sym (ap (λ (s : Schedule). s.awaited name) made.2) ∙ asked))
step_held a (Take now Idle) mid made held = λ name asked.
    subst (Any (λ (w : Work). host w ≡ name)) (sym (ap (λ (s : Schedule). s.items) made.1)) (held name (sym (ap (λ (s : Schedule). s.awaited name) made.1) ∙ asked))

runs_held : (a : Schedule) (steps : List Step) (b : Schedule) → Runs a steps b → Held a → Held b
runs_held a [] b runs held = subst Held runs held
runs_held a (step ∷ steps) b runs held = runs_held runs.0 steps b runs.2 (step_held a step runs.0 runs.1 held)

pub all_held : (delay : ℕ) (agent : List ℕ) (steps : List Step) (b : Schedule) → Runs (empty_of delay agent) steps b → (name : List ℕ) → b.awaited name ≡ true
    → Any (λ (w : Work). host w ≡ name) b.items
unfolding Held
all_held delay agent steps b runs = runs_held (empty_of delay agent) steps b runs (λ name asked. let e : false ≡ true = asked in absurd cc)

-- What is known is what was last handed in.
pub record Follows (a : Schedule) (steps : List Step) (b : Schedule) : Type 0 where
  pub agent : b.agent ≡ a.agent
  pub moment : b.moment ≡ fold moment_after a.moment steps
  pub known : b.known ≡ fold (heard_by a.agent) a.known steps

step_agent : (a : Schedule) (step : Step) (mid : Schedule) → Steps a step mid → (mid.agent ≡ a.agent) × (mid.known ≡ heard_by a.agent a.known step)
step_agent a (Load items notes) mid made = (ap (λ (s : Schedule). s.agent) made.1, ap (λ (s : Schedule). s.known) made.1)
step_agent a (RobotsDone name state when) mid made = (ap (λ (s : Schedule). s.agent) made.1, ap (λ (s : Schedule). s.known) made.1)
step_agent a (Take now (Page work)) mid made = (ap (λ (s : Schedule). s.agent) made.2, ap (λ (s : Schedule). s.known) made.2)
step_agent a (Take now (Denied work line)) mid made = (ap (λ (s : Schedule). s.agent) made.2, ap (λ (s : Schedule). s.known) made.2)
step_agent a (Take now (ShutOut work)) mid made = (ap (λ (s : Schedule). s.agent) made.2, ap (λ (s : Schedule). s.known) made.2)
step_agent a (Take now (Robots name)) mid made = (ap (λ (s : Schedule). s.agent) made.1, ap (λ (s : Schedule). s.known) made.1)
step_agent a (Take now (WaitTill till)) mid made = (ap (λ (s : Schedule). s.agent) made.2, ap (λ (s : Schedule). s.known) made.2)
step_agent a (Take now Idle) mid made = (ap (λ (s : Schedule). s.agent) made.1, ap (λ (s : Schedule). s.known) made.1)

pub follows : (a : Schedule) (steps : List Step) (b : Schedule) → Runs a steps b → Follows a steps b
follows a [] b runs = record {
  agent = sym (ap (λ (s : Schedule). s.agent) runs);
  moment = sym (ap (λ (s : Schedule). s.moment) runs);
  known = sym (ap (λ (s : Schedule). s.known) runs);
}
follows a (step ∷ steps) b runs =
    let mid : Schedule = runs.0 in
    let more = follows mid steps b runs.2 in
    let one = step_agent a step mid runs.1 in
    record {
      agent = more.agent ∙ one.0;
      moment = more.moment ∙ ap (λ m. fold moment_after m steps) (step_moment a step mid runs.1);
      known = more.known ∙ (λ i. fold (heard_by (one.0 i)) (one.1 i) steps);
    }

rests_on : (delay : ℕ) (agent : List ℕ) (steps : List Step) (mid : Schedule) (now : ℕ) (work : Work) (says : Leave) (rest : List Work) → Follows (empty_of delay agent) steps mid
    → IsAnswered (raised mid now) work says rest → RestsOn agent steps (max (moment_of steps) now) work says
rests_on delay agent steps mid now work says rest f x = record {
  known = x.known;
  last = ap (λ k. k (host work)) (sym f.known) ∙ x.note.last;
  in_use = subst (λ m. IsInUse x.known.when (max m now)) f.moment x.note.in_use;
  leave = x.leave;
}

rests : (delay : ℕ) (agent : List ℕ) (steps : List Step) (mid : Schedule) (now : ℕ) (job : Job) (next : Schedule) → Follows (empty_of delay agent) steps mid → Steps mid (Take now job) next
    → Rests agent steps (max (moment_of steps) now) job
rests delay agent steps mid now (Page work) next f made = rests_on delay agent steps mid now work leave.Allowed made.0 f made.1
rests delay agent steps mid now (Denied work line) next f made = rests_on delay agent steps mid now work (leave.Denied line) made.0 f made.1
rests delay agent steps mid now (ShutOut work) next f made = rests_on delay agent steps mid now work leave.Shut made.0 f made.1
rests delay agent steps mid now (Robots name) next f made = λ known last in_use.
    made.0.unknown known (record { last = ap (λ k. k name) f.known ∙ last; in_use = subst (λ m. IsInUse known.when (max m now)) (sym f.moment) in_use })
rests delay agent steps mid now (WaitTill till) next f made = tt
rests delay agent steps mid now Idle next f made = tt

pub noted : (delay : ℕ) (agent : List ℕ) (before behind : List Step) (now : ℕ) (job : Job) (end : Schedule) → Runs (empty_of delay agent) (before ++ Take now job ∷ behind) end
    → Rests agent before (max (moment_of before) now) job
noted delay agent before behind now job end runs =
    let split = runs_split (empty_of delay agent) before (Take now job ∷ behind) end runs in
    rests delay agent before split.0 now job split.2.0 (follows (empty_of delay agent) before split.0 split.1) split.2.1
