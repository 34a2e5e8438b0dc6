-- A schedule has one answer.
use Rattle.std.proofs.Common.{◌≡◌, ◌∙◌, ℕ, ◌<◌, ◌≤◌, true, false, List, [], ◌∷◌, ◌++◌, refl, sym, ap, subst, ◌↔◌, arith}
use Rattle.std.specs.List.{All}
use Rattle.std.proofs.lemmas.List.Elements.{All-head, All-tail}
use Rattle.irl_key.specs.declared.web.Work.{Work}
use Rattle.irl_key.specs.Web.{target_of}
use Rattle.irl_robots.specs.Leave.{leave_of}
use Rattle.irl_robots.specs.declared.host.Leave.{Leave}
use Rattle.irl_robots.specs.declared.host.Leave.TheVariants as leave
use Rattle.irl_polite.specs.declared.job.Job.{Job}
use Rattle.irl_polite.specs.declared.job.Job.TheVariants.{Page, Denied, ShutOut, Robots, WaitTill, Idle}
use Rattle.irl_polite.specs.Schedule.{Schedule, host, fetched, refused, asked}
use Rattle.irl_polite.specs.Answers.{IsReady, due_of, IsNext, IsUnknown, IsAnswered, IsNextDue, AllAwaited, Answers}
use Rattle.irl_polite.specs.Inside.{answer_of}
use Rattle.irl_polite.proofs.Lists.{same_some}

pub all_middle : {X : Type 0} (P : X → Type 0) (xs ys : List X) (x : X) → All P (xs ++ x ∷ ys) → P x
all_middle P [] ys x all = All-head P x ys all
all_middle P (z ∷ zs) ys x all = all_middle P zs ys x (All-tail P z (zs ++ x ∷ ys) all)

module _ (s : Schedule) where
  Earlier : Work → Work → Type 0
  Earlier work other = IsReady s other → due_of s work < due_of s other

  Later : Work → Work → Type 0
  Later work other = IsReady s other → due_of s work ≤ due_of s other

  apart : (v w : Work) → IsReady s v → IsReady s w → Earlier w v → Later v w → ⊥
  unfolding Earlier Later
  apart v w rv rw earlier later = let a = earlier rv in let b = later rw in omega arith

  same_head : (x y : Work) (xs ys : List Work) → x ∷ xs ≡ y ∷ ys → (x ≡ y) × (xs ≡ ys)
  same_head x y xs ys e = (cc, cc)

  same_next : (v w : Work) (xs ys zs ws : List Work) → xs ++ v ∷ ys ≡ zs ++ w ∷ ws → IsReady s v → IsReady s w
      → All (Earlier v) xs → All (Later v) ys → All (Earlier w) zs → All (Later w) ws → (v ≡ w) × (xs ++ ys ≡ zs ++ ws)
  same_next v w [] ys [] ws e rv rw a b c d = same_head v w ys ws e
  same_next v w [] ys (z ∷ zs) ws e rv rw a b c d =
      let h = same_head v z ys (zs ++ w ∷ ws) e in
      let early : Earlier w v = subst (Earlier w) (sym h.0) (All-head (Earlier w) z zs c) in
      let late : Later v w = all_middle (Later v) zs ws w (subst (All (Later v)) h.1 b) in
      absurd (apart v w rv rw early late)
  same_next v w (x ∷ xs) ys [] ws e rv rw a b c d =
      let h = same_head x w (xs ++ v ∷ ys) ws e in
      let early : Earlier v w = subst (Earlier v) h.0 (All-head (Earlier v) x xs a) in
      let late : Later w v = all_middle (Later w) xs ys v (subst (All (Later w)) (sym h.1) d) in
      absurd (apart w v rw rv early late)
  same_next v w (x ∷ xs) ys (z ∷ zs) ws e rv rw a b c d =
      let h = same_head x z (xs ++ v ∷ ys) (zs ++ w ∷ ws) e in
      let more = same_next v w xs ys zs ws h.1 rv rw (All-tail (Earlier v) x xs a) b (All-tail (Earlier w) z zs c) d in
      let front : x ∷ (xs ++ ys) ≡ z ∷ (zs ++ ws) = (λ i. h.0 i ∷ more.1 i) in
      (more.0, front)

  pub one_next : (v w : Work) (rest others : List Work) → IsNext s v rest → IsNext s w others → (v ≡ w) × (rest ≡ others)
  unfolding Earlier Later
  one_next v w rest others x y =
      let same = same_next v w x.before x.behind y.before y.behind (sym x.stands ∙ y.stands) x.ready y.ready x.earlier x.later y.earlier y.later in
      (same.0, x.others ∙ same.1 ∙ sym y.others)

  -- where each host is awaited none comes next
  pub none_next : (w : Work) (rest : List Work) → IsNext s w rest → AllAwaited s → ⊥
  none_next w rest x all =
      let asked : s.awaited (host w) ≡ true = all_middle (λ (v : Work). s.awaited (host v) ≡ true) x.before x.behind w (subst (All (λ (v : Work). s.awaited (host v) ≡ true)) x.stands all) in
      let e : true ≡ false = sym asked ∙ x.ready in
      absurd cc

-- what is left after an answer to an item
abbrev pub left_after : Schedule → Work → Leave → List Work → Schedule
left_after s work leave.Allowed rest = fetched s (host work) rest
left_after s work (leave.Denied line) rest = refused s rest
left_after s work leave.Shut rest = refused s rest

-- an answer is one of four
data Form (s : Schedule) (job : Job) (new : Schedule) : Type 0 where
  says : (work : Work) (leave : Leave) (rest : List Work) → IsAnswered s work leave rest → job ≡ answer_of work leave → new ≡ left_after s work leave rest → Form s job new
  asks : (work : Work) (rest : List Work) → IsNext s work rest → due_of s work ≤ s.moment → IsUnknown s (host work) → job ≡ Robots (host work) → new ≡ asked s (host work) → Form s job new
  waits : (work : Work) (rest : List Work) → IsNext s work rest → s.moment < due_of s work → job ≡ WaitTill (due_of s work) → new ≡ s → Form s job new
  idles : AllAwaited s → job ≡ Idle → new ≡ s → Form s job new

form : (s : Schedule) (job : Job) (new : Schedule) → Answers s job new → Form s job new
form s (Page work) new a = says work leave.Allowed a.0 a.1 refl a.2
form s (Denied work line) new a = says work (leave.Denied line) a.0 a.1 refl a.2
form s (ShutOut work) new a = says work leave.Shut a.0 a.1 refl a.2
form s (Robots name) new a =
    let x = a.0 in
    asks x.work x.rest x.next x.due (subst (IsUnknown s) x.named x.unknown) (ap Robots x.named) (a.1 ∙ ap (asked s) x.named)
form s (WaitTill moment) new a =
    let x = a.0 in
    waits x.work x.rest x.next (subst (λ m. s.moment < m) x.is a.1) (ap WaitTill x.is) a.2
form s Idle new a = idles a.0 refl a.1

module _ (s : Schedule) (job second : Job) (new other : Schedule) where
  Same : Type 0
  Same = (job ≡ second) × (new ≡ other)

  both_say : (v w : Work) (l m : Leave) (rest others : List Work) → IsAnswered s v l rest → IsAnswered s w m others
      → (v ≡ w) × (l ≡ m) × (rest ≡ others)
  both_say v w l m rest others x y =
      let same = one_next s v w rest others x.next y.next in
      let known : x.known ≡ y.known = same_some x.known y.known (sym x.note.last ∙ ap (λ (u : Work). s.known (host u)) same.0 ∙ y.note.last) in
      (same.0, sym x.leave ∙ (λ i. leave_of (known i).state (target_of (same.0 i).web)) ∙ y.leave, same.1)

  compare : Form s job new → Form s second other → Same
  unfolding Same
  compare (says v l rest x j n) (says w m others y k o) =
      let same = both_say v w l m rest others x y in
      (j ∙ (λ i. answer_of (same.0 i) (same.1 i)) ∙ sym k, n ∙ (λ i. left_after s (same.0 i) (same.1 i) (same.2 i)) ∙ sym o)
  compare (says v l rest x j n) (asks w others y d u k o) =
      let same = one_next s v w rest others x.next y in
      absurd (subst (λ (t : Work). IsUnknown s (host t)) (sym same.0) u x.known x.note)
  compare (says v l rest x j n) (waits w others y lt k o) =
      let same = one_next s v w rest others x.next y in
      let d : due_of s v ≡ due_of s w = ap (due_of s) same.0 in
      let le = x.due in
      absurd (omega arith)
  compare (says v l rest x j n) (idles all k o) = absurd (none_next s v rest x.next all)
  compare (asks v rest x d u j n) (says w m others y k o) =
      let same = one_next s v w rest others x y.next in
      absurd (subst (λ (t : Work). IsUnknown s (host t)) same.0 u y.known y.note)
  compare (asks v rest x d u j n) (asks w others y d2 u2 k o) =
      let same = one_next s v w rest others x y in
      (j ∙ ap (λ (t : Work). Robots (host t)) same.0 ∙ sym k, n ∙ ap (λ (t : Work). asked s (host t)) same.0 ∙ sym o)
  compare (asks v rest x d u j n) (waits w others y lt k o) =
      let same = one_next s v w rest others x y in
      let e : due_of s v ≡ due_of s w = ap (due_of s) same.0 in
      absurd (omega arith)
  compare (asks v rest x d u j n) (idles all k o) = absurd (none_next s v rest x all)
  compare (waits v rest x lt j n) (says w m others y k o) =
      let same = one_next s v w rest others x y.next in
      let d : due_of s v ≡ due_of s w = ap (due_of s) same.0 in
      let le = y.due in
      absurd (omega arith)
  compare (waits v rest x lt j n) (asks w others y d u k o) =
      let same = one_next s v w rest others x y in
      let e : due_of s v ≡ due_of s w = ap (due_of s) same.0 in
      absurd (omega arith)
  compare (waits v rest x lt j n) (waits w others y lt2 k o) =
      let same = one_next s v w rest others x y in
      (j ∙ ap (λ (t : Work). WaitTill (due_of s t)) same.0 ∙ sym k, n ∙ sym o)
  compare (waits v rest x lt j n) (idles all k o) = absurd (none_next s v rest x all)
  compare (idles all j n) (says w m others y k o) = absurd (none_next s w others y.next all)
  compare (idles all j n) (asks w others y d u k o) = absurd (none_next s w others y all)
  compare (idles all j n) (waits w others y lt k o) = absurd (none_next s w others y all)
  compare (idles all j n) (idles all2 k o) = (j ∙ sym k, n ∙ sym o)

  pub one : Answers s job new → Answers s second other → (job ≡ second) × (new ≡ other)
  unfolding Same
  one a b = compare (form s job new a) (form s second other b)

-- what a note says of the next item is the answer
pub answers_said : (s new : Schedule) (work : Work) (says : Leave) (rest : List Work) → IsAnswered s work says rest → new ≡ left_after s work says rest → Answers s (answer_of work says) new
answers_said s new work leave.Allowed rest a e = (rest, a, e)
answers_said s new work (leave.Denied line) rest a e = (rest, a, e)
answers_said s new work leave.Shut rest a e = (rest, a, e)

-- exactly where there is nothing to do yet
pub waits_iff : (s new : Schedule) (job : Job) → Answers s job new → (till : ℕ) → (job ≡ WaitTill till) ↔ (IsNextDue s till × (s.moment < till))
waits_iff s new job a till = (
  λ e. let w : Answers s (WaitTill till) new = subst (λ j. Answers s j new) e a in (w.0, w.1),
  λ h. (one s job (WaitTill till) new s a (h.0, h.1, refl)).0,
)

-- exactly where there is nothing to do
pub idle_iff : (s new : Schedule) (job : Job) → Answers s job new → (job ≡ Idle) ↔ AllAwaited s
idle_iff s new job a = (
  λ e. let w : Answers s Idle new = subst (λ j. Answers s j new) e a in w.0,
  λ h. (one s job Idle new s a (h, refl)).0,
)
