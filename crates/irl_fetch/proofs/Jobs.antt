-- What one job of a front does.
use Rattle.std.proofs.Common.{◌≡◌, ◌∙◌, ℕ, ◌≤◌, Bool, true, false, List, [], ◌∷◌, ◌++◌, Some, length, inl, inr, refl, sym, ap, subst, arith}
use Rattle.std.specs.Prelude.{Result, Ok, Err}
use Rattle.std.specs.List.{All}
use Rattle.std.specs.List.Sorted.{IsPermutation}
use Rattle.std.proofs.lemmas.List.{append-nil}
use Rattle.std.proofs.lemmas.List.Elements.{All-head}
use Rattle.std.proofs.lemmas.List.Sorted.{IsPermutation-middle}
use Rattle.irl_base.specs.declared.fault.Fault.{Fault}
use Rattle.irl_base.specs.declared.fault.Fault.TheVariants.{Memory}
use Rattle.irl_key.specs.declared.web.Work.{Work}
use Rattle.irl_key.specs.Web.{target_of}
use Rattle.irl_offer.specs.Offering.{Entered, fault_or}
use Rattle.irl_offer.specs.declared.note.Note.{Note}
use Rattle.irl_offer.specs.declared.reply.Answer.{Answer}
use Rattle.irl_robots.specs.Leave.{host_state, leave_of}
use Rattle.irl_robots.specs.declared.host.HostState.{HostState}
use Rattle.irl_robots.specs.declared.host.Leave.{Leave}
use Rattle.irl_robots.specs.declared.host.Leave.TheVariants as leave
use Rattle.irl_polite.specs.declared.job.Job.TheVariants as job
use Rattle.irl_polite.specs.Answers.{Answers as Replies, IsAnswered, AllAwaited}
use Rattle.irl_polite.specs.Schedule.{Schedule, host, raised, changed, asked, handed_in}
use Rattle.irl_polite.proofs.Lists.{cases_text, changed_same, changed_other}
use Rattle.irl_record.specs.Widening.{Answers, Widens}
use Rattle.irl_record.specs.Wired.{KeepsMade}
use Rattle.irl_fetch.specs.declared.working.WorkLog.{WorkLog}
use Rattle.irl_fetch.specs.Telling.{Fetcher, Offering, GoesOn, Enters, MakesAtMost, RoseBy, given_since}
use Rattle.irl_fetch.specs.Handling.{Handled, Noted, IsGiven, leave_for, missing, answers_of, entered_of, done_of}
use Rattle.irl_fetch.specs.Pages.{IsPart}
use Rattle.irl_fetch.specs.Robots.{FindsNote}
use Rattle.irl_fetch.specs.Working.{IsStateOf, HasWorked, DoesSome, DoesNext, StopsWork}
use Rattle.irl_fetch.proofs.Telling.{IsEarlier, goes_none, goes_then, given_before, keeps_as, makes_more, rose_none, rose_wide, enters_none, enters_as}
use Rattle.irl_fetch.proofs.Handling.{answered_noted, answered_one, given_wider, noted_wider}
use Rattle.irl_fetch.proofs.Results.{refused_ok, refused_if, refused_err, refused_fault}
use Rattle.irl_fetch.proofs.Pieces.{works_none, works_one, works_noted}

-- no robots file is awaited
abbrev pub IsReady : Schedule → Type 0
IsReady s = (name : List ℕ) → s.awaited name ≡ false

-- the item is taken out of a schedule, as what was known of its host says so
pub record IsTaken (s t : Schedule) (work : Work) (says : Leave) : Type 0 where
  pub left : IsPermutation s.items (work ∷ t.items)
  pub state : HostState
  pub noted : IsStateOf s [] (host work) state
  pub leave : leave_of state (target_of work.web) ≡ says
  pub known : t.known ≡ s.known
  pub awaited : t.awaited ≡ s.awaited
  pub agent : t.agent ≡ s.agent
  pub delay : t.delay ≡ s.delay

left_by : (items rest before behind : List Work) (work : Work) → items ≡ before ++ work ∷ behind → rest ≡ before ++ behind → IsPermutation items (work ∷ rest)
left_by items rest before behind work stands others =
    subst (λ xs. IsPermutation xs (work ∷ rest)) (sym stands)
    (subst (λ ys. IsPermutation (before ++ work ∷ behind) (work ∷ ys)) (sym others) (IsPermutation-middle before work behind))

taken_as : (s t : Schedule) (now : ℕ) (work : Work) (says : Leave) (rest : List Work) → IsAnswered (raised s now) work says rest → t.items ≡ rest → t.known ≡ s.known → t.awaited ≡ s.awaited
    → t.agent ≡ s.agent → t.delay ≡ s.delay → IsTaken s t work says
taken_as s t now work says rest is items known awaited agent delay = record {
  left = left_by s.items t.items is.next.before is.next.behind work is.next.stands (items ∙ is.next.others);
  state = is.known.state;
  noted = inl (is.known, is.note.last, refl);
  leave = is.leave;
  known = known;
  awaited = awaited;
  agent = agent;
  delay = delay;
}

pub taken_page : (s t : Schedule) (now : ℕ) (work : Work) → Replies (raised s now) (job.Page work) t → IsTaken s t work leave.Allowed
taken_page s t now work takes =
    taken_as s t now work leave.Allowed takes.0 takes.1 (ap (λ (x : Schedule). x.items) takes.2) (ap (λ (x : Schedule). x.known) takes.2) (ap (λ (x : Schedule). x.awaited) takes.2)
    (ap (λ (x : Schedule). x.agent) takes.2) (ap (λ (x : Schedule). x.delay) takes.2)

pub taken_denied : (s t : Schedule) (now : ℕ) (work : Work) (line : ℕ) → Replies (raised s now) (job.Denied work line) t → IsTaken s t work (leave.Denied line)
taken_denied s t now work line takes =
    taken_as s t now work (leave.Denied line) takes.0 takes.1 (ap (λ (x : Schedule). x.items) takes.2) (ap (λ (x : Schedule). x.known) takes.2) (ap (λ (x : Schedule). x.awaited) takes.2)
    (ap (λ (x : Schedule). x.agent) takes.2) (ap (λ (x : Schedule). x.delay) takes.2)

pub taken_shut : (s t : Schedule) (now : ℕ) (work : Work) → Replies (raised s now) (job.ShutOut work) t → IsTaken s t work leave.Shut
taken_shut s t now work takes =
    taken_as s t now work leave.Shut takes.0 takes.1 (ap (λ (x : Schedule). x.items) takes.2) (ap (λ (x : Schedule). x.known) takes.2) (ap (λ (x : Schedule). x.awaited) takes.2)
    (ap (λ (x : Schedule). x.agent) takes.2) (ap (λ (x : Schedule). x.delay) takes.2)

-- ## Jobs that were done

pub does_one : {O : Type 0} (first last : WorkLog) (suffixes : List ℕ) (a b c : Fetcher) (s t : Schedule) (o p : Offering O) (handled : Handled) → IsEarlier c.gives → GoesOn a b → GoesOn b c
    → IsReady s
    → IsTaken s t handled.work (leave_for handled.treated) → IsGiven (given_since b c) suffixes handled.work.web handled.treated
    → last.done.items ≡ first.done.items ++ done_of handled ∷ [] → last.notes.items ≡ first.notes.items → Enters (entered_of handled) o p
    → RoseBy (missing (answers_of handled)) b.faults c.faults → MakesAtMost (length (answers_of handled)) a c → DoesSome first last suffixes a c s t o p
does_one first last suffixes a b c s t o p handled earlier ab bc ready taken given done notes enters rose makes = record {
  handled = handled ∷ [];
  noted = [];
  done = done;
  notes = notes ∙ sym (append-nil first.notes.items);
  worked = works_one suffixes handled t.items a c s t taken.left taken.known
      (record {
        state = taken.state;
        noted = taken.noted;
        leave = taken.leave;
        given = given_wider (given_since b c) (given_since a c) (given_before a b c earlier ab) suffixes handled.work.web handled.treated given;
      })
      (rose_wide (missing (answers_of handled)) a.faults b.faults c.faults c.faults ab.faults rose (omega arith));
  asked = subst (λ n. MakesAtMost n a c) (sym (answered_one handled)) makes;
  entered = enters_as (entered_of handled) (entered_of handled ++ []) o p (sym (append-nil (entered_of handled))) enters;
  ready = λ name. ap (λ (f : List ℕ → Bool). f name) taken.awaited ∙ ready name;
}

pub does_none : {O : Type 0} (log : WorkLog) (suffixes : List ℕ) (a c : Fetcher) (s t : Schedule) (now : ℕ) (o : Offering O) → GoesOn a c → MakesAtMost 0 a c → IsReady s
    → t ≡ raised s now
    → DoesSome log log suffixes a c s t o o
does_none log suffixes a c s t now o on makes ready is = record {
  handled = [];
  noted = [];
  done = sym (append-nil log.done.items);
  notes = sym (append-nil log.notes.items);
  worked = subst (λ left. HasWorked suffixes [] [] left a c s t) (sym (ap (λ (x : Schedule). x.items) is)) (works_none suffixes a c s t on (ap (λ (x : Schedule). x.known) is));
  asked = makes;
  entered = enters_none o;
  ready = λ name. ap (λ (x : Schedule). x.awaited name) is ∙ ready name;
}

ready_again : (s t u : Schedule) (name : List ℕ) → IsReady s → t.awaited ≡ changed s.awaited name true → u.awaited ≡ changed t.awaited name false → IsReady u
ready_again s t u name ready one two at = ap (λ (f : List ℕ → Bool). f at) two ∙ elim (cases_text at name) [
  | inl (same, here) ↦ ap (changed t.awaited name false) here ∙ changed_same t.awaited name false
  | inr (differs, other) ↦ changed_other t.awaited name false at other ∙ ap (λ (f : List ℕ → Bool). f at) one ∙ changed_other s.awaited name true at other ∙ ready at
]

pub does_noted : {O : Type 0} (first last : WorkLog) (suffixes : List ℕ) (a b c : Fetcher) (s t u : Schedule) (o : Offering O) (now : ℕ) (name : List ℕ) (note : Note) → IsEarlier c.gives → GoesOn a b
    → GoesOn b c
    → b.last ≡ now → IsReady s → t ≡ asked (raised s now) name → (finds : FindsNote name now note b c) → u ≡ handed_in t name (host_state note.state t.agent) now
    → last.done.items ≡ first.done.items → last.notes.items ≡ first.notes.items ++ note ∷ [] → MakesAtMost (length finds.answers) a c → DoesSome first last suffixes a c s u o o
does_noted first last suffixes a b c s t u o now name note earlier ab bc moment ready took finds handed done notes makes =
    let one : Noted = record { note = note; answers = finds.answers } in
    let agent : t.agent ≡ s.agent = ap (λ (x : Schedule). x.agent) took in
    record {
      handled = [];
      noted = one ∷ [];
      done = done ∙ sym (append-nil first.done.items);
      notes = notes;
      worked = works_noted suffixes one name now a c s u (ap (λ (x : Schedule). x.items) handed ∙ ap (λ (x : Schedule). x.items) took)
          (ap (λ (x : Schedule). x.known) handed ∙ ap (λ (k : List ℕ → _). changed k name (Some (record { state = host_state note.state t.agent; when = now }))) (ap (λ (x : Schedule). x.known) took)
          ∙ ap (λ (agent : List ℕ). changed s.known name (Some (record { state = host_state note.state agent; when = now }))) agent)
          finds.host_is finds.when_is (noted_wider (given_since b c) (given_since a c) (given_before a b c earlier ab) one finds.noted)
          (omega (arith, ab.last, moment, finds.when_is), omega (arith, bc.last, moment, finds.when_is))
          (rose_wide (missing finds.answers) a.faults b.faults c.faults c.faults ab.faults finds.lost (omega arith));
      asked = subst (λ n. MakesAtMost n a c) (sym (answered_noted one)) makes;
      entered = enters_none o;
      ready = ready_again s t u name ready (ap (λ (x : Schedule). x.awaited) took) (ap (λ (x : Schedule). x.awaited) handed);
    }

-- where each item's robots file is awaited, and none is, there is no item
pub none_left : (awaited : List ℕ → Bool) (items : List Work) → ((name : List ℕ) → awaited name ≡ false) → All (λ work. awaited (host work) ≡ true) items → items ≡ []
none_left awaited [] ready all = refl
none_left awaited (work ∷ items) ready all =
    let yes : awaited (host work) ≡ true = All-head (λ work. awaited (host work) ≡ true) work items all in
    let no : awaited (host work) ≡ false = ready (host work) in
    cc

-- ## Jobs that were cut short

pub part_wider : (gives more : Answers) → Widens gives more → (suffixes url : List ℕ) (entered : List Entered) → IsPart gives suffixes url entered → IsPart more suffixes url entered
part_wider gives more wider suffixes url entered part = elim part [
  | inl none ↦ inl none
  | inr some ↦ inr (some.0, wider url _ some.0 some.1, some.2, some.3)
]

pub stops_page : {O : Type 0} (suffixes : List ℕ) (a b c : Fetcher) (s t : Schedule) (o p : Offering O) (work : Work) (entered : List Entered) → IsEarlier c.gives → GoesOn a b → GoesOn b c
    → IsTaken s t work leave.Allowed → IsPart (given_since b c) suffixes work.web entered → Enters entered o p → MakesAtMost 6 a c → StopsWork suffixes a c s t o p
stops_page suffixes a b c s t o p work entered earlier ab bc taken part enters makes = record {
  handled = [];
  noted = [];
  left = s.items;
  worked = works_none suffixes a c s t (goes_then a b c ab bc) taken.known;
  asked = makes;
  part = entered;
  begun = inr (record {
    work = work;
    others = t.items;
    is_left = taken.left;
    state = taken.state;
    known = taken.noted;
    allowed = taken.leave;
    some = part_wider (given_since b c) (given_since a c) (given_before a b c earlier ab) suffixes work.web entered part;
  });
  entered = enters;
}

pub stops_none : {O : Type 0} (suffixes : List ℕ) (a c : Fetcher) (s t : Schedule) (o : Offering O) → GoesOn a c → t.known ≡ s.known → MakesAtMost 6 a c
    → StopsWork suffixes a c s t o o
stops_none suffixes a c s t o on known makes = record {
  handled = [];
  noted = [];
  left = s.items;
  worked = works_none suffixes a c s t on known;
  asked = makes;
  part = [];
  begun = inl refl;
  entered = enters_none o;
}

-- ## Both

-- the clock told the moment
pub goes_now : (a b : Fetcher) (now : ℕ) → b.asked ≡ a.asked → ((since : ℕ) → Widens (a.gives since) (b.gives since)) → a.faults ≤ b.faults → a.last ≤ now → b.last ≡ now → b.aim ≡ a.aim
    → GoesOn a b
goes_now a b now asked wider faults later told aim = record { asked = keeps_as a.asked b.asked asked; wider = wider; faults = faults; last = omega (arith, later, told); aim = aim }

pub next_does : {O : Type 0} (more : Bool) (first last : WorkLog) (suffixes : List ℕ) (a c : Fetcher) (s t : Schedule) (o p : Offering O) → DoesSome first last suffixes a c s t o p
    → (more ≡ false → t.items ≡ []) → p.last_fault ≡ o.last_fault → GoesOn a c → t.agent ≡ s.agent → t.delay ≡ s.delay → DoesNext (Ok more) first last suffixes a c s t o p
next_does more first last suffixes a c s t o p does idle calm on agent delay = record {
  does = does;
  idle = idle;
  stops = tt;
  fault = (calm, tt);
  goes_on = on;
  agent = agent;
  delay = delay;
}

pub next_stops : {O : Type 0} (result : Result Bool Fault) (y : Fault) (first last : WorkLog) (suffixes : List ℕ) (a c : Fetcher) (s t : Schedule) (o p : Offering O) → result ≡ Err y
    → StopsWork suffixes a c s t o p → p.last_fault ≡ fault_or o.last_fault y → GoesOn a c → t.agent ≡ s.agent → t.delay ≡ s.delay → DoesNext result first last suffixes a c s t o p
next_stops result y first last suffixes a c s t o p is stops fault on agent delay = record {
  does = refused_ok _ result y is;
  idle = refused_if _ result y is;
  stops = refused_err _ result y is stops;
  fault = refused_fault result y o p is fault;
  goes_on = on;
  agent = agent;
  delay = delay;
}

pub goes_asked : (b d : Fetcher) → d.asked ≡ b.asked → KeepsMade b.asked d.asked
goes_asked b d same = keeps_as b.asked d.asked same

-- more is left
pub true_is_more : {P : Type 0} → true ≡ false → P
true_is_more is = let no : ⊥ = cc in absurd no

-- it was waited
pub next_waits : {O : Type 0} (log : WorkLog) (suffixes : List ℕ) (a c : Fetcher) (s t : Schedule) (now : ℕ) (o : Offering O) → GoesOn a c → MakesAtMost 0 a c
    → IsReady s → t ≡ raised s now
    → DoesNext (Ok true) log log suffixes a c s t o o
next_waits log suffixes a c s t now o on makes ready same =
    next_does true log log suffixes a c s t o o (does_none log suffixes a c s t now o on makes ready same) true_is_more refl on (ap (λ (x : Schedule). x.agent) same)
    (ap (λ (x : Schedule). x.delay) same)

-- nothing is left
pub next_ends : {O : Type 0} (log : WorkLog) (suffixes : List ℕ) (a c : Fetcher) (s t : Schedule) (now : ℕ) (o : Offering O) → GoesOn a c → MakesAtMost 0 a c
    → IsReady s → AllAwaited (raised s now) → t ≡ raised s now
    → DoesNext (Ok false) log log suffixes a c s t o o
next_ends log suffixes a c s t now o on makes ready all same =
    next_does false log log suffixes a c s t o o (does_none log suffixes a c s t now o on makes ready same) (λ is. ap (λ (x : Schedule). x.items) same ∙ none_left s.awaited s.items ready all) refl on
    (ap (λ (x : Schedule). x.agent) same) (ap (λ (x : Schedule). x.delay) same)

-- a robots file was noted
pub next_notes : {O : Type 0} (first last : WorkLog) (suffixes : List ℕ) (a b c : Fetcher) (s t u : Schedule) (o : Offering O) (now : ℕ) (name : List ℕ) (note : Note) → IsEarlier c.gives → GoesOn a b
    → GoesOn b c
    → b.last ≡ now → IsReady s → t ≡ asked (raised s now) name → (finds : FindsNote name now note b c) → u ≡ handed_in t name (host_state note.state t.agent) now
    → last.done.items ≡ first.done.items → last.notes.items ≡ first.notes.items ++ note ∷ [] → MakesAtMost (length finds.answers) a c → DoesNext (Ok true) first last suffixes a c s u o o
next_notes first last suffixes a b c s t u o now name note earlier ab bc moment ready took finds handed done notes makes =
    next_does true first last suffixes a c s u o o (does_noted first last suffixes a b c s t u o now name note earlier ab bc moment ready took finds handed done notes makes) true_is_more refl
    (goes_then a b c ab bc) (ap (λ (x : Schedule). x.agent) handed ∙ ap (λ (x : Schedule). x.agent) took) (ap (λ (x : Schedule). x.delay) handed ∙ ap (λ (x : Schedule). x.delay) took)

-- a robots file could not be noted
pub next_lacks : {O : Type 0} (result : Result Bool Fault) (y : Fault) (first last : WorkLog) (suffixes : List ℕ) (a c : Fetcher) (s t u : Schedule) (o : Offering O) (now : ℕ) (name : List ℕ)
    → result ≡ Err y
    → y ≡ Memory → GoesOn a c → MakesAtMost 6 a c → t ≡ asked (raised s now) name → u ≡ t → DoesNext result first last suffixes a c s u o o
next_lacks result y first last suffixes a c s t u o now name is memory on makes took same =
    next_stops result y first last suffixes a c s u o o is (stops_none suffixes a c s u o on (ap (λ (x : Schedule). x.known) same ∙ ap (λ (x : Schedule). x.known) took) makes)
    (ap (fault_or o.last_fault) (sym memory)) on (ap (λ (x : Schedule). x.agent) same ∙ ap (λ (x : Schedule). x.agent) took) (ap (λ (x : Schedule). x.delay) same ∙ ap (λ (x : Schedule). x.delay) took)

-- an item that may not be fetched could not be kept
pub next_drops : {O : Type 0} (result : Result Bool Fault) (y : Fault) (first last : WorkLog) (suffixes : List ℕ) (a c : Fetcher) (s t : Schedule) (o : Offering O) (work : Work) (says : Leave)
    → result ≡ Err y
    → y ≡ Memory → GoesOn a c → MakesAtMost 0 a c → IsTaken s t work says → DoesNext result first last suffixes a c s t o o
next_drops result y first last suffixes a c s t o work says is memory on makes taken =
    next_stops result y first last suffixes a c s t o o is (stops_none suffixes a c s t o on taken.known (makes_more 0 6 a c (omega arith) makes))
    (ap (fault_or o.last_fault) (sym memory)) on taken.agent taken.delay

-- an item that may not be fetched was kept
pub next_refuses : {O : Type 0} (first last : WorkLog) (suffixes : List ℕ) (a c : Fetcher) (s t : Schedule) (o : Offering O) (handled : Handled) → IsEarlier c.gives → GoesOn a c
    → MakesAtMost 0 a c → IsReady s
    → IsTaken s t handled.work (leave_for handled.treated) → IsGiven (given_since c c) suffixes handled.work.web handled.treated → answers_of handled ≡ [] → entered_of handled ≡ []
    → last.done.items ≡ first.done.items ++ done_of handled ∷ [] → last.notes.items ≡ first.notes.items → DoesNext (Ok true) first last suffixes a c s t o o
next_refuses first last suffixes a c s t o handled earlier on makes ready taken given answers entered done notes =
    next_does true first last suffixes a c s t o o
    (does_one first last suffixes a c c s t o o handled earlier on (goes_none c) ready taken given done notes (enters_as [] (entered_of handled) o o (sym entered) (enters_none o))
    (subst (λ (xs : List Answer). RoseBy (missing xs) c.faults c.faults) (sym answers) (rose_none c.faults c.faults (goes_none c).faults)) (makes_more 0 _ a c (omega arith) makes))
    true_is_more refl on taken.agent taken.delay
