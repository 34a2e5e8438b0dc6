-- The steps of `take` over what a front holds.
use Rattle.std.proofs.Common.{◌≡◌, ◌∙◌, ℕ, suc, ◌+◌, ◌<◌, ◌≤◌, true, false, List, [], ◌∷◌, length, set, take, drop, Option, Some, None, refl, sym, ap, subst, arith}
use Rattle.std.specs.Prelude.{slice_get}
use Rattle.irl_key.specs.declared.web.Work.{Work}
use Rattle.irl_key.specs.Web.{IsHost}
use Rattle.irl_robots.specs.declared.host.Leave.{Leave}
use Rattle.irl_robots.specs.declared.host.Leave.TheVariants as leave
use Rattle.irl_polite.specs.declared.hosts.Host.{Host}
use Rattle.irl_polite.specs.declared.slots.Slot.{Slot}
use Rattle.irl_polite.specs.declared.job.Job.TheVariants.{Robots, WaitTill, Idle}
use Rattle.irl_polite.specs.Schedule.{Schedule, host, next_due, asked}
use Rattle.irl_polite.specs.Answers.{Answers, IsNext}
use Rattle.irl_polite.specs.Inside.{items_of, schedule_of, seen, seen_at, IsSound, IsTop, Turn, Says, SaysNothing, answer_of, due_by}
use Rattle.std.proofs.lemmas.List.{length-append}
use Rattle.irl_polite.proofs.Links.{items_split}
use Rattle.irl_polite.proofs.NextLemmas.{picked, is_next, IsPicked, none_waits}
use Rattle.irl_polite.proofs.MoveLemmas.{means_asked, means_fetched, means_refused}
use Rattle.irl_polite.proofs.AnswerLemmas.{answers_said, left_after}

module _ (agent : List ℕ) (delay moment : ℕ) (names : List ℕ → Option ℕ) (hosts : List Host) (slots : List Slot) (left : ℕ) (turns : List Turn) (room : ℕ)
    (sound : IsSound names hosts slots left turns room) where
  abbrev pub now : Schedule
  now = schedule_of agent delay moment names hosts slots

  pub idles : turns ≡ [] → Answers now Idle now
  idles none = (none_waits agent delay moment names hosts slots turns sound.table sound.owned sound.firsts sound.all none, refl)

  module _ (due at : ℕ) (top : IsTop turns (due, at)) where
    -- the item that comes next, with its host
    pub record Picked : Type 0 where
      pub place : ℕ
      pub owner : Host
      pub slot : Slot
      pub work : Work
      pub held : slice_get hosts place ≡ Some owner
      pub first : owner.first ≡ Some at
      pub ready : owner.awaited ≡ false
      pub is_due : owner.due ≡ due
      pub stands : slice_get slots at ≡ Some slot
      pub has : slot.work ≡ Some work
      pub owns : slot.host ≡ place
      pub named : names (host work) ≡ Some place
      pub given : IsHost (host work)
      pub sees : seen_at names hosts (host work) ≡ seen (Some owner)
      pub next : IsNext now work (items_of (set slots at (record slot { work = None })))

    pub found : Picked
    found =
        let p : IsPicked agent delay moment names hosts slots turns sound.table sound.owned sound.firsts sound.all due at top =
        picked agent delay moment names hosts slots turns sound.table sound.owned sound.firsts sound.all due at top in
        record {
          place = p.place;
          owner = p.owner;
          slot = p.slot;
          work = p.work;
          held = p.held;
          first = p.first;
          ready = p.ready;
          is_due = p.is_due;
          stands = p.stands;
          has = p.left;
          owns = p.owns;
          named = p.named;
          given = p.given;
          sees = p.sees;
          next = is_next agent delay moment names hosts slots turns sound.table sound.owned sound.firsts sound.all due at top (record p.slot { work = None }) refl;
        }

    module _ (p : Picked) where
      -- it is one that is left
      pub some_left : 1 ≤ left
      some_left =
          let had : length (items_of slots) ≡ length (items_of (take at slots)) + length (p.work ∷ items_of (drop (suc at) slots)) =
          ap length (items_split slots at p.slot p.work p.stands p.has) ∙ length-append (items_of (take at slots)) (p.work ∷ items_of (drop (suc at) slots)) in
          let count : left ≡ length (items_of slots) = sound.count in
          omega arith

      its_due : now.due (host p.work) ≡ due
      its_due = ap (λ s. s.due) p.sees ∙ p.is_due

      pub own_name : p.owner.name ≡ host p.work
      own_name = sound.table.apart p.owner.name (host p.work) p.place (sound.table.named p.place p.owner p.held p.ready) p.named

      pub waits : moment < due → Answers now (WaitTill due) now
      waits lt = (
        record {
          work = p.work;
          rest = items_of (set slots at (record p.slot { work = None }));
          next = p.next;
          is = sym its_due;
        },
        lt,
        refl,
      )

      -- its host's robots file is asked for
      pub asks : due ≤ moment → SaysNothing p.owner moment → (new : List Host) (name : List ℕ) → name ≡ p.owner.name
          → new ≡ set hosts p.place (record p.owner { name = []; due = next_due now; awaited = true })
          → Answers now (Robots name) (schedule_of agent delay moment names new slots)
      asks is_past nothing new name is changed = (
        record {
          work = p.work;
          rest = items_of (set slots at (record p.slot { work = None }));
          next = p.next;
          due = subst (λ n. n ≤ moment) (sym its_due) is_past;
          named = is ∙ own_name;
          unknown = λ known k. nothing known (sym (ap (λ s. s.known) p.sees ∙ refl) ∙ ap now.known (sym (is ∙ own_name)) ∙ k.last) k.in_use;
        },
        ap (λ hs. schedule_of agent delay moment names hs slots) changed
            ∙ means_asked names hosts slots left turns room sound (host p.work) p.place p.owner p.named p.held agent delay moment
            (record p.owner { name = []; due = next_due now; awaited = true }) refl refl refl
            ∙ ap (asked now) (sym (is ∙ own_name)),
      )

      -- it is answered
      module _ (says : Leave) (new_due : ℕ) (is_new : new_due ≡ due_by says (next_due now) due) where
        moved : Host
        moved = record p.owner { due = new_due; first = p.slot.next }

        means : (l : Leave) → new_due ≡ due_by l (next_due now) due → (new_slots : List Slot)
            → schedule_of agent delay moment names (set hosts p.place (record p.owner { due = new_due; first = p.slot.next })) new_slots ≡ left_after now p.work l (items_of new_slots)
        means leave.Allowed e new_slots =
            means_fetched names hosts slots left turns room sound (host p.work) p.place p.owner p.named p.held agent delay moment (record p.owner { due = new_due; first = p.slot.next }) new_slots refl
            refl e
        means (leave.Denied line) e new_slots =
            means_refused names hosts slots left turns room sound (host p.work) p.place p.owner p.named p.held agent delay moment (record p.owner { due = new_due; first = p.slot.next }) new_slots refl
            refl (e ∙ sym p.is_due)
        means leave.Shut e new_slots =
            means_refused names hosts slots left turns room sound (host p.work) p.place p.owner p.named p.held agent delay moment (record p.owner { due = new_due; first = p.slot.next }) new_slots refl
            refl (e ∙ sym p.is_due)

        pub answers : due ≤ moment → Says p.owner moment p.work says → (new : List Host) (new_slots : List Slot)
            → new ≡ set hosts p.place (record p.owner { due = new_due; first = p.slot.next }) → new_slots ≡ set slots at (record p.slot { work = None })
            → Answers now (answer_of p.work says) (schedule_of agent delay moment names new new_slots)
        answers is_past note new new_slots changed gone =
            answers_said now (schedule_of agent delay moment names new new_slots) p.work says (items_of new_slots)
            (record {
              next = subst (λ t. IsNext now p.work (items_of t)) (sym gone) p.next;
              due = subst (λ n. n ≤ moment) (sym its_due) is_past;
              known = note.known;
              note = record { last = ap (λ s. s.known) p.sees ∙ note.last; in_use = note.in_use };
              leave = note.leave;
            })
            (ap (λ hs. schedule_of agent delay moment names hs new_slots) changed ∙ means says is_new new_slots)
