-- The sync's images have the file's bytes, and what follows it changes at most a file of at most one byte.
use Rattle.std.proofs.Common.{◌≡◌, ◌∙◌, ◌≤◌, ℕ, List, [], ◌∷◌, length, true, inl, inr, refl, sym, ap, subst, arith, rules}
use Rattle.irl_disk.specs.Disk.{Files}
use Rattle.irl_journal.specs.Format.{records_text, placed_from}
use Rattle.irl_journal.specs.Visiting.{TakesAll}
use Rattle.irl_journal.specs.Appending.{Ends, Tail, IsOpen}
use Rattle.irl_journal.proofs.Gates.{made_empty}
use Rattle.irl_journal.proofs.Lists.{found_only, refuses_one}
use Rattle.irl_journal.proofs.Opened.{stays_so, opens, stays_synced, as_synced}
use Rattle.irl_journal.proofs.journal.Journal.visit.Given.{Over}
use Rattle.irl_journal.proofs.journal.Journal.visit.Goals as goal

-- what a journal that was opened on a list says of it
abbrev IsOpenedOn : (g : Over) (images : Files → Type 0) (tail : Tail) (old new : g.row.V.Denot) → List (List ℕ) → Type 0
IsOpenedOn g images tail old new payloads = (tail.end ≡ length (records_text payloads)) × TakesAll g.V.Visit.takes old (placed_from 0 payloads) new × IsOpen images tail payloads

pub returns-in_err-end-clause-damaged : goal.returns-in_err-end-clause-damaged
returns-in_err-end-clause-damaged g c = λ at e files tells.
    let why = c.in_err-end.ensures.damaged at (search rules) files (c.in_ok-length.ensures.same ∙ c.in_ok-sync.ensures.same ∙ tells) in
    record {
      why = why;
      refused = λ payloads stands. refuses_one g.V.Visit.takes g.V.Visit.refuses c.args.visitor.now c.read_records.new.visitor (files c.args.f) payloads at stands why;
    }

-- a file of more than one byte
pub returns-then-length-gt1-clause-visited : goal.returns-then-length-gt1-clause-visited
returns-then-length-gt1-clause-visited g c = λ files tells.
    let tell = g.S.Store.told in
    let law = g.met.S.Store.is_consistent in
    let read = c.in_ok-end.ensures.records files (c.in_ok-length.ensures.same ∙ c.in_ok-sync.ensures.same ∙ tells) in
    let kept = stays_so (tell c.sync.new.self) (tell c.length.new.self) (tell c.read_records.new.store) (law c.length.new.self) c.in_ok-length.ensures.stops c.in_ok-end.ensures.reads.stops in
    let images = (tell c.read_records.new.store).images in
    let has : IsOpenedOn g images (record { file = c.args.f; end = c.in_ok-end.end; is_sound = true }) c.args.visitor.now c.read_records.new.visitor read.0 = (
      read.1.place,
      read.2,
      λ image left. subst (λ (bytes : List ℕ). Ends c.in_ok-end.end bytes read.0)
          (sym (stays_synced c.args.f (tell c.sync.new.self) (tell c.read_records.new.store) files (law c.read_records.new.store) (c.in_ok-sync.ensures.durable files tells) kept image left))
          read.1,
    ) in
    record {
      found = (read.0, inr read.1.records);
      records = λ payloads stands.
          found_only (IsOpenedOn g images c.behind.result c.args.visitor.now c.read_records.new.visitor) (files c.args.f) read.0 payloads (inr read.1.records) stands
          (subst (λ (tail : Tail). IsOpenedOn g images tail c.args.visitor.now c.read_records.new.visitor read.0) (sym c.behind.ensures) has);
    }

-- a closed gate alone
pub returns-then-branch-clause-visited : goal.returns-then-branch-clause-visited
returns-then-branch-clause-visited g c = λ files tells.
    let tell = g.S.Store.told in
    let law = g.met.S.Store.is_consistent in
    let kept = stays_so (tell c.sync.new.self) (tell c.length.new.self) (tell c.is_closed_gate.new.store) (law c.length.new.self) c.in_ok-length.ensures.stops
    c.in_ok-is_closed_gate.ensures.reads.stops in
    let images = (tell c.is_closed_gate.new.store).images in
    let gate : files c.args.f ≡ 0 ∷ [] = c.in_ok-is_closed_gate.ensures.closed c.if-branch.true files (c.in_ok-length.ensures.same ∙ c.in_ok-sync.ensures.same ∙ tells) in
    let few : length (files c.args.f) ≤ 1 = rw gate (omega arith) in
    let has : IsOpenedOn g images (record { file = c.args.f; end = 0; is_sound = true }) c.args.visitor.now c.args.visitor.now [] = (
      refl,
      refl,
      λ image left. made_empty (image c.args.f)
          (stays_synced c.args.f (tell c.sync.new.self) (tell c.is_closed_gate.new.store) files (law c.is_closed_gate.new.store) (c.in_ok-sync.ensures.durable files tells) kept image left ∙ gate),
    ) in
    record {
      found = ([], inl (few, refl));
      records = λ payloads stands.
          found_only (IsOpenedOn g images c.behind-then-branch.result c.args.visitor.now c.args.visitor.now) (files c.args.f) [] payloads (inl (few, refl)) stands
          (subst (λ (tail : Tail). IsOpenedOn g images tail c.args.visitor.now c.args.visitor.now []) (sym c.behind-then-branch.ensures) has);
    }

-- a file whose gate is written
pub returns-clause-visited : goal.returns-clause-visited
returns-clause-visited g c = λ files tells.
    let images = (g.S.Store.told c.make.new.store).images in
    let size : c.in_ok-length.length ≡ length (files c.args.f) = rw (c.in_ok-sync.ensures.same ∙ tells) at c.in_ok-length.ensures.value in
    let few : length (files c.args.f) ≤ 1 = omega (arith, c.if-length-gt1.false) in
    let has : IsOpenedOn g images c.in_ok-make.field-0 c.args.visitor.now c.args.visitor.now [] = (ap (λ (tail : Tail). tail.end) c.in_ok-make.ensures.journal, refl, c.in_ok-make.ensures.open) in
    record {
      found = ([], inl (few, refl));
      records = λ payloads stands.
          found_only (IsOpenedOn g images c.in_ok-make.field-0 c.args.visitor.now c.args.visitor.now) (files c.args.f) [] payloads (inl (few, refl)) stands has;
    }

pub returns-in_err-make-clause-changes : goal.returns-in_err-make-clause-changes
returns-in_err-make-clause-changes g c = record {
  told = search rules;
  stops =
      let tell = g.S.Store.told in
      let law = g.met.S.Store.is_consistent in
      let read = stays_so (tell c.sync.new.self) (tell c.length.new.self) (tell c.is_closed_gate.new.store) (law c.length.new.self) c.in_ok-length.ensures.stops
      c.in_ok-is_closed_gate.ensures.reads.stops in
      let kept = stays_so (tell c.args.store.now) (tell c.sync.new.self) (tell c.is_closed_gate.new.store) (law c.sync.new.self) c.in_ok-sync.ensures.stops read in
      opens c.args.f (tell c.args.store.now) (tell c.is_closed_gate.new.store) (tell c.make.new.store) (law c.is_closed_gate.new.store) kept
      (λ image left.
      let rest = as_synced c.args.f (tell c.args.store.now) (tell c.sync.new.self) (tell c.is_closed_gate.new.store) (law c.sync.new.self) (law c.is_closed_gate.new.store) c.in_ok-sync.ensures.same
      c.in_ok-sync.ensures.durable read image left in
      let size : c.in_ok-length.length ≡ length (rest.0 c.args.f) = rw rest.1 at c.in_ok-length.ensures.value in
      (rw rest.2 (omega (arith, size, c.if-length-gt1.false)), λ e. c.in_ok-is_closed_gate.ensures.other c.if-branch.false rest.0 (c.in_ok-length.ensures.same ∙ rest.1) (sym rest.2 ∙ e)))
      c.in_err-make.ensures.changes.stops;
  taken = search rules;
  cause = search rules;
}

pub returns-clause-changes : goal.returns-clause-changes
returns-clause-changes g c = record {
  told = search rules;
  stops =
      let tell = g.S.Store.told in
      let law = g.met.S.Store.is_consistent in
      let read = stays_so (tell c.sync.new.self) (tell c.length.new.self) (tell c.is_closed_gate.new.store) (law c.length.new.self) c.in_ok-length.ensures.stops
      c.in_ok-is_closed_gate.ensures.reads.stops in
      let kept = stays_so (tell c.args.store.now) (tell c.sync.new.self) (tell c.is_closed_gate.new.store) (law c.sync.new.self) c.in_ok-sync.ensures.stops read in
      opens c.args.f (tell c.args.store.now) (tell c.is_closed_gate.new.store) (tell c.make.new.store) (law c.is_closed_gate.new.store) kept
      (λ image left.
      let rest = as_synced c.args.f (tell c.args.store.now) (tell c.sync.new.self) (tell c.is_closed_gate.new.store) (law c.sync.new.self) (law c.is_closed_gate.new.store) c.in_ok-sync.ensures.same
      c.in_ok-sync.ensures.durable read image left in
      let size : c.in_ok-length.length ≡ length (rest.0 c.args.f) = rw rest.1 at c.in_ok-length.ensures.value in
      (rw rest.2 (omega (arith, size, c.if-length-gt1.false)), λ e. c.in_ok-is_closed_gate.ensures.other c.if-branch.false rest.0 (c.in_ok-length.ensures.same ∙ rest.1) (sym rest.2 ∙ e)))
      c.in_ok-make.ensures.changes.stops;
  taken = search rules;
  cause = search rules;
}
