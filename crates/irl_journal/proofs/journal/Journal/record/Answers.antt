-- What was read from the place on is a record, or none stands there.
use Rattle.std.proofs.Common.{◌≡◌, ◌∙◌, ◌+◌, ◌≤◌, ◌++◌, List, ℕ, length, take, drop, sym, ap, subst, arith}
use Rattle.std.proofs.Math.Seq.{take-append_seam}
use Rattle.irl_journal.specs.Blob.{Front}
use Rattle.irl_journal.specs.Format.{StandsAt}
use Rattle.irl_journal.proofs.Placed.{read_is, placed_long, placed_within, placed_front, same_lengths, placed_there, placed_one, placed_of}
use Rattle.irl_journal.proofs.journal.Journal.record.Goals as goal

-- the file ends before the length
pub returns-then-not-branch-clause-damaged : goal.returns-then-not-branch-clause-damaged
returns-then-not-branch-clause-damaged g c = λ place e. (
  cc,
  λ files tells payload stands.
      let named : c.at-blob.result.file ≡ c.args.self.now.file = ap (λ (b : Front). b.file) c.at-blob.ensures ∙ c.file.ensures.value in
      let size : length c.read.new.into ≡ 5 = c.read.auto.into in
      let long = placed_long c.args.at c.args.self.now.end (files c.args.self.now.file) payload stands in
      let file = ap (λ (f : ℕ). length (files f)) named in
      let filled = (c.in_ok-read.ensures.long files tells).1 (omega (arith, size, file, long)) in
      let not_filled = c.if-not-branch.true in
      cc,
)

-- the gate is closed, or the length is none of a payload
pub returns-in_default-clause-damaged : goal.returns-in_default-clause-damaged
returns-in_default-clause-damaged g c = λ place e. (
  cc,
  λ files tells payload stands.
      let named : c.at-blob.result.file ≡ c.args.self.now.file = ap (λ (b : Front). b.file) c.at-blob.ensures ∙ c.file.ensures.value in
      let size : length c.read.new.into ≡ 5 = c.read.auto.into in
      let front_is = read_is files c.read.new.into c.args.at 5 c.at-blob.result.file c.args.self.now.file (c.in_ok-read.ensures.bytes c.if-not-branch.false files tells) size named in
      c.in_default.ensures.none (length payload) stands.fits (front_is ∙ placed_front c.args.at c.args.self.now.end (files c.args.self.now.file) payload stands),
)

-- the payload passes the journal's end
pub returns-then-from-end-clause-damaged : goal.returns-then-from-end-clause-damaged
returns-then-from-end-clause-damaged g c = λ place e. (
  cc,
  λ files tells payload stands.
      let named : c.at-blob.result.file ≡ c.args.self.now.file = ap (λ (b : Front). b.file) c.at-blob.ensures ∙ c.file.ensures.value in
      let size : length c.read.new.into ≡ 5 = c.read.auto.into in
      let front_is = read_is files c.read.new.into c.args.at 5 c.at-blob.result.file c.args.self.now.file (c.in_ok-read.ensures.bytes c.if-not-branch.false files tells) size named in
      let front = placed_front c.args.at c.args.self.now.end (files c.args.self.now.file) payload stands in
      let same = same_lengths c.in-Some.length (length payload) c.in-Some.ensures.found.0 stands.fits (sym c.in-Some.ensures.found.1 ∙ front_is ∙ front) in
      absurd (omega (arith, same, placed_within c.args.at c.args.self.now.end (files c.args.self.now.file) payload stands, c.if-from-end.true, c.from.ensures, c.end.ensures)),
)

-- the file ends before the payload does
pub returns-then-not-branch-2-clause-damaged : goal.returns-then-not-branch-2-clause-damaged
returns-then-not-branch-2-clause-damaged g c = λ place e. (
  cc,
  λ files tells payload stands.
      let named : c.at-blob.result.file ≡ c.args.self.now.file = ap (λ (b : Front). b.file) c.at-blob.ensures ∙ c.file.ensures.value in
      let size : length c.read.new.into ≡ 5 = c.read.auto.into in
      let front_is = read_is files c.read.new.into c.args.at 5 c.at-blob.result.file c.args.self.now.file (c.in_ok-read.ensures.bytes c.if-not-branch.false files tells) size named in
      let told = c.in_ok-read.ensures.reads.same ∙ tells in
      let size_2 : length c.read-2.new.into ≡ c.in_ok-payload.payload.len = c.read-2.auto.into ∙ c.deref_mut.ensures.len in
      let all : c.in_ok-payload.payload.len ≡ c.in-Some.length = c.in_ok-payload.ensures.len in
      let front = placed_front c.args.at c.args.self.now.end (files c.args.self.now.file) payload stands in
      let same = same_lengths c.in-Some.length (length payload) c.in-Some.ensures.found.0 stands.fits (sym c.in-Some.ensures.found.1 ∙ front_is ∙ front) in
      let long = placed_long c.args.at c.args.self.now.end (files c.args.self.now.file) payload stands in
      let file = ap (λ (f : ℕ). length (files f)) named in
      let filled = (c.in_ok-read-2.ensures.long files told).1 (omega (arith, size_2, all, same, file, long)) in
      let not_filled = c.if-not-branch-2.true in
      cc,
)

pub returns-clause-found : goal.returns-clause-found
returns-clause-found g c = λ files tells.
    let named : c.at-blob.result.file ≡ c.args.self.now.file = ap (λ (b : Front). b.file) c.at-blob.ensures ∙ c.file.ensures.value in
    let size : length c.read.new.into ≡ 5 = c.read.auto.into in
    let front_is = read_is files c.read.new.into c.args.at 5 c.at-blob.result.file c.args.self.now.file (c.in_ok-read.ensures.bytes c.if-not-branch.false files tells) size named in
    let told = c.in_ok-read.ensures.reads.same ∙ tells in
    let size_2 : length c.read-2.new.into ≡ c.in_ok-payload.payload.len = c.read-2.auto.into ∙ c.deref_mut.ensures.len in
    let all : c.in_ok-payload.payload.len ≡ c.in-Some.length = c.in_ok-payload.ensures.len in
    let payload_is = read_is files c.read-2.new.into (c.args.at + 5) c.in-Some.length c.at-blob.result.file c.args.self.now.file (c.in_ok-read-2.ensures.bytes c.if-not-branch-2.false files told)
    (size_2 ∙ all) named in
    let within : c.args.at + 5 + c.in-Some.length ≤ c.args.self.now.end = omega (arith, c.if-from-end.false, c.from.ensures, c.end.ensures, c.requires) in
    let there = placed_there c.args.at c.args.self.now.end c.in-Some.length (files c.args.self.now.file) c.read.new.into c.read-2.new.into c.in-Some.ensures.found.0 within c.in-Some.ensures.found.1
    front_is (size_2 ∙ all) payload_is in
    let items : take c.in_ok-payload.payload.len (c.read-2.new.into ++ drop (length c.read-2.new.into) c.in_ok-payload.payload.items) ≡ c.read-2.new.into =
    ap (λ (n : ℕ). take n (c.read-2.new.into ++ drop (length c.read-2.new.into) c.in_ok-payload.payload.items)) (sym size_2)
    ∙ take-append_seam c.read-2.new.into (drop (length c.read-2.new.into) c.in_ok-payload.payload.items) in
    subst (λ (l : List ℕ). StandsAt c.args.at c.args.self.now.end (files c.args.self.now.file) l) (sym items) there

pub returns-clause-one : goal.returns-clause-one
returns-clause-one g c = λ files tells first more one ends here.
    let named : c.at-blob.result.file ≡ c.args.self.now.file = ap (λ (b : Front). b.file) c.at-blob.ensures ∙ c.file.ensures.value in
    let size : length c.read.new.into ≡ 5 = c.read.auto.into in
    let front_is = read_is files c.read.new.into c.args.at 5 c.at-blob.result.file c.args.self.now.file (c.in_ok-read.ensures.bytes c.if-not-branch.false files tells) size named in
    let told = c.in_ok-read.ensures.reads.same ∙ tells in
    let size_2 : length c.read-2.new.into ≡ c.in_ok-payload.payload.len = c.read-2.auto.into ∙ c.deref_mut.ensures.len in
    let all : c.in_ok-payload.payload.len ≡ c.in-Some.length = c.in_ok-payload.ensures.len in
    let payload_is = read_is files c.read-2.new.into (c.args.at + 5) c.in-Some.length c.at-blob.result.file c.args.self.now.file (c.in_ok-read-2.ensures.bytes c.if-not-branch-2.false files told)
    (size_2 ∙ all) named in
    let within : c.args.at + 5 + c.in-Some.length ≤ c.args.self.now.end = omega (arith, c.if-from-end.false, c.from.ensures, c.end.ensures, c.requires) in
    let there = placed_there c.args.at c.args.self.now.end c.in-Some.length (files c.args.self.now.file) c.read.new.into c.read-2.new.into c.in-Some.ensures.found.0 within c.in-Some.ensures.found.1
    front_is (size_2 ∙ all) payload_is in
    let items : take c.in_ok-payload.payload.len (c.read-2.new.into ++ drop (length c.read-2.new.into) c.in_ok-payload.payload.items) ≡ c.read-2.new.into =
    ap (λ (n : ℕ). take n (c.read-2.new.into ++ drop (length c.read-2.new.into) c.in_ok-payload.payload.items)) (sym size_2)
    ∙ take-append_seam c.read-2.new.into (drop (length c.read-2.new.into) c.in_ok-payload.payload.items) in
    items ∙ placed_one c.args.at c.args.self.now.end (files c.args.self.now.file) c.read-2.new.into one there
    (placed_of c.args.self.now.end c.args.at (files c.args.self.now.file) first more one ends here)
