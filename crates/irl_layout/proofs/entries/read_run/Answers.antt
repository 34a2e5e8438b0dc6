use Rattle.std.proofs.Common.{◌≡◌, ◌∙◌, ℕ, ◌*◌, List, [], ◌∷◌, length, ◌++◌, sym, ap, arith, append-nil, append_assoc}
use Rattle.std.proofs.lemmas.Bool.{eqb-true, eqb-false}
use Rattle.std.proofs.lemmas.List.{nil_from_length}
use Rattle.irl_offer.specs.declared.entry.Entry.{Entry}
use Rattle.irl_layout.specs.EntryRuns.{entries_bytes}
use Rattle.irl_layout.proofs.EntryBytes.{length-entries, read_none, read_more, none_there, too_few}
use Rattle.irl_layout.proofs.entries.read_run.Goals as goal
use Rattle.irl_layout.proofs.entries.read_run.Goals.{then-is_empty-via-then-is_empty, then-is_empty-via-else-is_empty+then-payload-settings}

pub returns-then-is_empty-clause-none : goal.returns-then-is_empty-clause-none
returns-then-is_empty-clause-none c = λ no run is bytes.
    let long : length c.args.payload.now ≡ 27 * length run = ap length bytes ∙ length-entries run in
    elim c.then-is_empty.branch [
      | then-is_empty-via-then-is_empty w ↦ omega (arith, is.some, long, eqb-true (length c.args.payload.now) 0 (sym c.is_empty.ensures ∙ w.if-is_empty.true))
      | then-is_empty-via-else-is_empty+then-payload-settings w ↦ omega (arith, is.few, long)
    ]

pub loop-bytes-init : goal.loop-bytes-init
loop-bytes-init c = ([], read_none c.args.settings.now.buckets c.args.b c.args.payload.now, sym (append-nil c.args.entries.now.items))

pub returns-in_default-read_entry-clause-none : goal.returns-in_default-read_entry-clause-none
returns-in_default-read_entry-clause-none c = λ no run is bytes.
    none_there _ _ c.args.payload.now c.loop-bytes.rest.now c.in-Some.bytes.now c.loop-bytes.invariant.0 c.loop-bytes.invariant.1 (omega (arith, c.in-Some.ensures.cases)) c.in-Some.ensures.cases.0
    c.in_default-read_entry.ensures run is.each bytes

pub loop-bytes-preserved : goal.loop-bytes-preserved
loop-bytes-preserved c =
    let found = c.in-Some-read_entry.ensures in
    let e = c.in-Some-read_entry.entry in
    let so_far = c.loop-bytes.invariant in (
      so_far.0 ++ e ∷ [],
      read_more _ _ c.args.payload.now c.loop-bytes.rest.now c.in-Some.bytes.now c.in-Some.behind.now so_far.0 e so_far.1 found.0 found.1 c.in-Some.ensures.cases.0 c.in-Some.ensures.cases.1,
      c.in_ok-push.ensures.items ∙ ap (λ (l : List Entry). l ++ e ∷ []) so_far.2 ∙ append_assoc c.args.entries.now.items so_far.0 (e ∷ []),
    )

pub returns-clause-run : goal.returns-clause-run
returns-clause-run c = λ yes.
    let taken = c.loop-bytes.invariant.0 in
    let so_far = c.loop-bytes.invariant.1 in
    let rest = c.loop-bytes.rest.now in
    let none : rest ≡ [] = nil_from_length rest (eqb-true (length rest) 0 (sym c.is_empty-2.ensures ∙ yes)) in
    let all : c.args.payload.now ≡ entries_bytes taken = so_far.are ∙ ap (λ (l : List ℕ). entries_bytes taken ++ l) none ∙ append-nil (entries_bytes taken) in
    let long : length c.args.payload.now ≡ 27 * length taken = ap length all ∙ length-entries taken in
    let some : length c.args.payload.now ≡ 0 → ⊥ = eqb-false (length c.args.payload.now) 0 (sym c.is_empty.ensures ∙ c.if-is_empty.false) in
    (taken, record { some = omega (arith, long, some); few = omega (arith, long, c.if-payload-settings.false); each = so_far.each }, all, c.loop-bytes.invariant.2)

pub returns-clause-none : goal.returns-clause-none
returns-clause-none c = λ no run is bytes.
    let rest = c.loop-bytes.rest.now in
    let some : length rest ≡ 0 → ⊥ = eqb-false (length rest) 0 (sym c.is_empty-2.ensures ∙ no) in
    too_few _ _ c.args.payload.now rest c.loop-bytes.invariant.0 c.loop-bytes.invariant.1 (omega (arith, some)) c.in_default.ensures.cases run bytes
