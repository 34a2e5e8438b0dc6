use Rattle.std.proofs.Common.{◌≡◌, ◌∙◌, ℕ, ◌+◌, ◌*◌, ◌≤◌, List, length, get_or, refl, sym, ap, subst, arith, rules}
use Rattle.byteorder.specs.Endian.{little_number}
use Rattle.irl_layout.specs.Commits.{Commit, IsCommit, sides_byte, commit_bytes, numbers_in}
use Rattle.irl_layout.proofs.CommitBytes.{byte_is_low, length-commit, commit_written, commit_of, same_commit, to_end}
use Rattle.irl_layout.proofs.commit.Commit.decode.Goals as goal
use Rattle.irl_layout.proofs.commit.Commit.decode.Goals.{then-bytes-buckets-via-then-bytes-buckets, then-bytes-buckets-via-else-bytes-buckets+then-bytes-gt5}

pub returns-then-bytes-buckets-clause-none : goal.returns-then-bytes-buckets-clause-none
returns-then-bytes-buckets-clause-none c = λ none commit is bytes.
    let long : length c.args.bytes.now ≡ 33 + 8 * c.args.buckets = ap length bytes ∙ length-commit commit ∙ ap (λ (n : ℕ). 33 + 8 * n) is.count in
    let byte : get_or c.args.bytes.now 0 0 ≡ sides_byte commit.side commit.live = ap (λ (bs : List ℕ). get_or bs 0 0) bytes in
    let low : sides_byte commit.side commit.live ≤ 5 = byte_is_low commit.side commit.live is.side is.live in
    elim c.then-bytes-buckets.branch [
      | then-bytes-buckets-via-then-bytes-buckets w ↦ w.if-bytes-buckets.true long
      | then-bytes-buckets-via-else-bytes-buckets+then-bytes-gt5 w ↦ omega (arith, byte, low, w.if-bytes-gt5.true)
    ]

pub returns-clause-found : goal.returns-clause-found
returns-clause-found c =
    let side = c.sides-side.result.0 in
    let live = c.sides-side.result.1 in
    let written = commit_written c.args.buckets c.args.bytes.now side live c.if-bytes-buckets.false (search rules) c.sides-side.ensures.byte c.sides-side.ensures.side c.sides-side.ensures.live in
    let same = same_commit side live c.read_u64.result c.read_u64-2.result c.read_u64-3.result c.read_u64-4.result c.in_ok-numbers.field-0.items (commit_of side live c.args.buckets c.args.bytes.now)
    refl refl
    (c.read_u64.ensures ∙ ap (little_number 8) (to_end 1 c.args.bytes.now))
    (c.read_u64-2.ensures ∙ ap (little_number 8) (to_end 9 c.args.bytes.now))
    (c.read_u64-3.ensures ∙ ap (little_number 8) (to_end 17 c.args.bytes.now))
    (c.read_u64-4.ensures ∙ ap (little_number 8) (to_end 25 c.args.bytes.now))
    (c.in_ok-numbers.ensures ∙ ap (numbers_in c.args.buckets) (to_end 33 c.args.bytes.now)) in
    subst (λ (commit : Commit). IsCommit c.args.buckets commit × (c.args.bytes.now ≡ commit_bytes commit)) (sym same) (written.1, written.0)
