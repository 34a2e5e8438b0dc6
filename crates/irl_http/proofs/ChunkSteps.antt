-- The steps of reading a body in chunks.
use Rattle.std.proofs.Common.{◌≡◌, ◌≢◌, ℕ, ◌+◌, ◌-◌, ◌<◌, ◌≤◌, ◌⊎◌, inl, inr, true, false, List, [], ◌∷◌, ◌++◌, None, length, take, drop, get_or, refl, sym, ap, ◌∙◌, subst, arith, IsTrue, append-nil, append_assoc, length-append, length-take, length-drop}
use Rattle.std.specs.List.{AllByRecursion}
use Rattle.std.specs.Char.{is_ascii_hexdigit}
use Rattle.std.proofs.Math.Seq.{take-add}
use Rattle.std.proofs.lemmas.Bool.{cases_lt}
use Rattle.std.proofs.lemmas.Grind.{flat_map-append}
use Rattle.std.proofs.lemmas.List.{take_at, take-take, take-append-drop}
use Rattle.std.proofs.lemmas.List.Elements.{All-cons, All-nil}
use Rattle.httparse.specs.Ascii.{crlf_bytes}
use Rattle.httparse.specs.Grammar.{ChunkLine, IsChunkLine, is_ows, print_extension, print_chunk_line, chunk_size, ReadsChunkLine, HasNoChunkLine, NeverHasChunkLine}
use Rattle.httparse.proofs.ChunkLemmas.{chunk_line_unique, ReadsChunkLine-append}
use Rattle.irl_offer.specs.declared.reply.Want.{Want}
use Rattle.irl_http.specs.declared.fields.Plan.TheVariants as plan
use Rattle.irl_http.specs.Chunks.{Chunk, IsChunk, IsShortLine, print_chunk, print_chunks, content_of, EndsChunks, EndsInChunk, BreaksChunks, BreaksLineEnd, IsNoLine, max_chunk_line}
use Rattle.std.proofs.Common.{Bool, cond, eqb}
use Rattle.std.proofs.lemmas.Bool.{eqb-true, eqb-false}
use Rattle.httparse.specs.Grammar.{MayBecomeChunkLine}
use Rattle.httparse.specs.Spans.{IsChunkLineAt}
use Rattle.irl_http.specs.declared.chunks.Due.{Due}
use Rattle.irl_http.specs.declared.chunks.Due.TheVariants as due
use Rattle.irl_http.specs.declared.chunks.Progress.{Progress}
use Rattle.irl_http.specs.declared.chunks.Progress.TheVariants as progress
use Rattle.irl_http.specs.Bodies.{most_of, QuietBody, QuietAhead, InChunk, AfterChunks, IsDue, due_after, Moves, MovesOn, StepAs, AdvanceAs}
use Rattle.irl_http.proofs.ChunkLemmas.{quiet_tail, open_no_chunk, open_quiet, part_quiet, part_no_chunk}

-- the shortest chunk line
least : ChunkLine
least = record { digits = 48 ∷ []; pad = []; extension = None }

least_valid : IsChunkLine least
unfolding least
least_valid =
    record {
      digits = (omega arith, omega arith, All-cons (λ b. IsTrue (is_ascii_hexdigit b)) 48 [] refl (All-nil (λ b. IsTrue (is_ascii_hexdigit b))));
      pad = All-nil (λ b. IsTrue (is_ows b));
      extension = tt;
    }

pub line_empty_may : ¬ NeverHasChunkLine []
line_empty_may never = never (print_chunk_line least) least [] (least_valid, sym (append-nil (print_chunk_line least)))

pub line_long : (l : ChunkLine) → IsChunkLine l → 3 ≤ length (print_chunk_line l)
unfolding print_chunk_line
line_long l v = omega (
  arith,
  length-append (l.digits ++ l.pad ++ print_extension l.extension) crlf_bytes,
  length-append (l.digits ++ l.pad) (print_extension l.extension),
  length-append l.digits l.pad,
  v.digits.0,
)

pub line_empty_none : HasNoChunkLine []
line_empty_none l rest reads = omega (arith, ap length reads.1, length-append (print_chunk_line l) rest, line_long l reads.0)

pub line_some_bad : (front : List ℕ) → NeverHasChunkLine front → 0 < length front
line_some_bad [] never = absurd (line_empty_may never)
line_some_bad (x ∷ xs) never = omega arith

-- prefixes
pub line_none_take : (n : ℕ) (front : List ℕ) → HasNoChunkLine front → HasNoChunkLine (take n front)
line_none_take n front none l rest reads = none l (rest ++ drop n front) (subst (λ b. ReadsChunkLine b l (rest ++ drop n front)) (take-append-drop n front)
    (ReadsChunkLine-append (take n front) l rest (drop n front) reads))

pub line_may_take : (n : ℕ) (front : List ℕ) → ¬ NeverHasChunkLine front → ¬ NeverHasChunkLine (take n front)
line_may_take n front may never = may (λ more l rest reads. never (drop n front ++ more) l rest
    (subst (λ b. ReadsChunkLine b l rest) (ap (λ b. b ++ more) (sym (take-append-drop n front)) ∙ append_assoc (take n front) (drop n front) more) reads))

pub line_none_in_bad : (n : ℕ) (front : List ℕ) → NeverHasChunkLine front → HasNoChunkLine (take n front)
line_none_in_bad n front never l rest reads = never [] l ((rest ++ drop n front) ++ [])
    (ReadsChunkLine-append front l (rest ++ drop n front) [] (subst (λ b. ReadsChunkLine b l (rest ++ drop n front)) (take-append-drop n front)
    (ReadsChunkLine-append (take n front) l rest (drop n front) reads)))

line_none_inside : (l : ChunkLine) (front rest : List ℕ) (n : ℕ) → ReadsChunkLine front l rest → n < length (print_chunk_line l) → HasNoChunkLine (take n front)
line_none_inside l front rest n reads below k q other =
    let same = chunk_line_unique front l k rest (q ++ drop n front) reads (subst (λ b. ReadsChunkLine b k (q ++ drop n front)) (take-append-drop n front)
    (ReadsChunkLine-append (take n front) k q (drop n front) other)) in
    omega (arith, ap (λ g. length (print_chunk_line g)) same.0, ap length other.1, length-append (print_chunk_line k) q, length-take n front, below)

line_may_inside : (l : ChunkLine) (front rest : List ℕ) (n : ℕ) → ReadsChunkLine front l rest → ¬ NeverHasChunkLine (take n front)
line_may_inside l front rest n reads = line_may_take n front (λ never. never [] l (rest ++ []) (ReadsChunkLine-append front l rest [] reads))

-- behind whole chunks an open line shows nothing
pub after_quiet : (want : Want) (body done x : List ℕ) → AfterChunks body done → HasNoChunkLine x → ¬ NeverHasChunkLine x → length x < max_chunk_line → QuietBody want plan.Chunked (done ++ x)
after_quiet want body done x a none may few = subst (λ d. QuietBody want plan.Chunked (d ++ x)) (sym a.whole)
    (quiet_tail want a.chunks x a.valid (open_no_chunk x none) (open_quiet want (content_of a.chunks) x none may few))

-- nor does a part of a chunk
pub in_quiet : (want : Want) (left : ℕ) (behind body done : List ℕ) → InChunk left behind body done → (behind ≡ []) ⊎ ((behind ≡ 13 ∷ []) × (left ≡ 0)) → length body < most_of want
    → QuietBody want plan.Chunked done
in_quiet want left behind body done a is few =
    let fits : length a.part ≤ chunk_size a.line = omega (arith, a.size) in
    let ends : (behind ≡ []) ⊎ ((behind ≡ 13 ∷ []) × (length a.part ≡ chunk_size a.line)) = elim is [ inl e ↦ inl e | inr (e, z) ↦ inr (e, omega (arith, a.size, z)) ] in
    let short : length (a.part ++ behind) < chunk_size a.line + 2 = elim is [
      | inl e ↦ omega (arith, length-append a.part behind, ap length e, fits)
      | inr (e, z) ↦ omega (
        arith,
        length-append a.part behind,
        ap length e,
        fits,
      )
    ] in
    subst (QuietBody want plan.Chunked) (sym a.whole) (quiet_tail want a.chunks _ a.valid (part_no_chunk a.line a.part behind a.short short)
    (part_quiet want (content_of a.chunks) a.line a.part behind a.short a.some fits ends (omega (arith, ap length a.body_is, few))))

-- some bytes more of a chunk
pub in_more : (left : ℕ) (body done t : List ℕ) → InChunk left [] body done → length t ≤ left → InChunk (left - length t) [] (body ++ t) (done ++ t)
in_more left body done t a fits = record {
  chunks = a.chunks;
  line = a.line;
  part = a.part ++ t;
  valid = a.valid;
  short = a.short;
  some = a.some;
  size = omega (arith, length-append a.part t, a.size, fits);
  whole = ap (λ d. d ++ t) a.whole ∙ regroup (print_chunks a.chunks) (print_chunk_line a.line) a.part t;
  body_is = ap (λ b. b ++ t) a.body_is ∙ append_assoc (content_of a.chunks) a.part t;
}
  where
    regroup : (w x y z : List ℕ) → (w ++ (x ++ (y ++ []))) ++ z ≡ w ++ (x ++ ((y ++ z) ++ []))
    regroup w x y z = simp (append_assoc, append-nil)

-- a byte behind a chunk
pub in_behind : (left : ℕ) (behind body done t : List ℕ) → InChunk left behind body done → InChunk left (behind ++ t) body (done ++ t)
in_behind left behind body done t a = record {
  chunks = a.chunks;
  line = a.line;
  part = a.part;
  valid = a.valid;
  short = a.short;
  some = a.some;
  size = a.size;
  whole = ap (λ d. d ++ t) a.whole ∙ regroup (print_chunks a.chunks) (print_chunk_line a.line) a.part behind t;
  body_is = a.body_is;
}
  where
    regroup : (w x y v z : List ℕ) → (w ++ (x ++ (y ++ v))) ++ z ≡ w ++ (x ++ (y ++ (v ++ z)))
    regroup w x y v z = simp append_assoc

-- the body is full within a chunk
pub in_full : (left : ℕ) (body done t : List ℕ) → InChunk left [] body done → length t ≤ left → 0 < length t → EndsInChunk (done ++ t) (body ++ t)
in_full left body done t a fits some = record {
  chunks = a.chunks;
  line = a.line;
  part = a.part ++ t;
  valid = a.valid;
  short = a.short;
  some = omega (arith, length-append a.part t, some);
  within = omega (arith, length-append a.part t, a.size, fits);
  whole = ap (λ d. d ++ t) a.whole ∙ regroup (print_chunks a.chunks) (print_chunk_line a.line) a.part t;
  content_is = ap (λ b. b ++ t) a.body_is ∙ append_assoc (content_of a.chunks) a.part t;
}
  where
    regroup : (w x y z : List ℕ) → (w ++ (x ++ (y ++ []))) ++ z ≡ w ++ (x ++ (y ++ z))
    regroup w x y z = simp (append_assoc, append-nil)

all_push : (cs : List Chunk) (c : Chunk) → AllByRecursion IsChunk cs → IsChunk c → AllByRecursion IsChunk (cs ++ c ∷ [])
all_push [] c vs v = (v, tt)
all_push (d ∷ cs) c vs v = (vs.0, all_push cs c vs.1 v)

-- the chunk is whole
pub in_ended : (body done : List ℕ) → InChunk 0 (13 ∷ 10 ∷ []) body done → AfterChunks body done
in_ended body done a =
    let c : Chunk = record { line = a.line; bytes = a.part } in
    record {
      chunks = a.chunks ++ c ∷ [];
      valid = all_push a.chunks c a.valid (record { line = a.short; some = omega (arith, a.size, a.some); size = omega (arith, a.size) });
      whole = a.whole ∙ sym (flat_map-append print_chunk a.chunks (c ∷ []) ∙ ap (λ l. print_chunks a.chunks ++ l) (append-nil (print_chunk c)));
      body_is = a.body_is ∙ sym (flat_map-append (λ (d : Chunk). d.bytes) a.chunks (c ∷ []) ∙ ap (λ l. content_of a.chunks ++ l) (append-nil a.part));
    }

-- the line end is broken
pub in_broken : (behind body done : List ℕ) → InChunk 0 behind body done → BreaksLineEnd behind → BreaksChunks done
in_broken behind body done a broken = record {
  chunks = a.chunks;
  behind = print_chunk_line a.line ++ (a.part ++ behind);
  valid = a.valid;
  whole = a.whole;
  broken = inr (record { line = a.line; part = a.part; behind = behind; short = a.short; some = omega (arith, a.size, a.some); size = omega (arith, a.size); whole = refl; broken = broken });
}

-- nothing ahead
pub quiet_here : (want : Want) (done ahead : List ℕ) → QuietBody want plan.Chunked done → QuietAhead want done ahead 1
quiet_here want done ahead quiet m below =
    let zero : m ≡ 0 = omega arith in
    subst (QuietBody want plan.Chunked) (sym (ap (λ k. done ++ take k ahead) zero ∙ append-nil done)) quiet

pub quiet_both : (want : Want) (done ahead : List ℕ) → QuietBody want plan.Chunked done → QuietBody want plan.Chunked (done ++ take 1 ahead) → QuietAhead want done ahead 2
quiet_both want done ahead here next m below = elim (cases_lt m 1) [
  | inl less ↦ quiet_here want done ahead here m less
  | inr more ↦ let one : m ≡ 1 = omega arith in subst (λ k. QuietBody want plan.Chunked (done ++ take k ahead)) (sym one) next
]

-- bytes of a chunk, one after another
pub part_ahead : (want : Want) (left : ℕ) (body done ahead : List ℕ) (n : ℕ) → InChunk left [] body done → n ≤ left + 1 → n ≤ length ahead + 1 → length body + n ≤ most_of want
    → QuietAhead want done ahead n
part_ahead want left body done ahead n a fits within few m below =
    let size : length (take m ahead) ≡ m = omega (arith, length-take m ahead) in
    in_quiet want _ [] (body ++ take m ahead) (done ++ take m ahead) (in_more left body done (take m ahead) a (omega arith)) (inl refl) (omega (arith, length-append body (take m ahead)))

-- an open line, byte for byte
pub line_ahead : (want : Want) (body done ahead : List ℕ) (n : ℕ) → AfterChunks body done → ((m : ℕ) → m < n → HasNoChunkLine (take m ahead)) → ((m : ℕ) → m < n → ¬ NeverHasChunkLine (take m ahead))
    → n ≤ max_chunk_line → QuietAhead want done ahead n
line_ahead want body done ahead n a none may few m below = after_quiet want body done (take m ahead) a (none m below) (may m below) (omega (arith, length-take m ahead))

-- a chunk line is whole
pub record IsLineAhead (l : ChunkLine) (ahead : List ℕ) (n : ℕ) : Type 0 where
  pub short : IsShortLine l
  pub text : take n ahead ≡ print_chunk_line l
  pub size : n ≡ length (print_chunk_line l)

line_reads : (l : ChunkLine) (ahead : List ℕ) (n : ℕ) → IsLineAhead l ahead n → ReadsChunkLine ahead l (drop n ahead)
line_reads l ahead n i = (i.short.valid, sym (take-append-drop n ahead) ∙ ap (λ t. t ++ drop n ahead) i.text)

pub line_quiet : (want : Want) (body done ahead : List ℕ) (l : ChunkLine) (n : ℕ) → AfterChunks body done → IsLineAhead l ahead n → QuietAhead want done ahead n
line_quiet want body done ahead l n a i =
    line_ahead want body done ahead n a
    (λ m below. line_none_inside l ahead (drop n ahead) m (line_reads l ahead n i) (omega (arith, i.size)))
    (λ m below. line_may_inside l ahead (drop n ahead) m (line_reads l ahead n i))
    (omega (arith, i.size, i.short.short))

pub line_part : (body done ahead : List ℕ) (l : ChunkLine) (n : ℕ) → AfterChunks body done → IsLineAhead l ahead n → 0 < chunk_size l → InChunk (chunk_size l) [] body (done ++ take n ahead)
line_part body done ahead l n a i some = record {
  chunks = a.chunks;
  line = l;
  part = [];
  valid = a.valid;
  short = i.short;
  some = some;
  size = omega arith;
  whole = ap (λ d. d ++ take n ahead) a.whole ∙ ap (λ t. print_chunks a.chunks ++ t) (i.text ∙ sym (append-nil (print_chunk_line l)));
  body_is = a.body_is ∙ sym (append-nil (content_of a.chunks));
}

pub line_last : (body done ahead : List ℕ) (l : ChunkLine) (n : ℕ) → AfterChunks body done → IsLineAhead l ahead n → chunk_size l ≡ 0 → EndsChunks (done ++ take n ahead) body
line_last body done ahead l n a i zero = record {
  chunks = a.chunks;
  last = l;
  valid = a.valid;
  line = i.short;
  zero = zero;
  whole = ap (λ d. d ++ take n ahead) a.whole ∙ ap (λ t. print_chunks a.chunks ++ t) i.text;
  content_is = a.body_is;
}

-- a line of which bytes of a chunk follow
pub line_taken : (want : Want) (body done ahead : List ℕ) (l : ChunkLine) (n : ℕ) → AfterChunks body done → IsLineAhead l ahead n → 0 < chunk_size l → length body < most_of want
    → QuietAhead want done ahead (n + 1)
line_taken want body done ahead l n a i some few m below = elim (cases_lt m n) [
  | inl less ↦ line_quiet want body done ahead l n a i m less
  | inr more ↦
      let same : m ≡ n = omega arith in
      subst (λ k. QuietBody want plan.Chunked (done ++ take k ahead)) (sym same) (in_quiet want _ [] body _ (line_part body done ahead l n a i some) (inl refl) few)
]

pub line_broken : (body done ahead : List ℕ) (n : ℕ) → AfterChunks body done → IsNoLine (take n ahead) → BreaksChunks (done ++ take n ahead)
line_broken body done ahead n a broken = record { chunks = a.chunks; behind = take n ahead; valid = a.valid; whole = ap (λ d. d ++ take n ahead) a.whole; broken = inl broken }

-- quiet bytes, and quiet ones behind them
pub quiet_shift : (want : Want) (done ahead : List ℕ) (at n : ℕ) → QuietAhead want done ahead at → QuietAhead want (done ++ take at ahead) (drop at ahead) n → QuietAhead want done ahead (at + n)
quiet_shift want done ahead at n before behind m below = elim (cases_lt m at) [
  | inl less ↦ before m less
  | inr more ↦
      let split : m ≡ at + (m - at) = omega arith in
      let same : done ++ take m ahead ≡ (done ++ take at ahead) ++ take (m - at) (drop at ahead) = ap (λ k. done ++ take k ahead) split ∙ ap (λ l. done ++ l) (take-add at (m - at) ahead)
      ∙ sym (append_assoc done (take at ahead) (take (m - at) (drop at ahead))) in
      subst (QuietBody want plan.Chunked) (sym same) (behind (m - at) (omega arith))
]

pub take_on : (done ahead : List ℕ) (at n : ℕ) → (done ++ take at ahead) ++ take n (drop at ahead) ≡ done ++ take (at + n) ahead
take_on done ahead at n = append_assoc done (take at ahead) (take n (drop at ahead)) ∙ ap (λ l. done ++ l) (sym (take-add at n ahead))

pub take_one : (bytes : List ℕ) → 0 < length bytes → take 1 bytes ≡ get_or bytes 0 0 ∷ []
take_one [] some = absurd (omega arith)
take_one (x ∷ xs) some = refl

-- what a parse of a line says of all bytes ahead
pub line_whole : (bytes : List ℕ) (m len size : ℕ) → m ≤ max_chunk_line → ((l : ChunkLine) × IsChunkLineAt (take m bytes) len size l)
    → (l : ChunkLine) × IsShortLine l × (take len bytes ≡ print_chunk_line l) × (len ≡ length (print_chunk_line l)) × (len ≤ length bytes) × (size ≡ chunk_size l)
line_whole bytes m len size small (l, at) =
    let whole : length (take m bytes) ≡ length (print_chunk_line l) + length (drop len (take m bytes)) = ap length at.reads.1 ∙ length-append (print_chunk_line l) (drop len (take m bytes)) in
    let fits : len ≤ m = omega (arith, whole, at.len_is, length-take m bytes) in (
      l,
      record { valid = at.reads.0; short = omega (arith, at.len_is, fits, small) },
      sym (take-take len m bytes fits) ∙ ap (take len) at.reads.1 ∙ take_at (print_chunk_line l) (drop len (take m bytes)) len (sym at.len_is),
      at.len_is,
      omega (arith, whole, at.len_is, length-take m bytes),
      at.size_is,
    )

pub line_too_long : (bytes : List ℕ) (m : ℕ) → m ≤ max_chunk_line → length (take m bytes) ≡ max_chunk_line → HasNoChunkLine (take m bytes) → MayBecomeChunkLine (take m bytes)
    → (0 < max_chunk_line) × (max_chunk_line ≤ length bytes) × (max_chunk_line ≤ max_chunk_line)
    × (HasNoChunkLine (take (max_chunk_line - 1) bytes) × ¬ NeverHasChunkLine (take (max_chunk_line - 1) bytes)) × IsNoLine (take max_chunk_line bytes)
line_too_long bytes m small full none may =
    let all : m ≡ max_chunk_line = omega (arith, length-take m bytes, small, full) in
    let short : take (max_chunk_line - 1) (take m bytes) ≡ take (max_chunk_line - 1) bytes = take-take (max_chunk_line - 1) m bytes (omega (arith, all)) in (
      omega arith,
      omega (arith, length-take m bytes, full),
      omega arith,
      (
        subst HasNoChunkLine short (line_none_take (max_chunk_line - 1) (take m bytes) none),
        subst (λ l. ¬ NeverHasChunkLine l) short (line_may_take (max_chunk_line - 1) (take m bytes) (λ never. never may.0 may.1 [] may.2)),
      ),
      subst (λ k. IsNoLine (take k bytes)) all (inr (omega (arith, full), none)),
    )

pub line_is_bad : (bytes : List ℕ) (m n : ℕ) → m ≤ max_chunk_line → NeverHasChunkLine (take m bytes) → 0 < n → n ≤ length (take m bytes) → NeverHasChunkLine (take n (take m bytes))
    → ¬ NeverHasChunkLine (take (n - 1) (take m bytes))
    → (0 < n) × (n ≤ length bytes) × (n ≤ max_chunk_line) × (HasNoChunkLine (take (n - 1) bytes) × ¬ NeverHasChunkLine (take (n - 1) bytes)) × IsNoLine (take n bytes)
line_is_bad bytes m n small never some within bad good =
    let fits : n ≤ m = omega (arith, length-take m bytes, within) in
    let short : take (n - 1) (take m bytes) ≡ take (n - 1) bytes = take-take (n - 1) m bytes (omega arith) in (
      some,
      omega (arith, length-take m bytes, within),
      omega arith,
      (subst HasNoChunkLine short (line_none_in_bad (n - 1) (take m bytes) never), subst (λ l. ¬ NeverHasChunkLine l) short good),
      inl (subst NeverHasChunkLine (take-take n m bytes fits) bad),
    )

-- bytes before the one that breaks a line
pub line_before : (want : Want) (body done ahead : List ℕ) (n : ℕ) → AfterChunks body done → n ≤ max_chunk_line → HasNoChunkLine (take (n - 1) ahead) → ¬ NeverHasChunkLine (take (n - 1) ahead)
    → QuietAhead want done ahead n
line_before want body done ahead n a small none may =
    line_ahead want body done ahead n a
    (λ m below. subst HasNoChunkLine (take-take m (n - 1) ahead (omega arith)) (line_none_take m (take (n - 1) ahead) none))
    (λ m below. subst (λ l. ¬ NeverHasChunkLine l) (take-take m (n - 1) ahead (omega arith)) (line_may_take m (take (n - 1) ahead) may))
    small

-- what is due behind some bytes of a chunk
pub due_next : (left count : ℕ) (body done : List ℕ) → count ≤ left → InChunk (left - count) [] body done → IsDue (due_after left count) body done
due_next left count body done fits a = by_test (eqb left count) refl
  where
    by_test : (t : Bool) → eqb left count ≡ t → IsDue (cond t due.CarriageReturn (due.Part (left - count))) body done
    by_test true same = let none : left - count ≡ 0 = omega (arith, eqb-true left count same) in subst (λ n. InChunk n [] body done) none a
    by_test false other = let apart : left ≢ count = eqb-false left count other in (omega (arith, apart), a)

-- a step behind those that were taken
pub moves_on : (want : Want) (bytes : List ℕ) (at body : ℕ) (p : Progress) → ((n : ℕ) → p ≢ progress.Taken n) → at ≤ length bytes → Moves want (length (drop at bytes)) body p
    → MovesOn want (length bytes) at body p
moves_on want bytes at body (progress.Taken n) other within moves = absurd (other n refl)
moves_on want bytes at body progress.Open other within moves = (within, moves)
moves_on want bytes at body (progress.Whole n) other within moves = (omega (arith, length-drop at bytes, moves.0), moves.1)
moves_on want bytes at body (progress.Full n) other within moves = (omega (arith, length-drop at bytes, moves.0), moves.1)
moves_on want bytes at body (progress.Bad n) other within moves = omega (arith, length-drop at bytes, moves)

pub steps_on : (want : Want) (done bytes : List ℕ) (next : Due) (body : List ℕ) (at : ℕ) (p : Progress) → ((n : ℕ) → p ≢ progress.Taken n) → at ≤ length bytes → QuietAhead want done bytes at
    → StepAs want (done ++ take at bytes) (drop at bytes) next body p → AdvanceAs want done bytes next body at p
steps_on want done bytes next body at (progress.Taken n) other within quiet step = absurd (other n refl)
steps_on want done bytes next body at progress.Open other within quiet step =
    let all : at + (length (drop at bytes) + 1) ≡ length bytes + 1 = omega (arith, length-drop at bytes) in
    (subst (QuietAhead want done bytes) all (quiet_shift want done bytes at (length (drop at bytes) + 1) quiet step.0), step.1, omega (arith, length-drop at bytes, step.2))
steps_on want done bytes next body at (progress.Whole n) other within quiet step = (quiet_shift want done bytes at n quiet step.0, subst (λ d. EndsChunks d body) (take_on done bytes at n) step.1)
steps_on want done bytes next body at (progress.Full n) other within quiet step = (quiet_shift want done bytes at n quiet step.0, subst (λ d. EndsInChunk d body) (take_on done bytes at n) step.1)
steps_on want done bytes next body at (progress.Bad n) other within quiet step = (quiet_shift want done bytes at n quiet step.0, subst BreaksChunks (take_on done bytes at n) step.1)
