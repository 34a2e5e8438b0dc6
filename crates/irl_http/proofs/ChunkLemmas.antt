-- Bodies in chunks: what stands behind whole chunks is determined, and shows nothing while it is open.
use Rattle.std.proofs.Common.{◌≡◌, ◌≢◌, ℕ, ◌+◌, ◌<◌, ◌≤◌, ◌⊎◌, inl, inr, List, [], ◌∷◌, ◌++◌, length, take, drop, refl, sym, ap, ◌∙◌, subst, arith, append-nil, append_assoc, length-append}
use Rattle.std.specs.List.{AllByRecursion}
use Rattle.std.proofs.lemmas.List.{take_at, drop_at, nil_from_length}
use Rattle.httparse.specs.Ascii.{crlf_bytes}
use Rattle.httparse.specs.Grammar.{ChunkLine, print_chunk_line, chunk_size, ReadsChunkLine, HasNoChunkLine, NeverHasChunkLine}
use Rattle.httparse.proofs.ChunkLemmas.{chunk_line_unique, ReadsChunkLine-append}
use Rattle.irl_offer.specs.declared.reply.Want.{Want}
use Rattle.irl_http.specs.declared.fields.Plan.TheVariants as plan
use Rattle.irl_http.specs.Chunks.{Chunk, IsChunk, IsShortLine, print_chunks, content_of, HasNoEnd, BreaksLineEnd, IsNoLine, max_chunk_line}
use Rattle.irl_http.specs.Bodies.{most_of, QuietBody}

pub split_same : (a b s t : List ℕ) → length a ≡ length b → a ++ s ≡ b ++ t → (a ≡ b) × (s ≡ t)
split_same a b s t size e = (
  sym (take_at a s (length b) size) ∙ ap (take (length b)) e ∙ take_at b t (length b) refl,
  sym (drop_at a s (length b) size) ∙ ap (drop (length b)) e ∙ drop_at b t (length b) refl,
)

-- one line at a front
pub one_line : (l k : ChunkLine) (s t : List ℕ) → IsShortLine l → IsShortLine k → print_chunk_line l ++ s ≡ print_chunk_line k ++ t → (l ≡ k) × (s ≡ t)
one_line l k s t vl vk e = chunk_line_unique (print_chunk_line l ++ s) l k s t (vl.valid, refl) (vk.valid, e)

-- what begins with a whole chunk
pub record BeginsChunk (bytes : List ℕ) : Type 0 where
  pub chunk : Chunk
  pub rest : List ℕ
  pub valid : IsChunk chunk
  pub whole : bytes ≡ print_chunk_line chunk.line ++ (chunk.bytes ++ (crlf_bytes ++ rest))

first_chunk : (c : Chunk) (cs : List Chunk) (x : List ℕ) → print_chunks (c ∷ cs) ++ x ≡ print_chunk_line c.line ++ (c.bytes ++ (crlf_bytes ++ (print_chunks cs ++ x)))
first_chunk c cs x = simp append_assoc

compared : (cs ks : List Chunk) (x tail : List ℕ) → AllByRecursion IsChunk cs → AllByRecursion IsChunk ks → ¬ BeginsChunk x → print_chunks cs ++ x ≡ print_chunks ks ++ tail
    → ((tail ≡ x) × (content_of ks ≡ content_of cs)) ⊎ BeginsChunk tail
compared [] [] x tail vc vk none e = inl (sym e, refl)
compared [] (k ∷ ks) x tail vc vk none e = absurd (none (record { chunk = k; rest = print_chunks ks ++ tail; valid = vk.0; whole = e ∙ first_chunk k ks tail }))
compared (c ∷ cs) [] x tail vc vk none e = inr (record { chunk = c; rest = print_chunks cs ++ x; valid = vc.0; whole = sym e ∙ first_chunk c cs x })
compared (c ∷ cs) (k ∷ ks) x tail vc vk none e =
    let line = one_line c.line k.line _ _ vc.0.line vk.0.line (sym (first_chunk c cs x) ∙ e ∙ first_chunk k ks tail) in
    let size : length c.bytes ≡ length k.bytes = vc.0.size ∙ ap chunk_size line.0 ∙ sym vk.0.size in
    let bytes = split_same c.bytes k.bytes _ _ size line.1 in
    let rest = split_same crlf_bytes crlf_bytes (print_chunks cs ++ x) (print_chunks ks ++ tail) refl bytes.1 in
    elim (compared cs ks x tail vc.1 vk.1 none rest.1) [
      | inl same ↦ inl (same.0, ap (λ l. l ++ content_of ks) (sym bytes.0) ∙ ap (λ l. c.bytes ++ l) same.1)
      | inr b ↦ inr b
    ]

-- behind whole chunks this shows nothing
pub record QuietTail (want : Want) (content tail : List ℕ) : Type 0 where
  pub no_last : (l : ChunkLine) → IsShortLine l → chunk_size l ≡ 0 → tail ≢ print_chunk_line l
  pub within : (l : ChunkLine) (part : List ℕ) → IsShortLine l → 0 < length part → length part ≤ chunk_size l → tail ≡ print_chunk_line l ++ part → length (content ++ part) < most_of want
  pub unbroken : ¬ (IsNoLine tail ⊎ HasNoEnd tail)

-- a chunk is no last chunk line, no part of a chunk, and nothing that is broken
chunk_not_last : (l : ChunkLine) → IsShortLine l → chunk_size l ≡ 0 → ¬ BeginsChunk (print_chunk_line l)
chunk_not_last l short zero b =
    let same = one_line l b.chunk.line [] _ short b.valid.line (append-nil (print_chunk_line l) ∙ b.whole) in
    omega (arith, ap chunk_size same.0, b.valid.some, b.valid.size)

pub chunk_not_part : (l : ChunkLine) (part : List ℕ) → IsShortLine l → length part < chunk_size l + 2 → ¬ BeginsChunk (print_chunk_line l ++ part)
chunk_not_part l part short few b =
    let same = one_line l b.chunk.line part _ short b.valid.line b.whole in
    omega (arith, ap chunk_size same.0, b.valid.size, ap length same.1, length-append b.chunk.bytes (crlf_bytes ++ b.rest), length-append crlf_bytes b.rest, few)

line_of_chunk : (tail : List ℕ) (b : BeginsChunk tail) → ReadsChunkLine tail b.chunk.line (b.chunk.bytes ++ (crlf_bytes ++ b.rest))
line_of_chunk tail b = (b.valid.line.valid, b.whole)

no_break : (rest : List ℕ) → ¬ BreaksLineEnd (13 ∷ 10 ∷ rest)
no_break [] broken = broken.1 refl
no_break (x ∷ xs) broken = broken.1 refl

chunk_not_broken : (tail : List ℕ) → BeginsChunk tail → ¬ (IsNoLine tail ⊎ HasNoEnd tail)
chunk_not_broken tail b (inl (inl never)) = never [] b.chunk.line _ (ReadsChunkLine-append tail b.chunk.line _ [] (line_of_chunk tail b))
chunk_not_broken tail b (inl (inr (long, none))) = none b.chunk.line _ (line_of_chunk tail b)
chunk_not_broken tail b (inr e) =
    let same = one_line e.line b.chunk.line _ _ e.short b.valid.line (sym e.whole ∙ b.whole) in
    let size : length e.part ≡ length b.chunk.bytes = e.size ∙ ap chunk_size same.0 ∙ sym b.valid.size in
    let behind = (split_same e.part b.chunk.bytes _ _ size same.1).1 in
    no_break b.rest (subst BreaksLineEnd behind e.broken)

pub quiet_tail : (want : Want) (cs : List Chunk) (tail : List ℕ) → AllByRecursion IsChunk cs → ¬ BeginsChunk tail → QuietTail want (content_of cs) tail
    → QuietBody want plan.Chunked (print_chunks cs ++ tail)
quiet_tail want cs tail vc none quiet = record {
  no_reply = λ body takes. elim takes [
    | inl ends ↦ elim (compared cs ends.chunks tail (print_chunk_line ends.last) vc ends.valid none ends.whole) [
      | inl same ↦ quiet.no_last ends.last ends.line ends.zero (sym same.0)
      | inr b ↦ chunk_not_last ends.last ends.line ends.zero b
    ]
    | inr (robots, part, full) ↦ elim (compared cs part.chunks tail (print_chunk_line part.line ++ part.part) vc part.valid none part.whole) [
      | inl same ↦
          let few = quiet.within part.line part.part part.short part.some part.within (sym same.0) in
          omega (arith, few, full, ap length (part.content_is ∙ ap (λ l. l ++ part.part) same.1), ap most_of robots)
      | inr b ↦ chunk_not_part part.line part.part part.short (omega (arith, part.within)) b
    ]
  ];
  unbroken = λ chunked breaks. elim (compared cs breaks.chunks tail breaks.behind vc breaks.valid none breaks.whole) [
    | inl same ↦ quiet.unbroken (subst (λ l. IsNoLine l ⊎ HasNoEnd l) same.0 breaks.broken)
    | inr b ↦ chunk_not_broken breaks.behind b breaks.broken
  ];
  short = λ p page part. elim (compared cs part.chunks tail (print_chunk_line part.line ++ part.part) vc part.valid none part.whole) [
    | inl same ↦
        let few = quiet.within part.line part.part part.short part.some part.within (sym same.0) in
        omega (arith, few, ap length (part.content_is ∙ ap (λ l. l ++ part.part) same.1), ap most_of page)
    | inr b ↦ absurd (chunk_not_part part.line part.part part.short (omega (arith, part.within)) b)
  ];
}

-- an open chunk line
pub open_no_chunk : (tail : List ℕ) → HasNoChunkLine tail → ¬ BeginsChunk tail
open_no_chunk tail none b = none b.chunk.line _ (line_of_chunk tail b)

pub open_quiet : (want : Want) (content tail : List ℕ) → HasNoChunkLine tail → ¬ NeverHasChunkLine tail → length tail < max_chunk_line → QuietTail want content tail
open_quiet want content tail none may few = record {
  no_last = λ l short zero is. none l [] (short.valid, is ∙ sym (append-nil (print_chunk_line l)));
  within = λ l part short some fits is. absurd (none l part (short.valid, is));
  unbroken = λ broken. elim broken [
    | inl (inl never) ↦ may never
    | inl (inr (long, lacks)) ↦ omega (arith, few, long)
    | inr e ↦ none e.line (e.part ++ e.behind) (e.short.valid, e.whole)
  ];
}

-- no line end is broken by none of it, or by its first byte
unbroken_end : (behind : List ℕ) → (behind ≡ []) ⊎ (behind ≡ 13 ∷ []) → ¬ BreaksLineEnd behind
unbroken_end [] is broken = broken
unbroken_end (b ∷ []) (inl none) broken = absurd (cc)
unbroken_end (b ∷ []) (inr one) broken = broken (let e : b ≡ 13 = cc in e)
unbroken_end (b ∷ c ∷ bytes) (inl none) broken = absurd (cc)
unbroken_end (b ∷ c ∷ bytes) (inr one) broken = absurd (cc)

-- the line and some bytes of a chunk, and perhaps the first byte of its line end
pub part_quiet : (want : Want) (content : List ℕ) (line : ChunkLine) (part behind : List ℕ) → IsShortLine line → 0 < chunk_size line → length part ≤ chunk_size line
    → (behind ≡ []) ⊎ ((behind ≡ 13 ∷ []) × (length part ≡ chunk_size line)) → length (content ++ part) < most_of want → QuietTail want content (print_chunk_line line ++ (part ++ behind))
part_quiet want content line part behind short some fits is few = record {
  no_last = λ l sl zero e.
      let same = one_line line l (part ++ behind) [] short sl (e ∙ sym (append-nil (print_chunk_line l))) in
      omega (arith, ap chunk_size same.0, zero, some);
  within = λ l p sl more within e.
      let same = one_line line l (part ++ behind) p short sl e in
      elim is [
        | inl none ↦ omega (arith, few, ap length same.1, length-append part behind, ap length none, length-append content part, length-append content p)
        | inr (one, full) ↦ absurd (omega (arith, ap length same.1, length-append part behind, ap length one, ap chunk_size same.0, full, within))
      ];
  unbroken = λ broken. elim broken [
    | inl (inl never) ↦ never [] line ((part ++ behind) ++ []) (ReadsChunkLine-append (print_chunk_line line ++ (part ++ behind)) line (part ++ behind) [] (short.valid, refl))
    | inl (inr (long, lacks)) ↦ lacks line (part ++ behind) (short.valid, refl)
    | inr e ↦
        let same = one_line line e.line (part ++ behind) (e.part ++ e.behind) short e.short e.whole in
        elim is [
          | inl none ↦
              let whole : part ≡ e.part ++ e.behind = sym (append-nil part) ∙ ap (λ l. part ++ l) (sym none) ∙ same.1 in
              let size : length part ≡ length e.part + length e.behind = ap length whole ∙ length-append e.part e.behind in
              let nothing : length e.behind ≡ 0 = omega (arith, size, e.size, ap chunk_size same.0, fits) in
              subst BreaksLineEnd (nil_from_length e.behind nothing) e.broken
          | inr (one, full) ↦ unbroken_end e.behind (inr (sym (split_same part e.part behind e.behind (full ∙ ap chunk_size same.0 ∙ sym e.size) same.1).1 ∙ one)) e.broken
        ]
  ];
}

-- it is no whole chunk
pub part_no_chunk : (line : ChunkLine) (part behind : List ℕ) → IsShortLine line → length (part ++ behind) < chunk_size line + 2 → ¬ BeginsChunk (print_chunk_line line ++ (part ++ behind))
part_no_chunk line part behind short few b = chunk_not_part line (part ++ behind) short few b
