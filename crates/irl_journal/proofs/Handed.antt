-- What records that were handed over from a gate on say of a file.
use Rattle.std.proofs.Common.{◌≡◌, ◌≢◌, ◌∙◌, ◌⊎◌, ⊎_elim, inl, inr, ℕ, ◌+◌, ◌<◌, ◌≤◌, List, [], ◌∷◌, ◌++◌, length, take, drop, Bool, true, false, append_assoc, sym, ap, subst, refl, arith, length-append, length-drop, length-take-le}
use Rattle.std.proofs.lemmas.List.{take-append-drop}
use Rattle.std.proofs.Math.Seq.{drop-append_seam}
use Rattle.std.specs.List.{AllByRecursion}
use Rattle.irl_journal.specs.Format.{open_gate, body_text, records_text, placed_from, IsPayload, HasRecords, HasNoRecord}
use Rattle.irl_journal.specs.Visiting.{TakesAll, HandsOver, StopsAt, RefusesAt, RefusesOneFrom, IsRefusedAt, IsBrokenFor}
use Rattle.irl_journal.specs.Appending.{Ends}
use Rattle.irl_journal.proofs.Lists.{same_lists, not_broken, record_of}
use Rattle.irl_journal.proofs.Reading.{records-append, no_records}

-- the first byte of bytes that there are
next_gate : (bytes : List ℕ) → 1 ≤ length bytes → (gate : ℕ) × (rest : List ℕ) × (bytes ≡ gate ∷ rest)
next_gate [] some = absurd (omega arith)
next_gate (gate ∷ rest) some = (gate, rest, refl)

-- the last of payloads that each may stand in a record
each-behind : (xs ys : List (List ℕ)) → AllByRecursion IsPayload (xs ++ ys) → AllByRecursion IsPayload ys
each-behind [] ys each = each
each-behind (x ∷ xs) ys each = each-behind xs ys each.1

-- of a file with records, what stands from one of them on has those from there on
pub has_rest : (file : List ℕ) (first more : List (List ℕ)) (end at : ℕ) → (ends : Ends end file (first ++ more)) → at ≡ length (records_text first) → HasRecords (drop at file) more
has_rest file first more end at ends here =
    let has = ends.records in
    let front = records_text first in
    let behind = records_text more ++ has.gate ∷ has.rest in
    record {
      gate = has.gate;
      rest = has.rest;
      bytes = ap (λ (k : ℕ). drop k file) here
          ∙ ap (drop (length front)) (has.bytes ∙ ap (λ (bs : List ℕ). bs ++ has.gate ∷ has.rest) (records-append first more) ∙ append_assoc front (records_text more) (has.gate ∷ has.rest))
          ∙ drop-append_seam front behind;
      closed = has.closed;
      each = each-behind first more has.each;
    }

-- and the closed gate stands behind these
pub rest_ends : (file : List ℕ) (first more : List (List ℕ)) (end at : ℕ) → Ends end file (first ++ more) → at ≡ length (records_text first) → end ≡ at + length (records_text more)
rest_ends file first more end at ends here = omega (arith, ends.place, here, ap length (records-append first more), length-append (records_text first) (records_text more))

-- at the end there are none
pub rest_none : (file : List ℕ) (first more : List (List ℕ)) (end at : ℕ) → Ends end file (first ++ more) → at ≡ length (records_text first) → at ≡ end → more ≡ []
rest_none file first more end at ends here last = no_records more (omega (arith, rest_ends file first more end at ends here, last))

-- a front of bytes, and what stands behind it
parts_of : (n : ℕ) (bytes front rest : List ℕ) → take n bytes ≡ front → drop n bytes ≡ rest → bytes ≡ front ++ rest
parts_of n bytes front rest is behind = sym (take-append-drop n bytes) ∙ ap (λ (bs : List ℕ). bs ++ drop n bytes) is ∙ ap (λ (bs : List ℕ). front ++ bs) behind

module _ {V : Type 0} (takes : V → ℕ → List ℕ → V → Type 0) where
  -- how many bytes the records take that were handed over
  length_handed : (old new : V) (from n : ℕ) (is_closed : Bool) (bytes : List ℕ) (handed : HandsOver takes old new from n is_closed bytes) → n ≡ length (records_text handed.payloads)
  length_handed old new from n is_closed bytes handed = sym (length-take-le n bytes handed.within) ∙ ap length handed.front

  -- with a closed gate behind them, the bytes have just these
  has_handed : (old new : V) (from n : ℕ) (bytes : List ℕ) (handed : HandsOver takes old new from n true bytes) → HasRecords bytes handed.payloads
  has_handed old new from n bytes handed =
      let closed = handed.ended refl in
      record {
        gate = closed.0;
        rest = closed.1;
        bytes = parts_of n bytes (records_text handed.payloads) (closed.0 ∷ closed.1) handed.front closed.2;
        closed = closed.3;
        each = handed.each;
      }

  -- with no gate that is closed there, an open one stands behind them where there are bytes
  open_handed : (old new : V) (from n : ℕ) (bytes : List ℕ) → 1 ≤ length bytes → (handed : HandsOver takes old new from n false bytes) → (rest : List ℕ)
      × (bytes ≡ records_text handed.payloads ++ open_gate ∷ rest) × HasNoRecord (open_gate ∷ rest)
  open_handed old new from n bytes some handed =
      let cut = handed.cut_short refl in
      ⊎_elim
      (λ (none : drop n bytes ≡ []). absurd (omega (arith, handed.more some, length-drop n bytes, ap length none)))
      (λ (begun : (rest : List ℕ) × (drop n bytes ≡ open_gate ∷ rest)). (
        begun.0,
        parts_of n bytes (records_text handed.payloads) (open_gate ∷ begun.0) handed.front begun.1,
        subst HasNoRecord begun.1 cut.0,
      ))
      cut.1

  -- bytes with records hand over just these
  same_handed : (old new : V) (from n : ℕ) (bytes : List ℕ) (payloads : List (List ℕ)) → HasRecords bytes payloads → (handed : HandsOver takes old new from n true bytes) → handed.payloads ≡ payloads
  same_handed old new from n bytes payloads has handed =
      let found = has_handed old new from n bytes handed in
      same_lists handed.payloads payloads found.gate has.gate found.rest has.rest found.closed has.closed found.each has.each (sym found.bytes ∙ has.bytes)

  -- ---- from a file's first byte on
  -- the visitor took the file's records
  pub ends_handed : (old new : V) (file : List ℕ) (end : ℕ) → StopsAt takes old new 0 true file end → (payloads : List (List ℕ)) × Ends end file payloads
      × TakesAll takes old (placed_from 0 payloads) new
  ends_handed old new file end stops =
      let handed = stops.handed in (
        handed.payloads,
        record {
          records = has_handed old new 0 stops.count file handed;
          place = omega (arith, stops.place, length_handed old new 0 stops.count true file handed);
        },
        handed.took,
      )

  -- no whole record stands behind those that it took
  broken_handed : (old new : V) (file : List ℕ) (at : ℕ) → 1 < length file → StopsAt takes old new 0 false file at → IsBrokenFor takes old new file at
  broken_handed old new file at long stops =
      let handed = stops.handed in
      let begun = open_handed old new 0 stops.count file (omega arith) handed in
      record {
        broken = record {
          payloads = handed.payloads;
          rest = begun.0;
          long = long;
          bytes = begun.1;
          each = handed.each;
          place = omega (arith, stops.place, length_handed old new 0 stops.count false file handed);
          broken = begun.2;
        };
        took = handed.took;
      }

  -- it refuses one
  refused_handed : (refuses : V → ℕ → List ℕ → V → Type 0) (visitor after : V) (file : List ℕ) (at : ℕ) → RefusesAt takes refuses visitor after 0 file at
      → IsRefusedAt takes refuses visitor after file at
  refused_handed refuses visitor after file at refusal =
      let gated = next_gate refusal.behind refusal.more in
      record {
        payloads = refusal.payloads;
        payload = refusal.payload;
        gate = gated.0;
        rest = gated.1;
        bytes = refusal.bytes_are ∙ ap (λ (bs : List ℕ). records_text refusal.payloads ++ open_gate ∷ body_text refusal.payload ++ bs) gated.2;
        each = refusal.each;
        fits = refusal.fits;
        place = omega (arith, refusal.place_is);
        reached = refusal.reached;
        took = refusal.took;
        refused = refusal.refused;
      }

  -- what stops a visitor there
  pub damage_handed : (refuses : V → ℕ → List ℕ → V → Type 0) (visitor after : V) (file : List ℕ) (at : ℕ) → 1 < length file → StopsAt takes visitor after 0 false file at
      ⊎ RefusesAt takes refuses visitor after 0 file at → IsBrokenFor takes visitor after file at ⊎ IsRefusedAt takes refuses visitor after file at
  damage_handed refuses visitor after file at long (inl stops) = inl (broken_handed visitor after file at long stops)
  damage_handed refuses visitor after file at long (inr refusal) = inr (refused_handed refuses visitor after file at refusal)

  -- ---- from the gate of one of a file's records on
  -- the visitor took those from there on
  pub takes_rest : (old new : V) (file : List ℕ) (first more : List (List ℕ)) (end at place : ℕ) → Ends end file (first ++ more) → at ≡ length (records_text first)
      → StopsAt takes old new at true (drop at file) place → TakesAll takes old (placed_from at more) new
  takes_rest old new file first more end at place ends here stops =
      let same = same_handed old new at stops.count (drop at file) more (has_rest file first more end at ends here) stops.handed in
      subst (λ (ps : List (List ℕ)). TakesAll takes old (placed_from at ps) new) same stops.handed.took

  -- and where they don't end at the journal's end, it refuses one of them
  pub refuses_rest : (refuses : V → ℕ → List ℕ → V → Type 0) (visitor after : V) (file : List ℕ) (first more : List (List ℕ)) (end at place : ℕ) → Ends end file (first ++ more) → at
      ≡ length (records_text first)
      → StopsAt takes visitor after at false (drop at file) place ⊎ ((StopsAt takes visitor after at true (drop at file) place × (place ≢ end))
      ⊎ RefusesAt takes refuses visitor after at (drop at file) place) → RefusesOneFrom takes refuses visitor after at more place
  refuses_rest refuses visitor after file first more end at place ends here (inl stops) =
      let bytes = drop at file in
      let has = has_rest file first more end at ends here in
      let some : 1 ≤ length bytes = omega (arith, ap length has.bytes, length-append (records_text more) (has.gate ∷ has.rest)) in
      let begun = open_handed visitor after at stops.count bytes some stops.handed in
      absurd (not_broken more stops.handed.payloads has.gate has.rest begun.0 has.closed has.each stops.handed.each begun.2 (sym has.bytes ∙ begun.1))
  refuses_rest refuses visitor after file first more end at place ends here (inr (inl other)) =
      let stops = other.0 in
      let bytes = drop at file in
      let same = same_handed visitor after at stops.count bytes more (has_rest file first more end at ends here) stops.handed in
      let size : stops.count ≡ length (records_text more) = length_handed visitor after at stops.count true bytes stops.handed ∙ ap (λ (ps : List (List ℕ)). length (records_text ps)) same in
      absurd (other.1 (omega (arith, stops.place, size, rest_ends file first more end at ends here)))
  refuses_rest refuses visitor after file first more end at place ends here (inr (inr refusal)) =
      let has = has_rest file first more end at ends here in
      let behind = record_of more refusal.payloads refusal.payload has.rest refusal.behind has.gate has.closed has.each refusal.each refusal.fits
      (sym has.bytes ∙ refusal.bytes_are ∙ append_assoc (records_text refusal.payloads) (open_gate ∷ body_text refusal.payload) refusal.behind) in
      record {
        first = refusal.payloads;
        payload = refusal.payload;
        more = behind.0;
        among = behind.1;
        place = refusal.place_is;
        reached = refusal.reached;
        took = refusal.took;
        refused =
            refusal.refused;
      }
