-- What a journal's file is after each of the two writes of an append.
use Rattle.std.proofs.Common.{◌≡◌, ◌≢◌, ◌⊎◌, inl, inr, ℕ, ◌+◌, ◌≤◌, ◌<◌, List, [], ◌∷◌, ◌++◌, length, get_or, take, drop, refl, sym, ◌∙◌, ap, arith, append_assoc, length-append, take-append-drop}
use Rattle.std.proofs.lemmas.List.{take_at, drop_at, drop_more, drop_all, append-nil}
use Rattle.std.proofs.lemmas.Bool.{cases_eq}
use Rattle.std.proofs.lemmas.List.Concat.{flat_map-append}
use Rattle.std.specs.List.{AllByRecursion}
use Rattle.irl_disk.specs.Disk.{Holds, Scribbled}
use Rattle.irl_journal.specs.Format.{HasRecords, records_text, body_text, open_gate, IsPayload, record_text}
use Rattle.irl_journal.specs.Appending.{Ends, HasOrGainsAll}
use Rattle.irl_journal.specs.Blob.{KeepsFront}

-- Records that are to be appended: `tail` is what stands behind the first one's gate.
pub record IsTail (more : List (List ℕ)) (tail : List ℕ) : Type 0 where
  pub text : records_text more ≡ open_gate ∷ tail
  pub fits : AllByRecursion IsPayload more

-- one record
pub one_tail : (payload : List ℕ) → IsPayload payload → IsTail (payload ∷ []) (body_text payload)
one_tail payload fits = record { text = append-nil (record_text payload); fits = (fits, tt) }

-- behind these records stand a gate, here, then what stands behind the first gate of others, and a closed gate
pub record HasBehind (end : ℕ) (file : List ℕ) (payloads : List (List ℕ)) (tail : List ℕ) : Type 0 where
  pub gate : ℕ
  pub rest : List ℕ
  pub bytes : file ≡ records_text payloads ++ gate ∷ (tail ++ 0 ∷ rest)
  pub each : AllByRecursion IsPayload payloads
  pub place : end ≡ length (records_text payloads)

each_both : (payloads more : List (List ℕ)) → AllByRecursion IsPayload payloads → AllByRecursion IsPayload more → AllByRecursion IsPayload (payloads ++ more)
each_both [] more each fits = fits
each_both (first ∷ payloads) more each fits = (each.0, each_both payloads more each.1 fits)

text_both : (payloads more : List (List ℕ)) (tail rest : List ℕ) → IsTail more tail → records_text (payloads ++ more) ++ rest ≡ records_text payloads ++ open_gate ∷ (tail ++ rest)
text_both payloads more tail rest is =
    ap (λ (l : List ℕ). l ++ rest) (flat_map-append record_text payloads more)
    ∙ append_assoc (records_text payloads) (records_text more) rest
    ∙ ap (λ (l : List ℕ). records_text payloads ++ (l ++ rest)) is.text

length_both : (payloads more : List (List ℕ)) → length (records_text (payloads ++ more)) ≡ length (records_text payloads) + length (records_text more)
length_both payloads more = simp (flat_map-append, length-append)

pub length-push : (payloads : List (List ℕ)) (payload : List ℕ) → length (records_text (payloads ++ payload ∷ [])) ≡ length (records_text payloads) + length (record_text payload)
length-push payloads payload = simp (flat_map-append, length-append, append-nil) (omega arith)

-- one record moves it so far
pub length-one : (payload : List ℕ) → length (records_text (payload ∷ [])) ≡ length (record_text payload)
length-one payload = ap (λ (l : List ℕ). length l) (append-nil (record_text payload))

-- how far records move the journal's end
pub length-record : (more : List (List ℕ)) (tail bytes : List ℕ) → IsTail more tail → bytes ≡ tail ++ 0 ∷ [] → length bytes ≡ length (records_text more)
length-record more tail bytes is are = rw (are, is.text) (simp length-append (omega arith))

regroup : (payloads : List (List ℕ)) (tail rest : List ℕ) (gate : ℕ) → records_text payloads ++ gate ∷ [] ++ (tail ++ 0 ∷ []) ++ rest ≡ records_text payloads ++ gate ∷ (tail ++ 0 ∷ rest)
regroup payloads tail rest gate = simp append_assoc

-- the front of the file up to its closed gate
front : (payloads : List (List ℕ)) (gate : ℕ) (rest : List ℕ) (end : ℕ) → end ≡ length (records_text payloads) → take (end + 1) (records_text payloads ++ gate ∷ rest)
    ≡ records_text payloads ++ gate ∷ []
front payloads gate rest end place =
    rw (← append_assoc (records_text payloads) (gate ∷ []) rest) (take_at (records_text payloads ++ gate ∷ []) rest (end + 1) (omega (arith, place, length-append (records_text payloads) (gate ∷ []))))

-- and what stands behind it
behind : (payloads : List (List ℕ)) (gate : ℕ) (rest : List ℕ) (end : ℕ) → end ≡ length (records_text payloads) → drop (end + 1) (records_text payloads ++ gate ∷ rest) ≡ rest
behind payloads gate rest end place =
    rw (← append_assoc (records_text payloads) (gate ∷ []) rest) (drop_at (records_text payloads ++ gate ∷ []) rest (end + 1) (omega (arith, place, length-append (records_text payloads) (gate ∷ []))))

-- the closed gate is within the file
pub within : (payloads : List (List ℕ)) (file : List ℕ) (end : ℕ) → Ends end file payloads → end + 1 ≤ length file
within payloads file end ends =
    let has = ends.records in
    rw has.bytes (omega (arith, ends.place, length-append (records_text payloads) (has.gate ∷ has.rest)))

pub within_behind : (payloads : List (List ℕ)) (tail file : List ℕ) (end : ℕ) → HasBehind end file payloads tail → end ≤ length file
within_behind payloads tail file end has =
    rw has.bytes (omega (arith, has.place, length-append (records_text payloads) (has.gate ∷ (tail ++ 0 ∷ has.rest))))

-- the closed gate stands where the bytes up to it stay
pub kept_behind : (payloads : List (List ℕ)) (old new : List ℕ) (end : ℕ) → Ends end old payloads → KeepsFront (end + 1) old new → HasRecords new payloads
kept_behind payloads old new end ends keeps =
    let has = ends.records in
    let held = records_text payloads ++ has.gate ∷ [] in
    let begins = keeps held (omega (arith, ends.place, length-append (records_text payloads) (has.gate ∷ []))) (
      has.rest,
      has.bytes
          ∙ sym (append_assoc (records_text payloads) (has.gate ∷ []) has.rest),
    ) in
    record {
      gate = has.gate;
      rest = begins.0;
      bytes = begins.1 ∙ append_assoc (records_text payloads) (has.gate ∷ []) begins.0;
      closed = has.closed;
      each = has.each;
    }

-- a whole write behind the closed gate
pub written_behind : (payloads : List (List ℕ)) (tail bytes old new : List ℕ) (end : ℕ) → bytes ≡ tail ++ 0 ∷ [] → Ends end old payloads → Holds (end + 1) bytes old new
    → HasBehind end new payloads tail
written_behind payloads tail bytes old new end are ends holds =
    let has = ends.records in
    let rest = drop (end + 1 + length bytes) old in
    let is_front : take (end + 1) old ≡ records_text payloads ++ has.gate ∷ [] =
    ap (λ (l : List ℕ). take (end + 1) l) has.bytes ∙ front payloads has.gate has.rest end ends.place in
    record {
      gate = has.gate;
      rest = rest;
      bytes = holds
          ∙ ap (λ (l : List ℕ). l ++ bytes ++ rest) is_front
          ∙ ap (λ (l : List ℕ). records_text payloads ++ has.gate ∷ [] ++ l ++ rest) are
          ∙ regroup payloads tail rest has.gate;
      each = has.each;
      place = ends.place;
    }

-- by their first gate the records behind count, or they don't
by_gate : (payloads more : List (List ℕ)) (tail rest : List ℕ) (gate : ℕ) (old new : List ℕ) → AllByRecursion IsPayload payloads → IsTail more tail → new
    ≡ records_text payloads ++ gate ∷ (tail ++ 0 ∷ rest)
    → (gate ≡ open_gate) ⊎ (gate ≢ open_gate) → HasOrGainsAll payloads more old new
by_gate payloads more tail rest gate old new each is bytes (inl is_open) =
    inr record {
      gate = 0;
      rest = rest;
      bytes = bytes ∙ ap (λ (g : ℕ). records_text payloads ++ g ∷ (tail ++ 0 ∷ rest)) is_open ∙ sym (text_both payloads more tail (0 ∷ rest) is);
      closed = λ same. omega (arith, same);
      each = each_both payloads more each is.fits;
    }
by_gate payloads more tail rest gate old new each is bytes (inr closed) =
    inl record { gate = gate; rest = tail ++ 0 ∷ rest; bytes = bytes; closed = closed; each = each }

-- whatever the write of the open gate leaves
pub torn_gate : (payloads more : List (List ℕ)) (tail old new : List ℕ) (end : ℕ) → IsTail more tail → HasBehind end old payloads tail → Scribbled end 1 old new → HasOrGainsAll payloads more old new
torn_gate payloads more tail old new end is has torn =
    let gate = get_or new end 0 in
    let all = tail ++ 0 ∷ has.rest in
    let is_front : take end new ≡ records_text payloads =
    torn.before ∙ ap (λ (l : List ℕ). take end l) has.bytes ∙ take_at (records_text payloads) (has.gate ∷ all) end (sym has.place) in
    let long : end < length new =
    omega (arith, torn.no_shorter, ap length has.bytes, length-append (records_text payloads) (has.gate ∷ all), has.place) in
    let is_behind : drop (end + 1) new ≡ all =
    torn.after ∙ ap (λ (l : List ℕ). drop (end + 1) l) has.bytes ∙ behind payloads has.gate all end has.place in
    let bytes : new ≡ records_text payloads ++ gate ∷ all =
    sym (take-append-drop end new)
    ∙ ap (λ (l : List ℕ). l ++ drop end new) is_front
    ∙ ap (λ (l : List ℕ). records_text payloads ++ l) (drop_more new end 0 long ∙ ap (λ (l : List ℕ). gate ∷ l) is_behind) in
    by_gate payloads more tail has.rest gate old new has.each is bytes (cases_eq gate open_gate)

-- the open gate, written whole
pub written_gate : (payloads more : List (List ℕ)) (tail old new : List ℕ) (end : ℕ) → IsTail more tail → HasBehind end old payloads tail → Holds end (open_gate ∷ []) old new
    → Ends (end + length (records_text more)) new (payloads ++ more)
written_gate payloads more tail old new end is has holds =
    let all = tail ++ 0 ∷ has.rest in
    let is_front : take end old ≡ records_text payloads =
    ap (λ (l : List ℕ). take end l) has.bytes ∙ take_at (records_text payloads) (has.gate ∷ all) end (sym has.place) in
    let is_behind : drop (end + 1) old ≡ all =
    ap (λ (l : List ℕ). drop (end + 1) l) has.bytes ∙ behind payloads has.gate all end has.place in
    record {
      records = record {
        gate = 0;
        rest = has.rest;
        bytes = holds
            ∙ ap (λ (l : List ℕ). l ++ open_gate ∷ [] ++ drop (end + 1) old) is_front
            ∙ append_assoc (records_text payloads) (open_gate ∷ []) (drop (end + 1) old)
            ∙ ap (λ (l : List ℕ). records_text payloads ++ open_gate ∷ l) is_behind
            ∙ sym (text_both payloads more tail (0 ∷ has.rest) is);
        closed = λ same. omega (arith, same);
        each = each_both payloads more has.each is.fits;
      };
      place = omega (arith, has.place, length_both payloads more);
    }

-- the closed gate, written over a file of at most one byte
pub made : (old new : List ℕ) → length old ≤ 1 → Holds 0 (0 ∷ []) old new → new ≡ 0 ∷ []
made old new short holds = holds ∙ ap (λ (l : List ℕ). 0 ∷ l) (drop_all 1 old short)

-- and then the file is an empty journal
pub made_empty : (file : List ℕ) → file ≡ 0 ∷ [] → Ends 0 file []
made_empty file is = record { records = record { gate = 0; rest = []; bytes = is; closed = λ same. omega (arith, same); each = tt }; place = refl }
