-- What stands behind each tag.
use Rattle.std.proofs.Common.{◌≡◌, ◌∙◌, ℕ, ◌+◌, ◌*◌, ◌<◌, ◌≤◌, ◌^◌, List, [], ◌∷◌, ◌++◌, length, take, refl, sym, ap, arith, take-append-drop}
use Rattle.std.specs.Int.{w16, w32, w64, to_le_bytes}
use Rattle.std.specs.List.{flat_map, AllByRecursion, IsSplitAt}
use Rattle.irl_offer.specs.declared.note.Note.{Note}
use Rattle.irl_offer.specs.declared.note.NoteState.{NoteState}
use Rattle.irl_offer.specs.declared.note.NoteState.TheVariants.{Rules, Free, Shut}
use Rattle.irl_offer.specs.declared.outcome.Outcome.{Outcome}
use Rattle.irl_offer.specs.declared.outcome.Outcome.TheVariants.{Page, Moved, Status, Denied, Shut as ShutOutcome, Lost, Bad, Large, Coded}
use Rattle.irl_events.specs.Events.{Event, Begin, Pairs, Pass, Robots, Settle}
use Rattle.irl_events.specs.Legal.{text_of}
use Rattle.irl_log.specs.Form.{IsDone, IsNote, IsOutcome, IsSettle, IsSuffixText, IsWord}
use Rattle.irl_log.specs.Reading.{AreSettleParts, IsBehind}
use Rattle.irl_log.specs.Spelling.{done_bytes, note_bytes, outcome_detail, outcome_number, rest_of, state_number, tag_of}
use Rattle.irl_log.proofs.Spellings.{length-dones, length-settle, length-words}
use Rattle.irl_log.proofs.Words.{same_2, same_4, same_8, same_front}

pub begin_behind : (buckets : ℕ) (bytes : List ℕ) (event : Event) → IsBehind buckets 1 bytes event → (suffixes : List ℕ) × IsSuffixText suffixes × (bytes ≡ suffixes)
begin_behind buckets bytes (Begin suffixes) is = (suffixes, is.form, is.are_bytes)
begin_behind buckets bytes (Pairs cuts judged pairs) is = absurd (omega (arith, is.is_tag))
begin_behind buckets bytes (Pass judged) is = absurd (omega (arith, is.is_tag))
begin_behind buckets bytes (Robots note) is = absurd (omega (arith, is.is_tag))
begin_behind buckets bytes (Settle fronts done) is = absurd (omega (arith, is.is_tag))

pub pairs_behind : (buckets : ℕ) (bytes : List ℕ) (event : Event) → IsBehind buckets 2 bytes event → length bytes ≡ 24
pairs_behind buckets bytes (Begin suffixes) is = absurd (omega (arith, is.is_tag))
pairs_behind buckets bytes (Pairs cuts judged pairs) is = ap length is.are_bytes
pairs_behind buckets bytes (Pass judged) is = absurd (omega (arith, is.is_tag))
pairs_behind buckets bytes (Robots note) is = absurd (omega (arith, is.is_tag))
pairs_behind buckets bytes (Settle fronts done) is = absurd (omega (arith, is.is_tag))

pub pass_behind : (buckets : ℕ) (bytes : List ℕ) (event : Event) → IsBehind buckets 3 bytes event → length bytes ≡ 8
pass_behind buckets bytes (Begin suffixes) is = absurd (omega (arith, is.is_tag))
pass_behind buckets bytes (Pairs cuts judged pairs) is = absurd (omega (arith, is.is_tag))
pass_behind buckets bytes (Pass judged) is = ap length is.are_bytes
pass_behind buckets bytes (Robots note) is = absurd (omega (arith, is.is_tag))
pass_behind buckets bytes (Settle fronts done) is = absurd (omega (arith, is.is_tag))

pub robots_behind : (buckets : ℕ) (bytes : List ℕ) (event : Event) → IsBehind buckets 4 bytes event → (note : Note) × IsNote note × (bytes ≡ note_bytes note)
robots_behind buckets bytes (Begin suffixes) is = absurd (omega (arith, is.is_tag))
robots_behind buckets bytes (Pairs cuts judged pairs) is = absurd (omega (arith, is.is_tag))
robots_behind buckets bytes (Pass judged) is = absurd (omega (arith, is.is_tag))
robots_behind buckets bytes (Robots note) is = (note, is.form, is.are_bytes)
robots_behind buckets bytes (Settle fronts done) is = absurd (omega (arith, is.is_tag))

pub settle_behind : (buckets : ℕ) (bytes : List ℕ) (event : Event) → IsBehind buckets 5 bytes event
    → (fronts : List ℕ) × (done : List (ℕ × Outcome)) × IsSettle buckets fronts done × (bytes ≡ rest_of (Settle fronts done))
settle_behind buckets bytes (Begin suffixes) is = absurd (omega (arith, is.is_tag))
settle_behind buckets bytes (Pairs cuts judged pairs) is = absurd (omega (arith, is.is_tag))
settle_behind buckets bytes (Pass judged) is = absurd (omega (arith, is.is_tag))
settle_behind buckets bytes (Robots note) is = absurd (omega (arith, is.is_tag))
settle_behind buckets bytes (Settle fronts done) is = (fronts, done, is.form, is.are_bytes)

-- a tag is one of the five
pub tag_within : (event : Event) → (1 ≤ tag_of event) × (tag_of event ≤ 5)
tag_within (Begin suffixes) = (omega arith, omega arith)
tag_within (Pairs cuts judged pairs) = (omega arith, omega arith)
tag_within (Pass judged) = (omega arith, omega arith)
tag_within (Robots note) = (omega arith, omega arith)
tag_within (Settle fronts done) = (omega arith, omega arith)

-- ---- a note
-- the numbers of what is known, of which only rules have a text
pub state_facts : (state : NoteState) → (state_number state ≤ 2) × (1 ≤ state_number state → text_of state ≡ [])
state_facts (Rules text) = (omega arith, λ some. absurd (omega (arith, some)))
state_facts Free = (omega arith, λ some. refl)
state_facts Shut = (omega arith, λ some. refl)

-- what its bytes are cut into
pub note_cut : (bytes : List ℕ) (when : ℕ) (one : List ℕ) (state : ℕ) (two : List ℕ) (len : ℕ) (three host text : List ℕ) (note : Note) → IsNote note → len < 2 ^ 16
    → bytes ≡ to_le_bytes w64 when ++ one → one ≡ state ∷ two → two ≡ to_le_bytes w16 len ++ three → IsSplitAt three len host text → bytes ≡ note_bytes note
    → (state ≡ state_number note.state) × (host ≡ note.host) × (text ≡ text_of note.state)
note_cut bytes when one state two len three host text note is low first second third split written =
    let rest = state_number note.state ∷ (to_le_bytes w16 (length note.host) ++ (note.host ++ text_of note.state)) in
    let behind : state ∷ two ≡ rest = sym second ∙ (same_front (to_le_bytes w64 when) (to_le_bytes w64 note.when) one rest refl (sym first ∙ written)).1 in
    let same : state ≡ state_number note.state = cc in
    let tail : two ≡ to_le_bytes w16 (length note.host) ++ (note.host ++ text_of note.state) = cc in
    let cut = same_2 len (length note.host) three (note.host ++ text_of note.state) low (omega (arith, is.host_limit)) (sym third ∙ tail) in
    let whole : host ++ text ≡ three = ap (λ (l : List ℕ). l ++ text) split.1 ∙ ap (λ (l : List ℕ). take len three ++ l) split.2 ∙ take-append-drop len three in
    let parts = same_front host note.host text (text_of note.state) (split.3 ∙ cut.0) (whole ∙ cut.1) in
    (same, parts.0, parts.1)

-- ---- a Settle
-- what its bytes read as, behind the count
pub settle_front : (buckets : ℕ) (bytes : List ℕ) (count : ℕ) (rest fronts : List ℕ) (done : List (ℕ × Outcome)) → IsSettle buckets fronts done → length bytes < 16777216 → count < 2 ^ 32
    → bytes ≡ to_le_bytes w32 count ++ rest → bytes ≡ rest_of (Settle fronts done)
    → (count ≡ length done) × (rest ≡ flat_map (to_le_bytes w64) fronts ++ flat_map done_bytes done) × (length rest ≡ 8 * buckets + 13 * count)
settle_front buckets bytes count rest fronts done is short low read written =
    let long : length bytes ≡ 4 + (8 * length fronts + 13 * length done) = ap length written ∙ length-settle fronts done in
    let behind = flat_map (to_le_bytes w64) fronts ++ flat_map done_bytes done in
    let parts = same_4 count (length done) rest behind low (omega (arith, long, short)) (sym read ∙ written) in
    let all : length bytes ≡ 4 + length rest = omega (arith, ap length read) in (parts.0, parts.1, omega (arith, all, long, parts.0, is.buckets_are))

-- and its parts
pub settle_cut : (buckets : ℕ) (bytes fronts done : List ℕ) (numbers : List ℕ) (outcomes : List (ℕ × Outcome)) → AreSettleParts buckets bytes fronts done → length bytes < 16777216
    → IsSettle buckets numbers outcomes → bytes ≡ rest_of (Settle numbers outcomes) → done ≡ flat_map done_bytes outcomes
settle_cut buckets bytes fronts done numbers outcomes are short is written =
    let front = settle_front buckets bytes are.count (fronts ++ done) numbers outcomes is short are.word are.are_bytes written in
    let long : length fronts ≡ length (flat_map (to_le_bytes w64) numbers) = omega (arith, are.fronts_are, length-words numbers, is.buckets_are) in
    (same_front fronts (flat_map (to_le_bytes w64) numbers) done (flat_map done_bytes outcomes) long front.1).1

pub settle_made : (buckets : ℕ) (bytes fronts done : List ℕ) (numbers : List ℕ) (outcomes : List (ℕ × Outcome)) → AreSettleParts buckets bytes fronts done
    → AllByRecursion IsWord numbers → fronts ≡ flat_map (to_le_bytes w64) numbers → AllByRecursion IsDone outcomes → done ≡ flat_map done_bytes outcomes
    → IsBehind buckets 5 bytes (Settle numbers outcomes)
settle_made buckets bytes fronts done numbers outcomes are words fronts_are dones done_are =
    let count : are.count ≡ length outcomes = omega (arith, are.done_are, ap length done_are, length-dones outcomes) in
    let spelled : to_le_bytes w32 are.count ++ (fronts ++ done) ≡ to_le_bytes w32 (length outcomes) ++ (flat_map (to_le_bytes w64) numbers ++ flat_map done_bytes outcomes) =
    rw (count, fronts_are, done_are) refl in
    record {
      form = record { buckets_are = omega (arith, are.fronts_are, ap length fronts_are, length-words numbers); fronts_are = words; done_are = dones };
      is_tag = refl;
      are_bytes = are.are_bytes ∙ spelled;
    }

-- ---- an outcome
pub detail_fits : (outcome : Outcome) → IsOutcome outcome → outcome_detail outcome < 2 ^ 32
detail_fits Page is = omega arith
detail_fits Moved is = omega arith
detail_fits (Status status) is = omega (arith, is)
detail_fits (Denied line) is = omega (arith, is)
detail_fits ShutOutcome is = omega arith
detail_fits Lost is = omega arith
detail_fits Bad is = omega arith
detail_fits Large is = omega arith
detail_fits Coded is = omega arith

-- what its bytes are cut into
pub done_cut : (bytes : List ℕ) (number : ℕ) (one : List ℕ) (kind : ℕ) (two : List ℕ) (detail : ℕ) (three behind : List ℕ) (done : ℕ × Outcome) → IsDone done → number < 2 ^ 64
    → detail < 2 ^ 32 → bytes ≡ to_le_bytes w64 number ++ one → one ≡ kind ∷ two → two ≡ to_le_bytes w32 detail ++ three → bytes ≡ done_bytes done ++ behind
    → (outcome_number done.1 ≡ kind) × (outcome_detail done.1 ≡ detail) × (done.0 ≡ number)
done_cut bytes number one kind two detail three behind done is word low first second third written =
    let rest = outcome_number done.1 ∷ (to_le_bytes w32 (outcome_detail done.1) ++ behind) in
    let front = same_8 number done.0 one rest word is.number (sym first ∙ written) in
    let tail : kind ∷ two ≡ rest = sym second ∙ front.1 in
    let same : outcome_number done.1 ≡ kind = cc in
    let cut : two ≡ to_le_bytes w32 (outcome_detail done.1) ++ behind = cc in
    let last = same_4 detail (outcome_detail done.1) three behind low (detail_fits done.1 is.outcome) (sym third ∙ cut) in
    (same, sym last.0, sym front.0)
