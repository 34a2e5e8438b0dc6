-- An event is known by its payload.
use Rattle.std.proofs.Common.{◌≡◌, ◌∙◌, ℕ, ◌<◌, List, [], ◌∷◌, ◌++◌, length, get_or, refl, sym, ap, arith, length-append}
use Rattle.std.specs.Int.{w16, w32, w64, to_le_bytes}
use Rattle.std.specs.List.{flat_map, AllByRecursion, IsSplitAt}
use Rattle.std.proofs.lemmas.List.Concat.{flat_map-cons}
use Rattle.std.proofs.Math.Seq.{take-append_seam, drop-append_seam}
use Rattle.irl_offer.specs.declared.note.Note.{Note}
use Rattle.irl_offer.specs.declared.note.NoteState.{NoteState}
use Rattle.irl_offer.specs.declared.note.NoteState.TheVariants.{Rules, Free, Shut}
use Rattle.irl_offer.specs.declared.outcome.Outcome.{Outcome}
use Rattle.irl_offer.specs.declared.outcome.Outcome.TheVariants.{Page, Moved, Status, Denied, Shut as ShutOutcome, Lost, Bad, Large, Coded}
use Rattle.irl_events.specs.Events.{Event, Begin, Pairs, Pass, Robots, Settle}
use Rattle.irl_events.specs.Legal.{text_of}
use Rattle.irl_log.specs.Form.{IsDone, IsLogged, IsNote, IsSettle, IsWord}
use Rattle.irl_log.specs.Spelling.{done_bytes, note_bytes, outcome_detail, outcome_number, payload_of, rest_of, state_number}
use Rattle.irl_log.proofs.Behind.{detail_fits, note_cut, settle_front}
use Rattle.irl_log.proofs.Spellings.{length-settle, length-words}
use Rattle.irl_log.proofs.Words.{same_4, same_8, same_front}

-- ---- outcomes
outcome_back : ℕ → ℕ → Outcome
outcome_back number detail = get_or (Page ∷ Moved ∷ Status detail ∷ Denied detail ∷ ShutOutcome ∷ Lost ∷ Bad ∷ Large ∷ Coded ∷ []) number Page

is_back : (outcome : Outcome) → outcome_back (outcome_number outcome) (outcome_detail outcome) ≡ outcome
unfolding outcome_back
is_back Page = refl
is_back Moved = refl
is_back (Status status) = refl
is_back (Denied line) = refl
is_back ShutOutcome = refl
is_back Lost = refl
is_back Bad = refl
is_back Large = refl
is_back Coded = refl

same_outcome : (x y : Outcome) → outcome_number x ≡ outcome_number y → outcome_detail x ≡ outcome_detail y → x ≡ y
same_outcome x y numbers details =
    sym (is_back x) ∙ ap (λ (n : ℕ). outcome_back n (outcome_detail x)) numbers ∙ ap (outcome_back (outcome_number y)) details ∙ is_back y

same_pair : (x y : ℕ × Outcome) → x.0 ≡ y.0 → x.1 ≡ y.1 → x ≡ y
same_pair x y numbers outcomes = ap (λ (n : ℕ). (n, x.1)) numbers ∙ ap (λ (o : Outcome). (y.0, o)) outcomes

same_done : (x y : ℕ × Outcome) (more further : List ℕ) → IsDone x → IsDone y → done_bytes x ++ more ≡ done_bytes y ++ further → (x ≡ y) × (more ≡ further)
same_done x y more further is_x is_y same =
    let whole_x = outcome_number x.1 ∷ (to_le_bytes w32 (outcome_detail x.1) ++ more) in
    let whole_y = outcome_number y.1 ∷ (to_le_bytes w32 (outcome_detail y.1) ++ further) in
    let first = same_8 x.0 y.0 whole_x whole_y is_x.number is_y.number same in
    let behind : whole_x ≡ whole_y = first.1 in
    let kind : outcome_number x.1 ≡ outcome_number y.1 = cc in
    let rest : to_le_bytes w32 (outcome_detail x.1) ++ more ≡ to_le_bytes w32 (outcome_detail y.1) ++ further = cc in
    let last = same_4 (outcome_detail x.1) (outcome_detail y.1) more further (detail_fits x.1 is_x.outcome) (detail_fits y.1 is_y.outcome) rest in
    let number : x.0 ≡ y.0 = first.0 in
    let outcome : x.1 ≡ y.1 = same_outcome x.1 y.1 kind last.0 in (same_pair x y number outcome, last.1)

same_dones : (xs ys : List (ℕ × Outcome)) → AllByRecursion IsDone xs → AllByRecursion IsDone ys → flat_map done_bytes xs ≡ flat_map done_bytes ys → xs ≡ ys
same_dones [] [] are_xs are_ys same = refl
same_dones [] (y ∷ ys) are_xs are_ys same = absurd (omega (arith, ap length (same ∙ flat_map-cons done_bytes y ys)))
same_dones (x ∷ xs) [] are_xs are_ys same = absurd (omega (arith, ap length (sym (flat_map-cons done_bytes x xs) ∙ same)))
same_dones (x ∷ xs) (y ∷ ys) are_xs are_ys same =
    let first = same_done x y (flat_map done_bytes xs) (flat_map done_bytes ys) are_xs.0 are_ys.0 (sym (flat_map-cons done_bytes x xs) ∙ same ∙ flat_map-cons done_bytes y ys) in
    let rest = same_dones xs ys are_xs.1 are_ys.1 first.1 in
    let head : x ≡ y = first.0 in cc

same_words : (ms ns : List ℕ) → AllByRecursion IsWord ms → AllByRecursion IsWord ns → flat_map (to_le_bytes w64) ms ≡ flat_map (to_le_bytes w64) ns → ms ≡ ns
same_words [] [] are_ms are_ns same = refl
same_words [] (n ∷ ns) are_ms are_ns same = absurd (omega (arith, ap length (same ∙ flat_map-cons (to_le_bytes w64) n ns)))
same_words (m ∷ ms) [] are_ms are_ns same = absurd (omega (arith, ap length (sym (flat_map-cons (to_le_bytes w64) m ms) ∙ same)))
same_words (m ∷ ms) (n ∷ ns) are_ms are_ns same =
    let first = same_8 m n (flat_map (to_le_bytes w64) ms) (flat_map (to_le_bytes w64) ns) are_ms.0 are_ns.0
    (sym (flat_map-cons (to_le_bytes w64) m ms) ∙ same ∙ flat_map-cons (to_le_bytes w64) n ns) in
    let rest = same_words ms ns are_ms.1 are_ns.1 first.1 in
    let head : m ≡ n = first.0 in cc

-- ---- notes
state_back : ℕ → List ℕ → NoteState
state_back number text = get_or (Rules text ∷ Free ∷ Shut ∷ []) number Free

state_is_back : (state : NoteState) → state_back (state_number state) (text_of state) ≡ state
unfolding state_back
state_is_back (Rules text) = refl
state_is_back Free = refl
state_is_back Shut = refl

same_state : (x y : NoteState) → state_number x ≡ state_number y → text_of x ≡ text_of y → x ≡ y
same_state x y numbers texts =
    sym (state_is_back x) ∙ ap (λ (n : ℕ). state_back n (text_of x)) numbers ∙ ap (state_back (state_number y)) texts ∙ state_is_back y

same_parts : (x y : Note) → x.host ≡ y.host → x.when ≡ y.when → x.state ≡ y.state → x ≡ y
same_parts x y hosts whens states =
    ap (λ (host : List ℕ). record { host = host; when = x.when; state = x.state }) hosts
    ∙ ap (λ (when : ℕ). record { host = y.host; when = when; state = x.state }) whens
    ∙ ap (λ (state : NoteState). record { host = y.host; when = y.when; state = state }) states

same_note : (x y : Note) → IsNote x → IsNote y → note_bytes x ≡ note_bytes y → x ≡ y
same_note x y is_x is_y same =
    let text = text_of x.state in
    let behind = x.host ++ text in
    let two = to_le_bytes w16 (length x.host) ++ behind in
    let split : IsSplitAt behind (length x.host) x.host text = (
      omega (arith, length-append x.host text),
      sym (take-append_seam x.host text),
      sym (drop-append_seam x.host text),
      refl,
      omega (arith, length-append x.host text),
    ) in
    let cut = note_cut (note_bytes x) x.when (state_number x.state ∷ two) (state_number x.state) two (length x.host) behind x.host text y is_y
    (omega (arith, is_x.host_limit)) refl refl refl split same in
    let when = same_8 x.when y.when (state_number x.state ∷ two) (state_number y.state ∷ (to_le_bytes w16 (length y.host) ++ (y.host ++ text_of y.state))) is_x.when is_y.when same in
    same_parts x y cut.1 when.0 (same_state x.state y.state cut.0 cut.2)

-- ---- a Settle
same_settle : (buckets : ℕ) (ms ns : List ℕ) (xs ys : List (ℕ × Outcome)) → IsSettle buckets ms xs → IsSettle buckets ns ys → length (rest_of (Settle ms xs)) < 16777216
    → rest_of (Settle ms xs) ≡ rest_of (Settle ns ys) → (ms ≡ ns) × (xs ≡ ys)
same_settle buckets ms ns xs ys is_x is_y short same =
    let fronts = flat_map (to_le_bytes w64) ms in
    let done = flat_map done_bytes xs in
    let front = settle_front buckets (rest_of (Settle ms xs)) (length xs) (fronts ++ done) ns ys is_y short (omega (arith, short, length-settle ms xs)) refl same in
    let parts = same_front fronts (flat_map (to_le_bytes w64) ns) done (flat_map done_bytes ys)
    (omega (arith, length-words ms, length-words ns, is_x.buckets_are, is_y.buckets_are)) front.1 in
    (same_words ms ns is_x.fronts_are is_y.fronts_are parts.0, same_dones xs ys is_x.done_are is_y.done_are parts.1)

-- ---- an event

pub one_event : (buckets : ℕ) (x y : Event) → IsLogged buckets x → IsLogged buckets y → payload_of x ≡ payload_of y → x ≡ y
one_event buckets (Begin s) (Begin t) a b same = let texts : s ≡ t = cc in ap Begin texts
one_event buckets (Pairs c j p) (Pairs d k q) a b same =
    let rest : to_le_bytes w64 c ++ (to_le_bytes w64 j ++ to_le_bytes w64 p) ≡ to_le_bytes w64 d ++ (to_le_bytes w64 k ++ to_le_bytes w64 q) = cc in
    let cuts = same_8 c d (to_le_bytes w64 j ++ to_le_bytes w64 p) (to_le_bytes w64 k ++ to_le_bytes w64 q) a.form.0 b.form.0 rest in
    let judged = same_8 j k (to_le_bytes w64 p) (to_le_bytes w64 q) a.form.1 b.form.1 cuts.1 in
    let pairs = same_8 p q [] [] a.form.2 b.form.2 judged.1 in
    ap (λ (n : ℕ). Pairs n j p) cuts.0 ∙ ap (λ (n : ℕ). Pairs d n p) judged.0 ∙ ap (Pairs d k) pairs.0
one_event buckets (Pass j) (Pass k) a b same =
    let rest : to_le_bytes w64 j ≡ to_le_bytes w64 k = cc in
    ap Pass (same_8 j k [] [] a.form b.form rest).0
one_event buckets (Robots n) (Robots m) a b same = let rest : note_bytes n ≡ note_bytes m = cc in ap Robots (same_note n m a.form b.form rest)
one_event buckets (Settle ms xs) (Settle ns ys) a b same =
    let rest : rest_of (Settle ms xs) ≡ rest_of (Settle ns ys) = cc in
    let parts = same_settle buckets ms ns xs ys a.form b.form (omega (arith, a.fits)) rest in
    ap (λ (l : List ℕ). Settle l xs) parts.0 ∙ ap (Settle ns) parts.1
one_event buckets x y a b same = absurd (omega (arith, ap (λ (l : List ℕ). get_or l 0 0) same))
