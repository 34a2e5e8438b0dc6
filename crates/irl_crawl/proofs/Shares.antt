-- Shares that an item or a note is put into.
use Rattle.std.proofs.Common.{◌≡◌, ◌∙◌, ℕ, zero, suc, List, [], ◌∷◌, ◌++◌, set, get_or, Some, refl, sym, ap, subst}
use Rattle.std.specs.Prelude.{slice_get}
use Rattle.std.specs.List.{All, AllByRecursion, Contains}
use Rattle.std.specs.List.Sorted.{IsPermutation}
use Rattle.std.proofs.lemmas.List.{append_assoc}
use Rattle.std.proofs.lemmas.List.Elements.{All-get_or, All-head, All-tail}
use Rattle.std.proofs.lemmas.Option.{get_or_from_slice_get, slice_get_within}
use Rattle.std.proofs.lemmas.List.Sorted.{IsPermutation-append_right, IsPermutation-sym, IsPermutation-to_front}
use Rattle.irl_events.specs.Events.{Happened}
use Rattle.irl_key.specs.declared.web.Work.{Work}
use Rattle.irl_offer.specs.declared.note.Note.{Note}
use Rattle.irl_polite.proofs.Lists.{same_some}
use Rattle.irl_reach.specs.Along.{notes_in}
use Rattle.irl_crawl.specs.Dealing.{AreNotesIn, HaveNotesIn, HaveServed, dealt}
use Rattle.irl_crawl.specs.Serving.{IsServedAt}
use Rattle.irl_crawl.specs.declared.dealing.Share.{Share}
use Rattle.irl_crawl.specs.declared.hosts.Hosts.{Hosts}

-- nothing is in it
abbrev pub IsEmpty : Share → Type 0
IsEmpty share = (share.items.items ≡ []) × (share.notes.items ≡ [])

-- ---- items
-- an item at the end of a part goes to the end of all
at_end : (part rest : List Work) (work : Work) → IsPermutation ((part ++ work ∷ []) ++ rest) ((part ++ rest) ++ work ∷ [])
at_end part rest work =
    let moved = IsPermutation-append_right part (work ∷ rest) (rest ++ work ∷ []) (IsPermutation-sym (rest ++ work ∷ []) (work ∷ rest) (IsPermutation-to_front rest work)) in
    subst (λ l. IsPermutation l ((part ++ rest) ++ work ∷ [])) (sym (append_assoc part (work ∷ []) rest))
    (subst (λ l. IsPermutation (part ++ work ∷ rest) l) (sym (append_assoc part rest (work ∷ []))) moved)

pub dealt_one : (shares : List Share) (at : ℕ) (old new : Share) (work : Work) → slice_get shares at ≡ Some old → new.items.items ≡ old.items.items ++ work ∷ []
    → IsPermutation (dealt (set shares at new)) (dealt shares ++ work ∷ [])
dealt_one [] at old new work here items = cc
dealt_one (share ∷ shares) zero old new work here items =
    let same : share.items.items ≡ old.items.items = ap (λ (s : Share). s.items.items) (same_some share old here) in
    let is : new.items.items ≡ share.items.items ++ work ∷ [] = items ∙ ap (λ l. l ++ work ∷ []) (sym same) in
    subst (λ l. IsPermutation (l ++ dealt shares) ((share.items.items ++ dealt shares) ++ work ∷ [])) (sym is) (at_end share.items.items (dealt shares) work)
dealt_one (share ∷ shares) (suc at) old new work here items =
    let moved = IsPermutation-append_right share.items.items (dealt (set shares at new)) (dealt shares ++ work ∷ []) (dealt_one shares at old new work here items) in
    subst (λ l. IsPermutation (share.items.items ++ dealt (set shares at new)) l) (sym (append_assoc share.items.items (dealt shares) (work ∷ []))) moved

-- nothing is dealt yet
pub dealt_none : (shares : List Share) → All IsEmpty shares → dealt shares ≡ []
dealt_none [] none = refl
dealt_none (share ∷ shares) none =
    ap (λ l. l ++ dealt shares) (All-head IsEmpty share shares none).0
    ∙ dealt_none shares (All-tail IsEmpty share shares none)

-- ---- who serves
pub served_none : (hosts : Hosts) (workers : ℕ) (shares : List Share) → All IsEmpty shares → HaveServed hosts workers shares
served_none hosts workers shares none at share here =
    let there : get_or shares at share ≡ share = get_or_from_slice_get shares at share share here in
    let empty : IsEmpty share = subst IsEmpty there (All-get_or IsEmpty shares at share (slice_get_within shares at share here) none) in
    subst (AllByRecursion (IsServedAt hosts workers at)) (sym empty.0) tt

-- ---- notes
pub notes_none : (events : List Happened) (shares : List Share) → All IsEmpty shares → HaveNotesIn events shares
notes_none events [] none = tt
notes_none events (share ∷ shares) none = (
  subst (AreNotesIn events) (sym (All-head IsEmpty share shares none).1) tt,
  notes_none events shares (All-tail IsEmpty share shares none),
)

pub notes_at : (events : List Happened) (shares : List Share) (at : ℕ) (old : Share) → slice_get shares at ≡ Some old → HaveNotesIn events shares → AreNotesIn events old.notes.items
notes_at events [] at old here have = cc
notes_at events (share ∷ shares) zero old here have = subst (λ (s : Share). AreNotesIn events s.notes.items) (same_some share old here) have.0
notes_at events (share ∷ shares) (suc at) old here have = notes_at events shares at old here have.1

pub notes_set : (events : List Happened) (shares : List Share) (at : ℕ) (new : Share) → AreNotesIn events new.notes.items → HaveNotesIn events shares → HaveNotesIn events (set shares at new)
notes_set events [] at new one have = tt
notes_set events (share ∷ shares) zero new one have = (one, have.1)
notes_set events (share ∷ shares) (suc at) new one have = (have.0, notes_set events shares at new one have.1)

-- one more at the end
pub notes_push : (events : List Happened) (notes : List Note) (note : Note) → Contains (notes_in events) note → AreNotesIn events notes → AreNotesIn events (notes ++ note ∷ [])
notes_push events [] note one are = (one, tt)
notes_push events (first ∷ notes) note one are = (are.0, notes_push events notes note one are.1)
