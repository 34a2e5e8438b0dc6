-- What a head that files have denies of it: a file has one head, and what has one, or none, is no ground of a refusal.
use Rattle.std.proofs.Common.{◌≡◌, ◌≢◌, ◌∙◌, ⊎_elim, inl, inr, ℕ, List, [], ◌∷◌, ◌++◌, length, drop, sym, ap, subst, arith}
use Rattle.irl_offer.specs.Settings.{AreValid}
use Rattle.irl_offer.specs.declared.settings.Asked.{Asked}
use Rattle.irl_offer.specs.declared.settings.Settings.{Settings}
use Rattle.irl_disk.specs.Disk.{Files}
use Rattle.irl_journal.specs.Format.{StandsFor, IsBrokenAt, HasNoRecord, records_text, open_gate, body_text}
use Rattle.irl_journal.proofs.Lists.{one_list, whole_list, record_behind, records-cons, same_bodies}
use Rattle.irl_head.specs.StoreFiles.{head_file}
use Rattle.irl_head.specs.Head.{head_bytes, IsNoHeadAt}
use Rattle.irl_head.specs.Asking.{Agrees, IsOther}
use Rattle.irl_head.specs.Opening.{HasFirst, HasHead, HasSettings, IsBadStore, IsBlank, IsKeptOtherwise, IsNotOursAt}
use Rattle.irl_head.proofs.HeadBytes.{own_head, one_settings}

-- ---- a head
-- a file that stands for one record stands for no other list
pub none_or_one : (file x : List ℕ) → StandsFor file [] → StandsFor file (x ∷ []) → ⊥
none_or_one file x none one = let same : [] ≡ x ∷ [] = one_list file [] (x ∷ []) none one in cc

-- where it stands for none, no record is first
none_first : (file payload : List ℕ) (gate : ℕ) → StandsFor file [] → HasFirst file payload gate → ⊥
none_first file payload gate none first =
    let behind = record_behind file [] [] payload first.rest gate none tt first.fits first.bytes in
    let same : [] ≡ payload ∷ behind.0 = behind.1 in
    cc

-- and where it stands for one, that is, with a closed gate behind it
one_first : (file x payload : List ℕ) (gate : ℕ) → StandsFor file (x ∷ []) → HasFirst file payload gate → (payload ≡ x) × (gate ≢ open_gate)
one_first file x payload gate (inl few) first = let no : x ∷ [] ≡ [] = few.1 in cc
one_first file x payload gate (inr has) first =
    let apart : open_gate ∷ (body_text x ++ (has.gate ∷ has.rest)) ≡ open_gate ∷ (body_text payload ++ (gate ∷ first.rest)) = sym (records-cons x [] (has.gate ∷ has.rest)) ∙ sym has.bytes
    ∙ first.bytes in
    let parts = same_bodies x payload (has.gate ∷ has.rest) (gate ∷ first.rest) has.each.0 first.fits (ap (drop 1) apart) in
    let gates : has.gate ≡ gate = let behind = parts.1 in cc in
    (sym parts.0, λ is. has.closed (gates ∙ is))

pub head_of : (settings : Settings) (files : Files) → AreValid settings → StandsFor (files head_file) (head_bytes settings ∷ []) → HasHead settings files
head_of settings files valid head = record { valid = valid; head = head }

-- a store has one head
pub one_head : (x y : Settings) (files : Files) → HasHead x files → HasHead y files → x ≡ y
one_head x y files has_x has_y =
    let same = one_list (files head_file) (head_bytes x ∷ []) (head_bytes y ∷ []) has_x.head has_y.head in
    one_settings x y has_x.valid has_y.valid (let lists : head_bytes x ∷ [] ≡ head_bytes y ∷ [] = same in cc)

-- ---- what is ours
pub blank_ours : (files : Files) (at : ℕ) → IsBlank files → IsNotOursAt files at → ⊥
blank_ours files at blank (inl other) = let more = other.1 in omega (arith, more.2, blank.others more.0 more.1)
blank_ours files at blank (inr (inl none)) = none_first (files head_file) none.0 none.1 blank.head none.2
blank_ours files at blank (inr (inr more)) = none_first (files head_file) (head_bytes more.0) more.2 blank.head more.3

pub head_ours : (settings : Settings) (files : Files) (at : ℕ) → HasHead settings files → IsNotOursAt files at → ⊥
head_ours settings files at head (inl other) = none_or_one (files head_file) (head_bytes settings) other.0 head.head
head_ours settings files at head (inr (inl none)) =
    let first = one_first (files head_file) (head_bytes settings) none.0 none.1 head.head none.2 in
    own_head settings at head.valid (subst (λ (payload : List ℕ). IsNoHeadAt payload at) first.0 none.3)
head_ours settings files at head (inr (inr more)) = (one_first (files head_file) (head_bytes settings) (head_bytes more.0) more.2 head.head more.3).1 more.4

pub settings_ours : (asked : Asked) (files : Files) (settings : Settings) (at : ℕ) → HasSettings asked files settings → IsNotOursAt files at → ⊥
settings_ours asked files settings at has other = ⊎_elim (λ head. head_ours settings files at head other) (λ blank. blank_ours files at blank.0 other) has

-- ---- no two kinds of refusal by a head have their grounds in the same files
-- a record that is whole isn't broken
first_whole : (file payload : List ℕ) (gate : ℕ) (payloads : List (List ℕ)) (rest : List ℕ) → HasFirst file payload gate → file ≡ records_text payloads ++ (open_gate ∷ rest)
    → 0 ≡ length (records_text payloads) → HasNoRecord (open_gate ∷ rest) → ⊥
first_whole file payload gate [] rest first bytes place none = none payload first.rest gate first.fits (sym bytes ∙ first.bytes)
first_whole file payload gate (x ∷ xs) rest first bytes place none = omega (arith, place)

first_unbroken : (file payload : List ℕ) (gate : ℕ) → HasFirst file payload gate → IsBrokenAt file 0 → ⊥
first_unbroken file payload gate first broken = first_whole file payload gate broken.payloads broken.rest first broken.bytes broken.place broken.broken

pub ours_unbroken : (files : Files) (at : ℕ) → IsNotOursAt files at → IsBrokenAt (files head_file) 0 → ⊥
ours_unbroken files at (inl other) broken = whole_list (files head_file) [] 0 other.0 broken
ours_unbroken files at (inr (inl none)) broken = first_unbroken (files head_file) none.0 none.1 none.2 broken
ours_unbroken files at (inr (inr more)) broken = first_unbroken (files head_file) (head_bytes more.0) more.2 more.3 broken

pub ours_or_other : (asked : Asked) (files : Files) (at n kept wanted : ℕ) → IsNotOursAt files at → IsKeptOtherwise asked files n kept wanted → ⊥
ours_or_other asked files at n kept wanted ours other = head_ours other.0 files at other.1 ours

pub ours_or_bad : (asked : Asked) (files : Files) (at n : ℕ) → IsNotOursAt files at → IsBadStore asked files n → ⊥
ours_or_bad asked files at n ours bad = blank_ours files at bad.0 ours

-- what agrees isn't otherwise
pub agrees_or_other : (asked : Asked) (settings : Settings) (n kept wanted : ℕ) → Agrees asked settings → IsOther asked settings n kept wanted → ⊥
agrees_or_other asked settings n kept wanted agrees other = other.differ (sym (agrees _ wanted kept other.asked_is other.kept_is))

pub other_or_bad : (asked : Asked) (files : Files) (n kept wanted m : ℕ) → IsKeptOtherwise asked files n kept wanted → IsBadStore asked files m → ⊥
other_or_bad asked files n kept wanted m other bad = none_or_one (files head_file) (head_bytes other.0) bad.0.head other.1.head
