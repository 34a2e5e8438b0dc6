-- The bytes of a head: which settings bytes are.
use Rattle.std.proofs.Common.{◌≡◌, ◌∙◌, inl, inr, ℕ, zero, suc, ◌+◌, ◌*◌, ◌-◌, ◌^◌, ◌<◌, ◌≤◌, List, [], ◌∷◌, ◌++◌, length, take, drop, refl, sym, ap, subst, arith, length-drop, take-append-drop}
use Rattle.std.proofs.lemmas.List.{drop-drop}
use Rattle.std.specs.Prelude.{slice_index, Err, IsErrOf}
use Rattle.std.specs.List.{flat_map, AllByRecursion}
use Rattle.byteorder.specs.Endian.{little_bytes, little_number}
use Rattle.irl_offer.specs.Settings.{AreValid}
use Rattle.irl_offer.specs.declared.settings.Settings.{Settings}
use Rattle.irl_offer.specs.declared.settings.Kind.{Kind}
use Rattle.irl_offer.specs.declared.settings.Kind.TheVariants.{Lines, Tuples, Crawl}
use Rattle.irl_offer.specs.declared.offer.Rule.{Rule}
use Rattle.irl_offer.specs.declared.offer.Rule.TheVariants.{Keep, Replace, Add}
use Rattle.irl_head.proofs.NumberBytes.{AreBytes, bytes-drop, bytes_back, numbers_in, numbers_written, numbers_read}
use Rattle.irl_head.specs.Head.{head_bytes, head_name, head_version, setting_numbers, kind_number, rule_number, number_in, IsInRange, IsBadSetting, IsNoHeadAt}
use Rattle.irl_head.proofs.SettingNumbers.{count_small}
use Rattle.irl_head.specs.Numbers.{AreInRange, AreNumbersIn, IsBadNumber}

-- numbers of eight bytes each are those that stand there
numbers_are : (n at : ℕ) (bytes numbers : List ℕ) → length numbers ≡ n → ((k : ℕ) → k < n → slice_index numbers k ≡ little_number 8 (drop (at + 8 * k) bytes)) → numbers_in n (drop at bytes) ≡ numbers
numbers_are zero at bytes [] long each = refl
numbers_are zero at bytes (x ∷ numbers) long each = absurd (omega arith)
numbers_are (suc n) at bytes [] long each = absurd (omega arith)
numbers_are (suc n) at bytes (x ∷ numbers) long each =
    let here : at + 8 * 0 ≡ at = omega arith in
    let first : x ≡ little_number 8 (drop at bytes) = each 0 (omega arith) ∙ ap (λ (k : ℕ). little_number 8 (drop k bytes)) here in
    let more : numbers_in n (drop (at + 8) bytes) ≡ numbers =
    numbers_are n (at + 8) bytes numbers (omega arith) (λ k below. let place : at + 8 * suc k ≡ at + 8 + 8 * k = omega arith in each (suc k) (omega arith)
    ∙ ap (λ (j : ℕ). little_number 8 (drop j bytes)) place) in
    rw (drop-drop 8 at bytes, more, first) refl

-- and a payload with the name, the version and these numbers is theirs
pub head_written : (payload numbers : List ℕ) → length payload ≡ 100 → AreBytes payload → take 8 payload ≡ head_name → little_number 4 (drop 8 payload) ≡ head_version → length numbers ≡ 11
    → AreNumbersIn payload numbers
    → payload ≡ head_name ++ (little_bytes 4 head_version ++ flat_map (little_bytes 8) numbers)
head_written payload numbers long small name version eleven are =
    let each : (k : ℕ) → k < 11 → slice_index numbers k ≡ little_number 8 (drop (12 + 8 * k) payload) = λ k below. (let same : k + 1 - 1 ≡ k = omega arith in
    sym (ap (slice_index numbers) same) ∙ are (k + 1) (omega arith) (omega arith) ∙ ap (λ (j : ℕ). little_number 8 (drop (12 + 8 * j) payload)) same) in
    let numbered : drop 12 payload ≡ flat_map (little_bytes 8) numbers =
    numbers_written 11 (drop 12 payload) (omega (arith, length-drop 12 payload)) (bytes-drop 12 payload small) ∙ ap (flat_map (little_bytes 8)) (numbers_are 11 12 payload numbers eleven each) in
    let four : take 4 (drop 8 payload) ≡ little_bytes 4 head_version =
    sym (bytes_back 4 (drop 8 payload) (omega (arith, length-drop 8 payload)) (bytes-drop 8 payload small)) ∙ ap (little_bytes 4) version in
    let behind : drop 8 payload ≡ little_bytes 4 head_version ++ flat_map (little_bytes 8) numbers =
    sym (take-append-drop 4 (drop 8 payload)) ∙ ap (λ (l : List ℕ). take 4 (drop 8 payload) ++ l) (drop-drop 4 8 payload ∙ numbered)
    ∙ ap (λ (l : List ℕ). l ++ flat_map (little_bytes 8) numbers) four in
    sym (take-append-drop 8 payload) ∙ ap (λ (l : List ℕ). take 8 payload ++ l) behind ∙ ap (λ (l : List ℕ). l ++ (little_bytes 4 head_version ++ flat_map (little_bytes 8) numbers)) name

-- settings whose numbers lie in their ranges are valid
pub valid_settings : (settings : Settings) → AreInRange (setting_numbers settings) → AreValid settings
valid_settings settings within = record {
  buckets = (within 3 (omega arith) (omega arith)).buckets refl;
  sizes = record {
    array = (within 4 (omega arith) (omega arith)).array refl;
    trigger = (within 5 (omega arith) (omega arith)).trigger refl;
    block = (within 6 (omega arith) (omega arith)).block refl;
    cap = (within 7 (omega arith) (omega arith)).cap refl;
  };
  budgets = record {
    queues = (within 8 (omega arith) (omega arith)).queues refl;
    base = (within 9 (omega arith) (omega arith)).least refl;
    most = (within 10 (omega arith) (omega arith)).most refl;
    ranks = (within 11 (omega arith) (omega arith)).ranks refl;
  };
}

-- a number out of its range makes a payload none
pub bad_setting : (payload numbers : List ℕ) (n : ℕ) → AreNumbersIn payload numbers → IsBadNumber numbers n → IsBadSetting payload n
bad_setting payload numbers n are is =
    let base : slice_index numbers 8 ≡ number_in payload 9 = are 9 (omega arith) (omega arith) in
    let moved = λ (m : ℕ) (from : 1 ≤ m) (to : m ≤ 11) (within : IsInRange (slice_index numbers 8) m (slice_index numbers (m - 1))).
    subst (λ (x : ℕ). IsInRange x m (number_in payload m)) base (subst (IsInRange (slice_index numbers 8) m) (are m from to) within) in
    let back = λ (within : IsInRange (number_in payload 9) n (number_in payload n)).
    subst (λ (x : ℕ). IsInRange x n (slice_index numbers (n - 1))) (sym base) (subst (IsInRange (number_in payload 9) n) (sym (are n is.within.0 is.within.1)) within) in
    record {
      within = is.within;
      bad = λ within. is.bad (back within);
      before = λ m from below. moved m from (omega (arith, is.within.1)) (is.before m from below);
    }

-- the place that an error tells
pub told_place : (x at : ℕ) → IsErrOf {T = Settings} {E = ℕ} (Err x) at → x ≡ at
told_place x at is = cc

-- ---- the bytes of valid settings
kind_range : (kind : Kind) → (1 ≤ kind_number kind) × (kind_number kind ≤ 3)
kind_range Lines = (omega arith, omega arith)
kind_range Tuples = (omega arith, omega arith)
kind_range Crawl = (omega arith, omega arith)

rule_range : (rule : Rule) → rule_number rule ≤ 2
rule_range Keep = omega arith
rule_range Replace = omega arith
rule_range Add = omega arith

pub valid_numbers : (settings : Settings) → AreValid settings → AreInRange (setting_numbers settings)
valid_numbers settings valid = λ n from to. record {
  kind = λ e. rw e (kind_range settings.kind);
  rule = λ e. rw e (rule_range settings.rule);
  buckets = λ e. rw e valid.buckets;
  array = λ e. rw e valid.sizes.array;
  trigger = λ e. rw e valid.sizes.trigger;
  block = λ e. rw e valid.sizes.block;
  cap = λ e. rw e valid.sizes.cap;
  queues = λ e. rw e valid.budgets.queues;
  least = λ e. rw e valid.budgets.base;
  most = λ e. rw e valid.budgets.most;
  ranks = λ e. rw e valid.budgets.ranks;
}

numbers_fit : (settings : Settings) → AreValid settings → AllByRecursion (λ (x : ℕ). x < 2 ^ 64) (setting_numbers settings)
numbers_fit settings valid = (
  omega (arith, (kind_range settings.kind).1),
  (
    omega (arith, rule_range settings.rule),
    (
      omega (arith, count_small settings.buckets valid.buckets),
      (
        omega (arith, valid.sizes.array.1),
        (
          omega (arith, valid.sizes.trigger.1),
          (
            omega (arith, valid.sizes.block.1),
            (
              omega (arith, valid.sizes.cap.1),
              (
                omega (arith, valid.budgets.queues.1),
                (omega (arith, valid.budgets.base.1), (omega (arith, valid.budgets.most.1), (omega (arith, valid.budgets.ranks.1), tt))),
              ),
            ),
          ),
        ),
      ),
    ),
  ),
)

number_at : (n k : ℕ) (bytes : List ℕ) → k < n → slice_index (numbers_in n bytes) k ≡ little_number 8 (drop (8 * k) bytes)
number_at zero k bytes below = absurd (omega arith)
number_at (suc n) zero bytes below = refl
number_at (suc n) (suc k) bytes below =
    let place : 8 + 8 * k ≡ 8 * suc k = omega arith in
    number_at n k (drop 8 bytes) (omega arith) ∙ ap (little_number 8) (drop-drop (8 * k) 8 bytes ∙ ap (λ (j : ℕ). drop j bytes) place)

-- they give the settings' numbers back
pub own_list : (settings : Settings) → AreValid settings → numbers_in 11 (drop 12 (head_bytes settings)) ≡ setting_numbers settings
own_list settings valid = numbers_read (setting_numbers settings) (numbers_fit settings valid)

own_numbers : (settings : Settings) → AreValid settings → AreNumbersIn (head_bytes settings) (setting_numbers settings)
own_numbers settings valid = λ n from to.
    ap (λ (l : List ℕ). slice_index l (n - 1)) (sym (own_list settings valid))
    ∙ number_at 11 (n - 1) (drop 12 (head_bytes settings)) (omega arith)
    ∙ ap (little_number 8) (drop-drop (8 * (n - 1)) 12 (head_bytes settings))

own_name : (settings : Settings) (i : ℕ) → i < 8 → slice_index (head_bytes settings) i ≡ slice_index head_name i
own_name settings zero below = refl
own_name settings (suc zero) below = refl
own_name settings (suc (suc zero)) below = refl
own_name settings (suc (suc (suc zero))) below = refl
own_name settings (suc (suc (suc (suc zero)))) below = refl
own_name settings (suc (suc (suc (suc (suc zero))))) below = refl
own_name settings (suc (suc (suc (suc (suc (suc zero)))))) below = refl
own_name settings (suc (suc (suc (suc (suc (suc (suc zero))))))) below = refl
own_name settings (suc (suc (suc (suc (suc (suc (suc (suc i)))))))) below = absurd (omega arith)

no_bad : (settings : Settings) (n : ℕ) → AreValid settings → IsBadSetting (head_bytes settings) n → ⊥
no_bad settings n valid is =
    let are = own_numbers settings valid in
    let within = valid_numbers settings valid n is.within.0 is.within.1 in
    is.bad (subst (λ (x : ℕ). IsInRange x n (number_in (head_bytes settings) n)) (are 9 (omega arith) (omega arith)) (subst (IsInRange settings.base n) (are n is.within.0 is.within.1) within))

-- so they are none nowhere
pub own_head : (settings : Settings) (at : ℕ) → AreValid settings → IsNoHeadAt (head_bytes settings) at → ⊥
own_head settings at valid is = elim is [
  | inl short ↦ short.0 refl
  | inr (inl name) ↦ (name.2).differs (own_name settings name.1 (name.2).within)
  | inr (inr (inl version)) ↦ version.2 refl
  | inr (inr (inr bad)) ↦ no_bad settings bad.3 valid bad.4
]

-- ---- settings are told by their numbers
same_kind : (x y : Kind) → kind_number x ≡ kind_number y → x ≡ y
same_kind Lines Lines e = refl
same_kind Lines Tuples e = absurd (omega arith)
same_kind Lines Crawl e = absurd (omega arith)
same_kind Tuples Lines e = absurd (omega arith)
same_kind Tuples Tuples e = refl
same_kind Tuples Crawl e = absurd (omega arith)
same_kind Crawl Lines e = absurd (omega arith)
same_kind Crawl Tuples e = absurd (omega arith)
same_kind Crawl Crawl e = refl

same_rule : (x y : Rule) → rule_number x ≡ rule_number y → x ≡ y
same_rule Keep Keep e = refl
same_rule Keep Replace e = absurd (omega arith)
same_rule Keep Add e = absurd (omega arith)
same_rule Replace Keep e = absurd (omega arith)
same_rule Replace Replace e = refl
same_rule Replace Add e = absurd (omega arith)
same_rule Add Keep e = absurd (omega arith)
same_rule Add Replace e = absurd (omega arith)
same_rule Add Add e = refl

each_same : (x : Settings) (kind : Kind) (rule : Rule) (buckets array trigger block cap queues base most ranks : ℕ) → x.kind ≡ kind → x.rule ≡ rule → x.buckets ≡ buckets → x.array ≡ array
    → x.trigger ≡ trigger → x.block ≡ block → x.cap ≡ cap → x.queues ≡ queues → x.base ≡ base → x.most ≡ most → x.ranks ≡ ranks
    → x ≡ record { kind = kind; rule = rule; buckets = buckets; array = array; trigger = trigger; block = block; cap = cap; queues = queues; base = base; most = most; ranks = ranks }
each_same x kind rule buckets array trigger block cap queues base most ranks a b c d e f g h i j k = rw (← a, ← b, ← c, ← d, ← e, ← f, ← g, ← h, ← i, ← j, ← k) refl

pub same_settings : (x y : Settings) → setting_numbers x ≡ setting_numbers y → x ≡ y
same_settings x y same =
    let at = λ (k : ℕ). ap (λ (l : List ℕ). slice_index l k) same in
    let kind = same_kind x.kind y.kind (at 0) in
    let rule = same_rule x.rule y.rule (at 1) in
    let third : x.buckets ≡ y.buckets = at 2 in
    let fourth : x.array ≡ y.array = at 3 in
    let fifth : x.trigger ≡ y.trigger = at 4 in
    let sixth : x.block ≡ y.block = at 5 in
    let seventh : x.cap ≡ y.cap = at 6 in
    let eighth : x.queues ≡ y.queues = at 7 in
    let ninth : x.base ≡ y.base = at 8 in
    let tenth : x.most ≡ y.most = at 9 in
    let last : x.ranks ≡ y.ranks = at 10 in
    each_same x y.kind y.rule y.buckets y.array y.trigger y.block y.cap y.queues y.base y.most y.ranks kind rule third fourth fifth sixth seventh eighth ninth tenth last

-- and by their bytes
pub one_settings : (x y : Settings) → AreValid x → AreValid y → head_bytes x ≡ head_bytes y → x ≡ y
one_settings x y valid_x valid_y same =
    same_settings x y (sym (own_list x valid_x) ∙ ap (λ (l : List ℕ). numbers_in 11 (drop 12 l)) same ∙ own_list y valid_y)
