-- The index of a tape's records: what it leads to, and what it has after one record more.
use Rattle.std.proofs.Common.{◌≡◌, ◌∙◌, ℕ, suc, Bool, true, false, List, [], ◌∷◌, ◌++◌, length, Option, Some, None, cond, refl, sym, ap}
use Rattle.std.specs.Prelude.{Vec, slice_get, option_map, option_and_then, is_some, bytes_eq}
use Rattle.std.specs.Option.{option_or}
use Rattle.std.specs.declared.cmp.Ordering.{Ordering}
use Rattle.std.specs.declared.cmp.Ordering.TheVariants.{Less, Equal, Greater}
use Rattle.std.specs.Ordering.{nat_cmp, is_eq, match_ordering}
use Rattle.std.specs.Cmp.Lexicographic.{slice_cmp}
use Rattle.std.specs.BTreeMap.{is_at, insert_entry}
use Rattle.std.proofs.lemmas.Map.Text.{is_eq-slice_cmp}
use Rattle.std.proofs.lemmas.Slice.Eq.{bytes_eq-Decides}
use Rattle.irl_record.specs.declared.record.Record.{Record}
use Rattle.irl_record.specs.Taped.{Records, record_at}
use Rattle.irl_record.specs.Index.{place_of, found, Enters}

abbrev pub vec_cmp : {A : Type 0} → Vec ℕ A → Vec ℕ A → Ordering
vec_cmp a b = slice_cmp nat_cmp a.items b.items

same_text : (a b : List ℕ) → slice_cmp nat_cmp a b ≡ Equal → a ≡ b
same_text a b e = (bytes_eq-Decides a b).0 (sym (is_eq-slice_cmp a b) ∙ ap is_eq e)

twice : {X : Type 0} (a b : Bool) → a ≡ b → (v w : X) (o : Option X) → cond b (Some v) o ≡ cond a (Some v) (cond b (Some w) o)
twice true true e v w o = refl
twice true false e v w o = cc
twice false b e v w o = ap (λ t. cond t (Some v) o) (sym e) ∙ sym (ap (λ t. cond t (Some w) o) (sym e))

turned : {X : Type 0} (a b : Bool) (v w : X) (o : Option X) → (a ≡ true → b ≡ false) → cond b (Some w) (cond a (Some v) o) ≡ cond a (Some v) (cond b (Some w) o)
turned true true v w o apart = absurd (let e = apart refl in cc)
turned true false v w o apart = refl
turned false b v w o apart = refl

-- whether the text is that of the key
abbrev is_of : {A : Type 0} → List ℕ → Vec ℕ A → Bool
is_of {A = A} url k = is_at (λ (x : Vec ℕ A). slice_cmp nat_cmp url x.items) k

not_both : (a b c : List ℕ) → slice_cmp nat_cmp b c ≡ Greater → is_eq (slice_cmp nat_cmp a b) ≡ true → is_eq (slice_cmp nat_cmp a c) ≡ false
not_both a b c e f =
    let same : a ≡ b = (bytes_eq-Decides a b).0 (sym (is_eq-slice_cmp a b) ∙ f) in
    ap (λ t. is_eq (slice_cmp nat_cmp t c)) same ∙ ap is_eq e

module _ {A : Type 0} (url : List ℕ) (k : Vec ℕ A) (v : ℕ) where
  insert_by : (e : Vec ℕ A × ℕ) (es : List (Vec ℕ A × ℕ)) (o : Ordering) → vec_cmp k e.0 ≡ o → found (insert_entry vec_cmp es k v) url ≡ cond (is_of url k) (Some v) (found es url)
      → found (match_ordering o ((k, v) ∷ e ∷ es) ((e.0, v) ∷ es) (e ∷ insert_entry vec_cmp es k v)) url ≡ cond (is_of url k) (Some v) (found (e ∷ es) url)
  insert_by e es Less is later = refl
  insert_by e es Equal is later = twice (is_of url k) (is_of url e.0) (ap (λ t. is_eq (slice_cmp nat_cmp url t)) (same_text k.items e.0.items is)) v e.1 (found es url)
  insert_by e es Greater is later =
      ap (λ o. cond (is_of url e.0) (Some e.1) o) later
      ∙ turned (is_of url k) (is_of url e.0) v e.1 (found es url) (not_both url k.items e.0.items is)

  -- what an index has at a text after one more entry
  found_insert : (es : List (Vec ℕ A × ℕ)) → found (insert_entry vec_cmp es k v) url ≡ cond (is_of url k) (Some v) (found es url)
  found_insert [] = refl
  found_insert (e ∷ es) = insert_by e es (vec_cmp k e.0) refl (found_insert es)

-- what stands at a place, if there is one
abbrev pub led_to : Records → Option ℕ → Option Record
led_to records place = option_and_then (λ n. option_map (λ r. r.1) (slice_get records n)) place

behind : (r : List ℕ × Record) (records : Records) (place : Option ℕ) → led_to (r ∷ records) (option_map suc place) ≡ led_to records place
behind r records None = refl
behind r records (Some n) = refl

led_by : (b : Bool) (r : List ℕ × Record) (records : Records) (url : List ℕ) → led_to records (place_of records url) ≡ record_at records url
    → led_to (r ∷ records) (cond b (Some 0) (option_map suc (place_of records url))) ≡ cond b (Some r.1) (record_at records url)
led_by true r records url later = refl
led_by false r records url later = behind r records (place_of records url) ∙ later

-- at the place of a URL stands what is recorded of it
pub led_place : (records : Records) (url : List ℕ) → led_to records (place_of records url) ≡ record_at records url
led_place [] url = refl
led_place (r ∷ records) url = led_by (bytes_eq url r.0) r records url (led_place records url)

one_later : (c : Bool) (place : Option ℕ) (n : ℕ) → option_map suc (option_or place (cond c (Some n) None)) ≡ option_or (option_map suc place) (cond c (Some (suc n)) None)
one_later c (Some i) n = refl
one_later true None n = refl
one_later false None n = refl

more_by : (b c : Bool) (place : Option ℕ) (rest : Option ℕ) (n : ℕ) → rest ≡ option_or place (cond c (Some n) None)
    → cond b (Some 0) (option_map suc rest) ≡ option_or (cond b (Some 0) (option_map suc place)) (cond c (Some (suc n)) None)
more_by true c place rest n later = refl
more_by false c place rest n later = ap (option_map suc) later ∙ one_later c place n

-- one record more is the first of its URL only where there was none
pub place_more : (records : Records) (last : List ℕ × Record) (url : List ℕ) → place_of (records ++ last ∷ []) url
    ≡ option_or (place_of records url) (cond (bytes_eq url last.0) (Some (length records)) None)
place_more [] last url = refl
place_more (r ∷ records) last url =
    more_by (bytes_eq url r.0) (bytes_eq url last.0) (place_of records url) (place_of (records ++ last ∷ []) url) (length records) (place_more records last url)

kept_by : (b : Bool) (place : Option ℕ) (n : ℕ) → (b ≡ true → is_some place ≡ true) → place ≡ option_or place (cond b (Some n) None)
kept_by b (Some i) n had = refl
kept_by true None n had = absurd (let e = had refl in cc)
kept_by false None n had = refl

new_by : (b : Bool) (place : Option ℕ) (n : ℕ) → (b ≡ true → is_some place ≡ false) → cond b (Some n) place ≡ option_or place (cond b (Some n) None)
new_by true (Some i) n none = absurd (let e = none refl in cc)
new_by true None n none = refl
new_by false (Some i) n none = refl
new_by false None n none = refl

module _ {A : Type 0} (entries : List (Vec ℕ A × ℕ)) (url : List ℕ) (n : ℕ) where
  there : (other : List ℕ) (b : Bool) → is_some (found entries url) ≡ b → bytes_eq other url ≡ true → is_some (found entries other) ≡ b
  there other b had same =
      let e : other ≡ url = (bytes_eq-Decides other url).0 same in
      ap (λ t. is_some (found entries t)) e ∙ had

  -- the index serves where it has the URL
  pub has_place : is_some (found entries url) ≡ true → Enters url n entries entries
  has_place had other = kept_by (bytes_eq other url) (found entries other) n (there other true had)

  -- and else one entry more
  pub takes_place : is_some (found entries url) ≡ false → (k : Vec ℕ A) → k.items ≡ url → (new : List (Vec ℕ A × ℕ)) → new ≡ insert_entry vec_cmp entries k n → Enters url n entries new
  takes_place none k text new is other =
      ap (λ es. found es other) is ∙ found_insert other k n entries
      ∙ ap (λ b. cond b (Some n) (found entries other)) (is_eq-slice_cmp other k.items ∙ ap (bytes_eq other) text)
      ∙ new_by (bytes_eq other url) (found entries other) n (there other false none)

-- it is the index of one record more
pub index_more : {A : Type 0} (old new : List (Vec ℕ A × ℕ)) (records : Records) (last : List ℕ × Record) → ((url : List ℕ) → found old url ≡ place_of records url)
    → Enters last.0 (length records) old new → (url : List ℕ) → found new url ≡ place_of (records ++ last ∷ []) url
index_more old new records last is enters url =
    enters url
    ∙ ap (λ o. option_or o (cond (bytes_eq url last.0) (Some (length records)) None)) (is url)
    ∙ sym (place_more records last url)
