-- Vectors with room, one for each list, and what is put behind lists by them.
use Rattle.std.proofs.Common.{◌≡◌, ◌∙◌, ℕ, zero, suc, ◌+◌, ◌-◌, ◌<◌, ◌≤◌, List, [], ◌∷◌, ◌++◌, map, length, get_or, set, refl, sym, ap, subst, arith, rules, inl, inr, length-append}
use Rattle.std.specs.Prelude.{Vec, vec_len, Result, IfOk}
use Rattle.std.proofs.lemmas.Bool.{cases_eq}
use Rattle.std.proofs.lemmas.List.{get_or_append_left, get_or-append_right, get_or-map, get_or-set_other, length-map}
use Rattle.irl_base.specs.Lists.{items_of, list_at}
use Rattle.irl_base.proofs.ListLemmas.{at_vec, set_vec}
use Rattle.irl_beast.specs.Rooms.{IsRoom, HaveRoom}
use Rattle.irl_beast.proofs.Joining.{JoinedBelow, joined_start, joined_next}

-- ---- rooms are made one after another
-- the first so many lists have theirs
pub record RoomsBelow {X A : Type 0} (lengths : List ℕ) (more rooms : List (Vec X A)) (n : ℕ) : Type 0 where
  pub count : length rooms ≡ n
  pub each : (k : ℕ) (d e : Vec X A) → k < n → IsRoom (get_or lengths k 0) (get_or more k d) (get_or rooms k e)

at_end : {X : Type 0} (xs : List X) (x d : X) (k : ℕ) → k ≡ length xs → get_or (xs ++ x ∷ []) k d ≡ x
at_end {X = X} xs x d k is =
    let first : k - k ≡ 0 = omega arith in
    get_or-append_right xs (x ∷ []) k k d (sym is) (omega arith) ∙ ap (λ (n : ℕ). get_or (x ∷ []) n d) first

pub rooms_next : {X A : Type 0} (lengths : List ℕ) (more rooms after : List (Vec X A)) (room : Vec X A) (n : ℕ) → after ≡ rooms ++ room ∷ []
    → ((d : Vec X A) → IsRoom (get_or lengths n 0) (get_or more n d) room) → RoomsBelow lengths more rooms n → RoomsBelow lengths more after (n + 1)
rooms_next {X = X} {A = A} lengths more rooms after room n is here below = record {
  count = ap length is ∙ length-append rooms (room ∷ []) ∙ ap (λ (m : ℕ). m + 1) below.count;
  each = λ k d e lt. elim (cases_eq k n) [
    | inl same ↦
        let last : get_or after k e ≡ room = ap (λ (t : List (Vec X A)). get_or t k e) is ∙ at_end rooms room e k (same ∙ sym below.count) in
        subst (λ (m : ℕ). IsRoom (get_or lengths m 0) (get_or more m d) (get_or after k e)) (sym same)
        (subst (λ (r : Vec X A). IsRoom (get_or lengths n 0) (get_or more n d) r) (sym last) (here d))
    | inr other ↦
        let front : get_or after k e ≡ get_or rooms k e = ap (λ (t : List (Vec X A)). get_or t k e) is ∙ get_or_append_left rooms (room ∷ []) e k (omega (arith, below.count)) in
        subst (λ (r : Vec X A). IsRoom (get_or lengths k 0) (get_or more k d) r) (sym front) (below.each k d e (omega arith))
  ];
}

-- whatever stands for what lies past the end
pub any_default : {X : Type 0} (xs : List X) (n : ℕ) (d e : X) → n < length xs → get_or xs n d ≡ get_or xs n e
any_default [] n d e lt = absurd (omega arith)
any_default (x ∷ xs) zero d e lt = refl
any_default (x ∷ xs) (suc n) d e lt = any_default xs n d e (omega arith)

-- ---- items are put behind one list after another
-- the lists below a number have theirs, and the others, with what they get and their rooms, are as they were
pub record PutBelow {X A : Type 0} (was_lists was_more was_rooms lists more rooms : List (Vec X A)) (n : ℕ) : Type 0 where
  pub joined : JoinedBelow (items_of was_lists) (items_of was_more) (items_of lists) n
  pub lists_rest : (k : ℕ) (d : Vec X A) → n ≤ k → get_or lists k d ≡ get_or was_lists k d
  pub more_rest : (k : ℕ) (d : Vec X A) → n ≤ k → get_or more k d ≡ get_or was_more k d
  pub rooms_rest : (k : ℕ) (d : Vec X A) → n ≤ k → get_or rooms k d ≡ get_or was_rooms k d

pub put_start : {X A : Type 0} (lists more rooms : List (Vec X A)) → PutBelow lists more rooms lists more rooms 0
put_start lists more rooms = record {
  joined = joined_start (items_of lists) (items_of more);
  lists_rest = λ k d le. refl;
  more_rest = λ k d le. refl;
  rooms_rest = λ k d le. refl;
}

-- the room of the next list
pub room_now : {X A : Type 0} (was_lists was_more was_rooms lists more rooms : List (Vec X A)) (n : ℕ) (d e f : Vec X A) → length was_lists ≡ 65 → n < 65
    → HaveRoom (map length (items_of was_lists)) was_more was_rooms
    → PutBelow was_lists was_more was_rooms lists more rooms n → IsRoom (vec_len (get_or lists n d)) (get_or more n e) (get_or rooms n f)
room_now {X = X} {A = A} was_lists was_more was_rooms lists more rooms n d e f many lt have below =
    let within : n < length (items_of was_lists) = omega (arith, length-map was_lists (λ (v : Vec X A). v.items)) in
    let was : Vec X A = get_or was_lists n d in
    let long : vec_len was ≡ length was.items = search rules in
    let len : get_or (map length (items_of was_lists)) n 0 ≡ vec_len (get_or lists n d) =
    get_or-map length (items_of was_lists) n [] 0 within ∙ ap length (at_vec was_lists n d (omega arith)) ∙ sym long ∙ sym (ap (λ (v : Vec X A). vec_len v) (below.lists_rest n d (omega arith))) in
    subst (λ (m : ℕ). IsRoom m (get_or more n e) (get_or rooms n f)) len
    (subst (λ (v : Vec X A). IsRoom (get_or (map length (items_of was_lists)) n 0) v (get_or rooms n f)) (sym (below.more_rest n e (omega arith)))
    (subst (λ (v : Vec X A). IsRoom (get_or (map length (items_of was_lists)) n 0) (get_or was_more n e) v) (sym (below.rooms_rest n f (omega arith))) (have.each n e f lt)))

pub put_next : {X A : Type 0} (was_lists was_more was_rooms lists more rooms : List (Vec X A)) (n : ℕ) (d e list rest room : Vec X A) → n < length was_lists → n < length was_more
    → list.items ≡ (get_or lists n d).items ++ (get_or more n e).items → PutBelow was_lists was_more was_rooms lists more rooms n
    → PutBelow was_lists was_more was_rooms (set lists n list) (set more n rest) (set rooms n room) (n + 1)
put_next {X = X} {A = A} was_lists was_more was_rooms lists more rooms n d e list rest room lt lt_more is below =
    let own : (get_or lists n d).items ≡ list_at (items_of was_lists) n =
    ap (λ (v : Vec X A). v.items) (below.lists_rest n d (omega arith)) ∙ sym (at_vec was_lists n d lt) in
    let others : (get_or more n e).items ≡ list_at (items_of was_more) n =
    ap (λ (v : Vec X A). v.items) (below.more_rest n e (omega arith)) ∙ sym (at_vec was_more n e lt_more) in
    let both : list.items ≡ list_at (items_of was_lists) n ++ list_at (items_of was_more) n =
    is ∙ ap (λ (xs : List X). xs ++ (get_or more n e).items) own ∙ ap (λ (xs : List X). list_at (items_of was_lists) n ++ xs) others in
    record {
      joined = joined_next (items_of was_lists) (items_of was_more) (items_of lists) (items_of (set lists n list)) n (omega (arith, length-map was_lists (λ (v : Vec X A). v.items)))
          (set_vec lists n list _ both) below.joined;
      lists_rest = λ k f le. get_or-set_other lists n k list f (omega arith) ∙ below.lists_rest k f (omega arith);
      more_rest = λ k f le. get_or-set_other more n k rest f (omega arith) ∙ below.more_rest k f (omega arith);
      rooms_rest = λ k f le. get_or-set_other rooms n k room f (omega arith) ∙ below.rooms_rest k f (omega arith);
    }

-- a result that is a value is a value that equals it
pub ok_as : {T E : Type 0} (result : Result T E) (x y : T) → x ≡ y → IfOk result (λ v. v ≡ x) → IfOk result (λ v. v ≡ y)
ok_as {T = T} result x y same is = subst (λ (z : T). IfOk result (λ v. v ≡ z)) same is
