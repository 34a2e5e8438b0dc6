use Rattle.std.proofs.Common.{◌≡◌, ◌++◌, ◌+◌, ◌-◌, ◌≤◌, length, take, drop, vec_len, ℕ, List, sym, ◌∙◌, ap, arith, length-append, length-take, length-drop}
use Rattle.std.proofs.lemmas.List.{drop-take, drop-append-le, with_items_is}
use Rattle.std.proofs.lemmas.Slice.{take-put_mid}
use Rattle.std.specs.Vec.{with_items}
use borrow.Rule.Slice.PartMut.{put_mid}
use Rattle.irl_journal.proofs.frame.Frame.put.Goals as goal

-- the payload, once bytes stand behind it
longer : (len k : ℕ) (items bytes : List ℕ) → 4 + len ≤ length items → take (len + length bytes) (drop 4 (put_mid (4 + len) k items bytes)) ≡ take len (drop 4 items) ++ bytes
longer len k items bytes fits =
    sym (drop-take 4 (len + length bytes) (put_mid (4 + len) k items bytes))
    ∙ ap (λ (l : List ℕ). drop 4 l) (take-put_mid (4 + len) k items bytes (4 + (len + length bytes)) (omega arith) fits)
    ∙ drop-append-le 4 (take (4 + len) items) bytes (omega (arith, length-take (4 + len) items))
    ∙ ap (λ (l : List ℕ). l ++ bytes) (drop-take 4 len items)

-- what is written over a part leaves the length
same_length : (a k : ℕ) (items bytes : List ℕ) → a + length bytes ≤ length items → k ≡ a + length bytes - a → length (put_mid a k items bytes) ≡ length items
same_length a k items bytes fits count = simp (length-append, length-take, length-drop) (omega arith)

pub returns : goal.returns
returns c =
    let buffer = c.self.inside.buffer in
    let len = c.self.inside.len in
    let bytes = c.args.bytes.now in
    let items = c.deref_mut.result.now in
    let k = 4 + len + length bytes - (4 + len) in
    let room = rw (← c.self.view_is) at c.requires in
    let fits : 4 + len + length bytes ≤ length items = omega (
      arith,
      room,
      c.self.invariant.0,
      c.deref_mut.ensures.len,
      ap length c.deref_mut.ensures.value,
      length-take len (drop 4 buffer.items),
      length-drop 4 buffer.items,
    ) in
    let put = put_mid (4 + len) k items c.copy_from_slice.new.self in
    let put_is : put ≡ put_mid (4 + len) k items bytes = ap (λ (l : List ℕ). put_mid (4 + len) k items l) c.copy_from_slice.ensures.after in
    let put_long : length put ≡ buffer.len = ap length put_is ∙ same_length (4 + len) k items bytes fits (omega arith) ∙ c.deref_mut.ensures.len in
    let closed_from : c.deref_mut-2.result.now ≡ put_mid (4 + len) k items bytes = c.deref_mut-2.ensures.value ∙ with_items_is buffer put put_long ∙ put_is in
    let closed_is : (with_items (with_items buffer put) c.close.new.buffer).items ≡ c.close.new.buffer =
    with_items_is (with_items buffer put) c.close.new.buffer (c.close.ensures.long ∙ c.deref_mut-2.ensures.len) in
    let payload : take (len + length bytes) (drop 4 c.close.new.buffer) ≡ take len (drop 4 buffer.items) ++ bytes =
    c.close.ensures.payload
    ∙ ap (λ (l : List ℕ). take (len + length bytes) (drop 4 l)) closed_from
    ∙ longer len k items bytes (omega arith)
    ∙ ap (λ (l : List ℕ). take len (drop 4 l) ++ bytes) c.deref_mut.ensures.value in
    rw (← c.self.view_is) (ap (λ (l : List ℕ). record { room = vec_len buffer - 5; bytes = l }) (ap (λ (l : List ℕ). take (len + length bytes) (drop 4 l)) closed_is ∙ payload))
