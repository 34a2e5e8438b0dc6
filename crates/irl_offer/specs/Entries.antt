-- The 27 bytes in which a bucket's journal keeps an offer without its text: the operation, the text's length, the key,
-- the value and the source, each number with its lowest byte first.
use Rattle.std.specs.Prelude.{ℕ, nat_eq, nat_lt, if◌then◌else◌, List, ◌∷◌, ◌++◌, drop, slice_index, Option, None, Some}
use Rattle.std.specs.Option.{option_map}
use Rattle.byteorder.specs.Endian.{little_bytes, little_number}
use Rattle.irl_base.specs.Limits.{max_text}
use Rattle.irl_offer.specs.declared.entry.Entry.{Entry}
use Rattle.irl_offer.specs.declared.offer.Op.{Op}
use Rattle.irl_offer.specs.declared.offer.Op.TheVariants.{Check, Update, Both}

-- the number of an operation
abbrev pub op_number : Op → ℕ
op_number Check = 0
op_number Update = 1
op_number Both = 2

-- the operation of a number, if there is one
abbrev pub op_of : ℕ → Option Op
op_of number =
    if nat_eq number 0 then Some Check
    else (if nat_eq number 1 then Some Update
    else (if nat_eq number 2 then Some Both else None))

-- the bytes of an entry
abbrev pub entry_bytes : Entry → List ℕ
entry_bytes entry =
    op_number entry.op ∷ (little_bytes 2 entry.aux_len
    ++ (little_bytes 8 entry.key ++ (little_bytes 8 entry.value ++ little_bytes 8 entry.from)))

-- the entry that bytes are, if they are one: none has an operation above 2 or a text of more than 2,048 bytes
abbrev pub entry_of : List ℕ → Option Entry
entry_of bytes =
    if nat_lt max_text (little_number 2 (drop 1 bytes)) then None
    else option_map (λ op. record {
      op = op;
      aux_len = little_number 2 (drop 1 bytes);
      key = little_number 8 (drop 3 bytes);
      value = little_number 8 (drop 11 bytes);
      from = little_number 8 (drop 19 bytes);
    }) (op_of (slice_index bytes 0))
