-- What a write does to the list of a link's connections.
use Rattle.std.proofs.Common.{◌≡◌, ℕ, List, [], ◌∷◌, ◌++◌, Option, None, Some, refl, ap, ◌∙◌, append-nil}
use Rattle.irl_http.specs.declared.link.Connection.{Connection}
use Rattle.std.proofs.Common.{true, is_some}
use Rattle.std.proofs.lemmas.Bool.{false≢true}
use Rattle.irl_http.specs.declared.mem_link.Current.{Current}
use Rattle.irl_http.specs.Memory.{as_made}
use Rattle.irl_http.specs.Links.{written_on_last, HasExchange, WritesOnLast, StaySame}

pub on_last : (piece : List ℕ) (old : List Connection) (c : Connection) → written_on_last piece (old ++ c ∷ []) ≡ old ++ record c { written = c.written ++ piece } ∷ []
on_last piece [] c = refl
on_last piece (x ∷ []) c = refl
on_last piece (x ∷ y ∷ xs) c = ap (λ l. x ∷ l) (on_last piece (y ∷ xs) c)

pub none_on_last : (old : List Connection) → written_on_last [] old ≡ old
none_on_last [] = refl
none_on_last (x ∷ []) = ap (λ w. record x { written = w } ∷ []) (append-nil x.written)
none_on_last (x ∷ y ∷ xs) = ap (λ l. x ∷ l) (none_on_last (y ∷ xs))

-- a write on the connection that was made adds to its exchange
pub exchange_written : (port : ℕ) (gives written piece : List ℕ) (before made after : Option (List Connection)) → HasExchange port gives written before made → WritesOnLast piece made after
    → HasExchange port gives (written ++ piece) before after
exchange_written port gives written piece None None None has writes = tt
exchange_written port gives written piece None None (Some last) has writes = absurd writes
exchange_written port gives written piece None (Some new) after has writes = absurd has
exchange_written port gives written piece (Some old) None after has writes = absurd has
exchange_written port gives written piece (Some old) (Some new) None has writes = absurd writes
exchange_written port gives written piece (Some old) (Some new) (Some last) has writes = writes ∙ ap (written_on_last piece) has ∙ on_last piece old _

pub exchange_stays : (port : ℕ) (gives written : List ℕ) (before made after : Option (List Connection)) → HasExchange port gives written before made → StaySame made after
    → HasExchange port gives written before after
exchange_stays port gives written None None None has same = tt
exchange_stays port gives written None None (Some last) has same = absurd same
exchange_stays port gives written None (Some new) after has same = absurd has
exchange_stays port gives written (Some old) None after has same = absurd has
exchange_stays port gives written (Some old) (Some new) None has same = absurd same
exchange_stays port gives written (Some old) (Some new) (Some last) has same = same ∙ has

-- the current connection is the last one, where there is one
pub last_of_current : (piece : List ℕ) (past : List Connection) (current : Option Current) → is_some current ≡ true
    → written_on_last piece (past ++ as_made current) ≡ past ++ written_on_last piece (as_made current)
last_of_current piece past None some = absurd (false≢true some)
last_of_current piece past (Some c) some = on_last piece past _
