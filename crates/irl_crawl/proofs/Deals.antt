-- What a note, an item and several items make of an open store and of the shares, by the answer.
use Rattle.std.proofs.Common.{◌≡◌, ◌∙◌, ℕ, List, [], ◌∷◌, ◌++◌, set, Option, Some, Result, Ok, Err, IsErrOf, inl, inr, sym, subst}
use Rattle.std.specs.Prelude.{◌%◌, slice_get}
use Rattle.std.specs.List.{AllByRecursion}
use Rattle.std.specs.List.Sorted.{IsPermutation}
use Rattle.std.specs.Option.{ForSome}
use Rattle.std.proofs.lemmas.Bool.{cases_eq}
use Rattle.std.proofs.lemmas.List.{append_assoc, append-nil}
use Rattle.std.proofs.lemmas.List.Sorted.{IsPermutation-append_left, IsPermutation-refl, IsPermutation-trans}
use Rattle.std.proofs.lemmas.Result.{IfOk-at_ok, on_ok_weaker}
use Rattle.irl_base.specs.declared.fault.Fault.{Fault}
use Rattle.irl_base.specs.declared.fault.Fault.TheVariants.{Failed, Memory}
use Rattle.irl_disk.specs.Images.{Told, IsConsistent}
use Rattle.irl_events.specs.State.{State}
use Rattle.irl_fetch.proofs.Results.{refused_ok}
use Rattle.irl_key.specs.declared.web.Work.{Work}
use Rattle.irl_ledger.specs.Crawling.{events_of}
use Rattle.irl_ledger.specs.Noting.{IsUsedOf, last_note}
use Rattle.irl_offer.specs.declared.note.Note.{Note}
use Rattle.irl_polite.specs.Schedule.{host}
use Rattle.irl_polite.proofs.Lists.{get_set_other, get_set_same, get_within, same_some}
use Rattle.irl_yard.specs.Holding.{HoldsState, IsSound, StaysSound}
use Rattle.irl_yard.specs.Noting.{ReadsLastNote}
use Rattle.irl_yard.specs.declared.parts.Parts.{Parts}
use Rattle.irl_crawl.specs.Dealing.{AddsNotes, AreNotesIn, Deals, OnlyLooks, ServesOn, dealt}
use Rattle.irl_crawl.specs.Serving.{IsServedAt, KeepsNumbers, number_of}
use Rattle.irl_crawl.specs.declared.dealing.Share.{Share}
use Rattle.irl_crawl.specs.declared.hosts.Hosts.{Hosts}
use Rattle.irl_crawl.proofs.LastNotes.{last_note_in}
use Rattle.irl_crawl.proofs.Looking.{calm_memory, calm_ok, looks_calm, looks_err, looks_none, looks_note, looks_then}
use Rattle.irl_crawl.proofs.Shares.{dealt_one, notes_at, notes_push, notes_set}

-- ---- a note
-- it is read
module _ (read : Result (Option Note) Fault) (name : List ℕ) (moment : ℕ) (was now : Parts) (before after : Told) (law : IsConsistent after)
    (reads : ReadsLastNote read name moment was now before after)
    (goes : StaysSound (IsErrOf read Failed) now) where
  looks : OnlyLooks read was now before after
  looks = looks_note read name moment was now before after reads goes

  pub adds_refused : (result : Result Unit Fault) (fault answer : Fault) (notes : List Note) → read ≡ Err fault → result ≡ Err answer → answer ≡ fault
      → AddsNotes result was now before after notes notes
  adds_refused result fault answer notes one two same = record { looks = looks_err read result fault answer was now before after one two same looks; notes = refused_ok _ result answer two }

  -- none is in use
  pub adds_nothing : (found : Option Note) (notes : List Note) → read ≡ Ok found → AddsNotes (Ok tt) was now before after notes notes
  adds_nothing found notes is = record { looks = looks_calm read (Ok tt) was now before after law (calm_ok read found is) tt looks; notes = λ files told x holds have. have }

  pub adds_lacks : (result : Result Unit Fault) (found : Option Note) (fault : Fault) (old new : List Note) → read ≡ Ok found → result ≡ Err fault → fault ≡ Memory
      → AddsNotes result was now before after old new
  adds_lacks result found fault old new is two lacks = record {
    looks = looks_calm read result was now before after law (calm_ok read found is) (calm_memory result fault two lacks) looks;
    notes = refused_ok _ result fault two;
  }

  pub adds_one : (note : Note) (old new : List Note) → read ≡ Ok (Some note) → new ≡ old ++ note ∷ [] → AddsNotes (Ok tt) was now before after old new
  adds_one note old new is items = record {
    looks = looks_calm read (Ok tt) was now before after law (calm_ok read (Some note) is) tt looks;
    notes = λ files told x holds have.
        let value : IsUsedOf moment (last_note name (events_of x.events)) (Some note) =
        IfOk-at_ok (λ found. ForSome before.files (λ _. (y : State) → HoldsState before.images was y → IsUsedOf moment (last_note name (events_of y.events)) found)) is reads.value files told x holds
        in
        subst (AreNotesIn x.events) (sym items) (notes_push x.events old note (last_note_in name x.events note value.0) have);
  }

-- it isn't asked for
pub adds_none : (now : Parts) (at : Told) (notes : List Note) → IsConsistent at → IsSound now → AddsNotes (Ok tt) now now at at notes notes
adds_none now at notes law sound = record { looks = looks_none (Ok tt) now at law sound tt; notes = λ files told x holds have. have }

-- ---- an item
-- nothing was done yet
pub deals_lacks : (result : Result Unit Fault) (fault : Fault) (works : List Work) (now : Parts) (at : Told) (shares : List Share) → IsConsistent at → IsSound now → result ≡ Err fault → fault ≡ Memory
    → Deals result works now now at at shares shares
deals_lacks result fault works now at shares law sound is lacks = record {
  looks = looks_none result now at law sound (calm_memory result fault is lacks);
  items = refused_ok _ result fault is;
  notes = refused_ok _ result fault is;
}

module _ (added : Result Unit Fault) (was now : Parts) (before after : Told) (law : IsConsistent after) (notes more : List Note) (adds : AddsNotes added was now before after notes more) where
  pub deals_refused : (result : Result Unit Fault) (fault answer : Fault) (works : List Work) (old new : List Share) → added ≡ Err fault → result ≡ Err answer → answer ≡ fault
      → Deals result works was now before after old new
  deals_refused result fault answer works old new one two same = record {
    looks = looks_err added result fault answer was now before after one two same adds.looks;
    items = refused_ok _ result answer two;
    notes = refused_ok _ result answer two;
  }

  pub deals_full : (result : Result Unit Fault) (fault : Fault) (works : List Work) (old new : List Share) → added ≡ Ok tt → result ≡ Err fault → fault ≡ Memory
      → Deals result works was now before after old new
  deals_full result fault works old new is two lacks = record {
    looks = looks_calm added result was now before after law (calm_ok added tt is) (calm_memory result fault two lacks) adds.looks;
    items = refused_ok _ result fault two;
    notes = refused_ok _ result fault two;
  }

  pub deals_one : (work : Work) (shares : List Share) (at : ℕ) (old new : Share) → added ≡ Ok tt → slice_get shares at ≡ Some old → notes ≡ old.notes.items → more ≡ new.notes.items
      → new.items.items ≡ old.items.items ++ work ∷ []
      → Deals (Ok tt) (work ∷ []) was now before after shares (set shares at new)
  deals_one work shares at old new is here was_notes is_notes items = record {
    looks = looks_calm added (Ok tt) was now before after law (calm_ok added tt is) tt adds.looks;
    items = dealt_one shares at old new work here items;
    notes = λ files told x holds have.
        let first : AreNotesIn x.events notes = subst (AreNotesIn x.events) (sym was_notes) (notes_at x.events shares at old here have) in
        let then_ : AreNotesIn x.events more = IfOk-at_ok (λ _. ForSome before.files (λ _. (y : State) → HoldsState before.images was y → AreNotesIn y.events notes → AreNotesIn y.events more)) is
        adds.notes files told x holds first in
        notes_set x.events shares at new (subst (AreNotesIn x.events) is_notes then_) have;
  }

-- ---- several
pub deals_none : (now : Parts) (at : Told) (shares : List Share) → IsConsistent at → IsSound now → Deals (Ok tt) [] now now at at shares shares
deals_none now at shares law sound = record {
  looks = looks_none (Ok tt) now at law sound tt;
  items = subst (λ l. IsPermutation (dealt shares) l) (sym (append-nil (dealt shares))) (IsPermutation-refl (dealt shares));
  notes = λ files told x holds have. have;
}

pub deals_then : (result : Result Unit Fault) (works more : List Work) (was mid now : Parts) (before between after : Told) (old part new : List Share) → IsConsistent between
    → Deals (Ok tt) works was mid before between old part
    → Deals result more mid now between after part new → Deals result (works ++ more) was now before after old new
deals_then result works more was mid now before between after old part new law one two = record {
  looks = looks_then (Ok tt) result was mid now before between after law one.looks two.looks;
  items = on_ok_weaker result (λ moved.
      subst (λ l. IsPermutation (dealt new) l) (append_assoc (dealt old) works more)
      (IsPermutation-trans (dealt new) (dealt part ++ more) ((dealt old ++ works) ++ more) moved (IsPermutation-append_left more (dealt part) (dealt old ++ works) one.items)))
      two.items;
  notes = on_ok_weaker result (λ then_ files told x holds have. then_ files (one.looks.files ∙ told) x (one.looks.holds x holds) (one.notes files told x holds have)) two.notes;
}

-- where they were refused, it is no matter which
pub deals_other : (result answer : Result Unit Fault) (fault said : Fault) (works others : List Work) (was now : Parts) (before after : Told) (old new : List Share) → result ≡ Err fault
    → answer ≡ Err said → said ≡ fault
    → Deals result works was now before after old new → Deals answer others was now before after old new
deals_other result answer fault said works others was now before after old new one two same deals = record {
  looks = looks_err result answer fault said was now before after one two same deals.looks;
  items = refused_ok _ answer said two;
  notes = refused_ok _ answer said two;
}

-- ---- who serves
served_later : (was now : Hosts) (workers at : ℕ) (works : List Work) → KeepsNumbers was now → AllByRecursion (IsServedAt was workers at) works → AllByRecursion (IsServedAt now workers at) works
served_later was now workers at [] keeps served = tt
served_later was now workers at (work ∷ works) keeps served =
    ((served.0.0, keeps (host work) served.0.0 served.0.1, served.0.2), served_later was now workers at works keeps served.1)

served_push : (hosts : Hosts) (workers at : ℕ) (works : List Work) (work : Work) → AllByRecursion (IsServedAt hosts workers at) works → IsServedAt hosts workers at work
    → AllByRecursion (IsServedAt hosts workers at) (works ++ work ∷ [])
served_push hosts workers at [] work served one = (one, tt)
served_push hosts workers at (first ∷ works) work served one = (served.0, served_push hosts workers at works work served.1 one)

pub serves_none : (workers : ℕ) (hosts : Hosts) (shares : List Share) → ServesOn (Ok tt) workers hosts hosts shares shares
serves_none workers hosts shares = record { numbers = λ name n is. is; served = λ have. have }

pub serves_refused : (result : Result Unit Fault) (fault : Fault) (workers : ℕ) (was now : Hosts) (old new : List Share) → result ≡ Err fault → KeepsNumbers was now
    → ServesOn result workers was now old new
serves_refused result fault workers was now old new is keeps = record { numbers = keeps; served = refused_ok _ result fault is }

pub serves_one : (workers : ℕ) (was now : Hosts) (work : Work) (shares : List Share) (at n : ℕ) (old new : Share) → KeepsNumbers was now → number_of now (host work) ≡ Some n → at ≡ n % workers
    → slice_get shares at ≡ Some old
    → new.items.items ≡ old.items.items ++ work ∷ [] → ServesOn (Ok tt) workers was now shares (set shares at new)
serves_one workers was now work shares at n old new keeps number place here items = record {
  numbers = keeps;
  served = λ have k share is. elim (cases_eq k at) [
    | inl same ↦
        let is_new : new ≡ share = same_some new share (sym (get_set_same shares at new (get_within shares at old here)) ∙ subst (λ (i : ℕ). slice_get (set shares at new) i ≡ Some share) same is) in
        let old_ones = served_later was now workers at old.items.items keeps (have at old here) in
        let all : AllByRecursion (IsServedAt now workers at) new.items.items = subst (AllByRecursion (IsServedAt now workers at)) (sym items)
        (served_push now workers at old.items.items work old_ones (n, number, sym place)) in
        subst (λ (i : ℕ). AllByRecursion (IsServedAt now workers i) share.items.items) (sym same) (subst (λ (s : Share). AllByRecursion (IsServedAt now workers at) s.items.items) is_new all)
    | inr other ↦ served_later was now workers k share.items.items keeps (have k share (sym (get_set_other shares at k new other) ∙ is))
  ];
}

pub serves_then : (result : Result Unit Fault) (workers : ℕ) (was mid now : Hosts) (old part new : List Share) → ServesOn (Ok tt) workers was mid old part → ServesOn result workers mid now part new
    → ServesOn result workers was now old new
serves_then result workers was mid now old part new one two = record {
  numbers = λ name n is. two.numbers name n (one.numbers name n is);
  served = on_ok_weaker result (λ then_ have. then_ (one.served have)) two.served;
}

-- an answer without a value
pub serves_unit : (value : Unit {0}) (workers : ℕ) (was now : Hosts) (old new : List Share) → ServesOn (Ok value) workers was now old new → ServesOn (Ok tt) workers was now old new
serves_unit value workers was now old new serves = record { numbers = serves.numbers; served = serves.served }
