-- The fetch of a page, and the offers of what it names.
use Rattle.std.proofs.Common.{◌≡◌, ◌∙◌, ℕ, List, [], ◌∷◌, ◌++◌, map, Option, Ok, Err, inl, inr, refl, sym, ap}
use Rattle.std.specs.Prelude.{Result, OnOk, OnErr, ◌↔◌}
use Rattle.std.specs.Option.{option_map}
use Rattle.std.proofs.lemmas.List.{append-nil, append_assoc, map-append}
use Rattle.irl_base.specs.Faults.{HasCause}
use Rattle.irl_base.specs.declared.fault.Fault.{Fault}
use Rattle.irl_base.specs.declared.fault.Fault.TheVariants.{Memory}
use Rattle.irl_key.specs.declared.web.Work.{Work}
use Rattle.irl_offer.specs.Offering.{Entered, fault_or}
use Rattle.irl_offer.specs.Tuple.{Tuple}
use Rattle.irl_offer.specs.declared.done.Done.{Done}
use Rattle.irl_offer.specs.declared.receipt.Receipt.{Receipt}
use Rattle.irl_offer.specs.declared.reply.Answer.{Answer}
use Rattle.irl_offer.specs.declared.reply.Answer.TheVariants.{NoReply}
use Rattle.irl_offer.specs.declared.reply.Want.TheVariants.{Page}
use Rattle.irl_answer.specs.Found.{offers_of}
use Rattle.irl_fetch.specs.Handling.{receipts_of}
use Rattle.irl_fetch.specs.Telling.{Fetcher, Offering, GoesOn, Enters, MakesAtMost, given_since}
use Rattle.irl_fetch.specs.Pages.{OffersAll, Settles, FetchesPage}
use Rattle.irl_fetch.proofs.Handling.{missing_one}
use Rattle.irl_fetch.proofs.Results.{refused_ok, refused_if, refused_err, refused_fault}
use Rattle.irl_fetch.proofs.Telling.{enters_none, enters_then}

-- want of memory is no last fault
pub memory_kept : (last now : Option Fault) (y : Fault) → y ≡ Memory → now ≡ last → now ≡ fault_or last y
memory_kept last now y is same = same ∙ ap (fault_or last) (sym is)

-- ## Offers

-- the first of the offers were entered, and these are left
pub record Offered {O : Type 0} (offers left : List Tuple) (given : List Receipt) (o p : Offering O) : Type 0 where
  pub entered : List Entered
  pub split : map (λ one. one.offer) entered ++ left ≡ offers
  pub receipts : given ≡ receipts_of entered
  pub enters : Enters entered o p

pub offered_first : {O : Type 0} (offers : List Tuple) (receipts : List Receipt) (o : Offering O) → receipts ≡ [] → Offered offers offers receipts o o
offered_first offers receipts o none = record { entered = []; split = refl; receipts = none; enters = enters_none o }

abbrev entry : Receipt → Tuple → Entered
entry receipt offer = record { receipt = receipt; offer = offer }

pub offered_more : {O : Type 0} (offers left rest : List Tuple) (first : Tuple) (before after : List Receipt) (receipt : Receipt) (o p q : Offering O) → Offered offers left before o p
    → left ≡ first ∷ rest
    → q.entries ≡ option_map (λ list. list ++ record { receipt = receipt; offer = first } ∷ []) p.entries → ((offer : Tuple) → q.takes offer ↔ p.takes offer)
    → ((value : O) → p.follows value → q.follows value)
    → after ≡ before ++ receipt ∷ [] → Offered offers rest after o q
offered_more offers left rest first before after receipt o p q far is entries takes follows more =
    let one = entry receipt first in
    let offer_of = λ (one : Entered). one.offer in
    let receipt_of = λ (one : Entered). one.receipt in
    record {
      entered = far.entered ++ one ∷ [];
      split = ap (λ xs. xs ++ rest) (map-append offer_of far.entered (one ∷ [])) ∙ append_assoc (map offer_of far.entered) (first ∷ []) rest
          ∙ ap (λ xs. map offer_of far.entered ++ xs) (sym is) ∙ far.split;
      receipts = more ∙ ap (λ xs. xs ++ receipt ∷ []) far.receipts ∙ sym (map-append receipt_of far.entered (one ∷ []));
      enters = enters_then far.entered (one ∷ []) o p q far.enters (record { entries = entries; takes = takes; follows = follows });
    }

pub offered_same : {O : Type 0} (offers left more : List Tuple) (receipts : List Receipt) (o p q : Offering O) → Offered offers left receipts o p → more ≡ left → q.entries ≡ p.entries
    → ((offer : Tuple) → q.takes offer ↔ p.takes offer) → ((value : O) → p.follows value → q.follows value) → Offered offers more receipts o q
offered_same offers left more receipts o p q far same entries takes follows = record {
  entered = far.entered;
  split = ap (λ xs. map (λ (one : Entered). one.offer) far.entered ++ xs) same ∙ far.split;
  receipts = far.receipts;
  enters = record {
    entries = entries ∙ far.enters.entries;
    takes = λ offer. (λ taken. (far.enters.takes offer).0 ((takes offer).0 taken), λ taken. (takes offer).1 ((far.enters.takes offer).1 taken));
    follows = λ value did. follows value (far.enters.follows value did);
  };
}

pub offers_stop : {O : Type 0} (result : Result (List Receipt) Fault) (y : Fault) (offers left : List Tuple) (receipts : List Receipt) (o p : Offering O) → result ≡ Err y
    → Offered offers left receipts o p
    → p.last_fault ≡ fault_or o.last_fault y → OffersAll result offers o p
offers_stop result y offers left receipts o p is far fault = record {
  ok = refused_if _ result y is;
  err = refused_err _ result y is (far.entered, left, far.split, far.enters);
  fault = refused_fault result y o p is fault;
}

pub offers_end : {O : Type 0} (offers left : List Tuple) (receipts : List Receipt) (o p : Offering O) → Offered offers left receipts o p → left ≡ [] → p.last_fault ≡ o.last_fault
    → OffersAll (Ok receipts) offers o p
offers_end offers left receipts o p far none calm = record {
  ok = (far.entered, sym (append-nil _) ∙ ap (λ xs. map (λ (one : Entered). one.offer) far.entered ++ xs) (sym none) ∙ far.split, far.receipts, far.enters);
  err = tt;
  fault = (calm, tt);
}

-- ## What came of a page

pub settles_stop : {O : Type 0} (result : Result Unit Fault) (y : Fault) (suffixes : List ℕ) (work : Work) (answer : Answer) (o p : Offering O) (was now : List Done) (entered : List Entered)
    (more : List Tuple)
    → result ≡ Err y → map (λ one. one.offer) entered ++ more ≡ offers_of suffixes work.web answer → Enters entered o p → p.last_fault ≡ fault_or o.last_fault y
    → Settles result suffixes work answer o p was now
settles_stop result y suffixes work answer o p was now entered more is split enters fault = record {
  ok = refused_ok _ result y is;
  err = refused_err _ result y is (entered, more, split, enters);
  fault = refused_fault result y o p is fault;
}

-- all was offered, and then it was refused
pub settles_late : {O : Type 0} (result : Result Unit Fault) (y : Fault) (suffixes : List ℕ) (work : Work) (answer : Answer) (o p : Offering O) (was now : List Done) (entered : List Entered)
    (found : List Tuple)
    → result ≡ Err y → map (λ one. one.offer) entered ≡ found → found ≡ offers_of suffixes work.web answer → Enters entered o p → p.last_fault ≡ fault_or o.last_fault y
    → Settles result suffixes work answer o p was now
settles_late result y suffixes work answer o p was now entered found is whole same enters fault =
    settles_stop result y suffixes work answer o p was now entered [] is (append-nil (map (λ one. one.offer) entered) ∙ whole ∙ same) enters fault

fetched_ok : (A B : Type 0) (result : Result Unit Fault) → OnOk result A → (A → B) → OnOk result B
fetched_ok A B (Ok x) holds gives = gives holds
fetched_ok A B (Err y) holds gives = tt

fetched_err : (A B : Type 0) (result : Result Unit Fault) → OnErr result A → (A → B) → OnErr result B
fetched_err A B (Ok x) holds gives = tt
fetched_err A B (Err y) holds gives = gives holds

pub fetches_settled : {O E : Type 0} (result : Result Unit Fault) (suffixes : List ℕ) (work : Work) (answer : Answer) (a b : Fetcher) (o p : Offering O) (was now : List Done)
    → given_since a b work.web Page answer → GoesOn a b → MakesAtMost 1 a b
    → HasCause (◌≡◌ {A = Result Answer E} (Ok answer) (Ok NoReply)) a.faults b.faults → Settles result suffixes work answer o p was now
    → FetchesPage result suffixes work a b o p was now
fetches_settled result suffixes work answer a b o p was now given on makes cause settles = record {
  ok = fetched_ok _ _ result settles.ok (λ told. (answer, told.0, (given, told.1), told.2, told.3, missing_one answer a.faults b.faults cause));
  err = fetched_err _ _ result settles.err (λ told. (told.0, inr (answer, given, told.1, told.2), told.3));
  fault = settles.fault;
  goes_on = on;
  asked = makes;
}

pub fetches_none : {O : Type 0} (result : Result Unit Fault) (y : Fault) (suffixes : List ℕ) (work : Work) (a b : Fetcher) (o : Offering O) (was now : List Done) → result ≡ Err y → y ≡ Memory
    → GoesOn a b → MakesAtMost 1 a b
    → FetchesPage result suffixes work a b o o was now
fetches_none result y suffixes work a b o was now is memory on makes = record {
  ok = refused_ok _ result y is;
  err = refused_err _ result y is ([], inl refl, enters_none o);
  fault = refused_fault result y o o is (memory_kept o.last_fault o.last_fault y memory refl);
  goes_on = on;
  asked = makes;
}
