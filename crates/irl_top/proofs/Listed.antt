-- A listing that is printed some judged offers at a time.
use Rattle.std.proofs.Common.{◌≡◌, ◌∙◌, inl, inr, ℕ, ◌+◌, ◌-◌, ◌<◌, ◌≤◌, min, List, [], ◌++◌, length, take, drop, Option, refl, sym, ap, subst, append-nil, append_assoc, arith}
use Rattle.std.specs.Prelude.{Result, Ok, Err, OnErr, OnOk, IfErr, IsErrOf}
use Rattle.std.specs.Option.{ForSome}
use Rattle.std.specs.Io.KnownBytes.{Appends}
use Rattle.std.proofs.KnownBytes.{Appends-nil}
use Rattle.std.proofs.Math.Seq.{take-append-add, take-append_seam}
use Rattle.std.proofs.lemmas.Grind.{flat_map-append}
use Rattle.std.proofs.lemmas.List.{take-append-drop, length-take-le, take_all}
use Rattle.irl_base.specs.Faults.{HasCause}
use Rattle.irl_base.specs.declared.fault.Fault.{Fault}
use Rattle.irl_base.specs.declared.fault.Fault.TheVariants.{Failed as StoreFailed, Memory as StoreMemory, Full as StoreFull, Damaged as StoreDamaged}
use Rattle.irl_offer.specs.Tuple.{Tuple}
use Rattle.irl_offer.specs.declared.receipt.Judged.{Judged}
use Rattle.irl_offer.specs.declared.settings.Settings.{Settings}
use Rattle.irl_fate.specs.Fates.{fate_of}
use Rattle.irl_model.specs.Book.{Book, IsPrefixOf, gone, judged, uniques_from}
use Rattle.irl_model.proofs.Merges.{uniques_from-append}
use Rattle.irl_events.specs.State.{State}
use Rattle.irl_disk.specs.Disk.{Files}
use Rattle.irl_disk.specs.Effects.{OnlyReads}
use Rattle.irl_disk.specs.Images.{Told, IsConsistent}
use Rattle.irl_disk.proofs.Effects.{reads_none, reads_then, reads_for}
use Rattle.irl_bay.specs.Drum.{Drum}
use Rattle.irl_bay.specs.JudgedSpoilt.{IsJudgedFile, IsJudgedSpoiltAt}
use Rattle.irl_bay.specs.Merges.{ReadsJudged}
use Rattle.irl_io.specs.Written.{AppendsPrefix}
use Rattle.irl_yard.specs.Holding.{HoldsState}
use Rattle.irl_yard.specs.Merges.{ReadsState}
use Rattle.irl_yard.specs.Passing.{come}
use Rattle.irl_yard.specs.declared.parts.Parts.{Parts}
use Rattle.irl_report.specs.Report.{list_line_of}
use Rattle.irl_top.specs.Listing.{IsPrintEnding, IsWriteEnding, IsWritten, Prints, PrintsFirst, PrintsPart}
use Rattle.irl_top.specs.Message.{ending_of_store}
use Rattle.irl_top.specs.Shown.{IsListingOf, url_lines, listing_by}
use Rattle.irl_top.specs.Stream.{Stream}
use Rattle.irl_top.specs.declared.ending.Ending.{Ending}
use Rattle.irl_top.specs.declared.ending.Ending.TheVariants.{Damaged, DiskFault, NoMemory, OutputFault}
use Rattle.irl_top.proofs.Going.{gone_none}
use Rattle.irl_top.proofs.Shows.{written_of}
use Rattle.irl_top.proofs.Sinks.{appends_both}

-- ---- lines
-- those of the judged offers of a list that are unique, the first of which has this number
abbrev pub lines_from : Settings → State → ℕ → List Judged → List ℕ
lines_from settings state number judged = url_lines settings state (uniques_from number judged)

pub lines_both : (settings : Settings) (state : State) (number : ℕ) (xs ys : List Judged)
    → lines_from settings state number (xs ++ ys) ≡ lines_from settings state number xs ++ lines_from settings state (number + length xs) ys
lines_both settings state number xs ys =
    ap (url_lines settings state) (uniques_from-append number xs ys)
    ∙ flat_map-append (λ (p : ℕ × Tuple). list_line_of p.0 (fate_of (come settings state) p.0) p.1.aux) (uniques_from number xs) (uniques_from (number + length xs) ys)

-- so many of a list, and some behind them
pub taken_more : (n m : ℕ) (js : List Judged) → n ≤ length js → take (n + length (take m (drop n js))) js ≡ take n js ++ take m (drop n js)
taken_more n m js within =
    let rest = drop n js in
    let found = take m rest in
    let long : n + length found ≡ length (take n js) + length found = omega (arith, length-take-le n js within) in
    let whole : take n js ++ rest ≡ js = take-append-drop n js in
    let part : take (length found) rest ≡ found = ap (take (length found)) (sym (take-append-drop m rest)) ∙ take-append_seam found (drop m rest) in
    ap (λ (k : ℕ). take k js) long
    ∙ ap (take (length (take n js) + length found)) (sym whole)
    ∙ take-append-add (take n js) rest (length found)
    ∙ ap (λ (l : List Judged). take n js ++ l) part

-- the lines of the first of them, and of the piece behind
pub lines_more : (settings : Settings) (state : State) (n m : ℕ) (js : List Judged) → n ≤ length js
    → lines_from settings state 0 (take n js) ++ lines_from settings state n (take m (drop n js)) ≡ lines_from settings state 0 (take (n + length (take m (drop n js))) js)
lines_more settings state n m js within =
    let found = take m (drop n js) in
    let long : 0 + length (take n js) ≡ n = omega (arith, length-take-le n js within) in
    sym (ap (lines_from settings state 0) (taken_more n m js within) ∙ lines_both settings state 0 (take n js) found
    ∙ ap (λ (k : ℕ). lines_from settings state 0 (take n js) ++ lines_from settings state k found) long)

-- they are a prefix of all
pub lines_front : (settings : Settings) (state : State) (n : ℕ) (js : List Judged) → IsPrefixOf (lines_from settings state 0 (take n js)) (lines_from settings state 0 js)
lines_front settings state n js = (
  lines_from settings state (0 + length (take n js)) (drop n js),
  ap (lines_from settings state 0) (sym (take-append-drop n js)) ∙ lines_both settings state 0 (take n js) (drop n js),
)

pub prefix_both : (xs ys zs : List ℕ) → IsPrefixOf xs ys → IsPrefixOf ys zs → IsPrefixOf xs zs
prefix_both xs ys zs one two = (one.0 ++ two.0, two.1 ∙ ap (λ (l : List ℕ). l ++ two.0) one.1 ∙ append_assoc xs one.0 two.0)

pub prefix_behind : (front xs ys : List ℕ) → IsPrefixOf xs ys → IsPrefixOf (front ++ xs) (front ++ ys)
prefix_behind front xs ys part = (part.0, ap (λ (l : List ℕ). front ++ l) part.1 ∙ sym (append_assoc front xs part.0))

-- ---- one listing
-- the number of judged offers is that of the book, of which none is dropped
pub held_count : (images : Files → Type 0) (parts : Parts) (state : State) → HoldsState images parts state
    → (parts.urls.last.judged ≡ length (judged state.urls)) × (gone state.urls ≡ 0)
held_count images parts state holds =
    let book = holds.urls.urls_hold in
    let none = gone_none parts.urls.settings state.urls book.book_is in
    (omega (arith, book.numbers.commit.judged, none), none)

-- the listing is the lines of all judged offers
pub listing_is : (images : Files → Type 0) (parts : Parts) (state : State) → HoldsState images parts state
    → listing_by state.settings state ≡ lines_from parts.urls.settings state 0 (judged state.urls)
listing_is images parts state holds =
    ap (λ (o : Option Settings). listing_by o state) holds.urls.settings
    ∙ ap (λ (n : ℕ). lines_from parts.urls.settings state n (judged state.urls)) (held_count images parts state holds).1

-- nothing is printed yet
pub prints_none : (parts : Parts) (now : Told) (out : Stream) → IsConsistent now → PrintsFirst 0 parts parts now now out out
prints_none parts now out law = record {
  text = [];
  written = Appends-nil out.bytes;
  is = λ files told state holds. refl;
  within = omega arith;
  holds = λ state holds. holds;
  urls = refl;
  reads = reads_none (IsJudgedFile parts.urls) now law;
  output = omega arith;
}

-- what was read of an open store, by the answer of a read
pub record Reads {A : Type 0} (result : Result A Fault) (gives : A → Book → Type 0) (was now : Parts) (before after : Told) : Type 0 where
  pub bay : ReadsJudged result gives was.urls before after
  pub state : ReadsState result gives was now before after

-- what a read answers where it failed
read_failed : (fault : Fault) → ending_of_store fault ≡ DiskFault → fault ≡ StoreFailed
read_failed StoreFailed is = refl
read_failed StoreMemory is = let no : ⊥ = cc in absurd no
read_failed (StoreFull n) is = let no : ⊥ = cc in absurd no
read_failed (StoreDamaged f at) is = let no : ⊥ = cc in absurd no

read_damaged : (fault : Fault) (f at : ℕ) → ending_of_store fault ≡ Damaged f at → fault ≡ StoreDamaged f at
read_damaged StoreFailed f at is = let no : ⊥ = cc in absurd no
read_damaged StoreMemory f at is = let no : ⊥ = cc in absurd no
read_damaged (StoreFull n) f at is = let no : ⊥ = cc in absurd no
read_damaged (StoreDamaged g place) f at is = let one : g ≡ f = cc in let two : place ≡ at = cc in cc

read_kind : (fault : Fault) → ((n : ℕ) → fault ≡ StoreFull n → ⊥) → IsPrintEnding (ending_of_store fault)
read_kind StoreFailed full = inl refl
read_kind StoreMemory full = inr (inr (inr refl))
read_kind (StoreFull n) full = absurd (full n refl)
read_kind (StoreDamaged f at) full = inr (inl (f, at, refl))

read_written : (fault : Fault) → ending_of_store fault ≡ OutputFault → ⊥
read_written StoreFailed is = cc
read_written StoreMemory is = cc
read_written (StoreFull n) is = cc
read_written (StoreDamaged f at) is = cc

err_same : (r : Result (Unit {0}) Ending) (e f : Ending) → r ≡ Err e → IsErrOf r f → e ≡ f
err_same r e f is other = let both : Err e ≡ Err f = sym is ∙ other in cc

-- a read of the next piece was refused
pub prints_refused : {A : Type 0} (number : ℕ) (parts mid now : Parts) (before between after : Told) (old new : Stream) (read : Result A Fault) (gives : A → Book → Type 0) (fault : Fault)
    (r : Result (Unit {0}) Ending) → IsConsistent between → PrintsFirst number parts mid before between old new → read ≡ Err fault → Reads read gives mid now between after
    → r ≡ Err (ending_of_store fault) → Prints IsListingOf r parts before after old new
prints_refused number parts mid now before between after old new read gives fault r law first was reads is =
    let failed = λ (e : IsErrOf r DiskFault). was ∙ ap Err (read_failed fault (err_same r (ending_of_store fault) DiskFault is e)) in
    let damaged = λ (f at : ℕ) (e : IsErrOf r (Damaged f at)). was ∙ ap Err (read_damaged fault f at (err_same r (ending_of_store fault) (Damaged f at) is e)) in
    record {
      text = first.text;
      written = first.written;
      is = λ files told state holds.
          let settings = parts.urls.settings in
          let whole = listing_is before.images parts state holds in (
            listing_by state.settings state,
            refl,
            (
              subst (IsPrefixOf first.text) (sym whole) (subst (λ (t : List ℕ). IsPrefixOf t (lines_from settings state 0 (judged state.urls))) (sym (first.is files told state holds))
                  (lines_front settings state number (judged state.urls))),
              subst (λ (x : Result (Unit {0}) Ending). OnOk x (first.text ≡ listing_by state.settings state)) (sym is) tt,
            ),
          );
      reads = reads_then (IsJudgedFile parts.urls) ⊥ (IsErrOf r DiskFault) before between after law first.reads
          (subst (λ (d : Drum). OnlyReads (IsJudgedFile d) (IsErrOf r DiskFault) between after) first.urls
          (reads_for (IsJudgedFile mid.urls) (IsErrOf read StoreFailed) (IsErrOf r DiskFault) between after failed reads.bay.reads));
      spoilt = λ f at e files told. subst (λ (d : Drum). IsJudgedSpoiltAt d files f at) first.urls (reads.bay.spoilt f at (damaged f at e) files (first.reads.same ∙ told));
      whole = λ f at e files told state holds. reads.state.whole f at (damaged f at e) files (first.reads.same ∙ told) state (first.holds state holds);
      kinds = subst (λ (x : Result (Unit {0}) Ending). IfErr x IsPrintEnding) (sym is) (read_kind fault (λ n e. reads.bay.full n (was ∙ ap Err e)));
      output = record { later = first.output; rose = λ e. absurd (read_written fault (err_same r (ending_of_store fault) OutputFault is e)) };
    }

-- a piece was read
pub record IsPiece (number most : ℕ) (found : List Judged) (images : Files → Type 0) (parts : Parts) (told : Option Files) : Type 0 where
  pub is : ForSome told (λ _. (state : State) → HoldsState images parts state → found ≡ take most (drop (number - gone state.urls) (judged state.urls)))
  pub count : length found ≡ min most (parts.urls.last.judged - number)
  pub within : number < parts.urls.last.judged

piece_found : (number most : ℕ) (found : List Judged) (images : Files → Type 0) (parts : Parts) (state : State) → HoldsState images parts state
    → found ≡ take most (drop (number - gone state.urls) (judged state.urls)) → found ≡ take most (drop number (judged state.urls))
piece_found number most found images parts state holds is =
    let none = (held_count images parts state holds).1 in
    is ∙ ap (λ (n : ℕ). take most (drop n (judged state.urls))) (omega (arith, none))

-- and printed
pub prints_more : (number most : ℕ) (found : List Judged) (parts mid now : Parts) (before between after : Told) (old out new : Stream) (r : Result (Unit {0}) Ending) → IsConsistent between
    → PrintsFirst number parts mid before between old out → IsPiece number most found between.images mid between.files
    → ((state : State) → HoldsState between.images mid state → HoldsState after.images now state) → now.urls ≡ mid.urls → OnlyReads (IsJudgedFile mid.urls) ⊥ between after
    → PrintsPart r after.images now number found out new → OnOk r (PrintsFirst (number + length found) parts now before after old new)
prints_more number most found parts mid now before between after old out new (Err e) law first piece holds same reads part = tt
prints_more number most found parts mid now before between after old out new (Ok done) law first piece holds same reads part = record {
  text = first.text ++ part.text;
  written = appends_both old.bytes out.bytes new.bytes first.text part.text first.written part.written;
  is = λ files told state was.
      let settings = parts.urls.settings in
      let js = judged state.urls in
      let held = first.holds state was in
      let there = piece_found number most found between.images mid state held (piece.is files (first.reads.same ∙ told) state held) in
      let count = (held_count before.images parts state was).0 in
      let wrote = part.is state (holds state held) in
      let other : now.urls.settings ≡ settings = ap (λ (d : Drum). d.settings) (same ∙ first.urls) in
      let piece_text : part.text ≡ lines_from settings state number (take most (drop number js)) =
      wrote.1 ∙ ap (λ (s : Settings). lines_from s state number found) other ∙ ap (lines_from settings state number) there in
      ap (λ (t : List ℕ). t ++ part.text) (first.is files told state was)
      ∙ ap (λ (t : List ℕ). lines_from settings state 0 (take number js) ++ t) piece_text
      ∙ lines_more settings state number most js (omega (arith, count, first.within))
      ∙ ap (λ (l : List Judged). lines_from settings state 0 (take (number + length l) js)) (sym there);
  within = omega (arith, piece.count, piece.within, ap (λ (d : Drum). d.last.judged) first.urls);
  holds = λ state was. holds state (first.holds state was);
  urls = same ∙ first.urls;
  reads = reads_then (IsJudgedFile parts.urls) ⊥ ⊥ before between after law first.reads (subst (λ (d : Drum). OnlyReads (IsJudgedFile d) ⊥ between after) first.urls reads);
  output = omega (arith, first.output, part.output.later);
}

write_failed : (e : Ending) → IsWriteEnding e → e ≡ DiskFault → ⊥
write_failed e (inl a) is = let no : OutputFault ≡ DiskFault = sym a ∙ is in cc
write_failed e (inr a) is = let no : NoMemory ≡ DiskFault = sym a ∙ is in cc

write_damaged : (e : Ending) (f at : ℕ) → IsWriteEnding e → e ≡ Damaged f at → ⊥
write_damaged e f at (inl a) is = let no : OutputFault ≡ Damaged f at = sym a ∙ is in cc
write_damaged e f at (inr a) is = let no : NoMemory ≡ Damaged f at = sym a ∙ is in cc

-- or its printing was refused
pub prints_stopped : (number most : ℕ) (found : List Judged) (parts mid now : Parts) (before between after : Told) (old out new : Stream) (wrote r : Result (Unit {0}) Ending) (e : Ending)
    → IsConsistent between
    → PrintsFirst number parts mid before between old out → IsPiece number most found between.images mid between.files
    → ((state : State) → HoldsState between.images mid state → HoldsState after.images now state) → now.urls ≡ mid.urls → OnlyReads (IsJudgedFile mid.urls) ⊥ between after → wrote ≡ Err e
    → PrintsPart wrote after.images now number found out new → r ≡ Err e → Prints IsListingOf r parts before after old new
prints_stopped number most found parts mid now before between after old out new wrote r e law first piece holds same reads was part is =
    let kind : IsWriteEnding e = subst (λ (x : Result (Unit {0}) Ending). IfErr x IsWriteEnding) was part.kinds in
    record {
      text = first.text ++ part.text;
      written = appends_both old.bytes out.bytes new.bytes first.text part.text first.written part.written;
      is = λ files told state held.
          let settings = parts.urls.settings in
          let js = judged state.urls in
          let open_state = first.holds state held in
          let there = piece_found number most found between.images mid state open_state (piece.is files (first.reads.same ∙ told) state open_state) in
          let count = (held_count before.images parts state held).0 in
          let other : now.urls.settings ≡ settings = ap (λ (d : Drum). d.settings) (same ∙ first.urls) in
          let some = (part.is state (holds state open_state)).0 in
          let piece_text : lines_from now.urls.settings state number found ≡ lines_from settings state number (take most (drop number js)) =
          ap (λ (s : Settings). lines_from s state number found) other ∙ ap (lines_from settings state number) there in
          let upto = lines_more settings state number most js (omega (arith, count, first.within)) in
          let so_far = prefix_behind (lines_from settings state 0 (take number js)) part.text (lines_from settings state number (take most (drop number js)))
          (subst (IsPrefixOf part.text) piece_text some) in
          let front = prefix_both _ _ _ (subst (IsPrefixOf (lines_from settings state 0 (take number js) ++ part.text)) upto so_far)
          (lines_front settings state (number + length (take most (drop number js))) js) in (
            listing_by state.settings state,
            refl,
            (
              subst (IsPrefixOf (first.text ++ part.text)) (sym (listing_is before.images parts state held))
                  (subst (λ (t : List ℕ). IsPrefixOf (t ++ part.text) (lines_from settings state 0 js)) (sym (first.is files told state held)) front),
              subst (λ (x : Result (Unit {0}) Ending). OnOk x (first.text ++ part.text ≡ listing_by state.settings state)) (sym is) tt,
            ),
          );
      reads = reads_then (IsJudgedFile parts.urls) ⊥ (IsErrOf r DiskFault) before between after law first.reads
          (subst (λ (d : Drum). OnlyReads (IsJudgedFile d) (IsErrOf r DiskFault) between after) first.urls
          (reads_for (IsJudgedFile mid.urls) ⊥ (IsErrOf r DiskFault) between after (λ x. write_failed e kind (err_same r e DiskFault is x)) reads));
      spoilt = λ f at x. absurd (write_damaged e f at kind (err_same r e (Damaged f at) is x));
      whole = λ f at x. absurd (write_damaged e f at kind (err_same r e (Damaged f at) is x));
      kinds = subst (λ (x : Result (Unit {0}) Ending). IfErr x IsPrintEnding) (sym is) (inr (inr kind));
      output = record { later = omega (arith, first.output, part.output.later); rose = λ x. omega (arith, first.output, part.output.rose (was ∙ ap Err (err_same r e OutputFault is x))) };
    }

-- all is printed
pub prints_all : (number : ℕ) (parts now : Parts) (before after : Told) (old new : Stream) (r : Result (Unit {0}) Ending) → PrintsFirst number parts now before after old new
    → now.urls.last.judged ≤ number → r ≡ Ok tt → Prints IsListingOf r parts before after old new
prints_all number parts now before after old new r first all is = record {
  text = first.text;
  written = first.written;
  is = λ files told state holds.
      let settings = parts.urls.settings in
      let js = judged state.urls in
      let count = (held_count before.images parts state holds).0 in
      let whole : take number js ≡ js = take_all number js (omega (arith, count, all, ap (λ (d : Drum). d.last.judged) first.urls)) in
      let text : first.text ≡ listing_by state.settings state = first.is files told state holds ∙ ap (lines_from settings state 0) whole ∙ sym (listing_is before.images parts state holds) in (
        listing_by state.settings state,
        refl,
        (
          ([], sym text ∙ sym (append-nil first.text)),
          subst (λ (x : Result (Unit {0}) Ending). OnOk x (first.text ≡ listing_by state.settings state)) (sym is) text,
        ),
      );
  reads = reads_for (IsJudgedFile parts.urls) ⊥ (IsErrOf r DiskFault) before after (λ x. let no : Ok tt ≡ Err DiskFault = sym is ∙ x in cc) first.reads;
  spoilt = λ f at x. let no : Ok tt ≡ Err (Damaged f at) = sym is ∙ x in let none : ⊥ = cc in absurd none;
  whole = λ f at x. let no : Ok tt ≡ Err (Damaged f at) = sym is ∙ x in let none : ⊥ = cc in absurd none;
  kinds = subst (λ (x : Result (Unit {0}) Ending). IfErr x IsPrintEnding) (sym is) tt;
  output = record { later = first.output; rose = λ x. let no : Ok tt ≡ Err OutputFault = sym is ∙ x in let none : ⊥ = cc in absurd none };
}

-- ---- one piece
-- its text was written
pub part_of : (r : Result (Unit {0}) Ending) (images : Files → Type 0) (parts : Parts) (first : ℕ) (found : List Judged) (text : List ℕ) (old new : Stream)
    → ((state : State) → HoldsState images parts state → text ≡ lines_from parts.urls.settings state first found) → OnOk r (Appends old.bytes new.bytes text)
    → OnErr r (AppendsPrefix old.bytes new.bytes text) → IfErr r IsWriteEnding → HasCause (IsErrOf r OutputFault) old.faults new.faults → PrintsPart r images parts first found old new
part_of r images parts first found text old new is ok err kinds output =
    let wrote = written_of r old new text ok err in
    record {
      text = wrote.0;
      written = wrote.1;
      is = λ state holds. subst (IsWritten r wrote.0) (is state holds) wrote.2;
      kinds = kinds;
      output = output;
    }

-- it couldn't be made
pub part_none : (images : Files → Type 0) (parts : Parts) (first : ℕ) (found : List Judged) (out : Stream) → PrintsPart (Err NoMemory) images parts first found out out
part_none images parts first found out = record {
  text = [];
  written = Appends-nil out.bytes;
  is = λ state holds. ((lines_from parts.urls.settings state first found, refl), tt);
  kinds = inr refl;
  output = record { later = omega arith; rose = λ e. let no : ⊥ = cc in absurd no };
}
