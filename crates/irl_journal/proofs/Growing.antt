-- What a writer's device calls leave of what was put, and of the bytes that stay.
use Rattle.std.proofs.Common.{◌≡◌, ◌≢◌, ◌∙◌, ℕ, ◌+◌, ◌-◌, ◌≤◌, List, [], ◌++◌, length, take, drop, Option, None, Some, Result, Ok, Err, OnErr, refl, sym, ap, subst, arith, append_assoc, length-append, length-take-le, take-append-drop}
use Rattle.std.proofs.lemmas.List.{append-nil, take_at, drop-drop}
use Rattle.std.specs.Option.{ForSome}
use Rattle.irl_disk.specs.Disk.{Files, Changes, ChangesFile, Holds, Scribbled}
use Rattle.irl_disk.specs.Effects.{OnlyChanges}
use Rattle.irl_disk.specs.Images.{Told, IsConsistent, LeavesBy, LeavesSame}
use Rattle.irl_disk.proofs.Effects.{changes_then, changes_for, changes_none, changes_wider, told_none, told_then, told_wider}
use Rattle.irl_disk.proofs.Frames.{told_from}
use Rattle.irl_disk.proofs.Stretches.{widens_by, joins_by, same_by}
use Rattle.irl_journal.specs.Blob.{BeginsWith, KeepsFront, IsCommitted}
use Rattle.irl_journal.specs.Growing.{Writer, HasPut, Puts, Finishes, KeepsRest, ReachesPlace, end_of}
use Rattle.irl_journal.specs.Synced.{WritesSynced}
use Rattle.irl_journal.proofs.Syncing.{told_scribbled}
use Rattle.irl_journal.proofs.Fronts.{begins_take, keeps_none, keeps_both, scribbled_past, held_past, told_keeps}

-- ---- what is told
front : (held written rest file : List ℕ) (kept place : ℕ) → file ≡ held ++ written ++ rest → length held ≡ kept → place ≡ kept + length written → take place file ≡ held ++ written
front held written rest file kept place is size at =
    ap (λ (l : List ℕ). take place l) is ∙ take_at (held ++ written) rest place (omega (arith, size, at, length-append held written))

-- what waited is written
pub put_flushed : (w : Writer) (bytes : List ℕ) (old new : Option Files) → HasPut old bytes w → Changes w.file (Holds w.place w.waiting) old new
    → HasPut new bytes (record { file = w.file; kept = w.kept; place = end_of w; waiting = [] })
put_flushed w bytes old new put wrote = record {
  written = bytes;
  are = sym (append-nil bytes);
  place = omega (arith, put.place, ap (λ (l : List ℕ). length l) put.are, length-append put.written w.waiting);
  stand = λ files told.
      let from = told_from w.file (Holds w.place w.waiting) old new files wrote told in
      let was = put.stand from.0 from.1 in
      let rest = drop (w.place + length w.waiting) (from.0 w.file) in
      let before = front was.0 put.written was.1 (from.0 w.file) w.kept w.place was.2 was.3 put.place in (
        was.0,
        rest,
        from.2.changed
            ∙ ap (λ (l : List ℕ). l ++ w.waiting ++ rest) before
            ∙ ap (λ (l : List ℕ). l ++ rest) (append_assoc was.0 put.written w.waiting ∙ ap (λ (l : List ℕ). was.0 ++ l) (sym put.are)),
        was.3,
      );
}

-- a write that failed leaves what was written
pub put_torn : (w : Writer) (n : ℕ) (bytes : List ℕ) (old new : Option Files) → HasPut old bytes w → Changes w.file (Scribbled w.place n) old new → HasPut new bytes w
put_torn w n bytes old new put tore = record {
  written = put.written;
  are = put.are;
  place = put.place;
  stand = λ files told.
      let from = told_from w.file (Scribbled w.place n) old new files tore told in
      let was = put.stand from.0 from.1 in
      let rest = drop w.place (files w.file) in
      let before = front was.0 put.written was.1 (from.0 w.file) w.kept w.place was.2 was.3 put.place in (
        was.0,
        rest,
        sym (take-append-drop w.place (files w.file)) ∙ ap (λ (l : List ℕ). l ++ rest) (from.2.changed.before ∙ before),
        was.3,
      );
}

-- bytes that wait behind what was put
pub put_more : (w : Writer) (more bytes : List ℕ) (told : Option Files) → HasPut told bytes w
    → HasPut told (bytes ++ more) (record { file = w.file; kept = w.kept; place = w.place; waiting = w.waiting ++ more })
put_more w more bytes told put = record {
  written = put.written;
  are = ap (λ (l : List ℕ). l ++ more) put.are ∙ append_assoc put.written w.waiting more;
  place = put.place;
  stand = put.stand;
}

-- nothing is put
pub put_none : (f n : ℕ) (told : Option Files) → ForSome told (λ files. n ≤ length (files f)) → HasPut told [] (record { file = f; kept = n; place = n; waiting = [] })
put_none f n told long = record {
  written = [];
  are = refl;
  place = omega arith;
  stand = λ files tells. (
    take n (files f),
    drop n (files f),
    sym (take-append-drop n (files f))
        ∙ ap (λ (l : List ℕ). l ++ drop n (files f)) (sym (append-nil (take n (files f)))),
    length-take-le n (files f) (long files tells),
  );
}

-- ---- how long the file is
pub long_wrote : (f place : ℕ) (bytes : List ℕ) (old new : Option Files) → ForSome old (λ files. place ≤ length (files f)) → Changes f (Holds place bytes) old new
    → ForSome new (λ files. place + length bytes ≤ length (files f))
long_wrote f place bytes old new long wrote = λ files told.
    let from = told_from f (Holds place bytes) old new files wrote told in
    let was = from.0 f in
    omega (
      arith,
      ap (λ (l : List ℕ). length l) from.2.changed,
      length-append (take place was ++ bytes) (drop (place + length bytes) was),
      length-append (take place was) bytes,
      length-take-le place
          was (long from.0 from.1),
    )

pub long_torn : (f place n : ℕ) (old new : Option Files) → ForSome old (λ files. place ≤ length (files f)) → Changes f (Scribbled place n) old new → ForSome new (λ files. place ≤ length (files f))
long_torn f place n old new long tore = λ files told.
    let from = told_from f (Scribbled place n) old new files tore told in
    omega (arith, from.2.changed.no_shorter, long from.0 from.1)

-- ---- the bytes that stay
pub keeps_wrote : (f kept place : ℕ) (bytes : List ℕ) (old new : Option Files) → kept ≤ place → ForSome old (λ files. place ≤ length (files f)) → Changes f (Holds place bytes) old new
    → Changes f (KeepsFront kept) old new
keeps_wrote f kept place bytes old new less long wrote = told_keeps f kept (Holds place bytes) old new
    (λ before after told holds. held_past kept place bytes (before f) after less (long before told) holds) wrote

pub keeps_torn : (f kept place n : ℕ) (old new : Option Files) → kept ≤ place → Changes f (Scribbled place n) old new → Changes f (KeepsFront kept) old new
keeps_torn f kept place n old new less tore = told_keeps f kept (Scribbled place n) old new (λ before after told torn. scribbled_past kept place n (before f) after less torn) tore

pub stops_wrote : (f kept place n : ℕ) (old new : Told) → kept ≤ place → LeavesBy (ChangesFile f (Scribbled place n)) old new → LeavesBy (ChangesFile f (KeepsFront kept)) old new
stops_wrote f kept place n old new less call = widens_by old new _ _ call
    (λ before image step. record { changed = scribbled_past kept place n (before f) (image f) less step.changed; others = step.others })

-- two calls, one after the other
pub keeps_files : (f n : ℕ) (x y z : Files) → ChangesFile f (KeepsFront n) x y → ChangesFile f (KeepsFront n) y z → ChangesFile f (KeepsFront n) x z
keeps_files f n x y z one two = record { changed = keeps_both n (x f) (y f) (z f) one.changed two.changed; others = λ g out. two.others g out ∙ one.others g out }

pub keeps_then : (f n : ℕ) (old mid new : Option Files) → Changes f (KeepsFront n) old mid → Changes f (KeepsFront n) mid new → Changes f (KeepsFront n) old new
keeps_then f n None mid new one two = rw one at two
keeps_then f n (Some old) mid new one two =
    let next = rw one.1 at two in
    (next.0, next.1, keeps_files f n old one.0 next.0 one.2 next.2)

pub stops_then : (f n : ℕ) (old mid new : Told) → IsConsistent mid → LeavesBy (ChangesFile f (KeepsFront n)) old mid → LeavesBy (ChangesFile f (KeepsFront n)) mid new
    → LeavesBy (ChangesFile f (KeepsFront n)) old new
stops_then f n old mid new law one two = joins_by old mid new _ law (keeps_files f n) one two

-- and none
pub keeps_same : (f n : ℕ) (old new : Option Files) → new ≡ old → Changes f (KeepsFront n) old new
keeps_same f n None new same = same
keeps_same f n (Some old) new same = (old, same, record { changed = keeps_none n (old f); others = λ g out. refl })

pub stops_same : (f n : ℕ) (old new : Told) → LeavesSame old new → LeavesBy (ChangesFile f (KeepsFront n)) old new
stops_same f n old new same = same_by old new _ (λ x. record { changed = keeps_none n (x f); others = λ g out. refl }) same

-- ---- what lies behind
pub rest_wrote : (f at : ℕ) (bytes : List ℕ) (old new : Option Files) → ForSome old (λ files. at ≤ length (files f)) → Changes f (Holds at bytes) old new
    → Changes f (KeepsRest (at + length bytes)) old new
rest_wrote f at bytes old new long wrote =
    told_wider _ _ old new (λ x y step. record { changed = step.changed.after; others = step.others }) (told_scribbled f at bytes old new long wrote)

pub rest_none : (f n : ℕ) (old new : Option Files) → new ≡ old → Changes f (KeepsRest n) old new
rest_none f n old new same = told_none _ old new (λ x. record { changed = refl; others = λ g out. refl }) same

pub rest_then : (f a b : ℕ) (old mid new : Option Files) → a ≤ b → Changes f (KeepsRest a) old mid → Changes f (KeepsRest b) mid new → Changes f (KeepsRest b) old new
rest_then f a b old mid new less first second =
    told_then (ChangesFile f (KeepsRest b)) old mid new
    (λ x y z one two. record { changed = two.changed ∙ one.changed; others = λ g out. two.others g out ∙ one.others g out })
    (told_wider _ _ old mid (λ x y step. record { changed = further (x f) (y f) step.changed; others = step.others }) first)
    second
  where
    further : (x y : List ℕ) → drop a y ≡ drop a x → drop b y ≡ drop b x
    further x y same =
        let far : a + (b - a) ≡ b = omega arith in
        ap (λ (n : ℕ). drop n y) (sym far)
        ∙ sym (drop-drop (b - a) a y)
        ∙ ap (λ (l : List ℕ). drop (b - a) l) same
        ∙ drop-drop (b - a) a x
        ∙ ap (λ (n : ℕ). drop n x) far

-- ---- once the file is synced
pub all_put : (f kept : ℕ) (w : Writer) (bytes held : List ℕ) (old mid new : Told) → IsConsistent old → IsConsistent new → w.file ≡ f → w.kept ≡ kept → w.waiting ≡ [] → HasPut mid.files bytes w
    → Changes f (KeepsFront kept) old.files mid.files
    → new.files ≡ mid.files → ForSome mid.files (λ files. (image : Files) → new.images image → image f ≡ files f)
    → IsCommitted old.images (record { file = f; length = kept }) held → IsCommitted new.images (record { file = f; length = w.place }) (held ++ bytes)
all_put f kept w bytes held old mid new law_old law_new file_is kept_is none put changes same durable committed =
    let are : bytes ≡ put.written = put.are ∙ ap (λ (l : List ℕ). put.written ++ l) none ∙ append-nil put.written in
    record {
      size = omega (arith, committed.size, put.place, kept_is, length-append held bytes, ap (λ (l : List ℕ). length l) are);
      each = λ image left.
          let told = law_new.tells image left in
          let told_mid : mid.files ≡ Some told.0 = sym same ∙ told.1 in
          let from = told_from f (KeepsFront kept) old.files mid.files told.0 changes told_mid in
          let begins = from.2.changed held committed.size (committed.each from.0 (law_old.told from.0 from.1)) in
          let stands = put.stand told.0 told_mid in
          let file = told.0 f in
          let is : file ≡ stands.0 ++ put.written ++ stands.1 = ap told.0 (sym file_is) ∙ stands.2 in
          let size : length held ≡ length stands.0 = omega (arith, committed.size, stands.3, kept_is) in
          let same_front : held ≡ stands.0 =
          sym (begins_take file held begins) ∙ ap (λ (l : List ℕ). take (length held) l) (is ∙ append_assoc stands.0 put.written stands.1)
          ∙ take_at stands.0 (put.written ++ stands.1) (length held) (sym size) in
          subst (λ (l : List ℕ). BeginsWith l (held ++ bytes)) (sym (durable told.0 told_mid image left)) (stands.1, is ∙ joined held bytes put.written stands.0 stands.1 same_front are);
    }
  where
    joined : (held bytes written fore rest : List ℕ) → held ≡ fore → bytes ≡ written → fore ++ written ++ rest ≡ held ++ bytes ++ rest
    joined held bytes written fore rest h b = ap (λ (l : List ℕ). l ++ written ++ rest) (sym h) ∙ ap (λ (l : List ℕ). held ++ l ++ rest) (sym b)

-- a write past what stays, and the sync behind it
pub keeps_synced : (f kept place n : ℕ) (failed : Type 0) (old new : Told) → kept ≤ place → OnlyChanges (ChangesFile f (Scribbled place n)) failed old new
    → OnlyChanges (ChangesFile f (KeepsFront kept)) failed old new
keeps_synced f kept place n failed old new less changes =
    changes_wider _ _ failed old new (λ x y step. record { changed = scribbled_past kept place n (x f) (y f) less step.changed; others = step.others }) changes

-- what waits is written and synced
pub finishes : {E : Type 0} (w : Writer) (old new : Told) → IsConsistent old → IsConsistent new → w.kept ≤ w.place → ForSome old.files (ReachesPlace w)
    → WritesSynced {A = Unit {0}} {E = E} (Ok tt) w.file w.place w.waiting (Scribbled w.place (length w.waiting)) old new → Finishes {E = E} (Ok (end_of w)) w old new
finishes w old new law_old law_new less long wrote =
    let put : (bytes : List ℕ) → HasPut old.files bytes w → HasPut new.files bytes (record { file = w.file; kept = w.kept; place = end_of w; waiting = [] }) =
    λ bytes had. put_flushed w bytes old.files new.files had wrote.holds in
    let keeps = keeps_wrote w.file w.kept w.place w.waiting old.files new.files less long wrote.holds in
    record {
      committed = λ bytes held had committed.
          all_put w.file w.kept _ bytes held old new new law_old law_new refl refl refl (put bytes had) keeps refl wrote.durable committed;
      put = put;
      durable = wrote.durable;
      length = refl;
      bound = wrote.within;
      long = long_wrote w.file w.place w.waiting old.files new.files long wrote.holds;
      rest = rest_wrote w.file w.place w.waiting old.files new.files long wrote.holds;
      changes = changes_for _ _ _ old new (λ e. cc) (keeps_synced w.file w.kept w.place _ _ old new less wrote.changes);
    }

-- ---- refusals
pub on_err : {A E P : Type 0} (r : Result A E) → P → OnErr r P
on_err (Ok x) p = tt
on_err (Err e) p = p

-- bytes that wait
pub puts_waiting : {E : Type 0} (w : Writer) (more : List ℕ) (now : Told) → IsConsistent now → ForSome now.files (ReachesPlace w)
    → Puts {E = E} (Ok tt) more w (record { file = w.file; kept = w.kept; place = w.place; waiting = w.waiting ++ more }) now now
puts_waiting w more now law long = record {
  put = λ bytes had. put_more w more bytes now.files had;
  put_before = tt;
  end = omega (arith, length-append w.waiting more);
  end_before = tt;
  file = refl;
  kept = refl;
  long = long;
  rest = rest_none w.file _ now.files now.files refl;
  changes = changes_for _ ⊥ _ now now (λ e. cc) (changes_none _ now law (λ x. record { changed = keeps_none w.kept (x w.file); others = λ g out. refl }));
}

-- a put behind a call that leaves what was put, where what waited was written
pub puts_then : {E : Type 0} (result : Result Unit E) (failed : Type 0) (more : List ℕ) (old mid new : Writer) (before between after : Told) → IsConsistent between → mid.file ≡ old.file → mid.kept
    ≡ old.kept → end_of mid ≡ end_of old
    → ((bytes : List ℕ) → HasPut before.files bytes old → HasPut between.files bytes mid) → OnlyChanges (ChangesFile old.file (KeepsFront old.kept)) failed before between
    → Changes old.file (KeepsRest (end_of old)) before.files between.files → Puts result more mid new between after → Puts result more old new before after
puts_then (Ok x) failed more old mid new before between after law file kept end stays changes rest puts = record {
  put = λ bytes had. puts.put bytes (stays bytes had);
  put_before = tt;
  end = omega (arith, puts.end, end);
  end_before = tt;
  file = puts.file ∙ file;
  kept = puts.kept ∙ kept;
  long = puts.long;
  rest = rest_then old.file (end_of old) (end_of new) before.files between.files after.files (omega (arith, puts.end, end)) rest (rw file at puts.rest);
  changes = changes_then _ failed _ before between after law (keeps_files old.file old.kept) changes (rw (file, kept) at puts.changes);
}
puts_then (Err e) failed more old mid new before between after law file kept end stays changes rest puts = record {
  put = tt;
  put_before = λ bytes had. puts.put_before bytes (stays bytes had);
  end = tt;
  end_before = puts.end_before ∙ end;
  file = puts.file ∙ file;
  kept = puts.kept ∙ kept;
  long = puts.long;
  rest = tt;
  changes = changes_then _ failed _ before between after law (keeps_files old.file old.kept) changes (rw (file, kept) at puts.changes);
}

-- ---- what callers need: what was put stays while another file changes
-- what is told of one file is as before
abbrev pub StaysTold : ℕ → Option Files → Option Files → Type 0
StaysTold f old new = ForSome new (λ files. (before : Files) × (old ≡ Some before) × (files f ≡ before f))

-- a change of another file
pub stays_told : (f g : ℕ) (step : List ℕ → List ℕ → Type 0) (old new : Option Files) → f ≢ g → Changes g step old new → StaysTold f old new
stays_told f g step old new apart changes = λ files told.
    let from = told_from g step old new files changes told in
    (from.0, from.1, from.2.others f apart)

pub put_stays : (bytes : List ℕ) (w : Writer) (old new : Option Files) → StaysTold w.file old new → HasPut old bytes w → HasPut new bytes w
put_stays bytes w old new same put = record {
  written = put.written;
  are = put.are;
  place = put.place;
  stand = λ files told.
      let from = same files told in
      let was = put.stand from.0 from.1 in
      (was.0, was.1, from.2 ∙ was.2, was.3);
}

-- ---- how much a file has
pub put_reaches : (told : Option Files) (bytes : List ℕ) (w : Writer) → HasPut told bytes w → ForSome told (ReachesPlace w)
put_reaches told bytes w put = λ files tells.
    let stands = put.stand files tells in
    omega (arith, put.place, stands.3, ap (λ (l : List ℕ). length l) stands.2, length-append (stands.0 ++ put.written) stands.1, length-append stands.0 put.written)

pub put_end : (told : Option Files) (bytes : List ℕ) (w : Writer) → HasPut told bytes w → end_of w ≡ w.kept + length bytes
put_end told bytes w put = omega (arith, put.place, ap (λ (l : List ℕ). length l) put.are, length-append put.written w.waiting)
