use Rattle.std.proofs.Common.{◌≡◌, ◌≢◌, ◌⊎◌, ◌∙◌, inl, inr, refl, ◌+◌, ◌%◌, ◌^◌, ◌++◌, ℕ, List, map, length, sym, ap, subst, arith, length-append}
use Rattle.std.proofs.lemmas.List.{length-map}
use Rattle.std.specs.Option.{ForSome}
use Rattle.irl_offer.specs.declared.entry.Entry.{Entry}
use Rattle.irl_disk.specs.Disk.{Files, ChangesFile, ChangesOnly}
use Rattle.irl_disk.specs.Effects.{OnlyChanges}
use Rattle.irl_disk.specs.Images.{Told}
use Rattle.irl_disk.proofs.Effects.{changes_for, changes_then, changes_wider}
use Rattle.irl_journal.specs.Blob.{KeepsFront}
use Rattle.irl_journal.specs.Growing.{HasPut, ReachesPlace, Writer}
use Rattle.irl_layout.specs.JudgedEntries.{judged_entries, rows}
use Rattle.irl_layout.specs.Runs.{entry_of_offer, texts_of}
use Rattle.irl_bay.specs.Telling.{judged_with}
use Rattle.irl_bay.proofs.BatchWrites.{judged_writes, step_then, texts_writes}
use Rattle.irl_bay.proofs.JudgedMore.{more_entries, more_texts, more_uniques}
use Rattle.irl_bay.proofs.Sweeps.{put_on, same_file, still_reached}
use Rattle.irl_bay.proofs.telling.Telling.tell.Given.{Over}
use Rattle.irl_bay.proofs.telling.Telling.tell.Goals.{After-put}
use Rattle.irl_bay.proofs.telling.Telling.tell.Goals as goal

changes_as : (step : Files → Files → Type 0) (failed answered : Type 0) (old new : Told) → OnlyChanges step failed old new → (answered → failed) → OnlyChanges step answered old new
changes_as step failed answered old new changes gave = changes_for step failed answered old new gave changes

flip : (m n : ℕ) → m ≢ n → n ≢ m
flip m n apart e = apart (sym e)

pub returns-in_err-put_rows-clause-step : goal.returns-in_err-put_rows-clause-step
returns-in_err-put_rows-clause-step g c = λ drum of. judged_writes drum _ _ _ _ of.judged_file of.judged_kept c.put_rows.ensures.changes.told c.put_rows.ensures.changes.stops

pub put-requires : goal.put-requires
put-requires g c =
    let now = c.args.self.now in
    let tells = g.S.Store.told in
    let next = (tells c.put_rows.new.store).files in
    subst (λ (w : Writer). ForSome next (ReachesPlace w)) (sym c.put_rows.ensures.texts)
    (still_reached (tells c.args.store.now).files next now.texts (same_file now.judged.file now.texts.file _ _ _ (flip _ _ now.apart) c.put_rows.ensures.changes.told) c.requires.texts)

-- the two files change, the one after the other
both_change : (g : Over) (c : After-put g) (failed : Type 0) → OnlyChanges (ChangesFile c.put_rows.new.self.texts.file (KeepsFront c.put_rows.new.self.texts.kept)) failed
    (g.S.Store.told c.put_rows.new.store) (g.S.Store.told c.put.new.store)
    → OnlyChanges (ChangesOnly (λ f. (f ≡ c.args.self.now.judged.file) ⊎ (f ≡ c.args.self.now.texts.file))) failed (g.S.Store.told c.args.store.now) (g.S.Store.told c.put.new.store)
both_change g c failed changes =
    let tells = g.S.Store.told in
    let file = ap (λ (w : Writer). w.file) c.put_rows.ensures.texts in
    changes_then _ _ failed (tells c.args.store.now) (tells c.put_rows.new.store) (tells c.put.new.store) (g.met.S.Store.is_consistent c.put_rows.new.store)
    (λ x y z first second f out. second f out ∙ first f out)
    (changes_wider _ _ _ _ _ (λ x y change f out. change.others f (λ e. out (inl e))) c.put_rows.ensures.changes)
    (changes_wider _ _ failed _ _ (λ x y change f out. change.others f (λ e. out (inr (e ∙ file)))) changes)

pub returns-in_err-put-clause-others : goal.returns-in_err-put-clause-others
returns-in_err-put-clause-others g c = changes_as _ _ _ _ _ (both_change g (goal.at.returns-in_err-put-clause-others g c).After-put _ c.in_err-put.ensures.changes) (λ e. refl)

pub returns-clause-others : goal.returns-clause-others
returns-clause-others g c = changes_as _ _ _ _ _ (both_change g (goal.at.returns-clause-others g c).After-put _ c.in_ok-put.ensures.changes) (λ e. absurd (cc))

pub returns-in_err-put-clause-step : goal.returns-in_err-put-clause-step
returns-in_err-put-clause-step g c = λ drum of.
    let same = c.put_rows.ensures.texts in
    step_then drum _ _ _ (g.met.S.Store.is_consistent c.put_rows.new.store) (judged_writes drum _ _ _ _ of.judged_file of.judged_kept c.put_rows.ensures.changes.told c.put_rows.ensures.changes.stops)
    (texts_writes drum _ _ _ _ (ap (λ (w : Writer). w.file) same ∙ of.texts_file) (ap (λ (w : Writer). w.kept) same ∙ of.texts_kept) c.put.ensures.changes.told c.put.ensures.changes.stops)

pub returns-clause-step : goal.returns-clause-step
returns-clause-step g c = λ drum of.
    let same = c.put_rows.ensures.texts in
    step_then drum _ _ _ (g.met.S.Store.is_consistent c.put_rows.new.store) (judged_writes drum _ _ _ _ of.judged_file of.judged_kept c.put_rows.ensures.changes.told c.put_rows.ensures.changes.stops)
    (texts_writes drum _ _ _ _ (ap (λ (w : Writer). w.file) same ∙ of.texts_file) (ap (λ (w : Writer). w.kept) same ∙ of.texts_kept) c.put.ensures.changes.told c.put.ensures.changes.stops)

pub returns-clause-told : goal.returns-clause-told
returns-clause-told g c = λ drum offers before news has are here.
    let now = c.args.self.now in
    let mid_self = c.put_rows.new.self in
    let b = c.args.b in
    let tells = g.S.Store.told in
    let told = (tells c.args.store.now).files in
    let mid = (tells c.put_rows.new.store).files in
    let new = (tells c.put.new.store).files in
    let buckets = drum.settings.buckets in
    let verdicts = c.args.verdicts.now in
    let entries = c.args.entries.now in
    let same = c.put_rows.ensures.texts in
    let file = ap (λ (w : Writer). w.file) same in
    let many : length verdicts ≡ length news = c.requires.count ∙ ap (λ (l : List Entry). length l) (sym are.entries_are) ∙ length-map news entry_of_offer in
    let bytes = judged_entries drum.last.texts (judged_with buckets offers before) in
    let found : rows now.place b entries verdicts ≡ rows ((drum.last.texts + length (texts_of offers)) % 2 ^ 64) b (map entry_of_offer news) verdicts =
    ap (λ (l : List Entry). rows now.place b l verdicts) (sym are.entries_are) ∙ ap (λ (n : ℕ). rows n b (map entry_of_offer news) verdicts) has.place in
    let all : bytes ++ rows now.place b entries verdicts ≡ judged_entries drum.last.texts (judged_with buckets (offers ++ news) (before ++ verdicts)) =
    ap (λ (l : List ℕ). bytes ++ l) found ∙ sym (more_entries drum.last.texts b buckets offers news before verdicts has.count many here) in
    let texts : texts_of offers ++ c.args.texts.now ≡ texts_of (offers ++ news) = ap (λ (l : List ℕ). texts_of offers ++ l) (sym are.texts_are) ∙ sym (more_texts offers news) in
    let judged_put = c.in_ok-put_rows.ensures.put bytes has.judged in
    let texts_moved = put_on told mid (texts_of offers) now.texts (same_file now.judged.file now.texts.file _ told mid (flip _ _ now.apart) c.put_rows.ensures.changes.told) has.texts in
    let texts_there = subst (λ (w : Writer). HasPut mid (texts_of offers) w) (sym same) texts_moved in
    let judged_apart : mid_self.judged.file ≢ mid_self.texts.file = λ e. now.apart (sym c.put_rows.ensures.file ∙ e ∙ file) in
    let judged_moved = put_on mid new _ mid_self.judged (same_file mid_self.texts.file mid_self.judged.file _ mid new judged_apart c.put.ensures.changes.told) judged_put in
    let more_long = ap (λ (l : List ℕ). length l) (more_texts offers news) ∙ length-append (texts_of offers) (texts_of news) in
    let text_long : length (texts_of news) ≡ length c.args.texts.now = ap (λ (l : List ℕ). length l) are.texts_are in
    record {
      of = record {
        judged_file = c.put_rows.ensures.file ∙ has.of.judged_file;
        judged_kept = c.put_rows.ensures.kept ∙ has.of.judged_kept;
        texts_file = c.put.ensures.file ∙ file ∙ has.of.texts_file;
        texts_kept = c.put.ensures.kept ∙ ap (λ (w : Writer). w.kept) same ∙ has.of.texts_kept;
      };
      count = length-append before verdicts ∙ omega (arith, has.count, many, length-append offers news);
      judged = subst (λ (l : List ℕ). HasPut new l mid_self.judged) all judged_moved;
      texts = subst (λ (l : List ℕ). HasPut new l c.put.new.self) texts (c.in_ok-put.ensures.put (texts_of offers) texts_there);
      place = omega (arith, c.put_rows.ensures.place, has.place, more_long, text_long);
      unique = omega (arith, c.saturating_add-self.ensures, c.count_unique.ensures, c.put_rows.ensures.unique, has.unique, more_uniques buckets offers news before verdicts has.count many);
    }
