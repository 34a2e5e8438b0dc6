-- Each row that is put is one more of a bucket's.
use Rattle.std.proofs.Common.{◌≡◌, ◌∙◌, ◌+◌, ◌%◌, ◌^◌, ◌<◌, ◌++◌, ◌∷◌, ℕ, suc, List, Option, None, drop, get_or, length, sym, ap, subst, arith, rules, append_assoc, drop-cons}
use Rattle.irl_offer.specs.declared.entry.Entry.{Entry}
use Rattle.irl_offer.specs.declared.offer.Op.TheVariants.{Check}
use Rattle.irl_offer.specs.declared.offer.Verdict.{Verdict}
use Rattle.irl_disk.specs.Disk.{Files, Changes, ChangesFile}
use Rattle.irl_disk.specs.Images.{Told, IsConsistent, LeavesBy}
use Rattle.irl_journal.specs.Blob.{KeepsFront}
use Rattle.irl_journal.specs.Growing.{HasPut}
use Rattle.irl_journal.proofs.Growing.{keeps_then, stops_then}
use Rattle.irl_layout.specs.JudgedEntries.{row, rows}
use Rattle.irl_bay.proofs.JudgedMore.{rows_low}
use Rattle.irl_bay.proofs.telling.Telling.put_rows.Goals as goal

-- the same file is written once more, behind the same bytes
changes_on : (f g n m : ℕ) (old mid new : Option Files) → g ≡ f → m ≡ n → Changes f (KeepsFront n) old mid → Changes g (KeepsFront m) mid new → Changes f (KeepsFront n) old new
changes_on f g n m old mid new file kept so_far more =
    keeps_then f n old mid new so_far (subst (λ (h : ℕ). Changes h (KeepsFront n) mid new) file (subst (λ (k : ℕ). Changes g (KeepsFront k) mid new) kept more))

stops_on : (f g n m : ℕ) (old mid new : Told) → IsConsistent mid → g ≡ f → m ≡ n → LeavesBy (ChangesFile f (KeepsFront n)) old mid → LeavesBy (ChangesFile g (KeepsFront m)) mid new
    → LeavesBy (ChangesFile f (KeepsFront n)) old new
stops_on f g n m old mid new law file kept so_far more =
    stops_then f n old mid new law so_far (subst (λ (h : ℕ). LeavesBy (ChangesFile h (KeepsFront n)) mid new) file (subst (λ (k : ℕ). LeavesBy (ChangesFile g (KeepsFront k)) mid new) kept more))

step : (found new all : List ℕ) (next b i : ℕ) (entries : List Entry) (verdicts : List (Option Verdict)) (d : Entry) → i < length entries → i < length verdicts
    → new ≡ found ++ row next b (get_or entries i d) (get_or verdicts i None)
    → found ++ rows next b (drop i entries) (drop i verdicts) ≡ all → new ++ rows ((next + (get_or entries i d).aux_len) % 2 ^ 64) b (drop (i + 1) entries) (drop (i + 1) verdicts) ≡ all
step found new all next b i entries verdicts d some one put before =
    let entry = get_or entries i d in
    let verdict = get_or verdicts i None in
    let after : i + 1 ≡ suc i = omega arith in
    let rest = rows (next + entry.aux_len) b (drop (i + 1) entries) (drop (i + 1) verdicts) in
    let here : rows next b (drop i entries) (drop i verdicts) ≡ row next b entry verdict ++ rest =
    ap (λ (l : List Entry). rows next b l (drop i verdicts)) (drop-cons entries i d some)
    ∙ ap (λ (l : List (Option Verdict)). rows next b (entry ∷ drop (suc i) entries) l) (drop-cons verdicts i None one)
    ∙ ap (λ (n : ℕ). row next b entry verdict ++ rows (next + entry.aux_len) b (drop n entries) (drop n verdicts)) (sym after) in
    ap (λ (l : List ℕ). new ++ l) (rows_low (next + entry.aux_len) b (drop (i + 1) entries) (drop (i + 1) verdicts)) ∙ ap (λ (l : List ℕ). l ++ rest) put
    ∙ append_assoc found (row next b entry verdict) rest ∙ ap (λ (l : List ℕ). found ++ l) (sym here) ∙ before

pub returns-in_err-put-clause-changes : goal.returns-in_err-put-clause-changes
returns-in_err-put-clause-changes g c =
    let so_far = c.loop-i.invariant in
    record {
      told = changes_on _ _ _ _ _ _ _ so_far.file so_far.kept so_far.changes c.put.ensures.changes.told;
      stops = stops_on _ _ _ _ _ _ _ (g.met.S.Store.is_consistent c.loop-i.store) so_far.file so_far.kept so_far.stops c.put.ensures.changes.stops;
      taken = search rules;
      cause = search rules;
    }

pub loop-i-preserved : goal.loop-i-preserved
loop-i-preserved g c =
    let so_far = c.loop-i.invariant in
    let entries = c.args.entries.now in
    let verdicts = c.args.verdicts.now in
    let i = c.loop-i.i in
    let none : Entry = record { op = Check; aux_len = 0; key = 0; value = 0; from = 0 } in
    let lt : i < length entries = omega arith in
    let lt_too : i < length verdicts = omega arith in
    let this : c.deref.result.now ≡ row c.loop-i.next c.args.b (get_or entries i none) (get_or verdicts i None) = c.deref.ensures.value ∙ c.in_ok-push_judged.ensures.ok
    ∙ ap (λ (l : List ℕ). l ++ row c.loop-i.next c.args.b (get_or entries i none) (get_or verdicts i None)) c.clear.ensures.items in
    let found = so_far.found ++ c.deref.result.now in
    let aux = ap (λ (n : ℕ). found ++ rows ((c.loop-i.next + n) % 2 ^ 64) c.args.b (drop (i + 1) entries) (drop (i + 1) verdicts)) c.from-next.ensures in
    record {
      found = found;
      all = aux ∙ step so_far.found found (rows c.args.self.now.place c.args.b entries verdicts) c.loop-i.next c.args.b i entries verdicts none lt lt_too (ap (λ (l : List ℕ). so_far.found ++ l) this)
          so_far.all;
      put = λ bytes had. subst (λ (l : List ℕ). HasPut (g.S.Store.told c.put.new.store).files l c.put.new.self) (append_assoc bytes so_far.found c.deref.result.now)
          (c.in_ok-put.ensures.put (bytes ++ so_far.found) (so_far.put bytes had));
      file = c.put.ensures.file ∙ so_far.file;
      kept = c.put.ensures.kept ∙ so_far.kept;
      texts = so_far.texts;
      place = so_far.place;
      unique = so_far.unique;
      long = c.put.ensures.long;
      changes = changes_on _ _ _ _ _ _ _ so_far.file so_far.kept so_far.changes c.put.ensures.changes.told;
      stops = stops_on _ _ _ _ _ _ _ (g.met.S.Store.is_consistent c.loop-i.store) so_far.file so_far.kept so_far.stops c.put.ensures.changes.stops;
      taken = c.put.ensures.changes.taken ∙ so_far.taken;
      later = omega (arith, so_far.later, c.put.ensures.changes.cause.later);
    }
