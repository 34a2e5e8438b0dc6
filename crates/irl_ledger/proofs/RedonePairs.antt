-- Sent pairs that are done again: the tables are told those that were judged then.
use Rattle.std.proofs.Common.{◌≡◌, ◌∙◌, inr, true, ℕ, ◌≤◌, List, [], ◌∷◌, ◌++◌, Option, None, Result, Ok, Err, IsErrOf, OnOk, refl, sym, ap, subst, arith}
use Rattle.std.specs.Prelude.{◌&&◌, nat_le, is_some, slice_index}
use Rattle.std.specs.List.{AllByRecursion}
use Rattle.std.specs.Option.{ForSome}
use Rattle.std.proofs.lemmas.Bool.{and_parts, leb-true}
use Rattle.irl_base.specs.declared.fault.Fault.{Fault}
use Rattle.irl_base.specs.declared.fault.Fault.TheVariants.{Failed}
use Rattle.irl_offer.specs.declared.place.Place.{Place}
use Rattle.irl_offer.specs.declared.settings.Settings.{Settings}
use Rattle.irl_beast.specs.declared.item.Item.{Item}
use Rattle.irl_model.specs.Book.{Book}
use Rattle.irl_events.specs.Events.{Event, Pairs, Happened, Progress}
use Rattle.irl_events.specs.Legal.{begins_once, broken, is_noted, pairs_rise, passes_on, settles}
use Rattle.irl_events.specs.Queues.{Waiting}
use Rattle.irl_disk.specs.Images.{Told}
use Rattle.irl_bay.specs.Drum.{Drum, durable_at}
use Rattle.irl_bay.specs.Holding.{Holds}
use Rattle.irl_bay.specs.JudgedSpoilt.{IsJudgedFile, IsJudgedSpoiltAt}
use Rattle.irl_frontier.specs.Frontier.{after_other}
use Rattle.irl_ledger.specs.declared.ledger.Ledger.{Ledger}
use Rattle.irl_ledger.specs.Holding.{IsItemOf, domain_by}
use Rattle.irl_ledger.specs.declared.open.JudgedCounts.{JudgedCounts}
use Rattle.irl_ledger.specs.Opening.{AreRising, HasCount, HasCountAt, IsDone}
use Rattle.irl_ledger.specs.Redoing.{HasNext, IsKnownBy, IsNextOf, IsRedone, IsRedoneFile, Redoes}
use Rattle.irl_ledger.proofs.Counts.{count_at, count_in, count_within, counts_rise}
use Rattle.irl_ledger.specs.Telling.{TellsPairs}
use Rattle.irl_ledger.proofs.Broken.{all_kept}
use Rattle.irl_ledger.proofs.Opening.{AllNext, begins_legal, next_books, next_other, when_ok}
use Rattle.irl_ledger.proofs.RedonePass.{reads_wider}

-- the numbers of pairs that break no rule don't fall
pub pairs_risen : (x : Progress) (cuts judged pairs : ℕ) → broken x (Pairs cuts judged pairs) [] ≡ None → (x.sent ≤ judged) × (x.pairs ≤ pairs)
pairs_risen x cuts judged pairs none =
    let event : Event = Pairs cuts judged pairs in
    let kept = all_kept (begins_once x event) (pairs_rise x event) (passes_on x event []) (is_noted event) (settles x event) none in
    let outer = and_parts (nat_le x.cuts cuts && nat_le x.sent judged) (nat_le x.pairs pairs) kept.1 in
    let inner = and_parts (nat_le x.cuts cuts) (nat_le x.sent judged) outer.0 in
    (leb-true x.sent judged inner.1, leb-true x.pairs pairs outer.1)

on_ok : {A E : Type 0} (result : Result A E) (P Q : Type 0) → (P → Q) → OnOk result P → OnOk result Q
on_ok (Ok value) P Q f p = f p
on_ok (Err fault) P Q f p = tt

-- ---- what it leaves
module _ (at cuts judged pairs : ℕ) (urls : Drum) (old mid : Ledger) (s t : Told) (redone : IsRedone urls old) (legal : broken old.frontier.progress (Pairs cuts judged pairs) [] ≡ None)
    (within : (cuts ≤ urls.cuts) × (judged ≤ urls.last.judged) × (pairs ≤ old.pairs.last.judged))
    (done : mid ≡ record old { frontier = after_other old.frontier (Pairs cuts judged pairs) }) where
  abbrev event : Event
  event = Pairs cuts judged pairs

  begun : old.frontier.progress.begun ≡ true
  begun = begins_legal old.frontier.progress event [] legal

  module _ (result : Result Unit Fault) (new : Ledger) (tells : TellsPairs result mid new s t) where
    same_pairs : new.pairs ≡ old.pairs
    same_pairs = ap (λ (l : Ledger). l.pairs) tells.others ∙ ap (λ (l : Ledger). l.pairs) done

    mid_pairs : mid.pairs ≡ old.pairs
    mid_pairs = ap (λ (l : Ledger). l.pairs) done

    same_progress : new.frontier.progress ≡ (after_other old.frontier event).progress
    same_progress = tells.tells.progress ∙ ap (λ (l : Ledger). l.frontier.progress) done

    redone_told : new.frontier.told ≡ pairs → IsRedone urls new
    redone_told told =
        let risen = pairs_risen old.frontier.progress cuts judged pairs legal in
        record {
          fits = record {
            settings = tells.tells.settings ∙ ap (λ (l : Ledger). l.frontier.settings) done ∙ redone.fits.settings;
            cuts = subst (λ (x : Progress). x.cuts ≤ urls.cuts) (sym same_progress) within.0;
            sent = subst (λ (x : Progress). x.sent ≤ urls.last.judged) (sym same_progress) within.1;
            read = subst (λ (x : Progress). x.read ≤ x.sent) (sym same_progress) (omega (arith, redone.fits.read, risen.0));
            fronts = λ b lt. subst (λ (x : Progress). slice_index x.fronts b ≤ durable_at urls b) (sym same_progress) (redone.fits.fronts b lt);
            pairs_sent = subst (λ (x : Progress). x.pairs ≤ new.frontier.told) (sym same_progress) (omega (arith, told));
            told = subst (λ (d : Drum). new.frontier.told ≤ d.last.judged) (sym same_pairs) (omega (arith, told, within.2));
          };
          told = told ∙ ap (λ (x : Progress). x.pairs) (sym same_progress);
          begun = ap (λ (x : Progress). x.begun) same_progress ∙ sym begun ∙ redone.begun
              ∙ ap (λ (o : Option (List ℕ)). is_some o) (sym (ap (λ (l : Ledger). l.suffixes) tells.others ∙ ap (λ (l : Ledger). l.suffixes) done));
        }

    told_next : ForSome s.files (λ _. (settings : Settings) (u p : Book) (first more : List Happened) (places : List Place) → IsNextOf s.images urls old settings u p first more event places
        → HasNext new settings u p first event places)
    told_next files told settings u p first more places next =
        let none : places ≡ [] = (next_books s urls old settings u p first more event places next).1 in
        let before : HasNext mid settings u p first event places =
        next_other s urls old settings u p first more event places next none begun mid (ap (λ (l : Ledger). l.frontier) done) (ap (λ (l : Ledger). l.suffixes) done) in
        let held : Holds s.images mid.pairs p = subst (λ (d : Drum). Holds s.images d p) (sym mid_pairs) next.pairs_hold in
        record {
          tables = record {
            settings_are = tells.tells.settings ∙ before.tables.settings_are;
            progress_is = tells.tells.progress ∙ before.tables.progress_is;
            items = subst (λ (w : Waiting Item). AllByRecursion (λ list. AllByRecursion (IsItemOf (domain_by (first ++ (event, places) ∷ [])) u) list) w.lists) (sym tells.tells.waiting)
                before.tables.items;
            degrees = tells.degrees files told p held before.tables.degrees;
          };
          suffixes = ap (λ (l : Ledger). l.suffixes) tells.others ∙ before.suffixes;
        }

    pub pairs_done : OnOk result (new.frontier.told ≡ pairs) → Redoes result at event urls old new s t
    pairs_done all = record {
      pairs = same_pairs;
      log = ap (λ (l : Ledger). l.log) tells.others ∙ ap (λ (l : Ledger). l.log) done;
      keeps = on_ok result (new.frontier.told ≡ pairs) (IsRedone urls new) redone_told all;
      legal = when_ok result (IsDone urls old.pairs event old.frontier new.frontier) (record { places = []; given = refl; legal = legal; progress_is = same_progress; within = within });
      tables = when_ok result _ told_next;
      whole = λ f place named files told settings u p first more places next.
          tells.reads.whole f place named files told p (subst (λ (d : Drum). Holds s.images d p) (sym mid_pairs) next.pairs_hold);
      spoilt = λ f place named. inr (λ files told. inr (inr (subst (λ (d : Drum). IsJudgedSpoiltAt d files f place) mid_pairs (tells.reads.spoilt f place named files told))));
      full = tells.reads.full;
      reads = reads_wider (IsJudgedFile mid.pairs) (IsRedoneFile urls old.pairs) (IsErrOf result Failed) (IsErrOf result Failed) s t
          (λ f is. inr (subst (λ (d : Drum). IsJudgedFile d f) mid_pairs is)) (λ e. e) tells.reads.reads;
    }

-- ---- the numbers
-- those of a crawl's pairs are among what was read of the manifests
pub record AreKnown (urls : Drum) (old : Ledger) (counts : JudgedCounts) (cuts judged pairs : ℕ) : Type 0 where
  pub cuts_within : cuts ≤ urls.cuts
  pub judged_within : judged ≤ urls.last.judged
  pub pairs_within : pairs ≤ old.pairs.last.judged
  pub at_cut : HasCountAt counts.urls.items cuts judged
  pub at_pairs : HasCount counts.pairs.items pairs
  pub rising : AreRising counts.pairs.items

pub pairs_known : (s : Told) (urls : Drum) (old : Ledger) (counts : JudgedCounts) (cuts judged pairs : ℕ)
    → AllNext s urls old (Pairs cuts judged pairs) (λ settings u p first places. IsKnownBy counts u p → AreKnown urls old counts cuts judged pairs)
pairs_known s urls old counts cuts judged pairs settings u p first more places next known =
    let sent = (next_books s urls old settings u p first more (Pairs cuts judged pairs) places next).0 in
    let of_urls = count_within urls u cuts judged next.urls_hold.book_is next.urls_hold.numbers sent.made sent.counted in
    let of_pairs = count_within old.pairs p sent.at_a_cut.0 pairs next.pairs_hold.book_is next.pairs_hold.numbers sent.at_a_cut.1 sent.at_a_cut.2 in
    record {
      cuts_within = of_urls.0;
      judged_within = of_urls.1;
      pairs_within = of_pairs.1;
      at_cut = count_at urls.settings u counts.urls.items cuts judged next.urls_hold.book_is known.0 sent.made sent.counted;
      at_pairs = count_in old.pairs.settings p counts.pairs.items sent.at_a_cut.0 pairs next.pairs_hold.book_is known.1 sent.at_a_cut.1 sent.at_a_cut.2;
      rising = counts_rise p counts.pairs.items next.pairs_hold.book_is.is_book known.1;
    }
