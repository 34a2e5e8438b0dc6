-- What is opened of a crawl is that of its log's events.
use Rattle.std.proofs.Common.{◌≡◌, ◌∙◌, ◌≤◌, inl, List, [], ◌∷◌, Option, map, length, refl, sym, ap, subst, arith}
use Rattle.std.specs.Option.{ForSome}
use Rattle.irl_offer.specs.declared.settings.Settings.{Settings}
use Rattle.irl_model.specs.Book.{Book}
use Rattle.irl_events.specs.Events.{Event, before_all}
use Rattle.irl_disk.specs.Disk.{Files}
use Rattle.irl_disk.specs.Images.{Told}
use Rattle.irl_bay.specs.Drum.{Drum}
use Rattle.irl_bay.specs.Cuts.{AreJudgedAt}
use Rattle.irl_bay.specs.Standing.{Stands}
use Rattle.irl_head.specs.Head.{head_bytes}
use Rattle.irl_head.specs.Opening.{HasHead, IsBlank}
use Rattle.irl_head.specs.StoreFiles.{crawl_file, head_file, pairs_base, urls_base}
use Rattle.irl_journal.proofs.Lists.{one_list}
use Rattle.irl_ledger.specs.Crawling.{pair_settings}
use Rattle.irl_yard.proofs.States.{no_payload}
use Rattle.irl_log.specs.Log.{HasEvents, OpenLog, placed_events}
use Rattle.irl_log.specs.Visiting.{TakesEvents, TookEventsUpTo}
use Rattle.irl_log.proofs.OneLog.{one_log}
use Rattle.irl_ledger.specs.declared.ledger.Ledger.{Ledger}
use Rattle.irl_ledger.specs.Broken.{LogHistory, TakesAlone, blank_history}
use Rattle.irl_ledger.specs.Opening.{AreOfBooks, HaveHappened}
use Rattle.irl_yard.specs.declared.parts.Rest.{Rest}
use Rattle.irl_yard.specs.declared.parts.Rest.TheVariants.{Crawl}
use Rattle.irl_yard.specs.Holding.{HoldsOpen}
use Rattle.irl_yard.specs.Opening.{IsOfItsLog}

-- one that was made has no event
pub made_log : (told : Option Files) → ForSome told IsBlank → (images : Files → Type 0) (settings : Settings) (urls : Drum) (rest : Rest) (u p : Book) → urls.settings ≡ settings
    → HoldsOpen images settings rest u p [] → (ledger : Ledger) → rest ≡ Crawl ledger
    → IsOfItsLog told urls ledger
made_log told blank images settings urls rest u p same holds ledger is =
    let both : HoldsOpen images settings (Crawl ledger) u p [] = subst (λ (r : Rest). HoldsOpen images settings r u p []) is holds in
    record {
      history = blank_history urls.settings.buckets;
      visited = λ files is events has.
          let few : length (files crawl_file) ≤ 1 = (blank files is).others crawl_file (omega arith, omega arith) in
          let none : events ≡ [] = one_log urls.settings.buckets (files crawl_file) events [] has (record { each = tt; records = inl (few, refl) }) in
          subst (λ (es : List Event). TakesEvents TakesAlone (blank_history urls.settings.buckets) (placed_events 0 es) (blank_history urls.settings.buckets)) (sym none) refl;
      took = record { events = []; each = tt; place = both.1.log_ends; took = refl };
      notes = both.1.notes;
      of_urls = [];
      of_pairs = [];
      judged = λ files is head u p of_urls of_pairs. absurd (no_payload (head_bytes urls.settings) (one_list (files head_file) [] (head_bytes urls.settings ∷ []) (blank files is).head head.head));
      happened = record {
        happened = [];
        events_are = refl;
        legal = tt;
        progress_is = both.1.frontier.progress_is ∙ ap (λ (s : Settings). before_all s.queues s.buckets) (sym same);
        counted = tt;
      };
    }

-- one that was opened has those that were kept
pub opened_log : (told : Option Files) (settings : Settings) (urls : Drum) (log : OpenLog) (history : LogHistory) (ledger : Ledger) (late : Told) → urls.settings ≡ settings → ledger.log ≡ log
    → ledger.notes ≡ history.notes
    → TookEventsUpTo TakesAlone (blank_history settings.buckets) history settings.buckets 0 log.journal.end → (books : AreOfBooks settings urls history.events ledger late)
    → ForSome told (λ files. (events : List Event) → HasEvents settings.buckets (files crawl_file) events → TakesEvents TakesAlone (blank_history settings.buckets) (placed_events 0 events) history)
    → ForSome told (λ files. HasHead settings files → (u p : Book) → Stands urls_base settings u files → Stands pairs_base (pair_settings settings) p files
    → AreJudgedAt u books.of_urls × AreJudgedAt p books.of_pairs) → IsOfItsLog told urls ledger
opened_log told settings urls log history ledger late same same_log same_notes took books visited judged = record {
  history = history;
  visited = subst (λ (s : Settings). ForSome told (λ files. (events : List Event) → HasEvents s.buckets (files crawl_file) events
      → TakesEvents TakesAlone (blank_history s.buckets) (placed_events 0 events) history)) (sym same) visited;
  took = subst (λ (l : OpenLog). TookEventsUpTo TakesAlone (blank_history urls.settings.buckets) history urls.settings.buckets 0 l.journal.end) (sym same_log)
      (subst (λ (s : Settings). TookEventsUpTo TakesAlone (blank_history s.buckets) history s.buckets 0 log.journal.end) (sym same) took);
  notes = same_notes;
  of_urls = books.of_urls;
  of_pairs = books.of_pairs;
  judged = subst (λ (s : Settings). ForSome told (λ files. HasHead s files → (u p : Book) → Stands urls_base s u files → Stands pairs_base (pair_settings s) p files
      → AreJudgedAt u books.of_urls × AreJudgedAt p books.of_pairs)) (sym same) judged;
  happened = subst (λ (s : Settings). HaveHappened books.of_urls books.of_pairs urls ledger.pairs (map (λ e. e.1) history.events) (before_all s.queues s.buckets) ledger.frontier.progress) (sym same)
      books.happened;
}
