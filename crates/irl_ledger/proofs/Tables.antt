-- The tables of an open ledger: they stay those of its crawl while the URLs grow, and after each event.
use Rattle.std.proofs.Common.{◌≡◌, ◌∙◌, ℕ, zero, suc, ◌<◌, nat_eq, Bool, true, List, [], ◌∷◌, ◌++◌, map, replicate, Option, sym, ap, subst, arith}
use Rattle.std.specs.Prelude.{find, unwrap_or, ⊤}
use Rattle.std.specs.List.{AllByRecursion}
use Rattle.std.specs.Option.{option_or}
use Rattle.std.proofs.lemmas.List.Folds.{find-append}
use Rattle.irl_offer.specs.Tuple.{Tuple}
use Rattle.irl_offer.specs.declared.note.Note.{Note}
use Rattle.irl_offer.specs.declared.settings.Settings.{Settings}
use Rattle.irl_beast.specs.declared.item.Item.{Item}
use Rattle.irl_model.specs.Book.{Book, IsBook, IsFront, uniques}
use Rattle.irl_events.specs.Events.{Event, Begin, Pairs, Pass, Robots, Settle, Happened, Progress, after_event, before_all}
use Rattle.irl_events.specs.Queues.{Waiting}
use Rattle.irl_events.proofs.Following.{after_more}
use Rattle.irl_beast.specs.Passes.{item_numbers}
use Rattle.irl_core.specs.States.{begun_with}
use Rattle.irl_core.proofs.StateLemmas.{later, uniques_more}
use Rattle.irl_bay.specs.Drum.{Drum}
use Rattle.irl_schedule.specs.Feeding.{CountsGrow}
use Rattle.irl_frontier.specs.Frontier.{Frontier, IsFrontier, after_other}
use Rattle.irl_ledger.specs.Crawling.{domain_of}
use Rattle.irl_ledger.specs.Holding.{FitsBays, IsFrontierOf, IsItemOf, domain_by}

-- ---- URLs that grow
module _ (domain : List ℕ → List ℕ) (urls more : Book) (is : IsBook urls) (front : IsFront urls more) where
  item_more : (item : Item) → IsItemOf domain urls item → IsItemOf domain more item
  item_more item has = record {
    url = has.url;
    found = let test : ℕ × Tuple → _ = λ p. nat_eq p.0 item.number in
        ap (find test) (uniques_more urls more is front) ∙ find-append test (uniques urls) (later urls more is front)
        ∙ ap (λ (o : Option (ℕ × Tuple)). option_or o (find test (later urls more is front))) has.found;
    pld = has.pld;
  }

  list_more : (items : List Item) → AllByRecursion (IsItemOf domain urls) items → AllByRecursion (IsItemOf domain more) items
  list_more [] all = tt
  list_more (item ∷ items) all = (item_more item all.0, list_more items all.1)

  pub items_more : (lists : List (List Item)) → AllByRecursion (λ list. AllByRecursion (IsItemOf domain urls) list) lists
      → AllByRecursion (λ list. AllByRecursion (IsItemOf domain more) list) lists
  items_more [] all = tt
  items_more (list ∷ lists) all = (list_more list all.0, items_more lists all.1)

pub tables_more : (settings : Settings) (urls more pairs : Book) (events : List Happened) (x : Frontier) → IsBook urls → IsFront urls more → IsFrontierOf settings urls pairs events x
    → IsFrontierOf settings more pairs events x
tables_more settings urls more pairs events x is front tables = record {
  settings_are = tables.settings_are;
  progress_is = tables.progress_is;
  items = items_more (domain_by events) urls more is front x.waiting.lists tables.items;
  degrees = tables.degrees;
}

-- no number of them passes the counts of a bay that grew
pub fits_grown : (was now pairs : Drum) (x : Frontier) → now.settings ≡ was.settings → CountsGrow was now → FitsBays was pairs x → FitsBays now pairs x
fits_grown was now pairs x settings grows fits = record {
  settings = fits.settings ∙ sym settings;
  cuts = omega (arith, fits.cuts, grows.cuts);
  sent = omega (arith, fits.sent, grows.judged);
  read = fits.read;
  fronts = λ b within. omega (arith, fits.fronts b (subst (λ (s : Settings). b < s.buckets) settings within), grows.durable b);
  pairs_sent = fits.pairs_sent;
  told = fits.told;
}

-- ---- an event that changes none of what waits
abbrev pub IsIdle : Event → Type 0
IsIdle (Begin suffixes) = ⊤
IsIdle (Pairs cuts judged sent) = ⊥
IsIdle (Pass judged) = ⊥
IsIdle (Robots note) = ⊤
IsIdle (Settle fronts outcomes) = ⊥

-- a beginning and a note change no number
pub fits_idle : (urls pairs : Drum) (x : Frontier) (event : Event) → IsIdle event → FitsBays urls pairs x → FitsBays urls pairs (after_other x event)
fits_idle urls pairs x (Begin suffixes) idle fits =
    record { settings = fits.settings; cuts = fits.cuts; sent = fits.sent; read = fits.read; fronts = fits.fronts; pairs_sent = fits.pairs_sent; told = fits.told }
fits_idle urls pairs x (Pairs cuts judged sent) idle fits = absurd idle
fits_idle urls pairs x (Pass judged) idle fits = absurd idle
fits_idle urls pairs x (Robots note) idle fits =
    record { settings = fits.settings; cuts = fits.cuts; sent = fits.sent; read = fits.read; fronts = fits.fronts; pairs_sent = fits.pairs_sent; told = fits.told }
fits_idle urls pairs x (Settle fronts outcomes) idle fits = absurd idle

-- a note changes none of the tables
pub note_stays : (x : Frontier) (note : Note) → x.progress.begun ≡ true → x ≡ after_other x (Robots note)
note_stays x note begun = ap (λ (b : Bool). let y : Frontier = record x { progress = record x.progress { begun = b } } in y) begun

-- after an event that is no pass the tables are those of the events with it, where the suffixes stay
pub tables_other : (settings : Settings) (urls pairs : Book) (events : List Happened) (x : Frontier) (event : Event) → begun_with (events ++ (event, []) ∷ []) ≡ begun_with events
    → IsFrontierOf settings urls pairs events x → IsFrontierOf settings urls pairs (events ++ (event, []) ∷ []) (after_other x event)
tables_other settings urls pairs events x event same tables = record {
  settings_are = tables.settings_are;
  progress_is = ap (λ (p : Progress). after_event p event []) tables.progress_is ∙ sym (after_more (before_all settings.queues settings.buckets) events (event, []));
  items = subst (λ (s : Option (List ℕ)). AllByRecursion (λ list. AllByRecursion (IsItemOf (domain_of (unwrap_or s [])) urls) list) x.waiting.lists) (sym same) tables.items;
  degrees = tables.degrees;
}

-- and after a beginning, before which nothing waits
none_items : (domain : List ℕ → List ℕ) (urls : Book) (lists : List (List Item)) (count : ℕ) → map item_numbers lists ≡ replicate count []
    → AllByRecursion (λ list. AllByRecursion (IsItemOf domain urls) list) lists
none_items domain urls [] count is = tt
none_items domain urls ([] ∷ lists) zero is = cc
none_items domain urls ([] ∷ lists) (suc count) is = let rest : map item_numbers lists ≡ replicate count [] = cc in (tt, none_items domain urls lists count rest)
none_items domain urls ((item ∷ items) ∷ lists) zero is = absurd (cc)
none_items domain urls ((item ∷ items) ∷ lists) (suc count) is = absurd (cc)

pub tables_begun : (settings : Settings) (urls pairs : Book) (x : Frontier) (suffixes : List ℕ) → IsFrontier x → IsFrontierOf settings urls pairs [] x
    → IsFrontierOf settings urls pairs ((Begin suffixes, []) ∷ []) (after_other x (Begin suffixes))
tables_begun settings urls pairs x suffixes keeps tables = record {
  settings_are = tables.settings_are;
  progress_is = ap (λ (p : Progress). after_event p (Begin suffixes) []) tables.progress_is;
  items = none_items (domain_of suffixes) urls x.waiting.lists 65
      (ap (λ (w : Waiting ℕ). w.lists) (sym keeps.waiting) ∙ ap (λ (p : Progress). p.waiting.lists) tables.progress_is);
  degrees = tables.degrees;
}
