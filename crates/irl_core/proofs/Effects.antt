-- What each change of a core's fields makes of what it shows.
use Rattle.std.proofs.Common.{◌≡◌, ◌∙◌, ℕ, ◌+◌, ◌≤◌, List, [], ◌∷◌, ◌++◌, map, length, get_or, set, sym, ap, subst, refl, true, arith, length-append, Vec, Global}
use Rattle.std.specs.Prelude.{◌&&◌, nat_le, nat_lt, replicate}
use Rattle.std.proofs.lemmas.Bool.{and_parts, leb-true}
use Rattle.std.proofs.lemmas.List.{map-append}
use Rattle.irl_offer.specs.Settings.{AreValid}
use Rattle.irl_offer.specs.Tuple.{Tuple}
use Rattle.irl_offer.specs.declared.outcome.Outcome.{Outcome}
use Rattle.irl_offer.specs.declared.place.Place.{Place}
use Rattle.irl_model.specs.Book.{flushed, flushed_lists, judged, judged_next, last_cut, merged}
use Rattle.irl_events.specs.Events.{Event as SeenEvent, Pass as SeenPass, Happened, Progress, after_event, before_all}
use Rattle.irl_base.specs.Lists.{items_of}
use Rattle.irl_model.specs.Plain.{whole_book}
use Rattle.irl_model.proofs.Flushes.{flushed_lists-set}
use Rattle.irl_model.proofs.FrontLaws.{flushed_judged}
use Rattle.irl_model.proofs.Merges.{last_more, merged_judged}
use Rattle.irl_events.specs.declared.event.Event.{Event}
use Rattle.irl_events.specs.declared.event.Event.TheVariants.{Pass}
use Rattle.irl_events.specs.Seen.{seen}
use Rattle.irl_core.specs.declared.pure.Core.TheInside.{Inside}
use Rattle.irl_core.specs.Steps.{CoreState, new_core, array_of, course, durable_in, judged_in, pending_in, may_offer, may_flush, may_merge, may_pass, may_settle, with_offer, with_list, with_word, with_cut, with_event, emptied, pass_event, settle_event}
use Rattle.irl_core.specs.Laws.{IsCore}
use Rattle.irl_core.specs.Kept.{shown, happened, IsKept, AreFatesOf}
use Rattle.irl_core.proofs.Keeping.{offer_kept, list_kept, word_kept, cut_kept, pass_kept, settle_kept, emptied_kept, course_more, room_set, new_kept, blank_at}
use Rattle.irl_core.proofs.Shown.{lengths_are, durable_is_shown, told_sent, told_alike}
use Rattle.irl_core.proofs.Stores.{alike_event}

-- an offer came into an array
pub shows_offer : (a : Inside) (x : CoreState) (b : ℕ) (offer : Tuple) (arrays : List (List Tuple)) → shown a ≡ x → arrays ≡ flushed_lists b (offer ∷ []) (items_of a.arrays.items)
    → record (shown a) { arrays = arrays } ≡ with_offer b offer x
shows_offer a x b offer arrays view is =
    ap (λ (ls : List (List Tuple)). record (shown a) { arrays = ls }) is ∙ ap (with_offer b offer) view

pub keeps_offer : (a : Inside) (x : CoreState) (b : ℕ) (offer : Tuple) (arrays : List (List Tuple)) → IsKept a → shown a ≡ x → may_offer x b offer ≡ true
    → arrays ≡ flushed_lists b (offer ∷ []) (items_of a.arrays.items) → IsCore (record (shown a) { arrays = arrays })
keeps_offer a x b offer arrays kept view may is =
    subst IsCore (sym (shows_offer a x b offer arrays view is)) (offer_kept x b offer (subst IsCore view kept.core) may)

-- an array moved to its list
pub shows_list : (a : Inside) (x : CoreState) (b : ℕ) (arrays lists : List (List Tuple)) → shown a ≡ x → arrays ≡ set (items_of a.arrays.items) b []
    → lists ≡ flushed_lists b (get_or (items_of a.arrays.items) b []) (items_of a.lists.items)
    → record (shown a) { arrays = arrays; urls = whole_book a.settings.buckets a.settings.rule lists (items_of a.cuts.items) } ≡ with_list b x
shows_list a x b arrays lists view array_is list_is =
    ap (λ (ls : List (List Tuple)). record (shown a) { arrays = ls; urls = whole_book a.settings.buckets a.settings.rule lists (items_of a.cuts.items) }) array_is
    ∙ ap (λ (ls : List (List Tuple)). record (shown a) { arrays = set (items_of a.arrays.items) b []; urls = whole_book a.settings.buckets a.settings.rule ls (items_of a.cuts.items) }) list_is
    ∙ ap (with_list b) view

pub keeps_list : (a : Inside) (x : CoreState) (b : ℕ) (arrays lists : List (List Tuple)) → IsKept a → shown a ≡ x → arrays ≡ set (items_of a.arrays.items) b []
    → lists ≡ flushed_lists b (get_or (items_of a.arrays.items) b []) (items_of a.lists.items)
    → IsCore (record (shown a) { arrays = arrays; urls = whole_book a.settings.buckets a.settings.rule lists (items_of a.cuts.items) })
keeps_list a x b arrays lists kept view array_is list_is =
    subst IsCore (sym (shows_list a x b arrays lists view array_is list_is)) (list_kept x b (subst IsCore view kept.core))

may_parts : (x : CoreState) (b : ℕ) → may_flush x b ≡ true → durable_in x b + length (array_of x b) ≤ x.settings.cap
may_parts x b may =
    leb-true (durable_in x b + length (array_of x b)) x.settings.cap
    (and_parts (nat_lt b x.settings.buckets && nat_lt 0 (length (array_of x b)) && nat_lt (pending_in x b) x.settings.trigger) (nat_le (durable_in x b + length (array_of x b)) x.settings.cap) may).1

-- and no list passes the cap
pub keeps_short : (a : Inside) (x : CoreState) (b : ℕ) (lists : List (List Tuple)) → IsKept a → shown a ≡ x → may_flush x b ≡ true
    → lists ≡ flushed_lists b (get_or (items_of a.arrays.items) b []) (items_of a.lists.items)
    → (c : ℕ) → length (get_or lists c []) ≤ a.settings.cap
keeps_short a x b lists kept view may is =
    let array = get_or (items_of a.arrays.items) b [] in
    let old = items_of a.lists.items in
    let here : durable_in (shown a) b + length array ≤ a.settings.cap = may_parts (shown a) b (subst (λ (y : CoreState). may_flush y b ≡ true) (sym view) may) in
    let durable : durable_in (shown a) b ≡ length (get_or old b []) = durable_is_shown a b kept in
    let fits : length (get_or old b [] ++ array) ≤ a.settings.cap = omega (arith, length-append (get_or old b []) array) in
    subst (λ (ls : List (List Tuple)). (c : ℕ) → length (get_or ls c []) ≤ a.settings.cap) (sym (is ∙ flushed_lists-set b array old))
    (room_set a.settings.cap b (get_or old b [] ++ array) old fits kept.short)

-- a list is acknowledged
pub shows_word : (a : Inside) (x : CoreState) (b : ℕ) (acknowledged : List ℕ) → shown a ≡ x → acknowledged ≡ set a.acknowledged.items b (durable_in (shown a) b)
    → record (shown a) { acknowledged = acknowledged } ≡ with_word b x
shows_word a x b acknowledged view is =
    ap (λ (ns : List ℕ). record (shown a) { acknowledged = ns }) is ∙ ap (with_word b) view

pub keeps_word : (a : Inside) (x : CoreState) (b : ℕ) (acknowledged : List ℕ) → IsKept a → shown a ≡ x → acknowledged ≡ set a.acknowledged.items b (durable_in (shown a) b)
    → IsCore (record (shown a) { acknowledged = acknowledged })
keeps_word a x b acknowledged kept view is =
    subst IsCore (sym (shows_word a x b acknowledged view is)) (word_kept x b (subst IsCore view kept.core))

-- and as many offers are judged as before
pub judged_list : (a : Inside) (x : CoreState) (b : ℕ) (arrays lists : List (List Tuple)) → IsKept a → shown a ≡ x → arrays ≡ set (items_of a.arrays.items) b []
    → lists ≡ flushed_lists b (get_or (items_of a.arrays.items) b []) (items_of a.lists.items)
    → judged_in (shown a) ≤ judged_in (record (shown a) { arrays = arrays; urls = whole_book a.settings.buckets a.settings.rule lists (items_of a.cuts.items) })
judged_list a x b arrays lists kept view array_is list_is =
    let same : length (judged (flushed b (array_of (shown a) b) (shown a).urls)) ≡ length (judged (shown a).urls) = ap length (flushed_judged b (array_of (shown a) b) (shown a).urls kept.core.urls) in
    let now : judged_in (record (shown a) { arrays = arrays; urls = whole_book a.settings.buckets a.settings.rule lists (items_of a.cuts.items) }) ≡ judged_in (with_list b (shown a)) =
    ap (λ (y : CoreState). judged_in y) (shows_list a (shown a) b arrays lists refl array_is list_is) in
    omega arith

-- all that was pending is judged
pub shows_cut : (a : Inside) (x : CoreState) (cuts : List (List ℕ)) → IsKept a → shown a ≡ x → cuts ≡ items_of a.cuts.items ++ map length (items_of a.lists.items) ∷ []
    → record (shown a) { urls = whole_book a.settings.buckets a.settings.rule (items_of a.lists.items) cuts } ≡ with_cut x
shows_cut a x cuts kept view is =
    ap (λ (cs : List (List ℕ)). record (shown a) { urls = whole_book a.settings.buckets a.settings.rule (items_of a.lists.items) cs })
    (is ∙ ap (λ (cut : List ℕ). items_of a.cuts.items ++ cut ∷ []) (sym (lengths_are a kept)))
    ∙ ap with_cut view

pub keeps_cut : (a : Inside) (x : CoreState) (cuts : List (List ℕ)) → IsKept a → shown a ≡ x → may_merge x ≡ true → cuts ≡ items_of a.cuts.items ++ map length (items_of a.lists.items) ∷ []
    → IsCore (record (shown a) { urls = whole_book a.settings.buckets a.settings.rule (items_of a.lists.items) cuts })
keeps_cut a x cuts kept view may is =
    subst IsCore (sym (shows_cut a x cuts kept view is)) (cut_kept x (subst IsCore view kept.core) may)

-- and no fewer offers than before
pub judged_more : (a : Inside) (cuts : List (List ℕ)) → IsKept a → cuts ≡ items_of a.cuts.items ++ map length (items_of a.lists.items) ∷ []
    → judged_in (shown a) ≤ judged_in (record (shown a) { urls = whole_book a.settings.buckets a.settings.rule (items_of a.lists.items) cuts })
judged_more a cuts kept is =
    let longer : length (judged (merged (shown a).urls)) ≡ length (judged (shown a).urls) + length (judged_next (shown a).urls) = ap length (merged_judged (shown a).urls)
    ∙ length-append (judged (shown a).urls) (judged_next (shown a).urls) in
    let now : judged_in (record (shown a) { urls = whole_book a.settings.buckets a.settings.rule (items_of a.lists.items) cuts }) ≡ judged_in (with_cut (shown a)) =
    ap (λ (y : CoreState). judged_in y) (shows_cut a (shown a) cuts kept refl is) in
    omega arith

-- the fates are those of the events still, where more offers are judged
pub fates_more : (f x : Progress) (j k : ℕ) → j ≤ k → AreFatesOf f x j → AreFatesOf f x k
fates_more f x j k more of =
    let before : f.sent ≤ j = of.sent in
    record { begun = of.begun; cuts = of.cuts; pairs = of.pairs; sent = omega arith; alike = of.alike }

-- the last of the cuts is the one that was added
pub last_is : (from cut : List ℕ) (old cuts : List (List ℕ)) → cuts ≡ old ++ cut ∷ [] → cut ≡ last_cut from cuts
last_is from cut old cuts is = sym (ap (last_cut from) is ∙ last_more from cut old)

-- one event more
pub happened_more : (old : List (Event × List Place)) (event : Event) (places : List Place) → happened (old ++ (event, places) ∷ []) ≡ happened old ++ (seen event, places) ∷ []
happened_more old event places = map-append (λ (e : Event × List Place). (seen e.0, e.1)) old ((event, places) ∷ [])

pub shows_event : (a : Inside) (x : CoreState) (event : SeenEvent) (places : List Place) (events : List Happened) → shown a ≡ x → events ≡ happened a.events.items ++ (event, places) ∷ []
    → record (shown a) { events = events } ≡ with_event event places x
shows_event a x event places events view is =
    ap (λ (es : List Happened). record (shown a) { events = es }) is ∙ ap (with_event event places) view

-- what waited in memory is lost
pub shows_none : (a : Inside) (x : CoreState) (arrays : List (List Tuple)) → shown a ≡ x → arrays ≡ map (λ (array : List Tuple). []) (items_of a.arrays.items)
    → record (shown a) { arrays = arrays } ≡ emptied x
shows_none a x arrays view is = ap (λ (ls : List (List Tuple)). record (shown a) { arrays = ls }) is ∙ ap emptied view

pub keeps_none : (a : Inside) (x : CoreState) (arrays : List (List Tuple)) → IsKept a → shown a ≡ x → arrays ≡ map (λ (array : List Tuple). []) (items_of a.arrays.items)
    → IsCore (record (shown a) { arrays = arrays })
keeps_none a x arrays kept view is = subst IsCore (sym (shows_none a x arrays view is)) (emptied_kept x (subst IsCore view kept.core))

-- ---- events
-- where the events are the same, and the fates are theirs still
pub same_events : (a : Inside) (events : Vec (Event × List Place) Global) → events.items ≡ a.events.items → record (shown a) { events = happened events.items } ≡ shown a
same_events a events is = ap (λ (es : List (Event × List Place)). record (shown a) { events = happened es }) is

pub keeps_events : (a : Inside) (events : Vec (Event × List Place) Global) (fates : Progress) → IsKept a → events.items ≡ a.events.items → AreFatesOf fates (course (shown a)) (judged_in (shown a))
    → IsKept (record a { events = events; fates = fates })
keeps_events a events fates k is of =
    let same = same_events a events is in
    record {
      core = subst IsCore (sym same) k.core;
      fates = subst (λ (x : CoreState). AreFatesOf fates (course x) (judged_in x)) (sym same) of;
      read = k.read ∙ k.fates.alike.read ∙ sym of.alike.read;
      short = k.short;
      cut = k.cut;
    }

-- what the fates are told of sent pairs says nothing of the events
pub sent_of : (f x : Progress) (judged most : ℕ) → judged ≤ most → AreFatesOf f x most → AreFatesOf (told_sent f judged) x most
sent_of f x judged most le of = record { begun = refl; cuts = refl; pairs = refl; sent = le; alike = told_alike f x judged of.alike }

pub shows_pass : (a : Inside) (x : CoreState) (events : Vec (Event × List Place) Global) (event : Event) (places : List Place) (q : ℕ) → shown a ≡ x → q ≡ judged_in x → event ≡ Pass q
    → events.items ≡ a.events.items ++ (event, places) ∷ []
    → record (shown a) { events = happened events.items } ≡ with_event (pass_event x) places x
shows_pass a x events event places q view number event_is is =
    shows_event a x (SeenPass (judged_in x)) places (happened events.items) view
    (ap happened is ∙ happened_more a.events.items event places ∙ ap (λ (e : Event). happened a.events.items ++ (seen e, places) ∷ []) event_is
    ∙ ap (λ (n : ℕ). happened a.events.items ++ (SeenPass n, places) ∷ []) number)

pub keeps_pass : (a : Inside) (x : CoreState) (events : Vec (Event × List Place) Global) (fates : Progress) (event : Event) (places : List Place) (q : ℕ) → IsKept a → shown a ≡ x → q ≡ judged_in x
    → event ≡ Pass q → may_pass x places ≡ true
    → events.items ≡ a.events.items ++ (event, places) ∷ [] → fates ≡ after_event (told_sent a.fates q) (seen event) places → IsKept (record a { events = events; fates = fates; read = q })
keeps_pass a x events fates event places q k view number event_is may is fates_is =
    let shows = shows_pass a x events event places q view number event_is is in
    let kept = subst IsCore view k.core in
    let more : course (with_event (pass_event x) places x) ≡ after_event (course x) (SeenPass q) places = course_more x (pass_event x) places
    ∙ ap (λ (n : ℕ). after_event (course x) (SeenPass n) places) (sym number) in
    let told : fates ≡ after_event (told_sent a.fates q) (SeenPass q) places = fates_is ∙ ap (λ (e : Event). after_event (told_sent a.fates q) (seen e) places) event_is in
    let of : AreFatesOf a.fates (course x) (judged_in x) = subst (λ (y : CoreState). AreFatesOf a.fates (course y) (judged_in y)) view k.fates in
    let most : q ≤ judged_in x = omega arith in
    let passed : AreFatesOf (after_event (told_sent a.fates q) (SeenPass q) places) (after_event (course x) (SeenPass q) places) (judged_in x) =
    record { begun = refl; cuts = refl; pairs = refl; sent = most; alike = alike_event (told_sent a.fates q) (course x) (SeenPass q) places (told_alike a.fates (course x) q of.alike) } in
    let now : AreFatesOf fates (course (with_event (pass_event x) places x)) (judged_in x) =
    subst (λ (p : Progress). AreFatesOf fates p (judged_in x)) (sym more) (subst (λ (f : Progress). AreFatesOf f (after_event (course x) (SeenPass q) places) (judged_in x)) (sym told) passed) in
    record {
      core = subst IsCore (sym shows) (pass_kept x places kept may);
      fates = subst (λ (y : CoreState). AreFatesOf fates (course y) (judged_in y)) (sym shows) now;
      read = sym (ap (λ (f : Progress). f.read) told);
      short = k.short;
      cut = k.cut;
    }

pub shows_settle : (a : Inside) (x : CoreState) (events : Vec (Event × List Place) Global) (event : Event) (outcomes : List (ℕ × Outcome)) (places : List Place) → shown a ≡ x
    → seen event ≡ settle_event x outcomes → places ≡ [] → events.items ≡ a.events.items ++ (event, places) ∷ []
    → record (shown a) { events = happened events.items } ≡ with_event (settle_event x outcomes) [] x
shows_settle a x events event outcomes places view event_is none is =
    shows_event a x (settle_event x outcomes) [] (happened events.items) view
    (ap happened is ∙ happened_more a.events.items event places ∙ ap (λ (e : SeenEvent). happened a.events.items ++ (e, places) ∷ []) event_is
    ∙ ap (λ (ps : List Place). happened a.events.items ++ (settle_event x outcomes, ps) ∷ []) none)

pub keeps_settle : (a : Inside) (x : CoreState) (events : Vec (Event × List Place) Global) (fates : Progress) (event : Event) (outcomes : List (ℕ × Outcome)) (places : List Place) → IsKept a
    → shown a ≡ x → seen event ≡ settle_event x outcomes → places ≡ [] → may_settle x outcomes ≡ true
    → events.items ≡ a.events.items ++ (event, places) ∷ [] → fates ≡ after_event a.fates (seen event) places → IsKept (record a { events = events; fates = fates })
keeps_settle a x events fates event outcomes places k view event_is none may is fates_is =
    let shows = shows_settle a x events event outcomes places view event_is none is in
    let kept = subst IsCore view k.core in
    let settle : SeenEvent = settle_event x outcomes in
    let more : course (with_event settle [] x) ≡ after_event (course x) settle [] = course_more x settle [] in
    let told : fates ≡ after_event a.fates settle [] = fates_is ∙ ap (λ (e : SeenEvent). after_event a.fates e places) event_is ∙ ap (λ (ps : List Place). after_event a.fates settle ps) none in
    let of : AreFatesOf a.fates (course x) (judged_in x) = subst (λ (y : CoreState). AreFatesOf a.fates (course y) (judged_in y)) view k.fates in
    let settled : AreFatesOf (after_event a.fates settle []) (after_event (course x) settle []) (judged_in x) =
    record { begun = refl; cuts = of.cuts; pairs = of.pairs; sent = of.sent; alike = alike_event a.fates (course x) settle [] of.alike } in
    let now : AreFatesOf fates (course (with_event settle [] x)) (judged_in x) =
    subst (λ (p : Progress). AreFatesOf fates p (judged_in x)) (sym more) (subst (λ (f : Progress). AreFatesOf f (after_event (course x) settle []) (judged_in x)) (sym told) settled) in
    record {
      core = subst IsCore (sym shows) (settle_kept x outcomes kept may);
      fates = subst (λ (y : CoreState). AreFatesOf fates (course y) (judged_in y)) (sym shows) now;
      read = k.read ∙ sym (ap (λ (f : Progress). f.read) told);
      short = k.short;
      cut = k.cut;
    }

-- ---- a new core
pub record IsNew (a : Inside) : Type 0 where
  pub arrays : items_of a.arrays.items ≡ replicate a.settings.buckets []
  pub lists : items_of a.lists.items ≡ replicate a.settings.buckets []
  pub cuts : a.cuts.items ≡ []
  pub cut : a.cut.items ≡ replicate a.settings.buckets 0
  pub acknowledged : a.acknowledged.items ≡ replicate a.settings.buckets 0
  pub events : a.events.items ≡ []
  pub fates : a.fates ≡ record (before_all a.settings.queues a.settings.buckets) { begun = true }
  pub read : a.read ≡ 0

new_shows : (a : Inside) → IsNew a → shown a ≡ new_core a.settings
new_shows a n =
    let k = a.settings.buckets in
    let r = a.settings.rule in
    let none : List (List Tuple) = replicate k [] in
    ap (λ (ls : List (List Tuple)). record (shown a) { arrays = ls }) n.arrays
    ∙ ap (λ (ls : List (List Tuple)). record (shown a) { arrays = none; urls = whole_book k r ls (items_of a.cuts.items) }) n.lists
    ∙ ap (λ (cs : List (Vec ℕ Global)). record (shown a) { arrays = none; urls = whole_book k r none (items_of cs) }) n.cuts
    ∙ ap (λ (es : List (Event × List Place)). record (shown a) { arrays = none; urls = whole_book k r none []; events = happened es }) n.events
    ∙ ap (λ (ns : List ℕ). record (shown a) { arrays = none; urls = whole_book k r none []; events = []; acknowledged = ns }) n.acknowledged

pub new_keeps : (a : Inside) → AreValid a.settings → IsNew a → IsKept a
new_keeps a valid n =
    let k = a.settings.buckets in
    let shows = new_shows a n in
    let P : Progress → Type 0 = λ f. AreFatesOf f (course (new_core a.settings)) (judged_in (new_core a.settings)) in
    record {
      core = subst IsCore (sym shows) (new_kept a.settings valid);
      fates = subst (λ (x : CoreState). AreFatesOf a.fates (course x) (judged_in x)) (sym shows)
          (subst P (sym n.fates) (record { begun = refl; cuts = refl; pairs = refl; sent = omega arith; alike = record { read = refl; fronts = refl; front = refl; waiting = refl; done = refl } }));
      read = n.read ∙ sym (ap (λ (f : Progress). f.read) n.fates);
      short = λ b. (
          let empty : length (get_or (items_of a.lists.items) b []) ≡ 0 = ap (λ (ls : List (List Tuple)). length (get_or ls b [])) n.lists ∙ ap length (blank_at k b) in
          omega arith);
      cut = n.cut ∙ sym (ap (λ (cs : List (Vec ℕ Global)). last_cut (replicate k 0) (items_of cs)) n.cuts);
    }
