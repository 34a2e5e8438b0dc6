-- Lines that are taken one after another are the lines of items, and some tape begins with them.
use Rattle.std.proofs.Common.{◌≡◌, ◌∙◌, ℕ, ◌≤◌, Bool, true, false, ◌&&◌, cond, List, [], ◌∷◌, ◌++◌, length, map, Option, Some, None, refl, sym, ap, subst, arith, append_assoc}
use Rattle.std.specs.Prelude.{nat_le, option_map, option_and_then, codes, is_some}
use Rattle.std.specs.List.{flat_map}
use Rattle.std.proofs.lemmas.Bool.{cond-true, false≢true}
use Rattle.std.proofs.lemmas.List.{map-append, flat_map_more}
use Rattle.irl_base.specs.Limits.{max_page}
use Rattle.irl_offer.specs.Replies.{Received}
use Rattle.irl_record.specs.declared.record.Record.TheVariants as record_of
use Rattle.irl_record.specs.Forms.{is_skipped}
use Rattle.irl_record.specs.Forms as form
use Rattle.irl_record.specs.Opened.{Opened, opened}
use Rattle.irl_record.specs.Reading.{Reading, next, outside, inside, takes, new_web, with_record, with_seed, with_suffix, blank}
use Rattle.irl_record.specs.Taped.{Taped}
use Rattle.irl_record.specs.Grammar.{Piece, PageItem, Item, Comment, Suffix, Seed, Page, Lost, item_lines, head_line, location_lines, piece_line, piece_bytes, reply_of, is_page, with_item, with_items, IsTape, Begins}
use Rattle.irl_record.proofs.ItemLemmas.{runs, runs_step, runs_both, runs-append, next_outside, next_inside, at_least, at_least_back, piece_within, location_within, end_within, with_more, option_map_twice, items_taken}
use Rattle.irl_record.proofs.GrammarLemmas.{Outside, Skips, Suffixes, Seeds, Opens, Loses, Says_nothing, view_outside, Inside, Gives, Locates, Ends, Adds_nothing, view_inside, empty_page}

-- these lines are those of items that make the one tape of the other
pub record Items (pages : Bool) (tape : Taped) (lines : List (List ℕ)) (last : Taped) : Type 0 where
  pub items : List Item
  pub written : lines ≡ flat_map item_lines items
  pub taken : with_items pages tape items ≡ Some last

item_first : (pages : Bool) (tape mid last : Taped) (item : Item) (lines rest : List (List ℕ)) → with_item pages tape item ≡ Some mid → lines ≡ item_lines item ++ rest → Items pages mid rest last
    → Items pages tape lines last
item_first pages tape mid last item lines rest is shape later = record {
  items = item ∷ later.items;
  written = shape ∙ ap (λ l. item_lines item ++ l) later.written;
  taken = ap (option_and_then (λ t. with_items pages t later.items)) is ∙ later.taken;
}

-- the lines of a page up to now
abbrev pub front : PageItem → List (List ℕ)
front page = head_line page ∷ (location_lines page.location ++ map piece_line page.pieces)

-- an opened page is this page up to now
pub record Holds (pages : Bool) (tape : Taped) (page : PageItem) (now : Opened) : Type 0 where
  pub may : pages ≡ true
  pub web : new_web tape.records page.url ≡ Some now.url
  pub reply : now.reply ≡ reply_of page
  pub least : 100 ≤ page.status
  pub most : page.status ≤ 999
  pub short : length (reply_of page).body ≤ max_page
  pub fresh : now.is_new ≡ true → (page.location ≡ None) × (page.pieces ≡ [])

-- what lines are that end outside a page, read outside one and inside one
pub record Both (pages : Bool) (last : Taped) (lines : List (List ℕ)) : Type 0 where
  pub out : (tape : Taped) → runs pages (outside tape) lines ≡ Some (outside last) → Items pages tape lines last
  pub within : (tape : Taped) (page : PageItem) (now : Opened) → Holds pages tape page now → runs pages (inside tape now) lines ≡ Some (outside last) → Items pages tape (front page ++ lines) last

module _ (pages : Bool) (last : Taped) (line : List ℕ) (lines : List (List ℕ)) where
  no_next : {X : Type 0} (r : Reading) → next pages r line ≡ None → runs pages r (line ∷ lines) ≡ Some (outside last) → X
  no_next r none h = let e = sym (ap (option_and_then (λ a. runs pages a lines)) none) ∙ h in absurd (cc)

  some_next : (r after : Reading) → next pages r line ≡ Some after → runs pages r (line ∷ lines) ≡ Some (outside last) → runs pages after lines ≡ Some (outside last)
  some_next r after some h = sym (runs_step pages r after line lines some) ∙ h

  one_item : Both pages last lines → (tape : Taped) (item : Item) (o : Option Taped) → with_item pages tape item ≡ o → next pages (outside tape) line ≡ option_map outside o
      → line ∷ [] ≡ item_lines item → runs pages (outside tape) (line ∷ lines) ≡ Some (outside last) → Items pages tape (line ∷ lines) last
  one_item later tape item None is step shape h = no_next (outside tape) step h
  one_item later tape item (Some mid) is step shape h =
      item_first pages tape mid last item (line ∷ lines) lines is (ap (λ l. l ++ lines) shape) (later.out mid (some_next (outside tape) (outside mid) step h))

  -- the first line of a page
  page_opens : (may : Bool) → pages ≡ may → Both pages last lines → (tape : Taped) (status : ℕ) (html : Bool) (url : List ℕ) (o : Option (List ℕ)) → new_web tape.records url ≡ o
      → line ≡ head_line (empty_page status html url) → 100 ≤ status → status ≤ 999 → next pages (outside tape) line ≡ cond may (option_map (λ text. inside tape (opened status html text)) o) None
      → runs pages (outside tape) (line ∷ lines) ≡ Some (outside last) → Items pages tape (line ∷ lines) last
  page_opens false may later tape status html url o web shape least most step h = no_next (outside tape) step h
  page_opens true may later tape status html url None web shape least most step h = no_next (outside tape) step h
  page_opens true may later tape status html url (Some text) web shape least most step h =
      let held : Holds pages tape (empty_page status html url) (opened status html text) = record {
        may = may;
        web = web;
        reply = refl;
        least = least;
        most = most;
        short = omega arith;
        fresh = λ new. (refl, refl);
      } in
      let found = later.within tape (empty_page status html url) (opened status html text) held (some_next (outside tape) (inside tape (opened status html text)) step h) in
      subst (λ l. Items pages tape (l ∷ lines) last) (sym shape) found

  lost_step : (may : Bool) (tape : Taped) (url : List ℕ) → takes may tape (form.Lost url) ≡ option_map outside (with_item may tape (Lost url))
  lost_step true tape url = option_map_twice outside (λ (text : List ℕ). with_record tape text record_of.Lost) (new_web tape.records url)
  lost_step false tape url = refl

  outside_by : Both pages last lines → (tape : Taped) → Outside line → runs pages (outside tape) (line ∷ lines) ≡ Some (outside last) → Items pages tape (line ∷ lines) last
  outside_by later tape (Skips is says) h =
      one_item later tape (Comment line) (Some tape) (cond-true _ _ _ is) (next_outside pages tape line _ says) refl h
  outside_by later tape (Suffixes name shape says) h =
      one_item later tape (Suffix name) (with_suffix tape name) refl (next_outside pages tape line _ says) (ap (λ l. l ∷ []) shape) h
  outside_by later tape (Seeds url shape says) h =
      one_item later tape (Seed url) (with_seed tape url) refl (next_outside pages tape line _ says) (ap (λ l. l ∷ []) shape) h
  outside_by later tape (Opens status html url shape least most says) h =
      page_opens pages refl later tape status html url (new_web tape.records url) refl shape least most (next_outside pages tape line _ says) h
  outside_by later tape (Loses url shape says) h =
      one_item later tape (Lost url) (with_item pages tape (Lost url)) refl (next_outside pages tape line _ says ∙ lost_step pages tape url) (ap (λ l. l ∷ []) shape) h
  outside_by later tape (Says_nothing says) h = no_next (outside tape) (next_outside pages tape line _ says) h

  -- a line of a page's body
  piece_by : Both pages last lines → (tape : Taped) (page : PageItem) (now : Opened) → Holds pages tape page now → (piece : Piece) → line ≡ piece_line piece → (b : Bool)
      → nat_le (length (now.reply.body ++ piece_bytes piece)) max_page ≡ b → next pages (inside tape now) line ≡ option_map (inside tape) (cond b (Some (with_more now (piece_bytes piece))) None)
      → runs pages (inside tape now) (line ∷ lines) ≡ Some (outside last) → Items pages tape (front page ++ line ∷ lines) last
  piece_by later tape page now held piece shape false fits step h = no_next (inside tape now) step h
  piece_by later tape page now held piece shape true fits step h =
      let longer = record page { pieces = page.pieces ++ piece ∷ [] } in
      let bytes = piece_bytes piece in
      let after = with_more now bytes in
      let body : flat_map piece_bytes page.pieces ++ bytes ≡ flat_map piece_bytes (page.pieces ++ piece ∷ []) = flat_map_more piece_bytes [] page.pieces piece in
      let reply : after.reply ≡ reply_of longer =
      ap (λ (r : Received). record r { body = r.body ++ bytes }) held.reply ∙ ap (λ (b : List ℕ). record (reply_of page) { body = b }) body in
      let size = ap (λ (r : Received). length r.body) reply in
      let fitting = at_least_back _ max_page fits in
      let holds : Holds pages tape longer after = record {
        may = held.may;
        web = held.web;
        reply = reply;
        least = held.least;
        most = held.most;
        short = omega arith;
        fresh = λ new. absurd (false≢true new);
      } in
      let found = later.within tape longer after holds (some_next (inside tape now) (inside tape after) step h) in
      let parts : location_lines page.location ++ map piece_line page.pieces ++ line ∷ lines ≡ location_lines page.location ++ map piece_line (page.pieces ++ piece ∷ []) ++ lines =
      ap (λ l. location_lines page.location ++ map piece_line page.pieces ++ l ∷ lines) shape
      ∙ sym (append_assoc (location_lines page.location ++ map piece_line page.pieces) (piece_line piece ∷ []) lines)
      ∙ ap (λ l. l ++ lines) (append_assoc (location_lines page.location) (map piece_line page.pieces) (piece_line piece ∷ []))
      ∙ ap (λ l. location_lines page.location ++ l ++ lines) (sym (map-append piece_line page.pieces (piece ∷ []))) in
      subst (λ l. Items pages tape (head_line page ∷ l) last) (sym parts) found

  -- the Location of a page
  location_by : Both pages last lines → (tape : Taped) (page : PageItem) (now : Opened) → Holds pages tape page now → (text : List ℕ) → line ≡ codes "to " ++ text → (b : Bool) → now.is_new ≡ b
      → next pages (inside tape now) line ≡ option_map (inside tape) (cond b (Some (record now { reply = record now.reply { location = Some text }; is_new = false })) None)
      → runs pages (inside tape now) (line ∷ lines) ≡ Some (outside last) → Items pages tape (front page ++ line ∷ lines) last
  location_by later tape page now held text shape false new step h = no_next (inside tape now) step h
  location_by later tape page now held text shape true new step h =
      let after : Opened = record now { reply = record now.reply { location = Some text }; is_new = false } in
      let moved = record page { location = Some text } in
      let was = held.fresh new in
      let holds : Holds pages tape moved after = record {
        may = held.may;
        web = held.web;
        reply = ap (λ (r : Received). record r { location = Some text }) held.reply;
        least = held.least;
        most = held.most;
        short = held.short;
        fresh = λ again. absurd (false≢true again);
      } in
      let found = later.within tape moved after holds (some_next (inside tape now) (inside tape after) step h) in
      let before : location_lines page.location ++ map piece_line page.pieces ++ line ∷ lines ≡ line ∷ lines =
      ap (λ o. location_lines o ++ map piece_line page.pieces ++ line ∷ lines) was.0 ∙ ap (λ ps. map piece_line ps ++ line ∷ lines) was.1 in
      let behind : location_lines (Some text) ++ map piece_line page.pieces ++ lines ≡ (codes "to " ++ text) ∷ lines =
      ap (λ ps. location_lines (Some text) ++ map piece_line ps ++ lines) was.1 in
      subst (λ l. Items pages tape (head_line page ∷ l) last) (sym (before ∙ ap (λ l. l ∷ lines) shape ∙ sym behind)) found

  -- the end of a page
  end_by : Both pages last lines → (tape : Taped) (page : PageItem) (now : Opened) → Holds pages tape page now → line ≡ codes "end"
      → next pages (inside tape now) line ≡ Some (outside (with_record tape now.url (record_of.Page now.reply))) → runs pages (inside tape now) (line ∷ lines) ≡ Some (outside last)
      → Items pages tape (front page ++ line ∷ lines) last
  end_by later tape page now held shape step h =
      let after = with_record tape now.url (record_of.Page now.reply) in
      let is : is_page page ≡ true = rw (at_least 100 page.status held.least, at_least page.status 999 held.most, at_least (length (reply_of page).body) max_page held.short) refl in
      let test : (pages && is_page page) ≡ true = ap (λ b. b && is_page page) held.may ∙ is in
      let item : with_item pages tape (Page page) ≡ Some after =
      cond-true _ _ _ test
      ∙ ap (option_map (λ (text : List ℕ). with_record tape text (record_of.Page (reply_of page)))) held.web
      ∙ ap (λ (r : Received). Some (with_record tape now.url (record_of.Page r))) (sym held.reply) in
      let parts : location_lines page.location ++ map piece_line page.pieces ++ line ∷ lines ≡ location_lines page.location ++ map piece_line page.pieces ++ codes "end" ∷ [] ++ lines =
      ap (λ l. location_lines page.location ++ map piece_line page.pieces ++ l ∷ lines) shape
      ∙ sym (append_assoc (location_lines page.location ++ map piece_line page.pieces) (codes "end" ∷ []) lines) in
      item_first pages tape after last (Page page) (front page ++ line ∷ lines) lines item (ap (λ l. head_line page ∷ l) parts)
      (later.out after (some_next (inside tape now) (outside after) step h))

  inside_by : Both pages last lines → (tape : Taped) (page : PageItem) (now : Opened) → Holds pages tape page now → Inside line → runs pages (inside tape now) (line ∷ lines) ≡ Some (outside last)
      → Items pages tape (front page ++ line ∷ lines) last
  inside_by later tape page now held (Gives piece shape) h =
      piece_by later tape page now held piece shape (nat_le (length (now.reply.body ++ piece_bytes piece)) max_page) refl
      (ap (next pages (inside tape now)) shape ∙ piece_within pages tape now piece) h
  inside_by later tape page now held (Locates text shape) h =
      location_by later tape page now held text shape now.is_new refl
      (ap (next pages (inside tape now)) shape ∙ next_inside pages tape now _ _ (location_within text)) h
  inside_by later tape page now held (Ends shape) h =
      end_by later tape page now held shape (ap (next pages (inside tape now)) shape ∙ next_inside pages tape now _ _ end_within) h
  inside_by later tape page now held (Adds_nothing says) h = no_next (inside tape now) (next_inside pages tape now line _ says) h

both : (pages : Bool) (last : Taped) (lines : List (List ℕ)) → Both pages last lines
both pages last [] = record {
  out = λ tape h. record { items = []; written = refl; taken = ap (option_map (λ (r : Reading). r.tape)) h };
  within = λ tape page now held h. let e = ap (option_map (λ (r : Reading). is_some r.page)) h in absurd (cc);
}
both pages last (line ∷ lines) =
    let later = both pages last lines in
    record {
      out = λ tape h. outside_by pages last line lines later tape (view_outside line) h;
      within = λ tape page now held h. inside_by pages last line lines later tape page now held (view_inside line) h;
    }

-- lines that are taken and end outside a page are a tape
pub tape_from_runs : (pages : Bool) (last : Taped) (lines : List (List ℕ)) → runs pages (outside blank) lines ≡ Some (outside last) → IsTape pages lines last
tape_from_runs pages last lines h =
    let found = (both pages last lines).out blank h in
    record { items = found.items; written = found.written; taken = found.taken }

begins_by : (pages : Bool) (lines : List (List ℕ)) (tape : Taped) (page : Option Opened) → runs pages (outside blank) lines ≡ Some (record { tape = tape; page = page }) → Begins pages lines
begins_by pages lines tape None h = ([], tape, tape_from_runs pages tape (lines ++ []) (runs_both pages (outside blank) (outside tape) lines [] h))
begins_by pages lines tape (Some page) h =
    let after = with_record tape page.url (record_of.Page page.reply) in (
      codes "end" ∷ [],
      after,
      tape_from_runs pages after (lines ++ codes "end" ∷ [])
          (runs_both pages (outside blank) (inside tape page) lines (codes "end" ∷ []) h
          ∙ runs_step pages (inside tape page) (outside after) (codes "end") [] (next_inside pages tape page _ _ end_within)),
    )

-- a tape begins with lines that are taken
pub begins_from_runs : (pages : Bool) (lines : List (List ℕ)) (r : Reading) → runs pages (outside blank) lines ≡ Some r → Begins pages lines
begins_from_runs pages lines r h = begins_by pages lines r.tape r.page h

-- and with no others
pub begins_none : (pages : Bool) (lines : List (List ℕ)) → runs pages (outside blank) lines ≡ None → ¬ (Begins pages lines)
begins_none pages lines none (more, tape, is) =
    let whole = sym (ap (runs pages (outside blank)) is.written) in
    let taken = items_taken pages blank tape is.items is.taken in
    let cut = runs-append pages (outside blank) lines more ∙ ap (option_and_then (λ a. runs pages a more)) none in
    let e = sym cut ∙ ap (runs pages (outside blank)) is.written ∙ taken in
    absurd (cc)
