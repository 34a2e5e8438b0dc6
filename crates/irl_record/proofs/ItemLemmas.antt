-- The lines of a tape's items, read one after another, give the tape of the items.
use Rattle.std.proofs.Common.{◌≡◌, ◌≢◌, ◌∙◌, ℕ, ◌+◌, ◌/◌, ◌%◌, ◌≤◌, Bool, true, false, ◌&&◌, ◌||◌, ◌==◌, cond, List, [], ◌∷◌, ◌++◌, length, map, Option, Some, None, refl, sym, ap, arith, append_assoc, append-nil, length-append, subst}
use Rattle.std.specs.Prelude.{nat_le, option_map, option_and_then, codes}
use Rattle.std.specs.Char.{is_ascii_digit}
use Rattle.std.specs.List.{flat_map}
use Rattle.std.proofs.lemmas.Bool.{cond-true, cond-false, false≢true, ne_eqb}
use Rattle.std.proofs.lemmas.Bool.Decides.{nat_tests}
use Rattle.irl_base.specs.Limits.{max_page}
use Rattle.irl_offer.specs.Replies.{Received}
use Rattle.irl_record.specs.declared.record.Record.TheVariants as record_of
use Rattle.irl_record.specs.Forms.{Form, form_of, is_skipped, page_of, kind_of, is_status, status_of}
use Rattle.irl_record.specs.Forms as form
use Rattle.irl_record.specs.Parts.{Within, within_of}
use Rattle.irl_record.specs.Parts as within
use Rattle.irl_record.specs.Opened.{Opened, opened, with_body}
use Rattle.irl_record.specs.Reading.{Reading, next, outside, inside, takes, takes_within, new_web, with_record}
use Rattle.irl_record.specs.Taped.{Taped}
use Rattle.irl_record.specs.Grammar.{Piece, Whole, Part, PageItem, Item, Comment, Suffix, Seed, Page, Lost, item_lines, head_line, location_lines, three_digits, piece_line, piece_bytes, reply_of, is_page, with_item, with_items}

-- ---- lines, one after another

-- what some lines make of a reading, if they are taken
abbrev pub runs : Bool → Reading → List (List ℕ) → Option Reading
runs pages reading [] = Some reading
runs pages reading (line ∷ lines) = option_and_then (λ after. runs pages after lines) (next pages reading line)

and_then_by : (pages : Bool) (xs ys : List (List ℕ)) (o : Option Reading) → ((r : Reading) → runs pages r (xs ++ ys) ≡ option_and_then (λ after. runs pages after ys) (runs pages r xs))
    → option_and_then (λ after. runs pages after (xs ++ ys)) o ≡ option_and_then (λ after. runs pages after ys) (option_and_then (λ after. runs pages after xs) o)
and_then_by pages xs ys None later = refl
and_then_by pages xs ys (Some r) later = later r

pub runs-append : (pages : Bool) (r : Reading) (xs ys : List (List ℕ)) → runs pages r (xs ++ ys) ≡ option_and_then (λ after. runs pages after ys) (runs pages r xs)
runs-append pages r [] ys = refl
runs-append pages r (x ∷ xs) ys = and_then_by pages xs ys (next pages r x) (λ after. runs-append pages after xs ys)

-- one line, and the others
pub runs_step : (pages : Bool) (r after : Reading) (line : List ℕ) (lines : List (List ℕ)) → next pages r line ≡ Some after → runs pages r (line ∷ lines) ≡ runs pages after lines
runs_step pages r after line lines is = ap (option_and_then (λ a. runs pages a lines)) is

-- some lines, and the others
pub runs_both : (pages : Bool) (r after : Reading) (xs ys : List (List ℕ)) → runs pages r xs ≡ Some after → runs pages r (xs ++ ys) ≡ runs pages after ys
runs_both pages r after xs ys is = runs-append pages r xs ys ∙ ap (option_and_then (λ a. runs pages a ys)) is

pub next_outside : (pages : Bool) (tape : Taped) (line : List ℕ) (f : Form) → form_of line ≡ f → next pages (outside tape) line ≡ takes pages tape f
unfolding next
next_outside pages tape line f is = ap (takes pages tape) is

pub next_inside : (pages : Bool) (tape : Taped) (page : Opened) (line : List ℕ) (w : Within) → within_of line ≡ w → next pages (inside tape page) line ≡ takes_within tape page w
unfolding next
next_inside pages tape page line w is = ap (takes_within tape page) is

-- ---- what the lines of items say

or_false : (a b : Bool) → a ≡ false → b ≡ false → (a || b) ≡ false
or_false a b p q = rw (p, q) refl

pub not_skipped : (b : ℕ) (text : List ℕ) → (35 == b) ≡ false → is_skipped (b ∷ text) ≡ false
not_skipped b text other =
    let some : length (b ∷ text) ≢ 0 = λ e. absurd (omega (arith, e)) in
    or_false _ _ (ne_eqb (length (b ∷ text)) 0 some) (ap (λ t. t && true) other)

pub comment_form : (line : List ℕ) → is_skipped line ≡ true → form_of line ≡ form.Skipped
unfolding form_of
comment_form line is = cond-true _ _ _ is

pub suffix_form : (name : List ℕ) → form_of (codes "suffix " ++ name) ≡ form.Suffix name
unfolding form_of
suffix_form name = cond-false (is_skipped (codes "suffix " ++ name)) form.Skipped (form.Suffix name) (not_skipped 115 (codes "uffix " ++ name) refl)

pub seed_form : (url : List ℕ) → form_of (codes "seed " ++ url) ≡ form.Seed url
unfolding form_of
seed_form url = cond-false (is_skipped (codes "seed " ++ url)) form.Skipped (form.Seed url) (not_skipped 115 (codes "eed " ++ url) refl)

pub lost_form : (url : List ℕ) → form_of (codes "lost " ++ url) ≡ form.Lost url
unfolding form_of
lost_form url = cond-false (is_skipped (codes "lost " ++ url)) form.Skipped (form.Lost url) (not_skipped 108 (codes "ost " ++ url) refl)

pub page_line_form : (text : List ℕ) → form_of (codes "page " ++ text) ≡ page_of text
unfolding form_of
page_line_form text = cond-false (is_skipped (codes "page " ++ text)) form.Skipped (page_of text) (not_skipped 112 (codes "age " ++ text) refl)

pub at_least : (a b : ℕ) → a ≤ b → nat_le a b ≡ true
at_least a b h = grind (arith, nat_tests)

digit_is : (d : ℕ) → d ≤ 9 → is_ascii_digit (48 + d) ≡ true
digit_is d small = grind (arith, nat_tests)

status_fits : (n : ℕ) (rest : List ℕ) → 100 ≤ n → n ≤ 999 → is_status (three_digits n ++ rest) ≡ true
status_fits n rest low high =
    let many : nat_le 3 (length (three_digits n ++ rest)) ≡ true = at_least 3 (length (three_digits n ++ rest)) (omega arith) in
    let hundreds : n / 100 ≤ 9 = omega arith in
    let tens : n % 100 / 10 ≤ 9 = omega arith in
    let ones : n % 100 % 10 ≤ 9 = omega arith in
    let other : 48 + n / 100 ≢ 48 = λ e. absurd (omega (arith, e)) in
    let first : (48 + n / 100 == 48) ≡ false = ne_eqb _ _ other in
    rw (many, digit_is (n / 100) hundreds, digit_is (n % 100 / 10) tens, digit_is (n % 100 % 10) ones, first) refl

status_same : (n : ℕ) (rest : List ℕ) → n ≤ 999 → status_of (three_digits n ++ rest) ≡ n
status_same n rest high = omega arith

kind_is : (status : ℕ) (html : Bool) (url : List ℕ) → kind_of status ((cond html (codes " html ") (codes " other ")) ++ url) ≡ form.Page status html url
kind_is status true url = refl
kind_is status false url = refl

pub page_form : (page : PageItem) → 100 ≤ page.status → page.status ≤ 999 → form_of (head_line page) ≡ form.Page page.status page.html page.url
page_form page low high =
    let rest = (cond page.html (codes " html ") (codes " other ")) ++ page.url in
    page_line_form (three_digits page.status ++ rest)
    ∙ cond-true _ _ _ (status_fits page.status rest low high)
    ∙ ap (λ n. kind_of n rest) (status_same page.status rest high)
    ∙ kind_is page.status page.html page.url

-- ---- inside a page

pub piece_within : (pages : Bool) (tape : Taped) (page : Opened) (piece : Piece) → next pages (inside tape page) (piece_line piece) ≡ option_map (inside tape) (with_body page (piece_bytes piece))
unfolding next within_of
piece_within pages tape page (Whole bytes) = refl
piece_within pages tape page (Part bytes) = refl

pub location_within : (text : List ℕ) → within_of (codes "to " ++ text) ≡ within.Location text
unfolding within_of
location_within text = refl

pub end_within : within_of (codes "end") ≡ within.End
unfolding within_of
end_within = refl

-- ---- items

some_same : {X : Type 0} (a b : X) → Some a ≡ Some b → a ≡ b
some_same a b h = cc

pub option_map_twice : {X Y Z : Type 0} (f : Y → Z) (g : X → Y) (o : Option X) → option_map (λ x. f (g x)) o ≡ option_map f (option_map g o)
option_map_twice f g None = refl
option_map_twice f g (Some x) = refl

-- the page with its Location, if it has one, before its body
abbrev located : ℕ → Bool → List ℕ → Option (List ℕ) → Opened
located status html url None = opened status html url
located status html url (Some text) =
    record { url = url; reply = record { status = status; location = Some text; html = html; body = [] }; is_new = false }

located-url : (status : ℕ) (html : Bool) (url : List ℕ) (location : Option (List ℕ)) → (located status html url location).url ≡ url
located-url status html url None = refl
located-url status html url (Some text) = refl

located-reply : (status : ℕ) (html : Bool) (url : List ℕ) (location : Option (List ℕ))
    → (located status html url location).reply ≡ record { status = status; location = location; html = html; body = [] }
located-reply status html url None = refl
located-reply status html url (Some text) = refl

location_taken : (pages : Bool) (tape : Taped) (status : ℕ) (html : Bool) (url : List ℕ) (location : Option (List ℕ))
    → runs pages (inside tape (opened status html url)) (location_lines location) ≡ Some (inside tape (located status html url location))
location_taken pages tape status html url None = refl
location_taken pages tape status html url (Some text) =
    runs_step pages _ (inside tape (located status html url (Some text))) (codes "to " ++ text) [] (next_inside pages tape (opened status html url) _ _ (location_within text))

-- the pieces of a body that fits
pub record Taken (pages : Bool) (tape : Taped) (page : Opened) (pieces : List Piece) : Type 0 where
  pub after : Opened
  pub taken : runs pages (inside tape page) (map piece_line pieces) ≡ Some (inside tape after)
  pub url : after.url ≡ page.url
  pub reply : after.reply ≡ record page.reply { body = page.reply.body ++ flat_map piece_bytes pieces }

abbrev pub with_more : Opened → List ℕ → Opened
with_more page bytes = record page { reply = record page.reply { body = page.reply.body ++ bytes }; is_new = false }

pub body_fits : (page : Opened) (bytes : List ℕ) → length (page.reply.body ++ bytes) ≤ max_page → with_body page bytes ≡ Some (with_more page bytes)
body_fits page bytes short = cond-true _ _ _ (at_least _ max_page short)

pieces_taken : (pages : Bool) (tape : Taped) (pieces : List Piece) (page : Opened) → length (page.reply.body ++ flat_map piece_bytes pieces) ≤ max_page → Taken pages tape page pieces
pieces_taken pages tape [] page short = record {
  after = page;
  taken = refl;
  url = refl;
  reply = ap (λ (b : List ℕ). record page.reply { body = b }) (sym (append-nil page.reply.body));
}
pieces_taken pages tape (piece ∷ pieces) page short =
    let bytes = piece_bytes piece in
    let joined : (page.reply.body ++ bytes) ++ flat_map piece_bytes pieces ≡ page.reply.body ++ (bytes ++ flat_map piece_bytes pieces) =
    append_assoc page.reply.body bytes (flat_map piece_bytes pieces) in
    let size = ap length joined in
    let longer : length ((page.reply.body ++ bytes) ++ flat_map piece_bytes pieces) ≡ length (page.reply.body ++ bytes) + length (flat_map piece_bytes pieces) =
    length-append (page.reply.body ++ bytes) (flat_map piece_bytes pieces) in
    let one : next pages (inside tape page) (piece_line piece) ≡ Some (inside tape (with_more page bytes)) = piece_within pages tape page piece
    ∙ ap (option_map (inside tape)) (body_fits page bytes (omega arith)) in
    let later = pieces_taken pages tape pieces (with_more page bytes) (omega arith) in
    record {
      after = later.after;
      taken = runs_step pages (inside tape page) (inside tape (with_more page bytes)) (piece_line piece) (map piece_line pieces) one ∙ later.taken;
      url = later.url;
      reply = later.reply ∙ ap (λ (b : List ℕ). record page.reply { body = b }) joined;
    }

pub and-left : (a b : Bool) → (a && b) ≡ true → a ≡ true
and-left true b h = refl
and-left false b h = absurd (false≢true h)

pub and-right : (a b : Bool) → (a && b) ≡ true → b ≡ true
and-right true b h = h
and-right false b h = absurd (false≢true h)

pub at_least_back : (a b : ℕ) → nat_le a b ≡ true → a ≤ b
at_least_back a b h = grind (arith, nat_tests)

page_taken : (tape : Taped) (page : PageItem) (text : List ℕ) → is_page page ≡ true → new_web tape.records page.url ≡ Some text
    → runs true (outside tape) (item_lines (Page page)) ≡ Some (outside (with_record tape text (record_of.Page (reply_of page))))
page_taken tape page text is web =
    let low : 100 ≤ page.status = at_least_back _ _ (and-left _ _ (and-left (nat_le 100 page.status && nat_le page.status 999) _ is)) in
    let high : page.status ≤ 999 = at_least_back _ _ (and-right (nat_le 100 page.status) _ (and-left (nat_le 100 page.status && nat_le page.status 999) _ is)) in
    let short : length (flat_map piece_bytes page.pieces) ≤ max_page = at_least_back _ _ (and-right (nat_le 100 page.status && nat_le page.status 999) _ is) in
    let first = opened page.status page.html text in
    let second = located page.status page.html text page.location in
    let is_second = located-reply page.status page.html text page.location in
    let head : next true (outside tape) (head_line page) ≡ Some (inside tape first) =
    next_outside true tape (head_line page) _ (page_form page low high) ∙ ap (option_map (λ (t : List ℕ). inside tape (opened page.status page.html t))) web in
    let empty : second.reply.body ≡ [] = ap (λ (r : Received). r.body) is_second in
    let fits : length (second.reply.body ++ flat_map piece_bytes page.pieces) ≤ max_page = subst (λ b. length (b ++ flat_map piece_bytes page.pieces) ≤ max_page) (sym empty) short in
    let third = pieces_taken true tape page.pieces second fits in
    let reply : third.after.reply ≡ reply_of page = third.reply ∙ ap (λ (r : Received). record r { body = r.body ++ flat_map piece_bytes page.pieces }) is_second in
    let url : third.after.url ≡ text = third.url ∙ located-url page.status page.html text page.location in
    runs_step true (outside tape) (inside tape first) (head_line page) _ head
    ∙ runs_both true (inside tape first) (inside tape third.after) (location_lines page.location ++ map piece_line page.pieces) (codes "end" ∷ [])
    (runs_both true (inside tape first) (inside tape second) (location_lines page.location) (map piece_line page.pieces) (location_taken true tape page.status page.html text page.location)
    ∙ third.taken)
    ∙ runs_step true (inside tape third.after) (outside (with_record tape third.after.url (record_of.Page third.after.reply))) (codes "end") []
    (next_inside true tape third.after (codes "end") _ end_within)
    ∙ ap (λ (u : List ℕ). Some (outside (with_record tape u (record_of.Page third.after.reply)))) url
    ∙ ap (λ (r : Received). Some (outside (with_record tape text (record_of.Page r)))) reply

one_line : (pages : Bool) (tape after : Taped) (line : List ℕ) → next pages (outside tape) line ≡ Some (outside after) → runs pages (outside tape) (line ∷ []) ≡ Some (outside after)
one_line pages tape after line is = runs_step pages (outside tape) (outside after) line [] is

comment_by : (pages : Bool) (tape after : Taped) (line : List ℕ) (b : Bool) → is_skipped line ≡ b → cond b (Some tape) None ≡ Some after → runs pages (outside tape) (line ∷ []) ≡ Some (outside after)
comment_by pages tape after line true is h =
    one_line pages tape after line (next_outside pages tape line _ (comment_form line is) ∙ ap (option_map outside) h)
comment_by pages tape after line false is h = cc

lost_by : (pages : Bool) (tape after : Taped) (url : List ℕ) → with_item pages tape (Lost url) ≡ Some after → runs pages (outside tape) (item_lines (Lost url)) ≡ Some (outside after)
lost_by true tape after url h =
    one_line true tape after _ (next_outside true tape _ _ (lost_form url)
    ∙ option_map_twice outside (λ (text : List ℕ). with_record tape text record_of.Lost) (new_web tape.records url) ∙ ap (option_map outside) h)
lost_by false tape after url h = cc

page_by : (tape after : Taped) (page : PageItem) (b : Bool) (o : Option (List ℕ)) → is_page page ≡ b → new_web tape.records page.url ≡ o
    → cond b (option_map (λ text. with_record tape text (record_of.Page (reply_of page))) o) None ≡ Some after → runs true (outside tape) (item_lines (Page page)) ≡ Some (outside after)
page_by tape after page true (Some text) is web h = page_taken tape page text is web ∙ ap (option_map outside) h
page_by tape after page true None is web h = cc
page_by tape after page false o is web h = cc

-- the lines of an item that may come here
pub item_taken : (pages : Bool) (tape after : Taped) (item : Item) → with_item pages tape item ≡ Some after → runs pages (outside tape) (item_lines item) ≡ Some (outside after)
item_taken pages tape after (Comment line) h = comment_by pages tape after line (is_skipped line) refl h
item_taken pages tape after (Suffix name) h =
    one_line pages tape after _ (next_outside pages tape _ _ (suffix_form name) ∙ ap (option_map outside) h)
item_taken pages tape after (Seed url) h =
    one_line pages tape after _ (next_outside pages tape _ _ (seed_form url) ∙ ap (option_map outside) h)
item_taken true tape after (Page page) h = page_by tape after page (is_page page) (new_web tape.records page.url) refl refl h
item_taken false tape after (Page page) h = cc
item_taken pages tape after (Lost url) h = lost_by pages tape after url h

items_by : (pages : Bool) (tape after : Taped) (item : Item) (items : List Item) (o : Option Taped) → with_item pages tape item ≡ o → option_and_then (λ t. with_items pages t items) o ≡ Some after
    → ((t : Taped) → with_items pages t items ≡ Some after → runs pages (outside t) (flat_map item_lines items) ≡ Some (outside after))
    → runs pages (outside tape) (item_lines item ++ flat_map item_lines items) ≡ Some (outside after)
items_by pages tape after item items None is h later = cc
items_by pages tape after item items (Some t) is h later =
    runs_both pages (outside tape) (outside t) (item_lines item) (flat_map item_lines items) (item_taken pages tape t item is) ∙ later t h

-- and of several
pub items_taken : (pages : Bool) (tape after : Taped) (items : List Item) → with_items pages tape items ≡ Some after → runs pages (outside tape) (flat_map item_lines items) ≡ Some (outside after)
items_taken pages tape after [] h = ap (option_map outside) h
items_taken pages tape after (item ∷ items) h =
    items_by pages tape after item items (with_item pages tape item) refl h (λ t. items_taken pages t after items)
