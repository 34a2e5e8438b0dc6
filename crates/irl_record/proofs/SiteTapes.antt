-- The text of a site is the lines of items that make its tape.
use Rattle.std.proofs.Common.{◌≡◌, ◌≢◌, ◌∙◌, ℕ, zero, suc, ◌+◌, ◌*◌, ◌%◌, ◌^◌, ◌<◌, ◌≤◌, Bool, true, false, ◌==◌, cond, not, All, List, [], ◌∷◌, ◌++◌, length, map, Some, None, Ok, Err, IfErr, IsErrOf, Result, refl, sym, ap, arith, inl, inr, ⊎_elim, append_assoc, append-nil, length-append, lit≤, mod-lt}
use Rattle.std.specs.Prelude.{codes, nat_lt, bytes_eq, is_some, option_and_then, option_map}
use Rattle.std.specs.List.{AllByRecursion, flat_map, list_all, range_with_len}
use Rattle.std.specs.Fmt.{digits}
use Rattle.std.specs.Option.{ForSome}
use Rattle.std.proofs.lemmas.Bool.{cond-true, cond-false, cases_Bool, cases_eq}
use Rattle.std.proofs.lemmas.Bool.Decides.{nat_tests}
use Rattle.std.proofs.lemmas.List.{map-append}
use Rattle.std.proofs.lemmas.List.Elements.{All-append, All-cons, All-from_recursion, All-nil, All-weaker, recursion_from_All}
use Rattle.std.proofs.lemmas.Slice.Eq.{bytes_eq-Decides}
use Rattle.irl_base.specs.Faults.{HasCause}
use Rattle.irl_base.specs.Limits.{max_page, max_text}
use Rattle.irl_io.specs.Lines.{IsLine, lines, most_lines, text}
use Rattle.irl_io.proofs.LineLemmas.{lines-text}
use Rattle.irl_key.specs.declared.canon.Canon.{Canon}
use Rattle.irl_key.specs.declared.canon.Canon.TheVariants.{Web}
use Rattle.irl_key.specs.Links.{canon_of}
use Rattle.irl_key.specs.Web.{IsVisible}
use Rattle.irl_offer.specs.Replies.{Received}
use Rattle.irl_record.specs.declared.record.Record.{Record}
use Rattle.irl_record.specs.declared.record.Record.TheVariants as record_of
use Rattle.irl_record.specs.Grammar.{AreWithin, Item, Page, PageItem, Piece, Seed, Suffix, Whole, item_lines, is_page, piece_bytes, piece_line, reply_of, with_item, with_items}
use Rattle.irl_record.specs.Reading.{blank, is_over, new_web, outside, tape_of, tape_from, web_of, with_record, with_seed, with_suffix}
use Rattle.irl_record.specs.declared.reading.TapeFault.{TapeFault}
use Rattle.irl_record.specs.declared.reading.TapeFault.TheVariants.{BadRecord, Failed, Memory}
use Rattle.irl_record.specs.Site.{link, link_line, page_lines, page_reply, page_url, site_tape, site_text, targets}
use Rattle.irl_record.specs.Site as site
use Rattle.irl_record.specs.Taped.{Records, Taped, record_at}
use Rattle.irl_record.proofs.ItemLemmas.{and-left, and-right, at_least, items_taken}
use Rattle.irl_record.proofs.PageUrls.{own_url, short_url, url_injective, visible_url}
use Rattle.irl_record.proofs.SiteLemmas.{range_more}
use Rattle.irl_record.proofs.TapeLemmas.{runs_ok}

-- ---- the items

abbrev link_piece : ℕ → Piece
link_piece target = Whole (codes "<a href=\"" ++ page_url target ++ codes "\">x</a>")

abbrev page_of : List ℕ → ℕ → PageItem
page_of links i = record { status = 200; html = true; url = page_url i; location = None; pieces = map link_piece links }

abbrev page_item : ℕ → ℕ → Item
page_item n i = Page (page_of (targets n i) i)

abbrev site_items : ℕ → List Item
site_items n = Suffix (codes "test") ∷ Seed (codes "http://s0.test/p0") ∷ map (page_item n) (range_with_len 0 n)

-- ---- their text

text-append : (xs ys : List (List ℕ)) → text (xs ++ ys) ≡ text xs ++ text ys
text-append [] ys = refl
text-append (x ∷ xs) ys =
    ap (λ l. (x ++ 10 ∷ []) ++ l) (text-append xs ys) ∙ sym (append_assoc (x ++ 10 ∷ []) (text xs) (text ys))

links_text : (links : List ℕ) → text (map piece_line (map link_piece links)) ≡ flat_map link_line links
links_text [] = refl
links_text (t ∷ links) =
    ap (λ l. l ++ text (map piece_line (map link_piece links))) (append_assoc (codes "|<a href=\"" ++ page_url t) (codes "\">x</a>") (10 ∷ []))
    ∙ ap (λ l. link_line t ++ l) (links_text links)

links_body : (links : List ℕ) → flat_map piece_bytes (map link_piece links) ≡ flat_map link links
links_body [] = refl
links_body (t ∷ links) =
    ap (λ l. l ++ flat_map piece_bytes (map link_piece links)) (append_assoc (codes "<a href=\"" ++ page_url t) (codes "\">x</a>") (10 ∷ []))
    ∙ ap (λ l. link t ++ l) (links_body links)

each_target : (f : ℕ → List ℕ) (a b : Bool) (s t u : ℕ) → flat_map f ((cond a (s ∷ []) [] ++ cond b (t ∷ []) []) ++ u ∷ []) ≡ (cond a (f s) [] ++ cond b (f t) []) ++ f u
each_target f true true s t u = simp (append_assoc, append-nil)
each_target f true false s t u = simp append-nil
each_target f false true s t u = simp (append_assoc, append-nil)
each_target f false false s t u = append-nil (f u)

body_text : (n i : ℕ) → text (map piece_line (map link_piece (targets n i))) ≡ site.body_lines n i
body_text n i = links_text (targets n i) ∙ each_target link_line (nat_lt (2 * i + 1) n) (nat_lt (2 * i + 2) n) (2 * i + 1) (2 * i + 2) ((7 * i + 3) % n)

page_text : (n i : ℕ) → text (item_lines (page_item n i)) ≡ page_lines n i
page_text n i =
    let body = map piece_line (map link_piece (targets n i)) in
    ap (λ l. site.head_line i ++ l) (text-append body (codes "end" ∷ []) ∙ ap (λ l. l ++ codes "end\n") (body_text n i))
    ∙ sym (append_assoc (site.head_line i) (site.body_lines n i) (codes "end\n"))

pages_text : (n : ℕ) (numbers : List ℕ) → text (flat_map item_lines (map (page_item n) numbers)) ≡ flat_map (page_lines n) numbers
pages_text n [] = refl
pages_text n (i ∷ numbers) =
    let others = flat_map item_lines (map (page_item n) numbers) in
    text-append (item_lines (page_item n i)) others ∙ ap (λ l. l ++ text others) (page_text n i)
    ∙ ap (λ l. page_lines n i ++ l) (pages_text n numbers)

site_is_text : (n : ℕ) → text (flat_map item_lines (site_items n)) ≡ site_text n
unfolding site_text
site_is_text n = ap (λ l. codes "suffix test\nseed http://s0.test/p0\n" ++ l) (pages_text n (range_with_len 0 n))

-- ---- their lines are within the limits

abbrev IsOther : ℕ → Type 0
IsOther b = b ≢ 10

-- so many bytes at most, and no line feed
abbrev IsPart : ℕ → List ℕ → Type 0
IsPart most xs = (length xs ≤ most) × All IsOther xs

other_by_test : (b : ℕ) → not (b == 10) ≡ true → b ≢ 10
other_by_test b h = grind (arith, nat_tests)

others_by_test : (xs : List ℕ) → list_all (λ b. not (b == 10)) xs ≡ true → AllByRecursion IsOther xs
others_by_test [] h = tt
others_by_test (x ∷ xs) h = (other_by_test x (and-left _ _ h), others_by_test xs (and-right (not (x == 10)) _ h))

part_by_test : (xs : List ℕ) (most : ℕ) → length xs ≤ most → list_all (λ b. not (b == 10)) xs ≡ true → IsPart most xs
part_by_test xs most short h = (short, All-from_recursion IsOther xs (others_by_test xs h))

both_parts : (a b c : ℕ) (xs ys : List ℕ) → a + b ≤ c → IsPart a xs → IsPart b ys → IsPart c (xs ++ ys)
both_parts a b c xs ys most x y =
    let size = length-append xs ys in
    let one = x.0 in
    let other = y.0 in
    (omega arith, All-append IsOther xs ys x.1 y.1)

url_part : (i : ℕ) → i < 2 ^ 32 → IsPart 41 (page_url i)
url_part i small = (short_url i small, All-weaker IsVisible IsOther (λ b h e. absurd (let low = h.0 in omega arith)) (page_url i) (visible_url i small))

line_from_part : (xs : List ℕ) → IsPart 2048 xs → IsLine xs
line_from_part xs h = record { short = h.0; whole = recursion_from_All IsOther xs h.1 }

head_fits : (i : ℕ) → i < 2 ^ 32 → IsLine (codes "page 200 html " ++ page_url i)
head_fits i small =
    line_from_part _ (both_parts 14 41 2048 (codes "page 200 html ") (page_url i) (lit≤ tt) (part_by_test (codes "page 200 html ") 14 (lit≤ tt) refl) (url_part i small))

link_fits : (t : ℕ) → t < 2 ^ 32 → IsLine (piece_line (link_piece t))
link_fits t small =
    let front = codes "|<a href=\"" in
    let back = codes "\">x</a>" in
    line_from_part _ (both_parts 51 7 2048 (front ++ page_url t) back (lit≤ tt) (both_parts 10 41 51 front (page_url t) (lit≤ tt) (part_by_test front 10 (lit≤ tt) refl) (url_part t small)) (part_by_test back 7 (lit≤ tt) refl))

literal_fits : (xs : List ℕ) → length xs ≤ 2048 → list_all (λ b. not (b == 10)) xs ≡ true → IsLine xs
literal_fits xs short h = line_from_part xs (part_by_test xs 2048 short h)

abbrev IsSmall : ℕ → Type 0
IsSmall t = t < 2 ^ 32

links_fit : (links : List ℕ) → AllByRecursion IsSmall links → All IsLine (map piece_line (map link_piece links))
links_fit [] small = All-nil IsLine
links_fit (t ∷ links) small = All-cons IsLine _ _ (link_fits t small.0) (links_fit links small.1)

small_by : (a b : Bool) (s t u : ℕ) → IsSmall s → IsSmall t → IsSmall u → AllByRecursion IsSmall ((cond a (s ∷ []) [] ++ cond b (t ∷ []) []) ++ u ∷ [])
small_by true true s t u x y z = (x, (y, (z, tt)))
small_by true false s t u x y z = (x, (z, tt))
small_by false true s t u x y z = (y, (z, tt))
small_by false false s t u x y z = (z, tt)

few_by : (a b : Bool) (s t u : ℕ) → length ((cond a (s ∷ []) [] ++ cond b (t ∷ []) []) ++ u ∷ []) ≤ 3
few_by true true s t u = lit≤ tt
few_by true false s t u = lit≤ tt
few_by false true s t u = lit≤ tt
few_by false false s t u = lit≤ tt

module _ (n : ℕ) (few : n < 2 ^ 29) where
  small_targets : (i : ℕ) → i < n → AllByRecursion IsSmall (targets n i)
  small_targets i below =
      let last : (7 * i + 3) % n < n = mod-lt (7 * i + 3) (omega arith) in
      small_by (nat_lt (2 * i + 1) n) (nat_lt (2 * i + 2) n) (2 * i + 1) (2 * i + 2) ((7 * i + 3) % n) (omega arith) (omega arith) (omega arith)

  few_targets : (i : ℕ) → length (targets n i) ≤ 3
  few_targets i = few_by (nat_lt (2 * i + 1) n) (nat_lt (2 * i + 2) n) (2 * i + 1) (2 * i + 2) ((7 * i + 3) % n)

  lines_by : (links : List ℕ) → length (map piece_line (map link_piece links)) ≡ length links
  lines_by [] = refl
  lines_by (t ∷ links) = ap suc (lines_by links)

  page_fits : (i : ℕ) → i < n → All IsLine (item_lines (page_item n i)) × (length (item_lines (page_item n i)) ≤ 5)
  page_fits i below =
      let body = map piece_line (map link_piece (targets n i)) in
      let size = length-append body (codes "end" ∷ []) in
      let links = lines_by (targets n i) in
      let most = few_targets i in (
        All-cons IsLine _ _ (head_fits i (omega arith))
            (All-append IsLine body (codes "end" ∷ []) (links_fit (targets n i) (small_targets i below)) (All-cons IsLine (codes "end") [] (literal_fits (codes "end") (lit≤ tt) refl) (All-nil IsLine))),
        omega arith,
      )

  pages_fit : (a k : ℕ) → a + k ≤ n
      → All IsLine (flat_map item_lines (map (page_item n) (range_with_len a k))) × (length (flat_map item_lines (map (page_item n) (range_with_len a k))) ≤ 5 * k)
  pages_fit a zero within = (All-nil IsLine, lit≤ tt)
  pages_fit a (suc k) within =
      let first = page_fits a (omega arith) in
      let rest = pages_fit (a + 1) k (omega arith) in
      let others = flat_map item_lines (map (page_item n) (range_with_len (a + 1) k)) in
      let size = length-append (item_lines (page_item n a)) others in
      let one = first.1 in
      let more = rest.1 in
      (All-append IsLine (item_lines (page_item n a)) others first.0 rest.0, omega arith)

not_over : (number : ℕ) (line : List ℕ) → length line ≤ max_text → number ≤ most_lines → is_over number line ≡ false
not_over number line short few =
    let one : nat_lt max_text (length line) ≡ false = grind (arith, nat_tests) in
    let other : nat_lt most_lines number ≡ false = grind (arith, nat_tests) in
    rw (one, other) refl

within_by : (number : ℕ) (ls : List (List ℕ)) → AllByRecursion IsLine ls → number + length ls ≤ most_lines + 1 → AreWithin number ls
within_by number [] each few = tt
within_by number (line ∷ ls) each few = (not_over number line each.0.short (omega arith), within_by (number + 1) ls each.1 (omega arith))

whole_by : (ls : List (List ℕ)) → AllByRecursion IsLine ls → AllByRecursion (AllByRecursion IsOther) ls
whole_by [] each = tt
whole_by (line ∷ ls) each = (each.0.whole, whole_by ls each.1)

-- ---- they make its tape

abbrev page_record : ℕ → ℕ → List ℕ × Record
page_record n i = (page_url i, record_of.Page (page_reply n i))

-- the tape of the first of n pages
abbrev front : ℕ → ℕ → Taped
front n a = record {
  suffixes = codes "test";
  seeds = codes "http://s0.test/p0" ∷ [];
  records = map (page_record n) (range_with_len 0 a);
}

other_url : (i j : ℕ) → i < 2 ^ 32 → j < 2 ^ 32 → i ≢ j → bytes_eq (page_url i) (page_url j) ≡ false
other_url i j small few other =
    ⊎_elim (λ same. absurd (other (url_injective i j small few ((bytes_eq-Decides _ _).0 same)))) (λ no. no) (cases_Bool (bytes_eq (page_url i) (page_url j)))

none_yet : (n i a k : ℕ) → a + k ≤ i → i < 2 ^ 32 → record_at (map (page_record n) (range_with_len a k)) (page_url i) ≡ None
none_yet n i a zero behind small = refl
none_yet n i a (suc k) behind small =
    cond-false _ _ _ (other_url i a small (omega arith) (λ e. absurd (omega arith))) ∙ none_yet n i (a + 1) k (omega arith) small

found_by : (n i a k : ℕ) → a ≤ i → i < a + k → a + k < 2 ^ 32 → record_at (map (page_record n) (range_with_len a k)) (page_url i) ≡ Some (record_of.Page (page_reply n i))
found_by n i a zero from below small = absurd (omega arith)
found_by n i a (suc k) from below small =
    elim (cases_eq i a) [
      | inl same ↦
          cond-true _ _ _ ((bytes_eq-Decides (page_url i) (page_url a)).1 (ap page_url same)) ∙ ap (λ (j : ℕ). Some (record_of.Page (page_reply n j))) (sym same)
      | inr other ↦
          cond-false _ _ _ (other_url i a (omega arith) (omega arith) other) ∙ found_by n i (a + 1) k (omega arith) (omega arith) (omega arith)
    ]

new_url : (n i : ℕ) → i < 2 ^ 32 → new_web (front n i).records (page_url i) ≡ Some (page_url i)
new_url n i small =
    let records = (front n i).records in
    ap (λ (c : Canon). option_and_then (λ text. cond (is_some (record_at records text)) None (Some text)) (web_of c)) (own_url i small)
    ∙ cond-false _ _ _ (ap is_some (none_yet n i 0 i (omega arith) small))

reply_is : (n i : ℕ) → reply_of (page_of (targets n i) i) ≡ page_reply n i
reply_is n i = ap (λ (body : List ℕ). record { status = 200; location = None; html = true; body = body }) (links_body (targets n i))

short_body : (links : List ℕ) → AllByRecursion IsSmall links → length (flat_map piece_bytes (map link_piece links)) ≤ 60 * length links
short_body [] small = lit≤ tt
short_body (t ∷ links) small =
    let url = short_url t small.0 in
    let rest = short_body links small.1 in
    let one = length-append (codes "<a href=\"") (page_url t) in
    let two = length-append (codes "<a href=\"" ++ page_url t) (codes "\">x</a>") in
    let three = length-append (codes "<a href=\"" ++ page_url t ++ codes "\">x</a>") (10 ∷ []) in
    let four = length-append (piece_bytes (link_piece t)) (flat_map piece_bytes (map link_piece links)) in
    omega arith

module _ (n : ℕ) (few : n < 2 ^ 29) where
  page_made : (i : ℕ) → i < n → with_item true (front n i) (page_item n i) ≡ Some (front n (i + 1))
  page_made i below =
      let page = page_of (targets n i) i in
      let most = few_targets n few i in
      let size = short_body (targets n i) (small_targets n few i below) in
      let fits : is_page page ≡ true = at_least (length (reply_of page).body) max_page (omega arith) in
      let records = (front n i).records in
      let grown : records ++ page_record n i ∷ [] ≡ (front n (i + 1)).records =
      sym (map-append (page_record n) (range_with_len 0 i) (i ∷ [])) ∙ ap (map (page_record n)) (sym (range_more i)) in
      cond-true _ _ _ fits
      ∙ ap (option_map (λ text. with_record (front n i) text (record_of.Page (reply_of page)))) (new_url n i (omega arith))
      ∙ ap (λ (r : Received). Some (with_record (front n i) (page_url i) (record_of.Page r))) (reply_is n i)
      ∙ ap (λ (r : Records). Some (record (front n i) { records = r })) grown

  pages_made : (a k : ℕ) → a + k ≡ n → with_items true (front n a) (map (page_item n) (range_with_len a k)) ≡ Some (site_tape n)
  pages_made a zero all = let same : a ≡ n = omega arith in ap (λ m. Some (front n m)) same
  pages_made a (suc k) all =
      ap (option_and_then (λ after. with_items true after (map (page_item n) (range_with_len (a + 1) k)))) (page_made a (omega arith))
      ∙ pages_made (a + 1) k (omega arith)

  suffix_made : with_suffix blank (codes "test") ≡ Some (record { suffixes = codes "test"; seeds = []; records = [] })
  suffix_made = refl

  first_url : page_url 0 ≡ codes "http://s0.test/p0"
  unfolding digits
  first_url = refl

  seed_made : with_seed (record { suffixes = codes "test"; seeds = []; records = [] }) (codes "http://s0.test/p0") ≡ Some (front n 0)
  seed_made =
      let tape : Taped = record { suffixes = codes "test"; seeds = []; records = [] } in
      ap (λ c. option_map (λ text. record tape { seeds = tape.seeds ++ text ∷ [] }) (web_of c))
      (ap (canon_of None) (sym first_url) ∙ own_url 0 (omega arith) ∙ ap Web first_url)

  site_made : with_items true blank (site_items n) ≡ Some (site_tape n)
  site_made =
      let pages = map (page_item n) (range_with_len 0 n) in
      ap (option_and_then (λ after. with_items true after (Seed (codes "http://s0.test/p0") ∷ pages))) suffix_made
      ∙ ap (option_and_then (λ after. with_items true after pages)) seed_made
      ∙ pages_made 0 n (omega arith)

-- ---- what is read

-- the text of a site is its tape
pub site_is_read : (n : ℕ) → n < 2 ^ 29 → tape_of true (site_text n) ≡ Ok (site_tape n)
site_is_read n few =
    let all = flat_map item_lines (site_items n) in
    let pages = pages_fit n few 0 n (omega arith) in
    let others = flat_map item_lines (map (page_item n) (range_with_len 0 n)) in
    let suffix = codes "suffix test" in
    let seed = codes "seed http://s0.test/p0" in
    let each : All IsLine all =
    All-cons IsLine suffix (seed ∷ others) (literal_fits suffix (lit≤ tt) refl) (All-cons IsLine seed others (literal_fits seed (lit≤ tt) refl) pages.0) in
    let every : AllByRecursion IsLine all = recursion_from_All IsLine all each in
    let size = pages.1 in
    let within : AreWithin 1 all = within_by 1 all every (omega arith) in
    let is : lines (site_text n) ≡ all = ap lines (sym (site_is_text n)) ∙ lines-text all (whole_by all every) in
    ap (tape_from true 1 (outside blank)) is ∙ runs_ok true all 1 (outside blank) (site_tape n) within (items_taken true blank (site_tape n) (site_items n) (site_made n few))

-- so it is refused for want of memory alone, by a source that never fails
pub only_memory : {T : Type 0} (n : ℕ) (bytes : List ℕ) (result : Result T TapeFault) → n < 2 ^ 29 → bytes ≡ site_text n
    → ((k : ℕ) → IsErrOf result (BadRecord k) → ForSome (Some bytes) (λ b. tape_of true b ≡ Err k)) → HasCause (IsErrOf result Failed) 0 0 → IfErr result (λ fault. fault ≡ Memory)
only_memory n bytes (Ok tape) few is refused cause = tt
only_memory n bytes (Err (BadRecord k)) few is refused cause =
    let e = sym (refused k refl bytes refl) ∙ ap (tape_of true) is ∙ site_is_read n few in
    absurd (cc)
only_memory n bytes (Err Failed) few is refused cause = absurd (let rose = cause.rose refl in omega arith)
only_memory n bytes (Err Memory) few is refused cause = refl

-- it has each page's reply
pub page_found : (n i : ℕ) → n < 2 ^ 29 → i < n → record_at (site_tape n).records (page_url i) ≡ Some (record_of.Page (page_reply n i))
page_found n i few below = found_by n i 0 n (omega arith) (omega arith) (omega arith)
