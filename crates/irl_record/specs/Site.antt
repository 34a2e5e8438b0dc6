-- A site that a program makes up: pages that link to one another.
use Rattle.std.specs.Prelude.{ℕ, ◌+◌, ◌*◌, ◌%◌, nat_lt, List, [], ◌∷◌, ◌++◌, map, None, true, if◌then◌else◌, codes, decimal}
use Rattle.std.specs.List.{flat_map, range_with_len}
use Rattle.irl_offer.specs.Replies.{Received}
use Rattle.irl_record.specs.declared.record.Record.TheVariants.{Page}
use Rattle.irl_record.specs.Taped.{Taped}

-- the URL of a page: it is on one of 16 hosts
abbrev pub page_url : ℕ → List ℕ
page_url i = codes "http://s" ++ decimal (i % 16) ++ codes ".test/p" ++ decimal i

-- a line of the body: a link to a page
abbrev pub link_line : ℕ → List ℕ
link_line target = codes "|<a href=\"" ++ page_url target ++ codes "\">x</a>\n"

-- the same, where there is such a page among n
abbrev pub link_below : ℕ → ℕ → List ℕ
link_below n target = if nat_lt target n then link_line target else []

-- the first line of a page
abbrev pub head_line : ℕ → List ℕ
head_line i = codes "page 200 html " ++ page_url i ++ codes "\n"

-- the lines of its body: links to two pages behind it, where there are such, and to one anywhere
abbrev pub body_lines : ℕ → ℕ → List ℕ
body_lines n i = link_below n (2 * i + 1) ++ link_below n (2 * i + 2) ++ link_line ((7 * i + 3) % n)

-- the record of a page
abbrev pub page_lines : ℕ → ℕ → List ℕ
page_lines n i = head_line i ++ body_lines n i ++ codes "end\n"

-- the text of a site of n pages
unfoldable pub site_text : ℕ → List ℕ
site_text n =
    codes "suffix test\nseed http://s0.test/p0\n" ++ flat_map (page_lines n) (range_with_len 0 n)

-- ---- its tape

-- this number, if there is such a page among n
abbrev pub if_below : ℕ → ℕ → List ℕ
if_below n target = if nat_lt target n then target ∷ [] else []

-- the pages that a page links to, in order
abbrev pub targets : ℕ → ℕ → List ℕ
targets n i = if_below n (2 * i + 1) ++ if_below n (2 * i + 2) ++ (7 * i + 3) % n ∷ []

-- a link as the body has it
abbrev pub link : ℕ → List ℕ
link target = codes "<a href=\"" ++ page_url target ++ codes "\">x</a>\n"

-- the reply to a page's URL
abbrev pub page_reply : ℕ → ℕ → Received
page_reply n i = record { status = 200; location = None; html = true; body = flat_map link (targets n i) }

-- the tape of a site of n pages: one suffix, the first page as its one seed, and the pages in order
abbrev pub site_tape : ℕ → Taped
site_tape n = record {
  suffixes = codes "test";
  seeds = codes "http://s0.test/p0" ∷ [];
  records = map (λ i. (page_url i, Page (page_reply n i))) (range_with_len 0 n);
}
