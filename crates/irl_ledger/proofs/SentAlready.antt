-- Pairs that are sent already: where nothing is pending in their bay, sending them again leaves its book.
use Rattle.std.proofs.Common.{◌≡◌, ◌∙◌, ℕ, zero, suc, ◌-◌, ◌<◌, ◌≤◌, true, List, [], ◌∷◌, ◌++◌, length, drop, length-append, refl, sym, ap, subst, append-nil, arith}
use Rattle.std.specs.Prelude.{is_some, unwrap_or}
use Rattle.std.proofs.lemmas.List.{get_or_default, same_lists}
use Rattle.irl_offer.specs.declared.offer.Rule.{Rule}
use Rattle.irl_offer.specs.declared.receipt.Judged.{Judged}
use Rattle.irl_offer.specs.declared.settings.Settings.{Settings}
use Rattle.irl_offer.specs.Tuple.{Tuple}
use Rattle.irl_key.specs.Key.{key_of}
use Rattle.irl_model.specs.Book.{AreCuts, Book, IsBelow, IsPrefixOf, gone, judged, judged_cut, judged_offers, last_cut, lengths_of, list_lengths, part}
use Rattle.irl_model.specs.Judging.{KeyMap}
use Rattle.irl_model.proofs.FrontLaws.{below_end}
use Rattle.irl_model.proofs.Merges.{earlier_all, length-judged}
use Rattle.irl_events.specs.Events.{Happened, progress}
use Rattle.irl_core.specs.States.{begun_with, cut_count}
use Rattle.irl_bay.specs.Standing.{IsBookOf}
use Rattle.irl_schedule.specs.Feeding.{list_at}
use Rattle.irl_ledger.specs.Crawling.{IsCrawlState, domain_of, pair_settings}
use Rattle.irl_ledger.specs.Sending.{MayBeSent, links_of, new_links}
use Rattle.irl_ledger.proofs.LastSent.{prefixes_at, sent_last}
use Rattle.irl_ledger.proofs.Reading.{none_gone}

-- ---- books that are the same
none_left : {X : Type 0} (xs ys : List X) → IsPrefixOf xs ys → IsPrefixOf ys (xs ++ []) → ys ≡ xs
none_left {X = X} xs ys one two =
    let first = ap length one.1 in
    let second = ap length two.1 in
    let none : length one.0 ≡ 0 = omega (arith, first, second, length-append xs one.0, length-append ys two.0, length-append xs []) in
    one.1 ∙ ap (λ (l : List X). xs ++ l) (nothing one.0 none) ∙ append-nil xs
  where
    nothing : (zs : List X) → length zs ≡ 0 → zs ≡ []
    nothing [] is = refl
    nothing (z ∷ zs) is = absurd (omega (arith, is))

below_same : (xs ys : List ℕ) → IsBelow xs ys → IsBelow ys xs → xs ≡ ys
below_same [] [] one two = refl
below_same [] (y ∷ ys) one two = absurd one
below_same (x ∷ xs) [] one two = absurd one
below_same (x ∷ xs) (y ∷ ys) one two =
    let first : x ≡ y = omega (arith, one.0, two.0) in
    let rest : xs ≡ ys = below_same xs ys one.1 two.1 in
    cc

-- the cuts behind others
cuts_behind : (from end : List ℕ) (cuts more : List (List ℕ)) → AreCuts from (cuts ++ more) end → AreCuts (last_cut from cuts) more end
cuts_behind from end [] more are = are
cuts_behind from end (cut ∷ cuts) more are = cuts_behind cut end cuts more are.2

no_cut : (from end : List ℕ) (more : List (List ℕ)) → from ≡ end → AreCuts from more end → more ≡ []
no_cut from end [] same are = refl
no_cut from end (cut ∷ cuts) same are = absurd (are.1 (below_same from cut are.0 (subst (λ (l : List ℕ). IsBelow cut l) (sym same) (below_end cut end cuts are.2))))

same_fields : (x y : Book) → y.buckets ≡ x.buckets → y.rule ≡ x.rule → y.base ≡ x.base → y.dropped ≡ x.dropped → y.firsts ≡ x.firsts → y.lists ≡ x.lists → y.cuts ≡ x.cuts → y ≡ x
same_fields x y buckets rule base dropped firsts lists cuts =
    ap (λ (v : ℕ). record y { buckets = v }) buckets ∙ ap (λ (v : Rule). record y { buckets = x.buckets; rule = v }) rule
    ∙ ap (λ (v : KeyMap). record y { buckets = x.buckets; rule = x.rule; base = v }) base
    ∙ ap (λ (v : ℕ). record y { buckets = x.buckets; rule = x.rule; base = x.base; dropped = v }) dropped
    ∙ ap (λ (v : List ℕ). record y { buckets = x.buckets; rule = x.rule; base = x.base; dropped = x.dropped; firsts = v }) firsts
    ∙ ap (λ (v : List (List Tuple)). record y { buckets = x.buckets; rule = x.rule; base = x.base; dropped = x.dropped; firsts = x.firsts; lists = v }) lists
    ∙ ap (λ (v : List (List ℕ)). record y { buckets = x.buckets; rule = x.rule; base = x.base; dropped = x.dropped; firsts = x.firsts; lists = x.lists; cuts = v }) cuts

-- a book that may be sent where no link is new and nothing is pending
pub same_book : (settings : Settings) (urls pairs : Book) (events : List Happened) (book : Book) → IsBookOf (pair_settings settings) pairs → MayBeSent settings urls pairs events book
    → new_links settings urls events ≡ [] → judged_cut pairs ≡ lengths_of pairs → book ≡ pairs
same_book settings urls pairs events book is may none all =
    let front = may.front in
    let lists : book.lists ≡ pairs.lists = same_lists book.lists pairs.lists (omega (arith, may.book_is.is_book.lists, is.is_book.lists, front.buckets)) (λ b d within.
    let inside : b < settings.buckets = omega (arith, within, may.book_is.is_book.lists, may.book_is.buckets) in
    let there : b < length pairs.lists = omega (arith, inside, is.is_book.lists, is.buckets) in
    let takes = subst (λ (l : List Tuple). IsPrefixOf (list_at book b) (list_at pairs b ++ part settings.buckets b l)) none (may.takes b inside) in
    get_or_default book.lists b d [] within ∙ none_left (list_at pairs b) (list_at book b) (prefixes_at pairs.lists book.lists b front.lists there) takes ∙ get_or_default pairs.lists b [] d there) in
    let lengths : lengths_of book ≡ lengths_of pairs = ap (λ (f : List ℕ). list_lengths f book.lists) front.firsts ∙ ap (λ (l : List (List Tuple)). list_lengths pairs.firsts l) lists in
    let cuts = subst (λ (end : List ℕ). AreCuts pairs.firsts (pairs.cuts ++ front.cuts.0) end) lengths
    (subst (λ (l : List (List ℕ)). AreCuts pairs.firsts l (lengths_of book)) front.cuts.1 (subst (λ (f : List ℕ). AreCuts f book.cuts (lengths_of book)) front.firsts may.book_is.is_book.cuts)) in
    let more = no_cut (judged_cut pairs) (lengths_of pairs) front.cuts.0 all (cuts_behind pairs.firsts (lengths_of pairs) pairs.cuts front.cuts.0 cuts) in
    same_fields pairs book front.buckets front.rule front.base front.dropped front.firsts lists (front.cuts.1 ∙ ap (λ (l : List (List ℕ)). pairs.cuts ++ l) more ∙ append-nil pairs.cuts)

-- no link is new where the pairs of all cuts were sent
pub none_new : (settings : Settings) (urls pairs : Book) (events : List Happened) → IsBookOf settings urls → IsCrawlState settings urls pairs events → is_some (begun_with events) ≡ true
    → (progress settings.queues settings.buckets events).cuts ≡ cut_count urls → new_links settings urls events ≡ []
none_new settings urls pairs events urls_are state begun same =
    let x = progress settings.queues settings.buckets events in
    let none = none_gone settings urls urls_are in
    let sent = sent_last (domain_of (unwrap_or (begun_with events) [])) key_of settings urls pairs events urls_are.dropped none state.legal.each in
    let all = ap (λ (b : Book). length (judged_offers b)) (earlier_all (x.cuts - urls.dropped) urls (omega (arith, same))) in
    let past : length (judged urls) ≤ x.sent - gone urls = omega (arith, sent.counted, all, length-judged urls, none) in
    ap (λ (l : List Judged). links_of (unwrap_or (begun_with events) []) l) (drop_all (x.sent - gone urls) (judged urls) past)
  where
    drop_all : (n : ℕ) (xs : List Judged) → length xs ≤ n → drop n xs ≡ []
    drop_all zero [] le = refl
    drop_all (suc n) [] le = refl
    drop_all zero (x ∷ xs) le = absurd (omega (arith, le))
    drop_all (suc n) (x ∷ xs) le = drop_all n xs (omega (arith, le))
