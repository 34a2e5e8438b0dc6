-- The last commit of a book's: that of the book itself.
use Rattle.std.proofs.Common.{◌≡◌, ◌∙◌, ℕ, suc, zero, ◌+◌, List, [], ◌∷◌, length, map, get_or, refl, sym, ap, subst, arith}
use Rattle.std.proofs.lemmas.List.{length-map, nil_from_length}
use Rattle.std.specs.Prelude.{filter}
use Rattle.std.specs.List.{enumerate_from}
use Rattle.irl_offer.specs.Tuple.{Tuple}
use Rattle.irl_offer.specs.declared.receipt.Judged.{Judged as JudgedOffer}
use Rattle.irl_offer.specs.declared.settings.Settings.{Settings}
use Rattle.irl_model.specs.Judging.{judgements}
use Rattle.irl_model.specs.Book.{Book, last_cut, judged, judged_offers, judged_as, is_unique, gone, stretches, with_cuts}
use Rattle.irl_model.proofs.JudgingLaws.{length-judgements}
use Rattle.irl_model.proofs.Merges.{earlier_all}
use Rattle.irl_layout.specs.Commits.{Commit, IsCommitOf, AreCommitsOf, first_commit, last_commit}
use Rattle.irl_layout.specs.Runs.{texts_of}
use Rattle.irl_bay.specs.Standing.{IsBookOf}

last_at : (first : Commit) (commits : List Commit) (n : ℕ) (d : Commit) → length commits ≡ n + 1 → last_commit first commits ≡ get_or commits n d
last_at first [] n d long = absurd (omega (arith, long))
last_at first (commit ∷ []) zero d long = refl
last_at first (commit ∷ []) (suc n) d long = absurd (omega (arith, long))
last_at first (commit ∷ other ∷ commits) zero d long = absurd (omega (arith, long))
last_at first (commit ∷ other ∷ commits) (suc n) d long = last_at commit (other ∷ commits) n d (omega (arith, long))

-- where no cut is kept, nothing is judged
nothing_judged : (book : Book) → book.cuts ≡ [] → judged book ≡ []
nothing_judged book none =
    let offers : judged_offers book ≡ [] = ap (λ (cuts : List (List ℕ)). stretches book.firsts book.firsts cuts book.lists) none in
    let few : length (judged book) ≡ 0 = length-map (judgements book.rule book.base (judged_offers book)) (judged_as book.buckets) ∙ length-judgements book.rule book.base (judged_offers book)
    ∙ ap (λ (l : List Tuple). length l) offers in
    nil_from_length (judged book) few

pub first_of : (settings : Settings) (book : Book) → IsBookOf settings book → book.cuts ≡ [] → IsCommitOf book (first_commit book.buckets)
first_of settings book is none =
    let no_judged = nothing_judged book none in
    record {
      judged = ap (λ (l : List JudgedOffer). length l) (sym no_judged);
      unique = ap (λ (l : List JudgedOffer). length {A = ℕ × Tuple} (map (λ p. (p.0, p.1.offer)) (filter (λ p. is_unique p.1.verdict) (enumerate_from (gone book) l)))) (sym no_judged);
      texts = ap (λ (cuts : List (List ℕ)). length (texts_of (stretches book.firsts book.firsts cuts book.lists))) (sym none);
      cut = sym (is.is_book.none is.dropped).1 ∙ ap (λ (cuts : List (List ℕ)). last_cut book.firsts cuts) (sym none);
    }

pub last_of_book : (settings : Settings) (book : Book) (commits : List Commit) → IsBookOf settings book → AreCommitsOf book commits → IsCommitOf book (last_commit (first_commit book.buckets) commits)
last_of_book settings book [] is are = first_of settings book is (nil_from_length book.cuts (omega (arith, are.count)))
last_of_book settings book (commit ∷ commits) is are =
    let n : ℕ = length commits in
    let whole : with_cuts (n + 1) book ≡ book = earlier_all (n + 1) book (omega (arith, are.count)) in
    let last = are.each n (omega arith) in
    subst (λ (x : Commit). IsCommitOf book x) (sym (last_at (first_commit book.buckets) (commit ∷ commits) n (first_commit book.buckets) (omega arith)))
    (subst (λ (b : Book). IsCommitOf b (get_or (commit ∷ commits) n (first_commit book.buckets))) whole last)
