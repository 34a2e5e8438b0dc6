-- What a crawl's suffixes and fates say of what may be asked of it now.
use Rattle.std.proofs.Common.{◌≡◌, ◌∙◌, ◌↔◌, Bool, true, false, cond, ℕ, ◌+◌, Bor, List, [], ◌∷◌, Option, refl, sym, ap, nat_eq}
use Rattle.std.specs.Prelude.{None, Some, is_some}
use Rattle.std.specs.Option.{option_copied}
use Rattle.std.proofs.lemmas.Bool.{false≢true}
use Rattle.irl_offer.specs.declared.settings.Kind.TheVariants.{Crawl as CrawlKind}
use Rattle.irl_disk.specs.Disk.{Files}
use Rattle.irl_bay.specs.Drum.{Drum}
use Rattle.irl_events.specs.Events.{has_number}
use Rattle.irl_fate.specs.Fates.{done_by, waits_from}
use Rattle.irl_fate.specs.Kept.{is_front}
use Rattle.irl_fate.specs.declared.fate.Fate.{Fate}
use Rattle.irl_fate.specs.declared.fate.Fate.TheVariants.{Fresh, Queue, Last, Front, Done}
use Rattle.irl_offer.specs.declared.outcome.Outcome.{Outcome}
use Rattle.irl_log.specs.Form.{IsSuffixText}
use Rattle.irl_yard.specs.declared.parts.Rest.{Rest}
use Rattle.irl_yard.specs.declared.parts.Rest.TheVariants.{Plain, Crawl}
use Rattle.irl_yard.specs.Adding.{MayBegin}
use Rattle.irl_yard.specs.Holding.{IsOpenRest}
use Rattle.irl_yard.specs.Passing.{fate_in, front_in, suffixes_in}
use Rattle.irl_yard.specs.Sending.{HasBegun}

-- ---- whether it has begun
pub copied_some : (x : Option (Bor (List ℕ))) → is_some x ≡ is_some (option_copied x)
copied_some None = refl
copied_some (Some y) = refl

pub begun_known : (urls : Drum) (rest : Rest) (told : Option Files) → IsOpenRest urls rest told → (found : Bool) → found ≡ is_some (suffixes_in rest) → (found ≡ true) ↔ HasBegun rest
begun_known urls Plain told opened found is = (λ yes. absurd (false≢true (sym is ∙ yes)), λ has. absurd has)
begun_known urls (Crawl ledger) told opened found is =
    let begun = (opened.1 ledger refl).1.begun in
    (λ yes. begun ∙ sym is ∙ yes, λ has. is ∙ sym begun ∙ has)

pub begins_known : (urls : Drum) (rest : Rest) (told : Option Files) → IsOpenRest urls rest told → (found : Bool) → found ≡ is_some (suffixes_in rest) → found ≡ false
    → urls.settings.kind ≡ CrawlKind → (suffixes : List ℕ) → IsSuffixText suffixes → MayBegin rest suffixes
begins_known urls Plain told opened found is fails kind suffixes text = absurd (opened.0 refl kind)
begins_known urls (Crawl ledger) told opened found is fails kind suffixes text = ((opened.1 ledger refl).1.begun ∙ sym is ∙ fails, text)

-- ---- whether a number is in front
not_front : (x : Fate) → is_front x ≡ false → x ≡ Front → ⊥
not_front x fails is = false≢true (sym fails ∙ ap is_front is)

else_front : (b : Bool) (x y : Fate) → is_front x ≡ false → cond b x y ≡ Front → y ≡ Front
else_front true x y fails is = absurd (not_front x fails is)
else_front false x y fails is = is

queue_front : (b : Bool) (k : ℕ) → is_front (cond b Last (Queue k)) ≡ false
queue_front true k = refl
queue_front false k = refl

waits_front : (k : ℕ) (lists : List (List ℕ)) (n : ℕ) (other : Fate) → waits_from k lists n other ≡ Front → other ≡ Front
waits_front k [] n other is = is
waits_front k (list ∷ lists) n other is = waits_front (k + 1) lists n other (else_front (has_number list n) _ _ (queue_front (nat_eq k 64) (k + 1)) is)

done_front : (done : List (ℕ × Outcome)) (n : ℕ) → done_by done n Fresh ≡ Front → ⊥
done_front [] n is = not_front Fresh refl is
done_front (d ∷ done) n is = done_front done n (else_front (nat_eq d.0 n) (Done d.1) _ refl is)

then_front : (b : Bool) (y : Fate) → (y ≡ Front → ⊥) → cond b Front y ≡ Front → b ≡ true
then_front true y fails is = refl
then_front false y fails is = absurd (fails is)

-- and what is in front has that fate
pub front_has : (rest : Rest) (n : ℕ) → has_number (front_in rest) n ≡ true → fate_in rest n ≡ Front
front_has Plain n has = absurd (cc)
front_has (Crawl ledger) n has = let x = ledger.frontier.progress in ap (λ (b : Bool). cond b Front (waits_from 0 x.waiting.lists n (done_by x.done n Fresh))) has

pub in_front : (rest : Rest) (n : ℕ) → fate_in rest n ≡ Front → has_number (front_in rest) n ≡ true
in_front Plain n is = absurd (not_front Fresh refl is)
in_front (Crawl ledger) n is =
    let x = ledger.frontier.progress in
    then_front (has_number x.front n) _ (λ y. done_front x.done n (waits_front 0 x.waiting.lists n _ y)) is
