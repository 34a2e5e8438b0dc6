-- What the fetchers of a tape give is what the tape gives, and what some over the first ports give is what all ports tell.
use Rattle.std.proofs.Common.{◌≡◌, ◌∙◌, ℕ, zero, suc, List, [], ◌∷◌, ◌++◌, ◌+◌, ◌≤◌, length, take, drop, map, Option, None, Some, refl, sym, ap, subst, arith}
use Rattle.std.specs.Prelude.{slice_get}
use Rattle.std.specs.List.{All}
use Rattle.std.proofs.lemmas.List.{drop_at, length-map, length-take-le, take-append-drop, take_at}
use Rattle.std.proofs.lemmas.List.Elements.{All-get_or}
use Rattle.std.proofs.lemmas.Option.{get_or_from_slice_get, slice_get_within}
use Rattle.irl_crawl.specs.Workers.{AllGoOn, Given, IsGivenBy, RoseBetween, given_by, made_by}
use Rattle.irl_fetch.proofs.Telling.{rose_none}
use Rattle.irl_http.specs.declared.link.Connection.{Connection}
use Rattle.irl_record.specs.Fetched.{Playing, by_tape}
use Rattle.irl_record.specs.Taped.{Taped, answer_of, record_at}
use Rattle.irl_record.specs.Widening.{Answers, Widens}
use Rattle.irl_record.specs.Wired.{Wired, by_wire, how_many}
use Rattle.irl_top.specs.Crawled.{given_by_ports as ports_give, given_by_tape as tape_gives, playing_at_first}
use Rattle.irl_top.specs.Ports.{Port, aimed, aimed_all, given_on, port_of, ports_of}

-- ---- what is given
-- one gives all that another does, may miss as many answers, and made no more connections for them
pub record GivesMore (old new : Given) : Type 0 where
  pub wider : Widens old.gives new.gives
  pub missed : (n : ℕ) → old.may_miss n → new.may_miss n
  pub made : new.made ≤ old.made

pub gives_same : (given : Given) → GivesMore given given
gives_same given = record { wider = λ url want answer is. is; missed = λ n is. is; made = omega arith }

-- no count need rise where none was missed
pub none_rose : {F : Type 0} (faults : F → ℕ) (fs : List F) → RoseBetween faults fs fs 0
none_rose faults [] = refl
none_rose faults (f ∷ fs) = (0, 0, omega arith, rose_none (faults f) (faults f) (omega arith), none_rose faults fs)

-- ---- tapes
-- the fetchers of a list are all the same one
is_first : (start : Playing) (olds : List Playing) (at : ℕ) (old : Playing) → All (λ f. f ≡ start) olds → slice_get olds at ≡ Some old → old ≡ start
is_first start olds at old all was =
    sym (get_or_from_slice_get olds at old old was) ∙ All-get_or (λ f. f ≡ start) olds at old (slice_get_within olds at old was) all

given_by_players : (tape : Taped) (olds news : List Playing) → All (λ f. f ≡ playing_at_first tape) olds
    → AllGoOn (λ _. None) (λ f _. by_tape f.tape) (λ f. f.faults) (λ f. f.moment) (λ _. []) olds news
    → Widens (IsGivenBy (λ _. None) (λ f _. by_tape f.tape) olds news) (by_tape tape)
given_by_players tape olds news first all url want answer given =
    let goes = all.each given.at given.old given.new given.was given.is in
    let same : given.old ≡ playing_at_first tape = is_first (playing_at_first tape) olds given.at given.old first given.was in
    let still : answer_of (record_at given.old.tape.records url) ≡ answer_of (record_at given.new.tape.records url) = goes.wider 0 url want (answer_of (record_at given.old.tape.records url)) refl in
    given.given ∙ sym still ∙ ap (λ (f : Playing). answer_of (record_at f.tape.records url)) same

pub more_by_tape : (tape : Taped) (olds news : List Playing) → All (λ f. f ≡ playing_at_first tape) olds
    → AllGoOn (λ _. None) (λ f _. by_tape f.tape) (λ f. f.faults) (λ f. f.moment) (λ _. []) olds news
    → GivesMore (given_by (λ _. None) (λ f _. by_tape f.tape) (λ f. f.faults) olds news) (tape_gives tape)
more_by_tape tape olds news first all = record { wider = given_by_players tape olds news first all; missed = λ n missed. tt; made = omega arith }

-- ---- ports
map_at : {A B : Type 0} (f : A → B) (xs : List A) (at : ℕ) (x : A) → slice_get xs at ≡ Some x → slice_get (map f xs) at ≡ Some (f x)
map_at f [] at x is = let no : ⊥ = cc in absurd no
map_at f (y ∷ ys) zero x is = let same : y ≡ x = cc in ap (λ z. Some (f z)) same
map_at f (y ∷ ys) (suc at) x is = map_at f ys at x is

-- an element of a list of images is the image of one
mapped_at : {A B : Type 0} (f : A → B) (xs : List A) (at : ℕ) (y : B) → slice_get (map f xs) at ≡ Some y → (x : A) × (slice_get xs at ≡ Some x) × (y ≡ f x)
mapped_at f [] at y is = let no : ⊥ = cc in absurd no
mapped_at f (x ∷ xs) zero y is = let same : y ≡ f x = cc in (x, refl, same)
mapped_at f (x ∷ xs) (suc at) y is = mapped_at f xs at y is

front_of : {A : Type 0} (xs more : List A) (at : ℕ) (x : A) → slice_get xs at ≡ Some x → slice_get (xs ++ more) at ≡ Some x
front_of [] more at x is = let no : ⊥ = cc in absurd no
front_of (y ∷ xs) more zero x is = is
front_of (y ∷ xs) more (suc at) x is = front_of xs more at x is

heads : {A : Type 0} (x y : A) (xs ys : List A) → x ∷ xs ≡ y ∷ ys → (x ≡ y) × (xs ≡ ys)
heads x y xs ys is = (cc, cc)

module _ {P : Type 0} (connections : P → Option (List Connection)) (faults : P → ℕ) where
  abbrev pub told : Wired P → ℕ → Answers
  told f since = by_wire f.number f.agent (faults f.port) (connections f.port) since

  -- fetchers over ports go on
  abbrev pub WiresGoOn : List (Wired P) → List (Wired P) → Type 0
  WiresGoOn olds news = AllGoOn (λ f. connections f.port) told (λ f. faults f.port) (λ f. f.last) (λ f. f.number ∷ f.agent) olds news

  -- the first of some ports are aimed, and each is one that was asked
  given_by_ports : (number : ℕ) (agent : List ℕ) (front news rest : List (Wired P)) → WiresGoOn (aimed_all number agent front) news
      → Widens (IsGivenBy (λ f. connections f.port) told (aimed_all number agent front) news)
      (given_on number agent (ports_of connections faults (front ++ rest)) (ports_of connections faults (news ++ rest)))
  given_by_ports number agent front news rest all url want answer given =
      let goes = all.each given.at given.old given.new given.was given.is in
      let found = mapped_at (aimed number agent) front given.at given.old given.was in
      let old : Wired P = found.0 in
      let was : given.old ≡ record old { number = number; agent = agent } = found.2 in
      let aims = heads given.new.number given.old.number given.new.agent given.old.agent goes.aim in
      let to : given.new.number ≡ number = aims.0 ∙ ap (λ (f : Wired P). f.number) was in
      let by : given.new.agent ≡ agent = aims.1 ∙ ap (λ (f : Wired P). f.agent) was in
      let since : how_many (connections given.old.port) ≡ how_many (connections old.port) = ap (λ (f : Wired P). how_many (connections f.port)) was in
      let new = given.new in
      let one = subst (λ (n : ℕ). by_wire n new.agent (faults new.port) (connections new.port) (how_many (connections given.old.port)) url want answer) to given.given in
      let two = subst (λ (a : List ℕ). by_wire number a (faults new.port) (connections new.port) (how_many (connections given.old.port)) url want answer) by one in
      let three = subst (λ (n : ℕ). by_wire number agent (faults new.port) (connections new.port) n url want answer) since two in
      record {
        at = given.at;
        old = port_of connections faults old;
        new = port_of connections faults new;
        was = map_at (port_of connections faults) (front ++ rest) given.at old (front_of front rest given.at old found.1);
        is = map_at (port_of connections faults) (news ++ rest) given.at new (front_of news rest given.at new given.is);
        given = three;
      }

  -- the counts of some rose as those of all, the others staying
  front_rose : (number : ℕ) (agent : List ℕ) (front news rest : List (Wired P)) (n : ℕ) → length news ≡ length front
      → RoseBetween (λ (f : Wired P). faults f.port) (aimed_all number agent front) news n
      → RoseBetween (λ (port : Port). port.faults) (ports_of connections faults (front ++ rest)) (ports_of connections faults (news ++ rest)) n
  front_rose number agent [] [] rest n count rose =
      subst (λ (k : ℕ). RoseBetween (λ (port : Port). port.faults) (ports_of connections faults rest) (ports_of connections faults rest) k) (sym rose)
      (none_rose (λ (port : Port). port.faults) (ports_of connections faults rest))
  front_rose number agent [] (new ∷ news) rest n count rose = absurd (omega (arith, count))
  front_rose number agent (old ∷ front) [] rest n count rose = absurd (omega (arith, count))
  front_rose number agent (old ∷ front) (new ∷ news) rest n count rose = (
    rose.0,
    rose.1,
    rose.2,
    rose.3,
    front_rose number agent front news rest rose.1 (omega (arith, count)) rose.4,
  )

  -- what all made is what the first made, and what the others made
  made_apart : (front rest : List (Wired P))
      → made_by (λ (port : Port). port.connections) (ports_of connections faults (front ++ rest))
      ≡ made_by (λ (f : Wired P). connections f.port) front + made_by (λ (port : Port). port.connections) (ports_of connections faults rest)
  made_apart [] rest = omega arith
  made_apart (f ∷ front) rest = omega (arith, made_apart front rest)

  made_aimed : (number : ℕ) (agent : List ℕ) (front : List (Wired P))
      → made_by (λ (f : Wired P). connections f.port) (aimed_all number agent front) ≡ made_by (λ (f : Wired P). connections f.port) front
  made_aimed number agent [] = refl
  made_aimed number agent (f ∷ front) = ap (λ (k : ℕ). how_many (connections f.port) + k) (made_aimed number agent front)

  front_made : (number : ℕ) (agent : List ℕ) (front news rest : List (Wired P))
      → (ports_give number agent (ports_of connections faults (front ++ rest)) (ports_of connections faults (news ++ rest))).made
      ≤ (given_by (λ f. connections f.port) told (λ f. faults f.port) (aimed_all number agent front) news).made
  front_made number agent front news rest = omega (arith, made_apart front rest, made_apart news rest, made_aimed number agent front)

  -- the first of some ports are aimed, and crawl
  more_by_first : (number : ℕ) (agent : List ℕ) (n : ℕ) (ports news : List (Wired P)) → WiresGoOn (aimed_all number agent (take n ports)) news
      → GivesMore (given_by (λ f. connections f.port) told (λ f. faults f.port) (aimed_all number agent (take n ports)) news)
      (ports_give number agent (ports_of connections faults ports) (ports_of connections faults (news ++ drop n ports)))
  more_by_first number agent n ports news all =
      let front = take n ports in
      let count : length news ≡ length front = all.count ∙ length-map front (aimed number agent) in
      subst (λ (l : List (Wired P)). GivesMore (given_by (λ f. connections f.port) told (λ f. faults f.port) (aimed_all number agent (take n ports)) news)
      (ports_give number agent (ports_of connections faults l) (ports_of connections faults (news ++ drop n ports)))) (take-append-drop n ports)
      (record {
        wider = given_by_ports number agent front news (drop n ports) all;
        missed = λ k rose. front_rose number agent front news (drop n ports) k count rose;
        made = front_made number agent front news (drop n ports);
      })

  -- as many are aimed as there are to be
  aimed_long : (number : ℕ) (agent : List ℕ) (n : ℕ) (ports front : List (Wired P)) → n ≤ length ports → front ≡ aimed_all number agent (take n ports) → length front ≡ n
  aimed_long number agent n ports front few is = ap length is ∙ length-map (take n ports) (aimed number agent) ∙ length-take-le n ports few

  aimed_front : (number : ℕ) (agent : List ℕ) (n : ℕ) (ports front : List (Wired P)) → n ≤ length ports → front ≡ aimed_all number agent (take n ports)
      → take n (front ++ drop n ports) ≡ aimed_all number agent (take n ports)
  aimed_front number agent n ports front few is = take_at front (drop n ports) n (aimed_long number agent n ports front few is) ∙ is

  pub aimed_rest : (number : ℕ) (agent : List ℕ) (n : ℕ) (ports front : List (Wired P)) → n ≤ length ports → front ≡ aimed_all number agent (take n ports)
      → drop n (front ++ drop n ports) ≡ drop n ports
  aimed_rest number agent n ports front few is = drop_at front (drop n ports) n (aimed_long number agent n ports front few is)

  -- so many of some ports are aimed, and then so many crawl
  pub aimed_go : (number : ℕ) (agent : List ℕ) (n : ℕ) (ports front news : List (Wired P)) → n ≤ length ports → front ≡ aimed_all number agent (take n ports)
      → WiresGoOn (take n (front ++ drop n ports)) news → WiresGoOn (aimed_all number agent (take n ports)) news
  aimed_go number agent n ports front news few is all = subst (λ (l : List (Wired P)). WiresGoOn l news) (aimed_front number agent n ports front few is) all

  pub more_by_aimed : (number : ℕ) (agent : List ℕ) (n : ℕ) (ports front news : List (Wired P)) → n ≤ length ports → front ≡ aimed_all number agent (take n ports)
      → WiresGoOn (take n (front ++ drop n ports)) news
      → GivesMore (given_by (λ f. connections f.port) told (λ f. faults f.port) (take n (front ++ drop n ports)) news)
      (ports_give number agent (ports_of connections faults ports) (ports_of connections faults (news ++ drop n (front ++ drop n ports))))
  more_by_aimed number agent n ports front news few is all =
      subst (λ (l : List (Wired P)). GivesMore (given_by (λ f. connections f.port) told (λ f. faults f.port) (take n (front ++ drop n ports)) news)
      (ports_give number agent (ports_of connections faults ports) (ports_of connections faults (news ++ l)))) (sym (aimed_rest number agent n ports front few is))
      (subst (λ (l : List (Wired P)). GivesMore (given_by (λ f. connections f.port) told (λ f. faults f.port) l news)
      (ports_give number agent (ports_of connections faults ports) (ports_of connections faults (news ++ drop n ports)))) (sym (aimed_front number agent n ports front few is))
      (more_by_first number agent n ports news (aimed_go number agent n ports front news few is all)))
