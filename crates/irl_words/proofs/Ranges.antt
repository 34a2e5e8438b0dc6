-- The values that an option takes lie in its range.
use Rattle.std.proofs.Common.{◌≡◌, ◌⊎◌, ◌∙◌, ◌<◌, ◌≤◌, ◌==◌, ◌&&◌, ◌||◌, ℕ, Bool, not, true, false, zero, suc, List, [], ◌∷◌, length, map, Option, Some, None, IfSome, refl, sym, ap, subst, arith, inl, inr, codes, option_map}
use Rattle.std.specs.Prelude.{slice_get}
use Rattle.std.specs.List.{All, list_all, slice_index_or}
use Rattle.std.specs.Str.{bytes_eq}
use Rattle.std.specs.Borrow.{Bor}
use Rattle.std.proofs.lemmas.Bool.{cases_lt, eqb-true}
use Rattle.std.proofs.lemmas.List.Elements.{All-get_or}
use Rattle.std.proofs.lemmas.Slice.Eq.{bytes_eq-Decides}
use Rattle.clap.specs.Built.{IsParsedFrom, IsAuto, SameRules}
use Rattle.clap.specs.Facts.{Entry, EntryPasses, HasReading, PassesArg, args_of, groups_of, parser_of, parser_of_value}
use Rattle.clap.specs.Simple.{Shape, has_simple_rules, shape_of}
use Rattle.clap.specs.Walk.{Rule, rule_of}
use Rattle.clap.specs.Words.{Accepts, IsUnsignedIn, found_of, matched_of, one_text, read_as, reading_of}
use Rattle.clap.specs.declared.builder.arg.Arg.{Arg}
use Rattle.clap.specs.declared.builder.command.Command.{Command}
use Rattle.clap.specs.declared.builder.value_parser.Reading.{Reading}
use Rattle.clap.specs.declared.builder.value_parser.Reading.TheVariants.{AsWritten}
use Rattle.clap.specs.declared.builder.value_parser.ValueParser.{ValueParser}
use Rattle.clap.specs.declared.builder.value_parser.ValueParser.TheVariants.{Unsigned}
use Rattle.clap.specs.declared.parser.matches.ArgMatches.{ArgMatches}
use Rattle.clap.specs.declared.parser.matches.MatchedArg.{MatchedArg}
use Rattle.clap.proofs.CallerLemmas.{entry_by_id}
use Rattle.clap.proofs.SimpleLemmas.{HasPlainFields, plain_fields, simple_groups}
use Rattle.clap.proofs.WalkLemmas.{both}

-- the parser takes the numbers of a range
abbrev pub is_between : ℕ → ℕ → Option ValueParser → Bool
is_between least most (Some (Unsigned a b)) = (a == least) && (b == most)
is_between least most _ = false

-- an option of this id does
abbrev pub takes_between : List ℕ → ℕ → ℕ → Rule → Bool
takes_between id least most r = not (bytes_eq r.id id) || is_between least most r.parser

parser_between : (least most : ℕ) (p : Option ValueParser) → is_between least most p ≡ true → p ≡ Some (Unsigned least most)
parser_between least most (Some (Unsigned a b)) e =
    let least_is : a ≡ least = eqb-true a least (both _ _ e).0 in
    let most_is : b ≡ most = eqb-true b most (both _ _ e).1 in
    rw (least_is, most_is) refl
parser_between least most _ e = cc

by_id : (b c : Bool) → (not b || c) ≡ true → b ≡ true → c ≡ true
by_id true c e f = e
by_id false c e f = cc

each_between : (id : List ℕ) (least most : ℕ) (xs : List Arg) → list_all (takes_between id least most) (map rule_of xs) ≡ true
    → All (λ a. takes_between id least most (rule_of a) ≡ true) xs
each_between id least most [] e k d lt = absurd (omega arith)
each_between id least most (x ∷ xs) e zero d lt = (both _ _ e).0
each_between id least most (x ∷ xs) e (suc k) d lt = each_between id least most xs (both _ _ e).1 k d (omega arith)

-- what building keeps of an option: one of this id takes those numbers
built_parser : (old : Command) (m : ArgMatches) (p : IsParsedFrom old m) (id : List ℕ) (least most : ℕ)
    → list_all (takes_between id least most) (shape_of old).rules ≡ true
    → bytes_eq (codes "help") id ≡ false → bytes_eq (codes "version") id ≡ false
    → (k : ℕ) (x : Arg) → k < length (args_of p.built) → slice_index_or (args_of p.built) k x ≡ x → bytes_eq x.id.now id ≡ true
    → parser_of x ≡ Unsigned least most
built_parser old m p id least most each help version k x lt at same = go (cases_lt k (length (args_of old)))
  where
    named : bytes_eq (slice_index_or (args_of p.built) k x).id.now id ≡ true
    named = rw at same

    auto : IsAuto (slice_index_or (args_of p.built) k x) → parser_of x ≡ Unsigned least most
    auto (inl e) = let bad : false ≡ true = sym help ∙ (ap (λ t. bytes_eq t id) (sym e) ∙ named) in cc
    auto (inr e) = let bad : false ≡ true = sym version ∙ (ap (λ t. bytes_eq t id) (sym e) ∙ named) in cc

    kept : SameRules (slice_index_or (args_of old) k x) (slice_index_or (args_of p.built) k x) → k < length (args_of old)
        → parser_of x ≡ Unsigned least most
    kept s below =
        let here = each_between id least most (args_of old) each k x below in
        let was : bytes_eq (slice_index_or (args_of old) k x).id.now id ≡ true = subst (λ t. bytes_eq t.now id ≡ true) s.id named in
        let parser = parser_between least most (slice_index_or (args_of old) k x).value_parser (by_id _ _ here was) in
        ap parser_of (sym at) ∙ ap parser_of_value (s.parser (Unsigned least most) parser)

    go : ((k < length (args_of old)) ⊎ (length (args_of old) ≤ k)) → parser_of x ≡ Unsigned least most
    go (inl below) = kept (p.from.kept k x below).1 below
    go (inr past) = auto (p.from.extra k x past lt)

-- a command whose rules are simple is plain, and so is each rule
simple_parts : (s : Shape) → has_simple_rules s ≡ true → (s.is_plain ≡ true) × (list_all (λ (a : Rule). a.is_simple) s.rules ≡ true)
simple_parts s e = both _ _ e

first_passes : (P : Bor (List ℕ) → Type 0) (Q : List ℕ → Type 0) (vs : List (Bor (List ℕ))) → All P vs → ((v : Bor (List ℕ)) → P v → Q v.now)
    → IfSome (option_map (λ s. s.now) (slice_get vs 0)) Q
first_passes P Q [] all to = tt
first_passes P Q (v ∷ vs) all to = to v (All-get_or P (v ∷ vs) 0 v (omega arith) all)

-- After a parse the value of an option that takes the numbers of a range, where it has one, is such a number.
pub value_in_range : (old : Command) (m : ArgMatches) → IsParsedFrom old m → has_simple_rules (shape_of old) ≡ true
    → (id : List ℕ) (least most : ℕ) → 0 < length id → list_all (takes_between id least most) (shape_of old).rules ≡ true
    → bytes_eq (codes "help") id ≡ false → bytes_eq (codes "version") id ≡ false
    → IfSome (one_text (found_of m) id) (IsUnsignedIn least most)
value_in_range old m p simple id least most named each help version = go (matched_of (found_of m) id) refl
  where
    plain : HasPlainFields old
    plain = plain_fields old (simple_parts (shape_of old) simple).0

    no_groups : groups_of p.built ≡ []
    no_groups = (p.from.same_groups (simple_groups old (simple_parts (shape_of old) simple).1)).1 ∙ plain.groups

    parser : (k : ℕ) (x : Arg) → k < length (args_of p.built) → slice_index_or (args_of p.built) k x ≡ x → bytes_eq x.id.now id ≡ true
        → parser_of x ≡ Unsigned least most
    parser = built_parser old m p id least most each help version

    accepted : (v : Bor (List ℕ)) → PassesArg p.built id v.now → IsUnsignedIn least most v.now
    accepted v (k, x, lt, at, (same, pass)) =
        subst (λ (q : ValueParser). Accepts x.ignore_case q v.now) (parser k x lt at same) pass

    as_written : (r : Reading) → HasReading p.built id r → r ≡ AsWritten
    as_written r (k, x, lt, at, (same, is)) = sym is ∙ ap reading_of (parser k x lt at same)

    entry : (a : MatchedArg) (e : Entry) → e.1 ≡ a → e.0.now ≡ id → EntryPasses p.built e
        → IfSome (option_map (λ s. read_as a.reading s.now) (slice_get a.vals.items 0)) (IsUnsignedIn least most)
    entry a e is key pass =
        let no_group : e.1.is_group ≡ true → ⊥ = λ g. elim (pass.3 g) [
          | inl empty ↦
              let none : length id ≡ 0 = ap length (sym key ∙ empty) in
              omega arith
          | inr lots ↦
              let bad : 0 < 0 = rw no_groups at lots in
              omega arith
        ] in
        let values : All (λ v. PassesArg p.built id v.now) a.vals.items = elim pass.0 [
          | inl g ↦ absurd (no_group g)
          | inr vals ↦ subst (λ (w : List ℕ). All (λ v. PassesArg p.built w v.now) a.vals.items) key (rw is at vals)
        ] in
        let reading : a.reading ≡ AsWritten = elim pass.4 [
          | inl g ↦ absurd (no_group g)
          | inr h ↦ as_written a.reading (subst (λ (w : List ℕ). HasReading p.built w a.reading) key (rw is at h))
        ] in
        rw reading (first_passes (λ v. PassesArg p.built id v.now) (IsUnsignedIn least most) a.vals.items values accepted)

    go : (o : Option MatchedArg) → matched_of (found_of m) id ≡ o → IfSome (one_text (found_of m) id) (IsUnsignedIn least most)
    go None e = rw e tt
    go (Some a) e =
        let got = entry_by_id (EntryPasses p.built) (found_of m).entries.items id a (p.parsed (p.from.globals ∙ plain.globals)).values e in
        rw e (entry a got.0 got.1 ((bytes_eq-Decides got.0.0.now id).0 got.2) got.3)
