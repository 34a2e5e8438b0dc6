-- The domain of a host has one label more than the longest listed name that the host ends in.
use Rattle.std.proofs.Common.{◌≡◌, ℕ, ◌+◌, ◌-◌, ◌<◌, ◌≤◌, take, Bool, true, false, cond, ◌==◌, ◌||◌, ◌⊎◌, List, [], ◌∷◌, ◌++◌, length, Option, Some, None, sym, refl, ap, ◌∙◌, subst, inl, inr, ⊎_elim, arith, append_assoc, length-append}
use Rattle.std.specs.Prelude.{slice_index}
use Rattle.std.specs.List.{find}
use Rattle.std.proofs.lemmas.List.{length-take}
use Rattle.std.proofs.lemmas.Bool.{cond-true, cond-false, cases_Bool, true≢false, false≢true}
use Rattle.std.proofs.lemmas.Bool.Decides.{nat_tests}
use Rattle.irl_pld.specs.Cut.{cut}
use Rattle.irl_pld.specs.Names.{is_listed}
use Rattle.irl_pld.specs.Domains.{tails, tails_left, is_address, one_more, domain_of, without_port, without_last_dot, bare}
use Rattle.irl_pld.specs.Longest.{HasNoDot, EndsIn, IsSuffix, IsLongestSuffix, IsOneMore, IsOwn, IsDomain}
use Rattle.irl_pld.proofs.CutLemmas.{tails-cut, length-cut_front}

-- ---- the first tail

first_by : (b : ℕ) (bytes rest : List ℕ) (test : Bool) → (b == 46) ≡ test → ((cut 46 bytes).1 ≡ Some rest → bytes ≡ (cut 46 bytes).0 ++ 46 ∷ rest)
    → (cond {A = List ℕ × Option (List ℕ)} test ([], Some bytes) (b ∷ (cut 46 bytes).0, (cut 46 bytes).1)).1 ≡ Some rest
    → b ∷ bytes ≡ (cond {A = List ℕ × Option (List ℕ)} test ([], Some bytes) (b ∷ (cut 46 bytes).0, (cut 46 bytes).1)).0 ++ 46 ∷ rest
first_by b bytes rest true dot later is =
    let is_dot : b ≡ 46 = grind (arith, nat_tests) in
    let same : bytes ≡ rest = cc in
    (λ i. is_dot i ∷ same i)
first_by b bytes rest false dot later is = ap (λ l. b ∷ l) (later is)

-- a text with a dot is what stands before it, the dot and the rest
spelled_by_cut : (bytes rest : List ℕ) → (cut 46 bytes).1 ≡ Some rest → bytes ≡ (cut 46 bytes).0 ++ 46 ∷ rest
unfolding cut
spelled_by_cut [] rest is = cc
spelled_by_cut (b ∷ bytes) rest is = first_by b bytes rest (b == 46) refl (spelled_by_cut bytes rest) is

no_dot_by : (b : ℕ) (bytes : List ℕ) (test : Bool) → (b == 46) ≡ test → HasNoDot (cut 46 bytes).0
    → HasNoDot (cond {A = List ℕ × Option (List ℕ)} test ([], Some bytes) (b ∷ (cut 46 bytes).0, (cut 46 bytes).1)).0
no_dot_by b bytes true dot later = refl
no_dot_by b bytes false dot later = cond-false _ _ _ dot ∙ later

no_dot_before : (bytes : List ℕ) → HasNoDot (cut 46 bytes).0
unfolding cut
no_dot_before [] = refl
no_dot_before (b ∷ bytes) = no_dot_by b bytes (b == 46) refl (no_dot_before bytes)

-- what the tails of a host begin with
record Begins (host first : List ℕ) (others : List (List ℕ)) : Type 0 where
  label : List ℕ
  single : HasNoDot label
  spelled : host ≡ label ++ 46 ∷ first
  further : others ≡ tails first

begins_by : (host first : List ℕ) (others : List (List ℕ)) (o : Option (List ℕ)) → (cut 46 host).1 ≡ o → first ∷ others ≡ tails_left o → Begins host first others
begins_by host first others None is same = cc
begins_by host first others (Some rest) is same =
    let first_is : first ≡ rest = cc in
    let others_are : others ≡ tails rest = cc in
    record {
      label = (cut 46 host).0;
      single = no_dot_before host;
      spelled = spelled_by_cut host rest is ∙ ap (λ r. (cut 46 host).0 ++ 46 ∷ r) (sym first_is);
      further = others_are ∙ ap tails (sym first_is);
    }

begins : (host first : List ℕ) (others : List (List ℕ)) → first ∷ others ≡ tails host → Begins host first others
begins host first others is = begins_by host first others (cut 46 host).1 refl (is ∙ tails-cut host)

-- ---- tails, and what a host ends in

abbrev Among : List ℕ → List (List ℕ) → Type 0
Among s [] = ⊥
Among s (t ∷ ts) = (s ≡ t) ⊎ Among s ts

among_by : (s : List ℕ) (b : ℕ) (bytes : List ℕ) (test : Bool) → Among s (tails bytes) → Among s (cond test (bytes ∷ tails bytes) (tails bytes))
among_by s b bytes true later = inr later
among_by s b bytes false later = later

among_at : (front s : List ℕ) → Among s (tails (front ++ 46 ∷ s))
among_at [] s = inl refl
among_at (b ∷ front) s = among_by s b (front ++ 46 ∷ s) (b == 46) (among_at front s)

-- what a host ends in is the host or one of its tails
among_from_ends : (host s : List ℕ) → EndsIn host s → (host ≡ s) ⊎ Among s (tails host)
among_from_ends host s (inl same) = inl same
among_from_ends host s (inr ends) = inr (subst (λ h. Among s (tails h)) (sym ends.1) (among_at ends.0 s))

further_back : (label host s : List ℕ) → EndsIn host s → EndsIn (label ++ 46 ∷ host) s
further_back label host s (inl same) = inr (label, ap (λ h. label ++ 46 ∷ h) same)
further_back label host s (inr ends) =
    inr (label ++ 46 ∷ ends.0, ap (λ h. label ++ 46 ∷ h) ends.1 ∙ sym (append_assoc label (46 ∷ ends.0) (46 ∷ s)))

-- each tail ends the host, and is shorter
ends_from_among : (host : List ℕ) (ts : List (List ℕ)) (s : List ℕ) → ts ≡ tails host → Among s ts → EndsIn host s × (length s < length host)
ends_from_among host [] s is among = absurd among
ends_from_among host (t ∷ ts) s is among =
    let b = begins host t ts is in
    let long = ap length b.spelled ∙ length-append b.label (46 ∷ t) in
    ⊎_elim
    (λ same. (inr (b.label, b.spelled ∙ ap (λ r. b.label ++ 46 ∷ r) (sym same)), let short = ap length same in omega arith))
    (λ later.
    let rest = ends_from_among t ts s b.further later in
    (subst (λ h. EndsIn h s) (sym b.spelled) (further_back b.label t s rest.0), omega (arith, rest.1)))
    among

-- ---- the longest listed tail

-- the longest listed tail is the first
first_is_longest : (listed : List ℕ → Bool) (host : List ℕ) (ts : List (List ℕ)) (s : List ℕ) → ts ≡ tails host → Among s ts → listed s ≡ true
    → ((other : List ℕ) → Among other ts → listed other ≡ true → length other ≤ length s) → find listed ts ≡ Some s
first_is_longest listed host [] s is among hit longest = absurd among
first_is_longest listed host (t ∷ ts) s is among hit longest =
    let b = begins host t ts is in
    ⊎_elim
    (λ here.
    ⊎_elim
    (λ same. cond-true _ _ _ here ∙ ap Some (sym same))
    (λ later. absurd (let short = (ends_from_among t ts s b.further later).1 in let most = longest t (inl refl) here in omega arith))
    among)
    (λ not_here.
    ⊎_elim
    (λ same. absurd (true≢false (sym hit ∙ ap listed same ∙ not_here)))
    (λ later. cond-false _ _ _ not_here ∙ first_is_longest listed t ts s b.further later hit (λ other inside. longest other (inr inside)))
    among)
    (cases_Bool (listed t))

-- with none listed none is found
none_is_found : (listed : List ℕ → Bool) (ts : List (List ℕ)) → ((s : List ℕ) → Among s ts → listed s ≡ true → ⊥) → find listed ts ≡ None
none_is_found listed [] none = refl
none_is_found listed (t ∷ ts) none =
    ⊎_elim (λ hit. absurd (none t (inl refl) hit)) (λ miss. cond-false _ _ _ miss ∙ none_is_found listed ts (λ s inside. none s (inr inside))) (cases_Bool (listed t))

-- ---- one label more

lift_more : (label t suffix domain : List ℕ) (host : List ℕ) → host ≡ label ++ 46 ∷ t → IsOneMore t suffix domain → IsOneMore host suffix domain
lift_more label t suffix domain host spelled more = record {
  label = more.label;
  single = more.single;
  spelled = more.spelled;
  ends = subst (λ h. EndsIn h domain) (sym spelled) (further_back label t domain more.ends);
}

here_more : (host t : List ℕ) (ts : List (List ℕ)) → t ∷ ts ≡ tails host → IsOneMore host t host
here_more host t ts is =
    let b = begins host t ts is in
    record { label = b.label; single = b.single; spelled = b.spelled; ends = inl refl }

more_at_suffix : (listed : List ℕ → Bool) (host : List ℕ) (ts : List (List ℕ)) (s : List ℕ) → ts ≡ tails host → find listed ts ≡ Some s → IsOneMore host s (one_more listed host ts)
more_at_suffix listed host [] s is found = cc
more_at_suffix listed host (t ∷ []) s is found =
    ⊎_elim
    (λ hit. let same : t ≡ s = let e = sym (cond-true _ (Some t) None hit) ∙ found in cc in subst (λ x. IsOneMore host x host) same (here_more host t [] is))
    (λ miss. let e : None ≡ Some s = sym (cond-false _ (Some t) None miss) ∙ found in cc)
    (cases_Bool (listed t))
more_at_suffix listed host (t ∷ u ∷ ts) s is found =
    let b = begins host t (u ∷ ts) is in
    ⊎_elim
    (λ hit.
    let same : t ≡ s = let e = sym (cond-true _ (Some t) _ hit) ∙ found in cc in
    subst (IsOneMore host s) (sym (cond-true _ host _ hit)) (subst (λ x. IsOneMore host x host) same (here_more host t (u ∷ ts) is)))
    (λ miss.
    subst (IsOneMore host s) (sym (cond-false _ host _ miss)) (lift_more b.label t s _ host b.spelled (more_at_suffix listed t (u ∷ ts) s b.further (sym (cond-false _ (Some t) _ miss) ∙ found))))
    (cases_Bool (listed t))

more_at_last : (listed : List ℕ → Bool) (host t : List ℕ) (ts : List (List ℕ)) → t ∷ ts ≡ tails host → find listed (t ∷ ts) ≡ None → (last : List ℕ) × HasNoDot last
    × IsOneMore host last (one_more listed host (t ∷ ts))
more_at_last listed host t [] is found = (t, sym (begins host t [] is).further, here_more host t [] is)
more_at_last listed host t (u ∷ ts) is found =
    let b = begins host t (u ∷ ts) is in
    ⊎_elim
    (λ hit. let e : Some t ≡ None = sym (cond-true _ (Some t) _ hit) ∙ found in cc)
    (λ miss.
    let more = more_at_last listed t u ts b.further (sym (cond-false _ (Some t) _ miss) ∙ found) in
    (more.0, more.1, subst (IsOneMore host more.0) (sym (cond-false _ host _ miss)) (lift_more b.label t more.0 _ host b.spelled more.2)))
    (cases_Bool (listed t))

-- ---- the whole

last_two : (listed : List ℕ → Bool) (host : List ℕ) (ts : List (List ℕ)) → ts ≡ tails host → (ts ≡ [] → ⊥) → find listed ts ≡ None → (last : List ℕ) × HasNoDot last
    × IsOneMore host last (one_more listed host ts)
last_two listed host [] is some found = absurd (some refl)
last_two listed host (t ∷ ts) is some found = more_at_last listed host t ts is found

stays_if_single : (listed : List ℕ → Bool) (host : List ℕ) (ts : List (List ℕ)) → ts ≡ [] → one_more listed host ts ≡ host
stays_if_single listed host ts none = ap (one_more listed host) none

or_true : (a b : Bool) → (a ≡ true) ⊎ (b ≡ true) → (a || b) ≡ true
or_true true b h = refl
or_true false b (inl h) = absurd (false≢true h)
or_true false b (inr h) = h

or_false : (a b : Bool) → ((a ≡ true) → ⊥) → ((b ≡ true) → ⊥) → (a || b) ≡ false
or_false true b p q = absurd (p refl)
or_false false true p q = absurd (q refl)
or_false false false p q = refl

own_stays : (text host : List ℕ) → IsOwn text host → domain_of (is_listed text) host ≡ host
own_stays text host (inl address) = cond-true _ host _ (or_true (is_address host) (is_listed text host) (inl address))
own_stays text host (inr (inl listed)) = cond-true _ host _ (or_true (is_address host) (is_listed text host) (inr listed))
own_stays text host (inr (inr single)) =
    ⊎_elim (λ hit. cond-true _ host _ hit) (λ miss. cond-false _ host _ miss ∙ stays_if_single (is_listed text) host (tails host) single) (cases_Bool (is_address host || is_listed text host))

other_goes : (text host : List ℕ) → ¬ (IsOwn text host) → domain_of (is_listed text) host ≡ one_more (is_listed text) host (tails host)
other_goes text host other =
    cond-false _ host _ (or_false (is_address host) (is_listed text host) (λ a. other (inl a)) (λ l. other (inr (inl l))))

-- what a tail of the host is
tail_is_suffix : (text host s : List ℕ) → Among s (tails host) → is_listed text s ≡ true → IsSuffix text host s
tail_is_suffix text host s among hit = record { listed = hit; ends = (ends_from_among host (tails host) s refl among).0 }

longest_is_found : (text host suffix : List ℕ) → ¬ (IsOwn text host) → IsLongestSuffix text host suffix → find (is_listed text) (tails host) ≡ Some suffix
longest_is_found text host suffix other longest =
    ⊎_elim
    (λ same. absurd (other (inr (inl (ap (is_listed text) same ∙ longest.is_suffix.listed)))))
    (λ among.
    first_is_longest (is_listed text) host (tails host) suffix refl among longest.is_suffix.listed (λ o inside hit. longest.longest o (tail_is_suffix text host o inside hit)))
    (among_from_ends host suffix longest.is_suffix.ends)

pub domain_is : (text host : List ℕ) → IsDomain text host (domain_of (is_listed text) host)
domain_is text host = record {
  own = own_stays text host;
  longest = λ other suffix longest.
      subst (IsOneMore host suffix) (sym (other_goes text host other)) (more_at_suffix (is_listed text) host (tails host) suffix refl (longest_is_found text host suffix other longest));
  two_labels = λ other none.
      let found = none_is_found (is_listed text) (tails host) (λ s among hit. none s (tail_is_suffix text host s among hit)) in
      let two = last_two (is_listed text) host (tails host) refl (λ single. other (inr (inr single))) found in
      (two.0, two.1, subst (IsOneMore host two.0) (sym (other_goes text host other)) two.2);
}

-- ---- the host ends in its domain

one_more_ends : (listed : List ℕ → Bool) (host : List ℕ) (ts : List (List ℕ)) → ts ≡ tails host → EndsIn host (one_more listed host ts)
one_more_ends listed host [] is = inl refl
one_more_ends listed host (t ∷ []) is = inl refl
one_more_ends listed host (t ∷ u ∷ ts) is =
    let b = begins host t (u ∷ ts) is in
    let domain = one_more listed t (u ∷ ts) in
    let later : EndsIn host domain = subst (λ h. EndsIn h domain) (sym b.spelled) (further_back b.label t domain (one_more_ends listed t (u ∷ ts) b.further)) in
    ⊎_elim (λ hit. subst (EndsIn host) (sym (cond-true _ host domain hit)) (inl refl)) (λ miss. subst (EndsIn host) (sym (cond-false _ host domain miss)) later) (cases_Bool (listed t))

one_more_nonempty : (listed : List ℕ → Bool) (host : List ℕ) (ts : List (List ℕ)) → ts ≡ tails host → 0 < length host → 0 < length (one_more listed host ts)
one_more_nonempty listed host [] is more = more
one_more_nonempty listed host (t ∷ []) is more = more
one_more_nonempty listed host (t ∷ u ∷ ts) is more =
    let b = begins host t (u ∷ ts) is in
    let inner = begins t u ts b.further in
    let long = ap length inner.spelled ∙ length-append inner.label (46 ∷ u) in
    let domain = one_more listed t (u ∷ ts) in
    let later : 0 < length domain = one_more_nonempty listed t (u ∷ ts) b.further (omega arith) in
    ⊎_elim (λ hit. subst (λ d. 0 < length d) (sym (cond-true _ host domain hit)) more) (λ miss. subst (λ d. 0 < length d) (sym (cond-false _ host domain miss)) later) (cases_Bool (listed t))

pub domain_ends : (listed : List ℕ → Bool) (host : List ℕ) → EndsIn host (domain_of listed host)
domain_ends listed host =
    ⊎_elim
    (λ own. subst (EndsIn host) (sym (cond-true _ host _ own)) (inl refl))
    (λ other. subst (EndsIn host) (sym (cond-false _ host _ other)) (one_more_ends listed host (tails host) refl))
    (cases_Bool (is_address host || listed host))

-- the domain of what is not empty is not empty
domain_nonempty : (listed : List ℕ → Bool) (host : List ℕ) → 0 < length host → 0 < length (domain_of listed host)
domain_nonempty listed host more =
    ⊎_elim
    (λ own. subst (λ d. 0 < length d) (sym (cond-true _ host _ own)) more)
    (λ other. subst (λ d. 0 < length d) (sym (cond-false _ host _ other)) (one_more_nonempty listed host (tails host) refl more))
    (cases_Bool (is_address host || listed host))

pub empty_from_domain : (listed : List ℕ → Bool) (host : List ℕ) → domain_of listed host ≡ [] → host ≡ []
empty_from_domain listed [] none = refl
empty_from_domain listed (b ∷ bytes) none = absurd (let more = domain_nonempty listed (b ∷ bytes) (omega arith) in let no = ap length none in omega arith)

pub within_from_ends : (host labels : List ℕ) → EndsIn host labels → length labels ≤ length host
within_from_ends host labels (inl same) = let e = ap length same in omega arith
within_from_ends host labels (inr ends) = let e = ap length ends.1 ∙ length-append ends.0 (46 ∷ labels) in omega arith

-- ---- the host without its port and one last dot

without_last_dot_within : (host : List ℕ) → length (without_last_dot host) ≤ length host
without_last_dot_within host =
    let shorter = length-take (length host - 1) host in
    ⊎_elim
    (λ dot. subst (λ h. length h ≤ length host) (sym (cond-true _ (take (length host - 1) host) host dot)) (omega arith))
    (λ none. subst (λ h. length h ≤ length host) (sym (cond-false _ (take (length host - 1) host) host none)) (omega arith))
    (cases_Bool (slice_index host (length host - 1) == 46))

without_port_within : (host : List ℕ) → length (without_port host) ≤ length host
without_port_within host =
    let address = take (length (cut 93 host).0 + 1) host in
    let shorter = length-take (length (cut 93 host).0 + 1) host in
    ⊎_elim
    (λ bracket. subst (λ h. length h ≤ length host) (sym (cond-true _ address _ bracket)) (omega arith))
    (λ name. subst (λ h. length h ≤ length host) (sym (cond-false _ address _ name)) (length-cut_front 58 host))
    (cases_Bool (slice_index host 0 == 91))

pub bare_within : (host : List ℕ) → length (bare host) ≤ length host
bare_within host = let port = without_port_within host in let dot = without_last_dot_within (without_port host) in omega arith
