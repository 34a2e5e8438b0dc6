-- What reads of a link took, one after another.
use Rattle.std.proofs.Common.{◌≡◌, ℕ, inl, inr, List, [], ◌++◌, Option, None, Some, refl, sym, ap, ◌∙◌, subst, arith, append-nil, append_assoc}
use Rattle.std.specs.Io.KnownBytes.{Consumes, Keeps}
use Rattle.irl_http.specs.declared.link.Connection.{Connection}
use Rattle.irl_http.specs.Links.{StaySame}
use Rattle.irl_http.specs.Reading.{Reads}
use Rattle.irl_http.specs.Steps.{Gets, Undisturbed}

pub keeps_same : (a : Option (List ℕ)) → Keeps a a
keeps_same None = tt
keeps_same (Some x) = refl

pub keeps_on : (a b c : Option (List ℕ)) → Keeps a b → Keeps b c → Keeps a c
keeps_on None b c p q = tt
keeps_on (Some x) None c p q = absurd p
keeps_on (Some x) (Some y) None p q = absurd q
keeps_on (Some x) (Some y) (Some z) p q = q ∙ p

pub stay_same : (a : Option (List Connection)) → StaySame a a
stay_same None = tt
stay_same (Some x) = refl

pub stay_on : (a b c : Option (List Connection)) → StaySame a b → StaySame b c → StaySame a c
stay_on None None c p q = q
stay_on None (Some y) c p q = absurd p
stay_on (Some x) None c p q = absurd p
stay_on (Some x) (Some y) None p q = absurd q
stay_on (Some x) (Some y) (Some z) p q = q ∙ p

pub calm_same : (w : Option (List ℕ)) (m : Option (List Connection)) (f : ℕ) → Undisturbed w w m m f f
calm_same w m f = record { written = keeps_same w; connections = stay_same m; faults = omega arith }

pub calm_on : (w0 w1 w2 : Option (List ℕ)) (m0 m1 m2 : Option (List Connection)) (f0 f1 f2 : ℕ) → Undisturbed w0 w1 m0 m1 f0 f1 → Undisturbed w1 w2 m1 m2 f1 f2 → Undisturbed w0 w2 m0 m2 f0 f2
calm_on w0 w1 w2 m0 m1 m2 f0 f1 f2 p q = record {
  written = keeps_on w0 w1 w2 p.written q.written;
  connections = stay_on m0 m1 m2 p.connections q.connections;
  faults = omega (arith, p.faults, q.faults);
}

pub consumes_on : (a b c : Option (List ℕ)) (g h : List ℕ) → Consumes a b g → Consumes b c h → Consumes a c (g ++ h)
consumes_on None b c g h p q = tt
consumes_on (Some x) None c g h p q = absurd p
consumes_on (Some x) (Some y) None g h p q = absurd q
consumes_on (Some x) (Some y) (Some z) g h p q = p ∙ ap (λ l. g ++ l) q ∙ sym (append_assoc g h z)

pub consumes_none : (a b : Option (List ℕ)) → Keeps a b → Consumes a b []
consumes_none None b p = tt
consumes_none (Some x) None p = absurd p
consumes_none (Some x) (Some y) p = sym p

pub keeps_none : (a b : Option (List ℕ)) → Consumes a b [] → Keeps a b
keeps_none None b p = tt
keeps_none (Some x) None p = absurd p
keeps_none (Some x) (Some y) p = sym p

pub gets_bytes : (P : List ℕ → Type 0) (l0 l1 r0 r1 : Option (List ℕ)) (got : List ℕ) → Gets P l0 l1 r0 r1 got → Consumes l0 l1 got
gets_bytes P l0 l1 r0 r1 got (inl (none, kept, same)) = subst (Consumes l0 l1) (sym none) (consumes_none l0 l1 kept)
gets_bytes P l0 l1 r0 r1 got (inr reads) = reads.bytes

-- one read more
pub gets_read : (P : List ℕ → Type 0) (l0 l1 l2 r0 r1 r2 : Option (List ℕ)) (got more : List ℕ) → Gets P l0 l1 r0 r1 got → P got → Consumes l1 l2 more → r2 ≡ l1 → Reads P l0 l2 r2 (got ++ more)
gets_read P l0 l1 l2 r0 r1 r2 got more gets here took last = record {
  early = got;
  piece = more;
  bytes = consumes_on l0 l1 l2 got more (gets_bytes P l0 l1 r0 r1 got gets) took;
  parts = refl;
  last_read = subst (λ r. Consumes l0 r got) (sym last) (gets_bytes P l0 l1 r0 r1 got gets);
  needed = here;
}

pub gets_as : (P Q : List ℕ → Type 0) (l0 l1 r0 r1 : Option (List ℕ)) (got : List ℕ) → ((early : List ℕ) → P early → Q early) → Gets P l0 l1 r0 r1 got → Gets Q l0 l1 r0 r1 got
gets_as P Q l0 l1 r0 r1 got follows (inl none) = inl none
gets_as P Q l0 l1 r0 r1 got follows (inr reads) = inr (record {
  early = reads.early;
  piece = reads.piece;
  bytes = reads.bytes;
  parts = reads.parts;
  last_read = reads.last_read;
  needed = follows reads.early reads.needed;
})

-- a stretch behind another
pub reads_on : (P : List ℕ → Type 0) (l0 l1 l2 r0 r1 r2 : Option (List ℕ)) (first got : List ℕ) → Reads P l0 l1 r1 first → Gets (λ early. P (first ++ early)) l1 l2 r1 r2 got
    → Reads P l0 l2 r2 (first ++ got)
reads_on P l0 l1 l2 r0 r1 r2 first got reads (inl (none, kept, same)) = record {
  early = reads.early;
  piece = reads.piece;
  bytes = consumes_on l0 l1 l2 first got reads.bytes (subst (Consumes l1 l2) (sym none) (consumes_none l1 l2 kept));
  parts = ap (λ l. first ++ l) none ∙ append-nil first ∙ reads.parts;
  last_read = subst (λ r. Consumes l0 r reads.early) (sym same) reads.last_read;
  needed = reads.needed;
}
reads_on P l0 l1 l2 r0 r1 r2 first got reads (inr later) = record {
  early = first ++ later.early;
  piece = later.piece;
  bytes = consumes_on l0 l1 l2 first got reads.bytes later.bytes;
  parts = ap (λ l. first ++ l) later.parts ∙ sym (append_assoc first later.early later.piece);
  last_read = consumes_on l0 l1 r2 first later.early reads.bytes later.last_read;
  needed = later.needed;
}
