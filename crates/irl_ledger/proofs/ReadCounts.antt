-- Reading how many offers were judged at each cut of two bays.
use Rattle.std.proofs.Common.{◌≡◌, ◌∙◌, ◌⊎◌, inl, inr, ℕ, Result, Ok, Err, IsErrOf, ap}
use Rattle.std.specs.Option.{ForSome}
use Rattle.irl_base.specs.declared.fault.Fault.{Fault}
use Rattle.irl_base.specs.declared.fault.Fault.TheVariants.{Damaged, Failed, Full}
use Rattle.irl_model.specs.Book.{Book}
use Rattle.irl_disk.specs.Effects.{OnlyReads}
use Rattle.irl_disk.specs.Images.{Told, IsConsistent}
use Rattle.irl_disk.proofs.Effects.{reads_for, reads_then}
use Rattle.irl_bay.specs.Cuts.{AreJudgedAt, ReadsManifest}
use Rattle.irl_bay.specs.Drum.{Drum, IsDrum}
use Rattle.irl_bay.specs.Holding.{Holds}
use Rattle.irl_ledger.specs.declared.open.JudgedCounts.{JudgedCounts}
use Rattle.irl_ledger.specs.Redoing.{ReadsCounts}
use Rattle.irl_ledger.proofs.Reading.{held_later}
use Rattle.irl_ledger.proofs.RedonePass.{reads_wider}

module _ (urls pairs : Drum) (s t w : Told) where
  abbrev AreManifests : ℕ → Type 0
  AreManifests f = (f ≡ urls.manifest.file) ⊎ (f ≡ pairs.manifest.file)

  pub counts_first : {A : Type 0} (result : Result A Fault) (gives : A → Book → Type 0) (fault : Fault) → result ≡ Err fault → ReadsManifest result gives urls s t
      → ReadsCounts (Err fault) urls pairs s t
  counts_first result gives fault is reads =
      let answer : Result JudgedCounts Fault = Err fault in
      let same : (e : Fault) → IsErrOf answer e → IsErrOf result e = λ e named. is ∙ (let one : fault ≡ e = cc in ap (λ (x : Fault). Err x) one) in
      record {
        value = tt;
        spoilt = λ f at named files told. inl (let why = reads.spoilt f at (same (Damaged f at) named) in (why.0, why.1 files told));
        whole = λ f at named files told u p holds others. reads.whole f at (same (Damaged f at) named) files told u holds;
        full = λ n named. reads.full n (same (Full n) named);
        reads = reads_wider (λ f. f ≡ urls.manifest.file) AreManifests (IsErrOf result Failed) (IsErrOf answer Failed) s t (λ f is. inl is) (same Failed) reads.reads;
      }

  module _ (law : IsDrum pairs) (consistent : IsConsistent t) where
    both : (failed : Type 0) → OnlyReads (λ f. f ≡ urls.manifest.file) ⊥ s t → OnlyReads (λ f. f ≡ pairs.manifest.file) failed t w → OnlyReads AreManifests failed s w
    both failed one two =
        reads_then AreManifests ⊥ failed s t w consistent (reads_wider (λ f. f ≡ urls.manifest.file) AreManifests ⊥ ⊥ s t (λ f is. inl is) (λ no. no) one)
        (reads_wider (λ f. f ≡ pairs.manifest.file) AreManifests failed failed t w (λ f is. inr is) (λ e. e) two)

    pub counts_second : {B : Type 0} (result : Result B Fault) (more : B → Book → Type 0) (fault : Fault) → result ≡ Err fault → OnlyReads (λ f. f ≡ urls.manifest.file) ⊥ s t
        → ReadsManifest result more pairs t w → ReadsCounts (Err fault) urls pairs s w
    counts_second result more fault is one reads =
        let answer : Result JudgedCounts Fault = Err fault in
        let same : (e : Fault) → IsErrOf answer e → IsErrOf result e = λ e named. is ∙ (let other : fault ≡ e = cc in ap (λ (x : Fault). Err x) other) in
        record {
          value = tt;
          spoilt = λ f at named files told. inr (let why = reads.spoilt f at (same (Damaged f at) named) in (why.0, why.1 files (one.same ∙ told)));
          whole = λ f at named files told u p holds others.
              reads.whole f at (same (Damaged f at) named) files (one.same ∙ told) p (held_later s t pairs p law consistent one.stops others);
          full = λ n named. reads.full n (same (Full n) named);
          reads = reads_for AreManifests (IsErrOf result Failed) (IsErrOf answer Failed) s w (same Failed) (both (IsErrOf result Failed) one reads.reads);
        }

    pub counts_both : (counts : JudgedCounts) → OnlyReads (λ f. f ≡ urls.manifest.file) ⊥ s t → OnlyReads (λ f. f ≡ pairs.manifest.file) ⊥ t w
        → ForSome s.files (λ _. (book : Book) → Holds s.images urls book → AreJudgedAt book counts.urls.items)
        → ForSome t.files (λ _. (book : Book) → Holds t.images pairs book → AreJudgedAt book counts.pairs.items) → ReadsCounts (Ok counts) urls pairs s w
    counts_both counts one two of_urls of_pairs =
        let answer : Result JudgedCounts Fault = Ok counts in
        record {
          value = λ files told u p holds others. (of_urls files told u holds, of_pairs files (one.same ∙ told) p (held_later s t pairs p law consistent one.stops others));
          spoilt = λ f at named. absurd (cc);
          whole = λ f at named. absurd (cc);
          full = λ n named. cc;
          reads = reads_for AreManifests ⊥ (IsErrOf answer Failed) s w (λ named. cc) (both ⊥ one two);
        }
