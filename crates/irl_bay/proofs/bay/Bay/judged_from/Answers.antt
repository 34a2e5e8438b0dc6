-- The entries are read and decoded, and then their texts are read.
use Rattle.std.proofs.Common.{◌≡◌, ◌∙◌, ℕ, ◌+◌, ◌-◌, ◌*◌, ◌<◌, min, length, take, drop, Err, None, Some, sym, ap, subst, rules, arith}
use Rattle.std.specs.Result.{IsErrOf}
use Rattle.irl_base.specs.declared.fault.Fault.TheVariants.{Damaged}
use Rattle.irl_bay.specs.Drum.{Drum, IsDrum}
use Rattle.irl_layout.specs.JudgedEntries.{texts_length, first_place}
use Rattle.irl_bay.specs.JudgedSpoilt.{IsJudgedSpoiltAt, IsSpoiltEntry}
use Rattle.irl_bay.proofs.JudgedReading.{entries_count, none_in_file, fit_texts, texts_within}
use Rattle.irl_bay.proofs.JudgedParts.{fit_joined}
use Rattle.irl_bay.proofs.JudgedHeld.{none_spoilt, found_held, length-with_texts}
use Rattle.irl_disk.specs.Disk.{Files}
use Rattle.irl_bay.specs.declared.bay.Bay.TheInside.{Inside}
use Rattle.irl_bay.proofs.bay.Bay.judged_from.Goals as goal

abbrev drum_of : Inside → Drum
drum_of b = record { base = b.base; settings = b.settings; is_sound = b.is_sound; manifest = b.manifest; last = b.last; cuts = b.cuts; buckets = b.buckets.items }

-- the entries' bytes are there
pub read_part-requires-clause-long : goal.read_part-requires-clause-long
read_part-requires-clause-long g c = λ files told.
    let long = (c.requires.long files told).judged in
    let judged = ap (λ (d : Drum). d.last.judged) (ap drum_of c.self-inside.view_is ∙ c.self.view_is) in
    let file = ap (λ (d : Drum). d.base + 3 + 0) (ap drum_of c.self-inside.view_is ∙ c.self.view_is) in
    rw (c.number.ensures.value, file) (omega (arith, long, judged, c.requires.place, c.min-count.ensures, c.from.ensures))

pub returns-in_err-bytes-clause-reads : goal.returns-in_err-bytes-clause-reads
returns-in_err-bytes-clause-reads g c = record {
  value = search rules;
  spoilt = λ f at is files told.
      let e : IsErrOf (Err c.in_err-bytes.field-0.0) (Damaged f at) = search rules in
      absurd (c.in_err-bytes.ensures.damaged f at e files told);
  whole = λ f at is files told book holds.
      let e : IsErrOf (Err c.in_err-bytes.field-0.0) (Damaged f at) = search rules in
      absurd (c.in_err-bytes.ensures.damaged f at e files told);
  full = search rules;
  reads = search rules;
}

-- an entry doesn't fit
pub returns-in_err-entries-clause-reads : goal.returns-in_err-entries-clause-reads
returns-in_err-entries-clause-reads g c =
    let drum = c.args.self.now in
    let now = g.S.Store.told c.args.store.now in
    let spoilt : (f at : ℕ) → IsErrOf c.from_residual-in_err-entries.result (Damaged f at) → (files : Files) → now.files ≡ Some files → IsJudgedSpoiltAt drum files f at =
    λ f at is files told.
    let e : IsErrOf (Err c.in_err-entries.field-0.0) (Damaged f at) = search rules in
    let named = c.in_err-entries.ensures.damaged f at e in
    let j = named.1.0 in
    let file = ap (λ (d : Drum). d.base + 3 + 0) (ap drum_of c.self-inside.view_is ∙ c.self.view_is) in
    let same = c.number.ensures.value ∙ file ∙ sym named.0 in
    let bytes = c.deref.ensures.value ∙ c.in_ok-bytes.ensures.bytes files told ∙ ap (λ (n : ℕ). take (48 * c.min-count.result) (drop (48 * c.args.i) (files n))) same in
    let long = ap length c.deref.ensures.value ∙ c.in_ok-bytes.ensures.size in
    let judged = ap (λ (d : Drum). d.last.judged) (ap drum_of c.self-inside.view_is ∙ c.self.view_is) in
    let within : j < c.min-count.result = omega (arith, named.1.1, long) in (
      named.0,
      record {
        j = c.args.i + j;
        within = omega (arith, within, judged, c.requires.place, c.min-count.ensures, c.from.ensures);
        place = named.1.2;
        none = none_in_file drum (files f) c.deref.result.now c.args.i c.min-count.result bytes j within named.1.3;
      },
    ) in
    record {
      value = search rules;
      spoilt = spoilt;
      whole = λ f at is files told book holds.
          let named = spoilt f at is files told in
          let left : now.images files = (g.met.S.Store.is_consistent c.args.store.now).told files told in
          none_spoilt now.images drum book (subst IsDrum c.self.view_is c.self.invariant) holds files left at (subst (λ (n : ℕ). IsSpoiltEntry drum (files n) at) named.0 named.1);
      full = search rules;
      reads = search rules;
    }

-- the texts are there
pub texts_length-length-requires : goal.texts_length-length-requires
texts_length-length-requires g c =
    let within = texts_within c.args.self.now _ c.in_ok-entries.entries.items c.in_ok-entries.ensures.fit in
    let texts = ap (λ (d : Drum). d.last.texts) c.self.view_is in
    rw (c.deref-3.ensures.value) (omega (arith, within, texts, c.self.invariant.last.texts))

pub read_part-requires-2-clause-long : goal.read_part-requires-2-clause-long
read_part-requires-2-clause-long g c = λ files told.
    let within = texts_within c.args.self.now _ c.in_ok-entries.entries.items c.in_ok-entries.ensures.fit in
    let file = ap (λ (d : Drum). d.base + 4 + 0) (ap drum_of c.self-inside.view_is ∙ c.self.view_is) in
    let long = (c.requires.long files (sym c.in_ok-bytes.ensures.reads.same ∙ told)).texts in
    let from = ap first_place c.deref-2.ensures.value in
    let length = ap texts_length c.deref-3.ensures.value in
    rw (c.number-2.ensures.value, file) (omega (arith, long, within, from, length, c.first_place-from.ensures, c.texts_length-length.ensures))

pub returns-in_err-texts-clause-reads : goal.returns-in_err-texts-clause-reads
returns-in_err-texts-clause-reads g c = record {
  value = search rules;
  spoilt = λ f at is files told.
      let e : IsErrOf (Err c.in_err-texts.field-0.0) (Damaged f at) = search rules in
      absurd (c.in_err-texts.ensures.damaged f at e files (c.in_ok-bytes.ensures.reads.same ∙ told));
  whole = λ f at is files told book holds.
      let e : IsErrOf (Err c.in_err-texts.field-0.0) (Damaged f at) = search rules in
      absurd (c.in_err-texts.ensures.damaged f at e files (c.in_ok-bytes.ensures.reads.same ∙ told));
  full = search rules;
  reads = search rules;
}

pub new-requires : goal.new-requires
new-requires g c =
    let drum = c.args.self.now in
    let fit = c.in_ok-entries.ensures.fit in
    record {
      long = c.in_ok-texts.ensures.size ∙ c.texts_length-length.ensures ∙ ap texts_length c.deref-3.ensures.value;
      each = fit_texts drum None c.in_ok-entries.entries.items fit;
      joined = fit_joined drum None c.in_ok-entries.entries.items fit;
    }

-- so many are found
pub returns-clause-count : goal.returns-clause-count
returns-clause-count g c =
    let long = ap length c.deref.ensures.value ∙ c.in_ok-bytes.ensures.size in
    let judged = ap (λ (d : Drum). d.last.judged) (ap drum_of c.self-inside.view_is ∙ c.self.view_is) in
    let count : c.min-count.result ≡ min c.args.most (c.args.self.now.last.judged - c.args.i) = omega (arith, c.min-count.ensures, c.from.ensures, judged) in
    ap length c.new.ensures
    ∙ length-with_texts c.in_ok-entries.entries.items c.in_ok-texts.texts.items
    ∙ entries_count c.in_ok-entries.entries.items c.deref.result.now c.min-count.result c.in_ok-entries.ensures.bytes long
    ∙ count

pub returns-clause-reads : goal.returns-clause-reads
returns-clause-reads g c = record {
  value = λ files told book holds.
      let drum = c.args.self.now in
      let is : IsDrum drum = subst IsDrum c.self.view_is c.self.invariant in
      let now = g.S.Store.told c.args.store.now in
      let left : now.images files = (g.met.S.Store.is_consistent c.args.store.now).told files told in
      let judged = ap (λ (d : Drum). d.last.judged) (ap drum_of c.self-inside.view_is ∙ c.self.view_is) in
      let count : c.min-count.result ≡ min c.args.most (drum.last.judged - c.args.i) = omega (arith, c.min-count.ensures, c.from.ensures, judged) in
      let entries = c.in_ok-entries.entries.items in
      let file_3 = ap (λ (d : Drum). d.base + 3 + 0) (ap drum_of c.self-inside.view_is ∙ c.self.view_is) in
      let file_4 = ap (λ (d : Drum). d.base + 4 + 0) (ap drum_of c.self-inside.view_is ∙ c.self.view_is) in
      let bytes = c.in_ok-entries.ensures.bytes ∙ c.deref.ensures.value ∙ rw (c.number.ensures.value, file_3) at c.in_ok-bytes.ensures.bytes files told in
      let from = c.first_place-from.ensures ∙ ap first_place c.deref-2.ensures.value in
      let length = c.texts_length-length.ensures ∙ ap texts_length c.deref-3.ensures.value in
      let texts = rw (c.number-2.ensures.value, file_4, from, length) at c.in_ok-texts.ensures.bytes files (c.in_ok-bytes.ensures.reads.same ∙ told) in
      c.new.ensures
      ∙ found_held now.images drum book is holds files left entries c.in_ok-texts.texts.items c.args.i c.args.most c.min-count.result c.requires.place count
      c.in_ok-entries.ensures.fit bytes texts;
  spoilt = search rules;
  whole = search rules;
  full = search rules;
  reads = search rules;
}
