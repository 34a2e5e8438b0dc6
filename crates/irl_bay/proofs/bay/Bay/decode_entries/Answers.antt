-- One entry more: it stands behind the others in the bytes, and fits behind the last of them.
use Rattle.std.proofs.Common.{◌≡◌, ◌∙◌, ℕ, ◌+◌, ◌-◌, ◌*◌, List, [], ◌∷◌, length, take, drop, Option, None, sym, ap, subst, arith, length-append}
use Rattle.std.proofs.lemmas.List.{drop-drop}
use Rattle.std.specs.List.{flat_map}
use Rattle.irl_layout.specs.declared.judged_entry.JudgedEntry.{JudgedEntry}
use Rattle.irl_layout.specs.JudgedEntries.{entry_spelling}
use Rattle.irl_bay.specs.JudgedSpoilt.{FitsBehind, FitEach}
use Rattle.irl_bay.proofs.JudgedReading.{last_of, last_more, fit_more, bytes_more}
use Rattle.irl_bay.proofs.bay.Bay.decode_entries.Goals as goal

pub loop-one-preserved : goal.loop-one-preserved
loop-one-preserved c =
    let drum = c.args.self.now in
    let bytes = c.args.bytes.now in
    let entries = c.loop-one.entries.items in
    let entry = c.in-Some-decode_behind.entry in
    let fits = c.in-Some-decode_behind.ensures.fits in
    let cut = c.in-Some.ensures.cases in
    let is = c.push_reserved.ensures.items in
    let so_far = c.loop-one.invariant in
    let n = 48 * length entries in
    let count : length c.push_reserved.new.self.items ≡ length entries + 1 = ap length is ∙ length-append entries (entry ∷ []) in
    let spelled : entry_spelling entry ≡ take 48 (drop n bytes) = c.in-Some-decode_behind.ensures.found ∙ cut.0 ∙ ap (take 48) so_far.rest in
    let behind : n + 48 ≡ 48 * length c.push_reserved.new.self.items = omega (arith, count) in
    let before : n ≡ 48 * (length c.push_reserved.new.self.items - 1) = omega (arith, count) in
    let texts = ap (λ d. d.last.texts) c.self.view_is in
    record {
      rest = cut.1 ∙ ap (drop 48) so_far.rest ∙ drop-drop 48 n bytes ∙ ap (λ (k : ℕ). drop k bytes) behind;
      left = omega (arith, count, cut.2, so_far.left);
      bytes = subst (λ (es : List JudgedEntry). flat_map entry_spelling es ≡ take (48 * length es) bytes) (sym is) (bytes_more entries entry bytes so_far.bytes spelled);
      fit = subst (FitEach drum None) (sym is) (fit_more drum None entries entry so_far.fit (subst (λ (one : Option JudgedEntry). FitsBehind drum one entry) so_far.before fits));
      before = sym (ap (last_of None) is ∙ last_more None entries entry);
      low = omega (arith, fits.text, texts, c.self.invariant.last.texts);
      stands = record { later = omega (arith, count); is = fits.is; bytes_are = spelled ∙ ap (λ (k : ℕ). take 48 (drop k bytes)) before };
      room = omega (arith, so_far.room, c.push_reserved.ensures.capacity);
    }
