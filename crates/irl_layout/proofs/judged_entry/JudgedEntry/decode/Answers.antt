use Rattle.std.proofs.Common.{◌∙◌, refl, sym}
use Rattle.irl_layout.proofs.Spellings.{reads_spelling, op_back}
use Rattle.irl_layout.proofs.judged_entry.JudgedEntry.decode.Goals as goal

pub returns-clause-found : goal.returns-clause-found
returns-clause-found c =
    reads_spelling _ c.args.bytes.now c.told-bytes c.fits-bytes record {
      bucket = refl;
      op = op_back _ c.in_ok-from_number.field-0 (sym c.in_ok-from_number.ensures);
      verdict = sym c.in_ok-verdict_of.ensures.number;
      zero_is = c.if-bytes-ne0.false;
      aux_len = sym c.text_length-aux_len.ensures;
      key = sym c.number_at-2.ensures;
      value = sym c.number_at-3.ensures;
      from = sym c.number_at-4.ensures;
      known = sym c.number_at.ensures ∙ sym c.in_ok-verdict_of.ensures.value;
      place = sym c.number_at-5.ensures;
    }
