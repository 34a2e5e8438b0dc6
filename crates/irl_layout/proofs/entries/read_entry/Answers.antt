use Rattle.std.proofs.Common.{◌≡◌, ◌∙◌, Some, None, sym, ap}
use Rattle.irl_offer.specs.Buckets.{bucket_of}
use Rattle.irl_offer.specs.Entries.{entry_of}
use Rattle.irl_offer.specs.declared.entry.Entry.{Entry}
use Rattle.irl_layout.proofs.EntryBytes.{entry_read, entry_written, room_of}
use Rattle.irl_layout.proofs.entries.read_entry.Goals as goal

pub returns-then-bucket_of-b : goal.returns-then-bucket_of-b
returns-then-bucket_of-b c = λ entry is bytes.
    let found : Some c.in_ok-entry.entry ≡ Some entry = c.in_ok-entry.ensures ∙ ap entry_of bytes ∙ entry_read entry (room_of c.args.buckets c.args.b entry is) in
    let same : c.in_ok-entry.entry ≡ entry = cc in
    c.if-bucket_of-b.true (c.bucket_of.ensures.value ∙ ap (λ (e : Entry). bucket_of c.args.buckets e.key) same ∙ is.bucket)

pub returns-in_err-entry : goal.returns-in_err-entry
returns-in_err-entry c =
    rw c.from_residual.ensures (λ entry is bytes.
    let found : None ≡ Some entry = c.in_err-entry.ensures ∙ ap entry_of bytes ∙ entry_read entry (room_of c.args.buckets c.args.b entry is) in
    cc)

pub returns : goal.returns
returns c =
    let e = c.in_ok-entry.entry in
    let written = entry_written c.args.bytes.now e c.told-bytes c.fits-bytes (sym c.in_ok-entry.ensures) in (
      record {
        key = written.1.key;
        value = written.1.value;
        from = written.1.from;
        aux = written.1.aux;
        bucket = sym c.bucket_of.ensures.value ∙ c.if-bucket_of-b.false;
      },
      written.0,
    )
