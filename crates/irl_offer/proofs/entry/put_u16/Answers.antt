use Rattle.std.proofs.Common.{arith, refl}
use Rattle.byteorder.specs.Endian.{little_bytes}
use Rattle.irl_offer.proofs.Writing.{put_number}
use Rattle.irl_offer.proofs.entry.put_u16.Goals as goal

pub returns : goal.returns
returns c = put_number c.args.at _ 2 c.args.bytes.now c.write_u16.new.buf (little_bytes 2 c.args.number) (omega arith) refl c.write_u16.ensures c.requires
