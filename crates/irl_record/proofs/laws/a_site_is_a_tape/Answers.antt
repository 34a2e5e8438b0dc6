use Rattle.irl_record.proofs.SiteTapes.{site_is_read, page_found}
use Rattle.irl_record.proofs.laws.a_site_is_a_tape.Goals as goal

pub returns : goal.returns
returns c = record { tape = site_is_read; reply = page_found }
