use Rattle.std.proofs.Common.{◌≡◌, ◌-◌, length, ap, ◌∙◌, subst}
use Rattle.irl_scan.specs.Bytes.{at_byte, ends_tag_name}
use Rattle.irl_scan.specs.Reading.{from, before, ReadsInside}
use Rattle.irl_scan.proofs.Pieces.{takes_tag}
use Rattle.irl_scan.proofs.Searches.{position_run}
use Rattle.irl_scan.proofs.cursor.Cursor.read_tag.Goals as goal

pub returns-clause-takes : goal.returns-clause-takes
returns-clause-takes c =
    let size = c.args.self.now.size in
    let page = c.args.self.now.rest.now in
    let inside = c.take_to-name.new.self.rest.now in
    let left = c.read_inside-inside.new.self.rest.now in
    let kind = c.of-kind.result in
    let read = c.read_inside-inside.result in
    let run = position_run ends_tag_name c.skip.new.self.rest.now c.tag_name_end.result c.tag_name_end.ensures in
    let name = c.take_to-name.ensures.front ∙ run.front ∙ ap (before (at_byte ends_tag_name)) c.skip.ensures.rest in
    let behind = c.take_to-name.ensures.rest ∙ run.back ∙ ap (from (at_byte ends_tag_name)) c.skip.ensures.rest in
    let same : c.take_to-name.new.self.size ≡ size = c.take_to-name.ensures.size ∙ c.skip.ensures.size in
    let reads = subst (λ n. ReadsInside kind (n - length inside) inside read.first read.ending left) same c.read_inside-inside.ensures.inside in
    takes_tag size page c.take_to-name.result.now inside left c.take_to.new.self.rest.now kind read.first read.ending c.found_in.result
    c.requires name behind c.of-kind.ensures c.args.self.now.fits reads (c.take_to.ensures.rest ∙ c.raw_end.ensures.back) c.found_in.ensures
