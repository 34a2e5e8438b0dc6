use Rattle.std.proofs.Common.{◌-◌, length, drop, ap, sym, ◌∙◌, subst}
use Rattle.irl_scan.specs.declared.piece.Found.TheVariants.{Nothing}
use Rattle.irl_scan.specs.Page.{ends_comment, ends_markup}
use Rattle.irl_scan.specs.Reading.{from, Takes}
use Rattle.irl_scan.proofs.Pieces.{takes_letter, takes_comment, takes_skipped}
use Rattle.irl_scan.proofs.Searches.{byte_found_run, comment_run}
use Rattle.irl_scan.proofs.cursor.Cursor.read_piece.Goals as goal

pub returns-in-Text-clause-takes : goal.returns-in-Text-clause-takes
returns-in-Text-clause-takes c =
    let rest = c.args.self.now.rest.now in
    let place = c.args.self.now.size - length rest in
    subst (Takes place rest Nothing) (sym c.skip.ensures.rest) (takes_letter place rest c.requires (sym c.opening_of.ensures ∙ c.in-Text.is))

pub returns-in-Comment-clause-takes : goal.returns-in-Comment-clause-takes
returns-in-Comment-clause-takes c =
    let rest = c.args.self.now.rest.now in
    let place = c.args.self.now.size - length rest in
    let run = comment_run c.skip-in-Comment.new.self.rest.now c.find.result c.find.ensures in
    let behind = c.skip-in-Comment-2.ensures.rest ∙ ap (drop 3) (c.take_to.ensures.rest ∙ run.back ∙ ap (from ends_comment) c.skip-in-Comment.ensures.rest) in
    subst (Takes place rest Nothing) (sym behind) (takes_comment place rest (sym c.opening_of.ensures ∙ c.in-Comment.is))

pub returns-in-Skipped-clause-takes : goal.returns-in-Skipped-clause-takes
returns-in-Skipped-clause-takes c =
    let rest = c.args.self.now.rest.now in
    let place = c.args.self.now.size - length rest in
    let run = byte_found_run 62 c.skip-in-Skipped.new.self.rest.now c.memchr.result c.memchr.ensures in
    let behind = c.skip-in-Skipped-2.ensures.rest ∙ ap (drop 1) (c.take_to-in-Skipped.ensures.rest ∙ run.back ∙ ap (from ends_markup) c.skip-in-Skipped.ensures.rest) in
    subst (Takes place rest Nothing) (sym behind) (takes_skipped place rest (sym c.opening_of.ensures ∙ c.in-Skipped.is))
