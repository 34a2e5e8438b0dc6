-- What the format wrote is the folder, a slash and the four digits.
use Rattle.std.proofs.Common.{IfOk, subst, ap, ◌∙◌, ◌≡◌, ◌∷◌, ◌++◌, string_bytes}
use Rattle.std.specs.Fmt.{styled_decimal}
use Rattle.irl_files.proofs.Names.{in_four}
use Rattle.irl_files.proofs.paths.path_of.Goals as goal

pub returns : goal.returns
returns c =
    subst
    (λ digits. IfOk c.format.result (λ path. string_bytes path ≡ c.args.folder.now ++ 47 ∷ digits))
    (ap (λ spec. styled_decimal spec c.args.f) c.laid_out.ensures ∙ in_four c.args.f c.requires)
    c.format.ensures.ok
