-- What the pieces are together.
use Rattle.std.proofs.Common.{◌∙◌, ◌∷◌, ◌++◌, codes, string_bytes, ap, append_assoc, []}
use Rattle.std.proofs.lemmas.Result.{IfOk-weaker}
use Rattle.irl_files.specs.Folder.{four_digits}
use Rattle.irl_files.specs.Failure.{call_name}
use Rattle.irl_files.proofs.failure.Failure.explain.Goals as goal

pub returns : goal.returns
returns c =
    let folder = c.args.folder.now in
    let failure = c.args.self.now in
    let front = call_name failure.call in
    let file = 47 ∷ four_digits failure.file in
    let reason = string_bytes c.in_ok-reason.reason ++ [] in
    let rest = codes ": " ++ reason in
    IfOk-weaker c.concat-2.result _ _
    (λ text is.
    rw (c.if-self.false) (
      reason,
      is
          ∙ ap (λ name. name ++ (codes " of " ++ (c.as_str.result.now ++ (codes ": " ++ (c.as_str-2.result.now ++ []))))) c.name.ensures
          ∙ ap (λ path. front ++ (codes " of " ++ (path ++ (codes ": " ++ (c.as_str-2.result.now ++ []))))) (c.as_str.ensures.value ∙ c.in_ok-path.ensures)
          ∙ ap (λ why. front ++ (codes " of " ++ ((folder ++ file) ++ (codes ": " ++ (why ++ []))))) c.as_str-2.ensures.value
          ∙ ap (λ tail. front ++ (codes " of " ++ tail)) (append_assoc folder file rest),
    ))
    c.concat-2.ensures.ok
