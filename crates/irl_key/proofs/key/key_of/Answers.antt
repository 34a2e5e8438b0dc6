-- The eight bytes that the code reads are the first eight of the digest.
use Rattle.std.proofs.Common.{rules, ◌≡◌, ℕ, ◌<◌, List, take, get_or, lit<}
use Rattle.std.proofs.lemmas.List.{get_or-take}
use Rattle.sha1.specs.Sha1.{sha1}
use Rattle.irl_key.specs.Key.{key_of}
use Rattle.irl_key.proofs.key.key_of.Goals as goal

in_front : (s : List ℕ) (i : ℕ) → i < 8 → get_or (take 8 s) i 0 ≡ get_or s i 0
in_front s i h = get_or-take 8 s i 0 h

pub returns : goal.returns
unfolding key_of
returns c =
    let s = sha1 c.args.bytes.now in
    rw (
      in_front s 0 (lit< tt),
      in_front s 1 (lit< tt),
      in_front s 2 (lit< tt),
      in_front s 3 (lit< tt),
      in_front s 4 (lit< tt),
      in_front s 5 (lit< tt),
      in_front s 6 (lit< tt),
      in_front s 7 (lit< tt),
    ) (search rules)
