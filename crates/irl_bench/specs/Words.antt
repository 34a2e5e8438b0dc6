-- What the words of the command line name.
use Rattle.std.specs.Prelude.{ℕ, Bool, true, false, Option, Some, None, List, [], ◌∷◌, codes, is_some, if◌then◌else◌}
use Rattle.std.specs.Str.{bytes_eq}
use Rattle.irl_bench.specs.declared.words.Bench.{Bench}
use Rattle.irl_bench.specs.declared.words.Bench.TheVariants.{Fates, Front, Parse, Reply, Robots, Yard}

-- the bench of this name
abbrev pub bench_of : List ℕ → Option Bench
bench_of word =
    if bytes_eq word (codes "fates") then Some Fates
    else (if bytes_eq word (codes "front") then Some Front
    else (if bytes_eq word (codes "parse") then Some Parse
    else (if bytes_eq word (codes "reply") then Some Reply
    else (if bytes_eq word (codes "robots") then Some Robots
    else (if bytes_eq word (codes "yard") then Some Yard else None)))))

-- the first word is the name of a bench, or `all`
abbrev pub begins_with_name : List (List ℕ) → Bool
begins_with_name [] = false
begins_with_name (first ∷ words) = if bytes_eq first (codes "all") then true else is_some (bench_of first)
