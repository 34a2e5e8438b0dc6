-- What the status of the answer to a robots request says (RFC 9309, section 2.3.1).
use Rattle.std.specs.Prelude.{ℕ, Bool, ◌&&◌, ◌||◌, ◌==◌, nat_le, if◌then◌else◌}
use Rattle.irl_robots.specs.declared.answer.Class.{Class}
use Rattle.irl_robots.specs.declared.answer.Class.TheVariants.{Rules, Moved, Free, Shut}

abbrev pub is_within : ℕ → ℕ → ℕ → Bool
is_within low high status = nat_le low status && nat_le status high

-- the redirects that are followed; RFC 9309 names 301 and 302 as examples
abbrev pub is_redirect : ℕ → Bool
is_redirect status = (status == 301) || (status == 302) || (status == 303) || (status == 307) || (status == 308)

-- Rules with a success; a redirect is followed; a server error makes the file unreachable, so that nothing is allowed;
-- every other status, 400 to 499 among them, makes it unavailable, so that all is.
abbrev pub class_of : ℕ → Class
class_of status =
    if is_within 200 299 status
    then Rules
    else (if is_redirect status
    then Moved
    else (if is_within 500 599 status
    then Shut
    else Free))
