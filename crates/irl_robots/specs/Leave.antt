-- Whether a crawler may fetch a path, by what it knows of the host's robots file (RFC 9309, section 2.3.1).
use Rattle.std.specs.Prelude.{ℕ, List, Bool, if◌then◌else◌, Option, Some, None}
use Rattle.irl_offer.specs.declared.note.NoteState.{NoteState}
use Rattle.irl_offer.specs.declared.note.NoteState.TheVariants as note
use Rattle.irl_robots.specs.declared.host.HostState.{HostState}
use Rattle.irl_robots.specs.declared.host.HostState.TheVariants as host
use Rattle.irl_robots.specs.declared.host.Leave.{Leave}
use Rattle.irl_robots.specs.declared.host.Leave.TheVariants.{Allowed, Denied, Shut}
use Rattle.irl_robots.specs.Groups.{obeyed}
use Rattle.irl_robots.specs.Rule.{rule}

-- by the line of the rule that holds and whether it allows
abbrev pub leave_by : Option (ℕ × Bool) → Leave
leave_by None = Allowed
leave_by (Some answer) = if answer.1 then Allowed else Denied answer.0

-- What a note gives an agent leave to fetch: by the rules of its text, all where the file is unavailable, nothing where
-- it is unreachable, which shuts out the robots file's own path too.
abbrev pub leave : NoteState → List ℕ → List ℕ → Leave
leave (note.Rules text) agent target = leave_by (rule (obeyed text agent) target)
leave note.Free agent target = Allowed
leave note.Shut agent target = Shut

-- the same of a note that was read for an agent
abbrev pub leave_of : HostState → List ℕ → Leave
leave_of (host.Rules rules) target = leave_by (rule rules target)
leave_of host.Free target = Allowed
leave_of host.Shut target = Shut

-- what is read of a note for an agent
abbrev pub host_state : NoteState → List ℕ → HostState
host_state (note.Rules text) agent = host.Rules (obeyed text agent)
host_state note.Free agent = host.Free
host_state note.Shut agent = host.Shut
