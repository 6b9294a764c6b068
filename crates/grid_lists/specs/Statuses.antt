-- The exit statuses of commands over many files.
use Rattle.std.specs.Prelude.{◌==◌, ℕ, if◌then◌else◌}

-- the first status that is not 0 stays
abbrev pub status_after : ℕ → ℕ → ℕ
status_after first status = if first == 0 then status else first

-- the status of what is refused as it is read: a catalogue, a line of it, or a name
abbrev pub unread_status : ℕ
unread_status = 3
