-- The limits of requests, each here once.
use Rattle.std.specs.Prelude.{ℕ}

-- the seconds between the marks at which an unanswered request is sent again
abbrev pub mark_seconds : ℕ
mark_seconds = 5

-- how many marks there are: with the first sending a request is sent at most four times
abbrev pub most_marks : ℕ
most_marks = 3

-- the age in seconds at which an unanswered request is lost
abbrev pub lost_age : ℕ
lost_age = 20
