-- What a scrub tells: a line, or an object for programs, of each file that is not as it should be,
-- and one of all.
use Rattle.std.specs.Prelude.{ℕ, List, [], ◌++◌, ◌+◌, codes, decimal, min}
use Rattle.std.specs.Prelude.{if◌then◌else◌, ◌&&◌, nat_eq}
use Rattle.cap_text.specs.Base32.{base32}
use Rattle.share_scrub.specs.declared.folder.Action.{Action}
use Rattle.share_scrub.specs.declared.folder.Action.TheVariants.{Left, Done, Failed}
use Rattle.share_scrub.specs.declared.folder.Finding.{Finding}
use Rattle.share_scrub.specs.declared.folder.State.{State}
use Rattle.share_scrub.specs.declared.folder.State.TheVariants.{Whole, Damaged, Unreadable, Odd}
use Rattle.share_scrub.specs.declared.folder.State.TheVariants.{LeftOpen, Aside, HalfAside}
use Rattle.grid_faults.specs.Servers.{server_name}
use Rattle.grid_rules.specs.declared.scrubbing.Scrubbed.{Scrubbed}

-- what became of a damaged file, and of one that was left open or had been set aside
abbrev pub aside_text : Action → List ℕ
aside_text Left = []
aside_text Done = codes " set-aside"
aside_text (Failed _) = codes " not-set-aside"

abbrev pub removed_text : Action → List ℕ
removed_text Left = []
removed_text Done = codes " removed"
removed_text (Failed _) = codes " not-removed"

-- what became of a file that was on its way to be set aside
abbrev pub settled_text : Action → List ℕ
settled_text Left = []
settled_text Done = codes " settled"
settled_text (Failed _) = codes " not-settled"

-- how a file was found
abbrev pub state_text : State → List ℕ
state_text Whole = codes "whole"
state_text (Damaged action) = codes "damaged" ++ aside_text action
state_text (Unreadable _) = codes "unreadable"
state_text Odd = codes "odd"
state_text (LeftOpen bytes action) = codes "open " ++ (decimal bytes ++ removed_text action)
state_text (Aside bytes action) = codes "aside " ++ (decimal bytes ++ removed_text action)
state_text (HalfAside bytes action) = codes "half-aside " ++ (decimal bytes ++ settled_text action)

-- the line of a file: server, storage index, number of the share, and how it was found
abbrev pub finding_line : ℕ → Finding → List ℕ
finding_line server f = server_name server ++ (codes " " ++ (base32 f.file.key.0
    ++ (codes " " ++ (decimal f.file.key.1 ++ (codes " " ++ (state_text f.state ++ codes "\n"))))))

-- the object of a file
abbrev pub finding_object : List ℕ → List ℕ → ℕ → List ℕ → List ℕ
finding_object server index share state = codes "{\"server\":\"" ++ (server
    ++ (codes "\",\"index\":\"" ++ (index ++ (codes "\",\"share\":" ++ (decimal share
    ++ (codes ",\"verdict\":\"" ++ (state ++ codes "\"}\n")))))))

abbrev pub finding_json : ℕ → Finding → List ℕ
finding_json server f = finding_object (server_name server) (base32 f.file.key.0)
    f.file.key.1 (state_text f.state)

-- a count and its word, which are told where there are some
abbrev pub some_text : List ℕ → ℕ → List ℕ
some_text word n = if nat_eq n 0 then [] else codes " " ++ (word ++ (codes " " ++ decimal n))

-- the line of all
abbrev pub last_line : Scrubbed → List ℕ
last_line s = codes "shares " ++ (decimal s.shares ++ (codes " damaged " ++ (decimal s.damaged
    ++ (some_text (codes "unreadable") s.unreadable ++ (some_text (codes "odd") s.odd
    ++ (some_text (codes "aside") s.aside ++ codes "\n"))))))

-- the object of all
abbrev pub last_json : Scrubbed → List ℕ
last_json s = codes "{\"shares\":" ++ (decimal s.shares ++ (codes ",\"damaged\":"
    ++ (decimal s.damaged ++ (codes ",\"unreadable\":" ++ (decimal s.unreadable
    ++ (codes ",\"odd\":" ++ (decimal s.odd ++ (codes ",\"aside\":" ++ (decimal s.aside
    ++ codes "}\n")))))))))

-- one more, up to the most that are counted
abbrev pub one_more : ℕ → ℕ
one_more n = min (n + 1) 18446744073709551615

-- one more of those that were set aside, or half, where it still stands so
abbrev pub aside_after : Action → ℕ → ℕ
aside_after Left n = one_more n
aside_after Done n = n
aside_after (Failed _) n = one_more n

-- A closed share's regular file is one of those that were looked at, whichever way it was found.
-- What else has such a name is counted by itself, and so are files that were set aside, or half.
-- Files that were left open are told, and not counted.
abbrev pub counted : Scrubbed → State → Scrubbed
counted s Whole =
    record {
      shares = one_more s.shares;
      damaged = s.damaged;
      unreadable = s.unreadable;
      odd = s.odd;
      aside = s.aside;
    }
counted s (Damaged _) =
    record {
      shares = one_more s.shares;
      damaged = one_more s.damaged;
      unreadable = s.unreadable;
      odd = s.odd;
      aside = s.aside;
    }
counted s (Unreadable _) =
    record {
      shares = one_more s.shares;
      damaged = s.damaged;
      unreadable = one_more s.unreadable;
      odd = s.odd;
      aside = s.aside;
    }
counted s Odd =
    record {
      shares = s.shares;
      damaged = s.damaged;
      unreadable = s.unreadable;
      odd = one_more s.odd;
      aside = s.aside;
    }
counted s (LeftOpen _ _) = s
counted s (Aside _ action) =
    record {
      shares = s.shares;
      damaged = s.damaged;
      unreadable = s.unreadable;
      odd = s.odd;
      aside = aside_after action s.aside;
    }
counted s (HalfAside _ action) =
    record {
      shares = s.shares;
      damaged = s.damaged;
      unreadable = s.unreadable;
      odd = s.odd;
      aside = aside_after action s.aside;
    }

-- 0 where each share is whole, else that of too few shares
abbrev pub scrub_status : Scrubbed → ℕ
scrub_status s =
    if nat_eq s.damaged 0 && nat_eq s.unreadable 0 && nat_eq s.odd 0 then 0 else 5
