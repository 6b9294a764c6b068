-- What the folders of servers hold, by the names of their files.
use Rattle.std.specs.Prelude.{ℕ, ◌+◌, List, Bool, true, false, count_by, min}
use Rattle.share_files.specs.Acts.{is_open}
use Rattle.share_files.specs.declared.name.FileKind.{FileKind}
use Rattle.share_files.specs.declared.name.FileKind.TheVariants.{Closed, Open, HalfAside, Aside}
use Rattle.share_files.specs.declared.name.ShareFile.{ShareFile}
use Rattle.grid_stores.specs.declared.held.Held.{Held}

abbrev pub is_share : FileKind → Bool
is_share (Closed digest) = true
is_share _ = false

-- set aside, or on its way there
abbrev pub is_damaged : FileKind → Bool
is_damaged (HalfAside digest own) = true
is_damaged (Aside digest number) = true
is_damaged _ = false

-- how many files are of such a kind
abbrev pub count_of : (FileKind → Bool) → List ShareFile → ℕ
count_of is files = count_by (λ (f : ShareFile). is f.kind) files

-- what a folder holds that has these files, whose shares have so many bytes together
abbrev pub held_in : List ShareFile → ℕ → Held
held_in files bytes = record {
  shares = count_of is_share files;
  bytes = bytes;
  opened = count_of is_open files;
  damaged = count_of is_damaged files;
}

-- a sum, up to the most that is counted
abbrev pub plus : ℕ → ℕ → ℕ
plus count more = min (count + more) 18446744073709551615

-- what two hold together
abbrev pub held_with : Held → Held → Held
held_with h other = record {
  shares = plus h.shares other.shares;
  bytes = plus h.bytes other.bytes;
  opened = plus h.opened other.opened;
  damaged = plus h.damaged other.damaged;
}

abbrev pub none_held : Held
none_held = record { shares = 0; bytes = 0; opened = 0; damaged = 0 }
