-- How far a scrub has come, for private clauses.
use Rattle.std.specs.Prelude.{◌≡◌, ℕ, List, Bool, Option, fold, map}
use Rattle.std.specs.Io.KnownBytes.{Appends}
use Rattle.std.specs.List.{All, flat_map, list_all}
use Rattle.share_scrub.specs.declared.folder.Finding.{Finding}
use Rattle.share_scrub.specs.Seen.{WasSeen}
use Rattle.grid_rules.specs.declared.scrubbing.Scrubbed.{Scrubbed}
use Rattle.grid_stores.specs.Scrubs.{Looked, WereSeen, counted_file, counted_more, counts_of}
use Rattle.grid_stores.specs.Scrubs.{file_text, is_read, looked_text}

-- files of a server were told and counted
pub record AreTold (json : Bool) (server : ℕ) (s t : Scrubbed) (before after : Option (List ℕ))
    : Type 0 where
  pub found : List Finding
  pub seen : All WasSeen found
  pub counts : t ≡ fold counted_file s found
  pub written : Appends before after (flat_map (file_text json server) found)

-- one server was looked at
pub record IsLooked (json : Bool) (server : ℕ) (read : Bool) (s t : Scrubbed)
    (before after : Option (List ℕ)) : Type 0 where
  pub looked : Looked
  pub of : looked.server ≡ server
  pub read_is : read ≡ is_read looked
  pub seen : WereSeen looked
  pub counts : t ≡ counted_more s looked
  pub written : Appends before after (looked_text json looked)

-- and so were these
pub record AreLooked (json : Bool) (servers : List ℕ) (all_read : Bool) (s : Scrubbed)
    (before after : Option (List ℕ)) : Type 0 where
  pub looked : List Looked
  pub of : map (λ l. l.server) looked ≡ servers
  pub read_is : all_read ≡ list_all is_read looked
  pub seen : All WereSeen looked
  pub counts : s ≡ counts_of looked
  pub written : Appends before after (flat_map (looked_text json) looked)
