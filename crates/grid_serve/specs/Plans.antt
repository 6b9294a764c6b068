-- What is decided before a folder is served, and what is opened then.
use Rattle.std.specs.Prelude.{◌≡◌, ◌^◌, ◌++◌, ⊤, ℕ, List, [], ◌∷◌, Option, Some, None, min}
use Rattle.std.specs.Prelude.{option_map, unwrap_or}
use Rattle.share_folders.specs.Folder.{FolderState}
use Rattle.server_core.specs.ServerState.{ServerState}
use Rattle.grid_serve.specs.Counted.{CountedState}
use Rattle.grid_marks.specs.Marks.{mark_text}
use Rattle.grid_marks.specs.Marks.{mark_text}
use Rattle.grid_marks.specs.Servers.{IsAlike}
use Rattle.grid_marks.specs.declared.mark.Mark.{Mark}
use Rattle.grid_serve.specs.declared.folder.Serve.{Serve}

-- a folder that is wanted with a mark has it, or is to have it
abbrev pub HasWanted : Option Mark → Option Mark → Type 0
HasWanted None mark = ⊤
HasWanted (Some wanted) None = ⊥
HasWanted (Some wanted) (Some mark) = IsAlike wanted mark

-- the mark that is wanted has the line that is said, where one is: else none is wanted
abbrev pub IsSaid : Serve → Option Mark → Type 0
IsSaid serve wanted =
    option_map mark_text wanted ≡ option_map (λ word. word.now ++ 10 ∷ []) serve.mark

-- the folder has the mark that is said, or is to have it
abbrev pub HasMark : Serve → Option Mark → Type 0
HasMark serve mark = (wanted : Option Mark) × IsSaid serve wanted × HasWanted wanted mark

-- The server stands over the folder, with no bucket open, and what it takes outlasts a power
-- failure as is said. It has the room that is said, or as much as servers have, and nothing of it
-- is used.
pub record IsOpenedFor (serve : Serve) (server : ServerState (CountedState FolderState)) : Type 0
  where
    pub folder : server.store.store.folder ≡ serve.folder.now
    pub durability : server.store.store.durability ≡ serve.durability
    pub empty : server.buckets ≡ []
    pub room : server.capacity ≡ min (unwrap_or serve.room (2 ^ 42)) (2 ^ 42)
    pub unused : server.store.used ≡ 0
