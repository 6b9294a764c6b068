-- What a get writes: the bytes of a range of a file, in order, each from a segment that the cap
-- proves.
use Rattle.std.specs.Prelude.{◌≡◌, ℕ, ◌+◌, ◌-◌, ◌≤◌, All, Contains, List, [], ◌∷◌, ◌++◌, length}
use Rattle.std.specs.Prelude.{◌⊎◌, Bool, true, false, Option, Some, None, drop, nat_eq, take, ⊤}
use Rattle.std.specs.Io.KnownBytes.{Appends, Keeps}
use Rattle.std.specs.List.{IsDistinct, flat_map}
use Rattle.cap_text.specs.Cap.{ReadCapValue}
use Rattle.cap_text.specs.CapText.{Spells}
use Rattle.cap_text.specs.declared.cap.Cap.{Cap}
use Rattle.cap_text.specs.declared.cap.Cap.TheVariants.{Chk, Verify, Lit}
use Rattle.download_segments.specs.Pieces.{AreConsecutive}
use Rattle.download_segments.specs.declared.piece.Piece.{Piece}
use Rattle.download_file.specs.Whole.{joined}
use Rattle.download_core.specs.Evidence.{IsAcceptedBlock}
use Rattle.download_core.specs.Moves.{Begins}
use Rattle.download_core.specs.State.{DownloadState, handed}
use Rattle.local_grid.specs.Outside.{OutsideCalls}
use Rattle.carried_operations.specs.Written.{IsCarried, capped}
use Rattle.grid_rules.specs.Range.{IsWithin, asked_range}
use Rattle.grid_rules.specs.declared.range.ByteRange.{ByteRange}
use Rattle.grid_servers.specs.Grids.{FolderGridState, GridCalls}
use Rattle.grid_servers.specs.Opened.{AreOpenedToRead}
use Rattle.grid_telling.specs.declared.outcome.Failure.{Failure}
use Rattle.grid_telling.specs.declared.outcome.Failure.TheVariants as failures
use Rattle.grid_words.specs.declared.words.GetWords.{GetWords}

-- Where a get stands: the offset up to which it wrote, the session of its next download, and the
-- grid.
pub record Point (G : Type 0) : Type 0 where
  pub offset : ℕ
  pub session : ℕ
  pub grid : G

-- One download of a get: the servers that it asks, the offset that it is to reach, its states as it
-- began and as it ended, the pieces that it gave, and where the get stands then.
pub record Run (G : Type 0) : Type 0 where
  pub servers : List ℕ
  pub to : ℕ
  pub begun : DownloadState
  pub ended : DownloadState
  pub pieces : List Piece
  pub after : Point G

-- It was begun where the get stood, at some of these servers, none of which it asks twice, and
-- carried turn after turn. It gave pieces up to where the get stands then.
pub record IsRun {G : Type 0} (calls : OutsideCalls G) (cap : ReadCapValue) (servers : List ℕ)
    (before : Point G) (r : Run G) : Type 0 where
  pub asked : All (Contains servers) r.servers
  pub distinct : IsDistinct nat_eq r.servers
  pub begins : Begins cap before.offset r.to r.servers before.session (calls.clock before.grid)
      r.begun
  pub carried : IsCarried calls r.begun before.grid r.pieces r.ended r.after.grid
  pub offset : r.after.offset ≡ handed r.ended
  pub session : r.after.session ≡ capped (before.session + 1)

-- These were one after another: each began where the one before it had come to, over the grid that
-- it left, in the next session.
abbrev pub AreRuns : {G : Type 0} → OutsideCalls G → ReadCapValue → List ℕ → Point G
    → List (Run G) → Point G → Type 0
AreRuns calls cap servers before [] after = after ≡ before
AreRuns calls cap servers before (r ∷ rs) after =
    IsRun calls cap servers before r × AreRuns calls cap servers r.after rs after

-- the pieces that they gave, in order
abbrev pub pieces_of : {G : Type 0} → List (Run G) → List Piece
pieces_of {G = G} runs = flat_map (λ (r : Run G). r.pieces) runs

-- The bytes of their pieces were written, one behind another: the writer holds what it held and
-- these.
pub record AreWritten {G : Type 0} (calls : OutsideCalls G) (cap : ReadCapValue) (servers : List ℕ)
    (before : Point G) (held : Option (List ℕ)) (runs : List (Run G)) (after : Point G)
    (holds : Option (List ℕ)) : Type 0 where
  pub runs_are : AreRuns calls cap servers before runs after
  pub consecutive : AreConsecutive before.offset (pieces_of runs) after.offset
  pub written : Appends held holds (joined (pieces_of runs))

-- This is the extension block that a download accepted, where it accepted one.
abbrev pub AcceptsOnly : Option (List ℕ) → DownloadState → Type 0
AcceptsOnly None d = d.found ≡ None
AcceptsOnly (Some block) d =
    (d.found ≡ None) ⊎ IsAcceptedBlock d.requests.entries d.found block

abbrev pub AllAccept : {G : Type 0} → Option (List ℕ) → List (Run G) → Type 0
AllAccept {G = G} block runs = All (λ (r : Run G). AcceptsOnly block r.ended) runs

-- ---- the servers

-- The servers of a grid as a get finds them: their numbers, the grid, and the session of the next
-- download.
pub record Standing (G : Type 0) : Type 0 where
  pub servers : List ℕ
  pub grid : G
  pub session : ℕ

-- where downloads over them begin
abbrev pub begun_at : {G : Type 0} → Standing G → ℕ → Point G
begun_at s offset = record { offset = offset; session = s.session; grid = s.grid }

-- They were just opened for reading, each over its own folder or elsewhere, and are distinct.
pub record AreNew {S : Type 0} (grid : List ℕ) (s : Standing (FolderGridState S)) : Type 0 where
  pub distinct : IsDistinct nat_eq s.servers
  pub opened : AreOpenedToRead grid s.grid
  pub first : s.session ≡ 1

-- Downloads of a cap's file led from these to those.
pub record AreReadTo {G : Type 0} (calls : OutsideCalls G) (old new : Standing G) : Type 0 where
  pub cap : ReadCapValue
  pub from : ℕ
  pub runs : List (Run G)
  pub after : Point G
  pub runs_are : AreRuns calls cap old.servers (begun_at old from) runs after
  pub is : new ≡ record { servers = old.servers; grid = after.grid; session = after.session }

-- They were opened, and since then downloads were carried over them, one after another.
pub data WereRead {S : Type 0} (calls : GridCalls S) (grid : List ℕ)
    : Standing (FolderGridState S) → Type 0 where
  were_new : (s : Standing (FolderGridState S)) → AreNew grid s → WereRead calls grid s
  read_on : (old new : Standing (FolderGridState S)) → WereRead calls grid old
      → AreReadTo calls old new → WereRead calls grid new

-- They stand so: kept open since they were opened, or just opened.
abbrev pub Stands : {S : Type 0} → GridCalls S → List ℕ → Bool → Standing (FolderGridState S)
    → Type 0
Stands calls grid true s = WereRead calls grid s
Stands calls grid false s = AreNew grid s

-- ---- a range

-- A range of a cap's file was got of servers of a grid and written, to its end. All downloads
-- accepted one extension block.
pub record IsGot {G : Type 0} (calls : OutsideCalls G) (cap : ReadCapValue) (range : ByteRange)
    (s : Standing G) (held holds : Option (List ℕ)) : Type 0 where
  pub runs : List (Run G)
  pub after : Point G
  pub written : AreWritten calls cap s.servers (begun_at s range.from) held runs after holds
  pub whole : after.offset ≡ range.to
  pub block : Option (List ℕ)
  pub one : AllAccept block runs

-- A beginning of it was. The last download may have been cut short, or have accepted another block.
pub record IsBegun {G : Type 0} (calls : OutsideCalls G) (cap : ReadCapValue) (range : ByteRange)
    (s : Standing G) (held holds : Option (List ℕ)) : Type 0 where
  pub runs : List (Run G)
  pub last : List (Run G)
  pub few : length last ≤ 1
  pub after : Point G
  pub written : AreWritten calls cap s.servers (begun_at s range.from) held (runs ++ last) after
      holds
  pub within : after.offset ≤ range.to
  pub block : Option (List ℕ)
  pub one : AllAccept block runs

-- ---- by the words of a get

-- how many bytes a cap's file has
abbrev pub file_size : Cap → ℕ
file_size (Chk cap) = cap.size
file_size (Verify cap) = cap.size
file_size (Lit file) = length file

-- the range of a cap's file that these words ask for
abbrev pub range_by : GetWords → Cap → ByteRange
range_by words cap = asked_range words.from words.to (file_size cap)

-- the bytes of a file in a range
abbrev pub bytes_in : List ℕ → ByteRange → List ℕ
bytes_in file range = take (range.to - range.from) (drop range.from file)

-- all of it
abbrev pub whole_range : Cap → ByteRange
whole_range cap = record { from = 0; to = file_size cap }

-- What is written of a cap's file: of one that the cap holds its bytes; of another what was got of
-- servers of the grid, which stand so. A verify cap gives none.
abbrev pub IsGotOf : {S : Type 0} → GridCalls S → List ℕ → Bool → Cap → ByteRange
    → Option (List ℕ) → Option (List ℕ) → Type 0
IsGotOf {S = S} calls grid kept (Chk cap) range held holds =
    (s : Standing (FolderGridState S)) × Stands calls grid kept s
    × IsGot calls cap range s held holds
IsGotOf calls grid kept (Verify cap) range held holds = ⊥
IsGotOf calls grid kept (Lit file) range held holds = Appends held holds (bytes_in file range)

-- What a get writes by its words, whose text is that of a cap.
pub record IsGotBy {S : Type 0} (calls : GridCalls S) (words : GetWords)
    (held holds : Option (List ℕ)) : Type 0 where
  pub cap : Cap
  pub spelled : Spells words.cap.now cap
  pub within : IsWithin (file_size cap) (range_by words cap)
  pub got : IsGotOf calls words.grid.now false cap (range_by words cap) held holds

-- What is written of a cap's file where a get does not end well: nothing, or what was got of the
-- servers up to there.
pub data IsBegunOf {S : Type 0} (calls : GridCalls S) (grid : List ℕ) (kept : Bool)
    (range : ByteRange) (held holds : Option (List ℕ)) : Cap → Type 0 where
  nothing : (cap : Cap) → Keeps held holds → IsBegunOf calls grid kept range held holds cap
  begun : (cap : ReadCapValue) → (s : Standing (FolderGridState S)) → Stands calls grid kept s
      → IsBegun calls cap range s held holds
      → IsBegunOf calls grid kept range held holds (Chk cap)

-- The same by its words, which may be refused.
pub data IsBegunBy {S : Type 0} (calls : GridCalls S) (words : GetWords)
    (held holds : Option (List ℕ)) : Type 0 where
  refused : Keeps held holds → IsBegunBy calls words held holds
  read : (cap : Cap) → Spells words.cap.now cap → IsWithin (file_size cap) (range_by words cap)
      → IsBegunOf calls words.grid.now false (range_by words cap) held holds cap
      → IsBegunBy calls words held holds

-- Where it was the writer that failed, nothing is known of what it holds.
abbrev pub UnlessWriter : Failure → Type 0 → Type 0
UnlessWriter (failures.Fault fault) known = known
UnlessWriter failures.Writer known = ⊤
