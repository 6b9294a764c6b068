-- Downloads of a get, one after another, and the bytes of their pieces.
use Rattle.std.proofs.Common.{◌≡◌, ℕ, List, [], ◌∷◌, ◌++◌, All, Contains, Option, refl, sym, ap, subst, ◌∙◌}
use Rattle.std.proofs.KnownBytes.{Appends-nil, Appends-trans}
use Rattle.std.proofs.lemmas.Grind.{flat_map-append}
use Rattle.std.proofs.lemmas.List.{append-nil}
use Rattle.std.proofs.lemmas.List.Elements.{All-contains, All-weaker}
use Rattle.std.specs.Io.KnownBytes.{Appends}
use Rattle.cap_text.specs.Cap.{ReadCapValue}
use Rattle.download_segments.specs.Pieces.{AreConsecutive}
use Rattle.download_segments.specs.declared.piece.Piece.{Piece}
use Rattle.download_file.specs.Whole.{joined}
use Rattle.download_core.specs.State.{handed}
use Rattle.local_grid.specs.Outside.{OutsideCalls}
use Rattle.carried_operations.proofs.DownloadRuns.{consecutive_more, joined_more}
use Rattle.grid_gets.specs.Gets.{AreRuns, AreWritten, IsRun, Point, Run, pieces_of}

runs_trans : {G : Type 0} (calls : OutsideCalls G) (cap : ReadCapValue) (servers : List ℕ) (a b c : Point G) (rs ss : List (Run G)) → AreRuns calls cap servers a rs b → AreRuns calls cap servers b ss c → AreRuns calls cap servers a (rs ++ ss) c
runs_trans {G = G} calls cap servers a b c [] ss first second = subst (λ (p : Point G). AreRuns calls cap servers p ss c) first second
runs_trans calls cap servers a b c (r ∷ rs) ss first second = (first.0, runs_trans calls cap servers r.after b c rs ss first.1 second)

-- some, and then others
pub written_trans : {G : Type 0} (calls : OutsideCalls G) (cap : ReadCapValue) (servers : List ℕ) (a b c : Point G) (rs ss : List (Run G)) (held middle holds : Option (List ℕ))
    → AreWritten calls cap servers a held rs b middle → AreWritten calls cap servers b middle ss c holds → AreWritten calls cap servers a held (rs ++ ss) c holds
written_trans {G = G} calls cap servers a b c rs ss held middle holds w v =
    let both : pieces_of (rs ++ ss) ≡ pieces_of rs ++ pieces_of ss = flat_map-append (λ (r : Run G). r.pieces) rs ss in
    record {
      runs_are = runs_trans calls cap servers a b c rs ss w.runs_are v.runs_are;
      consecutive = subst (λ (ps : List Piece). AreConsecutive a.offset ps c.offset) (sym both)
          (consecutive_more a.offset b.offset c.offset (pieces_of rs) (pieces_of ss) w.consecutive v.consecutive);
      written = subst (λ (l : List ℕ). Appends held holds l) (sym (ap joined both ∙ joined_more (pieces_of rs) (pieces_of ss)))
          (Appends-trans held middle holds (joined (pieces_of rs)) (joined (pieces_of ss)) w.written v.written);
    }

-- none
pub written_nil : {G : Type 0} (calls : OutsideCalls G) (cap : ReadCapValue) (servers : List ℕ) (a : Point G) (held : Option (List ℕ)) → AreWritten calls cap servers a held [] a held
written_nil calls cap servers a held = record { runs_are = refl; consecutive = refl; written = Appends-nil held }

-- one
pub written_one : {G : Type 0} (calls : OutsideCalls G) (cap : ReadCapValue) (servers : List ℕ) (a : Point G) (r : Run G) (held holds : Option (List ℕ)) → IsRun calls cap servers a r → Appends held holds (joined r.pieces)
    → AreWritten calls cap servers a held (r ∷ []) r.after holds
written_one calls cap servers a r held holds i added =
    let alone : r.pieces ++ [] ≡ r.pieces = append-nil r.pieces in
    let from : AreConsecutive a.offset r.pieces (handed r.ended) = subst (λ (n : ℕ). AreConsecutive n r.pieces (handed r.ended)) i.begins.range.0 i.carried.consecutive in
    record {
      runs_are = (i, refl);
      consecutive = subst (λ (ps : List Piece). AreConsecutive a.offset ps r.after.offset) (sym alone)
          (subst (λ (n : ℕ). AreConsecutive a.offset r.pieces n) (sym i.offset) from);
      written = subst (λ (l : List ℕ). Appends held holds l) (ap joined (sym alone)) added;
    }

-- of some servers, and so of all
module _ {G : Type 0} (calls : OutsideCalls G) (cap : ReadCapValue) (some all : List ℕ) (among : All (Contains all) some) where
  runs_among : (a b : Point G) (rs : List (Run G)) → AreRuns calls cap some a rs b → AreRuns calls cap all a rs b
  runs_among a b [] are = are
  runs_among a b (r ∷ rs) are = (
    record {
      asked = All-weaker (Contains some) (Contains all) (λ (x : ℕ). All-contains (Contains all) some x among) r.servers are.0.asked;
      distinct = are.0.distinct;
      begins = are.0.begins;
      carried = are.0.carried;
      offset = are.0.offset;
      session = are.0.session;
    },
    runs_among r.after b rs are.1,
  )

  pub written_among : (a b : Point G) (rs : List (Run G)) (held holds : Option (List ℕ)) → AreWritten calls cap some a held rs b holds → AreWritten calls cap all a held rs b holds
  written_among a b rs held holds w = record { runs_are = runs_among a b rs w.runs_are; consecutive = w.consecutive; written = w.written }
