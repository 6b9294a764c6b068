-- A reader is asked for what is wanted of it.
use Rattle.std.proofs.Common.{◌≡◌, ℕ, ◌+◌, ◌<◌, ◌≤◌, ◌⊎◌, inl, inr, true, List, length, refl, sym, ap, subst, ◌∙◌, arith}
use Rattle.std.specs.Prelude.{slice_get, slice_index_or, All}
use Rattle.std.proofs.lemmas.Bool.{cases_eq}
use Rattle.std.proofs.lemmas.List.{length-map}
use Rattle.lemmas.proofs.Options.{one_there}
use Rattle.share_layout.specs.Geometry.{Geometry}
use Rattle.share_layout.specs.Layout.{header_size, layout_of, offsets_of}
use Rattle.download_shares.specs.HoldingMoves.{IsUnasked}
use Rattle.download_shares.specs.HoldingState.{TableState}
use Rattle.download_shares.specs.Table.{IsHolding}
use Rattle.download_shares.specs.declared.holding.Holding.{Holding}
use Rattle.download_shares.specs.Opening.{IsTaken}
use Rattle.download_shares.specs.Reads.{IsBeside, IsReadAt}
use Rattle.download_shares.specs.BeginningState.{BeginningsState, IsBegun}
use Rattle.download_shares.specs.declared.begun.Begun.{Begun}
use Rattle.download_shares.proofs.Asking.{distinct_positions, unasked_by}
use Rattle.download_parts.specs.PlanLaws.{AreApart, section_end, section_start}
use Rattle.download_parts.specs.Plan.{IsPlanned, length_of, offset_of}
use Rattle.download_parts.specs.Range.{IsRange}
use Rattle.download_parts.specs.declared.part.Part.{Part}
use Rattle.download_parts.specs.declared.part.Part.TheVariants.{ShareHashes, BlockTree, CiphertextTree, Data}
use Rattle.download_parts.proofs.PartLemmas.{lie_inside}
use Rattle.download_supply.specs.declared.wanted.Wanted.{Wanted}
use Rattle.download_file.specs.Asked.{AsksParts, HasAsked, IsOneOf, IsPlannedRead}
use Rattle.download_file.specs.Changes.{StaysRead}
use Rattle.download_file.specs.Laws.{ReadsStay}
use Rattle.download_file.specs.Right.{IsFile}
use Rattle.download_file.specs.State.{CopyState, FileState, IsHeard, ReaderState, copies, copy_of}
use Rattle.download_core.specs.Reading.{AreKept, AreLinked, IsOf, IsOfReader, IsReadNow, IsReaderOf}
use Rattle.download_core.specs.ReadingState.{ReadingState}
use Rattle.download_core.proofs.Listed.{heard_same}
use Rattle.download_core.specs.ReadingSteps as steps
use Rattle.download_core.specs.ReadingSteps.{Grows}

-- ---- beside a plan

-- each section begins behind the header, and ends before the extension block
section_above : (g : Geometry) (p : Part) → header_size (layout_of g) ≤ section_start (offsets_of g) p
section_above g ShareHashes = omega arith
section_above g (BlockTree p) = omega arith
section_above g (CiphertextTree p) = omega arith
section_above g (Data i) = omega arith

section_below : (g : Geometry) (p : Part) → section_end (offsets_of g) p ≤ (offsets_of g).extension_block
section_below g ShareHashes = omega arith
section_below g (BlockTree p) = omega arith
section_below g (CiphertextTree p) = omega arith
section_below g (Data i) = omega arith

pub beside_apart : (g : Geometry) (a b position len offset more : ℕ) → IsRange g a b → IsPlanned g a b offset more → IsBeside g position len → (position + len ≤ offset) ⊎ (offset + more ≤ position)
beside_apart g a b position len offset more range planned beside =
    let l = lie_inside g a b planned.part range planned.is in
    let begins = l.begins in
    let ends = l.ends in
    let above = section_above g planned.part in
    let below = section_below g planned.part in
    let at = planned.begin_is in
    let long = planned.len_is in
    by beside begins ends above below at long
  where
    by : IsBeside g position len → section_start (offsets_of g) planned.part ≤ offset_of g a b planned.part → offset_of g a b planned.part + length_of g a b planned.part ≤ section_end (offsets_of g) planned.part
        → header_size (layout_of g) ≤ section_start (offsets_of g) planned.part → section_end (offsets_of g) planned.part ≤ (offsets_of g).extension_block
        → offset ≡ offset_of g a b planned.part → more ≡ length_of g a b planned.part → (position + len ≤ offset) ⊎ (offset + more ≤ position)
    by (inl low) begins ends above below at long = inl (omega (arith, low, begins, above, at))
    by (inr high) begins ends above below at long = inr (omega (arith, high, ends, below, at, long))

-- the range of a plan that begins later
later : (f : FileState) (from : ℕ) → IsFile f → f.first ≤ from → from < f.end → IsRange f.handout.geometry from f.end
later f from right low high = record { valid = right.range.valid; some = high; within = right.range.within }

-- ---- it is asked

module _ (s : BeginningsState) (r : ReadingState) (f : FileState) (reader holding : ℕ) (wanted : List Wanted) (before : AreLinked s r) (live : IsHeard r.file reader)
    (of : IsOf r reader holding) (asks : AsksParts r.file reader wanted f) where
  abbrev pub now : IsReadNow s r reader
  now = before.live reader live

  holding_is : now.holding ≡ holding
  holding_is = one_there (slice_get r.holdings reader) now.holding holding now.of of

  pub held_is : IsHolding s.holdings.table holding now.held
  held_is = subst (λ p. IsHolding s.holdings.table p now.held) holding_is now.is

  pub part_unasked : (w : Wanted) → IsPlannedRead r.file w.read.offset w.read.length → ((offset len : ℕ) → HasAsked r.file reader offset len → AreApart offset len w.read.offset w.read.length)
      → IsUnasked s.holdings holding w.read.offset w.read.length
  part_unasked w planned fresh = unasked_by s.holdings holding w.read.offset w.read.length (λ h i position len is read. by h i position len is read (begun_of holding))
    where
      k : IsReaderOf s r reader holding
      k = before.kept.forth reader holding of

      begun_of : (x : ℕ) → IsBegun s holding (before.kept.forth reader holding of).begun
      begun_of x = (before.kept.forth reader holding of).there

      by : (h : Holding) (i position len : ℕ) → IsHolding s.holdings.table holding h → IsReadAt s.holdings.requests.entries h i position len → IsBegun s holding (before.kept.forth reader holding of).begun
          → (position + len ≤ w.read.offset) ⊎ (w.read.offset + w.read.length ≤ position)
      by h i position len is read there =
          let same : now.held ≡ h = one_there (slice_get s.holdings.table.holdings holding) now.held h held_is is in
          from (before.kept.reads holding i position len h (before.kept.forth reader holding of).begun is there (ap (λ (x : Holding). x.left) (sym same) ∙ now.left) read)
        where
          from : IsOfReader r.file (before.kept.forth reader holding of).begun position len → (position + len ≤ w.read.offset) ⊎ (w.read.offset + w.read.length ≤ position)
          from (inl beside) = beside_apart r.file.handout.geometry planned.from r.file.end position len w.read.offset w.read.length (later r.file planned.from before.kept.right planned.begins planned.before) planned.planned beside
          from (inr a) =
              let one : a.0 ≡ reader = one_there (before.kept.forth reader holding of).begun.reader a.0 reader a.1 (before.kept.forth reader holding of).of_reader in
              fresh position len (subst (λ q. HasAsked r.file q position len) one a.2)

  pub parts_unasked : All (λ (w : Wanted). IsUnasked s.holdings holding w.read.offset w.read.length) wanted
  parts_unasked k d lt = part_unasked (slice_index_or wanted k d) (asks.planned k d lt) (λ offset len asked. asks.fresh offset len asked k d lt)

  module _ (t : BeginningsState) (done : steps.AsksParts holding wanted s t) (grows : Grows s t) (right : IsFile f) (law : ReadsStay) (stays : StaysRead r.file f) (lives : f.live ≡ r.file.live) (asides : f.aside ≡ r.file.aside) (shared : copies f ≡ copies r.file)
      (geometry : f.handout.geometry ≡ r.file.handout.geometry) where
    abbrev pub asked_state : ReadingState
    asked_state = record r { file = f }

    held_back : (x : ℕ) (g : Holding) → IsHolding t.holdings.table x g → IsHolding s.holdings.table x g
    held_back x g e = sym (ap (λ (u : TableState). slice_get u.holdings x) done.table) ∙ e

    begun_back : (x : ℕ) (b : Begun) → IsBegun t x b → IsBegun s x b
    begun_back x b e = sym (ap (λ (l : List Begun). slice_get l x) done.begun) ∙ e

    pub asked_kept : AreKept t asked_state
    asked_kept = record {
      known = done.known;
      right = right;
      total = ap (λ (u : TableState). length u.numbers) done.table ∙ before.kept.total ∙ ap (λ (g : Geometry). g.total) (sym geometry);
      linked = (
          let e = before.kept.linked in
          let a = ap length shared in
          let c = length-map f.readers (λ (x : ReaderState). copy_of x) in
          let d = length-map r.file.readers (λ (x : ReaderState). copy_of x) in
          omega (arith, e, a, c, d));
      forth = λ q x is. (
          let k = before.kept.forth q x is in
          record {
            held = k.held;
            is = ap (λ (u : TableState). slice_get u.holdings x) done.table ∙ k.is;
            begun = k.begun;
            there = ap (λ (l : List Begun). slice_get l x) done.begun ∙ k.there;
            of_reader = k.of_reader;
            reads = ap (λ (l : List CopyState). slice_get l q) shared ∙ k.reads;
          });
      back = λ x q b there e. before.kept.back x q b (begun_back x b there) e;
      alive = λ x q g b held there e left. heard_same f r.file (sym lives) (sym asides) q (before.kept.alive x q g b (held_back x g held) (begun_back x b there) e left);
      reads = λ x i offset len g b held there left read. by_read x i offset len g b (held_back x g held) (begun_back x b there) left (done.reads g i offset len read);
      answers = law s.holdings.requests.entries t.holdings.requests.entries f grows.stays (stays s.holdings.requests.entries before.kept.answers);
    }
      where
        by_read : (x i offset len : ℕ) (g : Holding) (b : Begun) → IsHolding s.holdings.table x g → IsBegun s x b → g.left ≡ true
            → IsReadAt s.holdings.requests.entries g i offset len ⊎ (steps.IsSamePair s holding g × IsOneOf wanted offset len) → IsOfReader f b offset len
        by_read x i offset len g b held there left (inl old) = more (before.kept.reads x i offset len g b held there left old)
          where
            more : IsOfReader r.file b offset len → IsOfReader f b offset len
            more (inl beside) = inl (subst (λ q. IsBeside q offset len) (sym geometry) beside)
            more (inr a) = inr (a.0, a.1, (asks.asked a.0 offset len).1 (inl a.2))
        by_read x i offset len g b held there left (inr new) =
            let one : x ≡ holding = elim (cases_eq x holding) [
              | inl e ↦ e
              | inr ne ↦ absurd (distinct_positions before.kept.known.right x holding g new.0.0 held new.0.1 (sym new.0.2) (sym new.0.3) ne)
            ] in
            let k = before.kept.forth reader holding of in
            let same : b ≡ k.begun = one_there (slice_get s.begun holding) b k.begun (ap (slice_get s.begun) (sym one) ∙ there) k.there in
            inr (reader, ap (λ (c : Begun). c.reader) same ∙ k.of_reader, (asks.asked reader offset len).1 (inr (refl, new.1)))

    pub asked_reading : AreLinked t asked_state
    asked_reading = record {
      kept = asked_kept;
      live = λ q alive. (
          let k = before.live q (heard_same r.file f lives asides q alive) in
          record {
            holding = k.holding;
            of = k.of;
            held = k.held;
            is = ap (λ (u : TableState). slice_get u.holdings k.holding) done.table ∙ k.is;
            left = k.left;
            taken = subst (λ (u : TableState). IsTaken u k.holding k.held) (sym done.table) k.taken;
          });
    }
