-- Fewer shares are left, or a file goes on, and the same is read.
use Rattle.std.proofs.Common.{◌≡◌, ℕ, ◌⊎◌, inl, inr, Bool, true, false, List, length, map, Some, None, refl, sym, ap, subst, ◌∙◌, arith}
use Rattle.std.specs.Prelude.{◌≢◌, ◌≤◌, Result, Ok, Err, slice_get}
use Rattle.std.proofs.lemmas.Option.{slice_get_within}
use Rattle.std.specs.declared.alloc.AllocError.{AllocError}
use Rattle.download_segments.specs.State.{IsHandout}
use Rattle.download_file.specs.Making.{MakesPieces}
use Rattle.download_file.proofs.ManyLemmas.{gets_pieces}
use Rattle.download_file.specs.declared.file.Made.{Made}
use Rattle.download_file.specs.declared.file.Made.TheVariants as made_as
use Rattle.std.proofs.lemmas.List.{length-map}
use Rattle.download_file.proofs.GrowLemmas.{same_itself}
use Rattle.request_record.specs.Record.{RequestsState}
use Rattle.request_record.specs.declared.requests.Request.{Request}
use Rattle.download_shares.specs.HoldingState.{HoldingsState}
use Rattle.share_layout.specs.Geometry.{Geometry}
use Rattle.download_shares.specs.Table.{IsHolding}
use Rattle.download_shares.specs.declared.holding.Holding.{Holding}
use Rattle.download_shares.proofs.Records.{AskedAlike}
use Rattle.download_shares.specs.Known.{AreBegun}
use Rattle.download_shares.specs.Reads.{IsBeside, IsReadAt}
use Rattle.download_shares.specs.BeginningState.{BeginningsState, IsBegun}
use Rattle.download_shares.specs.declared.begun.Begun.{Begun}
use Rattle.download_shares.proofs.Entries.{read_alike}
use Rattle.download_shares.proofs.Falling.{falls_one}
use Rattle.download_shares.proofs.Opened.{goes_blamed, goes_none}
use Rattle.download_file.specs.Changes.{IsSameFile}
use Rattle.download_shares.specs.HoldingMoves.{Blames}
use Rattle.share_verify.specs.declared.check.Check.{Check}
use Rattle.download_core.specs.ReadingSteps.{AddsPieces, Continues}
use Rattle.download_core.proofs.Ended.{adds_none, asks_none}
use Rattle.download_core.proofs.Follows.{Follows, KeepsReaders, WasHeld, follows_falls, none_asked_behind, readers_same}
use Rattle.download_file.specs.Answers.{IsRead}
use Rattle.download_file.specs.Asked.{AsksNoMore}
use Rattle.download_file.specs.Right.{IsFile}
use Rattle.download_file.specs.State.{CopyState, FileState, IsHeard, ReaderState, copies, copy, copy_of}
use Rattle.download_core.specs.Reading.{AreKept, AreLinked, IsGone, IsOfReader, IsReadNow}
use Rattle.download_core.specs.ReadingState.{ReadingState}
use Rattle.download_core.proofs.Listed.{heard_same}

-- ---- fewer are left

module _ (s t : BeginningsState) (r : ReadingState) (before : AreLinked s r) (known : AreBegun t) (follows : Follows s.holdings.table t.holdings.table) (readers : KeepsReaders s.begun t.begun)
    (alike : AskedAlike s.holdings.requests.entries t.holdings.requests.entries) (answers : IsRead t.holdings.requests.entries r.file) where
  -- a holding that has a reader was there
  begun_back : (x q : ℕ) (c : Begun) → IsBegun t x c → c.reader ≡ Some q → (b : Begun) × IsBegun s x b × (c.reader ≡ b.reader)
  begun_back x q c e reads = elim (readers.back x c e) [
    | inl k ↦ k
    | inr none ↦ (let two : None ≡ Some q = sym none.1 ∙ reads in absurd cc)
  ]

  held_back : (x : ℕ) (g : Holding) (b : Begun) → IsHolding t.holdings.table x g → IsBegun s x b → WasHeld s.holdings.table x g
  held_back x g b is there = elim (follows.back x g is) [
    | inl was ↦ was
    | inr new ↦ (let w = slice_get_within s.begun x b there in let c = before.kept.known.counted in absurd (omega (arith, w, c, new)))
  ]

  pub fallen_kept : AreKept t r
  fallen_kept = record {
    known = known;
    right = before.kept.right;
    total = follows.count ∙ before.kept.total;
    linked = before.kept.linked;
    forth = λ q x of. (
        let k = before.kept.forth q x of in
        let g = follows.forth x k.held k.is in
        let b = readers.forth x k.begun k.there in
        record {
          held = g.0;
          is = g.1;
          begun = b.0;
          there = b.1;
          of_reader = b.2 ∙ k.of_reader;
          reads = k.reads ∙ (λ i. Some (copy (sym g.2 i) (sym g.3 i)));
        });
    back = λ x q c there e. (let b = begun_back x q c there e in before.kept.back x q b.0 b.1 (sym b.2 ∙ e));
    alive = λ x q g c is there e left. (
        let b = begun_back x q c there e in
        let w = held_back x g b.0 is b.1 in
        before.kept.alive x q w.held b.0 w.is b.1 (sym b.2 ∙ e) (w.left left));
    reads = λ x i offset len g c is there left read. by_read x i offset len g c is there left read (follows.back x g is);
    answers = answers;
  }
    where
      moved : (b c : Begun) (offset len : ℕ) → c.reader ≡ b.reader → IsOfReader r.file b offset len → IsOfReader r.file c offset len
      moved b c offset len e (inl beside) = inl beside
      moved b c offset len e (inr k) = inr (k.0, e ∙ k.1, k.2)

      by_read : (x i offset len : ℕ) (g : Holding) (c : Begun) → IsHolding t.holdings.table x g → IsBegun t x c → g.left ≡ true → IsReadAt t.holdings.requests.entries g i offset len
          → WasHeld s.holdings.table x g ⊎ (length s.holdings.table.holdings ≤ x) → IsOfReader r.file c offset len
      by_read x i offset len g c is there left read (inr new) = absurd (none_asked_behind s.holdings t.holdings x g i offset len before.kept.known.right known.right follows alike is new read)
      by_read x i offset len g c is there left read (inl w) = elim (readers.back x c there) [
        | inl b ↦ moved b.0 c offset len b.2 (before.kept.reads x i offset len w.held b.0 w.is b.1 (w.left left)
            (read_alike s.holdings.requests.entries t.holdings.requests.entries w.held g i offset len alike w.of_server w.of_share read))
        | inr none ↦ (let k = slice_get_within s.holdings.table.holdings x w.held w.is in let n = before.kept.known.counted in let le = none.0 in absurd (omega (arith, k, n, le)))
      ]

  pub fallen_live : (q : ℕ) → IsHeard r.file q → IsReadNow t r q ⊎ IsGone t r q
  fallen_live q alive = by (before.live q alive)
    where
      by : IsReadNow s r q → IsReadNow t r q ⊎ IsGone t r q
      by k = from (follows.forth k.holding k.held k.is)
        where
          from : (g : Holding) × IsHolding t.holdings.table k.holding g × (g.server ≡ k.held.server) × (g.share ≡ k.held.share) → IsReadNow t r q ⊎ IsGone t r q
          from g = left g.0.left refl
            where
              left : (b : Bool) → g.0.left ≡ b → IsReadNow t r q ⊎ IsGone t r q
              left false e = inr (record { holding = k.holding; of = k.of; held = g.0; is = g.1; gone = e })
              left true e = elim (follows.kept k.held.share k.holding k.taken.number k.taken.there k.taken.reading) [
                | inl on ↦ inl (record {
                  holding = k.holding;
                  of = k.of;
                  held = g.0;
                  is = g.1;
                  left = e;
                  taken = record { number = on.0; there = subst (λ n. slice_get t.holdings.table.numbers n ≡ Some on.0) (sym g.3) on.1; reading = on.2 };
                })
                | inr none ↦ absurd (none g.0 g.1 e)
              ]

-- ---- the file goes on

module _ (s : BeginningsState) (r : ReadingState) (f : FileState) (before : AreLinked s r) (back : (q : ℕ) → IsHeard f q → IsHeard r.file q) (forth : (q : ℕ) → IsHeard r.file q → IsHeard f q) (shared : copies f ≡ copies r.file) (asked : AsksNoMore r.file f)
    (answers : IsRead s.holdings.requests.entries f) (right : IsFile f) (geometry : f.handout.geometry ≡ r.file.handout.geometry) where
  abbrev pub goes_on_with : ReadingState
  goes_on_with = record r { file = f }

  pub file_goes : AreLinked s goes_on_with
  file_goes = record {
    kept = record {
      known = before.kept.known;
      right = right;
      total = before.kept.total ∙ ap (λ (g : Geometry). g.total) (sym geometry);
      linked = (
          let e = before.kept.linked in
          let a = ap length shared in
          let c = length-map f.readers (λ (x : ReaderState). copy_of x) in
          let d = length-map r.file.readers (λ (x : ReaderState). copy_of x) in
          omega (arith, e, a, c, d));
      forth = λ q x of. (
          let k = before.kept.forth q x of in
          record { held = k.held; is = k.is; begun = k.begun; there = k.there; of_reader = k.of_reader; reads = ap (λ (l : List CopyState). slice_get l q) shared ∙ k.reads });
      back = before.kept.back;
      alive = λ x q g b is there e left. forth q (before.kept.alive x q g b is there e left);
      reads = λ x i offset len g b is there left read. more b offset len (before.kept.reads x i offset len g b is there left read);
      answers = answers;
    };
    live = λ q alive. (
        let k = before.live q (back q alive) in
        record { holding = k.holding; of = k.of; held = k.held; is = k.is; left = k.left; taken = k.taken });
  }
    where
      more : (b : Begun) (offset len : ℕ) → IsOfReader r.file b offset len → IsOfReader f b offset len
      more b offset len (inl beside) = inl (subst (λ g. IsBeside g offset len) (sym geometry) beside)
      more b offset len (inr k) = inr (k.0, k.1, (asked k.0 offset len).1 k.2)

-- ---- a share is blamed

module _ (s t : BeginningsState) (r : ReadingState) (holding : ℕ) (check : Check) (before : AreLinked s r) (blames : Blames holding check s.holdings t.holdings) (known : AreBegun t) (same : t.begun ≡ s.begun) where
  requests_are : t.holdings.requests ≡ s.holdings.requests
  requests_are = ap (λ (x : HoldingsState). x.requests) blames.others

  alike : AskedAlike s.holdings.requests.entries t.holdings.requests.entries
  alike = subst (λ (q : RequestsState). AskedAlike s.holdings.requests.entries q.entries) (sym requests_are) (λ i n e. record { request = n; there = e; same = refl; of_server = refl })

  answers : IsRead t.holdings.requests.entries r.file
  answers = subst (λ (q : RequestsState). IsRead q.entries r.file) (sym requests_are) before.kept.answers

  pub blamed_follows : Follows s.holdings.table t.holdings.table
  blamed_follows = follows_falls s.holdings.table t.holdings.table (falls_one holding s.holdings.table t.holdings.table blames.retired)

  pub blamed_kept : AreKept t r
  blamed_kept = fallen_kept s t r before known blamed_follows (readers_same s.begun t.begun same) alike answers

  pub blamed_live : (q : ℕ) → IsHeard r.file q → IsReadNow t r q ⊎ IsGone t r q
  blamed_live = fallen_live s t r before known blamed_follows (readers_same s.begun t.begun same) alike answers

  pub blamed_continues : Continues s r t r
  blamed_continues = record {
    goes = goes_blamed s t holding check blames;
    same = same_itself r.file;
    pieces = adds_none r.file.handout r.file.handout refl;
    answers = λ a. subst (λ (q : RequestsState). IsRead q.entries r.file) (sym requests_are) a;
    reads = asks_none r.file s t requests_are;
  }

-- ---- a segment is made, or not

module _ (s : BeginningsState) (r : ReadingState) (f : FileState) (before : AreLinked s r) (lives : f.live ≡ r.file.live) (asides : f.aside ≡ r.file.aside) (readers : f.readers ≡ r.file.readers) (asked : AsksNoMore r.file f)
    (answers : IsRead s.holdings.requests.entries f) (right : IsFile f) (same : IsSameFile r.file f) where
  pub made_reading : AreLinked s (record r { file = f })
  made_reading = file_goes s r f before (heard_same r.file f lives asides) (heard_same f r.file (sym lives) (sym asides)) (ap (λ (l : List ReaderState). map (λ (x : ReaderState). copy_of x) l) readers) asked answers right same.geometry

  pub made_continues : AddsPieces r.file.handout f.handout → Continues s r s (record r { file = f })
  made_continues pieces = record { goes = goes_none s s refl refl; same = same; pieces = pieces; answers = λ a. answers; reads = asks_none r.file s s refl }

-- what was taken of the pieces stays so
pub pieces_made : (entries : List Request) (f g : FileState) (made : Result Made AllocError) → IsHandout f.handout → (made ≡ Ok made_as.Ready → MakesPieces entries f g) → (made ≢ Ok made_as.Ready → g.handout ≡ f.handout) → AddsPieces f.handout g.handout
pieces_made entries f g (Ok made_as.Waits) right ready others = adds_none f.handout g.handout (others (λ e. cc))
pieces_made entries f g (Ok made_as.Ready) right ready others = (let k = gets_pieces entries f g right (ready refl) in record { handed = k.handed; more = k.more; ready = k.ready })
pieces_made entries f g (Ok (made_as.Wrong q)) right ready others = adds_none f.handout g.handout (others (λ e. cc))
pieces_made entries f g (Ok made_as.Inconsistent) right ready others = adds_none f.handout g.handout (others (λ e. cc))
pieces_made entries f g (Err x) right ready others = adds_none f.handout g.handout (others (λ e. cc))
