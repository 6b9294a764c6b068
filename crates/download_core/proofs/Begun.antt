-- A holding is read from now on.
use Rattle.std.proofs.Common.{◌≡◌, ℕ, ◌⊎◌, inl, inr, true, List, [], ◌∷◌, ◌++◌, Contains, length, Option, Some, None, refl, sym, ap, subst, ◌∙◌, arith}
use Rattle.std.specs.Prelude.{slice_get, slice_set}
use Rattle.std.proofs.lemmas.List.{length-append, length-map, length-set}
use Rattle.share_layout.specs.Geometry.{Geometry}
use Rattle.std.proofs.lemmas.Option.{slice_get_within}
use Rattle.lemmas.proofs.Positions.{get_pushed, get_set, get_other, set_cases, get_last, get_push}
use Rattle.lemmas.proofs.Options.{one_there}
use Rattle.request_record.specs.Record.{RequestsState}
use Rattle.download_shares.specs.Numbers.{taken_up}
use Rattle.download_shares.specs.HoldingState.{HoldingsState, NumberState, TableState}
use Rattle.download_shares.specs.Table.{IsFree, IsHolding, TakesUp}
use Rattle.download_shares.specs.declared.holding.Holding.{Holding}
use Rattle.download_shares.specs.Known.{AreBegun}
use Rattle.download_shares.specs.BeginningMoves as moves
use Rattle.download_shares.specs.Opening.{IsTaken}
use Rattle.download_shares.specs.Reads.{IsBeside, IsReadAt}
use Rattle.download_shares.specs.BeginningState.{BeginningsState, IsBegun}
use Rattle.download_shares.specs.declared.begun.Begun.{Begun}
use Rattle.download_file.specs.Answers.{IsRead}
use Rattle.download_file.specs.Asked.{AsksNoMore}
use Rattle.download_file.specs.Changes.{StaysRead}
use Rattle.download_file.specs.Right.{IsFile}
use Rattle.download_file.specs.State.{CopyState, FileState, IsHeard, ReaderState, copies, copy, copy_of}
use Rattle.download_core.specs.Reading.{AreKept, AreLinked, IsOf, IsOfReader, IsReaderOf}
use Rattle.download_core.specs.ReadingState.{ReadingState}
use Rattle.download_core.proofs.Listed.{heard_pushed, pushed_heard, pushed_in}

-- ---- the one of its number that is read

unread_of : (holding : ℕ) (t u : TableState) (h : Holding) → IsHolding t holding h → IsFree t h → (k : TakesUp holding t u) → (h ≡ k.0) × (k.3.number.reading ≡ None)
unread_of holding t u h is free k =
    let one : h ≡ k.0 = one_there (slice_get t.holdings holding) h k.0 is k.1 in
    let number : free.number ≡ k.3.number = one_there (slice_get t.numbers h.share) free.number k.3.number free.there (ap (λ (x : Holding). slice_get t.numbers x.share) one ∙ k.3.is) in
    (one, sym (ap (λ (n : NumberState). n.reading) number) ∙ free.unread)

-- one that is free is not taken
pub free_not_taken : (t : TableState) (position : ℕ) (g : Holding) (h : Holding) → IsFree t h → h.share ≡ g.share → IsTaken t position g → ⊥
free_not_taken t position g h free share taken =
    let one : taken.number ≡ free.number = one_there (slice_get t.numbers g.share) taken.number free.number taken.there (ap (slice_get t.numbers) (sym share) ∙ free.there) in
    let two : Some position ≡ None = sym taken.reading ∙ ap (λ (n : NumberState). n.reading) one ∙ free.unread in
    absurd cc

pub taken_kept : (holding position : ℕ) (t u : TableState) (h g : Holding) → IsHolding t holding h → IsFree t h → TakesUp holding t u → IsTaken t position g → IsTaken u position g
taken_kept holding position t u h g is free k taken =
    let un = unread_of holding t u h is free k in
    record {
      number = taken.number;
      there = ap (λ (l : List NumberState). slice_get l g.share) k.3.numbers ∙ get_other t.numbers k.0.share g.share (record k.3.number { reading = taken_up holding k.3.number.reading })
          (λ e. free_not_taken t position g h free (ap (λ (x : Holding). x.share) un.0 ∙ sym e) taken) ∙ taken.there;
      reading = taken.reading;
    }

pub taken_now : (holding : ℕ) (t u : TableState) (h : Holding) → IsHolding t holding h → IsFree t h → TakesUp holding t u → IsTaken u holding h
taken_now holding t u h is free k =
    let un = unread_of holding t u h is free k in
    record {
      number = record k.3.number { reading = taken_up holding k.3.number.reading };
      there = ap (λ (l : List NumberState). slice_get l h.share) k.3.numbers ∙ ap (λ (x : Holding). slice_get (slice_set t.numbers k.0.share (record k.3.number { reading = taken_up holding k.3.number.reading })) x.share) un.0
          ∙ get_set t.numbers k.0.share (record k.3.number { reading = taken_up holding k.3.number.reading }) k.3.number k.3.is;
      reading = ap (taken_up holding) un.1;
    }

-- ---- all of them

module _ (s t : BeginningsState) (r : ReadingState) (f : FileState) (holding : ℕ) (h : Holding) (before : AreLinked s r) (is : IsHolding s.holdings.table holding h) (free : IsFree s.holdings.table h)
    (reader : ℕ) (position : reader ≡ length r.file.readers) (shared : copies f ≡ copies r.file ++ copy h.server h.share ∷ []) (lives : f.live ≡ r.file.live ++ length r.file.readers ∷ []) (asides : f.aside ≡ r.file.aside)
    (asked : AsksNoMore r.file f) (stays : StaysRead r.file f) (right : IsFile f) (geometry : f.handout.geometry ≡ r.file.handout.geometry) (known : AreBegun t) (reads : moves.IsReaderOf holding reader s t) where
  abbrev pub next : ReadingState
  next = record { file = f; holdings = r.holdings ++ holding ∷ [] }

  -- it had no reader
  pub no_reader : (b : Begun) (q : ℕ) → IsBegun s holding b → b.reader ≡ Some q → ⊥
  no_reader b q there e =
      let alive = before.kept.alive holding q h b is there e free.left in
      let now = before.live q alive in
      let of = before.kept.back holding q b there e in
      let same : now.holding ≡ holding = one_there (slice_get r.holdings q) now.holding holding now.of of in
      let held : now.held ≡ h = one_there (slice_get s.holdings.table.holdings holding) now.held h (subst (λ p. IsHolding s.holdings.table p now.held) same now.is) is in
      free_not_taken s.holdings.table now.holding now.held h free (ap (λ (x : Holding). x.share) (sym held)) now.taken

  none_of : (o : Option ℕ) → ((q : ℕ) → o ≡ Some q → ⊥) → o ≡ None
  none_of None none = refl
  none_of (Some q) none = absurd (none q refl)

  begun_cases : (x : ℕ) (b : Begun) → IsBegun t x b → ((x ≡ holding) × (b.reader ≡ Some reader)) ⊎ ((x ≡ holding → ⊥) × IsBegun s x b)
  begun_cases x b there = elim (set_cases s.begun holding x (record reads.begun { reader = Some reader }) b (sym (ap (λ (l : List Begun). slice_get l x) reads.is) ∙ there)) [
    | inl k ↦ inl (k.0, ap (λ (c : Begun). c.reader) (sym k.1))
    | inr k ↦ inr k
  ]

  held_back : (x : ℕ) (g : Holding) → IsHolding t.holdings.table x g → IsHolding s.holdings.table x g
  held_back x g e = sym (ap (λ (l : List Holding). slice_get l x) reads.takes.2) ∙ e

  held_forth : (x : ℕ) (g : Holding) → IsHolding s.holdings.table x g → IsHolding t.holdings.table x g
  held_forth x g e = ap (λ (l : List Holding). slice_get l x) reads.takes.2 ∙ e

  requests_are : t.holdings.requests ≡ s.holdings.requests
  requests_are = ap (λ (x : HoldingsState). x.requests) reads.holdings

  linked_len : length r.holdings ≡ reader
  linked_len = before.kept.linked ∙ sym position

  pub begun_kept : AreKept t next
  begun_kept = record {
    known = known;
    right = right;
    total = ap length reads.takes.3.numbers ∙ length-set s.holdings.table.numbers reads.takes.0.share _ ∙ before.kept.total ∙ ap (λ (g : Geometry). g.total) (sym geometry);
    linked = (
        let a = length-append r.holdings (holding ∷ []) in
        let b = ap length shared ∙ length-append (copies r.file) (copy h.server h.share ∷ []) in
        let c = length-map f.readers (λ (x : ReaderState). copy_of x) in
        let d = length-map r.file.readers (λ (x : ReaderState). copy_of x) in
        let e = before.kept.linked in
        omega (arith, a, b, c, d, e));
    forth = λ q x of. forth q x (get_pushed r.holdings holding x q of);
    back = λ x q b there e. back x q b e (begun_cases x b there);
    alive = λ x q g b held there e left. alive x q g b (held_back x g held) e left (begun_cases x b there);
    reads = λ x i offset len g b held there left read. by_read x i offset len g b (held_back x g held) left (subst (λ (y : RequestsState). IsReadAt y.entries g i offset len) requests_are read) (begun_cases x b there);
    answers = subst (λ (y : RequestsState). IsRead y.entries f) (sym requests_are) (stays s.holdings.requests.entries before.kept.answers);
  }
    where
      forth : (q x : ℕ) → (slice_get r.holdings q ≡ Some x) ⊎ ((q ≡ length r.holdings) × (holding ≡ x)) → IsReaderOf t next q x
      forth q x (inl old) =
          let k = before.kept.forth q x old in
          record {
            held = k.held;
            is = held_forth x k.held k.is;
            begun = k.begun;
            there = ap (λ (l : List Begun). slice_get l x) reads.is ∙ get_other s.begun holding x (record reads.begun { reader = Some reader })
                (λ e. no_reader k.begun q (subst (λ p. IsBegun s p k.begun) e k.there) k.of_reader) ∙ k.there;
            of_reader = k.of_reader;
            reads = ap (λ (l : List CopyState). slice_get l q) shared ∙ get_push (copies r.file) (copy h.server h.share) q (slice_get_within (copies r.file) q (copy k.held.server k.held.share) k.reads) ∙ k.reads;
          }
      forth q x (inr new) =
          let d = length-map r.file.readers (λ (y : ReaderState). copy_of y) in
          let e = before.kept.linked in
          record {
            held = h;
            is = subst (λ p. IsHolding t.holdings.table p h) new.1 (held_forth holding h is);
            begun = record reads.begun { reader = Some reader };
            there = subst (λ p. IsBegun t p (record reads.begun { reader = Some reader })) new.1
                (ap (λ (l : List Begun). slice_get l holding) reads.is ∙ get_set s.begun holding (record reads.begun { reader = Some reader }) reads.begun reads.there);
            of_reader = ap Some (sym (new.0 ∙ linked_len));
            reads = ap (λ (l : List CopyState). slice_get l q) shared ∙ ap (slice_get (copies r.file ++ copy h.server h.share ∷ [])) (new.0 ∙ e ∙ sym d) ∙ get_last (copies r.file) (copy h.server h.share);
          }

      back : (x q : ℕ) (b : Begun) → b.reader ≡ Some q → ((x ≡ holding) × (b.reader ≡ Some reader)) ⊎ ((x ≡ holding → ⊥) × IsBegun s x b) → IsOf next q x
      back x q b e (inl k) =
          let one : reader ≡ q = one_there b.reader reader q k.1 e in
          ap (slice_get (r.holdings ++ holding ∷ [])) (sym (linked_len ∙ one)) ∙ get_last r.holdings holding ∙ ap Some (sym k.0)
      back x q b e (inr k) = (
          let of = before.kept.back x q b k.1 e in
          get_push r.holdings holding q (slice_get_within r.holdings q x of) ∙ of)

      alive : (x q : ℕ) (g : Holding) (b : Begun) → IsHolding s.holdings.table x g → b.reader ≡ Some q → g.left ≡ true → ((x ≡ holding) × (b.reader ≡ Some reader)) ⊎ ((x ≡ holding → ⊥) × IsBegun s x b) → IsHeard f q
      alive x q g b held e left (inl k) =
          let one : length r.file.readers ≡ q = sym position ∙ one_there b.reader reader q k.1 e in
          inl (subst (λ (l : List ℕ). Contains l q) (sym lives) (subst (λ n. Contains (r.file.live ++ length r.file.readers ∷ []) n) one (pushed_in r.file.live (length r.file.readers))))
      alive x q g b held e left (inr k) = pushed_heard r.file f (length r.file.readers) lives asides q (before.kept.alive x q g b held k.1 e left)

      more : (b : Begun) (offset len : ℕ) → IsOfReader r.file b offset len → IsOfReader f b offset len
      more b offset len (inl beside) = inl (subst (λ g. IsBeside g offset len) (sym geometry) beside)
      more b offset len (inr k) = inr (k.0, k.1, (asked k.0 offset len).1 k.2)

      by_read : (x i offset len : ℕ) (g : Holding) (b : Begun) → IsHolding s.holdings.table x g → g.left ≡ true → IsReadAt s.holdings.requests.entries g i offset len
          → ((x ≡ holding) × (b.reader ≡ Some reader)) ⊎ ((x ≡ holding → ⊥) × IsBegun s x b) → IsOfReader f b offset len
      by_read x i offset len g b held left read (inr k) = more b offset len (before.kept.reads x i offset len g b held k.1 left read)
      by_read x i offset len g b held left read (inl k) =
          beside_only (before.kept.reads x i offset len g reads.begun held (subst (λ p. IsBegun s p reads.begun) (sym k.0) reads.there) left read)
        where
          beside_only : IsOfReader r.file reads.begun offset len → IsOfReader f b offset len
          beside_only (inl beside) = inl (subst (λ g. IsBeside g offset len) (sym geometry) beside)
          beside_only (inr a) = absurd (no_reader reads.begun a.0 reads.there a.1)

  pub begun_reading : AreLinked t next
  begun_reading = record {
    kept = begun_kept;
    live = λ q alive. elim (heard_pushed r.file f (length r.file.readers) lives asides q alive) [
      | inl old ↦ (
          let k = before.live q old in
          record {
            holding = k.holding;
            of = get_push r.holdings holding q (slice_get_within r.holdings q k.holding k.of) ∙ k.of;
            held = k.held;
            is = held_forth k.holding k.held k.is;
            left = k.left;
            taken = taken_kept holding k.holding s.holdings.table t.holdings.table h k.held is free reads.takes k.taken;
          })
      | inr new ↦ (
          let one : length r.file.readers ≡ q = new in
          record {
            holding = holding;
            of = ap (slice_get (r.holdings ++ holding ∷ [])) (sym (before.kept.linked ∙ one)) ∙ get_last r.holdings holding;
            held = h;
            is = held_forth holding h is;
            left = free.left;
            taken = taken_now holding s.holdings.table t.holdings.table h is free reads.takes;
          })
    ];
  }
