-- A reader whose share is not left is read no more.
use Rattle.std.proofs.Common.{◌≡◌, ℕ, ◌+◌, ◌<◌, ◌≤◌, ◌⊎◌, inl, inr, Bool, true, false, cond, not, List, [], ◌∷◌, ◌++◌, Contains, length, refl, sym, ap, subst, ◌∙◌, arith, true≢false}
use Rattle.std.specs.Prelude.{◌==◌, All, slice_get, slice_index_or}
use Rattle.std.proofs.lemmas.Bool.{eq-eqb}
use Rattle.std.proofs.lemmas.List.{append-nil, append_assoc, length-map}
use Rattle.std.proofs.lemmas.List.Elements.{All-contains}
use Rattle.std.proofs.lemmas.Option.{slice_get-get_or}
use Rattle.lemmas.proofs.Options.{one_there}
use Rattle.download_file.proofs.LiveLemmas.{length-without}
use Rattle.download_file.proofs.GrowLemmas.{same_two}
use Rattle.placement.proofs.Members.{Contains-nil, Contains-uncons}
use Rattle.share_layout.specs.Geometry.{Geometry}
use Rattle.download_segments.specs.State.{HandoutState}
use Rattle.download_shares.specs.Table.{IsHolding}
use Rattle.download_shares.specs.declared.holding.Holding.{Holding}
use Rattle.request_record.specs.Record.{RequestsState}
use Rattle.download_shares.specs.Reads.{AddsReads, IsBeside}
use Rattle.download_shares.specs.BeginningState.{BeginningsState}
use Rattle.download_shares.specs.declared.begun.Begun.{Begun}
use Rattle.download_shares.proofs.Caused.{reads_none, reads_trans}
use Rattle.download_shares.proofs.Opened.{goes_none, goes_trans}
use Rattle.download_parts.specs.Plan.{IsPlanned}
use Rattle.download_file.specs.Asked.{AsksNoMore, IsOneOf, IsPlannedRead}
use Rattle.download_file.specs.Changes.{IsSameFile, StaysRead}
use Rattle.download_supply.specs.declared.wanted.Wanted.{Wanted}
use Rattle.download_file.specs.Right.{IsFile}
use Rattle.download_file.specs.State.{CopyState, FileState, IsHeard, ReaderState, copies, copy_of, without}
use Rattle.download_file.proofs.GrowLemmas.{same_itself}
use Rattle.download_core.specs.Reading.{AreKept, AreLinked, IsGone, IsOf, IsOfReader, IsReadNow}
use Rattle.download_core.specs.ReadingState.{ReadingState}
use Rattle.download_core.specs.ReadingSteps.{AddsPieces, Continues, IsReadFor}
use Rattle.download_file.proofs.StateLemmas.{heard_there}
use Rattle.download_core.proofs.Awaited.{goes_stays}
use Rattle.download_core.proofs.Listed.{heard_without, without_heard}

-- the plan of the same file
planned_alike : (f g : FileState) (offset len : ℕ) → IsSameFile f g → IsPlannedRead g offset len → IsPlannedRead f offset len
planned_alike f g offset len same k = record {
  from = k.from;
  begins = (let a = k.begins in let b = same.first in omega (arith, a, b));
  before = (let a = k.before in let b = same.end in omega (arith, a, b));
  planned = subst (λ (x : Geometry). IsPlanned x k.from f.end offset len) same.geometry (subst (λ n. IsPlanned g.handout.geometry k.from n offset len) same.end k.planned);
}

pub adds_none : (h g : HandoutState) → g ≡ h → AddsPieces h g
adds_none h g e = record { handed = ap (λ (x : HandoutState). x.handed) e; more = []; ready = ap (λ (x : HandoutState). x.ready) e ∙ sym (append-nil h.ready) }

adds_trans : (h g k : HandoutState) → AddsPieces h g → AddsPieces g k → AddsPieces h k
adds_trans h g k a b = record {
  handed = b.handed ∙ a.handed;
  more = a.more ++ b.more;
  ready = b.ready ∙ ap (λ l. l ++ b.more) a.ready ∙ append_assoc h.ready a.more b.more;
}

-- one of the parts that are planned
pub planned_of : (f : FileState) (wanted : List Wanted) (offset len : ℕ) → All (λ (w : Wanted). IsPlannedRead f w.read.offset w.read.length) wanted → IsOneOf wanted offset len → IsPlannedRead f offset len
planned_of f wanted offset len all o =
    let k = All-contains (λ (w : Wanted). IsPlannedRead f w.read.offset w.read.length) wanted o.one all o.among in
    subst (λ n. IsPlannedRead f n len) (sym o.offset_is) (subst (λ n. IsPlannedRead f o.one.read.offset n) (sym o.long) k)

-- nothing is asked
pub asks_none : (f : FileState) (s t : BeginningsState) → t.holdings.requests ≡ s.holdings.requests → AddsReads (IsReadFor f) s.holdings.requests.entries t.holdings.requests.entries
asks_none f s t e = reads_none (IsReadFor f) s.holdings.requests.entries t.holdings.requests.entries (ap (λ (q : RequestsState). q.entries) e)

pub continues_none : (s : BeginningsState) (r : ReadingState) → Continues s r s r
continues_none s r = record { goes = goes_none s s refl refl; same = same_itself r.file; pieces = adds_none r.file.handout r.file.handout refl; answers = λ a. a; reads = asks_none r.file s s refl }

pub continues_trans : (s t u : BeginningsState) (r q p : ReadingState) → Continues s r t q → Continues t q u p → Continues s r u p
continues_trans s t u r q p f g = record {
  goes = goes_trans s t u f.goes g.goes;
  same = same_two r.file q.file p.file f.same g.same;
  pieces = adds_trans r.file.handout q.file.handout p.file.handout f.pieces g.pieces;
  answers = λ a. g.answers (f.answers a);
  reads = reads_trans (IsReadFor r.file) s.holdings.requests.entries t.holdings.requests.entries u.holdings.requests.entries (goes_stays t u g.goes) f.reads
      (λ position n share offset len there le asked. planned_alike r.file q.file offset len f.same (g.reads position n share offset len there le asked));
}

module _ (s : BeginningsState) (r : ReadingState) (f : FileState) (reader : ℕ) (before : AreKept s r) (gone : IsGone s r reader) (lives : f.live ≡ without reader r.file.live) (asides : f.aside ≡ without reader r.file.aside) (shared : copies f ≡ copies r.file)
    (asked : AsksNoMore r.file f) (stays : StaysRead r.file f) (right : IsFile f) (geometry : f.handout.geometry ≡ r.file.handout.geometry) where
  abbrev pub ended : ReadingState
  ended = record r { file = f }

  pub ended_kept : AreKept s ended
  ended_kept = record {
    known = before.known;
    right = right;
    total = before.total ∙ ap (λ (g : Geometry). g.total) (sym geometry);
    linked = (
        let e = before.linked in
        let a = ap length shared in
        let c = length-map f.readers (λ (x : ReaderState). copy_of x) in
        let d = length-map r.file.readers (λ (x : ReaderState). copy_of x) in
        omega (arith, e, a, c, d));
    forth = λ q x is. (
        let k = before.forth q x is in
        record { held = k.held; is = k.is; begun = k.begun; there = k.there; of_reader = k.of_reader; reads = ap (λ (l : List CopyState). slice_get l q) shared ∙ k.reads });
    back = before.back;
    alive = λ x q h b is there e left.
        without_heard r.file f reader lives asides q (before.alive x q h b is there e left)
        (λ same.
        let of : IsOf r reader x = ap (slice_get r.holdings) (sym same) ∙ before.back x q b there e in
        let one : x ≡ gone.holding = one_there (slice_get r.holdings reader) x gone.holding of gone.of in
        let held : h ≡ gone.held = one_there (slice_get s.holdings.table.holdings x) h gone.held is (ap (slice_get s.holdings.table.holdings) one ∙ gone.is) in
        true≢false (sym left ∙ ap (λ (y : Holding). y.left) held ∙ gone.gone));
    reads = λ x i offset len h b is there left read. more b offset len (before.reads x i offset len h b is there left read);
    answers = stays s.holdings.requests.entries before.answers;
  }
    where
      more : (b : Begun) (offset len : ℕ) → IsOfReader r.file b offset len → IsOfReader f b offset len
      more b offset len (inl beside) = inl (subst (λ g. IsBeside g offset len) (sym geometry) beside)
      more b offset len (inr k) = inr (k.0, k.1, (asked k.0 offset len).1 k.2)

  pub still_live : ((q : ℕ) → IsHeard r.file q → IsReadNow s r q ⊎ IsGone s r q) → (q : ℕ) → IsHeard f q → IsReadNow s ended q ⊎ IsGone s ended q
  still_live live q alive = elim (live q (heard_without r.file f reader lives asides q alive).0) [
    | inl k ↦ inl (record { holding = k.holding; of = k.of; held = k.held; is = k.is; left = k.left; taken = k.taken })
    | inr k ↦ inr (record { holding = k.holding; of = k.of; held = k.held; is = k.is; gone = k.gone })
  ]

pub all_live : (s : BeginningsState) (r : ReadingState) → AreKept s r → ((q : ℕ) → IsHeard r.file q → IsReadNow s r q ⊎ IsGone s r q) → ((q : ℕ) → IsHeard r.file q → IsGone s r q → ⊥) → AreLinked s r
all_live s r kept live none = record {
  kept = kept;
  live = λ q alive. elim (live q alive) [ inl k ↦ k | inr k ↦ absurd (none q alive k) ];
}

pub fewer : (x : ℕ) (xs : List ℕ) → Contains xs x → length (without x xs) < length xs
fewer x [] h = absurd (Contains-nil x h)
fewer x (y ∷ ys) h = by (y == x) refl (Contains-uncons y ys x h) (length-without x ys) (fewer x ys)
  where
    by : (b : Bool) → (y == x) ≡ b → (y ≡ x) ⊎ Contains ys x → length (without x ys) ≤ length ys → (Contains ys x → length (without x ys) < length ys) → length (cond (not b) (y ∷ without x ys) (without x ys)) < length (y ∷ ys)
    by true e k low rest = omega (arith, low)
    by false e (inl same) low rest = absurd (true≢false (sym (eq-eqb y x same) ∙ e))
    by false e (inr later) low rest = (let r = rest later in omega (arith, r))

-- a reader that ends is one less of those that are heard
pub fewer_heard : (f : FileState) (reader : ℕ) → IsHeard f reader → length (without reader f.live) + length (without reader f.aside) < length f.live + length f.aside
fewer_heard f reader (inl live) =
    let less = fewer reader f.live live in
    let more = length-without reader f.aside in
    omega (arith, less, more)
fewer_heard f reader (inr aside) =
    let less = fewer reader f.aside aside in
    let more = length-without reader f.live in
    omega (arith, less, more)

-- ---- the holding of a reader

pub record OwnHolding (s : BeginningsState) (r : ReadingState) (reader : ℕ) : Type 0 where
  pub holding : ℕ
  pub of : IsOf r reader holding
  pub held : Holding
  pub is : IsHolding s.holdings.table holding held

pub own_holding : (s : BeginningsState) (r : ReadingState) (reader : ℕ) → AreKept s r → IsHeard r.file reader → OwnHolding s r reader
own_holding s r reader kept live =
    let inside : reader < length r.file.readers = heard_there r.file reader kept.right live in
    let l = kept.linked in
    let of : IsOf r reader (slice_index_or r.holdings reader 0) = slice_get-get_or r.holdings reader 0 (omega (arith, inside, l)) in
    let k = kept.forth reader (slice_index_or r.holdings reader 0) of in
    record { holding = slice_index_or r.holdings reader 0; of = of; held = k.held; is = k.is }
