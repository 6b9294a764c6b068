-- Why shares are blamed.
use Rattle.std.proofs.Common.{◌≡◌, ℕ, ◌<◌, inl, inr, List, [], ◌∷◌, Some, None, refl, sym, ap, subst, ◌∙◌}
use Rattle.std.specs.Prelude.{Option, option_map, slice_get, Contains}
use Rattle.std.proofs.lemmas.Option.{slice_get-map}
use Rattle.lemmas.proofs.Options.{one_there}
use Rattle.download_file.proofs.GrowLemmas.{same_itself, same_two}
use Rattle.placement.proofs.Members.{Contains-head}
use Rattle.request_record.specs.declared.requests.Asked.TheVariants.{Reading}
use Rattle.request_record.specs.declared.requests.Request.{Request}
use Rattle.share_verify.specs.declared.check.Check.{Check}
use Rattle.share_verify.specs.declared.check.Check.TheVariants as checks
use Rattle.download_shares.specs.Table.{IsHolding}
use Rattle.download_shares.specs.declared.holding.Blame.{Blame}
use Rattle.download_shares.specs.declared.holding.Holding.{Holding}
use Rattle.download_shares.proofs.Records.{StaysTo}
use Rattle.download_shares.specs.Causes.{AddsBlames}
use Rattle.download_shares.proofs.Caused.{adds_as, adds_trans}
use Rattle.download_shares.specs.Reads.{IsAnsweredBy}
use Rattle.download_shares.specs.BeginningState.{BeginningsState}
use Rattle.share_layout.specs.Geometry.{Geometry}
use Rattle.download_parts.specs.Plan.{length_of, offset_of}
use Rattle.download_parts.specs.declared.part.Part.TheVariants.{Data}
use Rattle.download_file.specs.Answers.{AnswersFirst}
use Rattle.download_file.specs.Changes.{IsSameFile}
use Rattle.download_file.specs.Making.{RefutesReader}
use Rattle.download_file.specs.State.{CopyState, FileState, IsHeard, ReaderState, copies, copy, copy_of, first_position, first_waiting, waiting_at, waiting_in}
use Rattle.download_file.specs.Taking.{IsRefused}
use Rattle.download_file.specs.declared.reader.Waiting.{Waiting}
use Rattle.cap_text.specs.Cap.{VerifyCapValue}
use Rattle.download_shares.specs.Causes.{IsBeginningFault}
use Rattle.download_core.specs.ReadingCauses.{HasCause, IsBlameOf, IsBlockFault, IsPartFault}
use Rattle.download_core.specs.Laws.{BlocksAreAnswered}
use Rattle.download_core.specs.Reading.{AreReadingBut}
use Rattle.download_core.specs.ReadingState.{ReadingState}
use Rattle.download_core.specs.ReadingSteps.{Continues}
use Rattle.request_record.specs.Record.{RequestsState, is_outstanding}
use Rattle.download_core.proofs.Awaited.{goes_stays}

-- ---- what stays of a cause

pub part_moved : (es ns : List Request) (f g : FileState) (b : Blame) → StaysTo es ns → IsSameFile f g → IsPartFault es f b → IsPartFault ns g b
part_moved es ns f g b stays same k = record {
  file = k.file;
  right = k.right;
  same = same_two k.file f g k.same same;
  reader = k.reader;
  live = k.live;
  bytes = k.bytes;
  refused = k.refused;
  reads = k.reads;
  request = k.request;
  there = stays k.refused.first.position k.request k.there (ap is_outstanding k.answer);
  of_server = k.of_server;
  asked = k.asked;
  answer = k.answer;
}

pub block_moved : (es ns : List Request) (f g : FileState) (b : Blame) → StaysTo es ns → IsSameFile f g → IsBlockFault es f b → IsBlockFault ns g b
block_moved es ns f g b stays same k = record {
  file = k.file;
  right = k.right;
  same = same_two k.file f g k.same same;
  answered = k.answered;
  keeps = λ position q body there answer. stays position q (k.keeps position q body there answer) (ap is_outstanding answer);
  read = k.read;
  reader = k.reader;
  refuted = k.refuted;
  reads = k.reads;
  check = k.check;
}

pub cause_moved : (cap : VerifyCapValue) (es : List Request) (f g : FileState) (b : Blame) → IsSameFile f g → HasCause cap es f b → HasCause cap es g b
cause_moved cap es f g b same (inl k) = inl (subst (λ (x : Geometry). IsBeginningFault cap x es b × (b.share < x.total)) (sym same.geometry) k)
cause_moved cap es f g b same (inr k) = inr (part_moved es es f g b (λ i q e quiet. e) same k)

-- what waits first
waits_first : (f : FileState) (reader position : ℕ) (bytes : List ℕ) (check : Check) (k : IsRefused f reader bytes check) → first_waiting f reader ≡ Some position → Contains (waiting_at f reader) k.first × (k.first.position ≡ position)
waits_first f reader position bytes check k e =
    let same : waiting_at f reader ≡ k.first ∷ k.others = ap waiting_in k.there ∙ k.waits in
    let one : Some k.first.position ≡ Some position = sym (ap first_position same) ∙ e in
    (subst (λ (l : List Waiting). Contains l k.first) (sym same) (Contains-head k.first k.others), cc)

-- the copy that a reader reads
copy_at : (f : FileState) (reader server share : ℕ) (r : ReaderState) → slice_get f.readers reader ≡ Some r → slice_get (copies f) reader ≡ Some (copy server share) → copy_of r ≡ copy server share
copy_at f reader server share r there is =
    let at : slice_get (copies f) reader ≡ Some (copy_of r) = slice_get-map (λ (y : ReaderState). copy_of y) f.readers reader ∙ ap (λ o. option_map (λ (y : ReaderState). copy_of y) o) there in
    one_there (slice_get (copies f) reader) (copy_of r) (copy server share) at is

-- ---- the answer to the first part

record WaitsFirst (f : FileState) (reader position : ℕ) : Type 0 where
  pub r : ReaderState
  pub there : slice_get f.readers reader ≡ Some r
  pub first : Waiting
  pub others : List Waiting
  pub waits : r.waiting ≡ first ∷ others
  pub at : first.position ≡ position

first_of : (f : FileState) (reader position : ℕ) (o : Option ReaderState) (ws : List Waiting) → slice_get f.readers reader ≡ o → waiting_in o ≡ ws → first_position ws ≡ Some position → WaitsFirst f reader position
first_of f reader position o [] there same e = absurd cc
first_of f reader position None (w ∷ ws) there same e = absurd cc
first_of f reader position (Some r) (w ∷ ws) there same e = record { r = r; there = there; first = w; others = ws; waits = same; at = cc }

-- the bytes are what the reader's own server answered
pub answers_first : (but : Option ℕ) (s : BeginningsState) (r : ReadingState) (reader position : ℕ) (bytes : List ℕ) → AreReadingBut but s r → IsHeard r.file reader → first_waiting r.file reader ≡ Some position
    → IsAnsweredBy s.holdings.requests.entries position bytes → AnswersFirst s.holdings.requests.entries r.file reader bytes
answers_first but s r reader position bytes reading live first answered =
    let w = first_of r.file reader position (slice_get r.file.readers reader) (waiting_at r.file reader) refl refl first in
    let now = reading.linked.live reader live in
    let own = reading.linked.kept.forth reader now.holding now.of in
    let held : own.held ≡ now.held = one_there (slice_get s.holdings.table.holdings now.holding) own.held now.held own.is now.is in
    let one : copy_of w.r ≡ copy own.held.server own.held.share = copy_at r.file reader own.held.server own.held.share w.r w.there own.reads in
    let same : waiting_at r.file reader ≡ w.first ∷ w.others = ap waiting_in w.there ∙ w.waits in
    let a = (reading.awaits.asked reader now.held w.first (record { live = live; holding = now.holding; of = now.of; is = now.is; left = now.left })
    (subst (λ (l : List Waiting). Contains l w.first) (sym same) (Contains-head w.first w.others))).read in
    let request : a.request ≡ answered.request = one_there (slice_get s.holdings.requests.entries position) a.request answered.request (ap (slice_get s.holdings.requests.entries) (sym w.at) ∙ a.there) answered.there in
    record {
      r = w.r;
      there = w.there;
      first = w.first;
      others = w.others;
      waits = w.waits;
      answers = record {
        request = a.request;
        there = a.there;
        of_server = a.of_server ∙ ap (λ (h : Holding). h.server) (sym held) ∙ ap (λ (c : CopyState). c.server) (sym one);
        asked = a.asked ∙ ap (λ (h : Holding). Reading h.share w.first.wanted.read.offset w.first.wanted.read.length) (sym held)
            ∙ ap (λ (c : CopyState). Reading c.share w.first.wanted.read.offset w.first.wanted.read.length) (sym one);
        answer = ap (λ (q : Request). q.outcome) request ∙ answered.answer;
      };
    }

-- the part that a reader waited for is refused
pub part_fault : (but : Option ℕ) (s : BeginningsState) (r : ReadingState) (reader position : ℕ) (check : Check) (bytes : List ℕ) (b : Blame) → AreReadingBut but s r → IsHeard r.file reader → first_waiting r.file reader ≡ Some position
    → IsAnsweredBy s.holdings.requests.entries position bytes → IsRefused r.file reader bytes check → IsBlameOf s r reader check b → IsPartFault s.holdings.requests.entries r.file b
part_fault but s r reader position check bytes b reading live first answered refused blame =
    let now = reading.linked.live reader live in
    let one : now.holding ≡ blame.holding = one_there (slice_get r.holdings reader) now.holding blame.holding now.of blame.of in
    let held : now.held ≡ blame.held = one_there (slice_get s.holdings.table.holdings now.holding) now.held blame.held now.is (subst (λ x. IsHolding s.holdings.table x blame.held) (sym one) blame.is) in
    let k : IsRefused r.file reader bytes b.check = subst (IsRefused r.file reader bytes) (sym blame.check_is) refused in
    let w = waits_first r.file reader position bytes b.check k first in
    let own = reading.linked.kept.forth reader blame.holding blame.of in
    let own_held : own.held ≡ blame.held = one_there (slice_get s.holdings.table.holdings blame.holding) own.held blame.held own.is blame.is in
    let a = (reading.awaits.asked reader now.held k.first (record { live = live; holding = now.holding; of = now.of; is = now.is; left = now.left }) w.0).read in
    let same : a.request ≡ answered.request = one_there (slice_get s.holdings.requests.entries position) a.request answered.request (ap (slice_get s.holdings.requests.entries) (sym w.1) ∙ a.there) answered.there in
    record {
      file = r.file;
      right = reading.linked.kept.right;
      same = same_itself r.file;
      reader = reader;
      live = live;
      bytes = bytes;
      refused = k;
      reads = copy_at r.file reader own.held.server own.held.share k.r k.there own.reads ∙ ap (λ (h : Holding). copy h.server h.share) own_held ∙ (λ i. copy (sym blame.of_server i) (sym blame.of_share i));
      request = a.request;
      there = a.there;
      of_server = a.of_server ∙ ap (λ (h : Holding). h.server) held ∙ sym blame.of_server;
      asked = a.asked ∙ ap (λ (h : Holding). Reading h.share k.first.wanted.read.offset k.first.wanted.read.length) held ∙ ap (λ n. Reading n k.first.wanted.read.offset k.first.wanted.read.length) (sym blame.of_share);
      answer = ap (λ (q : Request). q.outcome) same ∙ answered.answer;
    }

-- the block that a reader holds is wrong
pub block_fault : (but : Option ℕ) (s : BeginningsState) (r : ReadingState) (reader : ℕ) (b : Blame) → AreReadingBut but s r → RefutesReader s.holdings.requests.entries r.file reader → IsBlameOf s r reader checks.Data b → IsBlockFault s.holdings.requests.entries r.file b
block_fault but s r reader b reading refuted blame =
    let f = reading.linked.kept.forth reader blame.holding blame.of in
    let held : f.held ≡ blame.held = one_there (slice_get s.holdings.table.holdings blame.holding) f.held blame.held f.is blame.is in
    record {
      file = r.file;
      right = reading.linked.kept.right;
      same = same_itself r.file;
      answered = s.holdings.requests.entries;
      keeps = λ position q body there answer. there;
      read = reading.linked.kept.answers;
      reader = reader;
      refuted = refuted;
      reads = copy_at r.file reader f.held.server f.held.share refuted.r refuted.there f.reads ∙ ap (λ (h : Holding). copy h.server h.share) held ∙ (λ i. copy (sym blame.of_server i) (sym blame.of_share i));
      check = blame.check_is;
    }

-- what is held of it was answered by the blamed server
pub block_answered : BlocksAreAnswered
block_answered entries f b k i low =
    let s = k.refuted.r.supply in
    let a = k.read.held k.reader k.refuted.r k.refuted.there i low in
    record {
      request = a.request;
      there = k.keeps _ a.request _ a.there a.answer;
      of_server = a.of_server ∙ ap (λ (c : CopyState). c.server) k.reads;
      asked = a.asked ∙ ap (λ (c : CopyState). Reading c.share (offset_of s.geometry s.first s.end (Data i)) (length_of s.geometry s.first s.end (Data i))) k.reads;
      bytes = a.bytes;
      answer = a.answer;
      long = a.long;
    }

stays_same : (s t : BeginningsState) → t.holdings.requests ≡ s.holdings.requests → StaysTo t.holdings.requests.entries s.holdings.requests.entries
stays_same s t same i q e quiet = ap (λ (x : RequestsState). slice_get x.entries i) (sym same) ∙ e

-- more is taken
pub taken_causes : (s t u : BeginningsState) (r q p : ReadingState) → Continues s r t q → Continues t q u p → t.holdings.requests ≡ s.holdings.requests
    → AddsBlames (IsPartFault s.holdings.requests.entries q.file) s.holdings.blamed t.holdings.blamed → AddsBlames (IsPartFault t.holdings.requests.entries p.file) t.holdings.blamed u.holdings.blamed
    → AddsBlames (IsPartFault s.holdings.requests.entries p.file) s.holdings.blamed u.holdings.blamed
taken_causes s t u r q p first second same before after =
    let es = s.holdings.requests.entries in
    adds_trans (IsPartFault es p.file) s t u second.goes
    (adds_as (IsPartFault es q.file) (IsPartFault es p.file) s.holdings.blamed t.holdings.blamed (λ b k. part_moved es es q.file p.file b (λ i x e quiet. e) second.same k) before)
    (adds_as (IsPartFault t.holdings.requests.entries p.file) (IsPartFault es p.file) t.holdings.blamed u.holdings.blamed
    (λ b k. part_moved t.holdings.requests.entries es p.file p.file b (stays_same s t same) (same_itself p.file) k) after)

-- ---- a message

pub began_causes : (cap : VerifyCapValue) (s t : BeginningsState) (q p : ReadingState) → p.file.handout.geometry ≡ q.file.handout.geometry
    → AddsBlames (IsBeginningFault cap q.file.handout.geometry s.holdings.requests.entries) s.holdings.blamed t.holdings.blamed
    → AddsBlames (λ b. b.share < q.file.handout.geometry.total) s.holdings.blamed t.holdings.blamed
    → AddsBlames (HasCause cap s.holdings.requests.entries p.file) s.holdings.blamed t.holdings.blamed
began_causes cap s t q p same adds low i b is le =
    inl (subst (λ (g : Geometry). IsBeginningFault cap g s.holdings.requests.entries b × (b.share < g.total)) (sym same) (adds i b is le, low i b is le))

pub took_causes : (cap : VerifyCapValue) (s t u : BeginningsState) (p : ReadingState) → t.holdings.requests ≡ s.holdings.requests
    → AddsBlames (IsPartFault t.holdings.requests.entries p.file) t.holdings.blamed u.holdings.blamed
    → AddsBlames (HasCause cap s.holdings.requests.entries p.file) t.holdings.blamed u.holdings.blamed
took_causes cap s t u p same adds i b is le =
    inr (part_moved t.holdings.requests.entries s.holdings.requests.entries p.file p.file b (stays_same s t same) (same_itself p.file) (adds i b is le))

pub heard_causes : (cap : VerifyCapValue) (s t u : BeginningsState) (q p : ReadingState) → Continues t q u p → t.holdings.requests ≡ s.holdings.requests
    → AddsBlames (HasCause cap s.holdings.requests.entries q.file) s.holdings.blamed t.holdings.blamed → AddsBlames (IsPartFault t.holdings.requests.entries p.file) t.holdings.blamed u.holdings.blamed
    → AddsBlames (HasCause cap s.holdings.requests.entries p.file) s.holdings.blamed u.holdings.blamed
heard_causes cap s t u q p second same before after =
    let es = s.holdings.requests.entries in
    adds_trans (HasCause cap es p.file) s t u second.goes
    (adds_as (HasCause cap es q.file) (HasCause cap es p.file) s.holdings.blamed t.holdings.blamed (λ b k. cause_moved cap es q.file p.file b second.same k) before)
    (took_causes cap s t u p same after)

-- ---- a segment

pub made_causes : (s t : BeginningsState) (r now p : ReadingState) (f : FileState) (reader : ℕ) → r ≡ now → AreReadingBut None s now → RefutesReader s.holdings.requests.entries r.file reader → t.holdings.requests ≡ s.holdings.requests
    → IsSameFile now.file p.file → AddsBlames (IsBlameOf s (record r { file = f }) reader checks.Data) s.holdings.blamed t.holdings.blamed
    → AddsBlames (IsBlockFault t.holdings.requests.entries p.file) s.holdings.blamed t.holdings.blamed
made_causes s t r now p f reader e reading refuted requests same adds =
    adds_as (IsBlameOf s (record r { file = f }) reader checks.Data) (IsBlockFault t.holdings.requests.entries p.file) s.holdings.blamed t.holdings.blamed
    (λ b k.
    subst (λ (q : RequestsState). IsBlockFault q.entries p.file b) (sym requests)
    (block_moved s.holdings.requests.entries s.holdings.requests.entries now.file p.file b (λ i x is quiet. is) same
    (block_fault None s now reader b reading (subst (λ (x : ReadingState). RefutesReader s.holdings.requests.entries x.file reader) e refuted)
    (record {
      holding = k.holding;
      of = sym (ap (λ (x : ReadingState). slice_get x.holdings reader) e) ∙ k.of;
      held = k.held;
      is = k.is;
      of_server = k.of_server;
      of_share = k.of_share;
      check_is = k.check_is;
    }))))
    adds

pub settled_causes : (s t u : BeginningsState) (q p : ReadingState) → Continues t q u p
    → AddsBlames (IsBlockFault t.holdings.requests.entries q.file) s.holdings.blamed t.holdings.blamed → AddsBlames (IsBlockFault u.holdings.requests.entries p.file) t.holdings.blamed u.holdings.blamed
    → AddsBlames (IsBlockFault u.holdings.requests.entries p.file) s.holdings.blamed u.holdings.blamed
settled_causes s t u q p second before after =
    let entries = u.holdings.requests.entries in
    adds_trans (IsBlockFault entries p.file) s t u second.goes
    (adds_as (IsBlockFault t.holdings.requests.entries q.file) (IsBlockFault entries p.file) s.holdings.blamed t.holdings.blamed
    (λ b k. block_moved t.holdings.requests.entries entries q.file p.file b (λ i x e quiet. goes_stays t u second.goes i x e) second.same k) before)
    after
