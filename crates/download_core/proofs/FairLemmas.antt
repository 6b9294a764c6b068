-- Each blame keeps its cause, and each read its reason, as a download goes on.
use Rattle.std.proofs.Common.{◌≡◌, ℕ, ◌<◌, inl, inr, List, length, Option, Some, None, sym, ap, subst, ◌∙◌, arith}
use Rattle.std.specs.Prelude.{slice_get, slice_index_or}
use Rattle.std.proofs.lemmas.Bool.{cases_lt}
use Rattle.std.proofs.lemmas.Option.{slice_get-get_or}
use Rattle.lemmas.proofs.Options.{one_there}
use Rattle.cap_text.specs.Cap.{VerifyCapValue}
use Rattle.request_record.specs.declared.requests.Asked.TheVariants.{Reading}
use Rattle.request_record.specs.declared.requests.Request.{Request}
use Rattle.request_record.specs.Record.{RequestsState}
use Rattle.share_layout.specs.Geometry.{Geometry}
use Rattle.download_shares.specs.declared.holding.Blame.{Blame}
use Rattle.download_shares.proofs.Records.{StaysTo}
use Rattle.download_shares.proofs.Telling.{append_cases}
use Rattle.download_shares.specs.Causes.{AddsBlames, IsOpeningFault, IsOtherHeader}
use Rattle.download_shares.specs.BeginningMoves.{GoesOn}
use Rattle.download_shares.specs.Reads.{AddsReads, IsInBeginning}
use Rattle.download_shares.specs.BeginningState.{BeginningsState}
use Rattle.download_shares.proofs.Caused.{beginning_stays, fault_stays, opening_fault_stays, reads_none}
use Rattle.download_parts.specs.Plan.{IsPlanned}
use Rattle.download_file.specs.Asked.{IsPlannedRead}
use Rattle.download_file.specs.State.{FileState}
use Rattle.download_core.specs.ReadingCauses.{HasCause, IsBlockFault}
use Rattle.download_core.specs.ReadingSteps.{IsReadFor}
use Rattle.download_core.proofs.Awaited.{goes_stays}
use Rattle.download_file.specs.Changes.{IsSameFile}
use Rattle.download_file.proofs.GrowLemmas.{same_itself}
use Rattle.download_core.proofs.Causes.{block_moved, cause_moved, part_moved}
use Rattle.download_core.specs.Causes.{IsCause}
use Rattle.download_core.specs.Reads.{MayRead}
use Rattle.download_core.specs.State.{Found}
use Rattle.download_core.specs.Steps.{IsFair}
use Rattle.download_core.proofs.Records.{GoesFrom}

-- ---- the record goes on

cause_stays : (cap : VerifyCapValue) (es ns : List Request) (f : Option Found) (b : Blame) → StaysTo es ns → IsCause cap es f b → IsCause cap ns f b
cause_stays cap es ns None b stays k = (opening_fault_stays cap es ns b stays k.0, k.1)
cause_stays cap es ns (Some f) b stays (inl (inl k)) = inl (inl (fault_stays cap f.file.handout.geometry es ns b stays k.0, k.1))
cause_stays cap es ns (Some f) b stays (inl (inr k)) = inl (inr (part_moved es ns f.file f.file b stays (same_itself f.file) k))
cause_stays cap es ns (Some f) b stays (inr k) = inr (block_moved es ns f.file f.file b stays (same_itself f.file) k)

may_stay : (es ns : List Request) (f : Option Found) (server share offset len : ℕ) → StaysTo es ns → MayRead es f server share offset len → MayRead ns f server share offset len
may_stay es ns None server share offset len stays k = beginning_stays es ns server share offset len stays k
may_stay es ns (Some f) server share offset len stays (inl k) = inl (beginning_stays es ns server share offset len stays k)
may_stay es ns (Some f) server share offset len stays (inr k) = inr k

pub fair_goes : (cap : VerifyCapValue) (s t : BeginningsState) (f : Option Found) → GoesFrom s.holdings.requests.entries t.holdings.requests.entries → t.holdings.blamed ≡ s.holdings.blamed → IsFair cap s f → IsFair cap t f
fair_goes cap s t f goes blamed k = record {
  causes = λ i b is. cause_stays cap s.holdings.requests.entries t.holdings.requests.entries f b goes.stays (k.causes i b (ap (λ (l : List Blame). slice_get l i) (sym blamed) ∙ is));
  reads = λ position r share offset len there asked. (
      let was = goes.alike position r there in
      subst (λ server. MayRead t.holdings.requests.entries f server share offset len) was.of_server
      (may_stay s.holdings.requests.entries t.holdings.requests.entries f was.request.server share offset len goes.stays (k.reads position was.request share offset len was.there (was.same ∙ asked))));
}

-- ---- more is asked and blamed

pub fair_grows : (cap : VerifyCapValue) (s t : BeginningsState) (f : Option Found) → GoesOn s t → AddsBlames (IsCause cap t.holdings.requests.entries f) s.holdings.blamed t.holdings.blamed
    → AddsReads (MayRead t.holdings.requests.entries f) s.holdings.requests.entries t.holdings.requests.entries → IsFair cap s f → IsFair cap t f
fair_grows cap s t f goes blames reads k = record {
  causes = λ i b is. elim (append_cases s.holdings.blamed goes.more i b (sym (ap (λ (l : List Blame). slice_get l i) goes.blamed) ∙ is)) [
    | inl was ↦ cause_stays cap s.holdings.requests.entries t.holdings.requests.entries f b stays (k.causes i b was)
    | inr new ↦ blames i b is new.0
  ];
  reads = λ position r share offset len there asked. elim (cases_lt position (length s.holdings.requests.entries)) [
    | inl lt ↦ before position r share offset len there asked lt
    | inr ge ↦ reads position r share offset len there ge asked
  ];
}
  where
    stays : StaysTo s.holdings.requests.entries t.holdings.requests.entries
    stays i r there quiet = goes_stays s t goes i r there

    before : (position : ℕ) (r : Request) (share offset len : ℕ) → slice_get t.holdings.requests.entries position ≡ Some r → r.asked ≡ Reading share offset len → position < length s.holdings.requests.entries
        → MayRead t.holdings.requests.entries f r.server share offset len
    before position r share offset len there asked lt =
        let es = s.holdings.requests.entries in
        let old = slice_index_or es position r in
        let was : slice_get es position ≡ Some old = slice_get-get_or es position r lt in
        let same : old ≡ r = one_there (slice_get t.holdings.requests.entries position) old r (goes_stays s t goes position old was) there in
        may_stay es t.holdings.requests.entries f r.server share offset len stays (k.reads position r share offset len (was ∙ ap Some same) asked)

-- shares are opened
pub fair_opened : (cap : VerifyCapValue) (s t : BeginningsState) → GoesOn s t → AddsBlames (IsOpeningFault cap s.holdings.requests.entries) s.holdings.blamed t.holdings.blamed
    → AddsBlames (λ b. b.share < cap.total) s.holdings.blamed t.holdings.blamed
    → AddsReads (IsInBeginning t.holdings.requests.entries) s.holdings.requests.entries t.holdings.requests.entries → IsFair cap s None → IsFair cap t None
fair_opened cap s t goes blames low reads =
    let now = t.holdings.requests.entries in
    fair_grows cap s t None goes
    (λ i b is le. (opening_fault_stays cap s.holdings.requests.entries now b (λ j r there quiet. goes_stays s t goes j r there) (blames i b is le), low i b is le))
    reads

-- ---- an extension block is accepted

fair_found : (cap : VerifyCapValue) (s : BeginningsState) (f : Found) → cap.total ≡ f.file.handout.geometry.total → IsFair cap s None → IsFair cap s (Some f)
fair_found cap s f total k = record {
  causes = λ i b is. let cause = k.causes i b is in inl (inl (inl cause.0, subst (λ n. b.share < n) total cause.1));
  reads = λ position r share offset len there asked. inl (k.reads position r share offset len there asked);
}

pub fair_accepted : (cap : VerifyCapValue) (s t : BeginningsState) (g : Geometry) (f : Found) → GoesOn s t → t.holdings.requests ≡ s.holdings.requests → f.file.handout.geometry ≡ g → cap.total ≡ g.total
    → AddsBlames (IsOtherHeader g s.holdings.requests.entries) s.holdings.blamed t.holdings.blamed → AddsBlames (λ b. b.share < cap.total) s.holdings.blamed t.holdings.blamed
    → IsFair cap s None → IsFair cap t (Some f)
fair_accepted cap s t g f goes same geometry total blames low k =
    let now = t.holdings.requests.entries in
    let same_total : cap.total ≡ f.file.handout.geometry.total = total ∙ ap (λ (x : Geometry). x.total) (sym geometry) in
    fair_grows cap s t (Some f) goes
    (λ i b is le. inl (inl (
      inr (subst (λ (x : Geometry). IsOtherHeader x now b) (sym geometry) (subst (λ (r : RequestsState). IsOtherHeader g r.entries b) (sym same) (blames i b is le))),
      subst (λ n. b.share < n) same_total (low i b is le),
    )))
    (reads_none (MayRead now (Some f)) s.holdings.requests.entries now (ap (λ (r : RequestsState). r.entries) same)) (fair_found cap s f same_total k)

-- ---- a file goes on

pub planned_on : (f g : FileState) (offset len : ℕ) → IsSameFile f g → IsPlannedRead f offset len → IsPlannedRead g offset len
planned_on f g offset len same k = record {
  from = k.from;
  begins = (let a = k.begins in let b = same.first in omega (arith, a, b));
  before = (let a = k.before in let b = same.end in omega (arith, a, b));
  planned = subst (λ (x : Geometry). IsPlanned x k.from g.end offset len) (sym same.geometry) (subst (λ n. IsPlanned f.handout.geometry k.from n offset len) (sym same.end) k.planned);
}

cause_on : (cap : VerifyCapValue) (es : List Request) (f g : Found) (b : Blame) → IsSameFile f.file g.file → IsCause cap es (Some f) b → IsCause cap es (Some g) b
cause_on cap es f g b same (inl k) = inl (cause_moved cap es f.file g.file b same k)
cause_on cap es f g b same (inr k) = inr (block_moved es es f.file g.file b (λ i r there quiet. there) same k)

pub fair_on : (cap : VerifyCapValue) (s : BeginningsState) (f g : Found) → IsSameFile f.file g.file → IsFair cap s (Some f) → IsFair cap s (Some g)
fair_on cap s f g same k = record {
  causes = λ i b is. cause_on cap s.holdings.requests.entries f g b same (k.causes i b is);
  reads = λ position r share offset len there asked. read position r share offset len (k.reads position r share offset len there asked);
}
  where
    read : (position : ℕ) (r : Request) (share offset len : ℕ) → MayRead s.holdings.requests.entries (Some f) r.server share offset len → MayRead s.holdings.requests.entries (Some g) r.server share offset len
    read position r share offset len (inl own) = inl own
    read position r share offset len (inr planned) = inr (planned_on f.file g.file offset len same planned)

-- parts of a file are asked for
pub reads_for : (entries : List Request) (f : Found) (old new : List Request) → AddsReads (IsReadFor f.file) old new → AddsReads (MayRead entries (Some f)) old new
reads_for entries f old new reads position r share offset len there le asked = inr (reads position r share offset len there le asked)

-- what a message brought is refused
pub heard_fair : (cap : VerifyCapValue) (s t : BeginningsState) (f : Found) → t.holdings.requests ≡ s.holdings.requests → AddsBlames (HasCause cap s.holdings.requests.entries f.file) s.holdings.blamed t.holdings.blamed
    → AddsBlames (IsCause cap t.holdings.requests.entries (Some f)) s.holdings.blamed t.holdings.blamed
heard_fair cap s t f same blames i b is le = inl (subst (λ (r : RequestsState). HasCause cap r.entries f.file b) (sym same) (blames i b is le))

-- a block is wrong
pub made_fair : (cap : VerifyCapValue) (s t : BeginningsState) (f : Found) → AddsBlames (IsBlockFault t.holdings.requests.entries f.file) s.holdings.blamed t.holdings.blamed
    → AddsBlames (IsCause cap t.holdings.requests.entries (Some f)) s.holdings.blamed t.holdings.blamed
made_fair cap s t f blames i b is le = inr (blames i b is le)
