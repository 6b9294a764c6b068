-- Who is blamed by a download had sent other bytes than the share has.
use Rattle.std.proofs.Common.{◌≡◌, ℕ, ◌<◌, List, [], Option, Some, None, Contains, inl, inr, get_or, ap, subst, sym, refl, ◌∙◌, arith}
use Rattle.tagged_hash.specs.Clash.{HasNoClashIn}
use Rattle.cap_text.specs.Cap.{VerifyCapValue, verify_cap_of}
use Rattle.ueb.specs.Shape.{Contents}
use Rattle.request_record.specs.declared.requests.Request.{Request}
use Rattle.share_layout.specs.Geometry.{Geometry}
use Rattle.share_verify.specs.CapBlock.{geometry_by}
use Rattle.download_shares.specs.declared.holding.Blame.{Blame}
use Rattle.download_shares.specs.Causes.{IsBeginningFault}
use Rattle.download_file.specs.State.{CopyState, FileState}
use Rattle.download_core.specs.ReadingCauses.{HasCause, IsBlockFault, IsPartFault}
use Rattle.download_core.specs.Causes.{IsCause}
use Rattle.download_core.specs.State.{DownloadState, Found}
use Rattle.download_core.proofs.HashedLemmas.{file_of, right_of}
use Rattle.answer_laws.specs.Downloads.Answers.{AnsweredOther}
use Rattle.answer_laws.specs.Downloads.Downloads.{AreSharesFor, DownloadsBlameFairly, DownloadsBlameFairlyIn, IsDownloadBy, IsShareFor}
use Rattle.answer_laws.specs.Downloads.FairBlame.{IsShareOf}
use Rattle.answer_laws.proofs.Downloads.AnswerLemmas.{own_beginnings_go_on, own_or_other}
use Rattle.answer_laws.proofs.Downloads.FairBlame.{blocks_are_fair, parts_are_fair}

-- who fails in its beginning
beginning_is_fair : (IsOne : List ℕ → Type 0) (cap : VerifyCapValue) (u : Contents) (entries : List Request) (b : Blame) (share : List ℕ) → IsShareFor IsOne cap u b.share share
    → IsBeginningFault cap (geometry_by u) entries b → AnsweredOther entries b.server b.share share
beginning_is_fair IsOne cap u entries b share mine fault = elim (own_or_other entries b.server b.share share) [
  | inr other ↦ other
  | inl own ↦ absurd (own_beginnings_go_on cap u mine.sections share entries b mine.sound own fault)
]

-- a share that a reader reads is one of the file's
part_is_low : (entries : List Request) (f : FileState) (b : Blame) → IsPartFault entries f b → b.share < f.handout.geometry.total
part_is_low entries f b k =
    let r = k.refused.r in
    let low = (k.right.readers k.reader r k.refused.there).share in
    let same = ap (λ (c : CopyState). c.share) k.reads in
    let total = ap (λ (g : Geometry). g.total) k.same.geometry in
    omega (arith, low, same, total)

block_is_low : (entries : List Request) (f : FileState) (b : Blame) → IsBlockFault entries f b → b.share < f.handout.geometry.total
block_is_low entries f b k =
    let r = k.refuted.r in
    let low = (k.right.readers k.reader r k.refuted.there).share in
    let same = ap (λ (c : CopyState). c.share) k.reads in
    let total = ap (λ (g : Geometry). g.total) k.same.geometry in
    omega (arith, low, same, total)

module _ (IsOne : List ℕ → Type 0) (no_clash : HasNoClashIn IsOne) (d : DownloadState) (u : Contents) (shares : List (List ℕ)) (by : IsDownloadBy IsOne u d) (are : AreSharesFor IsOne (verify_cap_of d.cap) u shares) (b : Blame) where
  abbrev cap : VerifyCapValue
  cap = verify_cap_of d.cap

  abbrev entries : List Request
  entries = d.requests.entries

  abbrev share : List ℕ
  share = get_or shares b.share []

  abbrev IsFair : Type 0
  IsFair = AnsweredOther entries b.server b.share share

  -- a file that was found
  module _ (f : Found) (there : d.found ≡ Some f) where
    geometry_is : f.file.handout.geometry ≡ geometry_by u
    geometry_is = (right_of d f there by.right).handout.geometry ∙ ap geometry_by (by.accepted f there)

    total_is : f.file.handout.geometry.total ≡ cap.total
    total_is = ap (λ (g : Geometry). g.total) (right_of d f there by.right).handout.geometry ∙ (file_of d f there by.right.file).head.block.total

    share_of : (low : b.share < cap.total) → let mine = are b.share low in
        IsShareOf IsOne f.file.handout.geometry f.file.handout.ueb b.share share mine.sections mine.segments mine.shares
    share_of low =
        let mine = are b.share low in
        subst (λ (g : Geometry). IsShareOf IsOne g f.file.handout.ueb b.share share mine.sections mine.segments mine.shares) (sym geometry_is)
        (subst (λ (v : Contents). IsShareOf IsOne (geometry_by u) v b.share share mine.sections mine.segments mine.shares) (sym (by.accepted f there)) mine.of)

    low_is : b.share < f.file.handout.geometry.total → b.share < cap.total
    low_is low = subst (λ n. b.share < n) total_is low

    by_message : HasCause cap entries f.file b → IsFair
    by_message (inl k) =
        beginning_is_fair IsOne cap u entries b share (are b.share (low_is k.1)) (subst (λ (g : Geometry). IsBeginningFault cap g entries b) geometry_is k.0)
    by_message (inr k) =
        let low = low_is (part_is_low entries f.file b k) in
        let mine = are b.share low in
        parts_are_fair IsOne no_clash entries f.file b share mine.sections mine.segments mine.shares
        (λ input t. by.tested input (record { found = f; there = there; tested = t })) (share_of low) k

    by_block : IsBlockFault entries f.file b → IsFair
    by_block k =
        let low = low_is (block_is_low entries f.file b k) in
        let mine = are b.share low in
        blocks_are_fair IsOne no_clash entries f.file b share mine.sections mine.segments mine.shares
        (λ input t. by.tested input (record { found = f; there = there; tested = t })) (share_of low) k

  by_cause : (o : Option Found) → d.found ≡ o → IsCause cap entries o b → IsFair
  by_cause None none k = beginning_is_fair IsOne cap u entries b share (are b.share k.1) (inl k.0)
  by_cause (Some f) there (inl k) = by_message f there k
  by_cause (Some f) there (inr k) = by_block f there k

pub downloads_are_fair : (IsOne : List ℕ → Type 0) → DownloadsBlameFairlyIn IsOne
downloads_are_fair IsOne no_clash d u shares i b by are is = by_cause IsOne no_clash d u shares by are b d.found refl (by.right.causes i b is)

pub downloads_blame_fairly : DownloadsBlameFairly
downloads_blame_fairly inputs = downloads_are_fair (Contains inputs)
