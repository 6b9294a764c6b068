-- Where the bytes lie that a download reads of a share.
use Rattle.std.proofs.Common.{◌≡◌, ℕ, ◌+◌, ◌-◌, ◌/◌, ◌≤◌, inl, inr, List, length, Option, Some, None, IfSome, refl, sym, ap, subst, ◌∙◌, arith}
use Rattle.std.specs.Prelude.{slice_get}
use Rattle.cap_text.specs.Cap.{verify_cap_of}
use Rattle.share_layout.specs.Geometry.{Geometry}
use Rattle.wire.specs.declared.message.Body.{Body}
use Rattle.wire.specs.declared.message.Body.TheVariants.{Read}
use Rattle.wire.specs.declared.message.Message.{Message}
use Rattle.wire.specs.declared.message.ShareId.{ShareId}
use Rattle.request_record.specs.declared.requests.Asked.{Asked}
use Rattle.request_record.specs.declared.requests.Asked.TheVariants.{Holdings, Allocation, Writing, Closing, Reading, Aborting}
use Rattle.request_record.specs.declared.requests.Request.{Request}
use Rattle.request_record.specs.Asking.{IsFrame, Spells}
use Rattle.download_parts.specs.Plan.{IsPart, length_of, offset_of}
use Rattle.download_parts.specs.Range.{IsRange}
use Rattle.download_parts.specs.declared.part.Part.{Part}
use Rattle.download_parts.specs.declared.part.Part.TheVariants as parts
use Rattle.download_parts.proofs.PartLemmas.{hold_the_blocks, lie_inside}
use Rattle.download_file.specs.Asked.{IsPlannedRead}
use Rattle.download_file.specs.Right.{IsFile}
use Rattle.download_file.specs.State.{FileState}
use Rattle.download_core.specs.Given.{IsFileIfFound, IsFileOfCap, IsRightIfFound}
use Rattle.download_core.specs.Reads.{PlansMore, ReadsNoMore, MayRead}
use Rattle.download_core.specs.Sections.{LaterReadsLieInSections, LieByFound, LieInSection, MayBeRead, ReadsInSections, ReadsStayInSections, block_tree, blocks, ciphertext_tree, share_hashes}
use Rattle.download_core.specs.Sending.{Takes}
use Rattle.download_core.specs.State.{DownloadState, Found}

-- ---- parts of the plan

-- a part of the plan for some segments lies in one section
part_lies : (g : Geometry) (a b from to : ℕ) (p : Part) → IsRange g a b → IsPart g a b p → from / g.segment_size ≤ a → b ≡ (to - 1) / g.segment_size + 1
    → LieInSection g from to (offset_of g a b p) (length_of g a b p)
part_lies g a b from to parts.ShareHashes range is begins ends = share_hashes (lie_inside g a b parts.ShareHashes range is)
part_lies g a b from to (parts.BlockTree p) range is begins ends = block_tree (lie_inside g a b (parts.BlockTree p) range is)
part_lies g a b from to (parts.CiphertextTree p) range is begins ends = ciphertext_tree (lie_inside g a b (parts.CiphertextTree p) range is)
part_lies g a b from to (parts.Data i) range is begins ends = blocks (lie_inside g a b (parts.Data i) range is) (λ position low high.
    let held = (hold_the_blocks g a b position range).0 i (record { part = is; begins = low; ends = high }) in
    let le = held.1 in
    let lt = held.2 in (
      held.0,
      record { begins = omega (arith, le, begins); ends = omega (arith, lt, ends) },
      held.3,
    ))

-- so does what is read of the file of a range by its plan
planned_lies : (f : FileState) (from to offset len : ℕ) → IsFile f → f.first ≡ from / f.handout.geometry.segment_size → f.handout.to ≡ to → IsPlannedRead f offset len
    → LieInSection f.handout.geometry from to offset len
planned_lies f from to offset len right first to_is read =
    let g = f.handout.geometry in
    let p = read.planned in
    let begins = read.begins in
    let ends : f.end ≡ (to - 1) / g.segment_size + 1 = right.last ∙ ap (λ (n : ℕ). (n - 1) / g.segment_size + 1) to_is in
    let lies =
    part_lies g read.from f.end from to p.part (record { valid = right.range.valid; some = read.before; within = right.range.within }) p.is (subst (λ (n : ℕ). n ≤ read.from) first begins) ends in
    subst (λ (n : ℕ). LieInSection g from to n len) (sym p.begin_is) (subst (LieInSection g from to (offset_of g read.from f.end p.part)) (sym p.len_is) lies)

-- ---- what a download reads

module _ (d : DownloadState) (file : IsFileIfFound d.cap d.from d.to d.requests.entries d.found) (made : IsRightIfFound d.found) where
  found_lies : (f : Found) → d.found ≡ Some f → (offset len : ℕ) → IsPlannedRead f.file offset len → LieByFound d.found d.from d.to offset len
  found_lies f there offset len read =
      let of_cap : IsFileOfCap d.cap d.from d.to d.requests.entries f = subst (IsFileIfFound d.cap d.from d.to d.requests.entries) there file in
      subst (λ (o : Option Found). LieByFound o d.from d.to offset len) (sym there)
      (planned_lies f.file d.from d.to offset len (subst IsRightIfFound there made) of_cap.first of_cap.to_is read)

  may_read : (o : Option Found) → d.found ≡ o → (server share offset len : ℕ) → MayRead d.requests.entries o server share offset len → MayBeRead d server share offset len
  may_read None there server share offset len begins = inl begins
  may_read (Some f) there server share offset len (inl begins) = inl begins
  may_read (Some f) there server share offset len (inr read) = inr (found_lies f there offset len read)

  pub read_lies : ReadsNoMore d.requests.entries d.found → (position : ℕ) (r : Request) (share offset len : ℕ) → slice_get d.requests.entries position ≡ Some r → r.asked ≡ Reading share offset len
      → MayBeRead d r.server share offset len
  read_lies reads position r share offset len there asked = may_read d.found refl r.server share offset len (reads position r share offset len there asked)

pub reads_stay : ReadsStayInSections
reads_stay d position r share offset len right there asked = read_lies d right.file right.made right.reads position r share offset len there asked

pub later_reads : LaterReadsLieInSections
later_reads r old new right goes some = by new.found refl goes.later
  where
    by : (o : Option Found) → new.found ≡ o → PlansMore o r.entries new.requests.entries → (position : ℕ) (q : Request) (share offset len : ℕ)
        → slice_get new.requests.entries position ≡ Some q → length r.entries ≤ position → q.asked ≡ Reading share offset len → LieByFound new.found new.from new.to offset len
    by None e more position q share offset len there le asked = absurd (some e)
    by (Some f) e more position q share offset len there le asked = found_lies new right.file right.made f e offset len (more position q share offset len there le asked)

-- ---- what it sends

-- what a Read spells was asked
reading_of : (index : List ℕ) (asked : Asked) (id : ShareId) (offset len : ℕ) → Spells index asked (Read id offset len) → asked ≡ Reading id.share offset len
reading_of index Holdings id offset len s = absurd s
reading_of index (Allocation n l) id offset len s = absurd s
reading_of index (Writing n o l) id offset len s = absurd s
reading_of index (Closing n) id offset len s = absurd s
reading_of index (Aborting n) id offset len s = absurd s
reading_of index (Reading n o l) id offset len s =
    let share : n ≡ id.share = ap (λ (i : ShareId). i.share) (sym s.0) in
    ap (λ (x : ℕ). Reading x o l) share ∙ ap (λ (x : ℕ). Reading id.share x l) (sym s.1) ∙ ap (λ (x : ℕ). Reading id.share offset x) (sym s.2)

pub frames_lie : (d : DownloadState) (position node : ℕ) (m : Message) → IsFileIfFound d.cap d.from d.to d.requests.entries d.found → IsRightIfFound d.found → ReadsNoMore d.requests.entries d.found
    → IsFrame (verify_cap_of d.cap).storage_index d.requests position node m → ReadsInSections d (node, m)
frames_lie d position node m file made reads frame id offset len is =
    let says : frame.body ≡ Read id offset len = sym (ap (λ (x : Message). x.body) frame.message) ∙ is in
    let index : List ℕ = (verify_cap_of d.cap).storage_index in
    let spelled : Spells index frame.request.asked (Read id offset len) = subst (λ (b : Body). Spells index frame.request.asked b) says frame.spelled in
    subst (λ (server : ℕ). MayBeRead d server id.share offset len) (sym frame.server)
    (read_lies d file made reads position frame.request id.share offset len frame.there (reading_of index frame.request.asked id offset len spelled))

pub taken_lie : (d e : DownloadState) (o : Option (ℕ × Message)) → IsFileIfFound d.cap d.from d.to d.requests.entries d.found → IsRightIfFound d.found → ReadsNoMore d.requests.entries d.found
    → Takes d o e → IfSome o (ReadsInSections d)
taken_lie d e None file made reads takes = tt
taken_lie d e (Some f) file made reads takes = frames_lie d takes.0 f.0 f.1 file made reads takes.2
