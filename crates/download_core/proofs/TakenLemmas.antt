-- A request is sent, or a piece is taken.
use Rattle.std.proofs.Common.{◌≡◌, ℕ, ◌/◌, inl, inr, List, Option, Some, None, refl, sym, ap, subst, ◌∙◌, arith, Contains, length, ◌+◌}
use Rattle.lemmas.proofs.Members.{contains_tail}
use Rattle.ueb.specs.Shape.{Contents}
use Rattle.download_file.specs.State.{FileState}
use Rattle.cap_text.specs.Cap.{verify_cap_of}
use Rattle.download_shares.specs.BeginningState.{BeginningsState}
use Rattle.share_layout.specs.Geometry.{Geometry}
use Rattle.download_segments.specs.NoCodeWord.{IsNoCodeWord}
use Rattle.download_core.specs.Reading.{AreReading}
use Rattle.download_core.specs.ReadingState.{ReadingState}
use Rattle.download_core.proofs.HashedLemmas.{handed_given}
use Rattle.download_core.specs.declared.state.FoundFile.{FoundFile}
use Rattle.download_core.specs.declared.state.Machine.{Machine}
use Rattle.download_core.specs.declared.status.DownloadStatus.{DownloadStatus}
use Rattle.download_core.specs.Ends.{HasNoCodeWord}
use Rattle.download_core.specs.Given.{IsFileIfFound, IsHead}
use Rattle.download_parts.specs.Plan.{IsPlanned}
use Rattle.download_shares.specs.Reads.{IsBeside}
use Rattle.download_segments.specs.declared.piece.Piece.{Piece}
use Rattle.download_segments.specs.Handout.{TakesPiece}
use Rattle.download_segments.specs.State.{HandoutState}
use Rattle.download_file.specs.Changes.{IsSameFile, StaysRead}
use Rattle.download_file.specs.Making.{IsInconsistent}
use Rattle.request_record.specs.declared.requests.Request.{Request}
use Rattle.download_core.specs.Reads.{IsPlannedOrBeside, ReadsBeside}
use Rattle.download_core.specs.Laws.{with_outgoing}
use Rattle.download_core.proofs.Sent.{sent}
use Rattle.download_core.proofs.Sending.{sent_opened}
use Rattle.download_core.proofs.FairLemmas.{fair_on}
use Rattle.download_core.specs.Steps.{IsComplete, IsFair, IsInPhase, IsKept, entries_of, found_of}

-- a request is sent
module _ (m : Machine) (outgoing : List ℕ) (status : DownloadStatus) (k : IsKept m status) where
  sent_phase : (f : Option FoundFile) → IsInPhase m.cap.total m.beginnings f → IsInPhase m.cap.total (with_outgoing outgoing m.beginnings) f
  sent_phase None o = sent_opened m.beginnings outgoing m.cap.total o
  sent_phase (Some f) o = (sent m.beginnings outgoing o.linked.kept.known).1 f.reading o

  pub kept_sent : IsKept (record m { beginnings = with_outgoing outgoing m.beginnings }) status
  kept_sent = record {
    verify = k.verify;
    ordered = k.ordered;
    inside = k.inside;
    file = k.file;
    way = λ run. (let way = k.way run in record { wanted = record { verify = way.wanted.verify; some = way.wanted.some; inside = way.wanted.inside }; file = way.file; phase = sent_phase m.found way.phase });
    fair = record { causes = k.fair.causes; reads = k.fair.reads };
    beside = k.beside;
    done = k.done;
    works = k.works;
    few = λ f. (let few = k.few f in record { quiet = few.quiet; few = few.few });
    inconsistent = k.inconsistent;
  }

-- ---- a piece is taken

-- nothing changes but what is ready, and up to where bytes were taken
pub record IsSameHandout (old new : HandoutState) : Type 0 where
  pub key : new.key ≡ old.key
  pub ueb : new.ueb ≡ old.ueb
  pub geometry : new.geometry ≡ old.geometry
  pub to : new.to ≡ old.to
  pub reached : new.reached ≡ old.reached

taken_same : (old new : HandoutState) (p : Option Piece) → TakesPiece old p new → IsSameHandout old new
taken_same old new None t = subst (IsSameHandout old) (sym t.1) (record { key = refl; ueb = refl; geometry = refl; to = refl; reached = refl })
taken_same old new (Some p) t = subst (IsSameHandout old) (sym t.1) (record { key = refl; ueb = refl; geometry = refl; to = refl; reached = refl })

-- what the record says of the file stays true
reads_taken : (f : FileState) (h : HandoutState) (p : Option Piece) → TakesPiece f.handout p h → StaysRead f (record f { handout = h })
reads_taken f h None t = subst (λ (x : HandoutState). StaysRead f (record f { handout = x })) (sym t.1) (λ es k. k)
reads_taken f h (Some p) t =
    subst (λ (x : HandoutState). StaysRead f (record f { handout = x })) (sym t.1)
    (λ es k. record {
      held = k.held;
      made = λ group number has from before. (
          let o = k.made group number has from before in
          record { right = o.right; segment = o.segment; decodes = o.decodes; proved = record { size = o.proved.size; known = o.proved.known } });
      ready = λ q among. handed_given es h.ready (p.offset + length p.bytes) (record { position = 0; file = f }) q
          (k.ready q (subst (λ (l : List Piece). Contains l q) (sym t.0) (contains_tail p q h.ready among)));
    })

-- a file that is inconsistent stays so
inconsistent_taken : (es : List Request) (f : FileState) (h : HandoutState) (p : Option Piece) → TakesPiece f.handout p h → IsInconsistent es f → IsInconsistent es (record f { handout = h })
inconsistent_taken es f h None t k = subst (λ (x : HandoutState). IsInconsistent es (record f { handout = x })) (sym t.1) k
inconsistent_taken es f h (Some p) t k =
    subst (λ (x : HandoutState). IsInconsistent es (record f { handout = x })) (sym t.1) (record {
      number = k.number;
      next = k.next;
      enough = k.enough;
      right = k.right;
      segment = k.segment;
      decodes = k.decodes;
      refuted = record { leaf = k.refuted.leaf; known = k.refuted.known; differs = k.refuted.differs };
    })

module _ (m : Machine) (f : FoundFile) (r : ReadingState) (p : Option Piece) (status : DownloadStatus) (is : m.found ≡ Some f) (takes : TakesPiece f.reading.file.handout p r.file.handout)
    (rest : r ≡ record f.reading { file = record f.reading.file { handout = r.file.handout } }) (reading : (s : BeginningsState) → AreReading s f.reading → AreReading s r) (goes : IsSameFile f.reading.file r.file) (k : IsKept m status) where
  abbrev pub taken_machine : Machine
  taken_machine = record m { found = Some (record f { reading = r }) }

  same : IsSameHandout f.reading.file.handout r.file.handout
  same = taken_same f.reading.file.handout r.file.handout p takes

  reads : StaysRead f.reading.file r.file
  reads = subst (λ (x : ReadingState). StaysRead f.reading.file x.file) (sym rest) (reads_taken f.reading.file r.file.handout p takes)

  first_is : r.file.first ≡ f.reading.file.first
  first_is = ap (λ (x : ReadingState). x.file.first) rest

  end_is : r.file.end ≡ f.reading.file.end
  end_is = ap (λ (x : ReadingState). x.file.end) rest

  taken_file : IsFileIfFound m.cap m.from m.to (entries_of m) (found_of taken_machine.found)
  taken_file =
      let o = subst (λ (x : Option FoundFile). IsFileIfFound m.cap m.from m.to (entries_of m) (found_of x)) is k.file in
      record {
        head = subst (λ (u : Contents). IsHead (verify_cap_of m.cap) (entries_of m) f.position u) (sym same.ueb) o.head;
        key = same.key ∙ o.key;
        first = first_is ∙ o.first ∙ ap (λ (g : Geometry). m.from / g.segment_size) (sym same.geometry);
        to_is = same.to ∙ o.to_is;
        answers = reads (entries_of m) o.answers;
      }

  planned_still : (offset len : ℕ) → IsPlannedOrBeside f.reading.file offset len → IsPlannedOrBeside r.file offset len
  planned_still offset len (inl beside) = inl (subst (λ (g : Geometry). IsBeside g offset len) (sym same.geometry) beside)
  planned_still offset len (inr plan) = inr (record {
    from = plan.from;
    begins = (let a = plan.begins in let b = first_is in omega (arith, a, b));
    before = (let a = plan.before in let b = end_is in omega (arith, a, b));
    planned = subst (λ (g : Geometry). IsPlanned g plan.from r.file.end offset len) (sym same.geometry) (subst (λ (n : ℕ). IsPlanned f.reading.file.handout.geometry plan.from n offset len) (sym end_is) plan.planned);
  })

  read_still : ReadsBeside (entries_of m) m.beginnings.holdings.blamed (found_of (Some f)) → ReadsBeside (entries_of m) m.beginnings.holdings.blamed (found_of taken_machine.found)
  read_still old = λ position q share offset len there asked left. planned_still offset len (old position q share offset len there asked left)

  complete_still : IsComplete m.from m.to (Some f) → IsComplete m.from m.to taken_machine.found
  complete_still e = same.reached ∙ e ∙ sym same.to

  pub kept_taken : IsKept taken_machine status
  kept_taken = record {
    verify = k.verify;
    ordered = k.ordered;
    inside = k.inside;
    file = taken_file;
    way = λ run. (
        let way = k.way run in
        record {
          wanted = record { verify = way.wanted.verify; some = way.wanted.some; inside = way.wanted.inside };
          file = taken_file;
          phase = reading m.beginnings (subst (λ (x : Option FoundFile). IsInPhase m.cap.total m.beginnings x) is way.phase);
        });
    fair = fair_on (verify_cap_of m.cap) m.beginnings (record { position = f.position; file = f.reading.file }) (record { position = f.position; file = r.file }) goes
        (subst (λ (x : Option FoundFile). IsFair (verify_cap_of m.cap) m.beginnings (found_of x)) is k.fair);
    beside = λ ok. read_still (subst (λ (x : Option FoundFile). ReadsBeside (entries_of m) m.beginnings.holdings.blamed (found_of x)) is (k.beside ok));
    done = λ d. complete_still (subst (λ (x : Option FoundFile). IsComplete m.from m.to x) is (k.done d));
    works = k.works;
    few = λ d. (let few = k.few d in record { quiet = few.quiet; few = few.few });
    inconsistent = λ d. (
        let was = subst (λ (x : Option FoundFile). HasNoCodeWord (entries_of m) (found_of x)) is (k.inconsistent d) in (
          subst (λ (x : ReadingState). IsInconsistent (entries_of m) x.file) (sym rest) (inconsistent_taken (entries_of m) f.reading.file r.file.handout p takes was.0),
          subst IsNoCodeWord (sym same.ueb) was.1,
        ));
  }
