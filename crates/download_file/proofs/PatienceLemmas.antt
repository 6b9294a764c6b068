-- What is told of a file of which no eight segments are made, once one is.
use Rattle.std.proofs.Common.{◌≡◌, ◌⊎◌, ◌∙◌, ℕ, ◌+◌, ◌<◌, inl, inr, Bool, None, List, Contains, length, ap, sym, subst, arith}
use Rattle.std.specs.Prelude.{slice_get}
use Rattle.request_record.specs.declared.requests.Request.{Request}
use Rattle.share_layout.specs.Pieces.{block_length}
use Rattle.download_parts.specs.Trees.{known_leaf}
use Rattle.download_segments.specs.Handout.{IsRowWanted, handed_out, next_segment}
use Rattle.download_segments.specs.State.{HandoutState, ProvesSegment}
use Rattle.download_file.specs.State.{FileState, IsComplete, ReaderState, first_position, waiting_in}
use Rattle.download_file.specs.Answers.{HaveRightBlocks}
use Rattle.download_file.specs.Asked.{AsksNoMore}
use Rattle.download_file.specs.Changes.{StaysAskedUp}
use Rattle.download_file.specs.Making.{AreRowsAsked, AwaitsBlock, AwaitsRow, CanNotGoOn, LacksBlock, LacksNext, MakesNext, MustWait, RefutesReader, SomeWaits}

pub asks_two : (f g h : FileState) → AsksNoMore f g → AsksNoMore g h → AsksNoMore f h
asks_two f g h a b reader offset len = (
  (λ k. (a reader offset len).0 ((b reader offset len).0 k)),
  (λ k. (b reader offset len).1 ((a reader offset len).1 k)),
)

-- a reader that is waited for
pub row_waits : (f : FileState) → AwaitsRow f → SomeWaits f
row_waits f k = record {
  reader = k.awaits.reader;
  live = k.awaits.among;
  position = k.awaits.position;
  first = ap (λ o. first_position (waiting_in o)) k.awaits.there ∙ k.awaits.first;
}

-- nothing is handed out, and the readers are the same
module _ (f g : FileState) (handout : g.handout ≡ f.handout) (lives : g.live ≡ f.live) (readers : g.readers ≡ f.readers) where
  pub waits_back : SomeWaits g → SomeWaits f
  waits_back k = record {
    reader = k.reader;
    live = subst (λ (l : List ℕ). Contains l k.reader) lives k.live;
    position = k.position;
    first = ap (λ (rs : List ReaderState). first_position (waiting_in (slice_get rs k.reader))) (sym readers) ∙ k.first;
  }

  complete_back : IsComplete g → IsComplete f
  complete_back complete = sym (ap (λ (h : HandoutState). h.reached) handout) ∙ complete ∙ ap (λ (h : HandoutState). h.to) handout

  pub stops_back : ((reader : ℕ) → StaysAskedUp f g reader) → CanNotGoOn g → CanNotGoOn f
  stops_back up (inl complete) = inl (complete_back complete)
  stops_back up (inr (inl few)) =
      let count = ap length lives in
      let needed = ap (λ (h : HandoutState). h.geometry.needed) handout in
      inr (inl (omega (arith, few, count, needed)))
  stops_back up (inr (inr waits)) = inr (inr (λ asked. waits_back (waits (λ reader live. up reader (asked reader (subst (λ (l : List ℕ). Contains l reader) lives live))))))

  why_back : (number : ℕ) → (length g.live < g.handout.geometry.needed) ⊎ LacksBlock g number ⊎ (known_leaf g.handout.trees.ciphertext number ≡ None)
      → (length f.live < f.handout.geometry.needed) ⊎ LacksBlock f number ⊎ (known_leaf f.handout.trees.ciphertext number ≡ None)
  why_back number (inl few) =
      let count = ap length lives in
      let needed = ap (λ (h : HandoutState). h.geometry.needed) handout in
      inl (omega (arith, few, count, needed))
  why_back number (inr (inl k)) = inr (inl (record {
    reader = k.reader;
    live = subst (λ (l : List ℕ). Contains l k.reader) lives k.live;
    r = k.r;
    there = sym (ap (λ (rs : List ReaderState). slice_get rs k.reader) readers) ∙ k.there;
    lacks = k.lacks;
  }))
  why_back number (inr (inr unknown)) = inr (inr (sym (ap (λ (h : HandoutState). known_leaf h.trees.ciphertext number) handout) ∙ unknown))

  lacks_back : LacksNext g → LacksNext f
  lacks_back k = record { number = k.number; next = sym (ap next_segment handout) ∙ k.next; lacks = why_back k.number k.lacks }

  pub awaits_back : AwaitsRow g → AwaitsRow f
  awaits_back k = record {
    asked = subst (λ (h : HandoutState). AreRowsAsked h.geometry) handout k.asked;
    number = k.number;
    next = sym (ap next_segment handout) ∙ k.next;
    wanted = subst (λ (h : HandoutState). IsRowWanted h k.number) handout k.wanted;
    awaits = subst (λ (l : List ℕ). AwaitsBlock f.readers l (k.number + 7)) lives (subst (λ (rs : List ReaderState). AwaitsBlock rs g.live (k.number + 7)) readers k.awaits);
  }

  pub must_back : (patient : Bool) → MustWait patient g → MustWait patient f
  must_back patient (inl k) = inl (lacks_back k)
  must_back patient (inr k) = inr (k.0, awaits_back k.1)

  pub prompt_back : (patient : Bool) → IsComplete g ⊎ LacksNext g → IsComplete f ⊎ MustWait patient f
  prompt_back patient (inl complete) = inl (complete_back complete)
  prompt_back patient (inr k) = inr (inl (lacks_back k))

  pub refutes_back : (entries : List Request) (reader : ℕ) → RefutesReader entries g reader → RefutesReader entries f reader
  refutes_back entries reader k = record {
    live = subst (λ (l : List ℕ). Contains l reader) lives k.live;
    r = k.r;
    there = sym (ap (λ (rs : List ReaderState). slice_get rs reader) readers) ∙ k.there;
    number = k.number;
    next = sym (ap next_segment handout) ∙ k.next;
    held = k.held;
    tree = k.tree;
    is = k.is;
    long = k.long ∙ ap (λ (h : HandoutState). block_length h.geometry k.number) handout;
    refuted = k.refuted;
  }

  pub makes_back : (entries : List Request) (h : FileState) → MakesNext entries g h → MakesNext entries f h
  makes_back entries h k = record {
    number = k.number;
    segment = k.segment;
    next = sym (ap next_segment handout) ∙ k.next;
    right = subst (λ (l : List ℕ). HaveRightBlocks entries f.readers l k.number) lives
        (subst (λ (rs : List ReaderState). HaveRightBlocks entries rs g.live k.number) readers k.right);
    proved = subst (λ (x : HandoutState). ProvesSegment x k.number k.segment) handout k.proved;
    handed = k.handed ∙ ap (λ (x : HandoutState). handed_out x k.segment) handout;
  }
