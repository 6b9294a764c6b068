-- Why no segment is made now.
use Rattle.std.proofs.Common.{◌≡◌, ◌≢◌, ℕ, ◌+◌, ◌/◌, ◌<◌, ◌≤◌, inl, inr, Bool, true, false, List, [], ◌∷◌, length, Option, Some, None, is_some, refl, sym, ap, subst, ◌∙◌, arith}
use Rattle.std.specs.Prelude.{slice_get, nat_lt, if◌then◌else◌}
use Rattle.std.proofs.lemmas.List.Elements.{All-contains}
use Rattle.std.proofs.lemmas.Bool.{cases_lt, false≢true, ltb-false}
use Rattle.share_layout.specs.Geometry.{Geometry, segment_count}
use Rattle.download_parts.specs.Plan.{IsNodePiece}
use Rattle.download_parts.specs.declared.part.Part.{Part}
use Rattle.download_parts.specs.declared.part.Part.TheVariants.{CiphertextTree}
use Rattle.download_parts.specs.Trees.{LeadTo, known_leaf}
use Rattle.download_supply.specs.Asking.{IsAsked}
use Rattle.download_supply.specs.Blocks.{IsReady}
use Rattle.download_supply.specs.Cursors.{IsPassed, LeadOn, cursor_at}
use Rattle.download_supply.specs.declared.cursors.Cursors.{Cursors}
use Rattle.download_supply.proofs.LawLemmas.{all_ready, leaf_known}
use Rattle.download_segments.specs.Handout.{next_segment}
use Rattle.download_segments.specs.State.{IsHandout}
use Rattle.download_file.specs.State.{FileState, IsComplete, IsHeard, IsLive, IsReader, ReaderState, first_position, giver, waiting_in, waiting_parts}
use Rattle.download_file.specs.Asked.{IsAskedUp}
use Rattle.download_file.specs.Making.{CanNotGoOn, LacksNext, SomeWaits}
use Rattle.download_file.specs.Right.{IsFile}
use Rattle.download_file.specs.Steps.{LacksSome, lacks_block, lacks_hash, lacks_readers}
use Rattle.download_file.specs.declared.reader.Waiting.{Waiting}
use Rattle.download_file.proofs.GrowLemmas.{reader_there}
use Rattle.download_file.proofs.LiveLemmas.{first_live}
use Rattle.download_file.proofs.WantedLemmas.{asked_passed}

-- ---- all that is wanted was made

pub complete : (f : FileState) → IsHandout f.handout → next_segment f.handout ≡ None → IsComplete f
complete f is none = by (nat_lt f.handout.reached f.handout.to) refl
  where
    by : (b : Bool) → nat_lt f.handout.reached f.handout.to ≡ b → f.handout.reached ≡ f.handout.to
    by true e = absurd (let k : Some (f.handout.reached / f.handout.geometry.segment_size) ≡ None = sym (ap (λ (t : Bool). if t then Some (f.handout.reached / f.handout.geometry.segment_size) else None) e) ∙ none in cc)
    by false e = let high = ltb-false f.handout.reached f.handout.to e in let within = is.within in omega (arith, high, within)

-- ---- something is lacking

module _ (f : FileState) (number : ℕ) (is : IsFile f) (next : next_segment f.handout ≡ Some number) where
  -- where nothing waits of a reader, all that was asked of it is taken
  all_taken : (position : ℕ) (r : ReaderState) → IsHeard f position → IsReader f position r → r.waiting ≡ [] → (part : Part) → IsAsked r.supply part → IsPassed r.supply.taken part
  all_taken position r live at none part asked =
      let same : r.supply.taken ≡ r.supply.asked = subst (λ (l : List Waiting). LeadOn r.supply.taken (waiting_parts l) r.supply.asked) none (is.live.waits position r live at) in
      subst (λ (c : Cursors). IsPassed c part) (sym same) (asked_passed r.supply part asked)

  -- the first that waits of a reader, where something does
  some_waits : (position : ℕ) (r : ReaderState) → IsLive f position → IsReader f position r → (r.waiting ≡ [] → ⊥) → SomeWaits f
  some_waits position r live at not = by r.waiting refl
    where
      by : (ws : List Waiting) → r.waiting ≡ ws → SomeWaits f
      by [] e = absurd (not e)
      by (w ∷ ws) e = record {
        reader = position;
        live = live;
        position = w.position;
        first = ap (λ (o : Option ReaderState). first_position (waiting_in o)) at ∙ ap first_position e;
      }

  -- a reader of which nothing waits has its block, and knows its hash
  ready_then : (position : ℕ) (r : ReaderState) → IsLive f position → IsReader f position r → IsAskedUp f position → r.waiting ≡ [] → IsReady r.supply number
  ready_then position r live at up none =
      let own = is.readers position r at in
      let from = own.begun number next in
      let before = (is.next number next).1 in
      let end = own.end in
      all_ready r.supply number own.supply (record { from = from; before = omega (arith, before, end) })
      (λ part wanted. all_taken position r (inl live) at none part (up.own r number part at next wanted))

  leads : LeadTo f.handout.trees.ciphertext f.handout.trees.ciphertext.root (segment_count f.handout.geometry)
  leads = subst (λ (g : Geometry). LeadTo f.handout.trees.ciphertext f.handout.trees.ciphertext.root (segment_count g)) is.handout.roots.geometry is.handout.trees.ciphertext

  -- where nothing waits of the giver, the segment's hash is known
  known_then : (position : ℕ) (r : ReaderState) → giver f ≡ Some position → IsReader f position r → IsAskedUp f position → r.waiting ≡ []
      → is_some (known_leaf f.handout.trees.ciphertext number) ≡ true
  known_then position r first at up none =
      let own = is.readers position r at in
      let within = is.next number next in
      leaf_known f.handout.geometry f.first f.end number f.handout.trees.ciphertext is.range within.0 within.1 leads (λ p piece.
      elim (cases_lt p.index (cursor_at f.taken p.level)) [
        | inl low ↦ is.ciphertext.known p low
        | inr high ↦
            let live : IsHeard f position = inl (first_live f.live position first) in
            let behind = is.ciphertext.behind position p.level r live at in
            let given = own.supply.given p.level in
            let start = own.start in
            let end = own.end in
            let from = within.0 in
            let before = within.1 in
            let its : IsNodePiece r.supply.geometry r.supply.start (number + 1) p =
            subst (λ (g : Geometry). IsNodePiece g r.supply.start (number + 1) p) (sym own.geometry) (subst (λ (n : ℕ). IsNodePiece f.handout.geometry n (number + 1) p) (sym own.start) piece) in
            let passes = all_taken position r live at none (CiphertextTree p)
            (up.ciphertext r number (CiphertextTree p) first at next (omega (arith, start, from), omega (arith, end, before), omega (arith, given, behind, high), its)) in
            absurd (omega (arith, passes, behind, high))
      ])

  too_few : length f.live ≢ f.handout.geometry.needed → length f.live < f.handout.geometry.needed
  too_few other = (let few = is.live.few in strictly (length f.live) f.handout.geometry.needed few other)
    where
      strictly : (a b : ℕ) → a ≤ b → a ≢ b → a < b
      strictly a b order not = elim (cases_lt a b) [ inl low ↦ low | inr high ↦ absurd (not (omega (arith, order, high))) ]

  pub lacks_next : LacksSome f.handout f.readers f.live number → LacksNext f
  lacks_next (lacks_readers other) = record { number = number; next = next; lacks = inl (too_few other) }
  lacks_next (lacks_hash unknown) = record { number = number; next = next; lacks = inr (inr unknown) }
  lacks_next (lacks_block k) = record { number = number; next = next; lacks = inr (inl (record { reader = k.position; live = k.among; r = k.r; there = k.there; lacks = k.not })) }

  pub cannot : LacksSome f.handout f.readers f.live number → CanNotGoOn f
  cannot (lacks_readers other) = inr (inl (too_few other))
  cannot (lacks_block k) = inr (inr (λ up.
      some_waits k.position k.r k.among k.there (λ none. k.not (ready_then k.position k.r k.among k.there (up k.position k.among) none))))
  cannot (lacks_hash unknown) = elim (cases_lt (length f.live) f.handout.geometry.needed) [
    | inl few ↦ inr (inl few)
    | inr enough ↦ inr (inr (λ up.
        let some = is.range.valid.some_needed in
        let first = first_of_some f.live (omega (arith, enough, some)) in
        let live = first_live f.live first.0 first.1 in
        let r = reader_there f.readers first.0 (All-contains (λ position. position < length f.readers) f.live first.0 is.live.there live) in
        some_waits first.0 r.0 live r.1 (λ none. false≢true (sym (ap is_some unknown) ∙ known_then first.0 r.0 first.1 r.1 (up first.0 live) none))))
  ]
    where
      first_of_some : (xs : List ℕ) → 0 < length xs → (g : ℕ) × (slice_get xs 0 ≡ Some g)
      first_of_some [] some = absurd (omega (arith, some))
      first_of_some (x ∷ xs) some = (x, refl)
