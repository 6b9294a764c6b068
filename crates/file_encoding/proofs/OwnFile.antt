-- What a reader takes of shares of one encoding.
use Rattle.std.proofs.Common.{◌≡◌, ℕ, ◌<◌, List, [], length, get_or, All, inl, inr, refl, sym, subst, ◌∙◌, arith}
use Rattle.std.proofs.lemmas.List.{length-map}
use Rattle.share_verify.proofs.Faults.{same_block}
use Rattle.cap_text.specs.Cap.{VerifyCapValue, verify_cap_of}
use Rattle.ueb.proofs.Refusals.{read_unique}
use Rattle.ueb.specs.Block.{ueb_text}
use Rattle.ueb.specs.Shape.{Contents, IsShape}
use Rattle.ueb.specs.declared.block.Expect.{Expect}
use Rattle.share_layout.proofs.ShareLemmas.{one_reading}
use Rattle.share_layout.specs.Geometry.{Geometry}
use Rattle.share_layout.specs.Share.{IsShare, Sections}
use Rattle.share_verify.specs.CapBlock.{IsUebFor, geometry_by}
use Rattle.share_verify.specs.Verify.{IsSound}
use Rattle.file_encoding.specs.Encoding.{ciphertext_encoding, extension_block_contents}
use Rattle.share_layout.specs.Pieces.{segments_of}
use Rattle.file_encoding.specs.Encoding.{sections_of}
use Rattle.file_encoding.specs.OwnFile.{AreEnoughOwn, AreOwnShares}
use Rattle.file_encoding.specs.Reading.{IsAmong, IsTaken, LacksShares, TakenShare, numbers_of}
use Rattle.file_encoding.proofs.OwnShares.{ciphertext_shares_pass}
use Rattle.file_encoding.proofs.Pigeonhole.{no_more}

-- which has one value for a cap
one_ueb : (cap : VerifyCapValue) (block : List ℕ) (u v : Contents) → IsUebFor cap block u → IsUebFor cap block v → u ≡ v
one_ueb cap block u v a b =
    let expect : Expect = record { needed = u.needed_shares; total = u.total_shares; size = u.size; in_range = a.grammar.contents.shape.file } in
    read_unique block expect u v (omega (arith, a.grammar.short)) a.grammar
    record { needed_shares = refl; total_shares = refl; size = refl } b.grammar
    record { needed_shares = b.needed ∙ sym a.needed; total_shares = b.total ∙ sym a.total; size = b.size ∙ sym a.size }

-- so a share that passes says one thing
pub one_way : (cap : VerifyCapValue) (i j : ℕ) (share : List ℕ) (u v : Contents) (s t : Sections) → IsSound cap i share u s → IsSound cap j share v t
    → (u ≡ v) × (s ≡ t)
one_way cap i j share u v s t a b =
    let block : s.extension_block ≡ t.extension_block = same_block share s.extension_block t.extension_block a.reads.located b.reads.located in
    let same : u ≡ v = one_ueb cap s.extension_block u v a.reads.ueb (subst (λ x. IsUebFor cap x v) (sym block) b.reads.ueb) in
    (same, one_reading (geometry_by u) i j share s t a.reads.layout (subst (λ w. IsShare (geometry_by w) j share t) (sym same) b.reads.layout))

pub total_is : (g : Geometry) (key ciphertext : List ℕ) → (ciphertext_encoding g key ciphertext).cap.total ≡ g.total
unfolding ciphertext_encoding
total_is g key ciphertext = refl

pub needed_is : (g : Geometry) (key ciphertext : List ℕ) → (ciphertext_encoding g key ciphertext).cap.needed ≡ g.needed
unfolding ciphertext_encoding
needed_is g key ciphertext = refl

module _ (g : Geometry) (key ciphertext : List ℕ) (shape : IsShape g.needed g.total g.size g.segment_size) (whole : length ciphertext ≡ g.size)
    (numbers : List ℕ) (strings : List (List ℕ)) (own : AreOwnShares (ciphertext_encoding g key ciphertext) numbers strings) where
  abbrev pub verify_cap : VerifyCapValue
  verify_cap = verify_cap_of (ciphertext_encoding g key ciphertext).cap

  abbrev pub contents : Contents
  contents = extension_block_contents g ciphertext (segments_of g ciphertext)

  abbrev pub sections : ℕ → Sections
  sections i = sections_of g (segments_of g ciphertext) (ueb_text contents) i

  -- the one at a position is sound
  pub own_sound : (position : ℕ) → position < length numbers
      → IsSound verify_cap (get_or numbers position 0) (get_or strings position []) contents (sections (get_or numbers position 0))
  own_sound position inside =
      let i : ℕ = get_or numbers position 0 in
      let low = own.below position 0 inside in
      subst (λ s. IsSound verify_cap i s contents (sections i)) (sym (own.own position inside))
      (ciphertext_shares_pass g key ciphertext shape whole i (omega (arith, low, total_is g key ciphertext)))

  -- what a share that is taken says
  pub record IsOwn (t : TakenShare) : Type 0 where
    pub number : t.number < g.total
    pub contents_are : contents ≡ t.contents
    pub sections_are : sections t.number ≡ t.sections

  pub taken_is : (t : TakenShare) → IsTaken verify_cap numbers strings t → IsOwn t
  taken_is t taken =
      let same = taken.first.passes.0 in
      let position : ℕ = t.position in
      let low = own.below position 0 taken.first.inside in
      let sound : IsSound verify_cap t.number (get_or strings position []) contents (sections t.number) =
      subst (λ i. IsSound verify_cap i (get_or strings position []) contents (sections i)) same (own_sound position taken.first.inside) in
      let way = one_way verify_cap t.number t.number (get_or strings position []) contents t.contents (sections t.number) t.sections sound taken.sound in
      record { number = omega (arith, low, same, total_is g key ciphertext); contents_are = way.0; sections_are = way.1 }

  -- where so many different numbers are there, a reader does not lack shares
  pub suffices : AreEnoughOwn (ciphertext_encoding g key ciphertext) numbers strings → ¬ LacksShares verify_cap numbers strings
  suffices are lacks =
      let some = are.enough in
      let each : All (λ n. IsAmong n (numbers_of lacks.taken)) some.some =
      (λ k d inside.
      let n : ℕ = get_or some.some k d in
      let found = some.among k d inside in
      let low = own.below found.0 0 found.1 in
      elim (lacks.lowest.others n (omega (arith, low, found.2))) [
        | inl among ↦ among
        | inr (inl none) ↦ absurd (none found.0 found.1 (
          found.2,
          (contents, sections n, subst (λ i. IsSound verify_cap i (get_or strings found.0 []) contents (sections i)) found.2 (own_sound found.0 found.1)),
        ))
        | inr (inr full) ↦ absurd (let few = lacks.few in omega (arith, few, full.0))
      ]) in
      let most = no_more some.some (numbers_of lacks.taken) some.distinct each in
      let all : length (numbers_of lacks.taken) ≡ length lacks.taken = length-map lacks.taken (λ (t : TakenShare). t.number) in
      omega (arith, most, all, some.counted, lacks.few)
