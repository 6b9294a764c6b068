-- Where the reads of the beginning of a share lie.
use Rattle.std.proofs.Common.{◌≡◌, ℕ, ◌+◌, ◌≤◌, inl, inr, List, take, sym, ap, subst, ◌∙◌, arith}
use Rattle.std.proofs.lemmas.List.{take_all}
use Rattle.cap_text.specs.Cap.{VerifyCapValue}
use Rattle.share_layout.specs.Geometry.{Geometry, IsGeometry}
use Rattle.share_layout.specs.declared.layout.Layout.TheVariants.{Two}
use Rattle.share_layout.specs.declared.offsets.Offsets.{Offsets}
use Rattle.share_layout.specs.Layout.{header, header_size, layout_of, offsets_of}
use Rattle.share_layout.specs.Offsets.{layout_in}
use Rattle.share_layout.specs.Reading.{HasHeader}
use Rattle.share_layout.proofs.LawLemmas.{tells_offsets}
use Rattle.share_layout.proofs.LayoutLemmas.{length-header}
use Rattle.share_reading.specs.Header.{IsSecond}
use Rattle.share_reading.specs.Opening.{Advances, Agrees, next_length, next_offset, text_of}
use Rattle.share_reading.specs.OpeningReads.{end_of}
use Rattle.share_reading.specs.declared.header.ShareHeader.{ShareHeader}
use Rattle.share_reading.specs.declared.opening.Opening.{Opening}
use Rattle.share_reading.specs.declared.opening.Opening.TheVariants.{Start, Second, Header, Block}
use Rattle.share_reading.specs.declared.opening.Progress.TheVariants.{Next}
use Rattle.share_reading.proofs.ReadLemmas.{behind, rise}
use Rattle.share_reading.proofs.BlameLemmas.{layout_take}
use Rattle.share_reading.proofs.ListLemmas.{header_long}
use Rattle.download_shares.specs.Reads.{IsBeside, IsReadUpTo}

-- the next read is one
pub next_is : (o : Opening) → IsReadUpTo o (next_offset o) (next_length o)
next_is Start = omega arith
next_is (Second s) = omega arith
next_is (Header h) = inr (omega arith, omega arith)
next_is (Block b) = inr (omega arith, omega arith)

-- all end with the next read
pub ends : (o : Opening) (position len : ℕ) → IsReadUpTo o position len → position + len ≤ next_offset o + next_length o
ends Start position len r = r
ends (Second s) position len r = r
ends (Header h) position len (inl low) = let b = behind h in omega (arith, low, b)
ends (Header h) position len (inr high) = high.1
ends (Block b) position len (inl low) = let k = behind b.header in omega (arith, low, k)
ends (Block b) position len (inr high) = high.1

-- they stay reads of the opening that goes on
pub goes_on : (verify : VerifyCapValue) (old new : Opening) (bytes : List ℕ) (position len : ℕ) → Advances verify old bytes (Next new) → IsReadUpTo old position len → IsReadUpTo new position len
goes_on verify old new bytes position len a r =
    let k = rise verify old new bytes a in
    by old new (let e = ends old position len r in let f = k.0 in omega (arith, e, f)) a r
  where
    by : (old new : Opening) → position + len ≤ end_of new → Advances verify old bytes (Next new) → IsReadUpTo old position len → IsReadUpTo new position len
    by old Start low a r = omega (arith, low)
    by old (Second s) low a r = omega (arith, low)
    by old (Header h) low a r = inl low
    by Start (Block b) low a r = absurd a.1
    by (Second s) (Block b) low a r = absurd a.1
    by (Header h) (Block b) low a r = elim (subst (λ (k : ShareHeader). IsReadUpTo (Header k) position len) (sym a.1.0) r) [
      | inl in_header ↦ inl in_header
      | inr high ↦ (let e = high.1 in inr (high.0, omega (arith, e)))
    ]
    by (Block d) (Block b) low a r = absurd a.1

-- ---- beside the plans of a file whose header was read

own_layout : (g : Geometry) → IsGeometry g → layout_in (header g) ≡ layout_of g
own_layout g valid =
    let own : HasHeader g (header g) = take_all (header_size (layout_of g)) (header g) (let e = length-header (layout_of g) g in omega (arith, e)) in
    ap (λ (p : Offsets). p.layout) (tells_offsets g (header g) valid own).2

second_layout : (g : Geometry) (start : List ℕ) → IsGeometry g → IsSecond start → take 36 (header g) ≡ start → layout_of g ≡ Two
second_layout g start valid second agrees =
    sym (own_layout g valid) ∙ sym (layout_take 36 (header g) (omega arith)) ∙ ap layout_in agrees ∙ second

own_offsets : (g : Geometry) (h : ShareHeader) → IsGeometry g → HasHeader g (text_of h) → h.offsets ≡ offsets_of g
own_offsets g h valid has = h.right.offsets ∙ (tells_offsets g (text_of h) valid has).2

pub beside : (g : Geometry) (o : Opening) (offset len : ℕ) → IsGeometry g → Agrees g o → IsReadUpTo o offset len → IsBeside g offset len
beside g Start offset len valid agrees r = inl (let l = header_long (layout_of g) in omega (arith, l, r))
beside g (Second s) offset len valid agrees r = inl (let l = ap header_size (second_layout g s.bytes valid s.second agrees) in omega (arith, l, r))
beside g (Header h) offset len valid agrees (inl in_header) = inl (let l = ap (λ (p : Offsets). header_size p.layout) (own_offsets g h valid agrees) in omega (arith, l, in_header))
beside g (Header h) offset len valid agrees (inr high) = inr (let l = ap (λ (p : Offsets). p.extension_block) (own_offsets g h valid agrees) in let e = high.0 in omega (arith, l, e))
beside g (Block b) offset len valid agrees (inl in_header) = inl (let l = ap (λ (p : Offsets). header_size p.layout) (own_offsets g b.header valid agrees) in omega (arith, l, in_header))
beside g (Block b) offset len valid agrees (inr high) = inr (let l = ap (λ (p : Offsets). p.extension_block) (own_offsets g b.header valid agrees) in let e = high.0 in omega (arith, l, e))
