-- What two passes over a source come to.
use Rattle.std.proofs.Common.{◌≡◌, ℕ, List, length, inl, inr, ap, sym, subst, ◌∙◌, arith}
use Rattle.aes_ctr.specs.CounterMode.{xored}
use Rattle.tagged_hash.specs.ConvergentKey.{convergent_key_of}
use Rattle.share_layout.specs.Geometry.{Geometry, geometry_of}
use Rattle.file_encoding.specs.Encoding.{Parameters}
use Rattle.sources.specs.Change.{HasEndedEarly}
use Rattle.sources.specs.Source.{IsPass}
use Rattle.file_streaming.specs.Passes.{AreTwoPasses, IsOtherPass, key_by}
use Rattle.file_streaming.specs.Prepared.{IsPreparedFrom, PassesDiffer, PreparedFile, key_for, prepared_by}
use Rattle.file_streaming.specs.declared.passes.Passes.{Passes}
use Rattle.block_making.proofs.ReadRuns.{ended-later}

-- the key by a geometry is the key by the parameters that the geometry is of
own_key : (size : ℕ) (secret : List ℕ) (p : Parameters) (g : Geometry) → g ≡ geometry_of size p.needed p.total p.max_segment → (bytes : List ℕ) → length bytes ≡ size
    → key_by g secret bytes ≡ key_for bytes secret p
own_key size secret p g given bytes long =
    ap (λ (h : Geometry). key_by h secret bytes) given
    ∙ ap (λ n. convergent_key_of p.needed p.total (geometry_of n p.needed p.total p.max_segment).segment_size secret bytes) (sym long)

module _ {S : Type 0} (gives : S → ℕ → List ℕ → S → Type 0) where
  -- a second pass that ended early, or brought another key
  pub other_pass_differs : (old mid new : S) (g : Geometry) (secret key first : List ℕ) → IsPass gives g.size old first mid → key ≡ key_by g secret first
      → IsOtherPass gives mid g secret key new → PassesDiffer gives g.size old (key_by g secret) new
  other_pass_differs old mid new g secret key first before is other =
      elim other [
        | inl ended ↦ inl (ended-later gives old mid new 0 g.size g.size first before.read ended (omega arith))
        | inr another ↦ inr record {
          first = first;
          second = another.file;
          reading = record { mid = mid; before = before; after = another.pass };
          two_keys = λ e. another.other (sym (is ∙ e));
        }
      ]

  -- passes that differ by a geometry differ by the parameters that it is of
  pub differ_for : (size : ℕ) (old new : S) (secret : List ℕ) (p : Parameters) (g : Geometry) → g ≡ geometry_of size p.needed p.total p.max_segment
      → PassesDiffer gives g.size old (key_by g secret) new → PassesDiffer gives size old (λ file. key_for file secret p) new
  differ_for size old new secret p g given differ =
      let sized : g.size ≡ size = ap (λ (h : Geometry). h.size) given in
      elim differ [
        | inl ended ↦ inl (subst (λ n. HasEndedEarly gives old n new) sized ended)
        | inr two ↦ inr (
            let before : IsPass gives size old two.first two.reading.mid = subst (λ n. IsPass gives n old two.first two.reading.mid) sized two.reading.before in
            let after : IsPass gives size two.reading.mid two.second new = subst (λ n. IsPass gives n two.reading.mid two.second new) sized two.reading.after in
            record {
              first = two.first;
              second = two.second;
              reading = record { mid = two.reading.mid; before = before; after = after };
              two_keys = λ e. two.two_keys (own_key size secret p g given two.first before.long ∙ e ∙ sym (own_key size secret p g given two.second after.long));
            })
      ]

  -- what is kept of a file that was read twice is kept of what the second pass brought
  pub prepared_from : (size : ℕ) (old new : S) (secret : List ℕ) (p : Parameters) (g : Geometry) (passes : Passes) (prepared : PreparedFile)
      → g ≡ geometry_of size p.needed p.total p.max_segment → (two : AreTwoPasses gives old g secret passes new)
      → prepared ≡ prepared_by g passes.key (xored passes.key two.after.file) → IsPreparedFrom gives size old secret p prepared new
  prepared_from size old new secret p g passes prepared given two is =
      let file : List ℕ = two.after.file in
      let sized : g.size ≡ size = ap (λ (h : Geometry). h.size) given in
      let long : length file ≡ size = two.after.pass.long ∙ sized in
      let own = own_key size secret p g given in
      let key : passes.key ≡ key_for file secret p = two.after.key ∙ own file long in
      let own_geometry : g ≡ geometry_of (length file) p.needed p.total p.max_segment = given ∙ ap (λ n. geometry_of n p.needed p.total p.max_segment) (sym long) in
      record {
        first = two.first;
        file = file;
        reading = record {
          mid = two.mid;
          before = subst (λ n. IsPass gives n old two.first two.mid) sized two.before;
          after = subst (λ n. IsPass gives n two.mid file new) sized two.after.pass;
        };
        one_key = sym (own two.first (two.before.long ∙ sized)) ∙ sym two.one_key ∙ key;
        is = is ∙ λ i. prepared_by (own_geometry i) (key i) (xored (key i) file);
      }
