-- One fault comes first.
use Rattle.std.proofs.Common.{◌≡◌, ◌↔◌, ℕ, List, Result, Ok, Err, ap, refl, subst, ◌∙◌}
use Rattle.cap_text.specs.Cap.{VerifyCapValue}
use Rattle.ueb.specs.Shape.{Contents}
use Rattle.share_layout.specs.declared.error.LayoutError.{LayoutError}
use Rattle.share_layout.specs.Geometry.{Geometry}
use Rattle.share_layout.specs.Reading.{HasHeader, IsHeaderFault}
use Rattle.share_layout.proofs.Verdicts.{no_header_fault, one_header_fault}
use Rattle.share_verify.specs.CapBlock.{IsUebFor, geometry_by}
use Rattle.share_verify.specs.Verify.{IsUebFault}
use Rattle.share_verify.specs.declared.fault.ShareFault.{ShareFault}
use Rattle.share_reading.specs.Refusal.{IsBlockRefusal, IsHeaderRefusal}
use Rattle.share_reading.specs.declared.error.OpeningError.{OpeningError}
use Rattle.share_reading.specs.declared.error.OpeningError.TheVariants as errors

-- where all refusals are one
pub only_refusal : {T : Type 0} (F : OpeningError → Type 0) (r : Result T OpeningError) (error : OpeningError) → r ≡ Err error → F error
    → ((other : OpeningError) → F other → error ≡ other) → (other : OpeningError) → (r ≡ Err other) ↔ F other
only_refusal F r error is fault one other = (
  λ also. let same : error ≡ other = cc in subst F same fault,
  λ held. is ∙ ap Err (one other held),
)

-- a header's fault is the only refusal of it
pub only_header_fault : (header : List ℕ) (error : LayoutError) → IsHeaderFault header error → (other : OpeningError) → IsHeaderRefusal header other
    → errors.Header error ≡ other
only_header_fault header error fault errors.OtherLength held = absurd held
only_header_fault header error fault (errors.Header e) held = ap errors.Header (one_header_fault header error e fault held)
only_header_fault header error fault errors.TooFar held = absurd (no_header_fault header held.0.version held.0.offsets error fault)
only_header_fault header error fault errors.TooLong held = absurd held
only_header_fault header error fault errors.NoBlock held = absurd held
only_header_fault header error fault (errors.Ueb f) held = absurd held
only_header_fault header error fault errors.OtherHeader held = absurd held

-- what reads an extension block answers one thing
module _ (cap : VerifyCapValue) (header bytes : List ℕ) (r : Result Contents ShareFault)
    (accepts : (u : Contents) → IsUebFor cap bytes u → r ≡ Ok u)
    (refuses : (fault : ShareFault) → (r ≡ Err fault) ↔ IsUebFault cap bytes fault) where
  pub only_ueb_fault : (fault : ShareFault) → r ≡ Err fault → (other : OpeningError) → IsBlockRefusal cap header bytes other → errors.Ueb fault ≡ other
  only_ueb_fault fault is errors.OtherLength held = absurd held
  only_ueb_fault fault is (errors.Header e) held = absurd held
  only_ueb_fault fault is errors.TooFar held = absurd held
  only_ueb_fault fault is errors.TooLong held = absurd held
  only_ueb_fault fault is errors.NoBlock held = absurd held
  only_ueb_fault fault is (errors.Ueb f) held = let also = (refuses f).1 held in let same : fault ≡ f = cc in ap errors.Ueb same
  only_ueb_fault fault is errors.OtherHeader held = let also = accepts held.0 held.1 in absurd (cc)

  pub only_other_header : (u : Contents) → r ≡ Ok u → (other : OpeningError) → IsBlockRefusal cap header bytes other → errors.OtherHeader ≡ other
  only_other_header u is errors.OtherLength held = absurd held
  only_other_header u is (errors.Header e) held = absurd held
  only_other_header u is errors.TooFar held = absurd held
  only_other_header u is errors.TooLong held = absurd held
  only_other_header u is errors.NoBlock held = absurd held
  only_other_header u is (errors.Ueb f) held = let also = (refuses f).1 held in absurd (cc)
  only_other_header u is errors.OtherHeader held = refl

  pub no_refusal : (u : Contents) → r ≡ Ok u → HasHeader (geometry_by u) header → (other : OpeningError) → IsBlockRefusal cap header bytes other → ⊥
  no_refusal u is own errors.OtherLength held = held
  no_refusal u is own (errors.Header e) held = held
  no_refusal u is own errors.TooFar held = held
  no_refusal u is own errors.TooLong held = held
  no_refusal u is own errors.NoBlock held = held
  no_refusal u is own (errors.Ueb f) held = let also = (refuses f).1 held in cc
  no_refusal u is own errors.OtherHeader held =
      let also = accepts held.0 held.1 in
      let same : u ≡ held.0 = cc in
      held.2 (subst (λ (v : Contents). HasHeader (geometry_by v) header) same own)

-- a header of the same geometry
pub same_header : (g h : Geometry) (a b : List ℕ) → g ≡ h → a ≡ b → HasHeader g a → HasHeader h b
same_header g h a b geometry text own = subst (HasHeader h) text (subst (λ (k : Geometry). HasHeader k a) geometry own)
