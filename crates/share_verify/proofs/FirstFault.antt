-- A share has one first fault, or passes.
use Rattle.std.proofs.Common.{◌≡◌, ℕ, List, Result, Ok, Err, refl, subst, sym, ap, ◌∙◌}
use Rattle.std.specs.Result.{IsErrAnd}
use Rattle.cap_text.specs.Cap.{VerifyCapValue}
use Rattle.ueb.specs.Shape.{Contents}
use Rattle.share_layout.specs.Share.{Sections}
use Rattle.share_layout.specs.declared.error.LayoutError.{LayoutError}
use Rattle.share_verify.specs.Verify.{AreSound, IsFirstFault, not_read, not_sound, IsReadingFault, IsLayoutFault, IsSectionFault, IsSound, ReadsAs}
use Rattle.share_verify.specs.declared.fault.ShareFault.{ShareFault}
use Rattle.share_verify.specs.declared.fault.ShareFault.TheVariants.{Layout, OtherUeb, Ueb, Unused, CiphertextTree, BlockTree, ShareHashes, Data}

-- a fault of the layout is one of its errors
pub record IsLayoutError (IsFault : LayoutError → Type 0) (fault : ShareFault) : Type 0 where
  pub error : LayoutError
  pub is : fault ≡ Layout error
  pub holds : IsFault error

pub layout_error : (IsFault : LayoutError → Type 0) (fault : ShareFault) → IsLayoutFault IsFault fault → IsLayoutError IsFault fault
layout_error IsFault (Layout error) held = record { error = error; is = refl; holds = held }
layout_error IsFault OtherUeb held = absurd held
layout_error IsFault (Ueb error) held = absurd held
layout_error IsFault Unused held = absurd held
layout_error IsFault CiphertextTree held = absurd held
layout_error IsFault BlockTree held = absurd held
layout_error IsFault ShareHashes held = absurd held
layout_error IsFault Data held = absurd held

-- a call answers one thing
pub same_err : {T E : Type 0} (r : Result T E) (a b : E) → r ≡ Err a → r ≡ Err b → a ≡ b
same_err r a b one other = cc

pub ok_no_err : {T E : Type 0} (r : Result T E) (x : T) (e : E) → r ≡ Ok x → r ≡ Err e → ⊥
ok_no_err r x e one other = cc

-- a call that refuses for each fault of a kind, and only for these
module _ {T : Type 0} (r : Result T ShareFault) (F : ShareFault → Type 0)
    (says : (fault : ShareFault) → (r ≡ Err fault → F fault) × (F fault → r ≡ Err fault)) where
  pub not_refused : (x : T) → r ≡ Ok x → (fault : ShareFault) → F fault → ⊥
  not_refused x is fault held = ok_no_err r x fault is ((says fault).1 held)

-- a refusal for a fault of the layout, and none
module _ {T U : Type 0} (IsFault : LayoutError → Type 0) (r : Result T LayoutError) (q : Result U ShareFault)
    (says : (error : LayoutError) → (r ≡ Err error → IsFault error) × (IsFault error → r ≡ Err error)) where
  pub layout_refused : (error : LayoutError) → r ≡ Err error → q ≡ Err (Layout error) → (fault : ShareFault)
      → (q ≡ Err fault → IsLayoutFault IsFault fault) × (IsLayoutFault IsFault fault → q ≡ Err fault)
  layout_refused error read answered fault = (
    λ is. subst (IsLayoutFault IsFault) (same_err q (Layout error) fault answered is) ((says error).0 read),
    λ held.
        let found = layout_error IsFault fault held in
        let same = same_err r error found.error read ((says found.error).1 found.holds) in
        answered ∙ ap (λ (f : ShareFault). Err f) (ap (λ (e : LayoutError). Layout e) same ∙ sym found.is),
  )

  pub layout_accepted : (x : T) (y : U) → r ≡ Ok x → q ≡ Ok y → (fault : ShareFault)
      → (q ≡ Err fault → IsLayoutFault IsFault fault) × (IsLayoutFault IsFault fault → q ≡ Err fault)
  layout_accepted x y read answered fault = (
    λ is. absurd (ok_no_err q y fault answered is),
    λ held.
        let found = layout_error IsFault fault held in
        absurd (ok_no_err r x found.error read ((says found.error).1 found.holds)),
  )

-- what a refusal is
pub record IsErrWith {T E : Type 0} (r : Result T E) (P : E → Type 0) : Type 0 where
  pub error : E
  pub is : r ≡ Err error
  pub holds : P error

pub err_with : {T E : Type 0} (r : Result T E) (P : E → Type 0) → IsErrAnd r P → IsErrWith r P
err_with (Ok x) P held = absurd held
err_with (Err e) P held = record { error = e; is = refl; holds = held }

module _ (cap : VerifyCapValue) (num : ℕ) (share : List ℕ) where
  -- the first fault of a share that does not read as one
  pub unread : (fault : ShareFault) → IsFirstFault cap num share fault → ((u : Contents) (s : Sections) → ReadsAs cap num share u s → ⊥)
      → IsReadingFault cap num share fault
  unread fault (not_read held) none = held
  unread fault (not_sound u s reads held) none = absurd (none u s reads)

  -- and of one that does
  module _ (u : Contents) (s : Sections) (one : (v : Contents) (t : Sections) → ReadsAs cap num share v t → (u ≡ v) × (s ≡ t)) where
    pub section_fault : (fault : ShareFault) → IsFirstFault cap num share fault → (IsReadingFault cap num share fault → ⊥) → IsSectionFault u num s fault
    section_fault fault (not_read held) none = absurd (none held)
    section_fault fault (not_sound v t reads held) none =
        let same = one v t reads in
        subst (λ w. IsSectionFault w num s fault) (sym same.0) (subst (λ x. IsSectionFault v num x fault) (sym same.1) held)

    pub sections_sound : (v : Contents) (t : Sections) → IsSound cap num share v t → AreSound u num s
    sections_sound v t sound =
        let same = one v t sound.reads in
        subst (λ w. AreSound w num s) (sym same.0) (subst (λ x. AreSound v num x) (sym same.1) sound.sections)
