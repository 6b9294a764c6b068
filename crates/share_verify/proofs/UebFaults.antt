-- What refuses an extension block.
use Rattle.std.proofs.Common.{◌≡◌, List, ℕ, Result, Ok, Err, ap, refl, sym, ◌∙◌, subst}
use std.HLevel.{prop→path_p}
use denote.Struct.Props.{props}
use Rattle.cap_text.specs.Cap.{VerifyCapValue}
use Rattle.tagged_hash.specs.TaggedHash.{tagged_hash}
use Rattle.tagged_hash.specs.declared.tag.Tag.TheVariants.{ExtensionBlock}
use Rattle.ueb.specs.Reading.{IsRefused}
use Rattle.ueb.specs.Shape.{IsFile}
use Rattle.ueb.specs.declared.block.Expect.{Expect}
use Rattle.ueb.specs.declared.error.UebError.{UebError}
use Rattle.share_verify.proofs.FirstFault.{ok_no_err, same_err}
use Rattle.share_verify.specs.Verify.{IsUebFault, RefusesUeb}
use Rattle.share_verify.specs.declared.fault.ShareFault.{ShareFault}
use Rattle.share_verify.specs.declared.fault.ShareFault.TheVariants.{Layout, OtherUeb, Ueb, Unused, CiphertextTree, BlockTree, ShareHashes, Data}

-- what a cap says is expected in one way
same_expect : (a b : Expect) → a.needed ≡ b.needed → a.total ≡ b.total → a.size ≡ b.size → a ≡ b
same_expect a b needed total size =
    λ i. record {
      needed = needed i;
      total = total i;
      size = size i;
      in_range = prop→path_p (λ j. IsFile (needed j) (total j) (size j)) (hlevel props) a.in_range b.in_range i;
    }

-- so a refusal is one by each reader that expects what the cap says
pub refused_by : (cap : VerifyCapValue) (block : List ℕ) (error : UebError) (expect : Expect) → expect.needed ≡ cap.needed → expect.total ≡ cap.total
    → expect.size ≡ cap.size → RefusesUeb cap block error → IsRefused block expect error
refused_by cap block error expect k n size held =
    subst (λ e. IsRefused block e error) (same_expect held.expect expect (held.needed ∙ sym k) (held.total ∙ sym n) (held.size ∙ sym size)) held.refused

-- a fault of an extension block with the cap's hash is a refusal by its reader
pub record IsUebRefusal (cap : VerifyCapValue) (block : List ℕ) (fault : ShareFault) : Type 0 where
  pub error : UebError
  pub is : fault ≡ Ueb error
  pub refused : RefusesUeb cap block error

pub ueb_refusal : (cap : VerifyCapValue) (block : List ℕ) → tagged_hash ExtensionBlock block ≡ cap.ueb_hash → (fault : ShareFault)
    → IsUebFault cap block fault → IsUebRefusal cap block fault
ueb_refusal cap block hash (Layout error) held = absurd held
ueb_refusal cap block hash OtherUeb held = absurd (held hash)
ueb_refusal cap block hash (Ueb error) held = record { error = error; is = refl; refused = held.1 }
ueb_refusal cap block hash Unused held = absurd held
ueb_refusal cap block hash CiphertextTree held = absurd held
ueb_refusal cap block hash BlockTree held = absurd held
ueb_refusal cap block hash ShareHashes held = absurd held
ueb_refusal cap block hash Data held = absurd held

-- a refusal for a fault of the extension block, and none
module _ {T : Type 0} (cap : VerifyCapValue) (block : List ℕ) (hash : tagged_hash ExtensionBlock block ≡ cap.ueb_hash)
    (r : Result T UebError) (q : Result T ShareFault)
    (says : (error : UebError) → (r ≡ Err error → RefusesUeb cap block error) × (RefusesUeb cap block error → r ≡ Err error)) where
  pub ueb_refused : (error : UebError) → r ≡ Err error → q ≡ Err (Ueb error) → (fault : ShareFault)
      → (q ≡ Err fault → IsUebFault cap block fault) × (IsUebFault cap block fault → q ≡ Err fault)
  ueb_refused error read answered fault = (
    λ is. subst (IsUebFault cap block) (same_err q (Ueb error) fault answered is) (hash, (says error).0 read),
    λ held.
        let found = ueb_refusal cap block hash fault held in
        let same = same_err r error found.error read ((says found.error).1 found.refused) in
        answered ∙ ap (λ (f : ShareFault). Err f) (ap (λ (e : UebError). Ueb e) same ∙ sym found.is),
  )

  pub ueb_accepted : (x : T) → r ≡ Ok x → q ≡ Ok x → (fault : ShareFault)
      → (q ≡ Err fault → IsUebFault cap block fault) × (IsUebFault cap block fault → q ≡ Err fault)
  ueb_accepted x read answered fault = (
    λ is. absurd (ok_no_err q x fault answered is),
    λ held.
        let found = ueb_refusal cap block hash fault held in
        absurd (ok_no_err r x found.error read ((says found.error).1 found.refused)),
  )
