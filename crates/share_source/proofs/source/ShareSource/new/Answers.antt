use Rattle.std.proofs.Common.{◌≡◌, ℕ, List, Err, IsErrAnd, Ok, Result, false, length, replicate, ap, subst, sym, ◌∙◌}
use Rattle.share_layout.specs.Geometry.{Geometry}
use Rattle.zfec_code.specs.declared.CodeError.{CodeError}
use Rattle.share_source.specs.Candidates.{AreFirst, HaveTooFew}
use Rattle.share_source.proofs.source.ShareSource.new.Goals as goal

-- an error that is passed on
passed_on : {T : Type 0} (r : Result T CodeError) (error other : CodeError) → IsErrAnd r (λ e. e ≡ error) → r ≡ Err other → error ≡ other
passed_on (Ok v) error other answered is = absurd cc
passed_on (Err e) error other answered is = let same : e ≡ other = cc in sym answered ∙ same

pub returns-in_err-reading-clause-few : goal.returns-in_err-reading-clause-few
returns-in_err-reading-clause-few g c = λ is.
    subst (λ (shares : List ℕ). HaveTooFew c.args.ueb.needed_shares shares (replicate (length shares) false)) c.deref-2.ensures.value
    (subst (λ (h : Geometry). HaveTooFew h.needed c.deref-2.result.now (replicate (length c.deref-2.result.now) false)) c.geometry_of-geometry.ensures (c.in_err-reading.ensures.few (ap Err (passed_on c.from_residual.result c.in_err-reading.field-0.0 CodeError.LengthMismatch c.from_residual.ensures.1 is))))

pub returns-clause-first : goal.returns-clause-first
returns-clause-first g c = subst (λ (shares : List ℕ). AreFirst shares c.in_ok-reading.reading.positions.items) c.deref-2.ensures.value c.in_ok-reading.ensures.first
