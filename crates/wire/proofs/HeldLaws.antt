-- Shares whose numbers rise.
use Rattle.std.proofs.Common.{◌≡◌, ℕ, suc, ◌+◌, ◌<◌, ◌≤◌, Bool, true, false, leb, List, [], ◌∷◌, length, get_or, take, drop, refl, sym, ap, ◌∙◌, drop-cons, arith}
use Rattle.std.specs.Prelude.{◌&&◌, IsTrue}
use Rattle.std.specs.List.{All, AllByRecursion}
use Rattle.std.proofs.lemmas.List.{take_all, drop_all}
use Rattle.std.proofs.lemmas.List.Elements.{All-same, recursion_from_All}
use Rattle.std.proofs.lemmas.Bool.{leb-true, le-leb}
use Rattle.wire.specs.declared.message.HeldShare.{HeldShare}
use Rattle.wire.specs.Held.{rises_from, IsHeldShare, AreHeld}

pub both : (a b : Bool) → (a && b) ≡ true → (a ≡ true) × (b ≡ true)
both true b e = (refl, e)
both false b e = absurd cc

-- numbers below 256 that rise are few
pub few : (low : ℕ) (held : List HeldShare) → low ≤ 256 → IsTrue (rises_from low held) → AllByRecursion IsHeldShare held → length held + low ≤ 256
few low [] le rise each = omega arith
few low (h ∷ hs) le rise each =
    let r = both (leb low h.share) (rises_from (h.share + 1) hs) rise in
    let above : low ≤ h.share = leb-true _ _ r.0 in
    let others = few (h.share + 1) hs (omega (arith, each.0.0)) r.1 each.1 in
    omega arith

-- a share that does not fall back leaves it to the rest
pub rise_on : (low i : ℕ) (held : List HeldShare) (d : HeldShare) → i < length held → low ≤ (get_or held i d).share → rises_from 0 held ≡ rises_from low (drop i held)
    → rises_from 0 held ≡ rises_from ((get_or held i d).share + 1) (drop (i + 1) held)
rise_on low i held d lt above so_far =
    let next : suc i ≡ i + 1 = omega arith in
    let split : drop i held ≡ get_or held i d ∷ drop (i + 1) held = drop-cons held i d lt ∙ ap (λ (k : ℕ). get_or held i d ∷ drop k held) next in
    so_far ∙ ap (rises_from low) split ∙ rw (le-leb low (get_or held i d).share above) refl

-- a list that was gone over whole
pub are_held : (low : ℕ) (held : List HeldShare) (i : ℕ) → length held ≤ i → rises_from 0 held ≡ rises_from low (drop i held) → All IsHeldShare (take i held) → AreHeld held
are_held low held i le so_far each =
    let rise : rises_from 0 held ≡ true = so_far ∙ ap (rises_from low) (drop_all i held le) in
    let all : All IsHeldShare held = All-same IsHeldShare held (take i held) (sym (take_all i held le)) each in
    (omega (arith, few 0 held (omega arith) rise (recursion_from_All IsHeldShare held all)), rise, all)
