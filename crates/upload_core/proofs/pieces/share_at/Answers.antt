use Rattle.std.proofs.Common.{◌≡◌, ◌<◌, ℕ, List, [], Vec, Global, length, map, get_or, sym, ap, ◌∙◌, arith}
use Rattle.std.proofs.lemmas.List.{get_or-map, length-map}
use Rattle.tagged_hash.specs.TaggedHash.{share_digest}
use Rattle.upload_core.specs.Pieces.{HaveOneLength, length_of}
use Rattle.upload_core.proofs.pieces.share_at.Goals as goal

abbrev digest : Vec ℕ Global → List ℕ
digest share = share_digest share.items

abbrev texts : List (Vec ℕ Global) → List (List ℕ)
texts own = map (λ (share : Vec ℕ Global). share.items) own

-- a share of those with one length
one_long : (own : List (Vec ℕ Global)) (v : Vec ℕ Global) (n : ℕ) → HaveOneLength (texts own) → n < length own
    → v ≡ get_or own n v → length v.items ≡ length_of (texts own)
one_long own v n one below is =
    let same : get_or (texts own) n v.items ≡ v.items =
    get_or-map (λ (share : Vec ℕ Global). share.items) own n v v.items below ∙ ap (λ (share : Vec ℕ Global). share.items) (sym is) in
    sym (ap length same)
    ∙ one n v.items (omega (arith, below, length-map own (λ (share : Vec ℕ Global). share.items)))

pub returns-clause-long : goal.returns-clause-long
returns-clause-long c =
    let v = c.index-shares-number.result in
    ap length c.deref.ensures.value ∙ one_long c.args.shares.now v c.args.number c.requires.one_length c.requires.within c.index-shares-number.is

pub returns-clause-digest : goal.returns-clause-digest
returns-clause-digest c =
    let v = c.index-shares-number.result in
    ap share_digest c.deref.ensures.value ∙ ap digest c.index-shares-number.is ∙ sym (get_or-map digest c.args.shares.now c.args.number v [] c.requires.within)
