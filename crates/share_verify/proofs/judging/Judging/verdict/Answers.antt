use Rattle.std.proofs.Common.{◌≡◌, ℕ, ◌+◌, ◌-◌, ◌*◌, ◌<◌, ◌≤◌, ◌^◌, List, ◌++◌, MatchResult, length, take, drop, ap, sym, subst, ◌∙◌, arith}
use Rattle.std.proofs.lemmas.List.{drop-drop, length-drop, length-take-le, take-append-drop}
use Rattle.ueb.specs.Shape.{Contents}
use Rattle.share_layout.specs.Geometry.{Geometry, IsGeometry, block_size, segment_count, share_data_size}
use Rattle.share_verify.specs.CapBlock.{IsUebFor, geometry_by}
use Rattle.share_verify.specs.Hashed.{BeginsWith}
use Rattle.share_verify.specs.Judging.{share_with}
use Rattle.share_verify.specs.Verify.{IsFirstFault, IsSoundShare}
use Rattle.share_verify.proofs.JudgingLemmas.{begins_part, few_hashed, share_text, some_block}
use Rattle.share_verify.proofs.judging.Judging.verdict.Goals as goal

pub verify_hashed-requires-clause-few : goal.verify_hashed-requires-clause-few
verify_hashed-requires-clause-few c =
    let self = c.args.self.now in
    let g = geometry_by self.ueb in
    let valid : IsGeometry g = subst IsGeometry c.geometry_of-geometry.ensures c.share_data_size-data.ensures.valid in
    subst (λ (l : List (List ℕ)). length l ≤ segment_count g) (sym c.deref-2.ensures.value)
    (few_hashed g (length self.hashes.items) valid (some_block g valid) c.requires.within)

pub returns : goal.returns
returns c = λ cap u taken block has own.
    let self = c.args.self.now in
    let g = geometry_by self.ueb in
    let num = c.args.num in
    let hashes : List (List ℕ) = self.hashes.items in
    let kept : List ℕ = self.kept.items in
    let e = c.geometry_of-geometry.ensures in
    let bs : ℕ = block_size g in
    let n : ℕ = length hashes * bs in
    let d : ℕ = share_data_size g in
    let text = take d taken in
    let behind : List ℕ = c.split_at.result.1.now in
    let data_is : c.share_data_size-data.result ≡ d = c.share_data_size-data.ensures.value ∙ ap share_data_size e in
    let top : n < 2 ^ 64 = omega (arith, c.requires.within, data_is, c.share_data_size-data.ensures.range) in
    let hashed : c.hashed.result ≡ n =
    c.hashed.ensures.value (subst (λ (h : Geometry). length hashes * block_size h < 2 ^ 64) (sym e) top)
    ∙ ap (λ (h : Geometry). length hashes * block_size h) e in
    let left : c.share_data_size-data.result - c.hashed.result ≡ d - n = (λ i. data_is i - hashed i) in
    let long : d ≤ length taken =
    omega (arith, c.requires.whole, has.begins.whole, ap length has.begins.behind, length-drop n taken) in
    let front : c.split_at.result.0.now ≡ take (d - n) kept =
    c.split_at.ensures.front ∙ (λ i. take (left i) (c.deref.ensures.value i)) in
    let offset : n + (d - n) ≡ d = omega (arith, has.within) in
    let back : behind ≡ drop d taken =
    c.split_at.ensures.back ∙ (λ i. drop (left i) (c.deref.ensures.value i)) ∙ ap (drop (d - n)) has.begins.behind
    ∙ drop-drop (d - n) n taken ∙ ap (λ (k : ℕ). drop k taken) offset in
    let part = begins_part bs taken kept hashes has.begins d has.within long in
    let begins : BeginsWith bs text c.deref-2.result.now c.split_at.result.0.now =
    subst (λ (l : List (List ℕ)). BeginsWith bs text l c.split_at.result.0.now) (sym c.deref-2.ensures.value)
    (subst (λ (l : List ℕ). BeginsWith bs text hashes l) (sym front) part) in
    let whole : taken ≡ text ++ behind = sym (take-append-drop d taken) ∙ ap (λ (l : List ℕ). text ++ l) (sym back) in
    let same = share_text self.ueb c.cut-sections.result text behind taken block whole c.cut-sections.ensures.text
    ∙ ap (λ (v : Contents). share_with v taken block) has.ueb in
    subst (λ (share : List ℕ). MatchResult c.verify_hashed.result (λ _. IsSoundShare cap num share) (IsFirstFault cap num share)) same
    (c.verify_hashed.ensures cap text block begins (length-take-le d taken long) (subst (λ (v : Contents). IsUebFor cap block v) (sym has.ueb) own))
