use Rattle.std.proofs.Common.{◌≡◌, ◌+◌, ◌-◌, ℕ, List, Some, true, ap, sym, ◌∙◌, arith}
use Rattle.std.proofs.Math.Nat.{pow-le-pow_right}
use Rattle.lemmas.proofs.Numbers.{next_power}
use Rattle.merkle.specs.Partial.{is_padding, padding}
use Rattle.merkle.specs.Tree.{height}
use Rattle.merkle.proofs.HeightLemmas.{height_below, height_low}
use Rattle.merkle.proofs.PaddingLemmas.{begins_computed, below_computed, hash_computed, inside_computed, is_padding-inside, kept_node, padding-false, padding-true, row_below}
use Rattle.merkle.proofs.padding.Padding.node.Goals as goal

pub overflow_add-number : goal.overflow_add-number
overflow_add-number c =
    let low = height_below c.self.inside.leaf_count 20 c.self.invariant.1 in
    let inside = is_padding-inside c.self.inside.leaf_count c.args.number (sym c.is_padding.ensures ∙ c.if-not-is_padding.false) in
    omega (arith, inside, next_power (height c.self.inside.leaf_count), pow-le-pow_right {n = 2} (omega arith) {i = height c.self.inside.leaf_count + 1} {j = 21} (omega (arith, low)))

pub overflow_sub-position : goal.overflow_sub-position
overflow_sub-position c =
    let h = c.height-height in
    let r = c.height-row in
    let low = height_low _ h.result 20 c.self.invariant.1 h.ensures.least in
    let below = below_computed c.self.inside.leaf_count c.args.number h.result low h.ensures.value (sym c.is_padding.ensures ∙ c.if-not-is_padding.false) in
    begins_computed c.self.inside.leaf_count c.args.number h.result r.result low h.ensures.value r.ensures.value below r.ensures.room r.ensures.least

-- its row is none below the leaves
pub overflow_sub-height : goal.overflow_sub-height
overflow_sub-height c =
    let h = c.height-height in
    let r = c.height-row in
    let low = height_low _ h.result 20 c.self.invariant.1 h.ensures.least in
    let below = below_computed c.self.inside.leaf_count c.args.number h.result low h.ensures.value (sym c.is_padding.ensures ∙ c.if-not-is_padding.false) in
    row_below c.self.inside.leaf_count c.args.number h.result r.result low h.ensures.value r.ensures.value below r.ensures.room r.ensures.least

pub kept-requires : goal.kept-requires
kept-requires c = omega (arith, height_low _ c.height-height.result 20 c.self.invariant.1 c.height-height.ensures.least)

pub padding_node-requires-clause-low : goal.padding_node-requires-clause-low
padding_node-requires-clause-low c = height_low _ c.height-height.result 20 c.self.invariant.1 c.height-height.ensures.least

pub padding_node-requires-clause-inside : goal.padding_node-requires-clause-inside
padding_node-requires-clause-inside c =
    let h = c.height-height in
    let r = c.height-row in
    let low = height_low _ h.result 20 c.self.invariant.1 h.ensures.least in
    let below = below_computed c.self.inside.leaf_count c.args.number h.result low h.ensures.value (sym c.is_padding.ensures ∙ c.if-not-is_padding.false) in
    row_below c.self.inside.leaf_count c.args.number h.result r.result low h.ensures.value r.ensures.value below r.ensures.room r.ensures.least

pub padding_node-requires-clause-there : goal.padding_node-requires-clause-there
padding_node-requires-clause-there c =
    let h = c.height-height in
    let r = c.height-row in
    let low = height_low _ h.result 20 c.self.invariant.1 h.ensures.least in
    let below = below_computed c.self.inside.leaf_count c.args.number h.result low h.ensures.value (sym c.is_padding.ensures ∙ c.if-not-is_padding.false) in
    inside_computed c.self.inside.leaf_count c.args.number h.result r.result low h.ensures.value r.ensures.value below r.ensures.room r.ensures.least

pub returns-then-not-is_padding : goal.returns-then-not-is_padding
returns-then-not-is_padding c =
    sym (ap (λ (n : ℕ). padding n c.args.number) (sym c.self.view_is) ∙ padding-false c.self.inside.leaf_count c.args.number (sym c.is_padding.ensures ∙ c.if-not-is_padding.true))

pub returns-in-Some : goal.returns-in-Some
returns-in-Some c =
    let n = c.self.inside.leaf_count in
    let h = c.height-height in
    let r = c.height-row in
    let low = height_low _ h.result 20 c.self.invariant.1 h.ensures.least in
    let padded : is_padding n c.args.number ≡ true = sym c.is_padding.ensures ∙ c.if-not-is_padding.false in
    let below = below_computed n c.args.number h.result low h.ensures.value padded in
    let within = row_below n c.args.number h.result r.result low h.ensures.value r.ensures.value below r.ensures.room r.ensures.least in
    let hash = hash_computed n c.args.number h.result r.result low h.ensures.value r.ensures.value below r.ensures.room r.ensures.least in
    let kept = kept_node n c.args.self.now h.result (r.result - 1) _ c.self.view_is h.ensures.value within in
    ap (λ (x : List ℕ). Some x) (c.in-Some.ensures ∙ kept ∙ hash) ∙ sym (padding-true n c.args.number padded)
    ∙ ap (λ (n : ℕ). padding n c.args.number) c.self.view_is

pub returns-in-None : goal.returns-in-None
returns-in-None c =
    let n = c.self.inside.leaf_count in
    let h = c.height-height in
    let r = c.height-row in
    let low = height_low _ h.result 20 c.self.invariant.1 h.ensures.least in
    let padded : is_padding n c.args.number ≡ true = sym c.is_padding.ensures ∙ c.if-not-is_padding.false in
    let below = below_computed n c.args.number h.result low h.ensures.value padded in
    let hash = hash_computed n c.args.number h.result r.result low h.ensures.value r.ensures.value below r.ensures.room r.ensures.least in
    ap (λ (x : List ℕ). Some x) (c.padding_node.ensures ∙ hash) ∙ sym (padding-true n c.args.number padded)
    ∙ ap (λ (n : ℕ). padding n c.args.number) c.self.view_is
