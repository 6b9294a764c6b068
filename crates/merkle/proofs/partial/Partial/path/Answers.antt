use Rattle.std.proofs.Common.{◌≡◌, ◌^◌, ◌<◌, ◌≤◌, ℕ, List, [], Option, Some, Bool, false, true, is_some, not, unwrap_or, map, ap, subst, sym, ◌∙◌, arith}
use Rattle.std.specs.List.{range_with_len}
use Rattle.lemmas.proofs.Options.{some_of}
use Rattle.merkle.specs.Path.{LeadsBy}
use Rattle.merkle.specs.Tree.{height, node_number, sibling_number}
use Rattle.merkle.specs.Partial.{IsPartial, PartialState, known_at, known_siblings, leaf_number}
use Rattle.merkle.proofs.PathLemmas.{siblings_more}
use Rattle.merkle.proofs.HeightLemmas.{height_low, height_room}
use Rattle.merkle.proofs.StateLemmas.{known-lead, sibling_known}
use Rattle.merkle.proofs.partial.Partial.path.Goals as goal

module _ (p : PartialState) (h n leaf : ℕ) (is : h ≡ height n) (count : n ≡ p.leaf_count) where
  same_height : h ≡ height p.leaf_count
  same_height = is ∙ ap height count

  -- the leaf is one of the last row's
  room : leaf < p.leaf_count → leaf < 2 ^ h
  room inside = subst (λ (k : ℕ). leaf < 2 ^ k) (sym same_height) (omega (arith, inside, height_room p.leaf_count))

  number_is : node_number h leaf ≡ leaf_number p.leaf_count leaf
  number_is = ap (λ (k : ℕ). node_number k leaf) same_height

  sibling_is : (i : ℕ) → sibling_number h leaf i ≡ sibling_number (height p.leaf_count) leaf i
  sibling_is i = ap (λ (k : ℕ). sibling_number k leaf i) same_height

  -- a sibling of a known leaf is known
  sibling_there : leaf < p.leaf_count → IsPartial p → (found : Option (List ℕ)) → is_some found ≡ true
      → found ≡ known_at p (node_number h leaf) → (i : ℕ) → i < h
      → (hash : List ℕ) × (known_at p (sibling_number h leaf i) ≡ Some hash)
  sibling_there inside sound found there value i below =
      let leaf_hash = some_of found there in
      let knows : known_at p (leaf_number p.leaf_count leaf) ≡ Some leaf_hash.0 = ap (known_at p) (sym number_is) ∙ sym value ∙ leaf_hash.1 in
      let t = sibling_known p leaf leaf_hash.0 sound inside knows i (omega (arith, same_height, below)) in
      (t.0, ap (known_at p) (sibling_is i) ∙ t.1)

-- not none
there_from_not : (some none : Bool) → some ≡ not none → none ≡ false → some ≡ true
there_from_not some none is no' = is ∙ ap not no'

none_from_not : (some none : Bool) → some ≡ not none → none ≡ true → some ≡ false
none_from_not some none is yes' = is ∙ ap not yes'

pub sibling_number-requires-clause-low : goal.sibling_number-requires-clause-low
sibling_number-requires-clause-low c =
    omega (arith, height_low _ c.height-height.result 20 c.self.invariant.1 c.height-height.ensures.least)

pub unreachable-requires : goal.unreachable-requires
unreachable-requires c =
    let p = c.args.self.now in
    let count = ap (λ (s : PartialState). s.leaf_count) c.self.view_is in
    let there = there_from_not (is_some c.node.result) c.is_none.result c.is_none.ensures c.if-is_none.false in
    let t = sibling_there p c.height-height.result c.self.inside.padded c.args.leaf c.height-height.ensures.value count
    c.requires c.node.ensures.right c.node.result there (c.node.ensures.value ∙ ap (known_at p) c.node_number.ensures.value) c.loop-i.i c.loop-i-test.true in
    c.in_default.not-Some t.0 (c.node-in-loop-i.ensures.value ∙ ap (known_at p) c.sibling_number.ensures.value ∙ t.1)

pub loop-i-preserved : goal.loop-i-preserved
loop-i-preserved c =
    let p = c.args.self.now in
    let count = ap (λ (s : PartialState). s.leaf_count) c.self.view_is in
    let number = sibling_is p c.height-height.result c.self.inside.padded c.args.leaf c.height-height.ensures.value count c.loop-i.i in
    let value = sym c.in-Some.is ∙ c.node-in-loop-i.ensures.value ∙ ap (known_at p) (c.sibling_number.ensures.value ∙ number) in
    siblings_more _ c.loop-i.i c.in-Some.hash c.loop-i.siblings.items _ c.loop-i.invariant (ap (λ (o : Option (List ℕ)). unwrap_or o []) value) c.in_ok-push.ensures.items

-- as many rows
same_count : (i h : ℕ) → i ≤ h → h ≤ i → i ≡ h
same_count i h low high = omega arith

-- all siblings
all_siblings : (p : PartialState) (leaf i h n : ℕ) (items : List (List ℕ))
    → items ≡ map (λ j. unwrap_or (known_at p (sibling_number (height p.leaf_count) leaf j)) []) (range_with_len 0 i)
    → i ≡ h → h ≡ height n → n ≡ p.leaf_count → items ≡ known_siblings p leaf
all_siblings p leaf i h n items held whole is count =
    held
    ∙ ap (λ (k : ℕ). map (λ j. unwrap_or (known_at p (sibling_number (height p.leaf_count) leaf j)) []) (range_with_len 0 k)) (whole ∙ is ∙ ap height count)

pub returns-clause-siblings : goal.returns-clause-siblings
returns-clause-siblings c =
    all_siblings c.args.self.now c.args.leaf c.loop-i.i c.height-height.result c.self.inside.padded c.loop-i.siblings.items c.loop-i.invariant
    (same_count c.loop-i.i c.height-height.result (omega arith) (omega arith)) c.height-height.ensures.value (ap (λ (s : PartialState). s.leaf_count) c.self.view_is)

pub returns-clause-leads : goal.returns-clause-leads
returns-clause-leads c = λ hash knows.
    let p = c.args.self.now in
    let items =
    all_siblings p c.args.leaf c.loop-i.i c.height-height.result c.self.inside.padded c.loop-i.siblings.items c.loop-i.invariant
    (same_count c.loop-i.i c.height-height.result (omega arith) (omega arith)) c.height-height.ensures.value (ap (λ (s : PartialState). s.leaf_count) c.self.view_is) in
    subst (LeadsBy p.leaf_count p.root c.args.leaf hash) (sym items) (known-lead p c.args.leaf hash c.node.ensures.right c.requires knows)
