-- Cursors, one part further at a time.
use Rattle.std.proofs.Common.{◌≡◌, ◌≢◌, ◌⊎◌, ◌↔◌, ℕ, zero, suc, ◌+◌, ◌<◌, List, [], ◌∷◌, ◌++◌, inl, inr, ap, refl, subst, sym, ◌∙◌, arith}
use Rattle.std.specs.Prelude.{AllPairs, Contains}
use Rattle.std.proofs.lemmas.Bool.{cases_order, false≢true}
use Rattle.std.proofs.lemmas.Grind.{get_or-set_at}
use Rattle.std.proofs.lemmas.List.{get_or-set_other}
use Rattle.std.proofs.lemmas.List.Elements.{Contains-get_or}
use Rattle.lemmas.proofs.Members.{contains_cases, contains_head, contains_tail}
use Rattle.download_parts.specs.declared.part.NodePiece.{NodePiece}
use Rattle.download_parts.specs.declared.part.Part.{Part}
use Rattle.download_parts.specs.declared.part.Part.TheVariants.{ShareHashes, BlockTree, CiphertextTree, Data}
use Rattle.download_supply.specs.Cursors.{IsNext, IsNextPiece, IsPassed, LeadOn, cursor_at, passed, piece_passed}
use Rattle.download_supply.specs.declared.cursors.Cursors.{Cursors}

-- a piece is passed where it was, or where it is the one that is passed now
pub piece_next : (levels : List ℕ) (p q : NodePiece) → IsNextPiece levels p
    → (q.index < cursor_at (piece_passed levels p) q.level) ↔ ((q.index < cursor_at levels q.level) ⊎ (p ≡ q))
piece_next levels p q next =
    let there = next.level in
    let is = next.index in
    elim (cases_order p.level q.level) [
      | inl same ↦
          let now : cursor_at (piece_passed levels p) q.level ≡ p.index + 1 = get_or-set_at levels p.level q.level (p.index + 1) 0 (sym same) there in
          let before : cursor_at levels q.level ≡ p.index = ap (λ l. cursor_at levels l) (sym same) ∙ sym is in (
            λ (low : q.index < cursor_at (piece_passed levels p) q.level). elim (cases_order p.index q.index) [
              | inl one ↦ inr (λ i. record { level = same i; index = one i })
              | inr other ↦ elim other [
                | inl less ↦ absurd (omega (arith, low, now, less))
                | inr more ↦ inl (omega (arith, before, more))
              ]
            ],
            λ (either : (q.index < cursor_at levels q.level) ⊎ (p ≡ q)). elim either [
              | inl low ↦ omega (arith, low, before, now)
              | inr one ↦ let e : p.index ≡ q.index = ap (λ (n : NodePiece). n.index) one in omega (arith, e, now)
            ],
          )
      | inr other ↦
          let apart : q.level ≢ p.level = λ e. elim other [ inl less ↦ omega (arith, less, e) | inr more ↦ omega (arith, more, e) ] in
          let now : cursor_at (piece_passed levels p) q.level ≡ cursor_at levels q.level = get_or-set_other levels p.level q.level (p.index + 1) 0 apart in (
            λ (low : q.index < cursor_at (piece_passed levels p) q.level). inl (omega (arith, low, now)),
            λ (either : (q.index < cursor_at levels q.level) ⊎ (p ≡ q)). elim either [
              | inl low ↦ omega (arith, low, now)
              | inr one ↦ absurd (apart (ap (λ (n : NodePiece). n.level) (sym one)))
            ],
          )
    ]

-- a fact about one part of a tree, as one about its piece
to_piece : {A : Type 0} (f : NodePiece → Part) → ((p q : NodePiece) → f p ≡ f q → p ≡ q) → (p q : NodePiece) → A ⊎ (f p ≡ f q) → A ⊎ (p ≡ q)
to_piece f one p q (inl a) = inl a
to_piece f one p q (inr e) = inr (one p q e)

same_block : (p q : NodePiece) → BlockTree p ≡ BlockTree q → p ≡ q
same_block p q e = cc

same_ciphertext : (p q : NodePiece) → CiphertextTree p ≡ CiphertextTree q → p ≡ q
same_ciphertext p q e = cc

-- a part of another section
other : (A : Type 0) (p q : Part) → p ≢ q → A ↔ (A ⊎ (p ≡ q))
other A p q apart = (inl, λ (either : A ⊎ (p ≡ q)). elim either [ inl a ↦ a | inr e ↦ absurd (apart e) ])

-- a part is passed where it was, or where it is the one that is passed now
pub part_next : (c : Cursors) (p q : Part) → IsNext c p → IsPassed (passed c p) q ↔ (IsPassed c q ⊎ (p ≡ q))
part_next c ShareHashes ShareHashes next = (λ _. inr refl, λ _. refl)
part_next c ShareHashes (BlockTree q) next = other _ ShareHashes (BlockTree q) (λ e. cc)
part_next c ShareHashes (CiphertextTree q) next = other _ ShareHashes (CiphertextTree q) (λ e. cc)
part_next c ShareHashes (Data j) next = other _ ShareHashes (Data j) (λ e. cc)
part_next c (BlockTree p) ShareHashes next = other _ (BlockTree p) ShareHashes (λ e. cc)
part_next c (BlockTree p) (BlockTree q) next =
    let at = piece_next c.block_tree p q next.1 in (
      λ (low : IsPassed (passed c (BlockTree p)) (BlockTree q)). elim (at.0 low) [ inl a ↦ inl a | inr e ↦ inr (ap BlockTree e) ],
      λ (either : IsPassed c (BlockTree q) ⊎ (BlockTree p ≡ BlockTree q)). at.1 (to_piece BlockTree same_block p q either),
    )
part_next c (BlockTree p) (CiphertextTree q) next = other _ (BlockTree p) (CiphertextTree q) (λ e. cc)
part_next c (BlockTree p) (Data j) next = other _ (BlockTree p) (Data j) (λ e. cc)
part_next c (CiphertextTree p) ShareHashes next = other _ (CiphertextTree p) ShareHashes (λ e. cc)
part_next c (CiphertextTree p) (BlockTree q) next = other _ (CiphertextTree p) (BlockTree q) (λ e. cc)
part_next c (CiphertextTree p) (CiphertextTree q) next =
    let at = piece_next c.ciphertext_tree p q next in (
      λ (low : IsPassed (passed c (CiphertextTree p)) (CiphertextTree q)). elim (at.0 low) [ inl a ↦ inl a | inr e ↦ inr (ap CiphertextTree e) ],
      λ (either : IsPassed c (CiphertextTree q) ⊎ (CiphertextTree p ≡ CiphertextTree q)). at.1 (to_piece CiphertextTree same_ciphertext p q either),
    )
part_next c (CiphertextTree p) (Data j) next = other _ (CiphertextTree p) (Data j) (λ e. cc)
part_next c (Data i) ShareHashes next = other _ (Data i) ShareHashes (λ e. cc)
part_next c (Data i) (BlockTree q) next = other _ (Data i) (BlockTree q) (λ e. cc)
part_next c (Data i) (CiphertextTree q) next = other _ (Data i) (CiphertextTree q) (λ e. cc)
part_next c (Data i) (Data j) next = (
  λ (low : j < i + 1). elim (cases_order i j) [
    | inl same ↦ inr (ap Data same)
    | inr apart ↦ elim apart [ inl less ↦ absurd (omega (arith, low, less)) | inr more ↦ inl (omega (arith, more, next)) ]
  ],
  λ (either : (j < c.data_piece) ⊎ (Data i ≡ Data j)). elim either [
    | inl low ↦ omega (arith, low, next)
    | inr e ↦ let same : i ≡ j = cc in omega (arith, same)
  ],
)

-- the part that is passed next was not passed
pub next_fresh : (c : Cursors) (p : Part) → IsNext c p → ¬ IsPassed c p
next_fresh c ShareHashes next is = false≢true (sym next ∙ is)
next_fresh c (BlockTree p) next is = let at = next.1.index in omega (arith, is, at)
next_fresh c (CiphertextTree p) next is = let at = next.index in omega (arith, is, at)
next_fresh c (Data i) next is = omega (arith, next, is)

-- one more part
pub lead_push : (from : Cursors) (parts : List Part) (to : Cursors) (part : Part) → LeadOn from parts to → IsNext to part
    → LeadOn from (parts ++ part ∷ []) (passed to part)
lead_push from [] to part leads next = (subst (λ (c : Cursors). IsNext c part) (sym leads) next, ap (λ (c : Cursors). passed c part) leads)
lead_push from (p ∷ ps) to part leads next = (leads.0, lead_push (passed from p) ps to part leads.1 next)

-- what parts that lead on leave passed
pub lead_keeps : (from : Cursors) (parts : List Part) (to : Cursors) (q : Part) → LeadOn from parts to → IsPassed from q → IsPassed to q
lead_keeps from [] to q leads is = subst (λ (c : Cursors). IsPassed c q) leads is
lead_keeps from (p ∷ ps) to q leads is = lead_keeps (passed from p) ps to q leads.1 ((part_next from p q leads.0).1 (inl is))

pub lead_adds : (from : Cursors) (parts : List Part) (to : Cursors) (q : Part) → LeadOn from parts to → Contains parts q → IsPassed to q
lead_adds from [] to q leads has = let low = has.1 in absurd (omega (arith, low))
lead_adds from (p ∷ ps) to q leads has =
    elim (contains_cases p q ps has) [
      | inl one ↦ lead_keeps (passed from p) ps to q leads.1 ((part_next from p q leads.0).1 (inr one))
      | inr later ↦ lead_adds (passed from p) ps to q leads.1 later
    ]

pub lead_fresh : (from : Cursors) (parts : List Part) (to : Cursors) (q : Part) → LeadOn from parts to → Contains parts q → ¬ IsPassed from q
lead_fresh from [] to q leads has is = let low = has.1 in omega (arith, low)
lead_fresh from (p ∷ ps) to q leads has is =
    elim (contains_cases p q ps has) [
      | inl one ↦ next_fresh from p leads.0 (subst (λ (r : Part). IsPassed from r) (sym one) is)
      | inr later ↦ lead_fresh (passed from p) ps to q leads.1 later ((part_next from p q leads.0).1 (inl is))
    ]

pub lead_only : (from : Cursors) (parts : List Part) (to : Cursors) (q : Part) → LeadOn from parts to → IsPassed to q → IsPassed from q ⊎ Contains parts q
lead_only from [] to q leads is = inl (subst (λ (c : Cursors). IsPassed c q) (sym leads) is)
lead_only from (p ∷ ps) to q leads is =
    elim (lead_only (passed from p) ps to q leads.1 is) [
      | inl before ↦ elim ((part_next from p q leads.0).0 before) [
        | inl first ↦ inl first
        | inr one ↦ inr (subst (λ (r : Part). Contains (p ∷ ps) r) one (contains_head p ps))
      ]
      | inr later ↦ inr (contains_tail p q ps later)
    ]

pub lead_different : (from : Cursors) (parts : List Part) (to : Cursors) → LeadOn from parts to → AllPairs (λ part other. part ≢ other) parts
lead_different from [] to leads i j d less low = absurd (omega (arith, low))
lead_different from (p ∷ ps) to leads zero zero d less low = absurd (omega (arith, less))
lead_different from (p ∷ ps) to leads zero (suc j) d less low =
    λ same. lead_fresh (passed from p) ps to p leads.1
    (subst (λ (q : Part). Contains ps q) (sym same) (Contains-get_or ps j d (omega (arith, low))))
    ((part_next from p p leads.0).1 (inr refl))
lead_different from (p ∷ ps) to leads (suc i) zero d less low = absurd (omega (arith, less))
lead_different from (p ∷ ps) to leads (suc i) (suc j) d less low = lead_different (passed from p) ps to leads.1 i j d (omega (arith, less)) (omega (arith, low))
