-- What a batch reaches, and what a supply is asked by it.
use Rattle.std.proofs.Common.{◌≡◌, ◌⊎◌, ◌↔◌, ℕ, ◌+◌, ◌<◌, ◌≤◌, max, List, true, inl, inr, subst, sym, ◌∙◌, arith}
use Rattle.std.specs.Prelude.{Contains}
use Rattle.std.proofs.lemmas.Bool.{cases_lt}
use Rattle.share_layout.specs.Geometry.{Geometry}
use Rattle.download_parts.specs.Level.{level_count, tree_height}
use Rattle.download_parts.specs.Plan.{IsNodePiece, data_pieces}
use Rattle.download_parts.specs.declared.part.NodePiece.{NodePiece}
use Rattle.download_parts.specs.declared.part.Nodes.{Nodes}
use Rattle.download_parts.specs.declared.part.Part.{Part}
use Rattle.download_parts.specs.declared.part.Part.TheVariants.{ShareHashes, BlockTree, CiphertextTree, Data}
use Rattle.download_supply.specs.Asking.{AsksNow, IsAsked, IsWanted, IsWantedCiphertext, IsWithin, parts_of}
use Rattle.download_supply.specs.Batch.{AreRaised, IsCiphertextUpTo, IsStep}
use Rattle.download_supply.specs.Cursors.{IsPassed, cursor_at}
use Rattle.download_supply.specs.Supply.{IsPartOf, IsSupply, KnowsNodes, SupplyState}
use Rattle.download_supply.specs.declared.cursors.Cursors.{Cursors}
use Rattle.download_supply.specs.declared.wanted.Wanted.{Wanted}
use Rattle.download_supply.proofs.CursorLemmas.{lead_adds, lead_different, lead_fresh, lead_keeps, lead_only}
use Rattle.download_supply.proofs.PlanLemmas.{part_grows}

-- of a tree the pieces of the plan are passed beside those before
pub levels_exact : (g : Geometry) (a b : ℕ) (old new : List ℕ) (p : NodePiece) → AreRaised g a b (level_count (tree_height g)) old new
    → (p.index < cursor_at new p.level) ↔ ((p.index < cursor_at old p.level) ⊎ IsNodePiece g a b p)
levels_exact g a b old new p raised =
    elim (cases_lt p.level (level_count (tree_height g))) [
      | inl there ↦ let now = raised.those p.level there in (
        λ (low : p.index < cursor_at new p.level). elim (cases_lt p.index (cursor_at old p.level)) [
          | inl before ↦ inl before
          | inr behind ↦ inr (record { level = there; index = omega (arith, low, now, behind) })
        ],
        λ (either : (p.index < cursor_at old p.level) ⊎ IsNodePiece g a b p). elim either [
          | inl before ↦ omega (arith, before, now)
          | inr is ↦ let low = is.index in omega (arith, low, now)
        ],
      )
      | inr beyond ↦ let now = raised.others p.level beyond in (
        λ (low : p.index < cursor_at new p.level). inl (omega (arith, low, now)),
        λ (either : (p.index < cursor_at old p.level) ⊎ IsNodePiece g a b p). elim either [
          | inl before ↦ omega (arith, before, now)
          | inr is ↦ let low = is.level in absurd (omega (arith, low, beyond))
        ],
      )
    ]

-- nothing more of a section
stays : {A B : Type 0} → (A → B) → (B → A) → A ↔ (B ⊎ ⊥)
stays to back = (λ a. inl (to a), λ either. elim either [ inl b ↦ back b | inr none ↦ absurd none ])

-- what is asked of the supply's own plan
pub own_exact : (s : SupplyState) (last : ℕ) (c : Cursors) → IsWithin s last → c.share_hashes ≡ true
    → AreRaised s.geometry s.first (last + 1) (level_count (tree_height s.geometry)) s.asked.block_tree c.block_tree → c.ciphertext_tree ≡ s.asked.ciphertext_tree
    → c.data_piece ≡ max s.asked.data_piece (data_pieces s.geometry s.first (last + 1))
    → (part : Part) → IsPassed c part ↔ (IsPassed s.asked part ⊎ IsWanted s last part)
own_exact s last c within hashes raised same count ShareHashes = (λ _. inr (within, tt), λ _. hashes)
own_exact s last c within hashes raised same count (BlockTree p) =
    let at = levels_exact s.geometry s.first (last + 1) s.asked.block_tree c.block_tree p raised in (
      λ (low : IsPassed c (BlockTree p)). elim (at.0 low) [ inl before ↦ inl before | inr is ↦ inr (within, is) ],
      λ (either : IsPassed s.asked (BlockTree p) ⊎ IsWanted s last (BlockTree p)). elim either [
        | inl before ↦ at.1 (inl before)
        | inr is ↦ at.1 (inr is.1)
      ],
    )
own_exact s last c within hashes raised same count (CiphertextTree p) =
    stays {A = IsPassed c (CiphertextTree p)} {B = IsPassed s.asked (CiphertextTree p)}
    (subst (λ (l : List ℕ). p.index < cursor_at l p.level) same) (subst (λ (l : List ℕ). p.index < cursor_at l p.level) (sym same))
own_exact s last c within hashes raised same count (Data i) = (
  λ (low : i < c.data_piece). elim (cases_lt i s.asked.data_piece) [
    | inl before ↦ inl before
    | inr behind ↦ inr (within, omega (arith, low, count, behind))
  ],
  λ (either : (i < s.asked.data_piece) ⊎ IsWanted s last (Data i)). elim either [
    | inl before ↦ omega (arith, before, count)
    | inr is ↦ let low = is.1 in omega (arith, low, count)
  ],
)

-- and of the ciphertext tree
pub ciphertext_exact : (s : SupplyState) (last : ℕ) (c : Cursors) → s.start ≤ last → last < s.end
    → c.share_hashes ≡ s.asked.share_hashes → c.block_tree ≡ s.asked.block_tree
    → AreRaised s.geometry s.start (last + 1) (level_count (tree_height s.geometry)) s.asked.ciphertext_tree c.ciphertext_tree → c.data_piece ≡ s.asked.data_piece
    → (part : Part) → IsPassed c part ↔ (IsPassed s.asked part ⊎ IsCiphertextUpTo s last part)
ciphertext_exact s last c from before hashes same raised count ShareHashes =
    stays {A = IsPassed c ShareHashes} {B = IsPassed s.asked ShareHashes} (λ is. sym hashes ∙ is) (λ is. hashes ∙ is)
ciphertext_exact s last c from before hashes same raised count (BlockTree p) =
    stays {A = IsPassed c (BlockTree p)} {B = IsPassed s.asked (BlockTree p)}
    (subst (λ (l : List ℕ). p.index < cursor_at l p.level) same) (subst (λ (l : List ℕ). p.index < cursor_at l p.level) (sym same))
ciphertext_exact s last c from before hashes same raised count (CiphertextTree p) =
    let at = levels_exact s.geometry s.start (last + 1) s.asked.ciphertext_tree c.ciphertext_tree p raised in (
      λ (low : IsPassed c (CiphertextTree p)). elim (at.0 low) [ inl earlier ↦ inl earlier | inr is ↦ inr (from, before, is) ],
      λ (either : IsPassed s.asked (CiphertextTree p) ⊎ IsCiphertextUpTo s last (CiphertextTree p)). elim either [
        | inl earlier ↦ at.1 (inl earlier)
        | inr is ↦ at.1 (inr is.2)
      ],
    )
ciphertext_exact s last c from before hashes same raised count (Data i) =
    stays {A = IsPassed c (Data i)} {B = IsPassed s.asked (Data i)} (λ low. omega (arith, low, count)) (λ low. omega (arith, low, count))

-- beyond the segments nothing is
pub own_nothing : (s : SupplyState) (last : ℕ) → ¬ IsWithin s last → (part : Part)
    → IsPassed s.asked part ↔ (IsPassed s.asked part ⊎ IsWanted s last part)
own_nothing s last beyond ShareHashes = (inl, λ (e : IsPassed s.asked ShareHashes ⊎ IsWanted s last ShareHashes). elim e [ inl is ↦ is | inr more ↦ absurd (beyond more.0) ])
own_nothing s last beyond (BlockTree p) = (inl, λ (e : IsPassed s.asked (BlockTree p) ⊎ IsWanted s last (BlockTree p)). elim e [ inl is ↦ is | inr more ↦ absurd (beyond more.0) ])
own_nothing s last beyond (CiphertextTree p) = (inl, λ (e : IsPassed s.asked (CiphertextTree p) ⊎ ⊥). elim e [ inl is ↦ is | inr more ↦ absurd more ])
own_nothing s last beyond (Data i) = (inl, λ (e : IsPassed s.asked (Data i) ⊎ IsWanted s last (Data i)). elim e [ inl is ↦ is | inr more ↦ absurd (beyond more.0) ])

pub ciphertext_nothing : (s : SupplyState) (last : ℕ) → (s.start ≤ last → last < s.end → ⊥) → (part : Part)
    → IsPassed s.asked part ↔ (IsPassed s.asked part ⊎ IsCiphertextUpTo s last part)
ciphertext_nothing s last beyond ShareHashes = (inl, λ (e : IsPassed s.asked ShareHashes ⊎ ⊥). elim e [ inl is ↦ is | inr more ↦ absurd more ])
ciphertext_nothing s last beyond (BlockTree p) = (inl, λ (e : IsPassed s.asked (BlockTree p) ⊎ ⊥). elim e [ inl is ↦ is | inr more ↦ absurd more ])
ciphertext_nothing s last beyond (CiphertextTree p) = (inl, λ (e : IsPassed s.asked (CiphertextTree p) ⊎ IsCiphertextUpTo s last (CiphertextTree p)). elim e [ inl is ↦ is | inr more ↦ absurd (beyond more.0 more.1) ])
ciphertext_nothing s last beyond (Data i) = (inl, λ (e : IsPassed s.asked (Data i) ⊎ ⊥). elim e [ inl is ↦ is | inr more ↦ absurd more ])

-- from what is passed to what is asked
module _ (s : SupplyState) (is : IsSupply s) (c : Cursors) where
  abbrev pub now : SupplyState
  now = record s { asked = c }

  pub asked_passed : (part : Part) → IsAsked s part → IsPassed s.asked part
  asked_passed ShareHashes asked = asked
  asked_passed (BlockTree p) asked = asked
  asked_passed (CiphertextTree p) asked = asked.1
  asked_passed (Data i) asked = asked

  -- what is left out of the ciphertext tree was passed
  behind_given : (p : NodePiece) → ¬ IsPassed s.asked (CiphertextTree p) → cursor_at s.given p.level ≤ p.index
  behind_given p not =
      elim (cases_lt p.index (cursor_at s.given p.level)) [
        | inl low ↦ let given = is.given p.level in absurd (not (is.in_order (CiphertextTree p) (omega (arith, low, given))))
        | inr high ↦ high
      ]

  module _ (wanted : List Wanted) (step : IsStep s c wanted) where
    asked_more : (part : Part) → IsAsked now part ↔ (IsAsked s part ⊎ Contains (parts_of wanted) part)
    asked_more ShareHashes = (
      lead_only s.asked (parts_of wanted) c ShareHashes step.in_order,
      λ (e : IsAsked s ShareHashes ⊎ Contains (parts_of wanted) ShareHashes). elim e [
        | inl before ↦ lead_keeps s.asked (parts_of wanted) c ShareHashes step.in_order before
        | inr has ↦ lead_adds s.asked (parts_of wanted) c ShareHashes step.in_order has
      ],
    )
    asked_more (BlockTree p) = (
      lead_only s.asked (parts_of wanted) c (BlockTree p) step.in_order,
      λ (e : IsAsked s (BlockTree p) ⊎ Contains (parts_of wanted) (BlockTree p)). elim e [
        | inl before ↦ lead_keeps s.asked (parts_of wanted) c (BlockTree p) step.in_order before
        | inr has ↦ lead_adds s.asked (parts_of wanted) c (BlockTree p) step.in_order has
      ],
    )
    asked_more (CiphertextTree p) = (
      λ (asked : IsAsked now (CiphertextTree p)). elim (lead_only s.asked (parts_of wanted) c (CiphertextTree p) step.in_order asked.1) [
        | inl before ↦ inl (asked.0, before)
        | inr has ↦ inr has
      ],
      λ (e : IsAsked s (CiphertextTree p) ⊎ Contains (parts_of wanted) (CiphertextTree p)). elim e [
        | inl before ↦ (before.0, lead_keeps s.asked (parts_of wanted) c (CiphertextTree p) step.in_order before.1)
        | inr has ↦ (
          behind_given p (lead_fresh s.asked (parts_of wanted) c (CiphertextTree p) step.in_order has),
          lead_adds s.asked (parts_of wanted) c (CiphertextTree p) step.in_order has,
        )
      ],
    )
    asked_more (Data i) = (
      lead_only s.asked (parts_of wanted) c (Data i) step.in_order,
      λ (e : IsAsked s (Data i) ⊎ Contains (parts_of wanted) (Data i)). elim e [
        | inl before ↦ lead_keeps s.asked (parts_of wanted) c (Data i) step.in_order before
        | inr has ↦ lead_adds s.asked (parts_of wanted) c (Data i) step.in_order has
      ],
    )

    pub asks_now : AsksNow s now wanted
    asks_now = record {
      reads = step.reads;
      in_order = step.in_order;
      upper = step.upper;
      fresh = λ part has asked. lead_fresh s.asked (parts_of wanted) c part step.in_order has (asked_passed part asked);
      different = lead_different s.asked (parts_of wanted) c step.in_order;
      asked = asked_more;
    }

    -- the supply that is left
    of_now : (part : Part) → (IsPassed c part → IsPartOf s part) → IsPassed c part → IsPartOf now part
    of_now ShareHashes to passes = to passes
    of_now (BlockTree p) to passes = to passes
    of_now (CiphertextTree p) to passes = to passes
    of_now (Data i) to passes = to passes

    knows_still : {n : Nodes} → KnowsNodes s n → KnowsNodes now n
    knows_still knows = record { tree = knows.tree; is = knows.is; known = knows.known }

    pub still_supply : ((part : Part) → IsPassed c part → IsPartOf s part) → IsSupply now
    still_supply parts = record {
      range = is.range;
      begins = is.begins;
      asked_levels = step.levels;
      taken_levels = is.taken_levels;
      parts = λ part. of_now part (parts part);
      in_order = λ part taken. lead_keeps s.asked (parts_of wanted) c part step.in_order (is.in_order part taken);
      given = is.given;
      tree = is.tree;
      leads = is.leads;
      knows = λ piece taken. knows_still (is.knows piece taken);
      held = is.held;
    }

  -- what the supply is asked of its own plan, in its words
  module _ (last : ℕ) (exact : (part : Part) → IsPassed c part ↔ (IsPassed s.asked part ⊎ IsWanted s last part)) where
    pub own_asked : (part : Part) → IsAsked now part ↔ (IsAsked s part ⊎ IsWanted s last part)
    own_asked ShareHashes = exact ShareHashes
    own_asked (BlockTree p) = exact (BlockTree p)
    own_asked (CiphertextTree p) = (
      λ (asked : IsAsked now (CiphertextTree p)). elim ((exact (CiphertextTree p)).0 asked.1) [ inl before ↦ inl (asked.0, before) | inr none ↦ absurd none ],
      λ (e : IsAsked s (CiphertextTree p) ⊎ ⊥). elim e [ inl before ↦ (before.0, (exact (CiphertextTree p)).1 (inl before.1)) | inr none ↦ absurd none ],
    )
    own_asked (Data i) = exact (Data i)

    wanted_part : (part : Part) → IsWanted s last part → IsPartOf s part
    wanted_part ShareHashes wants = tt
    wanted_part (BlockTree p) wants = let within = wants.0.before in part_grows s.geometry s.first (last + 1) s.end (BlockTree p) (omega (arith, within)) wants.1
    wanted_part (CiphertextTree p) wants = absurd wants
    wanted_part (Data i) wants = let within = wants.0.before in part_grows s.geometry s.first (last + 1) s.end (Data i) (omega (arith, within)) wants.1

    pub own_parts : (part : Part) → IsPassed c part → IsPartOf s part
    own_parts part passes = elim ((exact part).0 passes) [ inl before ↦ is.parts part before | inr wants ↦ wanted_part part wants ]

  -- and of the ciphertext tree
  module _ (last : ℕ) (exact : (part : Part) → IsPassed c part ↔ (IsPassed s.asked part ⊎ IsCiphertextUpTo s last part)) where
    pub ciphertext_asked : (part : Part) → IsAsked now part ↔ (IsAsked s part ⊎ IsWantedCiphertext s last part)
    ciphertext_asked ShareHashes = exact ShareHashes
    ciphertext_asked (BlockTree p) = exact (BlockTree p)
    ciphertext_asked (CiphertextTree p) = (
      λ (asked : IsAsked now (CiphertextTree p)). elim ((exact (CiphertextTree p)).0 asked.1) [
        | inl before ↦ inl (asked.0, before)
        | inr wants ↦ inr (wants.0, wants.1, asked.0, wants.2)
      ],
      λ (e : IsAsked s (CiphertextTree p) ⊎ IsWantedCiphertext s last (CiphertextTree p)). elim e [
        | inl before ↦ (before.0, (exact (CiphertextTree p)).1 (inl before.1))
        | inr wants ↦ (wants.2, (exact (CiphertextTree p)).1 (inr (wants.0, wants.1, wants.3)))
      ],
    )
    ciphertext_asked (Data i) = exact (Data i)

    ciphertext_part : (part : Part) → IsCiphertextUpTo s last part → IsPartOf s part
    ciphertext_part ShareHashes wants = absurd wants
    ciphertext_part (BlockTree p) wants = absurd wants
    ciphertext_part (CiphertextTree p) wants = let within = wants.1 in part_grows s.geometry s.start (last + 1) s.end (CiphertextTree p) (omega (arith, within)) wants.2
    ciphertext_part (Data i) wants = absurd wants

    pub ciphertext_parts : (part : Part) → IsPassed c part → IsPartOf s part
    ciphertext_parts part passes = elim ((exact part).0 passes) [ inl before ↦ is.parts part before | inr wants ↦ ciphertext_part part wants ]
