-- Messages that are marked as delivered.
use Rattle.std.proofs.Common.{◌≡◌, ◌↔◌, ℕ, ◌<◌, inl, inr, List, [], ◌∷◌, ◌++◌, Bool, true, false, length, sym, subst, ◌∙◌, true≢false}
use Rattle.std.specs.Prelude.{slice_set, Contains}
use Rattle.world_operations.proofs.Positions.{get_below, get_push, get_push_old, get_set, get_set_back, get_set_same, push_last}
use Rattle.std.proofs.lemmas.List.Elements.{Contains-append_left, Contains-push, Contains-push_cases}
use Rattle.world.specs.declared.event.Event.{Event}
use Rattle.world.specs.declared.event.Event.TheVariants.{Deliver}
use Rattle.world_script.specs.Plans.{AreMarked, IsMarked, IsNoted}

-- the same messages are marked
abbrev pub AreSameMarks : List Bool → List Bool → Type 0
AreSameMarks old new = (p : ℕ) → IsMarked new p ↔ IsMarked old p

-- an event that delivers a message is noted
pub marks_one : (old new : List Bool) (position : ℕ) (events : List Event) → IsNoted old position new → AreMarked old events → AreMarked new (events ++ Deliver position ∷ [])
marks_one old new position events noted marks p = (
  λ marked. elim ((noted p).0 marked) [
    | inl same ↦ subst (λ q. Contains (events ++ Deliver position ∷ []) (Deliver q)) (sym same) (Contains-push events (Deliver position))
    | inr before ↦ Contains-append_left events (Deliver position ∷ []) (Deliver p) ((marks p).0 before)
  ],
  λ found. (noted p).1 (elim (Contains-push_cases events (Deliver position) (Deliver p) found) [
    | inl before ↦ inr ((marks p).1 before)
    | inr last ↦ inl (same_position position p last)
  ]),
)
  where
    same_position : (a b : ℕ) → Deliver a ≡ Deliver b → b ≡ a
    same_position a b e = cc

-- another event delivers none
pub marks_none : (flags : List Bool) (event : Event) (events : List Event) → ((p : ℕ) → event ≡ Deliver p → ⊥) → AreMarked flags events → AreMarked flags (events ++ event ∷ [])
marks_none flags event events other marks p = (
  λ marked. Contains-append_left events (event ∷ []) (Deliver p) ((marks p).0 marked),
  λ found. elim (Contains-push_cases events event (Deliver p) found) [
    | inl before ↦ (marks p).1 before
    | inr last ↦ absurd (other p last)
  ],
)

-- ---- the marks

-- one that says no is no mark
pub no_mark : (flags : List Bool) (p : ℕ) → IsMarked (flags ++ false ∷ []) p ↔ IsMarked flags p
no_mark flags p = (
  λ marked. elim (get_push flags p true false marked) [
    | inl before ↦ before
    | inr last ↦ absurd (true≢false last.1)
  ],
  λ before. get_push_old flags p true false before,
)

-- one more mark behind the last
pub mark_last : (old flags : List Bool) (position : ℕ) → AreSameMarks old flags → length flags ≡ position → IsNoted old position (flags ++ true ∷ [])
mark_last old flags position same len p = (
  λ marked. elim (get_push flags p true true marked) [
    | inl before ↦ inr ((same p).0 before)
    | inr last ↦ inl (last.0 ∙ len)
  ],
  λ noted. elim noted [
    | inl at ↦ subst (λ (q : ℕ). IsMarked (flags ++ true ∷ []) q) (len ∙ sym at) (push_last flags true)
    | inr before ↦ get_push_old flags p true true ((same p).1 before)
  ],
)

-- a mark among them
pub mark_at : (old flags : List Bool) (position : ℕ) → AreSameMarks old flags → position < length flags → IsNoted old position (slice_set flags position true)
mark_at old flags position same low p = (
  λ marked. elim (get_set flags position p true true marked) [
    | inl at ↦ inl at.0
    | inr before ↦ inr ((same p).0 before)
  ],
  λ noted. elim noted [
    | inl at ↦ (let there = get_below flags position low in subst (λ (q : ℕ). IsMarked (slice_set flags position true) q) (sym at) (get_set_same flags position there.0 true there.1))
    | inr before ↦ elim (get_set_back flags position p true true ((same p).1 before)) [
      | inl at ↦ at.1
      | inr still ↦ still
    ]
  ],
)

pub same_marks : (old flags : List Bool) → AreSameMarks old flags → AreSameMarks old (flags ++ false ∷ [])
same_marks old flags same p = (
  λ marked. (same p).0 ((no_mark flags p).0 marked),
  λ before. (no_mark flags p).1 ((same p).1 before),
)
