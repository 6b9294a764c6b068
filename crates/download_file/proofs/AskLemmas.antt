-- Parts that are asked together, and wait.
use Rattle.std.proofs.Common.{◌≡◌, ◌↔◌, ℕ, suc, ◌+◌, ◌<◌, ◌⊎◌, inl, inr, true, false, Contains, Result, Ok, Err, OnOk, OnErr, Option, Some, None, List, [], ◌∷◌, ◌++◌, length, take, get_or, refl, sym, ap, subst, ◌∙◌, arith}
use Rattle.std.specs.Option.{SomeIff}
use Rattle.std.proofs.lemmas.List.{append_assoc, map-append, take_more, length-take-le}
use Rattle.std.proofs.lemmas.List.Elements.{All-append, All-weaker, Contains-append_cases, Contains-append_left, Contains-append_right}
use Rattle.download_parts.specs.declared.part.Part.{Part}
use Rattle.download_parts.specs.declared.part.Part.TheVariants.{CiphertextTree}
use Rattle.download_supply.specs.Asking.{AsksNow, IsAsked, IsReadOf, IsWanted, IsWantedCiphertext, OnlyAsks, parts_of}
use Rattle.download_supply.specs.Cursors.{LeadOn}
use Rattle.download_supply.specs.Supply.{SupplyState, first_of}
use Rattle.download_supply.specs.Upper.{UpperComeFirst}
use Rattle.download_supply.specs.declared.wanted.Wanted.{Wanted}
use Rattle.download_supply.proofs.CursorLemmas.{lead_different}
use Rattle.download_supply.proofs.LawLemmas.{lead_append}
use Rattle.download_supply.proofs.UpperLemmas.{upper_append}
use Rattle.download_file.specs.State.{waiting_from}
use Rattle.download_file.specs.Steps.{Asks, AsksNoTree}
use Rattle.download_file.specs.declared.reader.Waiting.{Waiting}

-- ---- parts that wait

pub waiting_from_more : (position : ℕ) (wanted : List Wanted) (w : Wanted) → waiting_from position (wanted ++ w ∷ []) ≡ waiting_from position wanted ++ record { position = position + length wanted; wanted = w } ∷ []
waiting_from_more position [] w = let e : position ≡ position + 0 = omega arith in ap (λ (n : ℕ). record { position = n; wanted = w } ∷ []) e
waiting_from_more position (v ∷ vs) w =
    ap (λ (l : List Waiting). record { position = position; wanted = v } ∷ l)
    (waiting_from_more (position + 1) vs w ∙ ap (λ (n : ℕ). waiting_from (position + 1) vs ++ record { position = n; wanted = w } ∷ []) (let e : position + 1 + length vs ≡ position + suc (length vs) = omega arith in e))

pub waits_more : (position : ℕ) (wanted : List Wanted) (i : ℕ) (d : Wanted) (old between new : List Waiting) (at : ℕ) → i < length wanted
    → between ≡ old ++ waiting_from position (take i wanted) → at ≡ position + i → new ≡ between ++ record { position = at; wanted = get_or wanted i d } ∷ []
    → new ≡ old ++ waiting_from position (take (i + 1) wanted)
waits_more position wanted i d old between new at low before there pushed =
    let w = get_or wanted i d in
    let one : List Waiting = record { position = position + i; wanted = w } ∷ [] in
    let same : waiting_from position (take (i + 1) wanted) ≡ waiting_from position (take i wanted) ++ one =
    ap (waiting_from position) (take_more wanted i d low) ∙ waiting_from_more position (take i wanted) w
    ∙ ap (λ (n : ℕ). waiting_from position (take i wanted) ++ record { position = position + n; wanted = w } ∷ []) (length-take-le i wanted (omega (arith, low))) in
    pushed ∙ (λ k. before k ++ record { position = there k; wanted = w } ∷ []) ∙ append_assoc old (waiting_from position (take i wanted)) one
    ∙ ap (λ (l : List Waiting). old ++ l) (sym same)

-- ---- parts that are asked

pub only_none : (s t : SupplyState) → t ≡ s → OnlyAsks s t
only_none s t same = subst (λ (q : SupplyState). OnlyAsks s q) (sym same) refl

pub only_two : (s m t : SupplyState) → OnlyAsks s m → OnlyAsks m t → OnlyAsks s t
only_two s m t one two = two ∙ ap (λ (q : SupplyState). record q { asked = t.asked }) one

-- what is asked first, and then more
pub asks_both : (s m t : SupplyState) (v w : List Wanted) → OnlyAsks s m → AsksNow s m v → AsksNow m t w → AsksNow s t (v ++ w)
asks_both s m t v w only one two =
    let parts : parts_of (v ++ w) ≡ parts_of v ++ parts_of w = map-append (λ (x : Wanted). x.part) v w in
    let leads : LeadOn s.asked (parts_of (v ++ w)) t.asked =
    subst (λ (l : List Part). LeadOn s.asked l t.asked) (sym parts) (lead_append s.asked m.asked t.asked (parts_of v) (parts_of w) one.in_order two.in_order) in
    let upper : UpperComeFirst s.geometry (first_of s) m.asked (parts_of w) =
    subst (λ (q : SupplyState). UpperComeFirst q.geometry (first_of q) m.asked (parts_of w)) only two.upper in
    record {
      reads = All-append (IsReadOf s) v w one.reads
          (All-weaker (IsReadOf m) (IsReadOf s) (λ x read. subst (λ (q : SupplyState). IsReadOf q x) only read) w two.reads);
      in_order = leads;
      upper = subst (λ (l : List Part). UpperComeFirst s.geometry (first_of s) s.asked l) (sym parts)
          (upper_append s.geometry (first_of s) s.asked m.asked (parts_of v) (parts_of w) one.in_order one.upper upper);
      fresh = λ part among asked. elim (Contains-append_cases (parts_of v) (parts_of w) part (subst (λ (l : List Part). Contains l part) parts among)) [
        | inl first ↦ one.fresh part first asked
        | inr second ↦ two.fresh part second ((one.asked part).1 (inl asked))
      ];
      different = lead_different s.asked (parts_of (v ++ w)) t.asked leads;
      asked = λ part. (
        (λ is. elim ((two.asked part).0 is) [
          | inl before ↦ elim ((one.asked part).0 before) [
            | inl old ↦ inl old
            | inr first ↦ inr (subst (λ (l : List Part). Contains l part) (sym parts) (Contains-append_left (parts_of v) (parts_of w) part first))
          ]
          | inr second ↦ inr (subst (λ (l : List Part). Contains l part) (sym parts) (Contains-append_right (parts_of v) (parts_of w) part second))
        ]),
        (λ is. elim is [
          | inl old ↦ (two.asked part).1 (inl ((one.asked part).1 (inl old)))
          | inr among ↦ elim (Contains-append_cases (parts_of v) (parts_of w) part (subst (λ (l : List Part). Contains l part) parts among)) [
            | inl first ↦ (two.asked part).1 (inl ((one.asked part).1 (inr first)))
            | inr second ↦ (two.asked part).1 (inr second)
          ]
        ]),
      );
    }

-- Whether a part of the plan for own parts is a piece of the ciphertext tree: it is none.
pub asks_other : (s t : SupplyState) (last : ℕ) (wanted : List Wanted) → AsksNow s t wanted
    → ((part : Part) → IsAsked t part ↔ (IsAsked s part ⊎ IsWanted s last part)) → Asks s false last wanted t
asks_other s t last wanted now exact = record {
  now = now;
  own = λ part is. (exact part).1 (inr is);
  ciphertext = λ no part is. absurd cc;
}

pub no_tree : (s t : SupplyState) (last : ℕ) → ((part : Part) → IsAsked t part ↔ (IsAsked s part ⊎ IsWanted s last part)) → AsksNoTree s t
no_tree s t last exact p asked = elim ((exact (CiphertextTree p)).0 asked) [
  | inl old ↦ old
  | inr wanted ↦ absurd wanted
]

pub asks_giver : (s m t : SupplyState) (last : ℕ) (v w : List Wanted) → OnlyAsks s m → AsksNow s m v → AsksNow m t w
    → ((part : Part) → IsAsked m part ↔ (IsAsked s part ⊎ IsWanted s last part))
    → ((part : Part) → IsAsked t part ↔ (IsAsked m part ⊎ IsWantedCiphertext m last part)) → Asks s true last (v ++ w) t
asks_giver s m t last v w only one two own tree = record {
  now = asks_both s m t v w only one two;
  own = λ part is. (tree part).1 (inl ((own part).1 (inr is)));
  ciphertext = λ yes part is. (tree part).1 (inr (subst (λ (q : SupplyState). IsWantedCiphertext q last part) (sym only) is));
}

pub no_tree_by : {X E : Type 0} (r : Result X E) (s t : SupplyState) (last : ℕ) → OnOk r ((part : Part) → IsAsked t part ↔ (IsAsked s part ⊎ IsWanted s last part))
    → OnErr r (t ≡ s) → AsksNoTree s t
no_tree_by (Ok x) s t last exact same = no_tree s t last exact
no_tree_by (Err e) s t last exact same = λ p asked. subst (λ (q : SupplyState). IsAsked q (CiphertextTree p)) same asked

pub by_iff : (o : Option ℕ) (P : Type 0) (v x : ℕ) → SomeIff o P v → o ≡ Some x → x ≡ v
by_iff None P v x iff is = absurd cc
by_iff (Some y) P v x iff is = let same : y ≡ x = cc in sym same ∙ iff.1
