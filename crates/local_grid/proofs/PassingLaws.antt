-- How far bytes were carried.
use Rattle.std.proofs.Common.{◌≡◌, ℕ, List, [], ◌∷◌, ◌++◌, refl, ap, sym, subst, ◌∙◌, append_assoc, append-nil}
use Rattle.std.specs.List.{flat_map}
use Rattle.std.proofs.lemmas.List.Concat.{flat_map-append}
use Rattle.local_grid.specs.declared.link.Way.{Way}
use Rattle.local_grid.specs.Carrying.{Carries, Passes, PassesEach}
use Rattle.local_grid.specs.Ends.{EndsCalls}

abbrev firsts : List (List ℕ × List ℕ) → List ℕ
firsts = flat_map (λ (p : List ℕ × List ℕ). p.0)

abbrev seconds : List (List ℕ × List ℕ) → List ℕ
seconds = flat_map (λ (p : List ℕ × List ℕ). p.1)

-- of these bytes all but a rest was sent, and what came was added
pub record IsSent {E : Type 0} (calls : EndsCalls E) (way : Way) (first : E) (sent rest before after : List ℕ) (last : E) : Type 0 where
  pub front : List ℕ
  pub bytes : List ℕ
  pub carried : Carries calls way first front bytes last
  pub text : sent ≡ front ++ rest
  pub added : after ≡ before ++ bytes

passes_more : {E : Type 0} (calls : EndsCalls E) (way : Way) (first mid last : E) (pieces : List (List ℕ × List ℕ)) (piece bytes : List ℕ)
    → PassesEach calls way first pieces mid → Passes calls way mid piece bytes last → PassesEach calls way first (pieces ++ (piece, bytes) ∷ []) last
passes_more calls way first mid last [] piece bytes same p = (last, subst (λ x. Passes calls way x piece bytes last) same p, refl)
passes_more calls way first mid last (q ∷ pieces) piece bytes c p = (c.0, c.1, passes_more calls way c.0 mid last pieces piece bytes c.2 p)

-- one piece more
carries_more : {E : Type 0} (calls : EndsCalls E) (way : Way) (first mid last : E) (sent came piece bytes : List ℕ)
    → Carries calls way first sent came mid → Passes calls way mid piece bytes last → Carries calls way first (sent ++ piece) (came ++ bytes) last
carries_more calls way first mid last sent came piece bytes c p = record {
  pieces = c.pieces ++ (piece, bytes) ∷ [];
  passes = passes_more calls way first mid last c.pieces piece bytes c.passes p;
  sends = ap (λ (l : List ℕ). l ++ piece) c.sends ∙ ap (λ (l : List ℕ). firsts c.pieces ++ l) (sym (append-nil piece)) ∙ sym (flat_map-append (λ (p : List ℕ × List ℕ). p.0) c.pieces ((piece, bytes) ∷ []));
  comes = ap (λ (l : List ℕ). l ++ bytes) c.comes ∙ ap (λ (l : List ℕ). seconds c.pieces ++ l) (sym (append-nil bytes)) ∙ sym (flat_map-append (λ (p : List ℕ × List ℕ). p.1) c.pieces ((piece, bytes) ∷ []));
}

pub sent_none : {E : Type 0} (calls : EndsCalls E) (way : Way) (first : E) (sent before : List ℕ) → IsSent calls way first sent sent before before first
sent_none calls way first sent before = record {
  front = [];
  bytes = [];
  carried = record { pieces = []; passes = refl; sends = refl; comes = refl };
  text = refl;
  added = sym (append-nil before);
}

pub sent_more : {E : Type 0} (calls : EndsCalls E) (way : Way) (first mid last : E) (sent rest piece others before between after bytes : List ℕ)
    → IsSent calls way first sent rest before between mid → rest ≡ piece ++ others → after ≡ between ++ bytes → Passes calls way mid piece bytes last
    → IsSent calls way first sent others before after last
sent_more calls way first mid last sent rest piece others before between after bytes s cut added p = record {
  front = s.front ++ piece;
  bytes = s.bytes ++ bytes;
  carried = carries_more calls way first mid last s.front s.bytes piece bytes s.carried p;
  text = s.text ∙ ap (λ (l : List ℕ). s.front ++ l) cut ∙ sym (append_assoc s.front piece others);
  added = added ∙ ap (λ (l : List ℕ). l ++ bytes) s.added ∙ append_assoc before s.bytes bytes;
}

-- all was sent
pub sent_whole : {E : Type 0} (calls : EndsCalls E) (way : Way) (first last : E) (sent rest before after : List ℕ) → rest ≡ []
    → IsSent calls way first sent rest before after last → (bytes : List ℕ) × (after ≡ before ++ bytes) × Carries calls way first sent bytes last
sent_whole calls way first last sent rest before after none s =
    let whole : s.front ≡ sent = sym (s.text ∙ ap (λ (l : List ℕ). s.front ++ l) none ∙ append-nil s.front) in
    (s.bytes, s.added, subst (λ (l : List ℕ). Carries calls way first l s.bytes last) whole s.carried)
