-- Each piece that a download gave is a slice of a part of its evidence.
use Rattle.std.proofs.Common.{◌≡◌, ℕ, ◌-◌, inl, inr, Contains, List, [], ◌∷◌, map, Option, Some, subst, sym, arith}
use Rattle.std.specs.List.{range_with_len}
use Rattle.std.proofs.lemmas.List.Elements.{All-contains}
use Rattle.lemmas.proofs.Members.{contains_head, contains_tail, contains_cases, contains_none}
use Rattle.lemmas.proofs.Ranges.{range_has}
use Rattle.cap_text.specs.Cap.{verify_cap_of}
use Rattle.proved_parts.specs.declared.evidence.EvidencePart.{EvidencePart}
use Rattle.download_segments.specs.Pieces.{IsSlice}
use Rattle.download_file.specs.Answers.{IsMadeSegment}
use Rattle.download_file.specs.Right.{made_end}
use Rattle.download_file.proofs.EvidenceLemmas.{groups_within}
use Rattle.download_file.proofs.WholeLemmas.{made_once}
use Rattle.download_core.specs.Evidence.{IsEvidenceOf, ProvesMade}
use Rattle.download_core.specs.Proving.{EvidenceIsOfTheGiven}
use Rattle.download_core.specs.State.{Found}
use Rattle.download_core.proofs.HashedLemmas.{file_of, right_of}

mapped_in : {X : Type 0} (f : X → ℕ) (xs : List X) (n : ℕ) → Contains (map f xs) n → (x : X) × Contains xs x × (f x ≡ n)
mapped_in f [] n among = absurd (contains_none n among)
mapped_in f (x ∷ xs) n among = elim (contains_cases (f x) n (map f xs) among) [
  | inl is ↦ (x, contains_head x xs, is)
  | inr more ↦ let y = mapped_in f xs n more in (y.0, contains_tail x y.0 xs y.1, y.2)
]

pub evidence_is_of_the_given : EvidenceIsOfTheGiven
evidence_is_of_the_given d e p right evidence g =
    let f = g.found in
    let entries = d.requests.entries in
    let is = right_of d f g.there right in
    let made : ProvesMade (verify_cap_of d.cap) entries f.file e = subst (λ (o : Option Found). IsEvidenceOf (verify_cap_of d.cap) entries o (Some e)) g.there evidence in
    let number : ℕ = g.given.number in
    let m = g.given.made in
    let within = groups_within f.file.first (made_end f.file) f.file.groups m.group is.in_order m.among in
    let upto = within.0 in
    let begins = within.1 in
    let from = m.from in
    let before = m.before in
    let there : Contains (range_with_len f.file.first (made_end f.file - f.file.first)) number =
    range_has f.file.first (made_end f.file - f.file.first) number (omega (arith, begins, from)) (omega (arith, upto, begins, from, before)) in
    let found = mapped_in (λ (q : EvidencePart). q.number) e.parts number (subst (λ (l : List ℕ). Contains l number) (sym made.parts) there) in
    let part : EvidencePart = found.0 in
    let own : IsMadeSegment entries f.file part.number part.segment =
    All-contains (λ (q : EvidencePart). IsMadeSegment entries f.file q.number q.segment) e.parts part made.made found.1 in
    let same : g.given.segment ≡ part.segment = made_once entries f.file is number g.given.segment part.segment m (subst (λ (n : ℕ). IsMadeSegment entries f.file n part.segment) found.2 own) in
    let size : ℕ = f.file.handout.ueb.segment_size in
    record {
      contents = f.file.handout.ueb;
      proved = made.proved;
      part = part;
      among = found.1;
      slice =
          subst (λ (key : List ℕ). IsSlice key size part.number part.segment p) (file_of d f g.there right.file).key
          (subst (λ (n : ℕ). IsSlice f.file.handout.key size n part.segment p) (sym found.2)
          (subst (λ (s : List ℕ). IsSlice f.file.handout.key size number s p) same g.given.slice));
    }
