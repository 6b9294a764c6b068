-- What the hashers of whole shares were given before the shares are finished.
use Rattle.std.proofs.Common.{◌≡◌, ℕ, ◌+◌, ◌*◌, ◌<◌, List, [], ◌++◌, length, map, take, get_or, ap, sym, subst, ◌∙◌, arith, zero-add}
use Rattle.std.proofs.lemmas.List.{get_or-map, take_at, append_assoc}
use Rattle.std.proofs.lemmas.List.FromFn.{get_or-map-range_with_len}
use Rattle.lemmas.proofs.Positions.{get_of}
use Rattle.share_layout.specs.Geometry.{Geometry}
use Rattle.share_layout.specs.Layout.{offsets_of}
use Rattle.share_layout.specs.Writing.{ending}
use Rattle.tagged_hash.specs.Wholes.{AreGiven, IsGivenAt}
use Rattle.tagged_hash.specs.declared.wholes.WholeHashers.{WholeHashers}
use Rattle.file_encoding.specs.BegunFiles.{AreBegun}
use Rattle.file_encoding.specs.Blocks.{draft_of, finished}
use Rattle.file_encoding.specs.Digests.{beginning_of, begun_bytes}
use Rattle.file_encoding.specs.Drafts.{DraftState}
use Rattle.file_encoding.specs.Encoding.{share_hashes}
use Rattle.file_encoding.specs.declared.draft.Begun.{Begun}
use Rattle.file_encoding.proofs.Making.{count}

-- they were given the same under another name
pub given_same : (total n : ℕ) (written same : ℕ → List ℕ) (wholes : List WholeHashers) → n ≡ total → ((i : ℕ) → i < total → written i ≡ same i)
    → AreGiven total written wholes → AreGiven n same wholes
given_same total n written same wholes all agree held k j whole low within is =
    let inside : 7 * k + j < total = omega (arith, within, all) in
    subst (IsGivenAt whole j) (agree (7 * k + j) inside) (held k j whole low inside is)

-- the first bytes of a finished share are those of its draft
pub first_bytes : (g : Geometry) (text : List ℕ) (nodes : List (List ℕ)) (begun : List Begun) (tree : List (List ℕ)) (block : List ℕ) (i : ℕ)
    → AreBegun g text nodes g.total begun → i < g.total
    → begun_bytes begun i ≡ beginning_of (map (λ (b : Begun). finished tree block b.draft) begun) (offsets_of g).share_hashes i
first_bytes g text nodes begun tree block i are low =
    let here : i < length begun = omega (arith, low, count g text nodes begun are) in
    let d : Begun = (get_of begun i here).0 in
    let share : Begun = get_or begun i d in
    let draft : ℕ → DraftState = draft_of g text nodes in
    let own : share.draft ≡ draft i =
    sym (get_or-map (λ (b : Begun). b.draft) begun i d (draft 0) here) ∙ ap (λ (ws : List DraftState). get_or ws i (draft 0)) are.drafts
    ∙ get_or-map-range_with_len draft 0 g.total i i (draft 0) low (zero-add i) in
    let long : length share.draft.bytes ≡ (offsets_of g).share_hashes = share.next ∙ ap (λ (w : DraftState). (offsets_of w.geometry).share_hashes) own in
    get_or-map (λ (b : Begun). b.draft.bytes) begun i d [] here
    ∙ sym (take_at share.draft.bytes (share_hashes tree share.draft.number ++ ending share.draft.geometry block) (offsets_of g).share_hashes long)
    ∙ ap (take (offsets_of g).share_hashes)
    (sym (get_or-map (λ (b : Begun). finished tree block b.draft) begun i d [] here
    ∙ append_assoc share.draft.bytes (share_hashes tree share.draft.number) (ending share.draft.geometry block)))
