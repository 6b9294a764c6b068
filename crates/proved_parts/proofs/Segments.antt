-- Without a clash one segment alone has a place in a cap's file.
use Rattle.std.proofs.Common.{◌≡◌, ℕ, ◌<◌, List, [], length, Contains, refl, sym, subst, ◌∙◌, arith}
use Rattle.std.proofs.lemmas.List.{append_cancel_left}
use Rattle.tagged_hash.specs.Clash.{HasNoClash, HasNoClashIn}
use Rattle.tagged_hash.specs.Tag.{tag_text}
use Rattle.tagged_hash.specs.TaggedHash.{netstring, tagged_hash, tagged_input}
use Rattle.tagged_hash.specs.declared.tag.Tag.{Tag}
use Rattle.tagged_hash.specs.declared.tag.Tag.TheVariants.{CiphertextSegment, ExtensionBlock}
use Rattle.tagged_hash.proofs.HashLemmas.{length-double_sha256}
use Rattle.merkle.specs.Tree.{height}
use Rattle.cap_text.specs.Cap.{VerifyCapValue}
use Rattle.ueb.proofs.Refusals.{read_unique}
use Rattle.ueb.specs.Shape.{Contents}
use Rattle.ueb.specs.declared.block.Expect.{Expect}
use Rattle.share_layout.specs.Geometry.{segment_count}
use Rattle.share_verify.specs.CapBlock.{IsUebFor, geometry_by}
use Rattle.proved_parts.specs.Laws.{BlocksSayOneThing, IsPartAmong, PartsAgree}
use Rattle.merkle.specs.Inputs.{path_inputs}
use Rattle.merkle.specs.Inputs.{AreAmong, IsPathAmong}
use Rattle.merkle.proofs.InputLemmas.{member_here, member_there, paths_agree}

-- the input of some data tells the data
pub same_tagged : (tag : Tag) (a b : List ℕ) → tagged_input tag a ≡ tagged_input tag b → a ≡ b
same_tagged tag a b e = append_cancel_left (netstring (tag_text tag)) a b e

-- without a clash its hash does
pub data_agrees_in : (IsOne : List ℕ → Type 0) → HasNoClashIn IsOne → (tag : Tag) (a b : List ℕ) → IsOne (tagged_input tag a) → IsOne (tagged_input tag b)
    → tagged_hash tag a ≡ tagged_hash tag b → a ≡ b
data_agrees_in IsOne no_clash tag a b first second e = same_tagged tag a b (no_clash _ _ first second e)

pub data_agrees : (inputs : List (List ℕ)) → HasNoClash inputs → (tag : Tag) (a b : List ℕ) → Contains inputs (tagged_input tag a) → Contains inputs (tagged_input tag b)
    → tagged_hash tag a ≡ tagged_hash tag b → a ≡ b
data_agrees inputs no_clash = data_agrees_in (Contains inputs) no_clash

-- an extension block says one thing
pub one_ueb : BlocksSayOneThing
one_ueb cap block u v a b =
    let expect : Expect = record { needed = u.needed_shares; total = u.total_shares; size = u.size; in_range = a.grammar.contents.shape.file } in
    read_unique block expect u v (omega (arith, a.grammar.short)) a.grammar
    record { needed_shares = refl; total_shares = refl; size = refl } b.grammar
    record { needed_shares = b.needed ∙ sym a.needed; total_shares = b.total ∙ sym a.total; size = b.size ∙ sym a.size }

pub segment_among : (inputs : List (List ℕ)) (cap : VerifyCapValue) (block : List ℕ) (u : Contents) (number : ℕ) (segment : List ℕ) (path : List (List ℕ))
    → IsPartAmong inputs cap block u number segment path → Contains inputs (tagged_input CiphertextSegment segment)
segment_among inputs cap block u number segment path p = p.among _ (member_here _ (path_inputs (length path) number (tagged_hash CiphertextSegment segment) path))

pub path_among : (inputs : List (List ℕ)) (cap : VerifyCapValue) (block : List ℕ) (u : Contents) (number : ℕ) (segment : List ℕ) (path : List (List ℕ))
    → IsPartAmong inputs cap block u number segment path
    → IsPathAmong inputs (height (segment_count (geometry_by u))) number (tagged_hash CiphertextSegment segment) path
path_among inputs cap block u number segment path p =
    let long : length path ≡ height (segment_count (geometry_by u)) = p.part.by.path.1 in
    let hash : List ℕ = tagged_hash CiphertextSegment segment in
    record {
      hash_length = length-double_sha256 _;
      sibling_lengths = λ i low. p.part.by.hashes i [] (subst (λ (n : ℕ). i < n) (sym long) low);
      among =
          subst (λ (n : ℕ). AreAmong inputs (path_inputs n number hash path)) long
          (λ x c. p.among x (member_there (tagged_input CiphertextSegment segment) x (path_inputs (length path) number hash path) c));
    }

same_contents : (inputs : List (List ℕ)) (cap : VerifyCapValue) (first second : List ℕ) (u : Contents) (number : ℕ) (s t : List ℕ) (these those : List (List ℕ))
    → HasNoClash inputs → IsPartAmong inputs cap first u number s these → IsPartAmong inputs cap second u number t those → s ≡ t
same_contents inputs cap first second u number s t these those no_clash p q =
    let hashes = paths_agree inputs no_clash (height (segment_count (geometry_by u))) number (tagged_hash CiphertextSegment s) (tagged_hash CiphertextSegment t) these those
    (path_among inputs cap first u number s these p) (path_among inputs cap second u number t those q) (p.part.by.path.2 ∙ sym q.part.by.path.2) in
    data_agrees inputs no_clash CiphertextSegment s t (segment_among inputs cap first u number s these p) (segment_among inputs cap second u number t those q) hashes

pub parts_agree : PartsAgree
parts_agree inputs no_clash cap first second u v number s t these those p q =
    let same : first ≡ second = data_agrees inputs no_clash ExtensionBlock first second p.block q.block (p.part.block.hash ∙ sym q.part.block.hash) in
    let one : u ≡ v = one_ueb cap second u v (subst (λ (x : List ℕ). IsUebFor cap x u) same p.part.block) q.part.block in
    same_contents inputs cap first second v number s t these those no_clash
    (subst (λ (w : Contents). IsPartAmong inputs cap first w number s these) one p) q
