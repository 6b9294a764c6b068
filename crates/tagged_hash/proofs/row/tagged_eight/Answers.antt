use Rattle.std.proofs.Common.{◌<◌, ◌++◌, ℕ, List, length, map, lit<, ap, sym, subst, ◌∙◌, arith}
use Rattle.std.specs.Fmt.{digits}
use Rattle.std.proofs.Common.{Bor}
use Rattle.sha2.specs.Sha256.{sha256}
use Rattle.tagged_hash.specs.Tag.{tag_text}
use Rattle.tagged_hash.specs.TaggedHash.{double_sha256, netstring}
use Rattle.tagged_hash.specs.declared.tag.Tag.{Tag}
use Rattle.tagged_hash.specs.declared.tag.Tag.TheVariants.{StorageIndex, Block, ExtensionBlock}
use Rattle.tagged_hash.specs.declared.tag.Tag.TheVariants.{Ciphertext, CiphertextSegment}
use Rattle.tagged_hash.specs.declared.tag.Tag.TheVariants.{TreeNode, EmptyLeaf, WholeShare}
use Rattle.tagged_hash.proofs.row.tagged_eight.Goals as goal

netstring_short : (tag : Tag) → length (netstring (tag_text tag)) < 64
unfolding tag_text digits
netstring_short StorageIndex = lit< tt
netstring_short Block = lit< tt
netstring_short ExtensionBlock = lit< tt
netstring_short Ciphertext = lit< tt
netstring_short CiphertextSegment = lit< tt
netstring_short TreeNode = lit< tt
netstring_short EmptyLeaf = lit< tt
netstring_short WholeShare = lit< tt

pub double_sha256_of_eight-requires-clause-prefix :
    goal.double_sha256_of_eight-requires-clause-prefix
double_sha256_of_eight-requires-clause-prefix c =
    let short : length c.netstring.result.now < 64 =
    subst (λ (t : List ℕ). length t < 64) (sym c.netstring.ensures) (netstring_short c.args.tag) in
    omega arith

pub returns : goal.returns
unfolding double_sha256
returns c =
    c.double_sha256_of_eight.ensures
    ∙ ap (λ (p : List ℕ). map (λ (m : Bor (List ℕ)). sha256 (sha256 (p ++ m.now))) c.args.messages.now) c.netstring.ensures
