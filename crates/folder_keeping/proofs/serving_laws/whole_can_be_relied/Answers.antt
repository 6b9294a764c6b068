use Rattle.std.proofs.Common.{◌≡◌, ◌≤◌, ◌<◌, ◌+◌, List, ◌++◌, ℕ, true, false, length, refl, sym, ◌∙◌, subst, arith}
use Rattle.std.specs.Prelude.{bytes_eq, codes, decimal}
use Rattle.std.proofs.lemmas.Fmt.{length-decimal-le}
use Rattle.std.proofs.lemmas.List.{append_assoc, length-append}
use Rattle.std.proofs.lemmas.Slice.Eq.{bytes_eq-Decides}
use Rattle.cap_text.specs.Base32.{base32}
use Rattle.disks.specs.Names.{Name, Relied}
use Rattle.tagged_hash.specs.TaggedHash.{share_digest}
use Rattle.share_store.specs.Shelf.{ShareKey}
use Rattle.share_folders.specs.Names.{IsNamed, closed_name}
use Rattle.share_folders.proofs.Lasting.{no_late_dot}
use Rattle.share_folders.proofs.NameLaws.{letters_16, letters_32}
use Rattle.share_folders.proofs.Taking.{same_share_digest}
use Rattle.folder_keeping.proofs.DigestBytes.{digest_is_bytes}
use Rattle.folder_keeping.proofs.serving_laws.whole_can_be_relied.Goals as goal

-- the closed name with the bytes' own digest
abbrev whole_under : ShareKey → Relied
whole_under key name bytes = bytes_eq name (closed_name key (share_digest bytes))

-- a closed name has 80 letters, and one to three for the number
closed_length : (key : ShareKey) (digest : List ℕ) → IsNamed key digest → length (closed_name key digest) ≡ length (decimal key.1) + 80
closed_length key digest named =
    let a = length-append (base32 key.0 ++ codes "." ++ decimal key.1 ++ codes ".") (base32 digest) in
    let b = length-append (base32 key.0 ++ codes "." ++ decimal key.1) (codes ".") in
    let c = length-append (base32 key.0 ++ codes ".") (decimal key.1) in
    let d = length-append (base32 key.0) (codes ".") in
    omega (arith, a, b, c, d, letters_16 key.0 named.0.len, letters_32 digest named.2.len)

no_more : (key other : ShareKey) (digest e end : List ℕ) → IsNamed key digest → IsNamed other e → closed_name other e ++ codes "." ++ end ≡ closed_name key digest → length end < 52
no_more key other digest e end named valid same =
    let whole = closed_length key digest named in
    let front = closed_length other e valid in
    let few : length (decimal key.1) ≤ 3 = length-decimal-le 3 key.1 (omega arith) (omega (arith, named.1)) (omega (arith, named.1)) in
    let a = length-append (closed_name other e ++ codes ".") end in
    let b = length-append (closed_name other e) (codes ".") in
    let both = subst (λ (n : Name). length (closed_name other e ++ codes "." ++ end) ≡ length n) same refl in
    omega (arith, whole, front, few, a, b, both)

differs : (name other : Name) → (name ≡ other → ⊥) → bytes_eq name other ≡ false
differs name other apart =
    elim (bytes_eq name other) as (λ b. bytes_eq name other ≡ b → b ≡ false) [
      | true ↦ λ e. absurd (apart ((bytes_eq-Decides name other).0 e))
      | false ↦ λ e. refl
    ] refl

pub returns : goal.returns
returns c = λ key valid. (
  whole_under key,
  λ other digest bytes named.
      let own : IsNamed key (share_digest bytes) = (valid.0, valid.1, digest_is_bytes c.hashes_have_32_bytes.ensures bytes) in (
        λ is. sym (same_share_digest other key digest (share_digest bytes) named own ((bytes_eq-Decides (closed_name other digest) (closed_name key (share_digest bytes))).0 is)),
        λ end. differs (closed_name other digest ++ codes "." ++ end) (closed_name key (share_digest bytes)) (λ same.
            no_late_dot key (share_digest bytes) (closed_name other digest) end own.2.len (sym same ∙ append_assoc (closed_name other digest) (codes ".") end)
            (no_more key other (share_digest bytes) digest end own named same)),
      ),
  λ digest bytes same.
      subst (λ (d : List ℕ). bytes_eq (closed_name key d) (closed_name key (share_digest bytes)) ≡ true) same
      ((bytes_eq-Decides (closed_name key (share_digest bytes)) (closed_name key (share_digest bytes))).1 refl),
)
