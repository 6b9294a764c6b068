-- Share numbers, names of shares and held shares: what is read was written, and what was written is read.
use Rattle.std.proofs.Common.{◌≡◌, ℕ, zero, suc, ◌<◌, true, cond, ltb, List, [], ◌∷◌, ◌++◌, length, Ok, Err, refl, ap, subst, ◌∙◌, append_assoc, arith}
use Rattle.std.specs.Int.{w16, to_be_bytes}
use Rattle.std.specs.List.{flat_map, All, AllByRecursion}
use Rattle.std.proofs.lemmas.List.Elements.{All-nil, All-cons}
use Rattle.std.proofs.lemmas.Bool.{ltb-true, lt-ltb}
use Rattle.std.proofs.lemmas.List.Concat.{flat_map-cons}
use Rattle.byteorder.specs.Endian.{big_bytes}
use Rattle.wire.specs.declared.error.WireError.TheVariants.{BadFields}
use Rattle.wire.specs.declared.message.ShareId.{ShareId}
use Rattle.wire.specs.declared.message.HeldShare.{HeldShare}
use Rattle.wire.specs.Held.{IsHeldShare}
use Rattle.wire.specs.Frames.{share_id, held_share, IsShareId}
use Rattle.wire.specs.Reading.{◌>>=◌, bytes_at, share_at, share_id_at, held_share_at, shares_at}
use Rattle.wire.proofs.FieldLaws.{IsBytes, passed_ok, bind_ok, ok_is, step, Takes, Takes-then, Reads, reads_2, bytes_reads}

pub share_reads : Reads share_at (big_bytes 2) (λ x. x < 256)
unfolding share_at
share_reads = record {
  takes = λ bytes x fits e.
      let a = step reads_2 bytes (λ share. cond (ltb share.0 256) (Ok share) (Err BadFields)) x fits e in
      let g = passed_ok (ltb a.0.0 256) BadFields a.0 x a.1 in
      subst (λ (y : ℕ × List ℕ). Takes bytes (big_bytes 2 y.0) y.1 × (y.0 < 256)) g.1 (a.2, ltb-true _ _ g.0);
  again = λ x rest lt.
      let small : ltb x 256 ≡ true = lt-ltb _ _ lt in
      rw (reads_2.again x rest (omega (arith, lt)), small) refl;
}

pub share_id_reads : Reads share_id_at share_id IsShareId
unfolding share_id_at
share_id_reads = record {
  takes = λ bytes x fits e.
      let a = step (bytes_reads 16) bytes (λ index. share_at index.1 >>= λ share. Ok (record { index = index.0; share = share.0 }, share.1)) x fits e in
      let b = step share_reads a.0.1 (λ share. Ok (record { index = a.0.0; share = share.0 }, share.1)) x a.2.rest_fits a.1 in
      let made : ShareId × List ℕ = (record { index = a.0.0; share = b.0.0 }, b.0.1) in
      subst (λ (y : ShareId × List ℕ). Takes bytes (share_id y.0) y.1 × IsShareId y.0) (ok_is made x b.1) (Takes-then bytes a.0.0 a.0.1 (big_bytes 2 b.0.0) b.0.1 a.2 b.2, (a.3, b.3));
  again = λ x rest fits.
      let regrouped : share_id x ++ rest ≡ x.index ++ (to_be_bytes w16 x.share ++ rest) = append_assoc x.index (to_be_bytes w16 x.share) rest in
      ap share_id_at regrouped ∙ rw ((bytes_reads 16).again x.index (to_be_bytes w16 x.share ++ rest) fits.0, share_reads.again x.share rest fits.1) refl;
}

pub held_share_reads : Reads held_share_at held_share IsHeldShare
unfolding held_share_at
held_share_reads = record {
  takes = λ bytes x fits e.
      let a = step share_reads bytes (λ share. bytes_at 32 share.1 >>= λ digest. Ok (record { share = share.0; digest = digest.0 }, digest.1)) x fits e in
      let b = step (bytes_reads 32) a.0.1 (λ digest. Ok (record { share = a.0.0; digest = digest.0 }, digest.1)) x a.2.rest_fits a.1 in
      let made : HeldShare × List ℕ = (record { share = a.0.0; digest = b.0.0 }, b.0.1) in
      subst (λ (y : HeldShare × List ℕ). Takes bytes (held_share y.0) y.1 × IsHeldShare y.0) (ok_is made x b.1) (Takes-then bytes (big_bytes 2 a.0.0) a.0.1 b.0.0 b.0.1 a.2 b.2, (a.3, b.3));
  again = λ x rest fits.
      let regrouped : held_share x ++ rest ≡ to_be_bytes w16 x.share ++ (x.digest ++ rest) = append_assoc (to_be_bytes w16 x.share) x.digest rest in
      ap held_share_at regrouped ∙ rw (share_reads.again x.share (x.digest ++ rest) fits.0, (bytes_reads 32).again x.digest rest fits.1) refl;
}

pub shares_take : (count : ℕ) (bytes : List ℕ) (x : List HeldShare × List ℕ) → IsBytes bytes → shares_at count bytes ≡ Ok x → Takes bytes (flat_map held_share x.0) x.1 × (length x.0 ≡ count) × All IsHeldShare x.0
unfolding shares_at
shares_take zero bytes x fits e =
    subst (λ (y : List HeldShare × List ℕ). Takes bytes (flat_map held_share y.0) y.1 × (length y.0 ≡ 0) × All IsHeldShare y.0) (ok_is ([], bytes) x e) (record { parts = refl; rest_fits = fits }, refl, All-nil IsHeldShare)
shares_take (suc n) bytes x fits e =
    let a = step held_share_reads bytes (λ first. shares_at n first.1 >>= λ others. Ok (first.0 ∷ others.0, others.1)) x fits e in
    let b = bind_ok (shares_at n a.0.1) (λ others. Ok (a.0.0 ∷ others.0, others.1)) x a.1 in
    let t = shares_take n a.0.1 b.0 a.2.rest_fits b.1 in
    let both = Takes-then bytes (held_share a.0.0) a.0.1 (flat_map held_share b.0.0) b.0.1 a.2 t.0 in
    let made : List HeldShare × List ℕ = (a.0.0 ∷ b.0.0, b.0.1) in
    subst (λ (y : List HeldShare × List ℕ). Takes bytes (flat_map held_share y.0) y.1 × (length y.0 ≡ suc n) × All IsHeldShare y.0) (ok_is made x b.2)
    (rw flat_map-cons both, ap suc t.1, All-cons IsHeldShare a.0.0 b.0.0 a.3 t.2)

pub shares_again : (held : List HeldShare) (rest : List ℕ) → AllByRecursion IsHeldShare held → shares_at (length held) (flat_map held_share held ++ rest) ≡ Ok (held, rest)
unfolding shares_at
shares_again [] rest each = refl
shares_again (h ∷ hs) rest each =
    let regrouped : flat_map held_share (h ∷ hs) ++ rest ≡ held_share h ++ (flat_map held_share hs ++ rest) = ap (λ (x : List ℕ). x ++ rest) (flat_map-cons held_share h hs) ∙ append_assoc (held_share h) (flat_map held_share hs) rest in
    ap (shares_at (suc (length hs))) regrouped ∙ rw (held_share_reads.again h (flat_map held_share hs ++ rest) each.0, shares_again hs rest each.1) refl
