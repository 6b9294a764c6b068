-- Where as many numbers pass as are needed, shares are not lacking.
use Rattle.std.proofs.Common.{◌≡◌, ℕ, ◌<◌, List, [], length, get_or, All, inl, inr, subst, sym, ◌∙◌, arith}
use Rattle.std.proofs.lemmas.List.{get_or_default, get_or-take, length-map, length-take-le}
use Rattle.std.specs.Prelude.{take}
use Rattle.share_verify.specs.Verify.{IsSoundShare}
use Rattle.file_encoding.specs.Reading.{IsAmong, TakenShare, numbers_of}
use Rattle.file_encoding.proofs.LowestShares.{rising_distinct}
use Rattle.file_encoding.proofs.Pigeonhole.{no_more}
use Rattle.file_encoding.specs.RemadeLaws.{EnoughPass, FewLack}

pub enough_pass : EnoughPass
enough_pass cap numbers strings pass lacks =
    let each : All (λ n. IsAmong n (numbers_of lacks.taken)) pass.some =
    (λ k d inside.
    let n : ℕ = get_or pass.some k d in
    let found = pass.pass k d inside in
    let sound = found.2.1 in
    let number : n < sound.0.total_shares = sound.2.reads.layout.number in
    elim (lacks.lowest.others n (omega (arith, number, sound.2.reads.ueb.total))) [
      | inl among ↦ among
      | inr (inl none) ↦ absurd (none found.0 found.1 found.2)
      | inr (inr full) ↦ absurd (let few = lacks.few in omega (arith, few, full.0))
    ]) in
    let most = no_more pass.some (numbers_of lacks.taken) pass.distinct each in
    let all : length (numbers_of lacks.taken) ≡ length lacks.taken = length-map lacks.taken (λ (t : TakenShare). t.number) in
    omega (arith, most, all, pass.counted, lacks.few)

pub few_lack : FewLack
few_lack cap numbers strings pass many =
    let some : List ℕ = take cap.needed numbers in
    let counted : length some ≡ cap.needed = length-take-le cap.needed numbers many in
    let at : (i : ℕ) → i < cap.needed → get_or some i 0 ≡ get_or numbers i 0 = λ i low. get_or-take cap.needed numbers i 0 low in
    enough_pass cap numbers strings record {
      some = some;
      counted = counted;
      distinct = λ i j low high e.
          let a : i < cap.needed = omega (arith, low, counted) in
          let b : j < cap.needed = omega (arith, high, counted) in
          rising_distinct numbers pass.rising i j (omega (arith, a, many)) (omega (arith, b, many)) (sym (at i a) ∙ e ∙ at j b);
      pass = λ k d inside.
          let low : k < cap.needed = omega (arith, inside, counted) in
          let is : get_or numbers k 0 ≡ get_or some k d = sym (at k low) ∙ sym (get_or_default some k d 0 inside) in
          let there : k < length numbers = omega (arith, low, many) in
          (k, there, (is, subst (λ n. IsSoundShare cap n (get_or strings k [])) is (pass.sound k there)));
    }
