use Rattle.std.proofs.Common.{◌≡◌, ◌+◌, ◌-◌, ◌*◌, ◌/◌, ◌%◌, ◌^◌, ℕ, List, [], ◌∷◌, length, get_or, sym, ap, ◌∙◌, arith, inl, inr}
use Rattle.std.specs.Int.{to_be_bytes, w64}
use Rattle.std.proofs.lemmas.Bool.{cases_lt}
use Rattle.std.proofs.lemmas.Simd.{get_or-replicate}
use Rattle.sha2_lanes.proofs.Padding.{byte_length, byte_mark, byte_prefix, byte_text, byte_zero}
use Rattle.sha2_lanes.proofs.message.padded_block.Goals as goal

pub returns : goal.returns
returns c i below =
    let p : List ℕ = c.args.prefix.now in
    let t : List ℕ = c.args.message.now in
    let q : ℕ = c.args.start + i in
    let total : ℕ = length p + length t in
    let end : ℕ = (total + 72) / 64 * 64 in
    elim (cases_lt q (length p)) [
      | inl lt ↦
          let at : q - 0 ≡ q = omega arith in
          c.put-4.ensures.before i below (omega arith) ∙ c.put-3.ensures.before i below (omega arith)
          ∙ c.put-2.ensures.before i below (omega arith) ∙ c.put.ensures.inside i below (omega arith) (omega arith)
          ∙ ap (λ (k : ℕ). get_or p k 0) at ∙ sym (byte_prefix p t q lt)
      | inr ge ↦ elim (cases_lt q total) [
        | inl lt ↦
            c.put-4.ensures.before i below (omega arith) ∙ c.put-3.ensures.before i below (omega arith)
            ∙ c.put-2.ensures.inside i below (omega arith) (omega arith) ∙ sym (byte_text p t q (omega arith) (omega arith))
        | inr past ↦ elim (cases_lt q (total + 1)) [
          | inl lt ↦
              let first : q - total ≡ 0 = omega arith in
              c.put-4.ensures.before i below (omega arith) ∙ c.put-3.ensures.inside i below (omega arith) (omega arith)
              ∙ ap (λ (k : ℕ). get_or (0x80 ∷ []) k 0) first ∙ sym (byte_mark p t q (omega arith))
          | inr behind ↦ elim (cases_lt (q + 8) end) [
            | inl lt ↦
                c.put-4.ensures.before i below (omega arith) ∙ c.put-3.ensures.behind i below (omega arith)
                ∙ c.put-2.ensures.behind i below (omega arith) ∙ c.put.ensures.behind i below (omega arith)
                ∙ get_or-replicate 64 i 0 0 below ∙ sym (byte_zero p t q (omega arith) (omega arith))
            | inr last ↦
                let offset : q - (end - 8) ≡ q + 8 - end = omega arith in
                c.put-4.ensures.inside i below (omega arith) (omega arith)
                ∙ ap (λ (b : List ℕ). get_or b (q - (end - 8)) 0) c.to_be_bytes-bits.ensures
                ∙ ap (λ (k : ℕ). get_or (to_be_bytes w64 (total * 8 % 2 ^ 64)) k 0) offset
                ∙ sym (byte_length p t q (omega arith) (omega arith))
          ]
        ]
      ]
    ]
