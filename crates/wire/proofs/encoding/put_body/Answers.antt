use Rattle.std.proofs.Common.{◌≡◌, ℕ, List, [], ◌∷◌, ◌++◌, ap, subst, ◌∙◌, append_assoc}
use Rattle.std.specs.Prelude.{OnOk}
use Rattle.std.specs.Int.{w64, to_be_bytes}
use Rattle.wire.specs.Kinds.{number_of, kind_of}
use Rattle.wire.specs.Frames.{fields, spelling}
use Rattle.wire.proofs.encoding.put_body.Goals as goal

-- four parts behind what is there
parts_behind : (out kind session number rest : List ℕ) → out ++ kind ++ session ++ number ++ rest ≡ out ++ (kind ++ session ++ number ++ rest)
parts_behind out kind session number rest =
    ap (λ (x : List ℕ). x ++ rest) (ap (λ (x : List ℕ). x ++ number) (append_assoc out kind session) ∙ append_assoc out (kind ++ session) number)
    ∙ append_assoc out (kind ++ session ++ number) rest

pub returns : goal.returns
returns c =
    let m = c.args.message.now in
    let out : List ℕ = c.args.out.now.items in
    let session = to_be_bytes w64 m.session in
    let number = to_be_bytes w64 m.number in
    let kind : c.put_u8.new.self.items ≡ out ++ number_of (kind_of m.body) ∷ [] = c.in_ok-put_u8.ensures.ok ∙ ap (λ (k : ℕ). out ++ k ∷ []) (c.number.ensures ∙ ap number_of c.of.ensures) in
    let head : c.put_u64-2.new.self.items ≡ out ++ number_of (kind_of m.body) ∷ [] ++ session ++ number =
    c.in_ok-put_u64-2.ensures.ok ∙ ap (λ (x : List ℕ). x ++ number) (c.in_ok-put_u64.ensures.ok ∙ ap (λ (x : List ℕ). x ++ session) kind) in
    let all : c.put_u64-2.new.self.items ++ fields m.body ≡ out ++ spelling m = ap (λ (x : List ℕ). x ++ fields m.body) head ∙ parts_behind out (number_of (kind_of m.body) ∷ []) session number (fields m.body) in
    subst (λ (x : List ℕ). OnOk c.put_fields.result (c.put_fields.new.out.items ≡ x)) all c.put_fields.ensures
