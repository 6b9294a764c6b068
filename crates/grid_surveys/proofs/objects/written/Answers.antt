use Rattle.std.proofs.Common.{◌≡◌, ◌<◌, ℕ, ◌+◌, List, ◌∷◌, [], ◌++◌, Bool, get_or, length, take, sym, ap, ◌∙◌}
use Rattle.std.proofs.lemmas.List.{append-nil, take_more}
use Rattle.std.proofs.lemmas.Grind.{flat_map-append}
use Rattle.grid_surveys.specs.Looks.{json_byte, json_name}
use Rattle.grid_surveys.proofs.objects.written.Goals as goal

-- one byte more
byte_more : (odd : Bool) (bs : List ℕ) (i : ℕ) (old new : List ℕ) → i < length bs → old ≡ json_name odd (take i bs) → new ≡ old ++ json_byte odd (get_or bs i 0) → new ≡ json_name odd (take (i + 1) bs)
byte_more odd bs i old new here was is =
    let one : List ℕ = json_byte odd (get_or bs i 0) in
    is ∙ ap (λ (l : List ℕ). l ++ one) was ∙ ap (λ (l : List ℕ). json_name odd (take i bs) ++ l) (sym (append-nil one))
    ∙ sym (flat_map-append (json_byte odd) (take i bs) (get_or bs i 0 ∷ [])) ∙ ap (json_name odd) (sym (take_more bs i 0 here))

pub loop-byte-preserved : goal.loop-byte-preserved
loop-byte-preserved c =
    byte_more c.args.odd c.args.name.now c.loop-byte.byte-index c.loop-byte.text.items c.push_byte.new.out.items c.loop-byte-test.true c.loop-byte.invariant c.in_ok-push_byte.ensures
