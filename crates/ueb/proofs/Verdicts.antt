-- A text has one verdict: fields in their order to its end, or one first fault.
use Rattle.std.proofs.Common.{◌≡◌, ℕ, ◌^◌, ◌<◌, List, [], ◌∷◌, ◌++◌, length, refl, sym, ap, subst, ◌∙◌, append_assoc, length-append, arith}
use Rattle.std.proofs.lemmas.List.{append-nil}
use Rattle.tagged_hash.specs.TaggedHash.{netstring}
use Rattle.ueb.specs.Fields.{Field, IsKey, field_text, fields_text, Precedes, AreRising, AreFields, last_key, BeginsMalformed, BeginsOutOfOrder, IsMalformed, IsOutOfOrder}
use Rattle.ueb.proofs.Text.{field_form, field_unique}
use Rattle.ueb.proofs.Walk.{same_field, key_unique}

-- no field in its order stands first here
pub record IsStuck (last rest : List ℕ) : Type 0 where
  pub none : (f : Field) (more : List ℕ) → IsKey f.key → Precedes last f.key → rest ≡ field_text f ++ more → ⊥

pub record Splits (last bytes : List ℕ) (fields : List Field) (rest : List ℕ) : Type 0 where
  pub text : bytes ≡ fields_text fields ++ rest
  pub rising : AreRising last fields
  pub stuck : IsStuck (last_key last fields) rest

-- the first field, and the split of what stands behind it
first_text : (bytes : List ℕ) (f : Field) (fields : List Field) (rest : List ℕ) → bytes ≡ fields_text (f ∷ fields) ++ rest → bytes ≡ field_text f ++ (fields_text fields ++ rest)
first_text bytes f fields rest e = e ∙ append_assoc (field_text f) (fields_text fields) rest

behind : (last bytes : List ℕ) (f : Field) (fields : List Field) (rest : List ℕ) → Splits last bytes (f ∷ fields) rest → Splits f.key (fields_text fields ++ rest) fields rest
behind last bytes f fields rest s = record { text = refl; rising = s.rising.2; stuck = s.stuck }

pub split_unique : (last bytes : List ℕ) (f g : List Field) (r s : List ℕ) → length bytes < 2 ^ 64 → Splits last bytes f r → Splits last bytes g s → (f ≡ g) × (r ≡ s)
split_unique last bytes [] [] r s small p q = (refl, sym p.text ∙ q.text)
split_unique last bytes [] (y ∷ g) r s small p q =
    absurd (p.stuck.none y (fields_text g ++ s) q.rising.0 q.rising.1 (sym p.text ∙ first_text bytes y g s q.text))
split_unique last bytes (x ∷ f) [] r s small p q =
    absurd (q.stuck.none x (fields_text f ++ r) p.rising.0 p.rising.1 (sym q.text ∙ first_text bytes x f r p.text))
split_unique last bytes (x ∷ f) (y ∷ g) r s small p q =
    let one = first_text bytes x f r p.text in
    let two = first_text bytes y g s q.text in
    let u = field_unique bytes x y (fields_text f ++ r) (fields_text g ++ s) small p.rising.0 q.rising.0 one two in
    let inside : length (fields_text f ++ r) < 2 ^ 64 = omega (arith, ap length one, length-append (field_text x) (fields_text f ++ r)) in
    let second : Splits x.key (fields_text f ++ r) g s = subst (λ (k : List ℕ). Splits k (fields_text f ++ r) g s) (sym u.0) (subst (λ (t : List ℕ). Splits y.key t g s) (sym u.2) (behind last bytes y g s q)) in
    let rest = split_unique x.key (fields_text f ++ r) f g r s inside (behind last bytes x f r p) second in
    let heads : x ≡ y = same_field x y.key y.value u.0 u.1 in
    ((λ i. heads i ∷ rest.0 i), rest.1)

nothing_stuck : (last : List ℕ) → IsStuck last []
nothing_stuck last = record { none = λ f more k p e. omega (arith, ap length e, length-append (field_text f) more, length-append f.key (58 ∷ netstring f.value)) }

whole : (bytes : List ℕ) (fields : List Field) → AreFields bytes fields → Splits [] bytes fields []
whole bytes fields a = record { text = a.text ∙ sym (append-nil (fields_text fields)); rising = a.rising; stuck = nothing_stuck (last_key [] fields) }

malformed_stuck : (last rest : List ℕ) → BeginsMalformed last rest → IsStuck last rest
malformed_stuck last rest m = record { none = λ f more k p e. m.no_netstring f.key (netstring f.value ++ more) f.value more k (e ∙ field_form f more) refl }

malformed_splits : (bytes : List ℕ) (m : IsMalformed bytes) → Splits [] bytes m.fields m.rest
malformed_splits bytes m = record { text = m.text; rising = m.rising; stuck = malformed_stuck (last_key [] m.fields) m.rest m.fault }

disorder_stuck : (last rest : List ℕ) → BeginsOutOfOrder last rest → IsStuck last rest
disorder_stuck last rest d = record {
  none = λ f more k p e.
      let same = key_unique rest d.key f.key d.after (netstring f.value ++ more) d.is_key k d.text (e ∙ field_form f more) in
      d.not_later (subst (λ (t : List ℕ). Precedes last t) (sym same.0) p);
}

disorder_splits : (bytes : List ℕ) (d : IsOutOfOrder bytes) → Splits [] bytes d.fields d.rest
disorder_splits bytes d = record { text = d.text; rising = d.rising; stuck = disorder_stuck (last_key [] d.fields) d.rest d.fault }

pub same_fields : (bytes : List ℕ) (f g : List Field) → length bytes < 2 ^ 64 → AreFields bytes f → AreFields bytes g → f ≡ g
same_fields bytes f g small p q = (split_unique [] bytes f g [] [] small (whole bytes f p) (whole bytes g q)).0

pub fields_not_malformed : (bytes : List ℕ) (fields : List Field) → length bytes < 2 ^ 64 → AreFields bytes fields → IsMalformed bytes → ⊥
fields_not_malformed bytes fields small a m =
    let same = split_unique [] bytes fields m.fields [] m.rest small (whole bytes fields a) (malformed_splits bytes m) in
    omega (arith, ap length same.1, m.fault.some)

pub fields_not_disordered : (bytes : List ℕ) (fields : List Field) → length bytes < 2 ^ 64 → AreFields bytes fields → IsOutOfOrder bytes → ⊥
fields_not_disordered bytes fields small a d =
    let same = split_unique [] bytes fields d.fields [] d.rest small (whole bytes fields a) (disorder_splits bytes d) in
    omega (arith, ap length same.1, ap length d.fault.text, length-append d.fault.key (58 ∷ d.fault.after))

pub not_both : (bytes : List ℕ) → length bytes < 2 ^ 64 → IsMalformed bytes → IsOutOfOrder bytes → ⊥
not_both bytes small m d =
    let same = split_unique [] bytes m.fields d.fields m.rest d.rest small (malformed_splits bytes m) (disorder_splits bytes d) in
    let later : Precedes (last_key [] m.fields) d.fault.key = m.fault.ordered d.fault.key d.fault.after d.fault.is_key (same.1 ∙ d.fault.text) in
    d.fault.not_later (subst (λ (f : List Field). Precedes (last_key [] f) d.fault.key) same.0 later)
