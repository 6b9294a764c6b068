-- A walk over the fields of a text, from the left.
use Rattle.std.proofs.Common.{◌≡◌, ℕ, ◌^◌, ◌<◌, List, [], ◌∷◌, ◌++◌, length, true, false, Some, None, refl, sym, ap, subst, ◌∙◌, append_assoc, length-append, arith}
use Rattle.std.specs.Str.{bytes_eq}
use Rattle.std.proofs.lemmas.Bool.{cond-true, cond-false}
use Rattle.std.proofs.lemmas.List.{append-nil}
use Rattle.std.proofs.lemmas.List.Concat.{flat_map-append}
use Rattle.tagged_hash.specs.TaggedHash.{netstring}
use Rattle.ueb.specs.Fields.{Field, IsKey, field_text, fields_text, Precedes, AreRising, AreFields, last_key, value_of, IsMalformed, IsOutOfOrder}
use Rattle.ueb.proofs.Text.{colon_unique, no_colon_in_key, length-netstring, field_form, field_unique}

pub key_unique : (rest k l a b : List ℕ) → IsKey k → IsKey l → rest ≡ k ++ 58 ∷ a → rest ≡ l ++ 58 ∷ b → (k ≡ l) × (a ≡ b)
key_unique rest k l a b is_k is_l p q = colon_unique k l a b (no_colon_in_key k is_k.bytes) (no_colon_in_key l is_l.bytes) (sym p ∙ q)

-- a key, a colon and a netstring are a field
pub field_from : (rest key after value more : List ℕ) → rest ≡ key ++ 58 ∷ after → after ≡ netstring value ++ more → rest ≡ field_text (record { key = key; value = value }) ++ more
field_from rest key after value more p q =
    p ∙ ap (λ (t : List ℕ). key ++ 58 ∷ t) q ∙ sym (field_form (record { key = key; value = value }) more)

-- ---- going over all fields

-- fields up to here, the last of them with this key
pub record WalkedTo (bytes last rest : List ℕ) : Type 0 where
  pub fields : List Field
  pub text : bytes ≡ fields_text fields ++ rest
  pub rising : AreRising [] fields
  pub last_is : last_key [] fields ≡ last

pub start : (bytes : List ℕ) → WalkedTo bytes [] bytes
start bytes = record { fields = []; text = refl; rising = tt; last_is = refl }

rising_push : (last : List ℕ) (fields : List Field) (f : Field) → AreRising last fields → IsKey f.key → Precedes (last_key last fields) f.key → AreRising last (fields ++ f ∷ [])
rising_push last [] f r k p = (k, p, tt)
rising_push last (g ∷ fields) f r k p = (r.0, r.1, rising_push g.key fields f r.2 k p)

last_key-push : (last : List ℕ) (fields : List Field) (f : Field) → last_key last (fields ++ f ∷ []) ≡ f.key
last_key-push last [] f = refl
last_key-push last (g ∷ fields) f = last_key-push g.key fields f

text_push : (bytes rest more : List ℕ) (fields : List Field) (f : Field) → bytes ≡ fields_text fields ++ rest → rest ≡ field_text f ++ more → bytes ≡ fields_text (fields ++ f ∷ []) ++ more
text_push bytes rest more fields f p q =
    p ∙ ap (λ (t : List ℕ). fields_text fields ++ t) q ∙ sym (append_assoc (fields_text fields) (field_text f) more)
    ∙ ap (λ (t : List ℕ). (fields_text fields ++ t) ++ more) (sym (append-nil (field_text f)))
    ∙ ap (λ (t : List ℕ). t ++ more) (sym (flat_map-append field_text fields (f ∷ [])))

pub goes_on : (bytes last rest key after value more : List ℕ) → WalkedTo bytes last rest → IsKey key → rest ≡ key ++ 58 ∷ after → Precedes last key → after ≡ netstring value ++ more → WalkedTo bytes key more
goes_on bytes last rest key after value more w is_key p order q =
    let f : Field = record { key = key; value = value } in
    record {
      fields = w.fields ++ f ∷ [];
      text = text_push bytes rest more w.fields f w.text (field_from rest key after value more p q);
      rising = rising_push [] w.fields f w.rising is_key (subst (λ (l : List ℕ). Precedes l key) (sym w.last_is) order);
      last_is = last_key-push [] w.fields f;
    }

pub ends : (bytes last rest : List ℕ) → WalkedTo bytes last rest → length rest ≡ 0 → (fields : List Field) × AreFields bytes fields
ends bytes last [] w nothing = (w.fields, record { text = w.text ∙ append-nil (fields_text w.fields); rising = w.rising })
ends bytes last (b ∷ rest) w nothing = absurd (omega (arith, nothing))

pub no_key : (bytes last rest : List ℕ) → WalkedTo bytes last rest → 0 < length rest → ((key after : List ℕ) → IsKey key → rest ≡ key ++ 58 ∷ after → ⊥) → IsMalformed bytes
no_key bytes last rest w some none = record {
  fields = w.fields;
  rest = rest;
  text = w.text;
  rising = w.rising;
  fault = record {
    some = some;
    ordered = λ key after is_key e. absurd (none key after is_key e);
    no_netstring = λ key after value more is_key e n. none key after is_key e;
  };
}

pub not_ordered : (bytes last rest key after : List ℕ) → WalkedTo bytes last rest → IsKey key → rest ≡ key ++ 58 ∷ after → (Precedes last key → ⊥) → IsOutOfOrder bytes
not_ordered bytes last rest key after w is_key e not_later = record {
  fields = w.fields;
  rest = rest;
  text = w.text;
  rising = w.rising;
  fault = record {
    key = key;
    after = after;
    is_key = is_key;
    text = e;
    not_later = λ p. not_later (subst (λ (l : List ℕ). Precedes l key) w.last_is p);
  };
}

pub no_value : (bytes last rest key after : List ℕ) → WalkedTo bytes last rest → 0 < length rest → IsKey key → rest ≡ key ++ 58 ∷ after → Precedes last key → ((value more : List ℕ) → after ≡ netstring value ++ more → ⊥) → IsMalformed bytes
no_value bytes last rest key after w some is_key e order none = record {
  fields = w.fields;
  rest = rest;
  text = w.text;
  rising = w.rising;
  fault = record {
    some = some;
    ordered = λ other behind is_other p.
        let same = key_unique rest key other after behind is_key is_other e p in
        subst (λ (l : List ℕ). Precedes l other) (sym w.last_is) (subst (λ (k : List ℕ). Precedes last k) same.0 order);
    no_netstring = λ other behind value more is_other p q.
        let same = key_unique rest key other after behind is_key is_other e p in
        none value more (same.1 ∙ q);
  };
}

pub nearer : (rest key after value more : List ℕ) → rest ≡ key ++ 58 ∷ after → after ≡ netstring value ++ more → length more < length rest
nearer rest key after value more p q =
    omega (arith, ap length p, length-append key (58 ∷ after), length-netstring value more after q)

-- ---- looking for a key

-- what stands under the name in these fields stands in what is left
pub record Remains (name : List ℕ) (fields : List Field) (rest : List ℕ) : Type 0 where
  pub small : length rest < 2 ^ 64
  pub others : List Field
  pub last : List ℕ
  pub text : rest ≡ fields_text others
  pub rising : AreRising last others
  pub same : value_of name others ≡ value_of name fields

pub all_remains : (name bytes : List ℕ) (fields : List Field) → length bytes < 2 ^ 64 → AreFields bytes fields → Remains name fields bytes
all_remains name bytes fields small a = record { small = small; others = fields; last = []; text = a.text; rising = a.rising; same = refl }

-- what stands first in what is left
pub record First (key value more : List ℕ) (others : List Field) : Type 0 where
  pub tail : List Field
  pub split : others ≡ record { key = key; value = value } ∷ tail
  pub text : more ≡ fields_text tail
  pub rising : AreRising key tail

pub same_field : (f : Field) (key value : List ℕ) → f.key ≡ key → f.value ≡ value → f ≡ record { key = key; value = value }
same_field f key value k v = λ i. record { key = k i; value = v i }

first : (rest key after value more last : List ℕ) (others : List Field) → length rest < 2 ^ 64 → IsKey key → rest ≡ key ++ 58 ∷ after → after ≡ netstring value ++ more → rest ≡ fields_text others → AreRising last others → First key value more others
first rest key after value more last [] small is_key p q t r = absurd (omega (arith, ap length p, ap length t, length-append key (58 ∷ after)))
first rest key after value more last (f ∷ tail) small is_key p q t r =
    let g : Field = record { key = key; value = value } in
    let u = field_unique rest f g (fields_text tail) more small r.0 is_key t (field_from rest key after value more p q) in
    record {
      tail = tail;
      split = ap (λ (h : Field). h ∷ tail) (same_field f key value u.0 u.1);
      text = sym u.2;
      rising = subst (λ (k : List ℕ). AreRising k tail) u.0 r.2;
    }

no_others : (name rest last : List ℕ) (others : List Field) → ((key after : List ℕ) → IsKey key → rest ≡ key ++ 58 ∷ after → ⊥) → rest ≡ fields_text others → AreRising last others → value_of name others ≡ None
no_others name rest last [] none t r = refl
no_others name rest last (f ∷ tail) none t r = absurd (none f.key (netstring f.value ++ fields_text tail) r.0 (t ∙ field_form f (fields_text tail)))

-- no key stands first in what is left, so no field is left
pub none_left : (name rest : List ℕ) (fields : List Field) → ((key after : List ℕ) → IsKey key → rest ≡ key ++ 58 ∷ after → ⊥) → Remains name fields rest → value_of name fields ≡ None
none_left name rest fields none r = sym r.same ∙ no_others name rest r.last r.others none r.text r.rising

-- a field stands first in what is left, so a netstring stands behind any key there
no_value_left : (rest key after last : List ℕ) (others : List Field) → IsKey key → rest ≡ key ++ 58 ∷ after → ((value more : List ℕ) → after ≡ netstring value ++ more → ⊥) → rest ≡ fields_text others → AreRising last others → ⊥
no_value_left rest key after last [] is_key e none t r = omega (arith, ap length e, ap length t, length-append key (58 ∷ after))
no_value_left rest key after last (f ∷ tail) is_key e none t r =
    let same = key_unique rest key f.key after (netstring f.value ++ fields_text tail) is_key r.0 e (t ∙ field_form f (fields_text tail)) in
    none f.value (fields_text tail) same.1

pub value_left : (name rest key after : List ℕ) (fields : List Field) → Remains name fields rest → IsKey key → rest ≡ key ++ 58 ∷ after → ((value more : List ℕ) → after ≡ netstring value ++ more → ⊥) → ⊥
value_left name rest key after fields r is_key e none = no_value_left rest key after r.last r.others is_key e none r.text r.rising

pub found : (name rest key after value more : List ℕ) (fields : List Field) → IsKey key → rest ≡ key ++ 58 ∷ after → after ≡ netstring value ++ more → bytes_eq key name ≡ true → Remains name fields rest → value_of name fields ≡ Some value
found name rest key after value more fields is_key p q is_it r =
    let f = first rest key after value more r.last r.others r.small is_key p q r.text r.rising in
    sym r.same ∙ ap (value_of name) f.split ∙ cond-true (bytes_eq key name) (Some value) (value_of name f.tail) is_it

pub looks_on : (name rest key after value more : List ℕ) (fields : List Field) → IsKey key → rest ≡ key ++ 58 ∷ after → after ≡ netstring value ++ more → bytes_eq key name ≡ false → Remains name fields rest → Remains name fields more
looks_on name rest key after value more fields is_key p q is_not r =
    let f = first rest key after value more r.last r.others r.small is_key p q r.text r.rising in
    record {
      small = omega (arith, nearer rest key after value more p q, r.small);
      others = f.tail;
      last = key;
      text = f.text;
      rising = f.rising;
      same = sym (sym r.same ∙ ap (value_of name) f.split ∙ cond-false (bytes_eq key name) (Some value) (value_of name f.tail) is_not);
    }
