-- What a writer has got so far.
use Rattle.std.proofs.Common.{◌≡◌, ℕ, List, [], ◌++◌, Option, Some, None, take, drop, ap, sym, subst, refl, ◌∙◌, append_assoc, append-nil}
use Rattle.std.specs.Io.KnownBytes.{Appends, Keeps}
use Rattle.std.proofs.lemmas.List.{take-append-drop}
use Rattle.share_layout.specs.Writing.{AppendsBeginning}

pub appends_none : (a : Option (List ℕ)) → Appends a a []
appends_none None = tt
appends_none (Some xs) = sym (append-nil xs)

pub appends_more : (a b c : Option (List ℕ)) (xs ys : List ℕ) → Appends a b xs → Appends b c ys → Appends a c (xs ++ ys)
appends_more None b c xs ys h k = tt
appends_more (Some us) None c xs ys h k = absurd h
appends_more (Some us) (Some vs) None xs ys h k = absurd k
appends_more (Some us) (Some vs) (Some ws) xs ys h k = k ∙ ap (λ (l : List ℕ). l ++ ys) h ∙ append_assoc us xs ys

pub appends_kept : (a b c : Option (List ℕ)) (xs : List ℕ) → Appends a b xs → Keeps b c → Appends a c xs
appends_kept None b c xs h k = tt
appends_kept (Some us) None c xs h k = absurd h
appends_kept (Some us) (Some vs) None xs h k = absurd k
appends_kept (Some us) (Some vs) (Some ws) xs h k = k ∙ h

-- of these bytes all but a rest was added
pub record Added (old new : Option (List ℕ)) (bytes rest : List ℕ) : Type 0 where
  pub beginning : List ℕ
  pub text : bytes ≡ beginning ++ rest
  pub added : Appends old new beginning

pub added_none : (a : Option (List ℕ)) (bytes : List ℕ) → Added a a bytes bytes
added_none a bytes = record { beginning = []; text = refl; added = appends_none a }

pub added_more : (a b c : Option (List ℕ)) (bytes rest : List ℕ) (n : ℕ) → Added a b bytes rest → Appends b c (take n rest) → Added a c bytes (drop n rest)
added_more a b c bytes rest n h more = record {
  beginning = h.beginning ++ take n rest;
  text = h.text ∙ ap (λ r. h.beginning ++ r) (sym (take-append-drop n rest)) ∙ sym (append_assoc h.beginning (take n rest) (drop n rest));
  added = appends_more a b c h.beginning (take n rest) h.added more;
}

pub added_kept : (a b c : Option (List ℕ)) (bytes rest : List ℕ) → Added a b bytes rest → Keeps b c → Added a c bytes rest
added_kept a b c bytes rest h kept = record { beginning = h.beginning; text = h.text; added = appends_kept a b c h.beginning h.added kept }

-- all was added
pub added_all : (a b : Option (List ℕ)) (bytes rest : List ℕ) → Added a b bytes rest → rest ≡ [] → Appends a b bytes
added_all a b bytes rest h none =
    subst (Appends a b) (sym (h.text ∙ ap (λ r. h.beginning ++ r) none ∙ append-nil h.beginning)) h.added

pub added_beginning : (a b : Option (List ℕ)) (bytes rest : List ℕ) → Added a b bytes rest → AppendsBeginning a b bytes
added_beginning a b bytes rest h = record { beginning = h.beginning; rest = rest; text = h.text; added = h.added }

-- a beginning of the first, or the first and a beginning of the second
pub beginning_left : (a b : Option (List ℕ)) (xs ys : List ℕ) → AppendsBeginning a b xs → AppendsBeginning a b (xs ++ ys)
beginning_left a b xs ys h = record {
  beginning = h.beginning;
  rest = h.rest ++ ys;
  text = ap (λ (l : List ℕ). l ++ ys) h.text ∙ append_assoc h.beginning h.rest ys;
  added = h.added;
}

pub beginning_right : (a b c : Option (List ℕ)) (xs ys : List ℕ) → Appends a b xs → AppendsBeginning b c ys → AppendsBeginning a c (xs ++ ys)
beginning_right a b c xs ys whole h = record {
  beginning = xs ++ h.beginning;
  rest = h.rest;
  text = ap (λ l. xs ++ l) h.text ∙ sym (append_assoc xs h.beginning h.rest);
  added = appends_more a b c xs h.beginning whole h.added;
}
