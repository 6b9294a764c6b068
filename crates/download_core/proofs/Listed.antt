-- Readers that are heard, where others are listed.
use Rattle.std.proofs.Common.{◌≡◌, ◌⊎◌, ℕ, ◌+◌, ◌<◌, inl, inr, List, [], ◌∷◌, ◌++◌, Contains, length, take, sym, subst}
use Rattle.std.specs.Prelude.{slice_index_or}
use Rattle.std.proofs.lemmas.List.{take_more}
use Rattle.std.proofs.lemmas.Bool.{cases_eq}
use Rattle.std.proofs.lemmas.List.Elements.{Contains-append_left, Contains-append_right, Contains-push_cases}
use Rattle.placement.proofs.Members.{Contains-head}
use Rattle.download_shares.proofs.Lists.{from_without, without_keeps}
use Rattle.download_file.specs.State.{FileState, IsAside, IsHeard, IsLive, without}

listed_as : (xs ys : List ℕ) (q : ℕ) → ys ≡ xs → Contains ys q → Contains xs q
listed_as xs ys q same among = subst (λ (l : List ℕ). Contains l q) same among

-- the same are listed
pub heard_same : (f g : FileState) → g.live ≡ f.live → g.aside ≡ f.aside → (q : ℕ) → IsHeard g q → IsHeard f q
heard_same f g lives asides q (inl k) = inl (listed_as f.live g.live q lives k)
heard_same f g lives asides q (inr k) = inr (listed_as f.aside g.aside q asides k)

-- one is not listed any more
pub heard_without : (f g : FileState) (reader : ℕ) → g.live ≡ without reader f.live → g.aside ≡ without reader f.aside → (q : ℕ) → IsHeard g q → IsHeard f q × (q ≡ reader → ⊥)
heard_without f g reader lives asides q (inl k) = (let w = from_without reader q f.live (listed_as (without reader f.live) g.live q lives k) in (inl w.0, w.1))
heard_without f g reader lives asides q (inr k) = (let w = from_without reader q f.aside (listed_as (without reader f.aside) g.aside q asides k) in (inr w.0, w.1))

pub without_heard : (f g : FileState) (reader : ℕ) → g.live ≡ without reader f.live → g.aside ≡ without reader f.aside → (q : ℕ) → IsHeard f q → (q ≡ reader → ⊥) → IsHeard g q
without_heard f g reader lives asides q (inl k) other = inl (listed_as g.live (without reader f.live) q (sym lives) (without_keeps reader q f.live k other))
without_heard f g reader lives asides q (inr k) other = inr (listed_as g.aside (without reader f.aside) q (sym asides) (without_keeps reader q f.aside k other))

-- one more is read
pub heard_pushed : (f g : FileState) (x : ℕ) → g.live ≡ f.live ++ x ∷ [] → g.aside ≡ f.aside → (q : ℕ) → IsHeard g q → IsHeard f q ⊎ (x ≡ q)
heard_pushed f g x lives asides q (inr k) = inl (inr (listed_as f.aside g.aside q asides k))
heard_pushed f g x lives asides q (inl k) = elim (Contains-push_cases f.live x q (listed_as (f.live ++ x ∷ []) g.live q lives k)) [ inl was ↦ inl (inl was) | inr new ↦ inr new ]

pub pushed_heard : (f g : FileState) (x : ℕ) → g.live ≡ f.live ++ x ∷ [] → g.aside ≡ f.aside → (q : ℕ) → IsHeard f q → IsHeard g q
pushed_heard f g x lives asides q (inl k) = inl (listed_as g.live (f.live ++ x ∷ []) q (sym lives) (Contains-append_left f.live (x ∷ []) q k))
pushed_heard f g x lives asides q (inr k) = inr (listed_as g.aside f.aside q (sym asides) k)

pub pushed_in : (xs : List ℕ) (x : ℕ) → Contains (xs ++ x ∷ []) x
pushed_in xs x = Contains-append_right xs (x ∷ []) x (Contains-head x [])

-- a reader that is read is put aside
pub put_back : (f g : FileState) (reader : ℕ) → IsLive f reader → g.live ≡ without reader f.live → g.aside ≡ f.aside ++ reader ∷ [] → (q : ℕ) → IsHeard g q → IsHeard f q
put_back f g reader live lives asides q (inl k) = inl (from_without reader q f.live (listed_as (without reader f.live) g.live q lives k)).0
put_back f g reader live lives asides q (inr k) = elim (Contains-push_cases f.aside reader q (listed_as (f.aside ++ reader ∷ []) g.aside q asides k)) [
  | inl was ↦ inr was
  | inr same ↦ inl (subst (λ n. Contains f.live n) same live)
]

pub put_forth : (f g : FileState) (reader : ℕ) → g.live ≡ without reader f.live → g.aside ≡ f.aside ++ reader ∷ [] → (q : ℕ) → IsHeard f q → IsHeard g q
put_forth f g reader lives asides q (inr k) = inr (listed_as g.aside (f.aside ++ reader ∷ []) q (sym asides) (Contains-append_left f.aside (reader ∷ []) q k))
put_forth f g reader lives asides q (inl k) = elim (cases_eq q reader) [
  | inl same ↦ inr (listed_as g.aside (f.aside ++ reader ∷ []) q (sym asides) (subst (λ n. Contains (f.aside ++ reader ∷ []) n) (sym same) (pushed_in f.aside reader)))
  | inr other ↦ inl (listed_as g.live (without reader f.live) q (sym lives) (without_keeps reader q f.live k other))
]

-- a reader that is put aside is read again
pub resumed_back : (f g : FileState) (reader : ℕ) → IsAside f reader → g.live ≡ f.live ++ reader ∷ [] → g.aside ≡ without reader f.aside → (q : ℕ) → IsHeard g q → IsHeard f q
resumed_back f g reader aside lives asides q (inr k) = inr (from_without reader q f.aside (listed_as (without reader f.aside) g.aside q asides k)).0
resumed_back f g reader aside lives asides q (inl k) = elim (Contains-push_cases f.live reader q (listed_as (f.live ++ reader ∷ []) g.live q lives k)) [
  | inl was ↦ inl was
  | inr same ↦ inr (subst (λ n. Contains f.aside n) same aside)
]

pub resumed_forth : (f g : FileState) (reader : ℕ) → g.live ≡ f.live ++ reader ∷ [] → g.aside ≡ without reader f.aside → (q : ℕ) → IsHeard f q → IsHeard g q
resumed_forth f g reader lives asides q (inl k) = inl (listed_as g.live (f.live ++ reader ∷ []) q (sym lives) (Contains-append_left f.live (reader ∷ []) q k))
resumed_forth f g reader lives asides q (inr k) = elim (cases_eq q reader) [
  | inl same ↦ inl (listed_as g.live (f.live ++ reader ∷ []) q (sym lives) (subst (λ n. Contains (f.live ++ reader ∷ []) n) (sym same) (pushed_in f.live reader)))
  | inr other ↦ inr (listed_as g.aside (without reader f.aside) q (sym asides) (without_keeps reader q f.aside k other))
]

-- of positions one after another none is so, where the next is not so either
pub none_more : {P : ℕ → Type 0} (list : List ℕ) (i d : ℕ) → i < length list → ((q : ℕ) → Contains (take i list) q → P q → ⊥) → (P (slice_index_or list i d) → ⊥)
    → (q : ℕ) → Contains (take (i + 1) list) q → P q → ⊥
none_more {P} list i d lt before this q h so = elim (Contains-push_cases (take i list) (slice_index_or list i d) q (subst (λ (l : List ℕ). Contains l q) (take_more list i d lt) h)) [
  | inl old ↦ before q old so
  | inr e ↦ this (subst P (sym e) so)
]
