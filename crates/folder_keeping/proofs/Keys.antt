-- Keys, and what is known at them.
use Rattle.std.proofs.Common.{◌≡◌, true, false, List, refl, sym, ap, ◌∙◌, cond}
use Rattle.std.specs.Prelude.{Option, Some, None, IsSome, unwrap_or, is_some}
use Rattle.std.specs.Ordering.{is_eq}
use Rattle.std.proofs.lemmas.Cmp.{tied_itself}
use mathlib.Core.Bool.{true≢false}
use Rattle.share_store.specs.Shelf.{ShareKey, same_key}
use Rattle.share_store.proofs.KeyLaws.{order_total}
use Rattle.share_store.proofs.ShelfLaws.{same_is}
use Rattle.folder_keeping.specs.Kept.{Contents, put_content}

pub same_itself : (key : ShareKey) → same_key key key ≡ true
same_itself key = ap is_eq (tied_itself order_total key)

pub apart_keys : (key other : ShareKey) → same_key key other ≡ false → key ≡ other → ⊥
apart_keys key other apart same = true≢false (sym (same_itself key) ∙ ap (same_key key) same ∙ apart)

pub apart_back : (key other : ShareKey) → same_key key other ≡ false → same_key other key ≡ false
apart_back key other apart =
    elim (same_key other key) as (λ b. same_key other key ≡ b → b ≡ false) [
      | true ↦ λ e. absurd (apart_keys key other apart (sym (same_is other key e)))
      | false ↦ λ e. refl
    ] refl

pub put_here : (key : ShareKey) (content : Option (List _)) (known : Contents) → put_content key content known key ≡ content
put_here key content known = ap (λ b. cond b content (known key)) (same_itself key)

pub put_there : (key other : ShareKey) (content : Option (List _)) (known : Contents) → same_key key other ≡ false → put_content key content known other ≡ known other
put_there key other content known apart = ap (λ b. cond b content (known other)) apart

pub some_is : {A : Type 0} (o : Option A) (a : A) → IsSome o → o ≡ Some (unwrap_or o a)
some_is None a is = absurd (true≢false (sym is))
some_is (Some b) a is = refl

pub is_some_of : {A : Type 0} (o : Option A) (a : A) → o ≡ Some a → IsSome o
is_some_of o a is = ap is_some is

pub none_some : {A X : Type 0} (a : A) → None ≡ Some a → X
none_some a is = absurd (true≢false (sym (ap is_some is)))

abbrev some_or : {A : Type 0} → A → Option A → A
some_or a None = a
some_or a (Some b) = b

pub some_one : {A : Type 0} (a b : A) → Some a ≡ Some b → a ≡ b
some_one a b same = ap (some_or a) {x = Some a} {y = Some b} same
