use Rattle.std.proofs.Common.{◌≡◌, ◌∙◌, ◌+◌, ◌++◌, ◌∷◌, ℕ, List, [], length, map, Option, Vec, Global, ap, refl, subst, sym, arith}
use Rattle.std.specs.Prelude.{IfNone, IfSome}
use Rattle.std.proofs.lemmas.List.{length-map, map-append}
use Rattle.cap_text.specs.Cap.{VerifyCapValue}
use Rattle.request_record.specs.declared.requests.Request.{Request}
use Rattle.checker.specs.Good.{HasGood, IsFound}
use Rattle.checker.proofs.GoodLemmas.{AreGoodBelow, below_all, below_full, below_push, below_skip}
use Rattle.checker.proofs.good.good_shares_of.Goals.{then-len-from+in_ok-bytes+in-Some+in_ok-push, then-len-from+in_ok-bytes+in_default, else-len-from}
use Rattle.checker.proofs.good.good_shares_of.Goals as goal

abbrev Share : Type 0
Share = ℕ × Vec ℕ Global

abbrev number_of : Share → ℕ
number_of s = s.0

abbrev bytes_of : Share → List ℕ
bytes_of s = s.1.items

abbrev AreTold : VerifyCapValue → List Request → ℕ → List Share → Type 0
AreTold cap entries below shares = AreGoodBelow cap entries below (map number_of shares) (map bytes_of shares)

pushed : (cap : VerifyCapValue) (entries : List Request) (below : ℕ) (shares : List Share) (s : Share) → s.0 ≡ below
    → AreGoodBelow cap entries (below + 1) (map number_of shares ++ below ∷ []) (map bytes_of shares ++ s.1.items ∷ []) → AreTold cap entries (below + 1) (shares ++ s ∷ [])
pushed cap entries below shares s number are =
    subst (λ (l : List ℕ). AreGoodBelow cap entries (below + 1) l (map bytes_of (shares ++ s ∷ []))) (sym (map-append number_of shares (s ∷ []) ∙ ap (λ n. map number_of shares ++ n ∷ []) number))
    (subst (λ (l : List (List ℕ)). AreGoodBelow cap entries (below + 1) (map number_of shares ++ below ∷ []) l) (sym (map-append bytes_of shares (s ∷ []))) are)

pub loop-number-preserved : goal.loop-number-preserved
loop-number-preserved c =
    let cap = c.args.machine.now.cap in
    let entries = c.args.machine.now.requests.entries in
    let n = c.loop-number.number in
    let shares : List Share = c.loop-number.shares.items in
    let before : AreTold cap entries n shares = c.loop-number.invariant in
    let long : length (map number_of shares) ≡ length shares = length-map shares number_of in
    let needed = c.needed.ensures.value in
    elim c.if-len-from.branch [
      | then-len-from+in_ok-bytes+in-Some+in_ok-push w ↦ (
          let found : IsFound cap entries n w.in-Some.bytes.items = subst (λ (o : Option (Vec ℕ Global)). IfSome o (λ (v : Vec ℕ Global). IsFound cap entries n v.items)) w.in-Some.is w.in_ok-bytes.ensures.some in
          subst (AreTold cap entries (n + 1)) (sym (ap (λ (v : Vec Share Global). v.items) w.shares-is ∙ w.in_ok-push.ensures.items))
          (pushed cap entries n shares (n, w.in-Some.bytes) refl
          (below_push cap entries n (map number_of shares) (map bytes_of shares) before w.in-Some.bytes.items
          (omega (arith, long, w.if-len-from.true, c.len.ensures, c.from.ensures, needed)) found)))
      | then-len-from+in_ok-bytes+in_default w ↦ (
          let none = subst (λ (o : Option (Vec ℕ Global)). IfNone o (HasGood cap entries n → ⊥)) w.in_default.is w.in_ok-bytes.ensures.none in
          subst (AreTold cap entries (n + 1)) (sym (ap (λ (v : Vec Share Global). v.items) w.shares-is))
          (below_skip cap entries n (map number_of shares) (map bytes_of shares) before none))
      | else-len-from w ↦
          subst (AreTold cap entries (n + 1)) (sym (ap (λ (v : Vec Share Global). v.items) w.shares-is))
          (below_full cap entries n (map number_of shares) (map bytes_of shares) before
          (omega (arith, long, w.if-len-from.false, c.len.ensures, c.from.ensures, needed)))
    ]

pub returns : goal.returns
returns c =
    below_all c.args.machine.now.cap c.args.machine.now.requests.entries c.loop-number.number (map number_of c.loop-number.shares.items) (map bytes_of c.loop-number.shares.items)
    (omega (arith, c.loop-number-test.false, c.total-number-end.ensures.value)) c.loop-number.invariant
