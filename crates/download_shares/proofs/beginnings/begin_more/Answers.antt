use Rattle.std.proofs.Common.{◌≡◌, ◌∙◌, ℕ, zero, suc, List, [], ◌∷◌, ◌++◌, length, replicate, refl, sym, ap, arith}
use Rattle.std.proofs.lemmas.List.{append-nil, append_assoc, length-append}
use Rattle.download_shares.specs.BeginningState.{unbegun}
use Rattle.download_shares.specs.declared.begun.Begun.{Begun}
use Rattle.download_shares.proofs.beginnings.begin_more.Goals as goal

-- one more at the end
one_more : (n : ℕ) (b : Begun) → replicate n b ++ b ∷ [] ≡ replicate (suc n) b
one_more zero b = refl
one_more (suc n) b = ap (λ l. b ∷ l) (one_more n b)

pub loop-init : goal.loop-init
loop-init c = ((0, sym (append-nil c.args.begun.now.items)), sym (c.len-counter.ensures ∙ c.args.begun.now.ok.0))

pub loop-preserved : goal.loop-preserved
loop-preserved c =
    let k = c.loop.invariant in
    let new = c.in_ok-push.ensures.items ∙ ap (λ (b : Begun). c.loop.begun.items ++ b ∷ []) c.new.ensures in (
      (suc k.0.0, new ∙ ap (λ (l : List Begun). l ++ unbegun ∷ []) k.0.1 ∙ append_assoc c.args.begun.now.items (replicate k.0.0 unbegun) (unbegun ∷ []) ∙ ap (λ (l : List Begun). c.args.begun.now.items ++ l) (one_more k.0.0 unbegun)),
      (let e = ap length new in let f = k.1 in omega (arith, e, f, length-append c.loop.begun.items (unbegun ∷ []))),
    )

pub returns : goal.returns
returns c = record {
  more = c.loop.invariant.0.0;
  is = c.loop.invariant.0.1;
  long = λ le. (
      let len = c.len-counter.ensures ∙ c.args.begun.now.ok.0 in
      let high = c.loop.auto.counter-end (omega (arith, le, len)) in
      let low = c.loop-test.false in
      let k = c.loop.invariant.1 in
      omega (arith, high, low, k));
}
