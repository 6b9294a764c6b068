use Rattle.std.proofs.Common.{◌-◌, ◌<◌, Option, length, refl, sym, ap, subst, arith}
use Rattle.std.specs.Prelude.{IfNone, IfSome}
use Rattle.wire.specs.declared.message.Message.{Message}
use Rattle.wire.specs.Frames.{IsBodyOf}
use Rattle.world_operations.specs.declared.message.Sent.{Sent}
use Rattle.world_operations.proofs.Positions.{member_at}
use Rattle.world.specs.Step.{no_body}
use Rattle.lemmas.proofs.Results.{on_ok}
use Rattle.world.specs.State.{state_of}
use Rattle.world.proofs.Moving.{at_position, body_of, heard_delivers, item_is, no_body_of}
use Rattle.world.proofs.Preserving.{preserves_quiet}
use Rattle.world.proofs.scene.Scene.deliver.Goals as goal

pub returns-then-from-len-clause-ok : goal.returns-then-from-len-clause-ok
returns-then-from-len-clause-ok c =
    let item = c.index-sent.result.now in
    on_ok c.hear.result _ _
    (λ h x at. heard_delivers (state_of c.args.self.now) (state_of c.hear.new.self) x item c.args.position (c.from-then-from-len.result - c.len-then-from-len.result) at c.requires c.index-sent.ensures
    (omega (arith, c.if-from-len.true, c.from.ensures, c.len.ensures)) (omega (arith, c.from-then-from-len.ensures, c.len-then-from-len.ensures)) (h x at)) c.hear.ensures.ok

pub returns-in-Some-clause-ok : goal.returns-in-Some-clause-ok
returns-in-Some-clause-ok c =
    let w = state_of c.args.self.now in
    let item = c.index-sent.result.now in
    let body : IsBodyOf c.in-Some.message c.as_slice.result.now = subst (λ (o : Option Message). IfSome o (λ m. IsBodyOf m c.as_slice.result.now)) c.in-Some.is c.in_ok-message.ensures.some in
    on_ok c.take.result _ _
    (λ d x at. d x (ap (λ (s : Sent). s.from) (item_is w.sent c.args.position x item at c.requires c.index-sent.ensures)) (ap (λ (s : Sent). s.to) (item_is w.sent c.args.position x item at c.requires c.index-sent.ensures))
    (body_of w.sent c.args.position x c.index.result.now c.as_slice.result.now c.in-Some.message at c.requires c.index.ensures c.as_slice.ensures body)) c.take.ensures.ok

pub returns-in-Some-clause-keeps : goal.returns-in-Some-clause-keeps
returns-in-Some-clause-keeps c =
    let w = state_of c.args.self.now in
    let item = c.index-sent.result.now in
    let at = at_position w.sent c.args.position item c.requires c.index-sent.ensures in
    let body : IsBodyOf c.in-Some.message c.as_slice.result.now = subst (λ (o : Option Message). IfSome o (λ m. IsBodyOf m c.as_slice.result.now)) c.in-Some.is c.in_ok-message.ensures.some in
    c.take.ensures.keeps item refl refl (member_at w.sent c.args.position item at)
    (body_of w.sent c.args.position item c.index.result.now c.as_slice.result.now c.in-Some.message at c.requires c.index.ensures c.as_slice.ensures body)

pub returns-in-None-clause-ok : goal.returns-in-None-clause-ok
returns-in-None-clause-ok c x at =
    let w = state_of c.args.self.now in
    let item = c.index-sent.result.now in
    let none : (m : Message) → IsBodyOf m c.as_slice.result.now → ⊥ = subst (λ (o : Option Message). IfNone o ((m : Message) → IsBodyOf m c.as_slice.result.now → ⊥)) c.in-None.is c.in_ok-message.ensures.none in
    let low : item.to < length w.servers = omega (arith, c.if-from-len.false, c.from.ensures, c.len.ensures) in
    no_body (subst (λ (s : Sent). s.to < length w.servers) (sym (item_is w.sent c.args.position x item at c.requires c.index-sent.ensures)) low)
    (λ m b. none m (no_body_of w.sent c.args.position x c.index.result.now c.as_slice.result.now m at c.requires c.index.ensures c.as_slice.ensures b)) refl

pub returns-in_err-message-clause-keeps : goal.returns-in_err-message-clause-keeps
returns-in_err-message-clause-keeps c = preserves_quiet _ _ refl refl refl refl

pub returns-in-None-clause-keeps : goal.returns-in-None-clause-keeps
returns-in-None-clause-keeps c = preserves_quiet _ _ refl refl refl refl
