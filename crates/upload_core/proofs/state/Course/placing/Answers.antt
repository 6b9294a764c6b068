use Rattle.std.proofs.Common.{◌≡◌, ◌++◌, ◌<◌, All, Contains, List, ℕ, eqb, length, sym, ap, subst, ◌∙◌}
use Rattle.request_record.specs.declared.requests.Request.{Request}
use Rattle.std.specs.List.{IsDistinct}
use Rattle.placement.specs.Matching.{Pair, shares_of}
use Rattle.placement.specs.Plan.{IsPlan}
use Rattle.upload_core.specs.State.{UploadState}
use Rattle.upload_core.specs.Acknowledged.{acked_pairs}
use Rattle.upload_core.specs.Rounds.{Placing, readonly_servers, writable_servers}
use Rattle.upload_core.specs.Course.{MayPlace}
use Rattle.upload_core.proofs.Acked.{acked_known}
use Rattle.upload_core.proofs.Placed.{placed_once, plan_may}
use Rattle.upload_core.proofs.Servers.{servers_distinct}
use Rattle.upload_core.proofs.Goes.{plan_at}
use Rattle.upload_core.proofs.Written.{readonly_kept, writable_kept}
use Rattle.upload_core.proofs.Fields.{seen}
use Rattle.upload_core.proofs.state.Course.placing.Goals as goal

pub place-requires-clause-distinct : goal.place-requires-clause-distinct
place-requires-clause-distinct c =
    let u : UploadState = seen c.self.inside in
    let es : List Request = u.requests.entries in
    let ro : c.deref.result.now ≡ readonly_servers u.goal es = c.deref.ensures.value ∙ c.in_ok-servers.ensures.readonly ∙ ap (readonly_servers u.goal) c.kept_since.ensures ∙ readonly_kept u.goal u.requests.entries in
    let w : c.deref-2.result.now ≡ writable_servers u.goal es = c.deref-2.ensures.value ∙ c.in_ok-servers.ensures.writable ∙ ap (writable_servers u.goal) c.kept_since.ensures ∙ writable_kept u.goal u.requests.entries in
    rw (ro, w) (servers_distinct u.goal es c.self.invariant.distinct)

pub place-requires-clause-known : goal.place-requires-clause-known
place-requires-clause-known c =
    let u : UploadState = seen c.self.inside in
    let es : List Request = u.requests.entries in
    let ro : c.deref.result.now ≡ readonly_servers u.goal es = c.deref.ensures.value ∙ c.in_ok-servers.ensures.readonly ∙ ap (readonly_servers u.goal) c.kept_since.ensures ∙ readonly_kept u.goal u.requests.entries in
    let w : c.deref-2.result.now ≡ writable_servers u.goal es = c.deref-2.ensures.value ∙ c.in_ok-servers.ensures.writable ∙ ap (writable_servers u.goal) c.kept_since.ensures ∙ writable_kept u.goal u.requests.entries in
    let acked : c.args.acked.now ≡ acked_pairs u.goal es = c.requires.acked ∙ sym (ap (λ (s : UploadState). acked_pairs s.goal s.requests.entries) c.self.view_is) in
    let n : c.share_count-count.result ≡ length u.goal.digests = c.share_count-count.ensures.count in
    let known : All (λ (p : Pair). Contains (readonly_servers u.goal es ++ writable_servers u.goal es) p.0 × (p.1 < length u.goal.digests)) (acked_pairs u.goal es) = acked_known u.goal es c.self.invariant.of_told in
    subst (λ (k : ℕ). All (λ (p : Pair). Contains (c.deref.result.now ++ c.deref-2.result.now) p.0 × (p.1 < k)) c.args.acked.now) (sym n)
    (subst (λ (ps : List Pair). All (λ (p : Pair). Contains (c.deref.result.now ++ c.deref-2.result.now) p.0 × (p.1 < length u.goal.digests)) ps) (sym acked)
    (subst (λ (xs : List ℕ). All (λ (p : Pair). Contains (xs ++ c.deref-2.result.now) p.0 × (p.1 < length u.goal.digests)) (acked_pairs u.goal es)) (sym ro)
    (subst (λ (xs : List ℕ). All (λ (p : Pair). Contains (readonly_servers u.goal es ++ xs) p.0 × (p.1 < length u.goal.digests)) (acked_pairs u.goal es)) (sym w) known)))

abbrev the_plan : goal.After-drop-servers-3 → Placing
the_plan c = record { m3 = c.in_ok-plan.plan.m3.items; leftovers = c.in_ok-plan.plan.leftovers.items }

is_plan : (c : goal.After-drop-servers-3) → IsPlan (readonly_servers c.args.self.now.goal c.args.self.now.requests.entries) (writable_servers c.args.self.now.goal c.args.self.now.requests.entries) (acked_pairs c.args.self.now.goal c.args.self.now.requests.entries) (length c.args.self.now.goal.digests) c.in_ok-plan.plan.m1.items c.in_ok-plan.plan.m2.items c.in_ok-plan.plan.m3.items c.in_ok-plan.plan.leftovers.items c.in_ok-plan.plan.unplaced.items
is_plan c =
    let u : UploadState = seen c.self.inside in
    let v : UploadState = c.args.self.now in
    let ro : c.deref.result.now ≡ readonly_servers v.goal v.requests.entries = c.deref.ensures.value ∙ c.in_ok-servers.ensures.readonly ∙ ap (readonly_servers u.goal) c.kept_since.ensures ∙ readonly_kept u.goal u.requests.entries ∙ ap (λ (s : UploadState). readonly_servers s.goal s.requests.entries) c.self.view_is in
    let w : c.deref-2.result.now ≡ writable_servers v.goal v.requests.entries = c.deref-2.ensures.value ∙ c.in_ok-servers.ensures.writable ∙ ap (writable_servers u.goal) c.kept_since.ensures ∙ writable_kept u.goal u.requests.entries ∙ ap (λ (s : UploadState). writable_servers s.goal s.requests.entries) c.self.view_is in
    let n : c.share_count-count.result ≡ length v.goal.digests = c.share_count-count.ensures.count ∙ ap (λ (s : UploadState). length s.goal.digests) c.self.view_is in
    plan_at c.deref.result.now (readonly_servers v.goal v.requests.entries) c.deref-2.result.now (writable_servers v.goal v.requests.entries) c.args.acked.now (acked_pairs v.goal v.requests.entries) c.share_count-count.result (length v.goal.digests)
    c.in_ok-plan.plan.m1.items c.in_ok-plan.plan.m2.items c.in_ok-plan.plan.m3.items c.in_ok-plan.plan.leftovers.items c.in_ok-plan.plan.unplaced.items ro w c.requires.acked n
    (record { first_largest = c.in_ok-plan.ensures.m1; second_largest = c.in_ok-plan.ensures.m2; third_paired = c.in_ok-plan.ensures.m3; rest_spread = c.in_ok-plan.ensures.leftovers })

pub returns-clause-placing : goal.returns-clause-placing
returns-clause-placing c = (
  the_plan c,
  record { m1 = c.in_ok-plan.plan.m1.items; m2 = c.in_ok-plan.plan.m2.items; unplaced = c.in_ok-plan.plan.unplaced.items; plan = is_plan c },
  c.in_ok-extend_from_slice.ensures.items ∙ ap (λ (l : List Pair). c.in_ok-plan.plan.m3.items ++ l) c.deref-3.ensures.value,
)

pub returns-clause-may : goal.returns-clause-may
returns-clause-may c =
    let v : UploadState = c.args.self.now in
    let items : c.extend_from_slice.new.self.items ≡ c.in_ok-plan.plan.m3.items ++ c.in_ok-plan.plan.leftovers.items = c.in_ok-extend_from_slice.ensures.items ∙ ap (λ (l : List Pair). c.in_ok-plan.plan.m3.items ++ l) c.deref-3.ensures.value in
    subst (All (MayPlace v)) (sym items) (plan_may v _ _ _ _ _ (is_plan c) c.requires.settled c.requires.followed)

pub returns-clause-once : goal.returns-clause-once
returns-clause-once c =
    let v : UploadState = c.args.self.now in
    let items : c.extend_from_slice.new.self.items ≡ c.in_ok-plan.plan.m3.items ++ c.in_ok-plan.plan.leftovers.items = c.in_ok-extend_from_slice.ensures.items ∙ ap (λ (l : List Pair). c.in_ok-plan.plan.m3.items ++ l) c.deref-3.ensures.value in
    subst (λ (ps : List Pair). IsDistinct eqb (shares_of ps)) (sym items) (placed_once v _ _ _ _ _ (is_plan c))
