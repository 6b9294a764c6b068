use Rattle.std.proofs.Common.{◌≡◌, ◌↔◌, ◌≤◌, ◌+◌, ◌-◌, ◌%◌, ℕ, List, IsTrue, false, true≢false, length, ap, subst, sym, ◌∙◌, rules}
use Rattle.proved_parts.specs.Parts.{IsSegmentBy}
use Rattle.download_segments.specs.Handout.{handed_out, next_end}
use Rattle.download_segments.specs.State.{HandoutState, IsHandout, ProvesSegment, handout_state}
use Rattle.download_segments.proofs.HandoutLemmas.{next_fits, next_within, right_handed}
use Rattle.download_segments.proofs.TreeLemmas.{at_some, grow_same, refutes}
use Rattle.download_segments.proofs.handout.Handout.hand_out.Goals as goal

pub path_by_hash-requires-clause-there : goal.path_by_hash-requires-clause-there
path_by_hash-requires-clause-there c =
    next_within c.args.self.now c.args.number (subst IsHandout c.self.view_is c.self.invariant) c.requires.next

pub returns-in_default-clause-refuted : goal.returns-in_default-clause-refuted
returns-in_default-clause-refuted c =
    let proved : IsTrue false ↔ ProvesSegment c.args.self.now c.args.number c.args.segment.items = search rules in
    λ e. refutes c.args.self.now c.args.number c.args.segment.items c.requires.known c.requires.long
    (λ proves. true≢false (sym (proved.1 proves)))

pub decrypted-bytes-requires-clause-within : goal.decrypted-bytes-requires-clause-within
decrypted-bytes-requires-clause-within c =
    let h = c.args.self.now in
    let seg : ℕ = h.geometry.segment_size in
    let long : ℕ = length c.args.segment.items in
    let same : c.self.inside.reached ≡ h.reached = ap (λ (x : HandoutState). x.reached) c.self.view_is in
    let end : c.end_behind-end.result ≡ next_end h = c.end_behind-end.ensures ∙ ap (λ (n : ℕ). next_end (record h { reached = n })) same in
    subst (λ (r : ℕ). r % seg + (c.end_behind-end.result - r) ≤ long) (sym same)
    (subst (λ (n : ℕ). h.reached % seg + (n - h.reached) ≤ long) (sym end)
    (next_fits h c.args.number c.args.segment.items c.in_ok-path_by_hash.ensures.right c.requires.next c.requires.long))

pub invariant_of-self-2 : goal.invariant_of-self-2
invariant_of-self-2 c =
    let h = c.args.self.now in
    let segment : List ℕ = c.args.segment.items in
    let siblings = c.in-Some.field-0.items in
    let by : IsSegmentBy h.ueb c.args.number segment siblings = subst (λ (s : List ℕ). IsSegmentBy h.ueb c.args.number s siblings) c.deref.ensures.value
    (at_some _ c.in_ok-path_by_hash.field-0 c.in-Some.field-0 c.in-Some.is c.in_ok-path_by_hash.ensures.by) in
    let new : HandoutState = handout_state c.self.inside.cipher c.self.inside.ueb c.self.inside.geometry c.self.inside.trees c.self.inside.to c.self.inside.handed c.end_behind-end.result c.push_back.new.self.items in
    let is : new ≡ handed_out h segment = search rules in
    subst IsHandout (sym is) (right_handed h c.args.number segment siblings c.in_ok-path_by_hash.ensures.right c.requires.next c.requires.long by)

pub returns-clause-right : goal.returns-clause-right
returns-clause-right c = invariant_of-self-2 c

pub returns-in_err-push_back-clause-grow : goal.returns-in_err-push_back-clause-grow
returns-in_err-push_back-clause-grow c = grow_same _ _ (ap (λ (h : HandoutState). h.trees) c.self.view_is)

pub returns-clause-grow : goal.returns-clause-grow
returns-clause-grow c = grow_same _ _ (ap (λ (h : HandoutState). h.trees) c.self.view_is)
