-- One client's turn after another's, and one client that is gone after another.
use Rattle.std.proofs.Common.{◌≡◌, ◌<◌, ℕ, zero, suc, Bool, true, false, cond, List, [], ◌∷◌, ◌++◌, Option, Some, None, drop, get_or, length, refl, sym, subst, ap, ◌∙◌, inl, inr, arith}
use Rattle.std.specs.Prelude.{slice_get, slice_set}
use Rattle.std.proofs.lemmas.Option.{slice_get_read}
use Rattle.share_store.specs.Calls.{Calls}
use Rattle.server_core.specs.ServerState.{ServerState}
use Rattle.connections.specs.Wires.{WireCalls}
use Rattle.server_core.specs.ServerState.{LetsGoOfEnded, without_client}
use Rattle.connections.specs.declared.fault.ConnectionFault.{ConnectionFault}
use Rattle.grid_serving.specs.declared.client.TurnFault.{TurnFault}
use Rattle.grid_serving.specs.declared.client.TurnFault.TheVariants as why
use Rattle.grid_serving.specs.Places.{ClientState, holds_at, is_awake, only_if, places_from, places_of}
use Rattle.grid_serving.specs.Turns.{BreaksOff, FailsAt, FailsInTurn, HasTurn, IsCutOffAt, LeaveInTurn, LeavesAt, ServesAt, ServesInTurn, TurnsTo}

-- ---- places, from one on

drop_set : {X : Type 0} (xs : List X) (i : ℕ) (x : X) → drop (suc i) (slice_set xs i x) ≡ drop (suc i) xs
drop_set [] i x = refl
drop_set (y ∷ ys) zero x = refl
drop_set (y ∷ ys) (suc i) x = drop_set ys i x

length_set : {X : Type 0} (xs : List X) (i : ℕ) (x : X) → length (slice_set xs i x) ≡ length xs
length_set [] i x = refl
length_set (y ∷ ys) zero x = refl
length_set (y ∷ ys) (suc i) x = ap suc (length_set ys i x)

-- the place is one of these where its client is, and then come those behind it
places_at : {C : Type 0} (test : C → Bool) (places : List (Option C)) (position node : ℕ) → position < length places
    → places_from test node (drop position places) ≡ only_if (holds_at test places position) node ++ places_from test (suc node) (drop (suc position) places)
places_at test [] position node within = absurd (omega (arith, within))
places_at test (None ∷ places) zero node within = refl
places_at {C} test (Some c ∷ places) zero node within = by (test c)
  where
    by : (holds : Bool) → cond holds (node ∷ places_from test (suc node) places) (places_from test (suc node) places) ≡ only_if holds node ++ places_from test (suc node) places
    by true = refl
    by false = refl
places_at test (p ∷ places) (suc position) node within = places_at test places position node (omega (arith, within))

module _ {W S : Type 0} (wires : WireCalls W) (calls : Calls S) (now : ℕ) where
  served_both : (nodes others : List ℕ) (old mid new : List (Option (ClientState W))) (before between after : ServerState S) → ServesInTurn wires calls nodes now old before mid between
      → ServesInTurn wires calls others now mid between new after → ServesInTurn wires calls (nodes ++ others) now old before new after
  served_both [] others old mid new before between after first then =
      subst (λ (cs : List (Option (ClientState W))). ServesInTurn wires calls others now cs before new after) first.0
      (subst (λ (s : ServerState S). ServesInTurn wires calls others now mid s new after) first.1 then)
  served_both (x ∷ nodes) others old mid new before between after first then =
      (first.0, (first.1.0, first.1.1, served_both nodes others first.0 mid new first.1.0 between after first.1.2 then))

  pub one_served : (holds : Bool) (node : ℕ) (old new : List (Option (ClientState W))) (before after : ServerState S) → holds ≡ true → ServesAt wires calls node now old before new after → ServesInTurn wires calls (only_if holds node) now old before new after
  one_served holds node old new before after is one = subst (λ (b : Bool). ServesInTurn wires calls (only_if b node) now old before new after) (sym is) (new, (after, one, (refl, refl)))

  -- those behind are as they were
  later_served : (holds : Bool) (node : ℕ) (old new : List (Option (ClientState W))) (before after : ServerState S) → ServesInTurn wires calls (only_if holds node) now old before new after → drop (suc node) new ≡ drop (suc node) old
  later_served true node old new before after served =
      ap (λ (cs : List (Option (ClientState W))). drop (suc node) cs) (served.1.2.0 ∙ served.1.1.others) ∙ drop_set old node served.1.1.next
  later_served false node old new before after served = ap (λ (cs : List (Option (ClientState W))). drop (suc node) cs) served.0

  many_served : (holds : Bool) (node : ℕ) (old new : List (Option (ClientState W))) (before after : ServerState S) → ServesInTurn wires calls (only_if holds node) now old before new after → length new ≡ length old
  many_served true node old new before after served =
      ap (λ (cs : List (Option (ClientState W))). length cs) (served.1.2.0 ∙ served.1.1.others) ∙ length_set old node served.1.1.next
  many_served false node old new before after served = ap (λ (cs : List (Option (ClientState W))). length cs) served.0

  fails_behind : (nodes others : List ℕ) (old mid new : List (Option (ClientState W))) (before between after : ServerState S) → ServesInTurn wires calls nodes now old before mid between
      → FailsInTurn wires calls others now mid between new after → FailsInTurn wires calls (nodes ++ others) now old before new after
  fails_behind [] others old mid new before between after first then =
      subst (λ (cs : List (Option (ClientState W))). FailsInTurn wires calls others now cs before new after) first.0
      (subst (λ (s : ServerState S). FailsInTurn wires calls others now mid s new after) first.1 then)
  fails_behind (x ∷ nodes) others old mid new before between after first then =
      inr (first.0, (first.1.0, first.1.1, fails_behind nodes others first.0 mid new first.1.0 between after first.1.2 then))

  fails_before : (nodes others : List ℕ) (old new : List (Option (ClientState W))) (before after : ServerState S) → FailsInTurn wires calls nodes now old before new after → FailsInTurn wires calls (nodes ++ others) now old before new after
  fails_before [] others old new before after fails = absurd fails
  fails_before (x ∷ nodes) others old new before after (inl one) = inl one
  fails_before (x ∷ nodes) others old new before after (inr then) = inr (then.0, (then.1.0, then.1.1, fails_before nodes others then.0 new then.1.0 after then.1.2))

  -- ---- the turns of all that are ready

  abbrev pub To : List ℕ → List (Option (ClientState W)) → ServerState S → List ℕ → List (Option (ClientState W)) → ServerState S → Type 0
  To all old before left mid between =
      ((new : List (Option (ClientState W))) (after : ServerState S) → ServesInTurn wires calls left now mid between new after → ServesInTurn wires calls all now old before new after)
      × ((new : List (Option (ClientState W))) (after : ServerState S) → FailsInTurn wires calls left now mid between new after → FailsInTurn wires calls all now old before new after)

  -- Those before a place had theirs: what those from there on do then is the rest.
  pub record SoFar (node : ℕ) (old : List (Option (ClientState W))) (before : ServerState S) (mid : List (Option (ClientState W))) (between : ServerState S) : Type 0 where
    pub all : length mid ≡ 256
    pub to : To (places_of is_awake old) old before (places_from is_awake node (drop node mid)) mid between

  pub one_more : (node next : ℕ) (old mid new : List (Option (ClientState W))) (before between after : ServerState S) → next ≡ suc node → node < 256 → SoFar node old before mid between
      → ServesInTurn wires calls (only_if (holds_at is_awake mid node) node) now mid between new after → SoFar next old before new after
  one_more node next old mid new before between after is within far served =
      let holds = holds_at is_awake mid node in
      let same : drop (suc node) new ≡ drop (suc node) mid = later_served holds node mid new between after served in
      let here = places_at is_awake mid node node (subst (λ (n : ℕ). node < n) (sym far.all) within) in
      let those : only_if holds node ++ places_from is_awake (suc node) (drop (suc node) new) ≡ places_from is_awake node (drop node mid)
      = ap (λ (cs : List (Option (ClientState W))). only_if holds node ++ places_from is_awake (suc node) cs) same ∙ sym here in
      let far_on : SoFar (suc node) old before new after = record {
        all = many_served holds node mid new between after served ∙ far.all;
        to = (
          λ last ended rest. far.to.0 last ended (subst (λ (ns : List ℕ). ServesInTurn wires calls ns now mid between last ended) those
              (served_both (only_if holds node) (places_from is_awake (suc node) (drop (suc node) new)) mid new last between after ended served rest)),
          λ last ended rest. far.to.1 last ended (subst (λ (ns : List ℕ). FailsInTurn wires calls ns now mid between last ended) those
              (fails_behind (only_if holds node) (places_from is_awake (suc node) (drop (suc node) new)) mid new last between after ended served rest)),
        );
      } in
      subst (λ (n : ℕ). SoFar n old before new after) (sym is) far_on

  pub fails_here : (node : ℕ) (old mid new : List (Option (ClientState W))) (before between after : ServerState S) → node < 256 → SoFar node old before mid between
      → FailsInTurn wires calls (only_if (holds_at is_awake mid node) node) now mid between new after → FailsInTurn wires calls (places_of is_awake old) now old before new after
  fails_here node old mid new before between after within far fails =
      let holds = holds_at is_awake mid node in
      let here = places_at is_awake mid node node (subst (λ (n : ℕ). node < n) (sym far.all) within) in
      far.to.1 new after (subst (λ (ns : List ℕ). FailsInTurn wires calls ns now mid between new after) (sym here)
      (fails_before (only_if holds node) (places_from is_awake (suc node) (drop (suc node) mid)) mid new between after fails))

  -- ---- the client at a place

  pub turned : (node : ℕ) (was : Option (ClientState W)) (old new : ClientState W) (before mid after : ServerState S) → was ≡ Some old → HasTurn wires calls node now old before new mid → LetsGoOfEnded calls mid after
      → TurnsTo wires calls node now was before (Some new) after
  turned node was old new before mid after is turn goes = subst (λ (o : Option (ClientState W)). TurnsTo wires calls node now o before (Some new) after) (sym is) (mid, turn, goes)

  pub cut_off : (node : ℕ) (fault : TurnFault) (was : Option (ClientState W)) (old : ClientState W) (before mid after : ServerState S) → was ≡ Some old → BreaksOff wires calls node now fault old.connection before mid → LetsGoOfEnded calls (without_client node mid) after
      → IsCutOffAt wires calls node now fault was before None after
  cut_off node fault was old before mid after is turn goes =
      subst (λ (o : Option (ClientState W)). IsCutOffAt wires calls node now fault o before None after) (sym is) (record { mid = mid; turn = turn; lets_go = goes })

  ends_at : (node : ℕ) (fault : ConnectionFault) (old : List (Option (ClientState W))) (was next : Option (ClientState W)) (before after : ServerState S) → slice_get old node ≡ Some was → IsCutOffAt wires calls node now (why.Ended fault) was before next after
      → ServesAt wires calls node now old before (slice_set old node next) after
  ends_at node fault old None next before after at cut = absurd cut
  ends_at node fault old (Some c) (Some d) before after at cut = absurd cut
  ends_at node fault old (Some c) None before after at cut = record { was = Some c; here = at; next = None; turn = (fault, cut); others = refl }

  fails_at : (node : ℕ) (old : List (Option (ClientState W))) (was next : Option (ClientState W)) (before after : ServerState S) → slice_get old node ≡ Some was → IsCutOffAt wires calls node now why.OutOfMemory was before next after
      → FailsAt wires calls node now old before (slice_set old node next) after
  fails_at node old None next before after at cut = absurd cut
  fails_at node old (Some c) (Some d) before after at cut = absurd cut
  fails_at node old (Some c) None before after at cut = record { was = c; here = at; turn = cut; others = refl }

  -- The place of a number, as it is read and written.
  pub ended_there : (position node : ℕ) (fault : ConnectionFault) (inner old new : List (Option (ClientState W))) (was next : Option (ClientState W)) (before after : ServerState S) → inner ≡ old → position ≡ node → position < length inner → was ≡ get_or inner position was
      → new ≡ slice_set inner position next → IsCutOffAt wires calls node now (why.Ended fault) was before next after → ServesAt wires calls node now old before new after
  ended_there position node fault inner old new was next before after same number within read written cut =
      let there : slice_get inner node ≡ Some was = subst (λ (k : ℕ). slice_get inner k ≡ Some was) number (slice_get_read inner (length inner) position was refl within read) in
      let is : new ≡ slice_set inner node next = subst (λ (k : ℕ). new ≡ slice_set inner k next) number written in
      subst (λ (o : List (Option (ClientState W))). ServesAt wires calls node now o before new after) same
      (subst (λ (n : List (Option (ClientState W))). ServesAt wires calls node now inner before n after) (sym is) (ends_at node fault inner was next before after there cut))

  pub failed_there : (position node : ℕ) (inner old new : List (Option (ClientState W))) (was next : Option (ClientState W)) (before after : ServerState S) → inner ≡ old → position ≡ node → position < length inner → was ≡ get_or inner position was
      → new ≡ slice_set inner position next → IsCutOffAt wires calls node now why.OutOfMemory was before next after → FailsAt wires calls node now old before new after
  failed_there position node inner old new was next before after same number within read written cut =
      let there : slice_get inner node ≡ Some was = subst (λ (k : ℕ). slice_get inner k ≡ Some was) number (slice_get_read inner (length inner) position was refl within read) in
      let is : new ≡ slice_set inner node next = subst (λ (k : ℕ). new ≡ slice_set inner k next) number written in
      subst (λ (o : List (Option (ClientState W))). FailsAt wires calls node now o before new after) same
      (subst (λ (n : List (Option (ClientState W))). FailsAt wires calls node now inner before n after) (sym is) (fails_at node inner was next before after there cut))

module _ {W S : Type 0} (calls : Calls S) where
  left_both : (nodes others : List ℕ) (old mid new : List (Option (ClientState W))) (before between after : ServerState S) → LeaveInTurn calls nodes old before mid between → LeaveInTurn calls others mid between new after
      → LeaveInTurn calls (nodes ++ others) old before new after
  left_both [] others old mid new before between after first then =
      subst (λ (cs : List (Option (ClientState W))). LeaveInTurn calls others cs before new after) first.0 (subst (λ (s : ServerState S). LeaveInTurn calls others mid s new after) first.1 then)
  left_both (x ∷ nodes) others old mid new before between after first then =
      (first.0, (first.1.0, first.1.1, left_both nodes others first.0 mid new first.1.0 between after first.1.2 then))

  pub one_leaves : (holds : Bool) (node : ℕ) (old new : List (Option (ClientState W))) (before after : ServerState S) → holds ≡ true → LeavesAt calls node old before new after → LeaveInTurn calls (only_if holds node) old before new after
  one_leaves holds node old new before after is one = subst (λ (b : Bool). LeaveInTurn calls (only_if b node) old before new after) (sym is) (new, (after, one, (refl, refl)))

  -- those behind are as they were
  later_left : (holds : Bool) (node : ℕ) (old new : List (Option (ClientState W))) (before after : ServerState S) → LeaveInTurn calls (only_if holds node) old before new after → drop (suc node) new ≡ drop (suc node) old
  later_left true node old new before after left = ap (λ (cs : List (Option (ClientState W))). drop (suc node) cs) (left.1.2.0 ∙ left.1.1.others) ∙ drop_set old node None
  later_left false node old new before after left = ap (λ (cs : List (Option (ClientState W))). drop (suc node) cs) left.0

  many_left : (holds : Bool) (node : ℕ) (old new : List (Option (ClientState W))) (before after : ServerState S) → LeaveInTurn calls (only_if holds node) old before new after → length new ≡ length old
  many_left true node old new before after left = ap (λ (cs : List (Option (ClientState W))). length cs) (left.1.2.0 ∙ left.1.1.others) ∙ length_set old node None
  many_left false node old new before after left = ap (λ (cs : List (Option (ClientState W))). length cs) left.0

  -- Those before a place that are late are gone: those from there on are the rest.
  pub record GoneSoFar (test : ClientState W → Bool) (node : ℕ) (old : List (Option (ClientState W))) (before : ServerState S) (mid : List (Option (ClientState W))) (between : ServerState S) : Type 0 where
    pub all : length mid ≡ 256
    pub to : (new : List (Option (ClientState W))) (after : ServerState S) → LeaveInTurn calls (places_from test node (drop node mid)) mid between new after → LeaveInTurn calls (places_of test old) old before new after

  pub one_more_gone : (test : ClientState W → Bool) (node next : ℕ) (old mid new : List (Option (ClientState W))) (before between after : ServerState S) → next ≡ suc node → node < 256 → GoneSoFar test node old before mid between
      → LeaveInTurn calls (only_if (holds_at test mid node) node) mid between new after → GoneSoFar test next old before new after
  one_more_gone test node next old mid new before between after is within far left =
      let holds = holds_at test mid node in
      let same : drop (suc node) new ≡ drop (suc node) mid = later_left holds node mid new between after left in
      let here = places_at test mid node node (subst (λ (n : ℕ). node < n) (sym far.all) within) in
      let those : only_if holds node ++ places_from test (suc node) (drop (suc node) new) ≡ places_from test node (drop node mid)
      = ap (λ (cs : List (Option (ClientState W))). only_if holds node ++ places_from test (suc node) cs) same ∙ sym here in
      let far_on : GoneSoFar test (suc node) old before new after = record {
        all = many_left holds node mid new between after left ∙ far.all;
        to = λ last ended rest. far.to last ended (subst (λ (ns : List ℕ). LeaveInTurn calls ns mid between last ended) those
            (left_both (only_if holds node) (places_from test (suc node) (drop (suc node) new)) mid new last between after ended left rest));
      } in
      subst (λ (n : ℕ). GoneSoFar test n old before new after) (sym is) far_on
