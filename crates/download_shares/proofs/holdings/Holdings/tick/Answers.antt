use Rattle.std.proofs.Common.{ℕ, ◌+◌, ◌<◌, All, length, List, refl, sym, subst, ◌∙◌}
use Rattle.request_record.specs.Asking.{lost_by_tick}
use Rattle.request_record.specs.Record.{RequestsState}
use Rattle.download_shares.specs.HoldingMoves.{IsAmong, RetiresAll, Ticks}
use Rattle.download_shares.specs.Right.{IsRight}
use Rattle.download_shares.specs.HoldingState.{HoldingsState, holdings_state}
use Rattle.download_shares.proofs.HoldingTicking.{lost_within, owners_held, right_tick}
use Rattle.download_shares.proofs.Fields.{seen_holdings}
use Rattle.download_shares.proofs.holdings.Holdings.tick.Goals as goal

pub retire_owners-requires-clause-asked : goal.retire_owners-requires-clause-asked
retire_owners-requires-clause-asked c =
    subst (λ (l : List ℕ). All (λ (position : ℕ). position < c.self.inside.servers + length c.deref.result.now) l) (sym (c.deref-2.ensures.value ∙ c.in_ok-lost.ensures.lost))
    (subst (λ (l : List ℕ). All (λ (position : ℕ). position < c.self.inside.servers + length l) (lost_by_tick c.args.now c.self.inside.requests)) (sym c.deref.ensures.value)
    (lost_within (seen_holdings c.self.inside) c.self.invariant c.args.now))

pub retire_owners-requires-clause-held : goal.retire_owners-requires-clause-held
retire_owners-requires-clause-held c =
    subst (λ (l : List ℕ). All (λ (holding : ℕ). holding < length c.self.inside.table.holdings) l) (sym c.deref.ensures.value) (owners_held (seen_holdings c.self.inside) c.self.invariant)

retired : (c : goal.After-drop-lost) → RetiresAll (IsAmong c.self.inside.servers c.self.inside.owners.items (lost_by_tick c.args.now c.self.inside.requests)) c.self.inside.table c.retire_owners.new.table
retired c =
    subst (λ (l : List ℕ). RetiresAll (IsAmong c.self.inside.servers c.self.inside.owners.items l) c.self.inside.table c.retire_owners.new.table) (c.deref-2.ensures.value ∙ c.in_ok-lost.ensures.lost)
    (subst (λ (l : List ℕ). RetiresAll (IsAmong c.self.inside.servers l c.deref-2.result.now) c.self.inside.table c.retire_owners.new.table) c.deref.ensures.value c.retire_owners.ensures)

pub invariant_of-self-2 : goal.invariant_of-self-2
invariant_of-self-2 c =
    subst (λ (r : RequestsState). IsRight (holdings_state r c.self.inside.servers c.retire_owners.new.table c.self.inside.owners.items c.self.inside.blamed.items)) (sym c.in_ok-lost.ensures.ok)
    (right_tick (seen_holdings c.self.inside) c.self.invariant c.args.now c.retire_owners.new.table (retired c))

pub returns-clause-right : goal.returns-clause-right
returns-clause-right c = invariant_of-self-2 c

pub returns-clause-ok : goal.returns-clause-ok
returns-clause-ok c =
    subst (λ (s : HoldingsState). Ticks c.args.now s (holdings_state c.tick.new.self c.self.inside.servers c.retire_owners.new.table c.self.inside.owners.items c.self.inside.blamed.items)) c.self.view_is
    (record { same = record { servers = refl; owners = refl; blamed = refl }; requests = c.in_ok-lost.ensures.ok; table = retired c })
