use Rattle.std.proofs.Common.{rules, ◌≡◌, ℕ, ◌<◌, length, List, [], ◌∷◌, ◌++◌, sym, subst, ap, ◌∙◌}
use Rattle.std.specs.Prelude.{slice_set}
use Rattle.download_shares.specs.HoldingState.{TableState, table_state}
use Rattle.download_shares.specs.Table.{ChangesNumber, told_one}
use Rattle.download_shares.specs.declared.holding.Holding.{Holding}
use Rattle.download_shares.specs.Numbers.{with_position}
use Rattle.download_shares.proofs.Tables.{TellsAt, tells_by}
use Rattle.download_shares.proofs.Fields.{seen_table}
use Rattle.download_shares.proofs.table.Table.tell.Goals as goal

told : (c : goal.After-push_reserved) → TellsAt (seen_table c.self.inside) c.args.server c.args.share c.from.result c.push_reserved.new.self.items c.add.new.self
told c =
    let lt : c.args.share < length c.self.inside.numbers.items = subst (λ (t : TableState). c.args.share < length t.numbers) (sym c.self.view_is) c.requires in
    let hs = c.push_reserved.ensures.items ∙ ap (λ (l : List Holding). l ++ told_one c.args.server c.args.share ∷ []) c.reserve.ensures.items in
    let len : c.len-position.result ≡ length c.self.inside.holdings.items = c.len-position.ensures ∙ search rules in
    tells_by (seen_table c.self.inside) c.args.server c.args.share c.from.result c.push_reserved.new.self.items c.index_mut.result.now c.add.new.self c.self.invariant.0 lt hs c.from.ensures c.index_mut.ensures.value (c.in_ok-add.ensures.ok ∙ ap (λ (l : ℕ). with_position l c.index_mut.result.now) len)

pub invariant_of-self-2 : goal.invariant_of-self-2
invariant_of-self-2 c = ((told c).right, c.self.invariant.1 ∙ sym (told c).count)

pub returns-clause-number : goal.returns-clause-number
returns-clause-number c =
    subst (λ (t : TableState). ChangesNumber c.args.share (with_position (length t.holdings)) t (table_state c.push_reserved.new.self.items (slice_set c.self.inside.numbers.items c.from.result c.add.new.self))) c.self.view_is
    (told c).changes

pub returns-clause-right : goal.returns-clause-right
returns-clause-right c = (told c).right
