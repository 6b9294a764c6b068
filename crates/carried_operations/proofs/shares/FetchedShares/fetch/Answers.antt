use Rattle.std.proofs.Common.{◌≡◌, ℕ, ◌<◌, List, Some, Err, ap, length, refl, subst, sym, ◌∙◌}
use Rattle.std.specs.Prelude.{slice_get}
use Rattle.lemmas.proofs.Positions.{got}
use Rattle.carried_operations.specs.Fetches.{Begins}
use Rattle.carried_operations.specs.declared.range.SharePlace.{SharePlace}
use Rattle.carried_operations.specs.declared.range.ShareRange.{ShareRange}
use Rattle.carried_operations.specs.Fetched.{FetchedState, IsReadOver, IsUnanswered, after_read}
use Rattle.carried_operations.proofs.ReadLemmas.{as_long, was_missing, was_read, was_unended}
use Rattle.carried_operations.proofs.shares.FetchedShares.fetch.Goals as goal

pub copy_to-requires : goal.copy_to-requires
copy_to-requires g c =
    let s = c.self.inside in
    let old : FetchedState _ = record { outside = s.outside; index = s.index; places = s.places.items; session = s.session; lacks_memory = s.lacks_memory } in
    let place : SharePlace = c.index.result.now in
    let range : ShareRange = record { place = place; offset = c.args.offset; length = length c.args.out.now } in
    let within : c.args.position < length s.places.items = subst (λ (n : ℕ). c.args.position < n) (c.len.ensures ∙ s.places.ok.0) c.if-position-len.false in
    let there : slice_get s.places.items c.args.position ≡ Some place = got s.places.items c.args.position place within c.index.ensures in
    let begins = subst (λ (n : ℕ). Begins s.index range s.session n c.in_ok-fetch.fetch) c.clock.ensures c.in_ok-fetch.ensures in
    as_long g.G.Outside.calls old c.args.position c.args.offset (length c.args.out.now) place there c.in_ok-fetch.fetch begins c.carry_on.new.operation c.carry_on.new.outside c.in-Ok.ensures.ok

pub returns-in-Ok-clause-read : goal.returns-in-Ok-clause-read
returns-in-Ok-clause-read g c came =
    let s = c.self.inside in
    let old : FetchedState _ = record { outside = s.outside; index = s.index; places = s.places.items; session = s.session; lacks_memory = s.lacks_memory } in
    let place : SharePlace = c.index.result.now in
    let range : ShareRange = record { place = place; offset = c.args.offset; length = length c.args.out.now } in
    let within : c.args.position < length s.places.items = subst (λ (n : ℕ). c.args.position < n) (c.len.ensures ∙ s.places.ok.0) c.if-position-len.false in
    let there : slice_get s.places.items c.args.position ≡ Some place = got s.places.items c.args.position place within c.index.ensures in
    let begins = subst (λ (n : ℕ). Begins s.index range s.session n c.in_ok-fetch.fetch) c.clock.ensures c.in_ok-fetch.ensures in
    let new : FetchedState _ = record { outside = c.carry_on.new.outside; index = s.index; places = s.places.items; session = c.saturating_add-self-inside.result; lacks_memory = s.lacks_memory } in
    let others : new ≡ after_read old c.carry_on.new.outside = ap (λ (n : ℕ). let t : FetchedState _ = record { outside = c.carry_on.new.outside; index = s.index; places = s.places.items; session = n; lacks_memory = s.lacks_memory } in t) c.saturating_add-self-inside.ensures in
    subst (λ (o : FetchedState _). IsReadOver g.G.Outside.calls o c.args.position c.args.offset c.copy_to.new.out new) c.self.view_is
    (was_read g.G.Outside.calls old c.args.position c.args.offset (length c.args.out.now) place there c.in_ok-fetch.fetch begins c.carry_on.new.operation c.carry_on.new.outside c.in-Ok.ensures.ok
    c.copy_to.new.out (c.copy_to.ensures.fetched came) new refl others)

pub returns-in-Ok-clause-unread : goal.returns-in-Ok-clause-unread
returns-in-Ok-clause-unread g c none =
    let s = c.self.inside in
    let old : FetchedState _ = record { outside = s.outside; index = s.index; places = s.places.items; session = s.session; lacks_memory = s.lacks_memory } in
    let place : SharePlace = c.index.result.now in
    let range : ShareRange = record { place = place; offset = c.args.offset; length = length c.args.out.now } in
    let within : c.args.position < length s.places.items = subst (λ (n : ℕ). c.args.position < n) (c.len.ensures ∙ s.places.ok.0) c.if-position-len.false in
    let there : slice_get s.places.items c.args.position ≡ Some place = got s.places.items c.args.position place within c.index.ensures in
    let begins = subst (λ (n : ℕ). Begins s.index range s.session n c.in_ok-fetch.fetch) c.clock.ensures c.in_ok-fetch.ensures in
    let new : FetchedState _ = record { outside = c.carry_on.new.outside; index = s.index; places = s.places.items; session = c.saturating_add-self-inside.result; lacks_memory = s.lacks_memory } in
    subst (λ (o : FetchedState _). IsUnanswered g.G.Outside.calls o c.args.position c.args.offset (length c.args.out.now) new) c.self.view_is
    (was_missing g.G.Outside.calls old c.args.position c.args.offset (length c.args.out.now) place there c.in_ok-fetch.fetch begins c.carry_on.new.operation c.carry_on.new.outside c.in-Ok.ensures.ok
    (c.copy_to.ensures.missing none) new refl)

pub returns-in-Err-TurnLimit-clause-unread : goal.returns-in-Err-TurnLimit-clause-unread
returns-in-Err-TurnLimit-clause-unread g c none =
    let s = c.self.inside in
    let old : FetchedState _ = record { outside = s.outside; index = s.index; places = s.places.items; session = s.session; lacks_memory = s.lacks_memory } in
    let place : SharePlace = c.index.result.now in
    let range : ShareRange = record { place = place; offset = c.args.offset; length = length c.args.out.now } in
    let within : c.args.position < length s.places.items = subst (λ (n : ℕ). c.args.position < n) (c.len.ensures ∙ s.places.ok.0) c.if-position-len.false in
    let there : slice_get s.places.items c.args.position ≡ Some place = got s.places.items c.args.position place within c.index.ensures in
    let begins = subst (λ (n : ℕ). Begins s.index range s.session n c.in_ok-fetch.fetch) c.clock.ensures c.in_ok-fetch.ensures in
    let new : FetchedState _ = record { outside = c.carry_on.new.outside; index = s.index; places = s.places.items; session = c.saturating_add-self-inside.result; lacks_memory = s.lacks_memory } in
    subst (λ (o : FetchedState _). IsUnanswered g.G.Outside.calls o c.args.position c.args.offset (length c.args.out.now) new) c.self.view_is
    (was_unended g.G.Outside.calls old c.args.position c.args.offset (length c.args.out.now) place there c.in_ok-fetch.fetch begins c.carry_on.new.operation c.carry_on.new.outside
    (c.in-Err-TurnLimit.ensures.turn_limit (ap (λ e. Err e) c.in-Err-TurnLimit.field-0-is)) new refl)
