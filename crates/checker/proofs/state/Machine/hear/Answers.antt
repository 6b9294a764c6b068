use Rattle.std.proofs.Common.{◌≡◌, ◌∙◌, ℕ, [], ◌∷◌, inl, Some, sym, subst}
use Rattle.std.proofs.lemmas.Bool.{false≢true}
use Rattle.lemmas.proofs.Members.{contains_head, contains_none}
use Rattle.request_record.specs.Record.{RequestsState, counts_at}
use Rattle.wire.specs.declared.message.Message.{Message}
use Rattle.request_record.specs.Asking.{AsksOnce, after_message}
use Rattle.request_record.proofs.AskingLaws.{once_answered}
use Rattle.checker.specs.Book.{state_of}
use Rattle.checker.specs.Moves.{GoesOn, Stops}
use Rattle.lemmas.proofs.Results.{if_ok_then}
use Rattle.checker.specs.declared.status.CheckStatus.TheVariants.{Running, Failed}
use Rattle.checker.specs.declared.status.CheckStatus.{CheckStatus}
use Rattle.checker.proofs.Keeping.{asks_trans, book_counted, goes_on_running, kept_counted, kept_failed, on_err_all, safe_goes, stops_with}
use Rattle.checker.proofs.RecordMoves.{IsCounted, counted_at_position, message_brought}
use Rattle.checker.proofs.state.Machine.hear.Goals as goal

runs_well : (s : CheckStatus) → s ≡ Running → s ≡ Failed → ⊥
runs_well s e f = clash (sym e ∙ f)
  where
    clash : Running ≡ Failed → ⊥
    clash g = cc

counted_as : (from now : ℕ) (m : Message) (s r : RequestsState) (position : ℕ) → Some position ≡ counts_at from m s → r ≡ after_message from m now s → IsCounted s.entries r.entries position
counted_as from now m s r position counts is = subst (λ (x : RequestsState). IsCounted s.entries x.entries position) (sym is) (counted_at_position from now m s position counts)

once_as : (from now : ℕ) (m : Message) (s r : RequestsState) → r ≡ after_message from m now s → AsksOnce s.entries → AsksOnce r.entries
once_as from now m s r is once = subst (λ (x : RequestsState). AsksOnce x.entries) (sym is) (once_answered from now m s once)

pub returns-then-not-is_running-clause-kept : goal.returns-then-not-is_running-clause-kept
returns-then-not-is_running-clause-kept c =
    let m = c.args.self.now in
    let r = c.take_answer.new.self in
    kept_counted m r c.in-Some.counted.position c.args.status (λ e. false≢true (sym c.if-not-is_running.true ∙ c.is_running.ensures.1 e))
    (counted_as c.args.from c.args.now c.args.message m.requests r c.in-Some.counted.position c.in-Some.ensures.position c.take_answer.ensures.«record»)
    (once_as c.args.from c.args.now c.args.message m.requests r c.take_answer.ensures.«record» c.requires.kept.safe.once) c.requires.kept

pub returns-then-not-is_running-clause-failed : goal.returns-then-not-is_running-clause-failed
returns-then-not-is_running-clause-failed c =
    let m = c.args.self.now in
    let r = c.take_answer.new.self in
    kept_failed (record m { requests = r }) c.args.status
    (kept_counted m r c.in-Some.counted.position c.args.status (λ e. false≢true (sym c.if-not-is_running.true ∙ c.is_running.ensures.1 e))
    (counted_as c.args.from c.args.now c.args.message m.requests r c.in-Some.counted.position c.in-Some.ensures.position c.take_answer.ensures.«record»)
    (once_as c.args.from c.args.now c.args.message m.requests r c.take_answer.ensures.«record» c.requires.kept.safe.once) c.requires.kept)

pub take_in-requires-clause-safe : goal.take_in-requires-clause-safe
take_in-requires-clause-safe c =
    let m = c.args.self.now in
    let r = c.take_answer.new.self in
    safe_goes m r (c.in-Some.counted.position ∷ [])
    (counted_as c.args.from c.args.now c.args.message m.requests r c.in-Some.counted.position c.in-Some.ensures.position c.take_answer.ensures.«record»).goes
    (once_as c.args.from c.args.now c.args.message m.requests r c.take_answer.ensures.«record» c.requires.kept.safe.once) c.requires.kept.safe

pub take_in-requires-clause-settled : goal.take_in-requires-clause-settled
take_in-requires-clause-settled c r e =
    (counted_as c.args.from c.args.now c.args.message c.args.self.now.requests c.take_answer.new.self c.in-Some.counted.position c.in-Some.ensures.position c.take_answer.ensures.«record»).quiet
    c.in-Some.counted.position r (contains_head c.in-Some.counted.position []) e

pub take_in-requires-clause-brought : goal.take_in-requires-clause-brought
take_in-requires-clause-brought c =
    message_brought c.args.from c.args.now c.args.message c.args.self.now.requests c.take_answer.new.self c.in-Some.counted.position _ c.in-Some.ensures.position c.take_answer.ensures.«record» c.in-Some.ensures.bytes

pub take_in-requires-clause-book : goal.take_in-requires-clause-book
take_in-requires-clause-book c = (
  [],
  book_counted c.args.self.now c.take_answer.new.self c.in-Some.counted.position
      (counted_as c.args.from c.args.now c.args.message c.args.self.now.requests c.take_answer.new.self c.in-Some.counted.position c.in-Some.ensures.position c.take_answer.ensures.«record»)
      (c.requires.kept.book (runs_well c.args.status (c.is_running.ensures.0 c.if-not-is_running.false))),
)

pub settle-requires-clause-book : goal.settle-requires-clause-book
settle-requires-clause-book c =
    c.in_ok-take_in.ensures.book []
    (book_counted c.args.self.now c.take_answer.new.self c.in-Some.counted.position
    (counted_as c.args.from c.args.now c.args.message c.args.self.now.requests c.take_answer.new.self c.in-Some.counted.position c.in-Some.ensures.position c.take_answer.ensures.«record»)
    (c.requires.kept.book (runs_well c.args.status (c.is_running.ensures.0 c.if-not-is_running.false))))
    (inl (λ h. contains_none c.in-Some.counted.position h))

pub settle-requires-clause-awaited : goal.settle-requires-clause-awaited
settle-requires-clause-awaited c = c.in_ok-take_in.ensures.awaited (c.requires.kept.awaited (runs_well c.args.status (c.is_running.ensures.0 c.if-not-is_running.false)))

pub returns-clause-ok : goal.returns-clause-ok
returns-clause-ok c =
    let m = c.args.self.now in
    let r = c.take_answer.new.self in
    if_ok_then c.settle.result _ _ c.settle.ensures.stands
    (λ ended stands servers. subst (λ (x : RequestsState). GoesOn x (state_of m servers c.args.status) (state_of c.settle.new.self servers ended)) c.take_answer.ensures.«record»
    (goes_on_running m c.settle.new.self r servers c.args.status ended (c.is_running.ensures.0 c.if-not-is_running.false) stands
    (asks_trans (record m { requests = r }) c.take_in.new.self c.settle.new.self c.take_in.ensures.asks c.settle.ensures.asks)))

pub returns-clause-err : goal.returns-clause-err
returns-clause-err c =
    let m = c.args.self.now in
    let r = c.take_answer.new.self in
    on_err_all c.settle.result _ (λ servers. subst (λ (x : RequestsState). Stops x (state_of m servers c.args.status) (state_of c.settle.new.self servers Failed)) c.take_answer.ensures.«record»
    (stops_with m c.settle.new.self r servers c.args.status
    (asks_trans (record m { requests = r }) c.take_in.new.self c.settle.new.self c.take_in.ensures.asks c.settle.ensures.asks)))

pub returns-in_err-take_in-clause-err : goal.returns-in_err-take_in-clause-err
returns-in_err-take_in-clause-err c =
    let m = c.args.self.now in
    on_err_all c.from_residual.result _ (λ servers. subst (λ (x : RequestsState). Stops x (state_of m servers c.args.status) (state_of c.take_in.new.self servers Failed)) c.take_answer.ensures.«record»
    (stops_with m c.take_in.new.self c.take_answer.new.self servers c.args.status c.take_in.ensures.asks))
