use Rattle.checker.proofs.AskingMoves.{asks_after, heard_asking, heard_awaited, heard_book, heard_but, safe_with}
use Rattle.checker.proofs.HearingLemmas.{text_of}
use Rattle.checker.proofs.MachineMoves.{asks_nothing, hears, safe_same}
use Rattle.checker.proofs.state.Machine.take_answer.Goals as goal

pub hear_piece-requires : goal.hear_piece-requires
hear_piece-requires c =
    let m = c.args.self.now in
    let position = c.requires.waits.0 in
    let todo = c.requires.waits.1 in
    let a = c.requires.waits.2 in
    record { there = (a.offer, a.is.there, (m.requests.entries, todo, hears m c.args.offer c.args.reading.now c.args.piece position (text_of c.args.bytes) todo a)) }

pub ask_on-requires-clause-safe : goal.ask_on-requires-clause-safe
ask_on-requires-clause-safe c =
    let m = c.args.self.now in
    let mid = c.hear_piece.new.self in
    let k = c.args.offer in
    let r = c.args.reading.now in
    let bytes = text_of c.args.bytes in
    let position = c.requires.waits.0 in
    let todo = c.requires.waits.1 in
    let a = c.requires.waits.2 in
    let x = c.in_ok-next.ensures.heard a.offer a.is.there in
    safe_with m mid _ _ x.is c.requires.safe

pub ask_on-requires-clause-there : goal.ask_on-requires-clause-there
ask_on-requires-clause-there c =
    let m = c.args.self.now in
    let mid = c.hear_piece.new.self in
    let k = c.args.offer in
    let r = c.args.reading.now in
    let bytes = text_of c.args.bytes in
    let position = c.requires.waits.0 in
    let todo = c.requires.waits.1 in
    let a = c.requires.waits.2 in
    let x = c.in_ok-next.ensures.heard a.offer a.is.there in
    (x.offer, heard_asking m mid k r c.args.piece position bytes todo a x.offer c.in_ok-next.field-0 x.heard x.is c.in-Some.next c.in-Some.is)

pub ask_on-requires-clause-book : goal.ask_on-requires-clause-book
ask_on-requires-clause-book c =
    let m = c.args.self.now in
    let mid = c.hear_piece.new.self in
    let k = c.args.offer in
    let r = c.args.reading.now in
    let bytes = text_of c.args.bytes in
    let position = c.requires.waits.0 in
    let todo = c.requires.waits.1 in
    let a = c.requires.waits.2 in
    let x = c.in_ok-next.ensures.heard a.offer a.is.there in
    (todo, heard_book m mid k r c.args.piece position bytes todo a x.offer c.in_ok-next.field-0 x.heard x.is)

pub returns-in-Some-clause-book : goal.returns-in-Some-clause-book
returns-in-Some-clause-book c position todo a =
    let m = c.args.self.now in
    let mid = c.hear_piece.new.self in
    let k = c.args.offer in
    let r = c.args.reading.now in
    let bytes = text_of c.args.bytes in
    let x = c.in_ok-next.ensures.heard a.offer a.is.there in
    c.ask_on.ensures.book todo (heard_book m mid k r c.args.piece position bytes todo a x.offer c.in_ok-next.field-0 x.heard x.is)

pub returns-in-Some-clause-awaited : goal.returns-in-Some-clause-awaited
returns-in-Some-clause-awaited c all =
    let m = c.args.self.now in
    let mid = c.hear_piece.new.self in
    let k = c.args.offer in
    let r = c.args.reading.now in
    let bytes = text_of c.args.bytes in
    let position = c.requires.waits.0 in
    let todo = c.requires.waits.1 in
    let a = c.requires.waits.2 in
    let x = c.in_ok-next.ensures.heard a.offer a.is.there in
    c.ask_on.ensures.awaited (heard_but m mid k r c.args.piece position bytes todo a x.offer c.in_ok-next.field-0 x.heard x.is c.in-Some.next c.in-Some.is all)

pub returns-in-Some-clause-asks : goal.returns-in-Some-clause-asks
returns-in-Some-clause-asks c =
    let m = c.args.self.now in
    let mid = c.hear_piece.new.self in
    let k = c.args.offer in
    let r = c.args.reading.now in
    let bytes = text_of c.args.bytes in
    let position = c.requires.waits.0 in
    let todo = c.requires.waits.1 in
    let a = c.requires.waits.2 in
    let x = c.in_ok-next.ensures.heard a.offer a.is.there in
    asks_after m mid c.ask_on.new.self _ _ x.is c.ask_on.ensures.asks

pub returns-in-None-clause-book : goal.returns-in-None-clause-book
returns-in-None-clause-book c position todo a =
    let m = c.args.self.now in
    let mid = c.hear_piece.new.self in
    let k = c.args.offer in
    let r = c.args.reading.now in
    let bytes = text_of c.args.bytes in
    let x = c.in_ok-next.ensures.heard a.offer a.is.there in
    heard_book m mid k r c.args.piece position bytes todo a x.offer c.in_ok-next.field-0 x.heard x.is

pub returns-in-None-clause-awaited : goal.returns-in-None-clause-awaited
returns-in-None-clause-awaited c all =
    let m = c.args.self.now in
    let mid = c.hear_piece.new.self in
    let k = c.args.offer in
    let r = c.args.reading.now in
    let bytes = text_of c.args.bytes in
    let position = c.requires.waits.0 in
    let todo = c.requires.waits.1 in
    let a = c.requires.waits.2 in
    let x = c.in_ok-next.ensures.heard a.offer a.is.there in
    heard_awaited m mid k r c.args.piece position bytes todo a x.offer c.in_ok-next.field-0 x.heard x.is c.in-None.is all

pub returns-in-None-clause-asks : goal.returns-in-None-clause-asks
returns-in-None-clause-asks c = asks_nothing c.args.self.now c.hear_piece.new.self c.hear_piece.ensures.same

pub returns-in-None-clause-safe : goal.returns-in-None-clause-safe
returns-in-None-clause-safe c = safe_same c.args.self.now c.hear_piece.new.self c.hear_piece.ensures.same c.requires.safe

pub returns-in_err-next-clause-asks : goal.returns-in_err-next-clause-asks
returns-in_err-next-clause-asks c = asks_nothing c.args.self.now c.hear_piece.new.self c.hear_piece.ensures.same

pub returns-in_err-next-clause-safe : goal.returns-in_err-next-clause-safe
returns-in_err-next-clause-safe c = safe_same c.args.self.now c.hear_piece.new.self c.hear_piece.ensures.same c.requires.safe
