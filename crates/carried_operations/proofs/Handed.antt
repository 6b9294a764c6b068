-- How a download goes on whose pieces are taken as soon as they are made.
use Rattle.std.proofs.Common.{◌≡◌, ℕ, List, Option, Some, None, refl, sym, ap, subst, ◌∙◌}
use Rattle.wire.specs.declared.message.Message.{Message}
use Rattle.request_record.specs.Follow.{Follows, IsSaid, Nothing, Said}
use Rattle.request_record.proofs.FollowLaws.{follows_itself}
use Rattle.download_segments.specs.declared.piece.Piece.{Piece}
use Rattle.download_core.specs.Hashed.{StaysGiven}
use Rattle.download_core.specs.Moves.{IsSame, found_handed, with_handed}
use Rattle.download_core.specs.Sending.{Takes}
use Rattle.download_core.specs.State.{DownloadState, handed, ready}
use Rattle.download_core.proofs.Following.{advances_follow, takes_follow, ticks_follow}
use Rattle.download_core.proofs.HashedLemmas.{handed_given, sent_stays}
use Rattle.carried_operations.proofs.Runs.{IsLaw, follows_both, follows_wider}
use Rattle.carried_operations.specs.Handing.{Hands, end_of, handing_calls}

-- A download goes on by answers: it is for the same, and what it gave stays given.
pub record Continues (New : Said) (old new : DownloadState) : Type 0 where
  pub cap : new.cap ≡ old.cap
  pub from : new.from ≡ old.from
  pub to : new.to ≡ old.to
  pub given : StaysGiven old new
  pub follows : Follows New old.requests new.requests

-- one way of going on after another
pub continues_both : (New : Said) (a b c : DownloadState) → Continues New a b → Continues New b c → Continues New a c
continues_both New a b c f g = record {
  cap = g.cap ∙ f.cap;
  from = g.from ∙ f.from;
  to = g.to ∙ f.to;
  given = λ p is. g.given p (f.given p is);
  follows = follows_both New a.requests b.requests c.requests f.follows g.follows;
}

wider : (Old New : Said) (a b : DownloadState) → ((position server : ℕ) (asked : _) (said : _) → Old position server asked said → New position server asked said) → Continues Old a b → Continues New a b
wider Old New a b more f = record { cap = f.cap; from = f.from; to = f.to; given = f.given; follows = follows_wider Old New a.requests b.requests more f.follows }

itself : (New : Said) (d : DownloadState) → Continues New d d
itself New d = record { cap = refl; from = refl; to = refl; given = λ p is. is; follows = follows_itself New d.requests }

-- a request is taken
taken_on : (old : DownloadState) (taken : Option (ℕ × Message)) (new : DownloadState) → Takes old taken new → Continues Nothing old new
taken_on old None new t = subst (Continues Nothing old) (sym t.1) (itself Nothing old)
taken_on old (Some f) new t = record {
  cap = ap (λ (d : DownloadState). d.cap) t.3;
  from = ap (λ (d : DownloadState). d.from) t.3;
  to = ap (λ (d : DownloadState). d.to) t.3;
  given = sent_stays old new (Some f) t;
  follows = takes_follow old new (Some f) t;
}

-- the file of these pieces gives what it gave
given_on : (old : DownloadState) (pieces : List Piece) (offset : ℕ) → StaysGiven old (record old { found = found_handed pieces offset old.found })
given_on old pieces offset p g = record {
  found = with_handed pieces offset g.found;
  there = ap (found_handed pieces offset) g.there;
  given = handed_given old.requests.entries pieces offset g.found p g.given;
}

-- pieces are taken
pub handed_on : (old new : DownloadState) (pieces : List Piece) → Hands pieces old new → Continues Nothing old new
handed_on old new pieces h = subst (Continues Nothing old) (sym h.others) (record {
  cap = refl;
  from = refl;
  to = refl;
  given = given_on old (ready new) (end_of (handed old) pieces);
  follows = follows_itself Nothing old.requests;
})

-- a call that moves the download, and pieces that are taken then
moved_on : (New : Said) (old moved new : DownloadState) (pieces : List Piece) → IsSame old moved → Follows New old.requests moved.requests → Hands pieces moved new → Continues New old new
moved_on New old moved new pieces same follows h = continues_both New old moved new
    (record { cap = same.cap; from = same.range.0; to = same.range.1; given = same.stays; follows = follows })
    (wider Nothing New moved new (λ position server asked said n. absurd n) (handed_on moved new pieces h))

-- The law of downloads whose pieces are taken as soon as they are made.
pub downloads_go_on : IsLaw handing_calls Continues
downloads_go_on = record {
  itself = itself;
  both = continues_both;
  wider = wider;
  session = λ New a b f. f.follows.session_is;
  takes = taken_on;
  hears = λ old from m now new h. moved_on (IsSaid from m old.requests.session) old h.moved new h.pieces h.moves_on.same (advances_follow from now m old h.moved h.moves_on) h.hands;
  ticks = λ old now new t. moved_on Nothing old t.moved new t.pieces t.moves_on.same (ticks_follow now old t.moved t.moves_on) t.hands;
}
