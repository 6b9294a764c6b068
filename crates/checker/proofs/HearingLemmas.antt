-- A share is read on by the pieces that came.
use Rattle.std.proofs.Common.{◌≡◌, ◌≢◌, ℕ, ◌<◌, Bool, true, false, List, [], ◌∷◌, ◌++◌, length, set, Option, Some, None, Vec, Global, ap, refl, sym, subst, ◌∙◌, arith, inl, inr, ◌⊎◌}
use Rattle.std.specs.Prelude.{slice_get, option_map}
use Rattle.std.specs.declared.collections.VecDeque.{VecDeque}
use Rattle.std.proofs.lemmas.Option.{same_Some}
use Rattle.cap_text.specs.Cap.{VerifyCapValue}
use Rattle.request_record.specs.declared.requests.Asked.TheVariants.{Reading}
use Rattle.request_record.specs.declared.requests.Request.{Request}
use Rattle.share_verify.specs.declared.check.Check.{Check}
use Rattle.share_reading.specs.Judged.{IsUnderway}
use Rattle.share_reading.specs.Reading as reading
use Rattle.share_reading.specs.declared.judged.Found.{Found}
use Rattle.share_reading.specs.declared.judged.Found.TheVariants as found
use Rattle.share_reading.specs.declared.reading.ShareReading.{ShareReading}
use Rattle.share_reading.specs.declared.verdict.Verdict.{Verdict}
use Rattle.share_reading.specs.declared.verdict.Verdict.TheVariants as verdicts
use Rattle.checker.specs.Book.{HasCome, IsBrought, IsPiece, IsReadOnlyAt, IsReading, IsSettledAt}
use Rattle.checker.specs.Hearing.{Hears, IsHeard, IsNoted, IsReadOn, IsReady, IsSameShare, IsTakenFirst}
use Rattle.checker.specs.Offers.{IsEndedBy, IsTaken, key_of}
use Rattle.checker.specs.Wanted.{AllCame, AnyCameFor, AnyWaits, NoneWaits, came_for, length_ahead, offset_ahead, positions_of}
use Rattle.checker.specs.declared.offers.Offer.{Offer}
use Rattle.checker.specs.declared.offers.Stage.TheVariants.{Read}
use Rattle.checker.specs.declared.wanted.Came.{Came}
use Rattle.checker.specs.declared.wanted.Came.TheVariants.{Bytes, Nothing}
use Rattle.checker.specs.declared.wanted.Wanted.{Wanted}
use Rattle.checker.proofs.AheadLemmas.{span_once}
use Rattle.checker.proofs.AnswerMoves.{all_came_behind, ended_same, is_lost, offset_in, same_key, stops_alone, taken_next, taken_stopped, taken_whole, waits_behind}
use Rattle.checker.proofs.BookMoves.{get_changed, map_set}
use Rattle.checker.proofs.OfferMoves.{piece_less}

abbrev pub text_of : Option (Vec ℕ Global) → Option (List ℕ)
text_of bytes = option_map (λ (v : Vec ℕ Global). v.items) bytes

-- ---- the next piece is read

pub underway_of : (cap : VerifyCapValue) (es : List Request) (todo : List ℕ) (o : Offer) (r : ShareReading) → IsReading cap es todo o r → IsUnderway cap r o.judged
underway_of cap es todo o r is = record { front = is.front; back = is.back; led = is.led; judged = is.judged }

-- what is noted of it besides is no matter
pub retaken : (cap : VerifyCapValue) (r : ShareReading) (position : ℕ) (bytes text : List ℕ) (f : Found) (o n : Offer) (q : VecDeque Wanted Global) → text ≡ bytes
    → IsTaken cap r position text f (record o { wanted = q }) n → IsTaken cap r position bytes f o n
retaken cap r position bytes text f o n q same t =
    let u = subst (λ (l : List ℕ). IsTaken cap r position l f (record o { wanted = q }) n) same t in
    record {
      kept = record { server = u.kept.server; share = u.kept.share; front = u.kept.front; back = u.kept.back; pieces = u.kept.pieces };
      comes = u.comes;
      judged = u.judged;
    }

-- it is read on so far
pub record IsOn (cap : VerifyCapValue) (waits : Bool) (old : Offer) (r : ShareReading) (o : Offer) (s : ShareReading) : Type 0 where
  pub same : IsSameShare old o
  pub waiting : waits ≡ true → AnyWaits o.wanted.items
  pub came : waits ≡ false → AllCame o.wanted.items
  pub some : (entries : List Request) × (todo : List ℕ) × IsReading cap entries todo o s
  pub comes : (entries : List Request) (todo : List ℕ) → IsReading cap entries todo old r → IsReading cap entries todo o s

same_share : (o : Offer) → IsSameShare o o
same_share o = record { server = refl; share = refl; keeps = refl }

same_twice : (a b c : Offer) → IsSameShare a b → IsSameShare b c → IsSameShare a c
same_twice a b c one two = record { server = two.server ∙ one.server; share = two.share ∙ one.share; keeps = two.keeps ∙ one.keeps }

same_ended : (o n : Offer) (v : Verdict) → IsEndedBy v o n → IsSameShare o n
same_ended o n v by = record { server = by.server; share = by.share; keeps = by.keeps }

same_taken : (cap : VerifyCapValue) (r : ShareReading) (f : Found) (o n : Offer) → IsTakenFirst cap r f o n → IsSameShare o n
same_taken cap r f o n t = record { server = t.taken.kept.server; share = t.taken.kept.share; keeps = t.taken.kept.pieces.keeps }

pub on_first : (cap : VerifyCapValue) (waits : Bool) (o : Offer) (r : ShareReading) → (waits ≡ true → AnyWaits o.wanted.items) → (waits ≡ false → AllCame o.wanted.items)
    → (entries : List Request) × (todo : List ℕ) × IsReading cap entries todo o r → IsOn cap waits o r o r
on_first cap waits o r waiting came some = record { same = same_share o; waiting = waiting; came = came; some = some; comes = λ es todo is. is }

module _ (cap : VerifyCapValue) (waits : Bool) (old : Offer) (r : ShareReading) (o n : Offer) (s : ShareReading) (on : IsOn cap waits old r o s) where
  pub on_next : (next : ShareReading) → IsTakenFirst cap s (found.Next next) o n → IsOn cap waits old r n next
  on_next next t = record {
    same = same_twice old o n on.same (same_taken cap s (found.Next next) o n t);
    waiting = λ e. waits_behind t.first n.wanted.items o.wanted.items t.bytes t.wanted t.came (on.waiting e);
    came = λ e. all_came_behind t.first n.wanted.items o.wanted.items t.wanted (on.came e);
    some = (on.some.0, on.some.1, taken_next cap s o n next t on.some.0 on.some.1 on.some.2);
    comes = λ es todo is. taken_next cap s o n next t es todo (on.comes es todo is);
  }

  pub fewer_next : (next : ShareReading) → IsTakenFirst cap s (found.Next next) o n → length n.wanted.items < length o.wanted.items
  fewer_next next t = omega (arith, ap length t.wanted)

  pub on_whole : (verdict : Verdict) (e : Offer) → IsTakenFirst cap s (found.Whole verdict) o n → IsEndedBy verdict n e → IsReadOn cap old r e None
  on_whole verdict e t by = record {
    same = same_twice old o e on.same (same_twice o n e (same_taken cap s (found.Whole verdict) o n t) (same_ended n e verdict by));
    stands = (verdict, by.stage);
    comes = λ es todo is. (verdict, by.stage, taken_whole cap s o n verdict e t by es todo (on.comes es todo is));
  }

  -- the piece is as long as was asked for, where another waits: so none waits
  all_came : (check : Check) → IsTakenFirst cap s (found.Stopped check) o n → IsReady s waits o.wanted.items → (b : Bool) → waits ≡ b → AllCame o.wanted.items
  all_came check t ready true e =
      stops_alone cap on.some.0 on.some.1 o s t.first n.wanted.items t.bytes check on.some.2 t.wanted t.came (same_long (ready.long e)) t.taken.comes
    where
      heads : ready.first ≡ t.first
      heads = same_Some ready.first t.first (ap (λ (l : List Wanted). slice_get l 0) (sym ready.is ∙ t.wanted))

      same_bytes : (a b : Vec ℕ Global) → Bytes a ≡ Bytes b → a ≡ b
      same_bytes a b h = cc

      same_long : length ready.bytes.items ≡ reading.next_length s → length t.bytes.items ≡ reading.next_length s
      same_long long = ap (λ (x : Vec ℕ Global). length x.items) (same_bytes t.bytes ready.bytes (sym t.came ∙ ap (λ (w : Wanted). w.came) (sym heads) ∙ ready.came)) ∙ long
  all_came check t ready false e = on.came e

  pub on_stopped : (check : Check) (e : Offer) → IsReady s waits o.wanted.items → IsTakenFirst cap s (found.Stopped check) o n → IsEndedBy (verdicts.Corrupt check) n e → IsReadOn cap old r e None
  on_stopped check e ready t by = record {
    same = same_twice old o e on.same (same_twice o n e (same_taken cap s (found.Stopped check) o n t) (same_ended n e (verdicts.Corrupt check) by));
    stands = (verdicts.Corrupt check, by.stage);
    comes = λ es todo is. (verdicts.Corrupt check, by.stage, taken_stopped cap s o n check e t (all_came check t ready waits refl) by es todo (on.comes es todo is));
  }

-- no piece is read any more
module _ (cap : VerifyCapValue) (waits : Bool) (old : Offer) (r : ShareReading) (o : Offer) (s : ShareReading) (on : IsOn cap waits old r o s) where
  stays : (es : List Request) (todo : List ℕ) (n : Offer) → n ≡ record o { stage = Read s } → IsReading cap es todo o s → IsReading cap es todo n s
  stays es todo n is reads = subst (λ (x : Offer). IsReading cap es todo x s) (sym is) (record {
    front = reads.front;
    back = reads.back;
    led = reads.led;
    front_at = reads.front_at;
    back_at = reads.back_at;
    judged = reads.judged;
    pieces = reads.pieces;
    wanted = reads.wanted;
    only = reads.only;
  })

  left : (b : Bool) → waits ≡ b → (waits ≡ false → AllCame o.wanted.items → o.wanted.items ≡ []) → AnyWaits o.wanted.items ⊎ (o.wanted.items ≡ [])
  left true e none = inl (on.waiting e)
  left false e none = inr (none e (on.came e))

  pub on_end : (n : Offer) → n ≡ record o { stage = Read s } → (waits ≡ false → AllCame o.wanted.items → o.wanted.items ≡ []) → IsReadOn cap old r n (Some s)
  on_end n is none = record {
    same = same_twice old o n on.same (subst (IsSameShare o) (sym is) (record { server = refl; share = refl; keeps = refl }));
    stands = (ap (λ (x : Offer). x.stage) is, subst (λ (x : Offer). AnyWaits x.wanted.items ⊎ (x.wanted.items ≡ [])) (sym is) (left waits refl none));
    comes = λ es todo was. stays es todo n is (on.comes es todo was);
  }

-- ---- what came for a piece is noted

come_noted : (es : List Request) (todo : List ℕ) (q : Request) (position : ℕ) (bytes : Option (Vec ℕ Global)) → slice_get es position ≡ Some q → IsSettledAt es position → IsBrought es position (text_of bytes)
    → HasCome todo q position (came_for bytes)
come_noted es todo q position (Some v) there settled brought = ap (λ (x : Request). x.outcome) (same_Some q brought.request (sym there ∙ brought.there)) ∙ brought.answer
come_noted es todo q position None there settled brought = (settled q there, λ bytes e. brought bytes (record { request = q; there = there; answer = e }))

pub noted_at : (o : Offer) (q : VecDeque Wanted Global) (piece : ℕ) (x : Wanted) (came c : Came) → slice_get o.wanted.items piece ≡ Some x → came ≡ c
    → q.items ≡ set o.wanted.items piece (record { position = x.position; came = came }) → IsNoted piece c o (record o { wanted = q })
noted_at o q piece x came c there same items = record {
  was = x;
  there = there;
  wanted = items ∙ ap (λ (y : Came). set o.wanted.items piece (record { position = x.position; came = y })) same;
  rest = refl;
}

module _ (cap : VerifyCapValue) (o n : Offer) (r : ShareReading) (piece : ℕ) (bytes : Option (Vec ℕ Global)) (noted : IsNoted piece (came_for bytes) o n) where
  pub hears_on : (es : List Request) (todo : List ℕ) → Hears cap es todo o r piece (text_of bytes) → IsReading cap es todo n r
  hears_on es todo h = subst (λ (x : Offer). IsReading cap es todo x r) (sym noted.rest) (record {
    front = h.is.front;
    back = h.is.back;
    led = h.is.led;
    front_at = h.is.front_at;
    back_at = h.is.back_at;
    judged = h.is.judged;
    pieces = h.is.pieces;
    wanted = λ i x e. by i x (ap (λ (l : List Wanted). slice_get l i) (sym noted.wanted) ∙ e);
    only = subst (λ (l : List ℕ). IsReadOnlyAt es (key_of o) (l ++ (o.front.items ++ o.back.items))) (sym positions) h.is.only;
  })
    where
      new : Wanted
      new = record { position = noted.was.position; came = came_for bytes }

      same : noted.was ≡ h.wanted
      same = same_Some noted.was h.wanted (sym noted.there ∙ h.there)

      at : noted.was.position ≡ h.wanted.position
      at = ap (λ (w : Wanted). w.position) same

      positions : positions_of n.wanted.items ≡ positions_of o.wanted.items
      positions = ap positions_of noted.wanted ∙ map_set (λ (w : Wanted). w.position) o.wanted.items piece noted.was new noted.there refl

      was : IsPiece es (h.wanted.position ∷ todo) (key_of o) r piece h.wanted
      was = h.is.wanted piece h.wanted h.there

      here_now : IsPiece es todo (key_of o) r piece new
      here_now = record {
        ahead = was.ahead;
        request = was.request;
        there = ap (slice_get es) at ∙ was.there;
        server = was.server;
        asked = was.asked;
        came = subst (λ p. HasCome todo was.request p (came_for bytes)) (sym at) (come_noted es todo was.request h.wanted.position bytes was.there h.settled h.brought);
      }

      -- each piece has a request of its own
      apart : (i : ℕ) (x : Wanted) → i ≢ piece → slice_get o.wanted.items i ≡ Some x → x.position ≡ h.wanted.position → ⊥
      apart i x other e here =
          let p = h.is.wanted i x e in
          let one : p.request ≡ was.request = same_Some p.request was.request (sym p.there ∙ ap (slice_get es) here ∙ was.there) in
          let asks : Reading o.share (offset_ahead r i) (length_ahead r i) ≡ Reading o.share (offset_ahead r piece) (length_ahead r piece) = sym p.asked ∙ ap (λ (q : Request). q.asked) one ∙ was.asked in
          other (span_once r i piece p.ahead was.ahead (ap offset_in asks))

      by : (i : ℕ) (x : Wanted) → slice_get (set o.wanted.items piece new) i ≡ Some x → IsPiece es todo (key_of o) r i x
      by i x e = elim (get_changed o.wanted.items piece i noted.was new x noted.there e) [
        | inl here ↦ subst (λ (y : Wanted). IsPiece es todo (key_of o) r i y) (sym here.1) (subst (λ j. IsPiece es todo (key_of o) r j new) (sym here.0) here_now)
        | inr other ↦ piece_less es todo h.wanted.position (key_of o) r i x (apart i x other.0 other.1) (h.is.wanted i x other.1)
      ]

  same_noted : IsSameShare o n
  same_noted = subst (IsSameShare o) (sym noted.rest) (record { server = refl; share = refl; keeps = refl })

  -- and it is read on
  pub heard_on : (e : Offer) (next : Option ShareReading) → IsReadOn cap n r e next → IsHeard cap o r piece (text_of bytes) e next
  heard_on e next on = record {
    same = same_twice o n e same_noted on.same;
    stands = on.stands;
    comes = λ es todo h. on.comes es todo (hears_on es todo h);
  }

  -- or lost
  pub heard_lost : (e : Offer) → NoneWaits n.wanted.items → AnyCameFor Nothing n.wanted.items → IsEndedBy verdicts.Lost n e → IsHeard cap o r piece (text_of bytes) e None
  heard_lost e none some by = record {
    same = same_twice o n e same_noted (same_ended n e verdicts.Lost by);
    stands = (verdicts.Lost, by.stage);
    comes = λ es todo h. (
      verdicts.Lost,
      by.stage,
      ended_same cap es n e verdicts.Lost (λ x. cc) (same_key n e verdicts.Lost by) (is_lost cap es todo n r (hears_on es todo h) none some.0 some.1 some.2 some.3),
    );
  }
