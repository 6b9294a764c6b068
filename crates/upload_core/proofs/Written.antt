-- A piece that was written tells nothing more: what is in memory of a record tells what all tells.
use Rattle.std.proofs.Common.{◌≡◌, ℕ, ◌+◌, Bool, true, false, cond, not, ◌&&◌, ◌||◌, List, [], ◌∷◌, ◌++◌, Option, Some, None, filter, map, eqb, refl, sym, ap, subst, ◌∙◌, rules, true≢false}
use Rattle.std.specs.Prelude.{◌==◌, IsSome, nat_le, nat_lt, slice_get}
use Rattle.std.specs.List.{flat_map, list_any}
use Rattle.std.specs.Set.{is_member}
use Rattle.wire.specs.declared.message.Body.TheVariants.{Wrote, WrongOffset}
use Rattle.request_record.specs.declared.requests.Asked.{Asked}
use Rattle.request_record.specs.declared.requests.Asked.TheVariants.{Holdings, Allocation, Writing, Closing, Reading, Aborting}
use Rattle.request_record.specs.declared.requests.Outcome.{Outcome}
use Rattle.request_record.specs.declared.requests.Outcome.TheVariants.{Outstanding, Answered, Lost}
use Rattle.request_record.specs.declared.requests.Request.{Request}
use Rattle.request_record.specs.Record.{is_outstanding}
use Rattle.request_record.specs.Written.{IsKeptAt, is_written, kept, kept_of, wrote_all}
use Rattle.upload_core.specs.State.{Goal}
use Rattle.upload_core.specs.Acknowledged.{acked_by, acked_outcome, acked_pairs}
use Rattle.upload_core.specs.Transfers.{fails, failed_servers, has_failed, is_abort_of, is_given_up, is_piece_before, sent_from, waits_before}
use Rattle.upload_core.specs.Trails.{IsLostAt}
use Rattle.upload_core.specs.Rounds.{answered_as, asked_answered_as, has_answered_as, readonly_servers, writable_servers}

-- ---- lists without what tells nothing

module _ {X : Type 0} (gone : X → Bool) where
  abbrev left : List X → List X
  left xs = filter (λ (x : X). not (gone x)) xs

  filter_left : (test : X → Bool) → ((x : X) → gone x ≡ true → test x ≡ false) → (xs : List X) → filter test (left xs) ≡ filter test xs
  filter_left test silent [] = refl
  filter_left test silent (x ∷ xs) = by (filter_left test silent xs) (gone x) refl
    where
      by : filter test (left xs) ≡ filter test xs → (b : Bool) → gone x ≡ b → filter test (cond (not b) (x ∷ left xs) (left xs)) ≡ filter test (x ∷ xs)
      by rest true e = rest ∙ sym (ap (λ (t : Bool). cond t (x ∷ filter test xs) (filter test xs)) (silent x e))
      by rest false e = ap (λ (l : List X). cond (test x) (x ∷ l) l) rest

  flat_left : {Y : Type 0} (f : X → List Y) → ((x : X) → gone x ≡ true → f x ≡ []) → (xs : List X) → flat_map f (left xs) ≡ flat_map f xs
  flat_left {Y = Y} f silent [] = refl
  flat_left {Y = Y} f silent (x ∷ xs) = by (flat_left f silent xs) (gone x) refl
    where
      by : flat_map f (left xs) ≡ flat_map f xs → (b : Bool) → gone x ≡ b → flat_map f (cond (not b) (x ∷ left xs) (left xs)) ≡ flat_map f (x ∷ xs)
      by rest true e = rest ∙ sym (ap (λ (l : List Y). l ++ flat_map f xs) (silent x e))
      by rest false e = ap (λ (l : List Y). f x ++ l) rest

  any_left : (test : X → Bool) → ((x : X) → gone x ≡ true → test x ≡ false) → (xs : List X) → list_any test (left xs) ≡ list_any test xs
  any_left test silent [] = refl
  any_left test silent (x ∷ xs) = by (any_left test silent xs) (gone x) refl
    where
      by : list_any test (left xs) ≡ list_any test xs → (b : Bool) → gone x ≡ b → list_any test (cond (not b) (x ∷ left xs) (left xs)) ≡ list_any test (x ∷ xs)
      by rest true e = rest ∙ sym (ap (λ (t : Bool). t || list_any test xs) (silent x e))
      by rest false e = ap (λ (b : Bool). test x || b) rest

-- ---- what was written

module _ (g : Goal) where
  -- an answer that names the end of its piece carries on
  carried : (t k : Bool) → t ≡ true → (not t && k) ≡ false
  carried true k e = refl
  carried false k e = absurd (true≢false (sym e))

  carried_either : (t x k : Bool) → t ≡ true → (not (t || x) && k) ≡ false
  carried_either true x k e = refl
  carried_either false x k e = absurd (true≢false (sym e))

  written_acked : (s : ℕ) (a : Asked) (o : Outcome) → wrote_all a o ≡ true → acked_outcome g s a o ≡ []
  written_acked s (Writing share offset len) (Answered (Wrote next)) e = refl
  written_acked s (Writing share offset len) (Answered (WrongOffset next)) e = refl
  written_acked s a o e = absurd cc

  written_fails : (a : Asked) (o : Outcome) → wrote_all a o ≡ true → fails g a o ≡ false
  written_fails (Writing share offset len) (Answered (Wrote next)) e = carried (next == offset + len) true e
  written_fails (Writing share offset len) (Answered (WrongOffset next)) e = carried_either (next == offset + len) (nat_lt (offset + len) next && nat_le next (sent_from g offset)) true e
  written_fails a o e = absurd cc

written_untold : (readonly : Bool) (a : Asked) (o : Outcome) → wrote_all a o ≡ true → asked_answered_as readonly a o ≡ false
written_untold readonly (Writing share offset len) (Answered (Wrote next)) e = refl
written_untold readonly (Writing share offset len) (Answered (WrongOffset next)) e = refl
written_untold readonly a o e = absurd cc

written_quiet : (a : Asked) (o : Outcome) → wrote_all a o ≡ true → is_outstanding o ≡ false
written_quiet (Writing share offset len) (Answered body) e = refl
written_quiet (Writing share offset len) o e = absurd cc
written_quiet a o e = absurd cc

written_abort : (asked a : Asked) (o : Outcome) → wrote_all a o ≡ true → is_abort_of asked a ≡ false
written_abort (Allocation n l) (Writing share offset len) o e = refl
written_abort (Writing n p l) (Writing share offset len) o e = refl
written_abort (Closing n) (Writing share offset len) o e = refl
written_abort asked (Writing share offset len) o e = refl
written_abort asked a o e = absurd cc

and_false : (a b c : Bool) → c ≡ false → (a && b && c) ≡ false
and_false true true c e = e
and_false true false c e = refl
and_false false b c e = refl

right_false : (a b : Bool) → b ≡ false → (a && b) ≡ false
right_false true b e = e
right_false false b e = refl

-- ---- what is in memory of a record

pub waits_kept : (es : List Request) (server share end : ℕ) → waits_before (kept_of es) server share end ≡ waits_before es server share end
waits_kept es server share end =
    any_left is_written (λ (r : Request). (r.server == server) && is_piece_before share end r.asked && is_outstanding r.outcome)
    (λ r e. and_false (r.server == server) (is_piece_before share end r.asked) (is_outstanding r.outcome) (written_quiet r.asked r.outcome e)) es

pub given_kept : (es : List Request) (server : ℕ) (asked : Asked) → is_given_up (kept_of es) server asked ≡ is_given_up es server asked
given_kept es server asked =
    any_left is_written (λ (r : Request). (r.server == server) && is_abort_of asked r.asked)
    (λ r e. right_false (r.server == server) (is_abort_of asked r.asked) (written_abort asked r.asked r.outcome e)) es

pub acked_kept : (g : Goal) (es : List Request) → acked_pairs g (kept_of es) ≡ acked_pairs g es
acked_kept g es = flat_left is_written (acked_by g) (λ r e. written_acked g r.server r.asked r.outcome e) es

pub any_kept : (g : Goal) (es : List Request) → list_any (has_failed g) (kept_of es) ≡ list_any (has_failed g) es
any_kept g es = any_left is_written (has_failed g) (λ r e. written_fails g r.asked r.outcome e) es

failed_kept : (g : Goal) (es : List Request) → failed_servers g (kept_of es) ≡ failed_servers g es
failed_kept g es = ap (map (λ (r : Request). r.server)) (filter_left is_written (has_failed g) (λ r e. written_fails g r.asked r.outcome e) es)

answered_kept : (readonly : Bool) (es : List Request) → answered_as readonly (kept_of es) ≡ answered_as readonly es
answered_kept readonly es = ap (map (λ (r : Request). r.server)) (filter_left is_written (has_answered_as readonly) (λ r e. written_untold readonly r.asked r.outcome e) es)

pub writable_kept : (g : Goal) (es : List Request) → writable_servers g (kept_of es) ≡ writable_servers g es
writable_kept g es =
    ap (λ (l : List ℕ). filter (λ (s : ℕ). not (is_member eqb l s)) (answered_as false (kept_of es))) (failed_kept g es)
    ∙ ap (filter (λ (s : ℕ). not (is_member eqb (failed_servers g es) s))) (answered_kept false es)

pub readonly_kept : (g : Goal) (es : List Request) → readonly_servers g (kept_of es) ≡ readonly_servers g es
readonly_kept g es =
    ap (λ (l : List ℕ). l ++ filter (λ (s : ℕ). is_member eqb (failed_servers g (kept_of es)) s) (answered_as false (kept_of es))) (answered_kept true es)
    ∙ ap (λ (l : List ℕ). answered_as true es ++ filter (λ (s : ℕ). is_member eqb l s) (answered_as false (kept_of es))) (failed_kept g es)
    ∙ ap (λ (l : List ℕ). answered_as true es ++ filter (λ (s : ℕ). is_member eqb (failed_servers g es) s) l) (answered_kept false es)

-- ---- what is in memory at a position

waiting_unwritten : (a : Asked) (o : Outcome) → is_outstanding o ≡ true → wrote_all a o ≡ false
waiting_unwritten Holdings o w = refl
waiting_unwritten (Allocation share len) o w = refl
waiting_unwritten (Writing share offset len) Outstanding w = refl
waiting_unwritten (Writing share offset len) o w = absurd cc
waiting_unwritten (Closing share) o w = refl
waiting_unwritten (Reading share offset len) o w = refl
waiting_unwritten (Aborting share) o w = refl

-- what was not written is in memory
unwritten_kept : (es : List Request) (position : ℕ) (r : Request) → slice_get es position ≡ Some r → is_written r ≡ false → IsKeptAt es position
unwritten_kept es position r there w = subst (λ (o : Option Request). IsSome (kept o)) (sym there) (by (is_written r) w)
  where
    by : (b : Bool) → b ≡ false → IsSome (cond b None (Some r))
    by true e = absurd (true≢false e)
    by false e = search rules

pub waiting_kept : (es : List Request) (position : ℕ) (r : Request) → slice_get es position ≡ Some r → is_outstanding r.outcome ≡ true → IsKeptAt es position
waiting_kept es position r there w = unwritten_kept es position r there (waiting_unwritten r.asked r.outcome w)

lost_unwritten : (a : Asked) → wrote_all a Lost ≡ false
lost_unwritten Holdings = refl
lost_unwritten (Allocation share len) = refl
lost_unwritten (Writing share offset len) = refl
lost_unwritten (Closing share) = refl
lost_unwritten (Reading share offset len) = refl
lost_unwritten (Aborting share) = refl

pub lost_kept : (es : List Request) (position : ℕ) → IsLostAt es position → IsKeptAt es position
lost_kept es position l = unwritten_kept es position l.request l.there (ap (wrote_all l.request.asked) l.lost ∙ lost_unwritten l.request.asked)
