-- Turns of the loop carry a fetch.
use Rattle.std.proofs.Common.{◌≡◌, ℕ, List, [], Option, Some, None, refl, sym, subst, ap, inl, inr, ◌∙◌}
use Rattle.std.specs.Prelude.{slice_get}
use Rattle.wire.specs.declared.message.Body.{Body}
use Rattle.wire.specs.declared.message.Message.{Message}
use Rattle.request_record.specs.declared.requests.Outcome.TheVariants.{Answered}
use Rattle.request_record.specs.declared.requests.Request.{Request}
use Rattle.request_record.specs.Asking.{SendsFirst, fresh, one_sent}
use Rattle.request_record.specs.Record.{RequestsState}
use Rattle.request_record.specs.Follow.{Follows, IsSaid, Nothing, Said, WasAnswered}
use Rattle.request_record.proofs.FollowLaws.{follows_asks, follows_itself, follows_message, follows_same, follows_tick}
use Rattle.local_grid.specs.Turns.{Course}
use Rattle.local_grid.specs.Outside.{OutsideCalls}
use Rattle.local_grid.specs.OutsideTurns.{Finishes, LoopState, Turns}
use Rattle.carried_operations.specs.Came.{Came}
use Rattle.carried_operations.proofs.Runs.{IsLaw, course_goes, follows_both, follows_wider}
use Rattle.carried_operations.specs.Fetches.{Begins, FetchState, fetch_calls, with_record}
use Rattle.carried_operations.specs.Ranges.{reads_of}
use Rattle.carried_operations.specs.declared.range.ShareRange.{ShareRange}
use Rattle.carried_operations.specs.Fetched.{IsCarried}

-- a fetch goes on by answers
pub record Continues (New : Said) (old new : FetchState) : Type 0 where
  pub range : new.range ≡ old.range
  pub follows : Follows New old.requests new.requests

sends_follow : (index : List ℕ) (old new : RequestsState) (taken : Option (ℕ × Message)) → SendsFirst index old taken new → Follows Nothing old new
sends_follow index old new None s = subst (Follows Nothing old) (sym s.0) (follows_itself Nothing old)
sends_follow index old new (Some f) s = subst (Follows Nothing old) (sym s.3) (follows_same Nothing old (one_sent old) refl refl)

range_kept : (old new : FetchState) (r : RequestsState) → new ≡ with_record old r → new.range ≡ old.range
range_kept old new r is = ap (λ (f : FetchState). f.range) is

pub fetches_go_on : IsLaw fetch_calls Continues
fetches_go_on = record {
  itself = λ New o. record { range = refl; follows = follows_itself New o.requests };
  both = λ New a b c f g. record { range = g.range ∙ f.range; follows = follows_both New a.requests b.requests c.requests f.follows g.follows };
  wider = λ Old New a b wider f. record { range = f.range; follows = follows_wider Old New a.requests b.requests wider f.follows };
  session = λ New a b f. f.follows.session_is;
  takes = λ old taken new t. record { range = range_kept old new new.requests t.1; follows = sends_follow old.index old.requests new.requests taken t.0 };
  hears = λ old from m now new h. record {
    range = ap (λ (f : FetchState). f.range) h;
    follows = subst (λ (f : FetchState). Follows (IsSaid from m old.requests.session) old.requests f.requests) (sym h) (follows_message from now m old.requests);
  };
  ticks = λ old now new t. record {
    range = ap (λ (f : FetchState). f.range) t;
    follows = subst (λ (f : FetchState). Follows Nothing old.requests f.requests) (sym t) (follows_tick now old.requests);
  };
}

none_before : (session now position : ℕ) (r : Request) (said : Body) → WasAnswered (fresh session now).entries position r said → ⊥
none_before session now position r said w = none position w.at where
  none : (i : ℕ) → slice_get [] i ≡ Some w.request → ⊥
  none i e = cc

module _ {G : Type 0} (calls : OutsideCalls G) (index : List ℕ) (range : ShareRange) (session now : ℕ) where
  came : (first last : LoopState FetchState G) (states : List (LoopState FetchState G)) → Begins index range session now first.operation → Course (Turns fetch_calls calls) first states last
      → (position : ℕ) (r : Request) (said : Body) → slice_get last.operation.requests.entries position ≡ Some r → r.outcome ≡ Answered said
      → Came fetch_calls calls first.operation.requests.session first states position r.server r.asked said
  came first last states b c position r said at o =
      let own : ℕ = first.operation.requests.session in
      let New = Came fetch_calls calls own first states in
      let was : RequestsState = fresh session now in
      let begun : Follows Nothing was first.operation.requests = subst (Follows Nothing was) (sym b.asks) (follows_asks (reads_of range) was) in
      let goes = follows_both New was first.operation.requests last.operation.requests
      (follows_wider Nothing New was first.operation.requests (λ position server asked said n. absurd n) begun)
      (course_goes fetch_calls Continues fetches_go_on calls own first last states refl c).follows in
      elim (goes.answers position r said at o) [
        | inl w ↦ absurd (none_before session now position r said w)
        | inr n ↦ n
      ]

  pub carried : (most : ℕ) (first last : LoopState FetchState G) → Begins index range session now first.operation → Finishes fetch_calls calls most first last
      → IsCarried calls first.operation first.outside last.operation last.outside
  carried most first last b f =
      let goes = course_goes fetch_calls Continues fetches_go_on calls first.operation.requests.session first last f.2.0 refl f.2.2 in
      record { states = f.2.0; turns = f.2.2; ends = f.3; range = goes.range; came = came first last f.2.0 b f.2.2 }
