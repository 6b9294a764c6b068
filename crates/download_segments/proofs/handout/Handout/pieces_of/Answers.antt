use Rattle.std.proofs.Common.{◌≡◌, ◌++◌, ◌+◌, ◌-◌, ◌%◌, ◌<◌, ◌≤◌, ℕ, suc, List, [], ◌∷◌, Some, Vec, Global, length, map, take, drop, get_or, ap, subst, sym, ◌∙◌, arith, append_assoc, length-append}
use Rattle.std.proofs.lemmas.List.{append-nil}
use Rattle.aes_ctr.specs.CounterMode.{xored_from}
use Rattle.download_segments.specs.Handout.{IsRowWanted, ProvesRow, first_handed_out, handed_out, next_end, next_piece, next_segment}
use Rattle.download_segments.specs.State.{HandoutState, IsHandout, ProvesSegment}
use Rattle.download_segments.specs.declared.piece.Piece.{Piece}
use Rattle.download_segments.proofs.HandoutLemmas.{ends_of, next_fits, next_is}
use Rattle.download_segments.proofs.RowLemmas.{IsRowState, nth_behind, row_state, still_proved}
use Rattle.download_segments.proofs.handout.Handout.pieces_of.Goals as goal

pub loop-segment-init : goal.loop-segment-init
unfolding first_handed_out
loop-segment-init c =
    let h = c.args.self.now in
    let same : c.self.inside.reached ≡ h.reached = ap (λ (x : HandoutState). x.reached) c.self.view_is in
    let none : h.ready ++ c.in_ok-pieces.pieces.items ≡ h.ready = ap (λ (l : List Piece). h.ready ++ l) c.in_ok-pieces.ensures.items ∙ append-nil h.ready in
    record {
      rest = c.into_iter-segment-iterator.ensures.into_iter_gives.0;
      state = λ i. record h { reached = same i; ready = none i };
    }

-- one segment more is at hand, and the state before it
record Turn (h : HandoutState) (number n : ℕ) (segments : List (List ℕ)) (m : HandoutState) (segment : List ℕ) : Type 0 where
  pub low : n < 8
  pub nth : get_or segments n [] ≡ segment
  pub right : IsHandout m
  pub next : next_segment m ≡ Some (number + n)
  pub proves : ProvesSegment m (number + n) segment

turn : (h m : HandoutState) (number : ℕ) (xs ys : List (Vec ℕ Global)) (x : Vec ℕ Global) (all : List (Vec ℕ Global)) → IsHandout h → next_segment h ≡ Some number → IsRowWanted h number
    → ProvesRow h number (map (λ s. s.items) all) → length all ≡ 8 → xs ++ x ∷ ys ≡ all → m ≡ first_handed_out h (map (λ s. s.items) all) (length xs)
    → Turn h number (length xs) (map (λ s. s.items) all) m x.items
turn h m number xs ys x all right next wanted proves eight is state =
    let segments : List (List ℕ) = map (λ s. s.items) all in
    let n : ℕ = length xs in
    let long = length-append xs (x ∷ ys) in
    let same = ap length is in
    let low : n < 8 = omega (arith, long, same, eight) in
    let nth : get_or segments n [] ≡ x.items = ap (λ (l : List (Vec ℕ Global)). get_or (map (λ s. s.items) l) n []) (sym is) ∙ nth_behind (λ s. s.items) xs ys x in
    let at : IsRowState h number n m = subst (IsRowState h number n) (sym state) (row_state h number segments right next wanted proves n (omega (arith, low))) in
    record {
      low = low;
      nth = nth;
      right = at.right;
      next = at.next low;
      proves = still_proved h m number n (number + n) x.items at (subst (ProvesSegment h (number + n)) nth (proves n low));
    }

pub end_behind-end-requires : goal.end_behind-end-requires
end_behind-end-requires c =
    let h = c.args.self.now in
    let m : HandoutState = record h { reached = c.loop-segment.reached; ready = h.ready ++ c.loop-segment.pieces.items } in
    let k = c.loop-segment.invariant in
    let all = ap (λ l. c.loop-segment.yielded ++ l) (sym c.in-Some.ensures.steps.0) ∙ k.rest in
    let t = turn h m c.args.number c.loop-segment.yielded _ c.in-Some.segment c.args.segments.items (subst IsHandout c.self.view_is c.self.invariant)
    c.requires.next c.requires.wanted c.requires.proved c.requires.eight all k.state in
    (next_is m (c.args.number + length c.loop-segment.yielded) t.next).0

pub decrypted-bytes-requires-clause-more : goal.decrypted-bytes-requires-clause-more
decrypted-bytes-requires-clause-more c =
    let h = c.args.self.now in
    let m : HandoutState = record h { reached = c.loop-segment.reached; ready = h.ready ++ c.loop-segment.pieces.items } in
    let k = c.loop-segment.invariant in
    let all = ap (λ l. c.loop-segment.yielded ++ l) (sym c.in-Some.ensures.steps.0) ∙ k.rest in
    let t = turn h m c.args.number c.loop-segment.yielded _ c.in-Some.segment c.args.segments.items (subst IsHandout c.self.view_is c.self.invariant)
    c.requires.next c.requires.wanted c.requires.proved c.requires.eight all k.state in
    let more = (ends_of m t.right (next_is m (c.args.number + length c.loop-segment.yielded) t.next).0).more in
    let end : c.end_behind-end.result ≡ next_end m = c.end_behind-end.ensures in
    omega (arith, more, end)

pub decrypted-bytes-requires-clause-within : goal.decrypted-bytes-requires-clause-within
decrypted-bytes-requires-clause-within c =
    let h = c.args.self.now in
    let m : HandoutState = record h { reached = c.loop-segment.reached; ready = h.ready ++ c.loop-segment.pieces.items } in
    let k = c.loop-segment.invariant in
    let all = ap (λ l. c.loop-segment.yielded ++ l) (sym c.in-Some.ensures.steps.0) ∙ k.rest in
    let t = turn h m c.args.number c.loop-segment.yielded _ c.in-Some.segment c.args.segments.items (subst IsHandout c.self.view_is c.self.invariant)
    c.requires.next c.requires.wanted c.requires.proved c.requires.eight all k.state in
    let end : c.end_behind-end.result ≡ next_end m = c.end_behind-end.ensures in
    subst (λ (n : ℕ). m.reached % m.geometry.segment_size + (n - m.reached) ≤ length c.in-Some.segment.items) (sym end)
    (next_fits m (c.args.number + length c.loop-segment.yielded) c.in-Some.segment.items t.right t.next t.proves.size)

pub loop-segment-preserved : goal.loop-segment-preserved
unfolding first_handed_out
loop-segment-preserved c =
    let h = c.args.self.now in
    let m : HandoutState = record h { reached = c.loop-segment.reached; ready = h.ready ++ c.loop-segment.pieces.items } in
    let k = c.loop-segment.invariant in
    let segments : List (List ℕ) = map (λ s. s.items) c.args.segments.items in
    let segment : List ℕ = c.in-Some.segment.items in
    let n : ℕ = length c.loop-segment.yielded in
    let all = ap (λ l. c.loop-segment.yielded ++ l) (sym c.in-Some.ensures.steps.0) ∙ k.rest in
    let t = turn h m c.args.number c.loop-segment.yielded _ c.in-Some.segment c.args.segments.items (subst IsHandout c.self.view_is c.self.invariant)
    c.requires.next c.requires.wanted c.requires.proved c.requires.eight all k.state in
    let end : c.end_behind-end.result ≡ next_end m = c.end_behind-end.ensures in
    let bytes : c.from_vec.result ≡ xored_from m.key m.reached (take (next_end m - m.reached) (drop (m.reached % m.geometry.segment_size) segment)) =
    c.from_vec.ensures ∙ c.decrypted-bytes.ensures ∙ ap (λ (x : ℕ). xored_from m.key m.reached (take (x - m.reached) (drop (m.reached % m.geometry.segment_size) segment))) end in
    let piece : record { offset = c.loop-segment.reached; bytes = c.from_vec.result } ≡ next_piece m segment = λ i. record { offset = m.reached; bytes = bytes i } in
    let ready : h.ready ++ c.push_back.new.self.items ≡ m.ready ++ next_piece m segment ∷ [] =
    ap (λ (l : List Piece). h.ready ++ l) (c.in_ok-push_back.ensures.items) ∙ sym (append_assoc h.ready c.loop-segment.pieces.items _)
    ∙ ap (λ (p : Piece). m.ready ++ p ∷ []) piece in
    let count : suc n ≡ length (c.loop-segment.yielded ++ c.in-Some.segment ∷ []) = let l = length-append c.loop-segment.yielded (c.in-Some.segment ∷ []) in omega (arith, l) in
    record {
      rest = append_assoc c.loop-segment.yielded (c.in-Some.segment ∷ []) c.next.new.self.rest.items ∙ all;
      state = (λ i. record h { reached = end i; ready = ready i })
          ∙ ap (λ (x : HandoutState). handed_out x segment) k.state
          ∙ ap (handed_out (first_handed_out h segments n)) (sym t.nth)
          ∙ ap (first_handed_out h segments) count;
    }

pub returns : goal.returns
returns c =
    let rest = c.loop-segment.segment-iterator.rest.items in
    let count = c.loop-segment.segment-iterator.rest.ok.0 in
    let none = c.in-None.ensures.steps.0 in
    let both = length-append c.loop-segment.yielded rest in
    let all = ap length c.loop-segment.invariant.rest in
    let eight = c.requires.eight in
    let done : length c.loop-segment.yielded ≡ 8 = omega (arith, count, none, both, all, eight) in
    c.loop-segment.invariant.state ∙ ap (first_handed_out c.args.self.now (map (λ s. s.items) c.args.segments.items)) done
