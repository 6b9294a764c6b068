-- The bytes of a share, joined, and the shares that an answer lists.
use Rattle.std.proofs.Common.{◌≡◌, ℕ, ◌+◌, ◌<◌, ◌≤◌, Bool, true, false, cond, List, [], ◌∷◌, ◌++◌, length, get_or, take, map, filter, ltb, lt-ltb, le-ltb, ap, refl, sym, subst, ◌∙◌, append_assoc}
use Rattle.std.proofs.lemmas.List.{append-nil, map-append, take_all}
use Rattle.std.proofs.lemmas.List.Concat.{flat_map-append}
use Rattle.std.proofs.lemmas.List.Elements.{All-nil, All-push, filter_more}
use Rattle.placement.specs.Matching.{Pair}
use Rattle.wire.specs.declared.message.HeldShare.{HeldShare}
use Rattle.share_reading.specs.OpeningReads.{Brought}
use Rattle.share_reading.specs.Whole.{joined}
use Rattle.checker.specs.Offers.{IsNew, key_of}
use Rattle.checker.specs.Book.{ArePushed}
use Rattle.checker.specs.declared.offers.Offer.{Offer}

-- ---- the bytes of a share

pub joined_both : (front back : List Brought) → joined (front ++ back) ≡ joined front ++ joined back
joined_both front back = flat_map-append (λ (read : Brought). read.1) front back

-- ---- the shares that an answer lists

abbrev pub pair_at : ℕ → HeldShare → Pair
pair_at server h = (server, h.share)

pub pushed_none : (keeps : Bool) (total server : ℕ) (held : List HeldShare) (old : List Offer) → ArePushed keeps total server (take 0 held) old old
pushed_none keeps total server held old = record { more = []; offers = sym (append-nil old); keys = refl; unread = All-nil (IsNew keeps) }

cond_map : (b : Bool) (server : ℕ) (h : HeldShare) (t : Bool) → b ≡ t → map (pair_at server) (cond b (h ∷ []) []) ≡ cond t ((server, h.share) ∷ []) []
cond_map b server h true e = rw e refl
cond_map b server h false e = rw e refl

keys_more : (total server : ℕ) (held : List HeldShare) (i : ℕ) (d : HeldShare) (t : Bool) → i < length held → ltb (get_or held i d).share total ≡ t
    → map (pair_at server) (filter (λ (x : HeldShare). ltb x.share total) (take (i + 1) held))
    ≡ map (pair_at server) (filter (λ (x : HeldShare). ltb x.share total) (take i held)) ++ cond t ((server, (get_or held i d).share) ∷ []) []
keys_more total server held i d t lt e =
    let test : HeldShare → Bool = λ (x : HeldShare). ltb x.share total in
    let h = get_or held i d in
    ap (map (pair_at server)) (filter_more test held i d lt)
    ∙ map-append (pair_at server) (filter test (take i held)) (cond (test h) (h ∷ []) [])
    ∙ ap (λ (l : List Pair). map (pair_at server) (filter test (take i held)) ++ l) (cond_map (test h) server h t e)

pub pushed_more : (keeps : Bool) (total server : ℕ) (held : List HeldShare) (i : ℕ) (d : HeldShare) (old mid new : List Offer) (o : Offer) → i < length held → (get_or held i d).share < total
    → ArePushed keeps total server (take i held) old mid → new ≡ mid ++ o ∷ [] → IsNew keeps o → key_of o ≡ (server, (get_or held i d).share) → ArePushed keeps total server (take (i + 1) held) old new
pushed_more keeps total server held i d old mid new o lt below p pushed fresh key = record {
  more = p.more ++ o ∷ [];
  offers = pushed ∙ ap (λ (l : List Offer). l ++ o ∷ []) p.offers ∙ append_assoc old p.more (o ∷ []);
  keys = map-append key_of p.more (o ∷ []) ∙ ap (λ (l : List Pair). l ++ key_of o ∷ []) p.keys ∙ ap (λ (k : Pair). map (pair_at server) (filter (λ (x : HeldShare). ltb x.share total) (take i held)) ++ k ∷ []) key
      ∙ sym (keys_more total server held i d true lt (lt-ltb (get_or held i d).share total below));
  unread = All-push (IsNew keeps) p.more o p.unread fresh;
}

pub pushed_same : (keeps : Bool) (total server : ℕ) (held : List HeldShare) (i : ℕ) (d : HeldShare) (old new : List Offer) → i < length held → total ≤ (get_or held i d).share
    → ArePushed keeps total server (take i held) old new → ArePushed keeps total server (take (i + 1) held) old new
pushed_same keeps total server held i d old new lt above p = record {
  more = p.more;
  offers = p.offers;
  keys = p.keys ∙ sym (append-nil _) ∙ sym (keys_more total server held i d false lt (le-ltb (get_or held i d).share total above));
  unread = p.unread;
}

pub pushed_all : (keeps : Bool) (total server : ℕ) (held : List HeldShare) (i : ℕ) (old new : List Offer) → length held ≤ i → ArePushed keeps total server (take i held) old new → ArePushed keeps total server held old new
pushed_all keeps total server held i old new le p = subst (λ (l : List HeldShare). ArePushed keeps total server l old new) (take_all i held le) p
