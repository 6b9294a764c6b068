-- A file of which nothing was read yet, and one of which pieces are taken.
use Rattle.std.proofs.Common.{◌≡◌, ℕ, ◌+◌, ◌-◌, ◌/◌, ◌<◌, ◌≤◌, inl, Bool, Contains, List, [], ◌∷◌, Option, Some, None, unwrap_or, refl, sym, ap, subst, ◌∙◌, arith}
use Rattle.std.specs.Prelude.{slice_get, if◌then◌else◌}
use Rattle.std.proofs.lemmas.Bool.{lt-ltb}
use Rattle.std.proofs.lemmas.List.Elements.{All-nil, All-weaker}
use Rattle.lemmas.proofs.Members.{contains_tail, contains_none}
use Rattle.request_record.specs.declared.requests.Request.{Request}
use Rattle.ueb.specs.Shape.{Contents}
use Rattle.share_layout.specs.Geometry.{Geometry, IsGeometry}
use Rattle.download_parts.proofs.NumberLemmas.{div_le}
use Rattle.download_parts.specs.declared.part.NodePiece.{NodePiece}
use Rattle.download_supply.specs.Cursors.{cursor_at}
use Rattle.download_segments.specs.declared.piece.Piece.{Piece}
use Rattle.download_segments.specs.Handout.{TakesPiece}
use Rattle.download_segments.specs.State.{HandoutState, IsHandout, starting_handout}
use Rattle.download_segments.proofs.HandoutLemmas.{next_is, valid_of}
use Rattle.download_segments.proofs.TreeLemmas.{grow_none}
use Rattle.download_parts.proofs.TreeLemmas.{knows_itself}
use Rattle.download_file.specs.State.{FileState, new_file}
use Rattle.download_file.specs.Answers.{IsRead}
use Rattle.download_file.specs.Asked.{AsksNoMore}
use Rattle.download_file.specs.Changes.{IsSameFile, StaysAskedUp, StaysRead}
use Rattle.download_file.specs.Right.{IsFile, IsGroup, made_end}
use Rattle.download_file.proofs.GrowLemmas.{grow_same, group_stays, read_stays, same_file}
use Rattle.download_file.proofs.RangeLemmas.{end_within}
use Rattle.download_file.proofs.StateLemmas.{Follows, asked_up_stays, asks_itself, asks_no_more, cursor_none, grows_itself, same_reader}

-- ---- nothing was read yet

none_there : {X : Type 0} (position : ℕ) (x : X) → slice_get [] position ≡ Some x → ⊥
none_there position x at = let k : None ≡ Some x = at in cc

module _ (key : List ℕ) (u : Contents) (g : Geometry) (from to : ℕ) (some : from < to) (inside : to ≤ g.size) (right : IsHandout (starting_handout key u g from to)) where
  h : HandoutState
  h = starting_handout key u g from to

  valid : IsGeometry g
  valid = valid_of (starting_handout key u g from to) right

  no_piece : (p : NodePiece) → p.index < cursor_at (0 ∷ 0 ∷ 0 ∷ []) p.level → ⊥
  no_piece p low = let none = cursor_none p.level in omega (arith, low, none)

  first_end : made_end (new_file key u g from to) ≡ from / g.segment_size
  first_end =
      ap (λ (b : Bool). unwrap_or (if b then Some (from / g.segment_size) else None) ((to - 1) / g.segment_size + 1)) (lt-ltb from to some)

  pub file_new : IsFile (new_file key u g from to)
  file_new =
      let order = div_le from (to - 1) g.segment_size valid.some_segment (omega (arith, some)) in
      record {
        handout = right;
        range = record { valid = valid; some = omega (arith, order); within = end_within g to valid (omega (arith, some)) inside };
        last = refl;
        next = λ n e.
            let k = (next_is (starting_handout key u g from to) n e).1 in
            (omega (arith, k), omega (arith, k, order));
        readers = λ position r at. absurd (none_there position r at);
        live = record {
          once = tt;
          apart = λ position one. absurd (contains_none position one);
          there = All-nil (λ position. position < 0);
          asides = All-nil (λ position. position < 0);
          few = omega arith;
          different = λ i j r s one two other at_one at_two same. none_there i r at_one;
          waits = λ position r among at. absurd (none_there position r at);
          upper = λ position r among at. absurd (none_there position r at);
          reads = λ position r among at. absurd (none_there position r at);
        };
        ciphertext = record {
          levels = refl;
          pieces = λ p low. absurd (no_piece p low);
          known = λ p low. absurd (no_piece p low);
          behind = λ position level r heard at. absurd (none_there position r at);
        };
        groups = All-nil (IsGroup (starting_handout key u g from to) []);
        in_order = sym first_end;
      }

  pub read_new : (entries : List Request) → IsRead entries (new_file key u g from to)
  read_new entries = record {
    held = λ position r at. absurd (none_there position r at);
    made = λ group number among. absurd (contains_none group among);
    ready = λ p among. absurd (contains_none p among);
  }

-- ---- a piece is taken

pub taken_rest : (old new : HandoutState) (o : Option Piece) → TakesPiece old o new → new ≡ record old { ready = new.ready; handed = new.handed }
taken_rest old new None takes = subst (λ (h : HandoutState). h ≡ record old { ready = h.ready; handed = h.handed }) (sym takes.1) refl
taken_rest old new (Some p) takes = takes.1 ∙ sym (ap (λ (n : ℕ). record old { ready = new.ready; handed = n }) (ap (λ (h : HandoutState). h.handed) takes.1))

-- what is ready was before
pub still_ready : (old new : HandoutState) (o : Option Piece) → TakesPiece old o new → (p : Piece) → Contains new.ready p → Contains old.ready p
still_ready old new None takes p among = subst (λ (h : HandoutState). Contains h.ready p) takes.1 among
still_ready old new (Some q) takes p among = subst (λ (l : List Piece). Contains l p) (sym takes.0) (contains_tail q p new.ready among)

module _ (f : FileState) (ready : List Piece) (handed : ℕ) (is : IsFile f) (right : IsHandout (record f.handout { ready = ready; handed = handed }))
    (among : (p : Piece) → Contains ready p → Contains f.handout.ready p) where
  abbrev pub pieces_file : FileState
  pieces_file = record f { handout = record f.handout { ready = ready; handed = handed } }

  follows : Follows f pieces_file
  follows = record { geometry = refl; ueb = refl; first = refl; end = refl; shares = knows_itself f.handout.trees.shares; later = λ number next. (number, next, omega arith) }

  pub file_pieces : IsFile pieces_file
  file_pieces = record {
    handout = right;
    range = is.range;
    last = is.last;
    next = is.next;
    readers = λ position r at. same_reader f pieces_file r follows (is.readers position r at);
    live = record {
      once = is.live.once;
      apart = is.live.apart;
      there = is.live.there;
      asides = is.live.asides;
      few = is.live.few;
      different = is.live.different;
      waits = is.live.waits;
      upper = is.live.upper;
      reads = is.live.reads;
    };
    ciphertext = record {
      levels = is.ciphertext.levels;
      pieces = is.ciphertext.pieces;
      known = is.ciphertext.known;
      behind = is.ciphertext.behind;
    };
    groups = All-weaker (IsGroup f.handout f.readers) (IsGroup pieces_file.handout f.readers)
        (λ group own. group_stays f.handout pieces_file.handout f.readers f.readers group refl (grow_same f.readers) own) f.groups is.groups;
    in_order = is.in_order;
  }

  pub read_pieces : StaysRead f pieces_file
  read_pieces entries read = read_stays entries f pieces_file refl refl refl (grow_none f.handout.trees) (grow_same f.readers) is.groups refl among read.held read

  pub same_pieces : IsSameFile f pieces_file
  same_pieces = same_file f pieces_file refl refl refl refl refl refl (grow_none f.handout.trees) (grow_same f.readers) is.groups refl

  pub up_pieces : (reader : ℕ) → StaysAskedUp f pieces_file reader
  up_pieces reader = asked_up_stays f pieces_file reader refl (λ now. now) (λ r at. (r, at, grows_itself r.supply))

  pub asks_pieces : AsksNoMore f pieces_file
  asks_pieces = asks_no_more f pieces_file (λ position r at. inl (r, at, asks_itself r.supply)) (λ position r at. (r, at, asks_itself r.supply))

-- what holds of a file then
pub record HasPieces (f g : FileState) : Type 0 where
  pub right : IsFile g
  pub reads : StaysRead f g
  pub asked : AsksNoMore f g
  pub asked_up : (reader : ℕ) → StaysAskedUp f g reader
  pub same : IsSameFile f g

pub has_geometry : (old new : HandoutState) (o : Option Piece) → TakesPiece old o new → new.geometry ≡ old.geometry
has_geometry old new o takes = ap (λ (h : HandoutState). h.geometry) (taken_rest old new o takes)

pub has_pieces : (f : FileState) (new : HandoutState) (o : Option Piece) → IsFile f → IsHandout new → TakesPiece f.handout o new → HasPieces f (record f { handout = new })
has_pieces f new o is right takes =
    let rest = taken_rest f.handout new o takes in
    let own : IsHandout (record f.handout { ready = new.ready; handed = new.handed }) = subst IsHandout rest right in
    let among = still_ready f.handout new o takes in
    subst (λ (h : HandoutState). HasPieces f (record f { handout = h })) (sym rest) (record {
      right = file_pieces f new.ready new.handed is own among;
      reads = read_pieces f new.ready new.handed is own among;
      asked = asks_pieces f new.ready new.handed is own among;
      asked_up = up_pieces f new.ready new.handed is own among;
      same = same_pieces f new.ready new.handed is own among;
    })
