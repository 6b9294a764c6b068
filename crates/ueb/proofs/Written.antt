-- What is written is an extension block.
use Rattle.std.proofs.Common.{◌≡◌, ℕ, ◌+◌, ◌*◌, ◌^◌, ◌<◌, ◌≤◌, ◌%◌, Bool, true, false, cond, eqb, List, [], ◌∷◌, ◌++◌, length, map, get_or, take, Some, refl, sym, ap, ◌∙◌, length-append, arith, lit<, lit≤}
use Rattle.std.specs.Prelude.{decimal}
use Rattle.std.proofs.lemmas.Grind.{div_ceil_times}
use Rattle.std.proofs.lemmas.List.{append-nil, map_more, take_all}
use Rattle.std.proofs.lemmas.List.Concat.{flat_map-append}
use Rattle.std.proofs.lemmas.Fmt.{length-decimal-le}
use Rattle.ueb.specs.declared.key.Key.{Key}
use Rattle.ueb.specs.declared.key.Key.TheVariants.{CodecName, CodecParams, CrypttextHash, CrypttextRootHash, NeededShares, NumSegments, SegmentSize, ShareRootHash, Size, TailCodecParams, TotalShares}
use Rattle.ueb.specs.declared.key.TheConstants.Key.{ALL}
use Rattle.ueb.specs.Key.{key_name}
use Rattle.ueb.specs.Shape.{Contents, AreContents, codec_params, rounded_up, num_segments, tail_size}
use Rattle.tagged_hash.specs.TaggedHash.{netstring}
use Rattle.ueb.specs.Fields.{Field, IsKey, field_text, fields_text, AreRising, value_of}
use Rattle.ueb.specs.Block.{value_text, known_field, ueb_text, IsUeb}
use Rattle.ueb.proofs.Walk.{same_field}

is_key : (key : Key) → IsKey (key_name key)
unfolding key_name
is_key CodecName = record { some = lit< tt; bytes = refl }
is_key CodecParams = record { some = lit< tt; bytes = refl }
is_key CrypttextHash = record { some = lit< tt; bytes = refl }
is_key CrypttextRootHash = record { some = lit< tt; bytes = refl }
is_key NeededShares = record { some = lit< tt; bytes = refl }
is_key NumSegments = record { some = lit< tt; bytes = refl }
is_key SegmentSize = record { some = lit< tt; bytes = refl }
is_key ShareRootHash = record { some = lit< tt; bytes = refl }
is_key Size = record { some = lit< tt; bytes = refl }
is_key TailCodecParams = record { some = lit< tt; bytes = refl }
is_key TotalShares = record { some = lit< tt; bytes = refl }

abbrev known_fields : Contents → List Field
known_fields c = map (known_field c) ALL

are_rising : (c : Contents) → AreRising [] (known_fields c)
unfolding key_name
are_rising c = (
  is_key CodecName,
  refl,
  (
    is_key CodecParams,
    refl,
    (
      is_key CrypttextHash,
      refl,
      (
        is_key CrypttextRootHash,
        refl,
        (
          is_key NeededShares,
          refl,
          (
            is_key NumSegments,
            refl,
            (
              is_key SegmentSize,
              refl,
              (
                is_key ShareRootHash,
                refl,
                (is_key Size, refl, (is_key TailCodecParams, refl, (is_key TotalShares, refl, tt))),
              ),
            ),
          ),
        ),
      ),
    ),
  ),
)

are_known : (c : Contents) (key : Key) → value_of (key_name key) (known_fields c) ≡ Some (value_text c key)
unfolding key_name
are_known c CodecName = refl
are_known c CodecParams = refl
are_known c CrypttextHash = refl
are_known c CrypttextRootHash = refl
are_known c NeededShares = refl
are_known c NumSegments = refl
are_known c SegmentSize = refl
are_known c ShareRootHash = refl
are_known c Size = refl
are_known c TailCodecParams = refl
are_known c TotalShares = refl

-- ---- one field after the other

fields_push : (fields : List Field) (f : Field) → fields_text (fields ++ f ∷ []) ≡ fields_text fields ++ field_text f
fields_push fields f = flat_map-append field_text fields (f ∷ []) ∙ ap (λ (t : List ℕ). fields_text fields ++ t) (append-nil (field_text f))

pub text_more : (c : Contents) (i : ℕ) (old new key value : List ℕ) → i < 11 → key ≡ key_name (get_or ALL i CodecName) → value ≡ value_text c (get_or ALL i CodecName)
    → old ≡ fields_text (map (known_field c) (take i ALL)) → new ≡ old ++ field_text (record { key = key; value = value }) → new ≡ fields_text (map (known_field c) (take (i + 1) ALL))
text_more c i old new key value lt k v before after =
    let next : Key = get_or ALL i CodecName in
    let f : Field = record { key = key; value = value } in
    let is : f ≡ known_field c next = same_field f (key_name next) (value_text c next) k v in
    after ∙ ap (λ (t : List ℕ). t ++ field_text f) before ∙ ap (λ (g : Field). fields_text (map (known_field c) (take i ALL)) ++ field_text g) is
    ∙ sym (fields_push (map (known_field c) (take i ALL)) (known_field c next))
    ∙ ap fields_text (sym (map_more (known_field c) ALL i CodecName lt))

pub text_whole : (c : Contents) (text : List ℕ) (i : ℕ) → 11 ≤ i → text ≡ fields_text (map (known_field c) (take i ALL)) → text ≡ ueb_text c
unfolding ueb_text
text_whole c text i past e = e ∙ ap (λ (keys : List Key). fields_text (map (known_field c) keys)) (take_all i ALL past)

-- ---- lengths

key_short : (key : Key) → length (key_name key) ≤ 20
unfolding key_name
key_short CodecName = lit≤ tt
key_short CodecParams = lit≤ tt
key_short CrypttextHash = lit≤ tt
key_short CrypttextRootHash = lit≤ tt
key_short NeededShares = lit≤ tt
key_short NumSegments = lit≤ tt
key_short SegmentSize = lit≤ tt
key_short ShareRootHash = lit≤ tt
key_short Size = lit≤ tt
key_short TailCodecParams = lit≤ tt
key_short TotalShares = lit≤ tt

number_short : (n : ℕ) → n < 2 ^ 64 → length (decimal n) ≤ 20
number_short n small = length-decimal-le 20 n (lit< tt) (omega arith) small

params_short : (size needed total : ℕ) → size < 2 ^ 64 → needed < 2 ^ 64 → total < 2 ^ 64 → length (codec_params size needed total) ≤ 62
params_short size needed total a b c =
    omega (arith, number_short size a, number_short needed b, number_short total c, length-append (decimal size) (45 ∷ (decimal needed ++ 45 ∷ decimal total)), length-append (decimal needed) (45 ∷ decimal total))

tail_short : (size segment : ℕ) → 0 < segment → tail_size size segment ≤ segment
tail_short size segment some = chosen (eqb (size % segment) 0) segment (size % segment) (omega arith)
  where
    chosen : (b : Bool) (x y : ℕ) → y ≤ x → cond b x y ≤ x
    chosen true x y le = omega arith
    chosen false x y le = le

value_short : (c : Contents) → AreContents c → (key : Key) → length (value_text c key) ≤ 62
unfolding value_text
value_short c a CodecName = lit≤ tt
value_short c a CodecParams = params_short c.segment_size c.needed_shares c.total_shares (omega arith) (omega arith) (omega arith)
value_short c a CrypttextHash = omega arith
value_short c a CrypttextRootHash = omega arith
value_short c a NeededShares = omega (arith, number_short c.needed_shares (omega arith))
value_short c a NumSegments = omega (arith, number_short (num_segments c.size c.segment_size) (omega arith))
value_short c a SegmentSize = omega (arith, number_short c.segment_size (omega arith))
value_short c a ShareRootHash = omega arith
value_short c a Size = omega (arith, number_short c.size (omega arith))
value_short c a TailCodecParams =
    let tail = tail_size c.size c.segment_size in
    params_short (rounded_up tail c.needed_shares) c.needed_shares c.total_shares
    (omega (arith, tail_short c.size c.segment_size (omega arith), (div_ceil_times tail c.needed_shares (omega arith)).1)) (omega arith) (omega arith)
value_short c a TotalShares = omega (arith, number_short c.total_shares (omega arith))

field_short : (c : Contents) → AreContents c → (key : Key) → length (field_text (known_field c key)) ≤ 105
field_short c a key =
    let value = value_text c key in
    let short = value_short c a key in
    omega (arith, key_short key, short, number_short (length value) (omega (arith, short)), length-append (key_name key) (58 ∷ netstring value), length-append (decimal (length value)) (58 ∷ (value ++ 44 ∷ [])), length-append value (44 ∷ []))

fields_short : (c : Contents) → AreContents c → (keys : List Key) → length (fields_text (map (known_field c) keys)) ≤ 105 * length keys
fields_short c a [] = lit≤ tt
fields_short c a (key ∷ keys) =
    omega (arith, field_short c a key, fields_short c a keys, length-append (field_text (known_field c key)) (fields_text (map (known_field c) keys)))

pub is_written : (c : Contents) (bytes : List ℕ) → AreContents c → bytes ≡ ueb_text c → IsUeb bytes c
unfolding ueb_text
is_written c bytes a e = record {
  fields = known_fields c;
  are_fields = record { text = e; rising = are_rising c };
  known = are_known c;
  short = omega (arith, ap length e, fields_short c a ALL);
  contents = a;
}
