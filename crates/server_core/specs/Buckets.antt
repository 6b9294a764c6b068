-- Open buckets: the shares that clients are writing.
use Rattle.std.specs.Prelude.{◌≡◌, ◌<◌, ◌≤◌, ℕ, ◌+◌, ◌==◌, ◌&&◌, not, List, [], ◌∷◌, ◌++◌, Bool}
use Rattle.std.specs.Prelude.{Option, Some, None, if◌then◌else◌, length, map, filter, sum, bytes_eq}
use Rattle.std.specs.Prelude.{IfSome, slice_get}
use Rattle.wire.specs.declared.message.ShareId.{ShareId}
use Rattle.sha2_lanes.specs.Stream.{Taken}
use Rattle.tagged_hash.specs.TaggedHash.{share_digest}
use Rattle.tagged_hash.specs.TaggedHasher.{IsGiven}
use Rattle.tagged_hash.specs.declared.tag.Tag.TheVariants.{WholeShare}
use Rattle.server_core.specs.declared.bucket.Gathered.{Gathered}
use Rattle.server_core.specs.declared.bucket.Gathered.TheVariants.{Part, Whole}
use Rattle.server_core.specs.declared.bucket.Bucket.{Bucket}

abbrev pub same_id : ShareId → ShareId → Bool
same_id a b = bytes_eq a.index b.index && (a.share == b.share)

-- ---- what a bucket holds of its share

-- how many bytes there are so far, of so many
abbrev pub count_in : ℕ → Gathered → ℕ
count_in len (Part count hasher) = count
count_in len (Whole digest) = len

abbrev pub bytes_so_far : Bucket → ℕ
bytes_so_far b = count_in b.length b.gathered

-- These are the bytes so far, of so many: there are fewer, and a hasher was given them, or all are
-- there, and this is their digest.
abbrev pub Gathers : ℕ → Gathered → List ℕ → Type 0
Gathers len (Part count hasher) written =
    (count ≡ length written) × (count < len) × IsGiven hasher WholeShare written
Gathers len (Whole digest) written = (len ≡ length written) × (digest ≡ share_digest written)

-- there is room for so many bytes more
abbrev pub HasRoom : ℕ → ℕ → Gathered → Type 0
HasRoom len more (Part count hasher) = count + more ≤ len
HasRoom len more (Whole digest) = ⊥

-- nothing is written yet
abbrev pub IsNothing : Gathered → Type 0
IsNothing (Part count hasher) = (count ≡ 0) × IsGiven hasher WholeShare []
IsNothing (Whole digest) = ⊥

-- More bytes came, in order. The share is whole once there are as many as its length.
abbrev pub GoesOn : ℕ → List ℕ → Gathered → Gathered → Type 0
GoesOn len bytes (Part count hasher) (Part more next) =
    (more ≡ count + length bytes) × (more < len)
    × ((written : List ℕ) → IsGiven hasher WholeShare written
    → IsGiven next WholeShare (written ++ bytes))
GoesOn len bytes (Part count hasher) (Whole digest) =
    (count + length bytes ≡ len)
    × ((written : List ℕ) → IsGiven hasher WholeShare written
    → digest ≡ share_digest (written ++ bytes))
GoesOn len bytes (Whole digest) after = ⊥

-- this is what its hasher has taken in
abbrev pub HasHasher : Taken → Gathered → Type 0
HasHasher taken (Part count hasher) = hasher ≡ taken
HasHasher taken (Whole digest) = ⊥

-- ---- buckets

-- a new bucket of a client and session
pub record IsFresh (client session : ℕ) (id : ShareId) (len now : ℕ) (b : Bucket) : Type 0 where
  pub client_is : b.client ≡ client
  pub session_is : b.session ≡ session
  pub share : b.id ≡ id
  pub room : b.length ≡ len
  pub time : b.touched ≡ now
  pub empty : IsNothing b.gathered

abbrev pub is_owned : ℕ → ℕ → Bucket → Bool
is_owned client session b = (b.client == client) && (b.session == session)

abbrev pub is_of_another : ℕ → Bucket → Bool
is_of_another client b = not (b.client == client)

abbrev pub touched : ℕ → Bucket → Bucket
touched now b =
    record {
      client = b.client;
      session = b.session;
      id = b.id;
      length = b.length;
      gathered = b.gathered;
      touched = now;
    }

-- the same bucket, touched, with more bytes
abbrev pub with_bytes : ℕ → Gathered → Bucket → Bucket
with_bytes now gathered b =
    record {
      client = b.client;
      session = b.session;
      id = b.id;
      length = b.length;
      gathered = gathered;
      touched = now;
    }

-- ---- lists of them

-- the first bucket of a share
abbrev pub bucket_at : ShareId → List Bucket → Option Bucket
bucket_at id [] = None
bucket_at id (b ∷ bs) = if same_id b.id id then Some b else bucket_at id bs

-- that bucket changed
abbrev pub changed : ShareId → (Bucket → Bucket) → List Bucket → List Bucket
changed id f [] = []
changed id f (b ∷ bs) = if same_id b.id id then f b ∷ bs else b ∷ changed id f bs

-- the buckets of other shares
abbrev pub ended : ShareId → List Bucket → List Bucket
ended id bs = filter (λ (b : Bucket). not (same_id b.id id)) bs

-- the bytes that the buckets are to hold
abbrev pub promised : List Bucket → ℕ
promised bs = sum (map (λ (b : Bucket). b.length) bs)

-- ---- positions

abbrev pub position_after : Option ℕ → Option ℕ
position_after None = None
position_after (Some n) = Some (n + 1)

-- a position, counted from n on
abbrev pub position_from : ℕ → Option ℕ → Option ℕ
position_from n None = None
position_from n (Some k) = Some (n + k)

-- the bucket there has a hasher that has taken in this
abbrev pub HasHasherAt : ℕ → Taken → List Bucket → Type 0
HasHasherAt position taken bs = IfSome (slice_get bs position) (λ b. HasHasher taken b.gathered)

-- where the bucket of a share stands
abbrev pub position_of : ShareId → List Bucket → Option ℕ
position_of id [] = None
position_of id (b ∷ bs) = if same_id b.id id then Some 0 else position_after (position_of id bs)
