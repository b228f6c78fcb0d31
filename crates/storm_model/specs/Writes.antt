-- the writes of a storm's clients
use Rattle.std.specs.Prelude.{ℕ, zero, suc, ◌+◌, ◌*◌, ◌/◌, ◌%◌, ◌^◌, ◌==◌, List, [], ◌∷◌, ◌++◌, map, codes, decimal, Option, Some, None}
use Rattle.std.specs.Prelude.{◌≡◌}
use Rattle.std.specs.List.{filter, range_with_len}
use Rattle.vb_types.specs.declared.write.Op.TheVariants as op
use Rattle.vb_types.specs.declared.write.Write.{Write}
use Rattle.storm_model.specs.declared.writes.Aimed.{Aimed}

-- the word behind a word
abbrev pub stepped : ℕ → ℕ
stepped x = (x * 6364136223846793005 + 1442695040888963407) % 2 ^ 64

-- a client's word before its first write, and at write i
abbrev pub word_at : ℕ → ℕ → ℕ → ℕ
word_at seed c zero = (seed + c) % 2 ^ 64
word_at seed c (suc i) = stepped (word_at seed c i)

-- the vBucket that a word's write is for
abbrev pub vb_of_word : ℕ → ℕ
vb_of_word x = x / 2 ^ 33 % 4

-- how the keys of client c begin
abbrev pub client_name : ℕ → List ℕ
client_name c = codes "c" ++ decimal c

-- key n of client c
abbrev pub client_key : ℕ → ℕ → List ℕ
client_key c n = client_name c ++ (codes "k" ++ decimal n)

-- a write that puts this value, with no CAS, flags, expiration and datatype
abbrev pub set_of : List ℕ → List ℕ → Write
set_of key value = record { op = op.Set; key = key; value = value; flags = 0; expiry = 0; datatype = 0; cas = 0 }

-- write i of client c, of the word x
abbrev pub aimed : ℕ → ℕ → ℕ → Aimed
aimed c x i = record { vb = vb_of_word x; write = set_of (client_key c (x / 2 ^ 40 % 100)) (decimal i) }

-- client c's writes, in order: write i is of its word at i
unfoldable pub all_writes : ℕ → ℕ → ℕ → List Aimed
all_writes seed c writes = map (λ i. aimed c (word_at seed c i) i) (range_with_len 1 writes)

-- those of them for vBucket v
abbrev pub writes_of : ℕ → ℕ → ℕ → ℕ → List Write
writes_of seed c writes v = map (λ a. a.write) (filter (λ a. a.vb == v) (all_writes seed c writes))

-- a client's writes that are to come, where so many are left, so many were made and x was the word of the last
unfoldable pub writes_left : ℕ → ℕ → ℕ → ℕ → List Aimed
writes_left c x made zero = []
writes_left c x made (suc left) = aimed c (stepped x) (made + 1) ∷ writes_left c (stepped x) (made + 1) left

-- the first of those that were to come is given, or none was to come
abbrev pub Gives : {A : Type 0} → List A → Option A → List A → Type 0
Gives before None after = (before ≡ []) × (after ≡ [])
Gives before (Some first) after = before ≡ first ∷ after
