-- histories of a vBucket in a storm
use Rattle.std.specs.Prelude.{◌≡◌, ℕ, ◌<◌, ◌==◌, Bool, true, false, if◌then◌else◌, List, [], ◌∷◌}
use Rattle.std.specs.List.{filter, flat_map, list_any, AllByRecursion}
use Rattle.std.specs.Str.{bytes_eq}
use Rattle.vb_types.specs.declared.write.Write.{Write}
use Rattle.vb_calls.specs.declared.calls.VbAnswer.{VbAnswer}
use Rattle.vb_calls.specs.declared.calls.VbAnswer.TheVariants as answer
use Rattle.vb_calls.specs.declared.calls.VbCall.{VbCall}
use Rattle.vb_calls.specs.declared.calls.VbCall.TheVariants as call
use Rattle.vb_calls.specs.declared.calls.VbReply.{VbReply}
use Rattle.vb_calls.specs.Plain.{plain_step}
use Rattle.vb_turn.specs.History.{Legal}
use Rattle.storm_model.specs.Merging.{IsAll, OnlyIn, Rising, Stand, entries}
use Rattle.storm_model.specs.Sums.{storm_new}
use Rattle.storm_model.specs.Writes.{client_name, set_of, writes_of}

-- the write of a Store
abbrev pub write_in : VbCall → List Write
write_in (call.Store write clock) = write ∷ []
write_in other = []

-- the writes of a history, in order
abbrev pub stores : List (VbCall × VbReply) → List Write
stores log = flat_map (λ e. write_in e.0) log

-- the seqno that a reply tells of its Store
abbrev pub seq_in : VbAnswer → List ℕ
seq_in (answer.Stored uuid seq cas) = seq ∷ []
seq_in other = []

-- what the replies tell of the Stores of a history, in order
abbrev pub told_seqs : List (VbCall × VbReply) → List ℕ
told_seqs log = flat_map (λ e. seq_in e.1.answer) log

-- a client's write, or a call of the flusher, of a reader, or of who only looks: no other changes a document of an active vBucket for which no prepare waits
abbrev pub is_storm_call : VbCall → Bool
is_storm_call (call.Store write clock) = true
is_storm_call (call.Get key) = true
is_storm_call (call.OpenStream id ask sync) = true
is_storm_call (call.Place id) = true
is_storm_call (call.Take id) = true
is_storm_call (call.CloseStream id) = true
is_storm_call call.FlushTake = true
is_storm_call (call.FlushDone seq) = true
is_storm_call call.Stat = true
is_storm_call call.Log = true
is_storm_call call.Show = true
is_storm_call other = false

-- a storm's calls alone
abbrev pub AreStormCalls : List (VbCall × VbReply) → Type 0
AreStormCalls log = AllByRecursion (λ e. is_storm_call e.0 ≡ true) log

-- a Store at clock 0
abbrev pub IsStore : VbCall → Type 0
IsStore (call.Store write clock) = clock ≡ 0
IsStore other = ⊥

-- Stores at clock 0 alone
abbrev pub AreStores : List (VbCall × VbReply) → Type 0
AreStores log = AllByRecursion (λ e. IsStore e.0) log

-- a write's key and value
abbrev pub put_in : Write → List ℕ × List ℕ
put_in w = (w.key, w.value)

-- a write that puts its value, whatever is there
abbrev pub IsPut : Write → Type 0
IsPut w = w ≡ set_of w.key w.value

-- what stands in front of the first `k` of a key
abbrev pub owner : List ℕ → List ℕ
owner [] = []
owner (b ∷ bs) = if b == 107 then [] else b ∷ owner bs

-- a write whose key is one of client c
abbrev pub is_by : ℕ → Write → Bool
is_by c write = bytes_eq (owner write.key) (client_name c)

-- one of so many clients may have made the write, by its key
abbrev pub HasOwner : ℕ → Write → Type 0
HasOwner clients w = (c : ℕ) × (c < clients) × (is_by c w ≡ true)

-- a legal history of vBucket v in which each client's writes stand in the client's order, and no other write
pub record IsStormed (seed clients writes v : ℕ) (log : List (VbCall × VbReply)) : Type 0 where
  pub legal : Legal plain_step (storm_new v) log
  pub calls : AreStormCalls log
  pub owned : AllByRecursion (HasOwner clients) (stores log)
  pub order : (c : ℕ) → c < clients → filter (is_by c) (stores log) ≡ writes_of seed c writes v

-- a Store whose key is one of client c
abbrev pub is_call_by : ℕ → VbCall × VbReply → Bool
is_call_by c e = list_any (is_by c) (write_in e.0)

-- a legal history of a storm's calls, all of whose entries were gathered, each at its place; each client's part has all Stores of its keys, at rising places, and they are its writes
pub record GathersStorm (seed clients writes v : ℕ) (log : List (VbCall × VbReply)) (mine : List (ℕ × (VbCall × VbReply))) (part : ℕ → List (ℕ × (VbCall × VbReply))) : Type 0 where
  pub legal : Legal plain_step (storm_new v) log
  pub calls : AreStormCalls log
  pub owned : AllByRecursion (HasOwner clients) (stores log)
  pub stand : Stand log mine
  pub all : IsAll mine log
  pub only : (c : ℕ) → c < clients → OnlyIn (is_call_by c) mine (part c)
  pub rising : (c : ℕ) → c < clients → Rising 0 (part c)
  pub stands : (c : ℕ) → c < clients → Stand log (part c)
  pub own : (c : ℕ) → c < clients → stores (entries (part c)) ≡ writes_of seed c writes v
