-- what holds of a storm
use Rattle.std.specs.Prelude.{◌≡◌, ℕ, ◌*◌, ◌<◌, ◌≤◌, List, length, map}
use Rattle.std.specs.List.{filter, range_with_len, sum_by, AllByRecursion}
use Rattle.std.specs.Str.{bytes_eq}
use Rattle.std.specs.FinMap as finite
use Rattle.vb_types.specs.declared.position.TheConstants.{MAX_SEQ}
use Rattle.vb_types.specs.declared.write.Write.{Write}
use Rattle.vb_calls.specs.State.{Plain, image_in}
use Rattle.vb_calls.specs.Plain.{plain_step}
use Rattle.vb_calls.specs.declared.calls.VbCall.{VbCall}
use Rattle.vb_calls.specs.declared.calls.VbReply.{VbReply}
use Rattle.vb_turn.specs.History.{after, Legal}
use Rattle.storm_model.specs.Histories.{AreStores, AreStormCalls, HasOwner, IsPut, IsStormed, is_by, owner, put_in, stores, told_seqs}
use Rattle.storm_model.specs.Ledgers.{ledger}
use Rattle.storm_model.specs.Sums.{contents, in_turn, line_of, opened, storm_new, storm_sum, storm_vb, value_sum}
use Rattle.storm_model.specs.Writes.{client_name, writes_of}

-- the vBucket v behind a history
abbrev pub behind : ℕ → List (VbCall × VbReply) → Plain
behind v log = after plain_step (storm_new v) log

-- a legal history of a storm's calls at vBucket v, all of whose writes put, and not more than there are seqnos
pub record IsStorming (v : ℕ) (log : List (VbCall × VbReply)) : Type 0 where
  pub legal : Legal plain_step (storm_new v) log
  pub calls : AreStormCalls log
  pub puts : AllByRecursion IsPut (stores log)
  pub room : length (stores log) ≤ MAX_SEQ

-- Every Store is made: they have the seqnos from 1 on, in turn. The last seqno is their number, and what is shown is the last value at each key, in the order of the keys
pub record StoresStand : Type 0 where
  pub made : (v : ℕ) (log : List (VbCall × VbReply)) → IsStorming v log → told_seqs log ≡ range_with_len 1 (length (stores log))
  pub high : (v : ℕ) (log : List (VbCall × VbReply)) → IsStorming v log → (behind v log).position.at ≡ length (stores log)
  pub shown : (v : ℕ) (log : List (VbCall × VbReply)) → IsStorming v log → contents (image_in (behind v log)) ≡ finite.entries (ledger (map put_in (stores log)))

-- Any two histories of a vBucket in which each client's writes stand in the client's order leave the same keys and values, as many changes, and so the same sum; and each of their Stores is made
pub record OrdersAgree (seed clients writes v : ℕ) : Type 0 where
  pub shown : (log other : List (VbCall × VbReply)) → IsStormed seed clients writes v log → IsStormed seed clients writes v other
      → contents (image_in (behind v log)) ≡ contents (image_in (behind v other))
  pub high : (log other : List (VbCall × VbReply)) → IsStormed seed clients writes v log → IsStormed seed clients writes v other
      → (behind v log).position.at ≡ (behind v other).position.at
  pub made : (log : List (VbCall × VbReply)) → IsStormed seed clients writes v log → told_seqs log ≡ range_with_len 1 (length (stores log))

-- and what they leave is what the clients' writes leave one client after the other
pub record AsInTurn (seed clients writes v : ℕ) (log : List (VbCall × VbReply)) : Type 0 where
  pub shown : contents (image_in (behind v log)) ≡ contents (image_in (storm_vb v (in_turn seed clients writes v)))
  pub high : (behind v log).position.at ≡ (storm_vb v (in_turn seed clients writes v)).position.at
  pub line_high : (behind v log).position.at ≡ (line_of (storm_vb v (in_turn seed clients writes v))).high
  pub line_docs : length (contents (image_in (behind v log))) ≡ (line_of (storm_vb v (in_turn seed clients writes v))).docs
  pub line_sum : value_sum (contents (image_in (behind v log))) ≡ (line_of (storm_vb v (in_turn seed clients writes v))).sum

-- the documents of vBucket v whose keys are client c's
abbrev pub docs_by : ℕ → ℕ → ℕ → ℕ → ℕ → List (List ℕ × List ℕ)
docs_by seed clients writes v c = filter (λ d. bytes_eq (owner d.0) (client_name c)) (contents (image_in (storm_vb v (in_turn seed clients writes v))))

-- There are four lines, whose last seqnos add up to the number of writes. A vBucket has at most 100 documents of each client
pub record LinesAddUp (seed clients writes : ℕ) : Type 0 where
  pub four : length (storm_sum seed clients writes) ≡ 4
  pub highs : sum_by (λ line. line.high) (storm_sum seed clients writes) ≡ clients * writes
  pub docs_of_one : (v c : ℕ) → v < 4 → c < clients → length (docs_by seed clients writes v c) ≤ 100
  pub docs : AllByRecursion (λ line. line.docs ≤ 100 * clients) (storm_sum seed clients writes)

-- All is saved, and both readers have read all
pub record AllIsRead (seed clients writes : ℕ) : Type 0 where
  pub saved : AllByRecursion (λ line. line.saved ≡ line.high) (storm_sum seed clients writes)
  pub first : AllByRecursion (λ line. line.read_first ≡ line.sum) (storm_sum seed clients writes)
  pub second : AllByRecursion (λ line. line.read_second ≡ line.sum) (storm_sum seed clients writes)

-- The line of a vBucket to which the clients' writes were made in any order that keeps each client's is that of the clients one after the other
abbrev pub SameLine : ℕ → ℕ → ℕ → ℕ → Type 0
SameLine seed clients writes v =
    (ws : List Write) → AllByRecursion (HasOwner clients) ws → ((c : ℕ) → c < clients → filter (is_by c) ws ≡ writes_of seed c writes v)
    → line_of (storm_vb v ws) ≡ line_of (storm_vb v (in_turn seed clients writes v))

-- A history that makes Stores at clock 0 alone ends where these writes do
abbrev pub StoresAlone : Type 0
StoresAlone = (v : ℕ) (log : List (VbCall × VbReply)) → AreStores log → after plain_step (opened (storm_new v)) log ≡ storm_vb v (stores log)
