-- storms in numbers
use Rattle.std.specs.Prelude.{◌≡◌, ℕ, ◌^◌, ◌-◌, true, false, List, [], ◌∷◌, codes}
use Rattle.storm_model.specs.declared.limits.TheConstants.{MAX_CLIENTS, MAX_WRITES}
use Rattle.storm_model.specs.declared.writes.Aimed.{Aimed}
use Rattle.storm_model.specs.Histories.{owner}
use Rattle.storm_model.specs.Limits.{is_storm}
use Rattle.storm_model.specs.Sums.{number_of}
use Rattle.storm_model.specs.Texts.{storm_text}
use Rattle.storm_model.specs.Writes.{all_writes, client_key, set_of, vb_of_word, word_at, writes_of}

-- this value for a key in a vBucket
abbrev pub put : ℕ → List ℕ → List ℕ → Aimed
put v key value = record { vb = v; write = set_of key value }

-- the words of client 0 and of client 1, at the start and at the first writes; a word has 64 bits, from its first one on
pub record WordsInNumbers : Type 0 where
  pub start : (word_at 7 0 0 ≡ 7) × (word_at 7 1 0 ≡ 8)
  pub wraps : (word_at (2 ^ 64 - 1) 0 0 ≡ 2 ^ 64 - 1) × (word_at (2 ^ 64 - 1) 1 0 ≡ 0)
  pub first : (word_at 0 0 1 ≡ 1442695040888963407) × (word_at 0 0 1 ≡ 0x14057b7ef767814f)
  pub more : (word_at 7 0 1 ≡ 9098160460397411210) × (word_at 7 0 2 ≡ 17628806926561717905) × (word_at 7 0 3 ≡ 16723372171710603212)
  pub vbs : (vb_of_word (2 ^ 33 - 1) ≡ 0) × (vb_of_word (2 ^ 33) ≡ 1) × (vb_of_word (2 ^ 35 - 1) ≡ 3) × (vb_of_word (2 ^ 35) ≡ 0)

-- the first writes of some clients: a key of a client, the number of the write, and its vBucket
pub record WritesInNumbers : Type 0 where
  pub one : all_writes 0 0 1 ≡ put 3 (codes "c0k23") (codes "1") ∷ []
  pub three : all_writes 7 0 3 ≡ put 2 (codes "c0k28") (codes "1") ∷ put 3 (codes "c0k6") (codes "2") ∷ put 1 (codes "c0k18") (codes "3") ∷ []
  pub other : all_writes 7 1 3 ≡ put 0 (codes "c1k76") (codes "1") ∷ put 0 (codes "c1k7") (codes "2") ∷ put 0 (codes "c1k43") (codes "3") ∷ []
  pub of_one : (writes_of 7 0 3 3 ≡ set_of (codes "c0k6") (codes "2") ∷ []) × (writes_of 7 0 3 0 ≡ [])
  pub none : all_writes 7 0 0 ≡ []
  pub last_key : (client_key 63 99 ≡ codes "c63k99") × (owner (codes "c63k99") ≡ codes "c63")

-- the text of one write, and what six writes of two clients and two writes of one key leave
pub record StormsInNumbers : Type 0 where
  pub one : storm_text 0 1 1 ≡ codes "vb 0 high 0 docs 0 sum 0 saved 0 read 0 0\nvb 1 high 0 docs 0 sum 0 saved 0 read 0 0\nvb 2 high 0 docs 0 sum 0 saved 0 read 0 0\nvb 3 high 1 docs 1 sum 1 saved 1 read 1 1\n"
  pub six : storm_text 7 2 3 ≡ codes "vb 0 high 3 docs 3 sum 6 saved 3 read 6 6\nvb 1 high 1 docs 1 sum 3 saved 1 read 3 3\nvb 2 high 1 docs 1 sum 1 saved 1 read 1 1\nvb 3 high 1 docs 1 sum 2 saved 1 read 2 2\n"
  pub again : storm_text 338 1 2 ≡ codes "vb 0 high 0 docs 0 sum 0 saved 0 read 0 0\nvb 1 high 0 docs 0 sum 0 saved 0 read 0 0\nvb 2 high 0 docs 0 sum 0 saved 0 read 0 0\nvb 3 high 2 docs 1 sum 2 saved 2 read 2 2\n"
  pub digits : (number_of (codes "1000000") ≡ 1000000) × (number_of (codes "0") ≡ 0) × (number_of [] ≡ 0)

-- 1 to 64 clients, at least one write each, and at most 1,000,000 of all
pub record LimitsInNumbers : Type 0 where
  pub limits : (MAX_CLIENTS ≡ 64) × (MAX_WRITES ≡ 1000000)
  pub least : (is_storm 1 1 ≡ true) × (is_storm 0 1 ≡ false) × (is_storm 1 0 ≡ false) × (is_storm 0 0 ≡ false)
  pub clients : (is_storm 64 1 ≡ true) × (is_storm 65 1 ≡ false) × (is_storm (2 ^ 64 - 1) 1 ≡ false)
  pub writes : (is_storm 1 1000000 ≡ true) × (is_storm 1 1000001 ≡ false) × (is_storm 1 (2 ^ 64 - 1) ≡ false)
  pub all : (is_storm 64 15625 ≡ true) × (is_storm 64 15626 ≡ false) × (is_storm 2 500000 ≡ true) × (is_storm 2 500001 ≡ false)
