-- the words of the command line
use Rattle.std.specs.Prelude.{◌≡◌, ◌≢◌, ℕ, ◌&&◌, if◌then◌else◌, nat_le, List, [], ◌∷◌, Bool, false, codes, Option, Some, None, Result, Ok, Err, Vec, String}
use Rattle.std.specs.Str.{bytes_eq}
use Rattle.std.specs.Global.{Global}
use Rattle.std.specs.IoError.{error_kind}
use Rattle.std.specs.declared.io.Error.{Error}
use Rattle.std.specs.declared.io.ErrorKind.TheVariants as kind
use Rattle.script_text.specs.Numbers.{number_of}
use Rattle.storm_model.specs.Limits.{is_storm}
use Rattle.dcp_main.specs.declared.words.TheConstants.{MAX_COUNT}
use Rattle.dcp_io.specs.declared.status.Status.{Status}
use Rattle.dcp_io.specs.declared.status.Status.TheVariants as status

-- the words are the one word `run`
abbrev pub says_run : List (List ℕ) → Bool
says_run [] = false
says_run (word ∷ []) = bytes_eq word (codes "run")
says_run (word ∷ next ∷ words) = false

-- how many writes a number asks for, if there may be so many
abbrev pub if_count : Option ℕ → Option ℕ
if_count None = None
if_count (Some n) = if nat_le 1 n && nat_le n MAX_COUNT then Some n else None

-- a seed and a count, where both are there
abbrev pub both_said : Option ℕ → Option ℕ → Option (ℕ × ℕ)
both_said None count = None
both_said (Some seed) None = None
both_said (Some seed) (Some count) = Some (seed, count)

-- the words are `gen` with a seed and a count behind it: the script of these is to be run
abbrev pub gen_words : List (List ℕ) → Option (ℕ × ℕ)
gen_words [] = None
gen_words (word ∷ []) = None
gen_words (word ∷ seed ∷ []) = None
gen_words (word ∷ seed ∷ count ∷ []) = if bytes_eq word (codes "gen") then both_said (number_of seed) (if_count (number_of count)) else None
gen_words (word ∷ seed ∷ count ∷ next ∷ words) = None

-- the first word is `storm`
abbrev pub starts_storm : List (List ℕ) → Bool
starts_storm [] = false
starts_storm (word ∷ words) = bytes_eq word (codes "storm")

-- a seed, how many clients there are and how many writes each makes, where all three are there and a storm may have so many
abbrev pub if_storm : Option ℕ → Option ℕ → Option ℕ → Option (ℕ × (ℕ × ℕ))
if_storm None clients writes = None
if_storm (Some seed) None writes = None
if_storm (Some seed) (Some clients) None = None
if_storm (Some seed) (Some clients) (Some writes) = if is_storm clients writes then Some (seed, (clients, writes)) else None

-- the words are `storm` with these three behind it: that storm is to be run
abbrev pub storm_words : List (List ℕ) → Option (ℕ × (ℕ × ℕ))
storm_words [] = None
storm_words (word ∷ []) = None
storm_words (word ∷ seed ∷ []) = None
storm_words (word ∷ seed ∷ clients ∷ []) = None
storm_words (word ∷ seed ∷ clients ∷ writes ∷ []) =
    if bytes_eq word (codes "storm") then if_storm (number_of seed) (number_of clients) (number_of writes) else None
storm_words (word ∷ seed ∷ clients ∷ writes ∷ next ∷ words) = None

-- the words to go by, or how the process ends
abbrev pub Answered : Type 0
Answered = Result (Vec (String Global) Global) Status

-- the words to go by, once they were fetched or not: want of memory ends the process as such, and any other error,
-- as of a word that is no text, leaves no words
abbrev pub AcceptedWords : Result (Vec (String Global) Global) Error → Answered → Type 0
AcceptedWords (Ok words) answer = answer ≡ Ok words
AcceptedWords (Err fault) (Ok words) = (error_kind fault ≢ kind.OutOfMemory) × (words.items ≡ [])
AcceptedWords (Err fault) (Err stop) = (error_kind fault ≡ kind.OutOfMemory) × (stop ≡ status.NoMemory)
