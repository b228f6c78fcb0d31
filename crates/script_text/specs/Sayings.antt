-- how each verb is spelled
use Rattle.std.specs.Prelude.{◌≡◌, ℕ, ◌+◌, ◌%◌, ◌<◌, ◌⊎◌, Bool, true, false, List, [], ◌∷◌, ◌++◌, length, Option, Some, None, Ok, codes, decimal}
use Rattle.std.specs.List.{All, AllPass, flat_map}
use Rattle.hex.specs.Hex.{decode_of, is_hex_digit}
use Rattle.vb_disk.specs.declared.made.Outcome.{Outcome}
use Rattle.vb_disk.specs.declared.made.Outcome.TheVariants as outcome
use Rattle.script_text.specs.Fitting.{VerbFits}
use Rattle.script_text.specs.declared.verb.{Verb.{Verb}, VbVerb.{VbVerb}, NodeVerb.{NodeVerb}, LinkVerb.{LinkVerb}, ClientVerb.{ClientVerb}}
use Rattle.script_text.specs.declared.verb.Verb.TheVariants as verb
use Rattle.script_text.specs.declared.verb.VbVerb.TheVariants as vb_verb
use Rattle.script_text.specs.declared.verb.NodeVerb.TheVariants as node_verb
use Rattle.script_text.specs.declared.verb.LinkVerb.TheVariants as link_verb
use Rattle.script_text.specs.declared.verb.ClientVerb.TheVariants as client_verb

-- one text and then another
infixr 5 ◌⧺◌
abbrev pub ◌⧺◌ : List ℕ → List ℕ → List ℕ
a ⧺ b = a ++ b

-- a positive even number of hexadecimal digits of either case
abbrev pub IsHex : List ℕ → Type 0
IsHex text = (0 < length text) × (length text % 2 ≡ 0) × AllPass is_hex_digit text

-- hexadecimal digits of either case, at least one and two for each of these bytes
pub record IsHexOf (text bytes : List ℕ) : Type 0 where
  pub some : 0 < length text
  pub digits : decode_of text ≡ Ok bytes

-- what a crash leaves, in words: the old bytes, the new ones, or one byte everywhere
abbrev pub outcome_text : Outcome → List ℕ
outcome_text outcome.Old = codes "old"
outcome_text outcome.New = codes "new"
outcome_text (outcome.Fill byte) = codes "fill " ⧺ decimal byte

-- a member's word: the node's number, or a dash
abbrev pub member_text : Option ℕ → List ℕ
member_text None = codes "-"
member_text (Some m) = decimal m

-- the word that a line begins with which asks this of a node, and the words behind the node's number, each with a space in front
abbrev pub node_words : NodeVerb → List ℕ × List ℕ
node_words (node_verb.Clock nanos) = (codes "clock", codes " " ⧺ decimal nanos)
node_words (node_verb.Stop call out) = (codes "stop", codes " " ⧺ decimal call ⧺ codes " " ⧺ outcome_text out)
node_words (node_verb.Fail call) = (codes "fail", codes " " ⧺ decimal call)
node_words (node_verb.Crash out) = (codes "crash", codes " " ⧺ outcome_text out)
node_words (node_verb.Start uuids) = (codes "start", flat_map (λ uuid. codes " " ⧺ decimal uuid) uuids)

-- the word that a line begins with which asks this of a vBucket of a node
abbrev pub vb_word : VbVerb → List ℕ
vb_word (vb_verb.MakeActive uuid) = codes "vb"
vb_word vb_verb.MakeReplica = codes "vb"
vb_word (vb_verb.Chain others) = codes "chain"
vb_word (vb_verb.Promote uuid) = codes "promote"
vb_word vb_verb.Follow = codes "follow"
vb_word vb_verb.Dead = codes "dead"
vb_word vb_verb.Tick = codes "tick"
vb_word vb_verb.Seal = codes "seal"
vb_word vb_verb.Trim = codes "trim"
vb_word vb_verb.Take = codes "take"
vb_word vb_verb.Save = codes "save"
vb_word vb_verb.Done = codes "done"
vb_word vb_verb.Stat = codes "stat"
vb_word vb_verb.Log = codes "log"
vb_word vb_verb.Show = codes "show"

-- the words behind the numbers of the node and the vBucket, each with a space in front
abbrev pub vb_tail : VbVerb → List ℕ
vb_tail (vb_verb.MakeActive uuid) = codes " active " ⧺ decimal uuid
vb_tail vb_verb.MakeReplica = codes " replica"
vb_tail (vb_verb.Chain others) = flat_map (λ m. codes " " ⧺ member_text m) others
vb_tail (vb_verb.Promote uuid) = codes " " ⧺ decimal uuid
vb_tail other = []

-- the word that a line begins with which asks this of a client's connection
abbrev pub client_word : ClientVerb → List ℕ
client_word client_verb.Open = codes "client"
client_word (client_verb.Bytes bytes) = codes "bytes"
client_word (client_verb.Pull frames) = codes "pull"
client_word client_verb.Hang = codes "hang"

-- the text stands behind the numbers of the node and the connection: bytes have many spellings
abbrev pub ClientTail : List ℕ → ClientVerb → Type 0
ClientTail tail (client_verb.Bytes bytes) = (text : List ℕ) × IsHexOf text bytes × (tail ≡ codes " " ⧺ text)
ClientTail tail (client_verb.Pull frames) = tail ≡ codes " " ⧺ decimal frames
ClientTail tail other = tail ≡ []

-- the word that a line begins with which asks this of a link, and the words behind the link's number
abbrev pub link_words : LinkVerb → List ℕ × List ℕ
link_words (link_verb.Up bytes) = (codes "up", codes " " ⧺ decimal bytes)
link_words (link_verb.Down bytes) = (codes "down", codes " " ⧺ decimal bytes)
link_words (link_verb.Pump frames) = (codes "pump", codes " " ⧺ decimal frames)
link_words link_verb.Drop = (codes "drop", [])
link_words link_verb.Cut = (codes "cut", [])

-- the last word of a link's line, by whether it takes over
abbrev pub mode_word : Bool → List ℕ
mode_word false = codes "follow"
mode_word true = codes "takeover"

-- the line is the verb's words, with single spaces between
abbrev pub Spells : List ℕ → Verb → Type 0
Spells line (verb.Node n) = line ≡ codes "node " ⧺ decimal n
Spells line (verb.Link l m n v b takeover) =
    line ≡ codes "link " ⧺ decimal l ⧺ codes " " ⧺ decimal m ⧺ codes " " ⧺ decimal n ⧺ codes " " ⧺ decimal v ⧺ codes " " ⧺ decimal b ⧺ codes " " ⧺ mode_word takeover
Spells line (verb.AtNode n what) = line ≡ (node_words what).0 ⧺ codes " " ⧺ decimal n ⧺ (node_words what).1
Spells line (verb.AtVb n v what) = line ≡ vb_word what ⧺ codes " " ⧺ decimal n ⧺ codes " " ⧺ decimal v ⧺ vb_tail what
Spells line (verb.AtClient n c what) =
    (tail : List ℕ) × ClientTail tail what × (line ≡ client_word what ⧺ codes " " ⧺ decimal n ⧺ codes " " ⧺ decimal c ⧺ tail)
Spells line (verb.AtLink l what) = line ≡ (link_words what).0 ⧺ codes " " ⧺ decimal l ⧺ (link_words what).1

-- The line is the verb's spelling, with numbers within the grammar's limits.
abbrev pub Says : List ℕ → Verb → Type 0
Says line v = VerbFits v × Spells line v

-- the line is empty, or begins with a semicolon
abbrev pub IsBlank : List ℕ → Type 0
IsBlank line = (line ≡ []) ⊎ ((comment : List ℕ) × (line ≡ 59 ∷ comment))

-- the line is neither blank nor the spelling of a verb
abbrev pub IsOutside : List ℕ → Type 0
IsOutside line = ¬ IsBlank line × ((verb : Verb) → ¬ Says line verb)

-- the line of this number, from 1, is outside the grammar, and none before it is
pub record StandsFirstBad (lines : List (List ℕ)) (number : ℕ) : Type 0 where
  pub front : List (List ℕ)
  pub bad : List ℕ
  pub rest : List (List ℕ)
  pub stands : lines ≡ front ++ bad ∷ rest
  pub number_is : number ≡ length front + 1
  pub outside : IsOutside bad
  pub before : All (λ line. ¬ IsOutside line) front
